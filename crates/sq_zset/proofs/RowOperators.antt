-- The laws of linear extensions and of operators on Z-sets, for rows.
use Rattle.std.proofs.Common.{◌≡◌, ◌*ℤ◌, ◌==◌, ◌&&◌, ◌⊎◌, ◌∷◌, [], List, map, Bool, true, false, cond, not, pos}
use Rattle.std.specs.List.{filter, flat_map}
use Rattle.sq_value.specs.declared.value.Value.{Value}
use Rattle.sq_value.specs.Order.{row_cmp}
use Rattle.sq_value.specs.OrderLaws.{row_cmp-total, row_cmp-antisymmetric}
use Rattle.sq_algebra.specs.Listed.{count, first_of_each, among, without}
use Rattle.sq_algebra.specs.ZSet.{ZSet, zero, single, of_list, weight, total, plus, negate, minus}
use Rattle.sq_algebra.specs.Groups.{AbelianGroup, IsAbelian, IsAdditive, integers, z_sets, times, sum_over, minus as minus_in}
use Rattle.sq_algebra.specs.Operators.{lin, keep, distinct, image, product, meet}
use Rattle.sq_algebra.proofs.ListLemmas.{sign_up}
use Rattle.sq_algebra.proofs.CompositionLemmas as composed
use Rattle.sq_algebra.proofs.LinearLemmas as linear
use Rattle.sq_algebra.proofs.ListLemmas as listed
use Rattle.sq_algebra.proofs.OperatorLemmas as operators

-- ---- linear extensions
pub lin-zero : {A : Type 0} (G : AbelianGroup A) (laws : IsAbelian G) (h : List Value → A) → lin G h (zero row_cmp) ≡ G.zero
lin-zero = linear.lin-zero row_cmp row_cmp-total row_cmp-antisymmetric

pub lin-single : {A : Type 0} (G : AbelianGroup A) (laws : IsAbelian G) (h : List Value → A) (k : List Value) → lin G h (single row_cmp k) ≡ h k
lin-single = linear.lin-single row_cmp row_cmp-total row_cmp-antisymmetric

pub lin-plus : {A : Type 0} (G : AbelianGroup A) (laws : IsAbelian G) (h : List Value → A) (y z : ZSet (List Value) row_cmp) → lin G h (plus y z) ≡ G.plus (lin G h y) (lin G h z)
lin-plus = linear.lin-plus row_cmp row_cmp-total row_cmp-antisymmetric

-- the linear extension of any function is additive
pub lin-IsAdditive : {A : Type 0} (G : AbelianGroup A) (laws : IsAbelian G) (h : List Value → A) → IsAdditive (z_sets row_cmp) G (lin G h)
lin-IsAdditive = linear.lin-IsAdditive row_cmp row_cmp-total row_cmp-antisymmetric

pub lin-negate : {A : Type 0} (G : AbelianGroup A) (laws : IsAbelian G) (h : List Value → A) (z : ZSet (List Value) row_cmp) → lin G h (negate z) ≡ G.negate (lin G h z)
lin-negate = linear.lin-negate row_cmp row_cmp-total row_cmp-antisymmetric

pub lin-minus : {A : Type 0} (G : AbelianGroup A) (laws : IsAbelian G) (h : List Value → A) (y z : ZSet (List Value) row_cmp) → lin G h (minus y z) ≡ minus_in G (lin G h y) (lin G h z)
lin-minus = linear.lin-minus row_cmp row_cmp-total row_cmp-antisymmetric

-- over the Z-set of a list it is the sum over the list
pub lin-of_list : {A : Type 0} (G : AbelianGroup A) (laws : IsAbelian G) (h : List Value → A) (xs : List (List Value)) → lin G h (of_list row_cmp xs) ≡ sum_over G h xs
lin-of_list = linear.lin-of_list row_cmp row_cmp-total row_cmp-antisymmetric

-- functions that agree have the same linear extension
pub lin_agree : {A : Type 0} (G : AbelianGroup A) (laws : IsAbelian G) (g h : List Value → A) → ((k : List Value) → g k ≡ h k) → (z : ZSet (List Value) row_cmp) → lin G g z ≡ lin G h z
lin_agree = linear.lin_agree row_cmp row_cmp-total row_cmp-antisymmetric

pub lin_of_zero : {A : Type 0} (G : AbelianGroup A) (laws : IsAbelian G) (z : ZSet (List Value) row_cmp) → lin G (λ _. G.zero) z ≡ G.zero
lin_of_zero = linear.lin_of_zero row_cmp row_cmp-total row_cmp-antisymmetric

pub lin_of_plus : {A : Type 0} (G : AbelianGroup A) (laws : IsAbelian G) (g h : List Value → A) (z : ZSet (List Value) row_cmp) → lin G (λ k. G.plus (g k) (h k)) z ≡ G.plus (lin G g z) (lin G h z)
lin_of_plus = linear.lin_of_plus row_cmp row_cmp-total row_cmp-antisymmetric

-- an additive map goes inside
pub lin_inside : {A : Type 0} (G : AbelianGroup A) (laws : IsAbelian G) {B : Type 0} (H : AbelianGroup B) (others : IsAbelian H) (f : A → B) → IsAdditive G H f → (h : List Value → A) (z : ZSet (List Value) row_cmp) → f (lin G h z) ≡ lin H (λ k. f (h k)) z
lin_inside = linear.lin_inside row_cmp row_cmp-total row_cmp-antisymmetric

pub weight-IsAdditive : (k : List Value) → IsAdditive (z_sets row_cmp) integers (weight k)
weight-IsAdditive = linear.weight-IsAdditive row_cmp row_cmp-total

pub total-IsAdditive : IsAdditive (z_sets row_cmp) integers total
total-IsAdditive = linear.total-IsAdditive row_cmp row_cmp-total

-- a Z-set is the linear extension of its single keys
pub lin_of_singles : (z : ZSet (List Value) row_cmp) → lin (z_sets row_cmp) (single row_cmp) z ≡ z
lin_of_singles = linear.lin_of_singles row_cmp row_cmp-total row_cmp-antisymmetric

-- Z-sets with the same multiples have the same linear extension
pub lin_same : {A : Type 0} (G : AbelianGroup A) (laws : IsAbelian G) (h : List Value → A) (y z : ZSet (List Value) row_cmp) → ((k : List Value) → times G (weight k y) (h k) ≡ times G (weight k z) (h k)) → lin G h y ≡ lin G h z
lin_same = linear.lin_same row_cmp row_cmp-total row_cmp-antisymmetric

-- an additive map is the linear extension of what it gives for single keys
pub additive_is_lin : {A : Type 0} (G : AbelianGroup A) (laws : IsAbelian G) (f : ZSet (List Value) row_cmp → A) → IsAdditive (z_sets row_cmp) G f → (z : ZSet (List Value) row_cmp) → f z ≡ lin G (λ k. f (single row_cmp k)) z
additive_is_lin = linear.additive_is_lin row_cmp row_cmp-total row_cmp-antisymmetric

-- ---- images, products and tests
pub image-IsAdditive : (f : List Value → List (List Value)) → IsAdditive (z_sets row_cmp) (z_sets row_cmp) (image row_cmp f)
image-IsAdditive = operators.image-IsAdditive row_cmp row_cmp-total row_cmp-antisymmetric row_cmp row_cmp-total row_cmp-antisymmetric

pub image-zero : (f : List Value → List (List Value)) → image row_cmp f (zero row_cmp) ≡ zero row_cmp
image-zero = operators.image-zero row_cmp row_cmp-total row_cmp-antisymmetric row_cmp row_cmp-total row_cmp-antisymmetric

pub image-single : (f : List Value → List (List Value)) (k : List Value) → image row_cmp f (single row_cmp k) ≡ of_list row_cmp (f k)
image-single = operators.image-single row_cmp row_cmp-total row_cmp-antisymmetric row_cmp row_cmp-total row_cmp-antisymmetric

-- the image of a list's Z-set is the Z-set of the list's images
pub image-of_list : (f : List Value → List (List Value)) (xs : List (List Value)) → image row_cmp f (of_list row_cmp xs) ≡ of_list row_cmp (flat_map f xs)
image-of_list = operators.image-of_list row_cmp row_cmp-total row_cmp-antisymmetric row_cmp row_cmp-total row_cmp-antisymmetric

pub lin-image : (f : List Value → List (List Value)) {A : Type 0} (G : AbelianGroup A) (laws : IsAbelian G) (h : List Value → A) (z : ZSet (List Value) row_cmp) → lin G h (image row_cmp f z) ≡ lin G (λ k. sum_over G h (f k)) z
lin-image = operators.lin-image row_cmp row_cmp-total row_cmp-antisymmetric row_cmp row_cmp-total row_cmp-antisymmetric

-- a key that is replaced by one other
pub image-of_list-map : (g : List Value → List Value) (xs : List (List Value)) → image row_cmp (λ k. g k ∷ []) (of_list row_cmp xs) ≡ of_list row_cmp (map g xs)
image-of_list-map = operators.image-of_list-map row_cmp row_cmp-total row_cmp-antisymmetric row_cmp row_cmp-total row_cmp-antisymmetric

pub product-left : (f : List Value → List Value → List (List Value)) (z : ZSet (List Value) row_cmp) → IsAdditive (z_sets row_cmp) (z_sets row_cmp) (λ y. product row_cmp f y z)
product-left = operators.product-left row_cmp row_cmp-total row_cmp-antisymmetric row_cmp row_cmp-total row_cmp-antisymmetric row_cmp row_cmp-total row_cmp-antisymmetric

pub product-right : (f : List Value → List Value → List (List Value)) (y : ZSet (List Value) row_cmp) → IsAdditive (z_sets row_cmp) (z_sets row_cmp) (product row_cmp f y)
product-right = operators.product-right row_cmp row_cmp-total row_cmp-antisymmetric row_cmp row_cmp-total row_cmp-antisymmetric row_cmp row_cmp-total row_cmp-antisymmetric

pub product-zero_left : (f : List Value → List Value → List (List Value)) (z : ZSet (List Value) row_cmp) → product row_cmp f (zero row_cmp) z ≡ zero row_cmp
product-zero_left = operators.product-zero_left row_cmp row_cmp-total row_cmp-antisymmetric row_cmp row_cmp-total row_cmp-antisymmetric row_cmp row_cmp-total row_cmp-antisymmetric

pub product-zero_right : (f : List Value → List Value → List (List Value)) (y : ZSet (List Value) row_cmp) → product row_cmp f y (zero row_cmp) ≡ zero row_cmp
product-zero_right = operators.product-zero_right row_cmp row_cmp-total row_cmp-antisymmetric row_cmp row_cmp-total row_cmp-antisymmetric row_cmp row_cmp-total row_cmp-antisymmetric

-- the product of the Z-sets of two lists is the Z-set of nested loops over them
pub product-of_list : (f : List Value → List Value → List (List Value)) (xs : List (List Value)) (ys : List (List Value)) → product row_cmp f (of_list row_cmp xs) (of_list row_cmp ys) ≡ of_list row_cmp (flat_map (λ x. flat_map (f x) ys) xs)
product-of_list = operators.product-of_list row_cmp row_cmp-total row_cmp-antisymmetric row_cmp row_cmp-total row_cmp-antisymmetric row_cmp row_cmp-total row_cmp-antisymmetric

-- the change of a product by the changes of its sides
pub product-change : (f : List Value → List Value → List (List Value)) (y dy : ZSet (List Value) row_cmp) (z dz : ZSet (List Value) row_cmp) → minus (product row_cmp f (plus y dy) (plus z dz)) (product row_cmp f y z) ≡ plus (plus (product row_cmp f y dz) (product row_cmp f dy z)) (product row_cmp f dy dz)
product-change = operators.product-change row_cmp row_cmp-total row_cmp-antisymmetric row_cmp row_cmp-total row_cmp-antisymmetric row_cmp row_cmp-total row_cmp-antisymmetric

pub keep-IsAdditive : (p : List Value → Bool) → IsAdditive (z_sets row_cmp) (z_sets row_cmp) (keep p)
keep-IsAdditive = operators.keep-IsAdditive row_cmp row_cmp-total row_cmp-antisymmetric

pub keep-zero : (p : List Value → Bool) → keep p (zero row_cmp) ≡ zero row_cmp
keep-zero = operators.keep-zero row_cmp row_cmp-total row_cmp-antisymmetric

-- a key that passes has the weight that it had, and another none
pub weight-keep : (p : List Value → Bool) (k : List Value) (z : ZSet (List Value) row_cmp) → weight k (keep p z) ≡ cond (p k) (weight k z) (pos 0)
weight-keep = operators.weight-keep row_cmp row_cmp-total row_cmp-antisymmetric

pub keep_agree : (p q : List Value → Bool) → ((k : List Value) → p k ≡ q k) → (z : ZSet (List Value) row_cmp) → keep p z ≡ keep q z
keep_agree = operators.keep_agree row_cmp row_cmp-total row_cmp-antisymmetric

pub keep-keep : (p q : List Value → Bool) (z : ZSet (List Value) row_cmp) → keep p (keep q z) ≡ keep (λ k. p k && q k) z
keep-keep = operators.keep-keep row_cmp row_cmp-total row_cmp-antisymmetric

pub keep_all : (z : ZSet (List Value) row_cmp) → keep (λ _. true) z ≡ z
keep_all = operators.keep_all row_cmp row_cmp-total row_cmp-antisymmetric

pub keep_none : (z : ZSet (List Value) row_cmp) → keep (λ _. false) z ≡ zero row_cmp
keep_none = operators.keep_none row_cmp row_cmp-total row_cmp-antisymmetric

-- what passes and what does not add up to the whole
pub keep_parts : (p : List Value → Bool) (z : ZSet (List Value) row_cmp) → plus (keep p z) (keep (λ k. not (p k)) z) ≡ z
keep_parts = operators.keep_parts row_cmp row_cmp-total row_cmp-antisymmetric

pub keep-of_list : (p : List Value → Bool) (xs : List (List Value)) → keep p (of_list row_cmp xs) ≡ of_list row_cmp (filter p xs)
keep-of_list = operators.keep-of_list row_cmp row_cmp-total row_cmp-antisymmetric

pub lin-keep : {A : Type 0} (G : AbelianGroup A) (laws : IsAbelian G) (h : List Value → A) (p : List Value → Bool) (z : ZSet (List Value) row_cmp) → lin G h (keep p z) ≡ lin G (λ k. cond (p k) (h k) G.zero) z
lin-keep = operators.lin-keep row_cmp row_cmp-total row_cmp-antisymmetric

-- ---- one operator after another, and the rows of both
pub image_agree : (f g : List Value → List (List Value)) → ((k : List Value) → f k ≡ g k) → (z : ZSet (List Value) row_cmp) → image row_cmp f z ≡ image row_cmp g z
image_agree = composed.image_agree row_cmp row_cmp-total row_cmp-antisymmetric row_cmp row_cmp-total row_cmp-antisymmetric

pub image-keep : (f : List Value → List (List Value)) (p : List Value → Bool) (z : ZSet (List Value) row_cmp) → image row_cmp f (keep p z) ≡ image row_cmp (λ k. cond (p k) (f k) []) z
image-keep = composed.image-keep row_cmp row_cmp-total row_cmp-antisymmetric row_cmp row_cmp-total row_cmp-antisymmetric

pub keep-image : (p : List Value → Bool) (f : List Value → List (List Value)) (z : ZSet (List Value) row_cmp) → keep p (image row_cmp f z) ≡ image row_cmp (λ k. filter p (f k)) z
keep-image = composed.keep-image row_cmp row_cmp-total row_cmp-antisymmetric row_cmp row_cmp-total row_cmp-antisymmetric

pub image-image : (g : List Value → List (List Value)) (f : List Value → List (List Value)) (z : ZSet (List Value) row_cmp) → image row_cmp g (image row_cmp f z) ≡ image row_cmp (λ k. flat_map g (f k)) z
image-image = composed.image-image row_cmp row_cmp-total row_cmp-antisymmetric row_cmp row_cmp-total row_cmp-antisymmetric row_cmp row_cmp-total row_cmp-antisymmetric

pub product_agree : (f g : List Value → List Value → List (List Value)) → ((j : List Value) (k : List Value) → f j k ≡ g j k) → (y : ZSet (List Value) row_cmp) (z : ZSet (List Value) row_cmp) → product row_cmp f y z ≡ product row_cmp g y z
product_agree = composed.product_agree row_cmp row_cmp-total row_cmp-antisymmetric row_cmp row_cmp-total row_cmp-antisymmetric row_cmp row_cmp-total row_cmp-antisymmetric

pub weight-meet : (k : List Value) (y z : ZSet (List Value) row_cmp) → weight k (meet y z) ≡ weight k y *ℤ weight k z
weight-meet = composed.weight-meet row_cmp row_cmp-total row_cmp-antisymmetric

-- the members that another list has, and those that it has not
pub of_list-among : (xs ys : List (List Value)) → of_list row_cmp (among row_cmp xs ys) ≡ meet (of_list row_cmp xs) (distinct (of_list row_cmp ys))
of_list-among = composed.of_list-among row_cmp row_cmp-total row_cmp-antisymmetric

pub of_list-without : (xs ys : List (List Value)) → of_list row_cmp (without row_cmp xs ys) ≡ minus (of_list row_cmp xs) (meet (of_list row_cmp xs) (distinct (of_list row_cmp ys)))
of_list-without = composed.of_list-without row_cmp row_cmp-total row_cmp-antisymmetric

pub total-keep : (p : List Value → Bool) (z : ZSet (List Value) row_cmp) → total (keep p z) ≡ lin integers (λ k. cond (p k) (pos 1) (pos 0)) z
total-keep = composed.total-keep row_cmp row_cmp-total row_cmp-antisymmetric

-- ---- lists, and distinct
-- each key of a list stands once in the list of its first appearances, and no other key does
pub count-first_of_each : (k : List Value) (xs : List (List Value)) → count row_cmp k (first_of_each row_cmp xs) ≡ cond (count row_cmp k xs == 0) 0 1
count-first_of_each = listed.count-first_of_each row_cmp row_cmp-total

-- a key stands among the members that another list has too as often as before, or not at all, and so without them
pub count-among : (k : List Value) (xs ys : List (List Value)) → count row_cmp k (among row_cmp xs ys) ≡ cond (count row_cmp k ys == 0) 0 (count row_cmp k xs)
count-among = listed.count-among row_cmp row_cmp-total

pub count-without : (k : List Value) (xs ys : List (List Value)) → count row_cmp k (without row_cmp xs ys) ≡ cond (count row_cmp k ys == 0) (count row_cmp k xs) 0
count-without = listed.count-without row_cmp row_cmp-total

pub weight-distinct : (k : List Value) (z : ZSet (List Value) row_cmp) → weight k (distinct z) ≡ sign_up (weight k z)
weight-distinct = listed.weight-distinct row_cmp row_cmp-total

pub distinct-zero : distinct (zero row_cmp) ≡ zero row_cmp
distinct-zero = listed.distinct-zero row_cmp row_cmp-total row_cmp-antisymmetric

-- where each weight is 0 or 1, nothing changes
pub distinct_same : (z : ZSet (List Value) row_cmp) → ((k : List Value) → (weight k z ≡ pos 0) ⊎ (weight k z ≡ pos 1)) → distinct z ≡ z
distinct_same = listed.distinct_same row_cmp row_cmp-total row_cmp-antisymmetric

pub distinct-distinct : (z : ZSet (List Value) row_cmp) → distinct (distinct z) ≡ distinct z
distinct-distinct = listed.distinct-distinct row_cmp row_cmp-total row_cmp-antisymmetric

pub distinct-keep : (p : List Value → Bool) (z : ZSet (List Value) row_cmp) → distinct (keep p z) ≡ keep p (distinct z)
distinct-keep = listed.distinct-keep row_cmp row_cmp-total row_cmp-antisymmetric

-- a list without repeats is the distinct Z-set of the list
pub distinct-of_list : (xs : List (List Value)) → distinct (of_list row_cmp xs) ≡ of_list row_cmp (first_of_each row_cmp xs)
distinct-of_list = listed.distinct-of_list row_cmp row_cmp-total row_cmp-antisymmetric
