-- Operators on Z-sets, written out over their entries.
--     lin G h z           the sum in G, over the keys of z, of the multiples by the weights of what h gives for the keys
--     keep p z            the keys that pass p.               distinct z      the keys with a weight above 0, each with the weight 1
--     image U f z         each key replaced by the list of its images under f
--     product U f y z     for each pair of a key of y and a key of z the list of its images under f, with the product of the weights
--     IsNonNegative z     no key has a weight below 0.             repeated z      each key as often as its weight says
--     meet y z            the keys of both, with the product of their weights
--     excluding y z       the keys of y that z has not, with a weight above 0
--     presence n          1 if n is above 0, and otherwise 0
--     join U Q left right pair y z       the product of the pairs to which left and right give the same key
--     cross_terms f y dy z dz            what a product of sums has more than the product of y and z
--     double_sum G g y z, pair_sum G h f     the linear extension of a function on pairs, and what h gives for the images of a pair, added up
--     pairs_where Q left right pair      images for a product: what pair gives for two keys to which left and right give the same
use Rattle.std.specs.Prelude.{List, [], ◌∷◌, map, Bool, cond, if◌then◌else◌, ℤ, pos, ◌*ℤ◌, ◌≤ℤ◌, nat_abs, replicate, int_lt, Option, Some}
use Rattle.std.specs.List.{filter, flat_map}
use Rattle.std.specs.declared.cmp.Ordering.{Ordering}
use Rattle.std.specs.Ordering.{is_eq}
use Rattle.sq_algebra.specs.ZSet.{ZSet, entries, from_pairs, minus, plus, weight}
use Rattle.sq_algebra.specs.Groups.{AbelianGroup, times, sum_over}

-- each member of a list with the weight n
abbrev pub weighing : {K : Type 0} → ℤ → List K → List (K × ℤ)
weighing n xs = map (λ x. (x, n)) xs

module _ {K : Type 0} {R : K → K → Ordering} where
  -- the linear extension of h: the sum over the entries of what h gives for the key, as often as the weight says
  unfoldable pub lin : {A : Type 0} → AbelianGroup A → (K → A) → ZSet K R → A
  lin G h z = sum_over G (λ e. times G e.1 (h e.0)) (entries z)

  -- the keys that pass p, with their weights
  unfoldable pub keep : (K → Bool) → ZSet K R → ZSet K R
  keep p z = from_pairs R (filter (λ e. p e.0) (entries z))

  -- the weight 1 for each key whose weight is above 0
  unfoldable pub distinct : ZSet K R → ZSet K R
  distinct z = from_pairs R (map (λ e. (e.0, if int_lt (pos 0) e.1 then pos 1 else pos 0)) (entries z))

  -- no key has a weight below 0
  abbrev pub IsNonNegative : ZSet K R → Type 0
  IsNonNegative z = (k : K) → pos 0 ≤ℤ weight k z

  -- each key as often as its weight says, in the order of the keys; a key with a weight below 0 as often as its absolute weight
  abbrev pub repeated : ZSet K R → List K
  repeated z = flat_map (λ e. replicate (nat_abs e.1) e.0) (entries z)

module _ {L : Type 0} (U : L → L → Ordering) where
  -- the images of each key, with the weight of the key; the weights of equal images add up
  unfoldable pub image : {K : Type 0} {R : K → K → Ordering} → (K → List L) → ZSet K R → ZSet L U
  image f z = from_pairs U (flat_map (λ e. weighing e.1 (f e.0)) (entries z))

  -- the images of each pair of keys, with the product of their weights; the weights of equal images add up
  unfoldable pub product : {J K : Type 0} {Q : J → J → Ordering} {R : K → K → Ordering} → (J → K → List L) → ZSet J Q → ZSet K R → ZSet L U
  product f y z = from_pairs U (flat_map (λ d. flat_map (λ e. weighing (d.1 *ℤ e.1) (f d.0 e.0)) (entries z)) (entries y))

-- the keys that two Z-sets have both, each with the product of its weights
abbrev pub meet : {K : Type 0} {R : K → K → Ordering} → ZSet K R → ZSet K R → ZSet K R
meet {R = R} y z = product R (λ j k. cond (is_eq (R j k)) (j ∷ []) []) y z

-- the third, if the first two are there and the same
abbrev pub where_same : {C L : Type 0} → (C → C → Ordering) → Option C → Option C → Option L → List L
where_same Q (Some c) (Some d) (Some x) = cond (is_eq (Q c d)) (x ∷ []) []
where_same Q _ _ _ = []

-- what pair gives for two keys to which left and right give the same, and nothing else
abbrev pub pairs_where : {J K C L : Type 0} → (C → C → Ordering) → (J → Option C) → (K → Option C) → (J → K → Option L) → J → K → List L
pairs_where Q left right pair j k = where_same Q (left j) (right k) (pair j k)

-- the product of the pairs of keys to which left and right give the same
abbrev pub join : {J K C L : Type 0} {S : J → J → Ordering} {R : K → K → Ordering} (U : L → L → Ordering) (Q : C → C → Ordering)
    → (J → Option C) → (K → Option C) → (J → K → Option L) → ZSet J S → ZSet K R → ZSet L U
join U Q left right pair y z = product U (pairs_where Q left right pair) y z

-- the keys of y without those that have a weight above 0 in z
abbrev pub excluding : {K : Type 0} {R : K → K → Ordering} → ZSet K R → ZSet K R → ZSet K R
excluding y z = minus y (meet y (distinct z))

-- the weight in a distinct Z-set of a key with the weight n
abbrev pub presence : ℤ → ℤ
presence n = if int_lt (pos 0) n then pos 1 else pos 0

-- y × dz + dy × z + dy × dz, for an f in the place of ×
abbrev pub cross_terms : {J K L : Type 0} {S : J → J → Ordering} {R : K → K → Ordering} {U : L → L → Ordering}
    → (ZSet J S → ZSet K R → ZSet L U) → ZSet J S → ZSet J S → ZSet K R → ZSet K R → ZSet L U
cross_terms f y dy z dz = plus (plus (f y dz) (f dy z)) (f dy dz)

-- the sum over the pairs of keys of y and z of what g gives for them, as often as the product of their weights says
abbrev pub double_sum : {A : Type 0} → AbelianGroup A → {J K : Type 0} {S : J → J → Ordering} {R : K → K → Ordering} → (J → K → A) → ZSet J S → ZSet K R → A
double_sum G g y z = lin G (λ j. lin G (λ k. g j k) z) y

-- the sum of what h gives for the images of a pair of keys
abbrev pub pair_sum : {A : Type 0} → AbelianGroup A → {J K L : Type 0} → (L → A) → (J → K → List L) → J → K → A
pair_sum G h f j k = sum_over G h (f j k)
