-- The mass of a Z-set of rows, the sum of its absolute weights.
use Rattle.std.proofs.Common.{◌≡◌, ℕ, ◌+◌, ◌*◌, ◌^◌, ◌<◌, ◌≤◌, ◌+ℤ◌, ◌⊎◌, inl, inr, Equal, ◌*ℤ◌, ◌≤ℤ◌, List, [], ◌∷◌, ◌++◌, length, Bool, true, false, not, cond, ℤ, pos, negsuc, neg_ℤ, unsigned_abs, get_or, Option, Some, None, refl, sym, ap, ap₂, subst, ◌∙◌, mul-add, add-mul, is_eq, arith}
use Rattle.std.specs.List.{All, AllByRecursion, filter, flat_map}
use Rattle.std.proofs.lemmas.Bool.{le-leb}
use Rattle.std.proofs.lemmas.Int.{unsigned_abs-mul}
use Rattle.std.proofs.lemmas.List.Elements.{recursion_from_All}
use Rattle.std.proofs.lemmas.List.Sums.{sum_by-append, sum_by-cons}
use borrow.Author.Differences.{ints}
use Rattle.sq_value.specs.declared.value.Value.{Value}
use Rattle.sq_value.specs.Order.{row_cmp}
use Rattle.sq_value.specs.OrderLaws.{row_cmp-antisymmetric, row_cmp-total}
use Rattle.sq_algebra.specs.Operators.{IsNonNegative, image, keep, pairs_where, product, weighing, where_same}
use Rattle.sq_algebra.specs.ZSet.{ZSet, collect, entries, from_pairs, int_sum_by, minus, negate, negated, plus, total, weight, weight_in}
use Rattle.sq_algebra.proofs.KeyedLemmas.{found}
use Rattle.sq_algebra.proofs.LinearLemmas.{entry_weight}
use Rattle.sq_algebra.proofs.Weights.{entries-from_pairs, total-entries}
use Rattle.sq_zset.specs.Collecting.{mass_of}
use Rattle.sq_zset.specs.Range.{IsInRange, first_outside_in, is_in_range}
use Rattle.sq_zset.proofs.Collecting.{mass_of-add}
use Rattle.sq_zset.proofs.Counting.{all_in_range}
use Rattle.sq_zset.proofs.Entries.{in_range_at}

-- ---- lists of pairs
collected : (ps : List (List Value × ℤ)) → mass_of (collect row_cmp ps) ≤ mass_of ps
collected [] = omega arith
collected (p ∷ ps) =
    let step = mass_of-add p.0 p.1 (collect row_cmp ps) in
    let rest = collected ps in
    let whole = sum_by-cons (λ (e : List Value × ℤ). unsigned_abs e.1) p ps in
    omega arith

abs-neg : (n : ℤ) → unsigned_abs (neg_ℤ n) ≡ unsigned_abs n
abs-neg (pos n) = omega (arith, ints)
abs-neg (negsuc n) = omega (arith, ints)

turned : (ps : List (List Value × ℤ)) → mass_of (negated ps) ≡ mass_of ps
turned [] = refl
turned (p ∷ ps) =
    sum_by-cons (λ (e : List Value × ℤ). unsigned_abs e.1) (p.0, neg_ℤ p.1) (negated ps)
    ∙ ap₂ ◌+◌ (abs-neg p.1) (turned ps)
    ∙ sym (sum_by-cons (λ (e : List Value × ℤ). unsigned_abs e.1) p ps)

filtered : (p : List Value → Bool) (es : List (List Value × ℤ)) → mass_of (filter (λ e. p e.0) es) ≤ mass_of es
filtered p [] = omega arith
filtered p (e ∷ es) =
    let rest = filtered p es in
    let whole = sum_by-cons (λ (d : List Value × ℤ). unsigned_abs d.1) e es in
    let step = sum_by-cons (λ (d : List Value × ℤ). unsigned_abs d.1) e (filter (λ d. p d.0) es) in
    elim (p e.0) as (λ b. mass_of (cond b (e ∷ filter (λ d. p d.0) es) (filter (λ d. p d.0) es)) ≤ mass_of (e ∷ es)) [ true ↦ omega arith | false ↦ omega arith ]

made_of : (ps : List (List Value × ℤ)) → mass_of (entries (from_pairs row_cmp ps)) ≤ mass_of ps
made_of ps = subst (λ es. mass_of es ≤ mass_of ps) (sym (entries-from_pairs row_cmp row_cmp-total ps)) (collected ps)

-- ---- sums, differences, and parts that pass a test
pub mass-plus : (y z : ZSet (List Value) row_cmp) → mass_of (entries (plus y z)) ≤ mass_of (entries y) + mass_of (entries z)
unfolding plus
mass-plus y z =
    let made = made_of (entries y ++ entries z) in
    let both = sum_by-append (λ (e : List Value × ℤ). unsigned_abs e.1) (entries y) (entries z) in
    omega arith

pub mass-negate : (z : ZSet (List Value) row_cmp) → mass_of (entries (negate z)) ≤ mass_of (entries z)
unfolding negate
mass-negate z = let made = made_of (negated (entries z)) in let same = turned (entries z) in omega arith

pub mass-minus : (y z : ZSet (List Value) row_cmp) → mass_of (entries (minus y z)) ≤ mass_of (entries y) + mass_of (entries z)
mass-minus y z = let whole = mass-plus y (negate z) in let part = mass-negate z in omega arith

pub mass-keep : (p : List Value → Bool) (z : ZSet (List Value) row_cmp) → mass_of (entries (keep p z)) ≤ mass_of (entries z)
unfolding keep
mass-keep p z = let made = made_of (filter (λ e. p e.0) (entries z)) in let part = filtered p (entries z) in omega arith

-- ---- images and products, at most one row for each row, or for each pair
abbrev size : List Value × ℤ → ℕ
size e = unsigned_abs e.1

few_weigh : (n : ℤ) (rows : List (List Value)) → length rows ≤ 1 → mass_of (weighing n rows) ≤ unsigned_abs n
few_weigh n [] few = omega arith
few_weigh n (row ∷ []) few = omega arith
few_weigh n (row ∷ other ∷ rows) few = absurd (omega arith)

images_weigh : (f : List Value → List (List Value)) → ((row : List Value) → length (f row) ≤ 1) → (es : List (List Value × ℤ)) → mass_of (flat_map (λ e. weighing e.1 (f e.0)) es) ≤ mass_of es
images_weigh f few [] = omega arith
images_weigh f few (e ∷ es) =
    let first = few_weigh e.1 (f e.0) (few e.0) in
    let rest = images_weigh f few es in
    let both = sum_by-append size (weighing e.1 (f e.0)) (flat_map (λ (d : List Value × ℤ). weighing d.1 (f d.0)) es) in
    let whole = sum_by-cons size e es in
    omega arith

module _ (f : List Value → List Value → List (List Value)) (few : (row other : List Value) → length (f row other) ≤ 1) where
  row_weighs : (row : List Value) (n : ℤ) (es : List (List Value × ℤ)) → mass_of (flat_map (λ e. weighing (n *ℤ e.1) (f row e.0)) es) ≤ unsigned_abs n * mass_of es
  row_weighs row n [] = omega arith
  row_weighs row n (e ∷ es) =
      let first = few_weigh (n *ℤ e.1) (f row e.0) (few row e.0) in
      let weights = unsigned_abs-mul n e.1 in
      let rest = row_weighs row n es in
      let both = sum_by-append size (weighing (n *ℤ e.1) (f row e.0)) (flat_map (λ (d : List Value × ℤ). weighing (n *ℤ d.1) (f row d.0)) es) in
      let spread : unsigned_abs n * mass_of (e ∷ es) ≡ unsigned_abs n * unsigned_abs e.1 + unsigned_abs n * mass_of es = ap (λ m. unsigned_abs n * m) (sum_by-cons size e es) ∙ mul-add (unsigned_abs n) (unsigned_abs e.1) (mass_of es) in
      omega arith

  pub pairs_weigh : (ds es : List (List Value × ℤ)) → mass_of (flat_map (λ d. flat_map (λ e. weighing (d.1 *ℤ e.1) (f d.0 e.0)) es) ds) ≤ mass_of ds * mass_of es
  pairs_weigh [] es = omega arith
  pairs_weigh (d ∷ ds) es =
      let first = row_weighs d.0 d.1 es in
      let rest = pairs_weigh ds es in
      let both = sum_by-append size (flat_map (λ (e : List Value × ℤ). weighing (d.1 *ℤ e.1) (f d.0 e.0)) es) (flat_map (λ (c : List Value × ℤ). flat_map (λ (e : List Value × ℤ). weighing (c.1 *ℤ e.1) (f c.0 e.0)) es) ds) in
      let spread : mass_of (d ∷ ds) * mass_of es ≡ unsigned_abs d.1 * mass_of es + mass_of ds * mass_of es = ap (λ m. m * mass_of es) (sum_by-cons size d ds) ∙ add-mul (unsigned_abs d.1) (mass_of ds) (mass_of es) in
      omega arith

pub mass-from_pairs : (ps : List (List Value × ℤ)) → mass_of (entries (from_pairs row_cmp ps)) ≤ mass_of ps
mass-from_pairs ps = made_of ps

pub mass-image : (f : List Value → List (List Value)) → ((row : List Value) → length (f row) ≤ 1) → (z : ZSet (List Value) row_cmp) → mass_of (entries (image row_cmp f z)) ≤ mass_of (entries z)
unfolding image
mass-image f few z = let made = made_of (flat_map (λ (e : List Value × ℤ). weighing e.1 (f e.0)) (entries z)) in let most = images_weigh f few (entries z) in omega arith

pub mass-product : (f : List Value → List Value → List (List Value)) → ((row other : List Value) → length (f row other) ≤ 1) → (y z : ZSet (List Value) row_cmp)
    → mass_of (entries (product row_cmp f y z)) ≤ mass_of (entries y) * mass_of (entries z)
unfolding product
mass-product f few y z =
    let made = made_of (flat_map (λ (d : List Value × ℤ). flat_map (λ (e : List Value × ℤ). weighing (d.1 *ℤ e.1) (f d.0 e.0)) (entries z)) (entries y)) in
    let most = pairs_weigh f few (entries y) (entries z) in
    omega arith

-- rows that are paired by their keys give at most one row
pub one_where : (left right : List Value → Option (List Value)) (pair : List Value → List Value → Option (List Value)) (row other : List Value) → length (pairs_where row_cmp left right pair row other) ≤ 1
one_where left right pair row other = one (left row) (right other) (pair row other)
  where
    one : (c d x : Option (List Value)) → length (where_same row_cmp c d x) ≤ 1
    one None d x = omega arith
    one (Some c) None x = omega arith
    one (Some c) (Some d) None = omega arith
    one (Some c) (Some d) (Some x) = elim (is_eq (row_cmp c d)) as (λ b. length (cond b (x ∷ []) []) ≤ 1) [ true ↦ omega arith | false ↦ omega arith ]

-- ---- no weight below 0
one_more : (n : ℤ) (m : ℕ) (s : ℤ) → pos 0 ≤ℤ n → pos m ≡ s → pos (unsigned_abs n + m) ≡ n +ℤ s
one_more (pos n) m s h e = let same = e in omega (arith, ints)
one_more (negsuc n) m s h e = let low = h in absurd (omega (arith, ints))

counted : (es : List (List Value × ℤ)) → AllByRecursion (λ e. pos 0 ≤ℤ e.1) es → pos (mass_of es) ≡ int_sum_by (λ e. e.1) es
counted [] h = refl
counted (e ∷ es) h = ap pos (sum_by-cons (λ (d : List Value × ℤ). unsigned_abs d.1) e es) ∙ one_more e.1 (mass_of es) (int_sum_by (λ d. d.1) es) h.0 (counted es h.1)

pub mass-total : (z : ZSet (List Value) row_cmp) → IsNonNegative z → pos (mass_of (entries z)) ≡ total z
mass-total z above =
    let each : All (λ (e : List Value × ℤ). pos 0 ≤ℤ e.1) (entries z) = λ i d low. subst (λ n. pos 0 ≤ℤ n) (entry_weight row_cmp row_cmp-total z i d low) (above (get_or (entries z) i d).0) in
    counted (entries z) (recursion_from_All (λ (e : List Value × ℤ). pos 0 ≤ℤ e.1) (entries z) each) ∙ sym (total-entries row_cmp z)

-- ---- ranges
light : (es : List (List Value × ℤ)) → mass_of es ≤ 2 ^ 62 → first_outside_in es ≡ None
light [] h = refl
light (e ∷ es) h =
    let whole = sum_by-cons (λ (d : List Value × ℤ). unsigned_abs d.1) e es in
    let fits : unsigned_abs e.1 ≤ 2 ^ 62 = omega arith in
    ap (λ b. cond (not b) (Some e.1) (first_outside_in es)) (le-leb (unsigned_abs e.1) (2 ^ 62) fits) ∙ light es (omega arith)

pub mass-in_range : (z : ZSet (List Value) row_cmp) → mass_of (entries z) ≤ 2 ^ 62 → IsInRange z
mass-in_range z h = light (entries z) h

-- all weights lie in the range exactly if that of each row does
pub weights-in_range : (z : ZSet (List Value) row_cmp) → IsInRange z → (row : List Value) → unsigned_abs (weight row z) ≤ 2 ^ 62
unfolding weight
weights-in_range z h row = step (found row_cmp row_cmp-total row_cmp-antisymmetric row_cmp row_cmp-total row_cmp-antisymmetric (λ r. r) row (unsigned_abs (weight row z) ≤ 2 ^ 62) (entries z) at)
  where
    at : (i : ℕ) (d : List Value × ℤ) → i < length (entries z) → row_cmp row (get_or (entries z) i d).0 ≡ Equal → unsigned_abs (weight row z) ≤ 2 ^ 62
    at i d low same =
        subst (λ n. unsigned_abs n ≤ 2 ^ 62) (sym (ap (λ r. weight r z) (row_cmp-antisymmetric row (get_or (entries z) i d).0 same) ∙ entry_weight row_cmp row_cmp-total z i d low)) (in_range_at (entries z) i d h low)

    step : (weight_in row_cmp row (entries z) ≡ pos 0) ⊎ (unsigned_abs (weight row z) ≤ 2 ^ 62) → unsigned_abs (weight row z) ≤ 2 ^ 62
    step (inl none) = subst (λ n. unsigned_abs n ≤ 2 ^ 62) (sym none) (omega arith)
    step (inr within) = within

pub in_range-weights : (z : ZSet (List Value) row_cmp) → ((row : List Value) → unsigned_abs (weight row z) ≤ 2 ^ 62) → IsInRange z
in_range-weights z h = all_in_range (entries z) (λ i d low. ap is_in_range (sym (entry_weight row_cmp row_cmp-total z i d low)) ∙ le-leb _ _ (h (get_or (entries z) i d).0))
