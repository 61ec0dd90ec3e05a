-- The arguments of changed rows: they are as few as the rows, and weigh no more.
use Rattle.std.proofs.Common.{◌≡◌, ℕ, ◌+◌, ◌^◌, ◌≤◌, List, [], ◌∷◌, ◌++◌, length, take, true, false, cond, ℤ, pos, ◌+ℤ◌, Some, None, sym, ap, subst, ◌∙◌, unsigned_abs, arith}
use Rattle.std.specs.Prelude.{slice_get}
use Rattle.std.specs.Ordering.{int_eq, match_ordering}
use Rattle.std.specs.declared.cmp.Ordering.TheVariants.{Less, Equal, Greater}
use Rattle.std.proofs.lemmas.Grind.{flat_map-append}
use Rattle.std.proofs.lemmas.List.{length-append}
use Rattle.std.proofs.lemmas.List.Sums.{sum_by-append, sum_by-cons}
use Rattle.std.proofs.Common.{append-nil}
use Rattle.sq_expr.proofs.Lists.{take_more}
use Rattle.sq_value.specs.Order.{row_cmp}
use Rattle.sq_value.specs.OrderLaws.{row_cmp-total}
use Rattle.sq_algebra.specs.Operators.{image, weighing}
use Rattle.sq_algebra.specs.ZSet.{add, collect, entries, from_pairs, in_front}
use Rattle.sq_algebra.proofs.Weights.{entries-from_pairs}
use Rattle.sq_expr.specs.Meaning.{column_of}
use Rattle.sq_ops.specs.Aggregates.{has_value}
use Rattle.sq_ops.specs.Arguments.{argument_of, arguments}
use Rattle.sq_zset.specs.Collecting.{mass_of}
use Rattle.sq_zset.specs.Pairs.{mass, weighted_rows}
use Rattle.sq_zset.specs.Range.{first_outside}
use Rattle.sq_zset.specs.declared.pair.Pair.{Pair}
use Rattle.sq_zset.proofs.Masses.{mass-image, mass-in_range}
use Rattle.sq_agg.specs.Kept.{Row, Rows}
use Rattle.sq_agg.specs.Stepping.{argument_pairs}
use Rattle.sq_agg.proofs.Keys.{masses}

-- ---- pairs are as many as what they add up to, or more
front_length : (k : Row) (n : ℤ) (ps : List (Row × ℤ)) → length (in_front k n ps) ≤ length ps + 1
front_length k n ps = elim (int_eq n (pos 0)) as (λ b. length (cond b ps ((k, n) ∷ ps)) ≤ length ps + 1) [ true ↦ omega arith | false ↦ omega arith ]

add_length : (k : Row) (n : ℤ) (ps : List (Row × ℤ)) → length (add row_cmp k n ps) ≤ length ps + 1
add_length k n [] = front_length k n []
add_length k n (p ∷ ps) =
    let before = front_length k n (p ∷ ps) in
    let there = front_length p.0 (n +ℤ p.1) ps in
    let behind = add_length k n ps in
    elim (row_cmp k p.0) as (λ r. length (match_ordering r (in_front k n (p ∷ ps)) (in_front p.0 (n +ℤ p.1) ps) (p ∷ add row_cmp k n ps)) ≤ length (p ∷ ps) + 1) [
      | Less ↦ before
      | Equal ↦ omega arith
      | Greater ↦ omega arith
    ]

collect_length : (ps : List (Row × ℤ)) → length (collect row_cmp ps) ≤ length ps
collect_length [] = omega arith
collect_length (p ∷ ps) = let one = add_length p.0 p.1 (collect row_cmp ps) in let rest = collect_length ps in omega arith

pub made_length : (ps : List (Row × ℤ)) → length (entries (from_pairs row_cmp ps)) ≤ length ps
made_length ps = subst (λ es. length es ≤ length ps) (sym (entries-from_pairs row_cmp row_cmp-total ps)) (collect_length ps)

-- ---- the arguments of rows
module _ (column : ℕ) where
  pub at_most_one : (row : Row) → length (argument_of column row) ≤ 1
  at_most_one row = elim (has_value column row) as (λ b. length (cond b ((column_of row column ∷ []) ∷ []) []) ≤ 1) [ true ↦ omega arith | false ↦ omega arith ]

  one_weighs : (row : Row) (n : ℤ) → mass_of (weighing n (argument_of column row)) ≤ unsigned_abs n
  one_weighs row n = elim (has_value column row) as (λ b. mass_of (weighing n (cond b ((column_of row column ∷ []) ∷ []) [])) ≤ unsigned_abs n) [ true ↦ omega arith | false ↦ omega arith ]

  one_long : (row : Row) (n : ℤ) → length (weighing n (argument_of column row)) ≤ 1
  one_long row n = elim (has_value column row) as (λ b. length (weighing n (cond b ((column_of row column ∷ []) ∷ []) [])) ≤ 1) [ true ↦ omega arith | false ↦ omega arith ]

  pairs_weigh : (es : List (Row × ℤ)) → mass_of (argument_pairs column es) ≤ mass_of es
  pairs_weigh [] = omega arith
  pairs_weigh (e ∷ es) =
      let first = one_weighs e.0 e.1 in
      let rest = pairs_weigh es in
      let both = sum_by-append (λ (p : Row × ℤ). unsigned_abs p.1) (weighing e.1 (argument_of column e.0)) (argument_pairs column es) in
      let whole = sum_by-cons (λ (p : Row × ℤ). unsigned_abs p.1) e es in
      omega arith

  pairs_long : (es : List (Row × ℤ)) → length (argument_pairs column es) ≤ length es
  pairs_long [] = omega arith
  pairs_long (e ∷ es) =
      let first = one_long e.0 e.1 in
      let rest = pairs_long es in
      let both = length-append (weighing e.1 (argument_of column e.0)) (argument_pairs column es) in
      omega arith

  pub one_more : (es : List (Row × ℤ)) (i : ℕ) (row : Row) (n : ℤ) → slice_get es i ≡ Some (row, n) → argument_pairs column (take (i + 1) es) ≡ argument_pairs column (take i es) ++ weighing n (argument_of column row)
  one_more es i row n found =
      ap (argument_pairs column) (take_more es i (row, n) found)
      ∙ flat_map-append (λ (e : Row × ℤ). weighing e.1 (argument_of column e.0)) (take i es) ((row, n) ∷ [])
      ∙ ap (λ ps. argument_pairs column (take i es) ++ ps) (append-nil (weighing n (argument_of column row)))

  module _ (z : Rows) (pairs : List Pair) (made : weighted_rows pairs ≡ argument_pairs column (entries z)) where
    pub all_made : from_pairs row_cmp (weighted_rows pairs) ≡ arguments column z
    unfolding image
    all_made = ap (from_pairs row_cmp) made

    pub all_weigh : mass_of (entries z) ≤ 2 ^ 62 → mass pairs ≤ 2 ^ 126
    all_weigh few = let weighs = masses pairs ∙ ap mass_of made in let less = pairs_weigh (entries z) in omega arith

    pub never_outside : mass_of (entries z) ≤ 2 ^ 62 → (sum : ℤ) → first_outside (from_pairs row_cmp (weighted_rows pairs)) ≡ Some sum → ⊥
    never_outside few sum outside =
        let less = mass-image (argument_of column) at_most_one z in
        let inside : first_outside (arguments column z) ≡ None = mass-in_range (arguments column z) (omega arith) in
        let both = ap first_outside all_made ∙ inside in
        absurd (cc (both, outside))

    pub as_few : length (entries (from_pairs row_cmp (weighted_rows pairs))) ≤ length (entries z)
    as_few = let most = made_length (weighted_rows pairs) in let long = pairs_long (entries z) in let same = ap length made in omega arith
