-- What distinct gives more when the rows change is, row by row, the rise of their presence.
use Rattle.std.proofs.Common.{◌≡◌, ℕ, ◌+◌, ◌^◌, ◌<◌, ◌≤◌, List, [], ◌∷◌, ◌++◌, length, take, get_or, Bool, true, false, cond, T, ℤ, pos, ◌+ℤ◌, ◌-ℤ◌, unsigned_abs, Some, None, refl, sym, ap, ap₂, ◌∙◌, arith, Less, Equal, Greater, is_eq}
use Rattle.std.specs.Prelude.{int_lt, slice_get}
use Rattle.std.specs.Ordering.{int_eq}
use Rattle.std.specs.Cmp.{tied_itself}
use Rattle.std.proofs.lemmas.Grind.{flat_map-append}
use Rattle.std.proofs.lemmas.List.Sums.{sum_by-append, sum_by-cons}
use borrow.Author.Differences.{ints}
use Rattle.sq_expr.proofs.Lists.{take_more}
use Rattle.sq_value.specs.declared.value.Value.{Value}
use Rattle.sq_value.specs.Order.{row_cmp}
use Rattle.sq_value.specs.OrderLaws.{row_cmp-total, row_cmp-antisymmetric}
use Rattle.sq_algebra.specs.Operators.{distinct, presence}
use Rattle.sq_algebra.specs.ZSet.{ZSet, entries, entries_canonical, from_pairs, in_front, is_canonical, keys, minus, plus, weight, weight_in}
use Rattle.sq_algebra.proofs.LinearLemmas.{entry_weight}
use Rattle.sq_algebra.proofs.Lists.{below_tied}
use Rattle.sq_algebra.proofs.PairLemmas.{zero_from}
use Rattle.sq_algebra.proofs.Sums.{int_sum_by-append}
use Rattle.sq_algebra.proofs.Weights.{front_of, weight_in_none}
use Rattle.sq_trace.specs.declared.entry.Entry.{Entry}
use Rattle.sq_zset.specs.Collecting.{mass_of}
use Rattle.sq_zset.specs.Pairs.{mass, weighted_rows}
use Rattle.sq_zset.specs.Range.{first_outside, is_in_range}
use Rattle.sq_zset.specs.declared.pair.Pair.{Pair}
use Rattle.sq_zset.proofs.Counting.{all_in_range}
use Rattle.sq_zset.proofs.Rows.{same_weights, weight-from_pairs, weight-minus, weight-plus}
use Rattle.sq_zset.proofs.RowOperators.{weight-distinct}
use Rattle.sq_zset.proofs.Entries.{same_some}
use Rattle.sq_base.specs.Causes.{raised}
use Rattle.sq_distinct.specs.Stepping.{HoldsRows, held_weight, rise_of, rises_of, unless_zero}

abbrev Row : Type 0
Row = List Value

zero_left : (n : ℤ) → pos 0 +ℤ n ≡ n
zero_left n = omega (arith, ints)

zero_right : (n : ℤ) → n +ℤ pos 0 ≡ n
zero_right n = omega (arith, ints)

less_itself : (n : ℤ) → n -ℤ n ≡ pos 0
less_itself n = omega (arith, ints)

no_rise : (n : ℤ) → rise_of n (pos 0) ≡ pos 0
no_rise n = ap (λ m. presence m -ℤ presence n) (zero_right n) ∙ less_itself (presence n)

-- ---- the weights of what is given
weight_in_front : (k row : Row) (n : ℤ) → weight_in row_cmp k (in_front row n []) ≡ cond (is_eq (row_cmp k row)) n (pos 0)
weight_in_front k row n =
    elim (int_eq n (pos 0)) as (λ b. int_eq n (pos 0) ≡ b → weight_in row_cmp k (cond b [] ((row, n) ∷ [])) ≡ cond (is_eq (row_cmp k row)) n (pos 0)) [
      | true ↦ λ e. sym (ap (λ m. cond (is_eq (row_cmp k row)) m (pos 0)) (zero_from n e) ∙ elim (is_eq (row_cmp k row)) as (λ b. cond b (pos 0) (pos 0) ≡ pos 0) [ true ↦ refl | false ↦ refl ])
      | false ↦ λ e. zero_right (cond (is_eq (row_cmp k row)) n (pos 0))
    ] refl

module _ (held : Row → ℤ) where
  turn : (k : Row) (p : Row × ℤ) (ps : List (Row × ℤ)) → weight_in row_cmp k (rises_of held (p ∷ ps)) ≡ cond (is_eq (row_cmp k p.0)) (rise_of (held p.0) p.1) (pos 0) +ℤ weight_in row_cmp k (rises_of held ps)
  turn k p ps =
      int_sum_by-append (λ (q : Row × ℤ). cond (is_eq (row_cmp k q.0)) q.1 (pos 0)) (in_front p.0 (rise_of (held p.0) p.1) []) (rises_of held ps)
      ∙ ap (λ n. n +ℤ weight_in row_cmp k (rises_of held ps)) (weight_in_front k p.0 (rise_of (held p.0) p.1))

  weighs : (k : Row) (ps : List (Row × ℤ)) → T (is_canonical row_cmp ps) → weight_in row_cmp k (rises_of held ps) ≡ rise_of (held k) (weight_in row_cmp k ps)
  weighs k [] h = sym (no_rise (held k))
  weighs k (p ∷ ps) h =
      let front = front_of row_cmp p ps h in
      let rest : weight_in row_cmp k (rises_of held ps) ≡ rise_of (held k) (weight_in row_cmp k ps) = weighs k ps front.rest in
      turn k p ps
      ∙ elim (row_cmp k p.0) as (λ r. row_cmp k p.0 ≡ r → cond (is_eq r) (rise_of (held p.0) p.1) (pos 0) +ℤ weight_in row_cmp k (rises_of held ps) ≡ rise_of (held k) (cond (is_eq r) p.1 (pos 0) +ℤ weight_in row_cmp k ps)) [
        | Less ↦ λ e. zero_left (weight_in row_cmp k (rises_of held ps)) ∙ rest ∙ ap (rise_of (held k)) (sym (zero_left (weight_in row_cmp k ps)))
        | Equal ↦ λ e.
            let below : weight_in row_cmp k ps ≡ pos 0 = weight_in_none row_cmp row_cmp-total k ps (below_tied row_cmp row_cmp-total k p.0 (keys ps) e front.below) in
            let same : k ≡ p.0 = row_cmp-antisymmetric k p.0 e in
            ap (λ n. rise_of (held p.0) p.1 +ℤ n) (rest ∙ ap (rise_of (held k)) below ∙ no_rise (held k)) ∙ zero_right (rise_of (held p.0) p.1)
            ∙ ap (λ j. rise_of (held j) p.1) (sym same) ∙ ap (rise_of (held k)) (sym (ap (λ n. p.1 +ℤ n) below ∙ zero_right p.1))
        | Greater ↦ λ e. zero_left (weight_in row_cmp k (rises_of held ps)) ∙ rest ∙ ap (rise_of (held k)) (sym (zero_left (weight_in row_cmp k ps)))
      ] refl

  weighs_of : (k : Row) (d : ZSet Row row_cmp) → weight k (from_pairs row_cmp (rises_of held (entries d))) ≡ rise_of (held k) (weight k d)
  unfolding weight
  weighs_of k d = weight-from_pairs k (rises_of held (entries d)) ∙ weighs k (entries d) (entries_canonical d)

  -- ---- each lies in the range
  small : (a n : ℤ) → is_in_range (rise_of a n) ≡ true
  small a n =
      elim (int_lt (pos 0) (a +ℤ n)) as (λ b. is_in_range (cond b (pos 1) (pos 0) -ℤ presence a) ≡ true) [
        | true ↦ elim (int_lt (pos 0) a) as (λ c. is_in_range (pos 1 -ℤ cond c (pos 1) (pos 0)) ≡ true) [ true ↦ refl | false ↦ refl ]
        | false ↦ elim (int_lt (pos 0) a) as (λ c. is_in_range (pos 0 -ℤ cond c (pos 1) (pos 0)) ≡ true) [ true ↦ refl | false ↦ refl ]
      ]

  pub rises_in_range : (d : ZSet Row row_cmp) → first_outside (from_pairs row_cmp (rises_of held (entries d))) ≡ None
  rises_in_range d = all_in_range (entries (from_pairs row_cmp (rises_of held (entries d)))) (λ i e low.
      let answer : ZSet Row row_cmp = from_pairs row_cmp (rises_of held (entries d)) in
      let row : Row = (get_or (entries answer) i e).0 in
      let is : (get_or (entries answer) i e).1 ≡ rise_of (held row) (weight row d) = sym (entry_weight row_cmp row_cmp-total answer i e low) ∙ weighs_of row d in
      ap is_in_range is ∙ small (held row) (weight row d))

  pub never_outside : (d : ZSet Row row_cmp) (ps : List (Row × ℤ)) (sum : ℤ) → ps ≡ rises_of held (entries d) → first_outside (from_pairs row_cmp ps) ≡ Some sum → ⊥
  never_outside d ps sum made outside = let inside = ap (λ qs. first_outside (from_pairs row_cmp qs)) made ∙ rises_in_range d in absurd (cc (inside, outside))

  -- ---- what is given up to a place
  pub one_more : (es : List (Row × ℤ)) (i : ℕ) (row : Row) (n : ℤ) → slice_get es i ≡ Some (row, n) → rises_of held (take (i + 1) es) ≡ rises_of held (take i es) ++ in_front row (rise_of (held row) n) []
  one_more es i row n found =
      ap (rises_of held) (take_more es i (row, n) found)
      ∙ flat_map-append (λ e. in_front e.0 (rise_of (held e.0) e.1) []) (take i es) ((row, n) ∷ [])
      ∙ ap (λ xs. rises_of held (take i es) ++ xs) (alone (int_eq (rise_of (held row) n) (pos 0)))
    where
      alone : (b : Bool) → ◌++◌ {A = Row × ℤ} (cond b [] ((row, rise_of (held row) n) ∷ [])) [] ≡ cond b [] ((row, rise_of (held row) n) ∷ [])
      alone true = refl
      alone false = refl

  -- ---- their mass
  one_weighs : (row : Row) (a n : ℤ) → mass_of (in_front row (rise_of a n) []) ≤ 1
  one_weighs row a n =
      elim (int_lt (pos 0) (a +ℤ n)) as (λ b. mass_of (in_front row (cond b (pos 1) (pos 0) -ℤ presence a) []) ≤ 1) [
        | true ↦ elim (int_lt (pos 0) a) as (λ c. mass_of (in_front row (pos 1 -ℤ cond c (pos 1) (pos 0)) []) ≤ 1) [ true ↦ omega arith | false ↦ omega arith ]
        | false ↦ elim (int_lt (pos 0) a) as (λ c. mass_of (in_front row (pos 0 -ℤ cond c (pos 1) (pos 0)) []) ≤ 1) [ true ↦ omega arith | false ↦ omega arith ]
      ]

  rises_weigh : (es : List (Row × ℤ)) → mass_of (rises_of held es) ≤ length es
  rises_weigh [] = omega arith
  rises_weigh (e ∷ es) =
      let both = sum_by-append (λ (p : Row × ℤ). unsigned_abs p.1) (in_front e.0 (rise_of (held e.0) e.1) []) (rises_of held es) in
      let one = one_weighs e.0 (held e.0) e.1 in
      let rest = rises_weigh es in
      omega arith

  pub few_weigh : (pairs : List Pair) (es : List (Row × ℤ)) → weighted_rows pairs ≡ rises_of held es → length es ≤ 2 ^ 64 → mass pairs ≤ 2 ^ 126
  few_weigh pairs es made short =
      let weighs = masses pairs ∙ ap mass_of made in
      let most = rises_weigh es in
      omega arith
    where
      masses : (pairs : List Pair) → mass pairs ≡ mass_of (weighted_rows pairs)
      masses [] = refl
      masses (p ∷ pairs) = sum_by-cons (λ (q : Pair). unsigned_abs q.weight) p pairs ∙ ap (λ m. unsigned_abs p.weight + m) (masses pairs) ∙ sym (sum_by-cons (λ (e : Row × ℤ). unsigned_abs e.1) (p.row, p.weight) (weighted_rows pairs))

-- ---- one row
pub one_risen : (row : Row) (n weight : ℤ) → unless_zero n ≡ Some weight → in_front row n [] ≡ (row, weight) ∷ []
one_risen row n weight e = elim (int_eq n (pos 0)) as (λ b. cond b None (Some n) ≡ Some weight → ◌≡◌ {A = List (Row × ℤ)} (cond b [] ((row, n) ∷ [])) ((row, weight) ∷ [])) [
  | true ↦ λ t. absurd (cc t)
  | false ↦ λ t. ap (λ m. (row, m) ∷ []) (same_some t)
] e

pub none_risen : (row : Row) (n : ℤ) → unless_zero n ≡ None → in_front row n [] ≡ []
none_risen row n e = elim (int_eq n (pos 0)) as (λ b. cond b None (Some n) ≡ None → ◌≡◌ {A = List (Row × ℤ)} (cond b [] ((row, n) ∷ [])) []) [ true ↦ λ t. refl | false ↦ λ t. absurd (cc t) ] e

pub one_step : (old before now : ℕ) (i : ℕ) → before ≤ old + i → now ≡ raised before → now ≤ old + (i + 1)
one_step old before now i low is = omega arith

pub last_step : (old before now i n : ℕ) → before ≤ old + i → now ≡ raised before → i < n → now ≤ old + n
last_step old before now i n low is more = omega arith

-- ---- the law
pub steps_are_rises : (parts : List (List (Entry ℤ))) (z d : ZSet Row row_cmp) → HoldsRows parts z → from_pairs row_cmp (rises_of (held_weight parts) (entries d)) ≡ minus (distinct (plus z d)) (distinct z)
steps_are_rises parts z d holds = same_weights _ _ (λ k.
    let there : held_weight parts k ≡ weight k z = holds.held k k ∙ ap (λ r. cond (is_eq r) (weight k z) (pos 0)) (tied_itself row_cmp-total k) in
    weighs_of (held_weight parts) k d
    ∙ ap (λ n. rise_of n (weight k d)) there
    ∙ sym (weight-minus k (distinct (plus z d)) (distinct z)
    ∙ ap₂ (λ m n. m -ℤ n) (weight-distinct k (plus z d) ∙ ap presence (weight-plus k z d)) (weight-distinct k z)))
