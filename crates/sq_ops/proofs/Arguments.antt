-- The least and the greatest of the arguments that are kept of a group are its MIN and its MAX.
use Rattle.std.proofs.Common.{◌≡◌, ◌⊎◌, inl, inr, ℕ, zero, suc, ℤ, pos, negsuc, ◌+ℤ◌, ◌≤ℤ◌, List, [], ◌∷◌, ◌++◌, map, Bool, true, false, cond, not, ◌&&◌, get_or, T, refl, sym, ap, subst, ◌∙◌, Ordering, Less, Equal, Greater, is_lt, is_eq, arith}
use Rattle.std.specs.Cmp.{IsTotalOrder, back_total}
use Rattle.std.specs.FinMap.{IsAntisymmetric}
use Rattle.std.specs.List.{AllByRecursion, flat_map, fold, list_all}
use Rattle.std.specs.Ordering.{flip_args, ordering_reverse}
use Rattle.std.proofs.lemmas.List.Elements.{recursion_from_All}
use borrow.Author.Differences.{ints}
use Rattle.sq_value.specs.declared.value.Value.{Value}
use Rattle.sq_value.specs.declared.value.Value.TheVariants.{Null, Int, Text}
use Rattle.sq_value.specs.Order.{row_cmp, value_cmp}
use Rattle.sq_value.specs.OrderLaws.{row_cmp-total, row_cmp-antisymmetric, value_cmp-total}
use Rattle.sq_algebra.specs.Groups.{IsAdditive, z_sets}
use Rattle.sq_algebra.specs.Operators.{IsNonNegative, image, weighing}
use Rattle.sq_algebra.specs.ZSet.{ZSet, entries, entries_canonical, is_nonzero, weight_in}
use Rattle.sq_algebra.proofs.GroupLemmas.{IsAdditive-compose}
use Rattle.sq_algebra.proofs.LinearLemmas.{entry_weight}
use Rattle.sq_algebra.proofs.Weights.{nonzero_weights_from}
use Rattle.sq_expr.specs.Meaning.{column_of, is_null}
use Rattle.sq_zset.proofs.RowKeys.{at_key-IsAdditive}
use Rattle.sq_zset.proofs.RowOperators.{image-IsAdditive}
use Rattle.sq_zset.proofs.Rows.{weight-from_pairs}
use Rattle.sq_ops.specs.Aggregates.{greater, group_of, lesser, rows_of_group, values_in}
use Rattle.sq_ops.specs.Arguments.{IsGreatest, IsKeptNowhere, IsLeast, argument_of, argument_weight, arguments, arguments_of_group}
use Rattle.sq_ops.specs.declared.aggregate.AggSpec.{AggSpec}
use Rattle.sq_ops.proofs.Extremes.{flipped-antisymmetric, greater_is, lesser_is, nulls_last, nulls_last-antisymmetric, nulls_last-total, pick}

-- ---- tests
equal : (r : Ordering) → is_eq r ≡ true → r ≡ Equal
equal Less e = absurd (cc e)
equal Equal e = refl
equal Greater e = absurd (cc e)

both : (a b : Bool) → T (a && b) → T a × T b
both true b h = (tt, h)
both false b h = absurd h

-- ---- members
abbrev Has : {X : Type 0} → X → List X → Type 0
Has x [] = ⊥
Has x (y ∷ ys) = (x ≡ y) ⊎ Has x ys

-- ---- a fold of the lesser gives any member that bounds the list
module _ {K : Type 0} (R : K → K → Ordering) (o : IsTotalOrder R) (identical : IsAntisymmetric R) (step : K → K → K) (is : (a b : K) → step a b ≡ pick R a b) (v : K) where
  -- neither is below the other
  alike : (a : K) → is_lt (R a v) ≡ false → is_lt (R v a) ≡ false → a ≡ v
  alike a g h = same (R v a) refl h
    where
      same : (r : Ordering) → R v a ≡ r → is_lt r ≡ false → a ≡ v
      same Less e h = absurd (cc h)
      same Equal e h = sym (identical v a e)
      same Greater e h = absurd (cc (g, o.antisymm a v, e))

  picked_above : (a x : K) → is_lt (R a v) ≡ false → is_lt (R x v) ≡ false → is_lt (R (step a x) v) ≡ false
  picked_above a x g h = subst (λ k. is_lt (R k v) ≡ false) (sym (is a x)) (elim (is_lt (R x a)) as (λ b. is_lt (R (cond b x a) v) ≡ false) [ true ↦ h | false ↦ g ])

  stays : (a x : K) → a ≡ v → is_lt (R x v) ≡ false → step a x ≡ v
  stays a x e h = ap (λ k. step k x) e ∙ is v x ∙ ap (λ b. cond b x v) h

  comes : (a x : K) → v ≡ x → is_lt (R a v) ≡ false → step a x ≡ v
  comes a x e g = ap (step a) (sym e) ∙ is a v ∙ elim (is_lt (R v a)) as (λ b. is_lt (R v a) ≡ b → cond b v a ≡ v) [ true ↦ λ d. refl | false ↦ λ d. alike a g d ] refl

  next : (a x : K) (xs : List K) → (a ≡ v) ⊎ Has v (x ∷ xs) → is_lt (R a v) ≡ false → is_lt (R x v) ≡ false → (step a x ≡ v) ⊎ Has v xs
  next a x xs (inl e) g h = inl (stays a x e h)
  next a x xs (inr (inl e)) g h = inl (comes a x e g)
  next a x xs (inr (inr later)) g h = inr later

  pub fold_finds : (a : K) (xs : List K) → is_lt (R a v) ≡ false → ((x : K) → Has x xs → is_lt (R x v) ≡ false) → (a ≡ v) ⊎ Has v xs → fold step a xs ≡ v
  fold_finds a [] g above (inl e) = e
  fold_finds a [] g above (inr h) = absurd h
  fold_finds a (x ∷ xs) g above there = fold_finds (step a x) xs (picked_above a x g (above x (inl refl))) (λ y h. above y (inr h)) (next a x xs there g (above x (inl refl)))

-- ---- what a row adds to the weight of an argument
value_first : (x y : Value) → row_cmp (x ∷ []) (y ∷ []) ≡ Equal → x ≡ y
value_first x y e = ap head (row_cmp-antisymmetric (x ∷ []) (y ∷ []) e)
  where
    head : List Value → Value
    head [] = Null
    head (z ∷ zs) = z

to_itself : (row : List Value) → is_eq (row_cmp row row) ≡ true
to_itself row = own (row_cmp row row) (row_cmp-total.antisymm row row)
  where
    own : (r : Ordering) → r ≡ ordering_reverse r → is_eq r ≡ true
    own Less e = absurd (cc e)
    own Equal e = refl
    own Greater e = absurd (cc e)

module _ (column : ℕ) where
  abbrev value : List Value × ℤ → Value
  value e = column_of e.0 column

  abbrev kept_pairs : List (List Value × ℤ) → List (List Value × ℤ)
  kept_pairs es = flat_map (λ e. weighing e.1 (argument_of column e.0)) es

  -- whether the row has the argument
  abbrev is_of : Value → List Value × ℤ → Bool
  is_of x e = not (is_null (value e)) && is_eq (row_cmp (x ∷ []) (value e ∷ []))

  one_adds : (x : Value) (e : List Value × ℤ) (rest : List (List Value × ℤ)) → weight_in row_cmp (x ∷ []) (weighing e.1 (argument_of column e.0) ++ rest) ≡ cond (is_of x e) e.1 (pos 0) +ℤ weight_in row_cmp (x ∷ []) rest
  one_adds x e rest =
      elim (is_null (value e)) as (λ b. weight_in row_cmp (x ∷ []) (weighing e.1 (cond (not b) ((value e ∷ []) ∷ []) []) ++ rest) ≡ cond (not b && is_eq (row_cmp (x ∷ []) (value e ∷ []))) e.1 (pos 0) +ℤ weight_in row_cmp (x ∷ []) rest) [
        | true ↦ none (weight_in row_cmp (x ∷ []) rest)
        | false ↦ refl
      ]
    where
      none : (n : ℤ) → n ≡ pos 0 +ℤ n
      none n = omega (arith, ints)

  weight_is : (z : ZSet (List Value) row_cmp) (x : Value) → argument_weight column z x ≡ weight_in row_cmp (x ∷ []) (kept_pairs (entries z))
  unfolding image
  weight_is z x = weight-from_pairs (x ∷ []) (kept_pairs (entries z))

  step_up : (b : Bool) (n m s : ℤ) → pos 0 ≤ℤ n → pos 0 ≤ℤ m → s ≡ cond b n (pos 0) +ℤ m → pos 0 ≤ℤ s
  step_up true n m s g h e = omega (arith, ints)
  step_up false n m s g h e = omega (arith, ints)

  above_zero : (x : Value) (es : List (List Value × ℤ)) → AllByRecursion (λ e. pos 0 ≤ℤ e.1) es → pos 0 ≤ℤ weight_in row_cmp (x ∷ []) (kept_pairs es)
  above_zero x [] h = omega (arith, ints)
  above_zero x (e ∷ es) h = step_up (is_of x e) e.1 (weight_in row_cmp (x ∷ []) (kept_pairs es)) _ h.0 (above_zero x es h.1) (one_adds x e (kept_pairs es))

  -- ---- a value that is kept is that of some row
  falls : (n s : ℤ) → s ≡ pos 0 +ℤ n → pos 1 ≤ℤ s → pos 1 ≤ℤ n
  falls n s e h = omega (arith, ints)

  parted : (a b : Bool) → a && b ≡ true → (a ≡ true) × (b ≡ true)
  parted true b e = (refl, e)
  parted false b e = absurd (cc e)

  pub held_by_row : (x : Value) (es : List (List Value × ℤ)) → pos 1 ≤ℤ weight_in row_cmp (x ∷ []) (kept_pairs es) → Has x (map value es) × (is_null x ≡ false)
  held_by_row x [] h = absurd (omega (arith, ints))
  held_by_row x (e ∷ es) h =
      elim (is_of x e) as (λ b. is_of x e ≡ b → Has x (map value (e ∷ es)) × (is_null x ≡ false)) [
        | true ↦ λ d. here (parted (not (is_null (value e))) (is_eq (row_cmp (x ∷ []) (value e ∷ []))) d)
        | false ↦ λ d. later (held_by_row x es (falls (weight_in row_cmp (x ∷ []) (kept_pairs es)) _ (one_adds x e (kept_pairs es) ∙ ap (λ b. cond b e.1 (pos 0) +ℤ weight_in row_cmp (x ∷ []) (kept_pairs es)) d) h))
      ] refl
    where
      is_some : (b : Bool) → not b ≡ true → b ≡ false
      is_some true d = absurd (cc d)
      is_some false d = refl

      here : (not (is_null (value e)) ≡ true) × (is_eq (row_cmp (x ∷ []) (value e ∷ [])) ≡ true) → Has x (map value (e ∷ es)) × (is_null x ≡ false)
      here d = let same : x ≡ value e = value_first x (value e) (equal (row_cmp (x ∷ []) (value e ∷ [])) d.1) in (inl same, ap is_null same ∙ is_some (is_null (value e)) d.0)

      later : Has x (map value es) × (is_null x ≡ false) → Has x (map value (e ∷ es)) × (is_null x ≡ false)
      later h = (inr h.0, h.1)

  -- ---- and the value of each row is kept
  at_least_one : (n : ℤ) → pos 0 ≤ℤ n → T (is_nonzero n) → pos 1 ≤ℤ n
  at_least_one (pos zero) h k = absurd k
  at_least_one (pos (suc n)) h k = omega (arith, ints)
  at_least_one (negsuc n) h k = absurd (omega (arith, ints))

  whole_step : (n m s : ℤ) → pos 1 ≤ℤ n → pos 0 ≤ℤ m → s ≡ n +ℤ m → pos 1 ≤ℤ s
  whole_step n m s g h e = omega (arith, ints)

  rest_step : (b : Bool) (n m s : ℤ) → pos 0 ≤ℤ n → pos 1 ≤ℤ m → s ≡ cond b n (pos 0) +ℤ m → pos 1 ≤ℤ s
  rest_step true n m s g h e = omega (arith, ints)
  rest_step false n m s g h e = omega (arith, ints)

  pub row_holds : (x : Value) (es : List (List Value × ℤ)) → AllByRecursion (λ e. pos 0 ≤ℤ e.1) es → T (list_all (λ e. is_nonzero e.1) es) → Has x (map value es) → is_null x ≡ false → pos 1 ≤ℤ weight_in row_cmp (x ∷ []) (kept_pairs es)
  row_holds x [] h k there some = absurd there
  row_holds x (e ∷ es) h k (inl same) some =
      whole_step e.1 (weight_in row_cmp (x ∷ []) (kept_pairs es)) _ (at_least_one e.1 h.0 (both (is_nonzero e.1) (list_all (λ d. is_nonzero d.1) es) k).0) (above_zero x es h.1)
      (one_adds x e (kept_pairs es) ∙ ap (λ b. cond b e.1 (pos 0) +ℤ weight_in row_cmp (x ∷ []) (kept_pairs es)) holds)
    where
      holds : is_of x e ≡ true
      holds = ap (λ v. not (is_null v) && is_eq (row_cmp (x ∷ []) (v ∷ []))) (sym same) ∙ ap (λ b. not b && is_eq (row_cmp (x ∷ []) (x ∷ []))) some ∙ to_itself (x ∷ [])
  row_holds x (e ∷ es) h k (inr later) some =
      rest_step (is_of x e) e.1 (weight_in row_cmp (x ∷ []) (kept_pairs es)) _ h.0 (row_holds x es h.1 (both (is_nonzero e.1) (list_all (λ d. is_nonzero d.1) es) k).1 later some) (one_adds x e (kept_pairs es))

  module _ (z : ZSet (List Value) row_cmp) (proper : IsNonNegative z) where
    entries_above : AllByRecursion (λ e. pos 0 ≤ℤ e.1) (entries z)
    entries_above = recursion_from_All (λ (e : List Value × ℤ). pos 0 ≤ℤ e.1) (entries z) (λ i d low. subst (λ n. pos 0 ≤ℤ n) (entry_weight row_cmp row_cmp-total z i d low) (proper (get_or (entries z) i d).0))

    pub kept_value : (x : Value) → Has x (values_in column z) → is_null x ≡ false → pos 1 ≤ℤ argument_weight column z x
    kept_value x there some = subst (λ n. pos 1 ≤ℤ n) (sym (weight_is z x)) (row_holds x (entries z) entries_above (nonzero_weights_from row_cmp (entries z) (entries_canonical z)) there some)

    pub value_kept : (x : Value) → pos 1 ≤ℤ argument_weight column z x → Has x (values_in column z) × (is_null x ≡ false)
    value_kept x h = held_by_row x (entries z) (subst (λ n. pos 1 ≤ℤ n) (weight_is z x) h)

    -- ---- NULL stands behind all other values, and in the order of values before them
    last : (x : Value) → is_null x ≡ false → is_lt (nulls_last Null x) ≡ false
    last Null h = absurd (cc h)
    last (Int n) h = refl
    last (Text t) h = refl

    before_null : (x : Value) → is_lt (value_cmp x Null) ≡ false
    before_null Null = refl
    before_null (Int n) = refl
    before_null (Text t) = refl

    as_values : (y x : Value) → is_null y ≡ false → is_null x ≡ false → is_lt (value_cmp y x) ≡ false → is_lt (nulls_last y x) ≡ false
    as_values Null x h k e = absurd (cc h)
    as_values (Int m) Null h k e = absurd (cc k)
    as_values (Int m) (Int n) h k e = e
    as_values (Int m) (Text t) h k e = e
    as_values (Text s) Null h k e = absurd (cc k)
    as_values (Text s) (Int n) h k e = e
    as_values (Text s) (Text t) h k e = e

    pub least_is_min : (x : Value) → IsLeast (argument_weight column z) x → fold lesser Null (values_in column z) ≡ x
    least_is_min x least =
        let kept = value_kept x least.there in
        fold_finds nulls_last nulls_last-total nulls_last-antisymmetric lesser lesser_is x Null (values_in column z) (last x kept.1) (λ y there. bounds kept.1 y there (is_null y) refl) (inr kept.0)
      where
        bounds : is_null x ≡ false → (y : Value) → Has y (values_in column z) → (b : Bool) → is_null y ≡ b → is_lt (nulls_last y x) ≡ false
        bounds some Null there b e = last x some
        bounds some (Int n) there b e = as_values (Int n) x refl some (least.none_below (Int n) (kept_value (Int n) there refl))
        bounds some (Text t) there b e = as_values (Text t) x refl some (least.none_below (Text t) (kept_value (Text t) there refl))

    pub greatest_is_max : (x : Value) → IsGreatest (argument_weight column z) x → fold greater Null (values_in column z) ≡ x
    greatest_is_max x greatest =
        let kept = value_kept x greatest.there in
        fold_finds (flip_args value_cmp) (back_total value_cmp-total) flipped-antisymmetric greater greater_is x Null (values_in column z) (before_null x) (λ y there. bounds y there) (inr kept.0)
      where
        bounds : (y : Value) → Has y (values_in column z) → is_lt (value_cmp x y) ≡ false
        bounds Null there = before_null x
        bounds (Int n) there = greatest.none_above (Int n) (kept_value (Int n) there refl)
        bounds (Text t) there = greatest.none_above (Text t) (kept_value (Text t) there refl)

    -- ---- no value is kept
    all_null : IsKeptNowhere (argument_weight column z) → (x : Value) → Has x (values_in column z) → x ≡ Null
    all_null none Null there = refl
    all_null none (Int n) there = absurd (none (Int n) (kept_value (Int n) there refl))
    all_null none (Text t) there = absurd (none (Text t) (kept_value (Text t) there refl))

    pub none_is_null : IsKeptNowhere (argument_weight column z) → (fold lesser Null (values_in column z) ≡ Null) × (fold greater Null (values_in column z) ≡ Null)
    none_is_null none = (
      fold_finds nulls_last nulls_last-total nulls_last-antisymmetric lesser lesser_is Null Null (values_in column z) refl (λ y there. ap (λ k. is_lt (nulls_last k Null)) (all_null none y there)) (inl refl),
      fold_finds (flip_args value_cmp) (back_total value_cmp-total) flipped-antisymmetric greater greater_is Null Null (values_in column z) refl (λ y there. ap (λ k. is_lt (value_cmp Null k)) (all_null none y there)) (inl refl),
    )

  -- ---- NULL is never kept
  null_in : (es : List (List Value × ℤ)) → weight_in row_cmp (Null ∷ []) (kept_pairs es) ≡ pos 0
  null_in [] = refl
  null_in (e ∷ es) = one_adds Null e (kept_pairs es) ∙ ap (λ n. cond (is_of Null e) e.1 (pos 0) +ℤ n) (null_in es) ∙ ap (λ b. cond b e.1 (pos 0) +ℤ pos 0) (other (value e))
    where
      other : (x : Value) → not (is_null x) && is_eq (row_cmp (Null ∷ []) (x ∷ [])) ≡ false
      other Null = refl
      other (Int n) = refl
      other (Text t) = refl

  pub null_is_not_kept : (z : ZSet (List Value) row_cmp) → argument_weight column z Null ≡ pos 0
  null_is_not_kept z = weight_is z Null ∙ null_in (entries z)

pub group_arguments_add : (spec : AggSpec) (column : ℕ) (c : List Value) → IsAdditive (z_sets row_cmp) (z_sets row_cmp) (arguments_of_group spec column c)
group_arguments_add spec column c = IsAdditive-compose (z_sets row_cmp) (z_sets row_cmp) (z_sets row_cmp) (λ z. rows_of_group spec z c) (arguments column) (at_key-IsAdditive (group_of spec) c) (image-IsAdditive (argument_of column))
