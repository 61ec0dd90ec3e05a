-- The groups that a step looks at are those of the shard, and stand once among the changed groups.
use Rattle.std.proofs.Common.{◌≡◌, ◌==◌, ℕ, ◌+◌, ◌*◌, ◌≤◌, Bool, true, false, cond, not, ◌&&◌, List, [], ◌∷◌, ◌++◌, map, length, refl, sym, ap, ap₂, subst, ◌∙◌, arith, ℤ, filter, Equal, Less, Greater}
use Rattle.std.specs.List.{All, AllByRecursion, sum_by}
use Rattle.std.specs.Ordering.{match_ordering}
use Rattle.std.specs.declared.cmp.Ordering.{Ordering}
use Rattle.std.specs.Cmp.{tied_itself}
use Rattle.std.proofs.lemmas.Bool.Decides.{nat_tests}
use Rattle.std.proofs.lemmas.List.Elements.{All-from_recursion}
use Rattle.std.proofs.lemmas.List.Sums.{sum_by-cons}
use Rattle.sq_value.specs.Order.{row_cmp}
use Rattle.sq_value.specs.OrderLaws.{row_cmp-total}
use Rattle.sq_algebra.specs.Keyed.{Shards, cut, keys_of}
use Rattle.sq_algebra.specs.Listed.{in_order, place}
use Rattle.sq_algebra.specs.ZSet.{entries}
use Rattle.sq_algebra.proofs.EntryLemmas.{entries-cut}
use Rattle.sq_expr.specs.Meaning.{columns_of}
use Rattle.sq_agg.specs.Aggregating.{agg_cost, touched}
use Rattle.sq_agg.specs.Kept.{Row, Rows}
use Rattle.sq_agg.specs.Shifts.{group_cost}
use Rattle.sq_circuit.specs.Costs.{aggregate_cost, changed_groups, first_group}
use Rattle.sq_ops.specs.Aggregates.{group_of, groups_of, rows_of_group}
use Rattle.sq_ops.specs.Wholes.{has_no_values}
use Rattle.sq_ops.specs.declared.aggregate.AggSpec.{AggSpec}

-- ---- lists in order
module _ (P : Row → Type 0) where
  each_placed : (k : Row) (xs : List Row) → P k → AllByRecursion P xs → AllByRecursion P (place row_cmp k xs)
  each_placed k [] h all = (h, tt)
  each_placed k (x ∷ xs) h all = step (row_cmp k x) (each_placed k xs h all.1)
    where
      step : (o : Ordering) → AllByRecursion P (place row_cmp k xs) → AllByRecursion P (match_ordering o (k ∷ x ∷ xs) (x ∷ xs) (x ∷ place row_cmp k xs))
      step Less later = (h, (all.0, all.1))
      step Equal later = all
      step Greater later = (all.0, later)

  each_ordered : (xs : List Row) → AllByRecursion P xs → AllByRecursion P (in_order row_cmp xs)
  each_ordered [] all = tt
  each_ordered (x ∷ xs) all = each_placed x (in_order row_cmp xs) all.0 (each_ordered xs all.1)

  each_mapped : {X : Type 0} (f : X → Row) (xs : List X) → AllByRecursion (λ x. P (f x)) xs → AllByRecursion P (map f xs)
  each_mapped f [] all = tt
  each_mapped f (x ∷ xs) all = (all.0, each_mapped f xs all.1)

passed : {X : Type 0} (p : X → Bool) (xs : List X) → AllByRecursion (λ x. p x ≡ true) (filter p xs)
passed p [] = tt
passed p (x ∷ xs) = elim (p x) as (λ b. p x ≡ b → AllByRecursion (λ x. p x ≡ true) (cond b (x ∷ filter p xs) (filter p xs))) [ true ↦ λ e. (e, passed p xs) | false ↦ λ e. passed p xs ] refl

same_shard : (s t : ℕ) → (s == t) ≡ true → t ≡ s
same_shard s t e = grind (arith, nat_tests)

each_same : {X : Type 0} (f : X → ℕ) (s : ℕ) (xs : List X) → AllByRecursion (λ x. (s == f x) ≡ true) xs → AllByRecursion (λ x. f x ≡ s) xs
each_same f s [] all = tt
each_same f s (x ∷ xs) all = (same_shard s (f x) all.0, each_same f s xs all.1)

-- ---- the shard of a group
module _ (S : Shards Row) (s : ℕ) (spec : AggSpec) where
  abbrev pub IsHere : Row → Type 0
  IsHere c = S.shard c ≡ s

  rows_here : (dy d : Rows) → d ≡ cut S (group_of spec) s dy → AllByRecursion (λ (e : Row × ℤ). IsHere (group_of spec e.0)) (entries d)
  rows_here dy d is =
      subst (λ es. AllByRecursion (λ (e : Row × ℤ). IsHere (group_of spec e.0)) es) (sym (ap entries is ∙ entries-cut row_cmp row_cmp-total S (group_of spec) s dy))
      (each_same (λ (e : Row × ℤ). S.shard (group_of spec e.0)) s (filter (λ (e : Row × ℤ). s == S.shard (group_of spec e.0)) (entries dy)) (passed (λ (e : Row × ℤ). s == S.shard (group_of spec e.0)) (entries dy)))

  keys_here : (d : Rows) → AllByRecursion (λ (e : Row × ℤ). IsHere (group_of spec e.0)) (entries d) → AllByRecursion IsHere (keys_of row_cmp (group_of spec) d)
  unfolding keys_of
  keys_here d here = each_ordered IsHere (map (λ e. group_of spec e.0) (entries d)) (each_mapped IsHere (λ e. group_of spec e.0) (entries d) here)

  -- in a global aggregate all rows are of one group
  one_here : (es : List (Row × ℤ)) → spec.global ≡ true → has_no_values es ≡ false → AllByRecursion (λ (e : Row × ℤ). IsHere (group_of spec e.0)) es → IsHere []
  one_here [] g e here = absurd (cc e)
  one_here (x ∷ es) g e here = sym (ap (λ b. S.shard (columns_of (cond b [] spec.group) x.0)) g) ∙ here.0

  groups_here : (first : Bool) (d : Rows) → (first ≡ true → IsHere []) → AllByRecursion (λ (e : Row × ℤ). IsHere (group_of spec e.0)) (entries d) → AllByRecursion IsHere (touched first spec d)
  groups_here first d at_first here = by_rows (has_no_values (entries d)) first refl refl
    where
      some : (spec.global ≡ true → IsHere []) → AllByRecursion IsHere (groups_of spec d)
      some one = elim spec.global as (λ b. spec.global ≡ b → AllByRecursion IsHere (cond b ([] ∷ []) (keys_of row_cmp (group_of spec) d))) [ true ↦ λ g. (one g, tt) | false ↦ λ g. keys_here d here ] refl

      by_rows : (none first' : Bool) → has_no_values (entries d) ≡ none → first ≡ first' → AllByRecursion IsHere (cond (none && not first') [] (groups_of spec d))
      by_rows true true e f = some (λ g. at_first f)
      by_rows true false e f = tt
      by_rows false true e f = some (λ g. at_first f)
      by_rows false false e f = some (λ g. one_here (entries d) g e here)

  pub touched_here : (first : Bool) (dy d : Rows) → d ≡ cut S (group_of spec) s dy → (first ≡ true → IsHere []) → All IsHere (touched first spec d)
  touched_here first dy d is at_first = All-from_recursion IsHere (touched first spec d) (groups_here first d at_first (rows_here dy d is))

-- ---- the cost
nils : (xs : List Row) → AllByRecursion (λ x. x ≡ []) xs → has_no_values xs ≡ false → in_order row_cmp xs ≡ [] ∷ []
nils [] all e = absurd (cc e)
nils (x ∷ []) all e = ap (λ y. y ∷ []) all.0
nils (x ∷ y ∷ xs) all e =
    ap₂ (λ k ys. place row_cmp k ys) all.0 (nils (y ∷ xs) all.1 refl)
    ∙ ap (λ o. match_ordering o ([] ∷ [] ∷ []) ([] ∷ []) ([] ∷ place row_cmp [] [])) (tied_itself row_cmp-total [])

module _ (spec : AggSpec) (d : Rows) where
  abbrev price : Row → ℕ
  price c = group_cost spec (length (entries (rows_of_group spec d c)))

  abbrev priced : Row → ℕ
  priced c = 3 + length spec.calls * (length (entries (rows_of_group spec d c)) + 1)

  same_price : (cs : List Row) → sum_by price cs ≡ sum_by priced cs
  same_price [] = refl
  same_price (c ∷ cs) =
      sum_by-cons price c cs
      ∙ ap₂ (λ m n. m + n) (ap (λ n. 3 + length spec.calls * n) (turn (length (entries (rows_of_group spec d c))))) (same_price cs)
      ∙ sym (sum_by-cons priced c cs)
    where
      turn : (n : ℕ) → 1 + n ≡ n + 1
      turn n = omega arith

  no_more : (m : ℕ) → m ≤ m
  no_more m = omega arith

  nothing_less : (m : ℕ) → 0 ≤ m
  nothing_less m = omega arith

  all_nil : {X : Type 0} (f : X → Row) (xs : List X) → ((x : X) → f x ≡ []) → AllByRecursion (λ x. x ≡ []) (map f xs)
  all_nil f [] h = tt
  all_nil f (x ∷ xs) h = (h x, all_nil f xs h)

  some_mapped : {X : Type 0} (f : X → Row) (xs : List X) → has_no_values xs ≡ false → has_no_values (map f xs) ≡ false
  some_mapped f [] e = absurd (cc e)
  some_mapped f (x ∷ xs) e = refl

  module _ (first : Bool) where
    in_global : spec.global ≡ true → sum_by priced (touched first spec d) ≤ aggregate_cost first spec d
    in_global g = by_rows (has_no_values (entries d)) first refl refl
      where
        group_is : (e : Row × ℤ) → group_of spec e.0 ≡ []
        group_is e = ap (λ b. columns_of (cond b [] spec.group) e.0) g

        groups_are : groups_of spec d ≡ [] ∷ []
        groups_are = ap (λ b. cond b ([] ∷ []) (keys_of row_cmp (group_of spec) d)) g

        changed_are : in_order row_cmp (first_group first spec ++ map (λ e. group_of spec e.0) (entries d)) ≡ [] ∷ [] → sum_by priced (groups_of spec d) ≤ aggregate_cost first spec d
        changed_are is = subst (λ cs. sum_by priced cs ≤ sum_by priced (changed_groups first spec d)) (sym groups_are) (subst (λ cs. sum_by priced ([] ∷ []) ≤ sum_by priced cs) (sym is) (no_more (sum_by priced ([] ∷ []))))

        at_first : first ≡ true → in_order row_cmp (first_group first spec ++ map (λ e. group_of spec e.0) (entries d)) ≡ [] ∷ []
        at_first f =
            ap₂ (λ a b. in_order row_cmp (cond (a && b) ([] ∷ []) [] ++ map (λ e. group_of spec e.0) (entries d))) f g
            ∙ nils ([] ∷ map (λ e. group_of spec e.0) (entries d)) (refl, all_nil (λ e. group_of spec e.0) (entries d) group_is) refl

        with_rows : first ≡ false → has_no_values (entries d) ≡ false → in_order row_cmp (first_group first spec ++ map (λ e. group_of spec e.0) (entries d)) ≡ [] ∷ []
        with_rows f e =
            ap (λ a. in_order row_cmp (cond (a && spec.global) ([] ∷ []) [] ++ map (λ e. group_of spec e.0) (entries d))) f
            ∙ nils (map (λ e. group_of spec e.0) (entries d)) (all_nil (λ e. group_of spec e.0) (entries d) group_is) (some_mapped (λ e. group_of spec e.0) (entries d) e)

        by_rows : (none first' : Bool) → has_no_values (entries d) ≡ none → first ≡ first' → sum_by priced (cond (none && not first') [] (groups_of spec d)) ≤ aggregate_cost first spec d
        by_rows true true e f = changed_are (at_first f)
        by_rows true false e f = nothing_less _
        by_rows false true e f = changed_are (at_first f)
        by_rows false false e f = changed_are (with_rows f e)

    in_groups : spec.global ≡ false → sum_by priced (touched first spec d) ≤ aggregate_cost first spec d
    unfolding keys_of
    in_groups g =
        subst (λ cs. sum_by priced (touched first spec d) ≤ sum_by priced (in_order row_cmp (cs ++ map (λ e. group_of spec e.0) (entries d)))) (sym (no_first first))
        (subst (λ b. sum_by priced (cond (has_no_values (entries d) && not first) [] (cond b ([] ∷ []) (keys_of row_cmp (group_of spec) d))) ≤ sum_by priced (in_order row_cmp (map (λ e. group_of spec e.0) (entries d)))) (sym g)
        (by_rows (has_no_values (entries d) && not first)))
      where
        no_first : (b : Bool) → ◌≡◌ {A = List Row} (cond (b && spec.global) ([] ∷ []) []) []
        no_first true = ap (λ a. cond {A = List Row} a ([] ∷ []) []) g
        no_first false = refl

        by_rows : (b : Bool) → sum_by priced (cond b [] (in_order row_cmp (map (λ e. group_of spec e.0) (entries d)))) ≤ sum_by priced (in_order row_cmp (map (λ e. group_of spec e.0) (entries d)))
        by_rows true = nothing_less _
        by_rows false = no_more _

    pub within_cost : agg_cost first spec d ≤ aggregate_cost first spec d
    within_cost = subst (λ n. n ≤ aggregate_cost first spec d) (sym (same_price (touched first spec d))) (elim spec.global as (λ b. spec.global ≡ b → sum_by priced (touched first spec d) ≤ aggregate_cost first spec d) [ true ↦ in_global | false ↦ in_groups ] refl)
