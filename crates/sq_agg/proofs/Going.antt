-- The entries of the groups that are done, and what is left to do.
use Rattle.std.proofs.Common.{◌≡◌, ℕ, ◌+◌, ◌≤◌, List, [], ◌∷◌, ◌++◌, Bool, ℤ, Option, Some, None, sym, ap, ap₂, subst, ◌∙◌, append_assoc, append-nil, arith, length, not}
use Rattle.std.specs.List.{AllByRecursion, flat_map, sum_by}
use Rattle.std.specs.Option.{option_map, option_or}
use Rattle.std.proofs.lemmas.List.Elements.{recursion_from_All}
use Rattle.std.proofs.lemmas.List.Folds.{find-append}
use Rattle.std.proofs.lemmas.List.Sums.{sum_by-cons}
use Rattle.sq_algebra.specs.ZSet.{entries, plus, weight}
use Rattle.sq_expr.specs.Bigint.{first_not_bigint, is_bigint}
use Rattle.sq_ops.specs.Aggregates.{rows_of_group, sums_of}
use Rattle.sq_ops.specs.declared.aggregate.AggSpec.{AggSpec}
use Rattle.sq_trace.specs.declared.entry.Entry.{Entry}
use Rattle.sq_agg.specs.Aggregating.{AggState, HoldsShown, OnOld, agg_cost, touched}
use Rattle.sq_agg.specs.Entering.{MovesShown, accumulator_entries, accumulators_of, argument_entries, arguments_of_calls, moves_of, row_after, row_before, shown_entries}
use Rattle.sq_agg.specs.Kept.{KeptAccumulators, Row, Rows}
use Rattle.sq_agg.specs.Shifts.{FirstSum, OnState, ShowsRow, group_cost, shown_row}
use Rattle.sq_agg.specs.Stepping.{Accumulator, KeptWeights}
use Rattle.sq_agg.proofs.FirstSums.{first_sums}
use Rattle.sq_agg.proofs.Keeping.{row_is_part}
use Rattle.sq_agg.proofs.Shown.{first_keyed, keyed, tested, with_its_key}
use Rattle.sq_agg.proofs.Touching.{group_state}
use Rattle.sq_ops.specs.Aggregates.{first_sum_outside}

module _ {A : Type 0} (f : Row → List A) where
  -- the group at hand goes from what is left to what is done
  pub one_more : (keys left rest : List Row) (c : Row) (done now : List A) → left ≡ c ∷ rest → done ++ flat_map f left ≡ flat_map f keys → now ≡ done ++ f c → now ++ flat_map f rest ≡ flat_map f keys
  one_more keys left rest c done now next so_far made =
      ap (λ xs. xs ++ flat_map f rest) made ∙ append_assoc done (f c) (flat_map f rest) ∙ ap (λ cs. done ++ flat_map f cs) (sym next) ∙ so_far

  pub all_made : (keys left : List Row) (done : List A) → left ≡ [] → done ++ flat_map f left ≡ flat_map f keys → done ≡ flat_map f keys
  all_made keys left done none so_far = sym (append-nil done) ∙ ap (λ cs. done ++ flat_map f cs) (sym none) ∙ so_far

module _ (spec : AggSpec) (accs : KeptAccumulators) (ordered shown : KeptWeights) (d : Rows) (first : Bool) where
  abbrev pub accumulator_of : Row → List (Entry Accumulator)
  accumulator_of c = accumulator_entries spec.calls c (rows_of_group spec d c)

  abbrev pub arguments_of : Row → List (Entry ℤ)
  arguments_of c = argument_entries c 0 spec.calls (rows_of_group spec d c)

  abbrev pub move_of : Rows → Row → List (Entry ℤ)
  move_of y c = shown_entries c (row_before first spec y c) (row_after spec y d c)

  abbrev pub cost_of : Row → ℕ
  cost_of c = group_cost spec (length (entries (rows_of_group spec d c)))

  abbrev pub AllHold : Rows → List Row → Type 0
  AllHold y left = AllByRecursion (λ c. HoldsShown first spec shown y c) left

  pub record Going (start : ℕ) (left : List Row) (xs : List (Entry Accumulator)) (ys zs : List (Entry ℤ)) (now : ℕ) : Type 0 where
    pub accumulators : xs ++ flat_map accumulator_of left ≡ accumulators_of first spec d
    pub arguments : ys ++ flat_map arguments_of left ≡ arguments_of_calls first spec d
    pub moves : OnOld spec accs ordered shown d first (λ y. zs ++ flat_map (move_of y) left ≡ moves_of first spec y d)
    pub hold : OnOld spec accs ordered shown d first (λ y. AllHold y left)
    pub sums : OnOld spec accs ordered shown d first (λ y. first_keyed (flat_map (tested spec (plus y d)) (touched first spec d)) ≡ first_keyed (flat_map (tested spec (plus y d)) left))
    pub count : now + sum_by cost_of left ≤ start + agg_cost first spec d

  pub going_starts : (start : ℕ) (left : List Row) (xs : List (Entry Accumulator)) (ys zs : List (Entry ℤ)) → left ≡ touched first spec d → xs ≡ [] → ys ≡ [] → zs ≡ [] → Going start left xs ys zs start
  going_starts start left xs ys zs all no_xs no_ys no_zs = record {
    accumulators = ap₂ (λ es cs. es ++ flat_map accumulator_of cs) no_xs all;
    arguments = ap₂ (λ es cs. es ++ flat_map arguments_of cs) no_ys all;
    moves = λ s. ap₂ (λ es cs. es ++ flat_map (move_of s.old) cs) no_zs all;
    hold = λ s. subst (AllHold s.old) (sym all) (recursion_from_All (λ c. HoldsShown first spec shown s.old c) (touched first spec d) s.shown_before);
    sums = λ s. ap (λ cs. first_keyed (flat_map (tested spec (plus s.old d)) cs)) (sym all);
    count = subst (λ cs. start + sum_by cost_of cs ≤ start + agg_cost first spec d) (sym all) (le_itself (start + agg_cost first spec d));
  }
    where
      le_itself : (n : ℕ) → n ≤ n
      le_itself n = omega arith

  module _ (start : ℕ) (left : List Row) (xs : List (Entry Accumulator)) (ys zs : List (Entry ℤ)) (now : ℕ) (so_far : Going start left xs ys zs now) where
    module _ (c : Row) (rest : List Row) (next : left ≡ c ∷ rest) where
      next_hold : (s : AggState spec accs ordered shown d first) → HoldsShown first spec shown s.old c × AllHold s.old rest
      next_hold s = subst (AllHold s.old) next (so_far.hold s)

      shows_before : (s : AggState spec accs ordered shown d first) → ShowsRow shown c (row_before first spec s.old c)
      shows_before s = record { shown = λ row. (next_hold s).0.held row ∙ sym (ap (weight row) (row_is_part first spec s.old c)) }

      next_or_rest : (s : AggState spec accs ordered shown d first) → first_keyed (flat_map (tested spec (plus s.old d)) (touched first spec d))
          ≡ option_or (option_map (keyed c) (first_not_bigint (sums_of spec.calls (rows_of_group spec (plus s.old d) c)))) (first_keyed (flat_map (tested spec (plus s.old d)) rest))
      next_or_rest s =
          so_far.sums s ∙ ap (λ cs. first_keyed (flat_map (tested spec (plus s.old d)) cs)) next
          ∙ find-append (λ (p : Row × ℤ). not (is_bigint p.1)) (tested spec (plus s.old d) c) (flat_map (tested spec (plus s.old d)) rest)
          ∙ ap (λ o. option_or o (first_keyed (flat_map (tested spec (plus s.old d)) rest))) (with_its_key c (sums_of spec.calls (rows_of_group spec (plus s.old d) c)))

      cost_left : sum_by cost_of left ≡ cost_of c + sum_by cost_of rest
      cost_left = ap (sum_by cost_of) next ∙ sum_by-cons cost_of c rest

      pub going_on : (key : Row) → key ≡ c → (news : List (Entry Accumulator)) (mores others : List (Entry ℤ)) (after : ℕ)
          → news ≡ xs ++ accumulator_entries spec.calls key (rows_of_group spec d key)
          → mores ≡ ys ++ argument_entries key 0 spec.calls (rows_of_group spec d key)
          → ((r : Option Row) → ShowsRow shown key r → OnState spec accs ordered key (rows_of_group spec d key) (λ z. others ≡ zs ++ shown_entries key r (shown_row spec.global spec.calls key z)))
          → OnState spec accs ordered key (rows_of_group spec d key) (λ z. first_not_bigint (sums_of spec.calls z) ≡ None)
          → after ≤ now + group_cost spec (length (entries (rows_of_group spec d key)))
          → Going start rest news mores others after
      going_on key same news mores others after made added moved inside cost = record {
        accumulators = one_more accumulator_of (touched first spec d) left rest c xs news next so_far.accumulators (made ∙ ap (λ k. xs ++ accumulator_of k) same);
        arguments = one_more arguments_of (touched first spec d) left rest c ys mores next so_far.arguments (added ∙ ap (λ k. ys ++ arguments_of k) same);
        moves = λ s.
            one_more (move_of s.old) (touched first spec d) left rest c zs others next (so_far.moves s)
            (moved (row_before first spec s.old key) (subst (λ k. ShowsRow shown k (row_before first spec s.old k)) (sym same) (shows_before s)) (group_state spec accs ordered shown d first s key)
            ∙ ap (λ k. zs ++ move_of s.old k) same);
        hold = λ s. (next_hold s).1;
        sums = λ s.
            next_or_rest s
            ∙ ap (λ o. option_or (option_map (keyed c) o) (first_keyed (flat_map (tested spec (plus s.old d)) rest)))
            (ap (λ k. first_not_bigint (sums_of spec.calls (rows_of_group spec (plus s.old d) k))) (sym same) ∙ inside (group_state spec accs ordered shown d first s key));
        count = let all = cost_left in let limit = so_far.count in let one = subst (λ k. after ≤ now + cost_of k) same cost in omega arith;
      }

      -- a SUM outside is that of the first such group
      pub going_outside : (key : Row) → key ≡ c → (group : Row) (sum : ℤ) → group ≡ key → OnState spec accs ordered key (rows_of_group spec d key) (λ z. FirstSum spec.calls z sum)
          → OnOld spec accs ordered shown d first (λ y. first_sum_outside spec (plus y d) ≡ Some (group, sum))
      going_outside key same group sum is out s =
          first_sums spec accs ordered shown d first s ∙ next_or_rest s
          ∙ ap (λ o. option_or (option_map (keyed c) o) (first_keyed (flat_map (tested spec (plus s.old d)) rest)))
          (ap (λ k. first_not_bigint (sums_of spec.calls (rows_of_group spec (plus s.old d) k))) (sym same) ∙ out (group_state spec accs ordered shown d first s key))
          ∙ ap (λ k. Some (k, sum)) (sym (is ∙ same))

      pub going_count : (key : Row) → key ≡ c → (after : ℕ) → after ≤ now + group_cost spec (length (entries (rows_of_group spec d key))) → after ≤ start + agg_cost first spec d
      going_count key same after cost = let all = cost_left in let limit = so_far.count in let one = subst (λ k. after ≤ now + cost_of k) same cost in omega arith

    module _ (done : left ≡ []) where
      pub went_accumulators : xs ≡ accumulators_of first spec d
      went_accumulators = all_made accumulator_of (touched first spec d) left xs done so_far.accumulators

      pub went_arguments : ys ≡ arguments_of_calls first spec d
      went_arguments = all_made arguments_of (touched first spec d) left ys done so_far.arguments

      pub went_moves : OnOld spec accs ordered shown d first (λ y. zs ≡ moves_of first spec y d)
      went_moves s = all_made (move_of s.old) (touched first spec d) left zs done (so_far.moves s)

      pub went_sums : OnOld spec accs ordered shown d first (λ y. first_sum_outside spec (plus y d) ≡ None)
      went_sums s = first_sums spec accs ordered shown d first s ∙ so_far.sums s ∙ ap (λ cs. first_keyed (flat_map (tested spec (plus s.old d)) cs)) done

    pub went_count : now ≤ start + agg_cost first spec d
    went_count = let limit = so_far.count in omega arith

-- ---- one group, whose changed rows were found
module _ (spec : AggSpec) (accs : KeptAccumulators) (ordered shown : KeptWeights) (key : Row) (found z : Rows) (is : found ≡ z) where
  pub same_state : (P : Rows → Type 0) → OnState spec accs ordered key found P → OnState spec accs ordered key z P
  same_state P told = subst (λ y. OnState spec accs ordered key y P) is told

  pub moves_shown : (r q : Option Row) (olds news : List (Entry ℤ)) → news ≡ olds ++ shown_entries key r q → ((x : Option Row) → ShowsRow shown key x → r ≡ x)
      → OnState spec accs ordered key found (λ new. q ≡ shown_row spec.global spec.calls key new) → MovesShown spec accs ordered shown key z olds news
  moves_shown r q olds news made was told x shows s =
      made ∙ ap₂ (λ a b. olds ++ shown_entries key a b) (was x shows) (same_state (λ new. q ≡ shown_row spec.global spec.calls key new) told s)
