-- Where a step changes nothing: under keys that are no arguments', and of groups that it does not look at.
use Rattle.std.proofs.Common.{◌≡◌, ◌+◌, ℕ, suc, zero, List, [], ◌∷◌, ◌++◌, Bool, true, false, cond, ℤ, pos, Some, refl, sym, ap, ◌∙◌, arith}
use Rattle.std.specs.Prelude.{slice_get}
use Rattle.std.specs.List.{All, AllByRecursion, flat_map}
use Rattle.std.proofs.lemmas.List.Elements.{recursion_from_All}
use Rattle.sq_algebra.specs.Groups.{integers}
use Rattle.sq_algebra.specs.ZSet.{entries}
use Rattle.sq_ops.specs.Aggregates.{rows_of_group}
use Rattle.sq_ops.specs.Arguments.{arguments}
use Rattle.sq_ops.specs.declared.aggregate.AggSpec.{AggSpec}
use Rattle.sq_ops.specs.declared.aggregate.Call.{Call}
use Rattle.sq_trace.specs.Keys.{IsRunOf, NoneAt}
use Rattle.sq_trace.specs.Runs.{Place, at}
use Rattle.sq_trace.specs.declared.entry.Entry.{Entry}
use Rattle.sq_zset.specs.GroupLaws.{integers_are_abelian}
use Rattle.sq_zset.specs.Range.{number_outside}
use Rattle.sq_agg.specs.Aggregating.{AddsNoOthers, LeavesOthers, touched}
use Rattle.sq_agg.specs.Entering.{argument_entries, arguments_of_calls, call_entries, kept_entries, moves_of, row_after, row_before, shown_entries}
use Rattle.sq_agg.specs.Kept.{IsOtherKey, Row, Rows, argument_key, has_ends}
use Rattle.sq_agg.proofs.Entered.{itself, none_kept, shown_home}
use Rattle.sq_agg.proofs.Homes.{at_none, none_at-append, none_away}

-- ---- groups one after another
everywhere : {X : Type 0} (P : X → Type 0) → ((x : X) → P x) → (xs : List X) → AllByRecursion P xs
everywhere P h [] = tt
everywhere P h (x ∷ xs) = (h x, everywhere P h xs)

module _ (p : Place) where
  none_at-flat : (f : Row → List (Entry ℤ)) (cs : List Row) → AllByRecursion (λ c. NoneAt p (f c)) cs → NoneAt p (flat_map f cs)
  none_at-flat f [] h = tt
  none_at-flat f (c ∷ cs) h = none_at-append p (f c) (flat_map f cs) h.0 (none_at-flat f cs h.1)

  nothing_there : (es : List (Entry ℤ)) → NoneAt p es → at integers p es ≡ pos 0
  nothing_there es none = at_none {A = ℤ} itself (λ d. []) (λ d. tt) integers integers_are_abelian p es none

-- ---- the keys of arguments
module _ (k row c : Row) (z : Rows) where
  front_of : (j : ℕ) → j ≡ j + 0
  front_of j = omega arith

  next_of : (j i : ℕ) → suc j + i ≡ j + suc i
  next_of j i = omega arith

  no_argument : (j : ℕ) (calls : List Call) → ((i : ℕ) (call : Call) → slice_get calls i ≡ Some call → has_ends call.func ≡ true → k ≡ argument_key c (j + i) → ⊥) → NoneAt (k, row) (argument_entries c j calls z)
  no_argument j [] other = tt
  no_argument j (call ∷ calls) other =
      none_at-append (k, row) (call_entries c j call z) (argument_entries c (suc j) calls z)
      (elim (has_ends call.func) as (λ b. has_ends call.func ≡ b → NoneAt (k, row) (cond b (kept_entries c j (entries (arguments call.arg z))) [])) [
        | true ↦ λ ends. none_kept c j (k, row) (entries (arguments call.arg z)) (λ same. other zero call refl ends (sym same ∙ ap (argument_key c) (front_of j)))
        | false ↦ λ ends. tt
      ] refl)
      (no_argument (suc j) calls (λ i f found ends same. other (suc i) f found ends (same ∙ ap (argument_key c) (next_of j i))))

zero_front : (i : ℕ) → 0 + i ≡ i
zero_front i = omega arith

module _ (spec : AggSpec) (d : Rows) (first : Bool) where
  pub no_others_change : (change : List (Entry ℤ)) → IsRunOf integers number_outside (arguments_of_calls first spec d) change → AddsNoOthers spec change
  no_others_change change run k row other =
      run.held (k, row)
      ∙ nothing_there (k, row) (arguments_of_calls first spec d)
      (none_at-flat (k, row) (λ c. argument_entries c 0 spec.calls (rows_of_group spec d c)) (touched first spec d)
      (everywhere (λ c. NoneAt (k, row) (argument_entries c 0 spec.calls (rows_of_group spec d c)))
      (λ c. no_argument k row c (rows_of_group spec d c) 0 spec.calls (λ i call found ends same. other c i call found ends (same ∙ ap (argument_key c) (zero_front i))))
      (touched first spec d)))

-- ---- groups that a step does not look at
module _ (spec : AggSpec) (y d : Rows) (first : Bool) where
  away : (c row : Row) (cs : List Row) → AllByRecursion (λ k. k ≡ c → ⊥) cs → AllByRecursion (λ k. NoneAt (c, row) (shown_entries k (row_before first spec y k) (row_after spec y d k))) cs
  away c row [] h = tt
  away c row (k ∷ cs) h = (
    none_away itself k (c, row) (shown_entries k (row_before first spec y k) (row_after spec y d k)) (shown_home k (row_before first spec y k) (row_after spec y d k)) (λ same. h.0 (sym same)),
    away c row cs h.1,
  )

  pub others_stay : (change : List (Entry ℤ)) → IsRunOf integers number_outside (moves_of first spec y d) change → LeavesOthers first spec d change
  others_stay change run c row others =
      run.held (c, row)
      ∙ nothing_there (c, row) (moves_of first spec y d)
      (none_at-flat (c, row) (λ k. shown_entries k (row_before first spec y k) (row_after spec y d k)) (touched first spec d)
      (away c row (touched first spec d) (recursion_from_All (λ k. k ≡ c → ⊥) (touched first spec d) others)))
