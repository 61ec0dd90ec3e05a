use Rattle.std.proofs.Common.{◌≡◌, take}
use Rattle.std.specs.List.{flat_map}
use Rattle.sq_typed.specs.Leaves.{leaves}
use Rattle.sq_scope.specs.TypesGroups.{with_calls}
use Rattle.sq_scope.proofs.calls.+calls.Given as goal

-- the calls of the terms so far are there
abbrev pub invariant-push_term_calls-loop-term : goal.invariant-push_term_calls-loop-term
invariant-push_term_calls-loop-term l = l.calls ≡ with_calls l.row l.initial.calls (flat_map (λ t. leaves t.expr) (take l.term-index l.terms))

-- the calls of the factors so far are there
abbrev pub invariant-push_factor_calls-loop-factor : goal.invariant-push_factor_calls-loop-factor
invariant-push_factor_calls-loop-factor l = l.calls ≡ with_calls l.row l.initial.calls (flat_map leaves (take l.factor-index l.factors))
