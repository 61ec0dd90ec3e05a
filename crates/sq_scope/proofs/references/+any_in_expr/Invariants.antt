use Rattle.std.proofs.Common.{◌≡◌, take}
use Rattle.std.specs.List.{list_any}
use Rattle.sq_typed.specs.Leaves.{refs}
use Rattle.sq_scope.specs.NamesReferences.{is_at_fault}
use Rattle.sq_scope.proofs.references.+any_in_expr.Given as goal

abbrev pub invariant-loop-term : goal.invariant-loop-term
invariant-loop-term l = l.any ≡ list_any (λ t. list_any (is_at_fault l.fault (take l.sources l.scope)) (refs t.expr)) (take l.term-index l.term-items)

abbrev pub invariant-loop-factor : goal.invariant-loop-factor
invariant-loop-factor l = l.any ≡ list_any (λ e. list_any (is_at_fault l.fault (take l.sources l.scope)) (refs e)) (take l.factor-index l.factor-items)
