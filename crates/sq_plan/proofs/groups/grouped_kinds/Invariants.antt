use Rattle.std.proofs.Common.{◌≡◌, ◌++◌, map, take, get_or}
use Rattle.sq_expr.specs.declared.expr.Kind.TheVariants.{Bigint}
use Rattle.sq_typed.specs.Numbered.{call_kind}
use Rattle.sq_plan.proofs.groups.grouped_kinds.Given as goal

abbrev pub invariant-loop-column : goal.invariant-loop-column
invariant-loop-column l = l.own ≡ map (λ n. get_or l.kinds n Bigint) (take l.column-index l.column-items)

abbrev pub invariant-loop-call : goal.invariant-loop-call
invariant-loop-call l = l.own ≡ map (λ n. get_or l.kinds n Bigint) l.grouping.columns ++ map (λ c. call_kind l.kinds c.func c.arg) (take l.call-index l.call-items)
