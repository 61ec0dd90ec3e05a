use Rattle.std.proofs.Common.{◌<◌, length, arith}
use Rattle.std.specs.List.{flat_map, list_any}
use Rattle.sq_ast.specs.declared.cond.CondTree.{CondTree}
use Rattle.sq_typed.specs.Leaves.{refs, exprs_in}
use Rattle.sq_typed.specs.Scopes.{Scope}
use Rattle.sq_scope.specs.NamesReferences.{is_at_fault}
use Rattle.sq_scope.proofs.NamesReferences.{joins_step}
use Rattle.sq_scope.proofs.references.any_in_joins.Goals as goal

pub loop-i-preserved : goal.loop-i-preserved
loop-i-preserved c =
    let within : c.loop-i.i < length c.args.joins.now = omega arith in
    joins_step (λ (on : Scope × CondTree). list_any (is_at_fault c.args.fault on.0) (flat_map refs (exprs_in on.1))) c.args.scope.now c.args.joins.now c.loop-i.i c.index-joins-i.result c.loop-i.any c.any_in_join-any.result
    within c.loop-i.invariant c.index-joins-i.is c.any_in_join-any.ensures
