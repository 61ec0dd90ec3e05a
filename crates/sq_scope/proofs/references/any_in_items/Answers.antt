use Rattle.std.proofs.Common.{◌≤◌, length, arith}
use Rattle.sq_scope.specs.NamesReferences.{is_at_fault}
use Rattle.sq_scope.proofs.NamesReferences.{any_items_done}
use Rattle.sq_scope.proofs.references.any_in_items.Goals as goal

pub returns : goal.returns
returns c =
    let all : length c.args.items.now ≤ c.loop-item.item-index = omega arith in
    any_items_done (is_at_fault c.args.fault c.args.scope.now) c.args.items.now c.loop-item.item-index c.loop-item.any all c.loop-item.invariant
