use Rattle.std.proofs.Common.{◌≡◌, take}
use Rattle.std.specs.List.{flat_map}
use Rattle.sq_scope.specs.TypesGroups.{with_calls}
use Rattle.sq_scope.specs.TypesLeaves.{leaves_of_item}
use Rattle.sq_scope.proofs.calls.push_list_calls.Given as goal

-- the calls of the items so far are there
abbrev pub invariant-loop-item : goal.invariant-loop-item
invariant-loop-item l = l.calls ≡ with_calls l.row l.initial.calls (flat_map leaves_of_item (take l.item-index l.items))
