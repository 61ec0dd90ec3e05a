use Rattle.std.proofs.Common.{◌≡◌, take}
use Rattle.std.specs.List.{list_any}
use Rattle.sq_scope.specs.NamesFaults.{is_unnamed}
use Rattle.sq_scope.proofs.names.any_unnamed.Given as goal

abbrev pub invariant-loop-item : goal.invariant-loop-item
invariant-loop-item l = l.any ≡ list_any is_unnamed (take l.item-index l.items)
