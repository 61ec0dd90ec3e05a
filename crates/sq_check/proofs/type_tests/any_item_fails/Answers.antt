use Rattle.std.specs.List.{list_any}
use Rattle.sq_typed.specs.Selected.{written_out}
use Rattle.sq_check.specs.TypesTests.{item_fails}
use Rattle.sq_scope.proofs.TypesStarsOnce.{of_all}
use Rattle.sq_check.proofs.type_tests.any_item_fails.Goals as goal

pub returns : goal.returns
returns c = of_all (λ i. list_any (item_fails c.args.test c.args.frame.now) (written_out c.args.scope.now i)) c.as_slice.result.now c.in_ok-told_apart.told_apart.items c.args.items.now c.in_ok-found.found c.in_ok-found.ensures c.as_slice.ensures.value c.in_ok-told_apart.ensures
