use Rattle.std.proofs.Common.{ap, arith, ◌∙◌}
use Rattle.std.specs.List.{flat_map}
use Rattle.std.proofs.lemmas.List.{take_all}
use Rattle.sq_scope.specs.TypesItems.{starred_at}
use Rattle.sq_scope.proofs.TypesStars.{is_inside, of_name}
use Rattle.sq_scope.proofs.list_items.starred_of.Goals as goal

pub columns_at-requires : goal.columns_at-requires
columns_at-requires c = is_inside c.args.scope.now c.args.name.now c.named-place-items.result.now c.loop-place.place-index c.named-place-items.ensures (omega arith)

pub returns : goal.returns
returns c =
    c.loop-place.invariant
    ∙ (ap (flat_map (starred_at c.args.scope.now)) (take_all c.loop-place.place-index c.named-place-items.result.now (omega arith) ∙ c.named-place-items.ensures)
    ∙ of_name c.args.scope.now c.args.name.now)
