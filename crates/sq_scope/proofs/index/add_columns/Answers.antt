use Rattle.std.proofs.Common.{◌<◌, length, ap, ◌∙◌, arith}
use Rattle.sq_scope.specs.NamesIndex.{spots_of}
use Rattle.sq_scope.proofs.NamesBuilt.{column_more}
use Rattle.sq_scope.proofs.index.add_columns.Goals as goal

pub loop-i-preserved : goal.loop-i-preserved
loop-i-preserved c =
    let within : c.loop-i.i < length c.args.columns.now = omega arith in
    column_more c.args.source c.args.begin c.args.columns.now c.loop-i.i c.index-columns-i.result c.as_str.result.now (spots_of c.args.places.now) (spots_of c.loop-i.places) (spots_of c.add_first_place.new.places)
    within (c.as_str.ensures ∙ ap (λ x. x.name) c.index-columns-i.is) c.requires.behind c.loop-i.invariant c.in_ok-add_first_place.ensures
