use Rattle.std.proofs.Common.{sym, ap, ◌∙◌}
use Rattle.std.specs.Prelude.{slice_get}
use Rattle.sq_scope.specs.NamesIndex.{number_if_at}
use Rattle.sq_scope.proofs.NamesPlaces.{at_its_place}
use Rattle.sq_scope.proofs.index.number_in.Goals as goal

pub returns : goal.returns
returns c =
    c.number_if.ensures ∙ (ap (number_if_at c.args.source) (c.at.ensures ∙ ap (slice_get c.args.places.now) c.places_before.ensures) ∙ sym (at_its_place c.args.source c.args.places.now c.requires))
