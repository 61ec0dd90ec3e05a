use Rattle.std.proofs.Common.{sym}
use Rattle.sq_scope.proofs.NamesPlaces.{late_first}
use Rattle.sq_scope.proofs.found_columns.Sight.of.Goals as goal

pub returns-else-place-sources : goal.returns-else-place-sources
returns-else-place-sources c = record {
  count = c.places_before-count.ensures;
  first = late_first c.args.sources c.args.places.now c.in-Some.place.now (sym c.in-Some.ensures.value) c.if-place-sources.false c.requires;
}
