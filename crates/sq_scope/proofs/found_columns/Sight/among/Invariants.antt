use Rattle.sq_scope.proofs.NamesPlaces.{SeenSoFar}
use Rattle.sq_scope.proofs.found_columns.Sight.among.Given as goal

abbrev pub invariant-loop-source : goal.invariant-loop-source
invariant-loop-source l = SeenSoFar l.sight l.sources l.places l.named l.source-index
