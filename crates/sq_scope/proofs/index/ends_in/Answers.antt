use Rattle.std.proofs.Common.{sym}
use Rattle.sq_scope.proofs.NamesBuilt.{last_of}
use Rattle.sq_scope.proofs.index.ends_in.Goals as goal

pub returns-in-Some : goal.returns-in-Some
returns-in-Some c = last_of c.args.source c.args.places.now c.in-Some.place.now (sym c.in-Some.ensures.value)
