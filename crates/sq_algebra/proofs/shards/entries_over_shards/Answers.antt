use Rattle.std.specs.Prelude.{IsTrue}
use Rattle.sq_algebra.proofs.MemberLemmas.{any-from_shards, any-to_shards}
use Rattle.sq_algebra.proofs.shards.entries_over_shards.Goals as goal

pub returns : goal.returns
returns g c identical S key p z = (any-to_shards S g.K.Ord.cmp g.met.K.Ord.total identical key (λ e. IsTrue (p e)) z, any-from_shards S g.K.Ord.cmp g.met.K.Ord.total identical key (λ e. IsTrue (p e)) z)
