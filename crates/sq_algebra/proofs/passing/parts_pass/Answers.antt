use Rattle.std.specs.Ordering.{nat_cmp}
use Rattle.sq_algebra.proofs.PassingLemmas.{distinct_passes, kept_passes, part_passes, tested_passes}
use Rattle.sq_algebra.proofs.Tests.{T_from, from_T}
use Rattle.sq_algebra.proofs.passing.parts_pass.Goals as goal

pub returns-clause-kept : goal.returns-clause-kept
returns-clause-kept g c p q z h = from_T _ (kept_passes p g.K.Ord.cmp g.met.K.Ord.total q z (T_from _ h))

pub returns-clause-tested : goal.returns-clause-tested
returns-clause-tested g c p z = from_T _ (tested_passes p g.K.Ord.cmp g.met.K.Ord.total z)

pub returns-clause-part : goal.returns-clause-part
returns-clause-part g c p Q key d z h = from_T _ (part_passes p g.K.Ord.cmp g.met.K.Ord.total Q key d z (T_from _ h))

pub returns-clause-shard : goal.returns-clause-shard
returns-clause-shard g c p S key s z h = from_T _ (part_passes p g.K.Ord.cmp g.met.K.Ord.total nat_cmp (λ k. S.shard (key k)) s z (T_from _ h))

pub returns-clause-distinct : goal.returns-clause-distinct
returns-clause-distinct g c p z h = from_T _ (distinct_passes p g.K.Ord.cmp g.met.K.Ord.total z (T_from _ h))
