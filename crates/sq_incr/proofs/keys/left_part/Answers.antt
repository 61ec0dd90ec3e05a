use Rattle.std.proofs.Common.{sym, subst}
use Rattle.sq_incr.specs.Inputs.{HaveColumns, HaveLeftKeys}
use Rattle.sq_incr.proofs.keys.left_part.Goals as goal

pub part_by-requires-clause-keys : goal.part_by-requires-clause-keys
part_by-requires-clause-keys c = subst (λ cs. HaveColumns cs c.args.z) (sym c.as_slice.ensures) (subst (λ n. HaveLeftKeys n c.args.z) c.in-Join.is c.requires.keys)

pub group_part-requires-clause-keys : goal.group_part-requires-clause-keys
group_part-requires-clause-keys c = subst (λ n. HaveLeftKeys n c.args.z) c.in-Aggregate.is c.requires.keys
