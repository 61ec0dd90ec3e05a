use Rattle.sq_incr.proofs.Keying.{group_keys}
use Rattle.sq_incr.proofs.keys.group_part.Goals as goal

pub part_by-requires-2-clause-keys : goal.part_by-requires-2-clause-keys
part_by-requires-2-clause-keys c = group_keys c.args.spec.now c.as_slice.result.now c.args.z c.if-spec.false c.as_slice.ensures c.requires.keys
