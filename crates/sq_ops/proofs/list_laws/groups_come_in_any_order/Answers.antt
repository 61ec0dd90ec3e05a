use Rattle.sq_ops.proofs.ListTies.{groups_in_any_order}
use Rattle.sq_ops.proofs.list_laws.groups_come_in_any_order.Goals as goal

pub returns : goal.returns
returns c spec keys rows e each = groups_in_any_order spec keys rows e each
