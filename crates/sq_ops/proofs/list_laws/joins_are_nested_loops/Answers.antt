use Rattle.sq_ops.proofs.ListTies.{nested_loops}
use Rattle.sq_ops.proofs.list_laws.joins_are_nested_loops.Goals as goal

pub returns-clause-lists : goal.returns-clause-lists
returns-clause-lists g c op rows others = nested_loops (g.B.Bilinear.left_keys op) (g.B.Bilinear.right_keys op) (g.B.Bilinear.pairs op) rows others
