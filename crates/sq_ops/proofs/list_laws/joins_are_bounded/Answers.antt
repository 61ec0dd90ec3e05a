use Rattle.sq_ops.proofs.Joining.{change_weighs, join_weighs}
use Rattle.sq_ops.proofs.list_laws.joins_are_bounded.Goals as goal

pub returns-clause-whole : goal.returns-clause-whole
returns-clause-whole g c op y z = join_weighs (g.B.Bilinear.left_keys op) (g.B.Bilinear.right_keys op) (g.B.Bilinear.pairs op) y z

pub returns-clause-change : goal.returns-clause-change
returns-clause-change g c op y dy z dz = change_weighs (g.B.Bilinear.left_keys op) (g.B.Bilinear.right_keys op) (g.B.Bilinear.pairs op) y dy z dz
