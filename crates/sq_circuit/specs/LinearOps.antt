-- The linear operators that a node may have, each as sq_ops says of it.
--     images_of op row     the images of a row.      tested_of op row     the numbers of a row that are tested
--     SuitsOp op kinds     the operator takes rows of these kinds
use Rattle.std.specs.Prelude.{ℤ, List, [], ◌∷◌, ⊤}
use Rattle.std.specs.List.{AllByRecursion}
use Rattle.sq_value.specs.declared.value.Value.{Value}
use Rattle.sq_expr.specs.declared.expr.Kind.{Kind}
use Rattle.sq_expr.specs.Fits.{Suits, SuitsCond}
use Rattle.sq_ops.specs.Rows.{items_of, kept, numbers_of, padded}
use Rattle.sq_circuit.specs.declared.node.LinearOp.{LinearOp}
use Rattle.sq_circuit.specs.declared.node.LinearOp.TheVariants.{Keep, Project, Pad}

abbrev pub images_of : LinearOp → List Value → List (List Value)
images_of (Keep op) row = kept op.cond row
images_of (Project op) row = items_of op.items row ∷ []
images_of (Pad op) row = padded op.nulls row ∷ []

abbrev pub tested_of : LinearOp → List Value → List ℤ
tested_of (Keep op) row = []
tested_of (Project op) row = numbers_of op.items row
tested_of (Pad op) row = []

abbrev pub SuitsOp : LinearOp → List Kind → Type 0
SuitsOp (Keep op) kinds = SuitsCond kinds op.cond
SuitsOp (Project op) kinds = AllByRecursion (Suits kinds) op.items
SuitsOp (Pad op) kinds = ⊤
