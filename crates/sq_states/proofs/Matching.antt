-- What is known of a node and its state, once both are matched.
use Rattle.std.proofs.Common.{◌≡◌, ℕ, Bool, sym, subst}
use Rattle.std.specs.Prelude.{Result}
use Rattle.sq_circuit.specs.LinearOps.{SuitsOp}
use Rattle.sq_circuit.specs.Nodes.{Rows}
use Rattle.sq_circuit.specs.declared.node.LinearOp.{LinearOp}
use Rattle.sq_circuit.specs.declared.node.Node.{Node}
use Rattle.sq_circuit.specs.declared.node.Node.TheVariants.{Linear}
use Rattle.sq_ops.specs.Fits.{FitsRow, FitsRows}
use Rattle.sq_states.specs.Steps.{IsStepped, NodeStep}
use Rattle.sq_states.specs.declared.kept.NodeState.{NodeState}
use Rattle.sq_states.specs.declared.piece.Piece.{Piece}
use Rattle.sq_states.specs.declared.piece.StepRefusal.{StepRefusal}
use Rattle.sq_states.proofs.Shares.{each_of}

module _ (left right : Rows) (first : Bool) where
  pub of_node : (n m : Node) (kept : NodeState) → n ≡ m → NodeStep n kept left right first → NodeStep m kept left right first
  of_node n m kept e h = subst (λ n. NodeStep n kept left right first) e h

  pub of_state : (n m : Node) (kept held : NodeState) → n ≡ m → kept ≡ held → NodeStep n kept left right first → NodeStep m held left right first
  of_state n m kept held e same h = subst (λ k. NodeStep m k left right first) same (of_node n m kept e h)

  module _ (result : Result Piece StepRefusal) (old new : ℕ) where
    pub to_node : (n m : Node) (kept : NodeState) → n ≡ m → IsStepped m kept left right first result old new → IsStepped n kept left right first result old new
    to_node n m kept e h = subst (λ n. IsStepped n kept left right first result old new) (sym e) h

    pub to_state : (n m : Node) (kept held : NodeState) → n ≡ m → kept ≡ held → IsStepped m held left right first result old new → IsStepped n kept left right first result old new
    to_state n m kept held e same h = to_node n m kept e (subst (λ k. IsStepped m k left right first result old new) (sym same) h)

  pub linear_fits : (i : ℕ) (op : LinearOp) (kept : NodeState) → NodeStep (Linear i op) kept left right first → FitsRows (SuitsOp op) left
  linear_fits i op kept h = each_of h.S (λ row. row) h.s (FitsRow (SuitsOp op)) h.dy left h.left_is h.takes
