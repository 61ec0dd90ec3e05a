-- What nodes keep before anything was there.
--     empty_state n     the state of a node of which nothing is kept yet
use Rattle.std.specs.Prelude.{List, [], map}
use Rattle.sq_circuit.specs.declared.circuit.Part.{Part}
use Rattle.sq_circuit.specs.declared.node.Node.{Node}
use Rattle.sq_circuit.specs.declared.node.Node.TheVariants.{Table, Linear, Join, Distinct, Aggregate, Plus, Minus, View}
use Rattle.sq_states.specs.declared.kept.NodeState.{NodeState}
use Rattle.sq_states.specs.declared.kept.NodeState.TheVariants as state

abbrev pub empty_state : Node → NodeState
empty_state (Table t) = state.Rows []
empty_state (Linear i op) = state.Nothing
empty_state (Join l r op) = state.Sides [] []
empty_state (Distinct i) = state.Rows []
empty_state (Aggregate i spec) = state.Groups [] [] []
empty_state (Plus l r) = state.Nothing
empty_state (Minus l r) = state.Nothing
empty_state (View i v) = state.Nothing

abbrev pub empty_states : List Part → List NodeState
empty_states c = map (λ p. empty_state p.node) c
