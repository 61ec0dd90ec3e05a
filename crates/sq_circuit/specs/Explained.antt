-- A circuit as text: a line for each node, with its number, its kind, and the numbers of the nodes that it reads.
--     kind_text node, inputs_text node      the kind of a node, and what it reads
--     node_text i node         the line of the node i
--     explained c              the lines of all nodes, in order
use Rattle.std.specs.Prelude.{ℕ, List, [], ◌++◌, codes, decimal}
use Rattle.std.specs.List.{enumerate_from, flat_map}
use Rattle.sq_circuit.specs.declared.circuit.Part.{Part}
use Rattle.sq_circuit.specs.declared.node.Node.{Node}
use Rattle.sq_circuit.specs.declared.node.Node.TheVariants.{Table, Linear, Join, Distinct, Aggregate, Plus, Minus, View}

abbrev pub kind_text : Node → List ℕ
kind_text (Table t) = codes "table"
kind_text (Linear i op) = codes "linear"
kind_text (Join l r op) = codes "join"
kind_text (Distinct i) = codes "distinct"
kind_text (Aggregate i spec) = codes "aggregate"
kind_text (Plus l r) = codes "plus"
kind_text (Minus l r) = codes "minus"
kind_text (View i v) = codes "view"

abbrev pub pair_text : ℕ → ℕ → List ℕ
pair_text l r = decimal l ++ (codes "," ++ decimal r)

abbrev pub inputs_text : Node → List ℕ
inputs_text (Table t) = []
inputs_text (Linear i op) = decimal i
inputs_text (Join l r op) = pair_text l r
inputs_text (Distinct i) = decimal i
inputs_text (Aggregate i spec) = decimal i
inputs_text (Plus l r) = pair_text l r
inputs_text (Minus l r) = pair_text l r
inputs_text (View i v) = decimal i

abbrev pub node_text : ℕ → Node → List ℕ
node_text i node = codes "{\"node\":" ++ (decimal i ++ (codes ",\"kind\":\"" ++ (kind_text node ++ (codes "\",\"inputs\":[" ++ (inputs_text node ++ codes "]}\n")))))

abbrev pub explained : List Part → List ℕ
explained c = flat_map (λ p. node_text p.0 p.1.node) (enumerate_from 0 c)
