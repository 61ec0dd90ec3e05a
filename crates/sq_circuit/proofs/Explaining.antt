-- The lines of a circuit's nodes, one after the other.
use Rattle.std.proofs.Common.{◌≡◌, ℕ, zero, suc, ◌+◌, List, [], ◌∷◌, ◌++◌, drop, Some, sym, ap, subst, ◌∙◌, arith, append_assoc}
use Rattle.std.specs.List.{enumerate_from, flat_map}
use Rattle.std.proofs.lemmas.Option.{same_Some}
use Rattle.sq_circuit.specs.Circuits.{node_at}
use Rattle.sq_circuit.specs.Explained.{explained, node_text}
use Rattle.sq_circuit.specs.declared.circuit.Part.{Part}
use Rattle.sq_circuit.specs.declared.node.Node.{Node}

-- the lines of some nodes, the first of them with this number
abbrev pub lines_from : ℕ → List Part → List ℕ
lines_from n c = flat_map (λ p. node_text p.0 p.1.node) (enumerate_from n c)

drop_here : (c : List Part) (i n : ℕ) (node : Node) → node_at c i ≡ Some node → lines_from n (drop i c) ≡ node_text n node ++ lines_from (n + 1) (drop (suc i) c)
drop_here [] i n node e = absurd (cc)
drop_here (p ∷ c) zero n node e = ap (λ m. node_text n m ++ lines_from (n + 1) c) (same_Some p.node node e)
drop_here (p ∷ c) (suc i) n node e = drop_here c i n node e

-- the line of the next node
pub next_line : (c : List Part) (i : ℕ) (node : Node) (out : List ℕ) → node_at c i ≡ Some node → out ++ lines_from i (drop i c) ≡ explained c
    → (out ++ node_text i node) ++ lines_from (i + 1) (drop (i + 1) c) ≡ explained c
next_line c i node out e so_far =
    let next : suc i ≡ i + 1 = omega arith in
    append_assoc out (node_text i node) (lines_from (i + 1) (drop (i + 1) c))
    ∙ ap (λ t. out ++ t) (sym (subst (λ n. lines_from i (drop i c) ≡ node_text i node ++ lines_from (i + 1) (drop n c)) next (drop_here c i i node e))) ∙ so_far

-- behind the last node no line is left
pub no_line : (c : List Part) (i : ℕ) (out : List ℕ) → drop i c ≡ [] → out ++ lines_from i (drop i c) ≡ explained c → out ++ [] ≡ explained c
no_line c i out none so_far = subst (λ (ps : List Part). out ++ lines_from i ps ≡ explained c) none so_far
