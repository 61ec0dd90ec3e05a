-- The states of the nodes before anything was there.
use Rattle.std.proofs.Common.{◌≡◌, ℕ, ◌+◌, List, [], ◌∷◌, ◌++◌, map, take, Some, None, refl, sym, ap, ap₂, ◌∙◌}
use Rattle.std.specs.Prelude.{Option, slice_get}
use Rattle.std.proofs.lemmas.Option.{same_Some}
use Rattle.sq_expr.proofs.Lists.{take_more}
use Rattle.sq_circuit.specs.Circuits.{node_at, node_in}
use Rattle.sq_circuit.specs.declared.circuit.Part.{Part}
use Rattle.sq_circuit.specs.declared.node.Node.{Node}
use Rattle.sq_states.specs.Empty.{empty_state, empty_states}
use Rattle.sq_states.specs.declared.kept.NodeState.{NodeState}

mapped : {X Y : Type 0} (f : X → Y) (xs : List X) (x : X) → map f (xs ++ x ∷ []) ≡ map f xs ++ f x ∷ []
mapped f [] x = refl
mapped f (y ∷ xs) x = ap (λ zs. f y ∷ zs) (mapped f xs x)

pub one_more_state : (c : List Part) (i : ℕ) (n : Node) (x : NodeState) (items new : List NodeState) → node_at c i ≡ Some n → x ≡ empty_state n → items ≡ empty_states (take i c) → new ≡ items ++ x ∷ [] → new ≡ empty_states (take (i + 1) c)
one_more_state c i n x items new at is before now = step (slice_get c i) refl
  where
    step : (o : Option Part) → slice_get c i ≡ o → new ≡ empty_states (take (i + 1) c)
    step None e = absurd (let same = sym (ap node_in e) ∙ at in cc)
    step (Some p) e =
        now
        ∙ ap₂ (λ xs y. xs ++ y ∷ []) before (is ∙ ap empty_state (sym (same_Some p.node n (sym (ap node_in e) ∙ at))))
        ∙ sym (ap empty_states (take_more c i p e) ∙ mapped (λ p. empty_state p.node) (take i c) p)
