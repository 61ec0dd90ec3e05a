-- Before anything was there, the states of the nodes keep nothing.
use Rattle.std.proofs.Common.{◌≡◌, ℕ, zero, suc, Bool, true, false, cond, List, [], ◌∷◌, Some, pos, refl, sym, ap, subst, ◌∙◌, is_eq}
use Rattle.std.specs.Prelude.{Option, slice_get}
use Rattle.std.proofs.lemmas.Option.{same_Some}
use Rattle.sq_value.specs.declared.value.Value.{Value}
use Rattle.sq_value.specs.Order.{row_cmp}
use Rattle.sq_algebra.specs.Keyed.{Shards, cut}
use Rattle.sq_algebra.specs.ZSet.{weight}
use Rattle.sq_agg.specs.Accumulators.{accumulated}
use Rattle.sq_agg.proofs.Adding.{accumulated-zero}
use Rattle.sq_circuit.specs.Circuits.{node_at}
use Rattle.sq_circuit.specs.Nodes.{left_key, none, right_key}
use Rattle.sq_circuit.specs.declared.circuit.Part.{Part}
use Rattle.sq_circuit.specs.declared.node.Node.{Node}
use Rattle.sq_circuit.specs.declared.node.Node.TheVariants.{Table, Linear, Join, Distinct, Aggregate, Plus, Minus, View}
use Rattle.sq_distinct.specs.Stepping.{HoldsRows}
use Rattle.sq_join.specs.Stepping.{HoldsByKey, Row}
use Rattle.sq_ops.specs.Aggregates.{group_of}
use Rattle.sq_ops.specs.Arguments.{argument_of, arguments}
use Rattle.sq_ops.specs.Joins.{key_in}
use Rattle.sq_zset.proofs.RowKeys.{at_key-zero, cut-zero}
use Rattle.sq_zset.proofs.RowOperators.{image-zero}
use Rattle.sq_zset.proofs.Rows.{weight-zero}
use Rattle.sq_states.specs.Empty.{empty_state, empty_states}
use Rattle.sq_states.specs.Keeps.{KeepsNode, KeepsParts}
use Rattle.sq_states.proofs.Entered.{at_some}

same_either : {A : Type 0} (b : Bool) (x y : A) → x ≡ y → y ≡ cond b x y
same_either true x y e = sym e
same_either false x y e = refl

no_rows : HoldsRows [] none
no_rows = record { held = λ key row. same_either (is_eq (row_cmp key row)) (weight row none) (pos 0) (weight-zero row) }

no_keys : (key : Row → Option Row) → HoldsByKey key [] none
no_keys key = record { held = λ c row. same_either _ (weight row none) (pos 0) (weight-zero row) ∙ sym (at_some key c row none) }

keeps_none : (S : Shards (List Value)) (s : ℕ) (n : Node) → KeepsParts true S s n (empty_state n) none none
keeps_none S s (Table t) = no_rows
keeps_none S s (Linear i op) = tt
keeps_none S s (Join l r op) = (no_keys (key_in op.left op.nulls_match), no_keys (key_in op.right op.nulls_match))
keeps_none S s (Distinct i) = no_rows
keeps_none S s (Aggregate i spec) = record {
  accumulators = record { held = λ c row. same_either _ _ _ (ap (accumulated spec.calls) (at_key-zero (group_of spec) c) ∙ accumulated-zero spec.calls) };
  arguments = record { held = λ c row i call found ends. sym (ap (weight row) (ap (arguments call.arg) (at_key-zero (group_of spec) c) ∙ image-zero (argument_of call.arg)) ∙ weight-zero row) };
  no_others = record { none = λ k row other. refl };
  shown_rows = λ c here. record { held = λ row. sym (weight-zero row) };
  elsewhere = λ c row away. refl;
}
keeps_none S s (Plus l r) = tt
keeps_none S s (Minus l r) = tt
keeps_none S s (View i v) = tt

pub begins_empty : (S : Shards (List Value)) (s : ℕ) (n : Node) → KeepsNode true S s n (empty_state n) none none
begins_empty S s n =
    subst (λ z. KeepsParts true S s n (empty_state n) (cut S (left_key n) s none) z) (sym (cut-zero S (right_key n) s))
    (subst (λ y. KeepsParts true S s n (empty_state n) y none) (sym (cut-zero S (left_key n) s)) (keeps_none S s n))

pub state_of_node : (c : List Part) (i : ℕ) (n : Node) → node_at c i ≡ Some n → slice_get (empty_states c) i ≡ Some (empty_state n)
state_of_node [] i n e = absurd (cc e)
state_of_node (p ∷ c) zero n e = ap (λ m. Some (empty_state m)) (same_Some p.node n e)
state_of_node (p ∷ c) (suc i) n e = state_of_node c i n e
