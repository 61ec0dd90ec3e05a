-- The faults of a block's sources stand apart from those of its own steps.
use Rattle.std.proofs.Common.{◌≡◌, ℕ, suc, ◌+◌, Bool, true, false, ◌||◌, List, [], ◌∷◌, length, map, refl, sym, ap, ◌∙◌}
use Rattle.std.specs.Prelude.{Option, Some, None}
use Rattle.std.specs.List.{list_any}
use Rattle.std.proofs.Math.Bool.{or_assoc}
use Rattle.sq_expr.specs.declared.cond.Cond.{Cond}
use Rattle.sq_expr.specs.declared.expr.Expr.{Expr}
use Rattle.sq_bridge.specs.Groups.{block_node, has_group_fault, item_node, once_node, selected_node}
use Rattle.sq_bridge.specs.Nodes.{Node, NodeSource, first_node, has_fault_of_pairs, has_item_outside, joined_node, lists_too_many, next_node, node_widths, nodes_from, stage_rows}
use Rattle.sq_bridge.specs.Queries.{relation_node}
use Rattle.sq_circuit.specs.Nodes.{Rows}
use Rattle.sq_typed.specs.declared.query.FromJoin.{FromJoin}
use Rattle.sq_typed.specs.declared.query.FromJoin.TheVariants.{Comma, Inner, Left}
use Rattle.sq_typed.specs.declared.query.Grouping.{Grouping}
use Rattle.sq_typed.specs.From.{members_at, members_of}
use Rattle.sq_plan.proofs.Primitives.{or_false}

-- a source without its fault, and a node with a further one
abbrev pub clean : NodeSource → NodeSource
clean s = record { join = s.join; node = relation_node s.node }

abbrev pub raise : Bool → Node → Node
raise a n = record { width = n.width; rows = n.rows; fault = a || n.fault }

shuffle : (a f s own : Bool) → (((a || f) || s) || own) ≡ ((a || s) || ((f || false) || own))
shuffle true f s own = refl
shuffle false true true own = refl
shuffle false true false own = refl
shuffle false false s own = refl

same_pairs : (w : ℕ) (z : Rows) (n : Node) (join : FromJoin) → has_fault_of_pairs w z n join ≡ has_fault_of_pairs w z (relation_node n) join
same_pairs w z n Comma = refl
same_pairs w z n (Inner on) = refl
same_pairs w z n (Left on) = refl

same_stage : (w : ℕ) (z : Rows) (n : Node) (conds : List Cond) (join : FromJoin) → stage_rows w z n conds join ≡ stage_rows w z (relation_node n) conds join
same_stage w z n conds Comma = refl
same_stage w z n conds (Inner on) = refl
same_stage w z n conds (Left on) = refl

next_apart : (conds : List Cond) (a : Bool) (c : Node) (s : NodeSource) → next_node conds (raise a c) s ≡ raise (a || s.node.fault) (next_node conds c (clean s))
next_apart conds a c s j = record {
  width = c.width + s.node.width;
  rows = (same_stage c.width c.rows s.node conds s.join j).1;
  fault = (shuffle a c.fault s.node.fault (has_fault_of_pairs c.width c.rows s.node s.join || lists_too_many (stage_rows c.width c.rows s.node conds s.join).0)
      ∙ ap (λ own. (a || s.node.fault) || ((c.fault || false) || own)) (λ k. same_pairs c.width c.rows s.node s.join k || lists_too_many (same_stage c.width c.rows s.node conds s.join k).0)) j;
}

abbrev any_after : Bool → List NodeSource → Bool
any_after a [] = a
any_after a (s ∷ ss) = any_after (a || s.node.fault) ss

any_after-is : (a : Bool) (ss : List NodeSource) → any_after a ss ≡ (a || list_any (λ (s : NodeSource). s.node.fault) ss)
any_after-is a [] = sym (or_false a)
any_after-is a (s ∷ ss) = any_after-is (a || s.node.fault) ss ∙ or_assoc a s.node.fault (list_any (λ (s : NodeSource). s.node.fault) ss)

nodes_apart : (widths : List ℕ) (conds : List Cond) (k : ℕ) (a : Bool) (b c : Node) (ss : List NodeSource) → b ≡ raise a c → nodes_from widths conds k b ss ≡ raise (any_after a ss) (nodes_from widths conds k c (map clean ss))
nodes_apart widths conds k a b c [] e = e
nodes_apart widths conds k a b c (s ∷ ss) e =
    nodes_apart widths conds (suc k) (a || s.node.fault) (next_node (members_at widths conds k) b s) (next_node (members_at widths conds k) c (clean s)) ss
    (ap (λ x. next_node (members_at widths conds k) x s) e ∙ next_apart (members_at widths conds k) a c s)

widths_apart : (ss : List NodeSource) → node_widths (map clean ss) ≡ node_widths ss
widths_apart [] = refl
widths_apart (s ∷ ss) = ap (λ ws. s.node.width ∷ ws) (widths_apart ss)

joined_apart : (conds : List Cond) (ss : List NodeSource) → joined_node conds ss ≡ raise (list_any (λ (s : NodeSource). s.node.fault) ss) (joined_node conds (map clean ss))
joined_apart conds [] = refl
joined_apart conds (s ∷ ss) =
    nodes_apart (node_widths (s ∷ ss)) conds 2 s.node.fault (first_node (members_at (node_widths (s ∷ ss)) conds 1) s) (first_node (members_at (node_widths (s ∷ ss)) conds 1) (clean s)) ss refl
    ∙ ap (λ b. raise b (nodes_from (node_widths (s ∷ ss)) conds 2 (first_node (members_at (node_widths (s ∷ ss)) conds 1) (clean s)) (map clean ss))) (any_after-is s.node.fault ss)
    ∙ ap (λ ws. raise (s.node.fault || list_any (λ (s : NodeSource). s.node.fault) ss) (nodes_from ws conds 2 (first_node (members_at ws conds 1) (clean s)) (map clean ss))) (sym (widths_apart (s ∷ ss)))

-- ---- what hands faults on
items_pass : (grouping : Option Grouping) (a : Bool) (n : Node) → item_node grouping (raise a n) ≡ raise a (item_node grouping n)
items_pass None a n = refl
items_pass (Some g) a n = λ j. record { width = length g.columns + length g.calls; rows = (item_node (Some g) n).rows; fault = or_assoc a n.fault (has_group_fault g n.rows) j }

selected_pass : (items : List Expr) (a : Bool) (n : Node) → selected_node items (raise a n) ≡ raise a (selected_node items n)
selected_pass items a n j = record { width = length items; rows = (selected_node items n).rows; fault = or_assoc a n.fault (has_item_outside items n.rows) j }

once_pass : (distinct : Bool) (a : Bool) (n : Node) → once_node distinct (raise a n) ≡ raise a (once_node distinct n)
once_pass true a n = refl
once_pass false a n = refl

pub block_apart : (distinct : Bool) (ss : List NodeSource) (where_ : Option Cond) (grouping : Option Grouping) (items : List Expr) →
    block_node distinct ss where_ grouping items ≡ raise (list_any (λ (s : NodeSource). s.node.fault) ss) (block_node distinct (map clean ss) where_ grouping items)
block_apart distinct ss where_ grouping items =
    let a = list_any (λ (s : NodeSource). s.node.fault) ss in
    let n = joined_node (members_of where_) (map clean ss) in
    ap (λ x. once_node distinct (selected_node items (item_node grouping x))) (joined_apart (members_of where_) ss)
    ∙ ap (λ x. once_node distinct (selected_node items x)) (items_pass grouping a n)
    ∙ ap (once_node distinct) (selected_pass items a (item_node grouping n))
    ∙ once_pass distinct a (selected_node items (item_node grouping n))
