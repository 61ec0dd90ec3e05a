-- The steps of a block, one after the other.
use Rattle.std.proofs.Common.{◌≡◌, ℕ, ◌+◌, Bool, true, false, ◌||◌, List, length, map, refl, sym, ap, subst, ◌∙◌, arith}
use Rattle.std.specs.Prelude.{Option, Some, None}
use Rattle.std.specs.List.{AllByRecursion}
use Rattle.std.proofs.lemmas.List.{length-append}
use Rattle.sq_expr.specs.Fits.{Suits}
use Rattle.sq_expr.specs.declared.expr.Expr.{Expr}
use Rattle.sq_expr.specs.declared.expr.Kind.{Kind}
use Rattle.sq_bridge.specs.Groups.{item_node, once_node, selected_node}
use Rattle.sq_bridge.specs.Nodes.{Node}
use Rattle.sq_circuit.specs.Nodes.{Rows}
use Rattle.sq_typed.specs.declared.query.Grouping.{Grouping}
use Rattle.sq_typed.specs.Fit.{item_row_kinds, may_group}
use Rattle.sq_typed.specs.Numbered.{kind_of}
use Rattle.sq_plan.specs.Drafts.{CanAdd, kinds_of}
use Rattle.sq_plan.specs.Steps.{Becomes, node_of}
use Rattle.sq_plan.specs.declared.draft.Draft.{Draft}
use Rattle.sq_plan.proofs.Adding.{adds_then}
use Rattle.sq_plan.proofs.Primitives.{or_false}
use Rattle.sq_plan.proofs.Stepping.{becomes}

abbrev bare : Node → Node
bare n = record { width = n.width; rows = n.rows; fault = false }

-- a step that reads the rows of a node, and hands its fault on
pub record IsStep (F : Node → Node) : Type 0 where
  pub width : (n : Node) → (F (bare n)).width ≡ (F n).width
  pub rows : (n : Node) → (F (bare n)).rows ≡ (F n).rows
  pub fault : (n : Node) → (n.fault || (F (bare n)).fault) ≡ (F n).fault

items_step : (grouping : Option Grouping) → IsStep (item_node grouping)
items_step None = record { width = λ n. refl; rows = λ n. refl; fault = λ n. or_false n.fault }
items_step (Some g) = record { width = λ n. refl; rows = λ n. refl; fault = λ n. refl }

selected_step : (items : List Expr) → IsStep (selected_node items)
selected_step items = record { width = λ n. refl; rows = λ n. refl; fault = λ n. refl }

once_step : (distinct : Bool) → IsStep (once_node distinct)
once_step true = record { width = λ n. refl; rows = λ n. refl; fault = λ n. or_false n.fault }
once_step false = record { width = λ n. refl; rows = λ n. refl; fault = λ n. or_false n.fault }

pub becomes_then : (n m : ℕ) (d e g : Draft) (i j : ℕ) (ks ls ls2 : List Kind) (M : List Rows → Node) (F : Node → Node) → IsStep F → Becomes n d e i ks M → ls ≡ ls2 →
    Becomes m e g j ls (λ tables. F (node_of e tables i)) → Becomes (n + m) d g j ls2 (λ tables. F (M tables))
becomes_then n m d e g i j ks ls ls2 M F step b same c =
    becomes (n + m) (n + m) d g j ls ls2 _ _ (λ tables. F (M tables)) (omega arith) same
    (λ tables. sym (step.width (M tables)) ∙ ap (λ x. (F x).width) (sym (node_is tables)) ∙ c.width tables ∙ ap length same)
    (λ tables. ap (λ x. (F x).rows) (node_is tables) ∙ step.rows (M tables))
    (λ tables. ap (λ x. (M tables).fault || (F x).fault) (node_is tables) ∙ step.fault (M tables))
    (adds_then n m d e g i j _ _ _ _ _ _ b.adds c.adds)
  where
    node_is : (tables : List Rows) → node_of e tables i ≡ bare (M tables)
    node_is tables k = record { width = (ap length b.adds.kinds_are ∙ sym (b.width tables)) k; rows = b.adds.worth tables k; fault = false }

pub room_left : (n m : ℕ) (d e : Draft) (i : ℕ) (ks : List Kind) (M : List Rows → Node) → CanAdd (n + m) d → Becomes n d e i ks M → CanAdd m e
room_left n m d e i ks M can b = record {
  draft = b.adds.draft;
  room = let h = ap length b.adds.is ∙ length-append d.parts.items b.adds.more in omega (arith, h, b.adds.few, can.room);
}

module _ (n : ℕ) (d : Draft) (M : List Rows → Node) (flat : List Kind) (grouping : Option Grouping) (items : List Expr) (distinct : Bool) (d1 : Draft) (j : ℕ) (b1 : Becomes n d d1 j flat M) where
  pub may_group_here : may_group flat grouping ≡ true → may_group (kinds_of d1 j) grouping ≡ true
  may_group_here e = subst (λ ks. may_group ks grouping ≡ true) (sym b1.adds.kinds_are) e

  module _ (d2 : Draft) (r : ℕ) (b2 : Becomes 3 d1 d2 r (item_row_kinds (kinds_of d1 j) grouping) (λ tables. item_node grouping (node_of d1 tables j))) where
    two : Becomes (n + 3) d d2 r (item_row_kinds flat grouping) (λ tables. item_node grouping (M tables))
    two = becomes_then n 3 d d1 d2 j r flat _ (item_row_kinds flat grouping) M (item_node grouping) (items_step grouping) b1 (ap (λ ks. item_row_kinds ks grouping) b1.adds.kinds_are) b2

    pub items_suit_here : AllByRecursion (Suits (item_row_kinds flat grouping)) items → AllByRecursion (Suits (kinds_of d2 r)) items
    items_suit_here h = subst (λ ks. AllByRecursion (Suits ks) items) (sym two.adds.kinds_are) h

    pub block_is : (d3 d4 : Draft) (s i : ℕ) → Becomes 1 d2 d3 s (map (kind_of (kinds_of d2 r)) items) (λ tables. selected_node items (node_of d2 tables r)) →
        Becomes 1 d3 d4 i (kinds_of d3 s) (λ tables. once_node distinct (node_of d3 tables s)) →
        Becomes (n + 5) d d4 i (map (kind_of (item_row_kinds flat grouping)) items) (λ tables. once_node distinct (selected_node items (item_node grouping (M tables))))
    block_is d3 d4 s i b3 b4 =
        let three = becomes_then (n + 3) 1 d d2 d3 r s _ _ (map (kind_of (item_row_kinds flat grouping)) items) _ (selected_node items) (selected_step items) two (ap (λ ks. map (kind_of ks) items) two.adds.kinds_are) b3 in
        let four = becomes_then (n + 3 + 1) 1 d d3 d4 s i _ _ (map (kind_of (item_row_kinds flat grouping)) items) _ (once_node distinct) (once_step distinct) three three.adds.kinds_are b4 in
        subst (λ k. Becomes k d d4 i (map (kind_of (item_row_kinds flat grouping)) items) (λ tables. once_node distinct (selected_node items (item_node grouping (M tables))))) (omega arith) four
