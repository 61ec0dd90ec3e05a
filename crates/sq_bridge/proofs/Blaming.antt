-- A block's node has a fault exactly if its answer is out of range, and so has a chain's.
use Rattle.std.proofs.Common.{◌≡◌, ℕ, zero, suc, ◌^◌, ◌≤◌, List, [], ◌∷◌, ◌++◌, map, fold, length, Bool, true, false, not, ◌||◌, Option, Some, None, refl, sym, subst, ap, ap₂, ◌∙◌, arith}
use Rattle.std.specs.Prelude.{is_some, option_to_list}
use Rattle.std.specs.List.{AllByRecursion, flat_map, list_any}
use Rattle.std.proofs.lemmas.Bool.{lt-ltb, ltb-true}
use Rattle.std.proofs.lemmas.List.Folds.{list_any-append}
use Rattle.sq_value.specs.declared.value.Value.{Value}
use Rattle.sq_value.specs.declared.value.Value.TheVariants.{Null, Int, Text}
use Rattle.sq_ast.specs.declared.query.SetOp.{SetOp}
use Rattle.sq_algebra.proofs.AnyLemmas.{any_flat, any_mapped, any_of_both, any_same, any_swapped, find_is, none_of_all, or_assoc, or_false}
use Rattle.sq_expr.specs.declared.cond.Cond.{Cond}
use Rattle.sq_expr.specs.declared.expr.Expr.{Expr}
use Rattle.sq_expr.specs.declared.expr.Kind.{Kind}
use Rattle.sq_expr.specs.declared.expr.Kind.TheVariants as kind
use Rattle.sq_expr.specs.Bigint.{is_bigint}
use Rattle.sq_expr.specs.Items.{IsStorable}
use Rattle.sq_expr.specs.Kinds.{AreOfKinds, IsOfKind}
use Rattle.sq_expr.specs.Meaning.{column_of, columns_of, num}
use Rattle.sq_expr.proofs.Lists.{all_weaker}
use Rattle.sq_expr.proofs.Rows.{integers_are_bigints}
use Rattle.sq_algebra.specs.Keyed.{numbers_below}
use Rattle.sq_ops.specs.Rows.{items_of, number_in}
use Rattle.sq_ops.proofs.Ranges.{item_inside}
use Rattle.sq_ops.proofs.RowColumns.{plain_items}
use Rattle.sq_typed.specs.declared.query.FromJoin.{FromJoin}
use Rattle.sq_typed.specs.declared.query.FromJoin.TheVariants.{Comma, Inner, Left}
use Rattle.sq_typed.specs.declared.query.Grouping.{Grouping}
use Rattle.sq_typed.specs.Blocks.{arguments, block_answer, groups, item_rows, selected, tested_calls}
use Rattle.sq_typed.specs.Fit.{AreAllOfKinds, GivesKinds, KindedSource, Pairwise}
use Rattle.sq_typed.specs.From.{Row, Answer, Source, all_hold, inner, joined_by, kept, members_at, members_of, outer, stage, stages, stages_from, widths_of}
use Rattle.sq_typed.specs.Laws.{AreOfWidth, HasItsWidth}
use Rattle.sq_typed.specs.Queries.{after_each, chain_answer, has_range_fault, intersect_rows, is_crowded, is_outside, set_rows}
use Rattle.sq_typed.proofs.ColumnLemmas.{pairs_are_part}
use Rattle.sq_typed.proofs.FitRows.{joined_kinds_are, rows_of_where}
use Rattle.sq_typed.proofs.Tests.{all_filter}
use Rattle.sq_typed.proofs.WhereLemmas.{stage_keeps}
use Rattle.sq_bridge.specs.Groups.{argument_items, block_node, group_items, has_group_fault, item_node, once_node, selected_node, tested_sums}
use Rattle.sq_bridge.specs.Joins.{first_columns}
use Rattle.sq_bridge.specs.Meaning.{AreMembersOf, AreStepsOf, AreWorth, CallsSuit, GroupsSuit, Holds, IsMemberOf, IsStepOf, IsWorth, IsWorthSource}
use Rattle.sq_bridge.specs.Nodes.{Node, NodeSource, first_node, has_fault_of_pairs, has_item_outside, joined_node, lists_too_many, next_node, node_widths, nodes_from, stage_rows}
use Rattle.sq_bridge.specs.Queries.{both_of, chain_node, set_result, step_node}
use Rattle.sq_bridge.specs.Rows.{Rows, listed}
use Rattle.sq_bridge.proofs.Combining.{chain_step, common_step}
use Rattle.sq_bridge.proofs.Grouping.{projected_is, values_at}
use Rattle.sq_bridge.proofs.Meaningful.{BlockFits, block_calls_suit, block_item_rows_are, block_rows_are}
use Rattle.sq_bridge.proofs.Ranging.{crowded_is, group_sums_outside, items_outside, outside_number, selected_outside}
use Rattle.sq_typed.proofs.Sorting.{source_widths}
use Rattle.sq_bridge.proofs.Staging.{first_holds, first_rows_are, joined_rows_are, next_holds, on_pairs_are, same_widths}

-- ---- what is of its kind is inside

storable : (x : Value) (k : Kind) → IsOfKind x k → IsStorable x
storable Null k h = tt
storable (Int x) kind.Integer h = integers_are_bigints (Int x) h
storable (Int x) kind.Bigint h = h
storable (Int x) kind.Text h = absurd h
storable (Text t) k h = tt

inside : (x : Value) → IsStorable x → is_outside x ≡ false
inside x h = sym (outside_number x) ∙ sym (find_is (λ n. not (is_bigint n)) (number_in x)) ∙ ap is_some (item_inside x h)

pub column_inside : (row : Row) (kinds : List Kind) (n : ℕ) → AreOfKinds row kinds → is_outside (column_of row n) ≡ false
column_inside [] [] n h = refl
column_inside [] (k ∷ kinds) n h = absurd h
column_inside (x ∷ row) [] n h = absurd h
column_inside (x ∷ row) (k ∷ kinds) zero h = inside x (storable x k h.0)
column_inside (x ∷ row) (k ∷ kinds) (suc n) h = column_inside row kinds n h.1

columns_inside : (row : Row) (kinds : List Kind) (columns : List ℕ) → AreOfKinds row kinds → list_any is_outside (columns_of columns row) ≡ false
columns_inside row kinds [] h = refl
columns_inside row kinds (n ∷ ns) h = ap₂ (λ a b. a || b) (column_inside row kinds n h) (columns_inside row kinds ns h)

-- the first columns of rows of their kinds
fronts_inside : (w : ℕ) (kinds : List Kind) (rows : List Row) → AreAllOfKinds rows kinds → has_item_outside (first_columns w) (listed rows) ≡ false
fronts_inside w kinds rows h =
    items_outside (first_columns w) rows
    ∙ none_of_all (λ row. list_any is_outside (items_of (first_columns w) row)) rows
    (all_weaker (λ row. AreOfKinds row kinds) (λ row. list_any is_outside (items_of (first_columns w) row) ≡ false) rows (λ row r. ap (list_any is_outside) (plain_items (numbers_below w) row) ∙ columns_inside row kinds (numbers_below w) r) h)

-- ---- one more source

more_crowded : (rows more : List Row) → length rows ≤ length more → is_crowded rows ≡ true → is_crowded more ≡ true
more_crowded rows more h e = lt-ltb (2 ^ 61) (length more) (omega (arith, h, ltb-true (2 ^ 61) (length rows) e))

absorbed : (a b : Bool) → (a ≡ true → b ≡ true) → (a || b) ≡ b
absorbed true b h = sym (h refl)
absorbed false b h = refl

module _ (w : ℕ) (rows : List Row) (n : Node) (a : Answer) (conds : List Cond) (before kinds : List Kind) (hw : AreOfWidth w rows) (ha : HasItsWidth a) (worth : IsWorth n a) (hk : AreAllOfKinds rows before) (gives : GivesKinds a kinds) where
  left_pairs_fault : (on : Cond) → has_fault_of_pairs w (listed rows) n (Left on) ≡ is_crowded (inner (on ∷ []) a.rows rows)
  left_pairs_fault on =
      ap (λ z. lists_too_many z || has_item_outside (first_columns w) z) (on_pairs_are w rows n a on hw ha worth)
      ∙ ap₂ (λ x y. x || y) (crowded_is (inner (on ∷ []) a.rows rows))
      (fronts_inside w (before ++ kinds) (inner (on ∷ []) a.rows rows) (joined_kinds_are before kinds (Inner on) a rows hk gives))
      ∙ or_false (is_crowded (inner (on ∷ []) a.rows rows))

  -- what a source adds to the faults is that its place is too long
  place_fault : (join : FromJoin) → (has_fault_of_pairs w (listed rows) n join || lists_too_many (stage_rows w (listed rows) n conds join).0) ≡ is_crowded (stage conds join a rows).0
  place_fault Comma = ap lists_too_many (joined_rows_are w rows n a conds Comma hw ha worth) ∙ crowded_is (stage conds Comma a rows).0
  place_fault (Inner on) = ap lists_too_many (joined_rows_are w rows n a conds (Inner on) hw ha worth) ∙ crowded_is (stage conds (Inner on) a rows).0
  place_fault (Left on) =
      ap₂ (λ x y. x || y) (left_pairs_fault on) (ap lists_too_many (joined_rows_are w rows n a conds (Left on) hw ha worth) ∙ crowded_is (stage conds (Left on) a rows).0)
      ∙ absorbed (is_crowded (inner (on ∷ []) a.rows rows)) (is_crowded (outer a.width (on ∷ []) a.rows rows))
      (more_crowded (inner (on ∷ []) a.rows rows) (outer a.width (on ∷ []) a.rows rows) (pairs_are_part a.width (on ∷ []) a.rows rows))

stage_kinds : (before kinds : List Kind) (conds : List Cond) (join : FromJoin) (a : Answer) (rows : List Row) → AreAllOfKinds rows before → GivesKinds a kinds → AreAllOfKinds (stage conds join a rows).1 (before ++ kinds)
stage_kinds before kinds conds join a rows h g =
    subst (λ rs. AreAllOfKinds rs (before ++ kinds)) (sym (stage_keeps conds join a rows))
    (all_filter (λ row. AreOfKinds row (before ++ kinds)) (all_hold conds) (joined_by [] join a rows) (joined_kinds_are before kinds join a rows h g))

-- ---- all sources

abbrev pub SourceIsGood : Source → KindedSource → Type 0
SourceIsGood s k = GivesKinds s.answer k.kinded.kinds

abbrev HasNoFault : NodeSource → Type 0
HasNoFault n = n.node.fault ≡ false

abbrev first_of : List Row × List Row → List Row
first_of stage = stage.0

one_stage : (b n x c rest : Bool) → n ≡ false → x ≡ c → (((b || n) || x) || rest) ≡ (b || (c || rest))
one_stage b n x c rest en ex = ap₂ (λ n x. ((b || n) || x) || rest) en ex ∙ ap (λ z. (z || c) || rest) (or_false b) ∙ or_assoc b c rest

nodes_fault : (widths : List ℕ) (conds : List Cond) (k : ℕ) (before : Node) (rows : List Row) (kinds : List Kind) (ns : List NodeSource) (ss : List Source) (ks : List KindedSource) →
    Holds before rows → AreAllOfKinds rows kinds → AreWorth ns ss → AllByRecursion (λ s. HasItsWidth s.answer) ss → Pairwise SourceIsGood ss ks → AllByRecursion HasNoFault ns →
    (nodes_from widths conds k before ns).fault ≡ (before.fault || list_any is_crowded (map first_of (stages_from widths conds k rows ss)))
nodes_fault widths conds k before rows kinds [] [] ks h hk is hs g none = sym (or_false before.fault)
nodes_fault widths conds k before rows kinds [] (s ∷ ss) ks h hk is hs g none = absurd is
nodes_fault widths conds k before rows kinds (n ∷ ns) [] ks h hk is hs g none = absurd is
nodes_fault widths conds k before rows kinds (n ∷ ns) (s ∷ ss) [] h hk is hs g none = absurd g
nodes_fault widths conds k before rows kinds (n ∷ ns) (s ∷ ss) (q ∷ ks) h hk is hs g none =
    let now = members_at widths conds k in
    nodes_fault widths conds (suc k) (next_node now before n) (stage now s.join s.answer rows).1 (kinds ++ q.kinded.kinds) ns ss ks
    (next_holds now before rows n s h is.0 hs.0) (stage_kinds kinds q.kinded.kinds now s.join s.answer rows hk g.0) is.1 hs.1 g.1 none.1
    ∙ one_stage before.fault n.node.fault (has_fault_of_pairs before.width before.rows n.node n.join || lists_too_many (stage_rows before.width before.rows n.node now n.join).0)
    (is_crowded (stage now s.join s.answer rows).0) (list_any is_crowded (map first_of (stages_from widths conds (suc k) (stage now s.join s.answer rows).1 ss))) none.0
    (ap₂ (λ z join. has_fault_of_pairs before.width z n.node join || lists_too_many (stage_rows before.width z n.node now join).0) h.are is.0.join
    ∙ place_fault before.width rows n.node s.answer now kinds q.kinded.kinds h.wide hs.0 is.0.worth hk g.0 s.join)

first_fault : (conds : List Cond) (n : NodeSource) (s : Source) → IsWorthSource n s → s.join ≡ Comma → HasNoFault n → (first_node conds n).fault ≡ is_crowded (stage conds s.join s.answer ([] ∷ [])).0
first_fault conds n s is comma none =
    ap₂ (λ a b. a || b) none (ap lists_too_many (first_rows_are conds n s is comma) ∙ crowded_is (stage conds s.join s.answer ([] ∷ [])).1)
    ∙ ap (λ join. is_crowded (stage conds join s.answer ([] ∷ [])).1) comma
    ∙ sym (ap (λ join. is_crowded (stage conds join s.answer ([] ∷ [])).0) comma)

pub joined_fault : (conds : List Cond) (ns : List NodeSource) (s : Source) (ss : List Source) (ks : List KindedSource) → AreWorth ns (s ∷ ss) → s.join ≡ Comma → AllByRecursion (λ s. HasItsWidth s.answer) (s ∷ ss) →
    Pairwise SourceIsGood (s ∷ ss) ks → AllByRecursion HasNoFault ns → (joined_node conds ns).fault ≡ list_any is_crowded (map first_of (stages conds (s ∷ ss)))
joined_fault conds [] s ss ks is comma hs g none = absurd is
joined_fault conds (n ∷ ns) s ss [] is comma hs g none = absurd g
joined_fault conds (n ∷ ns) s ss (q ∷ ks) is comma hs g none =
    let ws = widths_of (s ∷ ss) in
    let now = members_at ws conds 1 in
    ap (λ ws. (nodes_from ws conds 2 (first_node (members_at ws conds 1) n) ns).fault) (same_widths (n ∷ ns) (s ∷ ss) is)
    ∙ nodes_fault ws conds 2 (first_node now n) (stage now s.join s.answer ([] ∷ [])).1 q.kinded.kinds ns ss ks
    (first_holds now n s is.0 comma hs.0) (stage_kinds [] q.kinded.kinds now s.join s.answer ([] ∷ []) (tt, tt) g.0) is.1 hs.1 g.1 none.1
    ∙ ap (λ b. b || list_any is_crowded (map first_of (stages_from ws conds 2 (stage now s.join s.answer ([] ∷ [])).1 ss))) (first_fault now n s is.0 comma none.0)

-- a fault stays
fault_stays : (widths : List ℕ) (conds : List Cond) (k : ℕ) (before : Node) (ns : List NodeSource) → before.fault ≡ true → (nodes_from widths conds k before ns).fault ≡ true
fault_stays widths conds k before [] e = e
fault_stays widths conds k before (n ∷ ns) e = fault_stays widths conds (suc k) (next_node (members_at widths conds k) before n) ns
    (ap (λ b. (b || n.node.fault) || (has_fault_of_pairs before.width before.rows n.node n.join || lists_too_many (stage_rows before.width before.rows n.node (members_at widths conds k) n.join).0)) e)

second_true : (a b c : Bool) → b ≡ true → ((a || b) || c) ≡ true
second_true true b c e = refl
second_true false b c e = ap (λ b. b || c) e

fault_comes : (widths : List ℕ) (conds : List Cond) (k : ℕ) (before : Node) (ns : List NodeSource) → list_any (λ n. n.node.fault) ns ≡ true → (nodes_from widths conds k before ns).fault ≡ true
fault_comes widths conds k before [] e = absurd (cc e)
fault_comes widths conds k before (n ∷ ns) e =
    elim n.node.fault as (λ b. n.node.fault ≡ b → (b || list_any (λ n. n.node.fault) ns) ≡ true → (nodes_from widths conds k before (n ∷ ns)).fault ≡ true) [
      | true ↦ λ is _. fault_stays widths conds (suc k) (next_node (members_at widths conds k) before n) ns
          (second_true before.fault n.node.fault (has_fault_of_pairs before.width before.rows n.node n.join || lists_too_many (stage_rows before.width before.rows n.node (members_at widths conds k) n.join).0) is)
      | false ↦ λ is e. fault_comes widths conds (suc k) (next_node (members_at widths conds k) before n) ns e
    ] refl e

pub sources_blamed : (conds : List Cond) (ns : List NodeSource) → list_any (λ n. n.node.fault) ns ≡ true → (joined_node conds ns).fault ≡ true
sources_blamed conds [] e = absurd (cc e)
sources_blamed conds (n ∷ ns) e =
    elim n.node.fault as (λ b. n.node.fault ≡ b → (b || list_any (λ n. n.node.fault) ns) ≡ true → (joined_node conds (n ∷ ns)).fault ≡ true) [
      | true ↦ λ is _. fault_stays (node_widths (n ∷ ns)) conds 2 (first_node (members_at (node_widths (n ∷ ns)) conds 1) n) ns (ap (λ b. b || lists_too_many (first_node (members_at (node_widths (n ∷ ns)) conds 1) n).rows) is)
      | false ↦ λ is e. fault_comes (node_widths (n ∷ ns)) conds 2 (first_node (members_at (node_widths (n ∷ ns)) conds 1) n) ns e
    ] refl e

-- ---- groups

pub any_same_of : {A : Type 0} (p q : A → Bool) (xs : List A) → AllByRecursion (λ x. p x ≡ q x) xs → list_any p xs ≡ list_any q xs
any_same_of p q [] h = refl
any_same_of p q (x ∷ xs) h = ap₂ (λ a b. a || b) h.0 (any_same_of p q xs h.1)

module _ (rows : List Row) where
  argument_outside : (arg : Option Expr) → list_any (λ e. list_any (λ row. is_outside (num e row)) rows) (option_to_list arg) ≡ list_any is_outside (arguments arg rows)
  argument_outside None = refl
  argument_outside (Some e) = or_false (list_any (λ row. is_outside (num e row)) rows) ∙ sym (any_mapped is_outside (num e) rows)

  group_item_row : (g : Grouping) (kinds : List Kind) (row : Row) → AreOfKinds row kinds → list_any is_outside (items_of (group_items g) row) ≡ list_any (λ e. is_outside (num e row)) (argument_items g.calls)
  group_item_row g kinds row h =
      ap (list_any is_outside) (projected_is g row)
      ∙ list_any-append is_outside (columns_of g.columns row) (values_at (argument_items g.calls) row)
      ∙ ap (λ b. b || list_any is_outside (values_at (argument_items g.calls) row)) (columns_inside row kinds g.columns h)
      ∙ any_mapped is_outside (λ e. num e row) (argument_items g.calls)

  group_items_outside : (g : Grouping) (kinds : List Kind) → AreAllOfKinds rows kinds → has_item_outside (group_items g) (listed rows) ≡ list_any is_outside (flat_map (λ c. arguments c.arg rows) g.calls)
  group_items_outside g kinds h =
      items_outside (group_items g) rows
      ∙ any_same_of (λ row. list_any is_outside (items_of (group_items g) row)) (λ row. list_any (λ e. is_outside (num e row)) (argument_items g.calls)) rows
      (all_weaker (λ row. AreOfKinds row kinds) (λ row. list_any is_outside (items_of (group_items g) row) ≡ list_any (λ e. is_outside (num e row)) (argument_items g.calls)) rows (λ row r. group_item_row g kinds row r) h)
      ∙ any_swapped (λ row e. is_outside (num e row)) rows (argument_items g.calls)
      ∙ any_flat (λ e. list_any (λ row. is_outside (num e row)) rows) (λ c. option_to_list c.arg) g.calls
      ∙ any_same (λ c. list_any (λ e. list_any (λ row. is_outside (num e row)) rows) (option_to_list c.arg)) (λ c. list_any is_outside (arguments c.arg rows)) g.calls (λ c. argument_outside c.arg)
      ∙ sym (any_flat is_outside (λ c. arguments c.arg rows) g.calls)

  group_fault : (g : Grouping) (kinds : List Kind) → AreAllOfKinds rows kinds → CallsSuit rows g.calls → has_group_fault g (listed rows) ≡ list_any is_outside (tested_calls (Some g) rows)
  group_fault g kinds h s =
      ap₂ (λ a b. a || b) (group_items_outside g kinds h) (group_sums_outside g rows s)
      ∙ sym (list_any-append is_outside (flat_map (λ c. arguments c.arg rows) g.calls) (flat_map (tested_sums g.calls) (groups g.columns rows)))

-- the faults of the rows on which the items are computed
items_fault : (grouping : Option Grouping) (n : Node) (rows : List Row) (kinds : List Kind) → n.rows ≡ listed rows → AreAllOfKinds rows kinds → GroupsSuit rows grouping → (item_node grouping n).fault ≡ (n.fault || list_any is_outside (tested_calls grouping rows))
items_fault None n rows kinds is h s = sym (or_false n.fault)
items_fault (Some g) n rows kinds is h s = ap (λ b. n.fault || b) (ap (has_group_fault g) is ∙ group_fault rows g kinds h s)

item_fault_stays : (grouping : Option Grouping) (n : Node) → n.fault ≡ true → (item_node grouping n).fault ≡ true
item_fault_stays None n e = e
item_fault_stays (Some g) n e = ap (λ b. b || has_group_fault g n.rows) e

once_fault : (is_distinct : Bool) (n : Node) → (once_node is_distinct n).fault ≡ n.fault
once_fault true n = refl
once_fault false n = refl

-- ---- blocks

abbrev pub FaultsAgree : NodeSource → Source → Type 0
FaultsAgree n s = n.node.fault ≡ has_range_fault s.answer

pub same_faults : (ns : List NodeSource) (ss : List Source) → Pairwise FaultsAgree ns ss → list_any (λ n. n.node.fault) ns ≡ list_any (λ s. has_range_fault s.answer) ss
same_faults [] [] p = refl
same_faults [] (s ∷ ss) p = absurd p
same_faults (n ∷ ns) [] p = absurd p
same_faults (n ∷ ns) (s ∷ ss) p = ap₂ (λ a b. a || b) p.0 (same_faults ns ss p.1)

without : (ns : List NodeSource) → list_any (λ n. n.node.fault) ns ≡ false → AllByRecursion HasNoFault ns
without [] e = tt
without (n ∷ ns) e = (left n.node.fault (list_any (λ n. n.node.fault) ns) e, without ns (right n.node.fault (list_any (λ n. n.node.fault) ns) e))
  where
    left : (a b : Bool) → (a || b) ≡ false → a ≡ false
    left false b e = refl
    left true b e = e

    right : (a b : Bool) → (a || b) ≡ false → b ≡ false
    right false b e = e
    right true b e = absurd (cc e)

shuffled : (p j t c i : Bool) → ((p || j) || ((t || c) || i)) ≡ ((p || t) || ((j || c) || i))
shuffled true j t c i = refl
shuffled false true true c i = refl
shuffled false true false c i = refl
shuffled false false t c i = or_assoc t c i

-- what is out of range in the answer of a block
answer_fault : (is_distinct : Bool) (ss : List Source) (where_ : Option Cond) (grouping : Option Grouping) (items : List Expr) →
    has_range_fault (block_answer is_distinct ss where_ grouping items)
    ≡ (list_any (λ s. has_range_fault s.answer) ss
    || ((list_any is_crowded (map first_of (stages (members_of where_) ss)) || list_any is_outside (tested_calls grouping (kept (members_of where_) ss)))
    || list_any is_outside (flat_map (λ row. row) (selected items (item_rows grouping (kept (members_of where_) ss))))))
answer_fault is_distinct ss where_ grouping items =
    let places = flat_map (λ s. s.answer.places) ss in
    let tested = flat_map (λ s. s.answer.tested) ss in
    let now = map first_of (stages (members_of where_) ss) in
    let calls = tested_calls grouping (kept (members_of where_) ss) in
    let values = flat_map (λ row. row) (selected items (item_rows grouping (kept (members_of where_) ss))) in
    ap₂ (λ a b. a || b) (list_any-append is_crowded places now)
    (list_any-append is_outside (tested ++ calls) values ∙ ap (λ b. b || list_any is_outside values) (list_any-append is_outside tested calls))
    ∙ shuffled (list_any is_crowded places) (list_any is_crowded now) (list_any is_outside tested) (list_any is_outside calls) (list_any is_outside values)
    ∙ ap (λ b. b || ((list_any is_crowded now || list_any is_outside calls) || list_any is_outside values))
    (ap₂ (λ a b. a || b) (any_flat is_crowded (λ s. s.answer.places) ss) (any_flat is_outside (λ s. s.answer.tested) ss)
    ∙ sym (any_of_both (λ s. list_any is_crowded s.answer.places) (λ s. list_any is_outside s.answer.tested) ss))

module _ (ns : List NodeSource) (s : Source) (ss : List Source) (ks : List KindedSource) (where_ : Option Cond) (grouping : Option Grouping) (fits : BlockFits (s ∷ ss) ks where_ grouping) (worth : AreWorth ns (s ∷ ss)) (comma : s.join ≡ Comma)
    (faults : Pairwise FaultsAgree ns (s ∷ ss)) (good : list_any (λ s. has_range_fault s.answer) (s ∷ ss) ≡ false → Pairwise SourceIsGood (s ∷ ss) ks) where
  abbrev joined : Node
  joined = joined_node (members_of where_) ns

  abbrev rows_kept : List Row
  rows_kept = kept (members_of where_) (s ∷ ss)

  abbrev too_long : Bool
  too_long = list_any is_crowded (map first_of (stages (members_of where_) (s ∷ ss)))

  kept_kinds : Pairwise SourceIsGood (s ∷ ss) ks → AreAllOfKinds rows_kept (flat_map (λ k. k) (map (λ k. k.kinded.kinds) ks))
  kept_kinds g = rows_of_where (members_of where_) (s ∷ ss) (map (λ k. k.kinded.kinds) ks) (mapped (s ∷ ss) ks g)
    where
      mapped : (ss : List Source) (ks : List KindedSource) → Pairwise SourceIsGood ss ks → Pairwise (λ s kinds. GivesKinds s.answer kinds) ss (map (λ k. k.kinded.kinds) ks)
      mapped [] [] p = tt
      mapped [] (k ∷ ks) p = absurd p
      mapped (s ∷ ss) [] p = absurd p
      mapped (s ∷ ss) (k ∷ ks) p = (p.0, mapped ss ks p.1)

  module _ (items : List Expr) where
    abbrev values : Bool
    values = list_any is_outside (flat_map (λ row. row) (selected items (item_rows grouping rows_kept)))

    -- without a fault of a source
    own_fault : list_any (λ s. has_range_fault s.answer) (s ∷ ss) ≡ false → (selected_node items (item_node grouping joined)).fault ≡ ((too_long || list_any is_outside (tested_calls grouping rows_kept)) || values)
    own_fault none =
        let g = good none in
        ap₂ (λ a b. a || b)
        (items_fault grouping joined rows_kept (flat_map (λ k. k) (map (λ k. k.kinded.kinds) ks)) (block_rows_are ns s ss ks where_ grouping fits worth comma) (kept_kinds g) (block_calls_suit ns s ss ks where_ grouping fits worth comma)
        ∙ ap (λ b. b || list_any is_outside (tested_calls grouping rows_kept)) (joined_fault (members_of where_) ns s ss ks worth comma (source_widths (s ∷ ss) ks fits.gives) g (without ns (same_faults ns (s ∷ ss) faults ∙ none))))
        (ap (has_item_outside items) (block_item_rows_are ns s ss ks where_ grouping fits worth comma) ∙ selected_outside items (item_rows grouping rows_kept))

    by_sources : (b : Bool) → list_any (λ s. has_range_fault s.answer) (s ∷ ss) ≡ b → (selected_node items (item_node grouping joined)).fault ≡ (b || ((too_long || list_any is_outside (tested_calls grouping rows_kept)) || values))
    by_sources true e = ap (λ b. b || has_item_outside items (item_node grouping joined).rows) (item_fault_stays grouping joined (sources_blamed (members_of where_) ns (same_faults ns (s ∷ ss) faults ∙ e)))
    by_sources false e = own_fault e

    pub block_fault : (is_distinct : Bool) → (block_node is_distinct ns where_ grouping items).fault ≡ has_range_fault (block_answer is_distinct (s ∷ ss) where_ grouping items)
    block_fault is_distinct =
        once_fault is_distinct (selected_node items (item_node grouping joined))
        ∙ by_sources (list_any (λ s. has_range_fault s.answer) (s ∷ ss)) refl
        ∙ sym (answer_fault is_distinct (s ∷ ss) where_ grouping items)

-- ---- set operations

five : (n m c ms r : Bool) → (((((n || m) || c)) || ms) || r) ≡ ((n || (m || ms)) || (c || r))
five true m c ms r = refl
five false true c ms r = refl
five false false true true r = refl
five false false true false r = refl
five false false false ms r = refl

four : (p q t u r : Bool) → (((p || q) || r) || (t || u)) ≡ (((p || t) || (q || u)) || r)
four true q t u r = refl
four false true true u r = refl
four false true false u r = refl
four false false t u true = sym (always (t || u))
  where
    always : (b : Bool) → (b || true) ≡ true
    always true = refl
    always false = refl
four false false t u false = sym (or_false (t || u))

pub chain_answer_fault : {B : Type 0} (f : List Row → B → List Row) (of : B → Answer) (first : Answer) (rest : List B) →
    has_range_fault (chain_answer f of first rest) ≡ ((has_range_fault first || list_any (λ b. has_range_fault (of b)) rest) || list_any is_crowded (after_each f first.rows rest))
chain_answer_fault f of first rest =
    let places = flat_map (λ b. (of b).places) rest in
    let tested = flat_map (λ b. (of b).tested) rest in
    ap₂ (λ a b. a || b)
    (list_any-append is_crowded (first.places ++ places) (after_each f first.rows rest) ∙ ap (λ b. b || list_any is_crowded (after_each f first.rows rest)) (list_any-append is_crowded first.places places))
    (list_any-append is_outside first.tested tested)
    ∙ four (list_any is_crowded first.places) (list_any is_crowded places) (list_any is_outside first.tested) (list_any is_outside tested) (list_any is_crowded (after_each f first.rows rest))
    ∙ ap (λ b. (has_range_fault first || b) || list_any is_crowded (after_each f first.rows rest))
    (ap₂ (λ a b. a || b) (any_flat is_crowded (λ b. (of b).places) rest) (any_flat is_outside (λ b. (of b).tested) rest)
    ∙ sym (any_of_both (λ b. list_any is_crowded (of b).places) (λ b. list_any is_outside (of b).tested) rest))

module _ {M B : Type 0} (h : M → ℕ → Rows → Rows → Rows) (node : M → Node) (f : List Row → B → List Row) (Fits : ℕ → M → B → Type 0)
    (step : (n : Node) (rows : List Row) (m : M) (b : B) → Holds n rows → Fits n.width m b → Holds (step_node (h m) n (node m)) (f rows b)) where
  folded_fault : (n : Node) (rows : List Row) (ms : List M) (bs : List B) → Holds n rows → Pairwise (Fits n.width) ms bs →
      (fold (λ n m. step_node (h m) n (node m)) n ms).fault ≡ ((n.fault || list_any (λ m. (node m).fault) ms) || list_any is_crowded (after_each f rows bs))
  folded_fault n rows [] [] held p = sym (or_false (n.fault || false) ∙ or_false n.fault)
  folded_fault n rows [] (b ∷ bs) held p = absurd p
  folded_fault n rows (m ∷ ms) [] held p = absurd p
  folded_fault n rows (m ∷ ms) (b ∷ bs) held p =
      let next = step n rows m b held p.0 in
      folded_fault (step_node (h m) n (node m)) (f rows b) ms bs next p.1
      ∙ ap (λ c. (((n.fault || (node m).fault) || c) || list_any (λ m. (node m).fault) ms) || list_any is_crowded (after_each f (f rows b) bs)) (ap lists_too_many next.are ∙ crowded_is (f rows b))
      ∙ five n.fault (node m).fault (is_crowded (f rows b)) (list_any (λ m. (node m).fault) ms) (list_any is_crowded (after_each f (f rows b) bs))

pub chain_fault : (n : Node) (rows : List Row) (ms : List (SetOp × Node)) (steps : List (SetOp × Answer)) → Holds n rows → AreStepsOf n.width ms steps →
    (chain_node n ms).fault ≡ ((n.fault || list_any (λ m. m.1.fault) ms) || list_any is_crowded (after_each (λ rows s. set_rows s.0 rows s.1.rows) rows steps))
chain_fault n rows ms steps held p = folded_fault (λ m. set_result m.0) (λ m. m.1) (λ rows s. set_rows s.0 rows s.1.rows) IsStepOf chain_step n rows ms steps held p

pub common_fault : (n : Node) (rows : List Row) (ms : List Node) (others : List Answer) → Holds n rows → AreMembersOf n.width ms others →
    (fold (step_node both_of) n ms).fault ≡ ((n.fault || list_any (λ m. m.fault) ms) || list_any is_crowded (after_each (λ rows a. intersect_rows rows a.rows) rows others))
common_fault n rows ms others held p = folded_fault (λ m. both_of) (λ m. m) (λ rows a. intersect_rows rows a.rows) IsMemberOf common_step n rows ms others held p
