-- FROM and WHERE, source by source.
use Rattle.std.proofs.Common.{◌≡◌, ℕ, suc, ◌+◌, ◌≤◌, List, [], ◌∷◌, ◌++◌, map, length, Bool, true, false, ◌&&◌, refl, sym, subst, ap, ap₂, ◌∙◌, zero-add}
use Rattle.std.specs.List.{AllByRecursion}
use Rattle.sq_value.specs.Truth.{is_true}
use Rattle.sq_expr.specs.declared.cond.Cond.{Cond}
use Rattle.sq_expr.specs.Columns.{cond_columns, members, width_of}
use Rattle.sq_expr.specs.Meaning.{truth}
use Rattle.sq_typed.specs.declared.query.FromJoin.{FromJoin}
use Rattle.sq_typed.specs.declared.query.FromJoin.TheVariants.{Comma, Inner, Left}
use Rattle.sq_typed.specs.From.{Row, Answer, Source, all_hold, inner, joined_by, kept, matches, members_at, or_padded, outer, stage, stages_from, widths_of}
use Rattle.sq_typed.specs.Laws.{AreOfWidth, HasItsWidth, last_of, width_of_all}
use Rattle.sq_typed.proofs.Tests.{all_filter, every, filter_same, list_all-append}
use Rattle.sq_typed.proofs.WhereLemmas.{joined_width, members_hold, stage_keeps, where_keeps_the_last}
use Rattle.sq_circuit.specs.Nodes.{paired}
use Rattle.sq_bridge.specs.Joins.{joined_on, left_joined}
use Rattle.sq_bridge.specs.Meaning.{AreWorth, Holds, IsWorth, IsWorthSource}
use Rattle.sq_bridge.specs.Nodes.{Node, NodeSource, first_node, joined_node, next_node, node_widths, nodes_from, on_members, stage_rows}
use Rattle.sq_bridge.specs.Rows.{kept_on_all, listed}
use Rattle.sq_bridge.proofs.Joining.{first_kept, kept_all, pairs_on}
use Rattle.sq_bridge.proofs.LeftJoining.{left_on}
use Rattle.sq_bridge.proofs.Lists.{flat_map_agree}

-- ---- conditions that hold on the same rows

module _ (cs ds : List Cond) (same : (row : Row) → all_hold cs row ≡ all_hold ds row) where
  matches_same : (others : List Row) (row : Row) → matches cs others row ≡ matches ds others row
  matches_same others row = filter_same (all_hold cs) (all_hold ds) (map (λ other. row ++ other) others) (every (λ r. all_hold cs r ≡ all_hold ds r) (map (λ other. row ++ other) others) same)

  inner_same : (others rows : List Row) → inner cs others rows ≡ inner ds others rows
  inner_same others rows = flat_map_agree (matches cs others) (matches ds others) rows (every (λ row. matches cs others row ≡ matches ds others row) rows (matches_same others))

  outer_same : (v : ℕ) (others rows : List Row) → outer v cs others rows ≡ outer v ds others rows
  outer_same v others rows = flat_map_agree (λ row. or_padded v row (matches cs others row)) (λ row. or_padded v row (matches ds others row)) rows
      (every (λ row. or_padded v row (matches cs others row) ≡ or_padded v row (matches ds others row)) rows (λ row. ap (or_padded v row) (matches_same others row)))

members_first : (on : Cond) (conds : List Cond) (row : Row) → all_hold (members on ++ conds) row ≡ all_hold (on ∷ conds) row
members_first on conds row = list_all-append (λ c. is_true (truth c row)) (members on) conds ∙ ap (λ b. b && all_hold conds row) (members_hold row on)

and_true : (b : Bool) → b ≡ (b && true)
and_true true = refl
and_true false = refl

members_alone : (on : Cond) (row : Row) → all_hold (members on) row ≡ all_hold (on ∷ []) row
members_alone on row = members_hold row on ∙ and_true (is_true (truth on row))

-- ---- one source

module _ (w : ℕ) (rows : List Row) (n : Node) (a : Answer) (conds : List Cond) (hw : AreOfWidth w rows) (ha : HasItsWidth a) (worth : IsWorth n a) where
  pairs_are : (cs : List Cond) → paired (joined_on w n.width cs) (listed rows) n.rows ≡ listed (inner cs a.rows rows)
  pairs_are cs = ap₂ (λ v z. paired (joined_on w v cs) (listed rows) z) worth.width worth.rows ∙ pairs_on w a.width cs rows a.rows hw ha

  left_is : (on : Cond) → left_joined w n.width (members on) (listed rows) n.rows ≡ listed (outer a.width (on ∷ []) a.rows rows)
  left_is on =
      ap₂ (λ v z. left_joined w v (members on) (listed rows) z) worth.width worth.rows
      ∙ left_on w a.width (members on) rows a.rows hw ha
      ∙ ap listed (outer_same (members on) (on ∷ []) (members_alone on) a.width a.rows rows)

  joined_are : (join : FromJoin) → (stage_rows w (listed rows) n conds join).0 ≡ listed (stage conds join a rows).0
  joined_are Comma = pairs_are conds
  joined_are (Inner on) = pairs_are (members on ++ conds) ∙ ap listed (inner_same (members on ++ conds) (on ∷ conds) (members_first on conds) a.rows rows)
  joined_are (Left on) = left_is on

  kept_are : (join : FromJoin) → (stage_rows w (listed rows) n conds join).1 ≡ listed (stage conds join a rows).1
  kept_are Comma = joined_are Comma
  kept_are (Inner on) = joined_are (Inner on)
  kept_are (Left on) = ap (kept_on_all conds) (left_is on) ∙ kept_all conds (outer a.width (on ∷ []) a.rows rows)

pub joined_rows_are : (w : ℕ) (rows : List Row) (n : Node) (a : Answer) (conds : List Cond) (join : FromJoin) → AreOfWidth w rows → HasItsWidth a → IsWorth n a → (stage_rows w (listed rows) n conds join).0 ≡ listed (stage conds join a rows).0
joined_rows_are w rows n a conds join hw ha worth = joined_are w rows n a conds hw ha worth join

pub kept_rows_are : (w : ℕ) (rows : List Row) (n : Node) (a : Answer) (conds : List Cond) (join : FromJoin) → AreOfWidth w rows → HasItsWidth a → IsWorth n a → (stage_rows w (listed rows) n conds join).1 ≡ listed (stage conds join a rows).1
kept_rows_are w rows n a conds join hw ha worth = kept_are w rows n a conds hw ha worth join

pub stage_width : (w : ℕ) (conds : List Cond) (join : FromJoin) (a : Answer) (rows : List Row) → AreOfWidth w rows → HasItsWidth a → AreOfWidth (w + a.width) (stage conds join a rows).1
stage_width w conds join a rows hw ha =
    subst (AreOfWidth (w + a.width)) (sym (stage_keeps conds join a rows))
    (all_filter (λ r. length r ≡ w + a.width) (all_hold conds) (joined_by [] join a rows) (joined_width w join a rows hw ha))

-- ---- all sources

pub next_holds : (conds : List Cond) (before : Node) (rows : List Row) (n : NodeSource) (s : Source) → Holds before rows → IsWorthSource n s → HasItsWidth s.answer → Holds (next_node conds before n) (stage conds s.join s.answer rows).1
next_holds conds before rows n s h is ha = record {
  are = ap₂ (λ z join. (stage_rows before.width z n.node conds join).1) h.are is.join ∙ kept_rows_are before.width rows n.node s.answer conds s.join h.wide ha is.worth;
  wide = subst (λ v. AreOfWidth (before.width + v) (stage conds s.join s.answer rows).1) (sym is.worth.width) (stage_width before.width conds s.join s.answer rows h.wide ha);
}

pub nodes_hold : (widths : List ℕ) (conds : List Cond) (k : ℕ) (before : Node) (rows : List Row) (ns : List NodeSource) (ss : List Source) → Holds before rows → AreWorth ns ss → AllByRecursion (λ s. HasItsWidth s.answer) ss →
    Holds (nodes_from widths conds k before ns) (last_of rows (stages_from widths conds k rows ss))
nodes_hold widths conds k before rows [] [] h is hs = h
nodes_hold widths conds k before rows [] (s ∷ ss) h is hs = absurd is
nodes_hold widths conds k before rows (n ∷ ns) [] h is hs = absurd is
nodes_hold widths conds k before rows (n ∷ ns) (s ∷ ss) h is hs =
    nodes_hold widths conds (suc k) (next_node (members_at widths conds k) before n) (stage (members_at widths conds k) s.join s.answer rows).1 ns ss
    (next_holds (members_at widths conds k) before rows n s h is.0 hs.0) is.1 hs.1

pub same_widths : (ns : List NodeSource) (ss : List Source) → AreWorth ns ss → node_widths ns ≡ widths_of ss
same_widths [] [] is = refl
same_widths [] (s ∷ ss) is = absurd is
same_widths (n ∷ ns) [] is = absurd is
same_widths (n ∷ ns) (s ∷ ss) is = ap₂ (λ w ws. w ∷ ws) is.0.worth.width (same_widths ns ss is.1)

-- the first source, joined by a comma
pub first_rows_are : (conds : List Cond) (n : NodeSource) (s : Source) → IsWorthSource n s → s.join ≡ Comma → (first_node conds n).rows ≡ listed (stage conds s.join s.answer ([] ∷ [])).1
first_rows_are conds n s is comma =
    ap₂ (λ join z. kept_on_all (on_members join ++ conds) z) (is.join ∙ comma) is.worth.rows
    ∙ first_kept conds s.answer.rows
    ∙ ap (λ join. listed (stage conds join s.answer ([] ∷ [])).1) (sym comma)

pub first_holds : (conds : List Cond) (n : NodeSource) (s : Source) → IsWorthSource n s → s.join ≡ Comma → HasItsWidth s.answer → Holds (first_node conds n) (stage conds s.join s.answer ([] ∷ [])).1
first_holds conds n s is comma ha = record {
  are = first_rows_are conds n s is comma;
  wide = subst (λ v. AreOfWidth v (stage conds s.join s.answer ([] ∷ [])).1) (zero-add s.answer.width ∙ sym is.worth.width) (stage_width 0 conds s.join s.answer ([] ∷ []) (refl, tt) ha);
}

pub joined_holds : (conds : List Cond) (ns : List NodeSource) (s : Source) (ss : List Source) → AreWorth ns (s ∷ ss) → s.join ≡ Comma → AllByRecursion (λ s. HasItsWidth s.answer) (s ∷ ss) →
    Holds (joined_node conds ns) (last_of ([] ∷ []) (stages_from (widths_of (s ∷ ss)) conds 1 ([] ∷ []) (s ∷ ss)))
joined_holds conds [] s ss is comma hs = absurd is
joined_holds conds (n ∷ ns) s ss is comma hs =
    subst (λ ws. Holds (nodes_from ws conds 2 (first_node (members_at ws conds 1) n) ns) (last_of ([] ∷ []) (stages_from (widths_of (s ∷ ss)) conds 1 ([] ∷ []) (s ∷ ss)))) (sym (same_widths (n ∷ ns) (s ∷ ss) is))
    (nodes_hold (widths_of (s ∷ ss)) conds 2 (first_node (members_at (widths_of (s ∷ ss)) conds 1) n) (stage (members_at (widths_of (s ∷ ss)) conds 1) s.join s.answer ([] ∷ [])).1 ns ss
    (first_holds (members_at (widths_of (s ∷ ss)) conds 1) n s is.0 comma hs.0) is.1 hs.1)

pub joined_rows_kept : (conds : List Cond) (ns : List NodeSource) (s : Source) (ss : List Source) → AreWorth ns (s ∷ ss) → s.join ≡ Comma → AllByRecursion (λ s. HasItsWidth s.answer) (s ∷ ss) →
    AllByRecursion (λ c. width_of (cond_columns c) ≤ width_of_all (s ∷ ss)) conds → (joined_node conds ns).rows ≡ listed (kept conds (s ∷ ss))
joined_rows_kept conds ns s ss is comma hs narrow = (joined_holds conds ns s ss is comma hs).are ∙ ap listed (sym (where_keeps_the_last conds s ss hs narrow))

-- the pairs of a left join
pub on_pairs_are : (w : ℕ) (rows : List Row) (n : Node) (a : Answer) (on : Cond) → AreOfWidth w rows → HasItsWidth a → IsWorth n a → paired (joined_on w n.width (members on)) (listed rows) n.rows ≡ listed (inner (on ∷ []) a.rows rows)
on_pairs_are w rows n a on hw ha worth = pairs_are w rows n a [] hw ha worth (members on) ∙ ap listed (inner_same (members on) (on ∷ []) (members_alone on) a.rows rows)
