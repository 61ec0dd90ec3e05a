-- What a block computes from its sources.
use Rattle.std.proofs.Common.{◌≡◌, ◌≤◌, ◌^◌, List, [], ◌∷◌, map, length, Bool, true, false, ◌||◌, refl, sym, ap, subst, ◌∙◌, arith}
use Rattle.std.specs.Prelude.{Option, Some, None, option_to_list}
use Rattle.std.specs.List.{AllByRecursion, flat_map, list_any}
use Rattle.sq_expr.specs.Columns.{cond_columns, width_of}
use Rattle.sq_expr.specs.Fits.{Fits, Suits, SuitsCond}
use Rattle.sq_expr.specs.Kinds.{AreOfKinds}
use Rattle.sq_expr.specs.declared.cond.Cond.{Cond}
use Rattle.sq_expr.specs.declared.expr.Expr.{Expr}
use Rattle.sq_expr.specs.declared.expr.Kind.{Kind}
use Rattle.sq_expr.proofs.FitsLemmas.{fits_of}
use Rattle.sq_expr.proofs.Kept.{members_suit}
use Rattle.sq_expr.proofs.Lists.{all_weaker}
use Rattle.sq_expr.proofs.Rows.{length_of_kinds}
use Rattle.sq_typed.specs.declared.query.Grouping.{Grouping}
use Rattle.sq_typed.specs.Blocks.{block_answer, group_row, groups, item_rows, selected, tested_calls, without_repeats}
use Rattle.sq_typed.specs.Fit.{AreAllOfKinds, GivesKinds, Pairwise, SourceGivesKinds, grouped_kinds, item_row_kinds}
use Rattle.sq_typed.specs.From.{Row, Answer, Source, all_hold, kept, members_of, stages, widths_of}
use Rattle.sq_typed.specs.Laws.{HasItsWidth, last_of, width_of_all}
use Rattle.sq_typed.specs.Queries.{is_outside}
use Rattle.sq_typed.proofs.FitQueries.{IsFew, last_few, none_pass, or_left, or_right}
use Rattle.sq_typed.proofs.GivenRows.{its_width}
use Rattle.sq_typed.proofs.Tests.{every, filter_all}
use Rattle.sq_typed.proofs.FitRows.{rows_of_groups_are, rows_of_where}
use Rattle.sq_typed.proofs.WhereLemmas.{where_keeps_the_last}
use Rattle.sq_expr.proofs.Names.{cond_names_in_range}
use Rattle.std.proofs.lemmas.List.{length-append}
use Rattle.sq_lists.specs.BlockFits.{BlockSuits, has_own_fault, CanGroup, HasSource}
use Rattle.sq_lists.specs.Stages.{CanGoOn, is_stage_crowded}
use Rattle.sq_lists.specs.Values.{ArgumentFits}
use Rattle.sq_lists.proofs.Groups.{or_both, or_first, or_second}
use Rattle.sq_lists.proofs.Stages.{AllFit, rows_fit}

-- the members of a condition that suits
pub members_of_suit : (kinds : List Kind) (c : Option Cond) → AllByRecursion (SuitsCond kinds) (option_to_list c) → AllByRecursion (SuitsCond kinds) (members_of c)
members_of_suit kinds None h = tt
members_of_suit kinds (Some c) h = members_suit kinds c h.0

argument_fits_row : (kinds : List Kind) (arg : Option Expr) (row : Row) → AllByRecursion (Suits kinds) (option_to_list arg) → AreOfKinds row kinds → ArgumentFits arg row
argument_fits_row kinds None row s h = tt
argument_fits_row kinds (Some e) row s h = fits_of e row kinds s.0 h

-- the arguments of the calls on rows of kinds
pub calls_fit : (g : Grouping) (rows : List Row) → CanGroup (Some g) rows → AllByRecursion (λ c. AllByRecursion (ArgumentFits c.arg) rows) g.calls
calls_fit g rows j =
    all_weaker (λ c. AllByRecursion (Suits j.kinds) (option_to_list c.arg)) (λ c. AllByRecursion (ArgumentFits c.arg) rows) g.calls
    (λ c s. all_weaker (λ row. AreOfKinds row j.kinds) (ArgumentFits c.arg) rows (λ row h. argument_fits_row j.kinds c.arg row s h) j.rows_are) j.suits.arguments

-- the group rows fit HAVING, where no number is outside
pub groups_fit : (g : Grouping) (rows : List Row) → CanGroup (Some g) rows → list_any is_outside (tested_calls (Some g) rows) ≡ false → AllByRecursion (AllFit (members_of g.having)) (map (group_row g.calls) (groups g.columns rows))
groups_fit g rows j inside =
    rows_fit (grouped_kinds j.kinds g) (members_of g.having) (map (group_row g.calls) (groups g.columns rows)) (members_of_suit (grouped_kinds j.kinds g) g.having j.suits.having)
    (subst (λ rs. AreAllOfKinds rs (grouped_kinds j.kinds g)) (filter_all (all_hold []) (map (group_row g.calls) (groups g.columns rows)) (every (λ row. all_hold [] row ≡ true) (map (group_row g.calls) (groups g.columns rows)) (λ row. refl)))
    (rows_of_groups_are j.kinds (record { columns = g.columns; calls = g.calls; having = None }) rows j.few j.rows_are (none_pass is_outside (tested_calls (Some g) rows) inside)))

-- ---- the whole block

kinds_width : (a : Answer) (kinds : List Kind) → GivesKinds a kinds → HasItsWidth a
kinds_width a kinds h = its_width AreOfKinds length_of_kinds a kinds h

all_widths : (ss : List Source) (kss : List (List Kind)) → Pairwise SourceGivesKinds ss kss → AllByRecursion (λ s. HasItsWidth s.answer) ss
all_widths [] [] p = tt
all_widths [] (ks ∷ kss) p = absurd p
all_widths (s ∷ ss) [] p = absurd p
all_widths (s ∷ ss) (ks ∷ kss) p = (kinds_width s.answer ks p.0, all_widths ss kss p.1)

width_is_kinds : (ss : List Source) (kss : List (List Kind)) → Pairwise SourceGivesKinds ss kss → width_of_all ss ≡ length (flat_map (λ ks. ks) kss)
width_is_kinds [] [] p = refl
width_is_kinds [] (ks ∷ kss) p = absurd p
width_is_kinds (s ∷ ss) [] p = absurd p
width_is_kinds (s ∷ ss) (ks ∷ kss) p = omega (arith, p.0.0, width_is_kinds ss kss p.1, length-append ks (flat_map (λ ks. ks) kss))

few_stages : (stages : List (List Row × List Row)) → list_any is_stage_crowded stages ≡ false → AllByRecursion IsFew (map (λ stage. stage.0) stages)
few_stages [] e = tt
few_stages (s ∷ ss) e = (or_left (is_stage_crowded s) (list_any is_stage_crowded ss) e, few_stages ss (or_right (is_stage_crowded s) (list_any is_stage_crowded ss) e))

module _ (sources : List Source) (where_ : Option Cond) (grouping : Option Grouping) (items : List Expr) (b : BlockSuits sources where_ grouping items) where
  abbrev all_kinds : List Kind
  all_kinds = flat_map (λ ks. ks) b.kinds

  conds_suit : AllByRecursion (SuitsCond all_kinds) (members_of where_)
  conds_suit = members_of_suit all_kinds where_ b.where_suits

  pub can_go_on : CanGoOn (members_of where_) [] sources
  can_go_on = record { kinds = b.kinds; give = b.give; ons_suit = b.ons_suit; conds_suit = conds_suit }

  last_kept : (ss : List Source) → HasSource ss → AllByRecursion (λ s. HasItsWidth s.answer) ss → AllByRecursion (λ c. width_of (cond_columns c) ≤ width_of_all ss) (members_of where_) → kept (members_of where_) ss ≡ last_of ([] ∷ []) (stages (members_of where_) ss)
  last_kept [] h w n = absurd h
  last_kept (s ∷ ss) h w n = where_keeps_the_last (members_of where_) s ss w n

  pub kept_is : kept (members_of where_) sources ≡ last_of ([] ∷ []) (stages (members_of where_) sources)
  kept_is = last_kept sources b.some (all_widths sources b.kinds b.give)
      (all_weaker (SuitsCond all_kinds) (λ c. width_of (cond_columns c) ≤ width_of_all sources) (members_of where_)
      (λ c s. subst (λ w. width_of (cond_columns c) ≤ w) (sym (width_is_kinds sources b.kinds b.give)) (cond_names_in_range all_kinds c s.typed)) conds_suit)

  pub can_group : (rows : List Row) → rows ≡ last_of ([] ∷ []) (stages (members_of where_) sources) → list_any is_stage_crowded (stages (members_of where_) sources) ≡ false → CanGroup grouping rows
  can_group rows is e = record {
    kinds = all_kinds;
    rows_are = subst (λ rs. AreAllOfKinds rs all_kinds) (kept_is ∙ sym is) (rows_of_where (members_of where_) sources b.kinds b.give);
    few = subst (λ rs. length rs ≤ 2 ^ 61) (sym is) (last_few (widths_of sources) (members_of where_) 1 ([] ∷ []) sources (omega arith) (few_stages (stages (members_of where_) sources) e));
    suits = b.grouping_suits;
  }

  grouped_are : (g : Option Grouping) (rows : List Row) → AreAllOfKinds rows all_kinds → length rows ≤ 2 ^ 61 → list_any is_outside (tested_calls g rows) ≡ false → AreAllOfKinds (item_rows g rows) (item_row_kinds all_kinds g)
  grouped_are None rows h few e = h
  grouped_are (Some g) rows h few e = rows_of_groups_are all_kinds g rows few h (none_pass is_outside (tested_calls (Some g) rows) e)

  pub items_fit : (kept_rows rows : List Row) → kept_rows ≡ last_of ([] ∷ []) (stages (members_of where_) sources) → list_any is_stage_crowded (stages (members_of where_) sources) ≡ false → rows ≡ item_rows grouping kept_rows → list_any is_outside (tested_calls grouping kept_rows) ≡ false → AllByRecursion (λ row. AllByRecursion (λ e. Fits e row) items) rows
  unfolding can_group
  items_fit kept_rows rows is e rows_is inside =
      let j : CanGroup grouping kept_rows = can_group kept_rows is e in
      all_weaker (λ row. AreOfKinds row (item_row_kinds all_kinds grouping)) (λ row. AllByRecursion (λ e. Fits e row) items) rows
      (λ row h. all_weaker (Suits (item_row_kinds all_kinds grouping)) (λ e. Fits e row) items (λ e s. fits_of e row (item_row_kinds all_kinds grouping) s h) b.items_suit)
      (subst (λ rs. AreAllOfKinds rs (item_row_kinds all_kinds grouping)) (sym rows_is) (grouped_are grouping kept_rows j.rows_are j.few inside))

  -- the rows, and each number of them that is outside
  abbrev own : Bool
  own = has_own_fault sources where_ grouping items

  module _ (kept_rows : List Row) (is : kept_rows ≡ last_of ([] ∷ []) (stages (members_of where_) sources)) where
    is_kept : kept_rows ≡ kept (members_of where_) sources
    is_kept = is ∙ sym kept_is

    pub calls_outside : list_any is_outside (tested_calls grouping kept_rows) ≡ true → own ≡ true
    calls_outside e =
        or_second (list_any is_stage_crowded (stages (members_of where_) sources)) (list_any is_outside (tested_calls grouping (kept (members_of where_) sources)) || list_any is_outside (flat_map (λ row. row) (selected items (item_rows grouping (kept (members_of where_) sources)))))
        (or_first (list_any is_outside (tested_calls grouping (kept (members_of where_) sources))) (list_any is_outside (flat_map (λ row. row) (selected items (item_rows grouping (kept (members_of where_) sources))))) (ap (λ rs. list_any is_outside (tested_calls grouping rs)) (sym is_kept) ∙ e))

    pub items_outside : (rows : List Row) → rows ≡ item_rows grouping kept_rows → list_any is_outside (flat_map (λ row. row) (selected items rows)) ≡ true → own ≡ true
    items_outside rows r e =
        or_second (list_any is_stage_crowded (stages (members_of where_) sources)) (list_any is_outside (tested_calls grouping (kept (members_of where_) sources)) || list_any is_outside (flat_map (λ row. row) (selected items (item_rows grouping (kept (members_of where_) sources)))))
        (or_second (list_any is_outside (tested_calls grouping (kept (members_of where_) sources))) (list_any is_outside (flat_map (λ row. row) (selected items (item_rows grouping (kept (members_of where_) sources)))))
        (ap (λ rs. list_any is_outside (flat_map (λ row. row) (selected items rs))) (ap (item_rows grouping) (sym is_kept) ∙ sym r) ∙ e))

    pub nothing_own : (rows : List Row) → rows ≡ item_rows grouping kept_rows → list_any is_stage_crowded (stages (members_of where_) sources) ≡ false → list_any is_outside (tested_calls grouping kept_rows) ≡ false → list_any is_outside (flat_map (λ row. row) (selected items rows)) ≡ false → own ≡ false
    nothing_own rows r e f g =
        or_both (list_any is_stage_crowded (stages (members_of where_) sources)) (list_any is_outside (tested_calls grouping (kept (members_of where_) sources)) || list_any is_outside (flat_map (λ row. row) (selected items (item_rows grouping (kept (members_of where_) sources))))) e
        (or_both (list_any is_outside (tested_calls grouping (kept (members_of where_) sources))) (list_any is_outside (flat_map (λ row. row) (selected items (item_rows grouping (kept (members_of where_) sources)))))
        (ap (λ rs. list_any is_outside (tested_calls grouping rs)) (sym is_kept) ∙ f)
        (ap (λ rs. list_any is_outside (flat_map (λ row. row) (selected items rs))) (ap (item_rows grouping) (sym is_kept) ∙ sym r) ∙ g))

    pub rows_given : (distinct : Bool) (rows chosen : List Row) → rows ≡ item_rows grouping kept_rows → chosen ≡ selected items rows → without_repeats distinct chosen ≡ (block_answer distinct sources where_ grouping items).rows
    rows_given distinct rows chosen r e = ap (without_repeats distinct) (e ∙ ap (selected items) (r ∙ ap (item_rows grouping) is_kept))

  pub stages_outside : list_any is_stage_crowded (stages (members_of where_) sources) ≡ true → own ≡ true
  stages_outside e = or_first (list_any is_stage_crowded (stages (members_of where_) sources)) (list_any is_outside (tested_calls grouping (kept (members_of where_) sources)) || list_any is_outside (flat_map (λ row. row) (selected items (item_rows grouping (kept (members_of where_) sources))))) e
