-- Groups, items and DISTINCT.
use Rattle.std.proofs.Common.{◌≡◌, ℕ, ◌+◌, true, false, ◌&&◌, List, map, refl, sym, ap, ap₂, subst, ◌∙◌, arith}
use Rattle.std.specs.Prelude.{Option, Some, None, is_some}
use Rattle.std.specs.List.{AllByRecursion}
use Rattle.std.proofs.lemmas.List.{length-append}
use Rattle.sq_expr.specs.Fits.{Suits, SuitsCond}
use Rattle.sq_expr.specs.declared.cond.Cond.{Cond}
use Rattle.sq_expr.specs.declared.expr.Expr.{Expr}
use Rattle.sq_expr.specs.declared.expr.Kind.{Kind}
use Rattle.sq_expr.proofs.Kept.{members_suit}
use Rattle.sq_ops.specs.Aggregates.{SuitsSpec, aggregated, first_sum_outside}
use Rattle.sq_ops.specs.declared.aggregate.AggSpec.{AggSpec}
use Rattle.sq_bridge.specs.Groups.{group_items, group_spec, item_node, selected_node}
use Rattle.sq_bridge.specs.Nodes.{has_item_outside}
use Rattle.sq_bridge.specs.Rows.{kept_on_all, projected}
use Rattle.sq_bridge.proofs.GroupSuiting.{group_items_suit, group_spec_suits}
use Rattle.sq_circuit.specs.Gives.{GroupKinds, ItemKinds}
use Rattle.sq_circuit.specs.Nodes.{Rows}
use Rattle.sq_typed.specs.declared.query.Grouping.{Grouping}
use Rattle.sq_typed.specs.Fit.{grouped_kinds, grouping_fits, may_suit}
use Rattle.sq_typed.specs.From.{members_of}
use Rattle.sq_typed.specs.Numbered.{kind_of}
use Rattle.sq_typed.proofs.FitTests.{suits_cond_is}
use Rattle.sq_typed.proofs.Tests.{and_right}
use Rattle.sq_plan.specs.Drafts.{Adds, kinds_of, worth_of}
use Rattle.sq_plan.specs.Steps.{Becomes, node_of}
use Rattle.sq_plan.specs.declared.draft.Draft.{Draft}
use Rattle.sq_plan.proofs.Giving.{group_kinds, items_kinds}
use Rattle.sq_plan.proofs.Primitives.{many_mapped, or_false}
use Rattle.sq_plan.proofs.Stepping.{adds_seq, becomes}

-- the conditions of a clause that may be missing
pub may_suit_members : (kinds : List Kind) (c : Option Cond) → may_suit kinds c ≡ true → AllByRecursion (SuitsCond kinds) (members_of c)
may_suit_members kinds None e = tt
may_suit_members kinds (Some c) e = members_suit kinds c ((suits_cond_is kinds c).0 e)

module _ (d d1 : Draft) (input : ℕ) (g : Grouping) (fits : grouping_fits (kinds_of d input) g ≡ true) (items : List Expr) (items_are : items ≡ group_items g) (own kinds : List Kind) (seen1 seen2 : List Kind) (is1 : seen1 ≡ kinds_of d input) (is2 : seen2 ≡ kinds_of d input) (own_is : own ≡ map (kind_of seen1) items) (kinds_is : kinds ≡ grouped_kinds seen2 g) where
  pub items_suit : AllByRecursion (Suits (kinds_of d input)) items
  items_suit = subst (AllByRecursion (Suits (kinds_of d input))) (sym items_are) (group_items_suit (kinds_of d input) g fits)

  pub items_give : ItemKinds (kinds_of d input) items own
  items_give = subst (ItemKinds (kinds_of d input) items) (sym (own_is ∙ (λ j. map (kind_of (is1 j)) items))) (items_kinds (kinds_of d input) items items_suit)

  own_kinds : own ≡ map (kind_of (kinds_of d input)) (group_items g)
  own_kinds = own_is ∙ (λ j. map (kind_of (is1 j)) (items_are j))

  group_kinds_are : kinds ≡ grouped_kinds (kinds_of d input) g
  group_kinds_are = kinds_is ∙ ap (λ ks. grouped_kinds ks g) is2

  module _ (shown : ℕ) (h1 : Adds 1 d d1 shown own (λ tables. projected items (worth_of d input tables)) (λ tables. has_item_outside items (worth_of d input tables))) (spec : AggSpec) (spec_is : spec ≡ group_spec g) where
    pub spec_suits : SuitsSpec spec (kinds_of d1 shown)
    spec_suits = subst (λ (s : AggSpec). SuitsSpec s (kinds_of d1 shown)) (sym spec_is) (subst (SuitsSpec (group_spec g)) (sym (h1.kinds_are ∙ own_kinds)) (group_spec_suits (kinds_of d input) g fits))

    pub spec_gives : GroupKinds (kinds_of d1 shown) spec kinds
    spec_gives =
        subst (λ (s : AggSpec). GroupKinds (kinds_of d1 shown) s kinds) (sym spec_is) (subst (λ ks. GroupKinds ks (group_spec g) kinds) (sym (h1.kinds_are ∙ own_kinds))
        (subst (GroupKinds (map (kind_of (kinds_of d input)) (group_items g)) (group_spec g)) (sym group_kinds_are) (group_kinds (kinds_of d input) g fits)))

    module _ (d2 : Draft) (groups : ℕ) (h2 : Adds 1 d1 d2 groups kinds (λ tables. aggregated spec (worth_of d1 shown tables)) (λ tables. is_some (first_sum_outside spec (worth_of d1 shown tables)))) (conds : List Cond) (conds_are : conds ≡ members_of g.having) where
      pub having_suits : AllByRecursion (SuitsCond (kinds_of d2 groups)) conds
      having_suits = subst (AllByRecursion (SuitsCond (kinds_of d2 groups))) (sym conds_are) (may_suit_members (kinds_of d2 groups) g.having
          (subst (λ ks. may_suit ks g.having ≡ true) (sym (h2.kinds_are ∙ group_kinds_are)) (and_right _ (may_suit (grouped_kinds (kinds_of d input) g) g.having) (and_right _ (_ && may_suit (grouped_kinds (kinds_of d input) g) g.having) fits))))

      pub grouped_is : (d3 : Draft) (i : ℕ) → Adds 1 d2 d3 i (kinds_of d2 groups) (λ tables. kept_on_all conds (worth_of d2 groups tables)) (λ tables. false) →
          Becomes 3 d d3 i (grouped_kinds (kinds_of d input) g) (λ tables. item_node (Some g) (node_of d tables input))
      grouped_is d3 i h3 =
          becomes 3 3 d d3 i group_own group_own _ _ (λ tables. item_node (Some g) (node_of d tables input)) (omega arith) refl
          (λ tables. sym (length-append (map (λ n. _) g.columns) (map (λ c. _) g.calls) ∙ ap₂ (λ a b. a + b) (many_mapped _ g.columns) (many_mapped _ g.calls)))
          (λ tables. refl) (λ tables. or_false _)
          (adds_seq 2 1 d d2 d3 groups i kinds (kinds_of d2 groups) group_own _ _ (λ tables. kept_on_all (members_of g.having) (rows tables)) _ (λ tables. false) (λ tables. false)
          (adds_seq 1 1 d d1 d2 shown groups own kinds kinds _ _ rows (λ tables. has_item_outside (group_items g) (worth_of d input tables)) _ (λ tables. is_some (first_sum_outside (group_spec g) (projected (group_items g) (worth_of d input tables)))) h1b refl
          (λ tables j. aggregated (spec_is j) (shown_is tables j)) (λ tables j. is_some (first_sum_outside (spec_is j) (shown_is tables j))) h2)
          (h2.kinds_are ∙ group_kinds_are) (λ tables j. kept_on_all (conds_are j) (groups_are tables j)) (λ tables. refl) h3)
        where
          group_own : List Kind
          group_own = grouped_kinds (kinds_of d input) g

          rows : List Rows → Rows
          rows tables = aggregated (group_spec g) (projected (group_items g) (worth_of d input tables))

          shown_is : (tables : List Rows) → worth_of d1 shown tables ≡ projected (group_items g) (worth_of d input tables)
          shown_is tables = h1.worth tables ∙ ap (λ es. projected es (worth_of d input tables)) items_are

          groups_are : (tables : List Rows) → worth_of d2 groups tables ≡ rows tables
          groups_are tables = h2.worth tables ∙ (λ j. aggregated (spec_is j) (shown_is tables j))

          h1b : Adds 1 d d1 shown own (λ tables. projected (group_items g) (worth_of d input tables)) (λ tables. has_item_outside (group_items g) (worth_of d input tables))
          h1b = subst (λ es. Adds 1 d d1 shown own (λ tables. projected es (worth_of d input tables)) (λ tables. has_item_outside es (worth_of d input tables))) items_are h1

pub selected_give : (d : Draft) (rows : ℕ) (items chosen read : List Expr) (kinds seen : List Kind) → AllByRecursion (Suits (kinds_of d rows)) items → seen ≡ kinds_of d rows → read ≡ items → chosen ≡ items → kinds ≡ map (kind_of seen) read → ItemKinds (kinds_of d rows) chosen kinds
selected_give d rows items chosen read kinds seen suit seen_is read_is chosen_is kinds_is =
    subst (ItemKinds (kinds_of d rows) chosen) (sym (kinds_is ∙ (λ j. map (kind_of (seen_is j)) ((read_is ∙ sym chosen_is) j))))
    (items_kinds (kinds_of d rows) chosen (subst (AllByRecursion (Suits (kinds_of d rows))) (sym chosen_is) suit))

pub selected_is : (d e : Draft) (rows : ℕ) (items chosen read : List Expr) (kinds seen : List Kind) (i : ℕ) → seen ≡ kinds_of d rows → read ≡ items → chosen ≡ items → kinds ≡ map (kind_of seen) read →
    Adds 1 d e i kinds (λ tables. projected chosen (worth_of d rows tables)) (λ tables. has_item_outside chosen (worth_of d rows tables)) →
    Becomes 1 d e i (map (kind_of (kinds_of d rows)) items) (λ tables. selected_node items (node_of d tables rows))
selected_is d e rows items chosen read kinds seen i seen_is read_is chosen_is kinds_is a =
    becomes 1 1 d e i kinds (map (kind_of (kinds_of d rows)) items) _ _ (λ tables. selected_node items (node_of d tables rows)) (omega arith) (kinds_is ∙ (λ j. map (kind_of (seen_is j)) (read_is j)))
    (λ tables. sym (many_mapped (kind_of (kinds_of d rows)) items))
    (λ tables. ap (λ es. projected es (worth_of d rows tables)) chosen_is) (λ tables. ap (λ es. has_item_outside es (worth_of d rows tables)) chosen_is) a
