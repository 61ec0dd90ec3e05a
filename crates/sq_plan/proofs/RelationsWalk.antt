-- The relations of a program as nodes, one more at a time.
use Rattle.std.proofs.Common.{◌≡◌, ℕ, zero, suc, ◌+◌, ◌*◌, ◌<◌, ◌≤◌, ◌^◌, Bool, true, false, ◌||◌, List, [], ◌∷◌, ◌++◌, drop, fold, get_or, length, map, refl, sym, ap, ap₂, subst, ◌∙◌, append_assoc, append-nil, arith}
use mathlib.Core.Logic.{◌⊎◌, inl, inr}
use Rattle.std.specs.Prelude.{Some, slice_get}
use Rattle.std.specs.List.{AllByRecursion}
use Rattle.std.proofs.lemmas.List.{length-append, length-map, map-append}
use Rattle.std.proofs.lemmas.Option.{same_Some, slice_get_within}
use Rattle.sq_ast.specs.Sources.{sum}
use Rattle.sq_ast.specs.declared.query.SetOp.{SetOp}
use Rattle.sq_bridge.specs.Nodes.{Node, NodeSource, no_node}
use Rattle.sq_bridge.specs.Queries.{node_by_block, node_by_origin, node_by_query, node_by_source, node_by_step, query_node, relation_node}
use Rattle.sq_bridge.specs.Small.{HasSmallBlocks}
use Rattle.sq_bridge.specs.Views.{NodeStanding, first_table, node_of_first, node_standing, with_relation_node, with_table_node, with_view_node}
use Rattle.sq_bridge.proofs.SmallPrograms.{checked_blocks_small, checked_relations_few, checked_relations_narrow}
use Rattle.sq_catalog.specs.declared.relation.Relation.{Relation}
use Rattle.sq_catalog.specs.declared.relation.RelationKind.{RelationKind}
use Rattle.sq_catalog.specs.declared.relation.RelationKind.TheVariants.{Table, View}
use Rattle.sq_circuit.specs.Circuits.{kinds_in, owner_at, owner_in, table_at, whole}
use Rattle.sq_circuit.specs.Begun.{AreTables, IsBegun}
use Rattle.sq_circuit.specs.Invariant.{AreEarlier}
use Rattle.sq_circuit.specs.Listed.{is_loose_in}
use Rattle.sq_circuit.specs.Nodes.{Rows}
use Rattle.sq_circuit.specs.declared.circuit.Part.{Part}
use Rattle.sq_circuit.specs.declared.node.Node.TheVariants as node
use Rattle.sq_circuit.specs.declared.node.Node.TheVariants.{Join}
use Rattle.sq_circuit.proofs.Alongside.{got_front, got_next}
use Rattle.sq_circuit.proofs.Appending.{front_or_last}
use Rattle.sq_circuit.proofs.Evaluating.{whole_at}
use Rattle.sq_circuit.proofs.Growing.{whole_more}
use Rattle.sq_circuit.proofs.Making.{begun_earlier, begun_later, tables_begin}
use Rattle.sq_expr.specs.declared.expr.Kind.{Kind}
use Rattle.sq_expr.proofs.Lists.{all_append, all_at, all_weaker}
use Rattle.sq_typed.specs.Checked.{IsChecked}
use Rattle.sq_typed.specs.Fit as fit
use Rattle.sq_typed.specs.Fit.{FirstFits, Fits, ProgramFits, kinds_given}
use Rattle.sq_typed.specs.Laws.{by_kind}
use Rattle.sq_typed.specs.Sources.{query_sources, sources_in}
use Rattle.sq_typed.specs.Views.{Meant}
use Rattle.sq_typed.specs.declared.limits.TheConstants.{MOST_COLUMNS}
use Rattle.sq_typed.specs.declared.query.Origin.TheFolds.{fold-Query}
use Rattle.sq_typed.specs.declared.query.Origin.TheOpen.{Origin-F}
use Rattle.sq_typed.specs.declared.query.Query.{Query}
use Rattle.sq_typed.proofs.CheckedFits.{checked_fits}
use Rattle.sq_plan.specs.Drafts.{IsDraft, IsNode, blames_view, kinds_of, worth_of}
use Rattle.sq_plan.specs.Keyed.{AreKeyed, IsJoinOf, NewJoins}
use Rattle.sq_plan.specs.Plans.{CanPlan, Plans, relation_kinds, relation_nodes}
use Rattle.sq_plan.specs.Program.{table_kinds, table_part, tables_from}
use Rattle.sq_plan.specs.ProgramWalk.{IsNarrowKinds, IsShown, IsView, Stands, Walk, most_nodes}
use Rattle.sq_plan.specs.Steps.{node_of}
use Rattle.sq_plan.specs.declared.draft.Draft.{Draft}
use Rattle.sq_plan.proofs.Adding.{no_tables_in}
use Rattle.sq_plan.proofs.KeyedPrograms.{kinds_of_more, view_keyed}
use Rattle.sq_plan.proofs.KeyedSteps.{some_node}
use Rattle.sq_plan.proofs.Planning.{Longer, length_is, longer_by, nodes_still, relation_nodes_still, relations_still}
use Rattle.sq_plan.proofs.RelationsBlame.{none_yet, others_still, owners_more}
use Rattle.sq_plan.proofs.RelationsNarrow.{small_is_narrow}
use Rattle.sq_plan.proofs.Taking.{take_none}
use Rattle.sq_plan.proofs.RelationsTables.{drop_here, drop_next, first_left, first_of, kinds_first, kinds_later, tables_at, tables_few, tables_many}

-- ---- a query depends on rows and widths of its relations alone
got_relation : (ns : List Node) (n : ℕ) → relation_node (get_or ns n no_node) ≡ relation_node (get_or (map relation_node ns) n no_node)
got_relation [] zero = refl
got_relation [] (suc n) = refl
got_relation (m ∷ ns) zero = refl
got_relation (m ∷ ns) (suc n) = got_relation ns n

abbrev Layer : Type 0
Layer = Origin-F Node Node Node NodeSource (SetOp × Node)

by_relations : (ns : List Node) (q : Query) → query_node ns q ≡ query_node (map relation_node ns) q
unfolding query_node
by_relations ns q = ap (λ f. fold-Query Node Node Node NodeSource (SetOp × Node) f node_by_query node_by_block node_by_source node_by_step q) (λ j x. same x j)
  where
    same : (x : Layer) → node_by_origin ns x ≡ node_by_origin (map relation_node ns) x
    same (Origin-F.Relation n) = got_relation ns n
    same (Origin-F.Query m) = refl

-- ---- the start
abbrev pub with_all : NodeStanding → List Relation → NodeStanding
with_all s rs = fold (λ s (r : Relation). with_relation_node r.kind (length r.columns) s) s rs

walk_room : (p : Meant) → IsChecked p → sources_in p ≤ 2 ^ 20 → most_nodes p + length p.catalog < 2 ^ 32
walk_room p checked few = let all = checked_relations_few p checked in let tables = tables_few p.catalog in omega arith

-- no node has an owner, and each is the table of its number
tables_owned : (kss : List (List Kind)) (n i v : ℕ) → owner_at (tables_from n kss) i ≡ Some v → ⊥
tables_owned [] n i v e = cc e
tables_owned (ks ∷ kss) n zero v e = cc e
tables_owned (ks ∷ kss) n (suc i) v e = tables_owned kss (suc n) i v e

pub tables_are : (kss : List (List Kind)) (n i t : ℕ) (p : Part) → slice_get (tables_from n kss) i ≡ Some p → t ≡ n + i → (ks : List Kind) × (p ≡ table_part t ks)
tables_are [] n i t p e is = absurd (cc e)
tables_are (ks ∷ kss) n zero t p e is = let same : n ≡ t = omega arith in (ks, sym (same_Some (table_part n ks) p e) ∙ ap (λ m. table_part m ks) same)
tables_are (ks ∷ kss) n (suc i) t p e is = tables_are kss (suc n) i t p e (omega arith)

are_tables : (kss : List (List Kind)) → AreTables (tables_from 0 kss)
are_tables kss i p e =
    let t = tables_are kss 0 i i p e (omega arith) in
    record { node = ap (λ (x : Part). x.node) t.1; place = ap (λ (x : Part). x.place) t.1; owner = ap (λ (x : Part). x.owner) t.1 }

tables_joined : (p : Meant) (kss : List (List Kind)) → AreKeyed p (tables_from 0 kss)
tables_joined p kss i left right op at =
    let found = some_node (slice_get (tables_from 0 kss) i) (Join left right op) at in
    let made = tables_are kss 0 i i found.0 found.1 (omega arith) in
    absurd (let never : node.Table i ≡ Join left right op = sym (ap (λ (x : Part). x.node) made.1) ∙ found.2 in cc)

pub walk_starts : (p : Meant) → IsChecked p → sources_in p ≤ 2 ^ 20 → (d : Draft) → d.view ≡ 0 → d.parts.items ≡ tables_from 0 (table_kinds p.catalog) → Walk p 0 d [] [] 0
walk_starts p checked few d view is =
    let kss = table_kinds p.catalog in
    record {
      checked = checked;
      begun = λ views low. subst (IsBegun views d.view) (sym is) (tables_begin views d.view (tables_from 0 kss) (are_tables kss));
      are = tt;
      narrow = tt;
      kinds = sym (ap (map fit.kinds_of) (take_none p.catalog));
      fits = subst (λ v. ProgramFits [] (drop v p.queries) p.catalog) (sym view) (checked_fits p checked);
      keyed = subst (AreKeyed p) (sym is) (tables_joined p kss);
      more = [];
      no_tables = refl;
      is = is ∙ sym (append-nil (tables_from 0 kss));
      tables_left = refl;
      owners = λ i v e. absurd (tables_owned kss 0 i v (ap (λ xs. owner_at xs i) (sym is) ∙ e));
      many = sym view;
      low = tt;
      not_later = λ v input w e f. absurd (cc e);
      count = omega (arith, view);
      there = omega (arith, view);
      few = let all = ap (λ v. sum (map query_sources (drop v p.queries))) view in omega (arith, ap length is ∙ tables_many 0 kss, all);
      room = walk_room p checked few;
      stands = λ tables. record {
        before = record { contents = []; given = []; tables = tables; queries = p.queries };
        contents = refl;
        tables_left = refl;
        queries_left = sym (ap (λ v. drop v p.queries) view);
        many = sym view;
        given = λ v n e. absurd (cc e);
        goes_on = refl;
      };
    }

-- ---- one more relation
module _ (p : Meant) (i : ℕ) (d : Draft) (nodes shown : List ℕ) (t : ℕ) (walk : Walk p i d nodes shown t) (r : Relation) (found : slice_get p.catalog i ≡ Some r) where
  abbrev later : List Relation
  later = drop (i + 1) p.catalog

  abbrev kss : List (List Kind)
  kss = relation_kinds d nodes

  abbrev own_kinds : List Kind
  own_kinds = fit.kinds_of r

  left_is : drop i p.catalog ≡ r ∷ later
  left_is = drop_here p.catalog i r found

  fits_here : ProgramFits kss (drop d.view p.queries) (r ∷ later)
  fits_here = subst (ProgramFits kss (drop d.view p.queries)) left_is walk.fits

  wide : length own_kinds ≡ length r.columns
  wide = length-map r.columns (λ c. c.kind)

  narrow_here : IsNarrowKinds own_kinds
  narrow_here = let few = all_at (λ (x : Relation). length x.columns ≤ MOST_COLUMNS) p.catalog i r (checked_relations_narrow p walk.checked) found in omega (arith, wide, few)

  earlier : AreEarlier d.parts.items
  earlier = begun_earlier d.view d.view d.parts.items (walk.begun d.view (omega arith))

  draft : IsDraft d
  draft = record { begun = λ views low. walk.begun views (omega (arith, low)) }

  all_here : (tables : List Rows) → node_standing p tables ≡ with_all (with_relation_node r.kind (length r.columns) (walk.stands tables).before) later
  all_here tables = (walk.stands tables).goes_on ∙ ap (with_all (walk.stands tables).before) left_is

  -- ---- a table, which has a node already
  module _ (kind : r.kind ≡ Table) where
    tables_here : drop t (table_kinds p.catalog) ≡ own_kinds ∷ table_kinds later
    tables_here = walk.tables_left ∙ ap table_kinds left_is ∙ kinds_first r later kind

    table_here : slice_get d.parts.items t ≡ Some (table_part t own_kinds)
    table_here =
        let own = tables_at (table_kinds p.catalog) 0 t t own_kinds (first_left (table_kinds p.catalog) (table_kinds later) t own_kinds tables_here) (omega arith) in
        ap (λ xs. slice_get xs t) walk.is ∙ got_front (tables_from 0 (table_kinds p.catalog)) walk.more t (slice_get_within (tables_from 0 (table_kinds p.catalog)) t _ own) ∙ own

    low : IsNode d t
    low = record {
      there = slice_get_within d.parts.items t _ table_here;
      list = λ loose. absurd (let never : true ≡ false = sym loose ∙ ap is_loose_in table_here in cc);
    }

    kinds_are : kinds_of d t ≡ own_kinds
    kinds_are = ap kinds_in table_here

    rows_are : (tables : List Rows) → worth_of d t tables ≡ table_at tables t
    rows_are tables = whole_at d.parts.items earlier tables t (table_part t own_kinds) table_here

    table_kinds_more : relation_kinds d (nodes ++ t ∷ []) ≡ kss ++ own_kinds ∷ []
    table_kinds_more = map-append (kinds_of d) nodes (t ∷ []) ∙ ap (λ ks. kss ++ ks ∷ []) kinds_are

    table_fits : ProgramFits (kss ++ own_kinds ∷ []) (drop d.view p.queries) later
    table_fits = subst (λ k. by_kind k (ProgramFits (kss ++ own_kinds ∷ []) (drop d.view p.queries) later) (FirstFits kss own_kinds (drop d.view p.queries) × ProgramFits (kss ++ own_kinds ∷ []) (drop 1 (drop d.view p.queries)) later)) kind fits_here

    table_stands : (tables : List Rows) → Stands p (i + 1) d (nodes ++ t ∷ []) shown (t + 1) tables
    table_stands tables =
        let s = walk.stands tables in
        let own : Node = record { width = length r.columns; rows = first_table s.before.tables; fault = false } in
        let same : relation_node own ≡ node_of d tables t = (
        λ j. record { width = (sym wide ∙ ap length (sym kinds_are)) j; rows = (ap first_table s.tables_left ∙ first_of tables t ∙ sym (rows_are tables)) j; fault = false }
        ) in
        record {
          before = with_table_node (length r.columns) s.before;
          contents = map-append relation_node s.before.contents (own ∷ []) ∙ ap₂ (λ ns n. ns ++ n ∷ []) s.contents same ∙ sym (map-append (node_of d tables) nodes (t ∷ []));
          tables_left = ap (drop 1) s.tables_left ∙ drop_next tables t;
          queries_left = s.queries_left;
          many = s.many;
          given = s.given;
          goes_on = all_here tables ∙ ap (λ k. with_all (with_relation_node k (length r.columns) s.before) later) kind;
        }

    pub table_goes : Walk p (i + 1) d (nodes ++ t ∷ []) shown (t + 1)
    table_goes = record {
      checked = walk.checked;
      begun = walk.begun;
      are = all_append (IsNode d) nodes (t ∷ []) walk.are (low, tt);
      narrow = subst (AllByRecursion IsNarrowKinds) (sym table_kinds_more) (all_append IsNarrowKinds kss (own_kinds ∷ []) walk.narrow (narrow_here, tt));
      kinds = table_kinds_more ∙ kinds_of_more p.catalog i r kss found walk.kinds;
      fits = subst (λ ks. ProgramFits ks (drop d.view p.queries) later) (sym table_kinds_more) table_fits;
      keyed = walk.keyed;
      more = walk.more;
      no_tables = walk.no_tables;
      is = walk.is;
      tables_left = sym (drop_next (table_kinds p.catalog) t) ∙ ap (drop 1) tables_here;
      owners = walk.owners;
      many = walk.many;
      low = walk.low;
      not_later = walk.not_later;
      count = omega (arith, walk.count);
      there = walk.there;
      few = walk.few;
      room = walk.room;
      stands = table_stands;
    }

  -- ---- a view, whose query gets nodes
  module _ (printed : Bool) (kind : r.kind ≡ View printed) where
    view_fits : FirstFits kss own_kinds (drop d.view p.queries) × ProgramFits (kss ++ own_kinds ∷ []) (drop 1 (drop d.view p.queries)) later
    view_fits = subst (λ k. by_kind k (ProgramFits (kss ++ own_kinds ∷ []) (drop d.view p.queries) later) (FirstFits kss own_kinds (drop d.view p.queries) × ProgramFits (kss ++ own_kinds ∷ []) (drop 1 (drop d.view p.queries)) later)) kind fits_here

    first_there : (qs : List Query) (n : ℕ) → FirstFits kss own_kinds (drop n qs) → n < length qs
    first_there [] zero f = absurd f
    first_there [] (suc n) f = absurd f
    first_there (q ∷ qs) zero f = omega arith
    first_there (q ∷ qs) (suc n) f = omega (arith, first_there qs n f)

    one_there : d.view < length p.queries
    one_there = first_there p.queries d.view view_fits.0

    module _ (q : Query) (at : slice_get p.queries d.view ≡ Some q) where
      abbrev others : List Query
      others = drop (d.view + 1) p.queries

      queries_are : drop d.view p.queries ≡ q ∷ others
      queries_are = drop_here p.queries d.view q at

      own_fits : Fits kss q × (kinds_given kss q ≡ own_kinds)
      own_fits = subst (FirstFits kss own_kinds) queries_are view_fits.0

      sources_left : sum (map query_sources (drop d.view p.queries)) ≡ query_sources q + sum (map query_sources others)
      sources_left = ap (λ qs. sum (map query_sources qs)) queries_are

      one_can : CanPlan d nodes q
      one_can = record {
        are = walk.are;
        fits = own_fits.0;
        narrow = small_is_narrow kss walk.narrow q (all_at HasSmallBlocks p.queries d.view q (checked_blocks_small p walk.checked) at);
        room = record { draft = draft; room = omega (arith, sources_left, walk.few, walk.room) };
      }

      module _ (e : Draft) (input : ℕ) (plans : Plans d e nodes q input) (joins : NewJoins d e (IsJoinOf kss q)) where
        -- the draft for the next view
        abbrev next : Draft
        next = record { parts = e.parts; view = e.view + 1 }

        abbrev long : Longer d e
        long = longer_by (40 * query_sources q) d e input (kinds_given kss q) (λ tables. (query_node (relation_nodes d nodes tables) q).rows) (λ tables. (query_node (relation_nodes d nodes tables) q).fault) plans.becomes.adds

        abbrev added : List Part
        added = plans.becomes.adds.more

        same_view : e.view ≡ d.view
        same_view = plans.becomes.adds.view

        parts_are : e.parts.items ≡ d.parts.items ++ added
        parts_are = plans.becomes.adds.is

        view_kinds_more : relation_kinds next (nodes ++ input ∷ []) ≡ kss ++ own_kinds ∷ []
        view_kinds_more = map-append (kinds_of e) nodes (input ∷ []) ∙ ap₂ (λ ks k. ks ++ k ∷ []) (relations_still d e long nodes walk.are) (plans.becomes.adds.kinds_are ∙ own_fits.1)

        module _ (tables : List Rows) where
          abbrev s : Stands p i d nodes shown t tables
          s = walk.stands tables

          abbrev own : Node
          own = node_of_first s.before.contents s.before.queries

          abbrev planned : Node
          planned = query_node (relation_nodes d nodes tables) q

          own_is : own ≡ planned
          own_is = ap (node_of_first s.before.contents) (s.queries_left ∙ queries_are) ∙ by_relations s.before.contents q ∙ ap (λ ns. query_node ns q) s.contents

          node_is : relation_node own ≡ node_of e tables input
          node_is =
              ap relation_node own_is
              ∙ (λ j. record { width = (plans.becomes.width tables ∙ ap length (sym plans.becomes.adds.kinds_are)) j; rows = sym (plans.becomes.adds.worth tables) j; fault = false })

          -- the nodes of earlier views stay as they are
          still_shown : (v : ℕ) (n : Node) → v < d.view → IsShown d shown tables v n → IsShown next (shown ++ input ∷ []) tables v n
          still_shown v n less h = record {
            node = h.node;
            at = got_front shown (input ∷ []) v (slice_get_within shown v h.node h.at) ∙ h.at;
            low = omega (arith, length_is d e long, h.low);
            rows = ap (λ xs. whole xs tables h.node) parts_are ∙ whole_more d.parts.items added tables h.node h.low ∙ h.rows;
            blame = ap (λ xs. blames_view xs tables v) parts_are ∙ others_still d.parts.items added d.view plans.becomes.adds.owned earlier tables v less ∙ h.blame;
          }

          own_blame : blames_view e.parts.items tables d.view ≡ own.fault
          own_blame =
              ap (λ v. blames_view e.parts.items tables v) (sym same_view) ∙ plans.becomes.adds.blame tables
              ∙ ap (λ b. b || planned.fault) (none_yet d.parts.items d.view tables walk.owners)
              ∙ ap (λ (m : Node). m.fault) (sym own_is)

          own_shown : (v : ℕ) → v ≡ d.view → IsShown next (shown ++ input ∷ []) tables v own
          own_shown v is = record {
            node = input;
            at = got_next shown input v (is ∙ sym walk.many);
            low = plans.becomes.adds.low.there;
            rows = plans.becomes.adds.worth tables ∙ ap (λ (m : Node). m.rows) (sym own_is);
            blame = ap (λ u. blames_view e.parts.items tables u) is ∙ own_blame;
          }

          given_shown : (v : ℕ) (n : Node) → (slice_get s.before.given v ≡ Some n) ⊎ ((v ≡ length s.before.given) × (own ≡ n)) → IsShown next (shown ++ input ∷ []) tables v n
          given_shown v n (inl front) = still_shown v n (let low = slice_get_within s.before.given v n front in omega (arith, low, s.many)) (s.given v n front)
          given_shown v n (inr last) = subst (IsShown next (shown ++ input ∷ []) tables v) last.1 (own_shown v (last.0 ∙ s.many))

          view_stands : Stands p (i + 1) next (nodes ++ input ∷ []) (shown ++ input ∷ []) t tables
          view_stands = record {
            before = with_view_node own s.before;
            contents =
                map-append relation_node s.before.contents (own ∷ [])
                ∙ ap₂ (λ ns n. ns ++ n ∷ []) (s.contents ∙ sym (relation_nodes_still d e long nodes walk.are tables)) node_is
                ∙ sym (map-append (node_of e tables) nodes (input ∷ []));
            tables_left = s.tables_left;
            queries_left = ap (drop 1) s.queries_left ∙ drop_next p.queries d.view ∙ ap (λ v. drop (v + 1) p.queries) (sym same_view);
            many = length-append s.before.given (own ∷ []) ∙ ap (λ n. n + 1) (s.many ∙ sym same_view);
            given = λ v n e. given_shown v n (front_or_last s.before.given own v n e);
            goes_on = all_here tables ∙ ap (λ k. with_all (with_relation_node k (length r.columns) s.before) later) kind;
          }

        owners_now : (j v : ℕ) → owner_at (d.parts.items ++ added) j ≡ Some v → v < d.view + 1
        owners_now = owners_more d.parts.items added d.view plans.becomes.adds.owned walk.owners

        -- the nodes of this draft are those of the next
        as_next : (j : ℕ) → IsNode e j → IsNode next j
        as_next j h = record { there = h.there; list = h.list }

        nodes_next : (js : List ℕ) → AllByRecursion (IsNode d) js → AllByRecursion (IsNode next) (js ++ input ∷ [])
        nodes_next js h = all_append (IsNode next) js (input ∷ []) (all_weaker (IsNode e) (IsNode next) js as_next (nodes_still d e long js h)) (as_next input plans.becomes.adds.low, tt)

        -- the node of a view belongs to it, or to an earlier one
        owned_before : (v j w : ℕ) → (slice_get shown v ≡ Some j) ⊎ ((v ≡ length shown) × (input ≡ j)) → owner_at (d.parts.items ++ added) j ≡ Some w → w ≤ v
        owned_before v j w (inl front) o =
            walk.not_later v j w front (sym (ap owner_in (got_front d.parts.items added j (all_at (IsNode d) shown v j walk.low front).there)) ∙ o)
        owned_before v j w (inr last) o = omega (arith, last.0, walk.many, owners_now j w o)

        one_goes : Walk p (i + 1) next (nodes ++ input ∷ []) (shown ++ input ∷ []) t
        one_goes = record {
          checked = walk.checked;
          begun = λ views low. begun_later views e.view (e.view + 1) e.parts.items (plans.becomes.adds.draft.begun views (omega (arith, low))) (omega arith);
          are = nodes_next nodes walk.are;
          narrow = subst (AllByRecursion IsNarrowKinds) (sym view_kinds_more) (all_append IsNarrowKinds kss (own_kinds ∷ []) walk.narrow (narrow_here, tt));
          kinds = view_kinds_more ∙ kinds_of_more p.catalog i r kss found walk.kinds;
          keyed = view_keyed p i d e added kss q walk.keyed parts_are plans.becomes.adds.owned at walk.kinds own_fits.0 joins;
          fits = subst (λ ks. ProgramFits ks (drop next.view p.queries) later) (sym view_kinds_more)
              (subst (λ qs. ProgramFits (kss ++ own_kinds ∷ []) qs later) (drop_next p.queries d.view ∙ ap (λ v. drop (v + 1) p.queries) (sym same_view)) view_fits.1);
          more = walk.more ++ added;
          no_tables = no_tables_in walk.more added walk.no_tables plans.becomes.adds.no_tables;
          is = parts_are ∙ ap (λ xs. xs ++ added) walk.is ∙ append_assoc (tables_from 0 (table_kinds p.catalog)) walk.more added;
          tables_left = walk.tables_left ∙ ap table_kinds left_is ∙ kinds_later r later printed kind;
          owners = λ j v is. subst (λ n. v < n + 1) (sym same_view) (owners_now j v (ap (λ xs. owner_at xs j) (sym parts_are) ∙ is));
          many = length-append shown (input ∷ []) ∙ ap (λ n. n + 1) (walk.many ∙ sym same_view);
          low = nodes_next shown walk.low;
          not_later = λ v j w is o. owned_before v j w (front_or_last shown input v j is) (ap (λ xs. owner_at xs j) (sym parts_are) ∙ o);
          count = omega (arith, walk.count, same_view);
          there = omega (arith, one_there, same_view);
          few = let rest = ap (λ v. sum (map query_sources (drop (v + 1) p.queries))) same_view in omega (arith, rest, sources_left, walk.few, plans.few);
          room = walk.room;
          stands = view_stands;
        }

-- ---- the same where the relation is some view
printed_or_not : (k : RelationKind) → IsView k → (printed : Bool) × (k ≡ View printed)
printed_or_not Table h = absurd h
printed_or_not (View printed) h = (printed, refl)

module _ (p : Meant) (i : ℕ) (d : Draft) (nodes shown : List ℕ) (t : ℕ) (walk : Walk p i d nodes shown t) (r : Relation) (found : slice_get p.catalog i ≡ Some r) (is_view : IsView r.kind) where
  pub view_there : d.view < length p.queries
  view_there = let k = printed_or_not r.kind is_view in one_there p i d nodes shown t walk r found k.0 k.1

  module _ (q : Query) (at : slice_get p.queries d.view ≡ Some q) where
    pub view_can : CanPlan d nodes q
    view_can = let k = printed_or_not r.kind is_view in one_can p i d nodes shown t walk r found k.0 k.1 q at

    pub view_goes : (e : Draft) (input : ℕ) → Plans d e nodes q input → NewJoins d e (IsJoinOf (relation_kinds d nodes) q) → Walk p (i + 1) (record { parts = e.parts; view = e.view + 1 }) (nodes ++ input ∷ []) (shown ++ input ∷ []) t
    view_goes e input plans joins = let k = printed_or_not r.kind is_view in one_goes p i d nodes shown t walk r found k.0 k.1 q at e input plans joins
