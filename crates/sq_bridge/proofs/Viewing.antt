-- The view nodes of a program are worth what its views give, and the first with a fault is the first view that cannot be shown.
use Rattle.std.proofs.Common.{◌≡◌, ℕ, suc, ◌+◌, List, [], ◌∷◌, ◌++◌, map, fold, drop, length, Bool, true, false, cond, refl, sym, ap, ap₂, subst, ◌∙◌}
use Rattle.std.specs.Prelude.{nat_lt, Some, None}
use Rattle.std.specs.List.{AllByRecursion, position_or_len}
use Rattle.std.proofs.lemmas.List.Recursion.{is_position_or_len}
use Rattle.sq_value.specs.Order.{row_cmp}
use Rattle.sq_value.specs.OrderLaws.{row_cmp-total, row_cmp-antisymmetric}
use Rattle.sq_algebra.proofs.OperatorLemmas.{of_list-nil}
use Rattle.sq_catalog.specs.declared.relation.Relation.{Relation}
use Rattle.sq_catalog.specs.declared.relation.RelationKind.{RelationKind}
use Rattle.sq_catalog.specs.declared.relation.RelationKind.TheVariants.{Table, View}
use Rattle.sq_expr.specs.declared.expr.Kind.{Kind}
use Rattle.sq_expr.specs.Kinds.{AreOfKinds}
use Rattle.sq_expr.proofs.Lists.{all_front, all_back, all_weaker}
use Rattle.sq_typed.specs.declared.query.Query.{Query}
use Rattle.sq_typed.specs.Fit.{AreAllOfKinds, FirstFits, Fits, HoldsKinds, Pairwise, ProgramFits, TablesAreOfKinds, kinds_given, kinds_of}
use Rattle.sq_typed.specs.From.{Answer}
use Rattle.sq_typed.specs.Laws.{by_kind}
use Rattle.sq_typed.specs.Queries.{Contents, answer, has_range_fault}
use Rattle.sq_typed.specs.Tables.{Tables}
use Rattle.sq_typed.specs.Views.{Meant, Standing, first_answer, first_rows, verdict, views, with_relation, with_table, with_view}
use Rattle.sq_typed.proofs.FitQueries.{rows_of_query}
use Rattle.sq_typed.proofs.FitRows.{length_mapped}
use Rattle.sq_bridge.specs.Meaning.{Begins, IsWorth, IsWorthRelation}
use Rattle.sq_bridge.specs.Nodes.{Node}
use Rattle.sq_bridge.specs.Queries.{query_node}
use Rattle.sq_bridge.specs.Rows.{listed}
use Rattle.sq_typed.specs.Sorts.{AreOfSorts, GivesSorts, HoldsSorts}
use Rattle.sq_bridge.specs.Views.{NodeStanding, first_table, node_of_first, node_verdict, view_nodes, with_relation_node, with_table_node, with_view_node}
use Rattle.sq_bridge.proofs.Meaningful.{query_means}
use Rattle.sq_bridge.proofs.QueryBlame.{query_agrees}
use Rattle.sq_typed.proofs.Sorting.{kinds_have_sorts, query_sorts}

-- ---- lists with one member more

pairwise_more : {A B : Type 0} (P : A → B → Type 0) (xs : List A) (ys : List B) (x : A) (y : B) → Pairwise P xs ys → P x y → Pairwise P (xs ++ x ∷ []) (ys ++ y ∷ [])
pairwise_more P [] [] x y p h = (h, tt)
pairwise_more P [] (b ∷ ys) x y p h = absurd p
pairwise_more P (a ∷ xs) [] x y p h = absurd p
pairwise_more P (a ∷ xs) (b ∷ ys) x y p h = (p.0, pairwise_more P xs ys x y p.1 h)

abbrev CanBeShown : Answer → Type 0
CanBeShown a = has_range_fault a ≡ false

-- the faults are the same, up to the first and with it
abbrev Alike : List Node → List Answer → Type 0
Alike [] [] = Unit {0}
Alike [] (a ∷ given) = ⊥
Alike (n ∷ nodes) [] = ⊥
Alike (n ∷ nodes) (a ∷ given) = (n.fault ≡ has_range_fault a) × (CanBeShown a → Alike nodes given)

alike_more : (nodes : List Node) (given : List Answer) (n : Node) (a : Answer) → Alike nodes given → (AllByRecursion CanBeShown given → n.fault ≡ has_range_fault a) → Alike (nodes ++ n ∷ []) (given ++ a ∷ [])
alike_more [] [] n a p h = (h tt, λ _. tt)
alike_more [] (b ∷ given) n a p h = absurd p
alike_more (m ∷ nodes) [] n a p h = absurd p
alike_more (m ∷ nodes) (b ∷ given) n a p h = (p.0, λ e. alike_more nodes given n a (p.1 e) (λ all. h (e, all)))

-- the place of the first member that passes, or the length
abbrev first : {A : Type 0} → (A → Bool) → List A → ℕ
first p [] = 0
first p (x ∷ xs) = cond (p x) 0 (1 + first p xs)

first_alike : (nodes : List Node) (given : List Answer) → Alike nodes given → first (λ n. n.fault) nodes ≡ first has_range_fault given
first_alike [] [] p = refl
first_alike [] (a ∷ given) p = absurd p
first_alike (n ∷ nodes) [] p = absurd p
first_alike (n ∷ nodes) (a ∷ given) p =
    ap (λ b. cond b 0 (1 + first (λ n. n.fault) nodes)) p.0
    ∙ elim (has_range_fault a) as (λ b. has_range_fault a ≡ b → cond b 0 (1 + first (λ n. n.fault) nodes) ≡ cond b 0 (1 + first has_range_fault given)) [
      | true ↦ λ e. refl
      | false ↦ λ e. ap (λ k. 1 + k) (first_alike nodes given (p.1 e))
    ] refl

first_place : (nodes : List Node) (given : List Answer) → Alike nodes given → position_or_len (λ n. n.fault) nodes ≡ position_or_len has_range_fault given
first_place nodes given p =
    sym (is_position_or_len (first (λ n. n.fault)) (λ n. n.fault) refl (λ n ns. refl) nodes)
    ∙ first_alike nodes given p
    ∙ is_position_or_len (first has_range_fault) has_range_fault refl (λ a rest. refl) given

as_many : (nodes : List Node) (given : List Answer) → Pairwise IsWorth nodes given → length nodes ≡ length given
as_many [] [] p = refl
as_many [] (a ∷ given) p = absurd p
as_many (n ∷ nodes) [] p = absurd p
as_many (n ∷ nodes) (a ∷ given) p = ap suc (as_many nodes given p.1)

-- ---- relation by relation

record Matches (ns : NodeStanding) (s : Standing) (kss : List (List Kind)) : Type 0 where
  contents : Pairwise IsWorthRelation ns.contents s.contents
  given : Pairwise IsWorth ns.given s.given
  tables : ns.tables ≡ map listed s.tables
  queries : ns.queries ≡ s.queries
  begin : AllByRecursion Begins s.queries
  sorts : Pairwise HoldsSorts s.contents kss
  kinds : AllByRecursion CanBeShown s.given → Pairwise HoldsKinds s.contents kss
  alike : Alike ns.given s.given

-- what is shown of all relations
record Shown (ns : NodeStanding) (s : Standing) : Type 0 where
  worth : Pairwise IsWorth ns.given s.given
  alike : Alike ns.given s.given

first_is : (tables : Tables) → first_table (map listed tables) ≡ listed (first_rows tables)
first_is [] = sym (of_list-nil row_cmp row_cmp-total row_cmp-antisymmetric)
first_is (rows ∷ tables) = refl

others_are : (tables : Tables) → drop 1 (map listed tables) ≡ map listed (drop 1 tables)
others_are [] = refl
others_are (rows ∷ tables) = refl

others_begin : (queries : List Query) → AllByRecursion Begins queries → AllByRecursion Begins (drop 1 queries)
others_begin [] h = tt
others_begin (q ∷ queries) h = h.1

wide : (r : Relation) → length r.columns ≡ length (kinds_of r)
wide r = sym (length_mapped (λ c. c.kind) r.columns)

module _ (ns : NodeStanding) (s : Standing) (kss : List (List Kind)) (m : Matches ns s kss) (r : Relation) where
  table_matches : AreAllOfKinds (first_rows s.tables) (kinds_of r) → Matches (with_table_node (length r.columns) ns) (with_table (length r.columns) s) (kss ++ kinds_of r ∷ [])
  table_matches h =
      let here : Contents = record { width = length r.columns; rows = first_rows s.tables } in
      record {
        contents = pairwise_more IsWorthRelation ns.contents s.contents (record { width = length r.columns; rows = first_table ns.tables; fault = false }) here m.contents
            (record { width = refl; rows = ap first_table m.tables ∙ first_is s.tables });
        given = m.given;
        tables = ap (drop 1) m.tables ∙ others_are s.tables;
        queries = m.queries;
        begin = m.begin;
        sorts = pairwise_more HoldsSorts s.contents kss here (kinds_of r) m.sorts
            (wide r, all_weaker (λ row. AreOfKinds row (kinds_of r)) (λ row. AreOfSorts row (kinds_of r)) (first_rows s.tables) (λ row. kinds_have_sorts row (kinds_of r)) h);
        kinds = λ all. pairwise_more HoldsKinds s.contents kss here (kinds_of r) (m.kinds all) (wide r, h);
        alike = m.alike;
      }

  -- the first query that is left
  module _ (q : Query) (rest : List Query) (is : s.queries ≡ q ∷ rest) (fits : Fits kss q) (same : kinds_given kss q ≡ kinds_of r) where
    abbrev node_here : Node
    node_here = query_node ns.contents q

    abbrev given_here : Answer
    given_here = answer s.contents q

    begins_here : Begins q
    begins_here = (subst (AllByRecursion Begins) is m.begin).0

    worth_here : IsWorth node_here given_here
    worth_here = query_means s.contents ns.contents kss m.sorts m.contents q fits begins_here

    sorts_here : GivesSorts given_here (kinds_of r)
    sorts_here = subst (GivesSorts given_here) same (query_sorts s.contents kss m.sorts q fits)

    kinds_here : AllByRecursion CanBeShown s.given → CanBeShown given_here → HoldsKinds (record { width = given_here.width; rows = given_here.rows }) (kinds_of r)
    kinds_here all e = subst (λ ks. HoldsKinds (record { width = given_here.width; rows = given_here.rows }) ks) same (rows_of_query s.contents kss (m.kinds all) q fits e)

    view_matches : Matches (with_view_node node_here ns) (with_view given_here s) (kss ++ kinds_of r ∷ [])
    view_matches =
        let here : Contents = record { width = given_here.width; rows = given_here.rows } in
        record {
          contents = pairwise_more IsWorthRelation ns.contents s.contents node_here here m.contents (record { width = worth_here.width; rows = worth_here.rows });
          given = pairwise_more IsWorth ns.given s.given node_here given_here m.given worth_here;
          tables = m.tables;
          queries = ap (drop 1) m.queries;
          begin = others_begin s.queries m.begin;
          sorts = pairwise_more HoldsSorts s.contents kss here (kinds_of r) m.sorts sorts_here;
          kinds = λ all. pairwise_more HoldsKinds s.contents kss here (kinds_of r) (m.kinds (all_front CanBeShown s.given (given_here ∷ []) all)) (kinds_here (all_front CanBeShown s.given (given_here ∷ []) all) (all_back CanBeShown s.given (given_here ∷ []) all).0);
          alike = alike_more ns.given s.given node_here given_here m.alike (λ all. query_agrees s.contents ns.contents kss (m.kinds all) m.contents q fits begins_here);
        }

  any_view_matches : (queries : List Query) → s.queries ≡ queries → FirstFits kss (kinds_of r) queries → Matches (with_view_node (node_of_first ns.contents ns.queries) ns) (with_view (first_answer s.contents s.queries) s) (kss ++ kinds_of r ∷ [])
  any_view_matches [] is fits = absurd fits
  any_view_matches (q ∷ rest) is fits =
      subst (λ qs. Matches (with_view_node (node_of_first ns.contents qs) ns) (with_view (first_answer s.contents s.queries) s) (kss ++ kinds_of r ∷ [])) (sym (m.queries ∙ is))
      (subst (λ qs. Matches (with_view_node (query_node ns.contents q) ns) (with_view (first_answer s.contents qs) s) (kss ++ kinds_of r ∷ [])) (sym is) (view_matches q rest is fits.0 fits.1))

abbrev nodes_of_all : NodeStanding → List Relation → NodeStanding
nodes_of_all ns rs = fold (λ s r. with_relation_node r.kind (length r.columns) s) ns rs

abbrev all_given : Standing → List Relation → Standing
all_given s rs = fold (λ s r. with_relation r.kind (length r.columns) s) s rs

-- what the other relations give, from any standing
abbrev Goes : List Relation → Type 0
Goes rs = (ns : NodeStanding) (s : Standing) (kss : List (List Kind)) → Matches ns s kss → ProgramFits kss s.queries rs → TablesAreOfKinds s.tables rs → Shown (nodes_of_all ns rs) (all_given s rs)

one_relation : (kind : RelationKind) (r : Relation) (rs : List Relation) → Goes rs → (ns : NodeStanding) (s : Standing) (kss : List (List Kind)) → Matches ns s kss →
    by_kind kind (ProgramFits (kss ++ kinds_of r ∷ []) s.queries rs) (FirstFits kss (kinds_of r) s.queries × ProgramFits (kss ++ kinds_of r ∷ []) (drop 1 s.queries) rs) →
    by_kind kind (AreAllOfKinds (first_rows s.tables) (kinds_of r) × TablesAreOfKinds (drop 1 s.tables) rs) (TablesAreOfKinds s.tables rs) →
    Shown (nodes_of_all (with_relation_node kind (length r.columns) ns) rs) (all_given (with_relation kind (length r.columns) s) rs)
one_relation Table r rs later ns s kss m fits tables =
    later (with_table_node (length r.columns) ns) (with_table (length r.columns) s) (kss ++ kinds_of r ∷ []) (table_matches ns s kss m r tables.0) fits tables.1
one_relation (View printed) r rs later ns s kss m fits tables =
    later (with_view_node (node_of_first ns.contents ns.queries) ns) (with_view (first_answer s.contents s.queries) s) (kss ++ kinds_of r ∷ []) (any_view_matches ns s kss m r s.queries refl fits.0) fits.1 tables

goes : (rs : List Relation) → Goes rs
goes [] ns s kss m fits tables = record { worth = m.given; alike = m.alike }
goes (r ∷ rs) ns s kss m fits tables = one_relation r.kind r rs (goes rs) ns s kss m fits tables

module _ (p : Meant) (tables : Tables) (fits : ProgramFits [] p.queries p.catalog) (begin : AllByRecursion Begins p.queries) (hold : TablesAreOfKinds tables p.catalog) where
  all_shown : Shown (nodes_of_all (record { contents = []; given = []; tables = map listed tables; queries = p.queries }) p.catalog) (all_given (record { contents = []; given = []; tables = tables; queries = p.queries }) p.catalog)
  all_shown = goes p.catalog (record { contents = []; given = []; tables = map listed tables; queries = p.queries }) (record { contents = []; given = []; tables = tables; queries = p.queries }) []
      (record { contents = tt; given = tt; tables = refl; queries = refl; begin = begin; sorts = tt; kinds = λ _. tt; alike = tt }) fits hold

  worth_of_views : Pairwise IsWorth (view_nodes p (map listed tables)) (views p tables)
  unfolding view_nodes views
  worth_of_views = all_shown.worth

  alike_views : Alike (view_nodes p (map listed tables)) (views p tables)
  unfolding view_nodes views
  alike_views = all_shown.alike

  verdict_is : node_verdict p (map listed tables) ≡ verdict p tables
  unfolding node_verdict verdict
  verdict_is = ap₂ (λ i n. cond (nat_lt i n) (Some i) None) (first_place (view_nodes p (map listed tables)) (views p tables) alike_views) (as_many (view_nodes p (map listed tables)) (views p tables) worth_of_views)

pub views_are_worth : (p : Meant) (tables : Tables) → ProgramFits [] p.queries p.catalog → AllByRecursion Begins p.queries → TablesAreOfKinds tables p.catalog → Pairwise IsWorth (view_nodes p (map listed tables)) (views p tables)
views_are_worth p tables fits begin hold = worth_of_views p tables fits begin hold

pub verdicts_are_same : (p : Meant) (tables : Tables) → ProgramFits [] p.queries p.catalog → AllByRecursion Begins p.queries → TablesAreOfKinds tables p.catalog → node_verdict p (map listed tables) ≡ verdict p tables
verdicts_are_same p tables fits begin hold = verdict_is p tables fits begin hold
