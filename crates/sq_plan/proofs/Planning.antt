-- The nodes of queries, part by part.
use Rattle.std.proofs.Common.{◌≡◌, ℕ, zero, suc, ◌+◌, ◌*◌, ◌<◌, ◌≤◌, Bool, true, false, ◌||◌, List, [], ◌∷◌, ◌++◌, length, get_or, refl, sym, ap, ap₂, subst, ◌∙◌, append_assoc, arith}
use Rattle.std.specs.Prelude.{slice_get, slice_index_or}
use Rattle.std.specs.List.{AllByRecursion}
use Rattle.std.proofs.Math.Bool.{or_assoc}
use Rattle.std.proofs.lemmas.List.{append-nil, length-append}
use Rattle.std.proofs.lemmas.List.Folds.{list_any-append}
use Rattle.sq_bridge.specs.Nodes.{Node, no_node}
use Rattle.sq_bridge.specs.Queries.{origin_node, query_node, relation_node}
use Rattle.sq_bridge.proofs.NodeEquations.{node-Query, node-Relation}
use Rattle.sq_circuit.specs.Circuits.{kinds_at, kinds_in, whole}
use Rattle.sq_circuit.specs.Invariant.{table_count}
use Rattle.sq_circuit.specs.Nodes.{Rows}
use Rattle.sq_circuit.specs.declared.circuit.Part.{Part}
use Rattle.sq_circuit.proofs.Alongside.{got_front}
use Rattle.sq_circuit.proofs.Growing.{whole_more}
use Rattle.sq_expr.specs.declared.expr.Kind.{Kind}
use Rattle.sq_typed.specs.declared.query.FromItem.{FromItem}
use Rattle.sq_typed.specs.declared.query.Origin.{Origin}
use Rattle.sq_typed.specs.declared.query.Origin.TheVariants as origin
use Rattle.sq_typed.specs.declared.query.Query.{Query}
use Rattle.sq_typed.specs.Fit.{Kinded, Pairwise, kinded_origin, kinds_given, relation_kinded}
use Rattle.sq_typed.specs.Sources.{origin_sources, query_sources}
use Rattle.sq_typed.proofs.FitEquations.{kinded-Query, kinded-Relation}
use Rattle.sq_typed.proofs.SourceLemmas.{origin-Query, origin-Relation}
use Rattle.sq_plan.specs.Drafts.{Adds, CanAdd, IsDraft, IsNode, blames, kinds_of}
use Rattle.sq_plan.specs.Plans.{CanPlan, CanPlanOrigin, IsSourceOf, OriginFits, Plans, PlansItems, PlansOrigin, items_sources, relation_kinds, relation_nodes}
use Rattle.sq_plan.specs.Steps.{Becomes, node_of}
use Rattle.sq_plan.specs.declared.draft.Draft.{Draft}
use Rattle.sq_plan.proofs.Adding.{no_tables_in, node_more, owned_both}
use Rattle.sq_plan.proofs.Primitives.{adds_none, or_false}

-- ---- what was there before
pub record Longer (d e : Draft) : Type 0 where
  pub view : e.view ≡ d.view
  pub more : List Part
  pub is : e.parts.items ≡ d.parts.items ++ more
  pub no_tables : table_count more ≡ 0
  pub draft : IsDraft e

abbrev pub longer_by : (n : ℕ) (d e : Draft) (i : ℕ) (ks : List Kind) (z : List Rows → Rows) (f : List Rows → Bool) → Adds n d e i ks z f → Longer d e
longer_by n d e i ks z f a = record { view = a.view; more = a.more; is = a.is; no_tables = a.no_tables; draft = a.draft }

module _ (d e : Draft) (g : Longer d e) where
  pub length_is : length e.parts.items ≡ length d.parts.items + length g.more
  length_is = ap length g.is ∙ length-append d.parts.items g.more

  pub still : (i : ℕ) → IsNode d i → IsNode e i
  still i low = node_more d e g.more g.is g.no_tables g.draft i low

  pub kinds_still : (i : ℕ) → IsNode d i → kinds_of e i ≡ kinds_of d i
  kinds_still i low = ap (λ xs. kinds_at xs i) g.is ∙ ap kinds_in (got_front d.parts.items g.more i low.there)

  pub node_still : (i : ℕ) → IsNode d i → (tables : List Rows) → node_of e tables i ≡ node_of d tables i
  node_still i low tables j = record { width = length (kinds_still i low j); rows = (ap (λ xs. whole xs tables i) g.is ∙ whole_more d.parts.items g.more tables i low.there) j; fault = false }

  pub nodes_still : (nodes : List ℕ) → AllByRecursion (IsNode d) nodes → AllByRecursion (IsNode e) nodes
  nodes_still [] h = tt
  nodes_still (i ∷ nodes) h = (still i h.0, nodes_still nodes h.1)

  pub relations_still : (nodes : List ℕ) → AllByRecursion (IsNode d) nodes → relation_kinds e nodes ≡ relation_kinds d nodes
  relations_still [] h = refl
  relations_still (i ∷ nodes) h = ap₂ (λ k ks. k ∷ ks) (kinds_still i h.0) (relations_still nodes h.1)

  pub relation_nodes_still : (nodes : List ℕ) → AllByRecursion (IsNode d) nodes → (tables : List Rows) → relation_nodes e nodes tables ≡ relation_nodes d nodes tables
  relation_nodes_still [] h tables = refl
  relation_nodes_still (i ∷ nodes) h tables = ap₂ (λ n ns. n ∷ ns) (node_still i h.0 tables) (relation_nodes_still nodes h.1 tables)

-- fewer nodes than that
pub tighten : (n m : ℕ) (d e : Draft) (i : ℕ) (ks : List Kind) (M : List Rows → Node) → Becomes n d e i ks M → length e.parts.items ≤ length d.parts.items + m → Becomes m d e i ks M
tighten n m d e i ks M b le =
    let h = length_is d e (longer_by n d e i ks _ _ b.adds) in
    record {
      adds = record { view = b.adds.view; more = b.adds.more; is = b.adds.is; no_tables = b.adds.no_tables; owned = b.adds.owned; few = omega (arith, h, le); draft = b.adds.draft; low = b.adds.low; kinds_are = b.adds.kinds_are; worth = b.adds.worth; blame = b.adds.blame };
      width = b.width;
    }

-- ---- what stands behind FROM
there : (nodes : List ℕ) (d : Draft) (n : ℕ) → (relation_kinded (slice_get (relation_kinds d nodes) n)).fits ≡ true → n < length nodes
there [] d n e = absurd (cc e)
there (i ∷ nodes) d zero e = omega arith
there (i ∷ nodes) d (suc n) e = omega (arith, there nodes d n e)

kinds_there : (nodes : List ℕ) (d : Draft) (n x : ℕ) → n < length nodes → (relation_kinded (slice_get (relation_kinds d nodes) n)).kinds ≡ kinds_of d (slice_index_or nodes n x)
kinds_there [] d n x low = absurd (omega (arith, low))
kinds_there (i ∷ nodes) d zero x low = refl
kinds_there (i ∷ nodes) d (suc n) x low = kinds_there nodes d n x (omega (arith, low))

node_there : (nodes : List ℕ) (d : Draft) (tables : List Rows) (n x : ℕ) → n < length nodes → get_or (relation_nodes d nodes tables) n no_node ≡ node_of d tables (slice_index_or nodes n x)
node_there [] d tables n x low = absurd (omega (arith, low))
node_there (i ∷ nodes) d tables zero x low = refl
node_there (i ∷ nodes) d tables (suc n) x low = node_there nodes d tables n x (omega (arith, low))

is_there : (nodes : List ℕ) (d : Draft) (n x : ℕ) → n < length nodes → AllByRecursion (IsNode d) nodes → IsNode d (slice_index_or nodes n x)
is_there [] d n x low h = absurd (omega (arith, low))
is_there (i ∷ nodes) d zero x low h = h.0
is_there (i ∷ nodes) d (suc n) x low h = is_there nodes d n x (omega (arith, low)) h.1

module _ (d : Draft) (nodes : List ℕ) (o : Origin) (can : CanPlanOrigin d nodes o) where
  pub relation_there : (n : ℕ) → o ≡ origin.Relation n → n < length nodes
  relation_there n is = there nodes d n (subst (λ (k : Kinded). k.fits ≡ true) (ap (kinded_origin (relation_kinds d nodes)) is ∙ kinded-Relation (relation_kinds d nodes) n) can.fits.fits)

  pub relation_plans : (n x : ℕ) → o ≡ origin.Relation n → PlansOrigin d d nodes o (slice_index_or nodes n x)
  relation_plans n x is =
      let low = relation_there n is in
      let i = slice_index_or nodes n x in
      let one = ap origin_sources is ∙ origin-Relation n in
      let full : (tables : List Rows) → node_of d tables i ≡ origin_node (relation_nodes d nodes tables) o = λ tables. ap relation_node (sym (node_there nodes d tables n x low)) ∙ sym (ap (origin_node (relation_nodes d nodes tables)) is ∙ node-Relation (relation_nodes d nodes tables) n) in
      let own : (kinded_origin (relation_kinds d nodes) o).kinds ≡ kinds_of d i = ap (λ (k : Kinded). k.kinds) (ap (kinded_origin (relation_kinds d nodes)) is ∙ kinded-Relation (relation_kinds d nodes) n) ∙ kinds_there nodes d n x low in
      let a = adds_none (40 * origin_sources o) d i can.room.draft (is_there nodes d n x low can.are) (λ tables. (origin_node (relation_nodes d nodes tables) o).rows) (λ tables. ap (λ (m : Node). m.rows) (full tables)) in
      record {
        becomes = record {
          adds = record { view = a.view; more = a.more; is = a.is; no_tables = a.no_tables; owned = a.owned; few = a.few; draft = a.draft; low = a.low; kinds_are = sym own; worth = a.worth; blame = λ tables. a.blame tables ∙ ap (λ f. blames d tables || f) (ap (λ (m : Node). m.fault) (full tables)) };
          width = λ tables. ap (λ (m : Node). m.width) (sym (full tables)) ∙ sym (ap length own);
        };
        few = omega (arith, one);
      }

  pub query_can : (q : Query) → o ≡ origin.Query q → CanPlan d nodes q
  query_can q is = record {
    are = can.are;
    fits = subst (λ (k : Kinded). k.fits ≡ true) (ap (kinded_origin (relation_kinds d nodes)) is ∙ kinded-Query (relation_kinds d nodes) q) can.fits.fits;
    narrow = can.fits.narrow q is;
    room = let s = ap origin_sources is ∙ origin-Query q in record { draft = can.room.draft; room = omega (arith, s, can.room.room) };
  }

  pub query_plans : (e : Draft) (q : Query) (i : ℕ) → o ≡ origin.Query q → Plans d e nodes q i → PlansOrigin d e nodes o i
  query_plans e q i is p =
      let s = ap origin_sources is ∙ origin-Query q in
      let kinds = ap (λ (k : Kinded). k.kinds) (ap (kinded_origin (relation_kinds d nodes)) is ∙ kinded-Query (relation_kinds d nodes) q) in
      let full : (tables : List Rows) → query_node (relation_nodes d nodes tables) q ≡ origin_node (relation_nodes d nodes tables) o = λ tables. sym (ap (origin_node (relation_nodes d nodes tables)) is ∙ node-Query (relation_nodes d nodes tables) q) in
      record {
        becomes = tighten (40 * query_sources q) (40 * origin_sources o) d e i _ _
            (subst (λ ks. Becomes (40 * query_sources q) d e i ks (λ tables. origin_node (relation_nodes d nodes tables) o)) (sym kinds)
            (subst (λ M. Becomes (40 * query_sources q) d e i (kinds_given (relation_kinds d nodes) q) M) (λ j tables. full tables j) p.becomes))
            (omega (arith, s, p.few));
        few = omega (arith, s, p.few);
      }

-- ---- the sources of a block, one by one
pub sources_begin : (d : Draft) (nodes : List ℕ) → IsDraft d → PlansItems d d nodes [] []
sources_begin d nodes draft = record {
  view = refl;
  more = [];
  is = sym (append-nil d.parts.items);
  no_tables = refl;
  owned = tt;
  draft = draft;
  stand = tt;
  blame = λ tables. sym (or_false (blames d tables));
  few = omega arith;
}

sources_more : (done : List FromItem) (s : FromItem) → items_sources (done ++ s ∷ []) ≡ items_sources done + origin_sources s.source
sources_more [] s = omega arith
sources_more (x ∷ done) s = omega (arith, sources_more done s)

pairs_more : {A B : Type 0} (P : A → B → Type 0) (xs : List A) (ys : List B) (x : A) (y : B) → Pairwise P xs ys → P x y → Pairwise P (xs ++ x ∷ []) (ys ++ y ∷ [])
pairs_more P [] [] x y p h = (h, tt)
pairs_more P [] (z ∷ ys) x y p h = absurd p
pairs_more P (z ∷ xs) [] x y p h = absurd p
pairs_more P (w ∷ xs) (z ∷ ys) x y p h = (p.0, pairs_more P xs ys x y p.1 h)

pairs_weaker : {A B : Type 0} (P Q : A → B → Type 0) (xs : List A) (ys : List B) → ((x : A) (y : B) → P x y → Q x y) → Pairwise P xs ys → Pairwise Q xs ys
pairs_weaker P Q [] [] f p = tt
pairs_weaker P Q [] (y ∷ ys) f p = absurd p
pairs_weaker P Q (x ∷ xs) [] f p = absurd p
pairs_weaker P Q (x ∷ xs) (y ∷ ys) f p = (f x y p.0, pairs_weaker P Q xs ys f p.1)

module _ (d e : Draft) (nodes found : List ℕ) (done : List FromItem) (so : PlansItems d e nodes found done) (are : AllByRecursion (IsNode d) nodes) (s : FromItem) where
  pub so_long : Longer d e
  so_long = record { view = so.view; more = so.more; is = so.is; no_tables = so.no_tables; draft = so.draft }

  pub source_can : (m : ℕ) → OriginFits (relation_kinds d nodes) s.source → items_sources done + origin_sources s.source ≤ m → CanAdd (40 * m) d → CanPlanOrigin e nodes s.source
  source_can m fits some room = record {
    are = nodes_still d e so_long nodes are;
    fits = subst (λ ks. OriginFits ks s.source) (sym (relations_still d e so_long nodes are)) fits;
    room = record { draft = so.draft; room = omega (arith, some, so.few, room.room) };
  }

  pub sources_go_on : (g : Draft) (i : ℕ) → PlansOrigin e g nodes s.source i → PlansItems d g nodes (found ++ i ∷ []) (done ++ s ∷ [])
  sources_go_on g i p =
      let a = p.becomes.adds in
      let long = longer_by (40 * origin_sources s.source) e g i _ _ _ a in
      let ks = relations_still d e so_long nodes are in
      record {
        view = a.view ∙ so.view;
        more = so.more ++ a.more;
        is = a.is ∙ ap (λ xs. xs ++ a.more) so.is ∙ append_assoc d.parts.items so.more a.more;
        no_tables = no_tables_in so.more a.more so.no_tables a.no_tables;
        owned = owned_both d.view e.view so.more a.more so.view so.owned a.owned;
        draft = a.draft;
        stand = pairs_more (IsSourceOf d g nodes) found done i s
            (pairs_weaker (IsSourceOf d e nodes) (IsSourceOf d g nodes) found done (λ j x h. record { low = still e g long j h.low; kinds = kinds_still e g long j h.low ∙ h.kinds; node = λ tables. node_still e g long j h.low tables ∙ h.node tables }) so.stand)
            (record {
              low = a.low;
              kinds = a.kinds_are ∙ ap (λ k. (kinded_origin k s.source).kinds) ks;
              node = λ tables.
                  (λ j. record { width = (ap length a.kinds_are ∙ sym (p.becomes.width tables)) j; rows = a.worth tables j; fault = false })
                  ∙ ap (λ ns. relation_node (origin_node ns s.source)) (relation_nodes_still d e so_long nodes are tables);
            });
        blame = λ tables.
            a.blame tables
            ∙ ap₂ (λ x y. x || y) (so.blame tables) (ap (λ ns. (origin_node ns s.source).fault) (relation_nodes_still d e so_long nodes are tables) ∙ sym (or_false _))
            ∙ or_assoc (blames d tables) _ _
            ∙ ap (λ x. blames d tables || x) (sym (list_any-append (λ (x : FromItem). (origin_node (relation_nodes d nodes tables) x.source).fault) done (s ∷ [])));
        few = let h = length-append done (s ∷ []) in let k = sources_more done s in omega (arith, h, k, so.few, p.few);
      }
