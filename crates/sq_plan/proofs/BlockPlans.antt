-- The nodes of a block from those of its sources.
use Rattle.std.proofs.Common.{◌≡◌, ℕ, suc, ◌+◌, ◌*◌, ◌<◌, ◌≤◌, ◌^◌, Bool, true, ◌&&◌, ◌||◌, List, [], ◌∷◌, ◌++◌, length, map, refl, sym, ap, ap₂, subst, ◌∙◌, arith}
use Rattle.std.specs.Prelude.{Some, slice_get, option_to_list}
use Rattle.std.specs.List.{AllByRecursion, flat_map, list_all, list_any}
use Rattle.std.proofs.Math.Bool.{or_assoc}
use Rattle.std.proofs.Common.{append_assoc}
use Rattle.std.proofs.lemmas.List.{length-append}
use Rattle.sq_bridge.specs.Small.{AreFewGroups}
use Rattle.sq_bridge.specs.Groups.{block_node}
use Rattle.sq_bridge.specs.Nodes.{Node, NodeSource}
use Rattle.sq_bridge.specs.Queries.{origin_node, query_node, source_node}
use Rattle.sq_bridge.proofs.NodeEquations.{node-Block, source_node-is}
use Rattle.sq_circuit.specs.Nodes.{Rows}
use Rattle.sq_expr.specs.Fits.{Suits, SuitsCond}
use Rattle.sq_expr.specs.declared.expr.Kind.{Kind}
use Rattle.sq_typed.specs.declared.query.Block.{Block, out-Block}
use Rattle.sq_typed.specs.declared.query.FromItem.{FromItem}
use Rattle.sq_typed.specs.declared.query.Query.TheVariants as query
use Rattle.sq_typed.specs.Fit.{Kinded, KindedSource, Pairwise, clauses_fit, has_some, item_row_kinds, joined_kinds, kinded_origin, kinded_source, kinds_given, may_group, may_suit, on_suits, sources_fit, suits}
use Rattle.sq_typed.specs.Numbered.{kind_of}
use Rattle.sq_typed.specs.Sources.{query_sources}
use Rattle.sq_typed.proofs.FitEquations.{kinded-Block, kinded_source-is}
use Rattle.sq_typed.proofs.FitTests.{items_suit, sources_suit, where_suits}
use Rattle.sq_typed.proofs.SourceLemmas.{query-Block}
use Rattle.sq_typed.proofs.Tests.{and_left, and_right}
use Rattle.sq_plan.specs.Blocks.{CanJoin, block_kinds, block_over, kinded_sources}
use Rattle.sq_plan.specs.Drafts.{CanAdd, IsNode, blames, kinds_of}
use Rattle.sq_plan.specs.Plans.{CanPlan, CanPlanItems, InFrom, IsSourceOf, Itself, OriginFits, Plans, PlansItems, items_sources, relation_kinds, relation_nodes}
use Rattle.sq_plan.specs.Steps.{Becomes, sources_of}
use Rattle.sq_plan.specs.declared.draft.Draft.{Draft}
use Rattle.sq_plan.proofs.Adding.{no_tables_in, owned_both}
use Rattle.sq_plan.proofs.Apart.{block_apart, clean, raise}
use Rattle.sq_plan.proofs.Planning.{length_is, longer_by}

module _ (d : Draft) (nodes : List ℕ) (b : Block) (can : CanPlan d nodes (query.Block b)) where
  abbrev items : List FromItem
  items = (out-Block b).sources

  abbrev kss : List (List Kind)
  kss = relation_kinds d nodes

  abbrev kinded_items : List KindedSource
  kinded_items = map (kinded_source kss) items

  block_fits : ((has_some kinded_items && sources_fit [] kinded_items) && clauses_fit (joined_kinds kinded_items) (out-Block b).filter (out-Block b).grouping (out-Block b).items) ≡ true
  block_fits = subst (λ (k : Kinded). k.fits ≡ true) (kinded-Block kss b) can.fits

  -- ---- what the sources need
  each_fits : (before : List Kind) (xs : List FromItem) → sources_fit before (map (kinded_source kss) xs) ≡ true → AllByRecursion (λ (s : FromItem). (kinded_origin kss s.source).fits ≡ true) xs
  each_fits before [] e = tt
  each_fits before (s ∷ xs) e =
      let k = kinded_source kss s in
      let here = and_left (k.kinded.fits && on_suits (before ++ k.kinded.kinds) k.join) (sources_fit (before ++ k.kinded.kinds) (map (kinded_source kss) xs)) e in (
        ap (λ (x : KindedSource). x.kinded.fits) (sym (kinded_source-is kss s)) ∙ and_left k.kinded.fits (on_suits (before ++ k.kinded.kinds) k.join) here,
        each_fits (before ++ k.kinded.kinds) xs (and_right (k.kinded.fits && on_suits (before ++ k.kinded.kinds) k.join) (sources_fit (before ++ k.kinded.kinds) (map (kinded_source kss) xs)) e),
      )

  origins_fit : (n : ℕ) (xs : List FromItem) → ((k : ℕ) (s : FromItem) → slice_get xs k ≡ Some s → slice_get items (n + k) ≡ Some s) → AllByRecursion (λ (s : FromItem). (kinded_origin kss s.source).fits ≡ true) xs → AllByRecursion (λ (s : FromItem). OriginFits kss s.source) xs
  origins_fit n [] at h = tt
  origins_fit n (s ∷ xs) at h = (
    record { fits = h.0; narrow = λ q is r part. can.narrow r (InFrom b n s q r (subst (λ m. slice_get items m ≡ Some s) (omega arith) (at 0 s refl)) is part) },
    origins_fit (suc n) xs (λ k x e. subst (λ m. slice_get items m ≡ Some x) (omega arith) (at (suc k) x e)) h.1,
  )

  pub sources_can : CanPlanItems d nodes items
  sources_can = record {
    are = can.are;
    fit = origins_fit 0 items (λ k s e. subst (λ m. slice_get items m ≡ Some s) (omega arith) e) (each_fits [] items (sources_suit kss b can.fits));
    room = record { draft = can.room.draft; room = let s = query-Block b in omega (arith, s, can.room.room) };
  }

  -- ---- the sources as nodes
  module _ (e : Draft) (found : List ℕ) (p : PlansItems d e nodes found items) where
    kinded_are : (is : List ℕ) (xs : List FromItem) → Pairwise (IsSourceOf d e nodes) is xs → AllByRecursion (λ (s : FromItem). (kinded_origin kss s.source).fits ≡ true) xs → kinded_sources e is xs ≡ map (kinded_source kss) xs
    kinded_are [] [] h f = refl
    kinded_are [] (s ∷ xs) h f = absurd h
    kinded_are (i ∷ is) [] h f = absurd h
    kinded_are (i ∷ is) (s ∷ xs) h f = ap₂ (λ (x : KindedSource) ys. x ∷ ys)
        ((λ j. record { join = s.join; kinded = record { kinds = h.0.kinds j; fits = sym f.0 j } }) ∙ sym (kinded_source-is kss s)) (kinded_are is xs h.1 f.1)

    flat_are : (is : List ℕ) (xs : List FromItem) → Pairwise (IsSourceOf d e nodes) is xs → flat_map (kinds_of e) is ≡ joined_kinds (map (kinded_source kss) xs)
    flat_are [] [] h = refl
    flat_are [] (s ∷ xs) h = absurd h
    flat_are (i ∷ is) [] h = absurd h
    flat_are (i ∷ is) (s ∷ xs) h = ap₂ (λ ks ls. ks ++ ls) (h.0.kinds ∙ sym (ap (λ (x : KindedSource). x.kinded.kinds) (kinded_source-is kss s))) (flat_are is xs h.1)

    as_many : (is : List ℕ) (xs : List FromItem) → Pairwise (IsSourceOf d e nodes) is xs → length is ≡ length xs
    as_many [] [] h = refl
    as_many [] (s ∷ xs) h = absurd h
    as_many (i ∷ is) [] h = absurd h
    as_many (i ∷ is) (s ∷ xs) h = ap suc (as_many is xs h.1)

    all_are : (is : List ℕ) (xs : List FromItem) → Pairwise (IsSourceOf d e nodes) is xs → AllByRecursion (IsNode e) is
    all_are [] [] h = tt
    all_are [] (s ∷ xs) h = absurd h
    all_are (i ∷ is) [] h = absurd h
    all_are (i ∷ is) (s ∷ xs) h = (h.0.low, all_are is xs h.1)

    same_kinded : kinded_sources e found items ≡ kinded_items
    same_kinded = kinded_are found items p.stand (each_fits [] items (sources_suit kss b can.fits))

    flat_is : flat_map (kinds_of e) found ≡ joined_kinds kinded_items
    flat_is = flat_are found items p.stand

    has_sources : has_some kinded_items ≡ true
    has_sources = and_left (has_some kinded_items) (sources_fit [] kinded_items) (and_left (has_some kinded_items && sources_fit [] kinded_items) (clauses_fit (joined_kinds kinded_items) (out-Block b).filter (out-Block b).grouping (out-Block b).items) block_fits)

    some_items : (xs : List FromItem) → has_some (map (kinded_source kss) xs) ≡ true → 1 ≤ length xs
    some_items [] h = absurd (cc h)
    some_items (s ∷ xs) h = omega arith

    pub block_joins : CanJoin e found items (out-Block b).filter
    block_joins = record {
      many = as_many found items p.stand;
      some = ap has_some same_kinded ∙ has_sources;
      are = all_are found items p.stand;
      ons_suit = ap (sources_fit []) same_kinded ∙ sources_suit kss b can.fits;
      filter_suits = subst (λ ks. AllByRecursion (SuitsCond ks) (option_to_list (out-Block b).filter)) (sym flat_is) (where_suits kss b can.fits);
      narrow = subst (λ (ks : List Kind). length ks < 2 ^ 32) (sym flat_is) ((can.narrow (query.Block b) (Itself (query.Block b))).joined b refl);
    }

    pub block_groups : may_group (flat_map (kinds_of e) found) (out-Block b).grouping ≡ true
    block_groups =
        let clauses = and_right (has_some kinded_items && sources_fit [] kinded_items) (clauses_fit (joined_kinds kinded_items) (out-Block b).filter (out-Block b).grouping (out-Block b).items) block_fits in
        let listed = list_all (suits (item_row_kinds (joined_kinds kinded_items) (out-Block b).grouping)) (out-Block b).items in
        subst (λ ks. may_group ks (out-Block b).grouping ≡ true) (sym flat_is)
        (and_left (may_group (joined_kinds kinded_items) (out-Block b).grouping) listed (and_right (may_suit (joined_kinds kinded_items) (out-Block b).filter) (may_group (joined_kinds kinded_items) (out-Block b).grouping && listed) clauses))

    pub block_narrow : AreFewGroups (out-Block b).grouping
    block_narrow = (can.narrow (query.Block b) (Itself (query.Block b))).grouped b refl

    pub block_items : AllByRecursion (Suits (item_row_kinds (flat_map (kinds_of e) found) (out-Block b).grouping)) (out-Block b).items
    block_items = subst (λ ks. AllByRecursion (Suits (item_row_kinds ks (out-Block b).grouping)) (out-Block b).items) (sym flat_is) (items_suit kss b can.fits)

    total : query_sources (query.Block b) ≡ items_sources items
    total = query-Block b

    pub block_room : CanAdd (8 * length items + 5) e
    block_room = let n = some_items items has_sources in record { draft = p.draft; room = omega (arith, total, n, p.few, can.room.room) }

    -- ---- what they are worth
    clean_are : (tables : List Rows) (is : List ℕ) (xs : List FromItem) → Pairwise (IsSourceOf d e nodes) is xs → sources_of e tables is xs ≡ map clean (map (source_node (relation_nodes d nodes tables)) xs)
    clean_are tables [] [] h = refl
    clean_are tables [] (s ∷ xs) h = absurd h
    clean_are tables (i ∷ is) [] h = absurd h
    clean_are tables (i ∷ is) (s ∷ xs) h = ap₂ (λ (x : NodeSource) ys. x ∷ ys)
        ((λ j. record { join = s.join; node = h.0.node tables j }) ∙ ap clean (sym (source_node-is (relation_nodes d nodes tables) s))) (clean_are tables is xs h.1)

    faults_are : (tables : List Rows) (xs : List FromItem) → list_any (λ (s : NodeSource). s.node.fault) (map (source_node (relation_nodes d nodes tables)) xs) ≡ list_any (λ (s : FromItem). (origin_node (relation_nodes d nodes tables) s.source).fault) xs
    faults_are tables [] = refl
    faults_are tables (s ∷ xs) = ap₂ (λ x y. x || y) (ap (λ (x : NodeSource). x.node.fault) (source_node-is (relation_nodes d nodes tables) s)) (faults_are tables xs)

    abbrev sources_fault : List Rows → Bool
    sources_fault tables = list_any (λ (s : FromItem). (origin_node (relation_nodes d nodes tables) s.source).fault) items

    full_is : (tables : List Rows) → query_node (relation_nodes d nodes tables) (query.Block b) ≡ raise (sources_fault tables) (block_over e found b tables)
    full_is tables =
        let sources = map (source_node (relation_nodes d nodes tables)) items in
        node-Block (relation_nodes d nodes tables) b
        ∙ block_apart (out-Block b).distinct sources (out-Block b).filter (out-Block b).grouping (out-Block b).items
        ∙ (λ j. raise (faults_are tables items j) (block_node (out-Block b).distinct (sym (clean_are tables found items p.stand) j) (out-Block b).filter (out-Block b).grouping (out-Block b).items))

    own_kinds : block_kinds e found b ≡ kinds_given kss (query.Block b)
    own_kinds =
        ap (λ ks. block_kinds_over ks) flat_is
        ∙ sym (ap (λ (k : Kinded). k.kinds) (kinded-Block kss b))
      where
        block_kinds_over : List Kind → List Kind
        block_kinds_over ks = map (kind_of (item_row_kinds ks (out-Block b).grouping)) (out-Block b).items

    pub block_plans : (g : Draft) (i : ℕ) → Becomes (8 * length items + 5) e g i (block_kinds e found b) (block_over e found b) → Plans d g nodes (query.Block b) i
    block_plans g i h =
        let n = some_items items has_sources in
        let long = length_is e g (longer_by (8 * length items + 5) e g i _ _ _ h.adds) in
        let front = length_is d e (record { view = p.view; more = p.more; is = p.is; no_tables = p.no_tables; draft = p.draft }) in
        record {
          becomes = record {
            adds = record {
              view = h.adds.view ∙ p.view;
              more = p.more ++ h.adds.more;
              is = h.adds.is ∙ ap (λ xs. xs ++ h.adds.more) p.is ∙ append_assoc d.parts.items p.more h.adds.more;
              no_tables = no_tables_in p.more h.adds.more p.no_tables h.adds.no_tables;
              owned = owned_both d.view e.view p.more h.adds.more p.view p.owned h.adds.owned;
              few = let l = length-append p.more h.adds.more in omega (arith, l, total, n, front, p.few, h.adds.few);
              draft = h.adds.draft;
              low = h.adds.low;
              kinds_are = h.adds.kinds_are ∙ own_kinds;
              worth = λ tables. h.adds.worth tables ∙ ap (λ (m : Node). m.rows) (sym (full_is tables));
              blame = λ tables.
                  h.adds.blame tables ∙ ap (λ x. x || (block_over e found b tables).fault) (p.blame tables)
                  ∙ or_assoc (blames d tables) (sources_fault tables) (block_over e found b tables).fault
                  ∙ ap (λ (m : Node). blames d tables || m.fault) (sym (full_is tables));
            };
            width = λ tables. ap (λ (m : Node). m.width) (full_is tables) ∙ h.width tables ∙ ap length own_kinds;
          };
          few = omega (arith, total, n, long, h.adds.few, p.few);
        }
