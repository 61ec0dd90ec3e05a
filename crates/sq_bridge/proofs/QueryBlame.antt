-- The node of a query has a fault exactly if its answer is out of range.
use Rattle.std.proofs.Common.{◌≡◌, List, [], ◌∷◌, ◌++◌, map, Bool, true, false, ◌&&◌, ◌||◌, refl, sym, ap, ap₂, subst, ◌∙◌}
use Rattle.std.specs.List.{AllByRecursion, list_all, list_any}
use Rattle.sq_algebra.proofs.AnyLemmas.{any_mapped}
use Rattle.sq_expr.specs.declared.cond.Cond.{Cond}
use Rattle.sq_expr.specs.declared.expr.Expr.{Expr}
use Rattle.sq_expr.specs.declared.expr.Kind.{Kind}
use Rattle.sq_expr.specs.Kinds.{AreOfKinds}
use Rattle.sq_expr.proofs.Lists.{all_weaker}
use Rattle.std.specs.Prelude.{Option}
use Rattle.sq_typed.specs.declared.query.Block.{out-Block}
use Rattle.sq_typed.specs.declared.query.FromItem.{FromItem}
use Rattle.sq_typed.specs.declared.query.Grouping.{Grouping}
use Rattle.sq_typed.specs.declared.query.Origin.{Origin}
use Rattle.sq_typed.specs.declared.query.Query.{Query}
use Rattle.sq_typed.specs.declared.query.SetStep.{SetStep}
use Rattle.sq_typed.specs.Blocks.{block_answer}
use Rattle.sq_typed.specs.Fit.{Fits, HoldsKinds, Kinded, KindedSource, Pairwise, are_matched, block_kinded, kinded, kinded_origin, kinded_source, on_suits, operation_kinded, sources_fit}
use Rattle.sq_typed.specs.Queries.{Contents, after_each, answer, chain_answer, has_range_fault, intersect_answer, intersect_rows, is_crowded, member_answer, origin_answer, set_rows, source_of_item}
use Rattle.sq_typed.proofs.Equations.{answer-Block, answer-Chain, answer-Intersect, member-is, origin-Query, origin-Relation, source-is}
use Rattle.sq_typed.proofs.FitEquations.{kinded-Block, kinded-Chain, kinded-Intersect, kinded-Query, kinded_source-is}
use Rattle.sq_typed.proofs.FitQueries.{in_range, or_left, or_right, origin_gives}
use Rattle.sq_typed.proofs.GivenRows.{pairwise_mapped}
use Rattle.sq_typed.proofs.Tests.{and_left, and_right, every}
use Rattle.sq_typed.proofs.Trees.{QueryCases, each_query}
use Rattle.sq_typed.specs.Within.{BlockOf}
use Rattle.sq_bridge.specs.Groups.{block_node}
use Rattle.sq_bridge.specs.Meaning.{Begins, IsMemberOf, IsStepOf, IsWorthRelation, begins}
use Rattle.sq_bridge.specs.Nodes.{Node}
use Rattle.sq_bridge.specs.Queries.{chain_node, intersect_node, member_node, origin_node, query_node, source_node}
use Rattle.sq_typed.specs.Sorts.{HoldsSorts}
use Rattle.sq_bridge.proofs.Blaming.{FaultsAgree, SourceIsGood, any_same_of, block_fault, chain_answer_fault, chain_fault, common_fault}
use Rattle.sq_bridge.proofs.Meaningful.{Known, OriginBegins, OriginMeans, QueryMeans, block_fits, comma_is, first_begins, first_holds, first_width, known_all, member_known, members_begin, origin_means, query_means, sources_begin, sources_mean, step_known, steps_begin}
use Rattle.sq_bridge.proofs.NodeEquations.{member_node-is, node-Block, node-Chain, node-Intersect, node-Query, node-Relation, source_node-is}
use Rattle.sq_typed.proofs.Sorting.{kinds_have_sorts}

-- relations of kinds are of sorts
pub holds_sorts : (cs : List Contents) (kss : List (List Kind)) → Pairwise HoldsKinds cs kss → Pairwise HoldsSorts cs kss
holds_sorts [] [] p = tt
holds_sorts [] (ks ∷ kss) p = absurd p
holds_sorts (c ∷ cs) [] p = absurd p
holds_sorts (c ∷ cs) (ks ∷ kss) p = ((p.0.0, all_weaker (λ row. AreOfKinds row ks) _ c.rows (λ row. kinds_have_sorts row ks) p.0.1), holds_sorts cs kss p.1)

module _ (relations : List Contents) (nodes : List Node) (kss : List (List Kind)) (kinds : Pairwise HoldsKinds relations kss) (worth : Pairwise IsWorthRelation nodes relations) where
  abbrev sorts : Pairwise HoldsSorts relations kss
  sorts = holds_sorts relations kss kinds

  abbrev QueryAgrees : Query → Type 0
  QueryAgrees q = Fits kss q → Begins q → (query_node nodes q).fault ≡ has_range_fault (answer relations q)

  abbrev OriginAgrees : Origin → Type 0
  OriginAgrees o = (kinded_origin kss o).fits ≡ true → OriginBegins o → (origin_node nodes o).fault ≡ has_range_fault (origin_answer relations o)

  abbrev means : (q : Query) → QueryMeans relations nodes kss sorts worth q
  means = query_means relations nodes kss sorts worth

  abbrev origins : (o : Origin) → OriginMeans relations nodes kss sorts worth o
  origins = origin_means relations nodes kss sorts worth

  -- ---- sources

  source_fits : (before : List Kind) (s : FromItem) (xs : List FromItem) → sources_fit before (map (kinded_source kss) (s ∷ xs)) ≡ true → (kinded_origin kss s.source).fits ≡ true
  source_fits before s xs e =
      let k : KindedSource = kinded_source kss s in
      sym (ap (λ k. k.kinded.fits) (kinded_source-is kss s))
      ∙ and_left k.kinded.fits (on_suits (before ++ k.kinded.kinds) k.join) (and_left (k.kinded.fits && on_suits (before ++ k.kinded.kinds) k.join) (sources_fit (before ++ k.kinded.kinds) (map (kinded_source kss) xs)) e)

  others_fit : (before : List Kind) (s : FromItem) (xs : List FromItem) → sources_fit before (map (kinded_source kss) (s ∷ xs)) ≡ true → sources_fit (before ++ (kinded_source kss s).kinded.kinds) (map (kinded_source kss) xs) ≡ true
  others_fit before s xs e =
      let k : KindedSource = kinded_source kss s in
      and_right (k.kinded.fits && on_suits (before ++ k.kinded.kinds) k.join) (sources_fit (before ++ k.kinded.kinds) (map (kinded_source kss) xs)) e

  sources_agree : (before : List Kind) (xs : List FromItem) → AllByRecursion (λ s. OriginAgrees s.source) xs → AllByRecursion (λ s. OriginBegins s.source) xs → sources_fit before (map (kinded_source kss) xs) ≡ true →
      Pairwise FaultsAgree (map (source_node nodes) xs) (map (source_of_item relations) xs)
  sources_agree before [] h b e = tt
  sources_agree before (s ∷ xs) h b e = (
    ap (λ n. n.node.fault) (source_node-is nodes s) ∙ h.0 (source_fits before s xs e) b.0 ∙ sym (ap (λ a. has_range_fault a.answer) (source-is relations s)),
    sources_agree (before ++ (kinded_source kss s).kinded.kinds) xs h.1 b.1 (others_fit before s xs e),
  )

  sources_good : (before : List Kind) (xs : List FromItem) → sources_fit before (map (kinded_source kss) xs) ≡ true → list_any (λ s. has_range_fault s.answer) (map (source_of_item relations) xs) ≡ false →
      Pairwise SourceIsGood (map (source_of_item relations) xs) (map (kinded_source kss) xs)
  sources_good before [] e none = tt
  sources_good before (s ∷ xs) e none = (
    subst (λ a. SourceIsGood a (kinded_source kss s)) (sym (source-is relations s))
        (subst (SourceIsGood (record { join = s.join; answer = origin_answer relations s.source })) (sym (kinded_source-is kss s))
        (origin_gives relations kss kinds s.source (source_fits before s xs e)
        (in_range (origin_answer relations s.source) (sym (ap (λ a. has_range_fault a.answer) (source-is relations s)) ∙ or_left (has_range_fault (source_of_item relations s).answer) (list_any (λ s. has_range_fault s.answer) (map (source_of_item relations) xs)) none)))),
    sources_good (before ++ (kinded_source kss s).kinded.kinds) xs (others_fit before s xs e) (or_right (has_range_fault (source_of_item relations s).answer) (list_any (λ s. has_range_fault s.answer) (map (source_of_item relations) xs)) none),
  )

  block_agrees : (is_distinct : Bool) (xs : List FromItem) (where_ : Option Cond) (grouping : Option Grouping) (items : List Expr) → AllByRecursion (λ s. OriginAgrees s.source) xs → AllByRecursion (λ s. OriginBegins s.source) xs → begins xs ≡ true →
      (block_kinded (map (kinded_source kss) xs) where_ grouping items).fits ≡ true →
      (block_node is_distinct (map (source_node nodes) xs) where_ grouping items).fault ≡ has_range_fault (block_answer is_distinct (map (source_of_item relations) xs) where_ grouping items)
  block_agrees is_distinct [] where_ grouping items h b first e = absurd (cc first)
  block_agrees is_distinct (s ∷ xs) where_ grouping items h b first e =
      let parts = block_fits relations nodes kss sorts worth (s ∷ xs) where_ grouping items e in
      block_fault (map (source_node nodes) (s ∷ xs)) (source_of_item relations s) (map (source_of_item relations) xs) (map (kinded_source kss) (s ∷ xs)) where_ grouping parts.1
      (sources_mean relations nodes kss sorts worth [] (s ∷ xs) (every (λ s. OriginMeans relations nodes kss sorts worth s.source) (s ∷ xs) (λ s. origins s.source)) b parts.0)
      (ap (λ a. a.join) (source-is relations s) ∙ comma_is s.join first)
      (sources_agree [] (s ∷ xs) h b parts.0) (sources_good [] (s ∷ xs) parts.0) items is_distinct

  -- ---- set operations

  all_agree : {A : Type 0} (of : A → Query) (ks : List Kind) (xs : List A) → AllByRecursion (λ x. QueryAgrees (of x)) xs → AllByRecursion (λ x. Known relations nodes kss sorts worth ks (of x)) xs →
      list_any (λ x. (query_node nodes (of x)).fault) xs ≡ list_any (λ x. has_range_fault (answer relations (of x))) xs
  all_agree of ks [] h k = refl
  all_agree of ks (x ∷ xs) h k = ap₂ (λ a b. a || b) (h.0 k.0.fits k.0.begins) (all_agree of ks xs h.1 k.1)

  chain_agrees : (q : Query) (rest : List SetStep) → QueryAgrees q → AllByRecursion (λ s. QueryAgrees s.query) rest → Begins q → AllByRecursion (λ s. Begins s.query) rest → (operation_kinded (kinded kss q ∷ map (λ s. kinded kss s.query) rest)).fits ≡ true →
      (chain_node (query_node nodes q) (map (member_node nodes) rest)).fault ≡ has_range_fault (chain_answer (λ rows s. set_rows s.0 rows s.1.rows) (λ s. s.1) (answer relations q) (map (member_answer relations) rest))
  chain_agrees q rest h hs b bs fits =
      let k : Kinded = kinded kss q in
      let own = and_left k.fits (list_all (λ m. m.fits && are_matched k.kinds m.kinds) (map (λ s. kinded kss s.query) rest)) fits in
      let others = known_all relations nodes kss sorts worth (λ s. s.query) k.kinds rest (every (λ s. QueryMeans relations nodes kss sorts worth s.query) rest (λ s. means s.query)) bs
      (and_right k.fits (list_all (λ m. m.fits && are_matched k.kinds m.kinds) (map (λ s. kinded kss s.query) rest)) fits) in
      chain_fault (query_node nodes q) (answer relations q).rows (map (member_node nodes) rest) (map (member_answer relations) rest) (first_holds relations nodes kss sorts worth q (means q) b own)
      (pairwise_mapped (IsStepOf (query_node nodes q).width) (member_node nodes) (member_answer relations) rest
      (all_weaker (λ s. Known relations nodes kss sorts worth k.kinds s.query) (λ s. IsStepOf (query_node nodes q).width (member_node nodes s) (member_answer relations s)) rest
      (λ s. step_known relations nodes kss sorts worth (query_node nodes q).width k.kinds s (first_width relations nodes kss sorts worth q (means q) b own)) others))
      ∙ ap₂ (λ x y. (x || y) || list_any is_crowded (after_each (λ rows s. set_rows s.0 rows s.1.rows) (answer relations q).rows (map (member_answer relations) rest)))
      (h own b)
      (any_mapped (λ m. m.1.fault) (member_node nodes) rest
      ∙ any_same_of (λ s. (member_node nodes s).1.fault) (λ s. (query_node nodes s.query).fault) rest (every (λ s. (member_node nodes s).1.fault ≡ (query_node nodes s.query).fault) rest (λ s. ap (λ m. m.1.fault) (member_node-is nodes s)))
      ∙ all_agree (λ s. s.query) k.kinds rest hs others
      ∙ sym (any_mapped (λ s. has_range_fault s.1) (member_answer relations) rest
      ∙ any_same_of (λ s. has_range_fault (member_answer relations s).1) (λ s. has_range_fault (answer relations s.query)) rest (every (λ s. has_range_fault (member_answer relations s).1 ≡ has_range_fault (answer relations s.query)) rest (λ s. ap (λ m. has_range_fault m.1) (member-is relations s)))))
      ∙ sym (chain_answer_fault (λ rows s. set_rows s.0 rows s.1.rows) (λ s. s.1) (answer relations q) (map (member_answer relations) rest))

  common_agrees : (qs : List Query) → AllByRecursion QueryAgrees qs → AllByRecursion Begins qs → (operation_kinded (map (kinded kss) qs)).fits ≡ true →
      (intersect_node (map (query_node nodes) qs)).fault ≡ has_range_fault (intersect_answer (map (answer relations) qs))
  common_agrees [] h b fits = absurd (cc fits)
  common_agrees (q ∷ qs) h b fits =
      let k : Kinded = kinded kss q in
      let own = and_left k.fits (list_all (λ m. m.fits && are_matched k.kinds m.kinds) (map (kinded kss) qs)) fits in
      let others = known_all relations nodes kss sorts worth (λ q. q) k.kinds qs (every (QueryMeans relations nodes kss sorts worth) qs means) b.1
      (and_right k.fits (list_all (λ m. m.fits && are_matched k.kinds m.kinds) (map (kinded kss) qs)) fits) in
      common_fault (query_node nodes q) (answer relations q).rows (map (query_node nodes) qs) (map (answer relations) qs) (first_holds relations nodes kss sorts worth q (means q) b.0 own)
      (pairwise_mapped (IsMemberOf (query_node nodes q).width) (query_node nodes) (answer relations) qs
      (all_weaker (Known relations nodes kss sorts worth k.kinds) (λ r. IsMemberOf (query_node nodes q).width (query_node nodes r) (answer relations r)) qs
      (λ r. member_known relations nodes kss sorts worth (query_node nodes q).width k.kinds r (first_width relations nodes kss sorts worth q (means q) b.0 own)) others))
      ∙ ap₂ (λ x y. (x || y) || list_any is_crowded (after_each (λ rows a. intersect_rows rows a.rows) (answer relations q).rows (map (answer relations) qs)))
      (h.0 own b.0)
      (any_mapped (λ m. m.fault) (query_node nodes) qs ∙ all_agree (λ q. q) k.kinds qs h.1 others ∙ sym (any_mapped has_range_fault (answer relations) qs))
      ∙ sym (chain_answer_fault (λ rows a. intersect_rows rows a.rows) (λ a. a) (answer relations q) (map (answer relations) qs))

  -- ---- queries

  agree_cases : QueryCases OriginAgrees QueryAgrees
  agree_cases = record {
    block = λ b gs fits begin. ap (λ n. n.fault) (node-Block nodes b)
        ∙ block_agrees (out-Block b).distinct (out-Block b).sources (out-Block b).filter (out-Block b).grouping (out-Block b).items gs (sources_begin b begin) (begin b (BlockOf.It b)) (sym (ap (λ k. k.fits) (kinded-Block kss b)) ∙ fits)
        ∙ sym (ap has_range_fault (answer-Block relations b));
    chain = λ q rest g gs fits begin. ap (λ n. n.fault) (node-Chain nodes q rest)
        ∙ chain_agrees q rest g gs (first_begins q rest begin) (steps_begin q rest begin) (sym (ap (λ k. k.fits) (kinded-Chain kss q rest)) ∙ fits)
        ∙ sym (ap has_range_fault (answer-Chain relations q rest));
    intersect = λ qs gs fits begin. ap (λ n. n.fault) (node-Intersect nodes qs)
        ∙ common_agrees qs gs (members_begin qs begin) (sym (ap (λ k. k.fits) (kinded-Intersect kss qs)) ∙ fits)
        ∙ sym (ap has_range_fault (answer-Intersect relations qs));
    relation = λ n fits begin. ap (λ m. m.fault) (node-Relation nodes n) ∙ sym (ap has_range_fault (origin-Relation relations n));
    of_query = λ q g fits begin. ap (λ m. m.fault) (node-Query nodes q) ∙ g (sym (ap (λ k. k.fits) (kinded-Query kss q)) ∙ fits) (begin q refl) ∙ sym (ap has_range_fault (origin-Query relations q));
  }

pub query_agrees : (relations : List Contents) (nodes : List Node) (kss : List (List Kind)) → Pairwise HoldsKinds relations kss → Pairwise IsWorthRelation nodes relations → (q : Query) → Fits kss q → Begins q → (query_node nodes q).fault ≡ has_range_fault (answer relations q)
query_agrees relations nodes kss kinds worth q = each_query (OriginAgrees relations nodes kss kinds worth) (QueryAgrees relations nodes kss kinds worth) (agree_cases relations nodes kss kinds worth) q
