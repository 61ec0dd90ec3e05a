-- A query with small blocks, over relations of at most 64 columns, is narrow.
use Rattle.std.proofs.Common.{◌≡◌, ℕ, zero, suc, ◌*◌, ◌<◌, ◌≤◌, ◌^◌, List, [], ◌∷◌, length, map, refl, ap, subst, ◌∙◌, arith}
use Rattle.std.specs.Prelude.{Option, Some, None, slice_get, ⊤}
use Rattle.std.specs.List.{AllByRecursion}
use Rattle.std.proofs.lemmas.List.{length-append, length-map}
use Rattle.sq_bridge.specs.Small.{HasSmallBlocks}
use Rattle.sq_expr.specs.declared.expr.Kind.{Kind}
use Rattle.sq_typed.specs.Fit.{Kinded, KindedSource, item_row_kinds, joined_kinds, kinded, kinded_origin, kinded_source, kinds_given, relation_kinded, source_kinds}
use Rattle.sq_typed.specs.Numbered.{kind_of}
use Rattle.sq_typed.specs.Within as within
use Rattle.sq_typed.specs.Within.{BlockOf}
use Rattle.sq_typed.specs.declared.limits.TheConstants.{MOST_COLUMNS}
use Rattle.sq_typed.specs.declared.query.Block.{Block, out-Block}
use Rattle.sq_typed.specs.declared.query.FromItem.{FromItem}
use Rattle.sq_typed.specs.declared.query.Grouping.{Grouping}
use Rattle.sq_typed.specs.declared.query.Origin.{Origin}
use Rattle.sq_typed.specs.declared.query.Origin.TheVariants as origin
use Rattle.sq_typed.specs.declared.query.Query.{Query}
use Rattle.sq_typed.specs.declared.query.Query.TheVariants as query
use Rattle.sq_typed.specs.declared.query.SetStep.{SetStep}
use Rattle.sq_typed.proofs.FitEquations.{kinded-Block, kinded-Chain, kinded-Intersect, kinded-Query, kinded-Relation, kinded_source-is}
use Rattle.sq_typed.proofs.FitQueries.{length_widest}
use Rattle.sq_typed.proofs.Trees.{each_origin, each_query}
use Rattle.sq_plan.specs.Plans.{HasFewColumns, IsNarrow, PartOf, Itself, InFrom, First, Later, Member}
use Rattle.sq_plan.specs.ProgramWalk.{IsNarrowKinds}

module _ (kss : List (List Kind)) (narrow : AllByRecursion IsNarrowKinds kss) where
  -- ---- columns of queries
  abbrev FewGiven : Query → Type 0
  FewGiven q = HasSmallBlocks q → length (kinds_given kss q) ≤ MOST_COLUMNS

  block_given : (b : Block) → FewGiven (query.Block b)
  block_given b h =
      let few = (h b (within.It b)).items in
      let own = ap (λ (k : Kinded). length k.kinds) (kinded-Block kss b) in
      let many = length-map (out-Block b).items (kind_of (item_row_kinds (source_kinds kss b) (out-Block b).grouping)) in
      omega (arith, few, own ∙ many)

  chain_given : (q : Query) (rest : List SetStep) → FewGiven q → FewGiven (query.Chain q rest)
  chain_given q rest given h =
      let own = ap (λ (k : Kinded). length k.kinds) (kinded-Chain kss q rest) in
      let many = length_widest (map (λ (m : Kinded). m.kinds) (map (λ s. kinded kss s.query) rest)) (kinds_given kss q) in
      let first = given (λ b in_it. h b (within.First q rest b in_it)) in
      omega (arith, own ∙ many, first)

  common_given : (qs : List Query) → AllByRecursion FewGiven qs → FewGiven (query.Intersect qs)
  common_given [] given h = let own = ap (λ (k : Kinded). length k.kinds) (kinded-Intersect kss []) in omega (arith, own)
  common_given (q ∷ qs) given h =
      let own = ap (λ (k : Kinded). length k.kinds) (kinded-Intersect kss (q ∷ qs)) in
      let many = length_widest (map (λ (m : Kinded). m.kinds) (map (kinded kss) qs)) (kinds_given kss q) in
      let first = given.0 (λ b in_it. h b (within.Member (q ∷ qs) 0 q b refl in_it)) in
      omega (arith, own ∙ many, first)

  abbrev Any : Origin → Type 0
  Any o = ⊤

  few_given : (q : Query) → FewGiven q
  few_given = each_query Any FewGiven (record {
    block = λ b ss. block_given b;
    chain = λ q rest h hs. chain_given q rest h;
    intersect = λ qs hs. common_given qs hs;
    relation = λ n. tt;
    of_query = λ q h. tt;
  })

  -- ---- columns of sources
  relation_few : (kss : List (List Kind)) (n : ℕ) → AllByRecursion IsNarrowKinds kss → length (relation_kinded (slice_get kss n)).kinds ≤ MOST_COLUMNS
  relation_few [] n h = omega arith
  relation_few (ks ∷ kss) zero h = h.0
  relation_few (ks ∷ kss) (suc n) h = relation_few kss n h.1

  -- a source is a relation, or a query
  data Stood (o : Origin) : Type 0 where
    Relation : (n : ℕ) → o ≡ origin.Relation n → Stood o
    Nested : (q : Query) → o ≡ origin.Query q → Stood o

  every_origin : (o : Origin) → Stood o
  every_origin = each_origin Stood (λ q. ⊤) (record {
    block = λ b ss. tt;
    chain = λ q rest h hs. tt;
    intersect = λ qs hs. tt;
    relation = λ n. Relation n refl;
    of_query = λ q h. Nested q refl;
  })

  sources_few : (xs : List FromItem) → ((n : ℕ) (s : FromItem) → slice_get xs n ≡ Some s → length (kinded_origin kss s.source).kinds ≤ MOST_COLUMNS) → length (joined_kinds (map (kinded_source kss) xs)) ≤ MOST_COLUMNS * length xs
  sources_few [] h = omega arith
  sources_few (s ∷ xs) h =
      let own = ap (λ (k : KindedSource). length k.kinded.kinds) (kinded_source-is kss s) in
      let both = length-append (kinded_source kss s).kinded.kinds (joined_kinds (map (kinded_source kss) xs)) in
      omega (arith, both, own, h 0 s refl, sources_few xs (λ n x at. h (suc n) x at))

  module _ (b : Block) (small : HasSmallBlocks (query.Block b)) where
    origin_few : (n : ℕ) (s : FromItem) → slice_get (out-Block b).sources n ≡ Some s → Stood s.source → length (kinded_origin kss s.source).kinds ≤ MOST_COLUMNS
    origin_few n s at (Relation m is) =
        let own = ap (λ (k : Kinded). length k.kinds) (ap (kinded_origin kss) is ∙ kinded-Relation kss m) in
        omega (arith, own, relation_few kss m narrow)
    origin_few n s at (Nested q is) =
        let own = ap (λ (k : Kinded). length k.kinds) (ap (kinded_origin kss) is ∙ kinded-Query kss q) in
        omega (arith, own, few_given q (λ c in_it. small c (within.InFrom b n s q c at is in_it)))

    joined_few : length (source_kinds kss b) < 2 ^ 32
    joined_few =
        let few = (small b (within.It b)).sources in
        omega (arith, few, sources_few (out-Block b).sources (λ n s at. origin_few n s at (every_origin s.source)))

  -- ---- all that stands in a query
  few_columns : (r : Query) → HasSmallBlocks r → HasFewColumns kss r
  few_columns r h = record {
    given = omega (arith, few_given r h);
    joined = λ b is. joined_few b (subst HasSmallBlocks is h);
    grouped = λ b is. ((subst HasSmallBlocks is h) b (within.It b)).groups;
  }

  part_small : (q r : Query) → PartOf q r → HasSmallBlocks q → HasSmallBlocks r
  part_small _ _ (Itself q) h = h
  part_small _ _ (InFrom b n s q r at is more) h = part_small q r more (λ c in_it. h c (within.InFrom b n s q c at is in_it))
  part_small _ _ (First q rest r more) h = part_small q r more (λ c in_it. h c (within.First q rest c in_it))
  part_small _ _ (Later q rest n s r at more) h = part_small s.query r more (λ c in_it. h c (within.Later q rest n s c at in_it))
  part_small _ _ (Member qs n q r at more) h = part_small q r more (λ c in_it. h c (within.Member qs n q c at in_it))

  pub small_is_narrow : (q : Query) → HasSmallBlocks q → IsNarrow kss q
  small_is_narrow q h r part = few_columns r (part_small q r part h)
