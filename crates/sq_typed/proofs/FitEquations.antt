-- The kinds of a query, one equation for each form of it.
use Rattle.std.proofs.Common.{◌≡◌, ℕ, List, ◌∷◌, map, ap, sym, ◌∙◌}
use Rattle.std.specs.Prelude.{slice_get}
use Rattle.sq_typed.specs.declared.query.Query.{Query, roll-Query}
use Rattle.sq_typed.specs.declared.query.Query.TheVariants as query
use Rattle.sq_typed.specs.declared.query.Block.{Block, out-Block}
use Rattle.sq_typed.specs.declared.query.FromItem.{FromItem}
use Rattle.sq_typed.specs.declared.query.SetStep.{SetStep}
use Rattle.sq_typed.specs.declared.query.Origin.{Origin, roll-Origin}
use Rattle.sq_typed.specs.declared.query.Origin.TheVariants as origin
use Rattle.sq_typed.specs.declared.query.Origin.TheFolds.{fold-Block, fold-SetStep, map-Query, map-Origin, fold-roll-Query, fold-roll-Origin, fold_out-Block, fold_out-FromItem, fold_out-SetStep}
use Rattle.sq_typed.specs.declared.query.Origin.TheOpen.{Query-F, Origin-F}
use Rattle.sq_expr.specs.declared.expr.Kind.{Kind}
use Rattle.sq_typed.specs.Fit.{Kinded, KindedSource, block_kinded, operation_kinded, relation_kinded, kinded_by_query, kinded_by_block, kinded_by_source, kinded_by_origin, kinded, kinded_origin, kinded_source}
use Rattle.sq_typed.proofs.ColumnLemmas.{map_alike}

module _ (relations : List (List Kind)) where
  kinded_step : SetStep → Kinded
  kinded_step s = fold-SetStep Kinded Kinded Kinded KindedSource Kinded (kinded_by_origin relations) kinded_by_query kinded_by_block kinded_by_source (λ s. s.query) s

  kinded_block : Block → Kinded
  kinded_block b = fold-Block Kinded Kinded Kinded KindedSource Kinded (kinded_by_origin relations) kinded_by_query kinded_by_block kinded_by_source (λ s. s.query) b

  query_rolls : (x : Query-F Origin Query Block FromItem SetStep) →
      kinded relations (roll-Query x) ≡ kinded_by_query (map-Query Origin Query Block FromItem SetStep Kinded Kinded Kinded KindedSource Kinded (kinded_origin relations) (kinded relations) kinded_block (kinded_source relations) kinded_step x)
  unfolding kinded kinded_origin kinded_block kinded_source kinded_step
  query_rolls x = fold-roll-Query Kinded Kinded Kinded KindedSource Kinded (kinded_by_origin relations) kinded_by_query kinded_by_block kinded_by_source (λ s. s.query) x

  origin_rolls : (x : Origin-F Origin Query Block FromItem SetStep) →
      kinded_origin relations (roll-Origin x) ≡ kinded_by_origin relations (map-Origin Origin Query Block FromItem SetStep Kinded Kinded Kinded KindedSource Kinded (kinded_origin relations) (kinded relations) kinded_block (kinded_source relations) kinded_step x)
  unfolding kinded kinded_origin kinded_block kinded_source kinded_step
  origin_rolls x = fold-roll-Origin Kinded Kinded Kinded KindedSource Kinded (kinded_by_origin relations) kinded_by_query kinded_by_block kinded_by_source (λ s. s.query) x

  kinded_block-is : (b : Block) → kinded_block b ≡ block_kinded (map (kinded_source relations) (out-Block b).sources) (out-Block b).filter (out-Block b).grouping (out-Block b).items
  unfolding kinded_block kinded_source
  kinded_block-is b = fold_out-Block Kinded Kinded Kinded KindedSource Kinded (kinded_by_origin relations) kinded_by_query kinded_by_block kinded_by_source (λ s. s.query) b

  pub kinded_source-is : (s : FromItem) → kinded_source relations s ≡ record { join = s.join; kinded = kinded_origin relations s.source }
  unfolding kinded_origin kinded_source
  kinded_source-is s = fold_out-FromItem Kinded Kinded Kinded KindedSource Kinded (kinded_by_origin relations) kinded_by_query kinded_by_block kinded_by_source (λ s. s.query) s

  kinded_step-is : (s : SetStep) → kinded_step s ≡ kinded relations s.query
  unfolding kinded kinded_step
  kinded_step-is s = fold_out-SetStep Kinded Kinded Kinded KindedSource Kinded (kinded_by_origin relations) kinded_by_query kinded_by_block kinded_by_source (λ s. s.query) s

  pub kinded-Relation : (n : ℕ) → kinded_origin relations (origin.Relation n) ≡ relation_kinded (slice_get relations n)
  kinded-Relation n = ap (kinded_origin relations) (sym (origin.rolls-Relation n)) ∙ origin_rolls (Origin-F.Relation n)

  pub kinded-Query : (q : Query) → kinded_origin relations (origin.Query q) ≡ kinded relations q
  kinded-Query q = ap (kinded_origin relations) (sym (origin.rolls-Query q)) ∙ origin_rolls (Origin-F.Query q)

  pub kinded-Block : (b : Block) → kinded relations (query.Block b) ≡ block_kinded (map (kinded_source relations) (out-Block b).sources) (out-Block b).filter (out-Block b).grouping (out-Block b).items
  kinded-Block b = ap (kinded relations) (sym (query.rolls-Block b)) ∙ query_rolls (Query-F.Block b) ∙ kinded_block-is b

  pub kinded-Chain : (q : Query) (rest : List SetStep) → kinded relations (query.Chain q rest) ≡ operation_kinded (kinded relations q ∷ map (λ s. kinded relations s.query) rest)
  kinded-Chain q rest =
      ap (kinded relations) (sym (query.rolls-Chain q rest)) ∙ query_rolls (Query-F.Chain q rest)
      ∙ ap (λ ms. operation_kinded (kinded relations q ∷ ms)) (map_alike kinded_step (λ s. kinded relations s.query) rest kinded_step-is)

  pub kinded-Intersect : (qs : List Query) → kinded relations (query.Intersect qs) ≡ operation_kinded (map (kinded relations) qs)
  kinded-Intersect qs = ap (kinded relations) (sym (query.rolls-Intersect qs)) ∙ query_rolls (Query-F.Intersect qs)
