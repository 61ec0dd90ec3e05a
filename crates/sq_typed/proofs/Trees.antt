-- Induction over queries.
use Rattle.std.proofs.Common.{ℕ, List, [], ◌∷◌, map, subst, sym}
use Rattle.std.specs.List.{AllByRecursion}
use Rattle.sq_typed.specs.declared.query.Query.{Query, roll-Query}
use Rattle.sq_typed.specs.declared.query.Query.TheVariants as query
use Rattle.sq_typed.specs.declared.query.Block.{Block, out-Block, out-roll-Block}
use Rattle.sq_typed.specs.declared.query.FromItem.{FromItem}
use Rattle.sq_typed.specs.declared.query.SetStep.{SetStep}
use Rattle.sq_typed.specs.declared.query.Origin.{Origin, roll-Origin}
use Rattle.sq_typed.specs.declared.query.Origin.TheVariants as origin
use Rattle.sq_typed.specs.declared.query.Origin.TheFolds.{map-Query, map-Origin, ind-Query, ind-Origin}
use Rattle.sq_typed.specs.declared.query.Origin.TheOpen.{Query-F, Origin-F}

-- what comes with each member of a list holds of each
pub all_of : {A : Type 0} (P : A → Type 0) (ys : List ((x : A) × P x)) → AllByRecursion P (map (λ y. y.0) ys)
all_of P [] = tt
all_of P (y ∷ ys) = (y.1, all_of P ys)

-- what holds of each query and origin whose parts have it
pub record QueryCases (Q : Origin → Type 0) (P : Query → Type 0) : Type 0 where
  pub block : (b : Block) → AllByRecursion (λ s. Q s.source) (out-Block b).sources → P (query.Block b)
  pub chain : (q : Query) (rest : List SetStep) → P q → AllByRecursion (λ s. P s.query) rest → P (query.Chain q rest)
  pub intersect : (qs : List Query) → AllByRecursion P qs → P (query.Intersect qs)
  pub relation : (n : ℕ) → Q (origin.Relation n)
  pub of_query : (q : Query) → P q → Q (origin.Query q)

module _ (Q : Origin → Type 0) (P : Query → Type 0) (c : QueryCases Q P) where
  abbrev OfBlock : Block → Type 0
  OfBlock b = AllByRecursion (λ s. Q s.source) (out-Block b).sources

  abbrev OfItem : FromItem → Type 0
  OfItem s = Q s.source

  abbrev OfStep : SetStep → Type 0
  OfStep s = P s.query

  abbrev O : Type 0
  O = (o : Origin) × Q o

  abbrev U : Type 0
  U = (q : Query) × P q

  abbrev B : Type 0
  B = (b : Block) × OfBlock b

  abbrev I : Type 0
  I = (s : FromItem) × OfItem s

  abbrev S : Type 0
  S = (s : SetStep) × OfStep s

  origin_level : (y : Origin-F O U B I S) → Q (roll-Origin (map-Origin O U B I S Origin Query Block FromItem SetStep (λ y. y.0) (λ y. y.0) (λ y. y.0) (λ y. y.0) (λ y. y.0) y))
  origin_level (Origin-F.Relation n) = subst Q (sym (origin.rolls-Relation n)) (c.relation n)
  origin_level (Origin-F.Query y) = subst Q (sym (origin.rolls-Query y.0)) (c.of_query y.0 y.1)

  query_level : (y : Query-F O U B I S) → P (roll-Query (map-Query O U B I S Origin Query Block FromItem SetStep (λ y. y.0) (λ y. y.0) (λ y. y.0) (λ y. y.0) (λ y. y.0) y))
  query_level (Query-F.Block y) = subst P (sym (query.rolls-Block y.0)) (c.block y.0 y.1)
  query_level (Query-F.Chain y ys) = subst P (sym (query.rolls-Chain y.0 (map (λ y. y.0) ys))) (c.chain y.0 (map (λ y. y.0) ys) y.1 (all_of OfStep ys))
  query_level (Query-F.Intersect ys) = subst P (sym (query.rolls-Intersect (map (λ y. y.0) ys))) (c.intersect (map (λ y. y.0) ys) (all_of P ys))

  pub each_query : (q : Query) → P q
  each_query = ind-Query Q P OfBlock OfItem OfStep
      (λ x y is. subst (λ z. Q (roll-Origin z)) is (origin_level y))
      (λ x y is. subst (λ z. P (roll-Query z)) is (query_level y))
      (λ x y is. subst (λ z. AllByRecursion (λ s. Q s.source) z.sources) (sym (out-roll-Block x)) (subst (λ z. AllByRecursion (λ s. Q s.source) z.sources) is (all_of OfItem y.sources)))
      (λ x y is. subst (λ z. Q z.source) is y.source.1)
      (λ x y is. subst (λ z. P z.query) is y.query.1)

  pub each_origin : (o : Origin) → Q o
  each_origin = ind-Origin Q P OfBlock OfItem OfStep
      (λ x y is. subst (λ z. Q (roll-Origin z)) is (origin_level y))
      (λ x y is. subst (λ z. P (roll-Query z)) is (query_level y))
      (λ x y is. subst (λ z. AllByRecursion (λ s. Q s.source) z.sources) (sym (out-roll-Block x)) (subst (λ z. AllByRecursion (λ s. Q s.source) z.sources) is (all_of OfItem y.sources)))
      (λ x y is. subst (λ z. Q z.source) is y.source.1)
      (λ x y is. subst (λ z. P z.query) is y.query.1)
