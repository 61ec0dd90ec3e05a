-- A query means the same over relations that agree where it names them, and its rows have as many values as it has columns.
use Rattle.std.proofs.Common.{◌≡◌, ℕ, List, [], ◌∷◌, ◌++◌, map, get_or, refl, sym, ap, subst, ◌∙◌}
use Rattle.std.specs.List.{AllByRecursion, flat_map}
use Rattle.sq_expr.proofs.Lists.{all_front, all_back, all_flat, all_from, map_same}
use Rattle.sq_typed.specs.declared.query.Query.{Query, roll-Query}
use Rattle.sq_typed.specs.declared.query.Query.TheVariants as query
use Rattle.sq_typed.specs.declared.query.Block.{Block, out-Block}
use Rattle.sq_typed.specs.declared.query.FromItem.{FromItem}
use Rattle.sq_typed.specs.declared.query.SetStep.{SetStep}
use Rattle.sq_typed.specs.declared.query.Origin.{Origin, roll-Origin}
use Rattle.sq_typed.specs.declared.query.Origin.TheVariants as origin
use Rattle.sq_typed.specs.declared.query.Origin.TheFolds.{fold-Block, fold-FromItem, fold-SetStep, map-Query, map-Origin, fold-roll-Query, fold-roll-Origin, fold_out-Block, fold_out-FromItem, fold_out-SetStep}
use Rattle.sq_typed.specs.declared.query.Origin.TheOpen.{Query-F, Origin-F}
use Rattle.sq_typed.specs.From.{Answer, Source}
use Rattle.sq_typed.specs.Blocks.{block_answer}
use Rattle.sq_typed.specs.Queries.{Contents, relation_answer, chain_answer, set_rows, intersect_answer, answer, origin_answer, source_of_item, member_answer}
use Rattle.sq_typed.specs.Relations.{named_by_origin, named_by_query, relations_of, relations_of_origin}
use Rattle.sq_typed.proofs.Equations.{source-is, member-is, origin-Relation, origin-Query, answer-Block, answer-Chain, answer-Intersect}
use Rattle.sq_typed.proofs.Trees.{QueryCases, each_query}

-- ---- the relations that a query names, part by part

abbrev Ns : Type 0
Ns = List ℕ

flat_map-of : {A B C : Type 0} (f : B → List C) (g : A → B) (xs : List A) → flat_map f (map g xs) ≡ flat_map (λ x. f (g x)) xs
flat_map-of f g [] = refl
flat_map-of f g (x ∷ xs) = ap (λ rest. f (g x) ++ rest) (flat_map-of f g xs)

of_item : FromItem → Ns
of_item s = fold-FromItem Ns Ns Ns Ns Ns named_by_origin named_by_query (λ b. flat_map (λ ns. ns) b.sources) (λ s. s.source) (λ s. s.query) s

of_step : SetStep → Ns
of_step s = fold-SetStep Ns Ns Ns Ns Ns named_by_origin named_by_query (λ b. flat_map (λ ns. ns) b.sources) (λ s. s.source) (λ s. s.query) s

of_block : Block → Ns
of_block b = fold-Block Ns Ns Ns Ns Ns named_by_origin named_by_query (λ b. flat_map (λ ns. ns) b.sources) (λ s. s.source) (λ s. s.query) b

named_rolls : (x : Query-F Origin Query Block FromItem SetStep) → relations_of (roll-Query x) ≡ named_by_query (map-Query Origin Query Block FromItem SetStep Ns Ns Ns Ns Ns relations_of_origin relations_of of_block of_item of_step x)
unfolding relations_of relations_of_origin of_block of_item of_step
named_rolls x = fold-roll-Query Ns Ns Ns Ns Ns named_by_origin named_by_query (λ b. flat_map (λ ns. ns) b.sources) (λ s. s.source) (λ s. s.query) x

origin_named_rolls : (x : Origin-F Origin Query Block FromItem SetStep) → relations_of_origin (roll-Origin x) ≡ named_by_origin (map-Origin Origin Query Block FromItem SetStep Ns Ns Ns Ns Ns relations_of_origin relations_of of_block of_item of_step x)
unfolding relations_of relations_of_origin of_block of_item of_step
origin_named_rolls x = fold-roll-Origin Ns Ns Ns Ns Ns named_by_origin named_by_query (λ b. flat_map (λ ns. ns) b.sources) (λ s. s.source) (λ s. s.query) x

of_item-is : (s : FromItem) → of_item s ≡ relations_of_origin s.source
unfolding relations_of_origin of_item
of_item-is s = fold_out-FromItem Ns Ns Ns Ns Ns named_by_origin named_by_query (λ b. flat_map (λ ns. ns) b.sources) (λ s. s.source) (λ s. s.query) s

of_step-is : (s : SetStep) → of_step s ≡ relations_of s.query
unfolding relations_of of_step
of_step-is s = fold_out-SetStep Ns Ns Ns Ns Ns named_by_origin named_by_query (λ b. flat_map (λ ns. ns) b.sources) (λ s. s.source) (λ s. s.query) s

of_block-is : (b : Block) → of_block b ≡ flat_map (λ ns. ns) (map of_item (out-Block b).sources)
unfolding of_block of_item
of_block-is b = fold_out-Block Ns Ns Ns Ns Ns named_by_origin named_by_query (λ b. flat_map (λ ns. ns) b.sources) (λ s. s.source) (λ s. s.query) b

flat_same : {A : Type 0} (f g : A → Ns) (xs : List A) → ((x : A) → f x ≡ g x) → flat_map (λ ns. ns) (map f xs) ≡ flat_map g xs
flat_same f g [] is = refl
flat_same f g (x ∷ xs) is = (λ i. is x i ++ flat_same f g xs is i)

pub named-Relation : (n : ℕ) → relations_of_origin (origin.Relation n) ≡ n ∷ []
named-Relation n = ap relations_of_origin (sym (origin.rolls-Relation n)) ∙ origin_named_rolls (Origin-F.Relation n)

pub named-Query : (q : Query) → relations_of_origin (origin.Query q) ≡ relations_of q
named-Query q = ap relations_of_origin (sym (origin.rolls-Query q)) ∙ origin_named_rolls (Origin-F.Query q)

pub named-Block : (b : Block) → relations_of (query.Block b) ≡ flat_map (λ s. relations_of_origin s.source) (out-Block b).sources
named-Block b = ap relations_of (sym (query.rolls-Block b)) ∙ named_rolls (Query-F.Block b) ∙ of_block-is b ∙ flat_same of_item (λ s. relations_of_origin s.source) (out-Block b).sources of_item-is

pub named-Chain : (q : Query) (rest : List SetStep) → relations_of (query.Chain q rest) ≡ relations_of q ++ flat_map (λ s. relations_of s.query) rest
named-Chain q rest = ap relations_of (sym (query.rolls-Chain q rest)) ∙ named_rolls (Query-F.Chain q rest) ∙ ap (λ ns. relations_of q ++ ns) (flat_same of_step (λ s. relations_of s.query) rest of_step-is)

pub named-Intersect : (qs : List Query) → relations_of (query.Intersect qs) ≡ flat_map relations_of qs
named-Intersect qs = ap relations_of (sym (query.rolls-Intersect qs)) ∙ named_rolls (Query-F.Intersect qs) ∙ flat_same relations_of relations_of qs (λ q. refl)

-- ---- relations that agree

abbrev absent : Contents
absent = record { width = 0; rows = [] }

module _ (before now : List Contents) where
  abbrev Agree : ℕ → Type 0
  Agree n = get_or before n absent ≡ get_or now n absent

  abbrev OriginSame : Origin → Type 0
  OriginSame o = AllByRecursion Agree (relations_of_origin o) → origin_answer before o ≡ origin_answer now o

  abbrev QuerySame : Query → Type 0
  QuerySame q = AllByRecursion Agree (relations_of q) → answer before q ≡ answer now q

  same_sources : (ss : List FromItem) → AllByRecursion (λ s. OriginSame s.source) ss → AllByRecursion Agree (flat_map (λ s. relations_of_origin s.source) ss) → map (source_of_item before) ss ≡ map (source_of_item now) ss
  same_sources ss ks h = map_same (source_of_item before) (source_of_item now) ss
      (all_from (λ s. OriginSame s.source) (λ s. AllByRecursion Agree (relations_of_origin s.source)) (λ s. source_of_item before s ≡ source_of_item now s) ss
      (λ s k n. source-is before s ∙ ap (λ (a : Answer). let x : Source = record { join = s.join; answer = a } in x) (k n) ∙ sym (source-is now s)) ks (all_flat Agree (λ s. relations_of_origin s.source) ss h))

  same_members : (rest : List SetStep) → AllByRecursion (λ s. QuerySame s.query) rest → AllByRecursion Agree (flat_map (λ s. relations_of s.query) rest) → map (member_answer before) rest ≡ map (member_answer now) rest
  same_members rest ks h = map_same (member_answer before) (member_answer now) rest
      (all_from (λ s. QuerySame s.query) (λ s. AllByRecursion Agree (relations_of s.query)) (λ s. member_answer before s ≡ member_answer now s) rest
      (λ s k n. member-is before s ∙ (λ i. (s.op, k n i)) ∙ sym (member-is now s)) ks (all_flat Agree (λ s. relations_of s.query) rest h))

  same_cases : QueryCases OriginSame QuerySame
  same_cases = record {
    block = λ b ks h.
        answer-Block before b
        ∙ ap (λ ss. block_answer (out-Block b).distinct ss (out-Block b).filter (out-Block b).grouping (out-Block b).items) (same_sources (out-Block b).sources ks (subst (AllByRecursion Agree) (named-Block b) h))
        ∙ sym (answer-Block now b);
    chain = λ q rest k ks h.
        let names = subst (AllByRecursion Agree) (named-Chain q rest) h in
        answer-Chain before q rest
        ∙ (λ i. chain_answer (λ rows s. set_rows s.0 rows s.1.rows) (λ s. s.1) (k (all_front Agree (relations_of q) (flat_map (λ s. relations_of s.query) rest) names) i) (same_members rest ks (all_back Agree (relations_of q) (flat_map (λ s. relations_of s.query) rest) names) i))
        ∙ sym (answer-Chain now q rest);
    intersect = λ qs ks h.
        answer-Intersect before qs
        ∙ ap intersect_answer (map_same (answer before) (answer now) qs
        (all_from QuerySame (λ q. AllByRecursion Agree (relations_of q)) (λ q. answer before q ≡ answer now q) qs (λ q k n. k n) ks (all_flat Agree relations_of qs (subst (AllByRecursion Agree) (named-Intersect qs) h))))
        ∙ sym (answer-Intersect now qs);
    relation = λ n h. origin-Relation before n ∙ ap relation_answer (subst (AllByRecursion Agree) (named-Relation n) h).0 ∙ sym (origin-Relation now n);
    of_query = λ q k h. origin-Query before q ∙ k (subst (AllByRecursion Agree) (named-Query q) h) ∙ sym (origin-Query now q);
  }

  -- a query means the same over both
  pub relations_decide : (q : Query) → QuerySame q
  relations_decide = each_query OriginSame QuerySame same_cases
