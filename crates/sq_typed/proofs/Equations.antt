-- What a query gives, one equation for each form of it.
use Rattle.std.proofs.Common.{◌≡◌, ℕ, List, [], map, ap, sym, ◌∙◌, get_or}
use Rattle.sq_ast.specs.declared.query.SetOp.{SetOp}
use Rattle.sq_typed.specs.declared.query.Query.{Query, roll-Query}
use Rattle.sq_typed.specs.declared.query.Query.TheVariants as query
use Rattle.sq_typed.specs.declared.query.Block.{Block, out-Block}
use Rattle.sq_typed.specs.declared.query.FromItem.{FromItem}
use Rattle.sq_typed.specs.declared.query.SetStep.{SetStep}
use Rattle.sq_typed.specs.declared.query.Origin.{Origin, roll-Origin}
use Rattle.sq_typed.specs.declared.query.Origin.TheVariants as origin
use Rattle.sq_typed.specs.declared.query.Origin.TheFolds.{fold-Block, map-Query, map-Origin, fold-roll-Query, fold-roll-Origin, fold_out-Block, fold_out-FromItem, fold_out-SetStep}
use Rattle.sq_typed.specs.declared.query.Origin.TheOpen.{Query-F, Origin-F}
use Rattle.sq_typed.specs.From.{Answer, Source}
use Rattle.sq_typed.specs.Blocks.{block_answer}
use Rattle.sq_typed.specs.Queries.{Contents, relation_answer, chain_answer, set_rows, intersect_answer, of_origin, of_query, of_block, of_source, of_step, answer, origin_answer, source_of_item, member_answer}

module _ (relations : List Contents) where
  abbrev Step : Type 0
  Step = SetOp × Answer

  block_given : Block → Answer
  block_given b = fold-Block Answer Answer Answer Source Step (of_origin relations) (of_query relations) (of_block relations) (of_source relations) (of_step relations) b

  query_rolls : (x : Query-F Origin Query Block FromItem SetStep) →
      answer relations (roll-Query x) ≡ of_query relations (map-Query Origin Query Block FromItem SetStep Answer Answer Answer Source Step (origin_answer relations) (answer relations) block_given (source_of_item relations) (member_answer relations) x)
  unfolding answer origin_answer block_given source_of_item member_answer
  query_rolls x = fold-roll-Query Answer Answer Answer Source Step (of_origin relations) (of_query relations) (of_block relations) (of_source relations) (of_step relations) x

  origin_rolls : (x : Origin-F Origin Query Block FromItem SetStep) →
      origin_answer relations (roll-Origin x) ≡ of_origin relations (map-Origin Origin Query Block FromItem SetStep Answer Answer Answer Source Step (origin_answer relations) (answer relations) block_given (source_of_item relations) (member_answer relations) x)
  unfolding answer origin_answer block_given source_of_item member_answer
  origin_rolls x = fold-roll-Origin Answer Answer Answer Source Step (of_origin relations) (of_query relations) (of_block relations) (of_source relations) (of_step relations) x

  block_given-is : (b : Block) → block_given b ≡ block_answer (out-Block b).distinct (map (source_of_item relations) (out-Block b).sources) (out-Block b).filter (out-Block b).grouping (out-Block b).items
  unfolding block_given source_of_item
  block_given-is b = fold_out-Block Answer Answer Answer Source Step (of_origin relations) (of_query relations) (of_block relations) (of_source relations) (of_step relations) b

  -- a source, and a further member of a chain
  pub source-is : (s : FromItem) → source_of_item relations s ≡ record { join = s.join; answer = origin_answer relations s.source }
  unfolding origin_answer source_of_item
  source-is s = fold_out-FromItem Answer Answer Answer Source Step (of_origin relations) (of_query relations) (of_block relations) (of_source relations) (of_step relations) s

  pub member-is : (s : SetStep) → member_answer relations s ≡ (s.op, answer relations s.query)
  unfolding answer member_answer
  member-is s = fold_out-SetStep Answer Answer Answer Source Step (of_origin relations) (of_query relations) (of_block relations) (of_source relations) (of_step relations) s

  pub origin-Relation : (n : ℕ) → origin_answer relations (origin.Relation n) ≡ relation_answer (get_or relations n (record { width = 0; rows = [] }))
  origin-Relation n = ap (origin_answer relations) (sym (origin.rolls-Relation n)) ∙ origin_rolls (Origin-F.Relation n)

  pub origin-Query : (q : Query) → origin_answer relations (origin.Query q) ≡ answer relations q
  origin-Query q = ap (origin_answer relations) (sym (origin.rolls-Query q)) ∙ origin_rolls (Origin-F.Query q)

  pub answer-Block : (b : Block) → answer relations (query.Block b) ≡ block_answer (out-Block b).distinct (map (source_of_item relations) (out-Block b).sources) (out-Block b).filter (out-Block b).grouping (out-Block b).items
  answer-Block b = ap (answer relations) (sym (query.rolls-Block b)) ∙ (query_rolls (Query-F.Block b) ∙ block_given-is b)

  pub answer-Chain : (q : Query) (rest : List SetStep) →
      answer relations (query.Chain q rest) ≡ chain_answer (λ rows s. set_rows s.0 rows s.1.rows) (λ s. s.1) (answer relations q) (map (member_answer relations) rest)
  answer-Chain q rest = ap (answer relations) (sym (query.rolls-Chain q rest)) ∙ query_rolls (Query-F.Chain q rest)

  pub answer-Intersect : (qs : List Query) → answer relations (query.Intersect qs) ≡ intersect_answer (map (answer relations) qs)
  answer-Intersect qs = ap (answer relations) (sym (query.rolls-Intersect qs)) ∙ query_rolls (Query-F.Intersect qs)

pub ruleset answers = (answer-Block, answer-Chain, answer-Intersect, origin-Relation, origin-Query, source-is, member-is)
