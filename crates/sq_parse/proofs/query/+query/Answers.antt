use Rattle.sq_ast.specs.Spelling.{kinds}
use Rattle.sq_ast.specs.Reading as r
use Rattle.sq_ast.proofs.Soundness.{level_sound}
use Rattle.sq_ast.proofs.Loops.{joined_step, operands_step, queries_step}
use Rattle.sq_terms.proofs.Chains.{goes, falls, ends, chain_stopped}
use Rattle.sq_parse.proofs.query.+query.Goals as goal

pub sources-returns-in_err-next : goal.sources-returns-in_err-next
sources-returns-in_err-next c c' =
    chain_stopped (joined_step (r.level c'.args.depth) (level_sound c'.args.depth)) c'.chain.found (kinds c'.chain.rest.now) _ c'.from_residual.result c'.in_err-next.field-0.0 _ c'.chain.invariant c'.in_err-next.ensures c'.from_residual.ensures.1 (λ y same. same)

pub sources-returns-in_default : goal.sources-returns-in_default
sources-returns-in_default c c' = ends (joined_step (r.level c'.args.depth) (level_sound c'.args.depth)) c'.chain.found (kinds c'.chain.rest.now) _ _ c'.chain.invariant (rw c'.in_default.is at c'.in_ok-next.ensures)

pub sources-chain-smaller : goal.sources-chain-smaller
sources-chain-smaller c c' = falls (joined_step (r.level c'.args.depth) (level_sound c'.args.depth)) (kinds c'.chain.rest.now) (kinds c'.in_ok-next.behind.now) c'.in-Some.source (rw c'.in-Some.is at c'.in_ok-next.ensures)

pub sources-chain-preserved : goal.sources-chain-preserved
sources-chain-preserved c c' = goes (joined_step (r.level c'.args.depth) (level_sound c'.args.depth)) c'.chain.found c'.push.new.self (kinds c'.chain.rest.now) (kinds c'.in_ok-next.behind.now) c'.in-Some.source _ c'.chain.invariant (rw c'.in-Some.is at c'.in_ok-next.ensures) c'.in_ok-push.ensures.ok

pub operands-returns-in_err-next : goal.operands-returns-in_err-next
operands-returns-in_err-next c c' =
    chain_stopped (operands_step (r.level c'.args.depth) (level_sound c'.args.depth)) c'.chain.found (kinds c'.chain.rest.now) _ c'.from_residual.result c'.in_err-next.field-0.0 _ c'.chain.invariant c'.in_err-next.ensures c'.from_residual.ensures.1 (λ y same. same)

pub operands-returns-in_default : goal.operands-returns-in_default
operands-returns-in_default c c' = ends (operands_step (r.level c'.args.depth) (level_sound c'.args.depth)) c'.chain.found (kinds c'.chain.rest.now) _ _ c'.chain.invariant (rw c'.in_default.is at c'.in_ok-next.ensures)

pub operands-chain-smaller : goal.operands-chain-smaller
operands-chain-smaller c c' = falls (operands_step (r.level c'.args.depth) (level_sound c'.args.depth)) (kinds c'.chain.rest.now) (kinds c'.in_ok-next.behind.now) c'.in-Some.query (rw c'.in-Some.is at c'.in_ok-next.ensures)

pub operands-chain-preserved : goal.operands-chain-preserved
operands-chain-preserved c c' = goes (operands_step (r.level c'.args.depth) (level_sound c'.args.depth)) c'.chain.found c'.push.new.self (kinds c'.chain.rest.now) (kinds c'.in_ok-next.behind.now) c'.in-Some.query _ c'.chain.invariant (rw c'.in-Some.is at c'.in_ok-next.ensures) c'.in_ok-push.ensures.ok

pub steps-returns-in_err-next : goal.steps-returns-in_err-next
steps-returns-in_err-next c c' =
    chain_stopped (queries_step (r.level c'.args.depth) (level_sound c'.args.depth)) c'.chain.found (kinds c'.chain.rest.now) _ c'.from_residual.result c'.in_err-next.field-0.0 _ c'.chain.invariant c'.in_err-next.ensures c'.from_residual.ensures.1 (λ y same. same)

pub steps-returns-in_default : goal.steps-returns-in_default
steps-returns-in_default c c' = ends (queries_step (r.level c'.args.depth) (level_sound c'.args.depth)) c'.chain.found (kinds c'.chain.rest.now) _ _ c'.chain.invariant (rw c'.in_default.is at c'.in_ok-next.ensures)

pub steps-chain-smaller : goal.steps-chain-smaller
steps-chain-smaller c c' = falls (queries_step (r.level c'.args.depth) (level_sound c'.args.depth)) (kinds c'.chain.rest.now) (kinds c'.in_ok-next.behind.now) c'.in-Some.step (rw c'.in-Some.is at c'.in_ok-next.ensures)

pub steps-chain-preserved : goal.steps-chain-preserved
steps-chain-preserved c c' = goes (queries_step (r.level c'.args.depth) (level_sound c'.args.depth)) c'.chain.found c'.push.new.self (kinds c'.chain.rest.now) (kinds c'.in_ok-next.behind.now) c'.in-Some.step _ c'.chain.invariant (rw c'.in-Some.is at c'.in_ok-next.ensures) c'.in_ok-push.ensures.ok
