use Rattle.sq_ast.specs.Spelling.{kinds}
use Rattle.sq_ast.specs.Reading as r
use Rattle.sq_ast.proofs.Soundness.{level_sound}
use Rattle.sq_ast.proofs.Loops.{ands_step, ors_step}
use Rattle.sq_terms.proofs.Chains.{goes, falls, ends, chain_stopped}
use Rattle.sq_terms.proofs.cond.+cond.Goals as goal

pub ands-returns-in_err-next : goal.ands-returns-in_err-next
ands-returns-in_err-next c c' =
    chain_stopped (ands_step (r.level c'.args.depth) (level_sound c'.args.depth)) c'.chain.found (kinds c'.chain.rest.now) _ c'.from_residual.result c'.in_err-next.field-0.0 _ c'.chain.invariant c'.in_err-next.ensures c'.from_residual.ensures.1 (λ y same. same)

pub ands-returns-in_default : goal.ands-returns-in_default
ands-returns-in_default c c' = ends (ands_step (r.level c'.args.depth) (level_sound c'.args.depth)) c'.chain.found (kinds c'.chain.rest.now) _ _ c'.chain.invariant (rw c'.in_default.is at c'.in_ok-next.ensures)

pub ands-chain-smaller : goal.ands-chain-smaller
ands-chain-smaller c c' = falls (ands_step (r.level c'.args.depth) (level_sound c'.args.depth)) (kinds c'.chain.rest.now) (kinds c'.in_ok-next.behind.now) c'.in-Some.member (rw c'.in-Some.is at c'.in_ok-next.ensures)

pub ands-chain-preserved : goal.ands-chain-preserved
ands-chain-preserved c c' = goes (ands_step (r.level c'.args.depth) (level_sound c'.args.depth)) c'.chain.found c'.push.new.self (kinds c'.chain.rest.now) (kinds c'.in_ok-next.behind.now) c'.in-Some.member _ c'.chain.invariant (rw c'.in-Some.is at c'.in_ok-next.ensures) c'.in_ok-push.ensures.ok

pub ors-returns-in_err-next : goal.ors-returns-in_err-next
ors-returns-in_err-next c c' =
    chain_stopped (ors_step (r.level c'.args.depth) (level_sound c'.args.depth)) c'.chain.found (kinds c'.chain.rest.now) _ c'.from_residual.result c'.in_err-next.field-0.0 _ c'.chain.invariant c'.in_err-next.ensures c'.from_residual.ensures.1 (λ y same. same)

pub ors-returns-in_default : goal.ors-returns-in_default
ors-returns-in_default c c' = ends (ors_step (r.level c'.args.depth) (level_sound c'.args.depth)) c'.chain.found (kinds c'.chain.rest.now) _ _ c'.chain.invariant (rw c'.in_default.is at c'.in_ok-next.ensures)

pub ors-chain-smaller : goal.ors-chain-smaller
ors-chain-smaller c c' = falls (ors_step (r.level c'.args.depth) (level_sound c'.args.depth)) (kinds c'.chain.rest.now) (kinds c'.in_ok-next.behind.now) c'.in-Some.member (rw c'.in-Some.is at c'.in_ok-next.ensures)

pub ors-chain-preserved : goal.ors-chain-preserved
ors-chain-preserved c c' = goes (ors_step (r.level c'.args.depth) (level_sound c'.args.depth)) c'.chain.found c'.push.new.self (kinds c'.chain.rest.now) (kinds c'.in_ok-next.behind.now) c'.in-Some.member _ c'.chain.invariant (rw c'.in-Some.is at c'.in_ok-next.ensures) c'.in_ok-push.ensures.ok
