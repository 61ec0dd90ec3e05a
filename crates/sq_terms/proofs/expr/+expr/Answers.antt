use Rattle.sq_ast.specs.Spelling.{kinds}
use Rattle.sq_ast.specs.Reading as r
use Rattle.sq_ast.proofs.Soundness.{level_sound}
use Rattle.sq_ast.proofs.Loops.{factors_step, terms_step}
use Rattle.sq_terms.proofs.Chains.{goes, falls, ends, chain_stopped}
use Rattle.sq_terms.proofs.expr.+expr.Goals as goal

pub factors-returns-in_err-next : goal.factors-returns-in_err-next
factors-returns-in_err-next c c' =
    chain_stopped (factors_step (r.level c'.args.depth) (level_sound c'.args.depth)) c'.chain.found (kinds c'.chain.rest.now) _ c'.from_residual.result c'.in_err-next.field-0.0 _ c'.chain.invariant c'.in_err-next.ensures c'.from_residual.ensures.1 (λ y same. same)

pub factors-returns-in_default : goal.factors-returns-in_default
factors-returns-in_default c c' = ends (factors_step (r.level c'.args.depth) (level_sound c'.args.depth)) c'.chain.found (kinds c'.chain.rest.now) _ _ c'.chain.invariant (rw c'.in_default.is at c'.in_ok-next.ensures)

pub factors-chain-smaller : goal.factors-chain-smaller
factors-chain-smaller c c' = falls (factors_step (r.level c'.args.depth) (level_sound c'.args.depth)) (kinds c'.chain.rest.now) (kinds c'.in_ok-next.behind.now) c'.in-Some.factor (rw c'.in-Some.is at c'.in_ok-next.ensures)

pub factors-chain-preserved : goal.factors-chain-preserved
factors-chain-preserved c c' = goes (factors_step (r.level c'.args.depth) (level_sound c'.args.depth)) c'.chain.found c'.push.new.self (kinds c'.chain.rest.now) (kinds c'.in_ok-next.behind.now) c'.in-Some.factor _ c'.chain.invariant (rw c'.in-Some.is at c'.in_ok-next.ensures) c'.in_ok-push.ensures.ok

pub terms-returns-in_err-next : goal.terms-returns-in_err-next
terms-returns-in_err-next c c' =
    chain_stopped (terms_step (r.level c'.args.depth) (level_sound c'.args.depth)) c'.chain.found (kinds c'.chain.rest.now) _ c'.from_residual.result c'.in_err-next.field-0.0 _ c'.chain.invariant c'.in_err-next.ensures c'.from_residual.ensures.1 (λ y same. same)

pub terms-returns-in_default : goal.terms-returns-in_default
terms-returns-in_default c c' = ends (terms_step (r.level c'.args.depth) (level_sound c'.args.depth)) c'.chain.found (kinds c'.chain.rest.now) _ _ c'.chain.invariant (rw c'.in_default.is at c'.in_ok-next.ensures)

pub terms-chain-smaller : goal.terms-chain-smaller
terms-chain-smaller c c' = falls (terms_step (r.level c'.args.depth) (level_sound c'.args.depth)) (kinds c'.chain.rest.now) (kinds c'.in_ok-next.behind.now) c'.in-Some.term (rw c'.in-Some.is at c'.in_ok-next.ensures)

pub terms-chain-preserved : goal.terms-chain-preserved
terms-chain-preserved c c' = goes (terms_step (r.level c'.args.depth) (level_sound c'.args.depth)) c'.chain.found c'.push.new.self (kinds c'.chain.rest.now) (kinds c'.in_ok-next.behind.now) c'.in-Some.term _ c'.chain.invariant (rw c'.in-Some.is at c'.in_ok-next.ensures) c'.in_ok-push.ensures.ok
