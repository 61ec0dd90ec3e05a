use Rattle.sq_ast.specs.Spelling.{kinds}
use Rattle.sq_ast.proofs.Loops.{col_refs_step}
use Rattle.sq_terms.proofs.Chains.{goes, falls, ends, chain_stopped}
use Rattle.sq_parse.proofs.part.col_refs.Goals as goal

pub returns-in_err-next : goal.returns-in_err-next
returns-in_err-next c =
    chain_stopped col_refs_step c.chain.found (kinds c.chain.rest.now) _ c.from_residual.result c.in_err-next.field-0.0 _ c.chain.invariant c.in_err-next.ensures c.from_residual.ensures.1 (λ y same. same)

pub returns-in_default : goal.returns-in_default
returns-in_default c = ends col_refs_step c.chain.found (kinds c.chain.rest.now) _ _ c.chain.invariant (rw c.in_default.is at c.in_ok-next.ensures)

pub chain-smaller : goal.chain-smaller
chain-smaller c = falls col_refs_step (kinds c.chain.rest.now) (kinds c.in_ok-next.behind.now) c.in-Some.column (rw c.in-Some.is at c.in_ok-next.ensures)

pub chain-preserved : goal.chain-preserved
chain-preserved c = goes col_refs_step c.chain.found c.push.new.self (kinds c.chain.rest.now) (kinds c.in_ok-next.behind.now) c.in-Some.column _ c.chain.invariant (rw c.in-Some.is at c.in_ok-next.ensures) c.in_ok-push.ensures.ok
