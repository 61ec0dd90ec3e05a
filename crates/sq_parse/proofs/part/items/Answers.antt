use Rattle.sq_ast.specs.Spelling.{kinds}
use Rattle.sq_ast.specs.Reading as r
use Rattle.sq_ast.proofs.Soundness.{level_sound}
use Rattle.sq_ast.proofs.Loops.{items_step}
use Rattle.sq_terms.proofs.Chains.{goes, falls, ends, chain_stopped}
use Rattle.sq_parse.proofs.part.items.Goals as goal

pub returns-in_err-next : goal.returns-in_err-next
returns-in_err-next c =
    chain_stopped (items_step (r.level c.args.depth) (level_sound c.args.depth)) c.chain.found (kinds c.chain.rest.now) _ c.from_residual.result c.in_err-next.field-0.0 _ c.chain.invariant c.in_err-next.ensures c.from_residual.ensures.1 (λ y same. same)

pub returns-in_default : goal.returns-in_default
returns-in_default c = ends (items_step (r.level c.args.depth) (level_sound c.args.depth)) c.chain.found (kinds c.chain.rest.now) _ _ c.chain.invariant (rw c.in_default.is at c.in_ok-next.ensures)

pub chain-smaller : goal.chain-smaller
chain-smaller c = falls (items_step (r.level c.args.depth) (level_sound c.args.depth)) (kinds c.chain.rest.now) (kinds c.in_ok-next.behind.now) c.in-Some.item (rw c.in-Some.is at c.in_ok-next.ensures)

pub chain-preserved : goal.chain-preserved
chain-preserved c = goes (items_step (r.level c.args.depth) (level_sound c.args.depth)) c.chain.found c.push.new.self (kinds c.chain.rest.now) (kinds c.in_ok-next.behind.now) c.in-Some.item _ c.chain.invariant (rw c.in-Some.is at c.in_ok-next.ensures) c.in_ok-push.ensures.ok
