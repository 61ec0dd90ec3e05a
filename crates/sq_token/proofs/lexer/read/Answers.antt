use Rattle.std.proofs.Common.{length, refl, arith, rules}
use Rattle.sq_token.proofs.Steps.{steps_go, reads_start, reads_on}
use Rattle.sq_token.proofs.lexer.read.Goals as goal

pub loop-rest-init : goal.loop-rest-init
loop-rest-init c = (search rules, omega arith, reads_start c.args.text.now c.new-found.result.items c.new-found.ensures.items)

pub loop-rest-smaller : goal.loop-rest-smaller
loop-rest-smaller c = steps_go _ _ _ _ _ c.in_ok-rest.ensures.ok

pub loop-rest-preserved : goal.loop-rest-preserved
loop-rest-preserved c = (
  search rules,
  omega (arith, c.loop-rest.invariant.1, steps_go _ _ _ _ _ c.in_ok-rest.ensures.ok),
  reads_on (length c.args.text.now) _ c.args.text.now c.loop-rest.rest.now c.in_ok-rest.rest.now c.loop-rest.found.items c.step.new.found.items refl c.loop-rest.invariant.1 c.loop-rest.invariant.2 c.in_ok-rest.ensures.ok,
)
