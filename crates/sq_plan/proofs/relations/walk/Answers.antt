use Rattle.std.proofs.Common.{◌≡◌, ◌≤◌, [], length, refl, sym, ap, subst, arith, ◌∙◌}
use Rattle.sq_plan.specs.ProgramWalk.{Walk, Walks}
use Rattle.sq_plan.proofs.RelationsWalk.{walk_starts}
use Rattle.sq_plan.proofs.relations.walk.Goals as goal

pub loop-i-init : goal.loop-i-init
loop-i-init c = (
  subst (λ ns. Walk c.args.program.now 0 (record { parts = c.in_ok-parts.parts; view = 0 }) ns c.new-2.result.items 0) (sym c.new.ensures.items)
      (subst (λ ns. Walk c.args.program.now 0 (record { parts = c.in_ok-parts.parts; view = 0 }) [] ns 0) (sym c.new-2.ensures.items)
      (walk_starts c.args.program.now c.catalog-relations.ensures.checked c.requires (record { parts = c.in_ok-parts.parts; view = 0 }) refl c.in_ok-parts.ensures)),
  omega arith,
)

pub returns : goal.returns
returns c =
    let past : length c.args.program.now.catalog ≤ c.loop-i.i = subst (λ n. n ≤ c.loop-i.i) (c.len-i-end.ensures.len ∙ ap length c.catalog-relations.ensures.relations) c.loop-i-test.false in
    let same : c.loop-i.i ≡ length c.args.program.now.catalog = omega (arith, past, c.loop-i.invariant.1) in
    subst (λ n. Walks c.args.program.now n c.loop-i.walked) same c.loop-i.invariant.0
