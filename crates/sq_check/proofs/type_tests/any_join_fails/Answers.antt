use Rattle.std.proofs.Common.{rules, refl, ap, ◌∙◌}
use Rattle.std.specs.List.{list_any}
use Rattle.sq_typed.specs.Resolved.{on_cond}
use Rattle.sq_check.specs.TypesTests.{on_fails}
use Rattle.sq_check.proofs.TypesTests.{ons_more}
use Rattle.sq_check.proofs.type_tests.any_join_fails.Goals as goal

pub loop-i-preserved : goal.loop-i-preserved
loop-i-preserved c = ons_more c.args.test c.args.scope.now c.args.sources.now c.loop-i.i c.index-sources-i.result c.loop-i.found c.in_ok-fails.fails _ (search rules) c.index-sources-i.is c.loop-i.invariant (c.in_ok-fails.ensures ∙ ap (λ s. list_any (on_fails c.args.test) (on_cond s c.index-sources-i.result.join)) c.front-row.ensures) refl
