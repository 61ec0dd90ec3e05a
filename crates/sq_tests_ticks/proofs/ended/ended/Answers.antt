use Rattle.std.proofs.Common.{ap, sym, subst, ◌∙◌}
use Rattle.sq_tests_ticks.specs.Making.{AreShown, view_part}
use Rattle.sq_tests_ticks.proofs.Closing.{three_end}
use Rattle.sq_tests_ticks.proofs.ended.ended.Goals as goal

pub three_views-requires : goal.three_views-requires
three_views-requires c = subst (λ ps. AreShown ps c.args.first c.args.second c.args.third) (sym c.deref.ensures.value) c.requires.shown

pub of-requires : goal.of-requires
of-requires c =
    three_end c.args.parts.items c.args.first c.args.second c.args.third c.requires.begun c.requires.shown c.in_ok-one.one c.in_ok-one.two c.in_ok-one.three c.in_ok-parts.parts.items
    (c.in_ok-one.ensures.0 ∙ ap (λ ps. view_part ps 0 c.args.first) c.deref.ensures.value)
    (c.in_ok-one.ensures.1 ∙ ap (λ ps. view_part ps 1 c.args.second) c.deref.ensures.value)
    (c.in_ok-one.ensures.2 ∙ ap (λ ps. view_part ps 2 c.args.third) c.deref.ensures.value) c.in_ok-parts.ensures c.requires.few
