use Rattle.std.proofs.Common.{◌∙◌, ap, ap₂, length, sym}
use Rattle.sq_typed.specs.Fit.{wider_kinds}
use Rattle.sq_plan.proofs.Adding.{stays_node}
use Rattle.sq_plan.specs.Drafts.{kinds_of}
use Rattle.sq_plan.proofs.Giving.{matched_length}
use Rattle.sq_plan.proofs.Primitives.{if_ok}
use Rattle.sq_plan.proofs.Stepping.{in_second, intersect_is, sides_alike, sides_give, sides_narrow}
use Rattle.sq_plan.proofs.KeyedSteps.{joins_then}
use Rattle.sq_plan.specs.Keyed.{NoJoin}
use Rattle.sq_plan.proofs.draft.Draft.intersect.Goals as goal

pub wider_kinds-requires : goal.wider_kinds-requires
wider_kinds-requires c = ap length c.kinds-2.ensures ∙ matched_length (kinds_of c.args.self.now c.args.left) (kinds_of c.args.self.now c.args.right) c.requires.alike ∙ sym (ap length c.kinds.ensures)

pub once-requires-2-clause-low : goal.once-requires-2-clause-low
once-requires-2-clause-low c = stays_node 1 c.args.self.now c.once.new.self c.in_ok-rows.rows _ _ _ c.in_ok-rows.ensures.adds c.args.right c.requires.low_right

pub common-requires-clause-low_left : goal.common-requires-clause-low_left
common-requires-clause-low_left c = in_second c.args.self.now c.args.left c.args.right c.in_ok-kinds.kinds (c.in_ok-kinds.ensures ∙ ap₂ wider_kinds c.kinds.ensures c.kinds-2.ensures) c.requires.alike
    c.requires.low_left c.requires.low_right c.once.new.self c.once-2.new.self c.in_ok-rows.rows c.in_ok-others.others c.in_ok-rows.ensures.adds c.in_ok-others.ensures.adds

pub common-requires-clause-alike : goal.common-requires-clause-alike
common-requires-clause-alike c = sides_alike c.args.self.now c.args.left c.args.right c.in_ok-kinds.kinds (c.in_ok-kinds.ensures ∙ ap₂ wider_kinds c.kinds.ensures c.kinds-2.ensures) c.requires.alike
    c.requires.low_left c.requires.low_right c.once.new.self c.once-2.new.self c.in_ok-rows.rows c.in_ok-others.others c.in_ok-rows.ensures.adds c.in_ok-others.ensures.adds

pub common-requires-clause-give : goal.common-requires-clause-give
common-requires-clause-give c = sides_give c.args.self.now c.args.left c.args.right c.in_ok-kinds.kinds (c.in_ok-kinds.ensures ∙ ap₂ wider_kinds c.kinds.ensures c.kinds-2.ensures) c.requires.alike
    c.requires.low_left c.requires.low_right c.once.new.self c.once-2.new.self c.in_ok-rows.rows c.in_ok-others.others c.in_ok-rows.ensures.adds c.in_ok-others.ensures.adds

pub common-requires-clause-narrow : goal.common-requires-clause-narrow
common-requires-clause-narrow c = sides_narrow c.args.self.now c.args.left c.args.right c.in_ok-kinds.kinds (c.in_ok-kinds.ensures ∙ ap₂ wider_kinds c.kinds.ensures c.kinds-2.ensures) c.requires.alike
    c.requires.low_left c.requires.low_right c.once.new.self c.once-2.new.self c.in_ok-rows.rows c.in_ok-others.others c.in_ok-rows.ensures.adds c.in_ok-others.ensures.adds c.requires.narrow

pub returns-clause-adds : goal.returns-clause-adds
returns-clause-adds c = if_ok c.common.result _ _ (λ i h. intersect_is c.args.self.now c.args.left c.args.right c.in_ok-kinds.kinds (c.in_ok-kinds.ensures ∙ ap₂ wider_kinds c.kinds.ensures c.kinds-2.ensures) c.requires.alike
    c.requires.low_left c.requires.low_right c.once.new.self c.once-2.new.self c.in_ok-rows.rows c.in_ok-others.others c.in_ok-rows.ensures.adds c.in_ok-others.ensures.adds c.common.new.self i h) c.common.ensures.adds

pub returns-clause-keyed : goal.returns-clause-keyed
returns-clause-keyed c = if_ok c.common.result _ _ (λ i h. joins_then c.args.self.now c.once-2.new.self c.common.new.self NoJoin (joins_then c.args.self.now c.once.new.self c.once-2.new.self NoJoin c.in_ok-rows.ensures.keyed c.in_ok-others.ensures.keyed) h) c.common.ensures.keyed
