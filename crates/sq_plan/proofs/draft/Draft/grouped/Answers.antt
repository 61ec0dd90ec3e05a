use Rattle.std.proofs.Common.{◌∙◌, ap, map}
use Rattle.sq_typed.specs.Numbered.{kind_of}
use Rattle.sq_plan.proofs.GroupSteps.{grouped_is, having_suits, items_give, items_suit, spec_gives, spec_suits}
use Rattle.sq_plan.proofs.Primitives.{if_ok}
use Rattle.sq_plan.proofs.KeyedSteps.{joins_then}
use Rattle.sq_plan.specs.Keyed.{NoJoin}
use Rattle.sq_plan.proofs.draft.Draft.grouped.Goals as goal

pub project-requires-clause-suit : goal.project-requires-clause-suit
project-requires-clause-suit c = items_suit c.args.self.now c.args.self.now c.args.input c.args.grouping.now c.requires.fits c.in_ok-items.items c.in_ok-items.ensures c.in_ok-own.own c.in_ok-kinds.kinds _ _ c.kinds.ensures c.kinds-2.ensures (c.in_ok-own.ensures ∙ ap (map (kind_of c.kinds.result.now)) c.as_slice.ensures) c.in_ok-kinds.ensures

pub project-requires-clause-give : goal.project-requires-clause-give
project-requires-clause-give c = items_give c.args.self.now c.args.self.now c.args.input c.args.grouping.now c.requires.fits c.in_ok-items.items c.in_ok-items.ensures c.in_ok-own.own c.in_ok-kinds.kinds _ _ c.kinds.ensures c.kinds-2.ensures (c.in_ok-own.ensures ∙ ap (map (kind_of c.kinds.result.now)) c.as_slice.ensures) c.in_ok-kinds.ensures

pub aggregate-requires-clause-suit : goal.aggregate-requires-clause-suit
aggregate-requires-clause-suit c = spec_suits c.args.self.now c.project.new.self c.args.input c.args.grouping.now c.requires.fits c.in_ok-items.items c.in_ok-items.ensures c.in_ok-own.own c.in_ok-kinds.kinds _ _ c.kinds.ensures c.kinds-2.ensures (c.in_ok-own.ensures ∙ ap (map (kind_of c.kinds.result.now)) c.as_slice.ensures) c.in_ok-kinds.ensures
    c.in_ok-projected.projected c.in_ok-projected.ensures.adds c.in_ok-spec.spec c.in_ok-spec.ensures

pub aggregate-requires-clause-give : goal.aggregate-requires-clause-give
aggregate-requires-clause-give c = spec_gives c.args.self.now c.project.new.self c.args.input c.args.grouping.now c.requires.fits c.in_ok-items.items c.in_ok-items.ensures c.in_ok-own.own c.in_ok-kinds.kinds _ _ c.kinds.ensures c.kinds-2.ensures (c.in_ok-own.ensures ∙ ap (map (kind_of c.kinds.result.now)) c.as_slice.ensures) c.in_ok-kinds.ensures
    c.in_ok-projected.projected c.in_ok-projected.ensures.adds c.in_ok-spec.spec c.in_ok-spec.ensures

pub kept-requires-clause-suit : goal.kept-requires-clause-suit
kept-requires-clause-suit c = having_suits c.args.self.now c.project.new.self c.args.input c.args.grouping.now c.requires.fits c.in_ok-items.items c.in_ok-items.ensures c.in_ok-own.own c.in_ok-kinds.kinds _ _ c.kinds.ensures c.kinds-2.ensures (c.in_ok-own.ensures ∙ ap (map (kind_of c.kinds.result.now)) c.as_slice.ensures) c.in_ok-kinds.ensures
    c.in_ok-projected.projected c.in_ok-projected.ensures.adds c.in_ok-spec.spec c.in_ok-spec.ensures c.aggregate.new.self c.in_ok-groups.groups c.in_ok-groups.ensures.adds c.in_ok-having.having.items c.in_ok-having.ensures

pub returns-clause-adds : goal.returns-clause-adds
returns-clause-adds c = if_ok c.kept.result _ _ (λ i h. grouped_is c.args.self.now c.project.new.self c.args.input c.args.grouping.now c.requires.fits c.in_ok-items.items c.in_ok-items.ensures c.in_ok-own.own c.in_ok-kinds.kinds _ _ c.kinds.ensures c.kinds-2.ensures (c.in_ok-own.ensures ∙ ap (map (kind_of c.kinds.result.now)) c.as_slice.ensures) c.in_ok-kinds.ensures
    c.in_ok-projected.projected c.in_ok-projected.ensures.adds c.in_ok-spec.spec c.in_ok-spec.ensures c.aggregate.new.self c.in_ok-groups.groups c.in_ok-groups.ensures.adds c.in_ok-having.having.items c.in_ok-having.ensures c.kept.new.self i h) c.kept.ensures.adds

pub returns-clause-keyed : goal.returns-clause-keyed
returns-clause-keyed c = if_ok c.kept.result _ _ (λ i h. joins_then c.args.self.now c.aggregate.new.self c.kept.new.self NoJoin (joins_then c.args.self.now c.project.new.self c.aggregate.new.self NoJoin c.in_ok-projected.ensures.keyed c.in_ok-groups.ensures.keyed) h) c.kept.ensures.keyed
