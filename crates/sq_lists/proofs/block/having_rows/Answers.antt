use Rattle.std.proofs.Common.{subst, sym, ◌∙◌, map}
use Rattle.std.specs.List.{AllByRecursion}
use Rattle.sq_typed.specs.Blocks.{group_row, groups}
use Rattle.sq_lists.proofs.Blocks.{calls_fit, groups_fit}
use Rattle.sq_lists.proofs.Stages.{AllFit}
use Rattle.sq_lists.proofs.block.having_rows.Goals as goal

pub grouped-requires : goal.grouped-requires
grouped-requires c = calls_fit c.args.grouping.now c.args.rows.now c.requires

pub filtered-requires : goal.filtered-requires
filtered-requires c =
    subst (AllByRecursion (AllFit c.deref.result.now)) (sym (c.deref-2.ensures.value ∙ c.in_ok-groups.ensures.ok))
    (subst (λ conds. AllByRecursion (AllFit conds) (map (group_row c.args.grouping.now.calls) (groups c.args.grouping.now.columns c.args.rows.now))) (sym (c.deref.ensures.value ∙ c.in_ok-conds.ensures))
    (groups_fit c.args.grouping.now c.args.rows.now c.requires c.in_ok-groups.ensures.inside))
