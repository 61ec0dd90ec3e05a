use Rattle.std.proofs.Common.{subst, sym, ◌∙◌}
use Rattle.std.specs.List.{AllByRecursion}
use Rattle.sq_lists.specs.Values.{ArgumentFits}
use Rattle.sq_lists.proofs.Groups.{members_fit}
use Rattle.sq_lists.proofs.group.one_group.Goals as goal

pub group_row-requires : goal.group_row-requires
group_row-requires c =
    subst (λ members. AllByRecursion (λ call. AllByRecursion (ArgumentFits call.arg) members) c.args.calls.now) (sym (c.deref.ensures.value ∙ c.in_ok-members.ensures))
    (members_fit c.args.columns.now c.args.key.now c.args.calls.now c.args.rows.now c.requires)
