use Rattle.std.proofs.Common.{refl, ◌∙◌}
use Rattle.sq_lists.proofs.ViewWalk.{table_goes}
use Rattle.sq_lists.proofs.views.with_table.Goals as goal

pub returns : goal.returns
returns c =
    table_goes c.args.program.now c.args.tables.now c.args.i c.args.so_far c.requires.walk c.args.relation.now c.requires.at c.requires.kind
    _ (record { width = c.len-width.result; rows = c.from_vec-rows.result }) c.len-width.ensures (c.from_vec-rows.ensures ∙ c.in_ok-rows.ensures) c.in_ok-push.ensures.items refl refl refl
