use Rattle.std.proofs.Common.{map, take, ap, ◌∙◌}
use Rattle.std.specs.List.{flat_map}
use Rattle.sq_typed.specs.Selected.{chosen, written_out}
use Rattle.sq_scope.specs.Scoped.{scoped_by}
use Rattle.sq_check.specs.TypesFrames.{frame_column}
use Rattle.sq_check.proofs.TypesFrames.{all_columns}
use Rattle.sq_check.proofs.columns.first_columns.Goals as goal

pub returns : goal.returns
returns c =
    c.in_ok-columns.ensures
    ∙ (ap (λ is. take c.args.limit (map (frame_column c.in_ok-frame.frame) (flat_map (written_out c.args.scope.now) is))) c.as_slice.ensures
    ∙ ap (take c.args.limit) (all_columns (scoped_by c.args.scope.now c.args.block.now) c.in_ok-frame.frame c.in_ok-frame.ensures (chosen (scoped_by c.args.scope.now c.args.block.now))))
