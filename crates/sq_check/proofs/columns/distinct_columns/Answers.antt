use Rattle.std.proofs.Common.{◌≡◌, map, ap, ◌∙◌, subst, true, false, List}
use Rattle.std.specs.Prelude.{MatchOption}
use Rattle.std.specs.List.{flat_map}
use Rattle.sq_catalog.specs.declared.relation.Column.{Column}
use Rattle.sq_typed.specs.Faults.{names}
use Rattle.sq_typed.specs.Scopes.{repeats}
use Rattle.sq_typed.specs.Selected.{chosen, written_out}
use Rattle.sq_scope.specs.Scoped.{scoped_by}
use Rattle.sq_check.specs.TypesFrames.{frame_column}
use Rattle.sq_check.proofs.TypesFrames.{all_columns}
use Rattle.sq_check.proofs.columns.distinct_columns.Goals as goal

pub returns : goal.returns
returns c =
    subst (λ (cs : List Column). MatchOption c.in_ok-found.found (repeats (names cs) ≡ true) (λ columns. (columns ≡ cs) × (repeats (names columns) ≡ false)))
    (ap (λ is. map (frame_column c.in_ok-frame.frame) (flat_map (written_out c.args.scope.now) is)) c.as_slice.ensures
    ∙ all_columns (scoped_by c.args.scope.now c.args.block.now) c.in_ok-frame.frame c.in_ok-frame.ensures (chosen (scoped_by c.args.scope.now c.args.block.now)))
    c.in_ok-found.ensures
