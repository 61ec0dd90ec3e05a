use Rattle.std.proofs.Common.{ap, ◌∙◌, rules}
use Rattle.sq_typed.specs.Faults.{names}
use Rattle.sq_typed.specs.Scopes.{repeats}
use Rattle.sq_check.specs.TypesFrames.{frame_column}
use Rattle.sq_check.proofs.TypesColumnLemmas.{repeats_soon}
use Rattle.sq_check.proofs.columns.distinct_listed.Goals as goal

pub returns-then-branch : goal.returns-then-branch
returns-then-branch c = repeats_soon (frame_column c.args.frame.now) c.args.scope.now c.args.items.now c.loop-item.item-index c.item-item.result c.loop-item.columns c.push_columns.new.columns c.in_ok-has_same_names.field-0 (search rules) c.item-item.is c.loop-item.invariant (search rules) (c.in_ok-has_same_names.ensures ∙ ap (λ cs. repeats (names cs)) c.as_slice.ensures) (search rules)
