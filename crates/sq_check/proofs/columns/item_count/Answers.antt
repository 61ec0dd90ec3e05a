use Rattle.std.proofs.Common.{length, ap, sym, ◌∙◌}
use Rattle.sq_typed.specs.Selected.{written_out}
use Rattle.sq_check.proofs.TypesColumnLemmas.{length_all}
use Rattle.sq_check.proofs.columns.item_count.Goals as goal

pub returns-in-Star-clause-count : goal.returns-in-Star-clause-count
returns-in-Star-clause-count c = c.width-width.ensures ∙ (sym (length_all 0 c.args.scope.now) ∙ ap (λ i. length (written_out c.args.scope.now i)) (sym c.in-Star.is))
