use Rattle.std.proofs.Common.{length, get_or, ap, ◌∙◌}
use Rattle.sq_check.proofs.TypesColumnLemmas.{count_at}
use Rattle.sq_check.proofs.columns.column_count.Goals as goal

pub returns : goal.returns
returns c = ap length c.columns.ensures ∙ count_at c.args.scope.now c.args.place c.index-sources-place.result c.requires (c.index-sources-place.is ∙ ap (λ ss. get_or ss c.args.place c.index-sources-place.result) c.sources.ensures)
