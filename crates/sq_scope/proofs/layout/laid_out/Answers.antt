use Rattle.std.proofs.Common.{◌≤◌, ◌<◌, ◌++◌, map, length, ap, ◌∙◌, arith}
use Rattle.std.proofs.lemmas.List.{take_all}
use Rattle.sq_scope.proofs.NamesScopes.{laid_more}
use Rattle.sq_scope.proofs.layout.laid_out.Goals as goal

pub loop-source-preserved : goal.loop-source-preserved
loop-source-preserved c =
    let within : c.loop-source.source-index < length c.args.sources.now = omega arith in
    let all : length c.columns-column-items.result.now ≤ c.loop-column.column-index = omega arith in
    laid_more c.loop-source.kinds.items c.loop-column.kinds.items c.loop-source.begins.items c.push-in-loop-source.new.self.items c.args.sources.now c.loop-source.source-index c.source-item.result c.columns-column-items.result.now
    within c.loop-source.invariant c.columns-column-items.ensures c.source-item.is
    (c.loop-column.invariant ∙ ap (λ l. c.loop-source.kinds.items ++ map (λ x. x.kind) l) (take_all c.loop-column.column-index c.columns-column-items.result.now all))
    c.len.result (omega arith) c.in_ok-push-3.ensures.items
