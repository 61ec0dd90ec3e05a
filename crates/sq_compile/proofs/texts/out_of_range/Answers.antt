use Rattle.std.proofs.Common.{Err, ap, map, ◌∙◌}
use Rattle.sq_bridge.specs.Rows.{listed}
use Rattle.sq_compile.specs.Relations.{empty_tables}
use Rattle.sq_compile.proofs.EmptyTables.{good_empty, verdict_empty}
use Rattle.sq_compile.proofs.texts.out_of_range.Goals as goal

pub whole_eval-requires : goal.whole_eval-requires
whole_eval-requires c =
    good_empty c.args.program.now c.args.circuit.now c.requires c.deref.result.now
    (c.deref.ensures.value ∙ c.in_ok-tables.ensures ∙ ap (λ relations. map listed (empty_tables relations)) c.catalog.ensures.relations)

pub returns-in-Ok : goal.returns-in-Ok
returns-in-Ok c =
    verdict_empty c.args.program.now c.args.circuit.now c.requires c.deref.result.now
    (c.deref.ensures.value ∙ c.in_ok-tables.ensures ∙ ap (λ relations. map listed (empty_tables relations)) c.catalog.ensures.relations)
    _ c.in-Ok.ensures.in_range

pub returns-in-Err-Range : goal.returns-in-Err-Range
returns-in-Err-Range c =
    verdict_empty c.args.program.now c.args.circuit.now c.requires c.deref.result.now
    (c.deref.ensures.value ∙ c.in_ok-tables.ensures ∙ ap (λ relations. map listed (empty_tables relations)) c.catalog.ensures.relations)
    _ (c.in-Err-Range.ensures.range c.in-Err-Range.view (ap Err c.in-Err-Range.field-0-is))
