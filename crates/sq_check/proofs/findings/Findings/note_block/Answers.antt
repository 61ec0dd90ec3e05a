use Rattle.sq_scope.specs.Scoped.{scoped_by}
use Rattle.sq_check.proofs.QueriesAdded.{adds_block}
use Rattle.sq_check.proofs.findings.Findings.note_block.Goals as goal

pub returns : goal.returns
returns c =
    adds_block c.args.self.now (scoped_by c.args.scope.now c.args.block.now) c.has_unknown_column.result c.has_ambiguous_column.result c.has_nested_aggregate.result c.in_ok-self.field-0 c.in_ok-self-2.field-0 c.in_ok-self-3.field-0 c.has_long_list.result
    c.has_unknown_column.ensures c.has_ambiguous_column.ensures (c.has_nested_aggregate.ensures c.args.scope.now) c.in_ok-self.ensures c.in_ok-self-2.ensures c.in_ok-self-3.ensures c.has_long_list.ensures
