use Rattle.std.proofs.Common.{ap, sym, ◌∙◌}
use Rattle.sq_compile.proofs.EmptyTables.{tables_passed, tables_skipped}
use Rattle.sq_compile.proofs.relations.empty_tables.Goals.{then-is_table+in_ok-push, else-is_table}
use Rattle.sq_compile.proofs.relations.empty_tables.Goals as goal

pub loop-i-preserved : goal.loop-i-preserved
loop-i-preserved c = elim c.if-is_table.branch [
  | then-is_table+in_ok-push w ↦
      tables_passed c.args.catalog.now c.loop-i.i c.at.result.now c.loop-i.tables.items c.if-is_table.tables.items w.empty.result c.loop-i.invariant c.at.ensures
      (sym c.is_table.ensures ∙ w.if-is_table.true) w.empty.ensures (ap (λ (v : _). v.items) w.tables-is ∙ w.in_ok-push.ensures.items)
  | else-is_table w ↦
      tables_skipped c.args.catalog.now c.loop-i.i c.at.result.now c.loop-i.tables.items c.if-is_table.tables.items c.loop-i.invariant c.at.ensures
      (sym c.is_table.ensures ∙ w.if-is_table.false) (ap (λ (v : _). v.items) w.tables-is)
]
