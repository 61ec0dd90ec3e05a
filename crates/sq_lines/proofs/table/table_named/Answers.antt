use Rattle.std.proofs.Common.{◌+◌, ◌∙◌, ap, sym, bytes_eq, drop, arith}
use Rattle.sq_lines.proofs.TableLemmas.{ahead, table_met, table_passed, view_passed}
use Rattle.sq_lines.proofs.table.table_named.Goals as goal
use Rattle.sq_lines.proofs.table.table_named.Goals.{then-is_table+else-eq, else-is_table}

pub returns-then-eq : goal.returns-then-eq
returns-then-eq c = table_met c.args.name.now c.loop-i.number c.loop-i.i c.args.catalog.now c.at-relation.result.now _ c.at-relation.ensures c.loop-i.invariant.0 (sym c.is_table.ensures ∙ c.if-is_table.true) (ap (bytes_eq c.args.name.now) (sym c.as_str.ensures) ∙ (sym c.eq.ensures ∙ c.if-eq.true))

pub loop-i-preserved : goal.loop-i-preserved
loop-i-preserved c = elim c.if-is_table.branch [
  | then-is_table+else-eq w ↦ (
    ap (λ n. ahead c.args.name.now n (drop (c.loop-i.i + 1) c.args.catalog.now)) w.number-is
        ∙ table_passed c.args.name.now c.loop-i.number c.loop-i.i c.args.catalog.now c.at-relation.result.now _ c.at-relation.ensures c.loop-i.invariant.0 (sym c.is_table.ensures ∙ w.if-is_table.true) (ap (bytes_eq c.args.name.now) (sym w.as_str.ensures) ∙ (sym w.eq.ensures ∙ w.if-eq.false)),
    (let one = w.number-is in let below = c.loop-i.invariant.1 in omega arith),
  )
  | else-is_table w ↦ (
    ap (λ n. ahead c.args.name.now n (drop (c.loop-i.i + 1) c.args.catalog.now)) w.number-is
        ∙ view_passed c.args.name.now c.loop-i.number c.loop-i.i c.args.catalog.now c.at-relation.result.now _ c.at-relation.ensures c.loop-i.invariant.0 (sym c.is_table.ensures ∙ w.if-is_table.false),
    (let same = w.number-is in let below = c.loop-i.invariant.1 in omega arith),
  )
]
