use Rattle.std.proofs.Common.{◌≡◌, ◌≤◌, drop}
use Rattle.sq_lines.specs.Tables.{table_named}
use Rattle.sq_lines.proofs.TableLemmas.{ahead}
use Rattle.sq_lines.proofs.table.table_named.Given as goal

-- what is ahead is what is looked for
abbrev pub invariant-loop-i : goal.invariant-loop-i
invariant-loop-i l = (ahead l.name l.number (drop l.i l.catalog) ≡ table_named l.name l.catalog) × (l.number ≤ l.i)
