use Rattle.std.proofs.Common.{◌≡◌, ◌++◌, drop, map}
use Rattle.sq_bridge.specs.Rows.{listed}
use Rattle.sq_compile.specs.Relations.{empty_tables}
use Rattle.sq_compile.proofs.relations.empty_tables.Given as goal

abbrev pub invariant-loop-i : goal.invariant-loop-i
invariant-loop-i l = l.tables.items ++ map listed (empty_tables (drop l.i l.catalog)) ≡ map listed (empty_tables l.catalog)
