use Rattle.std.proofs.Common.{◌≡◌, map, take}
use Rattle.serde_json.specs.View.{view}
use Rattle.sq_lines.specs.Cells.{cell}
use Rattle.sq_lines.proofs.cells.cells.Given as goal

-- the cells so far
abbrev pub invariant-loop-column : goal.invariant-loop-column
invariant-loop-column l = l.cells.items ≡ map (cell (view l.row)) (take l.column-index l.columns)
