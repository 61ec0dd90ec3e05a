use Rattle.std.proofs.Common.{◌≡◌, ◌≤◌, ◌++◌, drop}
use Rattle.sq_print.specs.Texts.{views_text}
use Rattle.sq_print.proofs.blocks.push_views.Given as goal

abbrev pub invariant-loop-i : goal.invariant-loop-i
invariant-loop-i l = (l.out.items ++ views_text (drop l.i l.catalog) (drop l.view l.changes) ≡ l.fn.out.items ++ views_text l.catalog l.changes) × (l.view ≤ l.i)
