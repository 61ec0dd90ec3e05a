use Rattle.std.proofs.Common.{◌≡◌, drop}
use Rattle.sq_compile.specs.Relations.{view_name}
use Rattle.sq_compile.proofs.relations.view_name.Given as goal

abbrev pub invariant-loop-i : goal.invariant-loop-i
invariant-loop-i l = view_name (drop l.i l.catalog) l.left ≡ view_name l.catalog l.view
