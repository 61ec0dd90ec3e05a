use Rattle.std.proofs.Common.{drop}
use Rattle.std.specs.Prelude.{◌↔◌}
use Rattle.sq_expr.specs.Kinds.{AreOfKinds}
use Rattle.sq_expr.proofs.typing.is_of_kinds.Given as goal

-- it turns on the values from here on
abbrev pub invariant-loop-i : goal.invariant-loop-i
invariant-loop-i l = AreOfKinds (drop l.i l.row) (drop l.i l.kinds) ↔ AreOfKinds l.row l.kinds
