use Rattle.std.proofs.Common.{arith, true}
use Rattle.sq_expr.specs.declared.expr.Expr.TheVariants.{Column}
use Rattle.sq_expr.proofs.ShiftSteps.{room_of_column, room_of_null}
use Rattle.sq_tests_values.proofs.expressions.shifted_conditions_test_further_on.Goals as goal

pub shifted-requires : goal.shifted-requires
shifted-requires g c = record { room = room_of_null 2 (Column 1) true (room_of_column 2 1 (omega arith)) }
