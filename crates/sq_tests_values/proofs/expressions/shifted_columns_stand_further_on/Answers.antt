use Rattle.std.proofs.Common.{arith}
use Rattle.sq_expr.proofs.ShiftSteps.{room_of_column}
use Rattle.sq_tests_values.proofs.expressions.shifted_columns_stand_further_on.Goals as goal

pub shifted-requires : goal.shifted-requires
shifted-requires g c = record { room = room_of_column 2 1 (omega arith) }
