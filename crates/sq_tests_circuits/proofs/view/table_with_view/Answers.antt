-- The parts are a table and a view of it.
use Rattle.std.proofs.Common.{◌∷◌, []}
use Rattle.sq_expr.specs.declared.expr.Kind.TheVariants.{Integer}
use Rattle.sq_circuit.proofs.Smallest.{table_and_view_is}
use Rattle.sq_tests_circuits.proofs.view.table_with_view.Goals as goal

pub of-requires : goal.of-requires
of-requires c =
    rw (c.in_ok-push-2.ensures.items, c.in_ok-push.ensures.items, c.new-parts.ensures.items, c.in_ok-table.ensures, c.in_ok-view.ensures) (table_and_view_is (Integer ∷ []))
