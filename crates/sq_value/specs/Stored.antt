-- The values of a row, wherever they stand. No public clause cites this module.
use Rattle.std.specs.Prelude.{List}
use Rattle.std.specs.Arc.{arc_value}
use Rattle.sq_value.specs.declared.value.Value.{Value}
use Rattle.sq_value.specs.declared.row.Store.{Store}
use Rattle.sq_value.specs.declared.row.Store.TheVariants.{One, Two, Three, Owned, Shared}

abbrev pub stored : Store → List Value
stored (One one) = one
stored (Two two) = two
stored (Three three) = three
stored (Owned values) = values.items
stored (Shared values) = (arc_value values).items
