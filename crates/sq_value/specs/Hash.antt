-- What the hash of a value feeds a hasher: its place in the order of kinds, and then its content.
use Rattle.std.specs.Prelude.{◌++◌}
use Rattle.std.specs.Hash.{HashWrites, u8, i64, str}
use Rattle.sq_value.specs.declared.value.Value.{Value}
use Rattle.sq_value.specs.declared.value.Value.TheVariants.{Null, Int, Text}

abbrev pub value_writes : Value → HashWrites
value_writes Null = u8 0
value_writes (Int x) = u8 1 ++ i64 x
value_writes (Text t) = u8 2 ++ str t
