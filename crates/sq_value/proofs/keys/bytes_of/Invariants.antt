use Rattle.std.proofs.Common.{◌≡◌, take}
use Rattle.std.specs.List.{flat_map}
use Rattle.sq_value.specs.KeyBytes.{value_key}
use Rattle.sq_value.proofs.keys.bytes_of.Given as goal

abbrev pub invariant-loop-value : goal.invariant-loop-value
invariant-loop-value l = l.bytes.items ≡ flat_map value_key (take l.value-index l.values)
