-- Places of rows, kept by the keys of their groups.
use Rattle.std.specs.Prelude.{ℕ, List}
use Rattle.std.specs.BTreeMap.{BTreeMap, get}
use Rattle.std.specs.Global.{Vec}
use Rattle.sq_value.specs.declared.value.Value.{Value}
use Rattle.sq_value.specs.Order.{row_cmp}
use Rattle.sq_ops.specs.Indexes.{places_in}

-- the places of a key
abbrev pub places_of : BTreeMap (List Value) (Vec ℕ) → List Value → List ℕ
places_of groups key = places_in (get row_cmp groups key)
