-- Why a query is not listed.
use Rattle.std.specs.Prelude.{◌≡◌, Bool, true, ⊤}
use Rattle.sq_expr.specs.declared.value.ItemFault.{ItemFault}
use Rattle.sq_expr.specs.declared.value.ItemFault.TheVariants as item
use Rattle.sq_lists.specs.declared.stop.Stop.{Stop}
use Rattle.sq_lists.specs.declared.stop.Stop.TheVariants.{Range, Memory}

-- a stop for range comes only where a test of it is passed; running out of memory comes freely
abbrev pub Stopped : Stop → Bool → Type 0
Stopped Range outside = outside ≡ true
Stopped Memory outside = ⊤

-- what the refusal of an item is to a query
abbrev pub stop_of : ItemFault → Stop
stop_of (item.Value n) = Range
stop_of item.Memory = Memory
