-- What an operator answers where an item of a row is refused.
use Rattle.sq_expr.specs.declared.value.ItemFault.{ItemFault}
use Rattle.sq_expr.specs.declared.value.ItemFault.TheVariants as item
use Rattle.sq_ops.specs.declared.fault.OpFault.{OpFault}
use Rattle.sq_ops.specs.declared.fault.OpFault.TheVariants as op

-- the same fault
abbrev pub fault_of : ItemFault → OpFault
fault_of (item.Value n) = op.Value n
fault_of item.Memory = op.Memory
