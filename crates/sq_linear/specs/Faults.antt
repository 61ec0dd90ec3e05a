-- The fault of a linear operator on a Z-set that stands for that of a row, and for that of a sum of weights.
use Rattle.sq_ops.specs.declared.fault.OpFault.{OpFault}
use Rattle.sq_ops.specs.declared.fault.OpFault.TheVariants as op
use Rattle.sq_zset.specs.declared.pair.ZFault.{ZFault}
use Rattle.sq_zset.specs.declared.pair.ZFault.TheVariants as zset
use Rattle.sq_linear.specs.declared.fault.LinearFault.{LinearFault}
use Rattle.sq_linear.specs.declared.fault.LinearFault.TheVariants as linear

abbrev pub of_row : OpFault → LinearFault
of_row (op.Value n) = linear.Value n
of_row op.Memory = linear.Memory

abbrev pub of_sum : ZFault → LinearFault
of_sum (zset.Weight n) = linear.Weight n
of_sum zset.Memory = linear.Memory
