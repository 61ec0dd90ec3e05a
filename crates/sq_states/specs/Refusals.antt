-- What a step answers where an operator refuses.
use Rattle.sq_linear.specs.declared.fault.LinearFault.{LinearFault}
use Rattle.sq_linear.specs.declared.fault.LinearFault.TheVariants as linear
use Rattle.sq_ops.specs.declared.whole.WholeFault.{WholeFault}
use Rattle.sq_ops.specs.declared.whole.WholeFault.TheVariants as whole
use Rattle.sq_zset.specs.declared.pair.ZFault.{ZFault}
use Rattle.sq_zset.specs.declared.pair.ZFault.TheVariants as zset
use Rattle.sq_states.specs.declared.piece.NodeFault.TheVariants as fault
use Rattle.sq_states.specs.declared.piece.StepRefusal.{StepRefusal}
use Rattle.sq_states.specs.declared.piece.StepRefusal.TheVariants as refusal

abbrev pub of_sum : ZFault → StepRefusal
of_sum (zset.Weight sum) = refusal.Fault (fault.Weight sum)
of_sum zset.Memory = refusal.Memory

abbrev pub of_linear : LinearFault → StepRefusal
of_linear (linear.Value value) = refusal.Fault (fault.Value value)
of_linear (linear.Weight sum) = refusal.Fault (fault.Weight sum)
of_linear linear.Memory = refusal.Memory

abbrev pub of_whole : WholeFault → StepRefusal
of_whole (whole.Sum group sum) = refusal.Fault (fault.Sum sum)
of_whole whole.Memory = refusal.Memory
