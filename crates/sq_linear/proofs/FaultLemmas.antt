-- Which sum of weights a fault stands for.
use Rattle.std.proofs.Common.{◌≡◌, ℤ, ap}
use Rattle.sq_zset.specs.declared.pair.ZFault.{ZFault}
use Rattle.sq_zset.specs.declared.pair.ZFault.TheVariants as zset
use Rattle.sq_linear.specs.declared.fault.LinearFault.TheVariants as linear
use Rattle.sq_linear.specs.Faults.{of_sum}

same_sum : (m n : ℤ) → linear.Weight m ≡ linear.Weight n → m ≡ n
same_sum m n e = cc

pub sum_of : (fault : ZFault) (n : ℤ) → of_sum fault ≡ linear.Weight n → fault ≡ zset.Weight n
sum_of (zset.Weight m) n e = ap zset.Weight (same_sum m n e)
sum_of zset.Memory n e = absurd (cc e)
