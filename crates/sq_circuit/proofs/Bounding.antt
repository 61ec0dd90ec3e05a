-- The weights of a sound node lie in the range of a weight.
use Rattle.std.proofs.Common.{◌≡◌, ℕ, ◌≤◌, ◌^◌, Bool, true, false, List, refl, arith}
use borrow.Author.Differences.{ints}
use Rattle.sq_algebra.specs.ZSet.{entries}
use Rattle.sq_zset.specs.Collecting.{mass_of}
use Rattle.sq_zset.specs.Range.{IsInRange}
use Rattle.sq_zset.proofs.Masses.{mass-in_range, mass-total}
use Rattle.sq_circuit.specs.Invariant.{IsBounded, IsListed}
use Rattle.sq_circuit.specs.Nodes.{Rows}
use Rattle.sq_circuit.specs.declared.circuit.Part.{Part}

-- a list of rows has few
pub listed_few : (z : Rows) → IsListed z → mass_of (entries z) ≤ 2 ^ 61
listed_few z h = let same = mass-total z h.above in let few = h.few in omega (arith, ints)

pub bounded_in_range : (c : List Part) (i : ℕ) (p : Part) (z : Rows) → IsBounded c i p z → IsInRange z
bounded_in_range c i p z h = step p.place refl
  where
    step : (b : Bool) → p.place ≡ b → IsInRange z
    step true e = let few = listed_few z (h.place e) in mass-in_range z (omega arith)
    step false e = mass-in_range z (h.few e)
