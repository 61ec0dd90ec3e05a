-- Z-sets whose keys all pass a test.
--     all_pass p z      whether each key that z has passes p
--     PairsPass p r q f      what f gives for two keys that pass p and r passes q
use Rattle.std.specs.Prelude.{Bool, List, IsTrue}
use Rattle.std.specs.List.{list_all}
use Rattle.std.specs.declared.cmp.Ordering.{Ordering}
use Rattle.sq_algebra.specs.ZSet.{ZSet, entries}

abbrev pub all_pass : {K : Type 0} {R : K → K → Ordering} → (K → Bool) → ZSet K R → Bool
all_pass p z = list_all (λ e. p e.0) (entries z)

abbrev pub PairsPass : {J K L : Type 0} → (J → Bool) → (K → Bool) → (L → Bool) → (J → K → List L) → Type 0
PairsPass {J = J} {K = K} p r q f = (j : J) (k : K) → IsTrue (p j) → IsTrue (r k) → IsTrue (list_all q (f j k))
