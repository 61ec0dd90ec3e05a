-- What the first place that passes a test says of the list.
use Rattle.std.proofs.Common.{◌≡◌, ℕ, ◌<◌, ◌≤◌, List, length, get_or, Bool, false, None, arith}
use Rattle.std.specs.List.{position, position_or_len}
use Rattle.std.proofs.lemmas.List.Sums.{fails_before_first}
use Rattle.std.proofs.lemmas.Grind.{common_steps}

pub position-None : {X : Type 0} (p : X → Bool) (xs : List X) (d : X) → position p xs ≡ None
    → (k : ℕ) → k < length xs → p (get_or xs k d) ≡ false
position-None p xs d e =
    let at : length xs ≤ position_or_len p xs = grind (arith, common_steps) in
    λ k lt. fails_before_first p xs k d (omega arith)
