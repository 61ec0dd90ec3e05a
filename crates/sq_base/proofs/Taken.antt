-- What a sink took in several calls.
use Rattle.std.proofs.Common.{◌≡◌, ℕ, ◌+◌, ◌-◌, Option, List, ◌++◌, length, take, drop, sym, ap, ◌∙◌, subst}
use Rattle.std.proofs.Math.Seq.{take-add}
use Rattle.std.proofs.lemmas.List.{take_rest}
use Rattle.std.proofs.KnownBytes.{Appends-trans}
use Rattle.std.specs.Io.KnownBytes.{Appends}

-- the first n bytes, and then m of the rest, are the first n + m
pub Appends-more : (a b c : Option (List ℕ)) (bytes : List ℕ) (n m : ℕ) → Appends a b (take n bytes)
    → Appends b c (take m (take (length bytes - n) (drop n bytes))) → Appends a c (take (n + m) bytes)
Appends-more a b c bytes n m first more =
    let rest : take m (take (length bytes - n) (drop n bytes)) ≡ take m (drop n bytes) = ap (take m) (take_rest bytes n) in
    let joined : take n bytes ++ take m (take (length bytes - n) (drop n bytes)) ≡ take (n + m) bytes =
    ap (λ l. take n bytes ++ l) rest ∙ sym (take-add n m bytes) in
    subst (Appends a c) joined (Appends-trans a b c _ _ first more)
