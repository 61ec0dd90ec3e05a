-- A sink that is handed a text takes a prefix of it.
use Rattle.std.specs.Prelude.{OnOk, OnErr}
use Rattle.std.specs.declared.result.Result.{Result}
use Rattle.std.specs.declared.result.Result.TheVariants.{Ok, Err}
use Rattle.std.proofs.Common.{ℕ, ◌≤◌, List, length, take, Option, sym, subst}
use Rattle.std.proofs.Math.Seq.{take-length}
use Rattle.std.specs.Io.KnownBytes.{Appends}
use Rattle.sq_top.specs.Prefixes.{TakesPrefix}

pub prefix_taken : {T E : Type 0} (r : Result T E) (taken now : Option (List ℕ)) (text : List ℕ) → OnOk r (Appends taken now text)
    → OnErr r ((n : ℕ) × (n ≤ length text) × Appends taken now (take n text)) → TakesPrefix taken now text
prefix_taken (Ok v) taken now text all front = (length text, subst (Appends taken now) (sym (take-length text)) all)
prefix_taken (Err e) taken now text all front = (front.0, front.2)
