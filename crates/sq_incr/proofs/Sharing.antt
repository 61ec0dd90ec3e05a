-- The numbers of n shards: what holds of each number below n holds of all of them.
use Rattle.std.proofs.Common.{◌≡◌, ℕ, zero, suc, ◌<◌, ◌≤◌, Bool, true, List, [], ◌∷◌, ◌++◌, length, length-append, refl, ap₂, subst, arith, ◌&&◌, ◌∙◌}
use mathlib.Core.Logic.{◌⊎◌, inl, inr}
use Rattle.std.specs.Prelude.{pred}
use Rattle.std.specs.List.{All, AllByRecursion, list_all}
use Rattle.std.proofs.lemmas.Bool.{and_from, and_parts, cases_lt}
use Rattle.std.proofs.lemmas.List.{get_or_append_left, get_or_push}
use Rattle.std.proofs.lemmas.List.Elements.{All-from_recursion, All-nil, All-push, recursion_from_All}
use Rattle.sq_algebra.specs.Keyed.{numbers_below}
use Rattle.sq_shard.specs.Shards.{shards}

pub each_below : (P : ℕ → Type 0) (n : ℕ) → ((s : ℕ) → s < n → P s) → All P (numbers_below n)
each_below P zero h = All-nil P
each_below P (suc n) h = All-push P (numbers_below n) n (each_below P n (λ s low. h s (omega arith))) (h n (omega arith))

pub each_shard : (P : ℕ → Type 0) (n : ℕ) → 0 < n → ((s : ℕ) → s < n → P s) → All P (shards n).numbers
each_shard P n above h = each_below P (suc (pred n)) (λ s low. h s (omega (arith, above, low)))

-- and the other way round
pub at_each : (P : ℕ → Type 0) (n : ℕ) → All P (numbers_below n) → (s : ℕ) → s < n → P s
at_each P zero h s low = absurd (omega arith)
at_each P (suc n) h s low = step (at_each P n (λ k d within. subst P (get_or_append_left (numbers_below n) (n ∷ []) d k within) (h k d (longer within)))) (cases_lt s n)
  where
    longer : {k : ℕ} → k < length (numbers_below n) → k < length (numbers_below n ++ n ∷ [])
    longer within = let both = length-append (numbers_below n) (n ∷ []) in omega arith

    step : ((k : ℕ) → k < n → P k) → (s < n) ⊎ (n ≤ s) → P s
    step rest (inl less) = rest s less
    step rest (inr high) =
        let last : n ≡ s = omega arith in
        subst P (get_or_push (numbers_below n) n n (length (numbers_below n)) refl ∙ last) (h (length (numbers_below n)) n (let both = length-append (numbers_below n) (n ∷ []) in omega arith))

pub at_shard : (P : ℕ → Type 0) (n : ℕ) → 0 < n → All P (shards n).numbers → (s : ℕ) → s < n → P s
at_shard P n above h s low = at_each P (suc (pred n)) h s (omega (arith, above, low))

-- ---- tests of all members
module _ {X : Type 0} where
  same_tests : (p q : X → Bool) (xs : List X) → AllByRecursion (λ x. p x ≡ q x) xs → list_all p xs ≡ list_all q xs
  same_tests p q [] h = refl
  same_tests p q (x ∷ xs) h = ap₂ (λ a b. a && b) h.0 (same_tests p q xs h.1)

  pub all_same : (p q : X → Bool) (xs : List X) → All (λ x. p x ≡ q x) xs → list_all p xs ≡ list_all q xs
  all_same p q xs h = same_tests p q xs (recursion_from_All (λ x. p x ≡ q x) xs h)

  each_passes : (p : X → Bool) (xs : List X) → list_all p xs ≡ true → AllByRecursion (λ x. p x ≡ true) xs
  each_passes p [] h = tt
  each_passes p (x ∷ xs) h = let both = and_parts (p x) (list_all p xs) h in (both.0, each_passes p xs both.1)

  passes_each : (p : X → Bool) (xs : List X) → AllByRecursion (λ x. p x ≡ true) xs → list_all p xs ≡ true
  passes_each p [] h = refl
  passes_each p (x ∷ xs) h = and_from (p x) (list_all p xs) h.0 (passes_each p xs h.1)

  pub pass_all : (p : X → Bool) (xs : List X) → All (λ x. p x ≡ true) xs → list_all p xs ≡ true
  pass_all p xs h = passes_each p xs (recursion_from_All (λ x. p x ≡ true) xs h)

  pub all_pass : (p : X → Bool) (xs : List X) → list_all p xs ≡ true → All (λ x. p x ≡ true) xs
  all_pass p xs h = All-from_recursion (λ x. p x ≡ true) xs (each_passes p xs h)
