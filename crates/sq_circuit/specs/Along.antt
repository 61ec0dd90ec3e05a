-- Values by number, each made from those of earlier numbers.
--     before start step n     the values of the numbers below n, and `start` at others
--     along start step n      the value of the number n: the step at n, over the values before it
--     ReadsEarlier step       at each number the step reads the values of earlier numbers alone
--     each_below f n          what f gives for the numbers below n, in order
--     lesser, least_below     the lesser of two numbers that may be missing, and the least of those below n
use Rattle.std.specs.Prelude.{◌≡◌, ℕ, zero, suc, ◌<◌, ◌==◌, min, if◌then◌else◌, List, [], ◌∷◌, ◌++◌, Option, Some, None}

module _ {A : Type 0} (start : A) (step : ℕ → (ℕ → A) → A) where
  unfoldable pub before : ℕ → ℕ → A
  before zero i = start
  before (suc n) i = if i == n then step n (before n) else before n i

  unfoldable pub along : ℕ → A
  along n = step n (before n)

abbrev pub ReadsEarlier : {A : Type 0} → (ℕ → (ℕ → A) → A) → Type 0
ReadsEarlier {A} step = (n : ℕ) (f g : ℕ → A) → ((i : ℕ) → i < n → f i ≡ g i) → step n f ≡ step n g

abbrev pub each_below : {A : Type 0} → (ℕ → A) → ℕ → List A
each_below f zero = []
each_below f (suc n) = each_below f n ++ f n ∷ []

abbrev pub lesser : Option ℕ → Option ℕ → Option ℕ
lesser None b = b
lesser (Some a) None = Some a
lesser (Some a) (Some b) = Some (min a b)

abbrev pub least_below : (ℕ → Option ℕ) → ℕ → Option ℕ
least_below f zero = None
least_below f (suc n) = lesser (least_below f n) (f n)
