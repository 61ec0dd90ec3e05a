-- Values by number: each is its step over all of them; the list of those below a number, and the least of some numbers.
use Rattle.std.proofs.Common.{◌≡◌, ℕ, zero, suc, ◌<◌, ◌≤◌, ◌==◌, min, true, false, cond, List, [], ◌∷◌, ◌++◌, length, Some, None, refl, sym, ap, subst, ◌∙◌, arith, length-append}
use Rattle.std.specs.Prelude.{Option, slice_get}
use mathlib.Core.Logic.{◌⊎◌, inl, inr}
use Rattle.std.proofs.lemmas.Bool.{cases_lt, eqb-true, eqb-false}
use Rattle.std.proofs.lemmas.Option.{same_Some}
use Rattle.sq_circuit.specs.Along.{ReadsEarlier, along, before, each_below, least_below, lesser}

-- ---- values
module _ {A : Type 0} (start : A) (step : ℕ → (ℕ → A) → A) where
  before_at : (n i : ℕ) → i < n → before start step n i ≡ along start step i
  unfolding before along
  before_at zero i low = absurd (omega arith)
  before_at (suc n) i low =
      elim (i == n) as (λ b. (i == n) ≡ b → cond b (step n (before start step n)) (before start step n i) ≡ step i (before start step i)) [
        | true ↦ λ is. let same : i ≡ n = eqb-true i n is in subst (λ k. step n (before start step n) ≡ step k (before start step k)) (sym same) refl
        | false ↦ λ not. let apart = eqb-false i n not in let less : i < n = omega arith in before_at n i less
      ] refl

  -- each value is its step over all values
  pub along_is : ReadsEarlier step → (n : ℕ) → along start step n ≡ step n (along start step)
  unfolding along
  along_is reads n = reads n (before start step n) (along start step) (λ i low. before_at n i low)

-- ---- the list of the values below a number
pub got_front : {A : Type 0} (xs ys : List A) (i : ℕ) → i < length xs → slice_get (xs ++ ys) i ≡ slice_get xs i
got_front [] ys i low = absurd (omega arith)
got_front (x ∷ xs) ys zero low = refl
got_front (x ∷ xs) ys (suc i) low = got_front xs ys i (omega arith)

pub got_next : {A : Type 0} (xs : List A) (x : A) (i : ℕ) → i ≡ length xs → slice_get (xs ++ x ∷ []) i ≡ Some x
got_next [] x zero is = refl
got_next [] x (suc i) is = absurd (omega arith)
got_next (y ∷ xs) x zero is = absurd (omega arith)
got_next (y ∷ xs) x (suc i) is = got_next xs x i (omega arith)

module _ {A : Type 0} (f : ℕ → A) where
  pub each-length : (n : ℕ) → length (each_below f n) ≡ n
  each-length zero = refl
  each-length (suc n) = let both = length-append (each_below f n) (f n ∷ []) in let rest = each-length n in omega arith

  pub each_at : (n i : ℕ) → i < n → slice_get (each_below f n) i ≡ Some (f i)
  each_at zero i low = absurd (omega arith)
  each_at (suc n) i low =
      let long = each-length n in
      elim (i == n) as (λ b. (i == n) ≡ b → slice_get (each_below f n ++ f n ∷ []) i ≡ Some (f i)) [
        | true ↦ λ is. let same : i ≡ n = eqb-true i n is in got_next (each_below f n) (f n) i (omega arith) ∙ ap (λ k. Some (f k)) (sym same)
        | false ↦ λ not. let apart = eqb-false i n not in let less : i < n = omega arith in got_front (each_below f n) (f n ∷ []) i (omega arith) ∙ each_at n i less
      ] refl

-- ---- the least of some numbers
pub record Found (f : ℕ → Option ℕ) (n v : ℕ) : Type 0 where
  pub place : ℕ
  pub low : place < n
  pub is : f place ≡ Some v

pub record Below (o : Option ℕ) (w : ℕ) : Type 0 where
  pub number : ℕ
  pub is : o ≡ Some number
  pub low : number ≤ w

further : (f : ℕ → Option ℕ) (n v : ℕ) → Found f n v → Found f (suc n) v
further f n v found = record { place = found.place; low = let low = found.low in omega arith; is = found.is }

-- a number that is the lesser of two that may be missing is one of them
lesser_from : (a b : Option ℕ) (v : ℕ) → lesser a b ≡ Some v → (a ≡ Some v) ⊎ (b ≡ Some v)
lesser_from None b v e = inr e
lesser_from (Some a) None v e = inl e
lesser_from (Some a) (Some b) v e = step (cases_lt a b)
  where
    is : min a b ≡ v
    is = same_Some (min a b) v e

    step : (a < b) ⊎ (b ≤ a) → (Some a ≡ Some v) ⊎ (Some b ≡ Some v)
    step (inl low) = inl (ap Some (let same = is in omega arith))
    step (inr low) = inr (ap Some (let same = is in omega arith))

lesser_left : (a b : Option ℕ) (w : ℕ) → Below a w → Below (lesser a b) w
lesser_left None b w low = absurd (let is = low.is in cc)
lesser_left (Some a) None w low = low
lesser_left (Some a) (Some b) w low = record { number = min a b; is = refl; low = let same = same_Some a low.number low.is in let less = low.low in omega arith }

lesser_right : (a b : Option ℕ) (w : ℕ) → Below b w → Below (lesser a b) w
lesser_right None b w low = low
lesser_right (Some a) None w low = absurd (let is = low.is in cc)
lesser_right (Some a) (Some b) w low = record { number = min a b; is = refl; low = let same = same_Some b low.number low.is in let less = low.low in omega arith }

-- the least of some numbers is one of them
pub least_found : (f : ℕ → Option ℕ) (n v : ℕ) → least_below f n ≡ Some v → Found f n v
least_found f zero v e = absurd (cc e)
least_found f (suc n) v e = step (lesser_from (least_below f n) (f n) v e) (least_found f n v)
  where
    step : (least_below f n ≡ Some v) ⊎ (f n ≡ Some v) → (least_below f n ≡ Some v → Found f n v) → Found f (suc n) v
    step (inl before) rest = further f n v (rest before)
    step (inr last) rest = record { place = n; low = omega arith; is = last }

-- and none of them is below it
pub least_bound : (f : ℕ → Option ℕ) (n i w : ℕ) → i < n → f i ≡ Some w → Below (least_below f n) w
least_bound f zero i w low is = absurd (omega arith)
least_bound f (suc n) i w low is =
    elim (i == n) as (λ b. (i == n) ≡ b → Below (lesser (least_below f n) (f n)) w) [
      | true ↦ λ e. let same : i ≡ n = eqb-true i n e in lesser_right (least_below f n) (f n) w (record { number = w; is = ap f (sym same) ∙ is; low = omega arith })
      | false ↦ λ e. let apart = eqb-false i n e in let less : i < n = omega arith in lesser_left (least_below f n) (f n) w (least_bound f n i w less is)
    ] refl

-- two families of numbers have the same least one, if each number of one is one of the other, and each of the other is not below one of the first
module _ (f g : ℕ → Option ℕ) (n : ℕ) (within : (i v : ℕ) → i < n → f i ≡ Some v → g i ≡ Some v)
    (reached : (i w : ℕ) → i < n → g i ≡ Some w → Below (least_below f n) w) where
  agree : (a b : Option ℕ) → least_below f n ≡ a → least_below g n ≡ b → a ≡ b
  agree None None p q = refl
  agree None (Some w) p q =
      let found = least_found g n w q in
      let low = reached found.place w found.low found.is in
      absurd (let is = low.is in cc)
  agree (Some v) None p q =
      let found = least_found f n v p in
      let low = least_bound g n found.place v found.low (within found.place v found.low found.is) in
      absurd (let is = low.is in cc)
  agree (Some v) (Some w) p q =
      let there = least_found f n v p in
      let left = least_bound g n there.place v there.low (within there.place v there.low there.is) in
      let found = least_found g n w q in
      let right = reached found.place w found.low found.is in
      let a : left.number ≡ w = same_Some left.number w (sym left.is ∙ q) in
      let b : right.number ≡ v = same_Some right.number v (sym right.is ∙ p) in
      let l = left.low in
      let r = right.low in
      ap Some (omega arith)

  pub least_agree : least_below f n ≡ least_below g n
  least_agree = agree (least_below f n) (least_below g n) refl refl

-- ---- two families of steps that agree below a number
module _ {A : Type 0} (start : A) (f g : ℕ → (ℕ → A) → A) (n : ℕ) (same : (i : ℕ) (below : ℕ → A) → i < n → f i below ≡ g i below) where
  before_same : (m : ℕ) → m ≤ n → before start f m ≡ before start g m
  unfolding before
  before_same zero low = refl
  before_same (suc m) low =
      let rest : before start f m ≡ before start g m = before_same m (omega arith) in
      let last : f m (before start f m) ≡ g m (before start g m) = same m (before start f m) (omega arith) ∙ ap (g m) rest in
      λ d i. cond (i == m) (last d) (rest d i)

  pub along_same : (i : ℕ) → i < n → along start f i ≡ along start g i
  unfolding along
  along_same i low = same i (before start f i) low ∙ ap (g i) (before_same i (omega arith))
