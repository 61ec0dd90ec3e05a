-- Places in lists, and what a loop makes of one more member.
use Rattle.std.proofs.Common.{◌≡◌, ◌<◌, ℕ, zero, suc, ◌+◌, Bool, true, false, not, cond, ◌||◌, nat_lt, List, [], ◌∷◌, ◌++◌, length, get_or, take, refl, ap, sym, ◌∙◌, arith}
use Rattle.std.specs.Prelude.{Option, Some, None, position, is_none, option_map}
use Rattle.std.specs.Option.{option_or}
use Rattle.std.specs.List.{flat_map, list_any, position_or_len}
use Rattle.std.proofs.lemmas.Bool.Decides.{nat_tests}
use Rattle.std.proofs.lemmas.Grind.{flat_map-append}
use Rattle.std.proofs.lemmas.List.{take_more}
use Rattle.sq_scope.proofs.TypesTrees.{append_empty}

-- ---- the first place that passes

zero_below : (n : ℕ) → nat_lt 0 (suc n) ≡ true
zero_below n = grind (arith, nat_tests)

both_below : (n m : ℕ) → nat_lt (1 + n) (suc m) ≡ nat_lt n m
both_below n m = grind (arith, nat_tests)

one_more : (n : ℕ) → 1 + n ≡ suc n
one_more n = omega arith

counted_more : (n : ℕ) (b : Bool) → cond b (Some (1 + n)) None ≡ option_map suc (cond b (Some n) None)
counted_more n true = ap Some (one_more n)
counted_more n false = refl

pub position_cons : {A : Type 0} (p : A → Bool) (x : A) (xs : List A) → position p (x ∷ xs) ≡ cond (p x) (Some 0) (option_map suc (position p xs))
position_cons p x xs =
    elim (p x) as (λ b. cond (nat_lt (cond (not b) (1 + position_or_len p xs) 0) (suc (length xs))) (Some (cond (not b) (1 + position_or_len p xs) 0)) None ≡ cond b (Some 0) (option_map suc (position p xs))) [
      | true ↦ ap (λ b. cond b (Some 0) None) (zero_below (length xs))
      | false ↦ ap (λ b. cond b (Some (1 + position_or_len p xs)) None) (both_below (position_or_len p xs) (length xs)) ∙ counted_more (position_or_len p xs) (nat_lt (position_or_len p xs) (length xs))
    ]

-- none passes where there is no first place
pub none_at : {A : Type 0} (p : A → Bool) (xs : List A) → is_none (position p xs) ≡ not (list_any p xs)
none_at p [] = refl
none_at p (x ∷ xs) =
    ap is_none (position_cons p x xs)
    ∙ elim (p x) as (λ b. is_none (cond b (Some 0) (option_map suc (position p xs))) ≡ not (b || list_any p xs)) [ true ↦ refl | false ↦ mapped (position p xs) ∙ none_at p xs ]
  where
    mapped : (o : Option ℕ) → is_none (option_map suc o) ≡ is_none o
    mapped None = refl
    mapped (Some n) = refl

-- a member behind the others
pub position_push : {A : Type 0} (p : A → Bool) (xs : List A) (x : A) → position p (xs ++ x ∷ []) ≡ option_or (position p xs) (cond (p x) (Some (length xs)) None)
position_push p [] x = position_cons p x []
position_push p (y ∷ xs) x =
    position_cons p y (xs ++ x ∷ [])
    ∙ (ap (λ o. cond (p y) (Some 0) (option_map suc o)) (position_push p xs x)
    ∙ (elim (p y) as (λ b. cond b (Some 0) (option_map suc (option_or (position p xs) (cond (p x) (Some (length xs)) None))) ≡ option_or (cond b (Some 0) (option_map suc (position p xs))) (cond (p x) (Some (suc (length xs))) None)) [
      | true ↦ refl
      | false ↦ elim (position p xs) as (λ o. option_map suc (option_or o (cond (p x) (Some (length xs)) None)) ≡ option_or (option_map suc o) (cond (p x) (Some (suc (length xs))) None)) [
        | None ↦ elim (p x) as (λ b. option_map suc (cond b (Some (length xs)) None) ≡ cond b (Some (suc (length xs))) None) [ true ↦ refl | false ↦ refl ]
        | Some n ↦ refl
      ]
    ]
    ∙ ap (λ o. option_or o (cond (p x) (Some (suc (length xs))) None)) (sym (position_cons p y xs))))

pub left_false : (a b : Bool) → (a || b) ≡ false → a ≡ false
left_false true b e = e
left_false false b e = refl

pub right_false : (a b : Bool) → (a || b) ≡ false → b ≡ false
right_false true b e = absurd (cc e)
right_false false b e = e

-- where a loop finds the first
pub position_here : {A : Type 0} (p : A → Bool) (xs : List A) (i : ℕ) (x : A) → list_any p (take i xs) ≡ false → i < length xs → p x ≡ true → x ≡ get_or xs i x → position p xs ≡ Some i
position_here p [] i x before below passes is = absurd (omega arith)
position_here p (y ∷ xs) zero x before below passes is = position_cons p y xs ∙ ap (λ b. cond b (Some 0) (option_map suc (position p xs))) (ap p (sym is) ∙ passes)
position_here p (y ∷ xs) (suc i) x before below passes is =
    position_cons p y xs
    ∙ (ap (λ b. cond b (Some 0) (option_map suc (position p xs))) (left_false (p y) (list_any p (take i xs)) before)
    ∙ ap (option_map suc) (position_here p xs i x (right_false (p y) (list_any p (take i xs)) before) (omega arith) passes is))

pub position_nowhere : {A : Type 0} (p : A → Bool) (xs : List A) → list_any p xs ≡ false → position p xs ≡ None
position_nowhere p xs none = elim (position p xs) as (λ o. is_none o ≡ not (list_any p xs) → o ≡ None) [ None ↦ λ e. refl | Some n ↦ λ e. absurd (cc (e, none)) ] (none_at p xs)

-- ---- one more member

pub flat_more : {A B : Type 0} (f : A → List B) (xs : List A) (i : ℕ) (d : A) → i < length xs → flat_map f (take (i + 1) xs) ≡ flat_map f (take i xs) ++ f (get_or xs i d)
flat_more f xs i d below = ap (flat_map f) (take_more xs i d below) ∙ (flat_map-append f (take i xs) (get_or xs i d ∷ []) ∙ ap (λ ys. flat_map f (take i xs) ++ ys) (append_empty (f (get_or xs i d))))
