-- Laws of sums of whole numbers over a list.
use Rattle.std.proofs.Common.{◌≡◌, ℕ, ◌+◌, List, [], ◌∷◌, ◌++◌, map, ℤ, pos, ◌+ℤ◌, neg_ℤ, length, sum_by, IsPermutation, refl, ap, arith, ◌<◌, zero, suc, take, get_or, add-one}
use Rattle.std.proofs.lemmas.List.Sums.{sum_by-cons}
use Rattle.std.proofs.lemmas.List.Sorted.{sum_by-IsPermutation}
use borrow.Author.Differences.{ints, up, down, sum_is_lem}
use Rattle.sq_algebra.specs.ZSet.{int_sum_by}

pub int_sum_by-append : {X : Type 0} (f : X → ℤ) (xs ys : List X) → int_sum_by f (xs ++ ys) ≡ int_sum_by f xs +ℤ int_sum_by f ys
int_sum_by-append f [] ys = omega (arith, ints)
int_sum_by-append f (x ∷ xs) ys = let rest = int_sum_by-append f xs ys in omega (arith, ints)

pub int_sum_by-map : {X Y : Type 0} (f : Y → ℤ) (g : X → Y) (xs : List X) → int_sum_by f (map g xs) ≡ int_sum_by (λ x. f (g x)) xs
int_sum_by-map f g [] = refl
int_sum_by-map f g (x ∷ xs) = ap (λ n. f (g x) +ℤ n) (int_sum_by-map f g xs)

-- two functions that agree have the same sum
pub int_sum_by_agree : {X : Type 0} (f g : X → ℤ) → ((x : X) → f x ≡ g x) → (xs : List X) → int_sum_by f xs ≡ int_sum_by g xs
int_sum_by_agree f g same [] = refl
int_sum_by_agree f g same (x ∷ xs) = λ i. same x i +ℤ int_sum_by_agree f g same xs i

pub int_sum_by-negate : {X : Type 0} (f : X → ℤ) (xs : List X) → int_sum_by (λ x. neg_ℤ (f x)) xs ≡ neg_ℤ (int_sum_by f xs)
int_sum_by-negate f [] = refl
int_sum_by-negate f (x ∷ xs) = let rest = int_sum_by-negate f xs in omega (arith, ints)

pub int_sum_by_one : {X : Type 0} (xs : List X) → int_sum_by (λ _. pos 1) xs ≡ pos (length xs)
int_sum_by_one [] = refl
int_sum_by_one (x ∷ xs) = let rest = int_sum_by_one xs in omega (arith, ints)

-- the sum, as the difference of the sums of the positive and of the negative parts
int_sum_by_is : {X : Type 0} (f : X → ℤ) (xs : List X) → up (int_sum_by f xs) + sum_by (λ x. down (f x)) xs ≡ down (int_sum_by f xs) + sum_by (λ x. up (f x)) xs
int_sum_by_is f [] = refl
int_sum_by_is f (x ∷ xs) =
    omega (arith, sum_is_lem (f x) (int_sum_by f xs), int_sum_by_is f xs, sum_by-cons (λ x. down (f x)) x xs, sum_by-cons (λ x. up (f x)) x xs)

-- a sum does not depend on the order
pub int_sum_by-IsPermutation : {X : Type 0} (f : X → ℤ) (xs ys : List X) → IsPermutation xs ys → int_sum_by f ys ≡ int_sum_by f xs
int_sum_by-IsPermutation f xs ys p =
    let ups = sum_by-IsPermutation (λ x. up (f x)) xs ys p in
    let downs = sum_by-IsPermutation (λ x. down (f x)) xs ys p in
    let left = int_sum_by_is f xs in
    let right = int_sum_by_is f ys in
    omega (arith, ints)

int_sum_by_suc : {X : Type 0} (f : X → ℤ) (xs : List X) (i : ℕ) (d : X) → i < length xs → int_sum_by f (take (suc i) xs) ≡ int_sum_by f (take i xs) +ℤ f (get_or xs i d)
int_sum_by_suc f [] i d l = absurd (omega arith)
int_sum_by_suc f (x ∷ xs) zero d l = omega (arith, ints)
int_sum_by_suc f (x ∷ xs) (suc i) d l =
    let rest : int_sum_by f (take (suc i) xs) ≡ int_sum_by f (take i xs) +ℤ f (get_or xs i d) = int_sum_by_suc f xs i d (omega arith) in
    omega (arith, ints)

-- one member more
pub int_sum_by_more : {X : Type 0} (f : X → ℤ) (xs : List X) (i : ℕ) (d : X) → i < length xs → int_sum_by f (take (i + 1) xs) ≡ int_sum_by f (take i xs) +ℤ f (get_or xs i d)
int_sum_by_more f xs i d l = rw add-one (int_sum_by_suc f xs i d l)
