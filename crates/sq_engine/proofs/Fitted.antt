-- A change for each table, from changes of some.
use Rattle.std.proofs.Common.{◌≡◌, ℕ, zero, suc, ◌<◌, ◌≤◌, List, [], ◌∷◌, ◌++◌, length, take, refl, sym, ap, subst, ◌∙◌, arith}
use Rattle.sq_circuit.specs.Along.{each_below}
use Rattle.sq_circuit.specs.Circuits.{table_at}
use Rattle.sq_circuit.specs.Nodes.{Rows, none}
use Rattle.sq_circuit.proofs.Alongside.{each-length}
use Rattle.sq_engine.proofs.Listing.{each_got, past_tables, same_tables}

pub record IsFitted (changes : List Rows) (n : ℕ) (now : List Rows) : Type 0 where
  pub is : now ≡ each_below (λ t. table_at changes t) (length now)
  pub short : length now ≤ n
  pub past : length now < n → length changes ≤ length now

length-take : (n : ℕ) (xs : List Rows) → length (take n xs) ≤ n
length-take zero xs = omega arith
length-take (suc n) [] = omega arith
length-take (suc n) (x ∷ xs) = let rest = length-take n xs in omega arith

all_taken : (n : ℕ) (xs : List Rows) → length (take n xs) < n → length xs ≤ length (take n xs)
all_taken zero xs low = absurd (omega arith)
all_taken (suc n) [] low = omega arith
all_taken (suc n) (x ∷ xs) low = let rest = all_taken n xs (omega arith) in omega arith

taken_at : (n : ℕ) (xs : List Rows) (t : ℕ) → t < length (take n xs) → table_at (take n xs) t ≡ table_at xs t
taken_at zero xs t low = absurd (omega arith)
taken_at (suc n) [] t low = refl
taken_at (suc n) (x ∷ xs) zero low = refl
taken_at (suc n) (x ∷ xs) (suc t) low = taken_at n xs t (omega arith)

pub fitted_start : (changes : List Rows) (n : ℕ) (now : List Rows) → now ≡ take n changes → IsFitted changes n now
fitted_start changes n now is = subst (IsFitted changes n) (sym is) (record {
  is = same_tables (take n changes) (each_below (λ t. table_at changes t) (length (take n changes))) (sym (each-length (λ t. table_at changes t) (length (take n changes))))
      (λ t low. taken_at n changes t low ∙ sym (each_got (λ t. table_at changes t) (length (take n changes)) t low));
  short = length-take n changes;
  past = all_taken n changes;
})

pub fitted_turn : (changes : List Rows) (n : ℕ) (now after : List Rows) (z : Rows) → IsFitted changes n now → length now < n → z ≡ none → after ≡ now ++ z ∷ [] → IsFitted changes n after
fitted_turn changes n now after z h low empty more =
    let long : length after ≡ suc (length now) = ap length more ∙ one_longer now in
    record {
      is = more ∙ ap (λ y. now ++ y ∷ []) (empty ∙ sym (past_tables changes (length now) (h.past low))) ∙ ap (λ ys. ys ++ table_at changes (length now) ∷ []) h.is ∙ sym (ap (λ k. each_below (λ t. table_at changes t) k) long);
      short = omega (arith, long, low);
      past = λ less. (let before = h.past low in omega (arith, long, before));
    }
  where
    one_longer : (xs : List Rows) → length (xs ++ z ∷ []) ≡ suc (length xs)
    one_longer [] = refl
    one_longer (x ∷ xs) = ap suc (one_longer xs)

pub fitted_end : (changes : List Rows) (n : ℕ) (now : List Rows) → IsFitted changes n now → n ≤ length now → now ≡ each_below (λ t. table_at changes t) n
fitted_end changes n now h high =
    let short = h.short in
    let all : length now ≡ n = omega (arith, short, high) in
    h.is ∙ ap (λ k. each_below (λ t. table_at changes t) k) all
