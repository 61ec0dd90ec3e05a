-- What the ticks make of the tables, as lists of rows.
use Rattle.std.proofs.Common.{◌≡◌, ℕ, zero, suc, ◌+◌, ◌<◌, ◌/◌, ◌%◌, true, false, List, [], ◌∷◌, ◌++◌, refl, sym, ap, ap₂, ◌∙◌, arith}
use Rattle.std.proofs.Math.Nat.{mod-lt}
use Rattle.std.specs.declared.result.Result.TheVariants.{Ok}
use Rattle.sq_value.specs.OrderLaws.{row_eq-same}
use Rattle.sq_typed.specs.From.{Row}
use Rattle.sq_typed.specs.Tables.{after}
use Rattle.sq_typed.proofs.UpdateLemmas.{after_append}
use Rattle.sq_sample.specs.Numbers.{d_row, e_row}
use Rattle.sq_sample.specs.Ticks.{d_rows, d_updates, e_rows, e_updates, tables_after, tick, update}
use Rattle.sq_sample.proofs.Counting.{later_even, later_odd, one_more, tick_first, tick_later}

-- ---- one update
pub insert_made : (d e : List Row) (line : ℕ) (row : Row) → after (d ∷ e ∷ []) (update line 1 true row ∷ []) ≡ Ok (d ∷ (e ++ row ∷ []) ∷ [])
insert_made d e line row = refl

d_insert_made : (d e : List Row) (line : ℕ) (row : Row) → after (d ∷ e ∷ []) (update line 0 true row ∷ []) ≡ Ok ((d ++ row ∷ []) ∷ e ∷ [])
d_insert_made d e line row = refl

pub delete_made : (d rest : List Row) (line : ℕ) (row : Row) → after (d ∷ (row ∷ rest) ∷ []) (update line 1 false row ∷ []) ≡ Ok (d ∷ rest ∷ [])
delete_made d rest line row = rw ((row_eq-same row row).1 refl) refl

-- ---- rows of e
e_rows_back : (x low n : ℕ) → e_rows x low (suc n) ≡ e_rows x low n ++ e_row x (low + n) ∷ []
unfolding e_rows
e_rows_back x low n = refl

pub e_rows_front : (x low n : ℕ) → e_rows x low (suc n) ≡ e_row x low ∷ e_rows x (low + 1) n
unfolding e_rows
e_rows_front x low zero = ap (λ i. e_row x i ∷ []) (let e : low + 0 ≡ low = omega arith in e)
e_rows_front x low (suc n) =
    ap₂ (λ rows i. rows ++ e_row x i ∷ []) (e_rows_front x low n) (let e : low + suc n ≡ low + 1 + n = omega arith in e)

-- ---- the first tick
d_made : (n : ℕ) (e : List Row) → after ([] ∷ e ∷ []) (d_updates n) ≡ Ok (d_rows n ∷ e ∷ [])
unfolding d_updates d_rows
d_made zero e = refl
d_made (suc n) e = after_append ([] ∷ e ∷ []) (d_updates n) _ (d_rows n ∷ e ∷ []) (d_made n e) ∙ d_insert_made (d_rows n) e (n + 1) (d_row n)

e_made : (x n : ℕ) (d : List Row) → after (d ∷ [] ∷ []) (e_updates x n) ≡ Ok (d ∷ e_rows x 0 n ∷ [])
unfolding e_updates e_rows
e_made x zero d = refl
e_made x (suc n) d = after_append (d ∷ [] ∷ []) (e_updates x n) _ (d ∷ e_rows x 0 n ∷ []) (e_made x n d)
    ∙ (insert_made d (e_rows x 0 n) (n + 1011) (e_row x n) ∙ ap (λ i. Ok (d ∷ (e_rows x 0 n ++ e_row x i ∷ []) ∷ [])) (let e : n ≡ 0 + n = omega arith in e))

first_made : (x d e : ℕ) → after ([] ∷ [] ∷ []) (d_updates d ++ e_updates x e) ≡ Ok (d_rows d ∷ e_rows x 0 e ∷ [])
first_made x d e = after_append ([] ∷ [] ∷ []) (d_updates d) (e_updates x e) (d_rows d ∷ [] ∷ []) (d_made d []) ∙ e_made x e (d_rows d)

-- ---- the later ticks
-- with n rows of e kept at least
even_made : (x low n : ℕ) (d : List Row) → after (d ∷ e_rows x low n ∷ []) (update 1 1 true (e_row x (n + low)) ∷ []) ≡ Ok (d ∷ e_rows x low (suc n) ∷ [])
even_made x low n d =
    insert_made d (e_rows x low n) 1 (e_row x (n + low))
    ∙ ap (λ rows. Ok (d ∷ rows ∷ [])) (ap (λ i. e_rows x low n ++ e_row x i ∷ []) (let e : n + low ≡ low + n = omega arith in e) ∙ sym (e_rows_back x low n))

odd_made : (x low n : ℕ) (d : List Row) → after (d ∷ e_rows x low (suc n) ∷ []) (update 1 1 false (e_row x low) ∷ []) ≡ Ok (d ∷ e_rows x (low + 1) n ∷ [])
odd_made x low n d =
    ap (λ rows. after (d ∷ rows ∷ []) (update 1 1 false (e_row x low) ∷ [])) (e_rows_front x low n) ∙ delete_made d (e_rows x (low + 1) n) 1 (e_row x low)

-- ---- all ticks
tables_are : (x m : ℕ) → tables_after x (suc m) ≡ d_rows 1010 ∷ e_rows x (m / 2) (100000 + m % 2) ∷ []
unfolding tables_after
tables_are x m = refl

pub no_tables_yet : (x : ℕ) → tables_after x 0 ≡ [] ∷ [] ∷ []
unfolding tables_after
no_tables_yet x = refl

pub with_rows : (x m low n : ℕ) → m / 2 ≡ low → 100000 + m % 2 ≡ n → tables_after x (suc m) ≡ d_rows 1010 ∷ e_rows x low n ∷ []
with_rows x m low n at many = tables_are x m ∙ ap₂ (λ low n. d_rows 1010 ∷ e_rows x low n ∷ []) at many

even_goes : (x m : ℕ) → m % 2 ≡ 0 → after (tables_after x (suc m)) (tick x (suc (suc m))) ≡ Ok (tables_after x (suc (suc m)))
even_goes x m even =
    ap₂ after (with_rows x m (m / 2) 100000 refl (omega arith)) (tick_later x m ∙ ap (λ u. u ∷ []) (later_even x m even))
    ∙ (even_made x (m / 2) 100000 (d_rows 1010) ∙ ap Ok (sym (with_rows x (suc m) (m / 2) 100001 (omega arith) (omega arith))))

odd_goes : (x m : ℕ) → m % 2 ≡ 1 → after (tables_after x (suc m)) (tick x (suc (suc m))) ≡ Ok (tables_after x (suc (suc m)))
odd_goes x m odd =
    ap₂ after (with_rows x m (m / 2) 100001 refl (omega arith)) (tick_later x m ∙ ap (λ u. u ∷ []) (later_odd x m odd))
    ∙ (odd_made x (m / 2) 100000 (d_rows 1010) ∙ ap Ok (sym (with_rows x (suc m) (m / 2 + 1) 100000 (omega arith) (omega arith))))

pub by_parity : (P : ℕ → Type 0) (m : ℕ) → (m % 2 ≡ 0 → P m) → (m % 2 ≡ 1 → P m) → P m
by_parity P m even odd = go (m % 2) refl (mod-lt m (omega arith))
  where
    go : (k : ℕ) → m % 2 ≡ k → k < 2 → P m
    go zero e low = even e
    go (suc zero) e low = odd e
    go (suc (suc k)) e low = absurd (omega arith)

goes : (x t : ℕ) → after (tables_after x t) (tick x (suc t)) ≡ Ok (tables_after x (suc t))
goes x zero = ap₂ after (no_tables_yet x) (tick_first x) ∙ (first_made x 1010 100000 ∙ ap Ok (sym (with_rows x 0 0 100000 refl refl)))
goes x (suc m) = by_parity (λ m. after (tables_after x (suc m)) (tick x (suc (suc m))) ≡ Ok (tables_after x (suc (suc m)))) m (even_goes x m) (odd_goes x m)

-- each tick makes the tables after it of those before it
pub ticks_make : (x t : ℕ) → after (tables_after x t) (tick x (t + 1)) ≡ Ok (tables_after x (t + 1))
ticks_make x t = ap (λ n. after (tables_after x t) (tick x n)) (one_more t) ∙ (goes x t ∙ ap (λ n. Ok (tables_after x n)) (sym (one_more t)))
