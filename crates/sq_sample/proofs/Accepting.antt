-- An engine may admit each tick of the sample, and finds each row that is deleted.
use Rattle.std.proofs.Common.{◌≡◌, ℕ, zero, suc, ◌+◌, ◌*◌, ◌<◌, ◌≤◌, ◌^◌, ◌/◌, ◌%◌, ◌==◌, ◌&&◌, Bool, true, false, List, [], ◌∷◌, length, pos, refl, sym, ap, subst, ◌∙◌, arith}
use Rattle.std.specs.Prelude.{◌≤ℤ◌, FitsSigned}
use Rattle.std.specs.Int.{w32}
use Rattle.std.specs.List.{AllByRecursion}
use Rattle.std.specs.declared.result.Result.{Result}
use Rattle.std.specs.declared.result.Result.TheVariants.{Ok, Err}
use Rattle.std.proofs.Math.Nat.{mod-lt}
use Rattle.std.proofs.lemmas.List.{length-append}
use borrow.Author.Differences.{ints}
use Rattle.sq_algebra.specs.ZSet.{total}
use Rattle.sq_zset.proofs.Rows.{total-of_list}
use Rattle.sq_expr.specs.Kinds.{AreOfKinds}
use Rattle.sq_expr.proofs.Lists.{all_append}
use Rattle.sq_typed.specs.From.{Row}
use Rattle.sq_typed.specs.declared.update.Update.{Update}
use Rattle.sq_typed.proofs.FitRows.{length_filter}
use Rattle.sq_circuit.specs.Circuits.{kinds_at, table_at}
use Rattle.sq_circuit.specs.Nodes.{Rows}
use Rattle.sq_circuit.specs.declared.circuit.Part.{Part}
use Rattle.sq_engine.specs.Admitting.{MayAdmit, in_z_sets, made, outcome}
use Rattle.sq_engine.specs.Engines.{State, moved, with_changes}
use Rattle.sq_engine.proofs.FromLists.{made_lists}
use Rattle.sq_engine.proofs.Keeping.{total_none}
use Rattle.sq_sample.specs.Accepted.{HasTables, IsBehind, d_kinds, e_kinds}
use Rattle.sq_sample.specs.Numbers.{d_row, drawn, e_row, next, row_from, state_at}
use Rattle.sq_sample.specs.Ticks.{d_rows, d_updates, e_rows, e_updates, later, tables_after, tick, update}
use Rattle.sq_sample.proofs.Counting.{later_even, later_odd, one_more, tick_first, tick_later}
use Rattle.sq_sample.proofs.Making.{by_parity, no_tables_yet, ticks_make, with_rows}

-- ---- the rows are of their kinds
small : (n : ℕ) → n < 2 ^ 31 → FitsSigned w32 (pos n)
small n low = record { sfits = low }

pub d_row_fits : (k : ℕ) → k < 2 ^ 31 → AreOfKinds (d_row k) d_kinds
d_row_fits k low = (small k low, (small (k % 10) (let few : k % 10 < 10 = mod-lt k (omega arith) in omega arith), tt))

thousand : (n : ℕ) → FitsSigned w32 (pos (n % 1000))
thousand n = small (n % 1000) (let few : n % 1000 < 1000 = mod-lt n (omega arith) in omega arith)

pub row_from_fits : (x i : ℕ) → i < 2 ^ 31 → AreOfKinds (row_from x i) e_kinds
row_from_fits x i low = (small i low, (thousand (drawn (next x)), (thousand (drawn (next (next x))), tt)))

-- ---- the updates fit a circuit with the tables of the sample
module _ (c : List Part) (has : HasTables c) where
  abbrev FitsIn : Update → Type 0
  FitsIn u = (u.table < 2) × AreOfKinds u.row (kinds_at c u.table)

  d_update_fits : (line k : ℕ) → k < 2 ^ 31 → FitsIn (update line 0 true (d_row k))
  d_update_fits line k low = (omega arith, subst (AreOfKinds (d_row k)) (sym has.d) (d_row_fits k low))

  e_update_fits : (line x i : ℕ) (insert : Bool) → i < 2 ^ 31 → FitsIn (update line 1 insert (e_row x i))
  e_update_fits line x i insert low = (omega arith, subst (AreOfKinds (e_row x i)) (sym has.e) (row_from_fits (state_at x (2 * i)) i low))

  d_updates_fit : (n : ℕ) → n < 2 ^ 31 → AllByRecursion FitsIn (d_updates n)
  unfolding d_updates
  d_updates_fit zero low = tt
  d_updates_fit (suc n) low = all_append FitsIn (d_updates n) _ (d_updates_fit n (omega arith)) (d_update_fits (n + 1) n (omega arith), tt)

  e_updates_fit : (x n : ℕ) → n < 2 ^ 31 → AllByRecursion FitsIn (e_updates x n)
  unfolding e_updates
  e_updates_fit x zero low = tt
  e_updates_fit x (suc n) low = all_append FitsIn (e_updates x n) _ (e_updates_fit x n (omega arith)) (e_update_fits (n + 1011) x n true (omega arith), tt)

  later_fits : (x m : ℕ) → m ≤ 1000000 → FitsIn (later x m)
  later_fits x m few = by_parity (λ _. FitsIn (later x m)) m
      (λ even. subst FitsIn (sym (later_even x m even)) (e_update_fits 1 x (100000 + m / 2) true (omega arith)))
      (λ odd. subst FitsIn (sym (later_odd x m odd)) (e_update_fits 1 x (m / 2) false (omega arith)))

  tick_fits : (x t : ℕ) → t ≤ 1000000 → AllByRecursion FitsIn (tick x (suc t))
  tick_fits x zero few = subst (AllByRecursion FitsIn) (sym (tick_first x)) (all_append FitsIn (d_updates 1010) (e_updates x 100000) (d_updates_fit 1010 (omega arith)) (e_updates_fit x 100000 (omega arith)))
  tick_fits x (suc m) few = subst (AllByRecursion FitsIn) (sym (tick_later x m)) (later_fits x m (omega arith), tt)

all_inside : (c : List Part) (n : ℕ) (us : List Update) → n ≡ 2 → AllByRecursion (λ u. (u.table < 2) × AreOfKinds u.row (kinds_at c u.table)) us → AllByRecursion (λ u. u.table < n) us
all_inside c n [] is h = tt
all_inside c n (u ∷ us) is h = (subst (λ n. u.table < n) (sym is) h.0.0, all_inside c n us is h.1)

all_of_kinds : (c : List Part) (us : List Update) → AllByRecursion (λ u. (u.table < 2) × AreOfKinds u.row (kinds_at c u.table)) us → AllByRecursion (λ u. AreOfKinds u.row (kinds_at c u.table)) us
all_of_kinds c [] h = tt
all_of_kinds c (u ∷ us) h = (h.0.1, all_of_kinds c us h.1)

-- ---- how many rows there are
pub many_d : (n : ℕ) → length (d_rows n) ≡ n
unfolding d_rows
many_d zero = refl
many_d (suc n) = length-append (d_rows n) _ ∙ (let more = many_d n in omega arith)

pub many_e : (x low n : ℕ) → length (e_rows x low n) ≡ n
unfolding e_rows
many_e x low zero = refl
many_e x low (suc n) = length-append (e_rows x low n) _ ∙ (let more = many_e x low n in omega arith)

many_d_updates : (n : ℕ) → length (d_updates n) ≡ n
unfolding d_updates
many_d_updates zero = refl
many_d_updates (suc n) = length-append (d_updates n) _ ∙ (let more = many_d_updates n in omega arith)

many_e_updates : (x n : ℕ) → length (e_updates x n) ≡ n
unfolding e_updates
many_e_updates x zero = refl
many_e_updates x (suc n) = length-append (e_updates x n) _ ∙ (let more = many_e_updates x n in omega arith)

few_updates : (x t : ℕ) → length (tick x (suc t)) ≤ 101010
few_updates x zero =
    let d = many_d_updates 1010 in
    let e = many_e_updates x 100000 in
    let both = ap length (tick_first x) ∙ length-append (d_updates 1010) (e_updates x 100000) in
    omega arith
few_updates x (suc m) = let one = ap length (tick_later x m) in omega arith

few_rows : (d e : List Row) (n : ℕ) → length d ≤ n → length e ≤ n → (t : ℕ) → total (table_at (in_z_sets (d ∷ e ∷ [])) t) ≤ℤ pos n
few_rows d e n few_d few_e zero = let is = total-of_list d in omega (arith, ints)
few_rows d e n few_d few_e (suc zero) = let is = total-of_list e in omega (arith, ints)
few_rows d e n few_d few_e (suc (suc t)) = let nothing = total_none in omega (arith, ints)

few_after : (x t i : ℕ) → total (table_at (in_z_sets (tables_after x t)) i) ≤ℤ pos 100001
few_after x zero i = subst (λ ts. total (table_at (in_z_sets ts) i) ≤ℤ pos 100001) (sym (no_tables_yet x)) (few_rows [] [] 100001 (omega arith) (omega arith) i)
few_after x (suc m) i =
    let d = many_d 1010 in
    let e = many_e x (m / 2) (100000 + m % 2) in
    let small : m % 2 < 2 = mod-lt m (omega arith) in
    subst (λ ts. total (table_at (in_z_sets ts) i) ≤ℤ pos 100001) (sym (with_rows x m (m / 2) (100000 + m % 2) refl refl))
    (few_rows (d_rows 1010) (e_rows x (m / 2) (100000 + m % 2)) 100001 (omega arith) (omega arith) i)

two_tables : (x t : ℕ) → length (tables_after x t) ≡ 2
two_tables x zero = ap length (no_tables_yet x)
two_tables x (suc m) = ap length (with_rows x m (m / 2) (100000 + m % 2) refl refl)

two_z_sets : (x t : ℕ) → length (in_z_sets (tables_after x t)) ≡ 2
two_z_sets x zero = ap (λ ts. length (in_z_sets ts)) (no_tables_yet x)
two_z_sets x (suc m) = ap (λ ts. length (in_z_sets ts)) (with_rows x m (m / 2) (100000 + m % 2) refl refl)

-- ---- the ticks
may_admit : (s : State) (x t : ℕ) → t ≤ 1000000 → IsBehind s x t → MayAdmit s (tick x (suc t))
may_admit s x t few behind = record {
  inside = all_inside s.circuit (length s.tables) (tick x (suc t)) (ap length behind.tables ∙ two_z_sets x t) fits;
  of_kinds = all_of_kinds s.circuit (tick x (suc t)) fits;
  few = λ i.
      let rows = subst (λ ts. total (table_at ts i) ≤ℤ pos 100001) (sym behind.tables) (few_after x t i) in
      let updates = few_updates x t in
      let put = length_filter (λ (u : Update). u.insert && (u.table == i)) (tick x (suc t)) in
      omega (arith, ints);
}
  where
    fits : AllByRecursion (λ u. (u.table < 2) × AreOfKinds u.row (kinds_at s.circuit u.table)) (tick x (suc t))
    fits = tick_fits s.circuit behind.kinds x t few

pub ticks_may_be_admitted : (s : State) (x t : ℕ) → t ≤ 1000000 → IsBehind s x t → MayAdmit s (tick x (t + 1))
ticks_may_be_admitted s x t few behind = subst (λ n. MayAdmit s (tick x n)) (sym (one_more t)) (may_admit s x t few behind)

pub ticks_are_made : (s : State) (x t : ℕ) → t ≤ 1000000 → IsBehind s x t → made s.tables (tick x (t + 1)) ≡ Ok (in_z_sets (tables_after x (t + 1)))
ticks_are_made s x t few behind =
    ap (λ ts. made ts (tick x (t + 1))) behind.tables
    ∙ (made_lists (tick x (t + 1)) (tables_after x t) inside ∙ ap outcome (ticks_make x t))
  where
    inside : AllByRecursion (λ u. u.table < length (tables_after x t)) (tick x (t + 1))
    inside = subst (λ n. AllByRecursion (λ u. u.table < length (tables_after x t)) (tick x n)) (sym (one_more t))
        (all_inside s.circuit (length (tables_after x t)) (tick x (suc t)) (two_tables x t) (tick_fits s.circuit behind.kinds x t few))

same_ok : (a b : List Rows) (r : Result (List Rows) ℕ) → r ≡ Ok a → r ≡ Ok b → a ≡ b
same_ok a b r p q = cc

pub ticks_move_on : (s : State) (x t : ℕ) (delta : List Rows) → t ≤ 1000000 → IsBehind s x t → made s.tables (tick x (t + 1)) ≡ Ok (with_changes s.tables delta) → IsBehind (moved s delta) x (t + 1)
ticks_move_on s x t delta few behind is = record { kinds = behind.kinds; tables = same_ok _ _ (made s.tables (tick x (t + 1))) is (ticks_are_made s x t few behind) }

pub no_row_is_absent : (s : State) (x t line : ℕ) → t ≤ 1000000 → IsBehind s x t → made s.tables (tick x (t + 1)) ≡ Err line → ⊥
no_row_is_absent s x t line few behind is = let found = ticks_are_made s x t few behind in cc
