-- Rows that are counted in a map for each table.
use Rattle.std.proofs.Common.{◌≡◌, ℕ, zero, suc, ◌<◌, ◌==◌, true, false, cond, List, [], ◌∷◌, ◌++◌, length, get_or, set, Bool, Ok, Err, ℤ, pos, ◌+ℤ◌, Option, Some, is_eq, refl, sym, ap, subst, ◌∙◌, arith}
use Rattle.std.specs.BTreeMap.{BTreeMap}
use Rattle.std.specs.Prelude.{OnOk}
use Rattle.std.specs.declared.result.Result.{Result}
use Rattle.std.proofs.lemmas.Bool.Decides.{Decides-eqb}
use borrow.Author.Differences.{ints}
use Rattle.sq_value.specs.declared.value.Value.{Value}
use Rattle.sq_value.specs.Order.{row_cmp}
use Rattle.sq_ops.proofs.Indexing.{same_row, turned_round}
use Rattle.sq_typed.specs.declared.update.Update.{Update}
use Rattle.sq_engine.specs.Admitting.{count_at, count_in, count_of, signed, step_at}

-- ---- one map
nothing_more : (x : ℤ) → x ≡ x +ℤ pos 0
nothing_more x = omega (arith, ints)

module _ (old new : List Value → Option ℤ) (key : List Value) (w more : ℤ) (is : w ≡ count_in (old key) +ℤ more) where
  pub one_more : ((k : List Value) → new k ≡ cond (is_eq (row_cmp key k)) (Some w) (old k)) → (k : List Value) → count_in (new k) ≡ count_in (old k) +ℤ cond (is_eq (row_cmp k key)) more (pos 0)
  one_more updates k =
      ap count_in (updates k)
      ∙ elim (is_eq (row_cmp key k)) as (λ b. is_eq (row_cmp key k) ≡ b → count_in (cond b (Some w) (old k)) ≡ count_in (old k) +ℤ cond b more (pos 0)) [
        | true ↦ λ e. is ∙ ap (λ z. count_in (old z) +ℤ more) (same_row key k e)
        | false ↦ λ e. nothing_more (count_in (old k))
      ] refl
      ∙ ap (λ b. count_in (old k) +ℤ cond b more (pos 0)) (turned_round key k)

-- ---- a map for each table
pub none_counted : (maps : List (BTreeMap (List Value) ℤ)) (m : BTreeMap (List Value) ℤ) (t : ℕ) (row : List Value)
    → ((t : ℕ) (row : List Value) → count_at maps t row ≡ pos 0) → count_of m row ≡ pos 0 → count_at (maps ++ m ∷ []) t row ≡ pos 0
none_counted [] m zero row none new = new
none_counted [] m (suc t) row none new = refl
none_counted (n ∷ maps) m zero row none new = none zero row
none_counted (n ∷ maps) m (suc t) row none new = none_counted maps m t row (λ t row. none (suc t) row) new

-- the counts of a table are those of its map
pub count_got : (maps : List (BTreeMap (List Value) ℤ)) (n : ℕ) (row : List Value) (m : BTreeMap (List Value) ℤ) → n < length maps → m ≡ get_or maps n m → count_at maps n row ≡ count_of m row
count_got [] n row m low is = absurd (omega arith)
count_got (x ∷ maps) zero row m low is = ap (λ m. count_of m row) (sym is)
count_got (x ∷ maps) (suc n) row m low is = count_got maps n row m (omega arith) is

-- one map in the place of another
module _ (m : BTreeMap (List Value) ℤ) (row : List Value) where
  set_here : (maps : List (BTreeMap (List Value) ℤ)) (n : ℕ) → n < length maps → count_at (set maps n m) n row ≡ count_of m row
  set_here [] n low = absurd (omega arith)
  set_here (x ∷ maps) zero low = refl
  set_here (x ∷ maps) (suc n) low = set_here maps n (omega arith)

  set_there : (maps : List (BTreeMap (List Value) ℤ)) (n t : ℕ) → (n ≡ t → ⊥) → count_at (set maps n m) t row ≡ count_at maps t row
  set_there [] n t apart = refl
  set_there (x ∷ maps) zero zero apart = absurd (apart refl)
  set_there (x ∷ maps) zero (suc t) apart = refl
  set_there (x ∷ maps) (suc n) zero apart = refl
  set_there (x ∷ maps) (suc n) (suc t) apart = set_there maps n t (λ e. apart (ap suc e))

-- the row of an update counted in the map of its table
module _ (maps : List (BTreeMap (List Value) ℤ)) (u : Update) (old new : BTreeMap (List Value) ℤ) (step : ℤ) (low : u.table < length maps) (is : old ≡ get_or maps u.table old) (told : step ≡ (signed u).1)
    (more : (row : List Value) → count_of new row ≡ count_of old row +ℤ cond (is_eq (row_cmp row u.row)) step (pos 0)) where
  here : (row : List Value) → count_at (set maps u.table new) u.table row ≡ count_at maps u.table row +ℤ cond (is_eq (row_cmp row u.row)) (signed u).1 (pos 0)
  here row =
      set_here new row maps u.table low
      ∙ more row
      ∙ ap (λ n. n +ℤ cond (is_eq (row_cmp row u.row)) step (pos 0)) (sym (count_got maps u.table row old low is))
      ∙ ap (λ n. count_at maps u.table row +ℤ cond (is_eq (row_cmp row u.row)) n (pos 0)) told

  pub table_counted : (t : ℕ) (row : List Value) → count_at (set maps u.table new) t row ≡ count_at maps t row +ℤ step_at t row u
  table_counted t row = by_table (u.table == t) refl
    where
      by_table : (b : Bool) → (u.table == t) ≡ b → count_at (set maps u.table new) t row ≡ count_at maps t row +ℤ cond b (cond (is_eq (row_cmp row u.row)) (signed u).1 (pos 0)) (pos 0)
      by_table true e = subst (λ n. count_at (set maps u.table new) n row ≡ count_at maps n row +ℤ cond (is_eq (row_cmp row u.row)) (signed u).1 (pos 0)) ((Decides-eqb u.table t).0 e) (here row)
      by_table false e = set_there new row maps u.table t (λ same. absurd (let both = sym e ∙ (Decides-eqb u.table t).1 same in cc both)) ∙ nothing_more (count_at maps t row)

pub on_ok : {X Y : Type 0} (r : Result X Y) (P Q : Type 0) → (P → Q) → OnOk r P → OnOk r Q
on_ok (Ok x) P Q f h = f h
on_ok (Err e) P Q f h = tt
