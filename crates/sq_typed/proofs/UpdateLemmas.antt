-- What updates do to the counts of rows.
use Rattle.std.proofs.Common.{◌≡◌, ℕ, zero, suc, ◌+◌, ◌<◌, List, [], ◌∷◌, ◌++◌, length, Bool, true, false, cond, ◌&&◌, ◌==◌, not, if◌then◌else◌, refl, sym, ap, subst, ◌∙◌, arith}
use Rattle.std.specs.Prelude.{Option, Some, None, option_map, ◌↔◌}
use Rattle.std.specs.Ordering.{is_eq}
use Rattle.std.specs.declared.result.Result.{Result}
use Rattle.std.specs.declared.result.Result.TheVariants.{Ok, Err}
use Rattle.std.proofs.lemmas.List.Sums.{sum_by-cons}
use Rattle.std.proofs.lemmas.Option.{same_Some}
use Rattle.std.specs.List.{AllByRecursion}
use Rattle.std.proofs.lemmas.Bool.Decides.{nat_tests, Decides-eqb}
use mathlib.Core.Bool.{true≢false}
use Rattle.sq_expr.specs.declared.expr.Kind.{Kind}
use Rattle.sq_expr.specs.Kinds.{AreOfKinds}
use Rattle.sq_expr.proofs.Lists.{all_append, all_back}
use Rattle.sq_value.specs.Count.{count}
use Rattle.sq_value.specs.Order.{row_cmp}
use Rattle.sq_value.specs.OrderLaws.{row_eq-same}
use Rattle.sq_value.proofs.CountLemmas.{count-cons, count-append}
use Rattle.sq_typed.specs.declared.update.Update.{Update}
use Rattle.sq_typed.specs.From.{Row}
use Rattle.sq_typed.specs.Tables.{Tables, removed, changed_rows, at_table, go_on, after}
use Rattle.sq_typed.specs.Laws.{inserts, deletes, rows_in, FirstAbsent}
use Rattle.sq_typed.proofs.Tests.{Mapped, mapped_none, mapped_some}

-- ---- a row that is taken away

pub none_to_remove : (row : Row) (rows : List Row) → count row rows ≡ 0 → removed row rows ≡ None
none_to_remove row [] e = refl
none_to_remove row (r ∷ rows) e =
    elim (is_eq (row_cmp row r)) as (λ b. cond b 1 0 + count row rows ≡ 0 → (if b then Some rows else option_map (λ rest. r ∷ rest) (removed row rows)) ≡ None) [
      | true ↦ λ e. absurd (omega arith)
      | false ↦ λ e. ap (option_map (λ rest. r ∷ rest)) (none_to_remove row rows (omega arith))
    ] (sym (count-cons row r rows) ∙ e)

pub none_removed : (row : Row) (rows : List Row) → removed row rows ≡ None → count row rows ≡ 0
none_removed row [] e = refl
none_removed row (r ∷ rows) e =
    count-cons row r rows ∙
    elim (is_eq (row_cmp row r)) as (λ b. (if b then Some rows else option_map (λ rest. r ∷ rest) (removed row rows)) ≡ None → cond b 1 0 + count row rows ≡ 0) [
      | true ↦ λ e. absurd (cc)
      | false ↦ λ e. omega (arith, none_removed row rows (mapped_none (λ rest. r ∷ rest) (removed row rows) e))
    ] e

pub count_removed : (k row : Row) (rows rest : List Row) → removed row rows ≡ Some rest → count k rows ≡ cond (is_eq (row_cmp k row)) 1 0 + count k rest
count_removed k row [] rest e = absurd (cc)
count_removed k row (r ∷ rows) rest e =
    count-cons k r rows ∙
    elim (is_eq (row_cmp row r)) as (λ b. is_eq (row_cmp row r) ≡ b → (if b then Some rows else option_map (λ rest. r ∷ rest) (removed row rows)) ≡ Some rest → cond (is_eq (row_cmp k r)) 1 0 + count k rows ≡ cond (is_eq (row_cmp k row)) 1 0 + count k rest) [
      | true ↦ λ t e. (λ i. cond (is_eq (row_cmp k (sym ((row_eq-same row r).0 t) i))) 1 0 + count k (same_Some rows rest e i))
      | false ↦ λ t e.
          let m = mapped_some (λ rest. r ∷ rest) (removed row rows) rest e in
          let here : count k rest ≡ cond (is_eq (row_cmp k r)) 1 0 + count k m.value = ap (count k) (sym m.is) ∙ count-cons k r m.value in
          omega (arith, here, count_removed k row rows m.value m.was)
    ] refl e

-- ---- one update

-- 1 where a test passes
abbrev one_if : Bool → ℕ
one_if b = cond b 1 0

count-one : (k r : Row) → count k (r ∷ []) ≡ one_if (is_eq (row_cmp k r))
count-one k r = count-cons k r [] ∙ omega arith

count_changed : (u : Update) (k : Row) (rows now : List Row) → changed_rows u rows ≡ Some now → count k now + one_if (not u.insert && is_eq (row_cmp k u.row)) ≡ count k rows + one_if (u.insert && is_eq (row_cmp k u.row))
count_changed u k rows now e =
    elim u.insert as (λ b. (if b then Some (rows ++ u.row ∷ []) else removed u.row rows) ≡ Some now → count k now + one_if (not b && is_eq (row_cmp k u.row)) ≡ count k rows + one_if (b && is_eq (row_cmp k u.row))) [
      | true ↦ λ e.
          let grown : count k now ≡ count k rows + one_if (is_eq (row_cmp k u.row)) = ap (count k) (sym (same_Some (rows ++ u.row ∷ []) now e)) ∙ count-append k rows (u.row ∷ []) ∙ ap (λ n. count k rows + n) (count-one k u.row) in
          omega (arith, grown)
      | false ↦ λ e. omega (arith, count_removed k u.row rows now e)
    ] e

suc_same : (n m : ℕ) → (suc n == suc m) ≡ (n == m)
suc_same n m = grind (arith, nat_tests)

zero_suc : (m : ℕ) → (zero == suc m) ≡ false
zero_suc m = grind (arith, nat_tests)

suc_zero : (n : ℕ) → (suc n == zero) ≡ false
suc_zero n = grind (arith, nat_tests)

other_table : (b same : Bool) → b ≡ false → one_if (b && same) ≡ 0
other_table true same e = cc
other_table false same e = refl

none_of : (i b same : Bool) → b ≡ false → one_if (i && (b && same)) ≡ 0
none_of true b same e = other_table b same e
none_of false b same e = refl

module _ (u : Update) (k : Row) where
  abbrev Changed : Bool → List Row → List Row → Type 0
  Changed here rows now = count k now + one_if (not u.insert && (here && is_eq (row_cmp k u.row))) ≡ count k rows + one_if (u.insert && (here && is_eq (row_cmp k u.row)))

  unchanged : (b : Bool) (rows : List Row) → b ≡ false → Changed b rows rows
  unchanged b rows e = omega (arith, none_of u.insert b (is_eq (row_cmp k u.row)) e, none_of (not u.insert) b (is_eq (row_cmp k u.row)) e)

  count_at_table : (n m : ℕ) (tables now : Tables) → at_table (changed_rows u) n tables ≡ Some now → Changed (n == m) (rows_in tables m) (rows_in now m)
  count_at_table n m [] now e = absurd (cc)
  count_at_table zero zero (rows ∷ tables) now e = first (mapped_some (λ now. now ∷ tables) (changed_rows u rows) now e)
    where
      first : Mapped (λ now. now ∷ tables) (changed_rows u rows) now → Changed (zero == zero) rows (rows_in now zero)
      first f = subst (λ now. Changed (zero == zero) rows (rows_in now zero)) f.is (count_changed u k rows f.value f.was)
  count_at_table zero (suc m) (rows ∷ tables) now e = first (mapped_some (λ now. now ∷ tables) (changed_rows u rows) now e)
    where
      first : Mapped (λ now. now ∷ tables) (changed_rows u rows) now → Changed (zero == suc m) (rows_in tables m) (rows_in now (suc m))
      first f = subst (λ now. Changed (zero == suc m) (rows_in tables m) (rows_in now (suc m))) f.is (unchanged (zero == suc m) (rows_in tables m) (zero_suc m))
  count_at_table (suc n) zero (rows ∷ tables) now e = later (mapped_some (λ rest. rows ∷ rest) (at_table (changed_rows u) n tables) now e)
    where
      later : Mapped (λ rest. rows ∷ rest) (at_table (changed_rows u) n tables) now → Changed (suc n == zero) rows (rows_in now zero)
      later f = subst (λ now. Changed (suc n == zero) rows (rows_in now zero)) f.is (unchanged (suc n == zero) rows (suc_zero n))
  count_at_table (suc n) (suc m) (rows ∷ tables) now e =
      let f = mapped_some (λ rest. rows ∷ rest) (at_table (changed_rows u) n tables) now e in
      subst (λ now. Changed (suc n == suc m) (rows_in tables m) (rows_in now (suc m))) f.is
      (subst (λ b. Changed b (rows_in tables m) (rows_in f.value m)) (sym (suc_same n m)) (count_at_table n m tables f.value f.was))

-- ---- some updates

same_Ok : (a b : Tables) → ◌≡◌ {A = Result Tables ℕ} (Ok a) (Ok b) → a ≡ b
same_Ok a b e = cc

pub count_after : (tables : Tables) (us : List Update) (now : Tables) → after tables us ≡ Ok now → (table : ℕ) (row : Row) →
    count row (rows_in now table) + deletes table row us ≡ count row (rows_in tables table) + inserts table row us
count_after tables [] now e table row = ap (λ ts. count row (rows_in ts table) + 0) (sym (same_Ok tables now e))
count_after tables (u ∷ us) now e table row =
    elim (at_table (changed_rows u) u.table tables) as (λ x. at_table (changed_rows u) u.table tables ≡ x → go_on u.line (λ now. after now us) x ≡ Ok now →
    count row (rows_in now table) + deletes table row (u ∷ us) ≡ count row (rows_in tables table) + inserts table row (u ∷ us)) [
      | None ↦ λ was e. absurd (cc)
      | Some mid ↦ λ was e.
          let here : Changed u row (u.table == table) (rows_in tables table) (rows_in mid table) = count_at_table u row u.table table tables mid was in
          let i : inserts table row (u ∷ us) ≡ one_if (u.insert && ((u.table == table) && is_eq (row_cmp row u.row))) + inserts table row us = sum_by-cons _ u us in
          let d : deletes table row (u ∷ us) ≡ one_if (not u.insert && ((u.table == table) && is_eq (row_cmp row u.row))) + deletes table row us = sum_by-cons _ u us in
          omega (arith, here, i, d, count_after mid us now e table row)
    ] refl e

-- updates in two parts
pub after_append : (tables : Tables) (us more : List Update) (mid : Tables) → after tables us ≡ Ok mid → after tables (us ++ more) ≡ after mid more
after_append tables [] more mid e = ap (λ ts. after ts more) (same_Ok tables mid e)
after_append tables (u ∷ us) more mid e =
    elim (at_table (changed_rows u) u.table tables) as (λ x. go_on u.line (λ now. after now us) x ≡ Ok mid → go_on u.line (λ now. after now (us ++ more)) x ≡ after mid more) [
      | None ↦ λ e. absurd (cc)
      | Some now ↦ λ e. after_append now us more mid e
    ] e

-- what fails stays so
pub after_fails : (tables : Tables) (us more : List Update) (line : ℕ) → after tables us ≡ Err line → after tables (us ++ more) ≡ Err line
after_fails tables [] more line e = absurd (cc)
after_fails tables (u ∷ us) more line e =
    elim (at_table (changed_rows u) u.table tables) as (λ x. go_on u.line (λ now. after now us) x ≡ Err line → go_on u.line (λ now. after now (us ++ more)) x ≡ Err line) [
      | None ↦ λ e. e
      | Some now ↦ λ e. after_fails now us more line e
    ] e

-- ---- one update: when it can be made

changed_none : (u : Update) (rows : List Row) → (changed_rows u rows ≡ None) ↔ ((u.insert ≡ false) × (count u.row rows ≡ 0))
changed_none u rows =
    elim u.insert as (λ b. ((if b then Some (rows ++ u.row ∷ []) else removed u.row rows) ≡ None) ↔ ((b ≡ false) × (count u.row rows ≡ 0))) [
      | true ↦ (λ e. absurd (cc), λ h. absurd (cc (h.0)))
      | false ↦ (λ e. (refl, none_removed u.row rows e), λ h. none_to_remove u.row rows h.1)
    ]

at_table_none : (f : List Row → Option (List Row)) (n : ℕ) (tables : Tables) → n < length tables → (at_table f n tables ≡ None) ↔ (f (rows_in tables n) ≡ None)
at_table_none f n [] l = absurd (omega arith)
at_table_none f zero (rows ∷ tables) l = (mapped_none (λ now. now ∷ tables) (f rows), λ e. ap (option_map (λ now. now ∷ tables)) e)
at_table_none f (suc n) (rows ∷ tables) l =
    let rest = at_table_none f n tables (omega arith) in
    (λ e. rest.0 (mapped_none (λ rest. rows ∷ rest) (at_table f n tables) e), λ e. ap (option_map (λ rest. rows ∷ rest)) (rest.1 e))

-- ---- what holds of the rows of tables

module _ (P : Row → Type 0) where
  all_with : (rows : List Row) (row : Row) → AllByRecursion P rows → P row → AllByRecursion P (rows ++ row ∷ [])
  all_with rows row h k = all_append P rows (row ∷ []) h (k, tt)

  all_removed : (row : Row) (rows rest : List Row) → removed row rows ≡ Some rest → AllByRecursion P rows → AllByRecursion P rest
  all_removed row [] rest e h = absurd (cc)
  all_removed row (r ∷ rows) rest e h =
      elim (is_eq (row_cmp row r)) as (λ b. (if b then Some rows else option_map (λ rest. r ∷ rest) (removed row rows)) ≡ Some rest → AllByRecursion P rest) [
        | true ↦ λ e. subst (AllByRecursion P) (same_Some rows rest e) h.1
        | false ↦ λ e.
            let m = mapped_some (λ rest. r ∷ rest) (removed row rows) rest e in
            subst (AllByRecursion P) m.is (h.0, all_removed row rows m.value m.was h.1)
      ] e

  all_changed : (u : Update) (rows now : List Row) → changed_rows u rows ≡ Some now → P u.row → AllByRecursion P rows → AllByRecursion P now
  all_changed u rows now e k h =
      elim u.insert as (λ b. (if b then Some (rows ++ u.row ∷ []) else removed u.row rows) ≡ Some now → AllByRecursion P now) [
        | true ↦ λ e. subst (AllByRecursion P) (same_Some (rows ++ u.row ∷ []) now e) (all_with rows u.row h k)
        | false ↦ λ e. all_removed u.row rows now e h
      ] e

-- the table with this number is what f makes of it, and all others stay
pub record OneTable (f : List Row → Option (List Row)) (n : ℕ) (tables now : Tables) : Type 0 where
  pub made : f (rows_in tables n) ≡ Some (rows_in now n)
  pub others : (m : ℕ) → (m ≡ n → ⊥) → rows_in now m ≡ rows_in tables m
  pub as_many : length now ≡ length tables

one_table : (f : List Row → Option (List Row)) (n : ℕ) (tables now : Tables) → at_table f n tables ≡ Some now → OneTable f n tables now
one_table f n [] now e = absurd (cc)
one_table f zero (rows ∷ tables) now e =
    let m = mapped_some (λ now. now ∷ tables) (f rows) now e in
    subst (OneTable f zero (rows ∷ tables)) m.is (record { made = m.was; others = others m.value; as_many = refl })
  where
    others : (front : List Row) (m : ℕ) → (m ≡ zero → ⊥) → rows_in (front ∷ tables) m ≡ rows_in (rows ∷ tables) m
    others front zero differs = absurd (differs refl)
    others front (suc m) differs = refl
one_table f (suc n) (rows ∷ tables) now e =
    let m = mapped_some (λ rest. rows ∷ rest) (at_table f n tables) now e in
    let rest = one_table f n tables m.value m.was in
    subst (OneTable f (suc n) (rows ∷ tables)) m.is (record { made = rest.made; others = others m.value rest; as_many = ap suc rest.as_many })
  where
    others : (later : Tables) → OneTable f n tables later → (m : ℕ) → (m ≡ suc n → ⊥) → rows_in (rows ∷ later) m ≡ rows_in (rows ∷ tables) m
    others later rest zero differs = refl
    others later rest (suc m) differs = rest.others m (λ e. differs (ap suc e))

-- the tables after the first of some updates
first_made : (tables : Tables) (u : Update) (us : List Update) (now : Tables) → after tables (u ∷ us) ≡ Ok now → (mid : Tables) × OneTable (changed_rows u) u.table tables mid × (after mid us ≡ Ok now)
first_made tables u us now e =
    elim (at_table (changed_rows u) u.table tables) as (λ x. at_table (changed_rows u) u.table tables ≡ x → go_on u.line (λ now. after now us) x ≡ Ok now → (mid : Tables) × OneTable (changed_rows u) u.table tables mid × (after mid us ≡ Ok now)) [
      | None ↦ λ was e. absurd (cc)
      | Some mid ↦ λ was e. (mid, one_table (changed_rows u) u.table tables mid was, e)
    ] refl e

pub as_many_after : (tables : Tables) (us : List Update) (now : Tables) → after tables us ≡ Ok now → length now ≡ length tables
as_many_after tables [] now e = ap length (sym (same_Ok tables now e))
as_many_after tables (u ∷ us) now e =
    let first = first_made tables u us now e in
    as_many_after first.0 us now first.2 ∙ first.1.as_many

-- what holds of all rows of a table and of all rows put into it goes on to hold
pub all_after : (P : ℕ → Row → Type 0) (tables : Tables) (us : List Update) (now : Tables) → after tables us ≡ Ok now → ((n : ℕ) → AllByRecursion (P n) (rows_in tables n)) → AllByRecursion (λ u. P u.table u.row) us → (n : ℕ) → AllByRecursion (P n) (rows_in now n)
all_after P tables [] now e h hs n = subst (λ ts. AllByRecursion (P n) (rows_in ts n)) (same_Ok tables now e) (h n)
all_after P tables (u ∷ us) now e h hs n =
    let first = first_made tables u us now e in
    all_after P first.0 us now first.2 (λ m. one (first.0) (first.1) m) hs.1 n
  where
    here : (mid : Tables) → OneTable (changed_rows u) u.table tables mid → (m : ℕ) → (b : Bool) → (b ≡ true → m ≡ u.table) × (m ≡ u.table → b ≡ true) → AllByRecursion (P m) (rows_in mid m)
    here mid o m true d = subst (λ k. AllByRecursion (P k) (rows_in mid k)) (sym (d.0 refl)) (all_changed (P u.table) u (rows_in tables u.table) (rows_in mid u.table) o.made hs.0 (h u.table))
    here mid o m false d = subst (AllByRecursion (P m)) (sym (o.others m (λ e. absurd (true≢false (sym (d.1 e)))))) (h m)

    one : (mid : Tables) → OneTable (changed_rows u) u.table tables mid → (m : ℕ) → AllByRecursion (P m) (rows_in mid m)
    one mid o m = here mid o m (m == u.table) (Decides-eqb m u.table)

pub kinds_after : (kinds : ℕ → List Kind) (tables : Tables) (us : List Update) (now : Tables) → after tables us ≡ Ok now → ((n : ℕ) → AllByRecursion (λ r. AreOfKinds r (kinds n)) (rows_in tables n)) → AllByRecursion (λ u. AreOfKinds u.row (kinds u.table)) us → (n : ℕ) → AllByRecursion (λ r. AreOfKinds r (kinds n)) (rows_in now n)
kinds_after kinds = all_after (λ n r. AreOfKinds r (kinds n))

-- ---- the first update that fails

first_absent-here : (tables : Tables) (u : Update) (us : List Update) → u.insert ≡ false → count u.row (rows_in tables u.table) ≡ 0 → FirstAbsent tables (u ∷ us) u.line
first_absent-here tables u us is none = record { done = []; update = u; later = us; parts = refl; mid = tables; made = refl; line = refl; deletes = is; none = none }

first_absent-later : (tables mid : Tables) (u : Update) (us : List Update) (line : ℕ) → at_table (changed_rows u) u.table tables ≡ Some mid → FirstAbsent mid us line → FirstAbsent tables (u ∷ us) line
first_absent-later tables mid u us line was f = record {
  done = u ∷ f.done;
  update = f.update;
  later = f.later;
  parts = ap (λ rest. u ∷ rest) f.parts;
  mid = f.mid;
  made = ap (go_on u.line (λ now. after now f.done)) was ∙ f.made;
  line = f.line;
  deletes = f.deletes;
  none = f.none;
}

same_line : (a b : ℕ) → ◌≡◌ {A = Result Tables ℕ} (Err a) (Err b) → a ≡ b
same_line a b e = cc

pub first_fails : (tables : Tables) (us : List Update) (line : ℕ) → AllByRecursion (λ u. u.table < length tables) us → after tables us ≡ Err line → FirstAbsent tables us line
first_fails tables [] line hs e = absurd (cc)
first_fails tables (u ∷ us) line hs e =
    elim (at_table (changed_rows u) u.table tables) as (λ x. at_table (changed_rows u) u.table tables ≡ x → go_on u.line (λ now. after now us) x ≡ Err line → FirstAbsent tables (u ∷ us) line) [
      | None ↦ λ was e.
          let both : (u.insert ≡ false) × (count u.row (rows_in tables u.table) ≡ 0) = (changed_none u (rows_in tables u.table)).0 ((at_table_none (changed_rows u) u.table tables hs.0).0 was) in
          subst (FirstAbsent tables (u ∷ us)) (same_line u.line line e) (first_absent-here tables u us both.0 both.1)
      | Some mid ↦ λ was e.
          let many : length mid ≡ length tables = (one_table (changed_rows u) u.table tables mid was).as_many in
          first_absent-later tables mid u us line was (first_fails mid us line (subst (λ n. AllByRecursion (λ u. u.table < n) us) (sym many) hs.1) e)
    ] refl e

pub fails_at_first : (tables : Tables) (us : List Update) (line : ℕ) → AllByRecursion (λ u. u.table < length tables) us → FirstAbsent tables us line → after tables us ≡ Err line
fails_at_first tables us line hs f =
    ap (after tables) f.parts
    ∙ after_append tables f.done (f.update ∷ f.later) f.mid f.made
    ∙ ap (go_on f.update.line (λ now. after now f.later)) ((at_table_none (changed_rows f.update) f.update.table f.mid below).1 ((changed_none f.update (rows_in f.mid f.update.table)).1 (f.deletes, f.none)))
    ∙ ap Err f.line
  where
    below : f.update.table < length f.mid
    below = subst (λ n. f.update.table < n) (sym (as_many_after tables f.done f.mid f.made)) (all_back (λ u. u.table < length tables) f.done (f.update ∷ f.later) (subst (AllByRecursion (λ u. u.table < length tables)) f.parts hs)).0

pub first_absent_is : (tables : Tables) (us : List Update) (line : ℕ) → AllByRecursion (λ u. u.table < length tables) us → (after tables us ≡ Err line) ↔ FirstAbsent tables us line
first_absent_is tables us line hs = (first_fails tables us line hs, fails_at_first tables us line hs)
