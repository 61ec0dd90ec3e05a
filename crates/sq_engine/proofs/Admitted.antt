-- Tables that updates make are good, if the tables before them are: no weight is below 0, and not more rows than were put in.
use Rattle.std.proofs.Common.{◌≡◌, ℕ, zero, suc, ◌+◌, ◌<◌, ◌≤◌, ◌^◌, ◌==◌, ◌⊎◌, inl, inr, Bool, true, false, cond, not, ◌&&◌, List, [], ◌∷◌, map, length, length-append, Ok, Err, ℤ, pos, negsuc, ◌+ℤ◌, ◌≤ℤ◌, is_eq, refl, sym, ap, ap₂, subst, ◌∙◌, arith}
use Rattle.std.specs.declared.result.Result.{Result}
use Rattle.std.specs.List.{All, AllByRecursion}
use Rattle.std.proofs.lemmas.Bool.Decides.{Decides-eqb}
use Rattle.std.proofs.lemmas.List.Elements.{All-from_recursion, filter-append}
use Rattle.std.specs.Prelude.{Some, int_lt, slice_get}
use Rattle.std.proofs.lemmas.Bool.{cases_lt}
use borrow.Author.Differences.{ints}
use Rattle.sq_value.specs.declared.value.Value.{Value}
use Rattle.sq_value.specs.Order.{row_cmp}
use Rattle.sq_algebra.specs.Operators.{IsNonNegative}
use Rattle.sq_algebra.specs.ZSet.{collect, from_pairs, plus, total, weight}
use Rattle.sq_value.specs.OrderLaws.{row_cmp-total}
use Rattle.sq_algebra.proofs.EachLemmas.{each-plus}
use Rattle.sq_algebra.proofs.Weights.{entries-from_pairs, total-from_pairs}
use Rattle.sq_expr.specs.declared.expr.Kind.{Kind}
use Rattle.sq_expr.specs.Kinds.{AreOfKinds}
use Rattle.sq_zset.proofs.Rows.{total-plus, weight-plus, weight-zero}
use Rattle.sq_ops.proofs.Indexing.{same_row}
use Rattle.sq_typed.specs.declared.update.Update.{Update}
use Rattle.sq_circuit.specs.Circuits.{kinds_at, kinds_in, table_at}
use Rattle.sq_circuit.specs.Invariant.{HasKinds, IsCircuit, IsGood, IsInOrder, view_count}
use Rattle.sq_circuit.specs.declared.circuit.Part.{Part}
use Rattle.sq_circuit.specs.declared.node.Node.TheVariants.{Table}
use Rattle.sq_circuit.specs.Nodes.{Rows}
use Rattle.sq_engine.specs.Admitting.{MayAdmit, inserted, lacks, made, net, netted, signed, step_at}
use Rattle.sq_engine.specs.Engines.{State, with_changes}
use Rattle.sq_engine.proofs.Keeping.{total_none}
use Rattle.sq_engine.proofs.Listing.{each_past, past_tables}
use Rattle.sq_engine.proofs.Netting.{as_many, net_append, now_by, table_by, weight_one}

same_Ok : (a b : List Rows) → ◌≡◌ {A = Result (List Rows) ℕ} (Ok a) (Ok b) → a ≡ b
same_Ok a b e = cc

-- ---- no weight below 0
one_fewer : (w : ℤ) → int_lt (pos 0) w ≡ true → pos 0 ≤ℤ (w +ℤ negsuc 0)
one_fewer (pos zero) more = absurd (cc more)
one_fewer (pos (suc n)) more = omega (arith, ints)
one_fewer (negsuc n) more = absurd (cc more)

module _ (ts : List Rows) (u : Update) (has : lacks ts u ≡ false) (t : ℕ) (row : List Value) (above : pos 0 ≤ℤ weight row (table_at ts t)) where
  -- the row that is taken away is there
  there : (b : Bool) → int_lt (pos 0) (weight u.row (table_at ts u.table)) ≡ b → (u.insert ≡ false) → pos 0 ≤ℤ (weight u.row (table_at ts u.table) +ℤ negsuc 0)
  there true more no_insert = one_fewer (weight u.row (table_at ts u.table)) more
  there false more no_insert = absurd (let lacking = sym (ap₂ (λ a b. not a && not b) no_insert more) ∙ has in cc lacking)

  signed_above : (b : Bool) → u.insert ≡ b → weight u.row (table_at ts u.table) ≡ weight row (table_at ts t) → pos 0 ≤ℤ (weight row (table_at ts t) +ℤ cond b (pos 1) (negsuc 0))
  signed_above true is same = let now = above in omega (arith, ints)
  signed_above false is same = subst (λ w. pos 0 ≤ℤ (w +ℤ negsuc 0)) same (there (int_lt (pos 0) (weight u.row (table_at ts u.table))) refl is)

  row_above : (b : Bool) → is_eq (row_cmp row u.row) ≡ b → u.table ≡ t → pos 0 ≤ℤ (weight row (table_at ts t) +ℤ cond b (signed u).1 (pos 0))
  row_above true is at = signed_above u.insert refl (ap₂ (λ r n. weight r (table_at ts n)) (sym (same_row row u.row is)) at)
  row_above false is at = let now = above in omega (arith, ints)

  table_above : (b : Bool) → (u.table == t) ≡ b → pos 0 ≤ℤ (weight row (table_at ts t) +ℤ cond b (cond (is_eq (row_cmp row u.row)) (signed u).1 (pos 0)) (pos 0))
  table_above true is = row_above (is_eq (row_cmp row u.row)) refl ((Decides-eqb u.table t).0 is)
  table_above false is = let now = above in omega (arith, ints)

  pub stays_above : pos 0 ≤ℤ (weight row (table_at ts t) +ℤ step_at t row u)
  stays_above = table_above (u.table == t) refl

above_next : (ts : List Rows) (u : Update) → lacks ts u ≡ false → ((t : ℕ) → IsNonNegative (table_at ts t)) → (t : ℕ) → IsNonNegative (table_at (with_changes ts (netted (length ts) (u ∷ []))) t)
above_next ts u has above t row = step (cases_lt t (length ts))
  where
    step : (t < length ts) ⊎ (length ts ≤ t) → pos 0 ≤ℤ weight row (table_at (with_changes ts (netted (length ts) (u ∷ []))) t)
    step (inl low) =
        subst (λ w. pos 0 ≤ℤ w)
        (sym (ap (weight row) (table_by ts (u ∷ []) t low) ∙ weight-plus row (table_at ts t) (net t (u ∷ [])) ∙ ap (λ w. weight row (table_at ts t) +ℤ w) (weight_one t row u)))
        (stays_above ts u has t row (above t row))
    step (inr high) =
        let nothing = weight-zero row in
        subst (λ z. pos 0 ≤ℤ weight row z) (sym (each_past (λ t. plus (table_at ts t) (table_at (netted (length ts) (u ∷ [])) t)) (length ts) t high)) (subst (λ w. pos 0 ≤ℤ w) (sym nothing) (omega (arith, ints)))

pub made_above : (us : List Update) (ts now : List Rows) → made ts us ≡ Ok now → ((t : ℕ) → IsNonNegative (table_at ts t)) → (t : ℕ) → IsNonNegative (table_at now t)
made_above [] ts now is above = λ t. subst (λ (xs : List Rows). IsNonNegative (table_at xs t)) (same_Ok ts now is) (above t)
made_above (u ∷ us) ts now is above =
    elim (lacks ts u) as (λ b. lacks ts u ≡ b → (t : ℕ) → IsNonNegative (table_at now t)) [
      | true ↦ λ lacking. absurd (let stops : ◌≡◌ {A = Result (List Rows) ℕ} (Err u.line) (Ok now) = sym (goes_on lacking) ∙ is in cc stops)
      | false ↦ λ has. made_above us next now (sym (goes_on has) ∙ is) (above_next ts u has above)
    ] refl
  where
    next : List Rows
    next = with_changes ts (netted (length ts) (u ∷ []))

    goes_on : {b : Bool} → lacks ts u ≡ b → made ts (u ∷ us) ≡ cond b (Err u.line) (made next us)
    goes_on e = ap (λ b. cond b (Err u.line) (made next us)) e

-- ---- totals
one_total : (row : List Value) (n : ℤ) → total (from_pairs row_cmp ((row, n) ∷ [])) ≡ n +ℤ pos 0
one_total row n = total-from_pairs row_cmp row_cmp-total ((row, n) ∷ [])

no_total : total (from_pairs row_cmp []) ≡ pos 0
no_total = total-from_pairs row_cmp row_cmp-total []

one_few : (t : ℕ) (u : Update) → total (net t (u ∷ [])) ≤ℤ pos (inserted t (u ∷ []))
one_few t u = by_table (u.table == t)
  where
    here : (b : Bool) → total (from_pairs row_cmp ((u.row, cond b (pos 1) (negsuc 0)) ∷ [])) ≤ℤ pos (length (cond (b && true) (u ∷ []) []))
    here true = let one = one_total u.row (pos 1) in omega (arith, ints)
    here false = let one = one_total u.row (negsuc 0) in omega (arith, ints)

    there : (b : Bool) → total (from_pairs row_cmp []) ≤ℤ pos (length (cond (b && false) (u ∷ []) []))
    there true = let nothing = no_total in omega (arith, ints)
    there false = let nothing = no_total in omega (arith, ints)

    by_table : (a : Bool) → total (from_pairs row_cmp (map signed (cond a (u ∷ []) []))) ≤ℤ pos (length (cond (u.insert && a) (u ∷ []) []))
    by_table true = here u.insert
    by_table false = there u.insert

pub net_few : (t : ℕ) (us : List Update) → total (net t us) ≤ℤ pos (inserted t us)
net_few t [] = let nothing = no_total in omega (arith, ints)
net_few t (u ∷ us) =
    let both = ap total (net_append t (u ∷ []) us) ∙ total-plus (net t (u ∷ [])) (net t us) in
    let count : inserted t (u ∷ us) ≡ inserted t (u ∷ []) + inserted t us = ap length (filter-append (λ (u : Update). u.insert && (u.table == t)) (u ∷ []) us) ∙ length-append _ _ in
    let one = one_few t u in
    let rest = net_few t us in
    omega (arith, ints)

-- a table grows by no more than was put into it
pub total_made : (tables : List Rows) (us : List Update) (t : ℕ) → total (table_at (now_by tables us) t) ≤ℤ (total (table_at tables t) +ℤ pos (inserted t us))
total_made tables us t = step (cases_lt t (length tables))
  where
    step : (t < length tables) ⊎ (length tables ≤ t) → total (table_at (now_by tables us) t) ≤ℤ (total (table_at tables t) +ℤ pos (inserted t us))
    step (inl low) =
        let sum = ap total (table_by tables us t low) ∙ total-plus (table_at tables t) (net t us) in
        let few = net_few t us in
        omega (arith, ints)
    step (inr high) =
        let now = ap total (past_tables (now_by tables us) t (let many = as_many tables us in omega arith)) in
        let before = ap total (past_tables tables t high) in
        let nothing = total_none in
        omega (arith, ints)

-- ---- kinds
module _ (kinds : List Kind) where
  kinds_plus : (y z : Rows) → HasKinds kinds y → HasKinds kinds z → HasKinds kinds (plus y z)
  kinds_plus = each-plus (λ (row : List Value). AreOfKinds row kinds) row_cmp row_cmp-total

  kinds_pairs : (ps : List (List Value × ℤ)) → AllByRecursion (λ e. AreOfKinds e.0 kinds) (collect row_cmp ps) → HasKinds kinds (from_pairs row_cmp ps)
  kinds_pairs ps each =
      subst (λ es. All (λ e. AreOfKinds e.0 kinds) es) (sym (entries-from_pairs row_cmp row_cmp-total ps))
      (All-from_recursion (λ (e : List Value × ℤ). AreOfKinds e.0 kinds) (collect row_cmp ps) each)

  kinds_row : (row : List Value) (b : Bool) → AreOfKinds row kinds → HasKinds kinds (from_pairs row_cmp ((row, cond b (pos 1) (negsuc 0)) ∷ []))
  kinds_row row true fits = kinds_pairs ((row, pos 1) ∷ []) (fits, tt)
  kinds_row row false fits = kinds_pairs ((row, negsuc 0) ∷ []) (fits, tt)

kinds_one : (c : List Part) (t : ℕ) (u : Update) → AreOfKinds u.row (kinds_at c u.table) → HasKinds (kinds_at c t) (net t (u ∷ []))
kinds_one c t u fits = step (u.table == t) refl
  where
    step : (b : Bool) → (u.table == t) ≡ b → HasKinds (kinds_at c t) (from_pairs row_cmp (map signed (cond b (u ∷ []) [])))
    step true is = kinds_row (kinds_at c t) u.row u.insert (subst (λ n. AreOfKinds u.row (kinds_at c n)) ((Decides-eqb u.table t).0 is) fits)
    step false is = kinds_pairs (kinds_at c t) [] tt

net_kinds : (c : List Part) (t : ℕ) (us : List Update) → AllByRecursion (λ u. AreOfKinds u.row (kinds_at c u.table)) us → HasKinds (kinds_at c t) (net t us)
net_kinds c t [] fit = kinds_pairs (kinds_at c t) [] tt
net_kinds c t (u ∷ us) fit =
    subst (λ z. HasKinds (kinds_at c t) z) (sym (net_append t (u ∷ []) us))
    (kinds_plus (kinds_at c t) (net t (u ∷ [])) (net t us) (kinds_one c t u fit.0) (net_kinds c t us fit.1))

-- ---- good tables
module _ (s : State) (us : List Update) (sound : IsCircuit s.circuit) (good : IsGood s.circuit s.tables) (may : MayAdmit s us) where
  made_kinds : (i : ℕ) (p : Part) (t : ℕ) → slice_get s.circuit i ≡ Some p → p.node ≡ Table t → HasKinds p.kinds (table_at (now_by s.tables us) t)
  made_kinds i p t at is =
      let stands : IsInOrder (length s.circuit) (view_count s.circuit) s.circuit i (Table t) = subst (IsInOrder (length s.circuit) (view_count s.circuit) s.circuit i) is (sound.parts i p at).in_order in
      let same : kinds_at s.circuit t ≡ p.kinds = ap kinds_in (ap (slice_get s.circuit) (sym stands.0) ∙ at) in
      let low : t < length s.tables = (let many = good.count in let few = stands.1 in omega arith) in
      subst (λ z. HasKinds p.kinds z) (sym (table_by s.tables us t low))
      (kinds_plus p.kinds (table_at s.tables t) (net t us) (good.of_kinds i p t at is) (subst (λ k. HasKinds k (net t us)) same (net_kinds s.circuit t us may.of_kinds)))

  made_few : (t : ℕ) → total (table_at (now_by s.tables us) t) ≤ℤ pos (2 ^ 61)
  made_few t = let grows = total_made s.tables us t in let room = may.few t in omega (arith, ints)

  pub good_made : made s.tables us ≡ Ok (now_by s.tables us) → IsGood s.circuit (now_by s.tables us)
  good_made is = record {
    count = as_many s.tables us ∙ good.count;
    of_kinds = made_kinds;
    listed = λ t. record { above = made_above us s.tables (now_by s.tables us) is (λ t. (good.listed t).above) t; few = made_few t };
  }
