-- What updates change: update by update, by weights, totals and kinds.
use Rattle.std.proofs.Common.{◌≡◌, ℕ, suc, ◌<◌, ◌≤◌, ◌^◌, ◌==◌, Bool, true, false, cond, List, [], ◌∷◌, ◌++◌, map, length, ℤ, pos, negsuc, ◌+ℤ◌, unsigned_abs, is_eq, Err, sym, ap, ap₂, subst, ◌∙◌, arith}
use Rattle.std.specs.List.{filter}
use Rattle.std.proofs.lemmas.List.{map-append}
use Rattle.std.proofs.lemmas.List.Elements.{filter-append}
use borrow.Author.Differences.{ints}
use Rattle.sq_value.specs.declared.value.Value.{Value}
use Rattle.sq_value.specs.Order.{row_cmp}
use Rattle.sq_algebra.specs.ZSet.{from_pairs, plus, weight}
use Rattle.sq_zset.proofs.Entries.{abs_sum}
use Rattle.sq_zset.proofs.Masses.{in_range-weights}
use Rattle.sq_zset.proofs.Rows.{from_pairs-append, same_weights, weight-from_pairs, weight-plus, weight-zero}
use Rattle.sq_zset.specs.Range.{IsInRange}
use Rattle.sq_typed.specs.declared.update.Update.{Update}
use Rattle.sq_circuit.specs.Along.{each_below}
use Rattle.sq_circuit.specs.Circuits.{table_at}
use Rattle.sq_circuit.specs.Nodes.{Rows, none}
use Rattle.sq_circuit.proofs.Alongside.{each-length}
use Rattle.sq_engine.specs.Admitting.{lacks, made, net, netted, signed, step_at}
use Rattle.sq_engine.specs.Engines.{with_changes}
use Rattle.sq_tables.proofs.Standing.{each_same}
use Rattle.sq_engine.proofs.Listing.{each_got, plus_none, same_tables}

-- ---- updates one after the other
pub net_append : (t : ℕ) (us vs : List Update) → net t (us ++ vs) ≡ plus (net t us) (net t vs)
net_append t us vs =
    ap (λ ws. from_pairs row_cmp (map signed ws)) (filter-append (λ (u : Update). u.table == t) us vs)
    ∙ ap (from_pairs row_cmp) (map-append signed (filter (λ (u : Update). u.table == t) us) (filter (λ (u : Update). u.table == t) vs))
    ∙ from_pairs-append (map signed (filter (λ (u : Update). u.table == t) us)) (map signed (filter (λ (u : Update). u.table == t) vs))

sum_parted : (x y z : Rows) → plus (plus x y) z ≡ plus x (plus y z)
sum_parted x y z = same_weights (plus (plus x y) z) (plus x (plus y z)) (λ row.
    let a = weight-plus row (plus x y) z in
    let b = weight-plus row x y in
    let c = weight-plus row x (plus y z) in
    let d = weight-plus row y z in
    omega (arith, ints))

module _ (tables : List Rows) where
  -- the tables after some updates
  abbrev pub now_by : List Update → List Rows
  now_by us = with_changes tables (netted (length tables) us)

  pub as_many : (us : List Update) → length (now_by us) ≡ length tables
  as_many us = each-length (λ t. plus (table_at tables t) (table_at (netted (length tables) us) t)) (length tables)

  pub table_by : (us : List Update) (t : ℕ) → t < length tables → table_at (now_by us) t ≡ plus (table_at tables t) (net t us)
  table_by us t low =
      each_got (λ t. plus (table_at tables t) (table_at (netted (length tables) us) t)) (length tables) t low
      ∙ ap (λ z. plus (table_at tables t) z) (each_got (λ t. net t us) (length tables) t low)

  -- no updates change nothing
  pub now_none : now_by [] ≡ tables
  now_none = same_tables (now_by []) tables (as_many []) (λ t low.
      table_by [] t (let many = as_many [] in omega arith)
      ∙ ap (λ z. plus (table_at tables t) z) (same_weights (net t []) none (λ row. weight-from_pairs row [] ∙ sym (weight-zero row)))
      ∙ plus_none (table_at tables t))

  -- further updates go on from there
  pub go_on : (us vs : List Update) → with_changes (now_by us) (netted (length (now_by us)) vs) ≡ now_by (us ++ vs)
  go_on us vs =
      ap (λ n. each_below (λ t. plus (table_at (now_by us) t) (table_at (netted n vs) t)) n) (as_many us)
      ∙ each_same (λ t. plus (table_at (now_by us) t) (table_at (netted (length tables) vs) t)) (λ t. plus (table_at tables t) (table_at (netted (length tables) (us ++ vs)) t)) (length tables) (λ t low.
      ap₂ (λ y z. plus y z) (table_by us t low) (each_got (λ t. net t vs) (length tables) t low)
      ∙ sum_parted (table_at tables t) (net t us) (net t vs)
      ∙ ap (λ z. plus (table_at tables t) z) (sym (net_append t us vs) ∙ sym (each_got (λ t. net t (us ++ vs)) (length tables) t low)))

  -- the next update, if its table does not lack its row
  pub made_next : (us vs : List Update) (u : Update) → lacks (now_by us) u ≡ false → made (now_by us) (u ∷ vs) ≡ made (now_by (us ++ u ∷ [])) vs
  made_next us vs u has = ap (λ b. cond b (Err u.line) (made (with_changes (now_by us) (netted (length (now_by us)) (u ∷ []))) vs)) has ∙ ap (λ ts. made ts vs) (go_on us (u ∷ []))

  pub made_lacks : (us vs : List Update) (u : Update) → lacks (now_by us) u ≡ true → made (now_by us) (u ∷ vs) ≡ Err u.line
  made_lacks us vs u lacking = ap (λ b. cond b (Err u.line) (made (with_changes (now_by us) (netted (length (now_by us)) (u ∷ []))) vs)) lacking

-- ---- weights
nothing_more : (w : ℤ) → w +ℤ pos 0 ≡ w
nothing_more w = omega (arith, ints)

pub weight_one : (t : ℕ) (row : List Value) (u : Update) → weight row (net t (u ∷ [])) ≡ step_at t row u
weight_one t row u =
    elim (u.table == t) as (λ b. weight row (from_pairs row_cmp (map signed (cond b (u ∷ []) []))) ≡ cond b (cond (is_eq (row_cmp row u.row)) (signed u).1 (pos 0)) (pos 0)) [
      | true ↦ weight-from_pairs row (signed u ∷ []) ∙ nothing_more (cond (is_eq (row_cmp row u.row)) (signed u).1 (pos 0))
      | false ↦ weight-from_pairs row []
    ]

pub weight_next : (t : ℕ) (row : List Value) (us : List Update) (u : Update) → weight row (net t (us ++ u ∷ [])) ≡ weight row (net t us) +ℤ step_at t row u
weight_next t row us u = ap (weight row) (net_append t us (u ∷ [])) ∙ weight-plus row (net t us) (net t (u ∷ [])) ∙ ap (λ w. weight row (net t us) +ℤ w) (weight_one t row u)

step_small : (t : ℕ) (row : List Value) (u : Update) → unsigned_abs (step_at t row u) ≤ 1
step_small t row u = small (u.table == t) (is_eq (row_cmp row u.row)) u.insert
  where
    small : (a b c : Bool) → unsigned_abs (cond a (cond b (cond c (pos 1) (negsuc 0)) (pos 0)) (pos 0)) ≤ 1
    small true true true = omega arith
    small true true false = omega arith
    small true false c = omega arith
    small false b c = omega arith

pub net_small : (t : ℕ) (row : List Value) (us : List Update) → unsigned_abs (weight row (net t us)) ≤ length us
net_small t row [] = subst (λ w. unsigned_abs w ≤ 0) (sym (weight-from_pairs row [])) (omega arith)
net_small t row (u ∷ us) =
    subst (λ w. unsigned_abs w ≤ suc (length us))
    (sym (ap (weight row) (net_append t (u ∷ []) us) ∙ weight-plus row (net t (u ∷ [])) (net t us)))
    (abs_sum (weight row (net t (u ∷ []))) (weight row (net t us)) 1 (length us) (suc (length us)) (subst (λ w. unsigned_abs w ≤ 1) (sym (weight_one t row u)) (step_small t row u)) (net_small t row us) (omega arith))

pub net_in_range : (t : ℕ) (us : List Update) → length us ≤ 2 ^ 62 → IsInRange (net t us)
net_in_range t us few = in_range-weights (net t us) (λ row. let small = net_small t row us in omega arith)
