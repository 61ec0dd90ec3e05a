-- Tables that are good for a circuit, from tests of their parts.
use Rattle.std.proofs.Common.{◌≡◌, ℕ, zero, suc, ◌+◌, ◌<◌, ◌≤◌, ◌^◌, ◌≤ℤ◌, ◌+ℤ◌, ℤ, Bool, true, false, cond, is_eq, List, [], ◌∷◌, length, get_or, take, pos, None, Some, refl, sym, ap, ap₂, subst, ◌∙◌, arith}
use Rattle.std.specs.Prelude.{slice_get}
use Rattle.std.specs.List.{AllByRecursion, filter}
use Rattle.std.proofs.lemmas.Bool.{cases_lt}
use Rattle.std.proofs.lemmas.Option.{same_Some}
use borrow.Author.Differences.{ints}
use mathlib.Core.Logic.{◌⊎◌, inl, inr}
use Rattle.sq_expr.specs.declared.expr.Kind.{Kind}
use Rattle.sq_value.specs.declared.value.Value.{Value}
use Rattle.sq_value.specs.Order.{row_cmp}
use Rattle.sq_algebra.specs.Operators.{IsNonNegative}
use Rattle.sq_algebra.specs.ZSet.{ZSet, entries, entries-zero, int_sum_by, total, weight, weight_in}
use Rattle.sq_zset.proofs.Rows.{weight-zero}
use Rattle.sq_circuit.specs.Circuits.{kinds_at, kinds_in, node_at, node_in, table_at}
use Rattle.sq_circuit.specs.Invariant.{HasKinds, IsGood, IsListed, is_table, table_count}
use Rattle.sq_circuit.specs.Nodes.{Rows, none}
use Rattle.sq_circuit.specs.declared.circuit.Part.{Part}
use Rattle.sq_circuit.specs.declared.node.Node.{Node}
use Rattle.sq_circuit.specs.declared.node.Node.TheVariants.{Table}
use Rattle.sq_good.specs.Tables.{AreListed, FitsNode, table_of}

-- ---- weights
one_more : (b : Bool) (n m : ℤ) → pos 0 ≤ℤ n → pos 0 ≤ℤ m → pos 0 ≤ℤ (cond b n (pos 0) +ℤ m)
one_more true n m g h = let p = g in let q = h in omega (arith, ints)
one_more false n m g h = omega (arith, ints)

above_in : (row : List Value) (es : List (List Value × ℤ)) → AllByRecursion (λ e. pos 0 ≤ℤ e.1) es → pos 0 ≤ℤ weight_in row_cmp row es
above_in row [] h = omega (arith, ints)
above_in row (e ∷ es) h = one_more (is_eq (row_cmp row e.0)) e.1 (weight_in row_cmp row es) h.0 (above_in row es h.1)

none_below : (z : ZSet (List Value) row_cmp) → AllByRecursion (λ e. pos 0 ≤ℤ e.1) (entries z) → IsNonNegative z
unfolding weight
none_below z all row = above_in row (entries z) all

pub listed : (z : Rows) → AllByRecursion (λ e. pos 0 ≤ℤ e.1) (entries z) → total z ≤ℤ pos (2 ^ 61) → IsListed z
listed z above few = record { above = none_below z above; few = few }

-- ---- no rows
nothing : total none ≡ pos 0
unfolding total
nothing = ap (int_sum_by (λ (e : List Value × ℤ). e.1)) (entries-zero row_cmp)

listed_none : IsListed none
listed_none = record {
  above = λ row. subst (λ n. pos 0 ≤ℤ n) (sym (weight-zero row)) (omega (arith, ints));
  few = subst (λ n. n ≤ℤ pos (2 ^ 61)) (sym nothing) (omega (arith, ints));
}

-- ---- tables by number
up_to : (tables : List Rows) (i : ℕ) (z : Rows) → i < length tables → z ≡ get_or tables i z → IsListed z → AllByRecursion IsListed (take i tables) → AllByRecursion IsListed (take (suc i) tables)
up_to [] i z low is h so_far = absurd (omega arith)
up_to (x ∷ xs) zero z low is h so_far = (subst IsListed is h, tt)
up_to (x ∷ xs) (suc i) z low is h so_far = (so_far.0, up_to xs i z (omega arith) is h so_far.1)

pub next_listed : (tables : List Rows) (i : ℕ) (z : Rows) → i < length tables → z ≡ get_or tables i z → IsListed z → AllByRecursion IsListed (take i tables) → AllByRecursion IsListed (take (i + 1) tables)
next_listed tables i z low is h so_far =
    let next : suc i ≡ i + 1 = omega arith in
    subst (λ n. AllByRecursion IsListed (take n tables)) next (up_to tables i z low is h so_far)

pub all_listed : (tables : List Rows) → AllByRecursion IsListed tables → AreListed tables
all_listed [] h t = listed_none
all_listed (x ∷ xs) h zero = h.0
all_listed (x ∷ xs) h (suc t) = all_listed xs h.1 t

pub kinds_there : (tables : List Rows) (t : ℕ) (z : Rows) (kinds : List Kind) → t < length tables → z ≡ get_or tables t z → HasKinds kinds z → HasKinds kinds (table_at tables t)
kinds_there [] t z kinds low is h = absurd (omega arith)
kinds_there (x ∷ xs) zero z kinds low is h = subst (λ y. HasKinds kinds y) is h
kinds_there (x ∷ xs) (suc t) z kinds low is h = kinds_there xs t z kinds (omega arith) is h

-- ---- nodes of tables
of_a_table : (n : Node) (t : ℕ) → n ≡ Table t → table_of n ≡ Some t
of_a_table n t is = ap table_of is

pub fits : (c : List Part) (tables : List Rows) (i t : ℕ) (n : Node) (kinds : List Kind) → node_at c i ≡ Some n → Some t ≡ table_of n → kinds ≡ kinds_at c i → HasKinds kinds (table_at tables t) → FitsNode c tables i
fits c tables i t n kinds at is of_node h p u here node =
    let same : p.node ≡ n = same_Some p.node n (sym (ap node_in here) ∙ at) in
    let number : t ≡ u = same_Some t u (is ∙ sym (ap table_of same) ∙ of_a_table p.node u node) in
    subst (λ k. HasKinds p.kinds (table_at tables k)) number (subst (λ ks. HasKinds ks (table_at tables t)) (of_node ∙ ap kinds_in here) h)

pub fits_no_table : (c : List Part) (tables : List Rows) (i : ℕ) (n : Node) → node_at c i ≡ Some n → None ≡ table_of n → FitsNode c tables i
fits_no_table c tables i n at is p u here node =
    let same : p.node ≡ n = same_Some p.node n (sym (ap node_in here) ∙ at) in
    absurd (let never = is ∙ sym (ap table_of same) ∙ of_a_table p.node u node in cc)

-- ---- all nodes
inside : (c : List Part) (i : ℕ) (p : Part) → slice_get c i ≡ Some p → i < length c
inside [] i p e = absurd (cc e)
inside (q ∷ c) zero p e = omega arith
inside (q ∷ c) (suc i) p e = let low = inside c i p e in omega arith

pub next_fits : (c : List Part) (tables : List Rows) (i : ℕ) → FitsNode c tables i → ((j : ℕ) → j < i → FitsNode c tables j) → (j : ℕ) → j < i + 1 → FitsNode c tables j
next_fits c tables i here so_far j low = step (cases_lt j i)
  where
    step : (j < i) ⊎ (i ≤ j) → FitsNode c tables j
    step (inl before) = so_far j before
    step (inr behind) = let same : i ≡ j = omega arith in subst (FitsNode c tables) same here

pub good : (c : List Part) (tables : List Rows) (past : ℕ) → length tables ≡ table_count c → AreListed tables → length c ≤ past → ((j : ℕ) → j < past → FitsNode c tables j) → IsGood c tables
good c tables past count listed all fit = record {
  count = count;
  of_kinds = λ i p t e is. fit i (let low = inside c i p e in omega arith) p t e is;
  listed = listed;
}
