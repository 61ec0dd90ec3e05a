-- Two lists of numbers are tables that a sample takes.
use Rattle.std.proofs.Common.{◌≡◌, ℕ, zero, suc, ◌^◌, List, [], ◌∷◌, length, get_or, pos, ◌≤ℤ◌, refl, sym, ap, subst, ◌∙◌, arith}
use Rattle.std.specs.Prelude.{None, Some, false, slice_get}
use Rattle.std.proofs.lemmas.Option.{same_Some}
use Rattle.sq_expr.specs.declared.expr.Kind.{Kind}
use Rattle.sq_expr.specs.declared.expr.Kind.TheVariants.{Integer}
use Rattle.std.specs.List.{All}
use borrow.Author.Differences.{ints}
use Rattle.sq_value.specs.Order.{row_cmp}
use Rattle.sq_expr.specs.Kinds.{AreOfKinds}
use Rattle.sq_algebra.specs.ZSet.{entries, entries-zero, int_sum_by, total}
use Rattle.sq_zset.proofs.Rows.{weight-zero}
use Rattle.sq_circuit.specs.Circuits.{table_at}
use Rattle.sq_circuit.specs.Invariant.{HasKinds, IsGood, IsListed, table_and_view}
use Rattle.sq_circuit.specs.Nodes.{Rows, none}
use Rattle.sq_circuit.specs.declared.circuit.Part.{Part}
use Rattle.sq_circuit.specs.declared.node.Node.TheVariants.{Table}
use Rattle.sq_tests_circuits.specs.Small.{AreLists, HasTwoTables, IsTable, IsTableOf, numbers}
use Rattle.sq_tests_circuits.proofs.NoneBelow.{none_below}

pub is_table : (columns : List Kind) (z : Rows) → HasKinds columns z → All (λ e. pos 0 ≤ℤ e.1) (entries z) → total z ≤ℤ pos (2 ^ 61) → IsTableOf columns z
is_table columns z kinds above few = record { of_kinds = kinds; listed = record { above = none_below z above; few = few } }

nothing : total none ≡ pos 0
unfolding total
nothing = ap (int_sum_by (λ e. e.1)) (entries-zero row_cmp)

no_rows : IsTable none
no_rows = record {
  of_kinds = subst (λ es. All (λ e. AreOfKinds e.0 numbers) es) (sym (entries-zero row_cmp)) (λ i d low. absurd (omega arith));
  listed = record { above = λ row. subst (λ n. pos 0 ≤ℤ n) (sym (weight-zero row)) (omega (arith, ints)); few = subst (λ n. n ≤ℤ pos (2 ^ 61)) (sym nothing) (omega (arith, ints)) };
}

pub are_lists : (tables : List Rows) (a b : Rows) → length tables ≡ 2 → a ≡ get_or tables 0 a → b ≡ get_or tables 1 b → IsTable a → IsTable b → AreLists tables
are_lists [] a b two first second h k = absurd (omega arith)
are_lists (x ∷ []) a b two first second h k = absurd (omega arith)
are_lists (x ∷ y ∷ z ∷ zs) a b two first second h k = absurd (omega arith)
are_lists (x ∷ y ∷ []) a b two first second h k = record { two = two; each = at }
  where
    at : (t : ℕ) → IsTable (table_at (x ∷ y ∷ []) t)
    at zero = subst IsTable first h
    at (suc zero) = subst IsTable second k
    at (suc (suc t)) = no_rows

pub good : (c : List Part) (tables : List Rows) → HasTwoTables c → AreLists tables → IsGood c tables
good c tables h l = record {
  count = l.two ∙ sym h.count;
  of_kinds = λ i p t at is. subst (λ kinds. HasKinds kinds (table_at tables t)) (sym (h.each i p t at is)) (l.each t).of_kinds;
  listed = λ t. (l.each t).listed;
}

-- one table of one INTEGER, for a circuit of it and a view of it
pub good_one : (tables : List Rows) (z : Rows) → length tables ≡ 1 → z ≡ get_or tables 0 z → IsTableOf (Integer ∷ []) z → IsGood (table_and_view (Integer ∷ [])) tables
good_one [] z one is h = absurd (omega arith)
good_one (x ∷ y ∷ zs) z one is h = absurd (omega arith)
good_one (x ∷ []) z one is h = record { count = refl; of_kinds = kinds; listed = listed }
  where
    listed : (t : ℕ) → IsListed (table_at (x ∷ []) t)
    listed zero = subst IsListed is h.listed
    listed (suc t) = no_rows.listed

    first : (p : Part) (t : ℕ) → record { node = Table 0; kinds = Integer ∷ []; place = false; owner = None } ≡ p → p.node ≡ Table t → HasKinds p.kinds (table_at (x ∷ []) t)
    first p zero e at = subst (λ q. HasKinds q.kinds x) e (subst (HasKinds (Integer ∷ [])) is h.of_kinds)
    first p (suc t) e at = absurd (let other = ap (λ q. q.node) e ∙ at in cc)

    kinds : (i : ℕ) (p : Part) (t : ℕ) → slice_get (table_and_view (Integer ∷ [])) i ≡ Some p → p.node ≡ Table t → HasKinds p.kinds (table_at (x ∷ []) t)
    kinds zero p t e at = first p t (same_Some _ p e) at
    kinds (suc zero) p t e at = absurd (let other = ap (λ q. q.node) (same_Some _ p e) ∙ at in cc)
    kinds (suc (suc i)) p t e at = absurd (cc e)
