-- Tables without rows: those of a program are good for its circuit, and it has the program's verdict over them.
use Rattle.std.proofs.Common.{◌≡◌, ℕ, zero, suc, ◌+◌, ◌^◌, ◌≤ℤ◌, ℤ, pos, List, [], ◌∷◌, ◌++◌, length, map, drop, true, false, Option, Some, refl, sym, ap, subst, ◌∙◌, arith, append_assoc}
use Rattle.std.specs.Prelude.{slice_get, if◌then◌else◌}
use Rattle.std.specs.List.{All, cons_option}
use borrow.Author.Differences.{ints}
use Rattle.sq_value.specs.declared.value.Value.{Value}
use Rattle.sq_value.specs.Order.{row_cmp}
use Rattle.sq_algebra.specs.ZSet.{entries-zero, int_sum_by, total}
use Rattle.sq_zset.proofs.Rows.{same_weights, weight-of_list, weight-zero}
use Rattle.sq_bridge.specs.Rows.{listed}
use Rattle.sq_catalog.specs.Sorts.{is_table, tables_of}
use Rattle.sq_catalog.specs.declared.relation.Relation.{Relation}
use Rattle.sq_catalog.specs.declared.relation.RelationKind.{RelationKind}
use Rattle.sq_catalog.specs.declared.relation.RelationKind.TheVariants.{Table, View}
use Rattle.sq_circuit.specs.Circuits as circuits
use Rattle.sq_circuit.specs.Circuits.{table_at}
use Rattle.sq_circuit.specs.Invariant.{HasKinds, IsGood, IsListed}
use Rattle.sq_circuit.specs.Nodes.{Rows, none}
use Rattle.sq_circuit.specs.declared.circuit.Part.{Part}
use Rattle.sq_expr.specs.declared.expr.Kind.{Kind}
use Rattle.sq_expr.specs.Kinds.{AreOfKinds}
use Rattle.sq_plan.specs.Program.{IsPlanOf, if_table, table_kinds}
use Rattle.sq_typed.specs.Fit.{TablesAreOfKinds, kinds_of}
use Rattle.sq_typed.specs.Views.{Meant}
use Rattle.sq_compile.specs.Programs.{empty_verdict}
use Rattle.sq_compile.specs.Relations.{empty_tables}
use Rattle.sq_compile.proofs.RelationLemmas.{drop_at, table_in_front, view_before_tables}

-- ---- of the program's kinds, and as many as the circuit's

empty_at_kind : (r : Relation) (rs : List Relation) (k : RelationKind) → r.kind ≡ k → TablesAreOfKinds (empty_tables rs) rs
    → TablesAreOfKinds (empty_tables (r ∷ rs)) (r ∷ rs)
empty_at_kind r rs Table e rest = rw e (tt, rest)
empty_at_kind r rs (View printed) e rest = rw e rest

pub kinds_empty : (relations : List Relation) → TablesAreOfKinds (empty_tables relations) relations
kinds_empty [] = tt
kinds_empty (r ∷ rs) = empty_at_kind r rs r.kind refl (kinds_empty rs)

pub many_mapped : {A B : Type 0} (f : A → B) (xs : List A) → length (map f xs) ≡ length xs
many_mapped f [] = refl
many_mapped f (x ∷ xs) = ap suc (many_mapped f xs)

pub kinds_by_table : (rs : List Relation) → table_kinds rs ≡ map kinds_of (tables_of rs)
kinds_by_table [] = refl
kinds_by_table (r ∷ rs) =
    elim r.kind as (λ k. cons_option (if_table k (kinds_of r)) (table_kinds rs) ≡ map kinds_of (if is_table k then r ∷ tables_of rs else tables_of rs)) [
      | Table ↦ ap (λ ks. kinds_of r ∷ ks) (kinds_by_table rs)
      | View printed ↦ kinds_by_table rs
    ]

-- ---- as Z-sets

pub none_is : none ≡ listed []
none_is = same_weights none (listed []) (λ row. weight-zero row ∙ sym (weight-of_list row []))

pub none_in : (rs : List Relation) (t : ℕ) → table_at (map listed (map (λ (r : Relation). []) rs)) t ≡ none
none_in [] t = refl
none_in (r ∷ rs) zero = sym none_is
none_in (r ∷ rs) (suc t) = none_in rs t

total_none : total none ≡ pos 0
unfolding total
total_none = ap (int_sum_by (λ (e : List Value × ℤ). e.1)) (entries-zero row_cmp)

listed_none : IsListed none
listed_none = record {
  above = λ row. let nothing = weight-zero row in subst (λ w. pos 0 ≤ℤ w) (sym nothing) (omega (arith, ints));
  few = subst (λ w. w ≤ℤ pos (2 ^ 61)) (sym total_none) (omega (arith, ints));
}

kinds_none : (kinds : List Kind) → HasKinds kinds none
kinds_none kinds = subst (λ (es : List (List Value × ℤ)). All (λ e. AreOfKinds e.0 kinds) es) (sym (entries-zero row_cmp)) (λ i d low. absurd (omega arith))

module _ (p : Meant) (c : List Part) (plan : IsPlanOf p c) (tables : List Rows) (are : tables ≡ map listed (empty_tables p.catalog)) where
  each_none : (t : ℕ) → table_at tables t ≡ none
  each_none t = ap (λ ts. table_at ts t) are ∙ none_in (tables_of p.catalog) t

  pub good_empty : IsGood c tables
  good_empty = record {
    count =
        ap length are ∙ many_mapped listed (empty_tables p.catalog) ∙ many_mapped (λ (r : Relation). []) (tables_of p.catalog)
        ∙ sym (plan.tables.many ∙ ap length (kinds_by_table p.catalog) ∙ many_mapped kinds_of (tables_of p.catalog));
    of_kinds = λ i q t e is. subst (λ z. HasKinds q.kinds z) (sym (each_none t)) (kinds_none q.kinds);
    listed = λ t. subst (λ z. IsListed z) (sym (each_none t)) listed_none;
  }

  -- a view is out of range over the circuit's tables without rows exactly if it is over the program's
  pub verdict_empty : (found : Option ℕ) → circuits.verdict c tables ≡ found → found ≡ empty_verdict p
  verdict_empty found is = sym is ∙ ap (circuits.verdict c) are ∙ plan.verdict (empty_tables p.catalog) (kinds_empty p.catalog)

-- ---- a turn of the loop that makes them

pub tables_passed : (relations : List Relation) (i : ℕ) (r : Relation) (out next : List Rows) (z : Rows) → out ++ map listed (empty_tables (drop i relations)) ≡ map listed (empty_tables relations)
    → slice_get relations i ≡ Some r → is_table r.kind ≡ true → z ≡ none → next ≡ out ++ z ∷ [] → next ++ map listed (empty_tables (drop (i + 1) relations)) ≡ map listed (empty_tables relations)
tables_passed relations i r out next z inv at is without e =
    let rest = map listed (empty_tables (drop (i + 1) relations)) in
    ap (λ t. t ++ rest) e ∙ append_assoc out (z ∷ []) rest ∙ ap (λ y. out ++ y ∷ rest) (without ∙ none_is)
    ∙ ap (λ t. out ++ map listed t) (sym (table_in_front r (drop (i + 1) relations) is)) ∙ ap (λ rs. out ++ map listed (empty_tables rs)) (sym (drop_at relations i r at)) ∙ inv

pub tables_skipped : (relations : List Relation) (i : ℕ) (r : Relation) (out next : List Rows) → out ++ map listed (empty_tables (drop i relations)) ≡ map listed (empty_tables relations)
    → slice_get relations i ≡ Some r → is_table r.kind ≡ false → next ≡ out → next ++ map listed (empty_tables (drop (i + 1) relations)) ≡ map listed (empty_tables relations)
tables_skipped relations i r out next inv at is e =
    ap (λ t. t ++ map listed (empty_tables (drop (i + 1) relations))) e
    ∙ ap (λ t. out ++ map listed t) (sym (view_before_tables r (drop (i + 1) relations) is)) ∙ ap (λ rs. out ++ map listed (empty_tables rs)) (sym (drop_at relations i r at)) ∙ inv
