-- The rows with a weight above 0 are those of the distinct Z-set.
use Rattle.std.proofs.Common.{◌≡◌, ℕ, ◌+◌, List, [], ◌∷◌, ◌++◌, map, Bool, true, false, cond, filter, take, ℤ, pos, Some, refl, sym, ap, ◌∙◌}
use Rattle.std.specs.Prelude.{int_lt, slice_get}
use Rattle.std.proofs.lemmas.List.{map-append}
use Rattle.std.proofs.lemmas.List.Elements.{filter-append}
use Rattle.sq_expr.proofs.Lists.{take_more}
use Rattle.sq_value.specs.declared.value.Value.{Value}
use Rattle.sq_value.specs.Order.{row_cmp}
use Rattle.sq_value.specs.OrderLaws.{row_cmp-total, row_cmp-antisymmetric}
use Rattle.sq_algebra.specs.Operators.{distinct}
use Rattle.sq_algebra.specs.ZSet.{ZSet, entries, from_pairs, keys, of_list}
use Rattle.sq_algebra.proofs.EntryLemmas.{entries-distinct, from_pairs-entries}

abbrev above : List Value × ℤ → Bool
above e = int_lt (pos 0) e.1

pub one_more : (es : List (List Value × ℤ)) (i : ℕ) (row : List Value) (n : ℤ) → slice_get es i ≡ Some (row, n) → keys (filter above (take (i + 1) es)) ≡ keys (filter above (take i es)) ++ cond (int_lt (pos 0) n) (row ∷ []) []
one_more es i row n found =
    ap (λ xs. keys (filter above xs)) (take_more es i (row, n) found)
    ∙ ap keys (filter-append above (take i es) ((row, n) ∷ []))
    ∙ map-append (λ (e : List Value × ℤ). e.0) (filter above (take i es)) (filter above ((row, n) ∷ []))
    ∙ ap (λ xs. keys (filter above (take i es)) ++ xs) (elim (int_lt (pos 0) n) as (λ b. keys (cond b ((row, n) ∷ []) []) ≡ cond b (row ∷ []) []) [ true ↦ refl | false ↦ refl ])

once_each : (es : List (List Value × ℤ)) → map {B = List Value × ℤ} (λ row. (row, pos 1)) (keys es) ≡ map {B = List Value × ℤ} (λ e. (e.0, pos 1)) es
once_each [] = refl
once_each (e ∷ es) = ap (λ xs. (e.0, pos 1) ∷ xs) (once_each es)

pub counted_above : (z : ZSet (List Value) row_cmp) → of_list row_cmp (keys (filter above (entries z))) ≡ distinct z
unfolding of_list
counted_above z =
    ap (from_pairs row_cmp) (once_each (filter above (entries z)) ∙ sym (entries-distinct row_cmp row_cmp-total row_cmp-antisymmetric z))
    ∙ from_pairs-entries row_cmp row_cmp-total (distinct z)
