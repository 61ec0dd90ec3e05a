-- The items of a row, computed one after the other.
use Rattle.std.proofs.Common.{◌≡◌, ℕ, suc, ◌+◌, List, [], ◌∷◌, ◌++◌, take, drop, ℤ, Some, None, sym, ap, ap₂, subst, ◌∙◌, append-nil}
use Rattle.std.specs.Prelude.{FitsSigned, slice_get}
use Rattle.std.specs.Int.{w64}
use Rattle.std.specs.List.{flat_map}
use Rattle.std.proofs.lemmas.List.{map-append}
use Rattle.std.proofs.lemmas.Grind.{flat_map-append}
use Rattle.sq_expr.proofs.Lists.{take_more}
use Rattle.sq_value.specs.declared.value.Value.{Value}
use Rattle.sq_value.specs.declared.value.Value.TheVariants.{Int}
use Rattle.sq_expr.specs.declared.expr.Expr.{Expr}
use Rattle.sq_expr.specs.declared.value.ItemFault.{ItemFault}
use Rattle.sq_expr.specs.declared.value.ItemFault.TheVariants as item
use Rattle.sq_expr.specs.Items.{HasCause, IsStorable}
use Rattle.sq_expr.specs.Meaning.{num}
use Rattle.sq_ops.specs.declared.fault.OpFault.TheVariants as op
use Rattle.sq_expr.specs.Bigint.{first_not_bigint}
use Rattle.sq_ops.specs.Faults.{fault_of}
use Rattle.sq_ops.specs.Rows.{items_of, number_in, numbers_of}
use Rattle.sq_ops.proofs.Lists.{split_here}
use Rattle.sq_ops.proofs.Ranges.{first_here, first_later, item_inside, item_outside}

-- the first i items are computed, and none of their numbers lies outside
pub record Computed (items : List Expr) (row : List Value) (i : ℕ) (values : List Value) : Type 0 where
  pub computed : values ≡ items_of (take i items) row
  pub in_range : first_not_bigint (numbers_of (take i items) row) ≡ None

numbers_joined : (xs ys : List Expr) (row : List Value) → numbers_of (xs ++ ys) row ≡ numbers_of xs row ++ numbers_of ys row
numbers_joined xs ys row = ap (flat_map number_in) (map-append (λ e. num e row) xs ys) ∙ flat_map-append number_in (items_of xs row) (items_of ys row)

module _ (items : List Expr) (row : List Value) (i : ℕ) (e : Expr) (found : slice_get items i ≡ Some e) where
  -- one item more
  pub one_computed : (olds news : List Value) (x : Value) → Computed items row i olds → news ≡ olds ++ x ∷ [] → x ≡ num e row → IsStorable (num e row) → Computed items row (i + 1) news
  one_computed olds news x so_far made value storable = record {
    computed = made ∙ ap₂ (λ xs y. xs ++ y ∷ []) so_far.computed value ∙ sym (map-append (λ e. num e row) (take i items) (e ∷ [])) ∙ ap (λ xs. items_of xs row) (sym (take_more items i e found));
    in_range =
        ap (λ xs. first_not_bigint (numbers_of xs row)) (take_more items i e found)
        ∙ ap first_not_bigint (numbers_joined (take i items) (e ∷ []) row)
        ∙ first_later (numbers_of (take i items) row) (numbers_of (e ∷ []) row) so_far.in_range
        ∙ ap first_not_bigint (append-nil (number_in (num e row)))
        ∙ item_inside (num e row) storable;
  }

  -- an item outside the range is the first such one
  pub one_outside : (values : List Value) (n : ℤ) → Computed items row i values → num e row ≡ Int n → ¬ FitsSigned w64 n → first_not_bigint (numbers_of items row) ≡ Some n
  one_outside values n so_far value out =
      ap (λ xs. first_not_bigint (numbers_of xs row)) (split_here items i e found)
      ∙ ap first_not_bigint (numbers_joined (take i items) (e ∷ drop (suc i) items) row)
      ∙ first_later (numbers_of (take i items) row) (numbers_of (e ∷ drop (suc i) items) row) so_far.in_range
      ∙ first_here (number_in (num e row)) (numbers_of (drop (suc i) items) row) n (item_outside (num e row) n value out)

same_number : (m n : ℤ) → op.Value m ≡ op.Value n → m ≡ n
same_number m n e = cc

-- what a refused item says of the fault that it becomes
pub refused_for : (f : ItemFault) (x : Value) (n : ℤ) → fault_of f ≡ op.Value n → HasCause f x → (x ≡ Int n) × ¬ FitsSigned w64 n
refused_for (item.Value m) x n same cause = subst (λ k. (x ≡ Int k) × ¬ FitsSigned w64 k) (same_number m n same) cause
refused_for item.Memory x n same cause = absurd (cc same)
