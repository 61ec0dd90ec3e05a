-- Sums and products in 128 bits, term by term, are the exact ones wherever an expression fits.
use Rattle.std.proofs.Common.{◌≡◌, ℕ, ◌+◌, ◌^◌, ◌≤◌, ◌<◌, pos, ◌+ℤ◌, ◌*ℤ◌, List, fold, take, length, get_or, refl, ap, sym, ◌∙◌, subst, arith}
use Rattle.std.specs.Prelude.{Option, Some, None, IsSome}
use Rattle.std.specs.Int.{w128}
use Rattle.std.specs.List.{AllByRecursion}
use Rattle.std.proofs.lemmas.Int.{int_wrap_fits, fits_signed_from_abs, int_wrap-add_left, int_wrap-mul_left}
use Rattle.std.proofs.lemmas.List.{take_all}
use Rattle.std.proofs.lemmas.List.Folds.{fold-map}
use Rattle.std.proofs.lemmas.List.Sums.{fold_more}
use Rattle.sq_value.specs.declared.value.Value.{Value}
use Rattle.sq_value.specs.declared.value.Value.TheVariants.{Null, Int, Text}
use Rattle.sq_expr.specs.declared.expr.Expr.{Expr}
use Rattle.sq_expr.specs.declared.expr.Expr.TheVariants as expr
use Rattle.sq_expr.specs.declared.expr.Kind.{Kind}
use Rattle.sq_expr.specs.declared.expr.Term.{Term}
use Rattle.sq_expr.specs.Bounds.{bound_of, IsBounded}
use Rattle.sq_expr.specs.Fits.{Fits}
use Rattle.sq_expr.specs.Meaning.{negative, signed, of_both, num, term_num}
use Rattle.sq_expr.specs.Typing.{Sort, Numeric, Textual, sort_of}
use Rattle.sq_expr.specs.Wrapping.{wrapped}
use Rattle.sq_expr.proofs.Equations.{num-Sum, num-Product, num-Neg, term_num-is, parts-Column, parts-Number, parts-Text, parts-Neg, parts-Sum, parts-Product}
use Rattle.sq_expr.proofs.Parts.{IsSmall}
use Rattle.sq_expr.proofs.Trees.{each_expr}
use Rattle.sq_expr.proofs.Within.{IsWithin, has_bound}

-- ---- the value of an expression that fits is left as it is

-- the bound of an expression is among those of its parts
pub own_bound : (kinds : List Kind) (e : Expr) → IsBounded kinds e → bound_of kinds e < 2 ^ 127
own_bound kinds = each_expr (λ e. IsBounded kinds e → bound_of kinds e < 2 ^ 127) (record {
  column = λ n b. (subst (AllByRecursion (IsSmall kinds)) (parts-Column n) b).0;
  number = λ n b. (subst (AllByRecursion (IsSmall kinds)) (parts-Number n) b).0;
  text = λ t b. (subst (AllByRecursion (IsSmall kinds)) (parts-Text t) b).0;
  neg = λ e _ b. (subst (AllByRecursion (IsSmall kinds)) (parts-Neg e) b).0;
  sum = λ ts _ b. (subst (AllByRecursion (IsSmall kinds)) (parts-Sum ts) b).0;
  product = λ es _ b. (subst (AllByRecursion (IsSmall kinds)) (parts-Product es) b).0;
})

within_wraps : (s : Option Sort) (b : ℕ) (x : Value) → IsSome s → b < 2 ^ 127 → IsWithin s b x → wrapped x ≡ x
within_wraps None b x some small h = absurd (cc some)
within_wraps (Some s) b Null some small h = refl
within_wraps (Some Numeric) b (Int x) some small h = ap Int (int_wrap_fits w128 x (fits_signed_from_abs w128 x (omega (arith, h))))
within_wraps (Some Numeric) b (Text t) some small h = refl
within_wraps (Some Textual) b (Int x) some small h = absurd h
within_wraps (Some Textual) b (Text t) some small h = refl

pub exact : (e : Expr) (row : List Value) → Fits e row → wrapped (num e row) ≡ num e row
exact e row f = within_wraps (sort_of f.kinds e) (bound_of f.kinds e) (num e row) f.suits.typed (own_bound f.kinds e f.suits.bounded) (has_bound f.kinds row f.of_kinds e)

-- ---- one term more, one factor more

plus_wrapped : (x y : Value) → wrapped (of_both ◌+ℤ◌ (wrapped x) y) ≡ wrapped (of_both ◌+ℤ◌ x y)
plus_wrapped Null y = refl
plus_wrapped (Int x) Null = refl
plus_wrapped (Int x) (Int y) = ap Int (int_wrap-add_left w128 x y)
plus_wrapped (Int x) (Text t) = refl
plus_wrapped (Text t) y = refl

times_wrapped : (x y : Value) → wrapped (of_both ◌*ℤ◌ (wrapped x) y) ≡ wrapped (of_both ◌*ℤ◌ x y)
times_wrapped Null y = refl
times_wrapped (Int x) Null = refl
times_wrapped (Int x) (Int y) = ap Int (int_wrap-mul_left w128 x y)
times_wrapped (Int x) (Text t) = refl
times_wrapped (Text t) y = refl

module _ (row : List Value) where
  -- the value and the next term
  abbrev more_sum : Value → Term → Value
  more_sum x t = of_both ◌+ℤ◌ x (term_num t row)

  abbrev more_product : Value → Expr → Value
  more_product x e = of_both ◌*ℤ◌ x (num e row)

  -- what 128 bits keep of the sum of the first terms, and of the product of the first factors
  abbrev pub sum_so_far : List Term → ℕ → Value
  sum_so_far ts i = wrapped (fold more_sum (Int (pos 0)) (take i ts))

  abbrev pub product_so_far : List Expr → ℕ → Value
  product_so_far es i = wrapped (fold more_product (Int (pos 1)) (take i es))

  pub sum_more : (ts : List Term) (i : ℕ) (t : Term) (x y z : Value) → i < length ts → t ≡ get_or ts i t → x ≡ sum_so_far ts i → y ≡ num t.expr row → z ≡ wrapped (of_both ◌+ℤ◌ x (signed t.minus y)) → z ≡ sum_so_far ts (i + 1)
  sum_more ts i t x y z below is ex ey ez =
      ez ∙ ap (λ x. wrapped (of_both ◌+ℤ◌ x (signed t.minus y))) ex ∙ plus_wrapped (fold more_sum (Int (pos 0)) (take i ts)) (signed t.minus y) ∙
      ap (λ y. wrapped (of_both ◌+ℤ◌ (fold more_sum (Int (pos 0)) (take i ts)) (signed t.minus y))) ey ∙
      ap (λ y. wrapped (of_both ◌+ℤ◌ (fold more_sum (Int (pos 0)) (take i ts)) y)) (sym (term_num-is t row)) ∙
      ap (λ u. wrapped (more_sum (fold more_sum (Int (pos 0)) (take i ts)) u)) is ∙
      ap wrapped (sym (fold_more more_sum (Int (pos 0)) ts i t below))

  pub product_more : (es : List Expr) (i : ℕ) (e : Expr) (x y z : Value) → i < length es → e ≡ get_or es i e → x ≡ product_so_far es i → y ≡ num e row → z ≡ wrapped (of_both ◌*ℤ◌ x y) → z ≡ product_so_far es (i + 1)
  product_more es i e x y z below is ex ey ez =
      ez ∙ ap (λ x. wrapped (of_both ◌*ℤ◌ x y)) ex ∙ times_wrapped (fold more_product (Int (pos 1)) (take i es)) y ∙
      ap (λ y. wrapped (of_both ◌*ℤ◌ (fold more_product (Int (pos 1)) (take i es)) y)) ey ∙
      ap (λ u. wrapped (more_product (fold more_product (Int (pos 1)) (take i es)) u)) is ∙
      ap wrapped (sym (fold_more more_product (Int (pos 1)) es i e below))

  pub sum_all : (ts : List Term) (i : ℕ) (e : Expr) (x : Value) → length ts ≤ i → e ≡ expr.Sum ts → Fits e row → x ≡ sum_so_far ts i → x ≡ num e row
  sum_all ts i e x all is f ex =
      ex ∙ ap (λ us. wrapped (fold more_sum (Int (pos 0)) us)) (take_all i ts all) ∙
      ap wrapped (sym (fold-map (of_both ◌+ℤ◌) (λ t. term_num t row) (Int (pos 0)) ts) ∙ sym (num-Sum ts row) ∙ ap (λ e. num e row) (sym is)) ∙ exact e row f

  pub product_all : (es : List Expr) (i : ℕ) (e : Expr) (x : Value) → length es ≤ i → e ≡ expr.Product es → Fits e row → x ≡ product_so_far es i → x ≡ num e row
  product_all es i e x all is f ex =
      ex ∙ ap (λ us. wrapped (fold more_product (Int (pos 1)) us)) (take_all i es all) ∙
      ap wrapped (sym (fold-map (of_both ◌*ℤ◌) (λ e. num e row) (Int (pos 1)) es) ∙ sym (num-Product es row) ∙ ap (λ e. num e row) (sym is)) ∙ exact e row f

  pub negated : (operand e : Expr) (x y : Value) → e ≡ expr.Neg operand → Fits e row → x ≡ num operand row → y ≡ wrapped (negative x) → y ≡ num e row
  negated operand e x y is f ex ey =
      ey ∙ ap (λ x. wrapped (negative x)) ex ∙ ap wrapped (sym (num-Neg operand row) ∙ ap (λ e. num e row) (sym is)) ∙ exact e row f
