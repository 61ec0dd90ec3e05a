-- A typed expression on a row of its kinds has a value of its sort, within its bound.
use Rattle.std.proofs.Common.{◌≡◌, ℕ, zero, suc, ◌+◌, ◌*◌, ◌≤◌, ℤ, pos, negsuc, ◌+ℤ◌, ◌*ℤ◌, neg_ℤ, Bool, true, false, List, [], ◌∷◌, map, fold, sum, max, unwrap_or, refl, sym, subst, arith}
use Rattle.std.specs.Prelude.{Option, Some, None, slice_get, unsigned_abs, ⊤}
use Rattle.std.specs.List.{AllByRecursion, list_all}
use Rattle.std.specs.Option.{option_map}
use Rattle.std.proofs.lemmas.Int.{ints, unsigned_abs-mul}
use Rattle.std.proofs.lemmas.Nat.{mul-le}
use Rattle.sq_value.specs.declared.value.Value.{Value}
use Rattle.sq_value.specs.declared.value.Value.TheVariants.{Null, Int, Text}
use Rattle.sq_expr.specs.declared.expr.Expr.{Expr}
use Rattle.sq_expr.specs.declared.expr.Expr.TheVariants as expr
use Rattle.sq_expr.specs.declared.expr.Kind.{Kind}
use Rattle.sq_expr.specs.declared.expr.Kind.TheVariants as kind
use Rattle.sq_expr.specs.declared.expr.Term.{Term}
use Rattle.sq_expr.specs.Bounds.{kind_bound, bound_of}
use Rattle.sq_expr.specs.Kinds.{IsOfKind, AreOfKinds}
use Rattle.sq_expr.specs.Meaning.{column_of, negative, signed, of_both, sum_of, product_of, num, term_num}
use Rattle.sq_expr.specs.Typing.{Sort, Numeric, Textual, sort_of_kind, is_numeric, arithmetic, sort_of}
use Rattle.sq_expr.proofs.Equations.{num-Column, num-Number, num-Text, num-Neg, num-Sum, num-Product, term_num-is, sort_of-Column, sort_of-Number, sort_of-Text, sort_of-Neg, sort_of-Sum, sort_of-Product, bound_of-Column, bound_of-Number, bound_of-Text, bound_of-Neg, bound_of-Sum, bound_of-Product}
use Rattle.sq_expr.proofs.Lists.{all_from, all_pass}
use Rattle.sq_expr.proofs.Parts.{numeric_is}
use Rattle.sq_expr.proofs.Trees.{ExprCases, each_expr}

-- a value of this sort, of at most this absolute value; without a sort, any value
abbrev pub IsWithin : Option Sort → ℕ → Value → Type 0
IsWithin None b x = ⊤
IsWithin (Some s) b Null = ⊤
IsWithin (Some Numeric) b (Int x) = unsigned_abs x ≤ b
IsWithin (Some Numeric) b (Text t) = ⊥
IsWithin (Some Textual) b (Int x) = ⊥
IsWithin (Some Textual) b (Text t) = ⊤

-- ---- arithmetic

abs_plus : (x y : ℤ) → unsigned_abs (x +ℤ y) ≤ unsigned_abs x + unsigned_abs y
abs_plus x y = omega (arith, ints)

abs_negative : (x : ℤ) → unsigned_abs (neg_ℤ x) ≡ unsigned_abs x
abs_negative x = omega (arith, ints)

within_plus : (a b : ℕ) (x y : Value) → IsWithin (Some Numeric) a x → IsWithin (Some Numeric) b y → IsWithin (Some Numeric) (a + b) (of_both ◌+ℤ◌ x y)
within_plus a b Null y h k = tt
within_plus a b (Int x) Null h k = tt
within_plus a b (Int x) (Int y) h k = omega (arith, abs_plus x y)
within_plus a b (Int x) (Text t) h k = tt
within_plus a b (Text t) y h k = tt

within_times : (a b : ℕ) (x y : Value) → IsWithin (Some Numeric) a x → IsWithin (Some Numeric) b y → IsWithin (Some Numeric) (a * b) (of_both ◌*ℤ◌ x y)
within_times a b Null y h k = tt
within_times a b (Int x) Null h k = tt
within_times a b (Int x) (Int y) h k = subst (λ n. n ≤ a * b) (sym (unsigned_abs-mul x y)) (mul-le (unsigned_abs x) (unsigned_abs y) a b h k)
within_times a b (Int x) (Text t) h k = tt
within_times a b (Text t) y h k = tt

within_negative : (b : ℕ) (x : Value) → IsWithin (Some Numeric) b x → IsWithin (Some Numeric) b (negative x)
within_negative b Null h = tt
within_negative b (Int x) h = subst (λ n. n ≤ b) (sym (abs_negative x)) h
within_negative b (Text t) h = tt

within_signed : (minus : Bool) (b : ℕ) (x : Value) → IsWithin (Some Numeric) b x → IsWithin (Some Numeric) b (signed minus x)
within_signed true b x h = within_negative b x h
within_signed false b x h = h

-- ---- columns

fits_within : (k : Kind) (x : Value) → IsOfKind x k → IsWithin (Some (sort_of_kind k)) (kind_bound k) x
fits_within k Null h = tt
fits_within kind.Integer (Int (pos n)) h = omega (arith, h.sfits)
fits_within kind.Integer (Int (negsuc n)) h = omega (arith, h.sfits)
fits_within kind.Bigint (Int (pos n)) h = omega (arith, h.sfits)
fits_within kind.Bigint (Int (negsuc n)) h = omega (arith, h.sfits)
fits_within kind.Text (Int x) h = h
fits_within kind.Integer (Text t) h = h
fits_within kind.Bigint (Text t) h = h
fits_within kind.Text (Text t) h = tt

pub column_within : (kinds : List Kind) (row : List Value) → AreOfKinds row kinds → (n : ℕ) → IsWithin (option_map sort_of_kind (slice_get kinds n)) (unwrap_or (option_map kind_bound (slice_get kinds n)) 0) (column_of row n)
column_within [] row h n = tt
column_within (k ∷ kinds) [] h n = absurd h
column_within (k ∷ kinds) (x ∷ row) h zero = fits_within k x h.0
column_within (k ∷ kinds) (x ∷ row) h (suc n) = column_within kinds row h.1 n

-- ---- expressions

module _ (kinds : List Kind) (row : List Value) where
  abbrev pub HasBound : Expr → Type 0
  HasBound e = IsWithin (sort_of kinds e) (bound_of kinds e) (num e row)

  abbrev IsSmall : Expr → Type 0
  IsSmall e = IsWithin (Some Numeric) (bound_of kinds e) (num e row)

  small : (e : Expr) → is_numeric (sort_of kinds e) ≡ true → HasBound e → IsSmall e
  small e s h = subst (λ s. IsWithin s (bound_of kinds e) (num e row)) (numeric_is (sort_of kinds e) s) h

  sum_within : (ts : List Term) (a : ℕ) (x : Value) → IsWithin (Some Numeric) a x → AllByRecursion (λ t. IsSmall t.expr) ts → IsWithin (Some Numeric) (fold (λ m n. m + n) a (map (λ t. bound_of kinds t.expr) ts)) (fold (of_both ◌+ℤ◌) x (map (λ t. term_num t row) ts))
  sum_within [] a x h hs = h
  sum_within (t ∷ ts) a x h hs =
      let here = subst (IsWithin (Some Numeric) (bound_of kinds t.expr)) (sym (term_num-is t row)) (within_signed t.minus (bound_of kinds t.expr) (num t.expr row) hs.0) in
      sum_within ts (a + bound_of kinds t.expr) (of_both ◌+ℤ◌ x (term_num t row)) (within_plus a (bound_of kinds t.expr) x (term_num t row) h here) hs.1

  product_within : (es : List Expr) (a : ℕ) (x : Value) → IsWithin (Some Numeric) a x → AllByRecursion IsSmall es → IsWithin (Some Numeric) (fold (λ m n. m * n) a (map (bound_of kinds) es)) (fold (of_both ◌*ℤ◌) x (map (λ e. num e row) es))
  product_within [] a x h hs = h
  product_within (e ∷ es) a x h hs =
      product_within es (a * bound_of kinds e) (of_both ◌*ℤ◌ x (num e row)) (within_times a (bound_of kinds e) x (num e row) h hs.0) hs.1

  -- where arithmetic has a sort, its operands are numbers
  by_arithmetic : (over_numbers : Bool) (b : ℕ) (x : Value) → (over_numbers ≡ true → IsWithin (Some Numeric) b x) → IsWithin (arithmetic over_numbers) b x
  by_arithmetic true b x h = h refl
  by_arithmetic false b x h = tt

  -- the same, by equations for the sort, the bound and the value
  by_equations : (e : Expr) (s : Option Sort) (b : ℕ) (x : Value) → sort_of kinds e ≡ s → bound_of kinds e ≡ b → num e row ≡ x → IsWithin s b x → HasBound e
  by_equations e s b x es eb ex h =
      subst (λ s. IsWithin s (bound_of kinds e) (num e row)) (sym es)
      (subst (λ b. IsWithin s b (num e row)) (sym eb) (subst (IsWithin s b) (sym ex) h))

  sum_has_bound : (ts : List Term) → AllByRecursion (λ t. HasBound t.expr) ts → HasBound (expr.Sum ts)
  sum_has_bound ts hs =
      let Numbers : Bool = list_all is_numeric (map (λ t. sort_of kinds t.expr) ts) in
      by_equations (expr.Sum ts) (arithmetic Numbers) (sum (map (λ t. bound_of kinds t.expr) ts)) (sum_of (map (λ t. term_num t row) ts)) (sort_of-Sum kinds ts) (bound_of-Sum kinds ts) (num-Sum ts row)
      (by_arithmetic Numbers (sum (map (λ t. bound_of kinds t.expr) ts)) (sum_of (map (λ t. term_num t row) ts)) (λ yes.
      sum_within ts 0 (Int (pos 0)) (omega arith)
      (all_from (λ t. is_numeric (sort_of kinds t.expr) ≡ true) (λ t. HasBound t.expr) (λ t. IsSmall t.expr) ts (λ t. small t.expr) (all_pass is_numeric (λ t. sort_of kinds t.expr) ts yes) hs)))

  product_has_bound : (es : List Expr) → AllByRecursion HasBound es → HasBound (expr.Product es)
  product_has_bound es hs =
      let Numbers : Bool = list_all is_numeric (map (sort_of kinds) es) in
      by_equations (expr.Product es) (arithmetic Numbers) (fold (λ m n. m * n) 1 (map (bound_of kinds) es)) (product_of (map (λ e. num e row) es)) (sort_of-Product kinds es) (bound_of-Product kinds es) (num-Product es row)
      (by_arithmetic Numbers (fold (λ m n. m * n) 1 (map (bound_of kinds) es)) (product_of (map (λ e. num e row) es)) (λ yes.
      product_within es 1 (Int (pos 1)) (omega arith)
      (all_from (λ e. is_numeric (sort_of kinds e) ≡ true) HasBound IsSmall es small (all_pass is_numeric (sort_of kinds) es yes) hs)))

  module _ (fits : AreOfKinds row kinds) where
    bound_cases : ExprCases HasBound
    bound_cases = record {
      column = λ n. by_equations (expr.Column n) (option_map sort_of_kind (slice_get kinds n)) (unwrap_or (option_map kind_bound (slice_get kinds n)) 0) (column_of row n) (sort_of-Column kinds n) (bound_of-Column kinds n) (num-Column n row) (column_within kinds row fits n);
      number = λ n. by_equations (expr.Number n) (Some Numeric) (max n 1) (Int (pos n)) (sort_of-Number kinds n) (bound_of-Number kinds n) (num-Number n row) (omega arith);
      text = λ t. by_equations (expr.Text t) (Some Textual) 0 (Text t) (sort_of-Text kinds t) (bound_of-Text kinds t) (num-Text t row) tt;
      neg = λ e h. by_equations (expr.Neg e) (arithmetic (is_numeric (sort_of kinds e))) (bound_of kinds e) (negative (num e row)) (sort_of-Neg kinds e) (bound_of-Neg kinds e) (num-Neg e row)
          (by_arithmetic (is_numeric (sort_of kinds e)) (bound_of kinds e) (negative (num e row)) (λ yes. within_negative (bound_of kinds e) (num e row) (small e yes h)));
      sum = sum_has_bound;
      product = product_has_bound;
    }

    pub has_bound : (e : Expr) → HasBound e
    has_bound = each_expr HasBound bound_cases
