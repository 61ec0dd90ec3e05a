-- Bounds are added and multiplied up to a limit, and compared with 2^127.
use Rattle.std.proofs.Common.{◌≡◌, ℕ, zero, suc, ◌+◌, ◌*◌, ◌-◌, ◌^◌, ◌≤◌, ◌<◌, min, List, [], ◌∷◌, fold, take, length, get_or, refl, ap, sym, ◌∙◌, subst, arith, inl, inr}
use Rattle.std.specs.Option.{option_map}
use Rattle.std.specs.Prelude.{Option, Some, None, MatchOption, slice_get, unwrap_or, max}
use Rattle.std.specs.List.{AllByRecursion}
use Rattle.std.proofs.lemmas.Bool.{cases_lt}
use Rattle.std.proofs.lemmas.List.{take_all, take_more}
use Rattle.std.proofs.lemmas.List.Folds.{fold-map}
use Rattle.std.proofs.lemmas.List.Sums.{fold_more}
use Rattle.std.proofs.lemmas.Nat.{mul-le}
use Rattle.sq_expr.specs.declared.expr.Expr.{Expr}
use Rattle.sq_expr.specs.declared.expr.Expr.TheVariants as expr
use Rattle.sq_expr.specs.declared.expr.Kind.{Kind}
use Rattle.sq_expr.specs.declared.expr.Kind.TheVariants.{Integer, Bigint, Text}
use Rattle.sq_expr.specs.declared.expr.Term.{Term}
use Rattle.sq_expr.specs.Bounds.{kind_bound, bound_of, parts, IsBounded}
use Rattle.sq_expr.proofs.Equations.{bound_of-Column, bound_of-Number, bound_of-Text, bound_of-Neg, bound_of-Sum, bound_of-Product, parts-Column, parts-Number, parts-Text, parts-Neg, parts-Sum, parts-Product}
use Rattle.sq_expr.proofs.Lists.{all_flat, all_flattened, all_append, all_read}
use Rattle.sq_expr.proofs.Exact.{own_bound}
use Rattle.sq_expr.proofs.Parts.{IsSmall}

-- ---- the greatest number of 128 bits in place of a greater one

abbrev capped : ℕ → ℕ
capped n = min n (2 ^ 128 - 1)

capped_plus : (a b : ℕ) → capped (capped a + b) ≡ capped (a + b)
capped_plus a b = omega arith

-- a product is no less than a factor, where the other one is at least 1
le_times : (a b : ℕ) → a ≤ a * suc b
le_times a b = omega (arith, mul-le a 1 a (suc b) (omega arith) (omega arith))

capped_times : (a b : ℕ) → capped (capped a * b) ≡ capped (a * b)
capped_times a zero = omega arith
capped_times a (suc b) = elim (cases_lt a (2 ^ 128 - 1)) [
  | inl below ↦ ap (λ n. capped (n * suc b)) (omega arith)
  | inr above ↦ let same : capped a ≡ 2 ^ 128 - 1 = omega arith in omega (arith, le_times a b, le_times (capped a) b)
]

pub small_or_none : (k : Option Kind) → unwrap_or (option_map kind_bound k) 0 ≤ 2 ^ 63
small_or_none None = omega arith
small_or_none (Some Integer) = omega arith
small_or_none (Some Bigint) = omega arith
small_or_none (Some Text) = omega arith

module _ (kinds : List Kind) where
  abbrev more_sum : ℕ → Term → ℕ
  more_sum n t = n + bound_of kinds t.expr

  abbrev more_product : ℕ → Expr → ℕ
  more_product n e = n * bound_of kinds e

  pub record SumSoFar (ts : List Term) (i : ℕ) (sum : ℕ) : Type 0 where
    pub sum_is : sum ≡ capped (fold more_sum 0 (take i ts))
    pub bounded : AllByRecursion (λ t. IsBounded kinds t.expr) (take i ts)

  pub record ProductSoFar (es : List Expr) (i : ℕ) (product : ℕ) : Type 0 where
    pub product_is : product ≡ capped (fold more_product 1 (take i es))
    pub bounded : AllByRecursion (IsBounded kinds) (take i es)

  -- this number and this expression decide together what `bound` answers
  pub record Measures (e : Expr) (b : ℕ) : Type 0 where
    pub is : b ≡ capped (bound_of kinds e)
    pub bounded : bound_of kinds e < 2 ^ 127 → IsBounded kinds e

  abbrev Answer : Expr → Option ℕ → Type 0
  Answer e r = MatchOption r (¬ IsBounded kinds e) (λ b. (b ≡ bound_of kinds e) × IsBounded kinds e)

  pub answered : (e : Expr) (b : ℕ) (r : Option ℕ) → Measures e b → MatchOption r (2 ^ 127 ≤ b) (λ kept. (kept ≡ b) × (b < 2 ^ 127)) → Answer e r
  answered e b None m large = λ bounded. omega (arith, m.is, own_bound kinds e bounded)
  answered e b (Some kept) m small =
      let exactly : b ≡ bound_of kinds e = omega (arith, m.is) in
      (small.0 ∙ exactly, m.bounded (subst (λ n. n < 2 ^ 127) exactly small.1))

  pub no_answer : (e : Expr) (r : Option ℕ) → r ≡ None → ¬ IsBounded kinds e → Answer e r
  no_answer e r is none = subst (Answer e) (sym is) none

  -- an expression with no other in it
  pub leaf : (e : Expr) (b : ℕ) → bound_of kinds e ≡ b → b < 2 ^ 128 → parts e ≡ e ∷ [] → Measures e b
  leaf e b is small alone = record {
    is = omega (arith, is);
    bounded = λ h. subst (AllByRecursion (IsSmall kinds)) (sym alone) (h, tt);
  }

  pub measured_neg : (e operand : Expr) (b : ℕ) → e ≡ expr.Neg operand → b ≡ bound_of kinds operand → IsBounded kinds operand → Measures e b
  measured_neg e operand b is eb bounded = subst (λ e. Measures e b) (sym is) (record {
    is = omega (arith, eb, bound_of-Neg kinds operand, own_bound kinds operand bounded);
    bounded = λ h. subst (AllByRecursion (IsSmall kinds)) (sym (parts-Neg operand)) (h, bounded);
  })

  pub measured_sum : (e : Expr) (ts given : List Term) (i sum : ℕ) → e ≡ expr.Sum ts → given ≡ ts → length given ≤ i → SumSoFar given i sum → Measures e sum
  measured_sum e ts given i sum is same all so_far = subst (λ e. Measures e sum) (sym (is ∙ ap expr.Sum (sym same))) (record {
    is = so_far.sum_is ∙ ap (λ ts. capped (fold more_sum 0 ts)) (take_all i given all) ∙ ap capped (sym (fold-map (λ m n. m + n) (λ t. bound_of kinds t.expr) 0 given) ∙ sym (bound_of-Sum kinds given));
    bounded = λ h. subst (AllByRecursion (IsSmall kinds)) (sym (parts-Sum given))
        (h, all_flattened (IsSmall kinds) (λ t. parts t.expr) given (subst (AllByRecursion (λ t. IsBounded kinds t.expr)) (take_all i given all) so_far.bounded));
  })

  pub measured_product : (e : Expr) (es given : List Expr) (i product : ℕ) → e ≡ expr.Product es → given ≡ es → length given ≤ i → ProductSoFar given i product → Measures e product
  measured_product e es given i product is same all so_far = subst (λ e. Measures e product) (sym (is ∙ ap expr.Product (sym same))) (record {
    is = so_far.product_is ∙ ap (λ es. capped (fold more_product 1 es)) (take_all i given all) ∙ ap capped (sym (fold-map (λ m n. m * n) (bound_of kinds) 1 given) ∙ sym (bound_of-Product kinds given));
    bounded = λ h. subst (AllByRecursion (IsSmall kinds)) (sym (parts-Product given))
        (h, all_flattened (IsSmall kinds) parts given (subst (AllByRecursion (IsBounded kinds)) (take_all i given all) so_far.bounded));
  })

  -- ---- one term more, one factor more

  pub sum_starts : (ts : List Term) → SumSoFar ts 0 0
  sum_starts ts = record { sum_is = refl; bounded = tt }

  pub sum_more : (ts : List Term) (i sum b : ℕ) (t : Term) → i < length ts → t ≡ get_or ts i t → SumSoFar ts i sum → b ≡ bound_of kinds t.expr → IsBounded kinds t.expr → SumSoFar ts (i + 1) (capped (sum + b))
  sum_more ts i sum b t below is so_far eb bounded = record {
    sum_is = ap (λ n. capped (n + b)) so_far.sum_is ∙ capped_plus (fold more_sum 0 (take i ts)) b ∙ ap (λ n. capped (fold more_sum 0 (take i ts) + n)) eb ∙
        ap (λ u. capped (more_sum (fold more_sum 0 (take i ts)) u)) is ∙ ap capped (sym (fold_more more_sum 0 ts i t below));
    bounded = subst (AllByRecursion (λ t. IsBounded kinds t.expr)) (sym (take_more ts i t below))
        (all_append (λ t. IsBounded kinds t.expr) (take i ts) (get_or ts i t ∷ []) so_far.bounded (subst (λ t. IsBounded kinds t.expr) is bounded, tt));
  }

  pub product_starts : (es : List Expr) → ProductSoFar es 0 1
  product_starts es = record { product_is = refl; bounded = tt }

  pub product_more : (es : List Expr) (i product b : ℕ) (e : Expr) → i < length es → e ≡ get_or es i e → ProductSoFar es i product → b ≡ bound_of kinds e → IsBounded kinds e → ProductSoFar es (i + 1) (capped (product * b))
  product_more es i product b e below is so_far eb bounded = record {
    product_is = ap (λ n. capped (n * b)) so_far.product_is ∙ capped_times (fold more_product 1 (take i es)) b ∙ ap (λ n. capped (fold more_product 1 (take i es) * n)) eb ∙
        ap (λ u. capped (more_product (fold more_product 1 (take i es)) u)) is ∙ ap capped (sym (fold_more more_product 1 es i e below));
    bounded = subst (AllByRecursion (IsBounded kinds)) (sym (take_more es i e below))
        (all_append (IsBounded kinds) (take i es) (get_or es i e ∷ []) so_far.bounded (subst (IsBounded kinds) is bounded, tt));
  }

  -- ---- a part that is not bounded

  pub none_in_neg : (e operand given : Expr) → e ≡ expr.Neg operand → given ≡ operand → ¬ IsBounded kinds given → ¬ IsBounded kinds e
  none_in_neg e operand given is same none = λ bounded. none (subst (IsBounded kinds) (sym same) (subst (AllByRecursion (IsSmall kinds)) (parts-Neg operand) (subst (IsBounded kinds) is bounded)).1)

  pub none_in_sum : (e : Expr) (ts given : List Term) (i : ℕ) (t : Term) → e ≡ expr.Sum ts → given ≡ ts → i < length given → t ≡ get_or given i t → ¬ IsBounded kinds t.expr → ¬ IsBounded kinds e
  none_in_sum e ts given i t is same below at none = λ bounded.
      none (all_read (λ t. IsBounded kinds t.expr) given i t (all_flat (IsSmall kinds) (λ t. parts t.expr) given (subst (AllByRecursion (IsSmall kinds)) (parts-Sum given) (subst (IsBounded kinds) (is ∙ ap expr.Sum (sym same)) bounded)).1) below at)

  pub none_in_product : (e : Expr) (es given : List Expr) (i : ℕ) (x : Expr) → e ≡ expr.Product es → given ≡ es → i < length given → x ≡ get_or given i x → ¬ IsBounded kinds x → ¬ IsBounded kinds e
  none_in_product e es given i x is same below at none = λ bounded.
      none (all_read (IsBounded kinds) given i x (all_flat (IsSmall kinds) parts given (subst (AllByRecursion (IsSmall kinds)) (parts-Product given) (subst (IsBounded kinds) (is ∙ ap expr.Product (sym same)) bounded)).1) below at)

  column_small : (n : ℕ) → unwrap_or (option_map kind_bound (slice_get kinds n)) 0 < 2 ^ 128
  column_small n = omega (arith, small_or_none (slice_get kinds n))

  pub leaf_column : (e : Expr) (n b : ℕ) → e ≡ expr.Column n → b ≡ unwrap_or (option_map kind_bound (slice_get kinds n)) 0 → Measures e b
  leaf_column e n b is eb = subst (λ e. Measures e b) (sym is) (leaf (expr.Column n) b (bound_of-Column kinds n ∙ sym eb) (subst (λ b. b < 2 ^ 128) (sym eb) (column_small n)) (parts-Column n))

  pub leaf_number : (e : Expr) (n b : ℕ) → e ≡ expr.Number n → b ≡ max n 1 → b < 2 ^ 128 → Measures e b
  leaf_number e n b is eb small = subst (λ e. Measures e b) (sym is) (leaf (expr.Number n) b (bound_of-Number kinds n ∙ sym eb) small (parts-Number n))

  pub leaf_text : (e : Expr) (t : List ℕ) → e ≡ expr.Text t → Measures e 0
  leaf_text e t is = subst (λ e. Measures e 0) (sym is) (leaf (expr.Text t) 0 (bound_of-Text kinds t) (omega arith) (parts-Text t))
