-- An expression that suits columns of some kinds has parts that do.
use Rattle.std.proofs.Common.{◌≡◌, Bool, true, false, ◌<◌, ◌^◌, List, map, ap, subst, refl}
use Rattle.std.specs.Prelude.{Option, Some, None, IsSome, IsTrue, is_some}
use Rattle.std.specs.List.{AllByRecursion, flat_map, list_all}
use Rattle.sq_expr.specs.declared.cond.Cmp.{Cmp}
use Rattle.sq_expr.specs.declared.cond.Cond.{Cond}
use Rattle.sq_expr.specs.declared.cond.Cond.TheVariants as cond
use Rattle.sq_expr.specs.declared.expr.Expr.{Expr}
use Rattle.sq_expr.specs.declared.expr.Expr.TheVariants as expr
use Rattle.sq_expr.specs.declared.expr.Kind.{Kind}
use Rattle.sq_expr.specs.declared.expr.Term.{Term}
use Rattle.sq_expr.specs.Bounds.{bound_of, parts, cond_parts, IsBounded, IsBoundedCond}
use Rattle.sq_expr.specs.Fits.{Suits, SuitsCond}
use Rattle.sq_expr.specs.Typing.{Sort, Numeric, Textual, is_numeric, arithmetic, are_alike, sort_of, is_typed_cond, IsTyped, IsTypedCond}
use Rattle.sq_expr.proofs.Equations.{sort_of-Neg, sort_of-Sum, sort_of-Product, parts-Neg, parts-Sum, parts-Product, is_typed_cond-Compare, is_typed_cond-Null, is_typed_cond-Not, is_typed_cond-All, is_typed_cond-Any, cond_parts-Compare, cond_parts-Null, cond_parts-Not, cond_parts-All, cond_parts-Any}
use Rattle.sq_expr.proofs.Lists.{all_front, all_back, all_flat, all_pass, all_from}

-- ---- sorts

over_numbers : (b : Bool) → IsSome (arithmetic b) → b ≡ true
over_numbers true h = refl
over_numbers false h = h

pub numeric_is : (s : Option Sort) → is_numeric s ≡ true → s ≡ Some Numeric
numeric_is None h = absurd (cc h)
numeric_is (Some Numeric) h = refl
numeric_is (Some Textual) h = absurd (cc h)

pub numeric_some : (s : Option Sort) → is_numeric s ≡ true → IsSome s
numeric_some s h = ap is_some (numeric_is s h)

pub alike_left : (r s : Option Sort) → are_alike r s ≡ true → IsSome r
alike_left None s h = h
alike_left (Some r) s h = refl

pub alike_right : (r s : Option Sort) → are_alike r s ≡ true → IsSome s
alike_right None s h = absurd (cc h)
alike_right (Some r) None h = h
alike_right (Some r) (Some s) h = refl

-- ---- bounded parts

abbrev pub IsSmall : List Kind → Expr → Type 0
IsSmall kinds part = bound_of kinds part < 2 ^ 127

module _ (kinds : List Kind) where
  pub neg_numeric : (e : Expr) → IsTyped kinds (expr.Neg e) → is_numeric (sort_of kinds e) ≡ true
  neg_numeric e h = over_numbers (is_numeric (sort_of kinds e)) (subst IsSome (sort_of-Neg kinds e) h)

  pub sum_numeric : (ts : List Term) → IsTyped kinds (expr.Sum ts) → AllByRecursion (λ t. is_numeric (sort_of kinds t.expr) ≡ true) ts
  sum_numeric ts h = all_pass is_numeric (λ t. sort_of kinds t.expr) ts (over_numbers (list_all is_numeric (map (λ t. sort_of kinds t.expr) ts)) (subst IsSome (sort_of-Sum kinds ts) h))

  pub product_numeric : (es : List Expr) → IsTyped kinds (expr.Product es) → AllByRecursion (λ e. is_numeric (sort_of kinds e) ≡ true) es
  product_numeric es h = all_pass is_numeric (sort_of kinds) es (over_numbers (list_all is_numeric (map (sort_of kinds) es)) (subst IsSome (sort_of-Product kinds es) h))

  numeric_suits : (e : Expr) → is_numeric (sort_of kinds e) ≡ true → IsBounded kinds e → Suits kinds e
  numeric_suits e s b = record { typed = numeric_some (sort_of kinds e) s; bounded = b }

  pub suits_neg : (e : Expr) → Suits kinds (expr.Neg e) → Suits kinds e
  suits_neg e s = numeric_suits e (neg_numeric e s.typed) (subst (AllByRecursion (IsSmall kinds)) (parts-Neg e) s.bounded).1

  pub suits_sum : (ts : List Term) → Suits kinds (expr.Sum ts) → AllByRecursion (λ t. Suits kinds t.expr) ts
  suits_sum ts s =
      all_from (λ t. is_numeric (sort_of kinds t.expr) ≡ true) (λ t. IsBounded kinds t.expr) (λ t. Suits kinds t.expr) ts (λ t. numeric_suits t.expr)
      (sum_numeric ts s.typed)
      (all_flat (IsSmall kinds) (λ t. parts t.expr) ts (subst (AllByRecursion (IsSmall kinds)) (parts-Sum ts) s.bounded).1)

  pub suits_product : (es : List Expr) → Suits kinds (expr.Product es) → AllByRecursion (Suits kinds) es
  suits_product es s =
      all_from (λ e. is_numeric (sort_of kinds e) ≡ true) (IsBounded kinds) (Suits kinds) es numeric_suits
      (product_numeric es s.typed)
      (all_flat (IsSmall kinds) parts es (subst (AllByRecursion (IsSmall kinds)) (parts-Product es) s.bounded).1)

  -- ---- conditions

  pub suits_left : (cmp : Cmp) (left right : Expr) → SuitsCond kinds (cond.Compare cmp left right) → Suits kinds left
  suits_left cmp left right s = record {
    typed = alike_left (sort_of kinds left) (sort_of kinds right) (subst IsTrue (is_typed_cond-Compare kinds cmp left right) s.typed);
    bounded = all_front (IsSmall kinds) (parts left) (parts right) (subst (AllByRecursion (IsSmall kinds)) (cond_parts-Compare cmp left right) s.bounded);
  }

  pub suits_right : (cmp : Cmp) (left right : Expr) → SuitsCond kinds (cond.Compare cmp left right) → Suits kinds right
  suits_right cmp left right s = record {
    typed = alike_right (sort_of kinds left) (sort_of kinds right) (subst IsTrue (is_typed_cond-Compare kinds cmp left right) s.typed);
    bounded = all_back (IsSmall kinds) (parts left) (parts right) (subst (AllByRecursion (IsSmall kinds)) (cond_parts-Compare cmp left right) s.bounded);
  }

  pub suits_null : (e : Expr) (negated : Bool) → SuitsCond kinds (cond.Null e negated) → Suits kinds e
  suits_null e negated s = record {
    typed = subst IsTrue (is_typed_cond-Null kinds e negated) s.typed;
    bounded = subst (AllByRecursion (IsSmall kinds)) (cond_parts-Null e negated) s.bounded;
  }

  pub suits_not : (a : Cond) → SuitsCond kinds (cond.Not a) → SuitsCond kinds a
  suits_not a s = record {
    typed = subst IsTrue (is_typed_cond-Not kinds a) s.typed;
    bounded = subst (AllByRecursion (IsSmall kinds)) (cond_parts-Not a) s.bounded;
  }

  of_members : (cs : List Cond) → IsTrue (list_all (λ b. b) (map (is_typed_cond kinds) cs)) → AllByRecursion (IsSmall kinds) (flat_map cond_parts cs) → AllByRecursion (SuitsCond kinds) cs
  of_members cs typed bounded =
      all_from (IsTypedCond kinds) (IsBoundedCond kinds) (SuitsCond kinds) cs (λ c t b. record { typed = t; bounded = b })
      (all_pass (λ b. b) (is_typed_cond kinds) cs typed)
      (all_flat (IsSmall kinds) cond_parts cs bounded)

  pub suits_all : (cs : List Cond) → SuitsCond kinds (cond.All cs) → AllByRecursion (SuitsCond kinds) cs
  suits_all cs s = of_members cs (subst IsTrue (is_typed_cond-All kinds cs) s.typed) (subst (AllByRecursion (IsSmall kinds)) (cond_parts-All cs) s.bounded)

  pub suits_any : (cs : List Cond) → SuitsCond kinds (cond.Any cs) → AllByRecursion (SuitsCond kinds) cs
  suits_any cs s = of_members cs (subst IsTrue (is_typed_cond-Any kinds cs) s.typed) (subst (AllByRecursion (IsSmall kinds)) (cond_parts-Any cs) s.bounded)
