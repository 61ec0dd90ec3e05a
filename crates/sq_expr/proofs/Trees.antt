-- Induction over expressions and over conditions.
use Rattle.std.proofs.Common.{ℕ, Bool, List, [], ◌∷◌, map, subst, sym}
use Rattle.std.specs.List.{AllByRecursion}
use Rattle.sq_expr.specs.declared.cond.Cmp.{Cmp}
use Rattle.sq_expr.specs.declared.cond.Cond.{Cond, roll-Cond}
use Rattle.sq_expr.specs.declared.cond.Cond.TheFolds.{map-Cond, ind-Cond}
use Rattle.sq_expr.specs.declared.cond.Cond.TheOpen.{Cond-F}
use Rattle.sq_expr.specs.declared.cond.Cond.TheVariants as cond
use Rattle.sq_expr.specs.declared.expr.Expr.{Expr, roll-Expr}
use Rattle.sq_expr.specs.declared.expr.Expr.TheFolds.{map-Expr, ind-Expr}
use Rattle.sq_expr.specs.declared.expr.Expr.TheOpen.{Expr-F}
use Rattle.sq_expr.specs.declared.expr.Expr.TheVariants as expr
use Rattle.sq_expr.specs.declared.expr.Term.{Term}

-- what comes with each member of a list holds of each
all_of : {A : Type 0} (P : A → Type 0) (ys : List ((x : A) × P x)) → AllByRecursion P (map (λ y. y.0) ys)
all_of P [] = tt
all_of P (y ∷ ys) = (y.1, all_of P ys)

-- what holds of each expression whose parts have it holds of all
pub record ExprCases (P : Expr → Type 0) : Type 0 where
  pub column : (n : ℕ) → P (expr.Column n)
  pub number : (n : ℕ) → P (expr.Number n)
  pub text : (t : List ℕ) → P (expr.Text t)
  pub neg : (e : Expr) → P e → P (expr.Neg e)
  pub sum : (ts : List Term) → AllByRecursion (λ t. P t.expr) ts → P (expr.Sum ts)
  pub product : (es : List Expr) → AllByRecursion P es → P (expr.Product es)

module _ (P : Expr → Type 0) (c : ExprCases P) where
  abbrev OfTerm : Term → Type 0
  OfTerm t = P t.expr

  level : (y : Expr-F ((e : Expr) × P e) ((t : Term) × OfTerm t)) → P (roll-Expr (map-Expr ((e : Expr) × P e) ((t : Term) × OfTerm t) Expr Term (λ y. y.0) (λ y. y.0) y))
  level (Expr-F.Column n) = subst P (sym (expr.rolls-Column n)) (c.column n)
  level (Expr-F.Number n) = subst P (sym (expr.rolls-Number n)) (c.number n)
  level (Expr-F.Text t) = subst P (sym (expr.rolls-Text t)) (c.text t)
  level (Expr-F.Neg y) = subst P (sym (expr.rolls-Neg y.0)) (c.neg y.0 y.1)
  level (Expr-F.Sum ys) = subst P (sym (expr.rolls-Sum (map (λ y. y.0) ys))) (c.sum (map (λ y. y.0) ys) (all_of OfTerm ys))
  level (Expr-F.Product ys) = subst P (sym (expr.rolls-Product (map (λ y. y.0) ys))) (c.product (map (λ y. y.0) ys) (all_of P ys))

  pub each_expr : (e : Expr) → P e
  each_expr = ind-Expr P OfTerm
      (λ x y is. subst (λ z. P (roll-Expr z)) is (level y))
      (λ x y is. subst (λ z. P z.expr) is y.expr.1)

pub record CondCases (P : Cond → Type 0) : Type 0 where
  pub compare : (cmp : Cmp) (left right : Expr) → P (cond.Compare cmp left right)
  pub null : (e : Expr) (negated : Bool) → P (cond.Null e negated)
  pub not : (a : Cond) → P a → P (cond.Not a)
  pub all : (cs : List Cond) → AllByRecursion P cs → P (cond.All cs)
  pub any : (cs : List Cond) → AllByRecursion P cs → P (cond.Any cs)

module _ (P : Cond → Type 0) (c : CondCases P) where
  cond_level : (y : Cond-F ((a : Cond) × P a)) → P (roll-Cond (map-Cond ((a : Cond) × P a) Cond (λ y. y.0) y))
  cond_level (Cond-F.Compare cmp left right) = subst P (sym (cond.rolls-Compare cmp left right)) (c.compare cmp left right)
  cond_level (Cond-F.Null e negated) = subst P (sym (cond.rolls-Null e negated)) (c.null e negated)
  cond_level (Cond-F.Not y) = subst P (sym (cond.rolls-Not y.0)) (c.not y.0 y.1)
  cond_level (Cond-F.All ys) = subst P (sym (cond.rolls-All (map (λ y. y.0) ys))) (c.all (map (λ y. y.0) ys) (all_of P ys))
  cond_level (Cond-F.Any ys) = subst P (sym (cond.rolls-Any (map (λ y. y.0) ys))) (c.any (map (λ y. y.0) ys) (all_of P ys))

  pub each_cond : (a : Cond) → P a
  each_cond = ind-Cond P (λ x y is. subst (λ z. P (roll-Cond z)) is (cond_level y))
