-- The parts of what fits a row fit it.
use Rattle.std.proofs.Common.{◌≡◌, ℕ, ◌<◌, Bool, List, length, get_or, subst, sym}
use Rattle.std.specs.List.{AllByRecursion}
use Rattle.sq_value.specs.declared.value.Value.{Value}
use Rattle.sq_expr.specs.declared.cond.Cmp.{Cmp}
use Rattle.sq_expr.specs.declared.cond.Cond.{Cond}
use Rattle.sq_expr.specs.declared.cond.Cond.TheVariants as cond
use Rattle.sq_expr.specs.declared.expr.Expr.{Expr}
use Rattle.sq_expr.specs.declared.expr.Expr.TheVariants as expr
use Rattle.sq_expr.specs.declared.expr.Term.{Term}
use Rattle.sq_expr.specs.declared.expr.Kind.{Kind}
use Rattle.sq_expr.specs.Fits.{Suits, SuitsCond, Fits, FitsCond}
use Rattle.sq_expr.specs.Kinds.{AreOfKinds}
use Rattle.sq_expr.proofs.Lists.{all_read}
use Rattle.sq_expr.proofs.Parts.{suits_neg, suits_sum, suits_product, suits_left, suits_right, suits_null, suits_not, suits_all, suits_any}

module _ (row : List Value) where
  pub fits_neg : (e operand given : Expr) → e ≡ expr.Neg operand → given ≡ operand → Fits e row → Fits given row
  fits_neg e operand given is same f = record {
    kinds = f.kinds;
    of_kinds = f.of_kinds;
    suits = subst (Suits f.kinds) (sym same) (suits_neg f.kinds operand (subst (Suits f.kinds) is f.suits));
  }

  pub fits_term : (e : Expr) (ts given : List Term) (i : ℕ) (t : Term) → e ≡ expr.Sum ts → given ≡ ts → i < length given → t ≡ get_or given i t → Fits e row → Fits t.expr row
  fits_term e ts given i t is same below at f = record {
    kinds = f.kinds;
    of_kinds = f.of_kinds;
    suits = all_read (λ t. Suits f.kinds t.expr) given i t (subst (AllByRecursion (λ t. Suits f.kinds t.expr)) (sym same) (suits_sum f.kinds ts (subst (Suits f.kinds) is f.suits))) below at;
  }

  pub fits_factor : (e : Expr) (es given : List Expr) (i : ℕ) (x : Expr) → e ≡ expr.Product es → given ≡ es → i < length given → x ≡ get_or given i x → Fits e row → Fits x row
  fits_factor e es given i x is same below at f = record {
    kinds = f.kinds;
    of_kinds = f.of_kinds;
    suits = all_read (Suits f.kinds) given i x (subst (AllByRecursion (Suits f.kinds)) (sym same) (suits_product f.kinds es (subst (Suits f.kinds) is f.suits))) below at;
  }

  pub fits_left : (c : Cond) (cmp : Cmp) (left right : Expr) → c ≡ cond.Compare cmp left right → FitsCond c row → Fits left row
  fits_left c cmp left right is f = record {
    kinds = f.kinds;
    of_kinds = f.of_kinds;
    suits = suits_left f.kinds cmp left right (subst (SuitsCond f.kinds) is f.suits);
  }

  pub fits_right : (c : Cond) (cmp : Cmp) (left right : Expr) → c ≡ cond.Compare cmp left right → FitsCond c row → Fits right row
  fits_right c cmp left right is f = record {
    kinds = f.kinds;
    of_kinds = f.of_kinds;
    suits = suits_right f.kinds cmp left right (subst (SuitsCond f.kinds) is f.suits);
  }

  pub fits_null : (c : Cond) (e : Expr) (negated : Bool) → c ≡ cond.Null e negated → FitsCond c row → Fits e row
  fits_null c e negated is f = record {
    kinds = f.kinds;
    of_kinds = f.of_kinds;
    suits = suits_null f.kinds e negated (subst (SuitsCond f.kinds) is f.suits);
  }

  pub fits_not : (c operand given : Cond) → c ≡ cond.Not operand → given ≡ operand → FitsCond c row → FitsCond given row
  fits_not c operand given is same f = record {
    kinds = f.kinds;
    of_kinds = f.of_kinds;
    suits = subst (SuitsCond f.kinds) (sym same) (suits_not f.kinds operand (subst (SuitsCond f.kinds) is f.suits));
  }

  pub fits_all : (c : Cond) (cs given : List Cond) (i : ℕ) (x : Cond) → c ≡ cond.All cs → given ≡ cs → i < length given → x ≡ get_or given i x → FitsCond c row → FitsCond x row
  fits_all c cs given i x is same below at f = record {
    kinds = f.kinds;
    of_kinds = f.of_kinds;
    suits = all_read (SuitsCond f.kinds) given i x (subst (AllByRecursion (SuitsCond f.kinds)) (sym same) (suits_all f.kinds cs (subst (SuitsCond f.kinds) is f.suits))) below at;
  }

  pub fits_any : (c : Cond) (cs given : List Cond) (i : ℕ) (x : Cond) → c ≡ cond.Any cs → given ≡ cs → i < length given → x ≡ get_or given i x → FitsCond c row → FitsCond x row
  fits_any c cs given i x is same below at f = record {
    kinds = f.kinds;
    of_kinds = f.of_kinds;
    suits = all_read (SuitsCond f.kinds) given i x (subst (AllByRecursion (SuitsCond f.kinds)) (sym same) (suits_any f.kinds cs (subst (SuitsCond f.kinds) is f.suits))) below at;
  }

-- what two tests tell
pub fits_of : (e : Expr) (row : List Value) (kinds : List Kind) → Suits kinds e → AreOfKinds row kinds → Fits e row
fits_of e row kinds s h = record { kinds = kinds; of_kinds = h; suits = s }

pub fits_cond_of : (c : Cond) (row : List Value) (kinds : List Kind) → SuitsCond kinds c → AreOfKinds row kinds → FitsCond c row
fits_cond_of c row kinds s h = record { kinds = kinds; of_kinds = h; suits = s }
