-- Expressions and conditions in which names are replaced by numbers, and the kinds of what they compute.
use Rattle.std.specs.Prelude.{Bool, true, false, ◌&&◌, if◌then◌else◌, List, [], ◌∷◌, ◌++◌, map, fold, get_or, Option, Some, None, option_map}
use Rattle.std.specs.List.{list_any}
use denote.Enum.Bare.{sameb}
use Rattle.sq_ast.specs.declared.cond.CmpTree.{CmpTree}
use Rattle.sq_ast.specs.declared.cond.CmpTree.TheVariants as written_cmp
use Rattle.sq_ast.specs.declared.cond.CondTree.{CondTree}
use Rattle.sq_ast.specs.declared.cond.CondTree.TheFolds.{fold-CondTree}
use Rattle.sq_ast.specs.declared.cond.CondTree.TheOpen.{CondTree-F}
use Rattle.sq_ast.specs.declared.expr.ColRef.{ColRef}
use Rattle.sq_ast.specs.declared.expr.ExprTree.{ExprTree}
use Rattle.sq_ast.specs.declared.expr.ExprTree.TheFolds.{para-ExprTree}
use Rattle.sq_ast.specs.declared.expr.ExprTree.TheOpen.{ExprTree-F, TermTree-F}
use Rattle.sq_ast.specs.declared.expr.FuncTree.{FuncTree}
use Rattle.sq_ast.specs.declared.expr.FuncTree.TheVariants as written
use Rattle.sq_ast.specs.declared.expr.TermTree.{TermTree}
use Rattle.sq_expr.specs.contracts.expr.Func.{the_type}
use Rattle.sq_expr.specs.declared.cond.Cmp.{Cmp}
use Rattle.sq_expr.specs.declared.cond.Cmp.TheVariants as cmp
use Rattle.sq_expr.specs.declared.cond.Cond.{Cond}
use Rattle.sq_expr.specs.declared.cond.Cond.TheVariants as cond
use Rattle.sq_expr.specs.declared.expr.Expr.{Expr, out-Expr}
use Rattle.sq_expr.specs.declared.expr.Expr.TheOpen.{Expr-F}
use Rattle.sq_expr.specs.declared.expr.Expr.TheVariants as expr
use Rattle.sq_expr.specs.declared.expr.Func.{Func}
use Rattle.sq_expr.specs.declared.expr.Func.TheVariants as func
use Rattle.sq_expr.specs.declared.expr.Kind.{Kind}
use Rattle.sq_expr.specs.declared.expr.Kind.TheVariants.{Bigint, Text}
use Rattle.sq_expr.specs.declared.expr.Term.{Term, roll-Term}
use Rattle.sq_expr.specs.Same.{is_same_expr}
use Rattle.sq_typed.specs.declared.query.BlockCall.{BlockCall}
use Rattle.sq_typed.specs.Leaves.{CallTree}
use Rattle.sq_typed.specs.Scopes.{Scope, number_of}

-- ---- one tree for another

module _ (column : ColRef → Expr) (call : CallTree → Expr) where
  -- one level of an expression, with each part and what it becomes in its place
  abbrev pub replaced_step : ExprTree-F (ExprTree × Expr) (TermTree × Term) → Expr
  replaced_step (ExprTree-F.Sum ps) = expr.Sum (map (λ p. p.1) ps)
  replaced_step (ExprTree-F.Product ps) = expr.Product (map (λ p. p.1) ps)
  replaced_step (ExprTree-F.Neg p) = expr.Neg p.1
  replaced_step (ExprTree-F.Number n) = expr.Number n
  replaced_step (ExprTree-F.Text t) = expr.Text t
  replaced_step (ExprTree-F.Column r) = column r
  replaced_step (ExprTree-F.Call f arg) = call (record { func = f; arg = option_map (λ p. p.0) arg })

  abbrev pub replaced_term : TermTree-F (ExprTree × Expr) (TermTree × Term) → Term
  replaced_term t = roll-Term (record { minus = t.minus; expr = t.expr.1 })

  -- an expression with these in the place of its columns and calls
  unfoldable pub replaced : ExprTree → Expr
  replaced e = para-ExprTree Expr Term replaced_step replaced_term e

abbrev pub cmp_of : CmpTree → Cmp
cmp_of written_cmp.Eq = cmp.Eq
cmp_of written_cmp.Ne = cmp.Ne
cmp_of written_cmp.Lt = cmp.Lt
cmp_of written_cmp.Le = cmp.Le
cmp_of written_cmp.Gt = cmp.Gt
cmp_of written_cmp.Ge = cmp.Ge

-- one level of a condition, with what each part becomes in its place
abbrev pub replaced_cond_step : (ExprTree → Expr) → CondTree-F Cond → Cond
replaced_cond_step f (CondTree-F.Any cs) = cond.Any cs
replaced_cond_step f (CondTree-F.All cs) = cond.All cs
replaced_cond_step f (CondTree-F.Not c) = cond.Not c
replaced_cond_step f (CondTree-F.Compare c left right) = cond.Compare (cmp_of c) (f left) (f right)
replaced_cond_step f (CondTree-F.Null e negated) = cond.Null (f e) negated

-- a condition with what f makes of each expression
unfoldable pub replaced_cond : (ExprTree → Expr) → CondTree → Cond
replaced_cond f c = fold-CondTree Cond (replaced_cond_step f) c

-- ---- over the columns of the sources

-- over the columns in scope; no call stands here
abbrev pub row_expr : Scope → ExprTree → Expr
row_expr scope e = replaced (λ r. expr.Column (number_of scope r)) (λ c. expr.Number 0) e

abbrev pub row_cond : Scope → CondTree → Cond
row_cond scope c = replaced_cond (row_expr scope) c

abbrev pub func_of : FuncTree → Option ExprTree → Func
func_of written.Count None = func.CountAll
func_of written.Count (Some e) = func.Count
func_of written.Sum e = func.Sum
func_of written.Min e = func.Min
func_of written.Max e = func.Max

-- a call, with its argument over the columns in scope
abbrev pub typed_call : Scope → CallTree → BlockCall
typed_call scope c = record { func = func_of c.func c.arg; arg = option_map (row_expr scope) c.arg }

abbrev pub same_argument : Option Expr → Option Expr → Bool
same_argument None None = true
same_argument (Some a) (Some b) = is_same_expr a b
same_argument a b = false

abbrev pub is_same_call : BlockCall → BlockCall → Bool
is_same_call c other = sameb the_type c.func other.func && same_argument c.arg other.arg

-- each member of a list once, in order of first appearance
abbrev pub once : {A : Type 0} → (A → A → Bool) → List A → List A
once same xs = fold (λ kept x. kept ++ (if list_any (same x) kept then [] else x ∷ [])) [] xs

-- ---- kinds

-- one level of an expression over columns of these kinds: a plain column keeps its kind, a computed number is BIGINT
abbrev pub kind_step : List Kind → Expr-F Expr Term → Kind
kind_step kinds (Expr-F.Column n) = get_or kinds n Bigint
kind_step kinds (Expr-F.Text t) = Text
kind_step kinds e = Bigint

abbrev pub kind_of : List Kind → Expr → Kind
kind_of kinds e = kind_step kinds (out-Expr e)

-- MIN and MAX have the kind of their argument, COUNT and SUM are BIGINT
abbrev pub call_kind : List Kind → Func → Option Expr → Kind
call_kind kinds func.Min (Some e) = kind_of kinds e
call_kind kinds func.Max (Some e) = kind_of kinds e
call_kind kinds f arg = Bigint
