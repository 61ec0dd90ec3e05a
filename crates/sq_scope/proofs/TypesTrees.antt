-- Tests of the leaves of an expression and of the expressions in a condition, one equation for each form.
use Rattle.std.proofs.Common.{◌≡◌, ℕ, Bool, true, false, ◌||◌, List, [], ◌∷◌, ◌++◌, map, get_or, refl, ap, sym, ◌∙◌}
use Rattle.std.specs.Prelude.{Option, Some, None, option_to_list}
use Rattle.std.specs.List.{flat_map, list_any}
use Rattle.std.proofs.lemmas.List.Folds.{list_any-append, flat_map-map}
use Rattle.std.proofs.lemmas.Grind.{flat_map-append}
use Rattle.sq_expr.proofs.Lists.{any_flat}
use Rattle.sq_ast.specs.declared.cond.CmpTree.{CmpTree}
use Rattle.sq_ast.specs.declared.cond.CondTree.{CondTree}
use Rattle.sq_ast.specs.declared.cond.CondTree.TheVariants as condition
use Rattle.sq_ast.specs.declared.expr.ColRef.{ColRef}
use Rattle.sq_ast.specs.declared.expr.ExprTree.{ExprTree, out-ExprTree, roll-ExprTree, out-roll-ExprTree}
use Rattle.sq_ast.specs.declared.expr.ExprTree.TheOpen.{ExprTree-F}
use Rattle.sq_typed.specs.Selected.{plain_name}
use Rattle.sq_ast.specs.declared.expr.ExprTree.TheVariants as tree
use Rattle.sq_ast.specs.declared.expr.FuncTree.{FuncTree}
use Rattle.sq_ast.specs.declared.expr.TermTree.{TermTree}
use Rattle.sq_expr.specs.declared.expr.Expr.{Expr, roll-Expr, out-roll-Expr}
use Rattle.sq_expr.specs.declared.expr.Expr.TheOpen.{Expr-F}
use Rattle.sq_expr.specs.declared.expr.Kind.{Kind}
use Rattle.sq_expr.specs.declared.expr.Kind.TheVariants as kinds_of_column
use Rattle.sq_expr.specs.declared.expr.Kind.TheVariants.{Bigint}
use Rattle.sq_expr.specs.declared.expr.Expr.TheVariants as expr
use Rattle.sq_expr.specs.declared.expr.Term.{Term, roll-Term}
use Rattle.sq_typed.specs.Numbered.{replaced, kind_of, kind_step}
use Rattle.sq_typed.specs.Leaves.{CallTree, Leaf, Called, leaves, exprs_in}
use Rattle.sq_typed.specs.Leaves.{has_call}
use Rattle.sq_typed.specs.Scopes.{Text}
use Rattle.sq_scope.specs.TypesLeaves.{nests, cond_leaves}
use Rattle.sq_typed.proofs.TreeEquations.{leaves-Sum, leaves-Product, leaves-Neg, leaves-Number, leaves-Text, leaves-Column, leaves-CountAll, leaves-Call, exprs-Any, exprs-All, exprs-Not, exprs-Compare, exprs-Null, replaced-Sum, replaced-Product, replaced-Neg, replaced-Number, replaced-Text, replaced-Column, replaced-CountAll, replaced-Call, replaced_cond-Any, replaced_cond-All, replaced_cond-Not, replaced_cond-Compare, replaced_cond-Null}

-- ---- lists

pub map_twice : {A B C : Type 0} (g : B → C) (f : A → B) (xs : List A) → map g (map f xs) ≡ map (λ x. g (f x)) xs
map_twice g f [] = refl
map_twice g f (x ∷ xs) = ap (λ ys. g (f x) ∷ ys) (map_twice g f xs)

-- ---- leaves

module _ (p : Leaf → Bool) where
  pub any_leaf-Sum : (ts : List TermTree) → list_any p (leaves (tree.Sum ts)) ≡ list_any (λ t. list_any p (leaves t.expr)) ts
  any_leaf-Sum ts =
      ap (list_any p) (leaves-Sum ts ∙ flat_map-map (λ (q : TermTree × List Leaf). q.1) (λ t. (t, leaves t.expr)) ts)
      ∙ any_flat p (λ t. leaves t.expr) ts

  pub any_leaf-Product : (es : List ExprTree) → list_any p (leaves (tree.Product es)) ≡ list_any (λ e. list_any p (leaves e)) es
  any_leaf-Product es =
      ap (list_any p) (leaves-Product es ∙ flat_map-map (λ (q : ExprTree × List Leaf). q.1) (λ e. (e, leaves e)) es)
      ∙ any_flat p leaves es

pub leaves_call : (f : FuncTree) (arg : Option ExprTree) → leaves (tree.Call f arg) ≡ Called (record { func = f; arg = arg }) ∷ []
leaves_call f None = leaves-CountAll f
leaves_call f (Some e) = leaves-Call f e

pub or_false : (b : Bool) → (b || false) ≡ b
or_false true = refl
or_false false = refl

-- a call nests where a call stands in its argument
pub nested_call : (f : FuncTree) (arg : Option ExprTree) → list_any nests (leaves (tree.Call f arg)) ≡ list_any has_call (option_to_list arg)
nested_call f arg = ap (list_any nests) (leaves_call f arg) ∙ (or_false (list_any has_call (option_to_list arg) || false) ∙ or_false (list_any has_call (option_to_list arg)))

pub ruleset leaf_forms = (any_leaf-Sum, any_leaf-Product, leaves-Neg, leaves-Number, leaves-Text, leaves-Column, leaves_call)

pub ruleset nested_forms = (any_leaf-Sum, any_leaf-Product, leaves-Neg, leaves-Number, leaves-Text, leaves-Column, nested_call)

pub leaves_sum : (ts : List TermTree) → leaves (tree.Sum ts) ≡ flat_map (λ t. leaves t.expr) ts
leaves_sum ts = leaves-Sum ts ∙ flat_map-map (λ (q : TermTree × List Leaf). q.1) (λ t. (t, leaves t.expr)) ts

pub leaves_product : (es : List ExprTree) → leaves (tree.Product es) ≡ flat_map leaves es
leaves_product es = leaves-Product es ∙ flat_map-map (λ (q : ExprTree × List Leaf). q.1) (λ e. (e, leaves e)) es

pub ruleset plain_forms = (leaves_sum, leaves_product, leaves-Neg, leaves-Number, leaves-Text, leaves-Column, leaves_call)

-- ---- expressions in a condition

pub flat_flat : {A B C : Type 0} (g : B → List C) (f : A → List B) (xs : List A) → flat_map g (flat_map f xs) ≡ flat_map (λ x. flat_map g (f x)) xs
flat_flat g f [] = refl
flat_flat g f (x ∷ xs) = flat_map-append g (f x) (flat_map f xs) ∙ ap (λ ys. flat_map g (f x) ++ ys) (flat_flat g f xs)

pub cond_leaves-Any : (cs : List CondTree) → flat_map leaves (exprs_in (condition.Any cs)) ≡ flat_map cond_leaves cs
cond_leaves-Any cs = ap (flat_map leaves) (exprs-Any cs ∙ flat_map-map (λ (es : List ExprTree). es) exprs_in cs) ∙ flat_flat leaves exprs_in cs

pub cond_leaves-All : (cs : List CondTree) → flat_map leaves (exprs_in (condition.All cs)) ≡ flat_map cond_leaves cs
cond_leaves-All cs = ap (flat_map leaves) (exprs-All cs ∙ flat_map-map (λ (es : List ExprTree). es) exprs_in cs) ∙ flat_flat leaves exprs_in cs

pub append_empty : {A : Type 0} (xs : List A) → xs ++ [] ≡ xs
append_empty [] = refl
append_empty (x ∷ xs) = ap (λ ys. x ∷ ys) (append_empty xs)

pub cond_leaves-Compare : (c : CmpTree) (left right : ExprTree) → flat_map leaves (exprs_in (condition.Compare c left right)) ≡ leaves left ++ leaves right
cond_leaves-Compare c left right = ap (flat_map leaves) (exprs-Compare c left right) ∙ ap (λ ls. leaves left ++ ls) (append_empty (leaves right))

pub cond_leaves-Null : (e : ExprTree) (negated : Bool) → flat_map leaves (exprs_in (condition.Null e negated)) ≡ leaves e
cond_leaves-Null e negated = ap (flat_map leaves) (exprs-Null e negated) ∙ append_empty (leaves e)

pub ruleset cond_leaf_forms = (cond_leaves-Any, cond_leaves-All, exprs-Not, cond_leaves-Compare, cond_leaves-Null)

module _ (p : ExprTree → Bool) where
  pub any_expr-Any : (cs : List CondTree) → list_any p (exprs_in (condition.Any cs)) ≡ list_any (λ c. list_any p (exprs_in c)) cs
  any_expr-Any cs = ap (list_any p) (exprs-Any cs ∙ flat_map-map (λ (es : List ExprTree). es) exprs_in cs) ∙ any_flat p exprs_in cs

  pub any_expr-All : (cs : List CondTree) → list_any p (exprs_in (condition.All cs)) ≡ list_any (λ c. list_any p (exprs_in c)) cs
  any_expr-All cs = ap (list_any p) (exprs-All cs ∙ flat_map-map (λ (es : List ExprTree). es) exprs_in cs) ∙ any_flat p exprs_in cs

  pub any_expr-Compare : (c : CmpTree) (left right : ExprTree) → list_any p (exprs_in (condition.Compare c left right)) ≡ (p left || p right)
  any_expr-Compare c left right = ap (list_any p) (exprs-Compare c left right) ∙ ap (λ b. p left || b) (or_false (p right))

  pub any_expr-Null : (e : ExprTree) (negated : Bool) → list_any p (exprs_in (condition.Null e negated)) ≡ p e
  any_expr-Null e negated = ap (list_any p) (exprs-Null e negated) ∙ or_false (p e)

pub ruleset cond_forms = (any_expr-Any, any_expr-All, exprs-Not, any_expr-Compare, any_expr-Null)

-- ---- one tree for another

module _ (column : ColRef → Expr) (call : CallTree → Expr) where
  pub replaced_sum : (ts : List TermTree) → replaced column call (tree.Sum ts) ≡ expr.Sum (map (λ t. roll-Term (record { minus = t.minus; expr = replaced column call t.expr })) ts)
  replaced_sum ts = replaced-Sum column call ts ∙ ap expr.Sum (map_twice (λ (p : TermTree × Term). p.1) (λ t. (t, roll-Term (record { minus = t.minus; expr = replaced column call t.expr }))) ts)

  pub replaced_product : (es : List ExprTree) → replaced column call (tree.Product es) ≡ expr.Product (map (replaced column call) es)
  replaced_product es = replaced-Product column call es ∙ ap expr.Product (map_twice (λ (p : ExprTree × Expr). p.1) (λ e. (e, replaced column call e)) es)

  pub replaced_call : (f : FuncTree) (arg : Option ExprTree) → replaced column call (tree.Call f arg) ≡ call (record { func = f; arg = arg })
  replaced_call f None = replaced-CountAll column call f
  replaced_call f (Some e) = replaced-Call column call f e

pub ruleset replaced_forms = (replaced_sum, replaced_product, replaced_call, replaced-Neg, replaced-Number, replaced-Text, replaced-Column, replaced_cond-Any, replaced_cond-All, replaced_cond-Not, replaced_cond-Compare, replaced_cond-Null)

-- ---- kinds

module _ (kinds : List Kind) where
  kind_rolls : (x : Expr-F Expr Term) → kind_of kinds (roll-Expr x) ≡ kind_step kinds x
  kind_rolls x = ap (kind_step kinds) (out-roll-Expr x)

  pub kind_of-Column : (n : ℕ) → kind_of kinds (expr.Column n) ≡ get_or kinds n Bigint
  kind_of-Column n = ap (kind_of kinds) (sym (expr.rolls-Column n)) ∙ kind_rolls (Expr-F.Column n)

  pub kind_of-Number : (n : ℕ) → kind_of kinds (expr.Number n) ≡ Bigint
  kind_of-Number n = ap (kind_of kinds) (sym (expr.rolls-Number n)) ∙ kind_rolls (Expr-F.Number n)

  pub kind_of-Text : (t : Text) → kind_of kinds (expr.Text t) ≡ kinds_of_column.Text
  kind_of-Text t = ap (kind_of kinds) (sym (expr.rolls-Text t)) ∙ kind_rolls (Expr-F.Text t)

  pub kind_of-Neg : (e : Expr) → kind_of kinds (expr.Neg e) ≡ Bigint
  kind_of-Neg e = ap (kind_of kinds) (sym (expr.rolls-Neg e)) ∙ kind_rolls (Expr-F.Neg e)

  pub kind_of-Sum : (ts : List Term) → kind_of kinds (expr.Sum ts) ≡ Bigint
  kind_of-Sum ts = ap (kind_of kinds) (sym (expr.rolls-Sum ts)) ∙ kind_rolls (Expr-F.Sum ts)

  pub kind_of-Product : (es : List Expr) → kind_of kinds (expr.Product es) ≡ Bigint
  kind_of-Product es = ap (kind_of kinds) (sym (expr.rolls-Product es)) ∙ kind_rolls (Expr-F.Product es)

pub ruleset kind_forms = (kind_of-Column, kind_of-Number, kind_of-Text, kind_of-Neg, kind_of-Sum, kind_of-Product)

-- ---- names of plain columns

name_rolls : (x : ExprTree-F ExprTree TermTree) → plain_name (out-ExprTree (roll-ExprTree x)) ≡ plain_name x
name_rolls x = ap plain_name (out-roll-ExprTree x)

pub name-Sum : (ts : List TermTree) → plain_name (out-ExprTree (tree.Sum ts)) ≡ None
name-Sum ts = ap (λ e. plain_name (out-ExprTree e)) (sym (tree.rolls-Sum ts)) ∙ name_rolls (ExprTree-F.Sum ts)

pub name-Product : (es : List ExprTree) → plain_name (out-ExprTree (tree.Product es)) ≡ None
name-Product es = ap (λ e. plain_name (out-ExprTree e)) (sym (tree.rolls-Product es)) ∙ name_rolls (ExprTree-F.Product es)

pub name-Neg : (e : ExprTree) → plain_name (out-ExprTree (tree.Neg e)) ≡ None
name-Neg e = ap (λ e. plain_name (out-ExprTree e)) (sym (tree.rolls-Neg e)) ∙ name_rolls (ExprTree-F.Neg e)

pub name-Number : (n : ℕ) → plain_name (out-ExprTree (tree.Number n)) ≡ None
name-Number n = ap (λ e. plain_name (out-ExprTree e)) (sym (tree.rolls-Number n)) ∙ name_rolls (ExprTree-F.Number n)

pub name-Text : (t : Text) → plain_name (out-ExprTree (tree.Text t)) ≡ None
name-Text t = ap (λ e. plain_name (out-ExprTree e)) (sym (tree.rolls-Text t)) ∙ name_rolls (ExprTree-F.Text t)

pub name-Column : (r : ColRef) → plain_name (out-ExprTree (tree.Column r)) ≡ Some r.name
name-Column r = ap (λ e. plain_name (out-ExprTree e)) (sym (tree.rolls-Column r)) ∙ name_rolls (ExprTree-F.Column r)

pub name-Call : (f : FuncTree) (arg : Option ExprTree) → plain_name (out-ExprTree (tree.Call f arg)) ≡ None
name-Call f arg = ap (λ e. plain_name (out-ExprTree e)) (sym (tree.rolls-Call f arg)) ∙ name_rolls (ExprTree-F.Call f arg)

pub ruleset name_forms = (name-Sum, name-Product, name-Neg, name-Number, name-Text, name-Column, name-Call)
