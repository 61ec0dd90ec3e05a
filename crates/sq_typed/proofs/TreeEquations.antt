-- The words on trees of expressions and conditions, one equation for each form of them.
use Rattle.std.proofs.Common.{◌≡◌, ℕ, Bool, List, [], ◌∷◌, map, ap, sym, ◌∙◌}
use Rattle.std.specs.Prelude.{Some, None}
use Rattle.std.specs.List.{flat_map}
use Rattle.sq_ast.specs.declared.cond.CmpTree.{CmpTree}
use Rattle.sq_ast.specs.declared.cond.CondTree.{CondTree, roll-CondTree}
use Rattle.sq_ast.specs.declared.cond.CondTree.TheFolds.{map-CondTree, fold-roll-CondTree}
use Rattle.sq_ast.specs.declared.cond.CondTree.TheOpen.{CondTree-F}
use Rattle.sq_ast.specs.declared.cond.CondTree.TheVariants as condition
use Rattle.sq_ast.specs.declared.expr.ColRef.{ColRef}
use Rattle.sq_ast.specs.declared.expr.ExprTree.{ExprTree, roll-ExprTree}
use Rattle.sq_ast.specs.declared.expr.ExprTree.TheFolds.{map-ExprTree, para-TermTree, fold-roll-ExprTree, fold_out-TermTree, para-roll-ExprTree, para-roll-TermTree}
use Rattle.sq_ast.specs.declared.expr.ExprTree.TheOpen.{ExprTree-F}
use Rattle.sq_ast.specs.declared.expr.ExprTree.TheVariants as tree
use Rattle.sq_ast.specs.declared.expr.FuncTree.{FuncTree}
use Rattle.sq_ast.specs.declared.expr.TermTree.{TermTree, out-TermTree, roll-out-TermTree}
use Rattle.sq_expr.specs.declared.cond.Cond.{Cond}
use Rattle.sq_expr.specs.declared.cond.Cond.TheVariants as cond
use Rattle.sq_expr.specs.declared.expr.Expr.{Expr}
use Rattle.sq_expr.specs.declared.expr.Expr.TheVariants as expr
use Rattle.sq_expr.specs.declared.expr.Term.{Term, roll-Term}
use Rattle.sq_typed.specs.Leaves.{CallTree, Leaf, Plain, Called, refs_step, refs, leaves_step, leaves, exprs_step, exprs_in}
use Rattle.sq_typed.specs.Numbered.{replaced_step, replaced_term, replaced, cmp_of, replaced_cond_step, replaced_cond}
use Rattle.sq_typed.specs.Scopes.{Text}

-- ---- refs

refs_roll : (x : ExprTree-F ExprTree TermTree) → refs (roll-ExprTree x) ≡ refs_step (map-ExprTree ExprTree TermTree (List ColRef) (List ColRef) refs (λ t. refs t.expr) x)
unfolding refs
refs_roll x =
    fold-roll-ExprTree (List ColRef) (List ColRef) refs_step (λ t. t.expr) x ∙
    ap (λ f. refs_step (map-ExprTree ExprTree TermTree (List ColRef) (List ColRef) refs f x)) (λ i t. fold_out-TermTree (List ColRef) (List ColRef) refs_step (λ t. t.expr) t i)

pub refs-Sum : (ts : List TermTree) → refs (tree.Sum ts) ≡ flat_map (λ rs. rs) (map (λ t. refs t.expr) ts)
refs-Sum ts = ap refs (sym (tree.rolls-Sum ts)) ∙ refs_roll (ExprTree-F.Sum ts)

pub refs-Product : (es : List ExprTree) → refs (tree.Product es) ≡ flat_map (λ rs. rs) (map refs es)
refs-Product es = ap refs (sym (tree.rolls-Product es)) ∙ refs_roll (ExprTree-F.Product es)

pub refs-Neg : (e : ExprTree) → refs (tree.Neg e) ≡ refs e
refs-Neg e = ap refs (sym (tree.rolls-Neg e)) ∙ refs_roll (ExprTree-F.Neg e)

pub refs-Number : (n : ℕ) → refs (tree.Number n) ≡ []
refs-Number n = ap refs (sym (tree.rolls-Number n)) ∙ refs_roll (ExprTree-F.Number n)

pub refs-Text : (t : Text) → refs (tree.Text t) ≡ []
refs-Text t = ap refs (sym (tree.rolls-Text t)) ∙ refs_roll (ExprTree-F.Text t)

pub refs-Column : (r : ColRef) → refs (tree.Column r) ≡ r ∷ []
refs-Column r = ap refs (sym (tree.rolls-Column r)) ∙ refs_roll (ExprTree-F.Column r)

pub refs-CountAll : (f : FuncTree) → refs (tree.Call f None) ≡ []
refs-CountAll f = ap refs (sym (tree.rolls-Call f None)) ∙ refs_roll (ExprTree-F.Call f None)

pub refs-Call : (f : FuncTree) (e : ExprTree) → refs (tree.Call f (Some e)) ≡ refs e
refs-Call f e = ap refs (sym (tree.rolls-Call f (Some e))) ∙ refs_roll (ExprTree-F.Call f (Some e))

-- ---- leaves

term_leaves : TermTree → List Leaf
term_leaves t = para-TermTree (List Leaf) (List Leaf) leaves_step (λ t. t.expr.1) t

term_leaves-is : (t : TermTree) → term_leaves t ≡ leaves t.expr
unfolding term_leaves leaves
term_leaves-is t = ap (para-TermTree (List Leaf) (List Leaf) leaves_step (λ t. t.expr.1)) (sym (roll-out-TermTree t)) ∙ para-roll-TermTree (List Leaf) (List Leaf) leaves_step (λ t. t.expr.1) (out-TermTree t)

leaves_roll : (x : ExprTree-F ExprTree TermTree) → leaves (roll-ExprTree x) ≡ leaves_step (map-ExprTree ExprTree TermTree (ExprTree × List Leaf) (TermTree × List Leaf) (λ e. (e, leaves e)) (λ t. (t, leaves t.expr)) x)
unfolding term_leaves leaves
leaves_roll x =
    para-roll-ExprTree (List Leaf) (List Leaf) leaves_step (λ t. t.expr.1) x ∙
    ap (λ f. leaves_step (map-ExprTree ExprTree TermTree (ExprTree × List Leaf) (TermTree × List Leaf) (λ e. (e, leaves e)) f x)) (λ i t. (t, term_leaves-is t i))

pub leaves-Sum : (ts : List TermTree) → leaves (tree.Sum ts) ≡ flat_map (λ (p : TermTree × List Leaf). p.1) (map (λ t. (t, leaves t.expr)) ts)
leaves-Sum ts = ap leaves (sym (tree.rolls-Sum ts)) ∙ leaves_roll (ExprTree-F.Sum ts)

pub leaves-Product : (es : List ExprTree) → leaves (tree.Product es) ≡ flat_map (λ (p : ExprTree × List Leaf). p.1) (map (λ e. (e, leaves e)) es)
leaves-Product es = ap leaves (sym (tree.rolls-Product es)) ∙ leaves_roll (ExprTree-F.Product es)

pub leaves-Neg : (e : ExprTree) → leaves (tree.Neg e) ≡ leaves e
leaves-Neg e = ap leaves (sym (tree.rolls-Neg e)) ∙ leaves_roll (ExprTree-F.Neg e)

pub leaves-Number : (n : ℕ) → leaves (tree.Number n) ≡ []
leaves-Number n = ap leaves (sym (tree.rolls-Number n)) ∙ leaves_roll (ExprTree-F.Number n)

pub leaves-Text : (t : Text) → leaves (tree.Text t) ≡ []
leaves-Text t = ap leaves (sym (tree.rolls-Text t)) ∙ leaves_roll (ExprTree-F.Text t)

pub leaves-Column : (r : ColRef) → leaves (tree.Column r) ≡ Plain r ∷ []
leaves-Column r = ap leaves (sym (tree.rolls-Column r)) ∙ leaves_roll (ExprTree-F.Column r)

pub leaves-CountAll : (f : FuncTree) → leaves (tree.Call f None) ≡ Called (record { func = f; arg = None }) ∷ []
leaves-CountAll f = ap leaves (sym (tree.rolls-Call f None)) ∙ leaves_roll (ExprTree-F.Call f None)

pub leaves-Call : (f : FuncTree) (e : ExprTree) → leaves (tree.Call f (Some e)) ≡ Called (record { func = f; arg = Some e }) ∷ []
leaves-Call f e = ap leaves (sym (tree.rolls-Call f (Some e))) ∙ leaves_roll (ExprTree-F.Call f (Some e))

-- ---- exprs_in

exprs_roll : (x : CondTree-F CondTree) → exprs_in (roll-CondTree x) ≡ exprs_step (map-CondTree CondTree (List ExprTree) exprs_in x)
unfolding exprs_in
exprs_roll x = fold-roll-CondTree (List ExprTree) exprs_step x

pub exprs-Any : (cs : List CondTree) → exprs_in (condition.Any cs) ≡ flat_map (λ es. es) (map exprs_in cs)
exprs-Any cs = ap exprs_in (sym (condition.rolls-Any cs)) ∙ exprs_roll (CondTree-F.Any cs)

pub exprs-All : (cs : List CondTree) → exprs_in (condition.All cs) ≡ flat_map (λ es. es) (map exprs_in cs)
exprs-All cs = ap exprs_in (sym (condition.rolls-All cs)) ∙ exprs_roll (CondTree-F.All cs)

pub exprs-Not : (c : CondTree) → exprs_in (condition.Not c) ≡ exprs_in c
exprs-Not c = ap exprs_in (sym (condition.rolls-Not c)) ∙ exprs_roll (CondTree-F.Not c)

pub exprs-Compare : (c : CmpTree) (left right : ExprTree) → exprs_in (condition.Compare c left right) ≡ left ∷ right ∷ []
exprs-Compare c left right = ap exprs_in (sym (condition.rolls-Compare c left right)) ∙ exprs_roll (CondTree-F.Compare c left right)

pub exprs-Null : (e : ExprTree) (negated : Bool) → exprs_in (condition.Null e negated) ≡ e ∷ []
exprs-Null e negated = ap exprs_in (sym (condition.rolls-Null e negated)) ∙ exprs_roll (CondTree-F.Null e negated)

-- ---- replaced

module _ (column : ColRef → Expr) (call : CallTree → Expr) where
  -- a term of a sum
  abbrev pub replaced_in_term : TermTree → Term
  replaced_in_term t = roll-Term (record { minus = t.minus; expr = replaced column call t.expr })

  term_para : TermTree → Term
  term_para t = para-TermTree Expr Term (replaced_step column call) (replaced_term column call) t

  term_para-is : (t : TermTree) → term_para t ≡ replaced_in_term t
  unfolding term_para replaced
  term_para-is t = ap (para-TermTree Expr Term (replaced_step column call) (replaced_term column call)) (sym (roll-out-TermTree t)) ∙ para-roll-TermTree Expr Term (replaced_step column call) (replaced_term column call) (out-TermTree t)

  replaced_roll : (x : ExprTree-F ExprTree TermTree) → replaced column call (roll-ExprTree x) ≡ replaced_step column call (map-ExprTree ExprTree TermTree (ExprTree × Expr) (TermTree × Term) (λ e. (e, replaced column call e)) (λ t. (t, replaced_in_term t)) x)
  unfolding term_para replaced
  replaced_roll x =
      para-roll-ExprTree Expr Term (replaced_step column call) (replaced_term column call) x ∙
      ap (λ f. replaced_step column call (map-ExprTree ExprTree TermTree (ExprTree × Expr) (TermTree × Term) (λ e. (e, replaced column call e)) f x)) (λ i t. (t, term_para-is t i))

  pub replaced-Sum : (ts : List TermTree) → replaced column call (tree.Sum ts) ≡ expr.Sum (map (λ (p : TermTree × Term). p.1) (map (λ t. (t, replaced_in_term t)) ts))
  replaced-Sum ts = ap (replaced column call) (sym (tree.rolls-Sum ts)) ∙ replaced_roll (ExprTree-F.Sum ts)

  pub replaced-Product : (es : List ExprTree) → replaced column call (tree.Product es) ≡ expr.Product (map (λ (p : ExprTree × Expr). p.1) (map (λ e. (e, replaced column call e)) es))
  replaced-Product es = ap (replaced column call) (sym (tree.rolls-Product es)) ∙ replaced_roll (ExprTree-F.Product es)

  pub replaced-Neg : (e : ExprTree) → replaced column call (tree.Neg e) ≡ expr.Neg (replaced column call e)
  replaced-Neg e = ap (replaced column call) (sym (tree.rolls-Neg e)) ∙ replaced_roll (ExprTree-F.Neg e)

  pub replaced-Number : (n : ℕ) → replaced column call (tree.Number n) ≡ expr.Number n
  replaced-Number n = ap (replaced column call) (sym (tree.rolls-Number n)) ∙ replaced_roll (ExprTree-F.Number n)

  pub replaced-Text : (t : Text) → replaced column call (tree.Text t) ≡ expr.Text t
  replaced-Text t = ap (replaced column call) (sym (tree.rolls-Text t)) ∙ replaced_roll (ExprTree-F.Text t)

  pub replaced-Column : (r : ColRef) → replaced column call (tree.Column r) ≡ column r
  replaced-Column r = ap (replaced column call) (sym (tree.rolls-Column r)) ∙ replaced_roll (ExprTree-F.Column r)

  pub replaced-CountAll : (f : FuncTree) → replaced column call (tree.Call f None) ≡ call (record { func = f; arg = None })
  replaced-CountAll f = ap (replaced column call) (sym (tree.rolls-Call f None)) ∙ replaced_roll (ExprTree-F.Call f None)

  pub replaced-Call : (f : FuncTree) (e : ExprTree) → replaced column call (tree.Call f (Some e)) ≡ call (record { func = f; arg = Some e })
  replaced-Call f e = ap (replaced column call) (sym (tree.rolls-Call f (Some e))) ∙ replaced_roll (ExprTree-F.Call f (Some e))

-- ---- replaced_cond

module _ (f : ExprTree → Expr) where
  cond_roll : (x : CondTree-F CondTree) → replaced_cond f (roll-CondTree x) ≡ replaced_cond_step f (map-CondTree CondTree Cond (replaced_cond f) x)
  unfolding replaced_cond
  cond_roll x = fold-roll-CondTree Cond (replaced_cond_step f) x

  pub replaced_cond-Any : (cs : List CondTree) → replaced_cond f (condition.Any cs) ≡ cond.Any (map (replaced_cond f) cs)
  replaced_cond-Any cs = ap (replaced_cond f) (sym (condition.rolls-Any cs)) ∙ cond_roll (CondTree-F.Any cs)

  pub replaced_cond-All : (cs : List CondTree) → replaced_cond f (condition.All cs) ≡ cond.All (map (replaced_cond f) cs)
  replaced_cond-All cs = ap (replaced_cond f) (sym (condition.rolls-All cs)) ∙ cond_roll (CondTree-F.All cs)

  pub replaced_cond-Not : (c : CondTree) → replaced_cond f (condition.Not c) ≡ cond.Not (replaced_cond f c)
  replaced_cond-Not c = ap (replaced_cond f) (sym (condition.rolls-Not c)) ∙ cond_roll (CondTree-F.Not c)

  pub replaced_cond-Compare : (c : CmpTree) (left right : ExprTree) → replaced_cond f (condition.Compare c left right) ≡ cond.Compare (cmp_of c) (f left) (f right)
  replaced_cond-Compare c left right = ap (replaced_cond f) (sym (condition.rolls-Compare c left right)) ∙ cond_roll (CondTree-F.Compare c left right)

  pub replaced_cond-Null : (e : ExprTree) (negated : Bool) → replaced_cond f (condition.Null e negated) ≡ cond.Null (f e) negated
  replaced_cond-Null e negated = ap (replaced_cond f) (sym (condition.rolls-Null e negated)) ∙ cond_roll (CondTree-F.Null e negated)

pub ruleset trees = (refs-Sum, refs-Product, refs-Neg, refs-Number, refs-Text, refs-Column, refs-CountAll, refs-Call, leaves-Sum, leaves-Product, leaves-Neg, leaves-Number, leaves-Text, leaves-Column, leaves-CountAll, leaves-Call, exprs-Any, exprs-All, exprs-Not, exprs-Compare, exprs-Null, replaced-Sum, replaced-Product, replaced-Neg, replaced-Number, replaced-Text, replaced-Column, replaced-CountAll, replaced-Call, replaced_cond-Any, replaced_cond-All, replaced_cond-Not, replaced_cond-Compare, replaced_cond-Null)
