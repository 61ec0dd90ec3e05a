-- What a shifted expression or condition is, and that it reads on a row behind another what the unshifted one
-- reads on the row alone.
use Rattle.std.proofs.Common.{◌≡◌, ℕ, suc, ◌+◌, Bool, not, if◌then◌else◌, List, [], ◌∷◌, ◌++◌, map, fold, length, ap, sym, ◌∙◌, arith}
use Rattle.std.specs.List.{AllByRecursion}
use Rattle.std.proofs.lemmas.Simd.{map-map}
use Rattle.sq_value.specs.declared.tri.Tri.TheVariants.{False, True}
use Rattle.sq_value.specs.declared.value.Value.{Value}
use Rattle.sq_value.specs.Truth.{least, greatest, opposite}
use Rattle.sq_expr.specs.declared.cond.Cmp.{Cmp}
use Rattle.sq_expr.specs.declared.cond.Cond.{Cond, roll-Cond}
use Rattle.sq_expr.specs.declared.cond.Cond.TheFolds.{map-Cond, fold-roll-Cond}
use Rattle.sq_expr.specs.declared.cond.Cond.TheOpen.{Cond-F}
use Rattle.sq_expr.specs.declared.cond.Cond.TheVariants as cond
use Rattle.sq_expr.specs.declared.expr.Expr.{Expr, roll-Expr}
use Rattle.sq_expr.specs.declared.expr.Expr.TheFolds.{map-Expr, fold-roll-Expr, fold_out-Term}
use Rattle.sq_expr.specs.declared.expr.Expr.TheOpen.{Expr-F}
use Rattle.sq_expr.specs.declared.expr.Expr.TheVariants as expr
use Rattle.sq_expr.specs.declared.expr.Term.{Term, roll-Term}
use Rattle.sq_expr.specs.Meaning.{column_of, negative, signed, sum_of, product_of, comparison, is_null, tri_of, num, term_num, truth}
use Rattle.sq_expr.specs.Shifted.{shift_step, shifted, shifted_term, shift_cond_step, shifted_cond}
use Rattle.sq_expr.proofs.Equations.{num-Column, num-Number, num-Text, num-Neg, num-Sum, num-Product, term_num-is, truth-Compare, truth-Null, truth-Not, truth-All, truth-Any}
use Rattle.sq_expr.proofs.Lists.{all_weaker, map_same}
use Rattle.sq_expr.proofs.Trees.{ExprCases, each_expr, CondCases, each_cond}

-- ---- each form

module _ (by : ℕ) where
  shifted_roll : (x : Expr-F Expr Term) → shifted by (roll-Expr x) ≡ shift_step by (map-Expr Expr Term Expr Term (shifted by) (shifted_term by) x)
  unfolding shifted shifted_term
  shifted_roll x = fold-roll-Expr Expr Term (shift_step by) roll-Term x

  pub shifted-Column : (n : ℕ) → shifted by (expr.Column n) ≡ expr.Column (by + n)
  shifted-Column n = ap (shifted by) (sym (expr.rolls-Column n)) ∙ shifted_roll (Expr-F.Column n)

  pub shifted-Number : (n : ℕ) → shifted by (expr.Number n) ≡ expr.Number n
  shifted-Number n = ap (shifted by) (sym (expr.rolls-Number n)) ∙ shifted_roll (Expr-F.Number n)

  pub shifted-Text : (t : List ℕ) → shifted by (expr.Text t) ≡ expr.Text t
  shifted-Text t = ap (shifted by) (sym (expr.rolls-Text t)) ∙ shifted_roll (Expr-F.Text t)

  pub shifted-Neg : (e : Expr) → shifted by (expr.Neg e) ≡ expr.Neg (shifted by e)
  shifted-Neg e = ap (shifted by) (sym (expr.rolls-Neg e)) ∙ shifted_roll (Expr-F.Neg e)

  pub shifted-Sum : (ts : List Term) → shifted by (expr.Sum ts) ≡ expr.Sum (map (shifted_term by) ts)
  shifted-Sum ts = ap (shifted by) (sym (expr.rolls-Sum ts)) ∙ shifted_roll (Expr-F.Sum ts)

  pub shifted-Product : (es : List Expr) → shifted by (expr.Product es) ≡ expr.Product (map (shifted by) es)
  shifted-Product es = ap (shifted by) (sym (expr.rolls-Product es)) ∙ shifted_roll (Expr-F.Product es)

  pub shifted_term-is : (t : Term) → shifted_term by t ≡ record { minus = t.minus; expr = shifted by t.expr }
  unfolding shifted shifted_term
  shifted_term-is t = fold_out-Term Expr Term (shift_step by) roll-Term t

  shifted_cond_roll : (x : Cond-F Cond) → shifted_cond by (roll-Cond x) ≡ shift_cond_step by (map-Cond Cond Cond (shifted_cond by) x)
  unfolding shifted_cond
  shifted_cond_roll x = fold-roll-Cond Cond (shift_cond_step by) x

  pub shifted_cond-Compare : (cmp : Cmp) (left right : Expr) → shifted_cond by (cond.Compare cmp left right) ≡ cond.Compare cmp (shifted by left) (shifted by right)
  shifted_cond-Compare cmp left right = ap (shifted_cond by) (sym (cond.rolls-Compare cmp left right)) ∙ shifted_cond_roll (Cond-F.Compare cmp left right)

  pub shifted_cond-Null : (e : Expr) (negated : Bool) → shifted_cond by (cond.Null e negated) ≡ cond.Null (shifted by e) negated
  shifted_cond-Null e negated = ap (shifted_cond by) (sym (cond.rolls-Null e negated)) ∙ shifted_cond_roll (Cond-F.Null e negated)

  pub shifted_cond-Not : (c : Cond) → shifted_cond by (cond.Not c) ≡ cond.Not (shifted_cond by c)
  shifted_cond-Not c = ap (shifted_cond by) (sym (cond.rolls-Not c)) ∙ shifted_cond_roll (Cond-F.Not c)

  pub shifted_cond-All : (cs : List Cond) → shifted_cond by (cond.All cs) ≡ cond.All (map (shifted_cond by) cs)
  shifted_cond-All cs = ap (shifted_cond by) (sym (cond.rolls-All cs)) ∙ shifted_cond_roll (Cond-F.All cs)

  pub shifted_cond-Any : (cs : List Cond) → shifted_cond by (cond.Any cs) ≡ cond.Any (map (shifted_cond by) cs)
  shifted_cond-Any cs = ap (shifted_cond by) (sym (cond.rolls-Any cs)) ∙ shifted_cond_roll (Cond-F.Any cs)

-- ---- the meaning

pub column_behind : (row more : List Value) (n : ℕ) → column_of (row ++ more) (length row + n) ≡ column_of more n
column_behind [] more n = ap (column_of more) (omega arith)
column_behind (x ∷ row) more n =
    let further : length (x ∷ row) + n ≡ suc (length row + n) = omega arith in
    ap (column_of (x ∷ (row ++ more))) further ∙ column_behind row more n

module _ (row more : List Value) where
  abbrev ReadsBehind : Expr → Type 0
  ReadsBehind e = num (shifted (length row) e) (row ++ more) ≡ num e more

  term_behind : (t : Term) → ReadsBehind t.expr → term_num (shifted_term (length row) t) (row ++ more) ≡ term_num t more
  term_behind t same =
      ap (λ u. term_num u (row ++ more)) (shifted_term-is (length row) t) ∙
      term_num-is (record { minus = t.minus; expr = shifted (length row) t.expr }) (row ++ more) ∙ ap (signed t.minus) same ∙ sym (term_num-is t more)

  behind_cases : ExprCases ReadsBehind
  behind_cases = record {
    column = λ n. ap (λ e. num e (row ++ more)) (shifted-Column (length row) n) ∙ num-Column (length row + n) (row ++ more) ∙ column_behind row more n ∙ sym (num-Column n more);
    number = λ n. ap (λ e. num e (row ++ more)) (shifted-Number (length row) n) ∙ num-Number n (row ++ more) ∙ sym (num-Number n more);
    text = λ t. ap (λ e. num e (row ++ more)) (shifted-Text (length row) t) ∙ num-Text t (row ++ more) ∙ sym (num-Text t more);
    neg = λ e k. ap (λ e. num e (row ++ more)) (shifted-Neg (length row) e) ∙ num-Neg (shifted (length row) e) (row ++ more) ∙ ap negative k ∙ sym (num-Neg e more);
    sum = λ ts ks.
        ap (λ e. num e (row ++ more)) (shifted-Sum (length row) ts) ∙ num-Sum (map (shifted_term (length row)) ts) (row ++ more) ∙
        ap sum_of (map-map (λ t. term_num t (row ++ more)) (shifted_term (length row)) ts ∙
        map_same (λ t. term_num (shifted_term (length row) t) (row ++ more)) (λ t. term_num t more) ts (all_weaker (λ t. ReadsBehind t.expr) (λ t. term_num (shifted_term (length row) t) (row ++ more) ≡ term_num t more) ts term_behind ks)) ∙
        sym (num-Sum ts more);
    product = λ es ks.
        ap (λ e. num e (row ++ more)) (shifted-Product (length row) es) ∙ num-Product (map (shifted (length row)) es) (row ++ more) ∙
        ap product_of (map-map (λ e. num e (row ++ more)) (shifted (length row)) es ∙ map_same (λ e. num (shifted (length row) e) (row ++ more)) (λ e. num e more) es ks) ∙
        sym (num-Product es more);
  }

  pub num_behind : (e : Expr) → num (shifted (length row) e) (row ++ more) ≡ num e more
  num_behind = each_expr ReadsBehind behind_cases

  abbrev TestsBehind : Cond → Type 0
  TestsBehind c = truth (shifted_cond (length row) c) (row ++ more) ≡ truth c more

  members_behind : (cs : List Cond) → AllByRecursion TestsBehind cs → map (λ c. truth c (row ++ more)) (map (shifted_cond (length row)) cs) ≡ map (λ c. truth c more) cs
  members_behind cs ks = map-map (λ c. truth c (row ++ more)) (shifted_cond (length row)) cs ∙ map_same (λ c. truth (shifted_cond (length row) c) (row ++ more)) (λ c. truth c more) cs ks

  behind_cond_cases : CondCases TestsBehind
  behind_cond_cases = record {
    compare = λ cmp left right.
        ap (λ c. truth c (row ++ more)) (shifted_cond-Compare (length row) cmp left right) ∙ truth-Compare cmp (shifted (length row) left) (shifted (length row) right) (row ++ more) ∙
        ap (λ x. comparison cmp x (num (shifted (length row) right) (row ++ more))) (num_behind left) ∙ ap (comparison cmp (num left more)) (num_behind right) ∙ sym (truth-Compare cmp left right more);
    null = λ e negated.
        ap (λ c. truth c (row ++ more)) (shifted_cond-Null (length row) e negated) ∙ truth-Null (shifted (length row) e) negated (row ++ more) ∙
        ap (λ x. tri_of (if negated then not (is_null x) else is_null x)) (num_behind e) ∙ sym (truth-Null e negated more);
    not = λ a k. ap (λ c. truth c (row ++ more)) (shifted_cond-Not (length row) a) ∙ truth-Not (shifted_cond (length row) a) (row ++ more) ∙ ap opposite k ∙ sym (truth-Not a more);
    all = λ cs ks.
        ap (λ c. truth c (row ++ more)) (shifted_cond-All (length row) cs) ∙ truth-All (map (shifted_cond (length row)) cs) (row ++ more) ∙ ap (fold least True) (members_behind cs ks) ∙ sym (truth-All cs more);
    any = λ cs ks.
        ap (λ c. truth c (row ++ more)) (shifted_cond-Any (length row) cs) ∙ truth-Any (map (shifted_cond (length row)) cs) (row ++ more) ∙ ap (fold greatest False) (members_behind cs ks) ∙ sym (truth-Any cs more);
  }

  pub truth_behind : (c : Cond) → truth (shifted_cond (length row) c) (row ++ more) ≡ truth c more
  truth_behind = each_cond TestsBehind behind_cond_cases
