-- The test for being the same, one equation for each form of an expression, and that it decides equality.
use Rattle.std.proofs.Common.{◌≡◌, ℕ, Bool, true, false, ◌&&◌, not, if◌then◌else◌, ap, sym, ◌∙◌, List, [], ◌∷◌, map, refl, eqb-true, eq-eqb}
use Rattle.std.specs.List.{AllByRecursion}
use Rattle.std.proofs.lemmas.Slice.Eq.{bytes_eq-Decides}
use mathlib.Core.Bool.{true≢false}
use Rattle.sq_expr.specs.declared.expr.Expr.{Expr, roll-Expr, out-Expr, roll-out-Expr}
use Rattle.sq_expr.specs.declared.expr.Expr.TheFolds.{fold-Term, map-Expr, fold-roll-Expr, fold_out-Term}
use Rattle.sq_expr.specs.declared.expr.Expr.TheOpen.{Expr-F}
use Rattle.sq_expr.specs.declared.expr.Expr.TheVariants as expr
use Rattle.sq_expr.specs.declared.expr.Term.{Term, roll-Term, roll-out-Term}
use Rattle.sq_expr.specs.Same.{pass_each, same_level, same_step, same_term, is_same_expr}
use Rattle.sq_expr.proofs.Trees.{ExprCases, each_expr}

-- ---- equations

pub is_same_term : Term → Term → Bool
is_same_term t other = fold-Term (Expr → Bool) (Term → Bool) same_step same_term t other

same_roll : (x : Expr-F Expr Term) (f : Expr) → is_same_expr (roll-Expr x) f ≡ same_level (map-Expr Expr Term (Expr → Bool) (Term → Bool) is_same_expr is_same_term x) (out-Expr f)
unfolding is_same_expr is_same_term
same_roll x f = ap (λ test. test f) (fold-roll-Expr (Expr → Bool) (Term → Bool) same_step same_term x)

pub is_same_term-is : (t u : Term) → is_same_term t u ≡ ((if t.minus then u.minus else not u.minus) && is_same_expr t.expr u.expr)
unfolding is_same_expr is_same_term
is_same_term-is t u = ap (λ test. test u) (fold_out-Term (Expr → Bool) (Term → Bool) same_step same_term t)

pub is_same-Column : (n : ℕ) (f : Expr) → is_same_expr (expr.Column n) f ≡ same_level (Expr-F.Column n) (out-Expr f)
is_same-Column n f = ap (λ e. is_same_expr e f) (sym (expr.rolls-Column n)) ∙ same_roll (Expr-F.Column n) f

pub is_same-Number : (n : ℕ) (f : Expr) → is_same_expr (expr.Number n) f ≡ same_level (Expr-F.Number n) (out-Expr f)
is_same-Number n f = ap (λ e. is_same_expr e f) (sym (expr.rolls-Number n)) ∙ same_roll (Expr-F.Number n) f

pub is_same-Text : (t : List ℕ) (f : Expr) → is_same_expr (expr.Text t) f ≡ same_level (Expr-F.Text t) (out-Expr f)
is_same-Text t f = ap (λ e. is_same_expr e f) (sym (expr.rolls-Text t)) ∙ same_roll (Expr-F.Text t) f

pub is_same-Neg : (e f : Expr) → is_same_expr (expr.Neg e) f ≡ same_level (Expr-F.Neg (is_same_expr e)) (out-Expr f)
is_same-Neg e f = ap (λ e. is_same_expr e f) (sym (expr.rolls-Neg e)) ∙ same_roll (Expr-F.Neg e) f

pub is_same-Sum : (ts : List Term) (f : Expr) → is_same_expr (expr.Sum ts) f ≡ same_level (Expr-F.Sum (map is_same_term ts)) (out-Expr f)
is_same-Sum ts f = ap (λ e. is_same_expr e f) (sym (expr.rolls-Sum ts)) ∙ same_roll (Expr-F.Sum ts) f

pub is_same-Product : (es : List Expr) (f : Expr) → is_same_expr (expr.Product es) f ≡ same_level (Expr-F.Product (map is_same_expr es)) (out-Expr f)
is_same-Product es f = ap (λ e. is_same_expr e f) (sym (expr.rolls-Product es)) ∙ same_roll (Expr-F.Product es) f

pub ruleset same_equations = (is_same-Column, is_same-Number, is_same-Text, is_same-Neg, is_same-Sum, is_same-Product, is_same_term-is)

-- ---- what is the same is equal

no : {P : Type 0} → false ≡ true → P
no h = absurd (true≢false (sym h))

first_true : (a b : Bool) → (a && b) ≡ true → a ≡ true
first_true true b h = refl
first_true false b h = h

second_true : (a b : Bool) → (a && b) ≡ true → b ≡ true
second_true true b h = h
second_true false b h = no h

-- an expression for which the test is passed by nothing else
abbrev Tells : Expr → Type 0
Tells e = (f : Expr) → is_same_expr e f ≡ true → e ≡ f

abbrev TellsTerm : Term → Type 0
TellsTerm t = (u : Term) → is_same_term t u ≡ true → t ≡ u

same_flags : (m n : Bool) → (if m then n else not n) ≡ true → m ≡ n
same_flags true true h = refl
same_flags true false h = no h
same_flags false true h = no h
same_flags false false h = refl

term_made : (t : Term) → t ≡ roll-Term (record { minus = t.minus; expr = t.expr })
term_made t = sym (roll-out-Term t)

terms_tell : (t : Term) → Tells t.expr → TellsTerm t
terms_tell t k u h =
    let both = sym (is_same_term-is t u) ∙ h in
    let flags = same_flags t.minus u.minus (first_true _ _ both) in
    let exprs = k u.expr (second_true (if t.minus then u.minus else not u.minus) (is_same_expr t.expr u.expr) both) in
    term_made t ∙ (ap (λ m. roll-Term (record { minus = m; expr = t.expr })) flags ∙ (ap (λ e. roll-Term (record { minus = u.minus; expr = e })) exprs ∙ sym (term_made u)))

each_tells : {A : Type 0} (test : A → A → Bool) (xs ys : List A) → AllByRecursion (λ x. (y : A) → test x y ≡ true → x ≡ y) xs → pass_each (map test xs) ys ≡ true → xs ≡ ys
each_tells test [] [] k h = refl
each_tells test [] (y ∷ ys) k h = no h
each_tells test (x ∷ xs) [] k h = no h
each_tells test (x ∷ xs) (y ∷ ys) k h =
    ap (λ z. z ∷ xs) (k.0 y (first_true _ _ h)) ∙ ap (λ zs. y ∷ zs) (each_tells test xs ys k.1 (second_true (test x y) (pass_each (map test xs) ys) h))

column_tells : (n : ℕ) (y : Expr-F Expr Term) → same_level (Expr-F.Column n) y ≡ true → expr.Column n ≡ roll-Expr y
column_tells n (Expr-F.Column m) h = ap expr.Column (eqb-true n m h) ∙ sym (expr.rolls-Column m)
column_tells n y h = no h

number_tells : (n : ℕ) (y : Expr-F Expr Term) → same_level (Expr-F.Number n) y ≡ true → expr.Number n ≡ roll-Expr y
number_tells n (Expr-F.Number m) h = ap expr.Number (eqb-true n m h) ∙ sym (expr.rolls-Number m)
number_tells n y h = no h

text_tells : (t : List ℕ) (y : Expr-F Expr Term) → same_level (Expr-F.Text t) y ≡ true → expr.Text t ≡ roll-Expr y
text_tells t (Expr-F.Text u) h = ap expr.Text ((bytes_eq-Decides t u).0 h) ∙ sym (expr.rolls-Text u)
text_tells t y h = no h

neg_tells : (e : Expr) → Tells e → (y : Expr-F Expr Term) → same_level (Expr-F.Neg (is_same_expr e)) y ≡ true → expr.Neg e ≡ roll-Expr y
neg_tells e k (Expr-F.Neg f) h = ap expr.Neg (k f h) ∙ sym (expr.rolls-Neg f)
neg_tells e k y h = no h

terms_each : (ts : List Term) → AllByRecursion (λ t. Tells t.expr) ts → AllByRecursion TellsTerm ts
terms_each [] k = tt
terms_each (t ∷ ts) k = (terms_tell t k.0, terms_each ts k.1)

sum_tells : (ts : List Term) → AllByRecursion (λ t. Tells t.expr) ts → (y : Expr-F Expr Term) → same_level (Expr-F.Sum (map is_same_term ts)) y ≡ true → expr.Sum ts ≡ roll-Expr y
sum_tells ts k (Expr-F.Sum us) h = ap expr.Sum (each_tells is_same_term ts us (terms_each ts k) h) ∙ sym (expr.rolls-Sum us)
sum_tells ts k y h = no h

product_tells : (es : List Expr) → AllByRecursion Tells es → (y : Expr-F Expr Term) → same_level (Expr-F.Product (map is_same_expr es)) y ≡ true → expr.Product es ≡ roll-Expr y
product_tells es k (Expr-F.Product fs) h = ap expr.Product (each_tells is_same_expr es fs k h) ∙ sym (expr.rolls-Product fs)
product_tells es k y h = no h

tell_cases : ExprCases Tells
tell_cases = record {
  column = λ n f h. column_tells n (out-Expr f) (sym (is_same-Column n f) ∙ h) ∙ roll-out-Expr f;
  number = λ n f h. number_tells n (out-Expr f) (sym (is_same-Number n f) ∙ h) ∙ roll-out-Expr f;
  text = λ t f h. text_tells t (out-Expr f) (sym (is_same-Text t f) ∙ h) ∙ roll-out-Expr f;
  neg = λ e k f h. neg_tells e k (out-Expr f) (sym (is_same-Neg e f) ∙ h) ∙ roll-out-Expr f;
  sum = λ ts k f h. sum_tells ts k (out-Expr f) (sym (is_same-Sum ts f) ∙ h) ∙ roll-out-Expr f;
  product = λ es k f h. product_tells es k (out-Expr f) (sym (is_same-Product es f) ∙ h) ∙ roll-out-Expr f;
}

pub same_equal : (e : Expr) → Tells e
same_equal = each_expr Tells tell_cases

-- ---- each expression is the same as itself

abbrev TestsItself : Expr → Type 0
TestsItself e = is_same_expr e e ≡ true

flags_same : (m n : Bool) → m ≡ true → ((if n then n else not n) && m) ≡ true
flags_same m true h = h
flags_same m false h = h

term_itself : (t : Term) → TestsItself t.expr → is_same_term t t ≡ true
term_itself t h = is_same_term-is t t ∙ flags_same (is_same_expr t.expr t.expr) t.minus h

both_hold : (a b : Bool) → a ≡ true → b ≡ true → (a && b) ≡ true
both_hold a b h k = ap (λ c. c && b) h ∙ k

terms_themselves : (ts : List Term) → AllByRecursion (λ t. TestsItself t.expr) ts → pass_each (map is_same_term ts) ts ≡ true
terms_themselves [] k = refl
terms_themselves (t ∷ ts) k = both_hold (is_same_term t t) (pass_each (map is_same_term ts) ts) (term_itself t k.0) (terms_themselves ts k.1)

exprs_themselves : (es : List Expr) → AllByRecursion TestsItself es → pass_each (map is_same_expr es) es ≡ true
exprs_themselves [] k = refl
exprs_themselves (e ∷ es) k = both_hold (is_same_expr e e) (pass_each (map is_same_expr es) es) k.0 (exprs_themselves es k.1)

itself_cases : ExprCases TestsItself
itself_cases = record {
  column = λ n. is_same-Column n (expr.Column n) ∙ (ap (same_level (Expr-F.Column n)) (expr.outs-Column n) ∙ eq-eqb n n refl);
  number = λ n. is_same-Number n (expr.Number n) ∙ (ap (same_level (Expr-F.Number n)) (expr.outs-Number n) ∙ eq-eqb n n refl);
  text = λ t. is_same-Text t (expr.Text t) ∙ (ap (same_level (Expr-F.Text t)) (expr.outs-Text t) ∙ (bytes_eq-Decides t t).1 refl);
  neg = λ e k. is_same-Neg e (expr.Neg e) ∙ (ap (same_level (Expr-F.Neg (is_same_expr e))) (expr.outs-Neg e) ∙ k);
  sum = λ ts k. is_same-Sum ts (expr.Sum ts) ∙ (ap (same_level (Expr-F.Sum (map is_same_term ts))) (expr.outs-Sum ts) ∙ terms_themselves ts k);
  product = λ es k. is_same-Product es (expr.Product es) ∙ (ap (same_level (Expr-F.Product (map is_same_expr es))) (expr.outs-Product es) ∙ exprs_themselves es k);
}

pub equal_same : (e f : Expr) → e ≡ f → is_same_expr e f ≡ true
equal_same e f is = ap (is_same_expr e) (sym is) ∙ each_expr TestsItself itself_cases e

pub ruleset decided = (same_equal, equal_same)
