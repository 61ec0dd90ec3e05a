-- The words on expressions and on conditions, one equation for each form of them.
use Rattle.std.proofs.Common.{◌≡◌, ℕ, ◌++◌, ◌∷◌, pos, Bool, ap, ◌∙◌, sym, List, [], map, max, sum, fold, not, if◌then◌else◌, refl, slice_get, unwrap_or}
use Rattle.std.specs.List.{flat_map, list_all}
use Rattle.std.specs.Option.{option_map}
use Rattle.std.specs.Prelude.{Option, Some, is_some, ◌*◌}
use Rattle.std.proofs.lemmas.List.Folds.{flat_map-map}
use Rattle.sq_value.specs.declared.tri.Tri.{Tri}
use Rattle.sq_value.specs.declared.tri.Tri.TheVariants as tri
use Rattle.sq_value.specs.declared.value.Value.{Value}
use Rattle.sq_value.specs.declared.value.Value.TheVariants.{Int, Text}
use Rattle.sq_value.specs.Truth.{least, greatest, opposite}
use Rattle.sq_expr.specs.declared.cond.Cmp.{Cmp}
use Rattle.sq_expr.specs.declared.cond.Cond.{Cond, roll-Cond}
use Rattle.sq_expr.specs.declared.cond.Cond.TheFolds.{map-Cond, fold-roll-Cond}
use Rattle.sq_expr.specs.declared.cond.Cond.TheOpen.{Cond-F}
use Rattle.sq_expr.specs.declared.cond.Cond.TheVariants as cond
use Rattle.sq_expr.specs.declared.expr.Expr.{Expr, roll-Expr}
use Rattle.sq_expr.specs.declared.expr.Expr.TheFolds.{map-Expr, para-Term, fold-roll-Expr, fold_out-Term, para-roll-Expr, para-roll-Term}
use Rattle.sq_expr.specs.declared.expr.Expr.TheOpen.{Expr-F}
use Rattle.sq_expr.specs.declared.expr.Expr.TheVariants as expr
use Rattle.sq_expr.specs.declared.expr.Kind.{Kind}
use Rattle.sq_expr.specs.declared.expr.Term.{Term, out-Term, roll-out-Term}
use Rattle.sq_expr.specs.Bounds.{kind_bound, bound_step, bound_of, parts_step, parts, cond_parts_step, cond_parts}
use Rattle.sq_expr.specs.Columns.{columns_step, columns, cond_columns_step, cond_columns, members_step, members}
use Rattle.sq_expr.specs.Typing.{Sort, Numeric, Textual, sort_of_kind, is_numeric, are_alike, arithmetic, sort_step, sort_of, typed_step, is_typed_cond}
use Rattle.sq_expr.specs.Meaning.{column_of, negative, signed, sum_of, product_of, num_step, term_step, num, term_num, comparison, tri_of, is_null, truth_step, truth}

-- ---- num

module _ (row : List Value) where
  num_roll : (x : Expr-F Expr Term) → num (roll-Expr x) row ≡ num_step row (map-Expr Expr Term Value Value (λ e. num e row) (λ t. term_num t row) x)
  unfolding num term_num
  num_roll x = fold-roll-Expr Value Value (num_step row) term_step x

pub num-Column : (n : ℕ) (row : List Value) → num (expr.Column n) row ≡ column_of row n
num-Column n row = ap (λ e. num e row) (sym (expr.rolls-Column n)) ∙ num_roll row (Expr-F.Column n)

pub num-Number : (n : ℕ) (row : List Value) → num (expr.Number n) row ≡ Int (pos n)
num-Number n row = ap (λ e. num e row) (sym (expr.rolls-Number n)) ∙ num_roll row (Expr-F.Number n)

pub num-Text : (t : List ℕ) (row : List Value) → num (expr.Text t) row ≡ Text t
num-Text t row = ap (λ e. num e row) (sym (expr.rolls-Text t)) ∙ num_roll row (Expr-F.Text t)

pub num-Neg : (e : Expr) (row : List Value) → num (expr.Neg e) row ≡ negative (num e row)
num-Neg e row = ap (λ e. num e row) (sym (expr.rolls-Neg e)) ∙ num_roll row (Expr-F.Neg e)

pub num-Sum : (ts : List Term) (row : List Value) → num (expr.Sum ts) row ≡ sum_of (map (λ t. term_num t row) ts)
num-Sum ts row = ap (λ e. num e row) (sym (expr.rolls-Sum ts)) ∙ num_roll row (Expr-F.Sum ts)

pub num-Product : (es : List Expr) (row : List Value) → num (expr.Product es) row ≡ product_of (map (λ e. num e row) es)
num-Product es row = ap (λ e. num e row) (sym (expr.rolls-Product es)) ∙ num_roll row (Expr-F.Product es)

pub term_num-is : (t : Term) (row : List Value) → term_num t row ≡ signed t.minus (num t.expr row)
unfolding num term_num
term_num-is t row = fold_out-Term Value Value (num_step row) term_step t

pub ruleset nums = (num-Column, num-Number, num-Text, num-Neg, num-Sum, num-Product, term_num-is)

-- ---- sort_of

sort_of_roll : (kinds : List Kind) (x : Expr-F Expr Term) → sort_of kinds (roll-Expr x) ≡ sort_step kinds (map-Expr Expr Term (Option Sort) (Option Sort) (sort_of kinds) (λ t. sort_of kinds t.expr) x)
unfolding sort_of
sort_of_roll kinds x =
    fold-roll-Expr (Option Sort) (Option Sort) (sort_step kinds) (λ t. t.expr) x ∙
    ap (λ f. sort_step kinds (map-Expr Expr Term (Option Sort) (Option Sort) (sort_of kinds) f x)) (λ i t. fold_out-Term (Option Sort) (Option Sort) (sort_step kinds) (λ t. t.expr) t i)

pub sort_of-Column : (kinds : List Kind) (n : ℕ) → sort_of kinds (expr.Column n) ≡ option_map sort_of_kind (slice_get kinds n)
sort_of-Column kinds n = ap (sort_of kinds) (sym (expr.rolls-Column n)) ∙ sort_of_roll kinds (Expr-F.Column n)

pub sort_of-Number : (kinds : List Kind) (n : ℕ) → sort_of kinds (expr.Number n) ≡ Some Numeric
sort_of-Number kinds n = ap (sort_of kinds) (sym (expr.rolls-Number n)) ∙ sort_of_roll kinds (Expr-F.Number n)

pub sort_of-Text : (kinds : List Kind) (t : List ℕ) → sort_of kinds (expr.Text t) ≡ Some Textual
sort_of-Text kinds t = ap (sort_of kinds) (sym (expr.rolls-Text t)) ∙ sort_of_roll kinds (Expr-F.Text t)

pub sort_of-Neg : (kinds : List Kind) (e : Expr) → sort_of kinds (expr.Neg e) ≡ arithmetic (is_numeric (sort_of kinds e))
sort_of-Neg kinds e = ap (sort_of kinds) (sym (expr.rolls-Neg e)) ∙ sort_of_roll kinds (Expr-F.Neg e)

pub sort_of-Sum : (kinds : List Kind) (ts : List Term) → sort_of kinds (expr.Sum ts) ≡ arithmetic (list_all is_numeric (map (λ t. sort_of kinds t.expr) ts))
sort_of-Sum kinds ts = ap (sort_of kinds) (sym (expr.rolls-Sum ts)) ∙ sort_of_roll kinds (Expr-F.Sum ts)

pub sort_of-Product : (kinds : List Kind) (es : List Expr) → sort_of kinds (expr.Product es) ≡ arithmetic (list_all is_numeric (map (sort_of kinds) es))
sort_of-Product kinds es = ap (sort_of kinds) (sym (expr.rolls-Product es)) ∙ sort_of_roll kinds (Expr-F.Product es)

pub ruleset sort_of_equations = (sort_of-Column, sort_of-Number, sort_of-Text, sort_of-Neg, sort_of-Sum, sort_of-Product)

-- ---- bound_of

bound_of_roll : (kinds : List Kind) (x : Expr-F Expr Term) → bound_of kinds (roll-Expr x) ≡ bound_step kinds (map-Expr Expr Term ℕ ℕ (bound_of kinds) (λ t. bound_of kinds t.expr) x)
unfolding bound_of
bound_of_roll kinds x =
    fold-roll-Expr ℕ ℕ (bound_step kinds) (λ t. t.expr) x ∙
    ap (λ f. bound_step kinds (map-Expr Expr Term ℕ ℕ (bound_of kinds) f x)) (λ i t. fold_out-Term ℕ ℕ (bound_step kinds) (λ t. t.expr) t i)

pub bound_of-Column : (kinds : List Kind) (n : ℕ) → bound_of kinds (expr.Column n) ≡ unwrap_or (option_map kind_bound (slice_get kinds n)) 0
bound_of-Column kinds n = ap (bound_of kinds) (sym (expr.rolls-Column n)) ∙ bound_of_roll kinds (Expr-F.Column n)

pub bound_of-Number : (kinds : List Kind) (n : ℕ) → bound_of kinds (expr.Number n) ≡ max n 1
bound_of-Number kinds n = ap (bound_of kinds) (sym (expr.rolls-Number n)) ∙ bound_of_roll kinds (Expr-F.Number n)

pub bound_of-Text : (kinds : List Kind) (t : List ℕ) → bound_of kinds (expr.Text t) ≡ 0
bound_of-Text kinds t = ap (bound_of kinds) (sym (expr.rolls-Text t)) ∙ bound_of_roll kinds (Expr-F.Text t)

pub bound_of-Neg : (kinds : List Kind) (e : Expr) → bound_of kinds (expr.Neg e) ≡ bound_of kinds e
bound_of-Neg kinds e = ap (bound_of kinds) (sym (expr.rolls-Neg e)) ∙ bound_of_roll kinds (Expr-F.Neg e)

pub bound_of-Sum : (kinds : List Kind) (ts : List Term) → bound_of kinds (expr.Sum ts) ≡ sum (map (λ t. bound_of kinds t.expr) ts)
bound_of-Sum kinds ts = ap (bound_of kinds) (sym (expr.rolls-Sum ts)) ∙ bound_of_roll kinds (Expr-F.Sum ts)

pub bound_of-Product : (kinds : List Kind) (es : List Expr) → bound_of kinds (expr.Product es) ≡ fold (λ a b. a * b) 1 (map (bound_of kinds) es)
bound_of-Product kinds es = ap (bound_of kinds) (sym (expr.rolls-Product es)) ∙ bound_of_roll kinds (Expr-F.Product es)

pub ruleset bound_of_equations = (bound_of-Column, bound_of-Number, bound_of-Text, bound_of-Neg, bound_of-Sum, bound_of-Product)

-- ---- columns

columns_roll : (x : Expr-F Expr Term) → columns (roll-Expr x) ≡ columns_step (map-Expr Expr Term (List ℕ) (List ℕ) (columns) (λ t. columns t.expr) x)
unfolding columns
columns_roll x =
    fold-roll-Expr (List ℕ) (List ℕ) columns_step (λ t. t.expr) x ∙
    ap (λ f. columns_step (map-Expr Expr Term (List ℕ) (List ℕ) (columns) f x)) (λ i t. fold_out-Term (List ℕ) (List ℕ) columns_step (λ t. t.expr) t i)

pub columns-Column : (n : ℕ) → columns (expr.Column n) ≡ n ∷ []
columns-Column n = ap columns (sym (expr.rolls-Column n)) ∙ columns_roll (Expr-F.Column n)

pub columns-Number : (n : ℕ) → columns (expr.Number n) ≡ []
columns-Number n = ap columns (sym (expr.rolls-Number n)) ∙ columns_roll (Expr-F.Number n)

pub columns-Text : (t : List ℕ) → columns (expr.Text t) ≡ []
columns-Text t = ap columns (sym (expr.rolls-Text t)) ∙ columns_roll (Expr-F.Text t)

pub columns-Neg : (e : Expr) → columns (expr.Neg e) ≡ columns e
columns-Neg e = ap columns (sym (expr.rolls-Neg e)) ∙ columns_roll (Expr-F.Neg e)

pub columns-Sum : (ts : List Term) → columns (expr.Sum ts) ≡ flat_map (λ t. columns t.expr) ts
columns-Sum ts = ap columns (sym (expr.rolls-Sum ts)) ∙ columns_roll (Expr-F.Sum ts) ∙ flat_map-map (λ ns. ns) (λ t. columns t.expr) ts

pub columns-Product : (es : List Expr) → columns (expr.Product es) ≡ flat_map columns es
columns-Product es = ap columns (sym (expr.rolls-Product es)) ∙ columns_roll (Expr-F.Product es) ∙ flat_map-map (λ ns. ns) columns es

pub ruleset columns_equations = (columns-Column, columns-Number, columns-Text, columns-Neg, columns-Sum, columns-Product)

-- ---- parts

term_parts : Term → List Expr
term_parts t = para-Term (List Expr) (List Expr) parts_step (λ t. t.expr.1) t

term_parts-is : (t : Term) → term_parts t ≡ parts t.expr
unfolding term_parts parts
term_parts-is t = ap (para-Term (List Expr) (List Expr) parts_step (λ t. t.expr.1)) (sym (roll-out-Term t)) ∙ para-roll-Term (List Expr) (List Expr) parts_step (λ t. t.expr.1) (out-Term t)

parts_roll : (x : Expr-F Expr Term) → parts (roll-Expr x) ≡ parts_step (map-Expr Expr Term (Expr × List Expr) (Term × List Expr) (λ e. (e, parts e)) (λ t. (t, parts t.expr)) x)
unfolding term_parts parts
parts_roll x =
    para-roll-Expr (List Expr) (List Expr) parts_step (λ t. t.expr.1) x ∙
    ap (λ f. parts_step (map-Expr Expr Term (Expr × List Expr) (Term × List Expr) (λ e. (e, parts e)) f x)) (λ i t. (t, term_parts-is t i))

pub parts-Column : (n : ℕ) → parts (expr.Column n) ≡ expr.Column n ∷ []
parts-Column n = ap parts (sym (expr.rolls-Column n)) ∙ parts_roll (Expr-F.Column n)

pub parts-Number : (n : ℕ) → parts (expr.Number n) ≡ expr.Number n ∷ []
parts-Number n = ap parts (sym (expr.rolls-Number n)) ∙ parts_roll (Expr-F.Number n)

pub parts-Text : (t : List ℕ) → parts (expr.Text t) ≡ expr.Text t ∷ []
parts-Text t = ap parts (sym (expr.rolls-Text t)) ∙ parts_roll (Expr-F.Text t)

pub parts-Neg : (e : Expr) → parts (expr.Neg e) ≡ expr.Neg e ∷ parts e
parts-Neg e = ap parts (sym (expr.rolls-Neg e)) ∙ parts_roll (Expr-F.Neg e)

paired : {A : Type 0} (f : A → List Expr) (xs : List A) → map (λ (p : A × List Expr). p.0) (map (λ x. (x, f x)) xs) ≡ xs
paired f [] = refl
paired f (x ∷ xs) = ap (λ ys. x ∷ ys) (paired f xs)

abbrev second : {A : Type 0} → A × List Expr → List Expr
second p = p.1

pub parts-Sum : (ts : List Term) → parts (expr.Sum ts) ≡ expr.Sum ts ∷ flat_map (λ t. parts t.expr) ts
parts-Sum ts =
    ap parts (sym (expr.rolls-Sum ts)) ∙ parts_roll (Expr-F.Sum ts) ∙
    ap (λ us. expr.Sum us ∷ flat_map second (map (λ t. (t, parts t.expr)) ts)) (paired (λ t. parts t.expr) ts) ∙
    ap (λ es. expr.Sum ts ∷ es) (flat_map-map second (λ t. (t, parts t.expr)) ts)

pub parts-Product : (es : List Expr) → parts (expr.Product es) ≡ expr.Product es ∷ flat_map parts es
parts-Product es =
    ap parts (sym (expr.rolls-Product es)) ∙ parts_roll (Expr-F.Product es) ∙
    ap (λ us. expr.Product us ∷ flat_map second (map (λ e. (e, parts e)) es)) (paired parts es) ∙
    ap (λ us. expr.Product es ∷ us) (flat_map-map second (λ e. (e, parts e)) es)

-- ---- truth

truth_roll : (row : List Value) (x : Cond-F Cond) → truth (roll-Cond x) row ≡ truth_step row (map-Cond Cond Tri (λ c. truth c row) x)
unfolding truth
truth_roll row x = fold-roll-Cond Tri (truth_step row) x

pub truth-Compare : (cmp : Cmp) (left right : Expr) (row : List Value) → truth (cond.Compare cmp left right) row ≡ comparison cmp (num left row) (num right row)
truth-Compare cmp left right row = ap (λ c. truth c row) (sym (cond.rolls-Compare cmp left right)) ∙ truth_roll row (Cond-F.Compare cmp left right)

pub truth-Null : (e : Expr) (negated : Bool) (row : List Value) → truth (cond.Null e negated) row ≡ tri_of (if negated then not (is_null (num e row)) else is_null (num e row))
truth-Null e negated row = ap (λ c. truth c row) (sym (cond.rolls-Null e negated)) ∙ truth_roll row (Cond-F.Null e negated)

pub truth-Not : (a : Cond) (row : List Value) → truth (cond.Not a) row ≡ opposite (truth a row)
truth-Not a row = ap (λ c. truth c row) (sym (cond.rolls-Not a)) ∙ truth_roll row (Cond-F.Not a)

pub truth-All : (cs : List Cond) (row : List Value) → truth (cond.All cs) row ≡ fold least tri.True (map (λ c. truth c row) cs)
truth-All cs row = ap (λ c. truth c row) (sym (cond.rolls-All cs)) ∙ truth_roll row (Cond-F.All cs)

pub truth-Any : (cs : List Cond) (row : List Value) → truth (cond.Any cs) row ≡ fold greatest tri.False (map (λ c. truth c row) cs)
truth-Any cs row = ap (λ c. truth c row) (sym (cond.rolls-Any cs)) ∙ truth_roll row (Cond-F.Any cs)

pub ruleset truths = (truth-Compare, truth-Null, truth-Not, truth-All, truth-Any)

-- ---- is_typed_cond

is_typed_cond_roll : (kinds : List Kind) (x : Cond-F Cond) → is_typed_cond kinds (roll-Cond x) ≡ typed_step kinds (map-Cond Cond Bool (is_typed_cond kinds) x)
unfolding is_typed_cond
is_typed_cond_roll kinds x = fold-roll-Cond Bool (typed_step kinds) x

pub is_typed_cond-Compare : (kinds : List Kind) (cmp : Cmp) (left : Expr) (right : Expr) → is_typed_cond kinds (cond.Compare cmp left right) ≡ are_alike (sort_of kinds left) (sort_of kinds right)
is_typed_cond-Compare kinds cmp left right = ap (is_typed_cond kinds) (sym (cond.rolls-Compare cmp left right)) ∙ is_typed_cond_roll kinds (Cond-F.Compare cmp left right)

pub is_typed_cond-Null : (kinds : List Kind) (e : Expr) (negated : Bool) → is_typed_cond kinds (cond.Null e negated) ≡ is_some (sort_of kinds e)
is_typed_cond-Null kinds e negated = ap (is_typed_cond kinds) (sym (cond.rolls-Null e negated)) ∙ is_typed_cond_roll kinds (Cond-F.Null e negated)

pub is_typed_cond-Not : (kinds : List Kind) (a : Cond) → is_typed_cond kinds (cond.Not a) ≡ is_typed_cond kinds a
is_typed_cond-Not kinds a = ap (is_typed_cond kinds) (sym (cond.rolls-Not a)) ∙ is_typed_cond_roll kinds (Cond-F.Not a)

pub is_typed_cond-All : (kinds : List Kind) (cs : List Cond) → is_typed_cond kinds (cond.All cs) ≡ list_all (λ b. b) (map (is_typed_cond kinds) cs)
is_typed_cond-All kinds cs = ap (is_typed_cond kinds) (sym (cond.rolls-All cs)) ∙ is_typed_cond_roll kinds (Cond-F.All cs)

pub is_typed_cond-Any : (kinds : List Kind) (cs : List Cond) → is_typed_cond kinds (cond.Any cs) ≡ list_all (λ b. b) (map (is_typed_cond kinds) cs)
is_typed_cond-Any kinds cs = ap (is_typed_cond kinds) (sym (cond.rolls-Any cs)) ∙ is_typed_cond_roll kinds (Cond-F.Any cs)

pub ruleset is_typed_cond_equations = (is_typed_cond-Compare, is_typed_cond-Null, is_typed_cond-Not, is_typed_cond-All, is_typed_cond-Any)

-- ---- cond_parts

cond_parts_roll : (x : Cond-F Cond) → cond_parts (roll-Cond x) ≡ cond_parts_step (map-Cond Cond (List Expr) cond_parts x)
unfolding cond_parts
cond_parts_roll x = fold-roll-Cond (List Expr) cond_parts_step x

pub cond_parts-Compare : (cmp : Cmp) (left : Expr) (right : Expr) → cond_parts (cond.Compare cmp left right) ≡ parts left ++ parts right
cond_parts-Compare cmp left right = ap cond_parts (sym (cond.rolls-Compare cmp left right)) ∙ cond_parts_roll (Cond-F.Compare cmp left right)

pub cond_parts-Null : (e : Expr) (negated : Bool) → cond_parts (cond.Null e negated) ≡ parts e
cond_parts-Null e negated = ap cond_parts (sym (cond.rolls-Null e negated)) ∙ cond_parts_roll (Cond-F.Null e negated)

pub cond_parts-Not : (a : Cond) → cond_parts (cond.Not a) ≡ cond_parts a
cond_parts-Not a = ap cond_parts (sym (cond.rolls-Not a)) ∙ cond_parts_roll (Cond-F.Not a)

pub cond_parts-All : (cs : List Cond) → cond_parts (cond.All cs) ≡ flat_map cond_parts cs
cond_parts-All cs = ap cond_parts (sym (cond.rolls-All cs)) ∙ cond_parts_roll (Cond-F.All cs) ∙ flat_map-map (λ ps. ps) cond_parts cs

pub cond_parts-Any : (cs : List Cond) → cond_parts (cond.Any cs) ≡ flat_map cond_parts cs
cond_parts-Any cs = ap cond_parts (sym (cond.rolls-Any cs)) ∙ cond_parts_roll (Cond-F.Any cs) ∙ flat_map-map (λ ps. ps) cond_parts cs

pub ruleset cond_parts_equations = (cond_parts-Compare, cond_parts-Null, cond_parts-Not, cond_parts-All, cond_parts-Any)

-- ---- cond_columns

cond_columns_roll : (x : Cond-F Cond) → cond_columns (roll-Cond x) ≡ cond_columns_step (map-Cond Cond (List ℕ) cond_columns x)
unfolding cond_columns
cond_columns_roll x = fold-roll-Cond (List ℕ) cond_columns_step x

pub cond_columns-Compare : (cmp : Cmp) (left : Expr) (right : Expr) → cond_columns (cond.Compare cmp left right) ≡ columns left ++ columns right
cond_columns-Compare cmp left right = ap cond_columns (sym (cond.rolls-Compare cmp left right)) ∙ cond_columns_roll (Cond-F.Compare cmp left right)

pub cond_columns-Null : (e : Expr) (negated : Bool) → cond_columns (cond.Null e negated) ≡ columns e
cond_columns-Null e negated = ap cond_columns (sym (cond.rolls-Null e negated)) ∙ cond_columns_roll (Cond-F.Null e negated)

pub cond_columns-Not : (a : Cond) → cond_columns (cond.Not a) ≡ cond_columns a
cond_columns-Not a = ap cond_columns (sym (cond.rolls-Not a)) ∙ cond_columns_roll (Cond-F.Not a)

pub cond_columns-All : (cs : List Cond) → cond_columns (cond.All cs) ≡ flat_map cond_columns cs
cond_columns-All cs = ap cond_columns (sym (cond.rolls-All cs)) ∙ cond_columns_roll (Cond-F.All cs) ∙ flat_map-map (λ ns. ns) cond_columns cs

pub cond_columns-Any : (cs : List Cond) → cond_columns (cond.Any cs) ≡ flat_map cond_columns cs
cond_columns-Any cs = ap cond_columns (sym (cond.rolls-Any cs)) ∙ cond_columns_roll (Cond-F.Any cs) ∙ flat_map-map (λ ns. ns) cond_columns cs

pub ruleset cond_columns_equations = (cond_columns-Compare, cond_columns-Null, cond_columns-Not, cond_columns-All, cond_columns-Any)

-- ---- members

pub members-Compare : (cmp : Cmp) (left : Expr) (right : Expr) → members (cond.Compare cmp left right) ≡ cond.Compare cmp left right ∷ []
unfolding members
members-Compare cmp left right = ap (members_step (cond.Compare cmp left right)) (cond.outs-Compare cmp left right)

pub members-Null : (e : Expr) (negated : Bool) → members (cond.Null e negated) ≡ cond.Null e negated ∷ []
unfolding members
members-Null e negated = ap (members_step (cond.Null e negated)) (cond.outs-Null e negated)

pub members-Not : (a : Cond) → members (cond.Not a) ≡ cond.Not a ∷ []
unfolding members
members-Not a = ap (members_step (cond.Not a)) (cond.outs-Not a)

pub members-All : (cs : List Cond) → members (cond.All cs) ≡ cs
unfolding members
members-All cs = ap (members_step (cond.All cs)) (cond.outs-All cs)

pub members-Any : (cs : List Cond) → members (cond.Any cs) ≡ cond.Any cs ∷ []
unfolding members
members-Any cs = ap (members_step (cond.Any cs)) (cond.outs-Any cs)
