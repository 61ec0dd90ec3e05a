-- An expression or a condition depends on the columns that it names alone.
use Rattle.std.proofs.Common.{◌≡◌, ℕ, zero, suc, ◌+◌, ◌≤◌, ◌<◌, max, true, List, [], ◌∷◌, ◌++◌, map, fold, length, not, if◌then◌else◌, refl, ap, sym, ◌∙◌, subst, arith}
use Rattle.std.specs.Prelude.{IsSome, IsTrue, slice_get, ◌↔◌}
use Rattle.std.specs.List.{AllByRecursion, flat_map, list_all}
use Rattle.std.specs.Option.{option_map}
use Rattle.std.proofs.lemmas.List.{append-nil}
use Rattle.sq_value.specs.declared.tri.Tri.{Tri}
use Rattle.sq_value.specs.declared.tri.Tri.TheVariants.{False, Unknown, True}
use Rattle.sq_value.specs.declared.value.Value.{Value}
use Rattle.sq_value.specs.Truth.{least, greatest, opposite}
use Rattle.sq_expr.specs.declared.cond.Cond.{Cond}
use Rattle.sq_expr.specs.declared.cond.Cond.TheVariants as cond
use Rattle.sq_expr.specs.declared.expr.Expr.{Expr}
use Rattle.sq_expr.specs.declared.expr.Kind.{Kind}
use Rattle.sq_expr.specs.declared.expr.Term.{Term}
use Rattle.sq_expr.specs.Columns.{columns, cond_columns, members, width_of}
use Rattle.sq_expr.specs.Meaning.{column_of, negative, signed, sum_of, product_of, comparison, is_null, tri_of, num, term_num, truth}
use Rattle.sq_expr.specs.Typing.{sort_of_kind, is_numeric, sort_of, is_typed_cond, IsTyped, IsTypedCond}
use Rattle.sq_expr.proofs.Equations.{num-Column, num-Number, num-Text, num-Neg, num-Sum, num-Product, term_num-is, truth-Compare, truth-Null, truth-Not, truth-All, truth-Any, columns-Column, columns-Number, columns-Text, columns-Neg, columns-Sum, columns-Product, cond_columns-Compare, cond_columns-Null, cond_columns-Not, cond_columns-All, cond_columns-Any, members-Compare, members-Null, members-Not, members-All, members-Any, sort_of-Column, is_typed_cond-Compare, is_typed_cond-Null, is_typed_cond-Not, is_typed_cond-All, is_typed_cond-Any}
use Rattle.sq_expr.proofs.Lists.{all_front, all_back, all_append, all_flat, all_flattened, all_from, all_pass, all_weaker, map_same}
use Rattle.sq_expr.proofs.Parts.{neg_numeric, sum_numeric, product_numeric, numeric_some, alike_left, alike_right}
use Rattle.sq_expr.proofs.Trees.{ExprCases, each_expr, CondCases, each_cond}
use Rattle.sq_expr.proofs.Truths.{least_False}

-- ---- rows that agree

module _ (r s : List Value) where
  abbrev Agree : ℕ → Type 0
  Agree n = column_of r n ≡ column_of s n

  abbrev ByNames : Expr → Type 0
  ByNames e = AllByRecursion Agree (columns e) → num e r ≡ num e s

  same_terms : (ts : List Term) → AllByRecursion (λ t. num t.expr r ≡ num t.expr s) ts → map (λ t. term_num t r) ts ≡ map (λ t. term_num t s) ts
  same_terms ts hs = map_same (λ t. term_num t r) (λ t. term_num t s) ts
      (all_weaker (λ t. num t.expr r ≡ num t.expr s) (λ t. term_num t r ≡ term_num t s) ts (λ t h. term_num-is t r ∙ ap (signed t.minus) h ∙ sym (term_num-is t s)) hs)

  names_cases : ExprCases ByNames
  names_cases = record {
    column = λ n h. num-Column n r ∙ (subst (AllByRecursion Agree) (columns-Column n) h).0 ∙ sym (num-Column n s);
    number = λ n h. num-Number n r ∙ sym (num-Number n s);
    text = λ t h. num-Text t r ∙ sym (num-Text t s);
    neg = λ e k h. num-Neg e r ∙ ap negative (k (subst (AllByRecursion Agree) (columns-Neg e) h)) ∙ sym (num-Neg e s);
    sum = λ ts ks h.
        num-Sum ts r ∙
        ap sum_of (same_terms ts (all_from (λ t. ByNames t.expr) (λ t. AllByRecursion Agree (columns t.expr)) (λ t. num t.expr r ≡ num t.expr s) ts (λ t k. k) ks (all_flat Agree (λ t. columns t.expr) ts (subst (AllByRecursion Agree) (columns-Sum ts) h)))) ∙
        sym (num-Sum ts s);
    product = λ es ks h.
        num-Product es r ∙
        ap product_of (map_same (λ e. num e r) (λ e. num e s) es (all_from ByNames (λ e. AllByRecursion Agree (columns e)) (λ e. num e r ≡ num e s) es (λ e k. k) ks (all_flat Agree columns es (subst (AllByRecursion Agree) (columns-Product es) h)))) ∙
        sym (num-Product es s);
  }

  pub num_by_names : (e : Expr) → ByNames e
  num_by_names = each_expr ByNames names_cases

  abbrev CondByNames : Cond → Type 0
  CondByNames c = AllByRecursion Agree (cond_columns c) → truth c r ≡ truth c s

  same_members : (cs : List Cond) → AllByRecursion CondByNames cs → AllByRecursion Agree (flat_map cond_columns cs) → map (λ c. truth c r) cs ≡ map (λ c. truth c s) cs
  same_members cs ks h = map_same (λ c. truth c r) (λ c. truth c s) cs
      (all_from CondByNames (λ c. AllByRecursion Agree (cond_columns c)) (λ c. truth c r ≡ truth c s) cs (λ c k. k) ks (all_flat Agree cond_columns cs h))

  cond_names_cases : CondCases CondByNames
  cond_names_cases = record {
    compare = λ cmp left right h.
        let names = subst (AllByRecursion Agree) (cond_columns-Compare cmp left right) h in
        truth-Compare cmp left right r ∙
        ap (λ x. comparison cmp x (num right r)) (num_by_names left (all_front Agree (columns left) (columns right) names)) ∙
        ap (comparison cmp (num left s)) (num_by_names right (all_back Agree (columns left) (columns right) names)) ∙
        sym (truth-Compare cmp left right s);
    null = λ e negated h.
        truth-Null e negated r ∙
        ap (λ x. tri_of (if negated then not (is_null x) else is_null x)) (num_by_names e (subst (AllByRecursion Agree) (cond_columns-Null e negated) h)) ∙
        sym (truth-Null e negated s);
    not = λ a k h. truth-Not a r ∙ ap opposite (k (subst (AllByRecursion Agree) (cond_columns-Not a) h)) ∙ sym (truth-Not a s);
    all = λ cs ks h. truth-All cs r ∙ ap (fold least True) (same_members cs ks (subst (AllByRecursion Agree) (cond_columns-All cs) h)) ∙ sym (truth-All cs s);
    any = λ cs ks h. truth-Any cs r ∙ ap (fold greatest False) (same_members cs ks (subst (AllByRecursion Agree) (cond_columns-Any cs) h)) ∙ sym (truth-Any cs s);
  }

  pub truth_by_names : (c : Cond) → CondByNames c
  truth_by_names = each_cond CondByNames cond_names_cases

-- ---- widths

abbrev wider : ℕ → ℕ → ℕ
wider w n = max w (n + 1)

below_width : (ns : List ℕ) (a w : ℕ) → fold wider a ns ≤ w → (a ≤ w) × AllByRecursion (λ n. n < w) ns
below_width [] a w h = (h, tt)
below_width (n ∷ ns) a w h =
    let rest = below_width ns (wider a n) w h in
    (omega (arith, rest.0), (omega (arith, rest.0), rest.1))

width_below : (ns : List ℕ) (a w : ℕ) → a ≤ w → AllByRecursion (λ n. n < w) ns → fold wider a ns ≤ w
width_below [] a w h hs = h
width_below (n ∷ ns) a w h hs = width_below ns (wider a n) w (omega (arith, hs.0)) hs.1

pub width_is : (ns : List ℕ) (w : ℕ) → (width_of ns ≤ w) ↔ AllByRecursion (λ n. n < w) ns
width_is ns w = (λ h. (below_width ns 0 w h).1, λ hs. width_below ns 0 w (omega arith) hs)

-- ---- longer rows

pub column_front : (row more : List Value) (n : ℕ) → n < length row → column_of (row ++ more) n ≡ column_of row n
column_front [] more n h = absurd (omega arith)
column_front (x ∷ row) more zero h = refl
column_front (x ∷ row) more (suc n) h = column_front row more n (omega arith)

module _ (row more : List Value) where
  agree_front : (ns : List ℕ) → width_of ns ≤ length row → AllByRecursion (Agree (row ++ more) row) ns
  agree_front ns h = all_weaker (λ n. n < length row) (Agree (row ++ more) row) ns (column_front row more) ((width_is ns (length row)).0 h)

  pub num_front : (e : Expr) → width_of (columns e) ≤ length row → num e (row ++ more) ≡ num e row
  num_front e h = num_by_names (row ++ more) row e (agree_front (columns e) h)

  pub truth_front : (c : Cond) → width_of (cond_columns c) ≤ length row → truth c (row ++ more) ≡ truth c row
  truth_front c h = truth_by_names (row ++ more) row c (agree_front (cond_columns c) h)

-- ---- typed names are in range

within_kinds : (kinds : List Kind) (n : ℕ) → IsSome (option_map sort_of_kind (slice_get kinds n)) → n < length kinds
within_kinds [] n h = absurd (cc h)
within_kinds (k ∷ kinds) zero h = omega arith
within_kinds (k ∷ kinds) (suc n) h = omega (arith, within_kinds kinds n h)

module _ (kinds : List Kind) where
  abbrev InRange : Expr → Type 0
  InRange e = IsTyped kinds e → AllByRecursion (λ n. n < length kinds) (columns e)

  range_cases : ExprCases InRange
  range_cases = record {
    column = λ n h. subst (AllByRecursion (λ n. n < length kinds)) (sym (columns-Column n)) (within_kinds kinds n (subst IsSome (sort_of-Column kinds n) h), tt);
    number = λ n h. subst (AllByRecursion (λ n. n < length kinds)) (sym (columns-Number n)) tt;
    text = λ t h. subst (AllByRecursion (λ n. n < length kinds)) (sym (columns-Text t)) tt;
    neg = λ e k h. subst (AllByRecursion (λ n. n < length kinds)) (sym (columns-Neg e)) (k (numeric_some (sort_of kinds e) (neg_numeric kinds e h)));
    sum = λ ts ks h. subst (AllByRecursion (λ n. n < length kinds)) (sym (columns-Sum ts))
        (all_flattened (λ n. n < length kinds) (λ t. columns t.expr) ts
        (all_from (λ t. InRange t.expr) (λ t. is_numeric (sort_of kinds t.expr) ≡ true) (λ t. AllByRecursion (λ n. n < length kinds) (columns t.expr)) ts (λ t k s. k (numeric_some (sort_of kinds t.expr) s)) ks (sum_numeric kinds ts h)));
    product = λ es ks h. subst (AllByRecursion (λ n. n < length kinds)) (sym (columns-Product es))
        (all_flattened (λ n. n < length kinds) columns es
        (all_from InRange (λ e. is_numeric (sort_of kinds e) ≡ true) (λ e. AllByRecursion (λ n. n < length kinds) (columns e)) es (λ e k s. k (numeric_some (sort_of kinds e) s)) ks (product_numeric kinds es h)));
  }

  pub typed_in_range : (e : Expr) → InRange e
  typed_in_range = each_expr InRange range_cases

module _ (kinds : List Kind) where
  abbrev CondInRange : Cond → Type 0
  CondInRange c = IsTypedCond kinds c → AllByRecursion (λ n. n < length kinds) (cond_columns c)

  in_range_of_all : (cs : List Cond) → AllByRecursion CondInRange cs → IsTrue (list_all (λ b. b) (map (is_typed_cond kinds) cs)) → AllByRecursion (λ n. n < length kinds) (flat_map cond_columns cs)
  in_range_of_all cs ks h = all_flattened (λ n. n < length kinds) cond_columns cs
      (all_from CondInRange (IsTypedCond kinds) (λ c. AllByRecursion (λ n. n < length kinds) (cond_columns c)) cs (λ c k. k) ks (all_pass (λ b. b) (is_typed_cond kinds) cs h))

  pub typed_cond_in_range : (c : Cond) → CondInRange c
  typed_cond_in_range = each_cond CondInRange (record {
    compare = λ cmp left right h.
        let alike = subst IsTrue (is_typed_cond-Compare kinds cmp left right) h in
        subst (AllByRecursion (λ n. n < length kinds)) (sym (cond_columns-Compare cmp left right))
        (all_append (λ n. n < length kinds) (columns left) (columns right)
        (typed_in_range kinds left (alike_left (sort_of kinds left) (sort_of kinds right) alike))
        (typed_in_range kinds right (alike_right (sort_of kinds left) (sort_of kinds right) alike)));
    null = λ e negated h. subst (AllByRecursion (λ n. n < length kinds)) (sym (cond_columns-Null e negated)) (typed_in_range kinds e (subst IsTrue (is_typed_cond-Null kinds e negated) h));
    not = λ a k h. subst (AllByRecursion (λ n. n < length kinds)) (sym (cond_columns-Not a)) (k (subst IsTrue (is_typed_cond-Not kinds a) h));
    all = λ cs ks h. subst (AllByRecursion (λ n. n < length kinds)) (sym (cond_columns-All cs)) (in_range_of_all cs ks (subst IsTrue (is_typed_cond-All kinds cs) h));
    any = λ cs ks h. subst (AllByRecursion (λ n. n < length kinds)) (sym (cond_columns-Any cs)) (in_range_of_all cs ks (subst IsTrue (is_typed_cond-Any kinds cs) h));
  })

  pub names_in_range : (e : Expr) → IsTyped kinds e → width_of (columns e) ≤ length kinds
  names_in_range e h = (width_is (columns e) (length kinds)).1 (typed_in_range kinds e h)

  pub cond_names_in_range : (c : Cond) → IsTypedCond kinds c → width_of (cond_columns c) ≤ length kinds
  cond_names_in_range c h = (width_is (cond_columns c) (length kinds)).1 (typed_cond_in_range c h)

-- ---- members

least_True : (a b : Tri) → least a b ≡ True → (a ≡ True) × (b ≡ True)
least_True False b h = absurd (cc (h, least_False b))
least_True Unknown False h = absurd (cc h)
least_True Unknown Unknown h = absurd (cc h)
least_True Unknown True h = absurd (cc h)
least_True True False h = absurd (cc h)
least_True True Unknown h = absurd (cc h)
least_True True True h = (refl, refl)

module _ (row : List Value) where
  abbrev IsTrueHere : Cond → Type 0
  IsTrueHere c = truth c row ≡ True

  all_true : (cs : List Cond) (t : Tri) → fold least t (map (λ c. truth c row) cs) ≡ True → (t ≡ True) × AllByRecursion IsTrueHere cs
  all_true [] t h = (h, tt)
  all_true (c ∷ cs) t h =
      let rest = all_true cs (least t (truth c row)) h in
      let here = least_True t (truth c row) rest.0 in
      (here.0, (here.1, rest.1))

  true_of_all : (cs : List Cond) (t : Tri) → t ≡ True → AllByRecursion IsTrueHere cs → fold least t (map (λ c. truth c row) cs) ≡ True
  true_of_all [] t h hs = h
  true_of_all (c ∷ cs) t h hs = true_of_all cs (least t (truth c row)) (ap (λ t. least t (truth c row)) h ∙ ap (least True) hs.0) hs.1

  pub conjunction : (cs : List Cond) → (truth (cond.All cs) row ≡ True) ↔ AllByRecursion IsTrueHere cs
  conjunction cs = (λ h. (all_true cs True (sym (truth-All cs row) ∙ h)).1, λ hs. truth-All cs row ∙ true_of_all cs True refl hs)

  abbrev ByMembers : Cond → Type 0
  ByMembers c = (truth c row ≡ True) ↔ AllByRecursion IsTrueHere (members c)

  alone : (c : Cond) → members c ≡ c ∷ [] → ByMembers c
  alone c is = subst (λ ms. (truth c row ≡ True) ↔ AllByRecursion IsTrueHere ms) (sym is) (λ h. (h, tt), λ hs. hs.0)

  pub true_by_members : (c : Cond) → ByMembers c
  true_by_members = each_cond ByMembers (record {
    compare = λ cmp left right. alone (cond.Compare cmp left right) (members-Compare cmp left right);
    null = λ e negated. alone (cond.Null e negated) (members-Null e negated);
    not = λ a _. alone (cond.Not a) (members-Not a);
    all = λ cs _. subst (λ ms. (truth (cond.All cs) row ≡ True) ↔ AllByRecursion IsTrueHere ms) (sym (members-All cs)) (conjunction cs);
    any = λ cs _. alone (cond.Any cs) (members-Any cs);
  })

abbrev NamesOfMembers : Cond → Type 0
NamesOfMembers c = cond_columns c ≡ flat_map cond_columns (members c)

names_alone : (c : Cond) → members c ≡ c ∷ [] → NamesOfMembers c
names_alone c is = sym (append-nil (cond_columns c)) ∙ ap (flat_map cond_columns) (sym is)

pub names_of_members : (c : Cond) → NamesOfMembers c
names_of_members = each_cond NamesOfMembers (record {
  compare = λ cmp left right. names_alone (cond.Compare cmp left right) (members-Compare cmp left right);
  null = λ e negated. names_alone (cond.Null e negated) (members-Null e negated);
  not = λ a _. names_alone (cond.Not a) (members-Not a);
  all = λ cs _. cond_columns-All cs ∙ ap (flat_map cond_columns) (sym (members-All cs));
  any = λ cs _. names_alone (cond.Any cs) (members-Any cs);
})

-- a member names nothing further on
pub members_narrower : (c : Cond) (w : ℕ) → width_of (cond_columns c) ≤ w → AllByRecursion (λ m. width_of (cond_columns m) ≤ w) (members c)
members_narrower c w h =
    let below = subst (AllByRecursion (λ n. n < w)) (names_of_members c) ((width_is (cond_columns c) w).0 h) in
    all_weaker (λ m. AllByRecursion (λ n. n < w) (cond_columns m)) (λ m. width_of (cond_columns m) ≤ w) (members c) (λ m. (width_is (cond_columns m) w).1) (all_flat (λ n. n < w) cond_columns (members c) below)
