-- What suits columns of some kinds suits all columns that have the same kinds where it looks.
use Rattle.std.proofs.Common.{◌≡◌, ℕ, zero, suc, ◌*◌, ◌^◌, ◌≤◌, ◌<◌, List, [], ◌∷◌, ◌++◌, map, fold, length, sum, refl, ap, sym, ◌∙◌, subst, arith}
use Rattle.std.specs.Prelude.{Option, Some, IsSome, IsTrue, is_some, slice_get, unwrap_or}
use Rattle.std.specs.List.{AllByRecursion, flat_map, list_all}
use Rattle.std.specs.Option.{option_map}
use Rattle.sq_expr.specs.declared.cond.Cond.{Cond}
use Rattle.sq_expr.specs.declared.cond.Cond.TheVariants as cond
use Rattle.sq_expr.specs.declared.expr.Expr.{Expr}
use Rattle.sq_expr.specs.declared.expr.Expr.TheVariants as expr
use Rattle.sq_expr.specs.declared.expr.Kind.{Kind}
use Rattle.sq_expr.specs.declared.expr.Term.{Term}
use Rattle.sq_expr.specs.Bounds.{kind_bound, bound_of, parts, cond_parts, IsBounded, IsBoundedCond}
use Rattle.sq_expr.specs.Columns.{columns, cond_columns, members, width_of}
use Rattle.sq_expr.specs.Fits.{Suits, SuitsCond}
use Rattle.sq_expr.specs.Typing.{sort_of_kind, is_numeric, arithmetic, are_alike, sort_of, is_typed_cond, IsTypedCond}
use Rattle.sq_expr.proofs.Equations.{sort_of-Column, sort_of-Number, sort_of-Text, sort_of-Neg, sort_of-Sum, sort_of-Product, bound_of-Column, bound_of-Number, bound_of-Text, bound_of-Neg, bound_of-Sum, bound_of-Product, columns-Column, columns-Neg, columns-Sum, columns-Product, parts-Column, parts-Number, parts-Text, parts-Neg, parts-Sum, parts-Product, cond_columns-Compare, cond_columns-Null, cond_columns-Not, cond_columns-All, cond_columns-Any, is_typed_cond-Compare, is_typed_cond-Null, is_typed_cond-Not, is_typed_cond-All, is_typed_cond-Any, cond_parts-Compare, cond_parts-Null, cond_parts-Not, cond_parts-All, cond_parts-Any, members-Compare, members-Null, members-Not, members-All, members-Any}
use Rattle.sq_expr.proofs.Limits.{small_or_none}
use Rattle.sq_expr.proofs.Lists.{all_front, all_back, all_append, all_flat, all_flattened, all_from, all_weaker, map_same, all_passed}
use Rattle.sq_expr.proofs.Names.{width_is}
use Rattle.sq_expr.proofs.Parts.{IsSmall, suits_all}
use Rattle.sq_expr.proofs.Trees.{ExprCases, each_expr, CondCases, each_cond}

module _ (ks ls : List Kind) where
  abbrev SameKind : ℕ → Type 0
  SameKind n = slice_get ks n ≡ slice_get ls n

  abbrev AgreeOn : Expr → Type 0
  AgreeOn e = AllByRecursion SameKind (columns e)

  -- the sort and the bound of an expression, and the bounds of all expressions in it, are kept
  record Keeps (e : Expr) : Type 0 where
    sort : sort_of ks e ≡ sort_of ls e
    bound : bound_of ks e ≡ bound_of ls e
    bounded : IsBounded ks e → IsBounded ls e

  abbrev Kept : Expr → Type 0
  Kept e = AgreeOn e → Keeps e

  small_too : (e : Expr) → bound_of ks e ≡ bound_of ls e → IsSmall ks e → IsSmall ls e
  small_too e same = subst (λ n. n < 2 ^ 127) same

  -- an expression with no other in it
  kept_leaf : (e : Expr) → parts e ≡ e ∷ [] → sort_of ks e ≡ sort_of ls e → bound_of ks e ≡ bound_of ls e → Keeps e
  kept_leaf e alone s b = record {
    sort = s;
    bound = b;
    bounded = λ h. subst (AllByRecursion (IsSmall ls)) (sym alone) (small_too e b (subst (AllByRecursion (IsSmall ks)) alone h).0, tt);
  }

  kept_sum : (ts : List Term) → AllByRecursion (λ t. Kept t.expr) ts → Kept (expr.Sum ts)
  kept_sum ts kept agree =
      let keeps : AllByRecursion (λ t. Keeps t.expr) ts = all_from (λ t. Kept t.expr) (λ t. AgreeOn t.expr) (λ t. Keeps t.expr) ts (λ t k. k) kept (all_flat SameKind (λ t. columns t.expr) ts (subst (AllByRecursion SameKind) (columns-Sum ts) agree)) in
      let bounds : bound_of ks (expr.Sum ts) ≡ bound_of ls (expr.Sum ts) =
      bound_of-Sum ks ts ∙ ap sum (map_same (λ t. bound_of ks t.expr) (λ t. bound_of ls t.expr) ts (all_weaker (λ t. Keeps t.expr) (λ t. bound_of ks t.expr ≡ bound_of ls t.expr) ts (λ t k. k.bound) keeps)) ∙ sym (bound_of-Sum ls ts) in
      record {
        sort = sort_of-Sum ks ts ∙ ap (λ ss. arithmetic (list_all is_numeric ss)) (map_same (λ t. sort_of ks t.expr) (λ t. sort_of ls t.expr) ts (all_weaker (λ t. Keeps t.expr) (λ t. sort_of ks t.expr ≡ sort_of ls t.expr) ts (λ t k. k.sort) keeps)) ∙ sym (sort_of-Sum ls ts);
        bound = bounds;
        bounded = λ h.
            let all = subst (AllByRecursion (IsSmall ks)) (parts-Sum ts) h in
            subst (AllByRecursion (IsSmall ls)) (sym (parts-Sum ts)) (
              small_too (expr.Sum ts) bounds all.0,
              all_flattened (IsSmall ls) (λ t. parts t.expr) ts (all_from (λ t. Keeps t.expr) (λ t. IsBounded ks t.expr) (λ t. IsBounded ls t.expr) ts (λ t k. k.bounded) keeps (all_flat (IsSmall ks) (λ t. parts t.expr) ts all.1)),
            );
      }

  kept_product : (es : List Expr) → AllByRecursion Kept es → Kept (expr.Product es)
  kept_product es kept agree =
      let keeps : AllByRecursion Keeps es = all_from Kept AgreeOn Keeps es (λ e k. k) kept (all_flat SameKind columns es (subst (AllByRecursion SameKind) (columns-Product es) agree)) in
      let bounds : bound_of ks (expr.Product es) ≡ bound_of ls (expr.Product es) =
      bound_of-Product ks es ∙ ap (fold (λ a b. a * b) 1) (map_same (bound_of ks) (bound_of ls) es (all_weaker Keeps (λ e. bound_of ks e ≡ bound_of ls e) es (λ e k. k.bound) keeps)) ∙ sym (bound_of-Product ls es) in
      record {
        sort = sort_of-Product ks es ∙ ap (λ ss. arithmetic (list_all is_numeric ss)) (map_same (sort_of ks) (sort_of ls) es (all_weaker Keeps (λ e. sort_of ks e ≡ sort_of ls e) es (λ e k. k.sort) keeps)) ∙ sym (sort_of-Product ls es);
        bound = bounds;
        bounded = λ h.
            let all = subst (AllByRecursion (IsSmall ks)) (parts-Product es) h in
            subst (AllByRecursion (IsSmall ls)) (sym (parts-Product es)) (
              small_too (expr.Product es) bounds all.0,
              all_flattened (IsSmall ls) parts es (all_from Keeps (IsBounded ks) (IsBounded ls) es (λ e k. k.bounded) keeps (all_flat (IsSmall ks) parts es all.1)),
            );
      }

  kept_cases : ExprCases Kept
  kept_cases = record {
    column = λ n agree.
        let same = (subst (AllByRecursion SameKind) (columns-Column n) agree).0 in
        kept_leaf (expr.Column n) (parts-Column n)
        (sort_of-Column ks n ∙ ap (option_map sort_of_kind) same ∙ sym (sort_of-Column ls n))
        (bound_of-Column ks n ∙ ap (λ k. unwrap_or (option_map kind_bound k) 0) same ∙ sym (bound_of-Column ls n));
    number = λ n agree. kept_leaf (expr.Number n) (parts-Number n) (sort_of-Number ks n ∙ sym (sort_of-Number ls n)) (bound_of-Number ks n ∙ sym (bound_of-Number ls n));
    text = λ t agree. kept_leaf (expr.Text t) (parts-Text t) (sort_of-Text ks t ∙ sym (sort_of-Text ls t)) (bound_of-Text ks t ∙ sym (bound_of-Text ls t));
    neg = λ e kept agree.
        let keeps = kept (subst (AllByRecursion SameKind) (columns-Neg e) agree) in
        let bounds : bound_of ks (expr.Neg e) ≡ bound_of ls (expr.Neg e) = bound_of-Neg ks e ∙ keeps.bound ∙ sym (bound_of-Neg ls e) in
        record {
          sort = sort_of-Neg ks e ∙ ap (λ s. arithmetic (is_numeric s)) keeps.sort ∙ sym (sort_of-Neg ls e);
          bound = bounds;
          bounded = λ h.
              let all = subst (AllByRecursion (IsSmall ks)) (parts-Neg e) h in
              subst (AllByRecursion (IsSmall ls)) (sym (parts-Neg e)) (small_too (expr.Neg e) bounds all.0, keeps.bounded all.1);
        };
    sum = kept_sum;
    product = kept_product;
  }

  kept : (e : Expr) → Kept e
  kept = each_expr Kept kept_cases

  pub suits_by_names : (e : Expr) → AgreeOn e → Suits ks e → Suits ls e
  suits_by_names e agree s =
      let keeps = kept e agree in
      record { typed = subst IsSome keeps.sort s.typed; bounded = keeps.bounded s.bounded }

  -- ---- conditions

  abbrev AgreeOnCond : Cond → Type 0
  AgreeOnCond c = AllByRecursion SameKind (cond_columns c)

  record KeepsCond (c : Cond) : Type 0 where
    typed : is_typed_cond ks c ≡ is_typed_cond ls c
    bounded : IsBoundedCond ks c → IsBoundedCond ls c

  abbrev KeptCond : Cond → Type 0
  KeptCond c = AgreeOnCond c → KeepsCond c

  keep_members : (cs : List Cond) → AllByRecursion KeptCond cs → AllByRecursion SameKind (flat_map cond_columns cs) → AllByRecursion KeepsCond cs
  keep_members cs kept agree = all_from KeptCond AgreeOnCond KeepsCond cs (λ c k. k) kept (all_flat SameKind cond_columns cs agree)

  typed_members : (cs : List Cond) → AllByRecursion KeepsCond cs → list_all (λ b. b) (map (is_typed_cond ks) cs) ≡ list_all (λ b. b) (map (is_typed_cond ls) cs)
  typed_members cs keeps = ap (list_all (λ b. b)) (map_same (is_typed_cond ks) (is_typed_cond ls) cs (all_weaker KeepsCond (λ c. is_typed_cond ks c ≡ is_typed_cond ls c) cs (λ c k. k.typed) keeps))

  bounded_members : (cs : List Cond) → AllByRecursion KeepsCond cs → AllByRecursion (IsSmall ks) (flat_map cond_parts cs) → AllByRecursion (IsSmall ls) (flat_map cond_parts cs)
  bounded_members cs keeps all = all_flattened (IsSmall ls) cond_parts cs (all_from KeepsCond (IsBoundedCond ks) (IsBoundedCond ls) cs (λ c k. k.bounded) keeps (all_flat (IsSmall ks) cond_parts cs all))

  cond_cases : CondCases KeptCond
  cond_cases = record {
    compare = λ cmp left right agree.
        let names = subst (AllByRecursion SameKind) (cond_columns-Compare cmp left right) agree in
        let l = kept left (all_front SameKind (columns left) (columns right) names) in
        let r = kept right (all_back SameKind (columns left) (columns right) names) in
        record {
          typed = is_typed_cond-Compare ks cmp left right ∙ ap (λ s. are_alike s (sort_of ks right)) l.sort ∙ ap (are_alike (sort_of ls left)) r.sort ∙ sym (is_typed_cond-Compare ls cmp left right);
          bounded = λ h.
              let all = subst (AllByRecursion (IsSmall ks)) (cond_parts-Compare cmp left right) h in
              subst (AllByRecursion (IsSmall ls)) (sym (cond_parts-Compare cmp left right))
              (all_append (IsSmall ls) (parts left) (parts right) (l.bounded (all_front (IsSmall ks) (parts left) (parts right) all)) (r.bounded (all_back (IsSmall ks) (parts left) (parts right) all)));
        };
    null = λ e negated agree.
        let keeps = kept e (subst (AllByRecursion SameKind) (cond_columns-Null e negated) agree) in
        record {
          typed = is_typed_cond-Null ks e negated ∙ ap is_some keeps.sort ∙ sym (is_typed_cond-Null ls e negated);
          bounded = λ h. subst (AllByRecursion (IsSmall ls)) (sym (cond_parts-Null e negated)) (keeps.bounded (subst (AllByRecursion (IsSmall ks)) (cond_parts-Null e negated) h));
        };
    not = λ a keep agree.
        let keeps = keep (subst (AllByRecursion SameKind) (cond_columns-Not a) agree) in
        record {
          typed = is_typed_cond-Not ks a ∙ keeps.typed ∙ sym (is_typed_cond-Not ls a);
          bounded = λ h. subst (AllByRecursion (IsSmall ls)) (sym (cond_parts-Not a)) (keeps.bounded (subst (AllByRecursion (IsSmall ks)) (cond_parts-Not a) h));
        };
    all = λ cs keep agree.
        let keeps = keep_members cs keep (subst (AllByRecursion SameKind) (cond_columns-All cs) agree) in
        record {
          typed = is_typed_cond-All ks cs ∙ typed_members cs keeps ∙ sym (is_typed_cond-All ls cs);
          bounded = λ h. subst (AllByRecursion (IsSmall ls)) (sym (cond_parts-All cs)) (bounded_members cs keeps (subst (AllByRecursion (IsSmall ks)) (cond_parts-All cs) h));
        };
    any = λ cs keep agree.
        let keeps = keep_members cs keep (subst (AllByRecursion SameKind) (cond_columns-Any cs) agree) in
        record {
          typed = is_typed_cond-Any ks cs ∙ typed_members cs keeps ∙ sym (is_typed_cond-Any ls cs);
          bounded = λ h. subst (AllByRecursion (IsSmall ls)) (sym (cond_parts-Any cs)) (bounded_members cs keeps (subst (AllByRecursion (IsSmall ks)) (cond_parts-Any cs) h));
        };
  }

  pub suits_cond_by_names : (c : Cond) → AgreeOnCond c → SuitsCond ks c → SuitsCond ls c
  suits_cond_by_names c agree s =
      let keeps = each_cond KeptCond cond_cases c agree in
      record { typed = subst IsTrue keeps.typed s.typed; bounded = keeps.bounded s.bounded }

-- ---- more columns

kind_front : (kinds more : List Kind) (n : ℕ) → n < length kinds → slice_get (kinds ++ more) n ≡ slice_get kinds n
kind_front [] more n h = absurd (omega arith)
kind_front (k ∷ kinds) more zero h = refl
kind_front (k ∷ kinds) more (suc n) h = kind_front kinds more n (omega arith)

module _ (kinds more : List Kind) where
  front : (ns : List ℕ) → width_of ns ≤ length kinds → AllByRecursion (λ n. slice_get (kinds ++ more) n ≡ slice_get kinds n) ns
  front ns h = all_weaker (λ n. n < length kinds) (λ n. slice_get (kinds ++ more) n ≡ slice_get kinds n) ns (kind_front kinds more) ((width_is ns (length kinds)).0 h)

  back : (ns : List ℕ) → width_of ns ≤ length kinds → AllByRecursion (λ n. slice_get kinds n ≡ slice_get (kinds ++ more) n) ns
  back ns h = all_weaker (λ n. slice_get (kinds ++ more) n ≡ slice_get kinds n) (λ n. slice_get kinds n ≡ slice_get (kinds ++ more) n) ns (λ n e. sym e) (front ns h)

  pub suits_fewer : (e : Expr) → width_of (columns e) ≤ length kinds → Suits (kinds ++ more) e → Suits kinds e
  suits_fewer e h = suits_by_names (kinds ++ more) kinds e (front (columns e) h)

  pub suits_more : (e : Expr) → width_of (columns e) ≤ length kinds → Suits kinds e → Suits (kinds ++ more) e
  suits_more e h = suits_by_names kinds (kinds ++ more) e (back (columns e) h)

  pub suits_cond_fewer : (c : Cond) → width_of (cond_columns c) ≤ length kinds → SuitsCond (kinds ++ more) c → SuitsCond kinds c
  suits_cond_fewer c h = suits_cond_by_names (kinds ++ more) kinds c (front (cond_columns c) h)

  pub suits_cond_more : (c : Cond) → width_of (cond_columns c) ≤ length kinds → SuitsCond kinds c → SuitsCond (kinds ++ more) c
  suits_cond_more c h = suits_cond_by_names kinds (kinds ++ more) c (back (cond_columns c) h)

-- ---- plain columns and conjunctions

module _ (kinds : List Kind) where
  small_kind : (k : Option Kind) → unwrap_or (option_map kind_bound k) 0 < 2 ^ 127
  small_kind k = omega (arith, small_or_none k)

  pub column_suits : (n : ℕ) (kind : Kind) → slice_get kinds n ≡ Some kind → Suits kinds (expr.Column n)
  column_suits n kind is = record {
    typed = ap is_some (sort_of-Column kinds n ∙ ap (option_map sort_of_kind) is);
    bounded = subst (AllByRecursion (IsSmall kinds)) (sym (parts-Column n)) (subst (λ b. b < 2 ^ 127) (sym (bound_of-Column kinds n)) (small_kind (slice_get kinds n)), tt);
  }

  pub conjunction_suits : (cs : List Cond) → AllByRecursion (SuitsCond kinds) cs → SuitsCond kinds (cond.All cs)
  conjunction_suits cs hs = record {
    typed = is_typed_cond-All kinds cs ∙ all_passed (λ b. b) (is_typed_cond kinds) cs (all_weaker (SuitsCond kinds) (IsTypedCond kinds) cs (λ c s. s.typed) hs);
    bounded = subst (AllByRecursion (IsSmall kinds)) (sym (cond_parts-All cs)) (all_flattened (IsSmall kinds) cond_parts cs (all_weaker (SuitsCond kinds) (IsBoundedCond kinds) cs (λ c s. s.bounded) hs));
  }

  abbrev MembersSuit : Cond → Type 0
  MembersSuit c = SuitsCond kinds c → AllByRecursion (SuitsCond kinds) (members c)

  suits_alone : (c : Cond) → members c ≡ c ∷ [] → MembersSuit c
  suits_alone c is s = subst (AllByRecursion (SuitsCond kinds)) (sym is) (s, tt)

  pub members_suit : (c : Cond) → MembersSuit c
  members_suit = each_cond MembersSuit (record {
    compare = λ cmp left right. suits_alone (cond.Compare cmp left right) (members-Compare cmp left right);
    null = λ e negated. suits_alone (cond.Null e negated) (members-Null e negated);
    not = λ a _. suits_alone (cond.Not a) (members-Not a);
    all = λ cs _ s. subst (AllByRecursion (SuitsCond kinds)) (sym (members-All cs)) (suits_all kinds cs s);
    any = λ cs _. suits_alone (cond.Any cs) (members-Any cs);
  })
