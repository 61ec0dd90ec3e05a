-- Which kinds of rows the operators take.
use Rattle.std.proofs.Common.{rules, ◌≡◌, ℕ, zero, suc, ◌+◌, ◌^◌, ◌<◌, ◌≤◌, List, [], ◌∷◌, ◌++◌, map, length, get_or, true, not, ◌&&◌, Option, Some, None, ◌⊎◌, inl, inr, refl, sym, ap, ap₂, subst, ◌∙◌, arith}
use Rattle.std.specs.Prelude.{IsSome, is_some, nat_lt, option_map, option_to_list, slice_get, unwrap_or}
use Rattle.std.specs.List.{AllByRecursion, list_all}
use Rattle.std.proofs.lemmas.Bool.{lt-ltb, ltb-true}
use Rattle.std.proofs.lemmas.List.{length-append}
use Rattle.std.proofs.lemmas.Option.{slice_get-get_or}
use Rattle.sq_algebra.specs.Keyed.{numbers_below}
use Rattle.sq_expr.specs.declared.cond.Cmp.TheVariants.{Eq}
use Rattle.sq_expr.specs.declared.cond.Cond.{Cond}
use Rattle.sq_expr.specs.declared.cond.Cond.TheVariants as condition
use Rattle.sq_expr.specs.declared.expr.Expr.TheVariants as expr
use Rattle.sq_expr.specs.declared.expr.Kind.{Kind}
use Rattle.sq_expr.specs.declared.expr.Kind.TheVariants.{Integer, Bigint, Text}
use Rattle.sq_expr.specs.Bounds.{bound_of, kind_bound}
use Rattle.sq_expr.specs.Columns.{cond_columns}
use Rattle.sq_expr.specs.Fits.{Suits, SuitsCond}
use Rattle.sq_expr.specs.Typing.{is_typed_cond, sort_of_kind}
use Rattle.sq_expr.proofs.Equations.{bound_of-Column, columns-Column, cond_columns-Compare, parts-Column, sort_of-Column}
use Rattle.sq_expr.proofs.Lists.{all_weaker}
use Rattle.sq_expr.proofs.Names.{cond_names_in_range, width_is}
use Rattle.sq_expr.proofs.Typed.{bounded_all, typed_all}
use Rattle.sq_typed.proofs.Tests.{all_filter, and_left, and_right, list_all-append}
use Rattle.sq_bridge.specs.Joins.{IsKeyOf, first_columns, joined_on, key_of, keys_among, other_conds, same_rows}
use Rattle.sq_bridge.specs.Rows.{PairingSuits}
use Rattle.sq_bridge.proofs.Keying.{key_is_equality}

-- ---- numbers below

pub below : (n m : ℕ) → n ≤ m → list_all (λ c. nat_lt c m) (numbers_below n) ≡ true
below zero m h = refl
below (suc n) m h =
    list_all-append (λ c. nat_lt c m) (numbers_below n) (n ∷ [])
    ∙ ap₂ (λ a b. a && b) (below n m (omega (arith, h))) (ap (λ b. b && true) (lt-ltb n m (omega (arith, h))))

-- ---- conditions together

pub all_suit : (kinds : List Kind) (cs : List Cond) → AllByRecursion (SuitsCond kinds) cs → SuitsCond kinds (condition.All cs)
all_suit kinds cs h = record {
  typed = sym (typed_all kinds (condition.All cs) cs refl) ∙ each_typed cs h;
  bounded = (bounded_all kinds (condition.All cs) cs refl).1 (all_weaker (SuitsCond kinds) _ cs (λ c s. s.bounded) h);
}
  where
    each_typed : (cs : List Cond) → AllByRecursion (SuitsCond kinds) cs → list_all (is_typed_cond kinds) cs ≡ true
    each_typed [] h = refl
    each_typed (c ∷ cs) h = ap₂ (λ a b. a && b) h.0.typed (each_typed cs h.1)

-- ---- joins

module _ (left right : List Kind) where
  abbrev w : ℕ
  w = length left

  abbrev v : ℕ
  v = length right

  columns_of_both : (a b : ℕ) → cond_columns (condition.Compare Eq (expr.Column a) (expr.Column b)) ≡ a ∷ b ∷ []
  columns_of_both a b = cond_columns-Compare Eq (expr.Column a) (expr.Column b) ∙ ap₂ (λ xs ys. xs ++ ys) (columns-Column a) (columns-Column b)

  named : (c : Cond) (a b : ℕ) → c ≡ condition.Compare Eq (expr.Column a) (expr.Column b) → SuitsCond (left ++ right) c → (a < w + v) × (b < w + v)
  named c a b is s =
      let all = subst (AllByRecursion (λ n. n < length (left ++ right))) (ap cond_columns is ∙ columns_of_both a b)
      ((width_is (cond_columns c) (length (left ++ right))).0 (cond_names_in_range (left ++ right) c s.typed)) in
      (omega (arith, all.0, length-append left right), omega (arith, all.1.0, length-append left right))

  right_key : (c : Cond) (key : ℕ × ℕ) → IsKeyOf w key c → SuitsCond (left ++ right) c → key.1 < v
  right_key c key h s = by_form h.1
    where
      by_form : ((c ≡ condition.Compare Eq (expr.Column key.0) (expr.Column (w + key.1))) ⊎ (c ≡ condition.Compare Eq (expr.Column (w + key.1)) (expr.Column key.0))) → key.1 < v
      by_form (inl is) = omega (arith, (named c key.0 (w + key.1) is s).1)
      by_form (inr is) = omega (arith, (named c (w + key.1) key.0 is s).0)

  keys_below : (conds : List Cond) → AllByRecursion (SuitsCond (left ++ right)) conds →
      (list_all (λ n. nat_lt n w) (map (λ key. key.0) (keys_among w conds)) ≡ true) × (list_all (λ n. nat_lt n v) (map (λ key. key.1) (keys_among w conds)) ≡ true)
  keys_below [] h = (refl, refl)
  keys_below (c ∷ conds) h = step (key_of w c) refl (keys_below conds h.1)
    where
      step : (o : Option (ℕ × ℕ)) → key_of w c ≡ o → (list_all (λ n. nat_lt n w) (map (λ key. key.0) (keys_among w conds)) ≡ true) × (list_all (λ n. nat_lt n v) (map (λ key. key.1) (keys_among w conds)) ≡ true) →
          (list_all (λ n. nat_lt n w) (map (λ key. key.0) (option_to_list o ++ keys_among w conds)) ≡ true) × (list_all (λ n. nat_lt n v) (map (λ key. key.1) (option_to_list o ++ keys_among w conds)) ≡ true)
      step None e rest = rest
      step (Some key) e rest =
          let is = key_is_equality w c key e in
          (ap₂ (λ a b. a && b) (lt-ltb key.0 w is.0) rest.0, ap₂ (λ a b. a && b) (lt-ltb key.1 v (right_key c key is h.0)) rest.1)

  both_below : list_all (λ c. nat_lt c (length (left ++ right))) (numbers_below (w + v)) ≡ true
  both_below = below (w + v) (length (left ++ right)) (omega (arith, length-append left right))

  joined_takes : (conds : List Cond) → AllByRecursion (SuitsCond (left ++ right)) conds → PairingSuits (joined_on w v conds) left right
  joined_takes conds h = record {
    left_in_range = (keys_below conds h).0;
    right_in_range = (keys_below conds h).1;
    items_in_range = both_below;
    tested = all_suit (left ++ right) (other_conds w conds) (all_filter (SuitsCond (left ++ right)) (λ c. not (is_some (key_of w c))) conds h);
  }

  same_takes : w ≡ v → PairingSuits (same_rows w) left right
  same_takes e = record {
    left_in_range = below w w (omega arith);
    right_in_range = below w v (omega (arith, e));
    items_in_range = below w (length (left ++ right)) (omega (arith, length-append left right));
    tested = all_suit (left ++ right) [] tt;
  }

pub joins_suit : (left right : List Kind) (conds : List Cond) → AllByRecursion (SuitsCond (left ++ right)) conds → PairingSuits (joined_on (length left) (length right) conds) left right
joins_suit left right conds h = joined_takes left right conds h

pub same_suit : (left right : List Kind) → length left ≡ length right → PairingSuits (same_rows (length left)) left right
same_suit left right e = same_takes left right e

-- ---- columns

found_suits : (kinds : List Kind) (n : ℕ) (k : Kind) → slice_get kinds n ≡ Some k → Suits kinds (expr.Column n)
found_suits kinds n k e = record {
  typed = subst IsSome (sym (sort_of-Column kinds n ∙ ap (option_map sort_of_kind) e)) some;
  bounded = subst (AllByRecursion (λ part. bound_of kinds part < 2 ^ 127)) (sym (parts-Column n)) (subst (λ b. b < 2 ^ 127) (sym (bound_of-Column kinds n ∙ ap (λ o. unwrap_or (option_map kind_bound o) 0) e)) (small k), tt);
}
  where
    some : IsSome (Some (sort_of_kind k))
    some = search rules

    small : (k : Kind) → kind_bound k < 2 ^ 127
    small Integer = omega arith
    small Bigint = omega arith
    small Text = omega arith

pub column_suits : (kinds : List Kind) (n : ℕ) → n < length kinds → Suits kinds (expr.Column n)
column_suits kinds n h = found_suits kinds n (get_or kinds n Bigint) (slice_get-get_or kinds n Bigint h)

pub columns_suit : (kinds : List Kind) (ns : List ℕ) → list_all (λ n. nat_lt n (length kinds)) ns ≡ true → AllByRecursion (Suits kinds) (map expr.Column ns)
columns_suit kinds [] e = tt
columns_suit kinds (n ∷ ns) e = (
  column_suits kinds n (ltb-true n (length kinds) (and_left (nat_lt n (length kinds)) (list_all (λ n. nat_lt n (length kinds)) ns) e)),
  columns_suit kinds ns (and_right (nat_lt n (length kinds)) (list_all (λ n. nat_lt n (length kinds)) ns) e),
)

pub first_columns_suit : (w : ℕ) (kinds : List Kind) → w ≤ length kinds → AllByRecursion (Suits kinds) (first_columns w)
first_columns_suit w kinds h = columns_suit kinds (numbers_below w) (below w (length kinds) h)
