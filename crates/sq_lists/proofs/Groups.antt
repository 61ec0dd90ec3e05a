-- Which numbers of groups are outside BIGINT.
use Rattle.std.proofs.Common.{◌≡◌, ℕ, List, [], ◌∷◌, map, filter, Bool, true, false, cond, ◌&&◌, ◌||◌, refl, sym, ap, ◌∙◌}
use Rattle.std.specs.Prelude.{Option, Some, None}
use Rattle.std.specs.List.{AllByRecursion, flat_map, list_any}
use Rattle.sq_expr.specs.declared.expr.Expr.{Expr}
use Rattle.sq_expr.specs.Meaning.{num, columns_of}
use Rattle.sq_expr.proofs.Lists.{all_weaker}
use Rattle.sq_typed.specs.declared.query.BlockCall.{BlockCall}
use Rattle.sq_typed.specs.declared.query.Grouping.{Grouping}
use Rattle.sq_typed.specs.Blocks.{arguments, call_value, groups, is_sum, tested_calls}
use Rattle.std.specs.Ordering.{is_eq}
use Rattle.sq_algebra.specs.Listed.{first_of_each}
use Rattle.sq_value.specs.Order.{row_cmp}
use Rattle.sq_typed.specs.From.{Row}
use Rattle.sq_typed.specs.Queries.{is_outside}
use Rattle.sq_typed.proofs.Tests.{all_filter}
use Rattle.sq_lists.specs.Values.{ArgumentFits, rows_at, groups_at, is_group_outside, is_argument_outside}
use Rattle.sq_lists.proofs.Loops.{list_any-append}

-- the members of a group fit as all rows do
pub members_fit : (columns : List ℕ) (key : Row) (calls : List BlockCall) (rows : List Row) → AllByRecursion (λ c. AllByRecursion (ArgumentFits c.arg) rows) calls → AllByRecursion (λ c. AllByRecursion (ArgumentFits c.arg) (rows_at columns key rows)) calls
members_fit columns key calls rows h = all_weaker (λ c. AllByRecursion (ArgumentFits c.arg) rows) (λ c. AllByRecursion (ArgumentFits c.arg) (rows_at columns key rows)) calls (λ c k. all_filter (ArgumentFits c.arg) _ rows k) h

-- ---- tests of lists

pub or_both : (a b : Bool) → a ≡ false → b ≡ false → (a || b) ≡ false
or_both a b e f = ap (λ x. x || b) e ∙ f

pub or_first : (a b : Bool) → a ≡ true → (a || b) ≡ true
or_first a b e = ap (λ x. x || b) e

pub or_second : (a b : Bool) → b ≡ true → (a || b) ≡ true
or_second true b e = refl
or_second false b e = e

front_false : (a b : Bool) → (a || b) ≡ false → a ≡ false
front_false true b e = e
front_false false b e = refl

back_false : (a b : Bool) → (a || b) ≡ false → b ≡ false
back_false true b e = cc
back_false false b e = e

either_implies : (a b c d : Bool) → (a ≡ true → c ≡ true) → (b ≡ true → d ≡ true) → (a || b) ≡ true → (c || d) ≡ true
either_implies true b c d f g e = or_first c d (f refl)
either_implies false b c d f g e = or_second c d (g e)

any_implies : {A : Type 0} (p q : A → Bool) (xs : List A) → ((x : A) → p x ≡ true → q x ≡ true) → list_any p xs ≡ true → list_any q xs ≡ true
any_implies p q [] f e = e
any_implies p q (x ∷ xs) f e = either_implies (p x) (list_any p xs) (q x) (list_any q xs) (f x) (any_implies p q xs f) e

-- what a test finds in part of a list it finds in the whole
kept_or_not : {A : Type 0} (q : A → Bool) (x : A) (kept xs : List A) (b : Bool) → (list_any q kept ≡ true → list_any q xs ≡ true) → list_any q (cond b (x ∷ kept) kept) ≡ true → (q x || list_any q xs) ≡ true
kept_or_not q x kept xs true h e = either_implies (q x) (list_any q kept) (q x) (list_any q xs) (λ t. t) h e
kept_or_not q x kept xs false h e = or_second (q x) (list_any q xs) (h e)

any_filter : {A : Type 0} (q p : A → Bool) (xs : List A) → list_any q (filter p xs) ≡ true → list_any q xs ≡ true
any_filter q p [] e = e
any_filter q p (x ∷ xs) e = kept_or_not q x (filter p xs) xs (p x) (any_filter q p xs) e

-- one of two tests
swap_or : (a b c d : Bool) → ((a || b) || (c || d)) ≡ ((a || c) || (b || d))
swap_or true b c d = refl
swap_or false true true d = refl
swap_or false true false d = refl
swap_or false false c d = refl

any_or : {A : Type 0} (p q : A → Bool) (xs : List A) → list_any (λ x. p x || q x) xs ≡ (list_any p xs || list_any q xs)
any_or p q [] = refl
any_or p q (x ∷ xs) = ap (λ b. (p x || q x) || b) (any_or p q xs) ∙ swap_or (p x) (q x) (list_any p xs) (list_any q xs)

any_same : {A : Type 0} (p q : A → Bool) (xs : List A) → ((x : A) → p x ≡ q x) → list_any p xs ≡ list_any q xs
any_same p q [] f = refl
any_same p q (x ∷ xs) f = ap (λ b. b || list_any p xs) (f x) ∙ ap (λ b. q x || b) (any_same p q xs f)

-- a test of the lists that f makes, and of what f makes of the members that pass another test
any_of_flat : {A B : Type 0} (p : B → Bool) (f : A → List B) (xs : List A) → list_any p (flat_map f xs) ≡ list_any (λ x. list_any p (f x)) xs
any_of_flat p f [] = refl
any_of_flat p f (x ∷ xs) = list_any-append p (f x) (flat_map f xs) ∙ ap (λ b. list_any p (f x) || b) (any_of_flat p f xs)

any_kept : {A B : Type 0} (p : B → Bool) (f : A → B) (q : A → Bool) (xs : List A) → list_any p (map f (filter q xs)) ≡ list_any (λ x. q x && p (f x)) xs
any_kept p f q [] = refl
any_kept p f q (x ∷ xs) = step (q x) ∙ ap (λ b. (q x && p (f x)) || b) (any_kept p f q xs)
  where
    step : (b : Bool) → list_any p (map f (cond b (x ∷ filter q xs) (filter q xs))) ≡ ((b && p (f x)) || list_any p (map f (filter q xs)))
    step true = refl
    step false = refl

any_mapped : {A B : Type 0} (p : B → Bool) (f : A → B) (xs : List A) → list_any p (map f xs) ≡ list_any (λ x. p (f x)) xs
any_mapped p f [] = refl
any_mapped p f (x ∷ xs) = ap (λ b. p (f x) || b) (any_mapped p f xs)

-- ---- groups

abbrev is_sum_outside : List Row → BlockCall → Bool
is_sum_outside rows c = is_sum c.func && is_outside (call_value c.func c.arg rows)

abbrev arguments_in : List BlockCall → Row × List Row → Bool
arguments_in calls group = list_any (is_argument_outside group.1) calls

abbrev sums_in : List BlockCall → Row × List Row → Bool
sums_in calls group = list_any (is_sum_outside group.1) calls

group_parts : (calls : List BlockCall) (group : Row × List Row) → is_group_outside calls group ≡ (arguments_in calls group || sums_in calls group)
group_parts calls group = any_or (is_argument_outside group.1) (is_sum_outside group.1) calls

sums_tested : (calls : List BlockCall) (group : Row × List Row) → list_any is_outside (map (λ c. call_value c.func c.arg group.1) (filter (λ c. is_sum c.func) calls)) ≡ sums_in calls group
sums_tested calls group = any_kept is_outside (λ c. call_value c.func c.arg group.1) (λ c. is_sum c.func) calls

argument_in_part : (p : Row → Bool) (rows : List Row) (arg : Option Expr) → list_any is_outside (arguments arg (filter p rows)) ≡ true → list_any is_outside (arguments arg rows) ≡ true
argument_in_part p rows None e = e
argument_in_part p rows (Some x) e = any_mapped is_outside (num x) rows ∙ any_filter (λ row. is_outside (num x row)) p rows (sym (any_mapped is_outside (num x) (filter p rows)) ∙ e)

pub groups_some : (columns : List ℕ) (rows : List Row) → (columns ≡ [] → ⊥) → groups columns rows ≡ groups_at columns (first_of_each row_cmp (map (columns_of columns) rows)) rows
groups_some [] rows h = absurd (h refl)
groups_some (c ∷ cs) rows h = refl

module _ (calls : List BlockCall) (rows : List Row) where
  in_all : (p : Row → Bool) (key : Row) → arguments_in calls (key, filter p rows) ≡ true → list_any (is_argument_outside rows) calls ≡ true
  in_all p key e = any_implies (is_argument_outside (filter p rows)) (is_argument_outside rows) calls (λ c h. argument_in_part p rows c.arg h) e

  any_const : {A : Type 0} (p : A → Bool) (b : Bool) (xs : List A) → ((x : A) → p x ≡ true → b ≡ true) → list_any p xs ≡ true → b ≡ true
  any_const p b [] f e = absurd (cc e)
  any_const p b (x ∷ xs) f e = or_same b (either_implies (p x) (list_any p xs) b b (f x) (any_const p b xs f) e)
    where
      or_same : (b : Bool) → (b || b) ≡ true → b ≡ true
      or_same true e = refl
      or_same false e = e

  in_groups : (columns : List ℕ) → list_any (arguments_in calls) (groups columns rows) ≡ true → list_any (is_argument_outside rows) calls ≡ true
  in_groups [] e = or_nothing (list_any (is_argument_outside rows) calls) e
    where
      or_nothing : (b : Bool) → (b || false) ≡ true → b ≡ true
      or_nothing true e = refl
      or_nothing false e = e
  in_groups (c ∷ cs) e = any_const (λ k. arguments_in calls (k, rows_at (c ∷ cs) k rows)) (list_any (is_argument_outside rows) calls) (first_of_each row_cmp (map (columns_of (c ∷ cs)) rows))
      (λ k h. in_all (λ row. is_eq (row_cmp k (columns_of (c ∷ cs) row))) k h)
      (sym (any_mapped (arguments_in calls) (λ k. (k, rows_at (c ∷ cs) k rows)) (first_of_each row_cmp (map (columns_of (c ∷ cs)) rows))) ∙ e)

module _ (g : Grouping) (rows : List Row) where
  -- what is tested: the arguments on all rows, and the sums of each group
  tested_parts : list_any is_outside (tested_calls (Some g) rows) ≡ (list_any (is_argument_outside rows) g.calls || list_any (sums_in g.calls) (groups g.columns rows))
  tested_parts =
      list_any-append is_outside (flat_map (λ c. arguments c.arg rows) g.calls) (flat_map (λ group. map (λ c. call_value c.func c.arg group.1) (filter (λ c. is_sum c.func) g.calls)) (groups g.columns rows))
      ∙ (λ i. any_of_flat is_outside (λ c. arguments c.arg rows) g.calls i
      || (any_of_flat is_outside (λ group. map (λ c. call_value c.func c.arg group.1) (filter (λ c. is_sum c.func) g.calls)) (groups g.columns rows)
      ∙ any_same (λ group. list_any is_outside (map (λ c. call_value c.func c.arg group.1) (filter (λ c. is_sum c.func) g.calls))) (sums_in g.calls) (groups g.columns rows) (sums_tested g.calls)) i)

  groups_parts : list_any (is_group_outside g.calls) (groups g.columns rows) ≡ (list_any (arguments_in g.calls) (groups g.columns rows) || list_any (sums_in g.calls) (groups g.columns rows))
  groups_parts = any_same (is_group_outside g.calls) (λ group. arguments_in g.calls group || sums_in g.calls group) (groups g.columns rows) (group_parts g.calls) ∙ any_or (arguments_in g.calls) (sums_in g.calls) (groups g.columns rows)

  pub nothing_outside : list_any (is_argument_outside rows) g.calls ≡ false → list_any (is_group_outside g.calls) (groups g.columns rows) ≡ false → list_any is_outside (tested_calls (Some g) rows) ≡ false
  nothing_outside a b = tested_parts ∙ or_both (list_any (is_argument_outside rows) g.calls) (list_any (sums_in g.calls) (groups g.columns rows)) a
      (back_false (list_any (arguments_in g.calls) (groups g.columns rows)) (list_any (sums_in g.calls) (groups g.columns rows)) (sym groups_parts ∙ b))

  pub arguments_outside : list_any (is_argument_outside rows) g.calls ≡ true → list_any is_outside (tested_calls (Some g) rows) ≡ true
  arguments_outside a = tested_parts ∙ or_first (list_any (is_argument_outside rows) g.calls) (list_any (sums_in g.calls) (groups g.columns rows)) a

  pub groups_outside : list_any (is_group_outside g.calls) (groups g.columns rows) ≡ true → list_any is_outside (tested_calls (Some g) rows) ≡ true
  groups_outside b = tested_parts ∙ either_implies (list_any (arguments_in g.calls) (groups g.columns rows)) (list_any (sums_in g.calls) (groups g.columns rows)) (list_any (is_argument_outside rows) g.calls) (list_any (sums_in g.calls) (groups g.columns rows))
      (in_groups g.calls rows g.columns) (λ e. e) (sym groups_parts ∙ b)
