-- Which kinds of rows the operators of a group take.
use Rattle.std.proofs.Common.{◌≡◌, ℕ, suc, List, [], ◌∷◌, ◌++◌, map, length, true, not, ◌&&◌, ◌||◌, Option, Some, None, refl, sym, ap, ap₂, ◌∙◌, append_assoc, arith}
use Rattle.std.specs.Prelude.{nat_lt, option_to_list, slice_get}
use Rattle.std.specs.List.{AllByRecursion, list_all}
use Rattle.std.proofs.lemmas.Bool.{lt-ltb}
use Rattle.std.proofs.lemmas.List.{length-append, map-append}
use Rattle.sq_algebra.specs.Keyed.{numbers_below}
use Rattle.sq_expr.specs.declared.expr.Expr.{Expr}
use Rattle.sq_expr.specs.declared.expr.Expr.TheVariants as expr
use Rattle.sq_expr.specs.declared.expr.Func.{Func}
use Rattle.sq_expr.specs.declared.expr.Func.TheVariants.{CountAll, Count, Sum, Min, Max}
use Rattle.sq_expr.specs.declared.expr.Kind.{Kind}
use Rattle.sq_expr.specs.declared.expr.Kind.TheVariants.{Integer, Bigint, Text}
use Rattle.sq_expr.specs.declared.typing.Sort.TheVariants.{Numeric}
use Rattle.sq_expr.specs.Fits.{Suits}
use Rattle.sq_expr.specs.Typing.{is_numeric as is_number, sort_of, sort_of_kind}
use Rattle.sq_expr.proofs.Lists.{all_append}
use Rattle.sq_ops.specs.Aggregates.{SuitsSpec, call_suits, is_numeric}
use Rattle.sq_ops.specs.Wholes.{has_no_values}
use Rattle.sq_typed.specs.declared.query.BlockCall.{BlockCall}
use Rattle.sq_typed.specs.declared.query.Grouping.{Grouping}
use Rattle.sq_typed.specs.Blocks.{is_sum}
use Rattle.sq_typed.specs.Fit.{argument_fits, grouped_kinds, grouping_fits, is_count_all, may_suit, suits}
use Rattle.sq_typed.specs.Numbered.{kind_of}
use Rattle.sq_typed.proofs.FitRows.{length_mapped}
use Rattle.sq_typed.proofs.FitTests.{suits_is}
use Rattle.sq_typed.proofs.Tests.{and_left, and_right}
use Rattle.sq_bridge.specs.Groups.{argument_items, behind, calls_from, group_items, group_spec, slot}
use Rattle.sq_bridge.proofs.Meaningful.{third}
use Rattle.sq_typed.proofs.Sorting.{numeric_kind}
use Rattle.sq_bridge.proofs.Suiting.{below, columns_suit}

-- ---- what is projected

argument_suits : (kinds : List Kind) (f : Func) (arg : Option Expr) → argument_fits kinds f arg ≡ true → AllByRecursion (Suits kinds) (option_to_list arg)
argument_suits kinds f None h = tt
argument_suits kinds f (Some e) h =
    ((suits_is kinds e).0 (and_left (suits kinds e) (not (is_sum f) || is_number (sort_of kinds e)) (and_right (not (is_count_all f)) (suits kinds e && (not (is_sum f) || is_number (sort_of kinds e))) h)), tt)

arguments_suit : (kinds : List Kind) (calls : List BlockCall) → list_all (λ c. argument_fits kinds c.func c.arg) calls ≡ true → AllByRecursion (Suits kinds) (argument_items calls)
arguments_suit kinds [] e = tt
arguments_suit kinds (c ∷ calls) e = all_append (Suits kinds) (option_to_list c.arg) (argument_items calls)
    (argument_suits kinds c.func c.arg (and_left (argument_fits kinds c.func c.arg) (list_all (λ c. argument_fits kinds c.func c.arg) calls) e))
    (arguments_suit kinds calls (and_right (argument_fits kinds c.func c.arg) (list_all (λ c. argument_fits kinds c.func c.arg) calls) e))

columns_fit : (kinds : List Kind) (g : Grouping) → grouping_fits kinds g ≡ true → list_all (λ n. nat_lt n (length kinds)) g.columns ≡ true
columns_fit kinds g e = and_left (list_all (λ n. nat_lt n (length kinds)) g.columns) (list_all (λ c. argument_fits kinds c.func c.arg) g.calls && may_suit (grouped_kinds kinds g) g.having) e

calls_fit : (kinds : List Kind) (g : Grouping) → grouping_fits kinds g ≡ true → list_all (λ c. argument_fits kinds c.func c.arg) g.calls ≡ true
calls_fit kinds g e = and_left (list_all (λ c. argument_fits kinds c.func c.arg) g.calls) (may_suit (grouped_kinds kinds g) g.having)
    (and_right (list_all (λ n. nat_lt n (length kinds)) g.columns) (list_all (λ c. argument_fits kinds c.func c.arg) g.calls && may_suit (grouped_kinds kinds g) g.having) e)

pub group_items_suit : (kinds : List Kind) (g : Grouping) → grouping_fits kinds g ≡ true → AllByRecursion (Suits kinds) (group_items g)
group_items_suit kinds g e = all_append (Suits kinds) (map expr.Column g.columns) (argument_items g.calls) (columns_suit kinds g.columns (columns_fit kinds g e)) (arguments_suit kinds g.calls (calls_fit kinds g e))

-- ---- how it is grouped

next_kind : (front : List Kind) (k : Kind) (rest : List Kind) → slice_get (front ++ k ∷ rest) (length front) ≡ Some k
next_kind [] k rest = refl
next_kind (l ∷ front) k rest = next_kind front k rest

numeric_is : (k : Kind) → sort_of_kind k ≡ Numeric → is_numeric (Some k) ≡ true
numeric_is Integer e = refl
numeric_is Bigint e = refl
numeric_is Text e = absurd (cc e)

module _ (kinds own : List Kind) where
  abbrev item_kinds : List Expr → List Kind
  item_kinds es = map (kind_of kinds) es

  -- the calls read the arguments that stand behind n columns
  abbrev AreTaken : List BlockCall → Type 0
  AreTaken calls = (n : ℕ) (front : List Kind) → length front ≡ n → own ≡ front ++ item_kinds (argument_items calls) → list_all (λ call. call_suits call.func call.arg own) (calls_from n calls) ≡ true

  one_taken : (n : ℕ) (front rest : List Kind) (e : Expr) → length front ≡ n → own ≡ front ++ kind_of kinds e ∷ rest → (f : Func) → argument_fits kinds f (Some e) ≡ true → call_suits f n own ≡ true
  one_taken n front rest e long is f h = by_function f h
    where
      within : nat_lt n (length own) ≡ true
      within = lt-ltb n (length own) (omega (arith, long, ap length is ∙ length-append front (kind_of kinds e ∷ rest)))

      at : slice_get own n ≡ Some (kind_of kinds e)
      at = ap₂ slice_get is (sym long) ∙ next_kind front (kind_of kinds e) rest

      by_function : (f : Func) → argument_fits kinds f (Some e) ≡ true → call_suits f n own ≡ true
      by_function CountAll h = refl
      by_function Count h = within
      by_function Sum h = ap is_numeric at ∙ numeric_is (kind_of kinds e) (numeric_kind kinds e (third (is_count_all Sum) (suits kinds e) (is_sum Sum) (is_number (sort_of kinds e)) h refl))
      by_function Min h = within
      by_function Max h = within

  count_all_taken : (f : Func) → is_count_all f ≡ true → call_suits f 0 own ≡ true
  count_all_taken CountAll h = refl
  count_all_taken Count h = absurd (cc h)
  count_all_taken Sum h = absurd (cc h)
  count_all_taken Min h = absurd (cc h)
  count_all_taken Max h = absurd (cc h)

  call_taken : (f : Func) (arg : Option Expr) (calls : List BlockCall) → argument_fits kinds f arg ≡ true → AreTaken calls → (n : ℕ) (front : List Kind) → length front ≡ n → own ≡ front ++ item_kinds (option_to_list arg ++ argument_items calls) →
      (call_suits f (slot n arg) own && list_all (λ call. call_suits call.func call.arg own) (calls_from (behind n arg) calls)) ≡ true
  call_taken f None calls h later n front long is = ap₂ (λ a b. a && b) (count_all_taken f h) (later n front long is)
  call_taken f (Some e) calls h later n front long is =
      ap₂ (λ a b. a && b) (one_taken n front (item_kinds (argument_items calls)) e long is f h)
      (later (suc n) (front ++ kind_of kinds e ∷ []) (length-append front (kind_of kinds e ∷ []) ∙ omega (arith, long)) (is ∙ sym (append_assoc front (kind_of kinds e ∷ []) (item_kinds (argument_items calls)))))

  calls_taken : (calls : List BlockCall) → list_all (λ c. argument_fits kinds c.func c.arg) calls ≡ true → AreTaken calls
  calls_taken [] h n front long is = refl
  calls_taken (c ∷ calls) h n front long is =
      call_taken c.func c.arg calls (and_left (argument_fits kinds c.func c.arg) (list_all (λ c. argument_fits kinds c.func c.arg) calls) h)
      (calls_taken calls (and_right (argument_fits kinds c.func c.arg) (list_all (λ c. argument_fits kinds c.func c.arg) calls) h)) n front long is

no_columns : (columns : List ℕ) → (not (has_no_values columns) || has_no_values (numbers_below (length columns))) ≡ true
no_columns [] = refl
no_columns (c ∷ cs) = refl

pub group_spec_suits : (kinds : List Kind) (g : Grouping) → grouping_fits kinds g ≡ true → SuitsSpec (group_spec g) (map (kind_of kinds) (group_items g))
group_spec_suits kinds g e =
    let own = map (kind_of kinds) (group_items g) in
    let front = map (kind_of kinds) (map expr.Column g.columns) in
    let long : length front ≡ length g.columns = length_mapped (kind_of kinds) (map expr.Column g.columns) ∙ length_mapped expr.Column g.columns in
    let is : own ≡ front ++ map (kind_of kinds) (argument_items g.calls) = map-append (kind_of kinds) (map expr.Column g.columns) (argument_items g.calls) in
    ap₂ (λ a b. a && b) (no_columns g.columns)
    (ap₂ (λ a b. a && b) (below (length g.columns) (length own) (omega (arith, long, ap length is ∙ length-append front (map (kind_of kinds) (argument_items g.calls)))))
    (calls_taken kinds own g.calls (calls_fit kinds g e) (length g.columns) front long is))
