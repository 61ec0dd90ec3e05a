-- What the tests of a query that fits say.
use Rattle.std.proofs.Common.{◌≡◌, ◌<◌, ◌^◌, List, [], ◌∷◌, map, length, not, ◌||◌, Bool, true, ◌&&◌, refl, ap, subst, ◌∙◌}
use Rattle.std.specs.Prelude.{nat_lt, Option, Some, None, is_some, option_to_list, ◌↔◌}
use Rattle.std.specs.List.{AllByRecursion, list_all}
use Rattle.std.proofs.lemmas.Bool.{ltb-true, lt-ltb}
use Rattle.sq_expr.specs.Bounds.{bound_of, parts, cond_parts}
use Rattle.sq_expr.specs.Fits.{Suits, SuitsCond}
use Rattle.sq_expr.proofs.Lists.{all_weaker}
use Rattle.sq_expr.specs.declared.expr.Func.{Func}
use Rattle.sq_typed.specs.declared.query.BlockCall.{BlockCall}
use Rattle.sq_typed.specs.declared.query.Grouping.{Grouping}
use Rattle.sq_typed.specs.Blocks.{is_sum}
use Rattle.sq_expr.specs.Typing.{is_numeric, sort_of, is_typed_cond}
use Rattle.sq_expr.specs.declared.cond.Cond.{Cond}
use Rattle.sq_expr.specs.declared.expr.Expr.{Expr}
use Rattle.sq_expr.specs.declared.expr.Kind.{Kind}
use Rattle.sq_typed.specs.declared.query.Block.{Block, out-Block}
use Rattle.sq_typed.specs.declared.query.Query.TheVariants as query
use Rattle.sq_typed.specs.Fit.{Fits, Kinded, KindedSource, are_small, argument_fits, clauses_fit, grouped_kinds, grouping_fits, has_some, is_count_all, item_row_kinds, joined_kinds, kinded_source, may_group, may_suit, sources_fit, suits, suits_cond}
use Rattle.sq_typed.proofs.FitEquations.{kinded-Block}
use Rattle.sq_typed.proofs.Tests.{and_left, and_right}

pub both_true : (a b : Bool) → a ≡ true → b ≡ true → (a && b) ≡ true
both_true a b h k = ap (λ a. a && b) h ∙ k

pub passed : {A : Type 0} (p : A → Bool) (xs : List A) → list_all p xs ≡ true → AllByRecursion (λ x. p x ≡ true) xs
passed p [] e = tt
passed p (x ∷ xs) e = (and_left (p x) (list_all p xs) e, passed p xs (and_right (p x) (list_all p xs) e))

small : (kinds : List Kind) (es : List Expr) → are_small kinds es ≡ true → AllByRecursion (λ e. bound_of kinds e < 2 ^ 127) es
small kinds [] e = tt
small kinds (x ∷ xs) e = (ltb-true (bound_of kinds x) (2 ^ 127) (and_left (nat_lt (bound_of kinds x) (2 ^ 127)) (are_small kinds xs) e), small kinds xs (and_right (nat_lt (bound_of kinds x) (2 ^ 127)) (are_small kinds xs) e))

all_small : (kinds : List Kind) (es : List Expr) → AllByRecursion (λ e. bound_of kinds e < 2 ^ 127) es → are_small kinds es ≡ true
all_small kinds [] h = refl
all_small kinds (x ∷ xs) h = both_true (nat_lt (bound_of kinds x) (2 ^ 127)) (are_small kinds xs) (lt-ltb (bound_of kinds x) (2 ^ 127) h.0) (all_small kinds xs h.1)

pub suits_is : (kinds : List Kind) (e : Expr) → (suits kinds e ≡ true) ↔ Suits kinds e
suits_is kinds e = (
  λ t. record { typed = and_left (is_some (sort_of kinds e)) (are_small kinds (parts e)) t; bounded = small kinds (parts e) (and_right (is_some (sort_of kinds e)) (are_small kinds (parts e)) t) },
  λ s. both_true (is_some (sort_of kinds e)) (are_small kinds (parts e)) s.typed (all_small kinds (parts e) s.bounded),
)

pub suits_cond_is : (kinds : List Kind) (c : Cond) → (suits_cond kinds c ≡ true) ↔ SuitsCond kinds c
suits_cond_is kinds c = (
  λ t. record { typed = and_left (is_typed_cond kinds c) (are_small kinds (cond_parts c)) t; bounded = small kinds (cond_parts c) (and_right (is_typed_cond kinds c) (are_small kinds (cond_parts c)) t) },
  λ s. both_true (is_typed_cond kinds c) (are_small kinds (cond_parts c)) s.typed (all_small kinds (cond_parts c) s.bounded),
)

all_suit : (kinds : List Kind) (es : List Expr) → list_all (suits kinds) es ≡ true → AllByRecursion (Suits kinds) es
all_suit kinds [] e = tt
all_suit kinds (x ∷ xs) e = ((suits_is kinds x).0 (and_left (suits kinds x) (list_all (suits kinds) xs) e), all_suit kinds xs (and_right (suits kinds x) (list_all (suits kinds) xs) e))

maybe_suits : (kinds : List Kind) (c : Option Cond) → may_suit kinds c ≡ true → AllByRecursion (SuitsCond kinds) (option_to_list c)
maybe_suits kinds None e = tt
maybe_suits kinds (Some c) e = ((suits_cond_is kinds c).0 e, tt)

argument_suits : (kinds : List Kind) (f : Func) (arg : Option Expr) → argument_fits kinds f arg ≡ true → AllByRecursion (Suits kinds) (option_to_list arg)
argument_suits kinds f None e = tt
argument_suits kinds f (Some x) e =
    ((suits_is kinds x).0 (and_left (suits kinds x) (not (is_sum f) || is_numeric (sort_of kinds x)) (and_right (not (is_count_all f)) (suits kinds x && (not (is_sum f) || is_numeric (sort_of kinds x))) e)), tt)

-- ---- the clauses of a block

module _ (relations : List (List Kind)) (b : Block) (fits : Fits relations (query.Block b)) where
  abbrev sources : List KindedSource
  sources = map (kinded_source relations) (out-Block b).sources

  abbrev row_kinds : List Kind
  row_kinds = item_row_kinds (joined_kinds sources) (out-Block b).grouping

  clauses : clauses_fit (joined_kinds sources) (out-Block b).filter (out-Block b).grouping (out-Block b).items ≡ true
  clauses = and_right (has_some sources && sources_fit [] sources) (clauses_fit (joined_kinds sources) (out-Block b).filter (out-Block b).grouping (out-Block b).items) (subst (λ (k : Kinded). k.fits ≡ true) (kinded-Block relations b) fits)

  behind_where : (may_group (joined_kinds sources) (out-Block b).grouping && list_all (suits row_kinds) (out-Block b).items) ≡ true
  behind_where = and_right (may_suit (joined_kinds sources) (out-Block b).filter) (may_group (joined_kinds sources) (out-Block b).grouping && list_all (suits row_kinds) (out-Block b).items) clauses

  pub where_suits : AllByRecursion (SuitsCond (joined_kinds sources)) (option_to_list (out-Block b).filter)
  where_suits = maybe_suits (joined_kinds sources) (out-Block b).filter (and_left (may_suit (joined_kinds sources) (out-Block b).filter) (may_group (joined_kinds sources) (out-Block b).grouping && list_all (suits row_kinds) (out-Block b).items) clauses)

  pub items_suit : AllByRecursion (Suits row_kinds) (out-Block b).items
  items_suit = all_suit row_kinds (out-Block b).items (and_right (may_group (joined_kinds sources) (out-Block b).grouping) (list_all (suits row_kinds) (out-Block b).items) behind_where)

  pub sources_suit : sources_fit [] sources ≡ true
  sources_suit = and_right (has_some sources) (sources_fit [] sources) (and_left (has_some sources && sources_fit [] sources) (clauses_fit (joined_kinds sources) (out-Block b).filter (out-Block b).grouping (out-Block b).items) (subst (λ (k : Kinded). k.fits ≡ true) (kinded-Block relations b) fits))

  module _ (g : Grouping) (is : (out-Block b).grouping ≡ Some g) where
    groups_fit : grouping_fits (joined_kinds sources) g ≡ true
    groups_fit = subst (λ x. may_group (joined_kinds sources) x ≡ true) is (and_left (may_group (joined_kinds sources) (out-Block b).grouping) (list_all (suits row_kinds) (out-Block b).items) behind_where)

    abbrev call_test : BlockCall → Bool
    call_test c = argument_fits (joined_kinds sources) c.func c.arg

    calls_and_having : (list_all call_test g.calls && may_suit (grouped_kinds (joined_kinds sources) g) g.having) ≡ true
    calls_and_having = and_right (list_all (λ n. nat_lt n (length (joined_kinds sources))) g.columns) (list_all call_test g.calls && may_suit (grouped_kinds (joined_kinds sources) g) g.having) groups_fit

    pub having_suits : AllByRecursion (SuitsCond (grouped_kinds (joined_kinds sources) g)) (option_to_list g.having)
    having_suits = maybe_suits (grouped_kinds (joined_kinds sources) g) g.having (and_right (list_all call_test g.calls) (may_suit (grouped_kinds (joined_kinds sources) g) g.having) calls_and_having)

    pub arguments_suit : AllByRecursion (λ c. AllByRecursion (Suits (joined_kinds sources)) (option_to_list c.arg)) g.calls
    arguments_suit = all_weaker (λ c. call_test c ≡ true) (λ c. AllByRecursion (Suits (joined_kinds sources)) (option_to_list c.arg)) g.calls (λ c e. argument_suits (joined_kinds sources) c.func c.arg e)
        (passed call_test g.calls (and_left (list_all call_test g.calls) (may_suit (grouped_kinds (joined_kinds sources) g) g.having) calls_and_having))

-- all of these
pub ruleset what_suits = (suits_is, suits_cond_is, where_suits, items_suit, sources_suit, having_suits, arguments_suit)
