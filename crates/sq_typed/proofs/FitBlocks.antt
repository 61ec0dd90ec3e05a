-- Blocks without faults fit.
use Rattle.std.proofs.Common.{◌≡◌, ℕ, ◌+◌, ◌^◌, ◌<◌, List, [], ◌∷◌, ◌++◌, map, fold, length, get_or, Bool, true, false, cond, not, ◌&&◌, ◌||◌, if◌then◌else◌, refl, sym, subst, arith}
use Rattle.std.specs.Prelude.{nat_lt, Option, Some, None, is_some, is_none, option_map, option_to_list, position, bytes_eq}
use Rattle.std.specs.List.{AllByRecursion, filter_map, flat_map, list_any, list_all, cons_option}
use Rattle.std.proofs.lemmas.Bool.{lt-ltb, leb-false}
use Rattle.std.proofs.lemmas.List.{length-append}
use Rattle.std.proofs.lemmas.List.Quantifiers.{position-Some}
use Rattle.sq_ast.specs.declared.cond.CondTree.{CondTree}
use Rattle.sq_ast.specs.declared.expr.ColRef.{ColRef}
use Rattle.sq_ast.specs.declared.expr.ExprTree.{ExprTree}
use Rattle.sq_ast.specs.declared.expr.FuncTree.{FuncTree}
use Rattle.sq_ast.specs.declared.expr.FuncTree.TheVariants as written
use Rattle.sq_expr.specs.Bounds.{bound_of, parts, cond_parts}
use Rattle.sq_expr.specs.Typing.{sort_of, is_numeric, is_typed_cond}
use Rattle.sq_expr.specs.declared.cond.Cond.{Cond}
use Rattle.sq_expr.specs.declared.expr.Expr.{Expr}
use Rattle.sq_expr.specs.declared.expr.Func.{Func}
use Rattle.sq_expr.specs.declared.expr.Kind.{Kind}
use Rattle.sq_expr.proofs.Lists.{all_append, all_back, all_from, all_front, all_over, all_passed, all_weaker}
use Rattle.sq_typed.specs.declared.query.BlockCall.{BlockCall}
use Rattle.sq_typed.specs.Blocks.{is_sum}
use Rattle.sq_typed.specs.Faults.{references, finds_nothing, item_exprs, is_unknown_star, has_unknown_column, typed_exprs, typed_conds, sums_text, has_mixed_types, is_too_wide, has_wide_expr}
use Rattle.sq_typed.specs.Fit.{are_small, suits, suits_cond, may_suit, is_count_all, argument_fits, item_row_kinds, may_group, clauses_fit}
use Rattle.sq_typed.specs.Leaves.{refs, exprs_in, exprs_of}
use Rattle.sq_typed.specs.Numbered.{row_expr, row_cond, func_of, typed_call, is_same_call}
use Rattle.sq_typed.specs.Scopes.{Named, Scope, columns_in, kinds_in, place_in, may_mean, counted, places_from, places, number_of}
use Rattle.sq_typed.specs.Selected.{Scoped, chosen, is_grouped, keys, call_trees, block_calls, group_cond, group_kinds, grouping, item_expr, item_kinds}
use Rattle.sq_typed.specs.Written.{has_argument, IsWritten}
use Rattle.sq_typed.proofs.FitQueries.{or_left, or_right, none_pass}
use Rattle.sq_typed.proofs.FitRows.{length_mapped}
use Rattle.sq_typed.proofs.FitTests.{both_true}

pub all_unmapped : {A B : Type 0} (P : B → Type 0) (f : A → B) (xs : List A) → AllByRecursion P (map f xs) → AllByRecursion (λ x. P (f x)) xs
all_unmapped P f [] h = tt
all_unmapped P f (x ∷ xs) h = (h.0, all_unmapped P f xs h.1)

pub all_pass_test : {A : Type 0} (p : A → Bool) (xs : List A) → AllByRecursion (λ x. p x ≡ true) xs → list_all p xs ≡ true
all_pass_test p [] h = refl
all_pass_test p (x ∷ xs) h = both_true (p x) (list_all p xs) h.0 (all_pass_test p xs h.1)

pub not_false : (b : Bool) → not b ≡ false → b ≡ true
not_false true e = refl
not_false false e = absurd (cc e)

some_there : {A : Type 0} (x : Option A) → is_none x ≡ false → is_some x ≡ true
some_there None e = absurd (cc e)
some_there (Some x) e = refl

-- ---- types and bounds

small_enough : (kinds : List Kind) (es : List Expr) → list_any (is_too_wide kinds) es ≡ false → are_small kinds es ≡ true
small_enough kinds [] e = refl
small_enough kinds (x ∷ xs) e =
    both_true (nat_lt (bound_of kinds x) (2 ^ 127)) (are_small kinds xs)
    (lt-ltb (bound_of kinds x) (2 ^ 127) (leb-false (2 ^ 127) (bound_of kinds x) (or_left (is_too_wide kinds x) (list_any (is_too_wide kinds) xs) e)))
    (small_enough kinds xs (or_right (is_too_wide kinds x) (list_any (is_too_wide kinds) xs) e))

abbrev ExprSuits : List Kind × Expr → Type 0
ExprSuits p = suits p.0 p.1 ≡ true

abbrev CondSuits : List Kind × Cond → Type 0
CondSuits p = suits_cond p.0 p.1 ≡ true

exprs_suit : (es : List (List Kind × Expr)) → list_any (λ e. is_none (sort_of e.0 e.1)) es ≡ false → list_any (λ e. list_any (is_too_wide e.0) (parts e.1)) es ≡ false → AllByRecursion ExprSuits es
exprs_suit es t w = all_from (λ e. is_none (sort_of e.0 e.1) ≡ false) (λ e. list_any (is_too_wide e.0) (parts e.1) ≡ false) ExprSuits es
    (λ e a b. both_true (is_some (sort_of e.0 e.1)) (are_small e.0 (parts e.1)) (some_there (sort_of e.0 e.1) a) (small_enough e.0 (parts e.1) b))
    (none_pass (λ e. is_none (sort_of e.0 e.1)) es t) (none_pass (λ e. list_any (is_too_wide e.0) (parts e.1)) es w)

conds_suit : (cs : List (List Kind × Cond)) → list_any (λ c. not (is_typed_cond c.0 c.1)) cs ≡ false → list_any (λ c. list_any (is_too_wide c.0) (cond_parts c.1)) cs ≡ false → AllByRecursion CondSuits cs
conds_suit cs t w = all_from (λ c. not (is_typed_cond c.0 c.1) ≡ false) (λ c. list_any (is_too_wide c.0) (cond_parts c.1) ≡ false) CondSuits cs
    (λ c a b. both_true (is_typed_cond c.0 c.1) (are_small c.0 (cond_parts c.1)) (not_false (is_typed_cond c.0 c.1) a) (small_enough c.0 (cond_parts c.1) b))
    (none_pass (λ c. not (is_typed_cond c.0 c.1)) cs t) (none_pass (λ c. list_any (is_too_wide c.0) (cond_parts c.1)) cs w)

-- ---- references

columns_below : (begin : ℕ) (x : Option ℕ) (n : ℕ) → ((p : ℕ) → x ≡ Some p → p < n) → AllByRecursion (λ m. m < begin + n) (counted begin x)
columns_below begin None n h = tt
columns_below begin (Some p) n h = (omega (arith, h p refl), tt)

position_below : {A : Type 0} (p : A → Bool) (xs : List A) (n : ℕ) → position p xs ≡ Some n → n < length xs
position_below p [] n e = absurd (cc e)
position_below p (x ∷ xs) n e = (position-Some p (x ∷ xs) n x e).0

chosen_place : (b : Bool) (x : Option ℕ) (n : ℕ) → cond b x None ≡ Some n → x ≡ Some n
chosen_place true x n e = e
chosen_place false x n e = absurd (cc e)

place_below : (r : ColRef) (s : Named) (n : ℕ) → place_in r s ≡ Some n → n < length s.columns
place_below r s n e = position_below (λ c. bytes_eq r.name c.name) s.columns n (chosen_place (may_mean r.qualifier s.name) (position (λ c. bytes_eq r.name c.name) s.columns) n e)

places_below : (begin : ℕ) (scope : Scope) (r : ColRef) → AllByRecursion (λ n. n < begin + length (columns_in scope)) (places_from begin scope r)
places_below begin [] r = tt
places_below begin (s ∷ ss) r =
    all_append (λ n. n < begin + length (columns_in (s ∷ ss))) (counted begin (place_in r s)) (places_from (begin + length s.columns) ss r)
    (all_weaker (λ n. n < begin + length s.columns) (λ n. n < begin + length (columns_in (s ∷ ss))) (counted begin (place_in r s)) (λ n l. omega (arith, l, length-append s.columns (columns_in ss))) (columns_below begin (place_in r s) (length s.columns) (place_below r s)))
    (all_weaker (λ n. n < (begin + length s.columns) + length (columns_in ss)) (λ n. n < begin + length (columns_in (s ∷ ss))) (places_from (begin + length s.columns) ss r) (λ n l. omega (arith, l, length-append s.columns (columns_in ss))) (places_below (begin + length s.columns) ss r))

first_below : (ns : List ℕ) (w : ℕ) → nat_lt (length ns) 1 ≡ false → AllByRecursion (λ n. n < w) ns → get_or ns 0 0 < w
first_below [] w e h = absurd (cc e)
first_below (n ∷ ns) w e h = h.0

number_below : (scope : Scope) (r : ColRef) → finds_nothing (scope, r) ≡ false → nat_lt (number_of scope r) (length (kinds_in scope)) ≡ true
number_below scope r e = lt-ltb (number_of scope r) (length (kinds_in scope))
    (subst (λ w. number_of scope r < w) (sym (length_mapped (λ c. c.kind) (columns_in scope))) (first_below (places scope r) (length (columns_in scope)) e (all_weaker (λ n. n < 0 + length (columns_in scope)) (λ n. n < length (columns_in scope)) (places scope r) (λ n l. omega (arith, l)) (places_below 0 scope r))))

-- ---- calls

abbrev WithArgument : Func → Option Expr → Bool
WithArgument f None = is_count_all f
WithArgument f (Some e) = not (is_count_all f)

one_call : (scope : Scope) (f : FuncTree) (arg : Option ExprTree) → has_argument f arg ≡ true → WithArgument (func_of f arg) (option_map (row_expr scope) arg) ≡ true
one_call scope written.Count None e = refl
one_call scope written.Count (Some a) e = refl
one_call scope written.Sum None e = absurd (cc e)
one_call scope written.Sum (Some a) e = refl
one_call scope written.Min None e = absurd (cc e)
one_call scope written.Min (Some a) e = refl
one_call scope written.Max None e = absurd (cc e)
one_call scope written.Max (Some a) e = refl

module _ {A : Type 0} (P : A → Type 0) (same : A → A → Bool) where
  abbrev keep : List A → A → List A
  keep kept x = kept ++ (if list_any (same x) kept then [] else x ∷ [])

  none_or_one : (b : Bool) (x : A) → P x → AllByRecursion P (if b then [] else x ∷ [])
  none_or_one true x h = tt
  none_or_one false x h = (h, tt)

  kept_all : (xs kept : List A) → AllByRecursion P xs → AllByRecursion P kept → AllByRecursion P (fold keep kept xs)
  kept_all [] kept h k = k
  kept_all (x ∷ xs) kept h k = kept_all xs (keep kept x) h.1 (all_append P kept (if list_any (same x) kept then [] else x ∷ []) k (none_or_one (list_any (same x) kept) x h.0))

argument_suits : (kinds : List Kind) (f : Func) (arg : Option Expr) (more : List Expr) → WithArgument f arg ≡ true → sums_text kinds f arg ≡ false → AllByRecursion (λ e. suits kinds e ≡ true) (cons_option arg more) →
    (argument_fits kinds f arg ≡ true) × AllByRecursion (λ e. suits kinds e ≡ true) more
argument_suits kinds f None more w s h = (w, h)
argument_suits kinds f (Some e) more w s h = (both_true (not (is_count_all f)) (suits kinds e && (not (is_sum f) || is_numeric (sort_of kinds e))) w (both_true (suits kinds e) (not (is_sum f) || is_numeric (sort_of kinds e)) h.0 (numeric (is_sum f) (is_numeric (sort_of kinds e)) s)), h.1)
  where
    numeric : (a b : Bool) → (a && not b) ≡ false → (not a || b) ≡ true
    numeric false b e = refl
    numeric true b e = not_false b e

calls_fit : (kinds : List Kind) (cs : List BlockCall) → AllByRecursion (λ c. WithArgument c.func c.arg ≡ true) cs → AllByRecursion (λ c. sums_text kinds c.func c.arg ≡ false) cs → AllByRecursion (λ e. suits kinds e ≡ true) (filter_map (λ c. c.arg) cs) → AllByRecursion (λ c. argument_fits kinds c.func c.arg ≡ true) cs
calls_fit kinds [] w s h = tt
calls_fit kinds (c ∷ cs) w s h =
    let both = argument_suits kinds c.func c.arg (filter_map (λ c. c.arg) cs) w.0 s.0 h in
    (both.0, calls_fit kinds cs w.1 s.1 both.1)

-- ---- the clauses of a block

module _ (b : Scoped) (known : has_unknown_column b ≡ false) (typed : has_mixed_types b ≡ false) (narrow : has_wide_expr b ≡ false) (w : IsWritten b) where
  abbrev row_kinds : List Kind
  row_kinds = kinds_in b.scope

  abbrev no_sort : List Kind × Expr → Bool
  no_sort e = is_none (sort_of e.0 e.1)

  abbrev untyped : List Kind × Cond → Bool
  untyped c = not (is_typed_cond c.0 c.1)

  abbrev sums : BlockCall → Bool
  sums c = sums_text row_kinds c.func c.arg

  types_part : (list_any no_sort (typed_exprs b) || list_any untyped (typed_conds b)) ≡ false
  types_part = or_left (list_any no_sort (typed_exprs b) || list_any untyped (typed_conds b)) (list_any sums (block_calls b)) typed

  abbrev wide_expr : List Kind × Expr → Bool
  wide_expr e = list_any (is_too_wide e.0) (parts e.1)

  abbrev wide_cond : List Kind × Cond → Bool
  wide_cond c = list_any (is_too_wide c.0) (cond_parts c.1)

  all_exprs : AllByRecursion ExprSuits (typed_exprs b)
  all_exprs = exprs_suit (typed_exprs b) (or_left (list_any no_sort (typed_exprs b)) (list_any untyped (typed_conds b)) types_part) (or_left (list_any wide_expr (typed_exprs b)) (list_any wide_cond (typed_conds b)) narrow)

  all_conds : AllByRecursion CondSuits (typed_conds b)
  all_conds = conds_suit (typed_conds b) (or_right (list_any no_sort (typed_exprs b)) (list_any untyped (typed_conds b)) types_part) (or_right (list_any wide_expr (typed_exprs b)) (list_any wide_cond (typed_conds b)) narrow)

  -- the conditions of WHERE, of ON and of HAVING
  abbrev wheres : List (List Kind × Cond)
  wheres = map (λ c. (kinds_in b.scope, row_cond b.scope c)) (option_to_list b.filter)

  abbrev ons : List (List Kind × Cond)
  ons = map (λ on. (kinds_in on.0, row_cond on.0 on.1)) b.ons

  abbrev havings : List (List Kind × Cond)
  havings = map (λ c. (group_kinds b, group_cond b c)) (option_to_list b.having)

  front : AllByRecursion CondSuits (wheres ++ ons)
  front = all_front CondSuits (wheres ++ ons) havings all_conds

  pub ons_suit : AllByRecursion (λ on. suits_cond (kinds_in on.0) (row_cond on.0 on.1) ≡ true) b.ons
  ons_suit = all_unmapped CondSuits (λ on. (kinds_in on.0, row_cond on.0 on.1)) b.ons (all_back CondSuits wheres ons front)

  maybe : (kinds : List Kind) (f : CondTree → Cond) (c : Option CondTree) → AllByRecursion CondSuits (map (λ c. (kinds, f c)) (option_to_list c)) → may_suit kinds (option_map f c) ≡ true
  maybe kinds f None h = refl
  maybe kinds f (Some c) h = h.0

  filter_suits : may_suit row_kinds (option_map (row_cond b.scope) b.filter) ≡ true
  filter_suits = maybe row_kinds (row_cond b.scope) b.filter (all_front CondSuits wheres ons front)

  having_suits : may_suit (group_kinds b) (option_map (group_cond b) b.having) ≡ true
  having_suits = maybe (group_kinds b) (group_cond b) b.having (all_back CondSuits (wheres ++ ons) havings all_conds)

  keys_fit : AllByRecursion (λ n. nat_lt n (length row_kinds) ≡ true) (keys b)
  keys_fit =
      let others : List ColRef = flat_map refs ((flat_map item_exprs b.items ++ exprs_of b.filter) ++ exprs_of b.having) in
      let found = all_unmapped (λ r. finds_nothing r ≡ false) (λ r. (b.scope, r)) (others ++ b.group)
      (all_front (λ r. finds_nothing r ≡ false) (map (λ r. (b.scope, r)) (others ++ b.group)) (flat_map (λ on. map (λ r. (on.0, r)) (flat_map refs (exprs_in on.1))) b.ons)
      (none_pass finds_nothing (references b) (or_left (list_any finds_nothing (references b)) (list_any (is_unknown_star b.scope) b.items) known))) in
      all_over (λ n. nat_lt n (length row_kinds) ≡ true) (number_of b.scope) b.group
      (all_weaker (λ r. finds_nothing (b.scope, r) ≡ false) (λ r. nat_lt (number_of b.scope r) (length row_kinds) ≡ true) b.group (number_below b.scope)
      (all_back (λ r. finds_nothing (b.scope, r) ≡ false) others b.group found))

  arguments_fit : AllByRecursion (λ c. argument_fits row_kinds c.func c.arg ≡ true) (block_calls b)
  arguments_fit = calls_fit row_kinds (block_calls b)
      (kept_all (λ c. WithArgument c.func c.arg ≡ true) is_same_call (map (typed_call b.scope) (call_trees b)) []
      (all_over (λ c. WithArgument c.func c.arg ≡ true) (typed_call b.scope) (call_trees b)
      (all_weaker (λ c. has_argument c.func c.arg ≡ true) (λ c. WithArgument (func_of c.func c.arg) (option_map (row_expr b.scope) c.arg) ≡ true) (call_trees b) (λ c h. one_call b.scope c.func c.arg h) w.calls)) tt)
      (none_pass sums (block_calls b) (or_right (list_any no_sort (typed_exprs b) || list_any untyped (typed_conds b)) (list_any sums (block_calls b)) typed))
      (all_unmapped ExprSuits (λ e. (kinds_in b.scope, e)) (filter_map (λ c. c.arg) (block_calls b))
      (all_back ExprSuits (map (λ i. (item_kinds b, item_expr b i)) (chosen b)) (map (λ e. (kinds_in b.scope, e)) (filter_map (λ c. c.arg) (block_calls b))) all_exprs))

  pub kinds_of_item_row : item_row_kinds row_kinds (grouping b) ≡ item_kinds b
  kinds_of_item_row = elim (is_grouped b) as (λ g. item_row_kinds row_kinds (if g then Some (record { columns = keys b; calls = block_calls b; having = option_map (group_cond b) b.having }) else None) ≡ (if g then group_kinds b else kinds_in b.scope)) [ true ↦ refl | false ↦ refl ]

  groups_fit : may_group row_kinds (grouping b) ≡ true
  groups_fit = elim (is_grouped b) as (λ g. may_group row_kinds (if g then Some (record { columns = keys b; calls = block_calls b; having = option_map (group_cond b) b.having }) else None) ≡ true) [
    | true ↦
        both_true (list_all (λ n. nat_lt n (length row_kinds)) (keys b)) (list_all (λ c. argument_fits row_kinds c.func c.arg) (block_calls b) && may_suit (group_kinds b) (option_map (group_cond b) b.having))
        (all_pass_test (λ n. nat_lt n (length row_kinds)) (keys b) keys_fit)
        (both_true (list_all (λ c. argument_fits row_kinds c.func c.arg) (block_calls b)) (may_suit (group_kinds b) (option_map (group_cond b) b.having))
        (all_pass_test (λ c. argument_fits row_kinds c.func c.arg) (block_calls b) arguments_fit) having_suits)
    | false ↦ refl
  ]

  items_fit : list_all (suits (item_row_kinds row_kinds (grouping b))) (map (item_expr b) (chosen b)) ≡ true
  items_fit = subst (λ kinds. list_all (suits kinds) (map (item_expr b) (chosen b)) ≡ true) (sym kinds_of_item_row)
      (all_passed (suits (item_kinds b)) (item_expr b) (chosen b) (all_unmapped ExprSuits (λ i. (item_kinds b, item_expr b i)) (chosen b)
      (all_front ExprSuits (map (λ i. (item_kinds b, item_expr b i)) (chosen b)) (map (λ e. (kinds_in b.scope, e)) (filter_map (λ c. c.arg) (block_calls b))) all_exprs)))

  pub clauses_are_fit : clauses_fit row_kinds (option_map (row_cond b.scope) b.filter) (grouping b) (map (item_expr b) (chosen b)) ≡ true
  clauses_are_fit = both_true (may_suit row_kinds (option_map (row_cond b.scope) b.filter)) (may_group row_kinds (grouping b) && list_all (suits (item_row_kinds row_kinds (grouping b))) (map (item_expr b) (chosen b))) filter_suits
      (both_true (may_group row_kinds (grouping b)) (list_all (suits (item_row_kinds row_kinds (grouping b))) (map (item_expr b) (chosen b))) groups_fit items_fit)
