-- What the tests of types and of bounds say of a block.
use Rattle.std.proofs.Common.{◌≡◌, ◌<◌, ℕ, suc, ◌+◌, ◌^◌, Bool, true, false, not, ◌||◌, List, [], ◌∷◌, ◌++◌, map, length, get_or, take, refl, ap, sym, subst, ◌∙◌, append_assoc, arith}
use Rattle.std.specs.Prelude.{nat_le, option_to_list, Option, Some, None, is_none, slice_get, unwrap_or, IsTrue, ◌↔◌}
use Rattle.std.specs.Option.{option_map}
use Rattle.std.specs.List.{AllByRecursion, filter_map, list_any}
use Rattle.std.proofs.lemmas.Bool.Decides.{nat_tests}
use Rattle.std.proofs.lemmas.List.{take_more, length-take-le}
use Rattle.std.proofs.lemmas.List.Folds.{list_any-append}
use Rattle.sq_expr.proofs.Lists.{any_flat}
use Rattle.sq_ast.specs.declared.cond.CondTree.{CondTree}
use Rattle.sq_ast.specs.declared.query.BlockTree.{BlockTree, out-BlockTree}
use Rattle.sq_ast.specs.declared.query.JoinedTree.{JoinedTree, out-JoinedTree}
use Rattle.sq_expr.specs.Bounds.{bound_of, kind_bound, parts, cond_parts, IsBoundedCond}
use Rattle.sq_expr.specs.Typing.{sort_of, sort_of_kind}
use Rattle.sq_expr.proofs.Equations.{sort_of-Column, bound_of-Column, parts-Column}
use Rattle.sq_expr.specs.declared.expr.Expr.TheVariants as expr
use Rattle.sq_expr.specs.declared.cond.Cond.{Cond}
use Rattle.sq_expr.specs.declared.expr.Expr.{Expr}
use Rattle.sq_expr.specs.declared.expr.Kind.{Kind}
use Rattle.sq_expr.specs.declared.expr.Kind.TheVariants.{Integer, Bigint, Text}
use Rattle.sq_typed.specs.declared.query.BlockCall.{BlockCall}
use Rattle.sq_typed.specs.Faults.{is_too_wide, sums_text, typed_exprs, typed_conds, has_mixed_types, has_wide_expr}
use Rattle.sq_typed.specs.Numbered.{row_cond, replaced_cond}
use Rattle.sq_typed.specs.Resolved.{on_cond}
use Rattle.sq_typed.specs.Scopes.{Scope, kinds_in}
use Rattle.sq_typed.specs.Selected.{Chosen, written_out, chosen, item_kinds, item_expr, block_calls, keys, group_kinds, group_cond}
use Rattle.sq_scope.specs.Scoped.{ons_from, scoped_by}
use Rattle.sq_check.specs.TypesFrames.{IsFrame, frame_item}
use Rattle.sq_scope.specs.TypesGroups.{over_group_cond}
use Rattle.sq_check.specs.TypesTests.{fails, cond_fails, item_fails, call_fails, on_fails, having_fails, exprs_fail, conds_fail}
use Rattle.sq_check.specs.declared.frame.Frame.{Frame}
use Rattle.sq_check.specs.declared.type_tests.Test.{Test}
use Rattle.sq_check.specs.declared.type_tests.Test.TheVariants.{Types, Bounds}
use Rattle.sq_scope.proofs.TypesTrees.{append_empty}
use Rattle.sq_scope.proofs.TypesLists.{left_false, right_false}
use Rattle.sq_check.proofs.TypesBlocks.{any_at}
use Rattle.sq_check.proofs.TypesBare.{any_map, any_same}
use Rattle.sq_check.proofs.TypesFrames.{frame_item-is, frame_kinds-is, group_expr-is}

-- ---- bounds

le_false : (n b : ℕ) → b < n → nat_le n b ≡ false
le_false n b below = grind (arith, nat_tests)

below_from : (n b : ℕ) → nat_le n b ≡ false → b < n
below_from n b e = grind (arith, nat_tests)

module _ (kinds : List Kind) where
  all_small : (ps : List Expr) → AllByRecursion (λ p. bound_of kinds p < 2 ^ 127) ps → list_any (is_too_wide kinds) ps ≡ false
  all_small [] h = refl
  all_small (p ∷ ps) h = ap (λ b. b || list_any (is_too_wide kinds) ps) (le_false (2 ^ 127) (bound_of kinds p) h.0) ∙ all_small ps h.1

  none_wide : (ps : List Expr) → list_any (is_too_wide kinds) ps ≡ false → AllByRecursion (λ p. bound_of kinds p < 2 ^ 127) ps
  none_wide [] e = tt
  none_wide (p ∷ ps) e = (below_from (2 ^ 127) (bound_of kinds p) (left_false (is_too_wide kinds p) (list_any (is_too_wide kinds) ps) e), none_wide ps (right_false (is_too_wide kinds p) (list_any (is_too_wide kinds) ps) e))

  pub bounded : (ps : List Expr) → AllByRecursion (λ p. bound_of kinds p < 2 ^ 127) ps → false ≡ list_any (is_too_wide kinds) ps
  bounded ps h = sym (all_small ps h)

  some_wide : (ps : List Expr) (b : Bool) → list_any (is_too_wide kinds) ps ≡ b → (AllByRecursion (λ p. bound_of kinds p < 2 ^ 127) ps → ⊥) → true ≡ b
  some_wide ps true e h = refl
  some_wide ps false e h = absurd (h (none_wide ps e))

  pub unbounded : (ps : List Expr) → (AllByRecursion (λ p. bound_of kinds p < 2 ^ 127) ps → ⊥) → true ≡ list_any (is_too_wide kinds) ps
  unbounded ps h = some_wide ps (list_any (is_too_wide kinds) ps) refl h

  pub tested : (r : Bool) (c : Cond) → (IsTrue r ↔ IsBoundedCond kinds c) → not r ≡ list_any (is_too_wide kinds) (cond_parts c)
  tested true c h = bounded (cond_parts c) (h.0 refl)
  tested false c h = unbounded (cond_parts c) (λ all. absurd (cc (h.1 all)))

-- ---- columns

no_sort : (k : Option Kind) → is_none (option_map sort_of_kind k) ≡ is_none k
no_sort None = refl
no_sort (Some k) = refl

pub column_sort : (kinds : List Kind) (n : ℕ) → is_none (sort_of kinds (expr.Column n)) ≡ is_none (slice_get kinds n)
column_sort kinds n = ap is_none (sort_of-Column kinds n) ∙ no_sort (slice_get kinds n)

small : (k : Option Kind) → unwrap_or (option_map kind_bound k) 0 < 2 ^ 127
small None = omega arith
small (Some Integer) = omega arith
small (Some Bigint) = omega arith
small (Some Text) = omega arith

pub column_bound : (kinds : List Kind) (n : ℕ) → list_any (is_too_wide kinds) (parts (expr.Column n)) ≡ false
column_bound kinds n =
    ap (list_any (is_too_wide kinds)) (parts-Column n)
    ∙ all_small kinds (expr.Column n ∷ []) (subst (λ b. b < 2 ^ 127) (sym (bound_of-Column kinds n)) (small (slice_get kinds n)), tt)

pub ruleset column_forms = (column_sort, column_bound)

-- ---- conditions of ON

ons_append : (before : ℕ) (scope : Scope) (js ks : List JoinedTree) → ons_from before scope (js ++ ks) ≡ ons_from before scope js ++ ons_from (before + length js) scope ks
ons_append before scope [] ks = ap (λ n. ons_from n scope ks) (zero_more before)
  where
    zero_more : (n : ℕ) → n ≡ n + 0
    zero_more n = omega arith
ons_append before scope (j ∷ js) ks =
    ap (λ ons. on_cond (take (suc before) scope) (out-JoinedTree j).join ++ ons) (ons_append (suc before) scope js ks ∙ ap (λ n. ons_from (suc before) scope js ++ ons_from n scope ks) (one_on before (length js)))
    ∙ sym (append_assoc (on_cond (take (suc before) scope) (out-JoinedTree j).join) (ons_from (suc before) scope js) (ons_from (before + suc (length js)) scope ks))
  where
    one_on : (n m : ℕ) → suc n + m ≡ n + suc m
    one_on n m = omega arith

taken : {A : Type 0} (xs : List A) (i : ℕ) → i < length xs → length (take i xs) ≡ i
taken xs i below = length-take-le i xs (omega arith)

next_front : (n i : ℕ) → n ≡ i → suc (0 + n) ≡ i + 1
next_front n i e = omega arith

pub ons_more : (test : Test) (scope : Scope) (js : List JoinedTree) (i : ℕ) (j : JoinedTree) (found fails now : Bool) → i < length js → j ≡ get_or js i j → found ≡ list_any (on_fails test) (ons_from 0 scope (take i js)) → fails ≡ list_any (on_fails test) (on_cond (take (i + 1) scope) (out-JoinedTree j).join) → now ≡ (found || fails) → now ≡ list_any (on_fails test) (ons_from 0 scope (take (i + 1) js))
ons_more test scope js i j found fails now below is was here both =
    both
    ∙ (ap (λ t. t || fails) was
    ∙ (ap (λ t. list_any (on_fails test) (ons_from 0 scope (take i js)) || t) (here
    ∙ (ap (λ n. list_any (on_fails test) (on_cond (take n scope) (out-JoinedTree j).join)) (sym (next_front (length (take i js)) i (taken js i below)))
    ∙ ap (list_any (on_fails test)) (sym (append_empty (on_cond (take (suc (0 + length (take i js))) scope) (out-JoinedTree j).join)))))
    ∙ (sym (list_any-append (on_fails test) (ons_from 0 scope (take i js)) (ons_from (0 + length (take i js)) scope (j ∷ [])))
    ∙ (ap (list_any (on_fails test)) (sym (ons_append 0 scope (take i js) (j ∷ [])))
    ∙ ap (λ ks. list_any (on_fails test) (ons_from 0 scope ks)) (ap (λ k. take i js ++ k ∷ []) is ∙ sym (take_more js i j below))))))

-- ---- a block

pub over_group-is : (scope : Scope) (b : BlockTree) (f : Frame) → IsFrame (scoped_by scope b) f → (c : CondTree) → over_group_cond f.row f.groups.keys.numbers f.groups.calls c ≡ group_cond (scoped_by scope b) c
over_group-is scope b f is c =
    ap (λ s. over_group_cond s f.groups.keys.numbers f.groups.calls c) is.row
    ∙ (ap (λ ns. over_group_cond scope ns f.groups.calls c) is.numbers
    ∙ (ap (λ cs. over_group_cond scope (keys (scoped_by scope b)) cs c) is.calls
    ∙ ap (λ g. replaced_cond g c) (λ k e. group_expr-is (scoped_by scope b) e k)))

module _ (scope : Scope) (b : BlockTree) (f : Frame) (is : IsFrame (scoped_by scope b) f) (test : Test) where
  abbrev pair_fails : List Kind × Expr → Bool
  pair_fails e = fails test e.0 e.1

  abbrev cond_pair_fails : List Kind × Cond → Bool
  cond_pair_fails c = cond_fails test c.0 c.1

  abbrev item_pair : Chosen → List Kind × Expr
  item_pair i = (item_kinds (scoped_by scope b), item_expr (scoped_by scope b) i)

  item_fails-is : (i : Chosen) → item_fails test f i ≡ pair_fails (item_pair i)
  item_fails-is i = ap (λ ks. fails test ks (frame_item f i)) (frame_kinds-is (scoped_by scope b) f is) ∙ ap (fails test (item_kinds (scoped_by scope b))) (frame_item-is (scoped_by scope b) f is i)

  items_fail-is : list_any (λ i. list_any (item_fails test f) (written_out scope i)) (out-BlockTree b).items ≡ list_any pair_fails (map item_pair (chosen (scoped_by scope b)))
  items_fail-is =
      sym (any_flat (item_fails test f) (written_out scope) (out-BlockTree b).items)
      ∙ (any_same (item_fails test f) (λ i. pair_fails (item_pair i)) item_fails-is (chosen (scoped_by scope b))
      ∙ sym (any_map pair_fails item_pair (chosen (scoped_by scope b))))

  calls_fail-is : list_any (call_fails test (kinds_in f.row)) f.groups.calls ≡ list_any pair_fails (map (λ e. (kinds_in scope, e)) (filter_map (λ (c : BlockCall). c.arg) (block_calls (scoped_by scope b))))
  calls_fail-is =
      ap (λ s. list_any (call_fails test (kinds_in s)) f.groups.calls) is.row
      ∙ (ap (list_any (call_fails test (kinds_in scope))) is.calls
      ∙ (sym (any_at (fails test (kinds_in scope)) (λ (c : BlockCall). c.arg) (block_calls (scoped_by scope b)))
      ∙ sym (any_map pair_fails (λ e. (kinds_in scope, e)) (filter_map (λ (c : BlockCall). c.arg) (block_calls (scoped_by scope b))))))

  pub exprs_fail-is : exprs_fail test f scope b ≡ list_any pair_fails (typed_exprs (scoped_by scope b))
  exprs_fail-is =
      ap (λ t. t || list_any (call_fails test (kinds_in f.row)) f.groups.calls) items_fail-is
      ∙ (ap (λ t. list_any pair_fails (map item_pair (chosen (scoped_by scope b))) || t) calls_fail-is
      ∙ sym (list_any-append pair_fails (map item_pair (chosen (scoped_by scope b))) (map (λ e. (kinds_in scope, e)) (filter_map (λ (c : BlockCall). c.arg) (block_calls (scoped_by scope b))))))

  abbrev filter_pairs : List (List Kind × Cond)
  filter_pairs = map (λ c. (kinds_in scope, row_cond scope c)) (option_to_list (out-BlockTree b).filter)

  abbrev on_pairs : List (List Kind × Cond)
  on_pairs = map (λ (on : Scope × CondTree). (kinds_in on.0, row_cond on.0 on.1)) (ons_from 0 scope (out-BlockTree b).sources)

  abbrev having_pair : CondTree → List Kind × Cond
  having_pair c = (group_kinds (scoped_by scope b), group_cond (scoped_by scope b) c)

  filter_fails-is : list_any (λ c. on_fails test (f.row, c)) (option_to_list (out-BlockTree b).filter) ≡ list_any cond_pair_fails filter_pairs
  filter_fails-is =
      ap (λ s. list_any (λ c. on_fails test (s, c)) (option_to_list (out-BlockTree b).filter)) is.row
      ∙ sym (any_map cond_pair_fails (λ c. (kinds_in scope, row_cond scope c)) (option_to_list (out-BlockTree b).filter))

  ons_fail-is : list_any (on_fails test) (ons_from 0 scope (out-BlockTree b).sources) ≡ list_any cond_pair_fails on_pairs
  ons_fail-is = sym (any_map cond_pair_fails (λ (on : Scope × CondTree). (kinds_in on.0, row_cond on.0 on.1)) (ons_from 0 scope (out-BlockTree b).sources))

  having_fails-is : list_any (having_fails test f) (option_to_list (out-BlockTree b).having) ≡ list_any cond_pair_fails (map having_pair (option_to_list (out-BlockTree b).having))
  having_fails-is =
      any_same (having_fails test f) (λ c. cond_pair_fails (having_pair c)) (λ c. ap (λ ks. cond_fails test ks (over_group_cond f.row f.groups.keys.numbers f.groups.calls c)) is.kinds ∙ ap (cond_fails test (group_kinds (scoped_by scope b))) (over_group-is scope b f is c)) (option_to_list (out-BlockTree b).having)
      ∙ sym (any_map cond_pair_fails having_pair (option_to_list (out-BlockTree b).having))

  pub conds_fail-is : conds_fail test f scope b ≡ list_any cond_pair_fails (typed_conds (scoped_by scope b))
  conds_fail-is =
      ap (λ t. t || list_any (on_fails test) (ons_from 0 scope (out-BlockTree b).sources) || list_any (having_fails test f) (option_to_list (out-BlockTree b).having)) filter_fails-is
      ∙ (ap (λ t. list_any cond_pair_fails filter_pairs || t || list_any (having_fails test f) (option_to_list (out-BlockTree b).having)) ons_fail-is
      ∙ (ap (λ t. list_any cond_pair_fails filter_pairs || list_any cond_pair_fails on_pairs || t) having_fails-is
      ∙ (ap (λ t. t || list_any cond_pair_fails (map having_pair (option_to_list (out-BlockTree b).having))) (sym (list_any-append cond_pair_fails filter_pairs on_pairs))
      ∙ sym (list_any-append cond_pair_fails (filter_pairs ++ on_pairs) (map having_pair (option_to_list (out-BlockTree b).having))))))

pub mixed_is : (scope : Scope) (b : BlockTree) (f : Frame) (row : List Kind) (exprs conds sums : Bool) → IsFrame (scoped_by scope b) f → exprs ≡ exprs_fail Types f scope b → conds ≡ conds_fail Types f scope b → row ≡ kinds_in f.row → sums ≡ list_any (λ c. sums_text row c.func c.arg) f.groups.calls → (exprs || conds || sums) ≡ has_mixed_types (scoped_by scope b)
mixed_is scope b f row exprs conds sums is in_exprs in_conds kinds in_sums =
    ap (λ t. t || conds || sums) (in_exprs ∙ exprs_fail-is scope b f is Types)
    ∙ (ap (λ t. list_any (λ e. fails Types e.0 e.1) (typed_exprs (scoped_by scope b)) || t || sums) (in_conds ∙ conds_fail-is scope b f is Types)
    ∙ ap (λ t. list_any (λ e. fails Types e.0 e.1) (typed_exprs (scoped_by scope b)) || list_any (λ c. cond_fails Types c.0 c.1) (typed_conds (scoped_by scope b)) || t)
    (in_sums ∙ (ap (λ ks. list_any (λ (c : BlockCall). sums_text ks c.func c.arg) f.groups.calls) (kinds ∙ ap kinds_in is.row) ∙ ap (list_any (λ (c : BlockCall). sums_text (kinds_in scope) c.func c.arg)) is.calls)))

pub wide_is : (scope : Scope) (b : BlockTree) (f : Frame) (exprs conds : Bool) → IsFrame (scoped_by scope b) f → exprs ≡ exprs_fail Bounds f scope b → conds ≡ conds_fail Bounds f scope b → (exprs || conds) ≡ has_wide_expr (scoped_by scope b)
wide_is scope b f exprs conds is in_exprs in_conds =
    ap (λ t. t || conds) (in_exprs ∙ exprs_fail-is scope b f is Bounds)
    ∙ ap (λ t. list_any (λ e. fails Bounds e.0 e.1) (typed_exprs (scoped_by scope b)) || t) (in_conds ∙ conds_fail-is scope b f is Bounds)
