-- No view of the program is out of range over small tables.
use Rattle.std.proofs.Common.{◌≡◌, ℕ, suc, ◌+◌, ◌*◌, ◌≤◌, ◌^◌, List, [], ◌∷◌, length, Bool, true, false, cond, refl, sym, subst, ap, ◌∙◌, arith}
use Rattle.std.specs.Prelude.{Option, Some, None}
use Rattle.std.specs.List.{AllByRecursion, position, position_or_len}
use Rattle.std.proofs.lemmas.List.Recursion.{is_position_or_len}
use Rattle.std.proofs.lemmas.Bool.{le-ltb}
use Rattle.std.proofs.Math.Nat.{mul-le-mul_left, mul_comm}
use Rattle.sq_expr.specs.declared.cond.Cond.TheVariants as cond
use Rattle.sq_expr.specs.declared.expr.Expr.{Expr}
use Rattle.sq_expr.specs.declared.expr.Expr.TheVariants as expr
use Rattle.sq_expr.specs.declared.expr.Func.TheVariants.{Sum, Min, Max}
use Rattle.sq_expr.specs.declared.expr.Kind.{Kind}
use Rattle.sq_expr.specs.declared.expr.Kind.TheVariants.{Integer}
use Rattle.sq_typed.specs.declared.query.Block.{out-roll-Block}
use Rattle.sq_typed.specs.declared.query.FromJoin.{FromJoin}
use Rattle.sq_typed.specs.declared.query.FromJoin.TheVariants.{Comma, Inner, Left}
use Rattle.sq_typed.specs.declared.query.Grouping.{Grouping}
use Rattle.sq_typed.specs.Blocks.{block_answer}
use Rattle.sq_typed.specs.Examples.{call, count_all, equal, grouped}
use Rattle.sq_typed.specs.From.{Row, Answer, Source}
use Rattle.sq_typed.specs.Queries.{Contents, answer, has_range_fault, relation_answer}
use Rattle.sq_typed.specs.Views.{shown, verdict, views}
use Rattle.sq_typed.proofs.Equations.{answers}
use Rattle.sq_meant.specs.Program as meant
use Rattle.sq_meant.specs.Program.{program}
use Rattle.sq_meant.specs.Small.{AreSmall}
use Rattle.sq_meant.proofs.Bounds.{AreGrouped, AreSmallSources, IsColumn, block_in_range, block_lists_few}

abbrev d_kinds : List Kind
d_kinds = Integer ∷ Integer ∷ []

abbrev e_kinds : List Kind
e_kinds = Integer ∷ Integer ∷ Integer ∷ []

-- ---- what the views group by, and their items
abbrev pub of_totals : Option Grouping
of_totals = grouped [] (count_all ∷ call Sum 2 ∷ []) None

abbrev pub of_keys : Option Grouping
of_keys = grouped (1 ∷ []) (count_all ∷ call Min 2 ∷ call Max 2 ∷ []) None

abbrev pub of_groups : Option Grouping
of_groups = grouped (4 ∷ []) (call Sum 2 ∷ []) None

abbrev pub one_column : ℕ → List Expr
one_column i = expr.Column i ∷ []

abbrev pub two_columns : List Expr
two_columns = expr.Column 0 ∷ expr.Column 1 ∷ []

abbrev pub four_columns : List Expr
four_columns = expr.Column 0 ∷ expr.Column 1 ∷ expr.Column 2 ∷ expr.Column 3 ∷ []

one : (i : ℕ) → AllByRecursion IsColumn (one_column i)
one i = ((i, refl), tt)

two : AllByRecursion IsColumn two_columns
two = ((0, refl), ((1, refl), tt))

four : AllByRecursion IsColumn four_columns
four = ((0, refl), ((1, refl), ((2, refl), ((3, refl), tt))))

totals_grouped : AreGrouped of_totals
totals_grouped = (tt, ((2, refl), tt))

keys_grouped : AreGrouped of_keys
keys_grouped = (tt, ((2, refl), ((2, refl), tt)))

groups_grouped : AreGrouped of_groups
groups_grouped = ((2, refl), tt)

-- ---- the answers of the views
abbrev pub table_source : FromJoin → ℕ → List Row → Source
table_source join width rows = record { join = join; answer = relation_answer (record { width = width; rows = rows }) }

module _ (d e : List Row) where
  abbrev pub only_e : List Source
  only_e = table_source Comma 3 e ∷ []

  abbrev pub e_and_d : List Source
  e_and_d = table_source Comma 3 e ∷ table_source (Inner (equal 1 3)) 2 d ∷ []

  abbrev pub d_and_e : List Source
  d_and_e = table_source Comma 2 d ∷ table_source (Left (equal 0 3)) 3 e ∷ []

  -- the relations: the two tables, and what views come before
  abbrev pub behind_tables : List Contents → List Contents
  behind_tables others = record { width = 2; rows = d } ∷ record { width = 3; rows = e } ∷ others

  pub totals_are : (others : List Contents) → answer (behind_tables others) meant.totals ≡ block_answer false only_e None of_totals two_columns
  totals_are others = simp (answers, out-roll-Block) refl

  pub by_key_are : (others : List Contents) → answer (behind_tables others) meant.by_key
      ≡ block_answer false only_e None of_keys four_columns
  by_key_are others = simp (answers, out-roll-Block) refl

  pub by_group_are : (others : List Contents) → answer (behind_tables others) meant.by_group ≡ block_answer false e_and_d None of_groups two_columns
  by_group_are others = simp (answers, out-roll-Block) refl

  pub unused_are : (others : List Contents) → answer (behind_tables others) meant.unused ≡ block_answer false d_and_e (Some (cond.Null (expr.Column 2) false)) None (one_column 0)
  unused_are others = simp (answers, out-roll-Block) refl

  pub seen_are : (others : List Contents) → answer (behind_tables others) meant.seen ≡ block_answer true only_e None None (one_column 2)
  seen_are others = simp (answers, out-roll-Block) refl

-- ---- they are in range

-- the place of the first member that passes, or the length
abbrev first : {A : Type 0} → (A → Bool) → List A → ℕ
first p [] = 0
first p (x ∷ xs) = cond (p x) 0 (1 + first p xs)

none_first : {A : Type 0} (p : A → Bool) (xs : List A) → AllByRecursion (λ x. p x ≡ false) xs → first p xs ≡ length xs
none_first p [] h = refl
none_first p (x ∷ xs) h = ap (λ b. cond b 0 (1 + first p xs)) h.0 ∙ (let later = none_first p xs h.1 in omega arith)

no_place : {A : Type 0} (p : A → Bool) (xs : List A) → AllByRecursion (λ x. p x ≡ false) xs → position p xs ≡ None
no_place p xs h =
    let at : position_or_len p xs ≡ length xs = sym (is_position_or_len (first p) p refl (λ x xs. refl) xs) ∙ none_first p xs h in
    ap (λ b. cond b (Some (position_or_len p xs)) None) (le-ltb (position_or_len p xs) (length xs) (omega arith))

-- at most 1,010 rows joined with at most 100,001
pairs_few : (n m : ℕ) → n ≤ 1010 → m ≤ 100001 → (1 * suc n) * suc m ≤ 2 ^ 27
pairs_few n m few_n few_m =
    let first = mul-le-mul_left (suc n) (let less : suc m ≤ 100002 = omega arith in less) in
    omega arith

module _ (d e : List Row) (small : AreSmall d e) where
  only_e_small : AreSmallSources (only_e d e) (e_kinds ∷ [])
  only_e_small = record { values = ((refl, small.small_e), tt); few = (let few = small.few_e in omega arith); no_places = refl; no_tested = refl }

  e_and_d_small : AreSmallSources (e_and_d d e) (e_kinds ∷ d_kinds ∷ [])
  e_and_d_small = record {
    values = ((refl, small.small_e), ((refl, small.small_d), tt));
    few = (let few = pairs_few (length d) (length e) small.few_d small.few_e in let swapped = mul_comm (suc (length d)) (suc (length e)) in omega arith);
    no_places = refl;
    no_tested = refl;
  }

  d_and_e_small : AreSmallSources (d_and_e d e) (d_kinds ∷ e_kinds ∷ [])
  d_and_e_small = record { values = ((refl, small.small_d), ((refl, small.small_e), tt)); few = pairs_few (length d) (length e) small.few_d small.few_e; no_places = refl; no_tested = refl }

  abbrev IsFine : Answer → Type 0
  IsFine a = has_range_fault a ≡ false

  totals_fine : (others : List Contents) → IsFine (answer (behind_tables d e others) meant.totals)
  totals_fine others = ap has_range_fault (totals_are d e others) ∙ block_in_range false (only_e d e) (e_kinds ∷ []) None of_totals two_columns only_e_small totals_grouped two

  by_key_fine : (others : List Contents) → IsFine (answer (behind_tables d e others) meant.by_key)
  by_key_fine others = ap has_range_fault (by_key_are d e others)
      ∙ block_in_range false (only_e d e) (e_kinds ∷ []) None of_keys four_columns only_e_small keys_grouped four

  by_group_fine : (others : List Contents) → IsFine (answer (behind_tables d e others) meant.by_group)
  by_group_fine others = ap has_range_fault (by_group_are d e others) ∙ block_in_range false (e_and_d d e) (e_kinds ∷ d_kinds ∷ []) None of_groups two_columns e_and_d_small groups_grouped two

  unused_fine : (others : List Contents) → IsFine (answer (behind_tables d e others) meant.unused)
  unused_fine others = ap has_range_fault (unused_are d e others) ∙ block_in_range false (d_and_e d e) (d_kinds ∷ e_kinds ∷ []) (Some (cond.Null (expr.Column 2) false)) None (one_column 0) d_and_e_small tt (one 0)

  seen_fine : (others : List Contents) → IsFine (answer (behind_tables d e others) meant.seen)
  seen_fine others = ap has_range_fault (seen_are d e others) ∙ block_in_range true (only_e d e) (e_kinds ∷ []) None None (one_column 2) only_e_small tt (one 2)

  all_fine : AllByRecursion IsFine (views program (d ∷ e ∷ []))
  unfolding views
  all_fine = (totals_fine _, (by_key_fine _, (by_group_fine _, (unused_fine _, (seen_fine _, tt)))))

  -- ---- and they list few rows
  abbrev ListsFew : Answer → Type 0
  ListsFew a = length a.rows ≤ 2 ^ 28

  totals_few : (others : List Contents) → ListsFew (answer (behind_tables d e others) meant.totals)
  totals_few others = subst ListsFew (sym (totals_are d e others)) (block_lists_few false (only_e d e) None of_totals two_columns only_e_small.few)

  by_key_few : (others : List Contents) → ListsFew (answer (behind_tables d e others) meant.by_key)
  by_key_few others = subst ListsFew (sym (by_key_are d e others)) (block_lists_few false (only_e d e) None of_keys four_columns only_e_small.few)

  by_group_few : (others : List Contents) → ListsFew (answer (behind_tables d e others) meant.by_group)
  by_group_few others = subst ListsFew (sym (by_group_are d e others)) (block_lists_few false (e_and_d d e) None of_groups two_columns e_and_d_small.few)

  unused_few : (others : List Contents) → ListsFew (answer (behind_tables d e others) meant.unused)
  unused_few others = subst ListsFew (sym (unused_are d e others)) (block_lists_few false (d_and_e d e) (Some (cond.Null (expr.Column 2) false)) None (one_column 0) d_and_e_small.few)

  seen_few : (others : List Contents) → ListsFew (answer (behind_tables d e others) meant.seen)
  seen_few others = subst ListsFew (sym (seen_are d e others)) (block_lists_few true (only_e d e) None None (one_column 2) only_e_small.few)

  pub few_listed : AllByRecursion (λ rows. length rows ≤ 2 ^ 28) (shown program (d ∷ e ∷ []))
  unfolding views
  few_listed = (totals_few _, (by_key_few _, (by_group_few _, (unused_few _, (seen_few _, tt)))))

pub in_range : (d e : List Row) → AreSmall d e → verdict program (d ∷ e ∷ []) ≡ None
unfolding verdict
in_range d e small = no_place has_range_fault (views program (d ∷ e ∷ [])) (all_fine d e small)
