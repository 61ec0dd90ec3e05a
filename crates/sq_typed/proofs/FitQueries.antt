-- The rows of queries that fit are of their kinds.
use Rattle.std.proofs.Common.{◌≡◌, ℕ, suc, ◌^◌, ◌≤◌, List, [], ◌∷◌, ◌++◌, map, fold, length, Bool, true, false, not, ◌&&◌, ◌||◌, ◌==◌, refl, sym, ap, subst, ◌∙◌, arith}
use Rattle.std.specs.Prelude.{Option, Some, None}
use Rattle.std.specs.List.{AllByRecursion, flat_map, list_any, list_all}
use Rattle.std.proofs.lemmas.Bool.{ltb-false}
use Rattle.sq_value.specs.declared.value.Value.{Value}
use Rattle.sq_value.specs.Count.{count}
use Rattle.sq_value.specs.Order.{row_cmp}
use Rattle.sq_algebra.specs.Listed.{first_of_each}
use Rattle.sq_ast.specs.declared.query.SetOp.{SetOp}
use Rattle.sq_ast.specs.declared.query.SetOp.TheVariants.{UnionAll, Union, Except}
use Rattle.sq_expr.specs.declared.cond.Cond.{Cond}
use Rattle.sq_expr.specs.declared.expr.Expr.{Expr}
use Rattle.sq_expr.specs.declared.expr.Kind.{Kind}
use Rattle.sq_expr.specs.declared.expr.Kind.TheVariants.{Integer, Bigint, Text}
use Rattle.sq_expr.specs.Bounds.{cond_parts}
use Rattle.sq_expr.specs.Columns.{cond_columns, width_of}
use Rattle.sq_expr.specs.Kinds.{IsOfKind, AreOfKinds}
use Rattle.sq_expr.specs.Typing.{sort_of_kind, are_alike, is_typed_cond}
use Rattle.sq_expr.proofs.Lists.{all_front, all_back, all_append, all_weaker}
use Rattle.sq_expr.proofs.Names.{cond_names_in_range, members_narrower}
use Rattle.sq_expr.proofs.Rows.{length_of_kinds, integers_are_bigints, kinds_joined, kinds_of_nulls}
use Rattle.sq_typed.specs.declared.query.FromJoin.{FromJoin}
use Rattle.sq_typed.specs.declared.query.FromJoin.TheVariants.{Comma, Inner, Left}
use Rattle.sq_typed.specs.declared.query.Grouping.{Grouping}
use Rattle.sq_typed.specs.declared.query.Origin.{Origin}
use Rattle.sq_typed.specs.declared.query.Query.{Query}
use Rattle.sq_typed.specs.Blocks.{block_answer, item_rows, selected, tested_calls}
use Rattle.sq_typed.specs.Fit.{Kinded, KindedSource, may_suit, on_suits, joined_kinds, sources_fit, has_some, item_row_kinds, may_group, suits, clauses_fit, block_kinded, are_small, are_matched, wider_kinds, operation_kinded, kinded_origin, kinds_given, Fits, AreAllOfKinds, Pairwise, HoldsKinds, GivesKinds}
use Rattle.sq_typed.specs.From.{Row, Answer, Source, all_hold, members_of, members_at, joined_by, stage, stages_from, widths_of, stages, kept}
use Rattle.sq_typed.specs.Laws.{last_of}
use Rattle.sq_typed.specs.Numbered.{kind_of}
use Rattle.sq_typed.specs.Queries.{Contents, chain_answer, set_rows, intersect_rows, intersect_answer, after_each, answer, origin_answer, is_outside, is_crowded, has_range_fault}
use Rattle.sq_typed.specs.Resolved.{wider}
use Rattle.sq_typed.proofs.AnswerLemmas.{all_first}
use Rattle.sq_typed.proofs.FitRows.{Inside, length_filter, length_mapped, rows_of_groups_are, rows_of_items}
use Rattle.sq_typed.proofs.GivenRows.{GoodParts, GoodSource, SourceGives, all_widths, once_of, origin_good, query_good, relation_gives, sources_widths, where_of}
use Rattle.sq_typed.proofs.Tests.{and_left, and_right, all_filter}
use Rattle.sq_typed.proofs.WhereLemmas.{where_keeps_the_last}

-- ---- tests of lists

pub or_left : (a b : Bool) → (a || b) ≡ false → a ≡ false
or_left false b e = refl
or_left true b e = e

pub or_right : (a b : Bool) → (a || b) ≡ false → b ≡ false
or_right false b e = e
or_right true b e = cc

pub none_pass : {A : Type 0} (p : A → Bool) (xs : List A) → list_any p xs ≡ false → AllByRecursion (λ x. p x ≡ false) xs
none_pass p [] e = tt
none_pass p (x ∷ xs) e = (or_left (p x) (list_any p xs) e, none_pass p xs (or_right (p x) (list_any p xs) e))

-- ---- range

abbrev pub IsFew : List Row → Type 0
IsFew rows = is_crowded rows ≡ false

-- no place of an answer has more than 2^61 rows, and no tested number is outside BIGINT
pub record InRange (a : Answer) : Type 0 where
  pub places : AllByRecursion IsFew a.places
  pub tested : AllByRecursion Inside a.tested

pub in_range : (a : Answer) → has_range_fault a ≡ false → InRange a
in_range a e = record {
  places = none_pass is_crowded a.places (or_left (list_any is_crowded a.places) (list_any is_outside a.tested) e);
  tested = none_pass is_outside a.tested (or_right (list_any is_crowded a.places) (list_any is_outside a.tested) e);
}

-- what an answer with these kinds has to be
abbrev Good : Answer → Kinded → Type 0
Good a k = k.fits ≡ true → InRange a → GivesKinds a k.kinds

-- ---- how many rows WHERE keeps

stage_shrinks : (conds : List Cond) (join : FromJoin) (a : Answer) (before : List Row) → length (stage conds join a before).1 ≤ length (stage conds join a before).0
stage_shrinks conds Comma a before = omega arith
stage_shrinks conds (Inner on) a before = omega arith
stage_shrinks conds (Left on) a before = length_filter (all_hold conds) (joined_by [] (Left on) a before)

pub last_few : (widths : List ℕ) (conds : List Cond) (k : ℕ) (before : List Row) (ss : List Source) → length before ≤ 2 ^ 61 → AllByRecursion IsFew (map (λ stage. stage.0) (stages_from widths conds k before ss)) → length (last_of before (stages_from widths conds k before ss)) ≤ 2 ^ 61
last_few widths conds k before [] h few = h
last_few widths conds k before (s ∷ ss) h few =
    last_few widths conds (suc k) (stage (members_at widths conds k) s.join s.answer before).1 ss
    (omega (arith, stage_shrinks (members_at widths conds k) s.join s.answer before, ltb-false (2 ^ 61) (length (stage (members_at widths conds k) s.join s.answer before).0) few.0)) few.1

pub members_fit : (kinds : List Kind) (where_ : Option Cond) → may_suit kinds where_ ≡ true → AllByRecursion (λ c. width_of (cond_columns c) ≤ length kinds) (members_of where_)
members_fit kinds None e = tt
members_fit kinds (Some c) e = members_narrower c (length kinds) (cond_names_in_range kinds c (and_left (is_typed_cond kinds c) (are_small kinds (cond_parts c)) e))

kept_few : (ss : List Source) (ks : List KindedSource) (where_ : Option Cond) → Pairwise (SourceGives AreOfKinds) ss ks → has_some ks ≡ true → may_suit (joined_kinds ks) where_ ≡ true →
    AllByRecursion IsFew (map (λ stage. stage.0) (stages (members_of where_) ss)) → length (kept (members_of where_) ss) ≤ 2 ^ 61
kept_few [] [] where_ p some e few = absurd (cc some)
kept_few [] (k ∷ ks) where_ p some e few = absurd p
kept_few (s ∷ ss) [] where_ p some e few = absurd p
kept_few (s ∷ ss) (k ∷ ks) where_ p some e few =
    subst (λ rows. length rows ≤ 2 ^ 61)
    (sym (where_keeps_the_last (members_of where_) s ss (sources_widths AreOfKinds length_of_kinds (s ∷ ss) (k ∷ ks) p)
    (subst (λ w. AllByRecursion (λ c. width_of (cond_columns c) ≤ w) (members_of where_)) (sym (all_widths AreOfKinds (s ∷ ss) (k ∷ ks) p)) (members_fit (joined_kinds (k ∷ ks)) where_ e))))
    (last_few (widths_of (s ∷ ss)) (members_of where_) 1 ([] ∷ []) (s ∷ ss) (omega arith) few)

-- ---- blocks

sources_good : (before : List Kind) (ss : List Source) (ks : List KindedSource) → Pairwise (GoodSource Good) ss ks → sources_fit before ks ≡ true →
    AllByRecursion IsFew (flat_map (λ s. s.answer.places) ss) → AllByRecursion Inside (flat_map (λ s. s.answer.tested) ss) → Pairwise (SourceGives AreOfKinds) ss ks
sources_good before [] [] p e few inside = tt
sources_good before [] (k ∷ ks) p e few inside = absurd p
sources_good before (s ∷ ss) [] p e few inside = absurd p
sources_good before (s ∷ ss) (k ∷ ks) p e few inside =
    let now = and_left (k.kinded.fits && on_suits (before ++ k.kinded.kinds) k.join) (sources_fit (before ++ k.kinded.kinds) ks) e in
    let later = and_right (k.kinded.fits && on_suits (before ++ k.kinded.kinds) k.join) (sources_fit (before ++ k.kinded.kinds) ks) e in (
      p.0 (and_left k.kinded.fits (on_suits (before ++ k.kinded.kinds) k.join) now) (record { places = all_front IsFew s.answer.places (flat_map (λ s. s.answer.places) ss) few; tested = all_front Inside s.answer.tested (flat_map (λ s. s.answer.tested) ss) inside }),
      sources_good (before ++ k.kinded.kinds) ss ks p.1 later (all_back IsFew s.answer.places (flat_map (λ s. s.answer.places) ss) few) (all_back Inside s.answer.tested (flat_map (λ s. s.answer.tested) ss) inside),
    )

item_rows_kinds : (kinds : List Kind) (grouping : Option Grouping) (rows : List Row) → length rows ≤ 2 ^ 61 → AreAllOfKinds rows kinds → AllByRecursion Inside (tested_calls grouping rows) → AreAllOfKinds (item_rows grouping rows) (item_row_kinds kinds grouping)
item_rows_kinds kinds None rows few h t = h
item_rows_kinds kinds (Some g) rows few h t = rows_of_groups_are kinds g rows few h t

module _ (distinct : Bool) (ss : List Source) (ks : List KindedSource) (where_ : Option Cond) (grouping : Option Grouping) (items : List Expr) where
  abbrev block_rows : List Row
  block_rows = kept (members_of where_) ss

  abbrev source_kinds : List Kind
  source_kinds = joined_kinds ks

  -- what is tested of the sources, of the calls, and of the items
  abbrev of_sources : List Value
  of_sources = flat_map (λ s. s.answer.tested) ss

  abbrev of_calls : List Value
  of_calls = tested_calls grouping block_rows

  abbrev of_items : List Value
  of_items = flat_map (λ row. row) (selected items (item_rows grouping block_rows))

  block_gives : Pairwise (SourceGives AreOfKinds) ss ks → has_some ks ≡ true → may_suit source_kinds where_ ≡ true → AllByRecursion IsFew (map (λ stage. stage.0) (stages (members_of where_) ss)) → AllByRecursion Inside of_calls →
      AllByRecursion Inside of_items → GivesKinds (block_answer distinct ss where_ grouping items) (map (kind_of (item_row_kinds source_kinds grouping)) items)
  block_gives p some e few calls inside = (
    sym (length_mapped (kind_of (item_row_kinds source_kinds grouping)) items),
    once_of AreOfKinds distinct (map (kind_of (item_row_kinds source_kinds grouping)) items) (selected items (item_rows grouping block_rows))
        (rows_of_items (item_row_kinds source_kinds grouping) items (item_rows grouping block_rows)
        (item_rows_kinds source_kinds grouping block_rows (kept_few ss ks where_ p some e few)
        (where_of AreOfKinds kinds_joined kinds_of_nulls (members_of where_) ss ks p) calls) inside),
  )

  block_good : Pairwise (GoodSource Good) ss ks → Good (block_answer distinct ss where_ grouping items) (block_kinded ks where_ grouping items)
  block_good p fits range =
      let from_part = and_left (has_some ks && sources_fit [] ks) (clauses_fit source_kinds where_ grouping items) fits in
      let clauses = and_right (has_some ks && sources_fit [] ks) (clauses_fit source_kinds where_ grouping items) fits in
      let front = all_front Inside (of_sources ++ of_calls) of_items range.tested in
      block_gives
      (sources_good [] ss ks p (and_right (has_some ks) (sources_fit [] ks) from_part)
      (all_front IsFew (flat_map (λ s. s.answer.places) ss) (map (λ stage. stage.0) (stages (members_of where_) ss)) range.places)
      (all_front Inside of_sources of_calls front))
      (and_left (has_some ks) (sources_fit [] ks) from_part)
      (and_left (may_suit source_kinds where_) (may_group source_kinds grouping && list_all (suits (item_row_kinds source_kinds grouping)) items) clauses)
      (all_back IsFew (flat_map (λ s. s.answer.places) ss) (map (λ stage. stage.0) (stages (members_of where_) ss)) range.places)
      (all_back Inside of_sources of_calls front)
      (all_back Inside (of_sources ++ of_calls) of_items range.tested)

-- ---- set operations

wider_left : (x : Value) (k l : Kind) → IsOfKind x k → IsOfKind x (wider k l)
wider_left x Integer Integer h = h
wider_left x Integer Bigint h = integers_are_bigints x h
wider_left x Integer Text h = h
wider_left x Bigint l h = h
wider_left x Text l h = h

wider_right : (x : Value) (k l : Kind) → are_alike (Some (sort_of_kind k)) (Some (sort_of_kind l)) ≡ true → IsOfKind x l → IsOfKind x (wider k l)
wider_right x Integer Integer e h = h
wider_right x Integer Bigint e h = h
wider_right x Integer Text e h = absurd (cc e)
wider_right x Bigint Integer e h = integers_are_bigints x h
wider_right x Bigint Bigint e h = h
wider_right x Bigint Text e h = absurd (cc e)
wider_right x Text Integer e h = absurd (cc e)
wider_right x Text Bigint e h = absurd (cc e)
wider_right x Text Text e h = h

same_sort : (k l : Kind) → sort_of_kind (wider k l) ≡ sort_of_kind k
same_sort Integer Integer = refl
same_sort Integer Bigint = refl
same_sort Integer Text = refl
same_sort Bigint l = refl
same_sort Text l = refl

row_left : (row : Row) (ks ls : List Kind) → AreOfKinds row ks → AreOfKinds row (wider_kinds ks ls)
row_left row [] ls h = h
row_left row (k ∷ ks) [] h = h
row_left [] (k ∷ ks) (l ∷ ls) h = absurd h
row_left (x ∷ row) (k ∷ ks) (l ∷ ls) h = (wider_left x k l h.0, row_left row ks ls h.1)

row_right : (row : Row) (ks ls : List Kind) → are_matched ks ls ≡ true → AreOfKinds row ls → AreOfKinds row (wider_kinds ks ls)
row_right row [] [] e h = h
row_right row [] (l ∷ ls) e h = absurd (cc e)
row_right row (k ∷ ks) [] e h = absurd (cc e)
row_right [] (k ∷ ks) (l ∷ ls) e h = absurd h
row_right (x ∷ row) (k ∷ ks) (l ∷ ls) e h = (
  wider_right x k l (and_left (are_alike (Some (sort_of_kind k)) (Some (sort_of_kind l))) (are_matched ks ls) e) h.0,
  row_right row ks ls (and_right (are_alike (Some (sort_of_kind k)) (Some (sort_of_kind l))) (are_matched ks ls) e) h.1,
)

still_matched : (ks ms ls : List Kind) → are_matched (wider_kinds ks ms) ls ≡ are_matched ks ls
still_matched [] ms ls = refl
still_matched (k ∷ ks) [] ls = refl
still_matched (k ∷ ks) (m ∷ ms) [] = refl
still_matched (k ∷ ks) (m ∷ ms) (l ∷ ls) = (λ i. are_alike (Some (same_sort k m i)) (Some (sort_of_kind l)) && still_matched ks ms ls i)

length_wider : (ks ls : List Kind) → length (wider_kinds ks ls) ≡ length ks
length_wider [] ls = refl
length_wider (k ∷ ks) [] = refl
length_wider (k ∷ ks) (l ∷ ls) = ap suc (length_wider ks ls)

pub length_widest : (kss : List (List Kind)) (ks : List Kind) → length (fold wider_kinds ks kss) ≡ length ks
length_widest [] ks = refl
length_widest (ls ∷ kss) ks = length_widest kss (wider_kinds ks ls) ∙ length_wider ks ls

rows_left : (rows : List Row) (ks ls : List Kind) → AreAllOfKinds rows ks → AreAllOfKinds rows (wider_kinds ks ls)
rows_left rows ks ls h = all_weaker (λ row. AreOfKinds row ks) (λ row. AreOfKinds row (wider_kinds ks ls)) rows (λ row r. row_left row ks ls r) h

rows_right : (rows : List Row) (ks ls : List Kind) → are_matched ks ls ≡ true → AreAllOfKinds rows ls → AreAllOfKinds rows (wider_kinds ks ls)
rows_right rows ks ls e h = all_weaker (λ row. AreOfKinds row ls) (λ row. AreOfKinds row (wider_kinds ks ls)) rows (λ row r. row_right row ks ls e r) h

both_kinds : (rows more : List Row) (ks ls : List Kind) → are_matched ks ls ≡ true → AreAllOfKinds rows ks → AreAllOfKinds more ls → AreAllOfKinds (rows ++ more) (wider_kinds ks ls)
both_kinds rows more ks ls e h k = all_append (λ row. AreOfKinds row (wider_kinds ks ls)) rows more (rows_left rows ks ls h) (rows_right more ks ls e k)

set_kinds : (op : SetOp) (rows more : List Row) (ks ls : List Kind) → are_matched ks ls ≡ true → AreAllOfKinds rows ks → AreAllOfKinds more ls → AreAllOfKinds (set_rows op rows more) (wider_kinds ks ls)
set_kinds UnionAll rows more ks ls e h k = both_kinds rows more ks ls e h k
set_kinds Union rows more ks ls e h k = all_first (λ row. AreOfKinds row (wider_kinds ks ls)) (rows ++ more) (both_kinds rows more ks ls e h k)
set_kinds Except rows more ks ls e h k = all_filter (λ row. AreOfKinds row (wider_kinds ks ls)) (λ r. count r more == 0) (first_of_each row_cmp rows) (all_first (λ row. AreOfKinds row (wider_kinds ks ls)) rows (rows_left rows ks ls h))

common_kinds : (rows more : List Row) (ks ls : List Kind) → AreAllOfKinds rows ks → AreAllOfKinds (intersect_rows rows more) (wider_kinds ks ls)
common_kinds rows more ks ls h = all_filter (λ row. AreOfKinds row (wider_kinds ks ls)) (λ r. not (count r more == 0)) (first_of_each row_cmp rows) (all_first (λ row. AreOfKinds row (wider_kinds ks ls)) rows (rows_left rows ks ls h))

-- a step keeps kinds where its member matches
abbrev Keeps : {B : Type 0} → (List Row → B → List Row) → B → Kinded → Type 0
Keeps f b m = (ks : List Kind) (rows : List Row) → are_matched ks m.kinds ≡ true → AreAllOfKinds rows ks → AreAllOfKinds (f rows b) (wider_kinds ks m.kinds)

folded_kinds : {B : Type 0} (f : List Row → B → List Row) (rest : List B) (ms : List Kinded) (ks : List Kind) (rows : List Row) → Pairwise (Keeps f) rest ms → AllByRecursion (λ m. are_matched ks m.kinds ≡ true) ms → AreAllOfKinds rows ks →
    AreAllOfKinds (fold f rows rest) (fold wider_kinds ks (map (λ m. m.kinds) ms))
folded_kinds f [] [] ks rows p e h = h
folded_kinds f [] (m ∷ ms) ks rows p e h = absurd p
folded_kinds f (b ∷ rest) [] ks rows p e h = absurd p
folded_kinds f (b ∷ rest) (m ∷ ms) ks rows p e h =
    folded_kinds f rest ms (wider_kinds ks m.kinds) (f rows b) p.1
    (all_weaker (λ n. are_matched ks n.kinds ≡ true) (λ n. are_matched (wider_kinds ks m.kinds) n.kinds ≡ true) ms (λ n t. still_matched ks m.kinds n.kinds ∙ t) e.1)
    (p.0 ks rows e.0 h)

-- what the tests of a set operation say of its further members
pub operands_fit : (kinds : List Kind) (ms : List Kinded) → list_all (λ m. m.fits && are_matched kinds m.kinds) ms ≡ true → AllByRecursion (λ m. (m.fits ≡ true) × (are_matched kinds m.kinds ≡ true)) ms
operands_fit kinds [] e = tt
operands_fit kinds (m ∷ ms) e =
    let now = and_left (m.fits && are_matched kinds m.kinds) (list_all (λ m. m.fits && are_matched kinds m.kinds) ms) e in
    ((and_left m.fits (are_matched kinds m.kinds) now, and_right m.fits (are_matched kinds m.kinds) now), operands_fit kinds ms (and_right (m.fits && are_matched kinds m.kinds) (list_all (λ m. m.fits && are_matched kinds m.kinds) ms) e))

-- what holds of each member of a set operation
module _ {B : Type 0} (f : List Row → B → List Row) (of : B → Answer) (keeps : (b : B) (m : Kinded) → GivesKinds (of b) m.kinds → Keeps f b m) where
  abbrev OfMember : B → Kinded → Type 0
  OfMember b m = Good (of b) m

  members_keep : (kinds : List Kind) (rest : List B) (ms : List Kinded) → Pairwise OfMember rest ms → AllByRecursion (λ m. (m.fits ≡ true) × (are_matched kinds m.kinds ≡ true)) ms →
      AllByRecursion IsFew (flat_map (λ b. (of b).places) rest) → AllByRecursion Inside (flat_map (λ b. (of b).tested) rest) → Pairwise (Keeps f) rest ms
  members_keep kinds [] [] p e few inside = tt
  members_keep kinds [] (m ∷ ms) p e few inside = absurd p
  members_keep kinds (b ∷ rest) [] p e few inside = absurd p
  members_keep kinds (b ∷ rest) (m ∷ ms) p e few inside = (
    keeps b m (p.0 e.0.0 (record { places = all_front IsFew (of b).places (flat_map (λ b. (of b).places) rest) few; tested = all_front Inside (of b).tested (flat_map (λ b. (of b).tested) rest) inside })),
    members_keep kinds rest ms p.1 e.1 (all_back IsFew (of b).places (flat_map (λ b. (of b).places) rest) few) (all_back Inside (of b).tested (flat_map (λ b. (of b).tested) rest) inside),
  )

  operation_good : (first : Answer) (k : Kinded) (rest : List B) (ms : List Kinded) → Good first k → Pairwise OfMember rest ms → Good (chain_answer f of first rest) (operation_kinded (k ∷ ms))
  operation_good first k rest ms g p fits range =
      let own : k.fits ≡ true = and_left k.fits (list_all (λ m. m.fits && are_matched k.kinds m.kinds) ms) fits in
      let others = operands_fit k.kinds ms (and_right k.fits (list_all (λ m. m.fits && are_matched k.kinds m.kinds) ms) fits) in
      let front = all_front IsFew (first.places ++ flat_map (λ b. (of b).places) rest) (after_each f first.rows rest) range.places in
      let given : GivesKinds first k.kinds = g own (record {
        places = all_front IsFew first.places (flat_map (λ b. (of b).places) rest) front;
        tested = all_front Inside first.tested (flat_map (λ b. (of b).tested) rest) range.tested;
      }) in (
        given.0 ∙ sym (length_widest (map (λ m. m.kinds) ms) k.kinds),
        folded_kinds f rest ms k.kinds first.rows
            (members_keep k.kinds rest ms p others (all_back IsFew first.places (flat_map (λ b. (of b).places) rest) front) (all_back Inside first.tested (flat_map (λ b. (of b).tested) rest) range.tested))
            (all_weaker (λ m. (m.fits ≡ true) × (are_matched k.kinds m.kinds ≡ true)) (λ m. are_matched k.kinds m.kinds ≡ true) ms (λ m t. t.1) others) given.1,
      )

chain_good : (first : Answer) (k : Kinded) (rest : List (SetOp × Answer)) (ms : List Kinded) → Good first k → Pairwise (λ s m. Good s.1 m) rest ms → Good (chain_answer (λ rows s. set_rows s.0 rows s.1.rows) (λ s. s.1) first rest) (operation_kinded (k ∷ ms))
chain_good first k rest ms g p = operation_good (λ rows s. set_rows s.0 rows s.1.rows) (λ s. s.1) (λ s m h ks rows e r. set_kinds s.0 rows s.1.rows ks m.kinds e r h.1) first k rest ms g p

intersect_good : (answers : List Answer) (ms : List Kinded) → Pairwise Good answers ms → Good (intersect_answer answers) (operation_kinded ms)
intersect_good [] [] p fits range = absurd (cc fits)
intersect_good [] (m ∷ ms) p fits range = absurd p
intersect_good (a ∷ answers) [] p fits range = absurd p
intersect_good (a ∷ answers) (m ∷ ms) p fits range = operation_good (λ rows a. intersect_rows rows a.rows) (λ a. a) (λ b m h ks rows e r. common_kinds rows b.rows ks m.kinds r) a m answers ms p.0 p.1 fits range

-- ---- queries

module _ (relations : List Contents) (kss : List (List Kind)) (holds : Pairwise HoldsKinds relations kss) where
  good_parts : GoodParts Good relations kss
  good_parts = record {
    block = λ distinct ss ks filter grouping items. block_good distinct ss ks filter grouping items;
    chain = chain_good;
    intersect = intersect_good;
    relation = λ n fits range. relation_gives AreOfKinds relations kss holds n fits;
  }

  pub origin_gives : (o : Origin) → (kinded_origin kss o).fits ≡ true → InRange (origin_answer relations o) → GivesKinds (origin_answer relations o) (kinded_origin kss o).kinds
  origin_gives o fits range = origin_good Good relations kss good_parts o fits range

  pub query_gives : (q : Query) → Fits kss q → InRange (answer relations q) → GivesKinds (answer relations q) (kinds_given kss q)
  query_gives q fits range = query_good Good relations kss good_parts q fits range

-- the rows of a query that fits are of its kinds, where nothing of it is out of range
pub rows_of_query : (relations : List Contents) (kss : List (List Kind)) → Pairwise HoldsKinds relations kss → (q : Query) → Fits kss q → has_range_fault (answer relations q) ≡ false → GivesKinds (answer relations q) (kinds_given kss q)
rows_of_query relations kss holds q fits e = query_gives relations kss holds q fits (in_range (answer relations q) e)
