-- A query that is not out of range gives at most 2^61 rows.
use Rattle.std.proofs.Common.{◌≡◌, ℕ, zero, suc, ◌^◌, ◌≤◌, List, [], ◌∷◌, map, fold, length, get_or, Bool, true, false, ◌&&◌, ◌||◌, not, filter, Option, Some, None, sym, ap, subst, ◌∙◌, arith, is_eq}
use Rattle.std.specs.List.{AllByRecursion, flat_map, list_all, list_any}
use Rattle.std.proofs.lemmas.Bool.{ltb-false}
use Rattle.sq_value.specs.Order.{row_cmp}
use Rattle.sq_algebra.specs.Listed.{first_of_each}
use Rattle.sq_expr.specs.declared.cond.Cond.{Cond}
use Rattle.sq_expr.specs.declared.expr.Expr.{Expr}
use Rattle.sq_expr.specs.declared.expr.Kind.{Kind}
use Rattle.sq_expr.specs.Columns.{cond_columns, width_of}
use Rattle.sq_expr.specs.Meaning.{columns_of, num}
use Rattle.sq_typed.specs.declared.query.Block.{out-Block}
use Rattle.sq_typed.specs.declared.query.FromItem.{FromItem}
use Rattle.sq_typed.specs.declared.query.Grouping.{Grouping}
use Rattle.sq_typed.specs.declared.query.Origin.{Origin}
use Rattle.sq_typed.specs.declared.query.Origin.TheVariants as origin
use Rattle.sq_typed.specs.declared.query.Query.{Query}
use Rattle.sq_typed.specs.declared.query.Query.TheVariants as query
use Rattle.sq_typed.specs.Blocks.{block_answer, group_row, groups, item_rows, selected, without_repeats}
use Rattle.sq_typed.specs.Fit.{Fits, Pairwise, are_matched, block_kinded, clauses_fit, has_some, item_row_kinds, joined_kinds, kinded, kinded_origin, kinded_source, may_group, may_suit, operation_kinded, sources_fit, suits}
use Rattle.sq_typed.specs.From.{Row, Answer, Source, all_hold, kept, members_of, stages, widths_of}
use Rattle.sq_typed.specs.Queries.{Contents, after_each, answer, chain_answer, has_range_fault, intersect_answer, intersect_rows, is_crowded, member_answer, origin_answer, relation_answer, set_rows, source_of_item}
use Rattle.sq_typed.proofs.Equations.{answer-Block, answer-Chain, answer-Intersect, origin-Query, origin-Relation}
use Rattle.sq_typed.proofs.FitEquations.{kinded-Block, kinded-Chain, kinded-Intersect, kinded-Query}
use Rattle.sq_typed.proofs.FitQueries.{in_range, last_few, members_fit, none_pass, or_left, or_right}
use Rattle.sq_typed.proofs.FitRows.{length_filter, length_mapped}
use Rattle.sq_typed.proofs.Tests.{and_left, and_right}
use Rattle.sq_typed.proofs.Trees.{QueryCases, each_query}
use Rattle.sq_typed.proofs.WhereLemmas.{where_keeps_the_last}
use Rattle.sq_expr.proofs.Lists.{all_back}
use Rattle.sq_bridge.specs.Meaning.{HasFewRows}
use Rattle.sq_typed.specs.Sorts.{HoldsSorts}
use Rattle.sq_bridge.proofs.Blaming.{chain_answer_fault}
use Rattle.sq_typed.proofs.Sorting.{width_of_sources, sources_sorts, source_widths}

-- ---- blocks

first_shrinks : (rows : List Row) → length (first_of_each row_cmp rows) ≤ length rows
first_shrinks [] = omega arith
first_shrinks (row ∷ rows) = omega (arith, first_shrinks rows, length_filter (λ y. not (is_eq (row_cmp row y))) (first_of_each row_cmp rows))

pub once_shrinks : (is_distinct : Bool) (rows : List Row) → length (without_repeats is_distinct rows) ≤ length rows
once_shrinks true rows = first_shrinks rows
once_shrinks false rows = omega arith

pub groups_few : (columns : List ℕ) (rows : List Row) → length rows ≤ 2 ^ 61 → length (groups columns rows) ≤ 2 ^ 61
groups_few [] rows h = omega arith
groups_few (c ∷ cs) rows h =
    omega (
      arith,
      h,
      length_mapped {B = Row × List Row} (λ k. (k, filter (λ row. is_eq (row_cmp k (columns_of (c ∷ cs) row))) rows)) (first_of_each row_cmp (map (columns_of (c ∷ cs)) rows)),
      first_shrinks (map (columns_of (c ∷ cs)) rows),
      length_mapped (columns_of (c ∷ cs)) rows,
    )

pub item_rows_few : (grouping : Option Grouping) (rows : List Row) → length rows ≤ 2 ^ 61 → length (item_rows grouping rows) ≤ 2 ^ 61
item_rows_few None rows h = h
item_rows_few (Some g) rows h =
    omega (arith, length_filter (all_hold (members_of g.having)) (map (group_row g.calls) (groups g.columns rows)), length_mapped (group_row g.calls) (groups g.columns rows), groups_few g.columns rows h)

block_few : (is_distinct : Bool) (ss : List Source) (where_ : Option Cond) (grouping : Option Grouping) (items : List Expr) → length (kept (members_of where_) ss) ≤ 2 ^ 61 → length (block_answer is_distinct ss where_ grouping items).rows ≤ 2 ^ 61
block_few is_distinct ss where_ grouping items h =
    let rows = item_rows grouping (kept (members_of where_) ss) in
    omega (arith, once_shrinks is_distinct (selected items rows), length_mapped (λ row. map (λ e. num e row) items) rows, item_rows_few grouping (kept (members_of where_) ss) h)

-- ---- set operations

folded_few : {B : Type 0} (f : List Row → B → List Row) (rows : List Row) (bs : List B) → length rows ≤ 2 ^ 61 → AllByRecursion (λ rows. is_crowded rows ≡ false) (after_each f rows bs) → length (fold f rows bs) ≤ 2 ^ 61
folded_few f rows [] h few = h
folded_few f rows (b ∷ bs) h few = folded_few f (f rows b) bs (omega (arith, ltb-false (2 ^ 61) (length (f rows b)) few.0)) few.1

chain_few : {B : Type 0} (f : List Row → B → List Row) (of : B → Answer) (first : Answer) (rest : List B) → (has_range_fault first ≡ false → length first.rows ≤ 2 ^ 61) → has_range_fault (chain_answer f of first rest) ≡ false → length (fold f first.rows rest) ≤ 2 ^ 61
chain_few f of first rest h e =
    let parts = sym (chain_answer_fault f of first rest) ∙ e in
    let sources = or_left (has_range_fault first || list_any (λ b. has_range_fault (of b)) rest) (list_any is_crowded (after_each f first.rows rest)) parts in
    folded_few f first.rows rest (h (or_left (has_range_fault first) (list_any (λ b. has_range_fault (of b)) rest) sources))
    (none_pass is_crowded (after_each f first.rows rest) (or_right (has_range_fault first || list_any (λ b. has_range_fault (of b)) rest) (list_any is_crowded (after_each f first.rows rest)) parts))

-- ---- queries

relation_few : (cs : List Contents) → AllByRecursion HasFewRows cs → (n : ℕ) → length (relation_answer (get_or cs n (record { width = 0; rows = [] }))).rows ≤ 2 ^ 61
relation_few [] h n = omega arith
relation_few (c ∷ cs) h zero = h.0
relation_few (c ∷ cs) h (suc n) = relation_few cs h.1 n

module _ (relations : List Contents) (kss : List (List Kind)) (holds : Pairwise HoldsSorts relations kss) (few : AllByRecursion HasFewRows relations) where
  abbrev IsFew : Answer → Type 0
  IsFew a = has_range_fault a ≡ false → length a.rows ≤ 2 ^ 61

  abbrev QueryIsFew : Query → Type 0
  QueryIsFew q = Fits kss q → IsFew (answer relations q)

  abbrev OriginIsFew : Origin → Type 0
  OriginIsFew o = (kinded_origin kss o).fits ≡ true → IsFew (origin_answer relations o)

  few_at : (a b : Answer) → a ≡ b → IsFew b → IsFew a
  few_at a b e h = subst IsFew (sym e) h

  block_is_few : (is_distinct : Bool) (xs : List FromItem) (where_ : Option Cond) (grouping : Option Grouping) (items : List Expr) → (block_kinded (map (kinded_source kss) xs) where_ grouping items).fits ≡ true →
      IsFew (block_answer is_distinct (map (source_of_item relations) xs) where_ grouping items)
  block_is_few is_distinct [] where_ grouping items fits e = absurd (cc fits)
  block_is_few is_distinct (s ∷ xs) where_ grouping items fits e =
      let ss = map (source_of_item relations) (s ∷ xs) in
      let ks = map (kinded_source kss) (s ∷ xs) in
      let gives = sources_sorts relations kss holds (s ∷ xs) (and_right (has_some ks) (sources_fit [] ks) (and_left (has_some ks && sources_fit [] ks) (clauses_fit (joined_kinds ks) where_ grouping items) fits)) in
      let filtered = and_left (may_suit (joined_kinds ks) where_) (may_group (joined_kinds ks) grouping && list_all (suits (item_row_kinds (joined_kinds ks) grouping)) items)
      (and_right (has_some ks && sources_fit [] ks) (clauses_fit (joined_kinds ks) where_ grouping items) fits) in
      let narrow = subst (λ w. AllByRecursion (λ c. width_of (cond_columns c) ≤ w) (members_of where_)) (sym (width_of_sources ss ks gives)) (members_fit (joined_kinds ks) where_ filtered) in
      let last = last_few (widths_of ss) (members_of where_) 1 ([] ∷ []) ss (omega arith)
      (all_back (λ rows. is_crowded rows ≡ false) (flat_map (λ s. s.answer.places) ss) (map (λ stage. stage.0) (stages (members_of where_) ss)) (in_range (block_answer is_distinct ss where_ grouping items) e).places) in
      block_few is_distinct ss where_ grouping items
      (subst (λ rows. length rows ≤ 2 ^ 61) (sym (where_keeps_the_last (members_of where_) (source_of_item relations s) (map (source_of_item relations) xs) (source_widths ss ks gives) narrow)) last)

  few_cases : QueryCases OriginIsFew QueryIsFew
  few_cases = record {
    block = λ b gs fits. few_at (answer relations (query.Block b)) (block_answer (out-Block b).distinct (map (source_of_item relations) (out-Block b).sources) (out-Block b).filter (out-Block b).grouping (out-Block b).items) (answer-Block relations b)
        (block_is_few (out-Block b).distinct (out-Block b).sources (out-Block b).filter (out-Block b).grouping (out-Block b).items (sym (ap (λ k. k.fits) (kinded-Block kss b)) ∙ fits));
    chain = λ q rest g gs fits. few_at (answer relations (query.Chain q rest)) (chain_answer (λ rows s. set_rows s.0 rows s.1.rows) (λ s. s.1) (answer relations q) (map (member_answer relations) rest)) (answer-Chain relations q rest)
        (chain_few (λ rows s. set_rows s.0 rows s.1.rows) (λ s. s.1) (answer relations q) (map (member_answer relations) rest)
        (g (and_left (kinded kss q).fits (list_all (λ m. m.fits && are_matched (kinded kss q).kinds m.kinds) (map (λ s. kinded kss s.query) rest)) (sym (ap (λ k. k.fits) (kinded-Chain kss q rest)) ∙ fits))));
    intersect = λ qs gs fits. few_at (answer relations (query.Intersect qs)) (intersect_answer (map (answer relations) qs)) (answer-Intersect relations qs) (common_few qs gs (sym (ap (λ k. k.fits) (kinded-Intersect kss qs)) ∙ fits));
    relation = λ n fits. few_at (origin_answer relations (origin.Relation n)) (relation_answer (get_or relations n (record { width = 0; rows = [] }))) (origin-Relation relations n) (λ _. relation_few relations few n);
    of_query = λ q g fits. few_at (origin_answer relations (origin.Query q)) (answer relations q) (origin-Query relations q) (g (sym (ap (λ k. k.fits) (kinded-Query kss q)) ∙ fits));
  }
    where
      common_few : (qs : List Query) → AllByRecursion QueryIsFew qs → (operation_kinded (map (kinded kss) qs)).fits ≡ true → IsFew (intersect_answer (map (answer relations) qs))
      common_few [] gs fits e = omega arith
      common_few (q ∷ qs) gs fits e = chain_few (λ rows a. intersect_rows rows a.rows) (λ a. a) (answer relations q) (map (answer relations) qs)
          (gs.0 (and_left (kinded kss q).fits (list_all (λ m. m.fits && are_matched (kinded kss q).kinds m.kinds) (map (kinded kss) qs)) fits)) e

pub queries_few : (relations : List Contents) (kss : List (List Kind)) → Pairwise HoldsSorts relations kss → AllByRecursion HasFewRows relations → (q : Query) → Fits kss q → has_range_fault (answer relations q) ≡ false → length (answer relations q).rows ≤ 2 ^ 61
queries_few relations kss holds few q = each_query (OriginIsFew relations kss holds few) (QueryIsFew relations kss holds few) (few_cases relations kss holds few) q
