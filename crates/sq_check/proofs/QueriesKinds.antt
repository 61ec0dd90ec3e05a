-- The first kind of fault of a statement, told step by step.
use Rattle.std.proofs.Common.{◌≡◌, ℕ, suc, List, [], ◌∷◌, map, fold, find, length, nat_le, nat_lt, Bool, true, false, cond, not, ◌||◌, if◌then◌else◌, refl, sym, ap, subst, ◌∙◌}
use Rattle.std.specs.Prelude.{⊤, Option, Some, None, Result, Ok, Err, IfOk}
use Rattle.std.specs.List.{AllByRecursion, list_any}
use Rattle.sq_ast.specs.declared.query.QueryTree.{QueryTree}
use Rattle.sq_ast.specs.declared.query.QueryTree.TheVariants as tree
use Rattle.sq_ast.specs.declared.statement.Body.TheVariants as body
use Rattle.sq_ast.specs.declared.statement.ColumnTree.{ColumnTree}
use Rattle.sq_catalog.specs.Names.{is_named}
use Rattle.sq_catalog.specs.declared.relation.Column.{Column}
use Rattle.sq_catalog.specs.declared.relation.Relation.{Relation}
use Rattle.sq_typed.specs.Faults.{Described, described, described_view, names, has_same_sources, has_unnamed_item, has_unknown_column, has_ambiguous_column, has_nested_aggregate, has_bare_column, has_mixed_types, has_wide_expr, has_long_list, differ_in_count, mixes_sorts, has, first_kind}
use Rattle.sq_typed.specs.Programs.{table_column}
use Rattle.sq_typed.specs.Resolved.{Resolved, widened, operation_columns, leftmost_of, scoped, resolved}
use Rattle.sq_typed.specs.Scopes.{Text, repeats}
use Rattle.sq_typed.specs.declared.check_kind.CheckKind.{CheckKind}
use Rattle.sq_typed.specs.declared.limits.TheConstants.{MOST_COLUMNS, MOST_STATEMENTS}
use Rattle.sq_typed.specs.declared.check_kind.CheckKind.TheVariants as kind
use Rattle.sq_typed.proofs.QueryTrees.{QueryTreeCases, each_query_tree}
use Rattle.sq_scope.specs.NamesFaults.{names_fault}
use Rattle.sq_check.specs.QueriesFaults.{no_findings, first_noted, later_kinds}
use Rattle.sq_check.specs.QueriesFound.{has_same_columns, repeats_in, Gives}
use Rattle.sq_check.specs.declared.findings.Findings.{Findings}
use Rattle.sq_check.specs.declared.resolve.Shape.{Shape}
use Rattle.sq_check.specs.declared.resolve.Wanted.TheVariants.{Distinct}
use Rattle.sq_check.proofs.QueriesAdded.{or_false}
use Rattle.sq_check.proofs.QueriesGiven.{chain_is, intersect_is}
use Rattle.sq_check.proofs.QueriesScoped.{layer, block_at}

-- ---- the names of a query's columns are those of its leftmost block

names_widened : (cs ds : List Column) → names (widened cs ds) ≡ names cs
names_widened [] ds = refl
names_widened (c ∷ cs) [] = refl
names_widened (c ∷ cs) (d ∷ ds) = ap (λ ns. c.name ∷ ns) (names_widened cs ds)

names_of_all : (css : List (List Column)) (cs : List Column) → names (fold widened cs css) ≡ names cs
names_of_all [] cs = refl
names_of_all (ds ∷ css) cs = names_of_all css (widened cs ds) ∙ names_widened cs ds

module _ (relations : List Relation) where
  abbrev NamedAlike : QueryTree → Type 0
  NamedAlike q = repeats (names (resolved relations q).columns) ≡ list_any has_same_columns (resolved relations q).leftmost

  abbrev OperationNamed : List Resolved → Type 0
  OperationNamed ms = repeats (names (operation_columns (map (λ m. m.columns) ms))) ≡ list_any has_same_columns (leftmost_of ms)

  operation_named : (m : Resolved) (ms : List Resolved) → repeats (names m.columns) ≡ list_any has_same_columns m.leftmost → OperationNamed (m ∷ ms)
  operation_named m ms h = ap repeats (names_of_all (map (λ m. m.columns) ms) m.columns) ∙ h

  members_named : (qs : List QueryTree) → AllByRecursion NamedAlike qs → OperationNamed (map (resolved relations) qs)
  members_named [] h = refl
  members_named (q ∷ qs) h = operation_named (resolved relations q) (map (resolved relations) qs) h.0

  named_cases : QueryTreeCases NamedAlike (λ s. ⊤)
  named_cases = record {
    block = λ b ss. subst (λ r. repeats (names r.columns) ≡ list_any has_same_columns r.leftmost) (sym (block_at relations b)) (sym (or_false (has_same_columns (scoped (layer relations b)))));
    chain = λ q rest h hs. subst (λ r. repeats (names r.columns) ≡ list_any has_same_columns r.leftmost) (sym (chain_is relations (tree.Chain q rest) q rest refl)) (operation_named (resolved relations q) (map (λ s. resolved relations s.query) rest) h);
    intersect = λ qs hs. subst (λ r. repeats (names r.columns) ≡ list_any has_same_columns r.leftmost) (sym (intersect_is relations (tree.Intersect qs) qs refl)) (members_named qs hs);
    relation = λ name alias. tt;
    of_query = λ q alias h. tt;
  }

  pub named_alike : (q : QueryTree) → NamedAlike q
  named_alike = each_query_tree NamedAlike (λ s. ⊤) named_cases

-- ---- the kinds behind the names

-- where no counts differ, one test may stand for another
module _ (u a n b t w m l : Bool) where
  abbrev picked : Bool → Bool → Option CheckKind
  picked c s =
      cond u (Some kind.UnknownColumn) (cond a (Some kind.AmbiguousColumn) (cond n (Some kind.NestedAggregate) (cond b (Some kind.NotGrouped) (cond c (Some kind.ColumnCount)
      (cond (t || s) (Some kind.TypeMismatch) (cond w (Some kind.TooWide) (cond (m || l) (Some kind.Limit) None)))))))

  sorts_alike : (c s other : Bool) → (c ≡ false → s ≡ other) → picked c s ≡ picked c other
  sorts_alike true s other h = refl
  sorts_alike false s other h = ap (picked false) (h refl)

module _ (relations : List Relation) (before : ℕ) (q : QueryTree) where
  abbrev r : Resolved
  r = resolved relations q

  abbrev view : Described
  view = described_view [] r

  abbrev behind : Option CheckKind
  behind = find (has relations before view) (kind.UnknownColumn ∷ kind.AmbiguousColumn ∷ kind.NestedAggregate ∷ kind.NotGrouped ∷ kind.ColumnCount ∷ kind.TypeMismatch ∷ kind.TooWide ∷ kind.Limit ∷ [])

  pub repeated_kind : repeats_in Distinct r ≡ true → Some kind.DuplicateColumn ≡ find (has relations before view) later_kinds
  repeated_kind h = ap (λ b. cond b (Some kind.DuplicateColumn) behind) (sym (ap (λ b. b || list_any has_same_columns r.parts.heads) (named_alike relations q) ∙ h))

  pub noted_kind : (f : Findings) (shape : Shape) (too_many : Bool) → too_many ≡ (nat_le MOST_STATEMENTS before || nat_lt MOST_COLUMNS shape.count) → Gives Distinct r no_findings f shape → first_noted f too_many ≡ find (has relations before view) later_kinds
  noted_kind f shape too_many is h =
      (λ i. picked (h.added.kinds kind.UnknownColumn i) (h.added.kinds kind.AmbiguousColumn i) (h.added.kinds kind.NestedAggregate i) (h.added.kinds kind.NotGrouped i) (h.added.kinds kind.TypeMismatch i) (h.added.kinds kind.TooWide i) (many i) (h.added.kinds kind.Limit i) f.column_count f.sort_mismatch)
      ∙ (sorts_alike (list_any has_unknown_column r.parts.blocks) (list_any has_ambiguous_column r.parts.blocks) (list_any has_nested_aggregate r.parts.blocks) (list_any has_bare_column r.parts.blocks) (list_any has_mixed_types r.parts.blocks) (list_any has_wide_expr r.parts.blocks) full (list_any has_long_list r.parts.blocks) f.column_count f.sort_mismatch (list_any mixes_sorts r.parts.operations) (h.added.sorts tt)
      ∙ (ap (λ c. picked (list_any has_unknown_column r.parts.blocks) (list_any has_ambiguous_column r.parts.blocks) (list_any has_nested_aggregate r.parts.blocks) (list_any has_bare_column r.parts.blocks) (list_any has_mixed_types r.parts.blocks) (list_any has_wide_expr r.parts.blocks) full (list_any has_long_list r.parts.blocks) c (list_any mixes_sorts r.parts.operations)) (h.added.kinds kind.ColumnCount)
      ∙ (last ∙ ap (λ b. cond b (Some kind.DuplicateColumn) behind) (sym (ap (λ b. b || list_any has_same_columns r.parts.heads) (named_alike relations q) ∙ h.differ)))))
    where
      full : Bool
      full = nat_le MOST_STATEMENTS before || nat_lt MOST_COLUMNS (length r.columns)

      many : too_many ≡ full
      many = is ∙ ap (λ n. nat_le MOST_STATEMENTS before || nat_lt MOST_COLUMNS n) h.count

      last : picked (list_any has_unknown_column r.parts.blocks) (list_any has_ambiguous_column r.parts.blocks) (list_any has_nested_aggregate r.parts.blocks) (list_any has_bare_column r.parts.blocks) (list_any has_mixed_types r.parts.blocks) (list_any has_wide_expr r.parts.blocks) full (list_any has_long_list r.parts.blocks) (list_any differ_in_count r.parts.operations) (list_any mixes_sorts r.parts.operations) ≡ behind
      last = refl

-- ---- views

module _ (relations : List Relation) (before : ℕ) (name : Text) (q : QueryTree) where
  abbrev later : Option CheckKind
  later = find (has relations before (described_view [] (resolved relations q))) later_kinds

  abbrev first : Option CheckKind
  first = first_kind relations before (described_view name (resolved relations q))

  pub named_view : is_named name relations ≡ true → Some kind.DuplicateName ≡ first
  unfolding first_kind
  named_view h = ap (λ b. cond (b || list_any has_same_sources (resolved relations q).parts.blocks) (Some kind.DuplicateName) (find (has relations before (described_view name (resolved relations q))) (kind.UnknownRelation ∷ kind.UnnamedColumn ∷ later_kinds))) (sym h)

  -- the faults of names come first
  by_names : (a b c : Bool) (rest : Option CheckKind) → Option CheckKind → Type 0
  by_names a b c rest None = rest ≡ cond a (Some kind.DuplicateName) (cond b (Some kind.UnknownRelation) (cond c (Some kind.UnnamedColumn) rest))
  by_names a b c rest (Some k) = Some k ≡ cond a (Some kind.DuplicateName) (cond b (Some kind.UnknownRelation) (cond c (Some kind.UnnamedColumn) rest))

  all_names : (a b c : Bool) (rest : Option CheckKind) → by_names a b c rest (if a then Some kind.DuplicateName else if b then Some kind.UnknownRelation else if c then Some kind.UnnamedColumn else None)
  unfolding by_names
  all_names true b c rest = refl
  all_names false true c rest = refl
  all_names false false true rest = refl
  all_names false false false rest = refl

  abbrev a_block : Bool
  a_block = list_any has_same_sources (resolved relations q).parts.blocks

  abbrev a_relation : Bool
  a_relation = list_any (λ name. not (is_named name relations)) (resolved relations q).parts.relations

  abbrev an_item : Bool
  an_item = list_any has_unnamed_item (resolved relations q).leftmost || list_any has_unnamed_item (resolved relations q).parts.heads

  first_is : is_named name relations ≡ false → cond a_block (Some kind.DuplicateName) (cond a_relation (Some kind.UnknownRelation) (cond an_item (Some kind.UnnamedColumn) later)) ≡ first
  unfolding first_kind
  first_is h = ap (λ b. cond (b || a_block) (Some kind.DuplicateName) (cond a_relation (Some kind.UnknownRelation) (cond an_item (Some kind.UnnamedColumn) later))) (sym h)

  pub view_with_name_fault : (k : CheckKind) → is_named name relations ≡ false → names_fault relations (resolved relations q) ≡ Some k → Some k ≡ first
  unfolding by_names
  view_with_name_fault k h is = subst (by_names a_block a_relation an_item later) is (all_names a_block a_relation an_item later) ∙ first_is h

  pub view_without_name_fault : is_named name relations ≡ false → names_fault relations (resolved relations q) ≡ None → later ≡ first
  unfolding by_names
  view_without_name_fault h is = subst (by_names a_block a_relation an_item later) is (all_names a_block a_relation an_item later) ∙ first_is h

  pub view_answers : {E : Type 0} (answer : Result (Option CheckKind) E) → is_named name relations ≡ false → names_fault relations (resolved relations q) ≡ None → IfOk answer (λ k. k ≡ later) → IfOk answer (λ k. k ≡ first)
  view_answers (Ok k) h is found = found ∙ view_without_name_fault h is
  view_answers (Err e) h is found = found

-- ---- tables

module _ (relations : List Relation) (before : ℕ) (name : Text) (columns : List ColumnTree) where
  abbrev table : Option CheckKind
  table = first_kind relations before (described relations (body.Table name columns))

  abbrev cs : List Column
  cs = map table_column columns

  tabled : Bool → Bool → Bool → Option CheckKind
  tabled named same much = cond (named || false) (Some kind.DuplicateName) (cond (same || false) (Some kind.DuplicateColumn) (cond much (Some kind.Limit) None))

  table_is : tabled (is_named name relations) (repeats (names cs)) ((nat_le MOST_STATEMENTS before || nat_lt MOST_COLUMNS (length cs)) || false) ≡ table
  unfolding first_kind tabled
  table_is = refl

  much_is : (m : Bool) (n : ℕ) → n ≡ length columns → m ≡ (nat_le MOST_STATEMENTS before || nat_lt MOST_COLUMNS n) → ((nat_le MOST_STATEMENTS before || nat_lt MOST_COLUMNS (length cs)) || false) ≡ m
  much_is m n same is = or_false (nat_le MOST_STATEMENTS before || nat_lt MOST_COLUMNS (length cs)) ∙ (ap (λ k. nat_le MOST_STATEMENTS before || nat_lt MOST_COLUMNS k) (as_many columns ∙ sym same) ∙ sym is)
    where
      as_many : (columns : List ColumnTree) → length (map table_column columns) ≡ length columns
      as_many [] = refl
      as_many (c ∷ cs) = ap suc (as_many cs)

  pub named_table : is_named name relations ≡ true → Some kind.DuplicateName ≡ table
  unfolding tabled
  named_table h = ap (λ b. tabled b (repeats (names cs)) ((nat_le MOST_STATEMENTS before || nat_lt MOST_COLUMNS (length cs)) || false)) (sym h) ∙ table_is

  pub repeated_table : is_named name relations ≡ false → repeats (names cs) ≡ true → Some kind.DuplicateColumn ≡ table
  unfolding tabled
  repeated_table h same = (λ i. tabled (sym h i) (sym same i) ((nat_le MOST_STATEMENTS before || nat_lt MOST_COLUMNS (length cs)) || false)) ∙ table_is

  pub too_much_table : (n : ℕ) → n ≡ length columns → is_named name relations ≡ false → repeats (names cs) ≡ false → (nat_le MOST_STATEMENTS before || nat_lt MOST_COLUMNS n) ≡ true → Some kind.Limit ≡ table
  unfolding tabled
  too_much_table n long h same much = (λ i. tabled (sym h i) (sym same i) (sym (much_is true n long (sym much)) i)) ∙ table_is

  pub good_table : (n : ℕ) → n ≡ length columns → is_named name relations ≡ false → repeats (names cs) ≡ false → (nat_le MOST_STATEMENTS before || nat_lt MOST_COLUMNS n) ≡ false → None ≡ table
  unfolding tabled
  good_table n long h same much = (λ i. tabled (sym h i) (sym same i) (sym (much_is false n long (sym much)) i)) ∙ table_is
