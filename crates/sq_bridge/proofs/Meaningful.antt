-- The node of a query is worth what the query gives.
use Rattle.std.proofs.Common.{◌≡◌, ℕ, zero, suc, ◌≤◌, List, [], ◌∷◌, ◌++◌, map, fold, length, get_or, Bool, true, false, not, ◌&&◌, ◌||◌, refl, sym, ap, subst, ◌∙◌}
use Rattle.std.specs.Prelude.{nat_lt, slice_get, Option, Some, None}
use Rattle.std.specs.List.{AllByRecursion, list_all}
use Rattle.sq_value.specs.Order.{row_cmp}
use Rattle.sq_value.specs.OrderLaws.{row_cmp-total, row_cmp-antisymmetric}
use Rattle.sq_algebra.proofs.OperatorLemmas.{of_list-nil}
use Rattle.sq_ast.specs.declared.query.SetOp.{SetOp}
use Rattle.sq_expr.specs.declared.cond.Cond.{Cond}
use Rattle.sq_expr.specs.declared.expr.Expr.{Expr}
use Rattle.sq_expr.specs.declared.expr.Func.{Func}
use Rattle.sq_expr.specs.declared.expr.Kind.{Kind}
use Rattle.sq_expr.specs.declared.typing.Sort.TheVariants.{Numeric}
use Rattle.sq_expr.specs.Columns.{cond_columns, width_of}
use Rattle.sq_expr.specs.Meaning.{num}
use Rattle.sq_expr.specs.Typing.{IsOfSort, are_alike, is_numeric, sort_of, sort_of_kind}
use Rattle.sq_expr.proofs.Lists.{all_weaker}
use Rattle.sq_typed.specs.declared.query.Block.{Block, out-Block}
use Rattle.sq_typed.specs.declared.query.BlockCall.{BlockCall}
use Rattle.sq_typed.specs.declared.query.FromItem.{FromItem}
use Rattle.sq_typed.specs.declared.query.FromJoin.{FromJoin}
use Rattle.sq_typed.specs.declared.query.FromJoin.TheVariants.{Comma, Inner, Left}
use Rattle.sq_typed.specs.declared.query.Grouping.{Grouping}
use Rattle.sq_typed.specs.declared.query.Origin.{Origin}
use Rattle.sq_typed.specs.declared.query.Origin.TheVariants as origin
use Rattle.sq_typed.specs.declared.query.Query.{Query}
use Rattle.sq_typed.specs.declared.query.Query.TheVariants as query
use Rattle.sq_typed.specs.declared.query.SetStep.{SetStep}
use Rattle.sq_typed.specs.Blocks.{block_answer, is_sum, item_rows, selected}
use Rattle.sq_typed.specs.Fit.{Fits, Kinded, KindedSource, Pairwise, are_matched, argument_fits, block_kinded, clauses_fit, grouped_kinds, has_some, is_count_all, item_row_kinds, joined_kinds, kinded, kinded_origin, kinded_source, may_group, may_suit, on_suits, operation_kinded, sources_fit, suits}
use Rattle.sq_typed.specs.From.{Row, Answer, Source, kept, members_of}
use Rattle.sq_typed.specs.Laws.{AreOfWidth, width_of_all}
use Rattle.sq_typed.specs.Queries.{Contents, answer, chain_answer, intersect_answer, member_answer, origin_answer, relation_answer, set_rows, source_of_item}
use Rattle.sq_typed.specs.Within.{BlockOf}
use Rattle.sq_typed.proofs.Equations.{answer-Block, answer-Chain, answer-Intersect, member-is, origin-Query, origin-Relation, source-is}
use Rattle.sq_typed.proofs.FitEquations.{kinded-Block, kinded-Chain, kinded-Intersect, kinded-Query, kinded_source-is}
use Rattle.sq_typed.proofs.FitQueries.{members_fit}
use Rattle.sq_typed.proofs.GivenRows.{pairwise_mapped}
use Rattle.sq_typed.proofs.Tests.{and_left, and_right}
use Rattle.sq_typed.proofs.Trees.{QueryCases, each_origin, each_query}
use Rattle.sq_bridge.specs.Groups.{block_node, item_node, once_node, selected_node}
use Rattle.sq_bridge.specs.Meaning.{AreWorth, Begins, CallSuits, CallsSuit, GroupsSuit, Holds, IsMemberOf, IsStepOf, IsWorth, IsWorthRelation, IsWorthSource, begins, is_comma}
use Rattle.sq_bridge.specs.Nodes.{Node, NodeSource, joined_node, no_node}
use Rattle.sq_bridge.specs.Queries.{both_of, chain_node, intersect_node, member_node, origin_node, query_node, relation_node, set_result, source_node, step_node}
use Rattle.sq_bridge.specs.Rows.{listed, projected}
use Rattle.sq_typed.specs.Sorts.{AreAllOfSorts, AreOfSorts, GivesSorts, HoldsSorts}
use Rattle.sq_bridge.proofs.Combining.{chain_holds, intersect_holds}
use Rattle.sq_bridge.proofs.Grouping.{item_rows_are, once_is, selected_are}
use Rattle.sq_bridge.proofs.NodeEquations.{member_node-is, node-Block, node-Chain, node-Intersect, node-Query, node-Relation, source_node-is}
use Rattle.sq_typed.proofs.Sorting.{SourceGivesSorts, width_of_sources, kept_sorts, length_of_sorts, numbers_are, query_sorts, sorts_width, sources_sorts, source_widths}
use Rattle.sq_bridge.proofs.Staging.{joined_rows_kept}

-- ---- lists by place

all_placed : {A : Type 0} (P : A → Type 0) (xs : List A) → ((n : ℕ) (x : A) → slice_get xs n ≡ Some x → P x) → AllByRecursion P xs
all_placed P [] h = tt
all_placed P (x ∷ xs) h = (h zero x refl, all_placed P xs (λ n y e. h (suc n) y e))

-- ---- blocks that begin with a comma

-- a query in FROM begins so
abbrev pub OriginBegins : Origin → Type 0
OriginBegins o = (q : Query) → o ≡ origin.Query q → Begins q

pub sources_begin : (b : Block) → Begins (query.Block b) → AllByRecursion (λ s. OriginBegins s.source) (out-Block b).sources
sources_begin b h = all_placed (λ s. OriginBegins s.source) (out-Block b).sources (λ n s e q is c at. h c (BlockOf.InFrom b n s q c e is at))

pub first_begins : (q : Query) (rest : List SetStep) → Begins (query.Chain q rest) → Begins q
first_begins q rest h c at = h c (BlockOf.First q rest c at)

pub steps_begin : (q : Query) (rest : List SetStep) → Begins (query.Chain q rest) → AllByRecursion (λ s. Begins s.query) rest
steps_begin q rest h = all_placed (λ s. Begins s.query) rest (λ n s e c at. h c (BlockOf.Later q rest n s c e at))

pub members_begin : (qs : List Query) → Begins (query.Intersect qs) → AllByRecursion Begins qs
members_begin qs h = all_placed Begins qs (λ n q e c at. h c (BlockOf.Member qs n q c e at))

pub comma_is : (join : FromJoin) → is_comma join ≡ true → join ≡ Comma
comma_is Comma e = refl
comma_is (Inner on) e = absurd (cc e)
comma_is (Left on) e = absurd (cc e)

-- ---- calls that suit

pub third : (a b c d : Bool) → (not a && (b && (not c || d))) ≡ true → c ≡ true → d ≡ true
third true b c d e t = absurd (cc e)
third false false c d e t = absurd (cc e)
third false true true d e t = e
third false true false d e t = absurd (cc t)

call_suits : (kinds : List Kind) (rows : List Row) → AreAllOfSorts rows kinds → (f : Func) (arg : Option Expr) → argument_fits kinds f arg ≡ true → CallSuits rows f arg
call_suits kinds rows h f None e = e
call_suits kinds rows h f (Some a) e = λ s. all_weaker (λ row. AreOfSorts row kinds) (λ row. IsOfSort Numeric (num a row)) rows
    (numbers_are kinds a (third (is_count_all f) (suits kinds a) (is_sum f) (is_numeric (sort_of kinds a)) e s)) h

calls_suit : (kinds : List Kind) (rows : List Row) → AreAllOfSorts rows kinds → (calls : List BlockCall) → list_all (λ c. argument_fits kinds c.func c.arg) calls ≡ true → CallsSuit rows calls
calls_suit kinds rows h [] e = tt
calls_suit kinds rows h (c ∷ calls) e = (
  call_suits kinds rows h c.func c.arg (and_left (argument_fits kinds c.func c.arg) (list_all (λ c. argument_fits kinds c.func c.arg) calls) e),
  calls_suit kinds rows h calls (and_right (argument_fits kinds c.func c.arg) (list_all (λ c. argument_fits kinds c.func c.arg) calls) e),
)

pub groups_suit : (kinds : List Kind) (rows : List Row) → AreAllOfSorts rows kinds → (grouping : Option Grouping) → may_group kinds grouping ≡ true → GroupsSuit rows grouping
groups_suit kinds rows h None e = tt
groups_suit kinds rows h (Some g) e = calls_suit kinds rows h g.calls
    (and_left (list_all (λ c. argument_fits kinds c.func c.arg) g.calls) (may_suit (grouped_kinds kinds g) g.having)
    (and_right (list_all (λ n. nat_lt n (length kinds)) g.columns) (list_all (λ c. argument_fits kinds c.func c.arg) g.calls && may_suit (grouped_kinds kinds g) g.having) e))

-- ---- blocks

once_width : (is_distinct : Bool) (n : Node) → (once_node is_distinct n).width ≡ n.width
once_width true n = refl
once_width false n = refl

-- what a block needs of its sources
pub record BlockFits (ss : List Source) (ks : List KindedSource) (where_ : Option Cond) (grouping : Option Grouping) : Type 0 where
  pub gives : Pairwise SourceGivesSorts ss ks
  pub filtered : may_suit (joined_kinds ks) where_ ≡ true
  pub grouped : may_group (joined_kinds ks) grouping ≡ true

module _ (ns : List NodeSource) (s : Source) (ss : List Source) (ks : List KindedSource) (where_ : Option Cond) (grouping : Option Grouping) (fits : BlockFits (s ∷ ss) ks where_ grouping) (worth : AreWorth ns (s ∷ ss)) (comma : s.join ≡ Comma) where
  pub narrow : AllByRecursion (λ c. width_of (cond_columns c) ≤ width_of_all (s ∷ ss)) (members_of where_)
  narrow = subst (λ w. AllByRecursion (λ c. width_of (cond_columns c) ≤ w) (members_of where_)) (sym (width_of_sources (s ∷ ss) ks fits.gives)) (members_fit (joined_kinds ks) where_ fits.filtered)

  pub block_rows_are : (joined_node (members_of where_) ns).rows ≡ listed (kept (members_of where_) (s ∷ ss))
  block_rows_are = joined_rows_kept (members_of where_) ns s ss worth comma (source_widths (s ∷ ss) ks fits.gives) narrow

  pub block_calls_suit : GroupsSuit (kept (members_of where_) (s ∷ ss)) grouping
  block_calls_suit = groups_suit (joined_kinds ks) (kept (members_of where_) (s ∷ ss)) (kept_sorts (members_of where_) (s ∷ ss) ks fits.gives) grouping fits.grouped

  pub block_item_rows_are : (item_node grouping (joined_node (members_of where_) ns)).rows ≡ listed (item_rows grouping (kept (members_of where_) (s ∷ ss)))
  block_item_rows_are = item_rows_are grouping (joined_node (members_of where_) ns) (kept (members_of where_) (s ∷ ss)) block_calls_suit block_rows_are

  block_worth : (is_distinct : Bool) (items : List Expr) → IsWorth (block_node is_distinct ns where_ grouping items) (block_answer is_distinct (s ∷ ss) where_ grouping items)
  block_worth is_distinct items = record {
    width = once_width is_distinct (selected_node items (item_node grouping (joined_node (members_of where_) ns)));
    rows = once_is is_distinct (selected_node items (item_node grouping (joined_node (members_of where_) ns))) (selected items (item_rows grouping (kept (members_of where_) (s ∷ ss))))
        (ap (projected items) block_item_rows_are ∙ selected_are items (item_rows grouping (kept (members_of where_) (s ∷ ss))));
  }

-- ---- set operations

matched_length : (ks ls : List Kind) → are_matched ks ls ≡ true → length ls ≡ length ks
matched_length [] [] e = refl
matched_length [] (l ∷ ls) e = absurd (cc e)
matched_length (k ∷ ks) [] e = absurd (cc e)
matched_length (k ∷ ks) (l ∷ ls) e = ap suc (matched_length ks ls (and_right (are_alike (Some (sort_of_kind k)) (Some (sort_of_kind l))) (are_matched ks ls) e))

pub chain_width : (n : Node) (ms : List (SetOp × Node)) → (chain_node n ms).width ≡ n.width
chain_width n [] = refl
chain_width n (m ∷ ms) = chain_width (step_node (set_result m.0) n m.1) ms

pub common_width : (n : Node) (ms : List Node) → (fold (step_node both_of) n ms).width ≡ n.width
common_width n [] = refl
common_width n (m ∷ ms) = common_width (step_node both_of n m) ms

pub worth_holds : (n : Node) (a : Answer) (kinds : List Kind) → IsWorth n a → GivesSorts a kinds → Holds n a.rows
worth_holds n a kinds is g = record { are = is.rows; wide = subst (λ w. AreOfWidth w a.rows) (sym is.width) (sorts_width a kinds g) }

-- a further member has rows of the width of the first
pub worth_member : (w : ℕ) (n : Node) (a : Answer) (ks ls : List Kind) → w ≡ length ks → IsWorth n a → GivesSorts a ls → are_matched ks ls ≡ true → IsMemberOf w n a
worth_member w n a ks ls e is g t = record {
  rows = is.rows;
  wide = all_weaker (λ row. AreOfSorts row ls) (λ row. length row ≡ w) a.rows (λ row r. length_of_sorts row ls r ∙ matched_length ks ls t ∙ sym e) g.1;
}

-- ---- queries

relation_worth : (ns : List Node) (cs : List Contents) → Pairwise IsWorthRelation ns cs → (n : ℕ) → IsWorth (relation_node (get_or ns n no_node)) (relation_answer (get_or cs n (record { width = 0; rows = [] })))
relation_worth [] [] p n = record { width = refl; rows = sym (of_list-nil row_cmp row_cmp-total row_cmp-antisymmetric) }
relation_worth [] (c ∷ cs) p n = absurd p
relation_worth (m ∷ ns) [] p n = absurd p
relation_worth (m ∷ ns) (c ∷ cs) p zero = record { width = p.0.width; rows = p.0.rows }
relation_worth (m ∷ ns) (c ∷ cs) p (suc n) = relation_worth ns cs p.1 n

module _ (relations : List Contents) (nodes : List Node) (kss : List (List Kind)) (holds : Pairwise HoldsSorts relations kss) (worth : Pairwise IsWorthRelation nodes relations) where
  abbrev pub QueryMeans : Query → Type 0
  QueryMeans q = Fits kss q → Begins q → IsWorth (query_node nodes q) (answer relations q)

  abbrev pub OriginMeans : Origin → Type 0
  OriginMeans o = (kinded_origin kss o).fits ≡ true → OriginBegins o → IsWorth (origin_node nodes o) (origin_answer relations o)

  pub worth_at : (n m : Node) (a b : Answer) → n ≡ m → a ≡ b → IsWorth m b → IsWorth n a
  worth_at n m a b en ea h = subst (λ n. IsWorth n a) (sym en) (subst (IsWorth m) (sym ea) h)

  pub source_means : (s : FromItem) → IsWorth (origin_node nodes s.source) (origin_answer relations s.source) → IsWorthSource (source_node nodes s) (source_of_item relations s)
  source_means s h = record {
    join = ap (λ n. n.join) (source_node-is nodes s) ∙ sym (ap (λ a. a.join) (source-is relations s));
    worth = worth_at (source_node nodes s).node (origin_node nodes s.source) (source_of_item relations s).answer (origin_answer relations s.source) (ap (λ n. n.node) (source_node-is nodes s)) (ap (λ a. a.answer) (source-is relations s)) h;
  }

  pub sources_mean : (before : List Kind) (xs : List FromItem) → AllByRecursion (λ s. OriginMeans s.source) xs → AllByRecursion (λ s. OriginBegins s.source) xs → sources_fit before (map (kinded_source kss) xs) ≡ true →
      AreWorth (map (source_node nodes) xs) (map (source_of_item relations) xs)
  sources_mean before [] h b e = tt
  sources_mean before (s ∷ xs) h b e =
      let k : KindedSource = kinded_source kss s in
      let now = and_left (k.kinded.fits && on_suits (before ++ k.kinded.kinds) k.join) (sources_fit (before ++ k.kinded.kinds) (map (kinded_source kss) xs)) e in
      let later = and_right (k.kinded.fits && on_suits (before ++ k.kinded.kinds) k.join) (sources_fit (before ++ k.kinded.kinds) (map (kinded_source kss) xs)) e in (
        source_means s (h.0 (sym (ap (λ k. k.kinded.fits) (kinded_source-is kss s)) ∙ and_left k.kinded.fits (on_suits (before ++ k.kinded.kinds) k.join) now) b.0),
        sources_mean (before ++ k.kinded.kinds) xs h.1 b.1 later,
      )

  -- the parts of the test of a block
  pub block_fits : (xs : List FromItem) (where_ : Option Cond) (grouping : Option Grouping) (items : List Expr) → (block_kinded (map (kinded_source kss) xs) where_ grouping items).fits ≡ true →
      (sources_fit [] (map (kinded_source kss) xs) ≡ true) × BlockFits (map (source_of_item relations) xs) (map (kinded_source kss) xs) where_ grouping
  block_fits xs where_ grouping items e =
      let ks : List KindedSource = map (kinded_source kss) xs in
      let sources = and_right (has_some ks) (sources_fit [] ks) (and_left (has_some ks && sources_fit [] ks) (clauses_fit (joined_kinds ks) where_ grouping items) e) in
      let clauses = and_right (has_some ks && sources_fit [] ks) (clauses_fit (joined_kinds ks) where_ grouping items) e in
      let others = and_right (may_suit (joined_kinds ks) where_) (may_group (joined_kinds ks) grouping && list_all (suits (item_row_kinds (joined_kinds ks) grouping)) items) clauses in (
        sources,
        record {
          gives = sources_sorts relations kss holds xs sources;
          filtered = and_left (may_suit (joined_kinds ks) where_) (may_group (joined_kinds ks) grouping && list_all (suits (item_row_kinds (joined_kinds ks) grouping)) items) clauses;
          grouped = and_left (may_group (joined_kinds ks) grouping) (list_all (suits (item_row_kinds (joined_kinds ks) grouping)) items) others;
        },
      )

  block_means : (is_distinct : Bool) (xs : List FromItem) (where_ : Option Cond) (grouping : Option Grouping) (items : List Expr) → AllByRecursion (λ s. OriginMeans s.source) xs → AllByRecursion (λ s. OriginBegins s.source) xs → begins xs ≡ true →
      (block_kinded (map (kinded_source kss) xs) where_ grouping items).fits ≡ true → IsWorth (block_node is_distinct (map (source_node nodes) xs) where_ grouping items) (block_answer is_distinct (map (source_of_item relations) xs) where_ grouping items)
  block_means is_distinct [] where_ grouping items h b first e = absurd (cc first)
  block_means is_distinct (s ∷ xs) where_ grouping items h b first e =
      let parts = block_fits (s ∷ xs) where_ grouping items e in
      block_worth (map (source_node nodes) (s ∷ xs)) (source_of_item relations s) (map (source_of_item relations) xs) (map (kinded_source kss) (s ∷ xs)) where_ grouping parts.1
      (sources_mean [] (s ∷ xs) h b parts.0) (ap (λ a. a.join) (source-is relations s) ∙ comma_is s.join first) is_distinct items

  -- what is known of a further member of a set operation
  pub record Known (ks : List Kind) (q : Query) : Type 0 where
    pub means : QueryMeans q
    pub begins : Begins q
    pub fits : (kinded kss q).fits ≡ true
    pub matched : are_matched ks (kinded kss q).kinds ≡ true

  pub member_known : (w : ℕ) (ks : List Kind) (q : Query) → w ≡ length ks → Known ks q → IsMemberOf w (query_node nodes q) (answer relations q)
  member_known w ks q e k = worth_member w (query_node nodes q) (answer relations q) ks (kinded kss q).kinds e (k.means k.fits k.begins) (query_sorts relations kss holds q k.fits) k.matched

  pub step_known : (w : ℕ) (ks : List Kind) (s : SetStep) → w ≡ length ks → Known ks s.query → IsStepOf w (member_node nodes s) (member_answer relations s)
  step_known w ks s e k = subst (λ m. IsStepOf w m (member_answer relations s)) (sym (member_node-is nodes s)) (subst (IsStepOf w (s.op, query_node nodes s.query)) (sym (member-is relations s)) (record { op = refl; member = member_known w ks s.query e k }))

  pub known_all : {A : Type 0} (of : A → Query) (ks : List Kind) (xs : List A) → AllByRecursion (λ x. QueryMeans (of x)) xs → AllByRecursion (λ x. Begins (of x)) xs →
      list_all (λ m. m.fits && are_matched ks m.kinds) (map (λ x. kinded kss (of x)) xs) ≡ true → AllByRecursion (λ x. Known ks (of x)) xs
  known_all of ks [] h b e = tt
  known_all of ks (x ∷ xs) h b e =
      let m : Kinded = kinded kss (of x) in
      let now = and_left (m.fits && are_matched ks m.kinds) (list_all (λ m. m.fits && are_matched ks m.kinds) (map (λ x. kinded kss (of x)) xs)) e in (
        record { means = h.0; begins = b.0; fits = and_left m.fits (are_matched ks m.kinds) now; matched = and_right m.fits (are_matched ks m.kinds) now },
        known_all of ks xs h.1 b.1 (and_right (m.fits && are_matched ks m.kinds) (list_all (λ m. m.fits && are_matched ks m.kinds) (map (λ x. kinded kss (of x)) xs)) e),
      )

  -- the first member of a set operation
  pub first_holds : (q : Query) → QueryMeans q → Begins q → (kinded kss q).fits ≡ true → Holds (query_node nodes q) (answer relations q).rows
  first_holds q h b e = worth_holds (query_node nodes q) (answer relations q) (kinded kss q).kinds (h e b) (query_sorts relations kss holds q e)

  pub first_width : (q : Query) → QueryMeans q → Begins q → (kinded kss q).fits ≡ true → (query_node nodes q).width ≡ length (kinded kss q).kinds
  first_width q h b e = (h e b).width ∙ (query_sorts relations kss holds q e).0

  chain_means : (q : Query) (rest : List SetStep) → QueryMeans q → AllByRecursion (λ s. QueryMeans s.query) rest → Begins q → AllByRecursion (λ s. Begins s.query) rest → (operation_kinded (kinded kss q ∷ map (λ s. kinded kss s.query) rest)).fits ≡ true →
      IsWorth (chain_node (query_node nodes q) (map (member_node nodes) rest)) (chain_answer (λ rows s. set_rows s.0 rows s.1.rows) (λ s. s.1) (answer relations q) (map (member_answer relations) rest))
  chain_means q rest h hs b bs fits =
      let k : Kinded = kinded kss q in
      let own = and_left k.fits (list_all (λ m. m.fits && are_matched k.kinds m.kinds) (map (λ s. kinded kss s.query) rest)) fits in
      let others = known_all (λ s. s.query) k.kinds rest hs bs (and_right k.fits (list_all (λ m. m.fits && are_matched k.kinds m.kinds) (map (λ s. kinded kss s.query) rest)) fits) in
      record {
        width = chain_width (query_node nodes q) (map (member_node nodes) rest) ∙ (h own b).width;
        rows = (chain_holds (query_node nodes q) (answer relations q).rows (map (member_node nodes) rest) (map (member_answer relations) rest) (first_holds q h b own)
            (pairwise_mapped (IsStepOf (query_node nodes q).width) (member_node nodes) (member_answer relations) rest
            (all_weaker (λ s. Known k.kinds s.query) (λ s. IsStepOf (query_node nodes q).width (member_node nodes s) (member_answer relations s)) rest (λ s. step_known (query_node nodes q).width k.kinds s (first_width q h b own)) others))).are;
      }

  common_means : (qs : List Query) → AllByRecursion QueryMeans qs → AllByRecursion Begins qs → (operation_kinded (map (kinded kss) qs)).fits ≡ true → IsWorth (intersect_node (map (query_node nodes) qs)) (intersect_answer (map (answer relations) qs))
  common_means [] h b fits = absurd (cc fits)
  common_means (q ∷ qs) h b fits =
      let k : Kinded = kinded kss q in
      let own = and_left k.fits (list_all (λ m. m.fits && are_matched k.kinds m.kinds) (map (kinded kss) qs)) fits in
      let others = known_all (λ q. q) k.kinds qs h.1 b.1 (and_right k.fits (list_all (λ m. m.fits && are_matched k.kinds m.kinds) (map (kinded kss) qs)) fits) in
      record {
        width = common_width (query_node nodes q) (map (query_node nodes) qs) ∙ (h.0 own b.0).width;
        rows = (intersect_holds (query_node nodes q) (answer relations q).rows (map (query_node nodes) qs) (map (answer relations) qs) (first_holds q h.0 b.0 own)
            (pairwise_mapped (IsMemberOf (query_node nodes q).width) (query_node nodes) (answer relations) qs
            (all_weaker (Known k.kinds) (λ q'. IsMemberOf (query_node nodes q).width (query_node nodes q') (answer relations q')) qs (λ q'. member_known (query_node nodes q).width k.kinds q' (first_width q h.0 b.0 own)) others))).are;
      }

  pub means_cases : QueryCases OriginMeans QueryMeans
  means_cases = record {
    block = λ b gs fits begin. worth_at (query_node nodes (query.Block b)) (block_node (out-Block b).distinct (map (source_node nodes) (out-Block b).sources) (out-Block b).filter (out-Block b).grouping (out-Block b).items)
        (answer relations (query.Block b)) (block_answer (out-Block b).distinct (map (source_of_item relations) (out-Block b).sources) (out-Block b).filter (out-Block b).grouping (out-Block b).items) (node-Block nodes b) (answer-Block relations b)
        (block_means (out-Block b).distinct (out-Block b).sources (out-Block b).filter (out-Block b).grouping (out-Block b).items gs (sources_begin b begin) (begin b (BlockOf.It b))
        (sym (ap (λ k. k.fits) (kinded-Block kss b)) ∙ fits));
    chain = λ q rest g gs fits begin. worth_at (query_node nodes (query.Chain q rest)) (chain_node (query_node nodes q) (map (member_node nodes) rest))
        (answer relations (query.Chain q rest)) (chain_answer (λ rows s. set_rows s.0 rows s.1.rows) (λ s. s.1) (answer relations q) (map (member_answer relations) rest)) (node-Chain nodes q rest) (answer-Chain relations q rest)
        (chain_means q rest g gs (first_begins q rest begin) (steps_begin q rest begin) (sym (ap (λ k. k.fits) (kinded-Chain kss q rest)) ∙ fits));
    intersect = λ qs gs fits begin. worth_at (query_node nodes (query.Intersect qs)) (intersect_node (map (query_node nodes) qs)) (answer relations (query.Intersect qs)) (intersect_answer (map (answer relations) qs)) (node-Intersect nodes qs) (answer-Intersect relations qs)
        (common_means qs gs (members_begin qs begin) (sym (ap (λ k. k.fits) (kinded-Intersect kss qs)) ∙ fits));
    relation = λ n fits begin. worth_at (origin_node nodes (origin.Relation n)) (relation_node (get_or nodes n no_node)) (origin_answer relations (origin.Relation n)) (relation_answer (get_or relations n (record { width = 0; rows = [] }))) (node-Relation nodes n) (origin-Relation relations n)
        (relation_worth nodes relations worth n);
    of_query = λ q g fits begin. worth_at (origin_node nodes (origin.Query q)) (query_node nodes q) (origin_answer relations (origin.Query q)) (answer relations q) (node-Query nodes q) (origin-Query relations q)
        (g (sym (ap (λ k. k.fits) (kinded-Query kss q)) ∙ fits) (begin q refl));
  }

  pub origin_means : (o : Origin) → OriginMeans o
  origin_means o = each_origin OriginMeans QueryMeans means_cases o

pub query_means : (relations : List Contents) (nodes : List Node) (kss : List (List Kind)) → Pairwise HoldsSorts relations kss → Pairwise IsWorthRelation nodes relations → (q : Query) → Fits kss q → Begins q → IsWorth (query_node nodes q) (answer relations q)
query_means relations nodes kss holds worth q = each_query (OriginMeans relations nodes kss holds worth) (QueryMeans relations nodes kss holds worth) (means_cases relations nodes kss holds worth) q
