-- The blocks of a query that fits fit; WHERE of each block of an accepted program keeps what goes on from its last source; the pairs
-- of left joins change no verdict.
use Rattle.std.proofs.Common.{◌≡◌, ℕ, zero, suc, ◌≤◌, List, [], ◌∷◌, ◌++◌, map, flat_map, fold, drop, take, length, Bool, true, false, ◌&&◌, ◌||◌, refl, sym, ap, subst, ◌∙◌, arith}
use Rattle.std.specs.Prelude.{Option, Some, slice_get, ◌^◌}
use Rattle.std.specs.List.{AllByRecursion, list_all, list_any}
use Rattle.std.proofs.lemmas.Bool.Decides.{Decides-ltb}
use Rattle.std.proofs.lemmas.List.{length-append}
use Rattle.std.proofs.lemmas.List.Folds.{list_any-append}
use Rattle.std.proofs.lemmas.Option.{same_Some}
use Rattle.sq_catalog.specs.declared.relation.Relation.{Relation}
use Rattle.sq_catalog.specs.declared.relation.RelationKind.TheVariants.{Table, View}
use Rattle.sq_expr.proofs.Lists.{all_at}
use Rattle.sq_expr.specs.Columns.{cond_columns, width_of}
use Rattle.sq_expr.specs.declared.cond.Cond.{Cond}
use Rattle.sq_expr.specs.declared.expr.Expr.{Expr}
use Rattle.sq_expr.specs.declared.expr.Kind.{Kind}
use Rattle.sq_typed.specs.declared.query.Block.{Block, out-Block}
use Rattle.sq_typed.specs.declared.query.FromItem.{FromItem}
use Rattle.sq_typed.specs.declared.query.FromJoin.{FromJoin}
use Rattle.sq_typed.specs.declared.query.FromJoin.TheVariants.{Comma, Inner, Left}
use Rattle.sq_typed.specs.declared.query.Grouping.{Grouping}
use Rattle.sq_typed.specs.declared.query.Query.{Query}
use Rattle.sq_typed.specs.declared.query.Query.TheVariants as query
use Rattle.sq_typed.specs.declared.query.SetStep.{SetStep}
use Rattle.sq_typed.specs.Blocks.{block_answer}
use Rattle.sq_typed.specs.Checked.{IsChecked}
use Rattle.sq_typed.specs.Fit.{Kinded, KindedSource, on_suits, may_suit, may_group, suits, joined_kinds, sources_fit, has_some, item_row_kinds, clauses_fit, are_matched, kinded, kinded_origin, kinded_source, kinds_given, Fits, kinds_of, FirstFits, ProgramFits}
use Rattle.sq_typed.specs.From.{Row, Answer, Source, kept, members_at, members_of, stage, stages, stages_from, widths_of}
use Rattle.sq_typed.specs.Laws.{AreOfWidth, HaveTheirWidths, HoldTheirWidths, TablesFit, by_kind, kept_early, width_of_all}
use Rattle.sq_typed.specs.Queries.{Contents, has_range_fault, is_crowded, is_outside, source_of_item}
use Rattle.sq_typed.specs.Relations.{columns_given, columns_of_origin}
use Rattle.sq_typed.specs.Tables.{Tables}
use Rattle.sq_typed.specs.Views.{Meant, Standing, first_rows, first_answer, with_table, with_view, with_relation}
use Rattle.sq_typed.specs.Within.{AreAsWide, BlockOf, It, InFrom, First, Later, Member, IsViewOver, KeepsEarly, KeepsAllEarly, left_pairs, left_pairs_from, own_pairs, with_pairs}
use Rattle.sq_typed.proofs.CheckedFits.{checked_fits}
use Rattle.sq_typed.proofs.ColumnLemmas.{origin_is_wide, pairs_are_part, sources_have_widths}
use Rattle.sq_typed.proofs.Equations.{source-is}
use Rattle.sq_typed.proofs.FitEquations.{kinded_source-is, kinded-Query, kinded-Block, kinded-Chain, kinded-Intersect}
use Rattle.sq_typed.proofs.FitPrograms.{columns_counted, origin_columns_counted, lengths_more, first_columns}
use Rattle.sq_typed.proofs.FitQueries.{members_fit}
use Rattle.sq_typed.proofs.FitRows.{length_mapped}
use Rattle.sq_typed.proofs.ProgramLemmas.{Good, good_table, good_view}
use Rattle.sq_typed.proofs.Tests.{and_left, and_right}
use Rattle.sq_typed.proofs.WhereLemmas.{where_keeps_the_last}

-- ---- the parts of a query that fits

module _ (kss : List (List Kind)) where
  abbrev ItsFits : FromItem → Type 0
  ItsFits s = (kinded_source kss s).kinded.fits ≡ true

  each_source_fits : (before : List Kind) (items : List FromItem) → sources_fit before (map (kinded_source kss) items) ≡ true → AllByRecursion ItsFits items
  each_source_fits before [] e = tt
  each_source_fits before (s ∷ ss) e =
      let more : List Kind = before ++ (kinded_source kss s).kinded.kinds in (
        and_left (kinded_source kss s).kinded.fits (on_suits more (kinded_source kss s).join) (and_left ((kinded_source kss s).kinded.fits && on_suits more (kinded_source kss s).join) (sources_fit more (map (kinded_source kss) ss)) e),
        each_source_fits more ss (and_right ((kinded_source kss s).kinded.fits && on_suits more (kinded_source kss s).join) (sources_fit more (map (kinded_source kss) ss)) e),
      )

  -- what a block that fits has
  record Parts (b : Block) : Type 0 where
    some : has_some (map (kinded_source kss) (out-Block b).sources) ≡ true
    sources : AllByRecursion ItsFits (out-Block b).sources
    filter : may_suit (joined_kinds (map (kinded_source kss) (out-Block b).sources)) (out-Block b).filter ≡ true

  parts_of : (b : Block) → Fits kss (query.Block b) → Parts b
  parts_of b fits =
      let ks : List KindedSource = map (kinded_source kss) (out-Block b).sources in
      let is : ((has_some ks && sources_fit [] ks) && clauses_fit (joined_kinds ks) (out-Block b).filter (out-Block b).grouping (out-Block b).items) ≡ true = subst (λ (k : Kinded). k.fits ≡ true) (kinded-Block kss b) fits in
      let front = and_left (has_some ks && sources_fit [] ks) (clauses_fit (joined_kinds ks) (out-Block b).filter (out-Block b).grouping (out-Block b).items) is in
      record {
        some = and_left (has_some ks) (sources_fit [] ks) front;
        sources = each_source_fits [] (out-Block b).sources (and_right (has_some ks) (sources_fit [] ks) front);
        filter = and_left (may_suit (joined_kinds ks) (out-Block b).filter) (may_group (joined_kinds ks) (out-Block b).grouping && list_all (suits (item_row_kinds (joined_kinds ks) (out-Block b).grouping)) (out-Block b).items)
            (and_right (has_some ks && sources_fit [] ks) (clauses_fit (joined_kinds ks) (out-Block b).filter (out-Block b).grouping (out-Block b).items) is);
      }

  abbrev rest_fits : List Kind → List Kinded → Bool
  rest_fits kinds ms = list_all (λ m. m.fits && are_matched kinds m.kinds) ms

  member_fits : {A : Type 0} (f : A → Kinded) (kinds : List Kind) (xs : List A) (n : ℕ) (x : A) → rest_fits kinds (map f xs) ≡ true → slice_get xs n ≡ Some x → (f x).fits ≡ true
  member_fits f kinds [] n x e at = absurd (cc at)
  member_fits f kinds (y ∷ ys) zero x e at =
      subst (λ z. (f z).fits ≡ true) (same_Some y x at) (and_left (f y).fits (are_matched kinds (f y).kinds) (and_left ((f y).fits && are_matched kinds (f y).kinds) (rest_fits kinds (map f ys)) e))
  member_fits f kinds (y ∷ ys) (suc n) x e at = member_fits f kinds ys n x (and_right ((f y).fits && are_matched kinds (f y).kinds) (rest_fits kinds (map f ys)) e) at

  chain_parts : (q : Query) (rest : List SetStep) → Fits kss (query.Chain q rest) → ((kinded kss q).fits && rest_fits (kinded kss q).kinds (map (λ s. kinded kss s.query) rest)) ≡ true
  chain_parts q rest fits = subst (λ (k : Kinded). k.fits ≡ true) (kinded-Chain kss q rest) fits

  member_of_intersect : (qs : List Query) (n : ℕ) (q : Query) → Fits kss (query.Intersect qs) → slice_get qs n ≡ Some q → Fits kss q
  member_of_intersect [] n q fits at = absurd (cc at)
  member_of_intersect (p ∷ ps) zero q fits at =
      subst (λ z. Fits kss z) (same_Some p q at) (and_left (kinded kss p).fits (rest_fits (kinded kss p).kinds (map (kinded kss) ps)) (subst (λ (k : Kinded). k.fits ≡ true) (kinded-Intersect kss (p ∷ ps)) fits))
  member_of_intersect (p ∷ ps) (suc n) q fits at =
      member_fits (kinded kss) (kinded kss p).kinds ps n q (and_right (kinded kss p).fits (rest_fits (kinded kss p).kinds (map (kinded kss) ps)) (subst (λ (k : Kinded). k.fits ≡ true) (kinded-Intersect kss (p ∷ ps)) fits)) at

  -- each block of a query that fits fits
  pub blocks_fit : (q : Query) (b : Block) → BlockOf q b → Fits kss q → Fits kss (query.Block b)
  blocks_fit _ _ (It b) fits = fits
  blocks_fit _ _ (InFrom b n s q c at is more) fits =
      blocks_fit q c more
      (subst (λ (k : Kinded). k.fits ≡ true) (kinded-Query kss q)
      (subst (λ o. (kinded_origin kss o).fits ≡ true) is
      (subst (λ (k : KindedSource). k.kinded.fits ≡ true) (kinded_source-is kss s) (all_at ItsFits (out-Block b).sources n s (parts_of b fits).sources at))))
  blocks_fit _ _ (First q rest c more) fits = blocks_fit q c more (and_left (kinded kss q).fits (rest_fits (kinded kss q).kinds (map (λ s. kinded kss s.query) rest)) (chain_parts q rest fits))
  blocks_fit _ _ (Later q rest n s c at more) fits =
      blocks_fit s.query c more (member_fits (λ s. kinded kss s.query) (kinded kss q).kinds rest n s (and_right (kinded kss q).fits (rest_fits (kinded kss q).kinds (map (λ s. kinded kss s.query) rest)) (chain_parts q rest fits)) at)
  blocks_fit _ _ (Member qs n q c at more) fits = blocks_fit q c more (member_of_intersect qs n q fits at)

-- ---- WHERE, member by member

module _ (relations : List Contents) (kss : List (List Kind)) (good : HoldTheirWidths relations) (are : map (λ c. c.width) relations ≡ map length kss) where
  abbrev ItsWidth : FromItem → Type 0
  ItsWidth s = (source_of_item relations s).answer.width ≡ length (kinded_source kss s).kinded.kinds

  item_width : (s : FromItem) → (kinded_source kss s).kinded.fits ≡ true → ItsWidth s
  item_width s fits =
      let own : (kinded_origin kss s.source).fits ≡ true = subst (λ (k : KindedSource). k.kinded.fits ≡ true) (kinded_source-is kss s) fits in
      let counted : columns_of_origin (map (λ c. c.width) relations) s.source ≡ Some (length (kinded_origin kss s.source).kinds) = subst (λ ws. columns_of_origin ws s.source ≡ Some (length (kinded_origin kss s.source).kinds)) (sym are) (origin_columns_counted kss s.source own) in
      ap (λ x. x.answer.width) (source-is relations s) ∙ (origin_is_wide relations good s.source (length (kinded_origin kss s.source).kinds) counted).0 ∙ ap (λ (k : KindedSource). length k.kinded.kinds) (sym (kinded_source-is kss s))

  items_width : (items : List FromItem) → AllByRecursion (ItsFits kss) items → width_of_all (map (source_of_item relations) items) ≡ length (joined_kinds (map (kinded_source kss) items))
  items_width [] h = refl
  items_width (s ∷ ss) h = omega (arith, item_width s h.0, items_width ss h.1, length-append (kinded_source kss s).kinded.kinds (joined_kinds (map (kinded_source kss) ss)))

  items_keep : (conds : List Cond) (items : List FromItem) → has_some (map (kinded_source kss) items) ≡ true → HaveTheirWidths (map (source_of_item relations) items) →
      AllByRecursion (λ c. width_of (cond_columns c) ≤ width_of_all (map (source_of_item relations) items)) conds → kept conds (map (source_of_item relations) items) ≡ kept_early conds (map (source_of_item relations) items)
  items_keep conds [] some wide narrow = absurd (cc some)
  items_keep conds (s ∷ ss) some wide narrow = where_keeps_the_last conds (source_of_item relations s) (map (source_of_item relations) ss) wide narrow

  pub block_keeps_early : (b : Block) → Fits kss (query.Block b) → KeepsEarly relations b
  block_keeps_early b fits =
      let p : Parts kss b = parts_of kss b fits in
      let w : ℕ = length (kinds_given kss (query.Block b)) in
      items_keep (members_of (out-Block b).filter) (out-Block b).sources p.some
      (sources_have_widths relations good b w (subst (λ ws. columns_given ws (query.Block b) ≡ Some w) (sym are) (columns_counted kss (query.Block b) fits)))
      (subst (λ n. AllByRecursion (λ c. width_of (cond_columns c) ≤ n) (members_of (out-Block b).filter)) (sym (items_width (out-Block b).sources p.sources))
      (members_fit (joined_kinds (map (kinded_source kss) (out-Block b).sources)) (out-Block b).filter p.filter))

-- ---- the views of a program

-- the query of a view fits the relations before it, whose rows have their width
record Reached (relations : List Contents) (q : Query) : Type 0 where
  kinds : List (List Kind)
  wide : HoldTheirWidths relations
  are : map (λ c. c.width) relations ≡ map length kinds
  fits : Fits kinds q

abbrev with_all : Standing → List Relation → Standing
with_all s rs = fold (λ s r. with_relation r.kind (length r.columns) s) s rs

first_fits : (kss : List (List Kind)) (kinds : List Kind) (queries : List Query) (q : Query) → FirstFits kss kinds queries → slice_get queries 0 ≡ Some q → Fits kss q
first_fits kss kinds [] q f at = absurd f
first_fits kss kinds (p ∷ queries) q f at = subst (λ z. Fits kss z) (same_Some p q at) f.0

reached : (n : ℕ) (rs : List Relation) (kss : List (List Kind)) (s : Standing) → Good (map length kss) s → ProgramFits kss s.queries rs → TablesFit s.tables rs → (r : Relation) (printed : Bool) → slice_get rs n ≡ Some r → r.kind ≡ View printed →
    (q : Query) → slice_get (with_all s (take n rs)).queries 0 ≡ Some q → Reached (with_all s (take n rs)).contents q
reached n [] kss s g f t r printed at is q given = absurd (cc at)
reached zero (x ∷ rs) kss s g f t r printed at is q given =
    let own = subst (λ k. by_kind k (ProgramFits (kss ++ kinds_of x ∷ []) s.queries rs) (FirstFits kss (kinds_of x) s.queries × ProgramFits (kss ++ kinds_of x ∷ []) (drop 1 s.queries) rs)) (ap (λ y. y.kind) (same_Some x r at) ∙ is) f in
    record { kinds = kss; wide = g.contents; are = g.are; fits = first_fits kss (kinds_of x) s.queries q own.0 given }
reached (suc n) (x ∷ rs) kss s g f t r printed at is q given =
    let more = lengths_more kss (kinds_of x) (length x.columns) (length_mapped (λ c. c.kind) x.columns) in
    elim x.kind as (λ k.
    by_kind k (ProgramFits (kss ++ kinds_of x ∷ []) s.queries rs) (FirstFits kss (kinds_of x) s.queries × ProgramFits (kss ++ kinds_of x ∷ []) (drop 1 s.queries) rs) →
    by_kind k (AreOfWidth (length x.columns) (first_rows s.tables) × TablesFit (drop 1 s.tables) rs) (TablesFit s.tables rs) →
    slice_get (with_all (with_relation k (length x.columns) s) (take n rs)).queries 0 ≡ Some q →
    Reached (with_all (with_relation k (length x.columns) s) (take n rs)).contents q) [
      | Table ↦ λ f t given. reached n rs (kss ++ kinds_of x ∷ []) (with_table (length x.columns) s) (subst (λ ws. Good ws (with_table (length x.columns) s)) (sym more) (good_table (map length kss) s (length x.columns) g t.0)) f t.1 r printed at is q given
      | View v ↦ λ f t given. reached n rs (kss ++ kinds_of x ∷ []) (with_view (first_answer s.contents s.queries) s)
          (subst (λ ws. Good ws (with_view (first_answer s.contents s.queries) s)) (sym more) (good_view (map length kss) s (length x.columns) g (first_columns kss x s.queries f.0))) f.1 t r printed at is q given
    ] f t given

pub views_keep_early : (p : Meant) (tables : Tables) → IsChecked p → TablesFit tables p.catalog → (relations : List Contents) (q : Query) → IsViewOver p tables relations q → KeepsAllEarly relations q
views_keep_early p tables checked t relations q v b within =
    let r = reached v.number p.catalog [] (record { contents = []; given = []; tables = tables; queries = p.queries }) (record { are = refl; contents = tt; given = tt }) (checked_fits p checked) t v.relation v.printed v.there v.view q v.given in
    subst (λ cs. KeepsEarly cs b) v.before (block_keeps_early _ r.kinds r.wide r.are b (blocks_fit r.kinds q b within r.fits))

pub blocks_keep_early : (relations : List Contents) (kss : List (List Kind)) → AreAsWide relations kss → (q : Query) → Fits kss q → KeepsAllEarly relations q
blocks_keep_early relations kss wide q fits b within = block_keeps_early relations kss wide.0 wide.1 b (blocks_fit kss q b within fits)

-- ---- the pairs of left joins

longer_is_crowded : (few many : List Row) → length few ≤ length many → is_crowded few ≡ true → is_crowded many ≡ true
longer_is_crowded few many le e = (Decides-ltb (2 ^ 61) (length many)).1 (omega (arith, le, (Decides-ltb (2 ^ 61) (length few)).0 e))

or_none : (b : Bool) → (b || false) ≡ true → b ≡ true
or_none true e = refl
or_none false e = e

own_crowded : (conds : List Cond) (join : FromJoin) (a : Answer) (before : List Row) → list_any is_crowded (own_pairs join a before) ≡ true → is_crowded (stage conds join a before).0 ≡ true
own_crowded conds Comma a before e = absurd (cc e)
own_crowded conds (Inner on) a before e = absurd (cc e)
own_crowded conds (Left on) a before e =
    longer_is_crowded _ _ (pairs_are_part a.width (on ∷ []) a.rows before) (or_none _ e)

either : (a b c d : Bool) → (a ≡ true → c ≡ true) → (b ≡ true → d ≡ true) → (a || b) ≡ true → (c || d) ≡ true
either true b c d f g e = ap (λ x. x || d) (f refl)
either false b true d f g e = refl
either false b false d f g e = g e

module _ (widths : List ℕ) (conds : List Cond) where
  pairs_crowded : (k : ℕ) (before : List Row) (ss : List Source) → list_any is_crowded (left_pairs_from widths conds k before ss) ≡ true → list_any is_crowded (map (λ s. s.0) (stages_from widths conds k before ss)) ≡ true
  pairs_crowded k before [] e = e
  pairs_crowded k before (s ∷ ss) e =
      either (list_any is_crowded (own_pairs s.join s.answer before)) (list_any is_crowded (left_pairs_from widths conds (suc k) (stage (members_at widths conds k) s.join s.answer before).1 ss))
      (is_crowded (stage (members_at widths conds k) s.join s.answer before).0) (list_any is_crowded (map (λ s. s.0) (stages_from widths conds (suc k) (stage (members_at widths conds k) s.join s.answer before).1 ss)))
      (own_crowded (members_at widths conds k) s.join s.answer before)
      (pairs_crowded (suc k) (stage (members_at widths conds k) s.join s.answer before).1 ss)
      (sym (list_any-append is_crowded (own_pairs s.join s.answer before) (left_pairs_from widths conds (suc k) (stage (members_at widths conds k) s.join s.answer before).1 ss)) ∙ e)

pub pairs_are_crowded : (conds : List Cond) (sources : List Source) → list_any is_crowded (left_pairs conds sources) ≡ true → list_any is_crowded (map (λ s. s.0) (stages conds sources)) ≡ true
pairs_are_crowded conds sources = pairs_crowded (widths_of sources) conds 1 ([] ∷ []) sources

absorbed : (a s p t : Bool) → (p ≡ true → s ≡ true) → (((a || s) || p) || t) ≡ ((a || s) || t)
absorbed true s p t h = refl
absorbed false true p t h = refl
absorbed false false true t h = absurd (cc (h refl))
absorbed false false false t h = refl

pub pairs_change_no_verdict : (distinct : Bool) (sources : List Source) (where_ : Option Cond) (grouping : Option Grouping) (items : List Expr) →
    has_range_fault (with_pairs distinct sources where_ grouping items) ≡ has_range_fault (block_answer distinct sources where_ grouping items)
pairs_change_no_verdict distinct sources where_ grouping items =
    let a = block_answer distinct sources where_ grouping items in
    let pairs : List (List Row) = left_pairs (members_of where_) sources in
    let early : List (List Row) = map (λ s. s.0) (stages (members_of where_) sources) in
    let inside : List (List Row) = flat_map (λ s. s.answer.places) sources in
    let tested : Bool = list_any is_outside a.tested in
    ap (λ b. b || tested) (list_any-append is_crowded (inside ++ early) pairs ∙ ap (λ b. b || list_any is_crowded pairs) (list_any-append is_crowded inside early))
    ∙ absorbed (list_any is_crowded inside) (list_any is_crowded early) (list_any is_crowded pairs) tested (pairs_are_crowded (members_of where_) sources)
    ∙ ap (λ b. b || tested) (sym (list_any-append is_crowded inside early))
