-- The rows of the views of programs that fit are of their kinds, and their queries give as many columns as the views have.
use Rattle.std.proofs.Common.{◌≡◌, ℕ, zero, suc, ◌<◌, ◌≤◌, List, [], ◌∷◌, ◌++◌, map, fold, drop, length, get_or, Bool, true, false, ◌&&◌, if◌then◌else◌, refl, sym, ap, subst, ◌∙◌, append_assoc, arith, None}
use Rattle.std.specs.Prelude.{Option, Some, is_some, slice_get}
use Rattle.std.specs.List.{AllByRecursion, cons_option, list_all, position, position_or_len}
use Rattle.std.proofs.lemmas.Bool.Decides.{Decides-eqb}
use Rattle.std.proofs.lemmas.Grind.{common_steps}
use Rattle.std.proofs.lemmas.List.{append-nil}
use Rattle.std.proofs.lemmas.List.Sums.{fails_before_first}
use Rattle.sq_catalog.specs.declared.relation.Relation.{Relation}
use Rattle.sq_catalog.specs.declared.relation.RelationKind.TheVariants.{Table, View}
use Rattle.sq_expr.specs.Typing.{sort_of_kind, are_alike}
use Rattle.sq_expr.specs.declared.expr.Kind.{Kind}
use Rattle.sq_expr.proofs.Lists.{all_back, all_front, all_weaker}
use Rattle.sq_typed.specs.declared.query.Block.{Block, out-Block}
use Rattle.sq_typed.specs.declared.query.Origin.{Origin}
use Rattle.sq_typed.specs.declared.query.Origin.TheVariants as origin
use Rattle.sq_typed.specs.declared.query.Query.{Query}
use Rattle.sq_typed.specs.declared.query.Query.TheVariants as query
use Rattle.sq_typed.specs.Fit.{Kinded, KindedSource, on_suits, joined_kinds, sources_fit, has_some, item_row_kinds, clauses_fit, block_kinded, are_matched, operation_kinded, relation_kinded, kinded, kinded_origin, kinded_source, kinds_given, Fits, AreAllOfKinds, Pairwise, HoldsKinds, GivesKinds, kinds_of, FirstFits, ProgramFits, TablesAreOfKinds, if_view, view_kinds}
use Rattle.sq_typed.specs.From.{Answer}
use Rattle.sq_typed.specs.Laws.{by_kind, FirstGives, QueriesFit}
use Rattle.sq_typed.specs.Numbered.{kind_of}
use Rattle.sq_typed.specs.Queries.{Contents, has_range_fault}
use Rattle.sq_typed.specs.Relations.{is_number, agreed, columns_given, columns_of_origin}
use Rattle.sq_typed.specs.Tables.{Tables}
use Rattle.sq_typed.specs.Views.{Meant, Standing, first_rows, first_answer, with_table, with_view, with_relation, views, verdict}
use Rattle.sq_typed.proofs.ColumnLemmas.{columns-Relation, columns-Query, columns-Block, columns-Chain, columns-Intersect}
use Rattle.sq_typed.proofs.FitEquations.{kinded_source-is, kinded-Relation, kinded-Query, kinded-Block, kinded-Chain, kinded-Intersect}
use Rattle.sq_typed.proofs.FitQueries.{rows_of_query, operands_fit, length_widest}
use Rattle.sq_typed.proofs.GivenRows.{pairwise_mapped}
use Rattle.sq_typed.proofs.FitRows.{length_mapped}
use Rattle.sq_typed.proofs.Tests.{and_left, and_right}
use Rattle.sq_typed.proofs.Trees.{QueryCases, each_query, each_origin}

-- ---- no view is out of range

abbrev Shown : Answer → Type 0
Shown a = has_range_fault a ≡ false

all_indexed : {A : Type 0} (P : A → Type 0) (d : A) (xs : List A) → ((k : ℕ) → k < length xs → P (get_or xs k d)) → AllByRecursion P xs
all_indexed P d [] h = tt
all_indexed P d (x ∷ xs) h = (h 0 (omega arith), all_indexed P d xs (λ k l. h (suc k) (omega (arith, l))))

none_at : {A : Type 0} (p : A → Bool) (xs : List A) (d : A) → position p xs ≡ None → (k : ℕ) → k < length xs → p (get_or xs k d) ≡ false
none_at p xs d e =
    let at : length xs ≤ position_or_len p xs = grind (arith, common_steps) in
    λ k lt. fails_before_first p xs k d (omega arith)

all_shown : (answers : List Answer) → position has_range_fault answers ≡ None → AllByRecursion Shown answers
all_shown [] e = tt
all_shown (a ∷ answers) e = all_indexed Shown a (a ∷ answers) (none_at has_range_fault (a ∷ answers) a e)

abbrev with_all : Standing → List Relation → Standing
with_all s rs = fold (λ s r. with_relation r.kind (length r.columns) s) s rs

-- the views given so far are among those given at the end
shown_before : (rs : List Relation) (s : Standing) → AllByRecursion Shown (with_all s rs).given → AllByRecursion Shown s.given
shown_before [] s h = h
shown_before (r ∷ rs) s h =
    elim r.kind as (λ k. AllByRecursion Shown (with_relation k (length r.columns) s).given → AllByRecursion Shown s.given) [
      | Table ↦ λ h. h
      | View printed ↦ λ h. all_front Shown s.given (first_answer s.contents s.queries ∷ []) h
    ] (shown_before rs (with_relation r.kind (length r.columns) s) h)

-- ---- relation by relation

-- relations before some point with columns of these kinds, and views among them
record Good (kss views : List (List Kind)) (s : Standing) : Type 0 where
  contents : Pairwise HoldsKinds s.contents kss
  given : Pairwise GivesKinds s.given views

pairwise_more : {A B : Type 0} (P : A → B → Type 0) (xs : List A) (ys : List B) (x : A) (y : B) → Pairwise P xs ys → P x y → Pairwise P (xs ++ x ∷ []) (ys ++ y ∷ [])
pairwise_more P [] [] x y p h = (h, tt)
pairwise_more P [] (z ∷ ys) x y p h = absurd p
pairwise_more P (z ∷ xs) [] x y p h = absurd p
pairwise_more P (w ∷ xs) (z ∷ ys) x y p h = (p.0, pairwise_more P xs ys x y p.1 h)

good_table : (kss views : List (List Kind)) (s : Standing) (r : Relation) → Good kss views s → AreAllOfKinds (first_rows s.tables) (kinds_of r) → Good (kss ++ kinds_of r ∷ []) views (with_table (length r.columns) s)
good_table kss views s r g h = record {
  contents = pairwise_more HoldsKinds s.contents kss (record { width = length r.columns; rows = first_rows s.tables }) (kinds_of r) g.contents (sym (length_mapped (λ c. c.kind) r.columns), h);
  given = g.given;
}

first_gives : (contents : List Contents) (kss : List (List Kind)) → Pairwise HoldsKinds contents kss → (kinds : List Kind) (queries : List Query) → FirstFits kss kinds queries → Shown (first_answer contents queries) → GivesKinds (first_answer contents queries) kinds
first_gives contents kss holds kinds [] f e = absurd f
first_gives contents kss holds kinds (q ∷ queries) f e = subst (GivesKinds (first_answer contents (q ∷ queries))) f.1 (rows_of_query contents kss holds q f.0 e)

good_view : (kss views : List (List Kind)) (s : Standing) (kinds : List Kind) → Good kss views s → FirstFits kss kinds s.queries → Shown (first_answer s.contents s.queries) → Good (kss ++ kinds ∷ []) (views ++ kinds ∷ []) (with_view (first_answer s.contents s.queries) s)
good_view kss views s kinds g f e =
    let a : Answer = first_answer s.contents s.queries in
    let gives : GivesKinds a kinds = first_gives s.contents kss g.contents kinds s.queries f e in
    record {
      contents = pairwise_more HoldsKinds s.contents kss (record { width = a.width; rows = a.rows }) kinds g.contents gives;
      given = pairwise_more GivesKinds s.given views a kinds g.given gives;
    }

all_good : (rs : List Relation) (kss views : List (List Kind)) (s : Standing) → Good kss views s → ProgramFits kss s.queries rs → TablesAreOfKinds s.tables rs → AllByRecursion Shown (with_all s rs).given →
    Pairwise GivesKinds (with_all s rs).given (views ++ view_kinds rs)
all_good [] kss views s g q t e = subst (Pairwise GivesKinds s.given) (sym (append-nil views)) g.given
all_good (r ∷ rs) kss views s g q t e =
    elim r.kind as (λ k.
    by_kind k (ProgramFits (kss ++ kinds_of r ∷ []) s.queries rs) (FirstFits kss (kinds_of r) s.queries × ProgramFits (kss ++ kinds_of r ∷ []) (drop 1 s.queries) rs) →
    by_kind k (AreAllOfKinds (first_rows s.tables) (kinds_of r) × TablesAreOfKinds (drop 1 s.tables) rs) (TablesAreOfKinds s.tables rs) →
    AllByRecursion Shown (with_all (with_relation k (length r.columns) s) rs).given →
    Pairwise GivesKinds (with_all (with_relation k (length r.columns) s) rs).given (views ++ cons_option (if_view k (kinds_of r)) (view_kinds rs))) [
      | Table ↦ λ q t e. all_good rs (kss ++ kinds_of r ∷ []) views (with_table (length r.columns) s) (good_table kss views s r g t.0) q t.1 e
      | View printed ↦ λ q t e.
          subst (Pairwise GivesKinds (with_all (with_view (first_answer s.contents s.queries) s) rs).given) (append_assoc views (kinds_of r ∷ []) (view_kinds rs))
          (all_good rs (kss ++ kinds_of r ∷ []) (views ++ kinds_of r ∷ []) (with_view (first_answer s.contents s.queries) s)
          (good_view kss views s (kinds_of r) g q.0 (all_back Shown s.given (first_answer s.contents s.queries ∷ []) (shown_before rs (with_view (first_answer s.contents s.queries) s) e)).0) q.1 t e)
    ] q t e

pub views_are_of_kinds : (p : Meant) (tables : Tables) → ProgramFits [] p.queries p.catalog → TablesAreOfKinds tables p.catalog → verdict p tables ≡ None → Pairwise GivesKinds (views p tables) (view_kinds p.catalog)
unfolding views verdict
views_are_of_kinds p tables q t e =
    all_good p.catalog [] [] (record { contents = []; given = []; tables = tables; queries = p.queries }) (record { contents = tt; given = tt }) q t (all_shown (views p tables) e)

-- ---- as many columns

-- the number of columns that a query with these kinds has to have
abbrev Counted : Option ℕ → Kinded → Type 0
Counted n k = k.fits ≡ true → n ≡ Some (length k.kinds)

matched_length : (ks ls : List Kind) → are_matched ks ls ≡ true → length ls ≡ length ks
matched_length [] [] e = refl
matched_length [] (l ∷ ls) e = absurd (cc e)
matched_length (k ∷ ks) [] e = absurd (cc e)
matched_length (k ∷ ks) (l ∷ ls) e = ap suc (matched_length ks ls (and_right (are_alike (Some (sort_of_kind k)) (Some (sort_of_kind l))) (are_matched ks ls) e))

all_agree : (w : ℕ) (ns : List (Option ℕ)) → AllByRecursion (λ n. n ≡ Some w) ns → list_all (is_number w) ns ≡ true
all_agree w [] h = refl
all_agree w (n ∷ ns) h = ap (λ n. is_number w n && list_all (is_number w) ns) h.0 ∙ ap (λ b. b && list_all (is_number w) ns) ((Decides-eqb w w).1 refl) ∙ all_agree w ns h.1

agree : (w : ℕ) (first : Option ℕ) (ns : List (Option ℕ)) → first ≡ Some w → AllByRecursion (λ n. n ≡ Some w) ns → agreed first ns ≡ Some w
agree w first ns e h = ap (λ n. agreed n ns) e ∙ ap (λ b. if b then Some w else None) (all_agree w ns h)

others_agree : (kinds : List Kind) (ns : List (Option ℕ)) (ms : List Kinded) → Pairwise Counted ns ms → AllByRecursion (λ m. (m.fits ≡ true) × (are_matched kinds m.kinds ≡ true)) ms → AllByRecursion (λ n. n ≡ Some (length kinds)) ns
others_agree kinds [] [] p h = tt
others_agree kinds [] (m ∷ ms) p h = absurd p
others_agree kinds (n ∷ ns) [] p h = absurd p
others_agree kinds (n ∷ ns) (m ∷ ms) p h = (p.0 h.0.0 ∙ ap Some (matched_length kinds m.kinds h.0.1), others_agree kinds ns ms p.1 h.1)

operation_counted : (n : Option ℕ) (k : Kinded) (ns : List (Option ℕ)) (ms : List Kinded) → Counted n k → Pairwise Counted ns ms → Counted (agreed n ns) (operation_kinded (k ∷ ms))
operation_counted n k ns ms c p fits =
    agree (length k.kinds) n ns (c (and_left k.fits (list_all (λ m. m.fits && are_matched k.kinds m.kinds) ms) fits))
    (others_agree k.kinds ns ms p (operands_fit k.kinds ms (and_right k.fits (list_all (λ m. m.fits && are_matched k.kinds m.kinds) ms) fits)))
    ∙ ap Some (sym (length_widest (map (λ m. m.kinds) ms) k.kinds))

all_some : (before : List Kind) (ns : List (Option ℕ)) (ks : List KindedSource) → Pairwise (λ n k. Counted n k.kinded) ns ks → sources_fit before ks ≡ true → list_all is_some ns ≡ true
all_some before [] [] p e = refl
all_some before [] (k ∷ ks) p e = absurd p
all_some before (n ∷ ns) [] p e = absurd p
all_some before (n ∷ ns) (k ∷ ks) p e =
    ap (λ n. is_some n && list_all is_some ns) (p.0 (and_left k.kinded.fits (on_suits (before ++ k.kinded.kinds) k.join) (and_left (k.kinded.fits && on_suits (before ++ k.kinded.kinds) k.join) (sources_fit (before ++ k.kinded.kinds) ks) e)))
    ∙ all_some (before ++ k.kinded.kinds) ns ks p.1 (and_right (k.kinded.fits && on_suits (before ++ k.kinded.kinds) k.join) (sources_fit (before ++ k.kinded.kinds) ks) e)

relation_counted : (kss : List (List Kind)) (n : ℕ) → Counted (slice_get (map length kss) n) (relation_kinded (slice_get kss n))
relation_counted [] n e = absurd (cc e)
relation_counted (ks ∷ kss) zero e = refl
relation_counted (ks ∷ kss) (suc n) e = relation_counted kss n e

module _ (kss : List (List Kind)) where
  abbrev ws : List ℕ
  ws = map length kss

  abbrev OriginCounted : Origin → Type 0
  OriginCounted o = Counted (columns_of_origin ws o) (kinded_origin kss o)

  abbrev QueryCounted : Query → Type 0
  QueryCounted q = Counted (columns_given ws q) (kinded kss q)

  counted_at : (n m : Option ℕ) (k l : Kinded) → n ≡ m → k ≡ l → Counted m l → Counted n k
  counted_at n m k l en ek c = subst (λ n. Counted n k) (sym en) (subst (Counted m) (sym ek) c)

  block_counted : (b : Block) → AllByRecursion (λ s. OriginCounted s.source) (out-Block b).sources → QueryCounted (query.Block b)
  block_counted b cs = counted_at (columns_given ws (query.Block b)) (if list_all is_some (map (λ s. columns_of_origin ws s.source) (out-Block b).sources) then Some (length (out-Block b).items) else None)
      (kinded kss (query.Block b)) (block_kinded (map (kinded_source kss) (out-Block b).sources) (out-Block b).filter (out-Block b).grouping (out-Block b).items) (columns-Block ws b) (kinded-Block kss b)
      (λ fits.
      let ks : List KindedSource = map (kinded_source kss) (out-Block b).sources in
      ap (λ t. if t then Some (length (out-Block b).items) else None)
      (all_some [] (map (λ s. columns_of_origin ws s.source) (out-Block b).sources) (map (kinded_source kss) (out-Block b).sources)
      (pairwise_mapped (λ n k. Counted n k.kinded) (λ s. columns_of_origin ws s.source) (kinded_source kss) (out-Block b).sources
      (all_weaker (λ s. OriginCounted s.source) (λ s. Counted (columns_of_origin ws s.source) (kinded_source kss s).kinded) (out-Block b).sources
      (λ s c. subst (λ k. Counted (columns_of_origin ws s.source) k.kinded) (sym (kinded_source-is kss s)) c) cs))
      (and_right (has_some ks) (sources_fit [] ks) (and_left (has_some ks && sources_fit [] ks) (clauses_fit (joined_kinds ks) (out-Block b).filter (out-Block b).grouping (out-Block b).items) fits)))
      ∙ ap Some (sym (length_mapped (kind_of (item_row_kinds (joined_kinds ks) (out-Block b).grouping)) (out-Block b).items)))

  intersect_counted : (qs : List Query) → AllByRecursion QueryCounted qs → QueryCounted (query.Intersect qs)
  intersect_counted [] cs fits = absurd (cc (kinded-Intersect kss [], fits))
  intersect_counted (q ∷ qs) cs fits = counted_at (columns_given ws (query.Intersect (q ∷ qs))) (agreed (columns_given ws q) (map (columns_given ws) qs))
      (kinded kss (query.Intersect (q ∷ qs))) (operation_kinded (kinded kss q ∷ map (kinded kss) qs)) (columns-Intersect ws (q ∷ qs)) (kinded-Intersect kss (q ∷ qs))
      (operation_counted (columns_given ws q) (kinded kss q) (map (columns_given ws) qs) (map (kinded kss) qs) cs.0 (pairwise_mapped Counted (columns_given ws) (kinded kss) qs cs.1)) fits

  counted_cases : QueryCases OriginCounted QueryCounted
  counted_cases = record {
    block = block_counted;
    chain = λ q rest c cs. counted_at (columns_given ws (query.Chain q rest)) (agreed (columns_given ws q) (map (λ s. columns_given ws s.query) rest))
        (kinded kss (query.Chain q rest)) (operation_kinded (kinded kss q ∷ map (λ s. kinded kss s.query) rest)) (columns-Chain ws q rest) (kinded-Chain kss q rest)
        (operation_counted (columns_given ws q) (kinded kss q) (map (λ s. columns_given ws s.query) rest) (map (λ s. kinded kss s.query) rest) c (pairwise_mapped Counted (λ s. columns_given ws s.query) (λ s. kinded kss s.query) rest cs));
    intersect = intersect_counted;
    relation = λ n. counted_at (columns_of_origin ws (origin.Relation n)) (slice_get ws n) (kinded_origin kss (origin.Relation n)) (relation_kinded (slice_get kss n)) (columns-Relation ws n) (kinded-Relation kss n) (relation_counted kss n);
    of_query = λ q c. counted_at (columns_of_origin ws (origin.Query q)) (columns_given ws q) (kinded_origin kss (origin.Query q)) (kinded kss q) (columns-Query ws q) (kinded-Query kss q) c;
  }

  pub columns_counted : (q : Query) → Fits kss q → columns_given (map length kss) q ≡ Some (length (kinds_given kss q))
  columns_counted = each_query OriginCounted QueryCounted counted_cases

  pub origin_columns_counted : (o : Origin) → (kinded_origin kss o).fits ≡ true → columns_of_origin (map length kss) o ≡ Some (length (kinded_origin kss o).kinds)
  origin_columns_counted = each_origin OriginCounted QueryCounted counted_cases

-- ---- programs

pub lengths_more : (kss : List (List Kind)) (ks : List Kind) (w : ℕ) → length ks ≡ w → map length (kss ++ ks ∷ []) ≡ map length kss ++ w ∷ []
lengths_more [] ks w e = (λ i. e i ∷ [])
lengths_more (k ∷ kss) ks w e = ap (λ ws. length k ∷ ws) (lengths_more kss ks w e)

pub first_columns : (kss : List (List Kind)) (r : Relation) (queries : List Query) → FirstFits kss (kinds_of r) queries → FirstGives (map length kss) (length r.columns) queries
first_columns kss r [] f = absurd f
first_columns kss r (q ∷ queries) f = columns_counted kss q f.0 ∙ ap Some (ap length f.1 ∙ length_mapped (λ c. c.kind) r.columns)

fit_from : (rs : List Relation) (kss : List (List Kind)) (queries : List Query) → ProgramFits kss queries rs → QueriesFit (map length kss) queries rs
fit_from [] kss queries f = tt
fit_from (r ∷ rs) kss queries f =
    let more = lengths_more kss (kinds_of r) (length r.columns) (length_mapped (λ c. c.kind) r.columns) in
    elim r.kind as (λ k.
    by_kind k (ProgramFits (kss ++ kinds_of r ∷ []) queries rs) (FirstFits kss (kinds_of r) queries × ProgramFits (kss ++ kinds_of r ∷ []) (drop 1 queries) rs) →
    by_kind k (QueriesFit (map length kss ++ length r.columns ∷ []) queries rs) (FirstGives (map length kss) (length r.columns) queries × QueriesFit (map length kss ++ length r.columns ∷ []) (drop 1 queries) rs)) [
      | Table ↦ λ f. subst (λ ws. QueriesFit ws queries rs) more (fit_from rs (kss ++ kinds_of r ∷ []) queries f)
      | View printed ↦ λ f. (first_columns kss r queries f.0, subst (λ ws. QueriesFit ws (drop 1 queries) rs) more (fit_from rs (kss ++ kinds_of r ∷ []) (drop 1 queries) f.1))
    ] f

pub queries_fit : (p : Meant) → ProgramFits [] p.queries p.catalog → QueriesFit [] p.queries p.catalog
queries_fit p f = fit_from p.catalog [] p.queries f
