-- The views of a program, relation by relation.
use Rattle.std.proofs.Common.{◌≡◌, ℕ, zero, suc, ◌+◌, ◌<◌, ◌≤◌, List, [], ◌∷◌, ◌++◌, drop, fold, length, map, Bool, true, false, cond, ◌||◌, refl, sym, ap, subst, ◌∙◌, append_assoc, append-nil, add-one, arith}
use Rattle.std.proofs.lemmas.Iterator.Adapters.{position_from-zero}
use Rattle.std.proofs.lemmas.List.{length-append}
use Rattle.std.specs.Prelude.{Some, None, slice_get}
use Rattle.std.specs.List.{list_any, position, position_from}
use Rattle.sq_catalog.specs.declared.relation.Relation.{Relation}
use Rattle.sq_catalog.specs.declared.relation.RelationKind.{RelationKind}
use Rattle.sq_catalog.specs.declared.relation.RelationKind.TheVariants.{Table, View}
use Rattle.sq_expr.specs.declared.expr.Kind.{Kind}
use Rattle.sq_typed.specs.declared.query.Query.{Query}
use Rattle.sq_typed.specs.Checked.{IsChecked}
use Rattle.sq_typed.specs.Fit.{AreAllOfKinds, FirstFits, Fits, GivesKinds, HoldsKinds, Pairwise, ProgramFits, TablesAreOfKinds, kinds_given, kinds_of}
use Rattle.sq_typed.specs.From.{Answer}
use Rattle.sq_typed.specs.Laws.{by_kind}
use Rattle.sq_typed.specs.Queries.{Contents, answer, has_range_fault}
use Rattle.sq_typed.specs.Tables.{Tables}
use Rattle.sq_typed.specs.Views.{Meant, Standing, first_answer, first_rows, shown, standing, verdict, views, with_relation, with_table, with_view}
use Rattle.sq_typed.proofs.FitQueries.{rows_of_query}
use Rattle.sq_typed.proofs.FitRows.{length_mapped}
use Rattle.sq_lists.specs.Answers.{CanAnswer, Lists}
use Rattle.sq_lists.specs.Listings.{contents_of}
use Rattle.sq_lists.specs.Walks.{IsView, Walk}
use Rattle.sq_lists.specs.declared.listing.Listing.{Listing}
use Rattle.sq_lists.specs.declared.views.SoFar.{SoFar}
use Rattle.sq_typed.proofs.CheckedFits.{checked_fits}
use Rattle.sq_lists.proofs.Loops.{list_any-append, map-append}
use Rattle.sq_lists.proofs.QueryLists.{drop_here, drop_past, pairwise_more}

-- ---- the first that passes a test

both_fail : (a b : Bool) → (a || b) ≡ false → (a ≡ false) × (b ≡ false)
both_fail false b e = (refl, e)
both_fail true b e = absurd (cc e)

first_from : {A : Type 0} (p : A → Bool) (xs more : List A) (x : A) (i : ℕ) → list_any p xs ≡ false → p x ≡ true → position_from p i (xs ++ x ∷ more) ≡ Some (i + length xs)
first_from p [] more x i none e = ap (λ b. cond b (Some i) (position_from p (i + 1) more)) e ∙ ap Some (omega arith)
first_from p (y ∷ xs) more x i none e =
    let parts : (p y ≡ false) × (list_any p xs ≡ false) = both_fail (p y) (list_any p xs) none in
    ap (λ b. cond b (Some i) (position_from p (i + 1) (xs ++ x ∷ more))) parts.0
    ∙ first_from p xs more x (i + 1) parts.1 e
    ∙ ap Some (omega arith)

none_from : {A : Type 0} (p : A → Bool) (xs : List A) (i : ℕ) → list_any p xs ≡ false → position_from p i xs ≡ None
none_from p [] i none = refl
none_from p (x ∷ xs) i none =
    let parts : (p x ≡ false) × (list_any p xs ≡ false) = both_fail (p x) (list_any p xs) none in
    ap (λ b. cond b (Some i) (position_from p (i + 1) xs)) parts.0 ∙ none_from p xs (i + 1) parts.1

first_passing : {A : Type 0} (p : A → Bool) (xs more : List A) (x : A) → list_any p xs ≡ false → p x ≡ true → position p (xs ++ x ∷ more) ≡ Some (length xs)
first_passing p xs more x none e = position_from-zero p (xs ++ x ∷ more) ∙ first_from p xs more x 0 none e ∙ ap Some (omega arith)

none_passing : {A : Type 0} (p : A → Bool) (xs : List A) → list_any p xs ≡ false → position p xs ≡ None
none_passing p xs none = position_from-zero p xs ∙ none_from p xs 0 none

-- ---- lists

drop_suc : {A : Type 0} (xs : List A) (n : ℕ) → drop 1 (drop n xs) ≡ drop (suc n) xs
drop_suc [] zero = refl
drop_suc [] (suc n) = refl
drop_suc (x ∷ xs) zero = refl
drop_suc (x ∷ xs) (suc n) = drop_suc xs n

drop_next : {A : Type 0} (xs : List A) (n : ℕ) → drop 1 (drop n xs) ≡ drop (n + 1) xs
drop_next xs n = drop_suc xs n ∙ ap (λ m. drop m xs) (sym (add-one n))

abbrev with_all : Standing → List Relation → Standing
with_all s rs = fold (λ s (r : Relation). with_relation r.kind (length r.columns) s) s rs

-- the views given so far are the first of those given at the end
given_grows : (rs : List Relation) (s : Standing) → (more : List Answer) × ((with_all s rs).given ≡ s.given ++ more)
given_grows [] s = ([], sym (append-nil s.given))
given_grows (r ∷ rs) s =
    elim r.kind as (λ k. (more : List Answer) × ((with_all (with_relation k (length r.columns) s) rs).given ≡ s.given ++ more)) [
      | Table ↦ given_grows rs (with_table (length r.columns) s)
      | View printed ↦
          let a : Answer = first_answer s.contents s.queries in
          let rest = given_grows rs (with_view (first_answer s.contents s.queries) s) in
          (a ∷ rest.0, rest.1 ∙ append_assoc s.given (a ∷ []) rest.0)
    ]

-- the next query
first_there : (kss : List (List Kind)) (ks : List Kind) (qs : List Query) (n : ℕ) → FirstFits kss ks (drop n qs) → n < length qs
first_there kss ks [] zero f = absurd f
first_there kss ks [] (suc n) f = absurd f
first_there kss ks (q ∷ qs) zero f = omega arith
first_there kss ks (q ∷ qs) (suc n) f = omega (arith, first_there kss ks qs n f)

-- ---- the walk

pub walk_starts : (p : Meant) (tables : Tables) → IsChecked p → TablesAreOfKinds tables p.catalog → (w : SoFar) → w.listings.items ≡ [] → w.shown.items ≡ [] → w.tables ≡ 0 → w.views ≡ 0 → Walk p tables 0 w
walk_starts p tables checked are w l s t v = record {
  before = record { contents = []; given = []; tables = tables; queries = p.queries };
  kinds = [];
  contents = ap (map contents_of) l;
  shown = s;
  tables_left = ap (λ n. drop n tables) (sym t);
  queries_left = ap (λ n. drop n p.queries) (sym v);
  count = sym v;
  few_tables = omega (arith, t);
  few_views = omega (arith, v);
  inside = refl;
  hold = tt;
  fits = checked_fits p checked;
  tables_are = are;
  goes_on = refl;
}

pub walk_ends : (p : Meant) (tables : Tables) (i : ℕ) (w : SoFar) → Walk p tables i w → length p.catalog ≤ i → (w.shown.items ≡ shown p tables) × (verdict p tables ≡ None)
unfolding views verdict
walk_ends p tables i w walk past =
    let all : standing p tables ≡ walk.before = walk.goes_on ∙ ap (with_all walk.before) (drop_past p.catalog i past) in (
      walk.shown ∙ ap (λ (s : Standing). map (λ (a : Answer). a.rows) s.given) (sym all),
      ap (λ (s : Standing). position has_range_fault s.given) all ∙ none_passing has_range_fault walk.before.given walk.inside,
    )

module _ (p : Meant) (tables : Tables) (i : ℕ) (w : SoFar) (walk : Walk p tables i w) (r : Relation) (found : slice_get p.catalog i ≡ Some r) where
  abbrev later : List Relation
  later = drop (i + 1) p.catalog

  left_is : drop i p.catalog ≡ r ∷ later
  left_is = drop_here p.catalog i r found

  fits_here : ProgramFits walk.kinds walk.before.queries (r ∷ later)
  fits_here = subst (ProgramFits walk.kinds walk.before.queries) left_is walk.fits

  tables_here : TablesAreOfKinds walk.before.tables (r ∷ later)
  tables_here = subst (TablesAreOfKinds walk.before.tables) left_is walk.tables_are

  all_here : standing p tables ≡ with_all (with_relation r.kind (length r.columns) walk.before) later
  all_here = walk.goes_on ∙ ap (with_all walk.before) left_is

  contents_more : (now : List Listing) (l : Listing) (c : Contents) → now ≡ w.listings.items ++ l ∷ [] → contents_of l ≡ c → map contents_of now ≡ walk.before.contents ++ c ∷ []
  contents_more now l c is e = ap (map contents_of) is ∙ map-append contents_of w.listings.items (l ∷ []) ∙ (λ j. walk.contents j ++ e j ∷ [])

  module _ (kind : r.kind ≡ Table) (now : SoFar) (l : Listing) (width : l.width ≡ length r.columns) (rows : l.rows ≡ first_rows (drop w.tables tables)) (listings : now.listings.items ≡ w.listings.items ++ l ∷ []) (same : now.shown.items ≡ w.shown.items) (one_more : now.tables ≡ w.tables + 1) (as_many : now.views ≡ w.views) where
    table_fits : ProgramFits (walk.kinds ++ kinds_of r ∷ []) walk.before.queries later
    table_fits = subst (λ k. by_kind k (ProgramFits (walk.kinds ++ kinds_of r ∷ []) walk.before.queries later) (FirstFits walk.kinds (kinds_of r) walk.before.queries × ProgramFits (walk.kinds ++ kinds_of r ∷ []) (drop 1 walk.before.queries) later)) kind fits_here

    table_rows_are : AreAllOfKinds (first_rows walk.before.tables) (kinds_of r) × TablesAreOfKinds (drop 1 walk.before.tables) later
    table_rows_are = subst (λ k. by_kind k (AreAllOfKinds (first_rows walk.before.tables) (kinds_of r) × TablesAreOfKinds (drop 1 walk.before.tables) later) (TablesAreOfKinds walk.before.tables later)) kind tables_here

    pub table_goes : Walk p tables (i + 1) now
    table_goes = record {
      before = with_table (length r.columns) walk.before;
      kinds = walk.kinds ++ kinds_of r ∷ [];
      contents = contents_more now.listings.items l (record { width = length r.columns; rows = first_rows walk.before.tables }) listings (λ j. record { width = width j; rows = (rows ∙ ap first_rows (sym walk.tables_left)) j });
      shown = same ∙ walk.shown;
      tables_left = ap (drop 1) walk.tables_left ∙ drop_next tables w.tables ∙ ap (λ n. drop n tables) (sym one_more);
      queries_left = walk.queries_left ∙ ap (λ n. drop n p.queries) (sym as_many);
      count = walk.count ∙ sym as_many;
      few_tables = omega (arith, one_more, walk.few_tables);
      few_views = omega (arith, as_many, walk.few_views);
      inside = walk.inside;
      hold = pairwise_more HoldsKinds walk.before.contents walk.kinds (record { width = length r.columns; rows = first_rows walk.before.tables }) (kinds_of r) walk.hold (sym (length_mapped (λ c. c.kind) r.columns), table_rows_are.0);
      fits = table_fits;
      tables_are = table_rows_are.1;
      goes_on = all_here ∙ ap (λ k. with_all (with_relation k (length r.columns) walk.before) later) kind;
    }

  module _ (printed : Bool) (kind : r.kind ≡ View printed) where
    view_fits : FirstFits walk.kinds (kinds_of r) walk.before.queries × ProgramFits (walk.kinds ++ kinds_of r ∷ []) (drop 1 walk.before.queries) later
    view_fits = subst (λ k. by_kind k (ProgramFits (walk.kinds ++ kinds_of r ∷ []) walk.before.queries later) (FirstFits walk.kinds (kinds_of r) walk.before.queries × ProgramFits (walk.kinds ++ kinds_of r ∷ []) (drop 1 walk.before.queries) later)) kind fits_here

    one_there : w.views < length p.queries
    one_there = first_there walk.kinds (kinds_of r) p.queries w.views (subst (FirstFits walk.kinds (kinds_of r)) walk.queries_left view_fits.0)

    module _ (q : Query) (at : slice_get p.queries w.views ≡ Some q) where
      queries_are : walk.before.queries ≡ q ∷ drop (w.views + 1) p.queries
      queries_are = walk.queries_left ∙ drop_here p.queries w.views q at

      own_fits : Fits walk.kinds q × (kinds_given walk.kinds q ≡ kinds_of r)
      own_fits = subst (FirstFits walk.kinds (kinds_of r)) queries_are view_fits.0

      one_can : CanAnswer (map contents_of w.listings.items) q
      one_can = record { kinds = walk.kinds; hold = subst (λ cs. Pairwise HoldsKinds cs walk.kinds) (sym walk.contents) walk.hold; fits = own_fits.0 }

      -- what the view gives
      abbrev own : Answer
      own = first_answer walk.before.contents walk.before.queries

      own_is : own ≡ answer (map contents_of w.listings.items) q
      own_is = (λ j. first_answer (sym walk.contents j) (queries_are j))

      all_views : standing p tables ≡ with_all (with_view own walk.before) later
      all_views = all_here ∙ ap (λ k. with_all (with_relation k (length r.columns) walk.before) later) kind

      one_out : has_range_fault (answer (map contents_of w.listings.items) q) ≡ true → verdict p tables ≡ Some w.views
      unfolding views verdict
      one_out e =
          let rest = given_grows later (with_view own walk.before) in
          ap (λ (s : Standing). position has_range_fault s.given) all_views
          ∙ ap (position has_range_fault) (rest.1 ∙ append_assoc walk.before.given (own ∷ []) rest.0)
          ∙ first_passing has_range_fault walk.before.given rest.0 own walk.inside (ap has_range_fault own_is ∙ e)
          ∙ ap Some walk.count

      module _ (l : Listing) (lists : Lists l (answer (map contents_of w.listings.items) q)) where
        own_inside : has_range_fault own ≡ false
        own_inside = ap has_range_fault own_is ∙ lists.inside

        own_gives : GivesKinds own (kinds_of r)
        own_gives =
            subst (GivesKinds own) own_fits.1
            (subst (λ a. GivesKinds a (kinds_given walk.kinds q)) (sym (own_is ∙ (λ j. answer (walk.contents j) q)))
            (rows_of_query walk.before.contents walk.kinds walk.hold q own_fits.0 (ap (λ cs. has_range_fault (answer cs q)) (sym walk.contents) ∙ lists.inside)))

        one_goes : (now : SoFar) → now.listings.items ≡ w.listings.items ++ l ∷ [] → now.shown.items ≡ w.shown.items ++ l.rows ∷ [] → now.tables ≡ w.tables → now.views ≡ w.views + 1 → Walk p tables (i + 1) now
        one_goes now listings shown_more as_many one_more = record {
          before = with_view own walk.before;
          kinds = walk.kinds ++ kinds_of r ∷ [];
          contents = contents_more now.listings.items l (record { width = own.width; rows = own.rows }) listings (λ j. record { width = (lists.width ∙ sym (ap (λ (a : Answer). a.width) own_is)) j; rows = (lists.rows ∙ sym (ap (λ (a : Answer). a.rows) own_is)) j });
          shown = shown_more ∙ (λ j. walk.shown j ++ (lists.rows ∙ sym (ap (λ (a : Answer). a.rows) own_is)) j ∷ []) ∙ sym (map-append (λ (a : Answer). a.rows) walk.before.given (own ∷ []));
          tables_left = walk.tables_left ∙ ap (λ n. drop n tables) (sym as_many);
          queries_left = ap (drop 1) walk.queries_left ∙ drop_next p.queries w.views ∙ ap (λ n. drop n p.queries) (sym one_more);
          count = length-append walk.before.given (own ∷ []) ∙ omega (arith, walk.count, one_more);
          few_tables = omega (arith, as_many, walk.few_tables);
          few_views = omega (arith, one_more, walk.few_views);
          inside = list_any-append has_range_fault walk.before.given (own ∷ []) ∙ (λ j. walk.inside j || (own_inside j || false));
          hold = pairwise_more HoldsKinds walk.before.contents walk.kinds (record { width = own.width; rows = own.rows }) (kinds_of r) walk.hold own_gives;
          fits = view_fits.1;
          tables_are = subst (λ k. by_kind k (AreAllOfKinds (first_rows walk.before.tables) (kinds_of r) × TablesAreOfKinds (drop 1 walk.before.tables) later) (TablesAreOfKinds walk.before.tables later)) kind tables_here;
          goes_on = all_views;
        }

-- ---- the same where the relation is some view

printed_or_not : (k : RelationKind) → IsView k → (printed : Bool) × (k ≡ View printed)
printed_or_not Table h = absurd h
printed_or_not (View printed) h = (printed, refl)

module _ (p : Meant) (tables : Tables) (i : ℕ) (w : SoFar) (walk : Walk p tables i w) (r : Relation) (found : slice_get p.catalog i ≡ Some r) (is_view : IsView r.kind) where
  pub view_there : w.views < length p.queries
  view_there = let k = printed_or_not r.kind is_view in one_there p tables i w walk r found k.0 k.1

  module _ (q : Query) (at : slice_get p.queries w.views ≡ Some q) where
    pub view_can : CanAnswer (map contents_of w.listings.items) q
    view_can = let k = printed_or_not r.kind is_view in one_can p tables i w walk r found k.0 k.1 q at

    pub view_out : has_range_fault (answer (map contents_of w.listings.items) q) ≡ true → verdict p tables ≡ Some w.views
    view_out e = let k = printed_or_not r.kind is_view in one_out p tables i w walk r found k.0 k.1 q at e

    pub view_goes : (l : Listing) → Lists l (answer (map contents_of w.listings.items) q) → (now : SoFar) → now.listings.items ≡ w.listings.items ++ l ∷ [] → now.shown.items ≡ w.shown.items ++ l.rows ∷ [] → now.tables ≡ w.tables → now.views ≡ w.views + 1 → Walk p tables (i + 1) now
    view_goes l lists now listings shown_more as_many one_more = let k = printed_or_not r.kind is_view in one_goes p tables i w walk r found k.0 k.1 q at l lists now listings shown_more as_many one_more
