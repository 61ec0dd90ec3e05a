-- The programs of statements without faults fit.
use Rattle.std.proofs.Common.{◌≡◌, ℕ, List, [], ◌∷◌, ◌++◌, map, drop, find, length, Bool, true, false, cond, not, refl, sym, subst, ◌∙◌, append_assoc}
use Rattle.std.specs.Prelude.{Some, None}
use Rattle.std.specs.List.{AllByRecursion, list_any}
use Rattle.std.proofs.lemmas.List.{append-nil}
use Rattle.std.proofs.lemmas.List.Sums.{fold-append}
use Rattle.sq_token.specs.declared.token.Token.{Token}
use Rattle.sq_ast.specs.Spelling.{Spells}
use Rattle.sq_ast.specs.declared.statement.Body.{Body}
use Rattle.sq_ast.specs.declared.statement.Body.TheVariants as body
use Rattle.sq_ast.specs.declared.statement.ColumnTree.{ColumnTree}
use Rattle.sq_ast.specs.declared.statement.Statement.{Statement}
use Rattle.sq_catalog.specs.Names.{is_named}
use Rattle.sq_catalog.specs.declared.relation.Column.{Column}
use Rattle.sq_catalog.specs.declared.relation.Relation.{Relation}
use Rattle.sq_catalog.specs.declared.relation.RelationKind.TheVariants.{Table, View}
use Rattle.sq_expr.specs.declared.expr.Kind.{Kind}
use Rattle.sq_expr.proofs.Lists.{all_weaker}
use Rattle.sq_typed.specs.declared.query.Query.{Query}
use Rattle.sq_typed.specs.Faults.{Described, described, has_unknown_column, has_mixed_types, has_wide_expr, differ_in_count, mixes_sorts, has, kinds_in_order, first_kind, first_fault, refused}
use Rattle.sq_typed.specs.Fit.{Fits, kinds_given, kinds_of, FirstFits, ProgramFits, TablesAreOfKinds, Pairwise, GivesKinds, view_kinds}
use Rattle.sq_typed.specs.Laws.{by_kind, QueriesFit}
use Rattle.sq_typed.specs.Programs.{table_column, is_printed, with_table, with_view, with_body, program_of, catalog_of}
use Rattle.sq_typed.specs.Resolved.{Resolved, resolved}
use Rattle.sq_typed.specs.Scopes.{Text}
use Rattle.sq_typed.specs.Selected.{Scoped}
use Rattle.sq_typed.specs.Tables.{Tables}
use Rattle.sq_typed.specs.Views.{Meant, verdict, views}
use Rattle.sq_typed.specs.Written.{has_member, IsWritten, AreWritten, AllWritten}
use Rattle.sq_typed.proofs.FaultLaws.{accepted}
use Rattle.sq_typed.proofs.FitBlocks.{not_false}
use Rattle.sq_typed.proofs.FitPrograms.{queries_fit, views_are_of_kinds}
use Rattle.sq_typed.proofs.FitQueries.{or_left, or_right, none_pass}
use Rattle.sq_typed.proofs.FitResolved.{IsSound, IsMatched, IsClean, query_fits}
use Rattle.sq_typed.proofs.WrittenLemmas.{spelled_is_written}

-- ---- a statement without faults

find_none : {A : Type 0} (p : A → Bool) (xs : List A) → find p xs ≡ None → AllByRecursion (λ x. p x ≡ false) xs
find_none p [] e = tt
find_none p (x ∷ xs) e =
    elim (p x) as (λ b. p x ≡ b → cond b (Some x) (find p xs) ≡ None → AllByRecursion (λ x. p x ≡ false) (x ∷ xs)) [
      | true ↦ λ is e. absurd (cc e)
      | false ↦ λ is e. (is, find_none p xs e)
    ] refl e

no_kind : (before : List Statement) (s : Statement) → first_fault before s ≡ None → AllByRecursion (λ kind. has (catalog_of before) (length before) (described (catalog_of before) s.body) kind ≡ false) kinds_in_order
unfolding first_kind
no_kind before s e = find_none (has (catalog_of before) (length before) (described (catalog_of before) s.body)) kinds_in_order e

all_sound : (bs : List Scoped) → AllByRecursion (λ b. has_unknown_column b ≡ false) bs → AllByRecursion (λ b. has_mixed_types b ≡ false) bs → AllByRecursion (λ b. has_wide_expr b ≡ false) bs → AllByRecursion IsWritten bs → AllByRecursion IsSound bs
all_sound [] k t n w = tt
all_sound (b ∷ bs) k t n w = (record { known = k.0; typed = t.0; narrow = n.0; written = w.0 }, all_sound bs k.1 t.1 n.1 w.1)

all_matched : (os : List (List (List Column))) → AllByRecursion (λ o. has_member o ≡ true) os → AllByRecursion (λ o. differ_in_count o ≡ false) os → AllByRecursion (λ o. mixes_sorts o ≡ false) os → AllByRecursion IsMatched os
all_matched [] m c s = tt
all_matched (o ∷ os) m c s = (record { some = m.0; counts = c.0; sorts = s.0 }, all_matched os m.1 c.1 s.1)

clean : (relations : List Relation) (before : ℕ) (d : Described) → AllByRecursion (λ kind. has relations before d kind ≡ false) kinds_in_order → AreWritten d.parts → IsClean relations d.parts
clean relations before d none w =
    let unknown = none.1.1.1.1.0 in
    let counts = none.1.1.1.1.1.1.1.1.0 in
    let types = none.1.1.1.1.1.1.1.1.1.0 in
    let wide = none.1.1.1.1.1.1.1.1.1.1.0 in
    record {
      blocks = all_sound d.parts.blocks (none_pass has_unknown_column d.parts.blocks unknown) (none_pass has_mixed_types d.parts.blocks (or_left (list_any has_mixed_types d.parts.blocks) (list_any mixes_sorts d.parts.operations) types)) (none_pass has_wide_expr d.parts.blocks wide) w.blocks;
      names = all_weaker (λ name. not (is_named name relations) ≡ false) (λ name. is_named name relations ≡ true) d.parts.relations (λ name e. not_false (is_named name relations) e) (none_pass (λ name. not (is_named name relations)) d.parts.relations none.1.0);
      operations = all_matched d.parts.operations w.operations (none_pass differ_in_count d.parts.operations counts) (none_pass mixes_sorts d.parts.operations (or_right (list_any has_mixed_types d.parts.blocks) (list_any mixes_sorts d.parts.operations) types));
    }

-- ---- one more relation

abbrev Kinds : Type 0
Kinds = List (List Kind)

more_kinds : (kss : Kinds) (r : Relation) (rs : List Relation) → kss ++ map kinds_of (r ∷ rs) ≡ (kss ++ kinds_of r ∷ []) ++ map kinds_of rs
more_kinds kss r rs = sym (append_assoc kss (kinds_of r ∷ []) (map kinds_of rs))

fits_first : (kss : Kinds) (kinds : List Kind) (qs more : List Query) → FirstFits kss kinds qs → FirstFits kss kinds (qs ++ more)
fits_first kss kinds [] more f = absurd f
fits_first kss kinds (q ∷ qs) more f = f

drop_first : (kss : Kinds) (kinds : List Kind) (qs more : List Query) → FirstFits kss kinds qs → drop 1 (qs ++ more) ≡ drop 1 qs ++ more
drop_first kss kinds [] more f = absurd f
drop_first kss kinds (q ∷ qs) more f = refl

-- a further relation, with its query where it is a view
module _ (r : Relation) (more : List Query) where
  abbrev FitsLast : Kinds → Type 0
  FitsLast kss = ProgramFits kss more (r ∷ [])

  fits_more : (rs : List Relation) (kss : Kinds) (qs : List Query) → ProgramFits kss qs rs → FitsLast (kss ++ map kinds_of rs) → ProgramFits kss (qs ++ more) (rs ++ r ∷ [])
  fits_more [] kss qs p l = subst (λ qs. ProgramFits kss (qs ++ more) (r ∷ [])) (sym p) (subst FitsLast (append-nil kss) l)
  fits_more (s ∷ rs) kss qs p l =
      let later : FitsLast ((kss ++ kinds_of s ∷ []) ++ map kinds_of rs) = subst FitsLast (more_kinds kss s rs) l in
      elim s.kind as (λ k.
      by_kind k (ProgramFits (kss ++ kinds_of s ∷ []) qs rs) (FirstFits kss (kinds_of s) qs × ProgramFits (kss ++ kinds_of s ∷ []) (drop 1 qs) rs) →
      by_kind k (ProgramFits (kss ++ kinds_of s ∷ []) (qs ++ more) (rs ++ r ∷ [])) (FirstFits kss (kinds_of s) (qs ++ more) × ProgramFits (kss ++ kinds_of s ∷ []) (drop 1 (qs ++ more)) (rs ++ r ∷ []))) [
        | Table ↦ λ p. fits_more rs (kss ++ kinds_of s ∷ []) qs p later
        | View printed ↦ λ p. (fits_first kss (kinds_of s) qs more p.0, subst (λ qs. ProgramFits (kss ++ kinds_of s ∷ []) qs (rs ++ r ∷ [])) (sym (drop_first kss (kinds_of s) qs more p.0)) (fits_more rs (kss ++ kinds_of s ∷ []) (drop 1 qs) p.1 later))
      ] p

abbrev ProgramOk : Meant → Type 0
ProgramOk p = ProgramFits [] p.queries p.catalog

with_table_fits : (p : Meant) (name : Text) (columns : List ColumnTree) → ProgramOk p → ProgramOk (with_table p name columns)
with_table_fits p name columns ok =
    subst (λ qs. ProgramFits [] qs (with_table p name columns).catalog) (append-nil p.queries)
    (fits_more (record { name = name; kind = Table; columns = map table_column columns }) [] p.catalog [] p.queries ok refl)

with_view_fits : (p : Meant) (name : Text) (printed : Bool) (r : Resolved) → Fits (map kinds_of p.catalog) r.query → kinds_given (map kinds_of p.catalog) r.query ≡ map (λ c. c.kind) r.columns → ProgramOk p → ProgramOk (with_view p name printed r)
with_view_fits p name printed r fits kinds ok = fits_more (record { name = name; kind = View printed; columns = r.columns }) (r.query ∷ []) p.catalog [] p.queries ok ((fits, kinds), refl)

-- ---- all statements

one_body : (p : Meant) (b : Body) → IsClean p.catalog (described p.catalog b).parts → ProgramOk p → ProgramOk (with_body p b)
one_body p (body.Table name columns) c ok = with_table_fits p name columns ok
one_body p (body.View name flavour q) c ok =
    let fits = query_fits p.catalog q c in
    with_view_fits p name (is_printed flavour) (resolved p.catalog q) fits.0 fits.1 ok

Fine : List Statement → Statement → Type 0
Fine before s = IsClean (catalog_of before) (described (catalog_of before) s.body).parts

one_more : (done : List Statement) (s : Statement) → program_of (done ++ s ∷ []) ≡ with_body (program_of done) s.body
one_more done s = fold-append (λ p s. with_body p s.body) (record { catalog = []; queries = [] }) done (s ∷ [])

all_fit : (statements done rest : List Statement) → statements ≡ done ++ rest → ProgramOk (program_of done) → ((before after : List Statement) (s : Statement) → statements ≡ before ++ s ∷ after → Fine before s) → ProgramOk (program_of statements)
unfolding Fine
all_fit statements done [] is ok fine = subst (λ ss. ProgramOk (program_of ss)) (sym (is ∙ append-nil done)) ok
all_fit statements done (s ∷ rest) is ok fine =
    all_fit statements (done ++ s ∷ []) rest (is ∙ sym (append_assoc done (s ∷ []) rest))
    (subst ProgramOk (sym (one_more done s)) (one_body (program_of done) s.body (fine done rest s is) ok)) fine

pub program_fits : (statements : List Statement) → AllWritten statements → refused statements ≡ None → ProgramFits [] (program_of statements).queries (program_of statements).catalog
unfolding Fine
program_fits statements written e =
    all_fit statements [] statements refl refl
    (λ before after s is. clean (catalog_of before) (length before) (described (catalog_of before) s.body) (no_kind before s (accepted statements e before after s is)) (written before after s is))

-- ---- statements that tokens spell

module _ (tokens : List Token) (statements : List Statement) (spelled : Spells tokens statements) (e : refused statements ≡ None) where
  pub spelled_program_fits : ProgramFits [] (program_of statements).queries (program_of statements).catalog
  spelled_program_fits = program_fits statements (spelled_is_written tokens statements spelled) e

  pub spelled_queries_fit : QueriesFit [] (program_of statements).queries (program_of statements).catalog
  spelled_queries_fit = queries_fit (program_of statements) spelled_program_fits

  pub spelled_views_are_of_kinds : (tables : Tables) → TablesAreOfKinds tables (program_of statements).catalog → verdict (program_of statements) tables ≡ None → Pairwise GivesKinds (views (program_of statements) tables) (view_kinds (program_of statements).catalog)
  spelled_views_are_of_kinds tables good shown = views_are_of_kinds (program_of statements) tables spelled_program_fits good shown

-- all of these
pub ruleset spelled_fits = (program_fits, spelled_program_fits, spelled_queries_fit, spelled_views_are_of_kinds, spelled_is_written)
