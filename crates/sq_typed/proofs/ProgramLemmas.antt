-- The rows of the views of a program.
use Rattle.std.proofs.Common.{◌≡◌, ℕ, List, [], ◌∷◌, ◌++◌, map, fold, drop, length, refl, sym, ap, subst, ◌∙◌}
use Rattle.std.specs.Prelude.{Some}
use Rattle.std.specs.List.{AllByRecursion}
use Rattle.sq_expr.proofs.Lists.{all_append}
use Rattle.sq_catalog.specs.declared.relation.Relation.{Relation}
use Rattle.sq_catalog.specs.declared.relation.RelationKind.TheVariants.{Table, View}
use Rattle.sq_typed.specs.declared.query.Query.{Query}
use Rattle.sq_typed.specs.From.{Answer}
use Rattle.sq_typed.specs.Queries.{Contents}
use Rattle.sq_typed.specs.Tables.{Tables}
use Rattle.sq_typed.specs.Relations.{columns_given}
use Rattle.sq_typed.specs.Views.{Meant, Standing, first_rows, first_answer, with_table, with_view, with_relation, views}
use Rattle.sq_typed.specs.Laws.{AreOfWidth, HasItsWidth, by_kind, FirstGives, QueriesFit, TablesFit}
use Rattle.sq_typed.proofs.ColumnLemmas.{query_is_wide}

-- relations before some point with so many columns each, whose rows have their width, and so the views among them
pub record Good (widths : List ℕ) (s : Standing) : Type 0 where
  pub are : map (λ c. c.width) s.contents ≡ widths
  pub contents : AllByRecursion (λ c. AreOfWidth c.width c.rows) s.contents
  pub given : AllByRecursion HasItsWidth s.given

widths_more : (cs : List Contents) (c : Contents) (widths : List ℕ) (w : ℕ) → map (λ c. c.width) cs ≡ widths → c.width ≡ w → map (λ c. c.width) (cs ++ c ∷ []) ≡ widths ++ w ∷ []
widths_more [] c widths w is ew = (λ i. ew i ∷ []) ∙ ap (λ ws. ws ++ w ∷ []) is
widths_more (d ∷ cs) c widths w is ew = ap (λ ws. d.width ∷ ws) (widths_more cs c (map (λ c. c.width) cs) w refl ew) ∙ ap (λ ws. ws ++ w ∷ []) is

pub good_table : (widths : List ℕ) (s : Standing) (w : ℕ) → Good widths s → AreOfWidth w (first_rows s.tables) → Good (widths ++ w ∷ []) (with_table w s)
good_table widths s w g h = record {
  are = widths_more s.contents (record { width = w; rows = first_rows s.tables }) widths w g.are refl;
  contents = all_append (λ c. AreOfWidth c.width c.rows) s.contents (record { width = w; rows = first_rows s.tables } ∷ []) g.contents (h, tt);
  given = g.given;
}

first_is_wide : (widths : List ℕ) (contents : List Contents) → map (λ c. c.width) contents ≡ widths → AllByRecursion (λ c. AreOfWidth c.width c.rows) contents → (w : ℕ) (queries : List Query) → FirstGives widths w queries →
    ((first_answer contents queries).width ≡ w) × AreOfWidth w (first_answer contents queries).rows
first_is_wide widths contents is good w [] h = absurd h
first_is_wide widths contents is good w (q ∷ queries) h = query_is_wide contents good q w (subst (λ ws. columns_given ws q ≡ Some w) (sym is) h)

pub good_view : (widths : List ℕ) (s : Standing) (w : ℕ) → Good widths s → FirstGives widths w s.queries → Good (widths ++ w ∷ []) (with_view (first_answer s.contents s.queries) s)
good_view widths s w g h =
    let a : Answer = first_answer s.contents s.queries in
    let wide = first_is_wide widths s.contents g.are g.contents w s.queries h in
    let own : HasItsWidth (first_answer s.contents s.queries) = subst (λ n. AreOfWidth n (first_answer s.contents s.queries).rows) (sym wide.0) wide.1 in
    record {
      are = widths_more s.contents (record { width = a.width; rows = a.rows }) widths w g.are wide.0;
      contents = all_append (λ c. AreOfWidth c.width c.rows) s.contents (record { width = a.width; rows = a.rows } ∷ []) g.contents (own, tt);
      given = all_append HasItsWidth s.given (a ∷ []) g.given (own, tt);
    }

all_good : (rs : List Relation) (widths : List ℕ) (s : Standing) → Good widths s → QueriesFit widths s.queries rs → TablesFit s.tables rs → AllByRecursion HasItsWidth (fold (λ s r. with_relation r.kind (length r.columns) s) s rs).given
all_good [] widths s g q t = g.given
all_good (r ∷ rs) widths s g q t =
    elim r.kind as (λ k.
    by_kind k (QueriesFit (widths ++ length r.columns ∷ []) s.queries rs) (FirstGives widths (length r.columns) s.queries × QueriesFit (widths ++ length r.columns ∷ []) (drop 1 s.queries) rs) →
    by_kind k (AreOfWidth (length r.columns) (first_rows s.tables) × TablesFit (drop 1 s.tables) rs) (TablesFit s.tables rs) →
    AllByRecursion HasItsWidth (fold (λ s r. with_relation r.kind (length r.columns) s) (with_relation k (length r.columns) s) rs).given) [
      | Table ↦ λ q t. all_good rs (widths ++ length r.columns ∷ []) (with_table (length r.columns) s) (good_table widths s (length r.columns) g t.0) q t.1
      | View printed ↦ λ q t. all_good rs (widths ++ length r.columns ∷ []) (with_view (first_answer s.contents s.queries) s) (good_view widths s (length r.columns) g q.0) q.1 t
    ] q t

pub views_have_widths : (p : Meant) (tables : Tables) → QueriesFit [] p.queries p.catalog → TablesFit tables p.catalog → AllByRecursion HasItsWidth (views p tables)
unfolding views
views_have_widths p tables q t =
    all_good p.catalog [] (record { contents = []; given = []; tables = tables; queries = p.queries }) (record { are = refl; contents = tt; given = tt }) q t
