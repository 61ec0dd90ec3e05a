-- Going through the relations of a program, and printing its views.
use Rattle.std.proofs.Common.{◌≡◌, ℕ, ◌+◌, List, ◌∷◌, ◌++◌, drop, true, false, Some, refl, sym, ap, ◌∙◌, append_assoc}
use Rattle.std.specs.Prelude.{slice_get}
use Rattle.std.specs.List.{flat_map, enumerate_from}
use Rattle.sq_catalog.specs.declared.relation.Relation.{Relation}
use Rattle.sq_typed.specs.From.{Row}
use Rattle.sq_typed.specs.Laws.{rows_in}
use Rattle.sq_catalog.specs.Sorts.{is_view, views_of}
use Rattle.sq_compile.proofs.RelationLemmas.{drop_at, table_before_views, view_in_front}
use Rattle.sq_ticks.specs.Texts.{view_text}

-- ---- the texts of views

-- the texts of the views among some relations, the first of them with this number
abbrev pub texts_from_view : List (List Row) → List (List Row) → ℕ → List Relation → List ℕ
texts_from_view before now n relations = flat_map (λ v. view_text v.1 (rows_in before v.0) (rows_in now v.0)) (enumerate_from n (views_of relations))

-- a view brings its text
pub texts_view : (before now : List (List Row)) (n : ℕ) (r : Relation) (rs : List Relation) → is_view r.kind ≡ true
    → texts_from_view before now n (r ∷ rs) ≡ view_text r (rows_in before n) (rows_in now n) ++ texts_from_view before now (n + 1) rs
texts_view before now n r rs is = rw (view_in_front r rs is) refl

-- and a table none
pub texts_table : (before now : List (List Row)) (n : ℕ) (r : Relation) (rs : List Relation) → is_view r.kind ≡ false
    → texts_from_view before now n (r ∷ rs) ≡ texts_from_view before now n rs
texts_table before now n r rs is = ap (λ vs. flat_map (λ v. view_text v.1 (rows_in before v.0) (rows_in now v.0)) (enumerate_from n vs)) (table_before_views r rs is)

-- a turn of the loop that prints the views
pub views_passed : (relations : List Relation) (before now : List (List Row)) (i n m : ℕ) (r : Relation) (b w : List Row) (all out next : List ℕ)
    → out ++ texts_from_view before now n (drop i relations) ≡ all → slice_get relations i ≡ Some r → is_view r.kind ≡ true
    → b ≡ rows_in before n → w ≡ rows_in now n → next ≡ out ++ view_text r b w → m ≡ n + 1
    → next ++ texts_from_view before now m (drop (i + 1) relations) ≡ all
views_passed relations before now i n m r b w all out next inv at is be we e me =
    let rest = texts_from_view before now (n + 1) (drop (i + 1) relations) in
    ap (λ k. next ++ texts_from_view before now k (drop (i + 1) relations)) me
    ∙ ap (λ t. t ++ rest) (e ∙ ap (λ x. out ++ view_text r x w) be ∙ ap (λ x. out ++ view_text r (rows_in before n) x) we)
    ∙ append_assoc out (view_text r (rows_in before n) (rows_in now n)) rest
    ∙ ap (λ t. out ++ t) (sym (texts_view before now n r (drop (i + 1) relations) is))
    ∙ ap (λ rs. out ++ texts_from_view before now n rs) (sym (drop_at relations i r at))
    ∙ inv

pub views_skipped : (relations : List Relation) (before now : List (List Row)) (i n m : ℕ) (r : Relation) (all out next : List ℕ)
    → out ++ texts_from_view before now n (drop i relations) ≡ all → slice_get relations i ≡ Some r → is_view r.kind ≡ false
    → next ≡ out → m ≡ n → next ++ texts_from_view before now m (drop (i + 1) relations) ≡ all
views_skipped relations before now i n m r all out next inv at is e me =
    ap (λ t. t ++ texts_from_view before now m (drop (i + 1) relations)) e
    ∙ ap (λ k. out ++ texts_from_view before now k (drop (i + 1) relations)) me
    ∙ ap (λ t. out ++ t) (sym (texts_table before now n r (drop (i + 1) relations) is))
    ∙ ap (λ rs. out ++ texts_from_view before now n rs) (sym (drop_at relations i r at))
    ∙ inv
