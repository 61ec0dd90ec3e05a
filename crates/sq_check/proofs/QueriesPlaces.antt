-- Columns place by place.
use Rattle.std.proofs.Common.{◌≡◌, ℕ, zero, suc, ◌<◌, List, [], ◌∷◌, ◌++◌, take, drop, length, get_or, true, false, if◌then◌else◌, ◌||◌, refl, sym, ap, ◌∙◌, arith}
use Rattle.std.specs.Prelude.{Some, bytes_eq, slice_get}
use Rattle.std.proofs.lemmas.List.Quantifiers.{position-Some}
use Rattle.std.proofs.lemmas.Option.{same_Some}
use Rattle.sq_catalog.specs.declared.relation.Column.{Column}
use Rattle.sq_catalog.specs.declared.relation.Relation.{Relation}
use Rattle.sq_catalog.specs.Names.{place_of, is_named}
use Rattle.sq_typed.specs.Faults.{differ_in_sort}
use Rattle.sq_typed.specs.Resolved.{relation_columns, widened}
use Rattle.sq_typed.specs.Scopes.{Text}
use Rattle.sq_check.specs.QueriesFound.{is_unlike, wider_by}
use Rattle.sq_check.proofs.QueriesAdded.{or_left, or_right}

none_behind : (cs : List Column) → differ_in_sort cs [] ≡ false
none_behind [] = refl
none_behind (c ∷ cs) = refl

pub sort_step : (cs ds : List Column) (i : ℕ) (c : Column) → i < length cs → c ≡ get_or cs i c → differ_in_sort (drop i cs) (drop i ds) ≡ (is_unlike c.kind (slice_get ds i) || differ_in_sort (drop (suc i) cs) (drop (suc i) ds))
sort_step [] ds i c below at = absurd (omega (arith, below))
sort_step (b ∷ cs) [] zero c below at = sym (none_behind cs)
sort_step (b ∷ cs) (d ∷ ds) zero c below at = ap (λ (x : Column). is_unlike x.kind (Some d) || differ_in_sort cs ds) (sym at)
sort_step (b ∷ cs) [] (suc i) c below at = ap (differ_in_sort (drop i cs)) (sym (nothing i)) ∙ sort_step cs [] i c (omega (arith, below)) at
  where
    nothing : (i : ℕ) → ◌≡◌ {A = List Column} (drop i []) []
    nothing zero = refl
    nothing (suc i) = refl
sort_step (b ∷ cs) (d ∷ ds) (suc i) c below at = sort_step cs ds i c (omega (arith, below)) at

pub wide_step : (cs ds : List Column) (i : ℕ) (c : Column) → i < length cs → c ≡ get_or cs i c → widened (take (suc i) cs) ds ≡ widened (take i cs) ds ++ record { name = c.name; kind = wider_by c.kind (slice_get ds i); nullable = c.nullable } ∷ []
wide_step [] ds i c below at = absurd (omega (arith, below))
wide_step (b ∷ cs) [] zero c below at = ap (λ (x : Column). record { name = x.name; kind = x.kind; nullable = x.nullable } ∷ []) (sym at)
wide_step (b ∷ cs) (d ∷ ds) zero c below at = ap (λ (x : Column). record { name = x.name; kind = wider_by x.kind (Some d); nullable = x.nullable } ∷ []) (sym at)
wide_step (b ∷ cs) [] (suc i) c below at = ap (λ es. b ∷ es) (sym (plain (take (suc i) cs)) ∙ (wide_step cs [] i c (omega (arith, below)) at ∙ ap (λ es. es ++ record { name = c.name; kind = c.kind; nullable = c.nullable } ∷ []) (plain (take i cs))))
  where
    plain : (cs : List Column) → widened cs [] ≡ cs
    plain [] = refl
    plain (c ∷ cs) = refl
wide_step (b ∷ cs) (d ∷ ds) (suc i) c below at = ap (λ es. record { name = b.name; kind = wider_by b.kind (Some d); nullable = b.nullable } ∷ es) (wide_step cs ds i c (omega (arith, below)) at)

-- ---- the columns of a relation by its name

at_place : (name : Text) (rs : List Relation) (i : ℕ) (r : Relation) → slice_get rs i ≡ Some r → bytes_eq name (get_or rs i r).name ≡ true → ((k : ℕ) → k < i → bytes_eq name (get_or rs k r).name ≡ false) → r.columns ≡ relation_columns name rs
at_place name [] i r at here before = absurd (cc at)
at_place name (s ∷ rs) zero r at here before = ap (λ (x : Relation). x.columns) (sym (same_Some s r at)) ∙ ap (λ b. if b then s.columns else relation_columns name rs) (sym here)
at_place name (s ∷ rs) (suc i) r at here before =
    at_place name rs i r at here (λ k below. before (suc k) (omega (arith, below))) ∙ ap (λ b. if b then s.columns else relation_columns name rs) (sym (before 0 (omega arith)))

pub named_at : (name : Text) (rs : List Relation) (i : ℕ) (r : Relation) → place_of name rs ≡ Some i → slice_get rs i ≡ Some r → r.columns ≡ relation_columns name rs
named_at name rs i r place at =
    let first = position-Some (λ (r : Relation). bytes_eq name r.name) rs i r place in
    at_place name rs i r at first.1 first.2

pub unnamed : (name : Text) (rs : List Relation) → is_named name rs ≡ false → [] ≡ relation_columns name rs
unnamed name [] h = refl
unnamed name (r ∷ rs) h = unnamed name rs (or_right (bytes_eq name r.name) (is_named name rs) h) ∙ ap (λ b. if b then r.columns else relation_columns name rs) (sym (or_left (bytes_eq name r.name) (is_named name rs) h))
