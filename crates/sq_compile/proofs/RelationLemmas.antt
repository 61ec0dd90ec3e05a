-- Going through the relations of a program, one after the other.
use Rattle.std.proofs.Common.{◌≡◌, ℕ, zero, suc, ◌+◌, ◌<◌, List, [], ◌∷◌, length, get_or, drop, true, false, Some, refl, sym, ap, subst, ◌∙◌, arith}
use Rattle.std.specs.Prelude.{slice_get}
use Rattle.std.proofs.lemmas.Option.{same_Some, slice_get_read}
use Rattle.sq_catalog.specs.declared.relation.Relation.{Relation}
use Rattle.sq_catalog.specs.Sorts.{is_table, is_view, views_of}
use Rattle.sq_compile.specs.Relations.{empty_tables, name_of, view_name}

-- ---- one relation in front of the others

drop_here : {X : Type 0} (xs : List X) (i : ℕ) (x : X) → slice_get xs i ≡ Some x → drop i xs ≡ x ∷ drop (suc i) xs
drop_here [] i x e = absurd (cc)
drop_here (y ∷ xs) zero x e = ap (λ z. z ∷ xs) (same_Some y x e)
drop_here (y ∷ xs) (suc i) x e = drop_here xs i x e

pub drop_at : {X : Type 0} (xs : List X) (i : ℕ) (x : X) → slice_get xs i ≡ Some x → drop i xs ≡ x ∷ drop (i + 1) xs
drop_at xs i x e = let next : suc i ≡ i + 1 = omega arith in subst (λ n. drop i xs ≡ x ∷ drop n xs) next (drop_here xs i x e)

pub drop_read : {X : Type 0} (xs : List X) (i : ℕ) (x : X) → i < length xs → x ≡ get_or xs i x → drop i xs ≡ x ∷ drop (i + 1) xs
drop_read xs i x lt at = drop_at xs i x (slice_get_read xs (length xs) i x refl lt at)

pub table_in_front : (r : Relation) (rs : List Relation) → is_table r.kind ≡ true → empty_tables (r ∷ rs) ≡ [] ∷ empty_tables rs
table_in_front r rs is = rw is refl

pub view_before_tables : (r : Relation) (rs : List Relation) → is_table r.kind ≡ false → empty_tables (r ∷ rs) ≡ empty_tables rs
view_before_tables r rs is = rw is refl

pub view_in_front : (r : Relation) (rs : List Relation) → is_view r.kind ≡ true → views_of (r ∷ rs) ≡ r ∷ views_of rs
view_in_front r rs is = rw is refl

pub table_before_views : (r : Relation) (rs : List Relation) → is_view r.kind ≡ false → views_of (r ∷ rs) ≡ views_of rs
table_before_views r rs is = rw is refl

-- ---- names

front_name : (r : Relation) (rs : List Relation) → is_view r.kind ≡ true → view_name (r ∷ rs) 0 ≡ r.name
front_name r rs is = ap (λ vs. name_of (slice_get vs 0)) (view_in_front r rs is)

later_name : (r : Relation) (rs : List Relation) (n : ℕ) → is_view r.kind ≡ true → view_name (r ∷ rs) (suc n) ≡ view_name rs n
later_name r rs n is = ap (λ vs. name_of (slice_get vs (suc n))) (view_in_front r rs is)

pub name_found : (relations : List Relation) (i left view : ℕ) (r : Relation) → view_name (drop i relations) left ≡ view_name relations view
    → slice_get relations i ≡ Some r → is_view r.kind ≡ true → left ≡ 0 → r.name ≡ view_name relations view
name_found relations i left view r inv at is none =
    sym (front_name r (drop (i + 1) relations) is) ∙ ap (view_name (r ∷ drop (i + 1) relations)) (sym none)
    ∙ ap (λ rs. view_name rs left) (sym (drop_at relations i r at)) ∙ inv

pub name_passed : (relations : List Relation) (i left now view : ℕ) (r : Relation) → view_name (drop i relations) left ≡ view_name relations view
    → slice_get relations i ≡ Some r → is_view r.kind ≡ true → suc now ≡ left → view_name (drop (i + 1) relations) now ≡ view_name relations view
name_passed relations i left now view r inv at is next =
    sym (later_name r (drop (i + 1) relations) now is) ∙ ap (view_name (r ∷ drop (i + 1) relations)) next
    ∙ ap (λ rs. view_name rs left) (sym (drop_at relations i r at)) ∙ inv

pub name_skipped : (relations : List Relation) (i left now view : ℕ) (r : Relation) → view_name (drop i relations) left ≡ view_name relations view
    → slice_get relations i ≡ Some r → is_view r.kind ≡ false → now ≡ left → view_name (drop (i + 1) relations) now ≡ view_name relations view
name_skipped relations i left now view r inv at is same =
    ap (view_name (drop (i + 1) relations)) same
    ∙ ap (λ vs. name_of (slice_get vs left)) (sym (table_before_views r (drop (i + 1) relations) is))
    ∙ ap (λ rs. view_name rs left) (sym (drop_at relations i r at)) ∙ inv
