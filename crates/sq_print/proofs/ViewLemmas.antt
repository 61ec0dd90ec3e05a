-- Going through the views of a program, one after the other, beside their changes.
use Rattle.std.proofs.Common.{◌≡◌, ℕ, zero, suc, ◌+◌, ◌<◌, ◌≤◌, List, [], ◌∷◌, ◌++◌, length, get_or, take, drop, true, false, Option, Some, None, refl, sym, ap, ap₂, subst, ◌∙◌, arith, append-nil, append_assoc}
use Rattle.std.specs.Prelude.{slice_get, option_map, IfSome, MatchOption}
use Rattle.std.specs.List.{HoldsAt, flat_map, zip}
use Rattle.std.proofs.lemmas.Grind.{flat_map-append}
use Rattle.std.proofs.lemmas.List.{take_more}
use Rattle.std.proofs.lemmas.Option.{get_or_from_slice_get, same_Some, slice_get_read, slice_get_within}
use Rattle.sq_value.specs.declared.value.Value.{Value}
use Rattle.sq_value.specs.Order.{row_cmp}
use Rattle.sq_algebra.specs.ZSet.{ZSet}
use Rattle.sq_catalog.specs.Sorts.{is_view, views_of}
use Rattle.sq_catalog.specs.declared.relation.Relation.{Relation}
use Rattle.sq_print.specs.Texts.{text_of, view_text, views_text}

abbrev pub Rows : Type 0
Rows = ZSet (List Value) row_cmp

-- one more text behind others
pub text_more : {X : Type 0} (f : X → List ℕ) (es : List X) (i : ℕ) (e : X) → slice_get es i ≡ Some e
    → flat_map f (take i es) ++ f e ≡ flat_map f (take (i + 1) es)
text_more f es i e at =
    sym (ap (flat_map f) (take_more es i e (slice_get_within es i e at) ∙ ap (λ x. take i es ++ x ∷ []) (get_or_from_slice_get es i e e at))
    ∙ flat_map-append f (take i es) (e ∷ []) ∙ ap (λ t. flat_map f (take i es) ++ t) (append-nil (f e)))

drop_here : {X : Type 0} (xs : List X) (i : ℕ) (x : X) → slice_get xs i ≡ Some x → drop i xs ≡ x ∷ drop (suc i) xs
drop_here [] i x e = absurd (cc)
drop_here (y ∷ xs) zero x e = ap (λ z. z ∷ xs) (same_Some y x e)
drop_here (y ∷ xs) (suc i) x e = drop_here xs i x e

drop_at : {X : Type 0} (xs : List X) (i : ℕ) (x : X) → slice_get xs i ≡ Some x → drop i xs ≡ x ∷ drop (i + 1) xs
drop_at xs i x e = let next : suc i ≡ i + 1 = omega arith in subst (λ n. drop i xs ≡ x ∷ drop n xs) next (drop_here xs i x e)

abbrev no_changes : List Rows
no_changes = []

zip_none : (rs : List Relation) → zip rs no_changes ≡ []
zip_none [] = refl
zip_none (r ∷ rs) = refl

-- without changes nothing is told
none_told : (relations : List Relation) → views_text relations [] ≡ []
none_told relations = ap (flat_map (λ v. view_text v.0 v.1)) (zip_none (views_of relations))

view_in_front : (r : Relation) (rs : List Relation) → is_view r.kind ≡ true → views_of (r ∷ rs) ≡ r ∷ views_of rs
view_in_front r rs is = rw is refl

table_before_views : (r : Relation) (rs : List Relation) → is_view r.kind ≡ false → views_of (r ∷ rs) ≡ views_of rs
table_before_views r rs is = rw is refl

past_end : (xs : List Rows) (n : ℕ) → length xs ≤ n → slice_get xs n ≡ None
past_end [] n le = refl
past_end (x ∷ xs) zero le = absurd (omega arith)
past_end (x ∷ xs) (suc n) le = past_end xs n (omega arith)

-- the member of a list with a number, if there is one
pub member : {B : Type 0} (now : B → Rows) (o : Option B) (xs : List Rows) (n : ℕ) → IfSome o (λ x. now x ≡ get_or xs n (now x))
    → MatchOption o (length xs ≤ n) (λ x. (n < length xs) × HoldsAt (λ y. now x ≡ y) xs n) → option_map now o ≡ slice_get xs n
member now None xs n is found = sym (past_end xs n found)
member now (Some x) xs n is found = sym (slice_get_read xs (length xs) n (now x) refl found.0 is)

-- a view brings the text of its change, if there is one
first_view : (r : Relation) (rs : List Relation) (changes : List Rows) (n : ℕ) → is_view r.kind ≡ true
    → views_text (r ∷ rs) (drop n changes) ≡ text_of r (slice_get changes n) ++ views_text rs (drop (suc n) changes)
first_view r rs [] zero is = none_told (r ∷ rs) ∙ sym (none_told rs)
first_view r rs [] (suc n) is = none_told (r ∷ rs) ∙ sym (none_told rs)
first_view r rs (z ∷ changes) zero is = ap (λ vs. flat_map (λ v. view_text v.0 v.1) (zip vs (z ∷ changes))) (view_in_front r rs is)
first_view r rs (z ∷ changes) (suc n) is = first_view r rs changes n is

pub view_passed : (relations : List Relation) (changes : List Rows) (i n m : ℕ) (r : Relation) (change : Option Rows) (all out next : List ℕ)
    → out ++ views_text (drop i relations) (drop n changes) ≡ all → slice_get relations i ≡ Some r → is_view r.kind ≡ true → change ≡ slice_get changes n
    → next ≡ out ++ text_of r change → m ≡ n + 1 → next ++ views_text (drop (i + 1) relations) (drop m changes) ≡ all
view_passed relations changes i n m r change all out next inv at is e told up =
    let after : m ≡ suc n = omega (arith, up) in
    ap (λ t. t ++ views_text (drop (i + 1) relations) (drop m changes)) told
    ∙ append_assoc out (text_of r change) (views_text (drop (i + 1) relations) (drop m changes))
    ∙ ap₂ (λ c k. out ++ (text_of r c ++ views_text (drop (i + 1) relations) (drop k changes))) e after
    ∙ ap (λ t. out ++ t) (sym (first_view r (drop (i + 1) relations) changes n is))
    ∙ ap (λ rs. out ++ views_text rs (drop n changes)) (sym (drop_at relations i r at)) ∙ inv

-- and a table none
pub table_passed : (relations : List Relation) (changes : List Rows) (i n m : ℕ) (r : Relation) (all out next : List ℕ)
    → out ++ views_text (drop i relations) (drop n changes) ≡ all → slice_get relations i ≡ Some r → is_view r.kind ≡ false
    → next ≡ out → m ≡ n → next ++ views_text (drop (i + 1) relations) (drop m changes) ≡ all
table_passed relations changes i n m r all out next inv at is told same =
    ap₂ (λ t k. t ++ views_text (drop (i + 1) relations) (drop k changes)) told same
    ∙ ap (λ vs. out ++ flat_map (λ v. view_text v.0 v.1) (zip vs (drop n changes))) (sym (table_before_views r (drop (i + 1) relations) is))
    ∙ ap (λ rs. out ++ views_text rs (drop n changes)) (sym (drop_at relations i r at)) ∙ inv
