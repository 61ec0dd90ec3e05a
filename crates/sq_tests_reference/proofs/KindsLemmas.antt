-- Tables of the kinds of a program's columns, from the last relation to the first.
use Rattle.std.proofs.Common.{◌≡◌, ℕ, zero, suc, List, [], ◌∷◌, length, drop, true, false, Some, refl, sym, ap, subst, ◌∙◌}
use Rattle.std.specs.Prelude.{slice_get}
use Rattle.std.proofs.lemmas.Option.{same_Some}
use Rattle.sq_catalog.specs.Sorts.{is_table}
use Rattle.sq_catalog.specs.declared.relation.Relation.{Relation}
use Rattle.sq_catalog.specs.declared.relation.RelationKind.{RelationKind}
use Rattle.sq_catalog.specs.declared.relation.RelationKind.TheVariants.{Table, View}
use Rattle.sq_typed.specs.Fit.{AreAllOfKinds, TablesAreOfKinds, kinds_of}
use Rattle.sq_typed.specs.Laws.{by_kind, rows_in}
use Rattle.sq_typed.specs.Tables.{Tables}
use Rattle.sq_typed.specs.Views.{first_rows}

drop_here : {X : Type 0} (xs : List X) (i : ℕ) (x : X) → slice_get xs i ≡ Some x → drop i xs ≡ x ∷ drop (suc i) xs
drop_here [] i x e = absurd (cc)
drop_here (y ∷ xs) zero x e = ap (λ z. z ∷ xs) (same_Some y x e)
drop_here (y ∷ xs) (suc i) x e = drop_here xs i x e

drop_one : {X : Type 0} (xs : List X) (i : ℕ) → drop 1 (drop i xs) ≡ drop (suc i) xs
drop_one [] zero = refl
drop_one [] (suc i) = refl
drop_one (x ∷ xs) zero = refl
drop_one (x ∷ xs) (suc i) = drop_one xs i

first_there : (tables : Tables) (n : ℕ) → first_rows (drop n tables) ≡ rows_in tables n
first_there [] zero = refl
first_there [] (suc n) = refl
first_there (rows ∷ tables) zero = refl
first_there (rows ∷ tables) (suc n) = first_there tables n

drop_whole : {X : Type 0} (xs : List X) → drop (length xs) xs ≡ []
drop_whole [] = refl
drop_whole (x ∷ xs) = drop_whole xs

pub kinds_at_end : (tables : Tables) (relations : List Relation) (n : ℕ) → n ≡ length relations → TablesAreOfKinds tables (drop n relations)
kinds_at_end tables relations n e = subst (TablesAreOfKinds tables) (sym (ap (λ n. drop n relations) e ∙ drop_whole relations)) tt

at_table : (k : RelationKind) (A B : Type 0) → is_table k ≡ true → A → by_kind k A B
at_table Table A B e a = a
at_table (View printed) A B e a = absurd (cc e)

at_view : (k : RelationKind) (A B : Type 0) → is_table k ≡ false → B → by_kind k A B
at_view Table A B e b = absurd (cc e)
at_view (View printed) A B e b = b

-- one more relation in front, which is a table
pub kinds_of_table : (tables : Tables) (relations : List Relation) (left n last i : ℕ) (r : Relation) → left ≡ suc n → last ≡ suc i
    → slice_get relations i ≡ Some r → is_table r.kind ≡ true → AreAllOfKinds (rows_in tables n) (kinds_of r)
    → TablesAreOfKinds (drop left tables) (drop last relations) → TablesAreOfKinds (drop n tables) (drop i relations)
kinds_of_table tables relations left n last i r more next at is rows h =
    let rest : TablesAreOfKinds (drop 1 (drop n tables)) (drop (suc i) relations) =
    subst (λ ts. TablesAreOfKinds ts (drop (suc i) relations)) (ap (λ m. drop m tables) more ∙ sym (drop_one tables n))
    (subst (λ m. TablesAreOfKinds (drop left tables) (drop m relations)) next h) in
    let first : AreAllOfKinds (first_rows (drop n tables)) (kinds_of r) =
    subst (λ rows. AreAllOfKinds rows (kinds_of r)) (sym (first_there tables n)) rows in
    subst (TablesAreOfKinds (drop n tables)) (sym (drop_here relations i r at))
    (at_table r.kind _ _ is (first, rest))

-- one more relation in front, which is a view
pub kinds_of_view : (tables : Tables) (relations : List Relation) (last i : ℕ) (r : Relation) → last ≡ suc i
    → slice_get relations i ≡ Some r → is_table r.kind ≡ false → TablesAreOfKinds tables (drop last relations)
    → TablesAreOfKinds tables (drop i relations)
kinds_of_view tables relations last i r next at is h =
    subst (TablesAreOfKinds tables) (sym (drop_here relations i r at))
    (at_view r.kind _ _ is (subst (λ m. TablesAreOfKinds tables (drop m relations)) next h))
