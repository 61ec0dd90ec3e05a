-- The members of an object, one after the other.
use Rattle.std.specs.Prelude.{map, min, slice_get, nat_lt, codes}
use Rattle.std.proofs.Common.{◌≡◌, ℕ, zero, suc, ◌+◌, ◌<◌, ◌≤◌, List, [], ◌∷◌, ◌++◌, length, take, true, Some, refl, sym, ap, ◌∙◌, arith, append_assoc}
use Rattle.json.specs.Print.{quoted}
use Rattle.std.specs.List.{zip}
use Rattle.std.proofs.lemmas.List.{take_all, take_more, length-map, length-take}
use Rattle.std.proofs.lemmas.Option.{get_or_from_slice_get, slice_get_within}
use Rattle.std.proofs.lemmas.Slice.Zip.{length-zip}
use Rattle.std.proofs.lemmas.Bool.Decides.{nat_tests}
use Rattle.sq_catalog.specs.declared.relation.Column.{Column}
use Rattle.sq_value.specs.declared.value.Value.{Value}
use Rattle.sq_typed.specs.From.{Row}
use Rattle.sq_print.specs.Commas.{comma_before}
use Rattle.sq_print.specs.Texts.{member_text, with_commas}

comma_suc : (n : ℕ) → comma_before (suc n) ≡ codes ","
comma_suc n = let some : nat_lt 0 (suc n) ≡ true = grind (arith, nat_tests) in rw some refl

-- one more text behind others
commas_more : (ts : List (List ℕ)) (t : List ℕ) → with_commas (ts ++ t ∷ []) ≡ with_commas ts ++ (comma_before (length ts) ++ t)
commas_more [] t = refl
commas_more (u ∷ []) t = ap (λ x. u ++ (x ++ t)) (sym (comma_suc 0))
commas_more (u ∷ v ∷ ts) t =
    ap (λ x. u ++ (codes "," ++ x)) (commas_more (v ∷ ts) t)
    ∙ ap (λ x. u ++ (codes "," ++ (with_commas (v ∷ ts) ++ (x ++ t)))) (comma_suc (length ts) ∙ sym (comma_suc (suc (length ts))))
    ∙ ap (λ x. u ++ x) (sym (append_assoc (codes ",") (with_commas (v ∷ ts)) (comma_before (suc (suc (length ts))) ++ t)))
    ∙ sym (append_assoc u (codes "," ++ with_commas (v ∷ ts)) (comma_before (suc (suc (length ts))) ++ t))

-- the members of a row
abbrev pub members : List Column → Row → List (List ℕ)
members columns row = map (λ m. member_text m.0 m.1) (zip columns row)

member_at : (columns : List Column) (row : Row) (i : ℕ) (c : Column) (v : Value) → slice_get columns i ≡ Some c → slice_get row i ≡ Some v
    → slice_get (members columns row) i ≡ Some (member_text c v)
member_at [] row i c v at val = absurd (cc)
member_at (d ∷ columns) [] i c v at val = absurd (cc)
member_at (d ∷ columns) (w ∷ row) zero c v at val = cc
member_at (d ∷ columns) (w ∷ row) (suc i) c v at val = member_at columns row i c v at val

next_member : (ts : List (List ℕ)) (i : ℕ) (t : List ℕ) → slice_get ts i ≡ Some t → with_commas (take (i + 1) ts) ≡ with_commas (take i ts) ++ (comma_before i ++ t)
next_member ts i t at =
    let within : i < length ts = slice_get_within ts i t at in
    let front : length (take i ts) ≡ i = omega (arith, length-take i ts) in
    ap with_commas (take_more ts i t within ∙ ap (λ x. take i ts ++ x ∷ []) (get_or_from_slice_get ts i t t at))
    ∙ commas_more (take i ts) t ∙ ap (λ n. with_commas (take i ts) ++ (comma_before n ++ t)) front

-- one more text behind those that were told, with its comma
pub text_with_comma : (ts : List (List ℕ)) (i : ℕ) (t old out mid new : List ℕ) → slice_get ts i ≡ Some t → out ≡ old ++ with_commas (take i ts)
    → mid ≡ out ++ comma_before i → new ≡ mid ++ t → new ≡ old ++ with_commas (take (i + 1) ts)
text_with_comma ts i t old out mid new at before comma told =
    told ∙ ap (λ x. x ++ t) (comma ∙ ap (λ x. x ++ comma_before i) before)
    ∙ append_assoc (old ++ with_commas (take i ts)) (comma_before i) t
    ∙ append_assoc old (with_commas (take i ts)) (comma_before i ++ t)
    ∙ ap (λ x. old ++ x) (sym (next_member ts i t at))

-- a turn of the loop over the members
pub member_more : (columns : List Column) (row : Row) (i : ℕ) (c : Column) (v : Value) (old out mid new : List ℕ)
    → slice_get columns i ≡ Some c → slice_get row i ≡ Some v → out ≡ old ++ with_commas (take i (members columns row))
    → mid ≡ out ++ comma_before i → new ≡ mid ++ member_text c v → new ≡ old ++ with_commas (take (i + 1) (members columns row))
member_more columns row i c v old out mid new at val before comma member =
    text_with_comma (members columns row) i (member_text c v) old out mid new (member_at columns row i c v at val) before comma member

-- a turn of the loop over the names of columns
abbrev pub names : List Column → List (List ℕ)
names columns = map (λ c. quoted c.name) columns

name_at : (columns : List Column) (i : ℕ) (c : Column) → slice_get columns i ≡ Some c → slice_get (names columns) i ≡ Some (quoted c.name)
name_at [] i c at = absurd (cc)
name_at (d ∷ columns) zero c at = cc
name_at (d ∷ columns) (suc i) c at = name_at columns i c at

pub name_more : (columns : List Column) (i : ℕ) (c : Column) (old out mid new : List ℕ) → slice_get columns i ≡ Some c → out ≡ old ++ with_commas (take i (names columns))
    → mid ≡ out ++ comma_before i → new ≡ mid ++ quoted c.name → new ≡ old ++ with_commas (take (i + 1) (names columns))
name_more columns i c old out mid new at before comma told =
    text_with_comma (names columns) i (quoted c.name) old out mid new (name_at columns i c at) before comma told

pub all_names : (columns : List Column) (i : ℕ) → length columns ≤ i → take i (names columns) ≡ names columns
all_names columns i le = let long : length (names columns) ≤ i = omega (arith, length-map columns (λ c. quoted c.name)) in take_all _ _ long

-- the end of the loop over the members
pub all_members : (columns : List Column) (row : Row) (i : ℕ) → min (length columns) (length row) ≤ i → take i (members columns row) ≡ members columns row
all_members columns row i le =
    let long : length (members columns row) ≤ i = omega (arith, length-map (zip columns row) (λ m. member_text m.0 m.1), length-zip columns row) in
    take_all _ _ long
