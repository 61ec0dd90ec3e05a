-- What a line says fits the tables.
use Rattle.std.proofs.Common.{◌≡◌, ℕ, suc, ◌+◌, ◌^◌, not, ◌&&◌, ◌||◌, nat_lt, Bool, true, false, if◌then◌else◌, ℤ, pos, negsuc, List, [], ◌∷◌, map, length, bytes_eq, Option, Some, None, is_some, refl, sym, ap, subst, ◌∙◌, arith, codes}
use Rattle.std.specs.Prelude.{slice_get}
use Rattle.std.specs.List.{list_any, list_all, enumerate_from, find}
use Rattle.std.proofs.lemmas.Bool.{ltb-true}
use Rattle.std.proofs.lemmas.Bool.Decides.{nat_tests}
use Rattle.std.proofs.lemmas.Option.{same_Some, slice_get_within}
use Rattle.serde_json.specs.Data.{Data, Num, Members, null, boolean, number, string, array, object, unsigned, negative, float}
use Rattle.serde_json.specs.Find.{get, as_object}
use Rattle.sq_expr.specs.Kinds.{IsOfKind, AreOfKinds}
use Rattle.sq_expr.specs.declared.expr.Kind.{Kind}
use Rattle.sq_expr.specs.declared.expr.Kind.TheVariants as kind
use Rattle.sq_catalog.specs.declared.relation.Column.{Column}
use Rattle.sq_catalog.specs.declared.relation.Relation.{Relation}
use Rattle.sq_typed.specs.declared.update.Update.{Update}
use Rattle.sq_lines.specs.declared.line.Line.{Line}
use Rattle.sq_lines.specs.declared.line.Line.TheVariants as line
use Rattle.sq_lines.specs.declared.line.Why.{Why}
use Rattle.sq_value.specs.declared.value.Value.TheVariants.{Text}
use Rattle.sq_expr.specs.Meaning as meaning
use Rattle.sq_lines.specs.Cells.{is_null, is_number, is_unlike, is_in_range, number_outside, number_cell, value_of, cell, has_wrong_type, is_out_of_range, is_missing}
use Rattle.sq_catalog.specs.Sorts.{tables_of}
use Rattle.sq_lines.specs.Tables.{Numbered, table_named, table_meant}
use Rattle.sq_lines.specs.Lines.{decoded, json_line, json_of, object_line, asks_commit, table_line, operation_line, row_line, cells_line, is_blank_byte, longest_line}
use Rattle.sq_lines.specs.Fit.{UpdateFits, LineFits}

-- ---- tests

not_not : (b : Bool) → not b ≡ false → b ≡ true
not_not true is = refl
not_not false is = sym is

neither_first : (a b : Bool) → (a || b) ≡ false → a ≡ false
neither_first true b none = none
neither_first false b none = refl

neither_second : (a b : Bool) → (a || b) ≡ false → b ≡ false
neither_second true b none = cc
neither_second false b none = none

-- ---- cells

whole_fits : (k : Kind) (b : Bool) (z : ℤ) → not (is_number k && true) ≡ false → is_in_range k z ≡ true → IsOfKind (number_cell (if b then Some z else None)) k
whole_fits k false z like within = tt
whole_fits kind.Integer true (pos x) like within = record { sfits = ltb-true _ _ within }
whole_fits kind.Integer true (negsuc x) like within = record { sfits = ltb-true _ _ within }
whole_fits kind.Bigint true (pos x) like within = record { sfits = ltb-true _ _ within }
whole_fits kind.Bigint true (negsuc x) like within = record { sfits = ltb-true _ _ within }
whole_fits kind.Text true z like within = absurd (cc like)

number_fits : (k : Kind) (n : Num) → is_unlike k (Some (number n)) ≡ false → number_outside k (Some (number n)) ≡ false → IsOfKind (value_of (Some (number n))) k
number_fits k (unsigned x) like inside = whole_fits k (nat_lt x (2 ^ 63)) (pos x) like (not_not _ inside)
number_fits k (negative z) like inside = whole_fits k true z like (not_not _ inside)
number_fits k (float x) like inside = tt

text_fits : (k : Kind) (s : List ℕ) → is_number k ≡ false → IsOfKind (Text s) k
text_fits kind.Integer s like = absurd (cc like)
text_fits kind.Bigint s like = absurd (cc like)
text_fits kind.Text s like = tt

cell_fits : (k : Kind) (m : Option Data) → is_unlike k m ≡ false → number_outside k m ≡ false → IsOfKind (value_of m) k
cell_fits k None like inside = tt
cell_fits k (Some null) like inside = tt
cell_fits k (Some (boolean b)) like inside = tt
cell_fits k (Some (number n)) like inside = number_fits k n like inside
cell_fits k (Some (string s)) like inside = text_fits k s like
cell_fits k (Some (array items)) like inside = tt
cell_fits k (Some (object ms)) like inside = tt

cells_fit : (row : Data) (cs : List Column) → list_any (has_wrong_type row) cs ≡ false → list_any (is_out_of_range row) cs ≡ false →
    AreOfKinds (map (cell row) cs) (map (λ c. c.kind) cs)
cells_fit row [] typed inside = tt
cells_fit row (c ∷ cs) typed inside = (
  cell_fits c.kind (get c.name row) (neither_first _ (list_any (has_wrong_type row) cs) typed) (neither_first _ (list_any (is_out_of_range row) cs) inside),
  cells_fit row cs (neither_second (has_wrong_type row c) _ typed) (neither_second (is_out_of_range row c) _ inside),
)

-- ---- no value is lost

number_kept : (k : Kind) (x : ℕ) → not (is_number k && true) ≡ false → is_in_range k (pos x) ≡ true → nat_lt x (2 ^ 63) ≡ true
number_kept kind.Integer x like inside = let below : nat_lt x (2 ^ 63) ≡ true = grind (arith, nat_tests) in below
number_kept kind.Bigint x like inside = inside
number_kept kind.Text x like inside = absurd (cc like)

number_held : (k : Kind) (n : Num) → is_unlike k (Some (number n)) ≡ false → number_outside k (Some (number n)) ≡ false → meaning.is_null (value_of (Some (number n))) ≡ false
number_held k (unsigned x) like inside = ap (λ b. meaning.is_null (number_cell (if b then Some (pos x) else None))) (number_kept k x like (not_not _ inside))
number_held k (negative z) like inside = refl
number_held kind.Integer (float x) like inside = like
number_held kind.Bigint (float x) like inside = like
number_held kind.Text (float x) like inside = like

pub value_held : (k : Kind) (m : Option Data) → is_unlike k m ≡ false → number_outside k m ≡ false → meaning.is_null (value_of m) ≡ is_null m
value_held k None like inside = refl
value_held k (Some null) like inside = refl
value_held k (Some (boolean b)) like inside = like
value_held k (Some (number n)) like inside = number_held k n like inside
value_held k (Some (string s)) like inside = refl
value_held k (Some (array items)) like inside = like
value_held k (Some (object ms)) like inside = like

pub cell_held : (row : Data) (c : Column) → has_wrong_type row c ≡ false → is_out_of_range row c ≡ false → meaning.is_null (cell row c) ≡ is_null (get c.name row)
cell_held row c like inside = value_held c.kind (get c.name row) like inside

-- ---- tables

-- a numbered table that is found stands at its number
abbrev IsAt : ℕ → List Relation → Numbered → Type 0
IsAt k rs x = (i : ℕ) × (x.0 ≡ k + i) × (slice_get rs i ≡ Some x.1)

found_here : (k : ℕ) (r : Relation) (rs : List Relation) (x : Numbered) (b : Bool) (rest : Option Numbered) → (rest ≡ Some x → IsAt (k + 1) rs x) →
    (if b then Some (k, r) else rest) ≡ Some x → IsAt k (r ∷ rs) x
found_here k r rs x true rest later is =
    let same : (k, r) ≡ x = same_Some (k, r) x is in
    let start : k ≡ k + 0 = omega arith in
    (0, sym (ap (λ y. y.0) same) ∙ start, ap (λ y. Some y.1) same)
found_here k r rs x false rest later is =
    let at = later is in
    let next : x.0 ≡ k + suc at.0 = let e = at.1 in omega arith in
    (suc at.0, next, at.2)

found_at : (p : Numbered → Bool) (k : ℕ) (rs : List Relation) (x : Numbered) → find p (enumerate_from k rs) ≡ Some x → IsAt k rs x
found_at p k [] x is = absurd (cc is)
found_at p k (r ∷ rs) x is = found_here k r rs x (p (k, r)) (find p (enumerate_from (k + 1) rs)) (found_at p (k + 1) rs x) is

named_at : (name : List ℕ) (relations : List Relation) (x : Numbered) → table_named name relations ≡ Some x → slice_get (tables_of relations) x.0 ≡ Some x.1
named_at name relations x is =
    let at = found_at (λ t. bytes_eq name t.1.name) 0 (tables_of relations) x is in
    let same : x.0 ≡ at.0 = let e = at.1 in omega arith in
    ap (slice_get (tables_of relations)) same ∙ at.2

meant_at : (relations : List Relation) (m : Option Data) (x : Numbered) → table_meant relations m ≡ Some x → slice_get (tables_of relations) x.0 ≡ Some x.1
meant_at relations None x is = absurd (cc is)
meant_at relations (Some null) x is = absurd (cc is)
meant_at relations (Some (boolean b)) x is = absurd (cc is)
meant_at relations (Some (number n)) x is = absurd (cc is)
meant_at relations (Some (string name)) x is = named_at name relations x is
meant_at relations (Some (array items)) x is = absurd (cc is)
meant_at relations (Some (object ms)) x is = absurd (cc is)

-- ---- lines

module _ (relations : List Relation) (n : ℕ) where
  by_test : (b : Bool) (x y : Line) → (b ≡ true → LineFits relations n x) → (b ≡ false → LineFits relations n y) → LineFits relations n (if b then x else y)
  by_test true x y here there = here refl
  by_test false x y here there = there refl

  cells_line_fits : (t : Numbered) → slice_get (tables_of relations) t.0 ≡ Some t.1 → (insert : Bool) (row : Data) → LineFits relations n (cells_line n t insert row)
  cells_line_fits t found insert row =
      by_test (list_any (is_missing row) t.1.columns) _ _ (λ e. refl) (λ e.
      by_test (list_any (has_wrong_type row) t.1.columns) _ _ (λ e. refl) (λ typed.
      by_test (list_any (is_out_of_range row) t.1.columns) _ _ (λ e. refl) (λ inside. record {
        line_is = refl;
        is_table = slice_get_within _ _ _ found;
        table = t.1;
        found = found;
        of_kinds = cells_fit row t.1.columns typed inside;
      })))

  row_line_fits : (t : Numbered) → slice_get (tables_of relations) t.0 ≡ Some t.1 → (insert : Bool) (row : Data) → LineFits relations n (row_line n t insert row)
  row_line_fits t found insert row = by_test (is_some (as_object row)) _ _ (λ e. cells_line_fits t found insert row) (λ e. refl)

  operation_line_fits : (t : Numbered) → slice_get (tables_of relations) t.0 ≡ Some t.1 → (inserted deleted : Option Data) → LineFits relations n (operation_line n t inserted deleted)
  operation_line_fits t found (Some row) None = row_line_fits t found true row
  operation_line_fits t found None (Some row) = row_line_fits t found false row
  operation_line_fits t found None None = refl
  operation_line_fits t found (Some row) (Some other) = refl

  table_line_fits : (t : Option Numbered) → ((x : Numbered) → t ≡ Some x → slice_get (tables_of relations) x.0 ≡ Some x.1) → (json : Data) → LineFits relations n (table_line n t json)
  table_line_fits None found json = refl
  table_line_fits (Some t) found json = operation_line_fits t (found t refl) (get (codes "insert") json) (get (codes "delete") json)

  object_line_fits : (members : Option Members) (json : Data) → LineFits relations n (object_line relations n members json)
  object_line_fits None json = refl
  object_line_fits (Some members) json =
      by_test (asks_commit members json) _ _ (λ e. tt) (λ e. table_line_fits (table_meant relations (get (codes "table") json)) (meant_at relations (get (codes "table") json)) json)

  json_line_fits : (json : Option Data) → LineFits relations n (json_line relations n json)
  json_line_fits None = refl
  json_line_fits (Some json) = object_line_fits (as_object json) json

  decoded_fits : (bytes : List ℕ) → LineFits relations n (decoded relations n bytes)
  decoded_fits bytes =
      by_test (nat_lt longest_line (length bytes)) _ _ (λ e. refl) (λ e. by_test (list_all is_blank_byte bytes) _ _ (λ e. tt) (λ e. json_line_fits (json_of bytes)))

pub update_fits : (relations : List Relation) (n : ℕ) (bytes : List ℕ) (u : Update) → decoded relations n bytes ≡ line.Update u → UpdateFits relations n u
update_fits relations n bytes u is = subst (LineFits relations n) is (decoded_fits relations n bytes)

pub bad_number : (relations : List Relation) (n m : ℕ) (bytes : List ℕ) (why : Why) → decoded relations n bytes ≡ line.Bad m why → m ≡ n
bad_number relations n m bytes why is = subst (LineFits relations n) is (decoded_fits relations n bytes)
