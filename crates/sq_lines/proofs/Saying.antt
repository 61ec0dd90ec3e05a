-- What lines say, by what is kept of them, and whether they are commit lines.
use Rattle.std.specs.Prelude.{map, nat_lt, is_some}
use Rattle.std.specs.List.{enumerate_from, list_all, list_any}
use Rattle.std.proofs.Common.{◌≡◌, ℕ, ◌+◌, ◌<◌, ◌≤◌, Bool, true, false, List, [], ◌∷◌, length, take, codes, Option, Some, None, refl, sym, ap, ap₂, subst, ◌∙◌, arith}
use Rattle.std.proofs.lemmas.Bool.{ltb-false, lt-ltb, ltb-true}
use Rattle.serde_json.specs.Data.{Data, Members}
use Rattle.serde_json.specs.Find.{as_object, get}
use Rattle.sq_catalog.specs.declared.relation.Relation.{Relation}
use Rattle.sq_lines.specs.Cells.{has_wrong_type, is_missing, is_out_of_range}
use Rattle.sq_lines.specs.Cutting.{kept, most_kept, raw_lines}
use Rattle.sq_lines.specs.Lines.{asks_commit, cells_line, decoded, is_blank_byte, is_commit, json_line, json_of, longest_line, object_line, operation_line, row_line, says_commit, table_line}
use Rattle.sq_lines.specs.Tables.{Numbered, table_meant}
use Rattle.sq_lines.specs.declared.line.Line.{Line}
use Rattle.sq_lines.specs.declared.line.RawLine.{RawLine}
use Rattle.std.proofs.lemmas.List.{length-take-le}
use Rattle.sq_lines.proofs.CutLemmas.{kept_short}

-- ---- what is kept of a line says the same as the line
says_kept : (relations : List Relation) (n : ℕ) (line : List ℕ) (long : Bool) → nat_lt longest_line (length line) ≡ long → decoded relations n (kept line) ≡ decoded relations n line
says_kept relations n line true e =
    let more : longest_line < length line = ltb-true _ _ e in
    let many : length (kept line) ≡ most_kept = length-take-le most_kept line (omega (arith, more)) in
    rw (e, lt-ltb longest_line (length (kept line)) (omega (arith, many))) refl
says_kept relations n line false e = ap (decoded relations n) (kept_short line (let le = ltb-false _ _ e in omega (arith, le)))

pub kept_says : (relations : List Relation) (n : ℕ) (line : List ℕ) → decoded relations n (kept line) ≡ decoded relations n line
kept_says relations n line = says_kept relations n line _ refl

says_from : (relations : List Relation) (n : ℕ) (lines : List (List ℕ))
    → map (λ (r : RawLine). decoded relations r.number r.bytes) (map (λ (l : ℕ × List ℕ). record { number = l.0; bytes = kept l.1 }) (enumerate_from n lines)) ≡ map (λ (l : ℕ × List ℕ). decoded relations l.0 l.1) (enumerate_from n lines)
says_from relations n [] = refl
says_from relations n (line ∷ lines) = ap₂ (λ l ls. l ∷ ls) (kept_says relations n line) (says_from relations (n + 1) lines)

pub raw_lines_say : (relations : List Relation) (n : ℕ) (lines : List (List ℕ))
    → map (λ (r : RawLine). decoded relations r.number r.bytes) (raw_lines n lines) ≡ map (λ (l : ℕ × List ℕ). decoded relations l.0 l.1) (enumerate_from (n + 1) lines)
raw_lines_say relations n lines = says_from relations (n + 1) lines

-- ---- whether a line is a commit line does not depend on the tables
no_cells : (n : ℕ) (t : Numbered) (insert : Bool) (row : Data) (a b c : Bool) → list_any (is_missing row) t.1.columns ≡ a → list_any (has_wrong_type row) t.1.columns ≡ b
    → list_any (is_out_of_range row) t.1.columns ≡ c → is_commit (cells_line n t insert row) ≡ false
no_cells n t insert row true b c ea eb ec = rw ea refl
no_cells n t insert row false true c ea eb ec = rw (ea, eb) refl
no_cells n t insert row false false true ea eb ec = rw (ea, eb, ec) refl
no_cells n t insert row false false false ea eb ec = rw (ea, eb, ec) refl

no_row : (n : ℕ) (t : Numbered) (insert : Bool) (row : Data) (b : Bool) → is_some (as_object row) ≡ b → is_commit (row_line n t insert row) ≡ false
no_row n t insert row true e = rw e (no_cells n t insert row _ _ _ refl refl refl)
no_row n t insert row false e = rw e refl

no_operation : (n : ℕ) (t : Numbered) (insert delete : Option Data) → is_commit (operation_line n t insert delete) ≡ false
no_operation n t None None = refl
no_operation n t (Some row) None = no_row n t true row _ refl
no_operation n t None (Some row) = no_row n t false row _ refl
no_operation n t (Some a) (Some b) = refl

no_table : (n : ℕ) (t : Option Numbered) (json : Data) → is_commit (table_line n t json) ≡ false
no_table n None json = refl
no_table n (Some t) json = no_operation n t _ _

same_object : (rs ss : List Relation) (n m : ℕ) (o : Option Members) (json : Data) → is_commit (object_line rs n o json) ≡ is_commit (object_line ss m o json)
same_object rs ss n m None json = refl
same_object rs ss n m (Some members) json = by (asks_commit members json) refl where
  by : (b : Bool) → asks_commit members json ≡ b → is_commit (object_line rs n (Some members) json) ≡ is_commit (object_line ss m (Some members) json)
  by true e = rw e refl
  by false e = rw e (no_table n (table_meant rs (get (codes "table") json)) json ∙ sym (no_table m (table_meant ss (get (codes "table") json)) json))

same_json : (rs ss : List Relation) (n m : ℕ) (o : Option Data) → is_commit (json_line rs n o) ≡ is_commit (json_line ss m o)
same_json rs ss n m None = refl
same_json rs ss n m (Some json) = same_object rs ss n m (as_object json) json

same_line : (rs ss : List Relation) (n m : ℕ) (bytes : List ℕ) (long blank : Bool) → nat_lt longest_line (length bytes) ≡ long → list_all is_blank_byte bytes ≡ blank
    → is_commit (decoded rs n bytes) ≡ is_commit (decoded ss m bytes)
same_line rs ss n m bytes true blank e f = rw e refl
same_line rs ss n m bytes false true e f = rw (e, f) refl
same_line rs ss n m bytes false false e f = rw (e, f) (same_json rs ss n m (json_of bytes))

pub commits_are_commits : (relations : List Relation) (n : ℕ) (bytes : List ℕ) → is_commit (decoded relations n bytes) ≡ says_commit bytes
commits_are_commits relations n bytes = same_line relations [] n 1 bytes _ _ refl refl
