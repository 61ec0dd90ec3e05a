-- What one change line says over the relations of a program.
use Rattle.std.specs.Prelude.{ℕ, ◌==◌, ◌||◌, ◌&&◌, ◌+◌, nat_lt, Bool, true, false, List, [], length, map, if◌then◌else◌, codes, Option, Some, None, is_some}
use Rattle.std.specs.List.{list_all, list_any}
use Rattle.std.specs.Str.{is_utf8}
use Rattle.serde_json.specs.Data.{Data, boolean, Members, no_members, member}
use Rattle.serde_json.specs.Read.{read}
use Rattle.serde_json.specs.Find.{get, as_object}
use Rattle.sq_catalog.specs.declared.relation.Relation.{Relation}
use Rattle.sq_lines.specs.declared.line.Line.{Line}
use Rattle.sq_lines.specs.declared.line.Line.TheVariants.{Update, Commit, Blank, Bad}
use Rattle.sq_lines.specs.declared.line.Why.TheVariants.{TooLong, NotJson, NotObject, NoTable, NotOneOp, MissingColumn, WrongType, OutOfRange}
use Rattle.sq_lines.specs.Tables.{Numbered, table_meant}
use Rattle.sq_lines.specs.Cells.{is_missing, has_wrong_type, is_out_of_range, cell}

-- the most bytes that a change line may have
abbrev pub longest_line : ℕ
longest_line = 1048576

-- a space, a tab or a carriage return
abbrev pub is_blank_byte : ℕ → Bool
is_blank_byte b = (b == 32) || (b == 9) || (b == 13)

-- the JSON value that a line is, if it is one in UTF-8
unfoldable pub json_of : List ℕ → Option Data
json_of bytes = if is_utf8 bytes then read bytes else None

abbrev pub count_members : Members → ℕ
count_members no_members = 0
count_members (member name value rest) = count_members rest + 1

abbrev pub is_true : Option Data → Bool
is_true (Some (boolean b)) = b
is_true _ = false

-- the one member `commit`, with the value `true`
abbrev pub asks_commit : Members → Data → Bool
asks_commit members json = (count_members members == 1) && is_true (get (codes "commit") json)

-- Each rule is asked of all columns before the next.
abbrev pub cells_line : ℕ → Numbered → Bool → Data → Line
cells_line n t insert row =
    if list_any (is_missing row) t.1.columns then Bad n MissingColumn else
    (if list_any (has_wrong_type row) t.1.columns then Bad n WrongType else
    (if list_any (is_out_of_range row) t.1.columns then Bad n OutOfRange else
    Update (record { line = n; table = t.0; insert = insert; row = map (cell row) t.1.columns })))

abbrev pub row_line : ℕ → Numbered → Bool → Data → Line
row_line n t insert row = if is_some (as_object row) then cells_line n t insert row else Bad n NotOneOp

-- exactly one of `insert` and `delete` is there
abbrev pub operation_line : ℕ → Numbered → Option Data → Option Data → Line
operation_line n t (Some row) None = row_line n t true row
operation_line n t None (Some row) = row_line n t false row
operation_line n t _ _ = Bad n NotOneOp

abbrev pub table_line : ℕ → Option Numbered → Data → Line
table_line n None json = Bad n NoTable
table_line n (Some t) json = operation_line n t (get (codes "insert") json) (get (codes "delete") json)

abbrev pub object_line : List Relation → ℕ → Option Members → Data → Line
object_line relations n None json = Bad n NotObject
object_line relations n (Some members) json =
    if asks_commit members json then Commit else table_line n (table_meant relations (get (codes "table") json)) json

abbrev pub json_line : List Relation → ℕ → Option Data → Line
json_line relations n None = Bad n NotJson
json_line relations n (Some json) = object_line relations n (as_object json) json

-- What the line with number n says, by the first rule that fits: too long, blank, no JSON in UTF-8, no object, a commit,
-- and so on.
abbrev pub decoded : List Relation → ℕ → List ℕ → Line
decoded relations n bytes =
    if nat_lt longest_line (length bytes) then Bad n TooLong else
    (if list_all is_blank_byte bytes then Blank else json_line relations n (json_of bytes))

abbrev pub is_commit : Line → Bool
is_commit Commit = true
is_commit _ = false

-- whether some bytes are a commit line; no table has a say in that
abbrev pub says_commit : List ℕ → Bool
says_commit bytes = is_commit (decoded [] 1 bytes)

abbrev pub is_blank : Line → Bool
is_blank Blank = true
is_blank _ = false
