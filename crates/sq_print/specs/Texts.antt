-- The texts that are printed of ticks.
--     value_text v, row_text columns row      a value and a row as JSON
--     rise_text view row n        the line of a row of which the view has n more, or fewer if n is below 0
--     view_text view change       the lines of a view's change, if the view is printed
--     told_block relations tick changes       the block of an accepted tick, from the change of each view
--     told_refusal tick why       the line of a refused tick
use Rattle.std.specs.Prelude.{ℕ, ◌+◌, ℤ, pos, negsuc, List, [], ◌∷◌, ◌++◌, map, codes, decimal, if◌then◌else◌, Option, Some, None}
use Rattle.std.specs.Fmt.{signed_decimal}
use Rattle.std.specs.List.{flat_map, zip}
use Rattle.json.specs.Print.{quoted}
use Rattle.sq_value.specs.Order.{row_cmp}
use Rattle.sq_value.specs.declared.value.Value.{Value}
use Rattle.sq_value.specs.declared.value.Value.TheVariants.{Null, Int, Text}
use Rattle.sq_algebra.specs.ZSet.{ZSet, entries}
use Rattle.sq_catalog.specs.Sorts.{is_printed, views_of}
use Rattle.sq_catalog.specs.declared.relation.Column.{Column}
use Rattle.sq_catalog.specs.declared.relation.Relation.{Relation}
use Rattle.sq_print.specs.declared.refusal.Refusal.{Refusal}
use Rattle.sq_print.specs.declared.refusal.Refusal.TheVariants.{Malformed, Absent, Range, Unfinished}

-- a value: `null`, decimal digits, or the text in quotes with its escapes
abbrev pub value_text : Value → List ℕ
value_text Null = codes "null"
value_text (Int z) = signed_decimal z
value_text (Text s) = quoted s

-- the member of a column
abbrev pub member_text : Column → Value → List ℕ
member_text column v = quoted column.name ++ (codes ":" ++ value_text v)

-- texts with commas between them
abbrev pub with_commas : List (List ℕ) → List ℕ
with_commas [] = []
with_commas (t ∷ []) = t
with_commas (t ∷ u ∷ ts) = t ++ (codes "," ++ with_commas (u ∷ ts))

-- a row as an object, with a member for each column
abbrev pub row_text : List Column → List Value → List ℕ
row_text columns row = codes "{" ++ (with_commas (map (λ m. member_text m.0 m.1) (zip columns row)) ++ codes "}")

-- the front of a line of a view's change: the view and the operation
abbrev pub front_text : List ℕ → Relation → List ℕ
front_text operation view = codes "{\"view\":" ++ (quoted view.name ++ (codes ",\"" ++ (operation ++ codes "\":")))

-- a line of a view's change: the operation, the row, and how many times
abbrev pub change_line_text : List ℕ → Relation → List Value → ℕ → List ℕ
change_line_text operation view row times =
    front_text operation view ++ (row_text view.columns row ++ (codes ",\"times\":" ++ (decimal times ++ codes "}\n")))

-- an insert if there are more, and a delete if there are fewer (`negsuc n` is the whole number -(n + 1))
abbrev pub rise_text : Relation → List Value → ℤ → List ℕ
rise_text view row (pos n) = change_line_text (codes "insert") view row n
rise_text view row (negsuc n) = change_line_text (codes "delete") view row (n + 1)

-- the change of a view, if it is printed: a line for each row, in row order
abbrev pub view_text : Relation → ZSet (List Value) row_cmp → List ℕ
view_text view change = if is_printed view.kind then flat_map (λ e. rise_text view e.0 e.1) (entries change) else []

-- the lines of a view's change, if there is one
abbrev pub text_of : Relation → Option (ZSet (List Value) row_cmp) → List ℕ
text_of view None = []
text_of view (Some change) = view_text view change

-- the changes of the views, in order of creation
abbrev pub views_text : List Relation → List (ZSet (List Value) row_cmp) → List ℕ
views_text relations changes = flat_map (λ v. view_text v.0 v.1) (zip (views_of relations) changes)

-- the line that closes the block of an accepted tick
abbrev pub accepted_text : ℕ → List ℕ
accepted_text tick = codes "{\"tick\":" ++ (decimal tick ++ codes ",\"accepted\":true}\n")

abbrev pub told_block : List Relation → ℕ → List (ZSet (List Value) row_cmp) → List ℕ
told_block relations tick changes = views_text relations changes ++ accepted_text tick

-- the line of a tick that is refused for one of its lines
abbrev pub refused_line_text : ℕ → List ℕ → ℕ → List ℕ
refused_line_text tick cause line = codes "{\"tick\":" ++ (decimal tick ++ (codes ",\"refused\":\"" ++ (cause ++ (codes "\",\"line\":" ++ (decimal line ++ codes "}\n")))))

abbrev pub told_refusal : ℕ → Refusal → List ℕ
told_refusal tick (Malformed line) = refused_line_text tick (codes "malformed") line
told_refusal tick (Absent line) = refused_line_text tick (codes "absent") line
told_refusal tick (Range view) = codes "{\"tick\":" ++ (decimal tick ++ (codes ",\"refused\":\"range\",\"view\":" ++ (quoted view ++ codes "}\n")))
told_refusal tick Unfinished = codes "{\"tick\":" ++ (decimal tick ++ codes ",\"refused\":\"unfinished\"}\n")
