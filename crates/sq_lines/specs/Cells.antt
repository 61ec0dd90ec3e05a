-- What the member of a row says for a column: its value, or why there is none.
use Rattle.std.specs.Prelude.{ℕ, ◌^◌, ◌&&◌, not, nat_lt, Bool, true, false, ℤ, pos, negsuc, Option, Some, None, is_some}
use Rattle.serde_json.specs.Data.{Data, null, number, string}
use Rattle.serde_json.specs.Find.{get, as_i64, as_integer}
use Rattle.sq_value.specs.declared.value.Value.{Value}
use Rattle.sq_value.specs.declared.value.Value.TheVariants.{Null, Int, Text}
use Rattle.sq_expr.specs.declared.expr.Kind.{Kind}
use Rattle.sq_expr.specs.declared.expr.Kind.TheVariants as kind
use Rattle.sq_catalog.specs.declared.relation.Column.{Column}

-- a missing member and `null` are NULL
abbrev pub is_null : Option Data → Bool
is_null None = true
is_null (Some null) = true
is_null (Some _) = false

-- a NOT NULL column without a value
abbrev pub is_missing : Data → Column → Bool
is_missing row c = not c.nullable && is_null (get c.name row)

abbrev pub is_number : Kind → Bool
is_number kind.Integer = true
is_number kind.Bigint = true
is_number kind.Text = false

-- neither a whole number in a column of numbers nor a text in a column of texts
abbrev pub is_unlike : Kind → Option Data → Bool
is_unlike k None = false
is_unlike k (Some null) = false
is_unlike k (Some (number n)) = not (is_number k && is_some (as_integer n))
is_unlike k (Some (string s)) = is_number k
is_unlike k (Some _) = true

abbrev pub has_wrong_type : Data → Column → Bool
has_wrong_type row c = is_unlike c.kind (get c.name row)

-- from -2^n to 2^n - 1
abbrev pub is_within : ℕ → ℤ → Bool
is_within n (pos x) = nat_lt x (2 ^ n)
is_within n (negsuc x) = nat_lt x (2 ^ n)

-- INTEGER takes 32 bits with the sign, BIGINT 64
abbrev pub is_in_range : Kind → ℤ → Bool
is_in_range kind.Integer x = is_within 31 x
is_in_range kind.Bigint x = is_within 63 x
is_in_range kind.Text x = true

abbrev pub is_beyond : Kind → Option ℤ → Bool
is_beyond k None = false
is_beyond k (Some x) = not (is_in_range k x)

-- a whole number outside its column's type
abbrev pub number_outside : Kind → Option Data → Bool
number_outside k (Some (number n)) = is_beyond k (as_integer n)
number_outside k _ = false

abbrev pub is_out_of_range : Data → Column → Bool
is_out_of_range row c = number_outside c.kind (get c.name row)

abbrev pub number_cell : Option ℤ → Value
number_cell None = Null
number_cell (Some x) = Int x

-- the value of a member that is of its column's type
abbrev pub value_of : Option Data → Value
value_of (Some (number n)) = number_cell (as_i64 n)
value_of (Some (string s)) = Text s
value_of _ = Null

abbrev pub cell : Data → Column → Value
cell row c = value_of (get c.name row)
