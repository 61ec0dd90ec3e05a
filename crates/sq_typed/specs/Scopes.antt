-- Which columns are in scope, and which of them a reference finds.
--     Scope        the sources of a FROM, each a name with columns.       places scope r        the columns that a reference finds
use Rattle.std.specs.Prelude.{ℕ, ◌+◌, Bool, true, false, ◌||◌, if◌then◌else◌, List, [], ◌∷◌, ◌++◌, map, length, get_or, position, bytes_eq, Option, Some, None}
use Rattle.std.specs.List.{flat_map, list_any}
use Rattle.sq_ast.specs.declared.expr.ColRef.{ColRef}
use Rattle.sq_catalog.specs.declared.relation.Column.{Column}
use Rattle.sq_expr.specs.declared.expr.Kind.{Kind}

abbrev pub Text : Type 0
Text = List ℕ

-- a source of a FROM
pub record Named : Type 0 where
  pub name : Text
  pub columns : List Column

-- the sources of a FROM in order, or those up to one of them
abbrev pub Scope : Type 0
Scope = List Named

-- the columns in scope, which are counted from 0, and their kinds
abbrev pub columns_in : Scope → List Column
columns_in scope = flat_map (λ s. s.columns) scope

abbrev pub kinds_in : Scope → List Kind
kinds_in scope = map (λ c. c.kind) (columns_in scope)

-- whether a name stands twice in a list
abbrev pub repeats : List Text → Bool
repeats [] = false
repeats (name ∷ names) = list_any (bytes_eq name) names || repeats names

-- whether a reference may mean this source: its qualifier is the source's name, or it has none
abbrev pub may_mean : Option Text → Text → Bool
may_mean None name = true
may_mean (Some qualifier) name = bytes_eq qualifier name

-- the place of the column that a reference finds in a source
abbrev pub place_in : ColRef → Named → Option ℕ
place_in r s = if may_mean r.qualifier s.name then position (λ c. bytes_eq r.name c.name) s.columns else None

-- the number of a column from its place in a source, whose columns begin at a number
abbrev pub counted : ℕ → Option ℕ → List ℕ
counted begin None = []
counted begin (Some place) = (begin + place) ∷ []

-- the numbers of the columns that a reference finds, one of each source in which it finds any
abbrev pub places_from : ℕ → Scope → ColRef → List ℕ
places_from begin [] r = []
places_from begin (s ∷ ss) r = counted begin (place_in r s) ++ places_from (begin + length s.columns) ss r

abbrev pub places : Scope → ColRef → List ℕ
places scope r = places_from 0 scope r

-- the number of the column that a reference means, the first that it finds; 0 where it finds none
abbrev pub number_of : Scope → ColRef → ℕ
number_of scope r = get_or (places scope r) 0 0
