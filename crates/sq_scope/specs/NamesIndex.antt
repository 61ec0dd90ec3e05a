-- Where the sources and the columns of each name stand.
--     spots_from source begin scope name        the places of its columns.       named_from source scope name        its sources
use Rattle.std.specs.Prelude.{◌≡◌, ◌<◌, ℕ, suc, ◌+◌, ◌==◌, nat_lt, Bool, false, if◌then◌else◌, List, [], ◌∷◌, ◌++◌, ⊤, map, length, position, bytes_eq, Option, Some, None, String, Vec}
use Rattle.std.specs.BTreeMap.{BTreeMap, get_by_text}
use Rattle.std.specs.List.{AllByRecursion, filter}
use Rattle.std.specs.Option.{option_map_or}
use Rattle.sq_scope.specs.declared.index.Index.{Index}
use Rattle.sq_scope.specs.declared.index.Place.{Place}
use Rattle.sq_typed.specs.Scopes.{Scope, Text}

-- the place of a column of a source, whose columns begin at a number
abbrev pub spot_at : ℕ → ℕ → Option ℕ → List Place
spot_at source begin None = []
spot_at source begin (Some place) = record { source = source; number = begin + place } ∷ []

-- the places of a name, one of each source in which it stands, where the sources and the columns are counted from these numbers
abbrev pub spots_from : ℕ → ℕ → Scope → Text → List Place
spots_from source begin [] name = []
spots_from source begin (s ∷ ss) name = spot_at source begin (position (λ c. bytes_eq name c.name) s.columns) ++ spots_from (suc source) (begin + length s.columns) ss name

-- the sources of a name
abbrev pub named_from : ℕ → Scope → Text → List ℕ
named_from source [] name = []
named_from source (s ∷ ss) name = (if bytes_eq name s.name then source ∷ [] else []) ++ named_from (suc source) ss name

-- what stands under a name
abbrev pub spots_of : {A B : Type 0} → BTreeMap (String A) (Vec Place B) → Text → List Place
spots_of places name = option_map_or (λ v. v.items) (get_by_text places name) []

abbrev pub named_in : {A B : Type 0} → BTreeMap (String A) (Vec ℕ B) → Text → List ℕ
named_in sources name = option_map_or (λ v. v.items) (get_by_text sources name) []

-- the sources of places rise
abbrev pub IsRising : List Place → Type 0
IsRising [] = ⊤
IsRising (p ∷ ps) = AllByRecursion (λ other. p.source < other.source) ps × IsRising ps

-- the numbers of the places in a source, and in the sources before it
abbrev pub numbers_at : ℕ → List Place → List ℕ
numbers_at source places = map (λ p. p.number) (filter (λ p. p.source == source) places)

abbrev pub numbers_before : ℕ → List Place → List ℕ
numbers_before sources places = map (λ p. p.number) (filter (λ p. nat_lt p.source sources) places)

-- the number of a place that is in a source
abbrev pub number_if_at : ℕ → Option Place → List ℕ
number_if_at source None = []
number_if_at source (Some p) = if p.source == source then p.number ∷ [] else []

-- whether the last place is in a source
abbrev pub ends_in : ℕ → List Place → Bool
ends_in source [] = false
ends_in source (p ∷ []) = p.source == source
ends_in source (p ∷ q ∷ ps) = ends_in source (q ∷ ps)

-- the numbers of the places in a source, where it is among the first
abbrev pub found_in : ℕ → List Place → ℕ → List ℕ
found_in sources places source = if nat_lt source sources then numbers_at source places else []

-- an index holds the sources and the columns of each name
pub record IsIndexed (scope : Scope) (index : Index) : Type 0 where
  pub names : (q : Text) → named_in index.by_name q ≡ named_from 0 scope q
  pub columns : (q : Text) → spots_of index.by_column q ≡ spots_from 0 0 scope q
