-- The names of relations, no two of which are the same.
use Rattle.std.specs.Prelude.{◌≡◌, ◌<◌, ◌^◌, ℕ, Bool, true, not, ◌&&◌, List, [], ◌∷◌, map, length, position, bytes_eq, Option, IsTrue, String}
use Rattle.std.specs.List.{list_any, AllByRecursion}
use Rattle.std.specs.String.{string_bytes}
use Rattle.sq_catalog.specs.declared.relation.Relation.{Relation}

-- the place of the first relation with this name
abbrev pub place_of : List ℕ → List Relation → Option ℕ
place_of name relations = position (λ r. bytes_eq name r.name) relations

-- whether a relation has this name
abbrev pub is_named : List ℕ → List Relation → Bool
is_named name relations = list_any (λ r. bytes_eq name r.name) relations

-- whether no two relations have the same name
abbrev pub names_differ : List Relation → Bool
names_differ [] = true
names_differ (r ∷ rs) = not (is_named r.name rs) && names_differ rs

-- the relations in a list of them by name
abbrev pub created : {A : Type 0} → List (String A × Relation) → List Relation
created es = map (λ e. e.1) es

-- each stands under its own name, under which none stood before, and they can be numbered in 32 bits
pub record IsByName {A : Type 0} (es : List (String A × Relation)) : Type 0 where
  pub own : AllByRecursion (λ e. string_bytes e.0 ≡ e.1.name) es
  pub differ : IsTrue (names_differ (created es))
  pub few : length es < 2 ^ 32
