-- Items of a select list, with stars written out.
use Rattle.std.specs.Prelude.{ℕ, Bool, true, false, List, [], bytes_eq, get_or, length, map, take}
use Rattle.std.specs.List.{list_any}
use Rattle.sq_ast.specs.declared.query.ItemTree.{ItemTree}
use Rattle.sq_ast.specs.declared.query.ItemTree.TheVariants as item
use Rattle.sq_typed.specs.Scopes.{Scope, Text, columns_in}
use Rattle.sq_typed.specs.Selected as selected
use Rattle.sq_scope.specs.declared.list_items.ListItem.{ListItem}
use Rattle.sq_scope.specs.declared.list_items.ListItem.TheVariants as chosen
use Rattle.sq_scope.specs.declared.stars.Stars.{Stars}

-- the item that is lent
abbrev pub chosen_of : ListItem → selected.Chosen
chosen_of (chosen.Starred number column) = selected.Starred number column.now
chosen_of (chosen.Written expr alias) = selected.Written expr.now alias.now

-- the columns of the source at a place, with their numbers among those of all sources
abbrev pub starred_at : Scope → ℕ → List selected.Chosen
starred_at scope place = selected.starred_from (length (columns_in (take place scope))) (get_or (map (λ s. s.columns) scope) place [])

-- whether an item is a plain star, and whether it is a star of the source with a name
abbrev pub is_star : ItemTree → Bool
is_star item.Star = true
is_star (item.StarOf of) = false
is_star (item.Expr e alias) = false

abbrev pub is_star_of : Text → ItemTree → Bool
is_star_of name item.Star = false
is_star_of name (item.StarOf of) = bytes_eq name of
is_star_of name (item.Expr e alias) = false

-- whether two items are the same star
abbrev pub is_same_star : ItemTree → ItemTree → Bool
is_same_star item.Star other = is_star other
is_same_star (item.StarOf of) other = is_star_of of other
is_same_star (item.Expr e alias) other = false

-- whether an item is a star that was seen
abbrev pub is_seen : Stars → ItemTree → Bool
is_seen stars item.Star = stars.plain
is_seen stars (item.StarOf of) = list_any (λ k. bytes_eq of k.now) stars.named.keys
is_seen stars (item.Expr e alias) = false
