-- Left joins, as nested loops over two lists that give a padded row for each left member without a match.
--     LeftJoin J K L      which pairs match, what is joined for a match, and the padded row
--     left_join by xs ys      the rows, as a list.       padded_product U by y z ys     the same by operators on Z-sets
--     has_no_match matches ys x      whether x matches no member of ys.        matching matches y z      the keys of y, for each match in z
use Rattle.std.specs.Prelude.{List, [], ◌∷◌, map, Bool, not, if◌then◌else◌}
use Rattle.std.specs.List.{filter, flat_map, list_any}
use Rattle.std.specs.declared.cmp.Ordering.{Ordering}
use Rattle.sq_algebra.specs.Listed.{or_one}
use Rattle.sq_algebra.specs.ZSet.{ZSet, plus}
use Rattle.sq_algebra.specs.Operators.{image, keep, product}

pub record LeftJoin (J K L : Type 0) : Type 0 where
  pub matches : J → K → Bool
  pub joined : J → K → L
  pub padded : J → L

-- for each left member its joined rows, or its padded row if it has none
abbrev pub left_join : {J K L : Type 0} → LeftJoin J K L → List J → List K → List L
left_join by xs ys = flat_map (λ x. or_one (map (by.joined x) (filter (by.matches x) ys)) (by.padded x)) xs

-- whether x matches no member of a list
abbrev pub has_no_match : {J K : Type 0} → (J → K → Bool) → List K → J → Bool
has_no_match matches ys x = not (list_any (matches x) ys)

-- the keys of y that match a key of z, for each match, with the product of the weights
abbrev pub matching : {J K : Type 0} {S : J → J → Ordering} {R : K → K → Ordering} → (J → K → Bool) → ZSet J S → ZSet K R → ZSet J S
matching {S = S} matches y z = product S (λ x k. if matches x k then x ∷ [] else []) y z

-- the product of the pairs that match, and the padded rows of the keys of y that match no member of ys
abbrev pub padded_product : {J K L : Type 0} {S : J → J → Ordering} {R : K → K → Ordering} (U : L → L → Ordering) → LeftJoin J K L → ZSet J S → ZSet K R → List K → ZSet L U
padded_product U by y z ys =
    plus (product U (λ x k. if by.matches x k then by.joined x k ∷ [] else []) y z) (image U (λ x. by.padded x ∷ []) (keep (has_no_match by.matches ys) y))
