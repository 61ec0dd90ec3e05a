-- The values in some columns of a row: in its first ones, and in those of its key.
use Rattle.std.proofs.Common.{◌≡◌, ℕ, zero, suc, ◌≤◌, List, [], ◌∷◌, ◌++◌, map, take, length, get_or, Bool, not, ◌||◌, Option, Some, refl, sym, ap, ap₂, ◌∙◌, arith, add-one}
use Rattle.std.specs.Prelude.{slice_get, unwrap_or}
use Rattle.std.specs.List.{list_any}
use Rattle.std.proofs.lemmas.List.{map-append, take_all}
use Rattle.std.proofs.lemmas.Option.{cond_some, slice_get-get_or}
use Rattle.sq_expr.proofs.Lists.{take_more}
use Rattle.sq_value.specs.declared.value.Value.{Value}
use Rattle.sq_value.specs.declared.value.Value.TheVariants.{Null}
use Rattle.sq_algebra.specs.Keyed.{numbers_below}
use Rattle.sq_expr.specs.Meaning.{column_of, columns_of, is_null}
use Rattle.sq_expr.specs.declared.expr.Expr.TheVariants as expr
use Rattle.sq_expr.proofs.Equations.{num-Column}
use Rattle.sq_ops.specs.Joins.{key_in}
use Rattle.sq_ops.specs.Rows.{Row, items_of}

-- the first n columns
pub columns_below : (n : ℕ) (row : Row) → n ≤ length row → columns_of (numbers_below n) row ≡ take n row
columns_below zero row h = refl
columns_below (suc n) row h =
    map-append (column_of row) (numbers_below n) (n ∷ [])
    ∙ ap₂ (λ xs ys. xs ++ ys) (columns_below n row (omega (arith, h))) (ap (λ (o : Option Value). unwrap_or o Null ∷ []) found)
    ∙ sym (take_more row n (get_or row n Null) found)
    ∙ ap (λ k. take k row) (add-one n)
  where
    found : slice_get row n ≡ Some (get_or row n Null)
    found = slice_get-get_or row n Null (omega (arith, h))

pub all_columns : (n : ℕ) (row : Row) → length row ≡ n → columns_of (numbers_below n) row ≡ row
all_columns n row e = columns_below n row (omega (arith, e)) ∙ take_all n row (omega (arith, e))

-- items that are columns
pub plain_items : (columns : List ℕ) (row : Row) → items_of (map expr.Column columns) row ≡ columns_of columns row
plain_items [] row = refl
plain_items (n ∷ ns) row = ap₂ (λ x xs. x ∷ xs) (num-Column n row) (plain_items ns row)

-- a key is the values in its columns
pub key_tells : (columns : List ℕ) (nulls_match : Bool) (row key : Row) → key_in columns nulls_match row ≡ Some key → columns_of columns row ≡ key
key_tells columns nulls_match row key e = (cond_some (nulls_match || not (list_any (λ i. is_null (column_of row i)) columns)) (columns_of columns row) key e).1
