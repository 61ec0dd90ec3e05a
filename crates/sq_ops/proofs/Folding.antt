-- A fold over the values in a column, row after row.
use Rattle.std.proofs.Common.{◌≡◌, ℕ, ◌+◌, List, [], ◌∷◌, map, take, ℤ, Some, ap, ◌∙◌}
use Rattle.std.specs.Prelude.{slice_get}
use Rattle.std.specs.List.{fold}
use Rattle.std.proofs.lemmas.Grind.{fold-append}
use Rattle.std.proofs.lemmas.List.{map-append}
use Rattle.sq_expr.proofs.Lists.{take_more}
use Rattle.sq_value.specs.declared.value.Value.{Value}
use Rattle.sq_expr.specs.Meaning.{column_of}

pub folded_more : (f : Value → Value → Value) (a : Value) (column : ℕ) (es : List (List Value × ℤ)) (i : ℕ) (row : List Value) (n : ℤ) → slice_get es i ≡ Some (row, n) → fold f a (map (λ e. column_of e.0 column) (take (i + 1) es)) ≡ f (fold f a (map (λ e. column_of e.0 column) (take i es))) (column_of row column)
folded_more f a column es i row n found =
    ap (λ xs. fold f a (map (λ e. column_of e.0 column) xs)) (take_more es i (row, n) found)
    ∙ ap (fold f a) (map-append (λ (e : List Value × ℤ). column_of e.0 column) (take i es) ((row, n) ∷ []))
    ∙ fold-append f a (map (λ e. column_of e.0 column) (take i es)) (column_of row column ∷ [])
