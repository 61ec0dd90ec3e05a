-- What `count` answers of a list of rows, piece by piece.
use Rattle.std.specs.Prelude.{◌≡◌, ◌≢◌, ℕ, ◌+◌, List, [], ◌∷◌, ◌++◌, Bool, true, false, cond, IsPermutation, refl}
use Rattle.std.proofs.Common.{ap, arith, ◌∙◌}
use Rattle.std.proofs.lemmas.List.Sums.{sum_by-cons, sum_by-append}
use Rattle.std.proofs.lemmas.List.Sorted.{sum_by-IsPermutation}
use Rattle.std.specs.Ordering.{is_eq}
use Rattle.sq_value.specs.declared.value.Value.{Value}
use Rattle.sq_value.specs.Order.{row_cmp}
use Rattle.sq_value.specs.Count.{count}
use Rattle.sq_value.specs.OrderLaws.{row_eq-same}

-- 1 where `s` is the same row as `r`, and else 0
abbrev one_if_same : List Value → List Value → ℕ
one_if_same r s = cond (is_eq (row_cmp r s)) 1 0

pub count-empty : (r : List Value) → count r [] ≡ 0
count-empty r = refl

pub count-cons : (r s : List Value) (rows : List (List Value)) → count r (s ∷ rows) ≡ cond (is_eq (row_cmp r s)) 1 0 + count r rows
count-cons r s rows = sum_by-cons (one_if_same r) s rows

pub count-append : (r : List Value) (rows more : List (List Value)) → count r (rows ++ more) ≡ count r rows + count r more
count-append r rows more = sum_by-append (one_if_same r) rows more

pub count-same : (r : List Value) (rows : List (List Value)) → count r (r ∷ rows) ≡ 1 + count r rows
count-same r rows = count-cons r r rows ∙ ap (λ b. cond b 1 0 + count r rows) ((row_eq-same r r).1 refl)

other_by : (r s : List Value) (rows : List (List Value)) (b : Bool) → is_eq (row_cmp r s) ≡ b → r ≢ s → cond b 1 0 + count r rows ≡ count r rows
other_by r s rows true e h = absurd (h ((row_eq-same r s).0 e))
other_by r s rows false e h = omega arith

pub count-other : (r s : List Value) (rows : List (List Value)) → r ≢ s → count r (s ∷ rows) ≡ count r rows
count-other r s rows h = count-cons r s rows ∙ other_by r s rows (is_eq (row_cmp r s)) refl h

-- the order in which the rows stand does not matter
pub count-IsPermutation : (r : List Value) (rows others : List (List Value)) → IsPermutation rows others → count r others ≡ count r rows
count-IsPermutation r rows others moved = sum_by-IsPermutation (one_if_same r) rows others moved

pub ruleset counts = (count-empty, count-cons, count-append, count-same, count-other)
