-- The rows that a trace holds, by weights; and those of a node.
use Rattle.std.proofs.Common.{◌≡◌, List, [], ◌∷◌, ◌++◌, Bool, true, false, cond, ◌&&◌, ℤ, pos, ◌+ℤ◌, refl, sym, ap, ap₂, ◌∙◌, arith, Ordering, Less, Equal, Greater, is_eq}
use Rattle.std.specs.Prelude.{Some}
use Rattle.std.specs.List.{flat_map}
use Rattle.std.specs.Ordering.{ordering_then}
use borrow.Author.Differences.{ints}
use Rattle.sq_value.specs.declared.value.Value.{Value}
use Rattle.sq_value.specs.Order.{row_cmp}
use Rattle.sq_value.specs.OrderLaws.{row_cmp-total, row_cmp-antisymmetric}
use Rattle.sq_algebra.specs.Groups.{integers}
use Rattle.sq_algebra.specs.ZSet.{weight, weight_in}
use Rattle.sq_algebra.proofs.ListLemmas.{tie_back}
use Rattle.sq_algebra.proofs.Sums.{int_sum_by-append}
use Rattle.sq_agg.proofs.Homes.{same_tied, tied}
use Rattle.sq_zset.proofs.Rows.{same_weights, weight-from_pairs, weight-zero}
use Rattle.sq_distinct.specs.Stepping.{HoldsRows}
use Rattle.sq_circuit.specs.Nodes.{Rows, none}
use Rattle.sq_states.specs.Keeps.{OnRows}
use Rattle.sq_states.specs.declared.kept.NodeState.{NodeState}
use Rattle.sq_states.specs.declared.kept.NodeState.TheVariants as state
use Rattle.sq_trace.specs.Runs.{at, content, given}
use Rattle.sq_trace.specs.declared.entry.Entry.{Entry}
use Rattle.sq_tables.specs.Tables.{own_row, rows_held, rows_kept}

-- ---- one entry
eq_then : (a b : Ordering) → is_eq (ordering_then a b) ≡ (is_eq a && is_eq b)
eq_then Less b = refl
eq_then Equal b = refl
eq_then Greater b = refl

and_true : (a : Bool) → a && true ≡ a
and_true true = refl
and_true false = refl

and_false : (a : Bool) → a && false ≡ false
and_false true = refl
and_false false = refl

none_either : (b : Bool) → cond b (pos 0) (pos 0) ≡ pos 0
none_either true = refl
none_either false = refl

zero_left : (n : ℤ) → n ≡ pos 0 +ℤ n
zero_left n = omega (arith, ints)

-- what an entry gives for a row under itself: its weight, if it is of that row and stands under it
abbrev own_weight : List Value → Entry ℤ → ℤ
own_weight row e = cond (is_eq (row_cmp e.key e.row)) (cond (is_eq (row_cmp row e.row)) e.payload (pos 0)) (pos 0)

given_own : (row : List Value) (e : Entry ℤ) → given integers (row, row) e ≡ own_weight row e
given_own row e =
    elim (is_eq (row_cmp row e.row)) as (λ b. is_eq (row_cmp row e.row) ≡ b → given integers (row, row) e ≡ cond (is_eq (row_cmp e.key e.row)) (cond b e.payload (pos 0)) (pos 0)) [
      | true ↦ λ same.
          let is : row ≡ e.row = row_cmp-antisymmetric row e.row (tied (row_cmp row e.row) same) in
          ap (λ b. cond b e.payload (pos 0)) (both ∙ ap (λ b. is_eq (row_cmp e.key row) && b) same ∙ and_true (is_eq (row_cmp e.key row)) ∙ ap (λ r. is_eq (row_cmp e.key r)) is)
      | false ↦ λ apart.
          ap (λ b. cond b e.payload (pos 0)) (both ∙ ap (λ b. is_eq (row_cmp e.key row) && b) apart ∙ and_false (is_eq (row_cmp e.key row)))
          ∙ sym (none_either (is_eq (row_cmp e.key e.row)))
    ] refl
  where
    both : is_eq (ordering_then (row_cmp e.key row) (row_cmp e.row row)) ≡ (is_eq (row_cmp e.key row) && is_eq (row_cmp row e.row))
    both = eq_then (row_cmp e.key row) (row_cmp e.row row) ∙ ap (λ b. is_eq (row_cmp e.key row) && b) (tie_back row_cmp row_cmp-total e.row row)

in_front_of : (row : List Value) (e : Entry ℤ) (ps : List (List Value × ℤ)) → weight_in row_cmp row (own_row e ++ ps) ≡ own_weight row e +ℤ weight_in row_cmp row ps
in_front_of row e ps =
    elim (is_eq (row_cmp e.key e.row)) as (λ b. weight_in row_cmp row (cond b ((e.row, e.payload) ∷ []) [] ++ ps) ≡ cond b (cond (is_eq (row_cmp row e.row)) e.payload (pos 0)) (pos 0) +ℤ weight_in row_cmp row ps) [
      | true ↦ refl
      | false ↦ zero_left (weight_in row_cmp row ps)
    ]

-- ---- all entries
in_run : (row : List Value) (es : List (Entry ℤ)) → weight_in row_cmp row (flat_map own_row es) ≡ at integers (row, row) es
in_run row [] = refl
in_run row (e ∷ es) = in_front_of row e (flat_map own_row es) ∙ ap₂ (λ m n. m +ℤ n) (sym (given_own row e)) (in_run row es)

in_parts : (row : List Value) (parts : List (List (Entry ℤ))) → weight_in row_cmp row (flat_map (λ es. flat_map own_row es) parts) ≡ content integers (row, row) parts
in_parts row [] = refl
in_parts row (es ∷ parts) =
    int_sum_by-append (λ (p : List Value × ℤ). cond (is_eq (row_cmp row p.0)) p.1 (pos 0)) (flat_map own_row es) (flat_map (λ fs. flat_map own_row fs) parts)
    ∙ ap₂ (λ m n. m +ℤ n) (in_run row es) (in_parts row parts)

-- each row has the weight that the trace holds under it
pub weight-rows_held : (row : List Value) (parts : List (List (Entry ℤ))) → weight row (rows_held parts) ≡ content integers (row, row) parts
unfolding rows_held
weight-rows_held row parts = weight-from_pairs row (flat_map (λ es. flat_map own_row es) parts) ∙ in_parts row parts

pub itself : (parts : List (List (Entry ℤ))) (z : Rows) (row : List Value) → HoldsRows parts z → content integers (row, row) parts ≡ weight row z
itself parts z row holds = holds.held row row ∙ ap (λ b. cond b (weight row z) (pos 0)) (same_tied row row refl)

-- a trace that holds the rows of a Z-set is one of these rows
held_is : (parts : List (List (Entry ℤ))) (z : Rows) → HoldsRows parts z → rows_held parts ≡ z
held_is parts z holds = same_weights (rows_held parts) z (λ row. weight-rows_held row parts ∙ itself parts z row holds)

pub held_none : rows_held [] ≡ none
held_none = same_weights (rows_held []) none (λ row. weight-rows_held row [] ∙ sym (weight-zero row))

-- ---- a node
pub kept_is : (kept : NodeState) (z : Rows) → OnRows kept (λ parts. HoldsRows parts z) → rows_kept (Some kept) ≡ z
kept_is state.Nothing z holds = absurd holds
kept_is (state.Rows parts) z holds = held_is parts z holds
kept_is (state.Sides left right) z holds = absurd holds
kept_is (state.Groups accs ordered shown) z holds = absurd holds
