-- Left joins as pairs, and the padded rows that have none.
use Rattle.std.proofs.Common.{◌≡◌, ℕ, List, [], ◌∷◌, ◌++◌, map, length, Bool, true, false, cond, not, ◌&&◌, Some, filter, refl, sym, ap, ap₂, ◌∙◌, arith, is_eq}
use Rattle.std.specs.List.{AllByRecursion, flat_map, list_any}
use Rattle.std.proofs.lemmas.List.{length-append, map-append, take_at}
use Rattle.sq_value.specs.Order.{row_cmp}
use Rattle.sq_value.specs.OrderLaws.{row_cmp-total, row_cmp-antisymmetric}
use Rattle.sq_algebra.specs.Keyed.{numbers_below}
use Rattle.sq_algebra.specs.Listed.{first_of_each, or_one}
use Rattle.sq_algebra.specs.Operators.{distinct, keep, meet, product}
use Rattle.sq_algebra.specs.ZSet.{minus, plus}
use Rattle.sq_algebra.proofs.PaddingLemmas.{of_list-padded, unmatched_is}
use Rattle.sq_zset.proofs.RowOperators.{distinct-of_list, image-of_list-map, keep-of_list, product-of_list}
use Rattle.sq_expr.specs.declared.cond.Cond.{Cond}
use Rattle.sq_expr.specs.declared.cond.Cond.TheVariants as condition
use Rattle.sq_expr.specs.Meaning.{columns_of}
use Rattle.sq_expr.proofs.Lists.{all_flattened, all_weaker}
use Rattle.sq_ops.specs.Rows.{Row, holds, items_of, padded}
use Rattle.sq_ops.proofs.ListTies.{one_pair}
use Rattle.sq_ops.proofs.RowColumns.{all_columns, columns_below, plain_items}
use Rattle.sq_typed.specs.From.{all_hold, matches, or_padded, outer}
use Rattle.sq_typed.specs.Laws.{AreOfWidth}
use Rattle.sq_typed.proofs.AnswerLemmas.{all_first}
use Rattle.sq_typed.proofs.Tests.{every}
use Rattle.sq_circuit.specs.Nodes.{paired}
use Rattle.sq_bridge.specs.Joins.{first_columns, has_no_pair, joined_on, left_joined, same_rows, unpaired}
use Rattle.sq_bridge.specs.Rows.{Rows, listed, padded_by, projected}
use Rattle.sq_bridge.proofs.Joining.{all_is, joins, loops_as, loops_on, pair_if}
use Rattle.sq_bridge.proofs.Lists.{filter_of_map, flat_map_agree}

-- ---- the first columns

pub front_columns : (w : ℕ) (row other : Row) → length row ≡ w → columns_of (numbers_below w) (row ++ other) ≡ row
front_columns w row other e = columns_below w (row ++ other) (omega (arith, e, length-append row other)) ∙ take_at row other w e

-- ---- rows that are the same

-- the row, if the other is the same
abbrev pub if_same : Row → Row → List Row
if_same row other = cond (is_eq (row_cmp row other)) (row ∷ []) []

and_true : (b : Bool) → (b && true) ≡ b
and_true true = refl
and_true false = refl

pub same_pair : (w : ℕ) (row other : Row) → length row ≡ w → length other ≡ w → joins (same_rows w) row other ≡ if_same row other
same_pair w row other ew ev =
    one_pair (Some (columns_of (numbers_below w) row)) (Some (columns_of (numbers_below w) other)) (holds (condition.All []) (row ++ other)) (columns_of (numbers_below w) (row ++ other))
    ∙ ap₂ (λ b r. cond b (r ∷ []) [])
    (ap₂ (λ a b. a && b) (ap₂ (λ r s. is_eq (row_cmp r s)) (all_columns w row ew) (all_columns w other ev)) (all_is [] (row ++ other)) ∙ and_true (is_eq (row_cmp row other)))
    (front_columns w row other ew)

pub same_on : (w : ℕ) (rows others : List Row) → AreOfWidth w rows → AreOfWidth w others → paired (same_rows w) (listed rows) (listed others) ≡ meet (listed rows) (listed others)
same_on w rows others hw hv =
    loops_as (same_rows w) if_same rows others
    (all_weaker (λ row. length row ≡ w) (λ row. AllByRecursion (λ other. joins (same_rows w) row other ≡ if_same row other) others) rows
    (λ row ew. all_weaker (λ other. length other ≡ w) (λ other. joins (same_rows w) row other ≡ if_same row other) others (λ other ev. same_pair w row other ew ev) hv) hw)
    ∙ sym (product-of_list if_same rows others)

-- ---- the fronts of pairs

module _ (w v : ℕ) (conds : List Cond) where
  -- the left row of a pair
  abbrev front_if : Row → Row → List Row
  front_if row other = cond (all_hold conds (row ++ other)) (row ∷ []) []

  abbrev pair_rows : List Row → List Row → List Row
  pair_rows rows others = flat_map (λ row. flat_map (pair_if conds row) others) rows

  abbrev front_rows : List Row → List Row → List Row
  front_rows rows others = flat_map (λ row. flat_map (front_if row) others) rows

  fronts_of_row : (g : Row → Row) (row : Row) → ((other : Row) → g (row ++ other) ≡ row) → (others : List Row) → map g (flat_map (pair_if conds row) others) ≡ flat_map (front_if row) others
  fronts_of_row g row is [] = refl
  fronts_of_row g row is (other ∷ others) =
      elim (all_hold conds (row ++ other)) as (λ b. map g (cond b ((row ++ other) ∷ []) [] ++ flat_map (pair_if conds row) others) ≡ cond b (row ∷ []) [] ++ flat_map (front_if row) others) [
        | true ↦ ap₂ (λ r rs. r ∷ rs) (is other) (fronts_of_row g row is others)
        | false ↦ fronts_of_row g row is others
      ]

  fronts_of_rows : (g : Row → Row) (others rows : List Row) → AllByRecursion (λ row. (other : Row) → g (row ++ other) ≡ row) rows → map g (pair_rows rows others) ≡ front_rows rows others
  fronts_of_rows g others [] h = refl
  fronts_of_rows g others (row ∷ rows) h =
      map-append g (flat_map (pair_if conds row) others) (pair_rows rows others)
      ∙ ap₂ (λ xs ys. xs ++ ys) (fronts_of_row g row h.0 others) (fronts_of_rows g others rows h.1)

  one_front : (row other : Row) → length row ≡ w → AreOfWidth w (front_if row other)
  one_front row other e = elim (all_hold conds (row ++ other)) as (λ b. AreOfWidth w (cond b (row ∷ []) [])) [ true ↦ (e, tt) | false ↦ tt ]

  fronts_width : (rows others : List Row) → AreOfWidth w rows → AreOfWidth w (front_rows rows others)
  fronts_width rows others h = all_flattened (λ r. length r ≡ w) (λ row. flat_map (front_if row) others) rows
      (all_weaker (λ row. length row ≡ w) (λ row. AreOfWidth w (flat_map (front_if row) others)) rows
      (λ row e. all_flattened (λ r. length r ≡ w) (front_if row) others (every (λ other. AreOfWidth w (front_if row other)) others (λ other. one_front row other e))) h)

  module _ (rows others : List Row) (hw : AreOfWidth w rows) (hv : AreOfWidth v others) where
    abbrev has_none : Row → Bool
    has_none row = not (list_any (λ other. all_hold conds (row ++ other)) others)

    abbrev pairs : Rows
    pairs = paired (joined_on w v conds) (listed rows) (listed others)

    fronts_are : projected (first_columns w) pairs ≡ listed (front_rows rows others)
    fronts_are =
        ap (projected (first_columns w)) (loops_on w v conds rows others hw hv)
        ∙ image-of_list-map (items_of (first_columns w)) (pair_rows rows others)
        ∙ ap listed (fronts_of_rows (items_of (first_columns w)) others rows
        (all_weaker (λ row. length row ≡ w) (λ row. (other : Row) → items_of (first_columns w) (row ++ other) ≡ row) rows (λ row e other. plain_items (numbers_below w) (row ++ other) ∙ front_columns w row other e) hw))

    -- the rows that have a pair, by those in front of pairs
    found_are : paired (same_rows w) (listed rows) (distinct (projected (first_columns w) pairs)) ≡ meet (listed rows) (distinct (product row_cmp front_if (listed rows) (listed others)))
    found_are =
        ap (λ z. paired (same_rows w) (listed rows) (distinct z)) fronts_are
        ∙ ap (paired (same_rows w) (listed rows)) (distinct-of_list (front_rows rows others))
        ∙ same_on w rows (first_of_each row_cmp (front_rows rows others)) hw (all_first (λ r. length r ≡ w) (front_rows rows others) (fronts_width rows others hw))
        ∙ sym (ap (λ z. meet (listed rows) (distinct z)) (product-of_list front_if rows others) ∙ ap (meet (listed rows)) (distinct-of_list (front_rows rows others)))

    pub unpaired_are : unpaired w (listed rows) pairs ≡ keep has_none (listed rows)
    unpaired_are =
        ap (minus (listed rows)) found_are
        ∙ sym (unmatched_is (λ row other. all_hold conds (row ++ other)) row_cmp row_cmp-total row_cmp-antisymmetric row_cmp row_cmp-total row_cmp-antisymmetric rows others)

    padded_is : (row : Row) (rs : List Row) → or_padded v row rs ≡ or_one rs (padded v row)
    padded_is row [] = refl
    padded_is row (r ∷ rs) = refl

    outer_is : outer v conds others rows ≡ flat_map (λ row. or_one (map (λ other. row ++ other) (filter (λ other. all_hold conds (row ++ other)) others)) (padded v row)) rows
    outer_is = flat_map_agree (λ row. or_padded v row (matches conds others row)) (λ row. or_one (map (λ other. row ++ other) (filter (λ other. all_hold conds (row ++ other)) others)) (padded v row)) rows
        (every (λ row. or_padded v row (matches conds others row) ≡ or_one (map (λ other. row ++ other) (filter (λ other. all_hold conds (row ++ other)) others)) (padded v row)) rows
        (λ row. padded_is row (matches conds others row) ∙ ap (λ rs. or_one rs (padded v row)) (filter_of_map (all_hold conds) (λ other. row ++ other) others)))

    left_is : left_joined w v conds (listed rows) (listed others) ≡ listed (outer v conds others rows)
    left_is = sym (
        ap listed outer_is
        ∙ of_list-padded (λ row other. all_hold conds (row ++ other)) (λ row other. row ++ other) (padded v) row_cmp row_cmp-total row_cmp-antisymmetric row_cmp row_cmp-total row_cmp-antisymmetric row_cmp row_cmp-total row_cmp-antisymmetric rows others
        ∙ ap₂ plus
        (product-of_list (pair_if conds) rows others ∙ sym (loops_on w v conds rows others hw hv))
        (ap (padded_by v) (sym unpaired_are)))

pub left_on : (w v : ℕ) (conds : List Cond) (rows others : List Row) → AreOfWidth w rows → AreOfWidth v others → left_joined w v conds (listed rows) (listed others) ≡ listed (outer v conds others rows)
left_on w v conds rows others hw hv = left_is w v conds rows others hw hv

pub unpaired_on : (w v : ℕ) (conds : List Cond) (rows others : List Row) → AreOfWidth w rows → AreOfWidth v others → unpaired w (listed rows) (paired (joined_on w v conds) (listed rows) (listed others)) ≡ listed (filter (has_no_pair conds others) rows)
unpaired_on w v conds rows others hw hv = unpaired_are w v conds rows others hw hv ∙ keep-of_list (has_no_pair conds others) rows
