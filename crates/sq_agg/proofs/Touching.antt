-- The groups that a step looks at: each group with changed rows stands among them once, and they ascend.
use Rattle.std.proofs.Common.{◌≡◌, ℕ, ◌+◌, ◌≤◌, ◌^◌, List, [], ◌∷◌, map, Bool, true, false, cond, not, ◌&&◌, T, ℤ, pos, None, refl, sym, ap, subst, ◌∙◌, arith, is_eq}
use Rattle.std.specs.Prelude.{◌≤ℤ◌}
use mathlib.Core.Logic.{◌⊎◌, inl, inr}
use Rattle.std.specs.List.{All}
use borrow.Author.Differences.{ints}
use Rattle.sq_value.specs.Order.{row_cmp}
use Rattle.sq_value.specs.OrderLaws.{row_cmp-antisymmetric, row_cmp-total}
use Rattle.sq_algebra.specs.Groups.{z_sets}
use Rattle.sq_algebra.specs.Keyed.{CoversOnce, keys_of}
use Rattle.sq_algebra.specs.Listed.{count, is_ascending}
use Rattle.sq_algebra.specs.ZSet.{entries, entries-zero, minus, plus, same_entries, total, zero as no_rows}
use Rattle.sq_algebra.proofs.EachLemmas.{each-plus}
use Rattle.sq_algebra.proofs.GroupLemmas.{neutral_right, plus-minus_left}
use Rattle.sq_algebra.proofs.KeyedLemmas.{covers-keys_of, part_or_covered}
use Rattle.sq_algebra.proofs.Lists.{is_ascending-in_order}
use Rattle.sq_expr.specs.Meaning.{columns_of}
use Rattle.sq_ops.specs.Aggregates.{SuitsSpec, group_of, groups_of, rows_of_group}
use Rattle.sq_ops.specs.Fits.{FitsRow, FitsRows}
use Rattle.sq_ops.specs.Measures.{IsMeasurable}
use Rattle.sq_ops.specs.Wholes.{has_no_values}
use Rattle.sq_ops.specs.declared.aggregate.AggSpec.{AggSpec}
use Rattle.sq_ops.proofs.Grouping.{fitting_change}
use Rattle.sq_zset.specs.Collecting.{mass_of}
use Rattle.sq_zset.specs.GroupLaws.{rows_are_abelian}
use Rattle.sq_zset.specs.Range.{first_outside_in}
use Rattle.sq_zset.proofs.Masses.{mass-image, mass-in_range, mass-keep, mass-minus, mass-total}
use Rattle.sq_zset.proofs.RowKeys.{at_key-plus}
use Rattle.sq_ops.specs.Arguments.{argument_of, arguments}
use Rattle.sq_algebra.specs.Keyed.{at_key}
use Rattle.sq_agg.specs.Aggregating.{AggState, touched}
use Rattle.sq_agg.specs.Kept.{KeptAccumulators, Row, Rows}
use Rattle.sq_agg.specs.Shifts.{GroupState}
use Rattle.sq_agg.specs.Stepping.{KeptWeights}
use Rattle.sq_agg.proofs.Arguing.{at_most_one}

pub no_entries : {X : Type 0} (xs : List X) → has_no_values xs ≡ true → xs ≡ []
no_entries [] e = refl
no_entries (x ∷ xs) e = absurd (cc e)

pub left_of_both : (a b : Bool) → a && b ≡ true → a ≡ true
left_of_both true b e = refl
left_of_both false b e = absurd (cc e)

pub empty_change : (d : Rows) → has_no_values (entries d) ≡ true → d ≡ no_rows row_cmp
empty_change d e = same_entries d (no_rows row_cmp) (no_entries (entries d) e ∙ sym (entries-zero row_cmp))

module _ (spec : AggSpec) (d : Rows) where
  pub all_covered : CoversOnce row_cmp (group_of spec) (groups_of spec d) d
  all_covered =
      elim spec.global as (λ b. CoversOnce row_cmp (columns_of (cond b [] spec.group)) (cond b ([] ∷ []) (keys_of row_cmp (columns_of (cond b [] spec.group)) d)) d) [
        | true ↦ λ i e low. refl
        | false ↦ covers-keys_of row_cmp row_cmp-total row_cmp-antisymmetric row_cmp row_cmp-total row_cmp-antisymmetric (columns_of spec.group) d
      ]

  keys_ascend : T (is_ascending row_cmp (keys_of row_cmp (group_of spec) d))
  unfolding keys_of
  keys_ascend = is_ascending-in_order row_cmp row_cmp-total (map (λ e. group_of spec e.0) (entries d))

  pub all_ascend : T (is_ascending row_cmp (groups_of spec d))
  all_ascend = elim spec.global as (λ b. T (is_ascending row_cmp (cond b ([] ∷ []) (keys_of row_cmp (group_of spec) d)))) [ true ↦ tt | false ↦ keys_ascend ]

  module _ (first : Bool) where
    pub touched_ascend : T (is_ascending row_cmp (touched first spec d))
    touched_ascend = elim (has_no_values (entries d) && not first) as (λ b. T (is_ascending row_cmp (cond b [] (groups_of spec d)))) [ true ↦ tt | false ↦ all_ascend ]

    pub touched_covers : CoversOnce row_cmp (group_of spec) (touched first spec d) d
    touched_covers =
        elim (has_no_values (entries d) && not first) as (λ b. has_no_values (entries d) && not first ≡ b → CoversOnce row_cmp (group_of spec) (cond b [] (groups_of spec d)) d) [
          | true ↦ λ e.
              let none : entries d ≡ [] = no_entries (entries d) (left_of_both (has_no_values (entries d)) (not first) e) in
              subst (λ es. All (λ p. count row_cmp (group_of spec p.0) [] ≡ 1) es) (sym none) (λ i p low. absurd (omega arith))
          | false ↦ λ e. all_covered
        ] refl

    pub none_or_touched : (c : Row) → (rows_of_group spec d c ≡ no_rows row_cmp) ⊎ (count row_cmp c (touched first spec d) ≡ 1)
    none_or_touched c = step (part_or_covered row_cmp row_cmp-total row_cmp-antisymmetric row_cmp row_cmp-total row_cmp-antisymmetric (group_of spec) c d)
      where
        step : (rows_of_group spec d c ≡ no_rows row_cmp) ⊎ ((cs : List Row) → CoversOnce row_cmp (group_of spec) cs d → count row_cmp c cs ≡ 1) → (rows_of_group spec d c ≡ no_rows row_cmp)
            ⊎ (count row_cmp c (touched first spec d) ≡ 1)
        step (inl none) = inl none
        step (inr once) = inr (once (touched first spec d) touched_covers)

-- at first the group that stands is looked at, whatever changed
pub standing_touched : (spec : AggSpec) (d : Rows) (first : Bool) → first ≡ true → spec.global ≡ true → touched first spec d ≡ [] ∷ []
standing_touched spec d first e g = ap (λ f. touched f spec d) e ∙ never (has_no_values (entries d)) ∙ ap (λ b. cond b ([] ∷ []) (keys_of row_cmp (group_of spec) d)) g
  where
    never : (b : Bool) → cond (b && false) [] (groups_of spec d) ≡ groups_of spec d
    never true = refl
    never false = refl

-- ---- old rows and their change
small_sum : (m n : ℕ) (y z : ℤ) → pos m ≡ y → pos n ≡ z → y ≤ℤ pos (2 ^ 61) → z ≤ℤ pos (2 ^ 61) → m + n ≤ 2 ^ 62
small_sum m n y z e f g h = omega (arith, ints)

pub few_arguments : (column : ℕ) (z : Rows) → mass_of (entries z) ≤ 2 ^ 62 → first_outside_in (entries (arguments column z)) ≡ None
few_arguments column z few = let less = mass-image (argument_of column) (at_most_one column) z in mass-in_range (arguments column z) (omega arith)

pub group_few : (spec : AggSpec) (c : Row) (z : Rows) → mass_of (entries z) ≤ 2 ^ 62 → mass_of (entries (rows_of_group spec z c)) ≤ 2 ^ 62
unfolding at_key
group_few spec c z few = let less = mass-keep (λ row. is_eq (row_cmp c (group_of spec row))) z in omega arith

module _ (spec : AggSpec) (accs : KeptAccumulators) (ordered shown : KeptWeights) (d : Rows) (first : Bool) (s : AggState spec accs ordered shown d first) where
  change_few : mass_of (entries (minus (plus s.old d) s.old)) ≤ 2 ^ 62
  change_few =
      let most = mass-minus (plus s.old d) s.old in
      let whole = small_sum (mass_of (entries (plus s.old d))) (mass_of (entries s.old)) (total (plus s.old d)) (total s.old) (mass-total (plus s.old d) s.not_negative)
      (mass-total s.old s.old_not_negative) s.bounded s.old_bounded in
      omega arith

  pub few : mass_of (entries d) ≤ 2 ^ 62
  few = subst (λ y. mass_of (entries y) ≤ 2 ^ 62) (plus-minus_left (z_sets row_cmp) rows_are_abelian s.old d) change_few

  pub measurable : IsMeasurable d
  measurable = fitting_change (SuitsSpec spec) d s.change_fits few

  pub both_fit : FitsRows (SuitsSpec spec) (plus s.old d)
  both_fit = each-plus (λ row. FitsRow (SuitsSpec spec) row) row_cmp row_cmp-total s.old d s.old_fits s.change_fits

  abbrev pub group_state : (c : Row) → GroupState spec accs ordered c (rows_of_group spec d c)
  group_state c = record {
    old = s.old;
    change = d;
    accumulators = s.accumulators;
    arguments = s.arguments;
    part = refl;
    fits = both_fit;
    not_negative = s.not_negative;
    bounded = s.bounded;
  }

  -- the rows of a group without changed rows are the old ones
  pub unchanged : (c : Row) → rows_of_group spec d c ≡ no_rows row_cmp → rows_of_group spec (plus s.old d) c ≡ rows_of_group spec s.old c
  unchanged c none =
      at_key-plus (group_of spec) c s.old d ∙ ap (plus (rows_of_group spec s.old c)) none
      ∙ neutral_right (z_sets row_cmp) rows_are_abelian (rows_of_group spec s.old c)
