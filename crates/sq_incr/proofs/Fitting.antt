-- What the tasks of sound nodes read, and the pieces that they leave, are in the range of a weight.
use Rattle.std.proofs.Common.{◌≡◌, ℕ, ◌<◌, ◌≤◌, ◌^◌, ◌==◌, Bool, true, false, not, ◌&&◌, cond, List, get_or, length, ℤ, pos, ◌-ℤ◌, ◌≤ℤ◌, unsigned_abs, Some, None, refl, sym, ap, ap₂, subst, ◌∙◌, arith}
use Rattle.std.specs.Prelude.{slice_get}
use Rattle.std.proofs.lemmas.Bool.{and_parts}
use Rattle.std.proofs.lemmas.Option.{slice_get_cases, slice_get_within}
use mathlib.Core.Logic.{◌⊎◌, inl, inr}
use borrow.Author.Differences.{ints}
use Rattle.sq_value.specs.declared.value.Value.{Value}
use Rattle.sq_value.specs.Order.{row_cmp}
use Rattle.sq_value.specs.OrderLaws.{row_cmp-total, row_cmp-antisymmetric}
use Rattle.sq_algebra.specs.Keyed.{Shards, cut}
use Rattle.sq_algebra.specs.Operators.{IsNonNegative}
use Rattle.sq_algebra.specs.ZSet.{minus, weight}
use Rattle.sq_algebra.proofs.ShardLemmas.{weight-cut}
use Rattle.sq_zset.specs.GroupLaws.{no_rows_are_in_range}
use Rattle.sq_zset.specs.Range.{IsInRange}
use Rattle.sq_zset.proofs.Masses.{in_range-weights, mass-in_range, weights-in_range}
use Rattle.sq_zset.proofs.Rows.{weight-minus, weight-zero}
use Rattle.sq_circuit.specs.Circuits.{has_fault, table_at, whole, whole_from}
use Rattle.sq_circuit.specs.Costs as costs
use Rattle.sq_circuit.specs.Costs.{before}
use Rattle.sq_circuit.specs.Invariant.{AreEarlier, IsCircuit, IsEarlier, IsGood, IsListed, IsNear, IsSoundAt, NeedsListed}
use Rattle.sq_circuit.specs.NodeLaws.{share}
use Rattle.sq_circuit.specs.Nodes.{Rows, Source, Nowhere, Outer, Inner, left_key, left_source, none, operator, right_key, right_source}
use Rattle.sq_circuit.specs.Pieces.{piece_of, pieces}
use Rattle.sq_circuit.specs.Verdicts.{source_sound}
use Rattle.sq_circuit.specs.declared.circuit.Part.{Part}
use Rattle.sq_circuit.proofs.Bounding.{listed_few}
use Rattle.sq_circuit.proofs.Evaluating.{sound_at, whole_at}
use Rattle.sq_circuit.proofs.Lawfully.{left_sound, right_sound, sound_in_range}
use Rattle.sq_circuit.proofs.Owning.{reads_earlier}
use Rattle.sq_shard.specs.Shards.{shards}
use Rattle.sq_incr.specs.Fits.{PartsFit, PiecesFit, UnfitIsFaulty}
use Rattle.sq_incr.specs.Orders.{IsOfNode}
use Rattle.sq_incr.specs.Outcomes.{IsTick}
use Rattle.sq_incr.proofs.Running.{pieces_are}
use Rattle.sq_incr.proofs.Shares.{Apart, IsProper, Proper, Shown, StandsIn, share_at_most, shown}
use Rattle.sq_incr.proofs.Sharing.{at_shard}
use Rattle.sq_incr.proofs.Testing.{now_is}

abbrev Fits : ℤ → Type 0
Fits n = unsigned_abs n ≤ 2 ^ 62

-- ---- numbers
apart : (a b : ℤ) → pos 0 ≤ℤ a → pos 0 ≤ℤ b → Fits a → Fits b → Fits (b -ℤ a)
apart a b la lb fa fb = let h = la in omega (arith, ints)

between : (a w : ℤ) → pos 0 ≤ℤ a → a ≤ℤ w → Fits w → Fits a
between a w la low fits = let h = la in omega (arith, ints)

less_none : (a b : ℤ) → b ≡ pos 0 → Fits a → Fits (a -ℤ b)
less_none a b e fits = subst (λ n. Fits (a -ℤ n)) (sym e) (omega (arith, ints))

in_one : (b : Bool) (n : ℤ) → Fits n → Fits (cond b n (pos 0))
in_one true n fits = fits
in_one false n fits = omega arith

apart_in_one : (b : Bool) (m n : ℤ) → Fits (n -ℤ m) → Fits (cond b n (pos 0) -ℤ cond b m (pos 0))
apart_in_one true m n fits = fits
apart_in_one false m n fits = omega (arith, ints)

-- ---- Z-sets
listed_fits : (z : Rows) → IsListed z → IsInRange z
listed_fits z listed = let few = listed_few z listed in mass-in_range z (omega arith)

listed_near : (y z : Rows) → IsListed y → IsListed z → IsNear y z
listed_near y z a b row = apart (weight row y) (weight row z) (a.above row) (b.above row) (weights-in_range y (listed_fits y a) row) (weights-in_range z (listed_fits z b) row)

pub cut_fits : (S : Shards (List Value)) (key : List Value → List Value) (s : ℕ) (z : Rows) → IsInRange z → IsInRange (cut S key s z)
cut_fits S key s z fits = in_range-weights (cut S key s z) (λ row.
    subst Fits (sym (weight-cut S row_cmp key row_cmp-total row_cmp-antisymmetric row s z)) (in_one (s == S.shard (key row)) (weight row z) (weights-in_range z fits row)))

minus_fits : (y z : Rows) → ((row : List Value) → Fits (weight row z -ℤ weight row y)) → IsInRange (minus z y)
minus_fits y z fits = in_range-weights (minus z y) (λ row. subst Fits (sym (weight-minus row z y)) (fits row))

nothing_near : IsNear none none
nothing_near row = less_none (weight row none) (weight row none) (weight-zero row) (subst Fits (sym (weight-zero row)) (omega arith))

-- ---- nodes and sources
module _ (c : List Part) (circuit : IsCircuit c) where
  node_near : (old new : List Rows) (i : ℕ) (p : Part) → slice_get c i ≡ Some p → IsSoundAt c old i → IsSoundAt c new i → IsNear (whole c old i) (whole c new i)
  node_near old new i p e was now = at p.place refl
    where
      at : (b : Bool) → p.place ≡ b → IsNear (whole c old i) (whole c new i)
      at true is = listed_near (whole c old i) (whole c new i) ((circuit.bounded old i p e was).place is) ((circuit.bounded new i p e now).place is)
      at false is = circuit.steady old new i p e is was now

  pub part_of : (i j : ℕ) → i < length c → j < i → (q : Part) × (slice_get c j ≡ Some q)
  part_of i j long low = at (slice_get_cases c j).1
    where
      at : ((q : Part) × (j < length c) × (slice_get c j ≡ Some q) × (get_or c j q ≡ q)) ⊎ ((length c ≤ j) × (slice_get c j ≡ None)) → (q : Part) × (slice_get c j ≡ Some q)
      at (inl found) = (found.0, found.2)
      at (inr past) = absurd (let high = past.0 in omega arith)

  pub source_fits : (tables : List Rows) → IsGood c tables → (i : ℕ) → i < length c → (s : Source) → IsEarlier i s → source_sound c tables s ≡ true → IsInRange (whole_from c tables s)
  source_fits tables good i long Nowhere low sound = no_rows_are_in_range
  source_fits tables good i long (Outer t) low sound = listed_fits (table_at tables t) (good.listed t)
  source_fits tables good i long (Inner j) low sound = let found = part_of i j long low in sound_in_range c tables j found.0 circuit found.1 (record { good = good; sound = sound })

  source_near : (old new : List Rows) → IsGood c old → IsGood c new → (i : ℕ) → i < length c → (s : Source) → IsEarlier i s → source_sound c old s ≡ true → source_sound c new s ≡ true → IsNear (whole_from c old s) (whole_from c new s)
  source_near old new before after i long Nowhere low was now = nothing_near
  source_near old new before after i long (Outer t) low was now = listed_near (table_at old t) (table_at new t) (before.listed t) (after.listed t)
  source_near old new before after i long (Inner j) low was now =
      let found = part_of i j long low in
      node_near old new j found.0 found.1 (record { good = before; sound = was }) (record { good = after; sound = now })

  pub change_fits : (first : Bool) (old new : List Rows) → IsGood c new → (first ≡ false → IsGood c old) → (i : ℕ) → i < length c → (s : Source) → IsEarlier i s → source_sound c new s ≡ true → (first ≡ false → source_sound c old s ≡ true)
      → IsInRange (costs.change first c old new s)
  change_fits true old new good was i long s low sound sounded =
      minus_fits none (whole_from c new s) (λ row. less_none (weight row (whole_from c new s)) (weight row none) (weight-zero row) (weights-in_range (whole_from c new s) (source_fits new good i long s low sound) row))
  change_fits false old new good was i long s low sound sounded = minus_fits (whole_from c old s) (whole_from c new s) (source_near old new (was refl) good i long s low (sounded refl) sound)

  -- how a sound node has changed is in range
  pub node_change_fits : (first : Bool) (old new : List Rows) (i : ℕ) (p : Part) → slice_get c i ≡ Some p → IsSoundAt c new i → (first ≡ false → IsSoundAt c old i) → IsInRange (minus (whole c new i) (before first (whole c old i)))
  node_change_fits true old new i p e now was =
      minus_fits none (whole c new i) (λ row. less_none (weight row (whole c new i)) (weight row none) (weight-zero row) (weights-in_range (whole c new i) (sound_in_range c new i p circuit e now) row))
  node_change_fits false old new i p e now was = minus_fits (whole c old i) (whole c new i) (node_near old new i p e (was refl) now)

  -- what a node reads has no weight below 0, if it takes lists
  source_above : (tables : List Rows) → IsGood c tables → (i : ℕ) (p : Part) → slice_get c i ≡ Some p → i < length c → (s : Source) → IsEarlier i s → source_sound c tables s ≡ true
      → ((j : ℕ) → IsOfNode j s → NeedsListed p.node j) → IsNonNegative (whole_from c tables s)
  source_above tables good i p e long Nowhere low sound needs row = subst (λ n. pos 0 ≤ℤ n) (sym (weight-zero row)) (omega (arith, ints))
  source_above tables good i p e long (Outer t) low sound needs row = (good.listed t).above row
  source_above tables good i p e long (Inner j) low sound needs row =
      let found = part_of i j long low in
      ((circuit.bounded tables j found.0 found.1 (record { good = good; sound = sound })).needed i p e (needs j refl)).above row

  pub parts_fit : (first : Bool) (n : ℕ) (old new : List Rows) → PartsFit first c n old new
  parts_fit first n old new i p e now was s =
      let earlier = reads_earlier c circuit.parts in
      let long = slice_get_within c i p e in
      let both = and_parts (source_sound c new (left_source p.node)) (source_sound c new (right_source p.node)) now.sound in
      let once : first ≡ false → (source_sound c old (left_source p.node) ≡ true) × (source_sound c old (right_source p.node) ≡ true)
      = λ later. and_parts (source_sound c old (left_source p.node)) (source_sound c old (right_source p.node)) (was later).sound in
      record {
        left = cut_fits (shards n) (left_key p.node) s (whole_from c new (left_source p.node)) (source_fits new now.good i long (left_source p.node) (earlier i p e).0 both.0);
        right = cut_fits (shards n) (right_key p.node) s (whole_from c new (right_source p.node)) (source_fits new now.good i long (right_source p.node) (earlier i p e).1 both.1);
        left_change = cut_fits (shards n) (left_key p.node) s (costs.change first c old new (left_source p.node))
            (change_fits first old new now.good (λ later. (was later).good) i long (left_source p.node) (earlier i p e).0 both.0 (λ later. (once later).0));
        right_change = cut_fits (shards n) (right_key p.node) s (costs.change first c old new (right_source p.node))
            (change_fits first old new now.good (λ later. (was later).good) i long (right_source p.node) (earlier i p e).1 both.1 (λ later. (once later).1));
      }

-- ---- pieces
module _ (c : List Part) (circuit : IsCircuit c) (n : ℕ) (above : 0 < n) (i : ℕ) (p : Part) (e : slice_get c i ≡ Some p) (s : ℕ) (low : s < n) where
  earlier : AreEarlier c
  earlier = reads_earlier c circuit.parts

  -- the share of the node over some tables
  abbrev share_over : List Rows → Rows
  share_over tables = share p.node (shards n) s (whole_from c tables (left_source p.node)) (whole_from c tables (right_source p.node))

  apart_weighs : (tables : List Rows) (row : List Value) (stands : StandsIn (shards n) p.node row) → weight row (share_over tables) ≡ cond (s == stands.place) (weight row (whole c tables i)) (pos 0)
  apart_weighs tables row stands =
      stands.weighs s (whole_from c tables (left_source p.node)) (whole_from c tables (right_source p.node))
      ∙ ap (λ z. cond (s == stands.place) (weight row z) (pos 0)) (sym (whole_at c earlier tables i p e))

  module _ (tables : List Rows) (sound : IsSoundAt c tables i) where
    whole_fits : (row : List Value) → Fits (weight row (whole c tables i))
    whole_fits row = weights-in_range (whole c tables i) (sound_in_range c tables i p circuit e sound) row

    proper_above : IsProper (shards n) p.node → (k : ℕ) → IsNonNegative (share p.node (shards n) k (whole_from c tables (left_source p.node)) (whole_from c tables (right_source p.node)))
    proper_above proper k = proper.above k (whole_from c tables (left_source p.node)) (whole_from c tables (right_source p.node))
        (source_above c circuit tables sound.good i p e (slice_get_within c i p e) (left_source p.node) (earlier i p e).0 (left_sound c circuit tables i p e sound.sound) proper.left)
        (source_above c circuit tables sound.good i p e (slice_get_within c i p e) (right_source p.node) (earlier i p e).1 (right_sound c circuit tables i p e sound.sound) proper.right)

    proper_fits : IsProper (shards n) p.node → (row : List Value) → Fits (weight row (share_over tables))
    proper_fits proper row = between (weight row (share_over tables)) (weight row (whole c tables i)) (proper_above proper s row)
        (subst (λ z. weight row (share_over tables) ≤ℤ weight row z) (sym (whole_at c earlier tables i p e))
        (at_shard (λ k. weight row (share p.node (shards n) k (whole_from c tables (left_source p.node)) (whole_from c tables (right_source p.node))) ≤ℤ weight row (operator p.node (whole_from c tables (left_source p.node)) (whole_from c tables (right_source p.node)))) n above
        (share_at_most (shards n) p.node (whole_from c tables (left_source p.node)) (whole_from c tables (right_source p.node)) row (λ k. proper_above proper k row)) s low))
        (whole_fits row)

    share_fits : Shown (shards n) p.node → (row : List Value) → Fits (weight row (share_over tables))
    share_fits (Apart each) row = subst Fits (sym (apart_weighs tables row (each row))) (in_one (s == (each row).place) (weight row (whole c tables i)) (whole_fits row))
    share_fits (Proper proper) row = proper_fits proper row

  shares_near : (old new : List Rows) → IsSoundAt c old i → IsSoundAt c new i → Shown (shards n) p.node → IsNear (share_over old) (share_over new)
  shares_near old new was now (Apart each) row =
      subst Fits (sym (ap₂ (λ a b. b -ℤ a) (apart_weighs old row (each row)) (apart_weighs new row (each row))))
      (apart_in_one (s == (each row).place) (weight row (whole c old i)) (weight row (whole c new i)) (node_near c circuit old new i p e was now row))
  shares_near old new was now (Proper proper) row =
      apart (weight row (share_over old)) (weight row (share_over new)) (proper_above old was proper s row) (proper_above new now proper s row) (proper_fits old was proper row) (proper_fits new now proper row)

  rise_fits : (first : Bool) (old new : List Rows) → IsSoundAt c new i → (first ≡ false → IsSoundAt c old i)
      → IsInRange (minus (share_over new) (before first (share p.node (shards n) s (before first (whole_from c old (left_source p.node))) (before first (whole_from c old (right_source p.node))))))
  rise_fits true old new now was = minus_fits none (share_over new) (λ row. less_none (weight row (share_over new)) (weight row none) (weight-zero row) (share_fits new now (shown (shards n) p.node) row))
  rise_fits false old new now was = minus_fits (share_over old) (share_over new) (shares_near old new (was refl) now (shown (shards n) p.node))

module _ (first : Bool) (c : List Part) (n : ℕ) (old : List Rows) (change : ℕ → Rows) (new : List Rows) (tick : IsTick first c n old change new) where
  pub piece_is : (i : ℕ) (p : Part) → slice_get c i ≡ Some p → (s : ℕ) → pieces first c (shards n) old change i s
      ≡ minus (share p.node (shards n) s (whole_from c new (left_source p.node)) (whole_from c new (right_source p.node))) (before first (share p.node (shards n) s (before first (whole_from c old (left_source p.node))) (before first (whole_from c old (right_source p.node)))))
  piece_is i p e s =
      ap (λ h. h s) (pieces_are first c (reads_earlier c tick.circuit.parts) (shards n) old change i ∙ ap (λ o. piece_of first c (shards n) old change o (pieces first c (shards n) old change)) e)
      ∙ ap₂ (λ y z. minus (share p.node (shards n) s y z) (before first (share p.node (shards n) s (before first (whole_from c old (left_source p.node))) (before first (whole_from c old (right_source p.node))))))
      (now_is first c n tick.some old change (reads_earlier c tick.circuit.parts) new tick.changed (left_source p.node))
      (now_is first c n tick.some old change (reads_earlier c tick.circuit.parts) new tick.changed (right_source p.node))

  pub pieces_fit : PiecesFit first c n old change new
  pieces_fit i p e now was s low = subst IsInRange (sym (piece_is i p e s)) (rise_fits c tick.circuit n tick.some i p e s low first old new now was)

  -- a node with a piece out of range is not sound, so it has a fault if what it reads is sound
  pub unfit_is_faulty : UnfitIsFaulty first c n old change new
  unfit_is_faulty i p e now was s low unfit = at (has_fault c new i) refl
    where
      at : (b : Bool) → has_fault c new i ≡ b → has_fault c new i ≡ true
      at true fault = fault
      at false none = absurd (unfit (pieces_fit i p e (record { good = now.good; sound = sound_at c (reads_earlier c tick.circuit.parts) new i p e ∙ ap₂ (λ a b. not a && b) none now.sound }) was s low))
