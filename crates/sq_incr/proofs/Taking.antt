-- What the step of a node asks: the rows that it reads, before and after, are those that its operator takes.
use Rattle.std.proofs.Common.{◌≡◌, ℕ, ◌<◌, ◌^◌, ◌||◌, ◌&&◌, ◌≤ℤ◌, Bool, true, false, not, cond, List, [], ◌∷◌, get_or, length, ℤ, pos, Some, None, refl, sym, ap, subst, ◌∙◌, arith}
use Rattle.std.specs.Prelude.{Option, is_some, nat_lt, slice_get}
use Rattle.std.specs.List.{All, AllByRecursion, list_all}
use Rattle.std.proofs.lemmas.Bool.{and_parts, ltb-true}
use Rattle.std.proofs.lemmas.List.Elements.{All-nil}
use Rattle.std.proofs.lemmas.Option.{slice_get_within}
use borrow.Author.Differences.{ints}
use mathlib.Core.Logic.{inl, inr}
use Rattle.sq_value.specs.declared.value.Value.{Value}
use Rattle.sq_value.specs.Order.{row_cmp}
use Rattle.sq_value.specs.OrderLaws.{row_cmp-total}
use Rattle.sq_expr.specs.declared.expr.Kind.{Kind}
use Rattle.sq_expr.specs.Kinds.{AreOfKinds}
use Rattle.sq_expr.proofs.Rows.{length_of_kinds}
use Rattle.sq_algebra.specs.Groups.{z_sets}
use Rattle.sq_algebra.specs.ZSet.{entries, entries-zero, plus}
use Rattle.sq_algebra.proofs.AbelianLemmas.{plus-minus_back}
use Rattle.sq_algebra.proofs.EachLemmas.{each-minus}
use Rattle.sq_algebra.proofs.Weights.{total-zero}
use Rattle.sq_zset.specs.GroupLaws.{rows_are_abelian}
use Rattle.sq_zset.proofs.Rows.{weight-zero}
use Rattle.sq_ops.specs.Aggregates.{SuitsSpec, call_suits, first_sum_outside, group_columns}
use Rattle.sq_ops.specs.Wholes.{has_no_values}
use Rattle.sq_ops.specs.Fits.{FitsRows}
use Rattle.sq_ops.specs.declared.aggregate.AggSpec.{AggSpec}
use Rattle.sq_ops.specs.declared.bilinear.Pairing.{Pairing}
use Rattle.sq_circuit.specs.Circuits.{are_sound, has_number_outside, kinds_at, kinds_in, lists_too_many, table_at, whole, whole_from}
use Rattle.sq_circuit.specs.Costs.{before}
use Rattle.sq_circuit.specs.Invariant.{AreEarlier, HasKinds, IsCircuit, IsEarlier, IsListed, IsSoundAt, NeedsListed, TakesKinds}
use Rattle.sq_circuit.specs.LinearOps.{SuitsOp}
use Rattle.sq_circuit.specs.Nodes.{Rows, Source, Inner, left_source, none, right_source}
use Rattle.sq_circuit.specs.Verdicts.{source_sound}
use Rattle.sq_circuit.specs.declared.circuit.Part.{Part}
use Rattle.sq_circuit.specs.declared.node.LinearOp.{LinearOp}
use Rattle.sq_circuit.specs.declared.node.Node.{Node}
use Rattle.sq_circuit.specs.declared.node.Node.TheVariants.{Table, Linear, Join, Distinct, Aggregate, Plus, Minus, View}
use Rattle.sq_circuit.proofs.Evaluating.{fault_at}
use Rattle.sq_circuit.proofs.Lawfully.{sound_kinds}
use Rattle.sq_circuit.proofs.Owning.{all_sound, no_fault, reads_earlier}
use Rattle.sq_states.specs.Steps.{TakesGroups, TakesRows, TakesSides}
use Rattle.sq_states.specs.declared.kept.NodeState.{NodeState}
use Rattle.sq_states.proofs.ShardSums.{no_sums_at_first}
use Rattle.sq_incr.specs.Inputs.{HaveColumns, HaveLeftKeys, HaveRightKeys}
use Rattle.sq_incr.specs.Outcomes.{IsTick}
use Rattle.sq_incr.specs.Ready.{IsReady, change_at, old_at}
use Rattle.sq_incr.proofs.Fitting.{part_of}

-- ---- no rows
no_kinds : (kinds : List Kind) → HasKinds kinds none
no_kinds kinds = subst (λ es. All (λ (e : List Value × ℤ). AreOfKinds e.0 kinds) es) (sym (entries-zero row_cmp)) (All-nil (λ (e : List Value × ℤ). AreOfKinds e.0 kinds))

none_listed : IsListed none
none_listed = record { above = λ row. subst (λ n. pos 0 ≤ℤ n) (sym (weight-zero row)) (omega (arith, ints)); few = subst (λ n. n ≤ℤ pos (2 ^ 61)) (sym (total-zero row_cmp)) (omega (arith, ints)) }

before_kinds : (first : Bool) (kinds : List Kind) (z : Rows) → (first ≡ false → HasKinds kinds z) → HasKinds kinds (before first z)
before_kinds true kinds z h = no_kinds kinds
before_kinds false kinds z h = h refl

before_listed : (first : Bool) (z : Rows) → (first ≡ false → IsListed z) → IsListed (before first z)
before_listed true z h = none_listed
before_listed false z h = h refl

before_sums : (first : Bool) (spec : AggSpec) (z : Rows) → (first ≡ false → first_sum_outside spec z ≡ None) → first_sum_outside spec (before first z) ≡ None
before_sums true spec z h = no_sums_at_first spec
before_sums false spec z h = h refl

pub is_none : {A : Type 0} (o : Option A) → is_some o ≡ false → o ≡ None
is_none None e = refl
is_none (Some a) e = absurd (cc e)

fit : (suits : List Kind → Type 0) (kinds : List Kind) (z : Rows) → suits kinds → HasKinds kinds z → FitsRows suits z
fit suits kinds z suitable of_kinds = λ e d within. record { kinds = kinds; of_kinds = of_kinds e d within; suitable = suitable }

or_right : (a b : Bool) → (a || b) ≡ false → b ≡ false
or_right true b e = absurd (cc e)
or_right false b e = e

below_all : (width : ℕ) (cs : List ℕ) → list_all (λ c. nat_lt c width) cs ≡ true → AllByRecursion (λ c. c < width) cs
below_all width [] h = tt
below_all width (c ∷ cs) h = let both = and_parts (nat_lt c width) (list_all (λ c. nat_lt c width) cs) h in (ltb-true c width both.0, below_all width cs both.1)

have_columns : (kinds : List Kind) (columns : List ℕ) (z : Rows) → list_all (λ c. nat_lt c (length kinds)) columns ≡ true → HasKinds kinds z → HaveColumns columns z
have_columns kinds columns z below of_kinds = λ e d within.
    subst (λ w. AllByRecursion (λ c. c < w) columns) (sym (length_of_kinds (get_or (entries z) e d).0 kinds (of_kinds e d within))) (below_all (length kinds) columns below)

no_columns : (z : Rows) → HaveColumns [] z
no_columns z = λ e d within. tt

group_below : (spec : AggSpec) (kinds : List Kind) (z : Rows) → SuitsSpec spec kinds → HasKinds kinds z → HaveColumns (group_columns spec) z
group_below spec kinds z suits of_kinds = at spec.global
    (and_parts (list_all (λ c. nat_lt c (length kinds)) spec.group) (list_all (λ call. call_suits call.func call.arg kinds) spec.calls)
    (and_parts (not spec.global || has_no_values spec.group) (list_all (λ c. nat_lt c (length kinds)) spec.group && list_all (λ call. call_suits call.func call.arg kinds) spec.calls) suits).1).0
  where
    at : (b : Bool) → list_all (λ c. nat_lt c (length kinds)) spec.group ≡ true → HaveColumns (cond b [] spec.group) z
    at true own = no_columns z
    at false own = have_columns kinds spec.group z own of_kinds

module _ {c : List Part} (circuit : IsCircuit c) {states : List (List NodeState)} {totals : List ℤ} {changes : List Rows} {first : Bool} (r : IsReady c states totals changes first) where
  pub earlier : AreEarlier c
  earlier = reads_earlier c circuit.parts

  pub tick : IsTick first c (length states) r.old (table_at changes) r.new
  tick = record { circuit = circuit; some = r.some; changed = r.changed }

  pub was_sound : first ≡ false → (i : ℕ) (p : Part) → slice_get c i ≡ Some p → IsSoundAt c r.old i
  was_sound later i p e = record { good = r.was_good later; sound = all_sound c circuit.parts r.old (r.was_clear later) i p e }

  -- ---- a source
  pub now_is : (s : Source) → plus (old_at r s) (change_at r s) ≡ whole_from c r.new s
  now_is s = plus-minus_back (z_sets row_cmp) rows_are_abelian (old_at r s) (whole_from c r.new s)

  module _ (i : ℕ) (p : Part) (e : slice_get c i ≡ Some p) (j : ℕ) (low : j < i) (sound : source_sound c r.new (Inner j) ≡ true) where
    abbrev there : (q : Part) × (slice_get c j ≡ Some q)
    there = part_of c circuit i j (slice_get_within c i p e) low

    abbrev now_sound : IsSoundAt c r.new j
    now_sound = record { good = r.good; sound = sound }

    kinds_are : kinds_at c j ≡ there.0.kinds
    kinds_are = ap kinds_in there.1

    pub new_kinds : HasKinds (kinds_at c j) (whole c r.new j)
    new_kinds = subst (λ ks. HasKinds ks (whole c r.new j)) (sym kinds_are) (sound_kinds c r.new j there.0 circuit there.1 now_sound)

    pub old_kinds : HasKinds (kinds_at c j) (old_at r (Inner j))
    old_kinds = before_kinds first (kinds_at c j) (whole c r.old j) (λ later. subst (λ ks. HasKinds ks (whole c r.old j)) (sym kinds_are) (sound_kinds c r.old j there.0 circuit there.1 (was_sound later j there.0 there.1)))

    pub change_kinds : HasKinds (kinds_at c j) (change_at r (Inner j))
    change_kinds = each-minus (λ row. AreOfKinds row (kinds_at c j)) row_cmp row_cmp-total (whole c r.new j) (old_at r (Inner j)) new_kinds old_kinds

    module _ (needs : NeedsListed p.node j) where
      old_listed : IsListed (old_at r (Inner j))
      old_listed = before_listed first (whole c r.old j) (λ later. (circuit.bounded r.old j there.0 there.1 (was_sound later j there.0 there.1)).needed i p e needs)

      new_listed : IsListed (plus (old_at r (Inner j)) (change_at r (Inner j)))
      new_listed = subst IsListed (sym (now_is (Inner j))) ((circuit.bounded r.new j there.0 there.1 now_sound).needed i p e needs)

  -- ---- a node
  -- no number was outside
  pub no_number : first ≡ false → (i : ℕ) (p : Part) → slice_get c i ≡ Some p → has_number_outside p.node (whole_from c r.old (left_source p.node)) ≡ false
  no_number later i p e =
      or_right (p.place && lists_too_many (whole c r.old i)) (has_number_outside p.node (whole_from c r.old (left_source p.node)))
      (sym (fault_at c earlier r.old i p e) ∙ no_fault c circuit.parts r.old (r.was_clear later) i (slice_get_within c i p e))

  abbrev Takes : Node → Type 0
  Takes n = TakesRows n (old_at r (left_source n)) (change_at r (left_source n)) (old_at r (right_source n)) (change_at r (right_source n))

  module _ (i : ℕ) (p : Part) (e : slice_get c i ≡ Some p) (sound : are_sound (Some p) (source_sound c r.new) ≡ true) where
    abbrev both : (source_sound c r.new (left_source p.node) ≡ true) × (source_sound c r.new (right_source p.node) ≡ true)
    both = and_parts (source_sound c r.new (left_source p.node)) (source_sound c r.new (right_source p.node)) sound

    on_left : (n : Node) → p.node ≡ n → source_sound c r.new (left_source n) ≡ true
    on_left n is = subst (λ m. source_sound c r.new (left_source m) ≡ true) is both.0

    on_right : (n : Node) → p.node ≡ n → source_sound c r.new (right_source n) ≡ true
    on_right n is = subst (λ m. source_sound c r.new (right_source m) ≡ true) is both.1

    left_low : (n : Node) → p.node ≡ n → IsEarlier i (left_source n)
    left_low n is = subst (λ m. IsEarlier i (left_source m)) is (earlier i p e).0

    right_low : (n : Node) → p.node ≡ n → IsEarlier i (right_source n)
    right_low n is = subst (λ m. IsEarlier i (right_source m)) is (earlier i p e).1

    needs : (n : Node) → p.node ≡ n → (j : ℕ) → NeedsListed n j → NeedsListed p.node j
    needs n is j h = subst (λ m. NeedsListed m j) (sym is) h

    suits : (n : Node) → p.node ≡ n → TakesKinds n (kinds_at c)
    suits n is = subst (λ m. TakesKinds m (kinds_at c)) is (circuit.parts i p e).takes

    takes_linear : (j : ℕ) (op : LinearOp) → p.node ≡ Linear j op → FitsRows (SuitsOp op) (change_at r (Inner j))
    takes_linear j op is = fit (SuitsOp op) (kinds_at c j) (change_at r (Inner j)) (suits (Linear j op) is) (change_kinds i p e j (left_low (Linear j op) is) (on_left (Linear j op) is))

    takes_sides : (l k : ℕ) (op : Pairing) → p.node ≡ Join l k op → TakesSides op (old_at r (Inner l)) (change_at r (Inner l)) (old_at r (Inner k)) (change_at r (Inner k))
    takes_sides l k op is = record {
      left_kinds = kinds_at c l;
      right_kinds = kinds_at c k;
      suitable = suits (Join l k op) is;
      left_fit = old_kinds i p e l (left_low (Join l k op) is) (on_left (Join l k op) is);
      left_change_fits = change_kinds i p e l (left_low (Join l k op) is) (on_left (Join l k op) is);
      right_fit = old_kinds i p e k (right_low (Join l k op) is) (on_right (Join l k op) is);
      right_change_fits = change_kinds i p e k (right_low (Join l k op) is) (on_right (Join l k op) is);
      left_before = old_listed i p e l (left_low (Join l k op) is) (on_left (Join l k op) is) (needs (Join l k op) is l (inl refl));
      left_after = new_listed i p e l (left_low (Join l k op) is) (on_left (Join l k op) is) (needs (Join l k op) is l (inl refl));
      right_before = old_listed i p e k (right_low (Join l k op) is) (on_right (Join l k op) is) (needs (Join l k op) is k (inr refl));
      right_after = new_listed i p e k (right_low (Join l k op) is) (on_right (Join l k op) is) (needs (Join l k op) is k (inr refl));
    }

    takes_groups : (j : ℕ) (spec : AggSpec) → p.node ≡ Aggregate j spec → TakesGroups spec (old_at r (Inner j)) (change_at r (Inner j))
    takes_groups j spec is = record {
      old_fits = fit (SuitsSpec spec) (kinds_at c j) (old_at r (Inner j)) (suits (Aggregate j spec) is) (old_kinds i p e j (left_low (Aggregate j spec) is) (on_left (Aggregate j spec) is));
      change_fits = fit (SuitsSpec spec) (kinds_at c j) (change_at r (Inner j)) (suits (Aggregate j spec) is) (change_kinds i p e j (left_low (Aggregate j spec) is) (on_left (Aggregate j spec) is));
      old_listed = old_listed i p e j (left_low (Aggregate j spec) is) (on_left (Aggregate j spec) is) (needs (Aggregate j spec) is j refl);
      new_listed = new_listed i p e j (left_low (Aggregate j spec) is) (on_left (Aggregate j spec) is) (needs (Aggregate j spec) is j refl);
      all_sums = before_sums first spec (whole c r.old j) (λ later.
          is_none (first_sum_outside spec (whole c r.old j)) (subst (λ m. has_number_outside m (whole_from c r.old (left_source m)) ≡ false) is (no_number later i p e)));
    }

    takes_node : (n : Node) → p.node ≡ n → Takes n
    takes_node (Table t) is = tt
    takes_node (Linear j op) is = takes_linear j op is
    takes_node (Join l k op) is = takes_sides l k op is
    takes_node (Distinct j) is = tt
    takes_node (Aggregate j spec) is = takes_groups j spec is
    takes_node (Plus l k) is = tt
    takes_node (Minus l k) is = tt
    takes_node (View j v) is = tt

    pub takes : Takes p.node
    takes = takes_node p.node refl

    left_keys : (n : Node) → p.node ≡ n → HaveLeftKeys n (change_at r (left_source n))
    left_keys (Table t) is = tt
    left_keys (Linear j op) is = tt
    left_keys (Join l k op) is = have_columns (kinds_at c l) op.left (change_at r (Inner l)) (suits (Join l k op) is).left_in_range (change_kinds i p e l (left_low (Join l k op) is) (on_left (Join l k op) is))
    left_keys (Distinct j) is = tt
    left_keys (Aggregate j spec) is = group_below spec (kinds_at c j) (change_at r (Inner j)) (suits (Aggregate j spec) is) (change_kinds i p e j (left_low (Aggregate j spec) is) (on_left (Aggregate j spec) is))
    left_keys (Plus l k) is = tt
    left_keys (Minus l k) is = tt
    left_keys (View j v) is = tt

    right_keys : (n : Node) → p.node ≡ n → HaveRightKeys n (change_at r (right_source n))
    right_keys (Table t) is = tt
    right_keys (Linear j op) is = tt
    right_keys (Join l k op) is = have_columns (kinds_at c k) op.right (change_at r (Inner k)) (suits (Join l k op) is).right_in_range (change_kinds i p e k (right_low (Join l k op) is) (on_right (Join l k op) is))
    right_keys (Distinct j) is = tt
    right_keys (Aggregate j spec) is = tt
    right_keys (Plus l k) is = tt
    right_keys (Minus l k) is = tt
    right_keys (View j v) is = tt

    pub have_left : HaveLeftKeys p.node (change_at r (left_source p.node))
    have_left = left_keys p.node refl

    pub have_right : HaveRightKeys p.node (change_at r (right_source p.node))
    have_right = right_keys p.node refl
