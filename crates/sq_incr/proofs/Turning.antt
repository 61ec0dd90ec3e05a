-- One task more: whether it may stand where it does, and what is noted after it.
use Rattle.std.proofs.Common.{◌≡◌, ℕ, ◌<◌, ◌≤◌, ◌+◌, ◌&&◌, Bool, true, false, not, List, [], ◌∷◌, ◌++◌, get_or, length, take, take_all, drop, replicate, ℤ, Some, refl, sym, ap, ap₂, subst, ◌∙◌, arith}
use Rattle.std.specs.Prelude.{nat_lt, slice_get}
use Rattle.std.specs.List.{sum_by}
use Rattle.std.proofs.lemmas.Bool.{and_parts, lt-ltb}
use Rattle.std.proofs.lemmas.Option.{same_Some, slice_get-get_or}
use Rattle.std.proofs.lemmas.List.{take-append-drop}
use Rattle.std.proofs.lemmas.List.Sums.{sum_by-append}
use Rattle.sq_expr.proofs.Lists.{take_more}
use Rattle.sq_circuit.specs.Circuits.{are_sound, node_at, node_in}
use Rattle.sq_circuit.specs.Invariant.{IsCircuit, IsEarlier}
use Rattle.sq_circuit.specs.Nodes.{Rows, Source, Nowhere, Outer, Inner, left_source, right_source}
use Rattle.sq_circuit.specs.declared.circuit.Part.{Part}
use Rattle.sq_circuit.specs.declared.node.Node.{Node}
use Rattle.sq_circuit.proofs.Owning.{reads_earlier}
use Rattle.sq_states.specs.declared.kept.NodeState.{NodeState}
use Rattle.sq_incr.specs.Inputs.{AreDone}
use Rattle.sq_incr.specs.Orders.{FirstIllegal, IsLegal, MayStand, is_in, may_stand, task}
use Rattle.sq_incr.specs.Orders as orders
use Rattle.sq_incr.specs.Plays.{ArePlayed, CanTurn, HaveShape, IsTurn, IsWithin, source_played, written}
use Rattle.sq_incr.specs.Ready.{IsReady, part_cost}
use Rattle.sq_incr.specs.Runs.{CanRun}
use Rattle.sq_incr.specs.Slots.{AreNoted, IsTold, is_done}
use Rattle.sq_incr.specs.declared.store.Slot.{Slot}
use Rattle.sq_incr.specs.declared.store.Slot.TheVariants.{Open}
use Rattle.sq_incr.specs.declared.task.Task.{Task}
use Rattle.sq_incr.proofs.Noting.{all_by_place, line_done, more_noted, none_noted, there_is}
use Rattle.sq_incr.proofs.Ordering.{longer_legal}
use Rattle.sq_incr.proofs.Standing.{passes_if, stands_if}

-- ---- whether it may stand there
module _ (c : List Part) (n : ℕ) (lines : List (List Slot)) (shape : HaveShape (length c) n lines) (front : List Task) (played : ArePlayed front lines) where
  source_done : (s : Source) → IsWithin (length lines) s → source_played lines s ≡ orders.is_done front n s
  source_done Nowhere low = refl
  source_done (Outer t) low = refl
  source_done (Inner j) low =
      let at = slice_get-get_or lines j [] low in
      all_by_place is_done (λ k. is_in front (task j k)) (get_or lines j []) n (shape.wide j (get_or lines j []) at) (λ s slot e. played j s (get_or lines j []) slot at e)

  module _ (t : Task) (low : t.node < length c) (inside : t.shard < n) (line : List Slot) (at : slice_get lines t.node ≡ Some line) (slot : Slot) (here : slice_get line t.shard ≡ Some slot) (p : Part) (e : slice_get c t.node ≡ Some p) where
    stands_as : (l r : Bool) → orders.is_done front n (left_source p.node) ≡ l → orders.is_done front n (right_source p.node) ≡ r → (d : Bool) → is_done slot ≡ d → may_stand c n front t ≡ (not d && (l && r))
    stands_as l r on_left on_right d done =
        ap₂ (λ a b. (a && b) && (not (is_in front t) && are_sound (slice_get c t.node) (orders.is_done front n))) (lt-ltb t.node (length c) low) (lt-ltb t.shard n inside)
        ∙ ap₂ (λ a b. not a && b) (sym (played t.node t.shard line slot at here) ∙ done) (ap (λ o. are_sound o (orders.is_done front n)) e ∙ ap₂ (λ a b. a && b) on_left on_right)

within : (m i : ℕ) → i < m → (s : Source) → IsEarlier i s → IsWithin m s
within m i low Nowhere less = tt
within m i low (Outer t) less = tt
within m i low (Inner j) less = omega (arith, low, less)

-- what the test computes, by what was found in turn
module _ (c : List Part) (n : ℕ) (lines : List (List Slot)) (shape : HaveShape (length c) n lines) (front : List Task) (played : ArePlayed front lines)
    (t : Task) (low : t.node < length c) (inside : t.shard < n) (line : List Slot) (at : slice_get lines t.node ≡ Some line) (slot : Slot) (here : slice_get line t.shard ≡ Some slot) where
  abbrev found : (p : Part) × (slice_get c t.node ≡ Some p)
  found = there_is c t.node low

  pub done_before : is_done slot ≡ true → false ≡ may_stand c n front t
  done_before done = sym (stands_as c n lines shape front played t low inside line at slot here found.0 found.1 (orders.is_done front n (left_source found.0.node)) (orders.is_done front n (right_source found.0.node)) refl refl true done)

  module _ (circuit : IsCircuit c) (fresh : is_done slot ≡ false) (node : Node) (is : node_at c t.node ≡ Some node) (x : Source) (x_is : x ≡ left_source node) where
    same_node : node ≡ found.0.node
    same_node = same_Some node found.0.node (sym is ∙ ap node_in found.1)

    in_lines : t.node < length lines
    in_lines = subst (λ k. t.node < k) (sym shape.count) low

    x_low : IsWithin (length lines) x
    x_low = subst (IsWithin (length lines)) (sym (x_is ∙ ap left_source same_node)) (within (length lines) t.node in_lines (left_source found.0.node) (reads_earlier c circuit.parts t.node found.0 found.1).0)

    on_left : source_played lines x ≡ orders.is_done front n (left_source found.0.node)
    on_left = source_done c n lines shape front played x x_low ∙ ap (orders.is_done front n) (x_is ∙ ap left_source same_node)

    pub left_open : source_played lines x ≡ false → false ≡ may_stand c n front t
    left_open over = sym (stands_as c n lines shape front played t low inside line at slot here found.0 found.1 false (orders.is_done front n (right_source found.0.node)) (sym on_left ∙ over) refl false fresh)

    pub right_tells : source_played lines x ≡ true → (y : Source) → y ≡ right_source node → (b : Bool) → b ≡ source_played lines y → b ≡ may_stand c n front t
    right_tells all y y_is b told =
        let y_low = subst (IsWithin (length lines)) (sym (y_is ∙ ap right_source same_node)) (within (length lines) t.node in_lines (right_source found.0.node) (reads_earlier c circuit.parts t.node found.0 found.1).1) in
        told ∙ sym (stands_as c n lines shape front played t low inside line at slot here found.0 found.1 true (source_played lines y) (sym on_left ∙ all)
        (sym (source_done c n lines shape front played y y_low ∙ ap (orders.is_done front n) (y_is ∙ ap right_source same_node))) false fresh)

-- ---- a turn
module _ {c : List Part} {states : List (List NodeState)} {totals : List ℤ} {changes : List Rows} {first : Bool} {lines : List (List Slot)} (b : CanTurn c states totals changes first lines) where
  pub shape_of : HaveShape (length c) (length states) lines
  shape_of = record { count = b.noted.count; wide = b.noted.wide }

  pub played_of : ArePlayed b.front lines
  played_of i s line slot e f = (b.noted.each i s line slot e f).played

  pub source_all : (s : Source) → orders.is_done b.front (length states) s ≡ true → AreDone lines s
  source_all Nowhere all = tt
  source_all (Outer t) all = tt
  source_all (Inner j) all = λ line at. line_done b.ready b.front lines b.noted j line at ∙ all

  module _ (t : Task) (passes : may_stand c (length states) b.front t ≡ true) where
    abbrev stands : MayStand c (length states) b.front t
    stands = stands_if c (length states) b.front t passes

    pub inputs_done : (n : Node) → node_at c t.node ≡ Some n → (orders.is_done b.front (length states) (left_source n) ≡ true) × (orders.is_done b.front (length states) (right_source n) ≡ true)
    inputs_done n is =
        let found = there_is c t.node stands.in_range.low in
        let all = (and_parts (not (is_in b.front t)) (are_sound (slice_get c t.node) (orders.is_done b.front (length states))) (and_parts (nat_lt t.node (length c) && nat_lt t.shard (length states)) (not (is_in b.front t) && are_sound (slice_get c t.node) (orders.is_done b.front (length states))) passes).1).1 in
        subst (λ m. (orders.is_done b.front (length states) (left_source m) ≡ true) × (orders.is_done b.front (length states) (right_source m) ≡ true)) (same_Some found.0.node n (sym (ap node_in found.1) ∙ is))
        (and_parts (orders.is_done b.front (length states) (left_source found.0.node)) (orders.is_done b.front (length states) (right_source found.0.node)) (sym (ap (λ o. are_sound o (orders.is_done b.front (length states))) found.1) ∙ all))

    abbrev pub can_run : (other : List (List Slot)) → other ≡ lines → CanRun c states totals changes first other t
    can_run other same = record {
      ready = b.ready;
      front = b.front;
      noted = subst (AreNoted b.ready b.front) (sym same) b.noted;
      in_range = stands.in_range;
      left_done = λ n is. subst (λ ls. AreDone ls (left_source n)) (sym same) (source_all (left_source n) (inputs_done n is).0);
      right_done = λ n is. subst (λ ls. AreDone ls (right_source n)) (sym same) (source_all (right_source n) (inputs_done n is).1);
    }

    pub node_within : t.node < length lines
    node_within = subst (λ k. t.node < k) (sym b.noted.count) stands.in_range.low

    pub shard_within : (line : List Slot) → slice_get lines t.node ≡ Some line → t.shard < length line
    shard_within line at = subst (λ k. t.shard < k) (sym (b.noted.wide t.node line at)) stands.in_range.inside

    pub turn_taken : (slot : Slot) → IsTold b.ready t.node t.shard slot → (new : List (List Slot)) → new ≡ written lines t slot → IsTurn b t new true
    turn_taken slot told new is = record {
      stands = stands;
      noted = subst (AreNoted b.ready (b.front ++ t ∷ [])) (sym is) (more_noted b.ready b.front lines b.noted t (get_or lines t.node []) (slice_get-get_or lines t.node [] node_within) slot told.done told.tells);
    }

  pub turn_refused : (t : Task) → may_stand c (length states) b.front t ≡ false → MayStand c (length states) b.front t → ⊥
  turn_refused t fails stands = let same = sym fails ∙ passes_if c (length states) b.front t stands in absurd (cc same)

-- ---- an order
-- what is known when so many tasks were played
pub record SoFar (c : List Part) (states : List (List NodeState)) (totals : List ℤ) (changes : List Rows) (first : Bool) (order : List Task) (at : ℕ) (lines : List (List Slot)) (old new : ℕ) : Type 0 where
  pub noted : (r : IsReady c states totals changes first) → AreNoted r (take at order) lines
  pub legal : IsLegal c (length states) (take at order)
  pub count : (r : IsReady c states totals changes first) → new ≤ old + sum_by (part_cost r) (take at order)

front_costs : (f : Task → ℕ) (order : List Task) (k : ℕ) → sum_by f (take k order) ≤ sum_by f order
front_costs f order k =
    let sum = sum_by-append f (take k order) (drop k order) in
    let same = ap (sum_by f) (take-append-drop k order) in
    omega (arith, sum, same)

no_task : (c : List Part) (n : ℕ) → IsLegal c n []
no_task c n at t e = absurd (cc e)

module _ {c : List Part} {states : List (List NodeState)} {totals : List ℤ} {changes : List Rows} {first : Bool} (order : List Task) where
  pub starts : (lines : List (List Slot)) (count : ℕ) → lines ≡ replicate (length c) (replicate (length states) Open) → SoFar c states totals changes first order 0 lines count count
  starts lines count fresh = record {
    noted = λ r. subst (AreNoted r []) (sym fresh) (none_noted r);
    legal = no_task c (length states);
    count = λ r. omega arith;
  }

  module _ (at : ℕ) (lines : List (List Slot)) (old now : ℕ) (h : SoFar c states totals changes first order at lines old now) where
    abbrev pub turn_at : (r : IsReady c states totals changes first) → CanTurn c states totals changes first lines
    turn_at r = record { ready = r; front = take at order; noted = h.noted r }

    module _ (t : Task) (is : slice_get order at ≡ Some t) where
      one_more : take (at + 1) order ≡ take at order ++ t ∷ []
      one_more = take_more order at t is

      pub goes_on : (r : IsReady c states totals changes first) (lines' : List (List Slot)) (new : ℕ) → ((r : IsReady c states totals changes first) → IsTurn (turn_at r) t lines' true) → ((r : IsReady c states totals changes first) → new ≤ now + part_cost r t)
          → SoFar c states totals changes first order (at + 1) lines' old new
      goes_on r lines' new taken spent = record {
        noted = λ r. subst (λ ts. AreNoted r ts lines') (sym one_more) (taken r).noted;
        legal = subst (IsLegal c (length states)) (sym one_more) (longer_legal c (length states) (take at order) t h.legal (taken r).stands);
        count = λ r. subst (λ ts. new ≤ old + sum_by (part_cost r) ts) (sym one_more)
            (let before = h.count r in let more = spent r in let sum = sum_by-append (part_cost r) (take at order) (t ∷ []) in omega (arith, before, more, sum));
      }

      -- the steps that a turn may take are among those of the whole order
      pub spent_within : (r : IsReady c states totals changes first) (new : ℕ) → new ≤ now + part_cost r t → new ≤ old + sum_by (part_cost r) order
      spent_within r new more =
          let before = h.count r in
          let sum = sum_by-append (part_cost r) (take at order) (t ∷ []) in
          let whole = front_costs (part_cost r) order (at + 1) in
          let same = ap (sum_by (part_cost r)) one_more in
          omega (arith, before, more, sum, whole, same)

      pub stops_here : (r : IsReady c states totals changes first) → (MayStand c (length states) (take at order) t → ⊥) → FirstIllegal c (length states) order at
      stops_here r refused = record { wrong = t; is = is; front = h.legal; illegal = refused }

  pub all_played : (at : ℕ) (lines : List (List Slot)) (old now : ℕ) → SoFar c states totals changes first order at lines old now → length order ≤ at → (r : IsReady c states totals changes first) → AreNoted r order lines
  all_played at lines old now h past r = subst (λ ts. AreNoted r ts lines) (take_all at order past) (h.noted r)

  pub all_legal_so : (at : ℕ) (lines : List (List Slot)) (old now : ℕ) → SoFar c states totals changes first order at lines old now → length order ≤ at → IsLegal c (length states) order
  all_legal_so at lines old now h past = subst (IsLegal c (length states)) (take_all at order past) h.legal

  pub far_costs : (at : ℕ) (lines : List (List Slot)) (old now : ℕ) → SoFar c states totals changes first order at lines old now → (r : IsReady c states totals changes first) → now ≤ old + sum_by (part_cost r) order
  far_costs at lines old now h r = let before = h.count r in let whole = front_costs (part_cost r) order at in omega (arith, before, whole)
