-- What is prepared of a tick, and what the states keep once that was put in place.
use Rattle.std.proofs.Common.{◌≡◌, ℕ, suc, ◌+◌, ◌<◌, ◌≤◌, ◌^◌, Bool, true, false, List, [], ◌∷◌, length, map, ℤ, ◌+ℤ◌, unsigned_abs, Some, refl, sym, ap, ap₂, subst, ◌∙◌, arith}
use Rattle.std.specs.Int.{int_wrap, w128}
use Rattle.std.specs.Prelude.{slice_get}
use Rattle.std.proofs.lemmas.List.Sums.{sum_by-cons}
use Rattle.std.proofs.lemmas.Int.{fits_signed_from_abs, int_wrap_fits}
use Rattle.std.proofs.lemmas.Option.{same_Some, slice_get-get_or, slice_get_within}
use borrow.Author.Differences.{ints}
use Rattle.sq_value.specs.declared.value.Value.{Value}
use Rattle.sq_value.specs.Order.{row_cmp}
use Rattle.sq_algebra.specs.Groups.{integers, sum_over, z_sets}
use Rattle.sq_algebra.specs.Keyed.{numbers_below, over_shards}
use Rattle.sq_algebra.specs.ZSet.{entries, int_sum_by, total}
use Rattle.sq_algebra.proofs.AbelianLemmas.{sum_over-map}
use Rattle.sq_zset.specs.Collecting.{mass_of}
use Rattle.sq_zset.specs.Range.{IsInRange}
use Rattle.sq_circuit.specs.Along.{each_below}
use Rattle.sq_circuit.specs.Circuits.{table_at, whole}
use Rattle.sq_circuit.specs.Costs.{before}
use Rattle.sq_circuit.specs.Invariant.{IsCircuit, IsSoundAt, is_view, view_count}
use Rattle.sq_circuit.specs.Nodes.{Rows}
use Rattle.sq_circuit.specs.declared.circuit.Part.{Part}
use Rattle.sq_circuit.proofs.Bounding.{listed_few}
use Rattle.sq_circuit.proofs.Composing.{pieces_add_up}
use Rattle.sq_circuit.proofs.Owning.{all_sound}
use Rattle.sq_shard.proofs.Parting.{numbers_are}
use Rattle.sq_shard.specs.Shards.{shards}
use Rattle.sq_states.specs.Committing.{IsReadyFor}
use Rattle.sq_states.specs.Keeps.{IsChanged}
use Rattle.sq_states.specs.declared.kept.NodeState.{NodeState}
use Rattle.sq_states.specs.declared.piece.Piece.{Piece}
use Rattle.sq_states.specs.declared.ready.Ready.{Ready}
use Rattle.sq_incr.specs.Commits.{AreCommitted}
use Rattle.sq_incr.specs.Inputs.{summed}
use Rattle.sq_incr.specs.Orders.{task}
use Rattle.sq_incr.specs.Played.{HasPiece, IsPlayed}
use Rattle.sq_incr.specs.Ready.{IsReady, Keeps}
use Rattle.sq_incr.specs.Slots.{change_in, is_run, piece_at}
use Rattle.sq_incr.specs.declared.store.Slot.{Slot}
use Rattle.sq_incr.specs.declared.store.Slot.TheVariants.{Open, Skipped, Broken, Ran}
use Rattle.sq_incr.specs.declared.task.Task.{Task}
use Rattle.sq_incr.proofs.Blaming as blaming
use Rattle.sq_incr.proofs.Committing.{kept_now}
use Rattle.sq_incr.proofs.Fitting.{node_change_fits}
use Rattle.sq_incr.proofs.Noting.{there_is}
use Rattle.sq_incr.proofs.Preparing as preparing
use Rattle.sq_incr.proofs.Ordering.{got_number, length-numbers}
use Rattle.sq_incr.proofs.Taking.{earlier, tick, was_sound}
use Rattle.sq_engine.specs.Engines.{view_node}
use Rattle.sq_engine.specs.Ticking.{AreAllPut, CanPrepareAll, CanPutAll, EachAt, IsPrepared, IsRaised, IsReadyNode, IsReadyShard, line_at, line_total, node_change}
use Rattle.sq_tables.proofs.Standing.{each_same}
use Rattle.sq_engine.proofs.Listing.{none_past}

-- ---- pieces
same_ran : (p q : Piece) → Ran p ≡ Ran q → p ≡ q
same_ran p q e = ap (piece_or p) e
  where
    piece_or : Piece → Slot → Piece
    piece_or p Open = p
    piece_or p Skipped = p
    piece_or p Broken = p
    piece_or p (Ran q) = q

pub same_piece : (pieces : List (List Slot)) (t : Task) (p q : Piece) → HasPiece pieces t p → HasPiece pieces t q → p ≡ q
same_piece pieces t p q a b =
    let line : a.line ≡ b.line = same_Some a.line b.line (sym a.at ∙ b.at) in
    same_ran p q (same_Some (Ran p) (Ran q) (sym a.is ∙ ap (λ l. slice_get l t.shard) line ∙ b.is))

pub node_ready : (pieces : List (List Slot)) (s : ℕ) (shard : List NodeState) (i : ℕ) (one : Ready) (piece : Piece) → HasPiece pieces (task i s) piece → one.node ≡ i
    → ((kept : NodeState) → slice_get shard i ≡ Some kept → IsReadyFor kept piece.kept one.traces) → IsReadyNode pieces s shard i one
node_ready pieces s shard i one piece has node ready = record {
  node = node;
  ready = λ other kept there e. subst (λ (p : Piece). IsReadyFor kept p.kept one.traces) (same_piece pieces (task i s) piece other has there) (ready kept e);
}

ran_piece : (slot : Slot) → is_run slot ≡ true → (piece : Piece) × (slot ≡ Ran piece)
ran_piece Open run = absurd (cc run)
ran_piece Skipped run = absurd (cc run)
ran_piece Broken run = absurd (cc run)
ran_piece (Ran piece) run = (piece, refl)

-- a list of members is one of numbers, if it is place by place
module _ {A : Type 0} (f : A → Rows) (g : ℕ → Rows) where
  maps_same : (xs : List A) (ns : List ℕ) → length xs ≡ length ns → ((s : ℕ) (x : A) (k : ℕ) → slice_get xs s ≡ Some x → slice_get ns s ≡ Some k → f x ≡ g k) → map f xs ≡ map g ns
  maps_same [] [] long same = refl
  maps_same [] (k ∷ ns) long same = absurd (omega (arith, long))
  maps_same (x ∷ xs) [] long same = absurd (omega (arith, long))
  maps_same (x ∷ xs) (k ∷ ns) long same = ap₂ (λ y ys. y ∷ ys) (same 0 x k refl refl) (maps_same xs ns (omega (arith, long)) (λ s a b e f. same (suc s) a b e f))

  maps_by_place : (xs : List A) (n : ℕ) → length xs ≡ n → ((s : ℕ) (x : A) → slice_get xs s ≡ Some x → f x ≡ g s) → map f xs ≡ map g (numbers_below n)
  maps_by_place xs n long same = maps_same xs (numbers_below n) (long ∙ sym (length-numbers n)) (λ s x k e number.
      let low : s < n = subst (λ m. s < m) (length-numbers n) (slice_get_within (numbers_below n) s k number) in
      same s x e ∙ ap g (same_Some s k (sym (got_number n s low) ∙ number)))

-- ---- a total is small
sum_at_most : (es : List (List Value × ℤ)) → unsigned_abs (int_sum_by (λ (e : List Value × ℤ). e.1) es) ≤ mass_of es
sum_at_most [] = omega arith
sum_at_most (e ∷ es) = subst (λ k. unsigned_abs (int_sum_by (λ (e : List Value × ℤ). e.1) (e ∷ es)) ≤ k) (sym (sum_by-cons _ e es)) (step (sum_at_most es))
  where
    step : unsigned_abs (int_sum_by (λ (e : List Value × ℤ). e.1) es) ≤ mass_of es → unsigned_abs (e.1 +ℤ int_sum_by (λ (e : List Value × ℤ). e.1) es) ≤ unsigned_abs e.1 + mass_of es
    step rest = omega (arith, ints, rest)

pub total_at_most : (z : Rows) → unsigned_abs (total z) ≤ mass_of (entries z)
unfolding total
total_at_most z = sum_at_most (entries z)

module _ {c : List Part} (circuit : IsCircuit c) {states : List (List NodeState)} {totals : List ℤ} {changes : List Rows} {first : Bool} (r : IsReady c states totals changes first) (order : List Task) (pieces : List (List Slot)) (played : IsPlayed r order pieces) where
  abbrev n : ℕ
  n = length states

  -- ---- preparing
  pub can_prepare : CanPrepareAll (length c) states pieces
  can_prepare = record { count = played.count; wide = played.wide; long = r.keeps.nodes; stays = λ i s piece kept has is. (preparing.can_prepare c states totals changes first r order pieces played (task i s) piece has is.shard is.of_shard).in_range kept is.of_node }

  line_is : (i : ℕ) → i < length c → slice_get pieces i ≡ Some (line_at pieces i)
  line_is i low = slice_get-get_or pieces i [] (subst (λ k. i < k) (sym played.count) low)

  piece_there : (i s : ℕ) → i < length c → s < length states → (piece : Piece) × HasPiece pieces (task i s) piece
  piece_there i s low inside =
      let slot = there_is (line_at pieces i) s (subst (λ k. s < k) (sym (played.wide i (line_at pieces i) (line_is i low))) inside) in
      let ran = ran_piece slot.0 (played.ran i s (line_at pieces i) slot.0 (line_is i low) slot.1) in
      (ran.0, record { line = line_at pieces i; at = line_is i low; is = slot.1 ∙ ap Some ran.1 })

  -- ---- the change of a node
  changes_are : (i : ℕ) → i < length c → map change_in (line_at pieces i) ≡ map (piece_at r i) (numbers_below n)
  changes_are i low = maps_by_place change_in (piece_at r i) (line_at pieces i) n (played.wide i (line_at pieces i) (line_is i low)) (λ s slot e.
      let ran = ran_piece slot (played.ran i s (line_at pieces i) slot (line_is i low) e) in
      ap change_in ran.1 ∙ (played.made (task i s) ran.0 (record { line = line_at pieces i; at = line_is i low; is = e ∙ ap Some ran.1 })).change)

  pub summed_is : (i : ℕ) → i < length c → summed (line_at pieces i) ≡ node_change r i
  summed_is i low =
      ap (sum_over (z_sets row_cmp) (λ y. y)) (changes_are i low)
      ∙ sum_over-map (z_sets row_cmp) (λ y. y) (piece_at r i) (numbers_below n)
      ∙ ap (sum_over (z_sets row_cmp) (piece_at r i)) (sym (numbers_are n r.some))
      ∙ pieces_add_up first c (earlier circuit r) (shards n) r.old (table_at changes) r.new r.changed i

  total_is : (i : ℕ) → i < length c → line_total (line_at pieces i) ≡ over_shards integers (shards n) (λ s. total (piece_at r i s))
  total_is i low =
      sym (sum_over-map integers total change_in (line_at pieces i))
      ∙ ap (sum_over integers total) (changes_are i low)
      ∙ sum_over-map integers total (piece_at r i) (numbers_below n)
      ∙ ap (sum_over integers (λ s. total (piece_at r i s))) (sym (numbers_are n r.some))

  sound_now : (i : ℕ) (p : Part) → slice_get c i ≡ Some p → IsSoundAt c r.new i
  sound_now i p e = record { good = r.good; sound = all_sound c circuit.parts r.new played.clear i p e }

  change_fits : (i : ℕ) → i < length c → IsInRange (node_change r i)
  change_fits i low =
      let part = there_is c i low in
      node_change_fits c circuit first r.old r.new i part.0 part.1 (sound_now i part.0 part.1) (λ later. was_sound circuit r later i part.0 part.1)

  pub summed_fits : (v : ℕ) → v < view_count c → IsInRange (summed (line_at pieces (view_node c v)))
  summed_fits v low = subst IsInRange (sym (summed_is (view_node c v) (view_low v low))) (change_fits (view_node c v) (view_low v low))
    where
      view_low : (v : ℕ) → v < view_count c → view_node c v < length c
      view_low v low = let few = none_past is_view c in omega arith

  -- ---- totals
  whole_small : (i : ℕ) → i < length c → unsigned_abs (total (whole c r.new i)) ≤ 2 ^ 62
  whole_small i low = by_place (there_is c i low)
    where
      at : (p : Part) → slice_get c i ≡ Some p → (b : Bool) → p.place ≡ b → mass_of (entries (whole c r.new i)) ≤ 2 ^ 62
      at p e true is = let few = listed_few (whole c r.new i) ((circuit.bounded r.new i p e (sound_now i p e)).place is) in omega arith
      at p e false is = (circuit.bounded r.new i p e (sound_now i p e)).few is

      by_place : (p : Part) × (slice_get c i ≡ Some p) → unsigned_abs (total (whole c r.new i)) ≤ 2 ^ 62
      by_place found = let few = at found.0 found.1 found.0.place refl in let most = total_at_most (whole c r.new i) in omega arith

  sum_is : (i : ℕ) → i < length c → (old new : ℤ) → slice_get totals i ≡ Some old → new ≡ int_wrap w128 (old +ℤ line_total (line_at pieces i)) → new ≡ old +ℤ over_shards integers (shards n) (λ s. total (piece_at r i s))
  sum_is i low old new a wrapped =
      let grown : old +ℤ over_shards integers (shards n) (λ s. total (piece_at r i s)) ≡ total (whole c r.new i) =
      ap (λ t. t +ℤ over_shards integers (shards n) (λ s. total (piece_at r i s))) (r.keeps.total_of i old a) ∙ rise i in
      let small = whole_small i low in
      wrapped ∙ ap (λ t. int_wrap w128 (old +ℤ t)) (total_is i low) ∙ ap (int_wrap w128) grown
      ∙ int_wrap_fits w128 (total (whole c r.new i)) (fits_signed_from_abs w128 (total (whole c r.new i)) (omega (arith, small)))
      ∙ sym grown
    where
      rise : (i : ℕ) → total (before first (whole c r.old i)) +ℤ over_shards integers (shards n) (λ s. total (piece_at r i s)) ≡ total (whole c r.new i)
      rise i = totals_of i
        where
          totals_of : (i : ℕ) → total (before first (whole c r.old i)) +ℤ over_shards integers (shards n) (λ s. total (piece_at r i s)) ≡ total (whole c r.new i)
          totals_of = blaming.totals first c n r.old (table_at changes) r.new (tick circuit r)

  -- ---- all of it
  pub all_prepared : (ready : List (List Ready)) (sums : List ℤ) (views : List Rows) → EachAt (IsReadyShard pieces states) ready (length states) → EachAt (IsRaised totals pieces) sums (length totals)
      → views ≡ each_below (λ v. summed (line_at pieces (view_node c v))) (view_count c) → IsPrepared r ready sums views
  all_prepared ready sums views prepared raised is = record {
    order = order;
    pieces = pieces;
    played = played;
    prepared = prepared;
    raised = raised;
    views_are = is ∙ each_same _ _ (view_count c) (λ v low. summed_is (view_node c v) (let few = none_past is_view c in omega (arith, few, low)));
  }

  module _ (ready : List (List Ready)) (prepared : EachAt (IsReadyShard pieces states) ready n) where
    pub all_can_put : CanPutAll states ready
    all_can_put = record {
      count = prepared.count;
      each = λ s readies e shard at.
          let h = prepared.each s readies e shard at in
          record {
            count = h.count;
            each = λ i one g. record {
              node = (h.each i one g).node;
              can = λ kept k.
                  let low : i < length c = subst (λ m. i < m) (r.keeps.nodes s shard at) (slice_get_within shard i kept k) in
                  let piece = piece_there i s low (slice_get_within states s shard at) in
                  ((h.each i one g).ready piece.0 kept piece.1 k).can;
            };
          };
    }

    module _ (sums : List ℤ) (raised : EachAt (IsRaised totals pieces) sums (length totals)) (now : List (List NodeState)) (put : AreAllPut states ready now) where
      old_shard : (s : ℕ) → s < length now → (shard : List NodeState) × (slice_get states s ≡ Some shard)
      old_shard s low = there_is states s (subst (λ k. s < k) put.count low)

      readies_at : (s : ℕ) → s < length now → (readies : List Ready) × (slice_get ready s ≡ Some readies)
      readies_at s low = there_is ready s (let many = prepared.count in let same = put.count in omega (arith, low, many, same))

      all_committed : AreCommitted r pieces now sums
      all_committed = record {
        shard_count = put.count;
        nodes = λ s shard e.
            let low = slice_get_within now s shard e in
            let old = old_shard s low in
            let readies = readies_at s low in
            (put.each s old.0 readies.0 shard old.1 readies.1 e).count ∙ r.keeps.nodes s old.0 old.1;
        each = λ i s piece was is has kept now_kept.
            let low = slice_get_within now s now_kept.shard now_kept.of_shard in
            let readies = readies_at s low in
            let h = prepared.each s readies.0 readies.1 kept.shard kept.of_shard in
            let one = there_is readies.0 i (subst (λ k. i < k) (sym h.count) (slice_get_within kept.shard i was kept.of_node)) in
            let done = (put.each s kept.shard readies.0 now_kept.shard kept.of_shard readies.1 now_kept.of_shard).each i was one.0 is kept.of_node one.1 now_kept.of_node in
            subst (IsChanged was piece.kept) (sym done) ((h.each i one.0 one.1).ready piece was has kept.of_node).changed;
        sums_count = raised.count ∙ r.keeps.totals_count;
        sum_of = λ i old new a b. sum_is i (subst (λ k. i < k) r.keeps.totals_count (slice_get_within totals i old a)) old new a (raised.each i new b old a);
      }

      pub keeps_new : Keeps false c r.new now sums
      keeps_new = kept_now c states totals changes first circuit r order pieces played now sums all_committed

-- ---- what was prepared
module _ {c : List Part} (circuit : IsCircuit c) {states : List (List NodeState)} {totals : List ℤ} {changes : List Rows} {first : Bool} (r : IsReady c states totals changes first) (ready : List (List Ready)) (sums : List ℤ) (views : List Rows)
    (p : IsPrepared r ready sums views) where
  pub can_put : CanPutAll states ready
  can_put = all_can_put circuit r p.order p.pieces p.played ready p.prepared

  pub keeps_after : (now : List (List NodeState)) → AreAllPut states ready now → Keeps false c r.new now sums
  keeps_after now put = keeps_new circuit r p.order p.pieces p.played ready p.prepared sums p.raised now put
