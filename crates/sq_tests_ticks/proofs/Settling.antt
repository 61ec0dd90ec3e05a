-- What is prepared of a tick, and what is kept once that was put in place.
use Rattle.std.proofs.Common.{◌≡◌, ℕ, zero, suc, ◌<◌, ◌≤◌, Bool, true, false, List, [], ◌∷◌, get_or, length, replicate, ℤ, pos, ◌+ℤ◌, Some, refl, sym, ap, subst, ◌∙◌, arith}
use Rattle.std.specs.Prelude.{slice_get, IfOk, Result, Ok, Err}
use Rattle.std.proofs.lemmas.Bool.{cases_lt}
use Rattle.std.proofs.lemmas.List.{length-replicate}
use Rattle.std.proofs.lemmas.Option.{same_Some, slice_get_within}
use mathlib.Core.Logic.{◌⊎◌, inl, inr}
use Rattle.sq_algebra.specs.Groups.{integers}
use Rattle.sq_algebra.specs.Keyed.{over_shards}
use Rattle.sq_algebra.specs.ZSet.{plus, total}
use Rattle.sq_zset.specs.GroupLaws.{rows_are_abelian}
use Rattle.sq_circuit.specs.Along.{each_below}
use Rattle.sq_circuit.specs.Circuits.{table_at, whole}
use Rattle.sq_circuit.specs.Invariant.{IsCircuit, IsGood}
use Rattle.sq_circuit.specs.Nodes.{Rows, none}
use Rattle.sq_circuit.specs.declared.circuit.Part.{Part}
use Rattle.sq_circuit.proofs.Alongside.{each-length, each_at}
use Rattle.sq_shard.specs.Shards.{shards}
use Rattle.sq_states.specs.Committing.{IsReadyFor}
use Rattle.sq_states.specs.Empty.{empty_states}
use Rattle.sq_states.specs.Keeps.{IsChanged}
use Rattle.sq_states.specs.declared.kept.NodeState.{NodeState}
use Rattle.sq_states.specs.declared.piece.Piece.{Piece}
use Rattle.sq_states.specs.declared.ready.Ready.{Ready}
use Rattle.sq_incr.specs.Commits.{AreCommitted}
use Rattle.sq_incr.specs.Orders.{task}
use Rattle.sq_incr.specs.Played.{Answers, HasPiece, IsPlayed}
use Rattle.sq_incr.specs.Plays.{HaveShape}
use Rattle.sq_incr.specs.Ready.{IsReady, Keeps}
use Rattle.sq_incr.specs.Slots.{is_run, piece_at}
use Rattle.sq_incr.specs.declared.pieces.PlayRefusal.{PlayRefusal}
use Rattle.sq_incr.specs.declared.store.Slot.{Slot}
use Rattle.sq_incr.specs.declared.store.Slot.TheVariants.{Open, Skipped, Broken, Ran}
use Rattle.sq_incr.specs.declared.task.Task.{Task}
use Rattle.sq_incr.proofs.Beginning.{starts_ready}
use Rattle.sq_incr.proofs.Blaming.{totals as totals_rise}
use Rattle.sq_incr.proofs.Committing.{kept_now}
use Rattle.sq_incr.proofs.Noting.{there_is}
use Rattle.sq_incr.proofs.Preparing as preparing
use Rattle.sq_incr.proofs.Taking.{tick}
use Rattle.sq_tests_ticks.specs.Ticks.{AreAllPut, CanPrepareAll, CanPutAll, EachAt, IsAnswer, IsCopyAt, IsDone, IsLive, IsPlusAt, IsReadyNode, IsReadyShard, IsStep, IsTotalAt, ready_of}

-- ---- pieces
same_ran : (p q : Piece) → Ran p ≡ Ran q → p ≡ q
same_ran p q e = ap (piece_or p) e
  where
    piece_or : Piece → Slot → Piece
    piece_or p Open = p
    piece_or p Skipped = p
    piece_or p Broken = p
    piece_or p (Ran q) = q

pub same_piece : (pieces : List (List Slot)) (t : Task) (p q : Piece) → HasPiece pieces t p → HasPiece pieces t q → p ≡ q
same_piece pieces t p q a b =
    let line : a.line ≡ b.line = same_Some a.line b.line (sym a.at ∙ b.at) in
    same_ran p q (same_Some (Ran p) (Ran q) (sym a.is ∙ ap (λ l. slice_get l t.shard) line ∙ b.is))

pub node_ready : (pieces : List (List Slot)) (s : ℕ) (shard : List NodeState) (i : ℕ) (one : Ready) (piece : Piece) → HasPiece pieces (task i s) piece → one.node ≡ i
    → ((kept : NodeState) → slice_get shard i ≡ Some kept → IsReadyFor kept piece.kept one.traces) → IsReadyNode pieces s shard i one
node_ready pieces s shard i one piece has node ready = record {
  node = node;
  ready = λ other kept there e. subst (λ (p : Piece). IsReadyFor kept p.kept one.traces) (same_piece pieces (task i s) piece other has there) (ready kept e);
}

ran_piece : (slot : Slot) → is_run slot ≡ true → (piece : Piece) × (slot ≡ Ran piece)
ran_piece Open run = absurd (cc run)
ran_piece Skipped run = absurd (cc run)
ran_piece Broken run = absurd (cc run)
ran_piece (Ran piece) run = (piece, refl)

module _ {c : List Part} (circuit : IsCircuit c) {states : List (List NodeState)} {totals : List ℤ} {changes : List Rows} {first : Bool} (r : IsReady c states totals changes first) (order : List Task) (pieces : List (List Slot)) (played : IsPlayed r order pieces) where
  abbrev n : ℕ
  n = length states

  -- ---- preparing
  pub can_prepare : CanPrepareAll (length c) states pieces
  can_prepare = record {
    count = played.count;
    wide = played.wide;
    long = r.keeps.nodes;
    stays = λ i s piece kept has is. (preparing.can_prepare c states totals changes first r order pieces played (task i s) piece has is.shard is.of_shard).in_range kept is.of_node;
  }

  piece_there : (i s : ℕ) → i < length c → s < length states → (piece : Piece) × HasPiece pieces (task i s) piece
  piece_there i s low inside =
      let line = there_is pieces i (subst (λ k. i < k) (sym played.count) low) in
      let slot = there_is line.0 s (subst (λ k. s < k) (sym (played.wide i line.0 line.1)) inside) in
      let ran = ran_piece slot.0 (played.ran i s line.0 slot.0 line.1 slot.1) in
      (ran.0, record { line = line.0; at = line.1; is = slot.1 ∙ ap Some ran.1 })

  -- ---- totals
  sum_is : (i : ℕ) → i < length c → (values : List Rows) → values ≡ each_below (whole c r.new) (length c) → (old new : ℤ) → slice_get totals i ≡ Some old → IsTotalAt values i new → new ≡ old +ℤ over_shards integers (shards n) (λ s. total (piece_at r i s))
  sum_is i low values is old new a h =
      h (whole c r.new i) (ap (λ zs. slice_get zs i) is ∙ each_at (whole c r.new) (length c) i low)
      ∙ sym (totals_rise first c n r.old (table_at changes) r.new (tick circuit r) i)
      ∙ ap (λ t. t +ℤ over_shards integers (shards n) (λ s. total (piece_at r i s))) (sym (r.keeps.total_of i old a))

  -- ---- putting in place
  module _ (ready : List (List Ready)) (prepared : EachAt (IsReadyShard pieces states) ready n) where
    pub all_can_put : CanPutAll states ready
    all_can_put = record {
      count = prepared.count;
      each = λ s readies e shard at.
          let h = prepared.each s readies e shard at in
          record {
            count = h.count;
            each = λ i one g. record {
              node = (h.each i one g).node;
              can = λ kept k.
                  let low : i < length c = subst (λ m. i < m) (r.keeps.nodes s shard at) (slice_get_within shard i kept k) in
                  let piece = piece_there i s low (slice_get_within states s shard at) in
                  ((h.each i one g).ready piece.0 kept piece.1 k).can;
            };
          };
    }

    module _ (values : List Rows) (values_are : values ≡ each_below (whole c r.new) (length c)) (sums : List ℤ) (are_totals : EachAt (IsTotalAt values) sums (length values)) (now : List (List NodeState)) (put : AreAllPut states ready now) where
      old_shard : (s : ℕ) → s < length now → (shard : List NodeState) × (slice_get states s ≡ Some shard)
      old_shard s low = there_is states s (subst (λ k. s < k) put.count low)

      readies_at : (s : ℕ) → s < length now → (readies : List Ready) × (slice_get ready s ≡ Some readies)
      readies_at s low = there_is ready s (let many = prepared.count in let same = put.count in omega (arith, low, many, same))

      all_committed : AreCommitted r pieces now sums
      all_committed = record {
        shard_count = put.count;
        nodes = λ s shard e.
            let low = slice_get_within now s shard e in
            let old = old_shard s low in
            let readies = readies_at s low in
            (put.each s old.0 readies.0 shard old.1 readies.1 e).count ∙ r.keeps.nodes s old.0 old.1;
        each = λ i s piece was is has kept now_kept.
            let low = slice_get_within now s now_kept.shard now_kept.of_shard in
            let readies = readies_at s low in
            let h = prepared.each s readies.0 readies.1 kept.shard kept.of_shard in
            let one = there_is readies.0 i (subst (λ k. i < k) (sym h.count) (slice_get_within kept.shard i was kept.of_node)) in
            let done = (put.each s kept.shard readies.0 now_kept.shard kept.of_shard readies.1 now_kept.of_shard).each i was one.0 is kept.of_node one.1 now_kept.of_node in
            subst (IsChanged was piece.kept) (sym done) ((h.each i one.0 one.1).ready piece was has kept.of_node).changed;
        sums_count = are_totals.count ∙ ap length values_are ∙ each-length (whole c r.new) (length c);
        sum_of = λ i old new a b. sum_is i (subst (λ k. i < k) r.keeps.totals_count (slice_get_within totals i old a)) values values_are old new a (are_totals.each i new b);
      }

      pub keeps_new : Keeps false c r.new now sums
      keeps_new = kept_now c states totals changes first circuit r order pieces played now sums all_committed

-- ---- what is kept afterwards
module _ {first : Bool} {c : List Part} {old changes new : List Rows} {states : List (List NodeState)} {totals : List ℤ} {order : List Task} {pieces : List (List Slot)} (circuit : IsCircuit c) (d : IsDone first c old changes new states totals order pieces) where
  pub done_prepares : CanPrepareAll (length c) states pieces
  done_prepares = can_prepare circuit (ready_of d.live d.step) order pieces d.played

  pub done_puts : (ready : List (List Ready)) → EachAt (IsReadyShard pieces states) ready (length states) → CanPutAll states ready
  done_puts ready prepared = all_can_put circuit (ready_of d.live d.step) order pieces d.played ready prepared

  pub live_after : (ready : List (List Ready)) → EachAt (IsReadyShard pieces states) ready (length states) → (values : List Rows) → values ≡ each_below (whole c new) (length c) → (sums : List ℤ) → EachAt (IsTotalAt values) sums (length values)
      → (now : List (List NodeState)) → AreAllPut states ready now → IsLive false c new now sums
  live_after ready prepared values is sums are_totals now put = record {
    some = subst (λ k. 0 < k) (sym put.count) d.live.some;
    few = subst (λ k. k ≤ 64) (sym put.count) d.live.few;
    keeps = keeps_new circuit (ready_of d.live d.step) order pieces d.played ready prepared values is sums are_totals now put;
    was_good = λ _. d.step.good;
    was_clear = λ _. d.played.clear;
  }

-- ---- the start
pub live_begun : (c : List Part) (n : ℕ) (states : List (List NodeState)) (totals : List ℤ) (tables : List Rows) → (1 ≤ n) × (n ≤ 64) → IsGood c tables → states ≡ replicate n (empty_states c) → totals ≡ replicate (length c) (pos 0) → IsLive true c tables states totals
live_begun c n states totals tables few good is zeros =
    let r = starts_ready c n (omega (arith, few.0)) few.1 tables good in
    let many : length states ≡ n = ap length is ∙ length-replicate n (empty_states c) in
    record {
      some = omega (arith, many, few.0);
      few = omega (arith, many, few.1);
      keeps = subst (λ ss. Keeps true c tables ss totals) (sym is) (subst (λ ts. Keeps true c tables (replicate n (empty_states c)) ts) (sym zeros)
          (record { nodes = r.keeps.nodes; each = r.keeps.each; totals_count = r.keeps.totals_count; total_of = r.keeps.total_of }));
      was_good = λ e. absurd (cc e);
      was_clear = λ e. absurd (cc e);
    }

-- ---- steps
past_tables : (zs : List Rows) (t : ℕ) → length zs ≤ t → table_at zs t ≡ none
past_tables [] t high = refl
past_tables (z ∷ zs) zero high = absurd (omega (arith, high))
past_tables (z ∷ zs) (suc t) high = past_tables zs t (omega (arith, high))

got_table : (zs : List Rows) (t : ℕ) → t < length zs → slice_get zs t ≡ Some (table_at zs t)
got_table [] t low = absurd (omega (arith, low))
got_table (z ∷ zs) zero low = refl
got_table (z ∷ zs) (suc t) low = got_table zs t (omega (arith, low))

-- a table by its place
pub table_is : (zs : List Rows) (t : ℕ) (z : Rows) → t < length zs → z ≡ get_or zs t z → z ≡ table_at zs t
table_is [] t z low is = absurd (omega (arith, low))
table_is (y ∷ zs) zero z low is = is
table_is (y ∷ zs) (suc t) z low is = table_is zs t z (omega (arith, low)) is

pub first_step : (c : List Part) (old tables copies : List Rows) → EachAt (IsCopyAt tables) copies (length tables) → IsGood c copies → IsStep true c old tables copies
first_step c old tables copies h good = record {
  tables = sym h.count ∙ good.count;
  changed = λ t. at t (cases_lt t (length copies)) ∙ sym (rows_are_abelian.neutral (table_at tables t));
  good = good;
}
  where
    at : (t : ℕ) → (t < length copies) ⊎ (length copies ≤ t) → table_at copies t ≡ table_at tables t
    at t (inl low) = h.each t (table_at copies t) (got_table copies t low)
    at t (inr high) = past_tables copies t high ∙ sym (past_tables tables t (subst (λ k. k ≤ t) h.count high))

pub later_step : (c : List Part) (old changes new : List Rows) → length changes ≡ length old → EachAt (IsPlusAt old changes) new (length old) → IsGood c new → IsStep false c old changes new
later_step c old changes new many h good = record {
  tables = many ∙ sym h.count ∙ good.count;
  changed = λ t. at t (cases_lt t (length new));
  good = good;
}
  where
    at : (t : ℕ) → (t < length new) ⊎ (length new ≤ t) → table_at new t ≡ plus (table_at old t) (table_at changes t)
    at t (inl low) = h.each t (table_at new t) (got_table new t low)
    at t (inr high) =
        past_tables new t high
        ∙ sym (rows_are_abelian.neutral none)
        ∙ sym (ap (λ z. plus z none) (past_tables old t (subst (λ k. k ≤ t) h.count high)))
        ∙ sym (ap (λ z. plus (table_at old t) z) (past_tables changes t (subst (λ k. k ≤ t) (h.count ∙ sym many) high)))

-- ---- slices of vectors
pub answer_is : {first : Bool} {c : List Part} {old new : List Rows} (order : List Task) (result : Result (List (List Slot)) PlayRefusal) (states ss : List (List NodeState)) (totals ts : List ℤ) (changes ds : List Rows) → ss ≡ states → ts ≡ totals → ds ≡ changes
    → ((r : IsReady c ss ts ds first) → Answers r order result) → IsAnswer first c old changes new states totals order result
answer_is {first} {c} order result states ss totals ts changes ds is_s is_t is_d h = λ live step.
    subst (λ xs. (r : IsReady c states totals xs first) → Answers r order result) is_d
    (subst (λ xs. (r : IsReady c states xs ds first) → Answers r order result) is_t
    (subst (λ xs. (r : IsReady c xs ts ds first) → Answers r order result) is_s h)) (ready_of live step)

pub ready_is : {first : Bool} {c : List Part} (states ss : List (List NodeState)) (totals ts : List ℤ) (changes ds : List Rows) → ss ≡ states → ts ≡ totals → ds ≡ changes → IsReady c states totals changes first → IsReady c ss ts ds first
ready_is {first} {c} states ss totals ts changes ds is_s is_t is_d r =
    subst (λ xs. IsReady c xs ts ds first) (sym is_s) (subst (λ xs. IsReady c states xs ds first) (sym is_t) (subst (λ xs. IsReady c states totals xs first) (sym is_d) r))

-- ---- what play answers
pub done_if : {first : Bool} {c : List Part} {old changes new : List Rows} {states : List (List NodeState)} {totals : List ℤ} (order : List Task) (live : IsLive first c old states totals) (step : IsStep first c old changes new)
    (result : Result (List (List Slot)) PlayRefusal) → IsAnswer first c old changes new states totals order result → IfOk result (λ pieces. IsDone first c old changes new states totals order pieces)
done_if order live step (Ok pieces) h = record { live = live; step = step; played = h live step }
done_if order live step (Err refusal) h = tt

pub shape_if : {first : Bool} {c : List Part} {old changes new : List Rows} {states : List (List NodeState)} {totals : List ℤ} (order : List Task) (live : IsLive first c old states totals) (step : IsStep first c old changes new)
    (result : Result (List (List Slot)) PlayRefusal) → IsAnswer first c old changes new states totals order result → IfOk result (λ pieces. HaveShape (length c) (length states) pieces)
shape_if order live step (Ok pieces) h = let played = h live step in record { count = played.count; wide = played.wide }
shape_if order live step (Err refusal) h = tt
