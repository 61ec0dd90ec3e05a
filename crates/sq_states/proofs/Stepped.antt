-- What a step answers, from what the operator of its node answers.
use Rattle.std.proofs.Common.{◌≡◌, ℕ, ◌+◌, ◌≤◌, Bool, Some, None, refl, sym, ap, ap₂, subst, ◌∙◌, arith}
use Rattle.std.specs.Prelude.{Result, Ok, Err, ℤ}
use Rattle.sq_value.specs.Order.{row_cmp}
use Rattle.sq_algebra.specs.Keyed.{cut}
use Rattle.sq_algebra.specs.Operators.{image}
use Rattle.sq_algebra.specs.ZSet.{minus, plus}
use Rattle.sq_zset.specs.Range.{IsInRange, first_outside}
use Rattle.sq_circuit.specs.LinearOps.{images_of, tested_of}
use Rattle.sq_circuit.specs.Nodes.{Rows, core, left_key, none, right_key, standing}
use Rattle.sq_circuit.specs.declared.node.LinearOp.{LinearOp}
use Rattle.sq_circuit.specs.declared.node.Node.{Node}
use Rattle.sq_circuit.specs.declared.node.Node.TheVariants.{Linear, Plus, Minus, View}
use Rattle.sq_ops.specs.Extensions.{first_value_outside}
use Rattle.sq_linear.specs.declared.fault.LinearFault.{LinearFault}
use Rattle.sq_linear.specs.declared.fault.LinearFault.TheVariants as linear
use Rattle.sq_zset.specs.declared.pair.ZFault.{ZFault}
use Rattle.sq_zset.specs.declared.pair.ZFault.TheVariants as zset
use Rattle.sq_states.specs.Refusals.{of_linear, of_sum}
use Rattle.sq_states.specs.Keeps.{IsChanged, KeepsNothing, change_kind, state_kind}
use Rattle.sq_states.specs.Steps.{IsFault, IsStepChange, IsStepped, KeepsState, NodeStep, NoFault, cost_of, piece_at}
use Rattle.sq_states.specs.declared.kept.NodeState.{NodeState}
use Rattle.sq_states.specs.declared.kept.NodeState.TheVariants as state
use Rattle.sq_states.specs.declared.piece.NodeFault.{NodeFault}
use Rattle.sq_states.specs.declared.piece.NodeFault.TheVariants as fault
use Rattle.sq_states.specs.declared.piece.Piece.{Piece}
use Rattle.sq_states.specs.declared.piece.StateChange.{StateChange}
use Rattle.sq_states.specs.declared.piece.StateChange.TheVariants as change
use Rattle.sq_states.specs.declared.piece.StepRefusal.{StepRefusal}
use Rattle.sq_states.specs.declared.piece.StepRefusal.TheVariants as refusal
use Rattle.sq_states.proofs.Rising.{difference_rise, image_rise, rise, row_rise, sum_rise}

-- ---- any node
module _ (n : Node) (kept : NodeState) (left right : Rows) (first : Bool) (old new : ℕ) where
  abbrev pub WithinCost : Type 0
  WithinCost = (b : NodeStep n kept left right first) → new ≤ old + cost_of b

  pub stepped : (p : Piece) → IsStepChange n kept left right first p → IsInRange p.change → KeepsState n kept left right first p → ((b : NodeStep n kept left right first) → change_kind p.kept ≡ state_kind kept) → ((b : NodeStep n kept left right first) → NoFault b) → WithinCost
      → IsStepped n kept left right first (Ok p) old new
  stepped p change in_range keeps kind faultless few = record { change = change; in_range = in_range; keeps = keeps; kind = kind; faultless = faultless; faulty = λ f e. absurd (cc e); count = few }

  pub refused : (e : StepRefusal) (result : Result Piece StepRefusal) → result ≡ Err e → ((f : NodeFault) → e ≡ refusal.Fault f → (b : NodeStep n kept left right first) → IsFault b f) → WithinCost
      → IsStepped n kept left right first result old new
  refused e result is faulty few = subst (λ r. IsStepped n kept left right first r old new) (sym is) (record { change = tt; in_range = tt; keeps = tt; kind = tt; faultless = tt; faulty = λ f same. faulty f (inside same); count = few })
    where
      inside : {f : NodeFault} → ◌≡◌ {A = Result Piece StepRefusal} (Err e) (Err (refusal.Fault f)) → e ≡ refusal.Fault f
      inside same = cc same

  pub out_of_memory : (result : Result Piece StepRefusal) → result ≡ Err refusal.Memory → WithinCost → IsStepped n kept left right first result old new
  out_of_memory result is few = refused refusal.Memory result is (λ f same. absurd (cc same)) few

  -- the piece, from the parts of the shard
  pub piece_is : standing n ≡ none → (b : NodeStep n kept left right first) → (answer : Rows)
      → answer ≡ minus (core n (plus (cut b.S (left_key n) b.s b.y) left) (plus (cut b.S (right_key n) b.s b.z) right)) (core n (cut b.S (left_key n) b.s b.y) (cut b.S (right_key n) b.s b.z))
      → answer ≡ piece_at b
  piece_is e b answer is =
      is
      ∙ ap₂ (λ l r. minus (core n (plus (cut b.S (left_key n) b.s b.y) l) (plus (cut b.S (right_key n) b.s b.z) r)) (core n (cut b.S (left_key n) b.s b.y) (cut b.S (right_key n) b.s b.z))) b.left_is b.right_is
      ∙ sym (rise n b.S b.s b.y b.dy b.z b.dz b.start e b.begins_left b.begins_right)

pub same_fault : {a f : NodeFault} → refusal.Fault a ≡ refusal.Fault f → a ≡ f
same_fault e = cc e

-- a weight of the piece outside its range
module _ (n : Node) (kept : NodeState) (left right : Rows) (first : Bool) (old new : ℕ) where
  pub weight_refused : (e : ZFault) → ((sum : ℤ) → e ≡ zset.Weight sum → (b : NodeStep n kept left right first) → first_outside (piece_at b) ≡ Some sum)
      → (result : Result Piece StepRefusal) (r : StepRefusal) → result ≡ Err r → r ≡ of_sum e → WithinCost n kept left right first old new → IsStepped n kept left right first result old new
  weight_refused (zset.Weight sum) outside result r is same few =
      refused n kept left right first old new (refusal.Fault (fault.Weight sum)) result (is ∙ ap Err same)
      (λ f from b. subst (λ g. IsFault b g) (same_fault from) (outside sum refl b)) few
  weight_refused zset.Memory outside result r is same few = out_of_memory n kept left right first old new result (is ∙ ap Err same) few

  pub sum_refused : (z : Rows) → ((b : NodeStep n kept left right first) → z ≡ piece_at b) → (e : ZFault) → ((sum : ℤ) → e ≡ zset.Weight sum → first_outside z ≡ Some sum)
      → (result : Result Piece StepRefusal) (r : StepRefusal) → result ≡ Err r → r ≡ of_sum e → WithinCost n kept left right first old new → IsStepped n kept left right first result old new
  sum_refused z piece e outside result r is same few = weight_refused e (λ sum at b. ap first_outside (sym (piece b)) ∙ outside sum at) result r is same few

pub no_steps : (old m : ℕ) → old ≤ old + m
no_steps old m = omega arith

nothing_kept : (kept now : NodeState) → IsChanged kept change.Nothing now → KeepsNothing kept → KeepsNothing now
nothing_kept state.Nothing now h k = h
nothing_kept (state.Rows parts) now h k = absurd h
nothing_kept (state.Sides a b) now h k = absurd h
nothing_kept (state.Groups accs ordered shown) now h k = absurd h

nothing_kind : (kept : NodeState) (c : StateChange) → c ≡ change.Nothing → KeepsNothing kept → change_kind c ≡ state_kind kept
nothing_kind state.Nothing c e k = ap change_kind e
nothing_kind (state.Rows parts) c e k = absurd k
nothing_kind (state.Sides a b) c e k = absurd k
nothing_kind (state.Groups accs ordered shown) c e k = absurd k

-- ---- nodes that keep nothing
module _ (kept : NodeState) (first : Bool) (count : ℕ) where
  module _ (i : ℕ) (op : LinearOp) (d right : Rows) where
    linear_piece : (b : NodeStep (Linear i op) kept d right first) (answer : Rows) → answer ≡ image row_cmp (images_of op) d → answer ≡ piece_at b
    linear_piece b answer is = piece_is (Linear i op) kept d right first count count refl b answer (is ∙ sym (image_rise (images_of op) (cut b.S (λ row. row) b.s b.y) d))

    pub linear_steps : (p : Piece) → p.kept ≡ change.Nothing → p.change ≡ image row_cmp (images_of op) d → IsInRange p.change → first_value_outside (tested_of op) d ≡ None → IsStepped (Linear i op) kept d right first (Ok p) count count
    linear_steps p nothing is in_range values =
        stepped (Linear i op) kept d right first count count p
        (λ b. linear_piece b p.change is) in_range
        (λ b now changed. nothing_kept kept now (subst (λ c. IsChanged kept c now) nothing changed) b.keeps)
        (λ b. nothing_kind kept p.kept nothing b.keeps)
        (λ b. record { values = values; sums = refl })
        (λ b. no_steps count _)

    pub linear_refused : (e : LinearFault) → ((value : ℤ) → e ≡ linear.Value value → first_value_outside (tested_of op) d ≡ Some value)
        → ((sum : ℤ) → e ≡ linear.Weight sum → first_outside (image row_cmp (images_of op) d) ≡ Some sum)
        → (result : Result Piece StepRefusal) (r : StepRefusal) → result ≡ Err r → r ≡ of_linear e → IsStepped (Linear i op) kept d right first result count count
    linear_refused (linear.Value value) values weights result r is same =
        refused (Linear i op) kept d right first count count (refusal.Fault (fault.Value value)) result (is ∙ ap Err same)
        (λ f from b. subst (λ g. IsFault b g) (same_fault from) (values value refl)) (λ b. no_steps count _)
    linear_refused (linear.Weight sum) values weights result r is same =
        sum_refused (Linear i op) kept d right first count count (image row_cmp (images_of op) d) (λ b. linear_piece b (image row_cmp (images_of op) d) refl) (zset.Weight sum)
        (λ s e. weights s (same_weight e)) result r is same (λ b. no_steps count _)
      where
        same_weight : {s : ℤ} → zset.Weight sum ≡ zset.Weight s → linear.Weight sum ≡ linear.Weight s
        same_weight e = cc e
    linear_refused linear.Memory values weights result r is same = out_of_memory (Linear i op) kept d right first count count result (is ∙ ap Err same) (λ b. no_steps count _)

  module _ (l r : ℕ) (left right : Rows) where
    pub plus_piece : (b : NodeStep (Plus l r) kept left right first) → plus left right ≡ piece_at b
    plus_piece b = piece_is (Plus l r) kept left right first count count refl b (plus left right) (sym (sum_rise (cut b.S (λ row. row) b.s b.y) left (cut b.S (λ row. row) b.s b.z) right))

    pub minus_piece : (b : NodeStep (Minus l r) kept left right first) → minus left right ≡ piece_at b
    minus_piece b = piece_is (Minus l r) kept left right first count count refl b (minus left right) (sym (difference_rise (cut b.S (λ row. row) b.s b.y) left (cut b.S (λ row. row) b.s b.z) right))

    pub plus_steps : (p : Piece) → p.kept ≡ change.Nothing → p.change ≡ plus left right → IsInRange p.change → IsStepped (Plus l r) kept left right first (Ok p) count count
    plus_steps p nothing is in_range =
        stepped (Plus l r) kept left right first count count p (λ b. is ∙ plus_piece b) in_range
        (λ b now changed. nothing_kept kept now (subst (λ c. IsChanged kept c now) nothing changed) b.keeps)
        (λ b. nothing_kind kept p.kept nothing b.keeps)
        (λ b. record { values = refl; sums = refl }) (λ b. no_steps count _)

    pub minus_steps : (p : Piece) → p.kept ≡ change.Nothing → p.change ≡ minus left right → IsInRange p.change → IsStepped (Minus l r) kept left right first (Ok p) count count
    minus_steps p nothing is in_range =
        stepped (Minus l r) kept left right first count count p (λ b. is ∙ minus_piece b) in_range
        (λ b now changed. nothing_kept kept now (subst (λ c. IsChanged kept c now) nothing changed) b.keeps)
        (λ b. nothing_kind kept p.kept nothing b.keeps)
        (λ b. record { values = refl; sums = refl }) (λ b. no_steps count _)

  pub view_steps : (i v : ℕ) (d right : Rows) (p : Piece) → p.kept ≡ change.Nothing → p.change ≡ d → IsInRange p.change → IsStepped (View i v) kept d right first (Ok p) count count
  view_steps i v d right p nothing is in_range =
      stepped (View i v) kept d right first count count p
      (λ b. is ∙ piece_is (View i v) kept d right first count count refl b d (sym (row_rise (cut b.S (λ row. row) b.s b.y) d))) in_range
      (λ b now changed. nothing_kept kept now (subst (λ c. IsChanged kept c now) nothing changed) b.keeps)
      (λ b. nothing_kind kept p.kept nothing b.keeps)
      (λ b. record { values = refl; sums = refl }) (λ b. no_steps count _)
