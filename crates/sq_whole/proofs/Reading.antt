-- What a node reads while a circuit is evaluated: the values of earlier nodes.
use Rattle.std.proofs.Common.{◌≡◌, ℕ, ◌<◌, List, length, get_or, Some, None, refl, sym, ap, subst, ◌∙◌, arith}
use Rattle.std.specs.Prelude.{Option, Result, Ok, Err, IfOk, IfSome}
use Rattle.std.proofs.lemmas.Option.{get_or_from_slice_get, slice_get-get_or}
use mathlib.Core.Logic.{inl, inr}
use Rattle.sq_value.specs.declared.memory.NoMemory.{NoMemory}
use Rattle.sq_expr.specs.declared.expr.Kind.{Kind}
use Rattle.sq_ops.specs.Aggregates.{SuitsSpec}
use Rattle.sq_ops.specs.Fits.{FitsRows}
use Rattle.sq_ops.specs.declared.aggregate.AggSpec.{AggSpec}
use Rattle.sq_ops.specs.declared.bilinear.Pairing.{Pairing}
use Rattle.sq_circuit.specs.Along.{each_below}
use Rattle.sq_circuit.specs.Circuits.{has_number_outside, kinds_at, kinds_in, known, node_at}
use Rattle.sq_circuit.specs.Invariant.{HasKinds, IsBounded, IsCircuit, IsEarlier, IsGood, IsInOrder, IsListed, NeedsListed, TakesKinds, view_count}
use Rattle.sq_circuit.specs.LinearOps.{SuitsOp}
use Rattle.sq_circuit.specs.Nodes.{Rows, Source, Inner, left_source, operator, right_source}
use Rattle.sq_circuit.specs.declared.circuit.Part.{Part}
use Rattle.sq_circuit.specs.declared.node.LinearOp.{LinearOp}
use Rattle.sq_circuit.specs.declared.node.Node.{Node}
use Rattle.sq_circuit.specs.declared.node.Node.TheVariants.{Table, Linear, Join, Aggregate}
use Rattle.sq_circuit.proofs.Alongside.{each-length, each_at}
use Rattle.sq_whole.specs.Answers.{AnswersNode, FitsPairing, IsAnswer, IsAnswerAt, known_from}
use Rattle.sq_whole.proofs.Knowing.{PartAt, known_bounded, part_of_node}

-- the node n stands at i, and the values of earlier nodes are known
pub record Here (c : List Part) (tables : List Rows) (values : List (Option Rows)) (i : ℕ) (n : Node) : Type 0 where
  pub circuit : IsCircuit c
  pub good : IsGood c tables
  pub inside : i < length c
  pub at : node_at c i ≡ Some n
  pub earlier : values ≡ each_below (known c tables) i

module _ (c : List Part) (tables : List Rows) (values : List (Option Rows)) (i : ℕ) (n : Node) (here : Here c tables values i n) where
  abbrev found : PartAt c i n
  found = part_of_node c i n here.at

  low : (s : Source) (j : ℕ) → IsEarlier i s → s ≡ Inner j → j < i
  low s j e is = subst (λ t. IsEarlier i t) is e

  pub left_low : (j : ℕ) → left_source n ≡ Inner j → j < i
  left_low j is = low (left_source n) j (subst (λ m. IsEarlier i (left_source m)) found.node (here.circuit.parts i found.part found.at).left_earlier) is

  pub right_low : (j : ℕ) → right_source n ≡ Inner j → j < i
  right_low j is = low (right_source n) j (subst (λ m. IsEarlier i (right_source m)) found.node (here.circuit.parts i found.part found.at).right_earlier) is

  in_bounds : (j : ℕ) → j < i → j < length values
  in_bounds j less = let long = ap length here.earlier ∙ each-length (known c tables) i in omega arith

  pub left_bound : (j : ℕ) → left_source n ≡ Inner j → j < length values
  left_bound j is = in_bounds j (left_low j is)

  pub right_bound : (j : ℕ) → right_source n ≡ Inner j → j < length values
  right_bound j is = in_bounds j (right_low j is)

  -- the value that is read
  value_at : (j : ℕ) (x : Option Rows) → j < i → x ≡ get_or values j x → x ≡ known c tables j
  value_at j x less got = got ∙ ap (λ vs. get_or vs j x) here.earlier ∙ get_or_from_slice_get (each_below (known c tables) i) j (known c tables j) x (each_at (known c tables) i j less)

  pub left_value : (j : ℕ) (x : Option Rows) → left_source n ≡ Inner j → x ≡ get_or values j x → x ≡ known_from c tables (left_source n)
  left_value j x is got = value_at j x (left_low j is) got ∙ sym (ap (known_from c tables) is)

  pub right_value : (j : ℕ) (x : Option Rows) → right_source n ≡ Inner j → x ≡ get_or values j x → x ≡ known_from c tables (right_source n)
  right_value j x is got = value_at j x (right_low j is) got ∙ sym (ap (known_from c tables) is)

  -- rows that are known are of their kinds; those that the node needs as a list are one
  takes : TakesKinds n (kinds_at c)
  takes = subst (λ m. TakesKinds m (kinds_at c)) found.node (here.circuit.parts i found.part found.at).takes

  bounded : (j : ℕ) (y : Rows) → j < i → known c tables j ≡ Some y → IsBounded c j (get_or c j found.part) y
  bounded j y less k = known_bounded c here.circuit tables here.good j (get_or c j found.part) y (slice_get-get_or c j found.part (let long = here.inside in omega arith)) k

  has_kinds : (j : ℕ) (y : Rows) → j < i → known c tables j ≡ Some y → HasKinds (kinds_at c j) y
  has_kinds j y less k =
      subst (λ kinds. HasKinds kinds y) (sym (ap kinds_in (slice_get-get_or c j found.part (let long = here.inside in omega arith)))) (bounded j y less k).of_kinds

  listed : (j : ℕ) (y : Rows) → j < i → NeedsListed n j → known c tables j ≡ Some y → IsListed y
  listed j y less needs k = (bounded j y less k).needed i found.part found.at (subst (λ m. NeedsListed m j) (sym found.node) needs)

  rows_fit : (suits : List Kind → Type 0) (j : ℕ) (x : Option Rows) → j < i → suits (kinds_at c j) → x ≡ known c tables j → IfSome x (FitsRows suits)
  rows_fit suits j None less h k = tt
  rows_fit suits j (Some y) less h k = λ e d within. record { kinds = kinds_at c j; of_kinds = has_kinds j y less (sym k) e d within; suitable = h }

  rows_listed : (j : ℕ) (x : Option Rows) → j < i → NeedsListed n j → x ≡ known c tables j → IfSome x IsListed
  rows_listed j None less needs k = tt
  rows_listed j (Some y) less needs k = listed j y less needs (sym k)

  -- an answer over what is read is one of the node
  pub answers : (y z : Option Rows) (r : Result (Option Rows) NoMemory) → y ≡ known_from c tables (left_source n) → z ≡ known_from c tables (right_source n)
      → IfOk r (λ x. IsAnswer (operator n) (has_number_outside n) y z x) → IfOk r (λ x. IsAnswerAt c tables i x)
  answers y z (Err e) l r h = tt
  answers y z (Ok x) l r h =
      subst (λ o. AnswersNode c tables o x) (sym here.at)
      (subst (λ a. IsAnswer (operator n) (has_number_outside n) a (known_from c tables (right_source n)) x) l (subst (λ b. IsAnswer (operator n) (has_number_outside n) y b x) r h))

module _ (c : List Part) (tables : List Rows) (values : List (Option Rows)) (i : ℕ) where
  -- what the calls at a node ask for
  pub table_bound : (t : ℕ) → Here c tables values i (Table t) → t < length tables
  table_bound t here =
      let found = part_of_node c i (Table t) here.at in
      let order : IsInOrder (length c) (view_count c) c i (Table t) = subst (λ m. IsInOrder (length c) (view_count c) c i m) found.node (here.circuit.parts i found.part found.at).in_order in
      let low = order.1 in
      let many = here.good.count in
      omega arith

  pub linear_fits : (j : ℕ) (op : LinearOp) (x : Option Rows) → Here c tables values i (Linear j op) → x ≡ get_or values j x → IfSome x (FitsRows (SuitsOp op))
  linear_fits j op x here got =
      rows_fit c tables values i (Linear j op) here (SuitsOp op) j x (left_low c tables values i (Linear j op) here j refl) (takes c tables values i (Linear j op) here)
      (left_value c tables values i (Linear j op) here j x refl got)

  pub aggregate_fits : (j : ℕ) (spec : AggSpec) (x : Option Rows) → Here c tables values i (Aggregate j spec) → x ≡ get_or values j x → IfSome x (FitsRows (SuitsSpec spec))
  aggregate_fits j spec x here got =
      rows_fit c tables values i (Aggregate j spec) here (SuitsSpec spec) j x (left_low c tables values i (Aggregate j spec) here j refl) (takes c tables values i (Aggregate j spec) here)
      (left_value c tables values i (Aggregate j spec) here j x refl got)

  pub aggregate_listed : (j : ℕ) (spec : AggSpec) (x : Option Rows) → Here c tables values i (Aggregate j spec) → x ≡ get_or values j x → IfSome x IsListed
  aggregate_listed j spec x here got =
      rows_listed c tables values i (Aggregate j spec) here j x (left_low c tables values i (Aggregate j spec) here j refl) refl
      (left_value c tables values i (Aggregate j spec) here j x refl got)

  module _ (l r : ℕ) (op : Pairing) (here : Here c tables values i (Join l r op)) where
    pair_fits : (x y : Option Rows) → x ≡ known c tables l → y ≡ known c tables r → FitsPairing op x y
    pair_fits None y a b = tt
    pair_fits (Some x) None a b = tt
    pair_fits (Some x) (Some y) a b =
        let left_less = left_low c tables values i (Join l r op) here l refl in
        let right_less = right_low c tables values i (Join l r op) here r refl in
        record {
          fits = record {
            left = kinds_at c l;
            right = kinds_at c r;
            suitable = takes c tables values i (Join l r op) here;
            left_of_kinds = has_kinds c tables values i (Join l r op) here l x left_less (sym a);
            right_of_kinds = has_kinds c tables values i (Join l r op) here r y right_less (sym b);
          };
          left = listed c tables values i (Join l r op) here l x left_less (inl refl) (sym a);
          right = listed c tables values i (Join l r op) here r y right_less (inr refl) (sym b);
        }

    pub join_fits : (x y : Option Rows) → x ≡ get_or values l x → y ≡ get_or values r y → FitsPairing op x y
    join_fits x y a b =
        pair_fits x y (left_value c tables values i (Join l r op) here l x refl a) (right_value c tables values i (Join l r op) here r y refl b)
