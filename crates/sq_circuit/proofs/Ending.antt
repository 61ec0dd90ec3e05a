-- The views at the end of a circuit in the making.
use Rattle.std.proofs.Common.{◌≡◌, ℕ, ◌+◌, ◌<◌, ◌^◌, false, ◌&&◌, ◌||◌, List, ◌++◌, length, Some, refl, sym, ap, subst, ◌∙◌, arith, length-append}
use Rattle.std.specs.Prelude.{slice_get}
use mathlib.Core.Logic.{◌⊎◌, inl, inr}
use Rattle.std.proofs.lemmas.Option.{slice_get_within}
use Rattle.sq_circuit.specs.Begun.{IsBegun, IsEnded, IsViewOf}
use Rattle.sq_circuit.specs.Circuits.{has_fault, has_number_outside, kinds_at, lists_too_many, whole, whole_from}
use Rattle.sq_circuit.specs.Gives.{GivesKinds}
use Rattle.sq_circuit.specs.Invariant.{AreEarlier, HasWidth, IsCircuit, IsEarlier, IsGood, IsInOrder, IsOwned, IsPart, IsPartOf, TakesKinds, is_table, is_view, table_count, view_count}
use Rattle.sq_circuit.specs.Listed.{AsksLists, IsListedPart, IsShort}
use Rattle.sq_circuit.specs.Nodes.{Rows, left_source, operator, right_source}
use Rattle.sq_circuit.specs.declared.circuit.Part.{Part}
use Rattle.sq_circuit.specs.declared.node.Node.TheVariants.{View}
use Rattle.sq_circuit.proofs.Appending.{Behind, count_all, count_more, count_none, front_or_behind, got_behind, kinds_more, no_view_before, owner_more}
use Rattle.sq_circuit.proofs.Evaluating.{fault_at, whole_at}
use Rattle.sq_circuit.proofs.Growing.{whole_more}
use Rattle.sq_circuit.proofs.Listing.{listed_circuit}
use Rattle.sq_circuit.proofs.Making.{begun_earlier, good_before, listed_more, part_more}

module _ (views now : ℕ) (c vs : List Part) (h : IsEnded views now c vs) where
  abbrev b : IsBegun views now c
  b = h.begun

  abbrev ends : (v : ℕ) (p : Part) → slice_get vs v ≡ Some p → IsViewOf c v p
  ends = h.each

  earlier : AreEarlier c
  earlier = begun_earlier views now c b

  abbrev whole_list : List Part
  whole_list = c ++ vs

  no_tables : table_count vs ≡ 0
  no_tables = count_none (λ p. is_table p.node) vs (λ v p e. ap is_table (ends v p e).node)

  all_views : view_count vs ≡ length vs
  all_views = count_all (λ p. is_view p.node) vs (λ v p e. ap is_view (ends v p e).node)

  no_views : view_count c ≡ 0
  no_views = count_none (λ p. is_view p.node) c (λ i p e. no_view_before (length c + views) views c i p.node (let low = slice_get_within c i p e in omega arith) (b.parts i p e).in_order)

  long : length whole_list ≡ length c + length vs
  long = length-append c vs

  counted : view_count whole_list ≡ length vs
  counted = let both = count_more (λ p. is_view p.node) c vs in let none = no_views in let all = all_views in omega arith

  pub good_nodes : (tables : List Rows) → IsGood whole_list tables → IsGood c tables
  good_nodes tables g = good_before c vs no_tables tables g

  many : length vs ≡ views
  many = h.many

  -- a part of so many nodes and views, if these are those of the whole list
  as_part : (i : ℕ) (p : Part) → IsPartOf (length c + views) views whole_list i p → IsPart whole_list i p
  as_part i p h =
      let nodes : length c + views ≡ length whole_list = (let all = long in let as_many = many in omega arith) in
      let these : views ≡ view_count whole_list = (let all = counted in let as_many = many in omega arith) in
      subst (λ n. IsPartOf n (view_count whole_list) whole_list i p) nodes (subst (λ n. IsPartOf (length c + views) n whole_list i p) these h)

  view_part : (v : ℕ) (p : Part) → IsViewOf c v p → v < views → IsPartOf (length c + views) views whole_list (length c + v) p
  view_part v p h low = record {
    left_earlier = subst (λ n. IsEarlier (length c + v) (left_source n)) (sym h.node) (let input = h.low in omega arith);
    right_earlier = subst (λ n. IsEarlier (length c + v) (right_source n)) (sym h.node) tt;
    in_order = subst (IsInOrder (length c + views) views whole_list (length c + v)) (sym h.node) (omega arith, low);
    takes = subst (λ n. TakesKinds n (kinds_at whole_list)) (sym h.node) tt;
    width = subst (λ n. HasWidth n (kinds_at whole_list) (length p.kinds)) (sym h.node) (ap length (h.kinds ∙ sym (kinds_more c vs h.input h.low)));
    owned = subst (λ n. IsOwned views whole_list n p.place p.owner) (sym h.node) (subst (IsOwned views whole_list (View h.input v) p.place) (sym h.owner)
        (record { is_view = low; left = λ w e. h.not_later w (sym (owner_more c vs h.input h.low) ∙ e); right = tt }));
  }

  whole_part : (i : ℕ) (p : Part) → (slice_get c i ≡ Some p) ⊎ Behind (length c) vs i p → IsPartOf (length c + views) views whole_list i p
  whole_part i p (inl front) = part_more c vs earlier no_tables (length c + views) views i p (omega arith) front (b.parts i p front)
  whole_part i p (inr k) =
      subst (λ j. IsPartOf (length c + views) views whole_list j p) (sym k.is)
      (view_part k.place p (ends k.place p k.at) (let low = slice_get_within vs k.place p k.at in let as_many = many in omega arith))

  pub ended_part : (i : ℕ) (p : Part) → slice_get whole_list i ≡ Some p → IsPart whole_list i p
  ended_part i p e = as_part i p (whole_part i p (front_or_behind c vs i p e))

  view_listed : (i v : ℕ) (p : Part) → IsViewOf c v p → IsListedPart whole_list i p
  view_listed i v p h = record {
    gives = subst (λ n. GivesKinds n (kinds_at whole_list) p.kinds) (sym h.node) (h.kinds ∙ sym (kinds_more c vs h.input h.low));
    asks = subst (λ n. AsksLists whole_list n p.place) (sym h.node) (λ e. absurd (let never = sym e ∙ h.place in cc));
    short = λ tables _. subst (λ n. IsShort n p.place (whole whole_list tables i)) (sym h.node) tt;
  }

  whole_listed : (i : ℕ) (p : Part) → (slice_get c i ≡ Some p) ⊎ Behind (length c) vs i p → IsListedPart whole_list i p
  whole_listed i p (inl front) = listed_more c vs earlier no_tables i p front (b.lists i p front)
  whole_listed i p (inr k) = view_listed i k.place p (ends k.place p k.at)

  pub ended_circuit : length c + views < 2 ^ 32 → IsCircuit whole_list
  ended_circuit few = listed_circuit whole_list (let all = long in let as_many = many in omega arith) ended_part (λ i p e. whole_listed i p (front_or_behind c vs i p e))

  -- ---- values and faults of views
  ended_earlier : AreEarlier whole_list
  ended_earlier i p e = step (front_or_behind c vs i p e)
    where
      step : (slice_get c i ≡ Some p) ⊎ Behind (length c) vs i p → IsEarlier i (left_source p.node) × IsEarlier i (right_source p.node)
      step (inl front) = earlier i p front
      step (inr k) =
          let h = ends k.place p k.at in
          (subst (λ n. IsEarlier i (left_source n)) (sym h.node) (let input = h.low in let is = k.is in omega arith), subst (λ n. IsEarlier i (right_source n)) (sym h.node) tt)

  module _ (tables : List Rows) where
    pub view_value : (v : ℕ) (p : Part) (e : slice_get vs v ≡ Some p) → whole whole_list tables (length c + v) ≡ whole c tables (ends v p e).input
    view_value v p e =
        whole_at whole_list ended_earlier tables (length c + v) p (got_behind c vs v (length c + v) refl ∙ e)
        ∙ ap (λ n. operator n (whole_from whole_list tables (left_source n)) (whole_from whole_list tables (right_source n))) (ends v p e).node
        ∙ whole_more c vs tables (ends v p e).input (ends v p e).low

    pub view_fault : (i v : ℕ) (p : Part) → slice_get whole_list i ≡ Some p → IsViewOf c v p → has_fault whole_list tables i ≡ false
    view_fault i v p e h =
        fault_at whole_list ended_earlier tables i p e
        ∙ ap (λ b. (b && lists_too_many (whole whole_list tables i)) || has_number_outside p.node (whole_from whole_list tables (left_source p.node))) h.place
        ∙ ap (λ n. has_number_outside n (whole_from whole_list tables (left_source n))) h.node
