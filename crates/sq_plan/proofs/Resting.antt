-- Rows of one node that another does not have: two nodes, the first of which has few rows and the second no negative weight.
use Rattle.std.proofs.Common.{◌≡◌, ℕ, suc, ◌^◌, Bool, true, false, not, ◌&&◌, List, [], ◌∷◌, ◌++◌, length, get_or, pos, ◌≤ℤ◌, Some, None, refl, sym, ap, ap₂, subst, ◌∙◌, arith}
use Rattle.std.specs.Prelude.{slice_get}
use Rattle.std.proofs.lemmas.List.{append_assoc}
use Rattle.std.proofs.lemmas.Bool.{and_parts}
use Rattle.std.proofs.lemmas.Option.{slice_get-get_or}
use borrow.Author.Differences.{ints}
use Rattle.sq_algebra.specs.Operators.{IsNonNegative}
use Rattle.sq_algebra.specs.ZSet.{minus, total}
use Rattle.sq_expr.specs.declared.expr.Kind.{Kind}
use Rattle.sq_ops.specs.declared.bilinear.Pairing.{Pairing}
use Rattle.sq_bridge.specs.Joins.{same_rows}
use Rattle.sq_bridge.specs.Nodes.{lists_too_many}
use Rattle.sq_bridge.specs.Parts.{IsNoMoreThan, IsOfWidth}
use Rattle.sq_bridge.proofs.Parts.{found_part, kinds_are_wide, rest_part}
use Rattle.sq_circuit.specs.Circuits.{has_fault, is_sound, kinds_in}
use Rattle.sq_circuit.specs.Gives.{AreWithin}
use Rattle.sq_circuit.specs.Invariant.{AreEarlier, HasKinds, IsGood, IsListed, table_count}
use Rattle.sq_circuit.specs.Listed.{HasList}
use Rattle.sq_circuit.specs.Nodes.{Rows, paired}
use Rattle.sq_circuit.specs.declared.circuit.Part.{Part}
use Rattle.sq_circuit.specs.declared.node.Node.TheVariants.{Table, Join, Minus}
use Rattle.sq_circuit.proofs.Alongside.{got_front}
use Rattle.sq_circuit.proofs.Evaluating.{sound_at}
use Rattle.sq_circuit.proofs.Growing.{sound_more}
use Rattle.sq_circuit.proofs.Making.{begun_kinds, begun_list, good_before}
use Rattle.sq_plan.specs.Drafts.{Adds, Appends, CanAdd, IsDraft, IsNext, IsNode, kinds_of, worth_of}
use Rattle.sq_plan.specs.Steps.{HasEachOnce, common_of, rest_of}
use Rattle.sq_plan.specs.declared.draft.Draft.{Draft}
use Rattle.sq_plan.proofs.Adding.{adds_listed, adds_one, appended_length, appended_part, appended_worth, draft_earlier, front_earlier, kinds_stay, no_tables_in, stays_node, worth_stays}
use Rattle.sq_plan.proofs.Giving.{as_they_are}
use Rattle.sq_plan.proofs.Nexts.{common_next, minus_next}
use Rattle.sq_plan.proofs.Primitives.{tested}
use Rattle.sq_plan.proofs.Stepping.{adds_seq}

abbrev spare : List Rows → Bool
spare tables = false

nowhere : Part
nowhere = record { node = Table 0; kinds = []; place = false; owner = None }

-- ---- the rows of a sound node
pub record IsRead (d : Draft) (i : ℕ) (tables : List Rows) : Type 0 where
  pub kinds : HasKinds (kinds_of d i) (worth_of d i tables)
  pub list : IsListed (worth_of d i tables)

pub read_here : (d : Draft) (i : ℕ) (tables : List Rows) → IsDraft d → IsNode d i → IsGood d.parts.items tables → is_sound d.parts.items tables i ≡ true → IsRead d i tables
read_here d i tables h n good sound =
    let p = get_or d.parts.items i nowhere in
    let at : slice_get d.parts.items i ≡ Some p = slice_get-get_or d.parts.items i nowhere n.there in
    let begun = h.begun (suc d.view) (omega arith) in
    record {
      kinds = subst (λ ks. HasKinds ks (worth_of d i tables)) (sym (ap kinds_in at)) (begun_kinds (suc d.view) d.view d.parts.items begun tables i p at (record { good = good; sound = sound }));
      list = begun_list (suc d.view) d.view d.parts.items begun tables i p at (record { good = good; sound = sound }) n.list;
    }

module _ (d : Draft) (draft : IsDraft d) (left right : ℕ) (l : IsNode d left) (r : IsNode d right) (alike : length (kinds_of d right) ≡ length (kinds_of d left)) (once : HasEachOnce d right) where
  abbrev W : ℕ
  W = length (kinds_of d left)

  -- what the left side has in common with the right, and what not
  record IsParted (tables : List Rows) : Type 0 where
    left_list : IsListed (worth_of d left tables)
    found : IsNoMoreThan (common_of d left right tables) (worth_of d left tables)
    others : IsNoMoreThan (rest_of d left right tables) (worth_of d left tables)

  parted : (tables : List Rows) → IsGood d.parts.items tables → is_sound d.parts.items tables left ≡ true → is_sound d.parts.items tables right ≡ true → IsParted tables
  parted tables good sl sr =
      let a = read_here d left tables draft l good sl in
      let b = read_here d right tables draft r good sr in
      let wide_left = kinds_are_wide (kinds_of d left) (worth_of d left tables) a.kinds in
      let wide_right = subst (λ n. IsOfWidth n (worth_of d right tables)) alike (kinds_are_wide (kinds_of d right) (worth_of d right tables) b.kinds) in
      record {
        left_list = a.list;
        found = subst (λ z. IsNoMoreThan (paired (same_rows W) (worth_of d left tables) z) (worth_of d left tables)) (once tables) (found_part W (worth_of d left tables) (worth_of d right tables) wide_left wide_right a.list.above);
        others = subst (λ z. IsNoMoreThan (minus (worth_of d left tables) (paired (same_rows W) (worth_of d left tables) z)) (worth_of d left tables)) (once tables) (rest_part W (worth_of d left tables) (worth_of d right tables) wide_left wide_right a.list.above);
      }

  few_found : (tables : List Rows) → IsParted tables → total (common_of d left right tables) ≤ℤ pos (2 ^ 61)
  few_found tables s = let less = s.found.1 in let few = s.left_list.few in omega (arith, ints)

  few_others : (tables : List Rows) → IsParted tables → total (rest_of d left right tables) ≤ℤ pos (2 ^ 61)
  few_others tables s = let less = s.others.1 in let few = s.left_list.few in omega (arith, ints)

  module _ (op : Pairing) (op_is : op ≡ same_rows W) (own : List Kind) (own_is : own ≡ kinds_of d left) where
    abbrev first : Part
    first = record { node = Join left right op; kinds = own; place = false; owner = Some d.view }

    found_is : (tables : List Rows) → paired op (worth_of d left tables) (worth_of d right tables) ≡ common_of d left right tables
    found_is tables = ap (λ o. paired o (worth_of d left tables) (worth_of d right tables)) op_is

    pub found_next : IsNext d first
    found_next = common_next d own false left right l r op alike op_is (subst (AreWithin (kinds_of d left)) (sym own_is) (as_they_are (kinds_of d left)))
        (λ tables good sound _.
        let both = and_parts (is_sound d.parts.items tables left) (is_sound d.parts.items tables right) sound in
        subst (λ z. total z ≤ℤ pos (2 ^ 61)) (sym (found_is tables)) (few_found tables (parted tables good both.0 both.1)))

    module _ (d1 : Draft) (found : ℕ) (g1 : Appends d d1 found first) where
      h1 : Adds 1 d d1 found own (common_of d left right) spare
      h1 = tested false d d1 found own own (λ tables. paired op (worth_of d left tables) (worth_of d right tables)) (common_of d left right) refl found_is (adds_one d d1 first found g1 draft found_next refl)

      pub others_room : CanAdd 2 d → CanAdd 1 d1
      others_room room = record { draft = g1.draft; room = let h = appended_length d d1 first found g1 in let few = room.room in omega (arith, h, few) }

      left_d1 : IsNode d1 left
      left_d1 = stays_node 1 d d1 found _ _ _ h1 left l

      left_kinds : kinds_of d1 left ≡ kinds_of d left
      left_kinds = kinds_stay 1 d d1 found _ _ _ h1 left l

      rest_is : (tables : List Rows) → minus (worth_of d1 left tables) (worth_of d1 found tables) ≡ rest_of d left right tables
      rest_is tables = ap₂ minus (worth_stays 1 d d1 found _ _ _ h1 left l tables) (h1.worth tables)

      -- in a longer draft in which both nodes that the difference reads are sound
      parted_in : (more : List Part) → table_count more ≡ 0 → AreEarlier (d.parts.items ++ more) → slice_get (d.parts.items ++ more) found ≡ Some first → (tables : List Rows) → IsGood (d.parts.items ++ more) tables →
          is_sound (d.parts.items ++ more) tables left ≡ true → is_sound (d.parts.items ++ more) tables found ≡ true → IsParted tables
      parted_in more none order at tables good sl sf =
          let c = d.parts.items ++ more in
          let front = front_earlier d.parts.items more order in
          let parts = and_parts (not (has_fault c tables found)) (is_sound c tables left && is_sound c tables right) (sym (sound_at c order tables found first at) ∙ sf) in
          let both = and_parts (is_sound c tables left) (is_sound c tables right) parts.1 in
          parted tables (good_before d.parts.items more none tables good)
          (sym (sound_more d.parts.items more tables front left l.there) ∙ sl)
          (sym (sound_more d.parts.items more tables front right r.there) ∙ both.1)

      module _ (kinds : List Kind) (within : AreWithin (kinds_of d left) kinds) (place : Bool) where
        abbrev second : Part
        second = record { node = Minus left found; kinds = kinds; place = place; owner = Some d1.view }

        pub others_next : IsNext d1 second
        others_next = minus_next d1 kinds place left found left_d1 h1.low
            (subst (λ ks. AreWithin ks kinds) (sym left_kinds) within) (subst (λ ks. AreWithin ks kinds) (sym (h1.kinds_are ∙ own_is)) within)
            (λ tables good sound _.
            let both = and_parts (is_sound d1.parts.items tables left) (is_sound d1.parts.items tables found) sound in
            subst IsNonNegative (sym (rest_is tables))
            (parted_in h1.more h1.no_tables (subst AreEarlier h1.is (draft_earlier d1 g1.draft)) (subst (λ c. slice_get c found ≡ Some first) h1.is (appended_part d d1 first found g1)) tables
            (subst (λ c. IsGood c tables) h1.is good) (subst (λ c. is_sound c tables left ≡ true) h1.is both.0) (subst (λ c. is_sound c tables found ≡ true) h1.is both.1)).others.0)

        module _ (e : Draft) (i : ℕ) (g2 : Appends d1 e i second) where
          -- the first part stays where it is
          first_in : slice_get e.parts.items found ≡ Some first
          first_in = ap (λ c. slice_get c found) g2.is ∙ got_front d1.parts.items (second ∷ []) found h1.low.there ∙ appended_part d d1 first found g1

          all_is : e.parts.items ≡ d.parts.items ++ (h1.more ++ second ∷ [])
          all_is = g2.is ∙ ap (λ c. c ++ second ∷ []) h1.is ∙ append_assoc d.parts.items h1.more (second ∷ [])

          worth_is : (tables : List Rows) → worth_of e i tables ≡ rest_of d left right tables
          worth_is tables = appended_worth d1 e second i g2 g1.draft others_next tables ∙ rest_is tables

          others_list : HasList e.parts.items i
          others_list loose tables s =
              let parts = and_parts (not (has_fault e.parts.items tables i)) (is_sound e.parts.items tables left && is_sound e.parts.items tables found)
              (sym (sound_at e.parts.items (draft_earlier e g2.draft) tables i second (appended_part d1 e second i g2)) ∙ s.sound) in
              let both = and_parts (is_sound e.parts.items tables left) (is_sound e.parts.items tables found) parts.1 in
              let all = parted_in (h1.more ++ second ∷ []) (no_tables_in h1.more (second ∷ []) h1.no_tables refl) (subst AreEarlier all_is (draft_earlier e g2.draft)) (subst (λ c. slice_get c found ≡ Some first) all_is first_in) tables
              (subst (λ c. IsGood c tables) all_is s.good) (subst (λ c. is_sound c tables left ≡ true) all_is both.0) (subst (λ c. is_sound c tables found ≡ true) all_is both.1) in
              subst IsListed (sym (worth_is tables)) (record { above = all.others.0; few = few_others tables all })

          pub rest_adds : Adds 2 d e i kinds (rest_of d left right) (λ tables. place && lists_too_many (rest_of d left right tables))
          rest_adds =
              adds_seq 1 1 d d1 e found i own kinds kinds _ (rest_of d left right) (rest_of d left right) spare _ (λ tables. place && lists_too_many (rest_of d left right tables)) h1 refl (λ tables. refl) (λ tables. refl)
              (tested place d1 e i kinds kinds (λ tables. minus (worth_of d1 left tables) (worth_of d1 found tables)) (rest_of d left right) refl rest_is (adds_listed d1 e second i g2 g1.draft others_next others_list))
