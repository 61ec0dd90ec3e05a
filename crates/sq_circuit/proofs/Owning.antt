-- Who is to blame: a node that is not sound has an owner, and needs a faulty node whose owner is not above it. So the verdict is also
-- the least owner of a node that is not sound.
use Rattle.std.proofs.Common.{◌≡◌, ℕ, zero, suc, ◌<◌, ◌≤◌, Bool, true, false, not, ◌&&◌, ◌||◌, cond, List, length, Some, None, refl, sym, ap, subst, ◌∙◌, get_or, arith}
use mathlib.Core.Logic.{◌⊎◌, inl, inr}
use Rattle.std.specs.Prelude.{Option, slice_get, if◌then◌else◌}
use Rattle.std.proofs.lemmas.Bool.{and_cases}
use Rattle.std.proofs.lemmas.Option.{same_Some, slice_get_cases, slice_get_within, slice_get-get_or}
use Rattle.sq_circuit.specs.Along.{least_below}
use Rattle.sq_circuit.specs.Circuits.{are_sound, has_fault, is_sound, lists_too_many, has_number_outside, owner_at, owner_in, verdict, whole, whole_from}
use Rattle.sq_circuit.specs.Invariant.{AreEarlier, IsEarlier, IsOwned, IsOwnedBelow, IsOwner, IsPart, view_count}
use Rattle.sq_circuit.specs.Nodes.{Rows, Source, Nowhere, Outer, Inner, left_source, right_source}
use Rattle.sq_circuit.specs.declared.circuit.Part.{Part}
use Rattle.sq_circuit.specs.declared.node.Node.{Node}
use Rattle.sq_circuit.specs.declared.node.Node.TheVariants.{Table, Linear, Join, Distinct, Aggregate, Plus, Minus, View}
use Rattle.sq_circuit.proofs.Alongside.{Below, least_agree, least_bound}
use Rattle.sq_circuit.proofs.Evaluating.{fault_at, sound_at, sound_is, source_sound}

-- a node is a table, which is no place and has no owner, or has one
pub record IsTableNode (node : Node) (place : Bool) (owner : Option ℕ) : Type 0 where
  pub table : ℕ
  pub is : node ≡ Table table
  pub no_place : place ≡ false
  pub no_owner : owner ≡ None

pub record HasOwner (views : ℕ) (c : List Part) (node : Node) (owner : Option ℕ) : Type 0 where
  pub view : ℕ
  pub is : owner ≡ Some view
  pub owns : IsOwner views c node view

pub owned : (views : ℕ) (c : List Part) (node : Node) (place : Bool) (owner : Option ℕ) → IsOwned views c node place owner → IsTableNode node place owner ⊎ HasOwner views c node owner
owned views c (Table t) place owner h = inl (record { table = t; is = refl; no_place = h.0; no_owner = h.1 })
owned views c (Linear i op) place None h = absurd h
owned views c (Linear i op) place (Some v) h = inr (record { view = v; is = refl; owns = h })
owned views c (Join l r op) place None h = absurd h
owned views c (Join l r op) place (Some v) h = inr (record { view = v; is = refl; owns = h })
owned views c (Distinct i) place None h = absurd h
owned views c (Distinct i) place (Some v) h = inr (record { view = v; is = refl; owns = h })
owned views c (Aggregate i spec) place None h = absurd h
owned views c (Aggregate i spec) place (Some v) h = inr (record { view = v; is = refl; owns = h })
owned views c (Plus l r) place None h = absurd h
owned views c (Plus l r) place (Some v) h = inr (record { view = v; is = refl; owns = h })
owned views c (Minus l r) place None h = absurd h
owned views c (Minus l r) place (Some v) h = inr (record { view = v; is = refl; owns = h })
owned views c (View i w) place None h = absurd h
owned views c (View i w) place (Some v) h = inr (record { view = v; is = refl; owns = h })

module _ (c : List Part) (parts : (i : ℕ) (p : Part) → slice_get c i ≡ Some p → IsPart c i p) where
  pub reads_earlier : AreEarlier c
  reads_earlier i p e = ((parts i p e).left_earlier, (parts i p e).right_earlier)

  pub part_owned : (i : ℕ) (p : Part) → slice_get c i ≡ Some p → IsTableNode p.node p.place p.owner ⊎ HasOwner (view_count c) c p.node p.owner
  part_owned i p e = owned (view_count c) c p.node p.place p.owner (parts i p e).owned

  -- an owner is a view
  pub owner_is_view : (i v : ℕ) → owner_at c i ≡ Some v → v < view_count c
  owner_is_view i v e = at (slice_get c i) refl
    where
      has : (p : Part) → slice_get c i ≡ Some p → IsTableNode p.node p.place p.owner ⊎ HasOwner (view_count c) c p.node p.owner → v < view_count c
      has p is (inl t) = absurd (let same = sym e ∙ ap owner_in is ∙ t.no_owner in cc)
      has p is (inr o) = subst (λ w. w < view_count c) (same_Some o.view v (sym o.is ∙ sym (ap owner_in is) ∙ e)) o.owns.is_view

      at : (o : Option Part) → slice_get c i ≡ o → v < view_count c
      at None is = absurd (cc (sym (ap owner_in is) ∙ e))
      at (Some p) is = has p is (part_owned i p is)

  module _ (tables : List Rows) where
    -- a table has no fault, and is sound
    pub table_fault : (i : ℕ) (p : Part) → slice_get c i ≡ Some p → IsTableNode p.node p.place p.owner → has_fault c tables i ≡ false
    table_fault i p e t =
        fault_at c reads_earlier tables i p e
        ∙ ap (λ b. (b && lists_too_many (whole c tables i)) || has_number_outside p.node (whole_from c tables (left_source p.node))) t.no_place
        ∙ ap (λ n. has_number_outside n (whole_from c tables (left_source n))) t.is

    pub table_sound : (i : ℕ) (p : Part) → slice_get c i ≡ Some p → IsTableNode p.node p.place p.owner → is_sound c tables i ≡ true
    table_sound i p e t =
        sound_at c reads_earlier tables i p e
        ∙ ap (λ b. not b && (source_sound c reads_earlier tables (left_source p.node) && source_sound c reads_earlier tables (right_source p.node))) (table_fault i p e t)
        ∙ ap (λ n. source_sound c reads_earlier tables (left_source n) && source_sound c reads_earlier tables (right_source n)) t.is

    -- a node with a fault whose owner is not above w
    pub record Blamed (w : ℕ) : Type 0 where
      pub node : ℕ
      pub low : node < length c
      pub fault : has_fault c tables node ≡ true
      pub view : ℕ
      pub owner : owner_at c node ≡ Some view
      pub not_above : view ≤ w

    not_sound : (i : ℕ) (p : Part) → slice_get c i ≡ Some p → is_sound c tables i ≡ false
        → (has_fault c tables i ≡ true) ⊎ ((source_sound c reads_earlier tables (left_source p.node) ≡ false) ⊎ (source_sound c reads_earlier tables (right_source p.node) ≡ false))
    not_sound i p e h = step (has_fault c tables i) refl
      where
        step : (b : Bool) → has_fault c tables i ≡ b → (has_fault c tables i ≡ true) ⊎ ((source_sound c reads_earlier tables (left_source p.node) ≡ false) ⊎ (source_sound c reads_earlier tables (right_source p.node) ≡ false))
        step true f = inl f
        step false f = inr (and_cases _ _ (sym (ap (λ b. not b && (source_sound c reads_earlier tables (left_source p.node) && source_sound c reads_earlier tables (right_source p.node))) f) ∙ sym (sound_at c reads_earlier tables i p e) ∙ h))

    weaker : (v w : ℕ) → v ≤ w → Blamed v → Blamed w
    weaker v w low b = record { node = b.node; low = b.low; fault = b.fault; view = b.view; owner = b.owner; not_above = let l = b.not_above in omega arith }

    -- a node that is not sound, with its owner
    pub record IsUnsound (i w : ℕ) : Type 0 where
      pub low : i < length c
      pub broken : is_sound c tables i ≡ false
      pub owner : owner_at c i ≡ Some w

    part_at : (i : ℕ) (w : ℕ) → owner_at c i ≡ Some w → (p : Part) × (slice_get c i ≡ Some p)
    part_at i w e = step (slice_get c i) refl
      where
        step : (o : Option Part) → slice_get c i ≡ o → (p : Part) × (slice_get c i ≡ Some p)
        step None is = absurd (cc (sym (ap owner_in is) ∙ e))
        step (Some p) is = (p, is)

    -- an inner node that is not sound has an owner not above that of its reader
    unsound_source : (d : Part) (s : Source) (i v : ℕ) → i < length c → IsEarlier i s → IsOwnedBelow c v s → source_sound c reads_earlier tables s ≡ false
        → ((j : ℕ) (w : ℕ) → j < i → IsUnsound j w → Blamed w) → Blamed v
    unsound_source d Nowhere i v long low owners h rest = absurd (cc h)
    unsound_source d (Outer t) i v long low owners h rest = absurd (cc h)
    unsound_source d (Inner j) i v long low owners h rest = has (get_or c j d) (slice_get-get_or c j d short) (part_owned j (get_or c j d) (slice_get-get_or c j d short))
      where
        short : j < length c
        short = omega arith

        has : (q : Part) → slice_get c j ≡ Some q → IsTableNode q.node q.place q.owner ⊎ HasOwner (view_count c) c q.node q.owner → Blamed v
        has q e (inl t) = absurd (let sound = sym h ∙ table_sound j q e t in cc)
        has q e (inr o) = weaker o.view v (owners o.view (ap owner_in e ∙ o.is)) (rest j o.view low (record { low = short; broken = h; owner = ap owner_in e ∙ o.is }))

    blame_step : (i w : ℕ) → IsUnsound i w → ((j v : ℕ) → j < i → IsUnsound j v → Blamed v) → Blamed w
    blame_step i w u earlier = at (part_at i w u.owner)
      where
        -- the owner of a node with an owner
        owns : (p : Part) → slice_get c i ≡ Some p → IsTableNode p.node p.place p.owner ⊎ HasOwner (view_count c) c p.node p.owner → IsOwner (view_count c) c p.node w
        owns p e (inl t) = absurd (let same = sym u.owner ∙ ap owner_in e ∙ t.no_owner in cc)
        owns p e (inr o) = subst (λ v. IsOwner (view_count c) c p.node v) (same_Some o.view w (sym o.is ∙ sym (ap owner_in e) ∙ u.owner)) o.owns

        step : (p : Part) → slice_get c i ≡ Some p → IsOwner (view_count c) c p.node w
            → (has_fault c tables i ≡ true) ⊎ ((source_sound c reads_earlier tables (left_source p.node) ≡ false) ⊎ (source_sound c reads_earlier tables (right_source p.node) ≡ false)) → Blamed w
        step p e o (inl fault) = record { node = i; low = u.low; fault = fault; view = w; owner = u.owner; not_above = omega arith }
        step p e o (inr (inl left)) = unsound_source p (left_source p.node) i w u.low (parts i p e).left_earlier o.left left earlier
        step p e o (inr (inr right)) = unsound_source p (right_source p.node) i w u.low (parts i p e).right_earlier o.right right earlier

        at : (p : Part) × (slice_get c i ≡ Some p) → Blamed w
        at found = step found.0 found.1 (owns found.0 found.1 (part_owned i found.0 found.1)) (not_sound i found.0 found.1 u.broken)

    blamed_below : (n i w : ℕ) → i < n → IsUnsound i w → Blamed w
    blamed_below zero i w low u = absurd (omega arith)
    blamed_below (suc n) i w low u = blame_step i w u (λ j v less other. blamed_below n j v (omega arith) other)

    -- a node that is not sound needs a node with a fault, itself or another, whose owner is not above its own
    pub unsound_blamed : (i w : ℕ) → IsUnsound i w → Blamed w
    unsound_blamed i w u = blamed_below (suc i) i w (omega arith) u

    -- the owner of a node that is not sound
    abbrev pub unsound_owner : ℕ → Option ℕ
    unsound_owner i = if is_sound c tables i then None else owner_at c i

    abbrev pub faulty_owner : ℕ → Option ℕ
    faulty_owner i = if has_fault c tables i then owner_at c i else None

    -- a fault makes a node unsound
    pub fault_unsound : (i : ℕ) → has_fault c tables i ≡ true → is_sound c tables i ≡ false
    fault_unsound i f = sound_is c reads_earlier tables i ∙ ap (λ b. not b && are_sound (slice_get c i) (source_sound c reads_earlier tables)) f

    given_owner : (b : Bool) (o : Option ℕ) (v : ℕ) → cond b o None ≡ Some v → (b ≡ true) × (o ≡ Some v)
    given_owner true o v e = (refl, e)
    given_owner false o v e = absurd (cc e)

    kept_owner : (b : Bool) (o : Option ℕ) (v : ℕ) → cond b None o ≡ Some v → (b ≡ false) × (o ≡ Some v)
    kept_owner true o v e = absurd (cc e)
    kept_owner false o v e = (refl, e)

    within : (i v : ℕ) → i < length c → faulty_owner i ≡ Some v → unsound_owner i ≡ Some v
    within i v low e =
        let both = given_owner (has_fault c tables i) (owner_at c i) v e in
        ap (λ b. cond b None (owner_at c i)) (fault_unsound i both.0) ∙ both.1

    reached : (i w : ℕ) → i < length c → unsound_owner i ≡ Some w → Below (least_below faulty_owner (length c)) w
    reached i w low e =
        let both = kept_owner (is_sound c tables i) (owner_at c i) w e in
        let blamed = unsound_blamed i w (record { low = low; broken = both.0; owner = both.1 }) in
        let least = least_bound faulty_owner (length c) blamed.node blamed.view blamed.low (ap (λ b. cond b (owner_at c blamed.node) None) blamed.fault ∙ blamed.owner) in
        record { number = least.number; is = least.is; low = let a = least.low in let b = blamed.not_above in omega arith }

    -- the verdict is the least owner of a node that is not sound
    pub verdict_unsound : verdict c tables ≡ least_below unsound_owner (length c)
    verdict_unsound = least_agree faulty_owner unsound_owner (length c) within reached

    -- with no verdict every node is sound
    pub all_sound : verdict c tables ≡ None → (i : ℕ) (p : Part) → slice_get c i ≡ Some p → is_sound c tables i ≡ true
    all_sound clear i p e = step (is_sound c tables i) refl (part_owned i p e)
      where
        step : (b : Bool) → is_sound c tables i ≡ b → IsTableNode p.node p.place p.owner ⊎ HasOwner (view_count c) c p.node p.owner → is_sound c tables i ≡ true
        step true s t = s
        step false s (inl t) = table_sound i p e t
        step false s (inr o) =
            let least = least_bound unsound_owner (length c) i o.view (slice_get_within c i p e) (ap (λ b. cond b None (owner_at c i)) s ∙ ap owner_in e ∙ o.is) in
            absurd (let same = sym clear ∙ verdict_unsound ∙ least.is in cc)

    pub sound_below : verdict c tables ≡ None → (i : ℕ) → i < length c → is_sound c tables i ≡ true
    sound_below clear i low = at (slice_get_cases c i).1
      where
        at : ((x : Part) × (i < length c) × (slice_get c i ≡ Some x) × (get_or c i x ≡ x)) ⊎ ((length c ≤ i) × (slice_get c i ≡ None)) → is_sound c tables i ≡ true
        at (inl found) = all_sound clear i found.0 found.2
        at (inr past) = absurd (let high = past.0 in omega arith)

    -- and no node has a fault
    pub no_fault : verdict c tables ≡ None → (i : ℕ) → i < length c → has_fault c tables i ≡ false
    no_fault clear i low = step (has_fault c tables i) refl
      where
        step : (b : Bool) → has_fault c tables i ≡ b → has_fault c tables i ≡ false
        step false f = f
        step true f = absurd (let same = sym (fault_unsound i f) ∙ sound_below clear i low in cc)
