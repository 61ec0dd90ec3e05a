-- Parts that nodes are appended to.
use Rattle.std.proofs.Common.{◌≡◌, ℕ, ◌<◌, ◌≤◌, false, cond, List, [], ◌∷◌, ◌++◌, append_assoc, append-nil, length, refl, sym, ap, subst, ◌∙◌, arith, length-append}
use Rattle.std.specs.Prelude.{slice_get}
use Rattle.sq_circuit.specs.Begun.{IsGrown}
use Rattle.sq_circuit.specs.Circuits.{has_fault, is_sound, whole}
use Rattle.sq_circuit.specs.Invariant.{AreEarlier, IsGood, is_table, table_count}
use Rattle.sq_circuit.specs.Listed.{HasList}
use Rattle.sq_circuit.specs.Nodes.{Rows}
use Rattle.sq_circuit.specs.declared.circuit.Part.{Part}
use Rattle.sq_circuit.proofs.Alongside.{got_front}
use Rattle.sq_circuit.proofs.Appending.{count_more}
use Rattle.sq_circuit.proofs.Growing.{fault_more, sound_more, whole_more}
use Rattle.sq_circuit.proofs.Making.{good_before, list_more}

pub grown_same : (c : List Part) → IsGrown c c
grown_same c = record { more = []; is = sym (append-nil c); no_tables = refl }

pub grown_next : (c d : List Part) (p : Part) → IsGrown c d → is_table p.node ≡ false → IsGrown c (d ++ p ∷ [])
grown_next c d p g inner = record {
  more = g.more ++ p ∷ [];
  is = ap (λ l. l ++ p ∷ []) g.is ∙ append_assoc c g.more (p ∷ []);
  no_tables =
      let both = count_more (λ q. is_table q.node) g.more (p ∷ []) in
      let none = g.no_tables in
      let last : table_count (p ∷ []) ≡ 0 = ap (λ t. length (cond t (p ∷ []) [])) inner in
      omega arith;
}

pub grown_through : (c d e : List Part) → IsGrown c d → IsGrown d e → IsGrown c e
grown_through c d e g h = record {
  more = g.more ++ h.more;
  is = h.is ∙ ap (λ l. l ++ h.more) g.is ∙ append_assoc c g.more h.more;
  no_tables = let both = count_more (λ q. is_table q.node) g.more h.more in let none = g.no_tables in let last = h.no_tables in omega arith;
}

pub grown_length : (c d : List Part) → IsGrown c d → length c ≤ length d
grown_length c d g = let long = ap length g.is in let both = length-append c g.more in omega arith

module _ (c d : List Part) (g : IsGrown c d) where
  pub grown_part : (i : ℕ) → i < length c → slice_get d i ≡ slice_get c i
  grown_part i low = ap (λ l. slice_get l i) g.is ∙ got_front c g.more i low

  pub grown_value : (tables : List Rows) (i : ℕ) → i < length c → whole d tables i ≡ whole c tables i
  grown_value tables i low = ap (λ l. whole l tables i) g.is ∙ whole_more c g.more tables i low

  pub grown_good : (tables : List Rows) → IsGood d tables → IsGood c tables
  grown_good tables h = good_before c g.more g.no_tables tables (subst (λ l. IsGood l tables) g.is h)

  module _ (earlier : AreEarlier c) where
    pub grown_fault : (tables : List Rows) (i : ℕ) → i < length c → has_fault d tables i ≡ has_fault c tables i
    grown_fault tables i low = ap (λ l. has_fault l tables i) g.is ∙ fault_more c g.more tables earlier i low

    pub grown_sound : (tables : List Rows) (i : ℕ) → i < length c → is_sound d tables i ≡ is_sound c tables i
    grown_sound tables i low = ap (λ l. is_sound l tables i) g.is ∙ sound_more c g.more tables earlier i low

    pub grown_list : (i : ℕ) → i < length c → HasList c i → HasList d i
    grown_list i low h = subst (λ l. HasList l i) (sym g.is) (list_more c g.more earlier g.no_tables i low h)
