-- Tables in front of the nodes of a circuit that is drawn, and views behind them.
use Rattle.std.proofs.Common.{◌≡◌, ℕ, zero, suc, ◌<◌, ◌^◌, List, [], ◌∷◌, ◌++◌, length, Some, refl, sym, ap, subst, ◌∙◌, arith}
use Rattle.std.specs.Prelude.{slice_get}
use Rattle.std.proofs.lemmas.Option.{same_Some}
use Rattle.sq_circuit.specs.Begun.{IsBegun, IsTablePart, IsViewOf}
use Rattle.sq_circuit.specs.Invariant.{IsCircuit}
use Rattle.sq_circuit.specs.declared.circuit.Part.{Part}
use Rattle.sq_circuit.proofs.Ending.{ended_circuit}
use Rattle.sq_circuit.proofs.Making.{tables_begin}
use Rattle.sq_tests_ticks.specs.Making.{AreShown, IsShown, table_part, view_part}

-- ---- tables
three : (i : ℕ) (p : Part) → slice_get (table_part 0 ∷ table_part 1 ∷ table_part 2 ∷ []) i ≡ Some p → IsTablePart i p
three zero p e = subst (IsTablePart 0) (same_Some (table_part 0) p e) (record { node = refl; place = refl; owner = refl })
three (suc zero) p e = subst (IsTablePart 1) (same_Some (table_part 1) p e) (record { node = refl; place = refl; owner = refl })
three (suc (suc zero)) p e = subst (IsTablePart 2) (same_Some (table_part 2) p e) (record { node = refl; place = refl; owner = refl })
three (suc (suc (suc i))) p e = absurd (cc e)

pub three_begin : IsBegun 3 0 (table_part 0 ∷ table_part 1 ∷ table_part 2 ∷ [])
three_begin = tables_begin 3 0 (table_part 0 ∷ table_part 1 ∷ table_part 2 ∷ []) three

-- ---- views
of_view : (c : List Part) (v i : ℕ) → IsShown c v i → IsViewOf c v (view_part c v i)
of_view c v i h = record { input = i; node = refl; low = h.there; kinds = refl; place = refl; owner = refl; not_later = h.not_later }

module _ (c : List Part) (a b d : ℕ) (begun : IsBegun 3 2 c) (shown : AreShown c a b d) where
  abbrev views : List Part
  views = view_part c 0 a ∷ view_part c 1 b ∷ view_part c 2 d ∷ []

  each : (v : ℕ) (p : Part) → slice_get views v ≡ Some p → IsViewOf c v p
  each zero p e = subst (IsViewOf c 0) (same_Some (view_part c 0 a) p e) (of_view c 0 a shown.by_first)
  each (suc zero) p e = subst (IsViewOf c 1) (same_Some (view_part c 1 b) p e) (of_view c 1 b shown.by_second)
  each (suc (suc zero)) p e = subst (IsViewOf c 2) (same_Some (view_part c 2 d) p e) (of_view c 2 d shown.by_third)
  each (suc (suc (suc v))) p e = absurd (cc e)

  pub three_end : (x y z : Part) (all : List Part) → x ≡ view_part c 0 a → y ≡ view_part c 1 b → z ≡ view_part c 2 d → all ≡ c ++ x ∷ y ∷ z ∷ [] → length c < 2 ^ 20 → IsCircuit all
  three_end x y z all is_x is_y is_z is few =
      let joined : all ≡ c ++ views =
      is ∙ ap (λ p. c ++ p ∷ y ∷ z ∷ []) is_x ∙ ap (λ p. c ++ view_part c 0 a ∷ p ∷ z ∷ []) is_y ∙ ap (λ p. c ++ view_part c 0 a ∷ view_part c 1 b ∷ p ∷ []) is_z in
      subst IsCircuit (sym joined) (ended_circuit 3 2 c views (record { begun = begun; each = each; many = refl }) (omega (arith, few)))
