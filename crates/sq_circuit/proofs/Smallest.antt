-- A table and a view of it are a circuit.
use Rattle.std.proofs.Common.{◌≡◌, ℕ, zero, suc, false, List, Some, None, refl, subst, arith}
use Rattle.std.specs.Prelude.{slice_get}
use Rattle.std.proofs.lemmas.Option.{same_Some}
use Rattle.sq_expr.specs.declared.expr.Kind.{Kind}
use Rattle.sq_circuit.specs.Invariant.{IsCircuit, IsPart, table_and_view}
use Rattle.sq_circuit.specs.Listed.{IsListedPart}
use Rattle.sq_circuit.specs.declared.circuit.Part.{Part}
use Rattle.sq_circuit.specs.declared.node.Node.TheVariants.{Table, View}
use Rattle.sq_circuit.proofs.Listing.{listed_circuit}

module _ (kinds : List Kind) where
  abbrev table : Part
  table = record { node = Table 0; kinds = kinds; place = false; owner = None }

  abbrev view : Part
  view = record { node = View 0 0; kinds = kinds; place = false; owner = Some 0 }

  -- what holds of both parts holds of each
  each : (P : ℕ → Part → Type 0) → P 0 table → P 1 view → (i : ℕ) (p : Part) → slice_get (table_and_view kinds) i ≡ Some p → P i p
  each P a b zero p e = subst (λ q. P 0 q) (same_Some table p e) a
  each P a b (suc zero) p e = subst (λ q. P 1 q) (same_Some view p e) b
  each P a b (suc (suc i)) p e = absurd (cc e)

  parts : (i : ℕ) (p : Part) → slice_get (table_and_view kinds) i ≡ Some p → IsPart (table_and_view kinds) i p
  parts = each (IsPart (table_and_view kinds))
      (record { left_earlier = tt; right_earlier = tt; in_order = (refl, omega arith); takes = tt; width = tt; owned = (refl, refl) })
      (record { left_earlier = omega arith; right_earlier = tt; in_order = (refl, omega arith); takes = tt; width = refl; owned = record { is_view = omega arith; left = λ w e. absurd (cc e); right = tt } })

  lists : (i : ℕ) (p : Part) → slice_get (table_and_view kinds) i ≡ Some p → IsListedPart (table_and_view kinds) i p
  lists = each (IsListedPart (table_and_view kinds)) (record { gives = tt; asks = tt; short = λ _ _. tt }) (record { gives = refl; asks = λ e. absurd (cc e); short = λ _ _. tt })

  pub table_and_view_is : IsCircuit (table_and_view kinds)
  table_and_view_is = listed_circuit (table_and_view kinds) (omega arith) parts lists
