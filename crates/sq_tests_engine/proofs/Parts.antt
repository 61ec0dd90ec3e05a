-- The circuit of the tests is a circuit.
use Rattle.std.proofs.Common.{◌≡◌, ℕ, zero, suc, List, [], ◌∷◌, Some, refl, subst, arith}
use Rattle.std.specs.Prelude.{slice_get, ⊤}
use Rattle.std.proofs.lemmas.Option.{same_Some}
use Rattle.sq_expr.specs.declared.expr.Kind.TheVariants.{Bigint}
use Rattle.sq_circuit.specs.Invariant.{IsCircuit, IsPart}
use Rattle.sq_circuit.specs.Listed.{IsListedPart}
use Rattle.sq_circuit.specs.declared.circuit.Part.{Part}
use Rattle.sq_circuit.proofs.Listing.{listed_circuit}
use Rattle.sq_tests_engine.specs.Totals.{totals_of_numbers}

-- what holds of each part of a list, by its number
abbrev EachPart : (ℕ → Part → Type 0) → List Part → Type 0
EachPart P [] = ⊤
EachPart P (p ∷ ps) = P 0 p × EachPart (λ i. P (suc i)) ps

each : (P : ℕ → Part → Type 0) (c : List Part) → EachPart P c → (i : ℕ) (p : Part) → slice_get c i ≡ Some p → P i p
each P [] h i p e = absurd (cc e)
each P (q ∷ c) h zero p e = subst (λ r. P 0 r) (same_Some q p e) h.0
each P (q ∷ c) h (suc i) p e = each (λ j. P (suc j)) c h.1 i p e

stands : EachPart (IsPart totals_of_numbers) totals_of_numbers
stands = (
  record { left_earlier = tt; right_earlier = tt; in_order = (refl, omega arith); takes = tt; width = tt; owned = (refl, refl) },
  (
    record {
      left_earlier = omega arith;
      right_earlier = tt;
      in_order = (omega arith, omega arith);
      takes = refl;
      width = refl;
      owned = record { is_view = omega arith; left = λ w e. absurd (cc e); right = tt };
    },
    (
      record {
        left_earlier = omega arith;
        right_earlier = tt;
        in_order = (refl, omega arith);
        takes = tt;
        width = refl;
        owned = record { is_view = omega arith; left = λ w e. let same : 0 ≡ w = same_Some 0 w e in omega arith; right = tt };
      },
      tt,
    ),
  ),
)

listed : EachPart (IsListedPart totals_of_numbers) totals_of_numbers
listed = (
  record { gives = tt; asks = tt; short = λ _ _. tt },
  (
    record {
      gives = record { keys = []; values = Bigint ∷ Bigint ∷ []; is = refl; of_keys = tt; of_values = (refl, (refl, tt)) };
      asks = λ e. absurd (cc e);
      short = λ _ _. tt;
    },
    (record { gives = refl; asks = λ e. absurd (cc e); short = λ _ _. tt }, tt),
  ),
)

pub totals_circuit : IsCircuit totals_of_numbers
totals_circuit = listed_circuit totals_of_numbers (omega arith) (each (IsPart totals_of_numbers) totals_of_numbers stands) (each (IsListedPart totals_of_numbers) totals_of_numbers listed)
