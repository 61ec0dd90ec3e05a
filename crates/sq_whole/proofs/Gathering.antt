-- The verdict and the values from what is known of all nodes.
use Rattle.std.proofs.Common.{◌≡◌, ℕ, zero, suc, ◌<◌, Bool, true, false, cond, List, [], ◌∷◌, ◌++◌, length, Some, None, refl, sym, ap, ap₂, ◌∙◌, arith}
use Rattle.std.specs.Prelude.{Option}
use Rattle.std.specs.List.{flat_map}
use Rattle.std.proofs.lemmas.Grind.{flat_map-append}
use Rattle.sq_ops.specs.Indexes.{given}
use Rattle.sq_circuit.specs.Along.{each_below, least_below, lesser}
use Rattle.sq_circuit.specs.Circuits.{is_sound, known, owner_at, verdict, whole}
use Rattle.sq_circuit.specs.Invariant.{IsCircuit}
use Rattle.sq_circuit.specs.Nodes.{Rows}
use Rattle.sq_circuit.specs.declared.circuit.Part.{Part}
use Rattle.sq_circuit.proofs.Alongside.{each_at}
use Rattle.sq_circuit.proofs.Owning.{sound_below, unsound_owner, verdict_unsound}
use Rattle.sq_whole.specs.Answers.{missing_owner, unless_known}

least_same : (f g : ℕ → Option ℕ) (n : ℕ) → ((i : ℕ) → i < n → f i ≡ g i) → least_below f n ≡ least_below g n
least_same f g zero same = refl
least_same f g (suc n) same = ap₂ lesser (least_same f g n (λ i low. same i (omega arith))) (same n (omega arith))

module _ (c : List Part) (circuit : IsCircuit c) (tables : List Rows) where
  missing : (i : ℕ) → i < length c → missing_owner c (each_below (known c tables) (length c)) i ≡ unsound_owner c circuit.parts tables i
  missing i low = ap (λ o. unless_known o (owner_at c i)) (each_at (known c tables) (length c) i low) ∙ step (is_sound c tables i)
    where
      step : (b : Bool) → unless_known (Some (cond b (Some (whole c tables i)) None)) (owner_at c i) ≡ cond b None (owner_at c i)
      step true = refl
      step false = refl

  -- the least owner of a node with no value is the verdict
  pub missing_verdict : (values : List (Option Rows)) → values ≡ each_below (known c tables) (length c) → least_below (missing_owner c values) (length c) ≡ verdict c tables
  missing_verdict values e =
      ap (λ vs. least_below (missing_owner c vs) (length c)) e
      ∙ least_same (missing_owner c (each_below (known c tables) (length c))) (unsound_owner c circuit.parts tables) (length c) missing
      ∙ sym (verdict_unsound c circuit.parts tables)

  given_values : (n : ℕ) → ((i : ℕ) → i < n → is_sound c tables i ≡ true) → flat_map given (each_below (known c tables) n) ≡ each_below (whole c tables) n
  given_values zero sound = refl
  given_values (suc n) sound =
      flat_map-append given (each_below (known c tables) n) (known c tables n ∷ [])
      ∙ ap₂ (λ zs o. zs ++ flat_map given (o ∷ [])) (given_values n (λ i low. sound i (omega arith))) (ap (λ b. cond b (Some (whole c tables n)) None) (sound n (omega arith)))

  -- with no verdict the values that are there are those of all nodes
  pub all_values : (values : List (Option Rows)) → values ≡ each_below (known c tables) (length c) → verdict c tables ≡ None → flat_map given values ≡ each_below (whole c tables) (length c)
  all_values values e clear = ap (flat_map given) e ∙ given_values (length c) (sound_below c circuit.parts tables clear)
