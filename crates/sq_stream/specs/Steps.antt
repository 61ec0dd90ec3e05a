-- One step of an integrator, of a differentiator and of a delay, each from its state and what comes to its answer and its
-- new state, and a run of steps.
use Rattle.std.specs.Prelude.{List, [], ◌∷◌}
use Rattle.sq_algebra.specs.Groups.{AbelianGroup, minus}

module _ {A : Type 0} where
  -- answers the state plus what comes, and keeps the answer
  abbrev pub integrator_step : AbelianGroup A → A → A → A × A
  integrator_step G state z = (G.plus state z, G.plus state z)

  -- answers what comes less the state, and keeps what comes
  abbrev pub differentiator_step : AbelianGroup A → A → A → A × A
  differentiator_step G state z = (minus G z state, z)

  -- answers the state, and keeps what comes
  abbrev pub delay_step : A → A → A × A
  delay_step state z = (state, z)

-- the answers of steps, one after the other, from a state
abbrev pub run : {S X Y : Type 0} → (S → X → Y × S) → S → List X → List Y
run step state [] = []
run step state (x ∷ xs) = (step state x).0 ∷ run step (step state x).1 xs
