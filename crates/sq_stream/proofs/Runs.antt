-- Laws of streams over an abelian group. Each is proved of a run of steps from any state.
use Rattle.std.proofs.Common.{◌≡◌, List, [], ◌∷◌, map, length, take, refl, sym, ap, ap₂, ◌∙◌}
use Rattle.std.specs.List.{zip}
use Rattle.std.proofs.lemmas.Simd.{map-map}
use Rattle.sq_algebra.specs.Groups.{AbelianGroup, IsAbelian, IsAdditive, minus, sum_over}
use Rattle.sq_algebra.proofs.GroupLemmas.{neutral_right, plus-minus_left, plus-minus_back, minus-plus, additive-zero, additive-minus}
use Rattle.sq_stream.specs.Steps.{run, integrator_step, differentiator_step, delay_step}
use Rattle.sq_stream.specs.Streams.{fronts, lifted, delayed, differences, integral, pointwise_sum, incremental}

run_delay : {A : Type 0} (state : A) (s : List A) → run delay_step state s ≡ take (length s) (state ∷ s)
run_delay state [] = refl
run_delay state (x ∷ xs) = ap (λ t. state ∷ t) (run_delay x xs)

module _ {A : Type 0} (G : AbelianGroup A) where
  -- a run of a delay, a differentiator and an integrator
  pub delay_is : (s : List A) → run delay_step G.zero s ≡ delayed G s
  delay_is s = run_delay G.zero s

  run_differentiator : (state : A) (s : List A) → run (differentiator_step G) state s ≡ map (λ p. minus G p.0 p.1) (zip s (take (length s) (state ∷ s)))
  run_differentiator state [] = refl
  run_differentiator state (x ∷ xs) = ap (λ t. minus G x state ∷ t) (run_differentiator x xs)

  pub differences_are : (s : List A) → run (differentiator_step G) G.zero s ≡ differences G s
  differences_are s = run_differentiator G.zero s

  module _ (laws : IsAbelian G) where
    run_integrator : (state : A) (s : List A) → run (integrator_step G) state s ≡ map (λ front. G.plus state (sum_over G (λ x. x) front)) (fronts s)
    run_integrator state [] = refl
    run_integrator state (x ∷ xs) =
        ap₂ (λ y t. y ∷ t) (ap (G.plus state) (sym (neutral_right G laws x)))
        (run_integrator (G.plus state x) xs
        ∙ (λ i. map (λ front. laws.associative state x (sum_over G (λ y. y) front) i) (fronts xs))
        ∙ sym (map-map (λ front. G.plus state (sum_over G (λ y. y) front)) (λ front. x ∷ front) (fronts xs)))

    pub integral_is : (s : List A) → run (integrator_step G) G.zero s ≡ integral G s
    integral_is s = run_integrator G.zero s ∙ (λ i. map (λ front. laws.neutral (sum_over G (λ x. x) front) i) (fronts s))

    -- integration and differentiation from the same state undo each other
    integrated_then : (state : A) (s : List A) → run (differentiator_step G) state (run (integrator_step G) state s) ≡ s
    integrated_then state [] = refl
    integrated_then state (x ∷ xs) = ap₂ (λ y t. y ∷ t) (plus-minus_left G laws state x) (integrated_then (G.plus state x) xs)

    differentiated_then : (state : A) (s : List A) → run (integrator_step G) state (run (differentiator_step G) state s) ≡ s
    differentiated_then state [] = refl
    differentiated_then state (x ∷ xs) =
        ap (λ y. y ∷ run (integrator_step G) y (run (differentiator_step G) x xs)) (plus-minus_back G laws state x)
        ∙ ap (λ t. x ∷ t) (differentiated_then x xs)

    pub differences-integral : (s : List A) → differences G (integral G s) ≡ s
    differences-integral s = sym (differences_are (integral G s)) ∙ ap (run (differentiator_step G) G.zero) (sym (integral_is s)) ∙ integrated_then G.zero s

    pub integral-differences : (s : List A) → integral G (differences G s) ≡ s
    integral-differences s = sym (integral_is (differences G s)) ∙ ap (run (integrator_step G) G.zero) (sym (differences_are s)) ∙ differentiated_then G.zero s

    -- the chain rule
    pub incremental-composition : (q p : List A → List A) (s : List A) → incremental G (λ t. q (p t)) s ≡ incremental G q (incremental G p s)
    incremental-composition q p s = ap (λ t. differences G (q t)) (sym (integral-differences (p (integral G s))))

    -- the sum rule
    run_sum : (a b : A) (s t : List A) → run (differentiator_step G) (G.plus a b) (pointwise_sum G s t) ≡ pointwise_sum G (run (differentiator_step G) a s) (run (differentiator_step G) b t)
    run_sum a b [] t = refl
    run_sum a b (x ∷ xs) [] = refl
    run_sum a b (x ∷ xs) (y ∷ ys) = ap₂ (λ z t. z ∷ t) (minus-plus G laws x y a b) (run_sum x y xs ys)

    pub differences-pointwise_sum : (s t : List A) → differences G (pointwise_sum G s t) ≡ pointwise_sum G (differences G s) (differences G t)
    differences-pointwise_sum s t =
        sym (differences_are (pointwise_sum G s t))
        ∙ ap (λ a. run (differentiator_step G) a (pointwise_sum G s t)) (sym (laws.neutral G.zero))
        ∙ run_sum G.zero G.zero s t
        ∙ ap₂ (pointwise_sum G) (differences_are s) (differences_are t)

    -- an additive function goes inside
    module _ (f : A → A) (additive : IsAdditive G G f) where
      run_lifted : (a : A) (s : List A) → run (differentiator_step G) (f a) (lifted f s) ≡ lifted f (run (differentiator_step G) a s)
      run_lifted a [] = refl
      run_lifted a (x ∷ xs) = ap₂ (λ y t. y ∷ t) (sym (additive-minus G G laws laws f additive x a)) (run_lifted x xs)

      pub incremental-lifted : (s : List A) → incremental G (lifted f) s ≡ lifted f s
      incremental-lifted s =
          sym (differences_are (lifted f (integral G s)))
          ∙ ap (λ a. run (differentiator_step G) a (lifted f (integral G s))) (sym (additive-zero G G laws laws f additive))
          ∙ run_lifted G.zero (integral G s)
          ∙ ap (lifted f) (differences_are (integral G s) ∙ differences-integral s)
