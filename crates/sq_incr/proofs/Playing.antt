-- Tasks played in any legal order come to the same outcomes.
use Rattle.std.proofs.Common.{◌≡◌, ℕ, suc, ◌<◌, ◌==◌, Bool, true, false, ◌&&◌, cond, List, [], ◌∷◌, ◌++◌, take, Some, None, refl, sym, ap, ap₂, subst, ◌∙◌, arith}
use Rattle.std.specs.Prelude.{Option, slice_get}
use Rattle.std.specs.List.{Contains, fold}
use Rattle.std.proofs.lemmas.Bool.{and_from, eq-eqb, eqb-true}
use Rattle.std.proofs.lemmas.List.{append-nil, append_assoc}
use Rattle.std.proofs.lemmas.List.Elements.{Contains-append_left, Contains-push, Contains-push_cases}
use mathlib.Core.Logic.{◌⊎◌, inl, inr}
use Rattle.sq_circuit.specs.Along.{ReadsEarlier}
use Rattle.sq_circuit.specs.Invariant.{AreEarlier, IsEarlier}
use Rattle.sq_circuit.specs.Nodes.{Source, Nowhere, Outer, Inner, left_source, right_source}
use Rattle.sq_circuit.specs.declared.circuit.Part.{Part}
use Rattle.sq_circuit.proofs.Alongside.{along_is}
use Rattle.sq_incr.specs.Orders.{IsInput, IsLegal, IsNeeded, IsOfNode, MayStand, task}
use Rattle.sq_incr.specs.Play.{AnyOrderGives, HasPlayed, IsPlayable, OneMoreKeeps, StepOf, StoreOf, outcome_step, outcomes, play_one, played, put}
use Rattle.sq_incr.specs.declared.task.Task.{Task}

-- ---- equal tasks
pub same_task : (t u : Task) → t.node ≡ u.node → t.shard ≡ u.shard → t ≡ u
same_task t u e f d = record { node = e d; shard = f d }

-- ---- needed tasks stand before
of_earlier : (i j : ℕ) (s : Source) → IsEarlier i s → IsOfNode j s → j < i
of_earlier i j Nowhere low is = absurd is
of_earlier i j (Outer t) low is = absurd is
of_earlier i j (Inner k) low is = subst (λ m. m < i) is low

pub needed_earlier : (c : List Part) → AreEarlier c → (t u : Task) → IsNeeded c t u → u.node < t.node
needed_earlier c earlier t u need = at (slice_get c t.node) refl need
  where
    at : (o : Option Part) → slice_get c t.node ≡ o → IsInput o u.node → u.node < t.node
    at None e h = absurd h
    at (Some p) e (inl h) = of_earlier t.node u.node (left_source p.node) (earlier t.node p e).0 h
    at (Some p) e (inr h) = of_earlier t.node u.node (right_source p.node) (earlier t.node p e).1 h

-- ---- stores
module _ {O : Type 0} (store : StoreOf O) (t : Task) (o : O) where
  put_at : (u : Task) → t ≡ u → put store t o u.node u.shard ≡ o
  put_at u same = ap (λ b. cond b o (store u.node u.shard)) (and_from (u.node == t.node) (u.shard == t.shard) (eq-eqb u.node t.node (sym (ap (λ v. v.node) same))) (eq-eqb u.shard t.shard (sym (ap (λ v. v.shard) same))))

  put_elsewhere : (u : Task) → (t ≡ u → ⊥) → put store t o u.node u.shard ≡ store u.node u.shard
  put_elsewhere u apart = at (u.node == t.node) (u.shard == t.shard) refl refl
    where
      at : (a b : Bool) → (u.node == t.node) ≡ a → (u.shard == t.shard) ≡ b → put store t o u.node u.shard ≡ store u.node u.shard
      at false b e f = ap (λ a. cond (a && (u.shard == t.shard)) o (store u.node u.shard)) e
      at true false e f = ap₂ (λ a b. cond (a && b) o (store u.node u.shard)) e f
      at true true e f = absurd (apart (same_task t u (sym (eqb-true u.node t.node e)) (sym (eqb-true u.shard t.shard f))))

-- ---- one more task
pub nothing_played : {O : Type 0} (start : O) (step : StepOf O) → HasPlayed start step [] (λ i s. start)
nothing_played start step = record { done = λ t there. absurd (let low = there.1 in omega arith); rest = λ t none. refl }

module _ {O : Type 0} (c : List Part) (n : ℕ) (start : O) (step : StepOf O) (playable : IsPlayable c n step) where
  outcomes_read : ReadsEarlier (outcome_step step)
  outcomes_read i f g same = λ d s. playable.reads (task i s) f g (λ u need inside. ap (λ h. h u.shard) (same u.node (needed_earlier c playable.earlier (task i s) u need))) d

  pub outcome_is : (t : Task) → outcomes start step t.node t.shard ≡ step t (outcomes start step)
  outcome_is t = ap (λ h. h t.shard) (along_is (λ s. start) (outcome_step step) outcomes_read t.node)

  pub one_more : OneMoreKeeps c n start step
  one_more order t store has stands = record {
    done = λ u there. at u (Contains-push_cases order t u there);
    rest = λ u none.
        put_elsewhere store t (step t store) u (λ same. none (subst (Contains (order ++ t ∷ [])) same (Contains-push order t)))
        ∙ has.rest u (λ there. none (Contains-append_left order (t ∷ []) u there));
  }
    where
      at : (u : Task) → Contains order u ⊎ (t ≡ u) → play_one step store t u.node u.shard ≡ outcomes start step u.node u.shard
      at u (inl there) = put_elsewhere store t (step t store) u (λ same. stands.once (subst (Contains order) (sym same) there)) ∙ has.done u there
      at u (inr same) =
          put_at store t (step t store) u same
          ∙ playable.reads t store (outcomes start step) (λ v need inside. has.done v (stands.after v need inside))
          ∙ sym (outcome_is t)
          ∙ ap (λ v. outcomes start step v.node v.shard) same

  -- ---- all tasks of an order
  rest_legal : (front : List Task) (t : Task) (order : List Task) → ((at : ℕ) (u : Task) → slice_get (t ∷ order) at ≡ Some u → MayStand c n (front ++ take at (t ∷ order)) u)
      → (at : ℕ) (u : Task) → slice_get order at ≡ Some u → MayStand c n ((front ++ t ∷ []) ++ take at order) u
  rest_legal front t order legal at u is = subst (λ ts. MayStand c n ts u) (sym (append_assoc front (t ∷ []) (take at order))) (legal (suc at) u is)

  played_behind : (front order : List Task) (store : StoreOf O) → ((at : ℕ) (t : Task) → slice_get order at ≡ Some t → MayStand c n (front ++ take at order) t)
      → HasPlayed start step front store → HasPlayed start step (front ++ order) (fold (play_one step) store order)
  played_behind front [] store legal has = subst (λ ts. HasPlayed start step ts store) (sym (append-nil front)) has
  played_behind front (t ∷ order) store legal has =
      subst (λ ts. HasPlayed start step ts (fold (play_one step) (play_one step store t) order)) (append_assoc front (t ∷ []) order)
      (played_behind (front ++ t ∷ []) order (play_one step store t) (rest_legal front t order legal)
      (one_more front t store has (subst (λ ts. MayStand c n ts t) (append-nil front) (legal 0 t refl))))

  pub has_played : (order : List Task) → IsLegal c n order → HasPlayed start step order (played start step order)
  has_played order legal = played_behind [] order (λ i s. start) legal (nothing_played start step)

  pub whole_played : AnyOrderGives c n start step
  whole_played order legal whole t inside = (has_played order legal).done t (whole t inside)
