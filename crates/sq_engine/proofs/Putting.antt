-- Lists by place, and what was prepared of a list put in place from the last place on.
use Rattle.std.proofs.Common.{◌≡◌, ℕ, zero, suc, ◌+◌, ◌<◌, ◌≤◌, List, [], ◌∷◌, ◌++◌, get_or, length, length-append, Some, refl, sym, ap, subst, ◌∙◌, arith}
use Rattle.std.specs.Prelude.{slice_get, slice_set}
use Rattle.std.proofs.lemmas.Bool.{cases_lt}
use Rattle.std.proofs.lemmas.List.{length-set}
use Rattle.std.proofs.lemmas.Option.{same_Some, slice_get-get_or, slice_get_within}
use mathlib.Core.Logic.{◌⊎◌, inl, inr}
use Rattle.sq_circuit.proofs.Alongside.{got_front, got_next}
use Rattle.sq_states.specs.Committing.{CanCommit, state_after}
use Rattle.sq_states.specs.declared.kept.NodeState.{NodeState}
use Rattle.sq_states.specs.declared.ready.Ready.{Ready}
use Rattle.sq_incr.proofs.Noting.{there_is}
use Rattle.sq_engine.specs.Ticking.{ArePut, ArePutBy, CanPutAll, CanPutShard, EachAt, IsPut}

-- ---- by place
module _ {A : Type 0} (P : ℕ → A → Type 0) where
  pub none_each : (xs : List A) → xs ≡ [] → EachAt P xs 0
  none_each xs e = record { count = ap length e; each = λ i x at. absurd (cc (sym at ∙ ap (λ ys. slice_get ys i) e)) }

  pub more_each : (xs ys : List A) (n : ℕ) (x : A) → EachAt P xs n → P n x → ys ≡ xs ++ x ∷ [] → EachAt P ys (n + 1)
  more_each xs ys n x h p is = subst (λ zs. EachAt P zs (n + 1)) (sym is) (record { count = (let long = length-append xs (x ∷ []) in let many = h.count in omega (arith, long, many)); each = each })
    where
      step : (i : ℕ) (y : A) → slice_get (xs ++ x ∷ []) i ≡ Some y → (i < length xs) ⊎ (length xs ≤ i) → P i y
      step i y e (inl low) = h.each i y (sym (got_front xs (x ∷ []) i low) ∙ e)
      step i y e (inr high) =
          let within = slice_get_within (xs ++ x ∷ []) i y e in
          let long = length-append xs (x ∷ []) in
          let last : i ≡ length xs = omega (arith, within, long, high) in
          subst (λ k. P k y) (sym (last ∙ h.count)) (subst (P n) (same_Some x y (sym (got_next xs x i last) ∙ e)) p)

      each : (i : ℕ) (y : A) → slice_get (xs ++ x ∷ []) i ≡ Some y → P i y
      each i y e = step i y e (cases_lt i (length xs))

  pub each_as : (xs : List A) (m n : ℕ) → EachAt P xs m → m ≡ n → EachAt P xs n
  each_as xs m n h e = subst (EachAt P xs) e h

module _ {A : Type 0} where
  -- after a write, a place has what was written or what it had
  got_set : (xs : List A) (k i : ℕ) (x y : A) → slice_get (slice_set xs k x) i ≡ Some y → ((i ≡ k) × (y ≡ x)) ⊎ ((i ≡ k → ⊥) × (slice_get xs i ≡ Some y))
  got_set [] k i x y e = absurd (cc e)
  got_set (z ∷ xs) zero zero x y e = inl (refl, sym (same_Some x y e))
  got_set (z ∷ xs) zero (suc i) x y e = inr (λ same. (omega (arith, same)), e)
  got_set (z ∷ xs) (suc k) zero x y e = inr (λ same. (omega (arith, same)), e)
  got_set (z ∷ xs) (suc k) (suc i) x y e = later (got_set xs k i x y e)
    where
      later : ((i ≡ k) × (y ≡ x)) ⊎ ((i ≡ k → ⊥) × (slice_get xs i ≡ Some y)) → ((suc i ≡ suc k) × (y ≡ x)) ⊎ ((suc i ≡ suc k → ⊥) × (slice_get xs i ≡ Some y))
      later (inl both) = inl (ap suc both.0, both.1)
      later (inr both) = inr ((λ same. both.0 (omega (arith, same))), both.1)

  set_other : (xs : List A) (k i : ℕ) (x : A) → i < k → slice_get (slice_set xs k x) i ≡ slice_get xs i
  set_other [] k i x low = refl
  set_other (z ∷ xs) zero i x low = absurd (omega arith)
  set_other (z ∷ xs) (suc k) zero x low = refl
  set_other (z ∷ xs) (suc k) (suc i) x low = set_other xs k i x (omega arith)

  joined : (xs : List A) (x : A) (ys : List A) → (xs ++ x ∷ []) ++ ys ≡ xs ++ (x ∷ ys)
  joined [] x ys = refl
  joined (z ∷ xs) x ys = ap (λ zs. z ∷ zs) (joined xs x ys)

  got_middle : (xs : List A) (x : A) (ys : List A) → slice_get (xs ++ (x ∷ ys)) (length xs) ≡ Some x
  got_middle [] x ys = refl
  got_middle (z ∷ xs) x ys = got_middle xs x ys

-- ---- from the last place on
-- the last places are done, and the others as before
pub record Going {A R : Type 0} (Step : A → R → A → Type 0) (old : List A) (all left : List R) (now : List A) : Type 0 where
  pub rest : List R
  pub front : all ≡ left ++ rest
  pub count : length now ≡ length old
  pub same : (i : ℕ) → i < length left → slice_get now i ≡ slice_get old i
  pub done : (i : ℕ) (was : A) (one : R) (is : A) → length left ≤ i → slice_get old i ≡ Some was → slice_get all i ≡ Some one → slice_get now i ≡ Some is → Step was one is

module _ {A R : Type 0} (Step : A → R → A → Type 0) where
  behind_none : (xs : List R) → xs ≡ xs ++ []
  behind_none [] = refl
  behind_none (x ∷ xs) = ap (λ ys. x ∷ ys) (behind_none xs)

  pub going_start : (old : List A) (all : List R) → Going Step old all all old
  going_start old all = record {
    rest = [];
    front = behind_none all;
    count = refl;
    same = λ i low. refl;
    done = λ i was one is high a b d. absurd (let within = slice_get_within all i one b in omega (arith, within, high));
  }

  pub going_turn : (old : List A) (all left before : List R) (x : R) (now after : List A) (y : A) → Going Step old all left now → left ≡ before ++ x ∷ [] → ((was : A) → slice_get old (length before) ≡ Some was → Step was x y)
      → after ≡ slice_set now (length before) y → Going Step old all before after
  going_turn old all left before x now after y g popped steps set = record {
    rest = x ∷ g.rest;
    front = all_is;
    count = ap length set ∙ length-set now (length before) y ∙ g.count;
    same = λ i low. ap (λ xs. slice_get xs i) set ∙ set_other now (length before) i y low ∙ g.same i (let more = long in omega (arith, more, low));
    done = λ i was one is high a b d. step i was one is high a b (got_set now (length before) i y is (sym (ap (λ xs. slice_get xs i) set) ∙ d));
  }
    where
      long : length left ≡ length before + 1
      long = ap length popped ∙ length-append before (x ∷ [])

      all_is : all ≡ before ++ (x ∷ g.rest)
      all_is = g.front ∙ ap (λ xs. xs ++ g.rest) popped ∙ joined before x g.rest

      here : (i : ℕ) (one : R) → i ≡ length before → slice_get all i ≡ Some one → x ≡ one
      here i one e b = same_Some x one (sym (got_middle before x g.rest) ∙ sym (ap (λ xs. slice_get xs (length before)) all_is) ∙ sym (ap (λ k. slice_get all k) e) ∙ b)

      step : (i : ℕ) (was : A) (one : R) (is : A) → length before ≤ i → slice_get old i ≡ Some was → slice_get all i ≡ Some one → ((i ≡ length before) × (is ≡ y)) ⊎ ((i ≡ length before → ⊥) × (slice_get now i ≡ Some is)) → Step was one is
      step i was one is high a b (inl both) = subst (λ z. Step was one z) (sym both.1) (subst (λ o. Step was o y) (here i one both.0 b) (steps was (sym (ap (λ k. slice_get old k) both.0) ∙ a)))
      step i was one is high a b (inr both) =
          let more = long in
          let apart = λ (e : i ≡ length before). both.0 e in
          g.done i was one is (past i high both.0) a b both.1
        where
          past : (i : ℕ) → length before ≤ i → (i ≡ length before → ⊥) → length left ≤ i
          past i high apart = at (cases_lt (length before) i)
            where
              at : (length before < i) ⊎ (i ≤ length before) → length left ≤ i
              at (inl more) = let size = long in omega (arith, size, more)
              at (inr less) = absurd (apart (omega (arith, high, less)))

  pub going_end : (old : List A) (all left : List R) (now : List A) → Going Step old all left now → left ≡ [] → ArePutBy Step old all now
  going_end old all left now g none = record { count = g.count; each = λ i was one is a b d. g.done i was one is (let few = ap length none in omega (arith, few)) a b d }

  -- the last that is left
  pub last_left : (old : List A) (all left before : List R) (x : R) (now : List A) → Going Step old all left now → left ≡ before ++ x ∷ [] → slice_get all (length before) ≡ Some x
  last_left old all left before x now g popped = ap (λ xs. slice_get xs (length before)) (g.front ∙ ap (λ xs. xs ++ g.rest) popped ∙ joined before x g.rest) ∙ got_middle before x g.rest

  pub last_same : (old : List A) (all left before : List R) (x : R) (now : List A) → Going Step old all left now → left ≡ before ++ x ∷ [] → slice_get now (length before) ≡ slice_get old (length before)
  last_same old all left before x now g popped = g.same (length before) (let long = ap length popped in let both = length-append before (x ∷ []) in omega (arith, long, both))

-- ---- in one shard
module _ (old : List NodeState) (all left before : List Ready) (x : Ready) (now : List NodeState) (can : CanPutShard old all) (g : Going IsPut old all left now) (popped : left ≡ before ++ x ∷ []) where
  node_is : x.node ≡ length before
  node_is = (can.each (length before) x (last_left IsPut old all left before x now g popped)).node

  pub put_inside : x.node < length now
  put_inside =
      let within = slice_get_within all (length before) x (last_left IsPut old all left before x now g popped) in
      let place = node_is in
      let many = can.count in
      let same = g.count in
      omega (arith, within, place, many, same)

  pub put_can : (kept : NodeState) → slice_get now x.node ≡ Some kept → CanCommit kept x.traces
  put_can kept e = (can.each (length before) x (last_left IsPut old all left before x now g popped)).can kept (sym (last_same IsPut old all left before x now g popped) ∙ sym (ap (λ k. slice_get now k) node_is) ∙ e)

  pub put_turn : (after : List NodeState) → ((kept : NodeState) → slice_get now x.node ≡ Some kept → after ≡ slice_set now x.node (state_after kept x.traces)) → Going IsPut old all before after
  put_turn after set =
      let here = there_is now x.node put_inside in
      going_turn IsPut old all left before x now after (state_after here.0 x.traces) g popped
      (λ was e. ap (λ k. state_after k x.traces) (same_Some here.0 was (sym here.1 ∙ ap (λ k. slice_get now k) node_is ∙ last_same IsPut old all left before x now g popped ∙ e)))
      (set here.0 here.1 ∙ ap (λ k. slice_set now k (state_after here.0 x.traces)) node_is)

-- ---- in all shards
module _ (old : List (List NodeState)) (all left before : List (List Ready)) (x : List Ready) (now : List (List NodeState)) (can : CanPutAll old all) (g : Going ArePut old all left now) (popped : left ≡ before ++ x ∷ []) where
  pub shard_inside : length before < length now
  shard_inside =
      let within = slice_get_within all (length before) x (last_left ArePut old all left before x now g popped) in
      let many = can.count in
      let same = g.count in
      omega (arith, within, many, same)

  pub shard_can : (shard : List NodeState) → slice_get now (length before) ≡ Some shard → CanPutShard shard x
  shard_can shard e = can.each (length before) x (last_left ArePut old all left before x now g popped) shard (sym (last_same ArePut old all left before x now g popped) ∙ e)

  pub shard_turn : (shard put : List NodeState) (after : List (List NodeState)) → slice_get now (length before) ≡ Some shard → ArePut shard x put → after ≡ slice_set now (length before) put → Going ArePut old all before after
  shard_turn shard put after e done set =
      going_turn ArePut old all left before x now after put g popped
      (λ was at. subst (λ k. ArePut k x put) (same_Some shard was (sym e ∙ last_same ArePut old all left before x now g popped ∙ at)) done)
      set

-- a place by two names of its number
pub found : {A : Type 0} (xs : List A) (i k : ℕ) (x : A) → i ≡ k → k < length xs → x ≡ get_or xs i x → slice_get xs k ≡ Some x
found xs i k x same low is = subst (λ m. slice_get xs m ≡ Some x) same (slice_get-get_or xs i x (subst (λ m. m < length xs) (sym same) low) ∙ ap Some (sym is))
