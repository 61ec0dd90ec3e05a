-- Legal orders: their fronts, one more task, the first illegal task, and all tasks by node and then by shard.
use Rattle.std.proofs.Common.{◌≡◌, ℕ, zero, suc, ◌+◌, ◌*◌, ◌<◌, ◌≤◌, ◌==◌, Bool, true, false, not, ◌||◌, cond, List, [], ◌∷◌, ◌++◌, length, take, Some, None, refl, sym, ap, subst, ◌∙◌, arith, length-append}
use Rattle.std.specs.Prelude.{◌-◌, option_map, slice_get}
use Rattle.std.specs.List.{Contains, find, flat_map}
use Rattle.std.proofs.Math.Nat.{suc-mul}
use Rattle.std.proofs.Math.Seq.{take-append_seam}
use Rattle.std.proofs.lemmas.Bool.{and_from, and_parts, cases_lt, eq-eqb, eqb-true}
use Rattle.std.proofs.lemmas.Grind.{flat_map-append}
use Rattle.std.proofs.lemmas.List.{append-nil, length-map, take-append-le}
use Rattle.std.proofs.lemmas.Option.{get_or_from_slice_get, same_Some, slice_get-get_or, slice_get-map, slice_get_within}
use mathlib.Core.Logic.{◌⊎◌, inl, inr}
use Rattle.sq_algebra.specs.Keyed.{numbers_below}
use Rattle.sq_circuit.specs.Invariant.{AreEarlier}
use Rattle.sq_circuit.specs.declared.circuit.Part.{Part}
use Rattle.sq_circuit.proofs.Alongside.{got_front, got_next}
use Rattle.sq_incr.specs.Orders.{FirstIllegal, IsBefore, IsFirstMissing, IsLegal, IsWhole, MayStand, all_tasks, first_missing, is_in, is_same, task, tasks_of}
use Rattle.sq_incr.specs.declared.task.Task.{Task}
use Rattle.sq_incr.proofs.Playing.{needed_earlier, same_task}

-- ---- places of a list
module _ {A : Type 0} where
  pub got_taken : (xs : List A) (k i : ℕ) → i < k → slice_get (take k xs) i ≡ slice_get xs i
  got_taken xs zero i low = absurd (omega arith)
  got_taken [] (suc k) i low = refl
  got_taken (x ∷ xs) (suc k) zero low = refl
  got_taken (x ∷ xs) (suc k) (suc i) low = got_taken xs k i (omega arith)

  pub taken_twice : (xs : List A) (k i : ℕ) → i ≤ k → take i (take k xs) ≡ take i xs
  taken_twice xs k zero low = refl
  taken_twice xs zero (suc i) low = absurd (omega arith)
  taken_twice [] (suc k) (suc i) low = refl
  taken_twice (x ∷ xs) (suc k) (suc i) low = ap (λ ys. x ∷ ys) (taken_twice xs k i (omega arith))

  pub got_within : (xs : List A) (k i : ℕ) (x : A) → slice_get (take k xs) i ≡ Some x → i < k
  got_within xs zero i x e = absurd (cc e)
  got_within [] (suc k) i x e = absurd (cc e)
  got_within (y ∷ xs) (suc k) zero x e = omega arith
  got_within (y ∷ xs) (suc k) (suc i) x e = let rest = got_within xs k i x e in omega arith

  got_behind : (xs ys : List A) (i k : ℕ) → i ≡ length xs + k → slice_get (xs ++ ys) i ≡ slice_get ys k
  got_behind [] ys i k e = ap (slice_get ys) (omega arith)
  got_behind (x ∷ xs) ys zero k e = absurd (omega arith)
  got_behind (x ∷ xs) ys (suc i) k e = got_behind xs ys i k (omega arith)

  contained : (xs : List A) (i : ℕ) (x : A) → slice_get xs i ≡ Some x → Contains xs x
  contained xs i x e = (i, slice_get_within xs i x e, get_or_from_slice_get xs i x x e)

  place_of : (xs : List A) (x : A) → Contains xs x → (i : ℕ) × (slice_get xs i ≡ Some x)
  place_of xs x (i, low, e) = (i, slice_get-get_or xs i x low ∙ ap Some e)

  -- what is found passes, and nothing before it does
  pub record FoundAt (p : A → Bool) (xs : List A) (x : A) : Type 0 where
    pub place : ℕ
    pub is : slice_get xs place ≡ Some x
    pub passes : p x ≡ true
    pub before : (i : ℕ) (y : A) → i < place → slice_get xs i ≡ Some y → p y ≡ false

  found_at : (p : A → Bool) (xs : List A) (x : A) → find p xs ≡ Some x → FoundAt p xs x
  found_at p [] x e = absurd (cc e)
  found_at p (y ∷ xs) x e = step (p y) refl e (found_at p xs x)
    where
      step : (b : Bool) → p y ≡ b → cond b (Some y) (find p xs) ≡ Some x → (find p xs ≡ Some x → FoundAt p xs x) → FoundAt p (y ∷ xs) x
      step true passes is rest = record { place = 0; is = is; passes = ap p (sym (same_Some y x is)) ∙ passes; before = λ i z low at. absurd (omega arith) }
      step false fails is rest =
          let later = rest is in
          record { place = suc later.place; is = later.is; passes = later.passes; before = earlier later }
        where
          earlier : (later : FoundAt p xs x) → (i : ℕ) (z : A) → i < suc later.place → slice_get (y ∷ xs) i ≡ Some z → p z ≡ false
          earlier later zero z low at = ap p (sym (same_Some y z at)) ∙ fails
          earlier later (suc i) z low at = later.before i z (omega arith) at

  none_found : (p : A → Bool) (xs : List A) → find p xs ≡ None → (i : ℕ) (x : A) → slice_get xs i ≡ Some x → p x ≡ false
  none_found p [] e i x at = absurd (cc at)
  none_found p (y ∷ xs) e i x at = step (p y) refl e i at (none_found p xs)
    where
      step : (b : Bool) → p y ≡ b → cond b (Some y) (find p xs) ≡ None → (i : ℕ) → slice_get (y ∷ xs) i ≡ Some x → (find p xs ≡ None → (i : ℕ) (x : A) → slice_get xs i ≡ Some x → p x ≡ false) → p x ≡ false
      step true passes is i at rest = absurd (cc is)
      step false fails is zero at rest = ap p (sym (same_Some y x at)) ∙ fails
      step false fails is (suc i) at rest = rest is i x at

  find_none : (p : A → Bool) (xs : List A) → ((i : ℕ) (x : A) → slice_get xs i ≡ Some x → p x ≡ false) → find p xs ≡ None
  find_none p [] h = refl
  find_none p (y ∷ xs) h = ap (λ b. cond b (Some y) (find p xs)) (h 0 y refl) ∙ find_none p xs (λ i x at. h (suc i) x at)

-- ---- one more task, and fronts
module _ (c : List Part) (n : ℕ) where
  pub longer_legal : (order : List Task) (t : Task) → IsLegal c n order → MayStand c n order t → IsLegal c n (order ++ t ∷ [])
  longer_legal order t legal stands i u at = step (cases_lt i (length order))
    where
      long : length (order ++ t ∷ []) ≡ length order + 1
      long = length-append order (t ∷ [])

      last : i ≡ length order → MayStand c n (take i (order ++ t ∷ [])) u
      last e = subst (λ v. MayStand c n (take i (order ++ t ∷ [])) v) (same_Some t u (sym (got_next order t i e) ∙ at))
          (subst (λ ts. MayStand c n ts t) (sym (ap (λ k. take k (order ++ t ∷ [])) e ∙ take-append_seam order (t ∷ []))) stands)

      step : (i < length order) ⊎ (length order ≤ i) → MayStand c n (take i (order ++ t ∷ [])) u
      step (inl low) = subst (λ ts. MayStand c n ts u) (sym (take-append-le i order (t ∷ []) (omega arith))) (legal i u (sym (got_front order (t ∷ []) i low) ∙ at))
      step (inr high) = let within = slice_get_within (order ++ t ∷ []) i u at in last (omega (arith, long))

  pub front_legal : (order : List Task) → IsLegal c n order → (k : ℕ) → IsLegal c n (take k order)
  front_legal order legal k i t at =
      let low = got_within order k i t at in
      subst (λ ts. MayStand c n ts t) (sym (taken_twice order k i (omega arith))) (legal i t (sym (got_taken order k i low) ∙ at))

  -- ---- the first illegal task
  pub illegal_is_not_legal : (order : List Task) (i : ℕ) → FirstIllegal c n order i → IsLegal c n order → ⊥
  illegal_is_not_legal order i first legal = first.illegal (legal i first.wrong first.is)

  not_later : (order : List Task) (i k : ℕ) → FirstIllegal c n order i → FirstIllegal c n order k → i < k → ⊥
  not_later order i k one other low = one.illegal
      (subst (λ ts. MayStand c n ts one.wrong) (taken_twice order k i (omega arith)) (other.front i one.wrong (got_taken order k i low ∙ one.is)))

  pub one_first : (order : List Task) (i k : ℕ) → FirstIllegal c n order i → FirstIllegal c n order k → i ≡ k
  one_first order i k one other = step (cases_lt i k) (cases_lt k i)
    where
      step : (i < k) ⊎ (k ≤ i) → (k < i) ⊎ (i ≤ k) → i ≡ k
      step (inl low) more = absurd (not_later order i k one other low)
      step (inr high) (inl low) = absurd (not_later order k i other one low)
      step (inr high) (inr low) = omega arith

-- ---- a task among others
same_is : (t u : Task) → is_same t u ≡ true → t ≡ u
same_is t u e = let both = and_parts (t.node == u.node) (t.shard == u.shard) e in same_task t u (eqb-true t.node u.node both.0) (eqb-true t.shard u.shard both.1)

same_itself : (t : Task) → is_same t t ≡ true
same_itself t = and_from (t.node == t.node) (t.shard == t.shard) (eq-eqb t.node t.node refl) (eq-eqb t.shard t.shard refl)

in_from : (t : Task) (xs : List Task) (i : ℕ) → slice_get xs i ≡ Some t → is_in xs t ≡ true
in_from t [] i e = absurd (cc e)
in_from t (x ∷ xs) zero e = ap (λ b. b || is_in xs t) (ap (is_same t) (same_Some x t e) ∙ same_itself t)
in_from t (x ∷ xs) (suc i) e = ap (λ b. is_same t x || b) (in_from t xs i e) ∙ or_true (is_same t x)
  where
    or_true : (b : Bool) → (b || true) ≡ true
    or_true true = refl
    or_true false = refl

in_to : (t : Task) (xs : List Task) → is_in xs t ≡ true → (i : ℕ) × (slice_get xs i ≡ Some t)
in_to t [] e = absurd (cc e)
in_to t (x ∷ xs) e = step (is_same t x) refl e (in_to t xs)
  where
    step : (b : Bool) → is_same t x ≡ b → (b || is_in xs t) ≡ true → (is_in xs t ≡ true → (i : ℕ) × (slice_get xs i ≡ Some t)) → (i : ℕ) × (slice_get (x ∷ xs) i ≡ Some t)
    step true here is rest = (0, ap Some (sym (same_is t x here)))
    step false apart is rest = let later = rest is in (suc later.0, later.1)

pub contains_in : (xs : List Task) (t : Task) → Contains xs t → is_in xs t ≡ true
contains_in xs t there = let at = place_of xs t there in in_from t xs at.0 at.1

pub in_contains : (xs : List Task) (t : Task) → is_in xs t ≡ true → Contains xs t
in_contains xs t e = let at = in_to t xs e in contained xs at.0 t at.1

-- ---- all tasks, by node and then by shard
pub length-numbers : (n : ℕ) → length (numbers_below n) ≡ n
length-numbers zero = refl
length-numbers (suc n) = let both = length-append (numbers_below n) (n ∷ []) in let rest = length-numbers n in omega arith

pub got_number : (n s : ℕ) → s < n → slice_get (numbers_below n) s ≡ Some s
got_number zero s low = absurd (omega arith)
got_number (suc n) s low = step (got_number n s) (cases_lt s n)
  where
    step : (s < n → slice_get (numbers_below n) s ≡ Some s) → (s < n) ⊎ (n ≤ s) → slice_get (numbers_below n ++ n ∷ []) s ≡ Some s
    step rest (inl less) = let long = length-numbers n in got_front (numbers_below n) (n ∷ []) s (omega arith) ∙ rest less
    step rest (inr high) = let long = length-numbers n in let last : n ≡ s = omega arith in got_next (numbers_below n) n s (omega arith) ∙ ap Some last

abbrev tasks_below : ℕ → ℕ → List Task
tasks_below m n = flat_map (tasks_of n) (numbers_below m)

module _ (n : ℕ) where
  one_more_node : (m : ℕ) → tasks_below (suc m) n ≡ tasks_below m n ++ tasks_of n m
  one_more_node m = flat_map-append (tasks_of n) (numbers_below m) (m ∷ []) ∙ ap (λ ts. tasks_below m n ++ ts) (append-nil (tasks_of n m))

  length-tasks_of : (i : ℕ) → length (tasks_of n i) ≡ n
  length-tasks_of i = length-map (numbers_below n) (task i) ∙ length-numbers n

  length-tasks : (m : ℕ) → length (tasks_below m n) ≡ m * n
  length-tasks zero = omega arith
  length-tasks (suc m) =
      let more = ap (λ (ts : List Task). length ts) (one_more_node m) in
      let both = length-append (tasks_below m n) (tasks_of n m) in
      let rest = length-tasks m in
      let own = length-tasks_of m in
      let product = suc-mul m n in
      omega (arith, more, both, rest, own, product)

  got_own : (i s : ℕ) → s < n → slice_get (tasks_of n i) s ≡ Some (task i s)
  got_own i s low = slice_get-map (task i) (numbers_below n) s ∙ ap (option_map (task i)) (got_number n s low)

  below_product : (m i s : ℕ) → i < m → s < n → i * n + s < m * n
  below_product zero i s low inside = absurd (omega arith)
  below_product (suc m) i s low inside = step (below_product m i s) (cases_lt i m)
    where
      product : suc m * n ≡ m * n + n
      product = suc-mul m n

      step : (i < m → s < n → i * n + s < m * n) → (i < m) ⊎ (m ≤ i) → i * n + s < suc m * n
      step rest (inl less) = let low = rest less inside in omega (arith, product, low)
      step rest (inr high) =
          let last : m ≡ i = omega arith in
          let same : m * n ≡ i * n = ap (λ k. k * n) last in
          omega (arith, product, same, inside)

  -- the task of a node in a shard has its place among all
  pub task_at : (m i s : ℕ) → i < m → s < n → slice_get (tasks_below m n) (i * n + s) ≡ Some (task i s)
  task_at zero i s low inside = absurd (omega arith)
  task_at (suc m) i s low inside = ap (λ ts. slice_get ts (i * n + s)) (one_more_node m) ∙ step (task_at m i s) (cases_lt i m)
    where
      long : length (tasks_below m n) ≡ m * n
      long = length-tasks m

      step : (i < m → s < n → slice_get (tasks_below m n) (i * n + s) ≡ Some (task i s)) → (i < m) ⊎ (m ≤ i) → slice_get (tasks_below m n ++ tasks_of n m) (i * n + s) ≡ Some (task i s)
      step rest (inl less) = let within = below_product m i s less inside in got_front (tasks_below m n) (tasks_of n m) (i * n + s) (omega (arith, long, within)) ∙ rest less inside
      step rest (inr high) =
          let last : m ≡ i = omega arith in
          let same : m * n ≡ i * n = ap (λ k. k * n) last in
          got_behind (tasks_below m n) (tasks_of n m) (i * n + s) s (omega (arith, long, same)) ∙ got_own m s inside ∙ ap (λ k. Some (task k s)) last

  pub record Placed (m k : ℕ) (t : Task) : Type 0 where
    pub low : t.node < m
    pub inside : t.shard < n
    pub place : k ≡ t.node * n + t.shard

  -- and what has a place among all is the task of a node in a shard
  pub placed : (m k : ℕ) (t : Task) → slice_get (tasks_below m n) k ≡ Some t → Placed m k t
  placed zero k t e = absurd (cc e)
  placed (suc m) k t e = step (placed m k t) (cases_lt k (m * n))
    where
      here : slice_get (tasks_below m n ++ tasks_of n m) k ≡ Some t
      here = sym (ap (λ ts. slice_get ts k) (one_more_node m)) ∙ e

      long : length (tasks_below m n) ≡ m * n
      long = length-tasks m

      own : (r : ℕ) → k ≡ m * n + r → slice_get (tasks_of n m) r ≡ Some t → Placed (suc m) k t
      own r is at =
          let inside : r < n = subst (λ l. r < l) (length-tasks_of m) (slice_get_within (tasks_of n m) r t at) in
          let same : task m r ≡ t = same_Some (task m r) t (sym (got_own m r inside) ∙ at) in
          subst (λ u. Placed (suc m) k u) same (record { low = omega arith; inside = inside; place = is })

      step : (slice_get (tasks_below m n) k ≡ Some t → Placed m k t) → (k < m * n) ⊎ (m * n ≤ k) → Placed (suc m) k t
      step rest (inl low) =
          let before = rest (sym (got_front (tasks_below m n) (tasks_of n m) k (omega (arith, long, low))) ∙ here) in
          record { low = let l = before.low in omega arith; inside = before.inside; place = before.place }
      step rest (inr high) =
          let behind : k ≡ m * n + (k - m * n) = omega (arith, high) in
          own (k - m * n) behind (sym (got_behind (tasks_below m n) (tasks_of n m) k (k - m * n) (omega (arith, long, high))) ∙ here)

module _ (c : List Part) (n : ℕ) where
  pub all_whole : IsWhole c n (all_tasks c n)
  all_whole t inside = contained (all_tasks c n) (t.node * n + t.shard) t (task_at n (length c) t.node t.shard inside.low inside.inside)

  pub all_legal : AreEarlier c → IsLegal c n (all_tasks c n)
  all_legal earlier i t at = record {
    once = λ there.
        let found = place_of (take i (all_tasks c n)) t there in
        let low = got_within (all_tasks c n) i found.0 t found.1 in
        let again = (placed n (length c) found.0 t (sym (got_taken (all_tasks c n) i found.0 low) ∙ found.1)).place in
        let own = (placed n (length c) i t at).place in
        absurd (omega (arith, low, again, own));
    in_range = let own = placed n (length c) i t at in record { low = own.low; inside = own.inside };
    after = λ u need inside.
        let own = placed n (length c) i t at in
        let less : u.node < t.node = needed_earlier c earlier t u need in
        let within : u.node < length c = let low = own.low in omega arith in
        let before : u.node * n + u.shard < t.node * n = below_product n t.node u.node u.shard less inside in
        let low : u.node * n + u.shard < i = let place = own.place in omega (arith, before, place) in
        contained (take i (all_tasks c n)) (u.node * n + u.shard) u (got_taken (all_tasks c n) i (u.node * n + u.shard) low ∙ task_at n (length c) u.node u.shard within inside);
  }

  -- ---- the first task that is missing
  not_in : (b : Bool) → not b ≡ false → b ≡ true
  not_in true e = refl
  not_in false e = absurd (cc e)

  true_not : (b : Bool) → not b ≡ true → b ≡ true → ⊥
  true_not true e f = absurd (cc e)
  true_not false e f = absurd (cc f)

  pub whole_from_none : (order : List Task) → first_missing c n order ≡ None → IsWhole c n order
  whole_from_none order e t inside = in_contains order t (not_in (is_in order t)
      (none_found (λ u. not (is_in order u)) (all_tasks c n) e (t.node * n + t.shard) t (task_at n (length c) t.node t.shard inside.low inside.inside)))

  pub none_from_whole : (order : List Task) → IsWhole c n order → first_missing c n order ≡ None
  none_from_whole order whole = find_none (λ u. not (is_in order u)) (all_tasks c n) (λ k t at.
      let own = placed n (length c) k t at in
      ap not (contains_in order t (whole t (record { low = own.low; inside = own.inside }))))

  pub first_missing_is : (order : List Task) (t : Task) → first_missing c n order ≡ Some t → IsFirstMissing c n order t
  first_missing_is order t e =
      let found = found_at (λ u. not (is_in order u)) (all_tasks c n) t e in
      let own = placed n (length c) found.place t found.is in
      record {
        in_range = record { low = own.low; inside = own.inside };
        missing = λ there. true_not (is_in order t) found.passes (contains_in order t there);
        before = λ u inside less.
            in_contains order u (not_in (is_in order u) (found.before (u.node * n + u.shard) u
            (subst (λ k. u.node * n + u.shard < k) (sym own.place) (comes_before u t inside.inside less))
            (task_at n (length c) u.node u.shard inside.low inside.inside)));
      }
    where
      comes_before : (u t : Task) → u.shard < n → IsBefore u t → u.node * n + u.shard < t.node * n + t.shard
      comes_before u t inside (inl less) = let low = below_product n t.node u.node u.shard less inside in omega (arith, low)
      comes_before u t inside (inr (same, less)) = let product : u.node * n ≡ t.node * n = ap (λ k. k * n) same in omega (arith, product, less)
