-- What is noted of tasks while an order is played: at the beginning, after one more, and of all tasks of a node.
use Rattle.std.proofs.Common.{◌≡◌, ℕ, zero, suc, ◌<◌, ◌==◌, ◌&&◌, ◌||◌, Bool, true, false, List, [], ◌∷◌, ◌++◌, get_or, length, map, replicate, take, ◌+◌, Some, refl, sym, ap, ap₂, subst, ◌∙◌, arith}
use Rattle.std.specs.Prelude.{slice_get, slice_set, ℤ}
use Rattle.std.specs.List.{list_all, list_any}
use Rattle.std.proofs.lemmas.Bool.{and_from, and_parts, eq-eqb, eqb-true}
use Rattle.std.proofs.lemmas.Option.{same_Some, slice_get-get_or, slice_get_within}
use Rattle.std.proofs.lemmas.List.{length-replicate, length-set}
use mathlib.Core.Logic.{◌⊎◌, inl, inr}
use Rattle.sq_expr.proofs.Lists.{take_more}
use Rattle.sq_algebra.specs.Keyed.{numbers_below}
use Rattle.sq_circuit.specs.Nodes.{Rows}
use Rattle.sq_circuit.specs.declared.circuit.Part.{Part}
use Rattle.sq_states.specs.declared.kept.NodeState.{NodeState}
use Rattle.sq_incr.specs.Orders.{is_in, is_same, task}
use Rattle.sq_incr.specs.Ready.{IsReady}
use Rattle.sq_incr.specs.Slots.{AreNoted, IsNoted, Tells, is_done}
use Rattle.sq_incr.specs.declared.store.Slot.{Slot}
use Rattle.sq_incr.specs.declared.store.Slot.TheVariants.{Open}
use Rattle.sq_incr.specs.declared.task.Task.{Task}
use Rattle.sq_incr.proofs.Sharing.{all_pass, at_each, each_below, pass_all}

same_truth : (a b : Bool) → (a ≡ true → b ≡ true) → (b ≡ true → a ≡ true) → a ≡ b
same_truth true b to from = sym (to refl)
same_truth false true to from = from refl
same_truth false false to from = refl

-- ---- lists
module _ {A : Type 0} where
  pub got_same : (n : ℕ) (x y : A) (i : ℕ) → slice_get (replicate n x) i ≡ Some y → y ≡ x
  got_same zero x y i e = absurd (cc e)
  got_same (suc n) x y zero e = sym (same_Some x y e)
  got_same (suc n) x y (suc i) e = got_same n x y i e

  -- after a write, a place has what was written or what it had
  got_set : (xs : List A) (k i : ℕ) (x y : A) → slice_get (slice_set xs k x) i ≡ Some y → ((i ≡ k) × (y ≡ x)) ⊎ ((i ≡ k → ⊥) × (slice_get xs i ≡ Some y))
  got_set [] k i x y e = absurd (cc e)
  got_set (z ∷ xs) zero zero x y e = inl (refl, sym (same_Some x y e))
  got_set (z ∷ xs) zero (suc i) x y e = inr (λ same. (omega (arith, same)), e)
  got_set (z ∷ xs) (suc k) zero x y e = inr (λ same. (omega (arith, same)), e)
  got_set (z ∷ xs) (suc k) (suc i) x y e = later (got_set xs k i x y e)
    where
      later : ((i ≡ k) × (y ≡ x)) ⊎ ((i ≡ k → ⊥) × (slice_get xs i ≡ Some y)) → ((suc i ≡ suc k) × (y ≡ x)) ⊎ ((suc i ≡ suc k → ⊥) × (slice_get xs i ≡ Some y))
      later (inl both) = inl (ap suc both.0, both.1)
      later (inr both) = inr ((λ same. both.0 (omega (arith, same))), both.1)

  one_more_in : (p : A → Bool) (xs : List A) (x : A) → list_any p (xs ++ x ∷ []) ≡ (list_any p xs || p x)
  one_more_in p [] x = ends (p x)
    where
      ends : (b : Bool) → (b || false) ≡ b
      ends true = refl
      ends false = refl
  one_more_in p (y ∷ xs) x = ap (λ b. p y || b) (one_more_in p xs x) ∙ joins (p y) (list_any p xs) (p x)
    where
      joins : (a b d : Bool) → (a || (b || d)) ≡ ((a || b) || d)
      joins true b d = refl
      joins false b d = refl

  all_places : (p : A → Bool) (xs : List A) → ((s : ℕ) (x : A) → slice_get xs s ≡ Some x → p x ≡ true) → list_all p xs ≡ true
  all_places p [] h = refl
  all_places p (x ∷ xs) h = and_from (p x) (list_all p xs) (h 0 x refl) (all_places p xs (λ s y e. h (suc s) y e))

  pub at_all_places : (p : A → Bool) (xs : List A) → list_all p xs ≡ true → (s : ℕ) (x : A) → slice_get xs s ≡ Some x → p x ≡ true
  at_all_places p [] all s x e = absurd (cc e)
  at_all_places p (y ∷ xs) all zero x e = subst (λ z. p z ≡ true) (same_Some y x e) (and_parts (p y) (list_all p xs) all).0
  at_all_places p (y ∷ xs) all (suc s) x e = at_all_places p xs (and_parts (p y) (list_all p xs) all).1 s x e

  pub there_is : (xs : List A) (s : ℕ) → s < length xs → (x : A) × (slice_get xs s ≡ Some x)
  there_is [] s low = absurd (omega arith)
  there_is (x ∷ xs) zero low = (x, refl)
  there_is (x ∷ xs) (suc s) low = there_is xs s (omega arith)

  -- a test of all members is one of all numbers, if it is place by place
  pub all_by_place : (p : A → Bool) (q : ℕ → Bool) (xs : List A) (n : ℕ) → length xs ≡ n → ((s : ℕ) (x : A) → slice_get xs s ≡ Some x → p x ≡ q s) → list_all p xs ≡ list_all q (numbers_below n)
  all_by_place p q xs n long same = same_truth (list_all p xs) (list_all q (numbers_below n))
      (λ all. pass_all q (numbers_below n) (each_below (λ s. q s ≡ true) n (λ s low.
      let here = there_is xs s (omega (arith, low, long)) in
      sym (same s here.0 here.1) ∙ at_all_places p xs all s here.0 here.1)))
      (λ all. all_places p xs (λ s x e. same s x e ∙ at_each (λ s. q s ≡ true) n (all_pass q (numbers_below n) all) s (let within = slice_get_within xs s x e in omega (arith, within, long))))

-- a place that is there has the same member whatever stands for others
pub there_is_same : {A : Type 0} (xs : List A) (i : ℕ) (d e : A) → i < length xs → get_or xs i d ≡ get_or xs i e
there_is_same [] i d e low = absurd (omega (arith, low))
there_is_same (x ∷ xs) zero d e low = refl
there_is_same (x ∷ xs) (suc i) d e low = there_is_same xs i d e (omega (arith, low))

pub got_at : {A : Type 0} (xs : List A) (i : ℕ) (x : A) → i < length xs → x ≡ get_or xs i x → slice_get xs i ≡ Some x
got_at xs i x low is = slice_get-get_or xs i x low ∙ ap Some (sym is)

mapped : {X Y : Type 0} (f : X → Y) (xs : List X) (x : X) → map f (xs ++ x ∷ []) ≡ map f xs ++ f x ∷ []
mapped f [] x = refl
mapped f (y ∷ xs) x = ap (λ zs. f y ∷ zs) (mapped f xs x)

-- one more member of what a function makes of a list
pub one_more_mapped : {X Y : Type 0} (f : X → Y) (xs : List X) (k : ℕ) (x : X) (y : Y) (items new : List Y) → slice_get xs k ≡ Some x → y ≡ f x → items ≡ map f (take k xs) → new ≡ items ++ y ∷ [] → new ≡ map f (take (k + 1) xs)
one_more_mapped f xs k x y items new at is before now =
    now
    ∙ ap₂ (λ ys z. ys ++ z ∷ []) before is
    ∙ sym (ap (map f) (take_more xs k x at) ∙ mapped f (take k xs) x)

same_refl : (t : Task) → is_same t t ≡ true
same_refl t = and_from (t.node == t.node) (t.shard == t.shard) (eq-eqb t.node t.node refl) (eq-eqb t.shard t.shard refl)

other_place : (a b d e : ℕ) → (a ≡ b → d ≡ e → ⊥) → ((a == b) && (d == e)) ≡ false
other_place a b d e h = at (a == b) (d == e) refl refl
  where
    at : (x y : Bool) → (a == b) ≡ x → (d == e) ≡ y → (x && y) ≡ false
    at true true p q = absurd (h (eqb-true a b p) (eqb-true d e q))
    at true false p q = refl
    at false y p q = refl

or_false : (b : Bool) → (b || false) ≡ b
or_false true = refl
or_false false = refl

or_true : (b : Bool) → (b || true) ≡ true
or_true true = refl
or_true false = refl

module _ {c : List Part} {states : List (List NodeState)} {totals : List ℤ} {changes : List Rows} {first : Bool} (r : IsReady c states totals changes first) where
  -- ---- at the beginning
  pub none_noted : AreNoted r [] (replicate (length c) (replicate (length states) Open))
  none_noted = record {
    count = length-replicate (length c) (replicate (length states) Open);
    wide = λ i line e. ap length (got_same (length c) (replicate (length states) Open) line i e) ∙ length-replicate (length states) Open;
    each = λ i s line slot e f.
        let fresh = got_same (length states) Open slot s (subst (λ l. slice_get l s ≡ Some slot) (got_same (length c) (replicate (length states) Open) line i e) f) in
        subst (IsNoted r [] i s) (sym fresh) (record { played = refl; tells = tt });
  }

  -- ---- one more
  module _ (front : List Task) (lines : List (List Slot)) (h : AreNoted r front lines) (t : Task) (line : List Slot) (at : slice_get lines t.node ≡ Some line) (slot : Slot) (done : is_done slot ≡ true) (tells : Tells r t.node t.shard slot) where
    this_noted : (i s : ℕ) → i ≡ t.node → s ≡ t.shard → (other : Slot) → other ≡ slot → IsNoted r (front ++ t ∷ []) i s other
    this_noted i s same_i same_s other same =
        subst (λ i. IsNoted r (front ++ t ∷ []) i s other) (sym same_i) (subst (λ s. IsNoted r (front ++ t ∷ []) t.node s other) (sym same_s) (subst (IsNoted r (front ++ t ∷ []) t.node t.shard) (sym same)
        (record { played = done ∙ sym (one_more_in (is_same t) front t ∙ ap (λ b. list_any (is_same t) front || b) (same_refl t) ∙ or_true (list_any (is_same t) front)); tells = tells })))

    other_noted : (i s : ℕ) → (i ≡ t.node → s ≡ t.shard → ⊥) → (other : Slot) → IsNoted r front i s other → IsNoted r (front ++ t ∷ []) i s other
    other_noted i s apart other n = record {
      played = n.played ∙ sym (one_more_in (is_same (task i s)) front t ∙ ap (λ b. list_any (is_same (task i s)) front || b) (other_place i t.node s t.shard apart) ∙ or_false (list_any (is_same (task i s)) front));
      tells = n.tells;
    }

    in_line : (s : ℕ) (other : Slot) → slice_get (slice_set line t.shard slot) s ≡ Some other → IsNoted r (front ++ t ∷ []) t.node s other
    in_line s other f = where_from (got_set line t.shard s slot other f)
      where
        where_from : ((s ≡ t.shard) × (other ≡ slot)) ⊎ ((s ≡ t.shard → ⊥) × (slice_get line s ≡ Some other)) → IsNoted r (front ++ t ∷ []) t.node s other
        where_from (inl both) = this_noted t.node s refl both.0 other both.1
        where_from (inr both) = other_noted t.node s (λ same. both.0) other (h.each t.node s line other at both.1)

    each_noted : (i s : ℕ) (now : List Slot) (other : Slot) → slice_get (slice_set lines t.node (slice_set line t.shard slot)) i ≡ Some now → slice_get now s ≡ Some other → IsNoted r (front ++ t ∷ []) i s other
    each_noted i s now other e f = where_from (got_set lines t.node i (slice_set line t.shard slot) now e)
      where
        where_from : ((i ≡ t.node) × (now ≡ slice_set line t.shard slot)) ⊎ ((i ≡ t.node → ⊥) × (slice_get lines i ≡ Some now)) → IsNoted r (front ++ t ∷ []) i s other
        where_from (inl both) = subst (λ i. IsNoted r (front ++ t ∷ []) i s other) (sym both.0) (in_line s other (subst (λ l. slice_get l s ≡ Some other) both.1 f))
        where_from (inr both) = other_noted i s (λ same more. both.0 same) other (h.each i s now other both.1 f)

    pub more_noted : AreNoted r (front ++ t ∷ []) (slice_set lines t.node (slice_set line t.shard slot))
    more_noted = record {
      count = length-set lines t.node (slice_set line t.shard slot) ∙ h.count;
      wide = λ i now e. wide_at i now (got_set lines t.node i (slice_set line t.shard slot) now e);
      each = each_noted;
    }
      where
        wide_at : (i : ℕ) (now : List Slot) → ((i ≡ t.node) × (now ≡ slice_set line t.shard slot)) ⊎ ((i ≡ t.node → ⊥) × (slice_get lines i ≡ Some now)) → length now ≡ length states
        wide_at i now (inl both) = ap length both.1 ∙ length-set line t.shard slot ∙ h.wide t.node line at
        wide_at i now (inr both) = h.wide i now both.1

  -- ---- the tasks of a node
  pub line_done : (front : List Task) (lines : List (List Slot)) → AreNoted r front lines → (i : ℕ) (line : List Slot) → slice_get lines i ≡ Some line → list_all is_done line ≡ list_all (λ k. is_in front (task i k)) (numbers_below (length states))
  line_done front lines h i line at = all_by_place is_done (λ k. is_in front (task i k)) line (length states) (h.wide i line at) (λ s slot e. (h.each i s line slot at e).played)
