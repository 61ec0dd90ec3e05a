-- Parts in a longer list: what they read, their order, kinds and owners stay.
use Rattle.std.proofs.Common.{◌≡◌, ℕ, zero, suc, ◌+◌, ◌<◌, ◌≤◌, Bool, true, false, cond, List, [], ◌∷◌, ◌++◌, length, Some, None, refl, sym, ap, subst, ◌∙◌, arith, length-append}
use Rattle.std.specs.Prelude.{Option, filter, slice_get}
use mathlib.Core.Logic.{◌⊎◌, inl, inr}
use Rattle.std.proofs.lemmas.List.Elements.{filter-append}
use Rattle.std.proofs.lemmas.Option.{same_Some}
use Rattle.sq_expr.specs.declared.expr.Kind.{Kind}
use Rattle.sq_ops.specs.JoinLaws.{SuitsPairing}
use Rattle.sq_ops.specs.Aggregates.{SuitsSpec}
use Rattle.sq_circuit.specs.Circuits.{kinds_at, kinds_in, owner_at, owner_in}
use Rattle.sq_circuit.specs.Gives.{AreWithin, ColumnsWithin, GivesKinds, GroupKinds, ItemKinds, PaddedKinds}
use Rattle.sq_circuit.specs.Invariant.{HasWidth, IsBetween, IsEarlier, IsInOrder, IsOwned, IsOwnedBelow, IsOwner, TakesKinds, is_table, is_view, table_count, width_of}
use Rattle.sq_circuit.specs.LinearOps.{SuitsOp}
use Rattle.sq_circuit.specs.Nodes.{Source, Nowhere, Outer, Inner, left_source, right_source}
use Rattle.sq_circuit.specs.declared.circuit.Part.{Part}
use Rattle.sq_circuit.specs.declared.node.LinearOp.TheVariants.{Keep, Project, Pad}
use Rattle.sq_circuit.specs.declared.node.Node.{Node}
use Rattle.sq_circuit.specs.declared.node.Node.TheVariants.{Table, Linear, Join, Distinct, Aggregate, Plus, Minus, View}
use Rattle.sq_circuit.proofs.Alongside.{got_front}

-- ---- places in a longer list
pub got_behind : {A : Type 0} (xs ys : List A) (k i : ℕ) → i ≡ length xs + k → slice_get (xs ++ ys) i ≡ slice_get ys k
got_behind [] ys k i e = let same : i ≡ k = omega arith in ap (slice_get ys) same
got_behind (x ∷ xs) ys k zero e = absurd (omega arith)
got_behind (x ∷ xs) ys k (suc i) e = got_behind xs ys k i (omega arith)

-- a place behind some
pub record Behind {A : Type 0} (n : ℕ) (ys : List A) (i : ℕ) (y : A) : Type 0 where
  pub place : ℕ
  pub is : i ≡ n + place
  pub at : slice_get ys place ≡ Some y

pub front_or_behind : {A : Type 0} (xs ys : List A) (i : ℕ) (y : A) → slice_get (xs ++ ys) i ≡ Some y → (slice_get xs i ≡ Some y) ⊎ Behind (length xs) ys i y
front_or_behind [] ys i y e = inr (record { place = i; is = omega arith; at = e })
front_or_behind (x ∷ xs) ys zero y e = inl e
front_or_behind (x ∷ xs) ys (suc i) y e = step (front_or_behind xs ys i y e)
  where
    step : (slice_get xs i ≡ Some y) ⊎ Behind (length xs) ys i y → (slice_get xs i ≡ Some y) ⊎ Behind (suc (length xs)) ys (suc i) y
    step (inl front) = inl front
    step (inr behind) = inr (record { place = behind.place; is = let same = behind.is in omega arith; at = behind.at })

-- the last place, or an earlier one
pub front_or_last : {A : Type 0} (xs : List A) (x : A) (i : ℕ) (y : A) → slice_get (xs ++ x ∷ []) i ≡ Some y → (slice_get xs i ≡ Some y) ⊎ ((i ≡ length xs) × (x ≡ y))
front_or_last [] x zero y e = inr (refl, same_Some x y e)
front_or_last [] x (suc i) y e = absurd (cc e)
front_or_last (z ∷ xs) x zero y e = inl e
front_or_last (z ∷ xs) x (suc i) y e = step (front_or_last xs x i y e)
  where
    step : (slice_get xs i ≡ Some y) ⊎ ((i ≡ length xs) × (x ≡ y)) → (slice_get xs i ≡ Some y) ⊎ ((suc i ≡ suc (length xs)) × (x ≡ y))
    step (inl front) = inl front
    step (inr last) = inr (ap suc last.0, last.1)

-- ---- counts
pub count_more : (t : Part → Bool) (c more : List Part) → length (filter t (c ++ more)) ≡ length (filter t c) + length (filter t more)
count_more t c more = ap length (filter-append t c more) ∙ length-append (filter t c) (filter t more)

pub count_none : (t : Part → Bool) (c : List Part) → ((i : ℕ) (p : Part) → slice_get c i ≡ Some p → t p ≡ false) → length (filter t c) ≡ 0
count_none t [] h = refl
count_none t (p ∷ c) h = ap (λ b. length (cond b (p ∷ filter t c) (filter t c))) (h 0 p refl) ∙ count_none t c (λ i q e. h (suc i) q e)

pub count_all : (t : Part → Bool) (c : List Part) → ((i : ℕ) (p : Part) → slice_get c i ≡ Some p → t p ≡ true) → length (filter t c) ≡ length c
count_all t [] h = refl
count_all t (p ∷ c) h = ap (λ b. length (cond b (p ∷ filter t c) (filter t c))) (h 0 p refl) ∙ ap suc (count_all t c (λ i q e. h (suc i) q e))

pub count_most : (t : Part → Bool) (c : List Part) → length (filter t c) ≤ length c
count_most t [] = omega arith
count_most t (p ∷ c) =
    let rest = count_most t c in
    elim (t p) as (λ b. length (cond b (p ∷ filter t c) (filter t c)) ≤ suc (length c)) [ true ↦ omega arith | false ↦ omega arith ]

-- ---- kinds, by those of the nodes that are read
module _ (i : ℕ) (f g : ℕ → List Kind) (same : (j : ℕ) → j < i → f j ≡ g j) where
  both : (P : List Kind → List Kind → Type 0) (l r : ℕ) → l < i → r < i → P (f l) (f r) → P (g l) (g r)
  both P l r a b h = subst (λ k. P k (g r)) (same l a) (subst (λ k. P (f l) k) (same r b) h)

  pub takes_same : (n : Node) → IsEarlier i (left_source n) → IsEarlier i (right_source n) → TakesKinds n f → TakesKinds n g
  takes_same (Table t) l r h = tt
  takes_same (Linear j op) l r h = subst (SuitsOp op) (same j l) h
  takes_same (Join a b op) l r h = both (λ x y. SuitsPairing op.left op.right op.items op.keep x y) a b l r h
  takes_same (Distinct j) l r h = tt
  takes_same (Aggregate j spec) l r h = subst (SuitsSpec spec) (same j l) h
  takes_same (Plus a b) l r h = tt
  takes_same (Minus a b) l r h = tt
  takes_same (View j v) l r h = tt

  pub width_same : (n : Node) (width : ℕ) → IsEarlier i (left_source n) → IsEarlier i (right_source n) → HasWidth n f width → HasWidth n g width
  width_same (Table t) width l r h = tt
  width_same (Linear j op) width l r h = subst (λ ks. width ≡ width_of op (length ks)) (same j l) h
  width_same (Join a b op) width l r h = h
  width_same (Distinct j) width l r h = subst (λ ks. width ≡ length ks) (same j l) h
  width_same (Aggregate j spec) width l r h = h
  width_same (Plus a b) width l r h = (subst (λ ks. width ≡ length ks) (same a l) h.0, subst (λ ks. width ≡ length ks) (same b r) h.1)
  width_same (Minus a b) width l r h = (subst (λ ks. width ≡ length ks) (same a l) h.0, subst (λ ks. width ≡ length ks) (same b r) h.1)
  width_same (View j v) width l r h = subst (λ ks. width ≡ length ks) (same j l) h

  pub gives_same : (n : Node) (own : List Kind) → IsEarlier i (left_source n) → IsEarlier i (right_source n) → GivesKinds n f own → GivesKinds n g own
  gives_same (Table t) own l r h = tt
  gives_same (Linear j (Keep op)) own l r h = subst (λ ks. own ≡ ks) (same j l) h
  gives_same (Linear j (Project op)) own l r h = subst (λ ks. ItemKinds ks op.items own) (same j l) h
  gives_same (Linear j (Pad op)) own l r h = subst (λ ks. PaddedKinds ks op.nulls own) (same j l) h
  gives_same (Join a b op) own l r h = both (λ x y. ColumnsWithin (x ++ y) op.items own) a b l r h
  gives_same (Distinct j) own l r h = subst (λ ks. own ≡ ks) (same j l) h
  gives_same (Aggregate j spec) own l r h = subst (λ ks. GroupKinds ks spec own) (same j l) h
  gives_same (Plus a b) own l r h = (subst (λ ks. AreWithin ks own) (same a l) h.0, subst (λ ks. AreWithin ks own) (same b r) h.1)
  gives_same (Minus a b) own l r h = (subst (λ ks. AreWithin ks own) (same a l) h.0, subst (λ ks. AreWithin ks own) (same b r) h.1)
  gives_same (View j v) own l r h = subst (λ ks. own ≡ ks) (same j l) h

-- ---- order
-- a part before all views stands where it may in a longer list too
pub order_more : (nodes more views : ℕ) (c d : List Part) (i : ℕ) → table_count d ≡ table_count c → i + views < nodes → nodes ≤ more → (n : Node) → IsInOrder nodes views c i n → IsInOrder more views d i n
order_more nodes more views c d i tables low long (Table t) h = (h.0, let old = h.1 in omega arith)
order_more nodes more views c d i tables low long (Linear j op) h = (let old = h.0 in omega arith, let old = h.1 in omega arith)
order_more nodes more views c d i tables low long (Join l r op) h = (let old = h.0 in omega arith, let old = h.1 in omega arith)
order_more nodes more views c d i tables low long (Distinct j) h = (let old = h.0 in omega arith, let old = h.1 in omega arith)
order_more nodes more views c d i tables low long (Aggregate j spec) h = (let old = h.0 in omega arith, let old = h.1 in omega arith)
order_more nodes more views c d i tables low long (Plus l r) h = (let old = h.0 in omega arith, let old = h.1 in omega arith)
order_more nodes more views c d i tables low long (Minus l r) h = (let old = h.0 in omega arith, let old = h.1 in omega arith)
order_more nodes more views c d i tables low long (View j v) h = absurd (let old = h.0 in omega arith)

pub order_between : (nodes views : ℕ) (c : List Part) (i : ℕ) (n : Node) → is_table n ≡ false → is_view n ≡ false → IsBetween nodes views c i → IsInOrder nodes views c i n
order_between nodes views c i (Table t) t_ v_ h = absurd (cc t_)
order_between nodes views c i (Linear j op) t_ v_ h = h
order_between nodes views c i (Join l r op) t_ v_ h = h
order_between nodes views c i (Distinct j) t_ v_ h = h
order_between nodes views c i (Aggregate j spec) t_ v_ h = h
order_between nodes views c i (Plus l r) t_ v_ h = h
order_between nodes views c i (Minus l r) t_ v_ h = h
order_between nodes views c i (View j v) t_ v_ h = absurd (cc v_)

pub no_view_before : (nodes views : ℕ) (c : List Part) (i : ℕ) (n : Node) → i + views < nodes → IsInOrder nodes views c i n → is_view n ≡ false
no_view_before nodes views c i (Table t) low h = refl
no_view_before nodes views c i (Linear j op) low h = refl
no_view_before nodes views c i (Join l r op) low h = refl
no_view_before nodes views c i (Distinct j) low h = refl
no_view_before nodes views c i (Aggregate j spec) low h = refl
no_view_before nodes views c i (Plus l r) low h = refl
no_view_before nodes views c i (Minus l r) low h = refl
no_view_before nodes views c i (View j v) low h = absurd (let old = h.0 in omega arith)

-- ---- owners
pub owned_by : (views : ℕ) (c : List Part) (n : Node) (place : Bool) (v : ℕ) (o : Option ℕ) → is_table n ≡ false → o ≡ Some v → IsOwner views c n v → IsOwned views c n place o
owned_by views c (Table t) place v o inner e h = absurd (cc inner)
owned_by views c (Linear i op) place v o inner e h = subst (IsOwned views c (Linear i op) place) (sym e) h
owned_by views c (Join l r op) place v o inner e h = subst (IsOwned views c (Join l r op) place) (sym e) h
owned_by views c (Distinct i) place v o inner e h = subst (IsOwned views c (Distinct i) place) (sym e) h
owned_by views c (Aggregate i spec) place v o inner e h = subst (IsOwned views c (Aggregate i spec) place) (sym e) h
owned_by views c (Plus l r) place v o inner e h = subst (IsOwned views c (Plus l r) place) (sym e) h
owned_by views c (Minus l r) place v o inner e h = subst (IsOwned views c (Minus l r) place) (sym e) h
owned_by views c (View i w) place v o inner e h = subst (IsOwned views c (View i w) place) (sym e) h

pub owned_more : (views : ℕ) (c d : List Part) (n : Node) (place : Bool) (o : Option ℕ) → ((v : ℕ) → IsOwner views c n v → IsOwner views d n v) → IsOwned views c n place o → IsOwned views d n place o
owned_more views c d (Table t) place o f h = h
owned_more views c d (Linear i op) place None f h = absurd h
owned_more views c d (Linear i op) place (Some v) f h = f v h
owned_more views c d (Join l r op) place None f h = absurd h
owned_more views c d (Join l r op) place (Some v) f h = f v h
owned_more views c d (Distinct i) place None f h = absurd h
owned_more views c d (Distinct i) place (Some v) f h = f v h
owned_more views c d (Aggregate i spec) place None f h = absurd h
owned_more views c d (Aggregate i spec) place (Some v) f h = f v h
owned_more views c d (Plus l r) place None f h = absurd h
owned_more views c d (Plus l r) place (Some v) f h = f v h
owned_more views c d (Minus l r) place None f h = absurd h
owned_more views c d (Minus l r) place (Some v) f h = f v h
owned_more views c d (View i w) place None f h = absurd h
owned_more views c d (View i w) place (Some v) f h = f v h

module _ (c more : List Part) where
  pub kinds_more : (j : ℕ) → j < length c → kinds_at (c ++ more) j ≡ kinds_at c j
  kinds_more j low = ap kinds_in (got_front c more j low)

  pub owner_more : (j : ℕ) → j < length c → owner_at (c ++ more) j ≡ owner_at c j
  owner_more j low = ap owner_in (got_front c more j low)

  below_more : (i v : ℕ) (s : Source) → i ≤ length c → IsEarlier i s → IsOwnedBelow c v s → IsOwnedBelow (c ++ more) v s
  below_more i v Nowhere long low h = tt
  below_more i v (Outer t) long low h = tt
  below_more i v (Inner j) long low h = λ w e. h w (sym (owner_more j (omega arith)) ∙ e)

  pub owner_stays : (views i v : ℕ) (n : Node) → i ≤ length c → IsEarlier i (left_source n) → IsEarlier i (right_source n) → IsOwner views c n v → IsOwner views (c ++ more) n v
  owner_stays views i v n long l r h = record { is_view = h.is_view; left = below_more i v (left_source n) long l h.left; right = below_more i v (right_source n) long r h.right }
