-- The tables of a circuit are its first nodes, in order.
use Rattle.std.proofs.Common.{◌≡◌, ℕ, suc, ◌+◌, ◌<◌, ◌≤◌, Bool, true, false, cond, List, [], ◌∷◌, length, Some, refl, sym, ap, subst, arith}
use Rattle.std.specs.Prelude.{slice_get}
use Rattle.std.specs.List.{filter}
use Rattle.sq_circuit.specs.Invariant.{IsCircuit, IsInOrder, is_table, is_view, table_count, view_count}
use Rattle.sq_circuit.specs.declared.circuit.Part.{Part}
use Rattle.sq_circuit.specs.declared.node.Node.{Node}
use Rattle.sq_circuit.specs.declared.node.Node.TheVariants.{Table, Linear, Join, Distinct, Aggregate, Plus, Minus, View}
use Rattle.sq_incr.proofs.Noting.{there_is}

-- ---- no node is both a table and a view
one_kind : (n : Node) (ts vs l : ℕ) → ts + vs ≤ l → cond (is_table n) (suc ts) ts + cond (is_view n) (suc vs) vs ≤ suc l
one_kind (Table t) ts vs l few = omega (arith, few)
one_kind (Linear i op) ts vs l few = omega (arith, few)
one_kind (Join a b op) ts vs l few = omega (arith, few)
one_kind (Distinct i) ts vs l few = omega (arith, few)
one_kind (Aggregate i spec) ts vs l few = omega (arith, few)
one_kind (Plus a b) ts vs l few = omega (arith, few)
one_kind (Minus a b) ts vs l few = omega (arith, few)
one_kind (View i v) ts vs l few = omega (arith, few)

length-cond : (b : Bool) (p : Part) (c : List Part) → length (cond b (p ∷ c) c) ≡ cond b (suc (length c)) (length c)
length-cond true p c = refl
length-cond false p c = refl

both_fit : (c : List Part) → table_count c + view_count c ≤ length c
both_fit [] = omega arith
both_fit (p ∷ c) =
    let rest = one_kind p.node (table_count c) (view_count c) (length c) (both_fit c) in
    let tables = length-cond (is_table p.node) p (filter (λ (q : Part). is_table q.node) c) in
    let views = length-cond (is_view p.node) p (filter (λ (q : Part). is_view q.node) c) in
    subst (λ n. n + view_count (p ∷ c) ≤ suc (length c)) (sym tables) (subst (λ n. cond (is_table p.node) (suc (table_count c)) (table_count c) + n ≤ suc (length c)) (sym views) rest)

-- ---- the node of a table
pub record IsTable (c : List Part) (t : ℕ) : Type 0 where
  pub part : Part
  pub at : slice_get c t ≡ Some part
  pub is : part.node ≡ Table t

in_order : (c : List Part) (t : ℕ) (n : Node) → t < table_count c → IsInOrder (length c) (view_count c) c t n → n ≡ Table t
in_order c t (Table k) low order = ap Table (sym order.0)
in_order c t (Linear i op) low order = absurd (let high = order.0 in omega (arith, low, high))
in_order c t (Join a b op) low order = absurd (let high = order.0 in omega (arith, low, high))
in_order c t (Distinct i) low order = absurd (let high = order.0 in omega (arith, low, high))
in_order c t (Aggregate i spec) low order = absurd (let high = order.0 in omega (arith, low, high))
in_order c t (Plus a b) low order = absurd (let high = order.0 in omega (arith, low, high))
in_order c t (Minus a b) low order = absurd (let high = order.0 in omega (arith, low, high))
in_order c t (View i v) low order = absurd (let last = order.0 in let fit = both_fit c in omega (arith, low, last, fit))

pub inside : (c : List Part) (t : ℕ) → t < table_count c → t < length c
inside c t low = let fit = both_fit c in omega (arith, low, fit)

pub table_there : (c : List Part) (t : ℕ) → IsCircuit c → t < table_count c → IsTable c t
table_there c t circuit low =
    let there = there_is c t (inside c t low) in
    record { part = there.0; at = there.1; is = in_order c t there.0.node low (circuit.parts t there.0 there.1).in_order }
