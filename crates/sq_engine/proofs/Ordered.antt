-- All tasks of a tick, by node and then by shard, are an order that `play` takes.
use Rattle.std.proofs.Common.{◌≡◌, ℕ, zero, suc, ◌*◌, ◌<◌, ◌≤◌, ◌^◌, Bool, ℤ, List, [], ◌∷◌, ◌++◌, length, length-append, sym, ap, subst, arith}
use Rattle.std.specs.List.{Contains}
use Rattle.std.proofs.lemmas.Grind.{flat_map-append}
use Rattle.std.proofs.lemmas.List.{length-map}
use Rattle.sq_algebra.specs.Keyed.{numbers_below}
use Rattle.sq_circuit.specs.Invariant.{IsCircuit}
use Rattle.sq_circuit.specs.Nodes.{Rows}
use Rattle.sq_circuit.specs.declared.circuit.Part.{Part}
use Rattle.sq_states.specs.declared.kept.NodeState.{NodeState}
use Rattle.sq_incr.specs.Orders.{FirstIllegal, task, tasks_of}
use Rattle.sq_incr.specs.Played.{IsShort}
use Rattle.sq_incr.specs.Ready.{IsReady}
use Rattle.sq_incr.specs.declared.task.Task.{Task}
use Rattle.sq_incr.proofs.Ordering.{all_legal, all_whole, illegal_is_not_legal, length-numbers}
use Rattle.sq_incr.proofs.Taking.{earlier}
use Rattle.sq_engine.specs.Ticking.{all_of}

few_of : (n : ℕ) → n ≤ 64 → (m : ℕ) → length (all_of m n) ≤ 64 * m
few_of n few zero = omega arith
few_of n few (suc m) =
    let all = ap (λ (ts : List Task). length ts) (flat_map-append (tasks_of n) (numbers_below m) (m ∷ [])) in
    let both = length-append (all_of m n) (tasks_of n m ++ []) in
    let own = length-append (tasks_of n m) [] in
    let tasks = length-map (numbers_below n) (task m) in
    let numbers = length-numbers n in
    let rest = few_of n few m in
    omega (arith, all, both, own, tasks, numbers, rest, few)

pub few_tasks : (c : List Part) (n : ℕ) (order : List Task) → length c < 2 ^ 26 → n ≤ 64 → order ≡ all_of (length c) n → length order < 4294967296
few_tasks c n order nodes few is = let long = ap (λ (ts : List Task). length ts) is in let most = few_of n few (length c) in omega (arith, long, most, nodes)

module _ {c : List Part} {states : List (List NodeState)} {totals : List ℤ} {changes : List Rows} {first : Bool} where
  pub no_illegal : IsCircuit c → (r : IsReady c states totals changes first) (order : List Task) → order ≡ all_of (length c) (length states) → (at : ℕ) → FirstIllegal c (length states) order at → ⊥
  no_illegal circuit r order is at bad = illegal_is_not_legal c (length states) (all_of (length c) (length states)) at (subst (λ ts. FirstIllegal c (length states) ts at) is bad) (all_legal c (length states) (earlier circuit r))

  pub no_missing : (r : IsReady c states totals changes first) (order : List Task) → order ≡ all_of (length c) (length states) → (t : Task) → IsShort c (length states) order t → ⊥
  no_missing r order is t bad = bad.missing.missing (subst (λ ts. Contains ts t) (sym is) (all_whole c (length states) t bad.missing.in_range))
