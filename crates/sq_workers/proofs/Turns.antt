-- One turn of a worker: a claim, and its answer.
use Rattle.std.proofs.Common.{◌≡◌, ℕ, ◌+◌, ◌-◌, ◌<◌, ◌≤◌, List, [], ◌∷◌, ◌++◌, Err, Result, OnOk, sym, ap, ◌∙◌, subst, arith}
use Rattle.std.specs.List.{AllByRecursion, AllZip}
use Rattle.sq_value.specs.declared.memory.NoMemory.{NoMemory}
use Rattle.sq_claims.specs.Claims.{Place, Turn, total, claims_one}
use Rattle.sq_workers.specs.declared.worker.Worker.{Worker}
use Rattle.sq_workers.specs.Work.{IsAtWork, HasWorked, Leaves}
use Rattle.sq_workers.proofs.Sums.{next_free}
use Rattle.sq_workers.proofs.Sums.{next_below, next_after, zip_more, cost_more}

-- a claim brings the end nearer
pub nearer : (tasks i : ℕ) (old new : List ℕ) → AllByRecursion (λ c. c < i) old → i < tasks → new ≡ old ++ i ∷ [] → tasks - next_free new < tasks - next_free old
nearer tasks i old new below lt is = let a = next_below old i below in let b = ap next_free is ∙ next_after old i in omega (arith, a, b, lt)

module _ {L X : Type 0} (ok : ℕ → X → Type 0) (cost : ℕ → ℕ) (board : Place) (w v : Worker L X) (i : ℕ) where
  pub record Turned : Type 0 where
    pub work : IsAtWork ok cost board w
    pub claimed : v.pass ≡ claims_one w.pass i
    pub spent : v.steps.count ≤ w.steps.count + cost i
    pub ledger : v.steps.ledger ≡ w.steps.ledger

  pub turned_on : (x : X) → Turned → v.claims.items ≡ w.claims.items ++ i ∷ [] → v.answers.items ≡ w.answers.items ++ x ∷ [] → ok i x → IsAtWork ok cost board v
  turned_on x t claims answers fine = record {
    board_is = ap (λ (p : Turn). p.board) t.claimed ∙ t.work.board_is;
    part = t.ledger ∙ t.work.part;
    bound = subst (λ (cs : List ℕ). v.steps.count ≤ total cost cs) (sym (ap (λ (p : Turn). p.claims) t.claimed)) (cost_more cost w.pass.claims i w.steps.count v.steps.count t.work.bound t.spent);
    claims_are = claims ∙ (ap (λ (cs : List ℕ). cs ++ i ∷ []) t.work.claims_are ∙ sym (ap (λ (p : Turn). p.claims) t.claimed));
    answered = subst (λ (cs : List ℕ). AllZip ok cs v.answers.items) (sym claims)
        (subst (λ (xs : List X). AllZip ok (w.claims.items ++ i ∷ []) xs) (sym answers) (zip_more ok w.claims.items w.answers.items i x t.work.answered fine));
  }

  pub turned_off : (ended : Result (Unit {0}) NoMemory) (e : NoMemory) → Turned → ended ≡ Err e → HasWorked ok cost board v ended
  turned_off ended e t is = record {
    board_is = ap (λ (p : Turn). p.board) t.claimed ∙ t.work.board_is;
    part = t.ledger ∙ t.work.part;
    bound = subst (λ (cs : List ℕ). v.steps.count ≤ total cost cs) (sym (ap (λ (p : Turn). p.claims) t.claimed)) (cost_more cost w.pass.claims i w.steps.count v.steps.count t.work.bound t.spent);
    leaves = subst (λ (r : Result (Unit {0}) NoMemory). OnOk r (Leaves ok v.pass v.claims.items v.answers.items)) (sym is) tt;
  }
