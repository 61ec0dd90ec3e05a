-- How many members an object has.
use Rattle.std.specs.Prelude.{◌==◌, ◌&&◌, codes}
use Rattle.std.proofs.Common.{◌≡◌, ℕ, ◌+◌, List, [], ◌∷◌, length, refl, ap, ◌∙◌, String, add-one, Bool, true, false, eqb, eqb-true}
use Rattle.std.specs.declared.alloc.Global.{Global}
use Rattle.serde_json.specs.declared.value.Value.{Value}
use Rattle.serde_json.specs.View.{members_view}
use Rattle.sq_lines.specs.Lines.{count_members, asks_commit, is_true}
use Rattle.serde_json.specs.Data.{Data}
use Rattle.serde_json.specs.Find.{get}

pub count_members_of_view : (es : List (String Global × Value)) → count_members (members_view es) ≡ length es
count_members_of_view [] = refl
count_members_of_view (e ∷ es) = ap (λ n. n + 1) (count_members_of_view es) ∙ add-one (length es)

pub commit_by_length : (es : List (String Global × Value)) (json : Data) (n : ℕ) → n ≡ length es
    → asks_commit (members_view es) json ≡ ((n == 1) && is_true (get (codes "commit") json))
commit_by_length es json n e = rw (count_members_of_view es, ← e) refl

pub no_commit_by_length : (n : ℕ) (b t : Bool) → eqb n 1 ≡ t → (n ≡ 1 → ⊥) → t ≡ (t && b)
no_commit_by_length n b true e h = absurd (h (eqb-true n 1 e))
no_commit_by_length n b false e h = refl
