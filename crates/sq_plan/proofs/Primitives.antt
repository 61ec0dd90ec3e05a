-- Nodes whose number of rows is tested, steps that add nothing, and how long lists of columns are.
use Rattle.std.proofs.Common.{◌≡◌, ℕ, suc, Bool, true, false, ◌&&◌, ◌||◌, List, [], ◌∷◌, length, map, refl, sym, ap, ◌∙◌, arith}
use Rattle.std.specs.Prelude.{IfOk, Result, Ok, Err}
use Rattle.std.proofs.lemmas.List.{append-nil}
use Rattle.sq_expr.specs.declared.expr.Kind.{Kind}
use Rattle.sq_bridge.specs.Nodes.{lists_too_many}
use Rattle.sq_circuit.specs.Nodes.{Rows}
use Rattle.sq_plan.specs.Drafts.{Adds, IsDraft, IsNode, blames, kinds_of, worth_of}
use Rattle.sq_plan.specs.declared.draft.Draft.{Draft}
use Rattle.sq_plan.proofs.Adding.{adds_as}

pub if_ok : {X E : Type 0} (r : Result X E) (P Q : X → Type 0) → ((x : X) → P x → Q x) → IfOk r P → IfOk r Q
if_ok (Ok x) P Q f h = f x h
if_ok (Err e) P Q f h = h

pub or_false : (a : Bool) → (a || false) ≡ a
or_false true = refl
or_false false = refl

-- a node whose number of rows may be tested, and none of whose numbers is
pub tested : (place : Bool) (d e : Draft) (i : ℕ) (ks ls : List Kind) (y z : List Rows → Rows) → ks ≡ ls → ((tables : List Rows) → y tables ≡ z tables) →
    Adds 1 d e i ks y (λ tables. (place && lists_too_many (y tables)) || false) → Adds 1 d e i ls z (λ tables. place && lists_too_many (z tables))
tested place d e i ks ls y z same worth a =
    adds_as 1 d e i ks ls y z (λ tables. (place && lists_too_many (y tables)) || false) (λ tables. place && lists_too_many (z tables)) same worth
    (λ tables. or_false (place && lists_too_many (y tables)) ∙ ap (λ x. place && lists_too_many x) (worth tables)) a

-- nothing is added
pub adds_none : (n : ℕ) (d : Draft) (i : ℕ) → IsDraft d → IsNode d i → (z : List Rows → Rows) → ((tables : List Rows) → worth_of d i tables ≡ z tables) → Adds n d d i (kinds_of d i) z (λ tables. false)
adds_none n d i draft low z worth = record {
  view = refl;
  more = [];
  is = sym (append-nil d.parts.items);
  no_tables = refl;
  owned = tt;
  few = omega arith;
  draft = draft;
  low = low;
  kinds_are = refl;
  worth = worth;
  blame = λ tables. sym (or_false (blames d tables));
}

pub no_items : {A : Type 0} (xs : List A) → length xs ≡ 0 → xs ≡ []
no_items [] e = refl
no_items (x ∷ xs) e = absurd (omega (arith, e))

pub many_mapped : {A B : Type 0} (f : A → B) (xs : List A) → length (map f xs) ≡ length xs
many_mapped f [] = refl
many_mapped f (x ∷ xs) = ap suc (many_mapped f xs)
