-- Which chains are out of range, member by member.
use Rattle.std.proofs.Common.{◌≡◌, List, [], ◌∷◌, ◌++◌, fold, Bool, true, false, ◌||◌, refl, sym, ap, ◌∙◌}
use Rattle.std.specs.List.{flat_map, list_any}
use Rattle.sq_typed.specs.From.{Answer, Row}
use Rattle.sq_typed.specs.Queries.{after_each, chain_answer, has_range_fault, is_crowded, is_outside}
use Rattle.sq_lists.proofs.Groups.{or_first, or_second}
use Rattle.sq_lists.proofs.Loops.{list_any-append}

or_any : (b : Bool) → (b || true) ≡ true
or_any true = refl
or_any false = refl

pub swapped : (x y z : Bool) → (x || (y || z)) ≡ (y || (x || z))
swapped true y z = sym (or_any y)
swapped false y z = refl

-- places and tested numbers of the first, with those of the rest
pub moved : (a b c d e : Bool) → (((a || b) || c) || (d || e)) ≡ ((a || d) || ((b || c) || e))
moved true b c d e = refl
moved false b c d e = swapped (b || c) d e

shuffled : (a b c d e f : Bool) → (((a || b) || (c || d)) || (e || f)) ≡ ((a || e) || (c || ((b || d) || f)))
shuffled true b c d e f = refl
shuffled false true true d true f = refl
shuffled false true true d false f = refl
shuffled false true false d true f = refl
shuffled false true false d false f = refl
shuffled false false true d true f = refl
shuffled false false true d false f = refl
shuffled false false false true true f = refl
shuffled false false false true false f = refl
shuffled false false false false e f = refl

module _ {B : Type 0} (f : List Row → B → List Row) (of : B → Answer) where
  -- whether a member is out of range, or the rows after it are too many
  abbrev pub chain_fault : List Row → List B → Bool
  chain_fault rows [] = false
  chain_fault rows (b ∷ bs) = has_range_fault (of b) || (is_crowded (f rows b) || chain_fault (f rows b) bs)

  parts_are : (rows : List Row) (rest : List B) → ((list_any is_crowded (flat_map (λ b. (of b).places) rest) || list_any is_crowded (after_each f rows rest)) || list_any is_outside (flat_map (λ b. (of b).tested) rest)) ≡ chain_fault rows rest
  parts_are rows [] = refl
  parts_are rows (b ∷ bs) =
      (λ i. (list_any-append is_crowded (of b).places (flat_map (λ b. (of b).places) bs) i || list_any is_crowded (after_each f rows (b ∷ bs))) || list_any-append is_outside (of b).tested (flat_map (λ b. (of b).tested) bs) i)
      ∙ shuffled (list_any is_crowded (of b).places) (list_any is_crowded (flat_map (λ b. (of b).places) bs)) (is_crowded (f rows b)) (list_any is_crowded (after_each f (f rows b) bs)) (list_any is_outside (of b).tested) (list_any is_outside (flat_map (λ b. (of b).tested) bs))
      ∙ ap (λ t. has_range_fault (of b) || (is_crowded (f rows b) || t)) (parts_are (f rows b) bs)

  fault_is : (first : Answer) (rest : List B) → has_range_fault (chain_answer f of first rest) ≡ (has_range_fault first || chain_fault first.rows rest)
  fault_is first rest =
      (λ i. list_any-append is_crowded (first.places ++ flat_map (λ b. (of b).places) rest) (after_each f first.rows rest) i || list_any-append is_outside first.tested (flat_map (λ b. (of b).tested) rest) i)
      ∙ ap (λ t. (t || list_any is_crowded (after_each f first.rows rest)) || (list_any is_outside first.tested || list_any is_outside (flat_map (λ b. (of b).tested) rest))) (list_any-append is_crowded first.places (flat_map (λ b. (of b).places) rest))
      ∙ moved (list_any is_crowded first.places) (list_any is_crowded (flat_map (λ b. (of b).places) rest)) (list_any is_crowded (after_each f first.rows rest)) (list_any is_outside first.tested) (list_any is_outside (flat_map (λ b. (of b).tested) rest))
      ∙ ap (λ t. has_range_fault first || t) (parts_are first.rows rest)

  -- the rows so far and the members that are left decide what a chain gives
  pub record ChainStands (a : Answer) (rows : List Row) (rest : List B) : Type 0 where
    pub rows_are : a.rows ≡ fold f rows rest
    pub fault_is : has_range_fault a ≡ chain_fault rows rest

  pub chain_starts : (first : Answer) (rest : List B) (rows : List Row) → rows ≡ first.rows → has_range_fault first ≡ false → ChainStands (chain_answer f of first rest) rows rest
  chain_starts first rest rows is inside = record {
    rows_are = ap (λ rs. fold f rs rest) (sym is);
    fault_is = fault_is first rest ∙ ap (λ t. t || chain_fault first.rows rest) inside ∙ ap (λ rs. chain_fault rs rest) (sym is);
  }

  pub chain_goes : (a : Answer) (rows now : List Row) (b : B) (rest : List B) → ChainStands a rows (b ∷ rest) → has_range_fault (of b) ≡ false → now ≡ f rows b → is_crowded now ≡ false → ChainStands a now rest
  chain_goes a rows now b rest s inside is few = record {
    rows_are = s.rows_are ∙ ap (λ rs. fold f rs rest) (sym is);
    fault_is = s.fault_is ∙ ap (λ t. t || (is_crowded (f rows b) || chain_fault (f rows b) rest)) inside ∙ ap (λ rs. is_crowded rs || chain_fault rs rest) (sym is) ∙ ap (λ t. t || chain_fault now rest) few;
  }

  pub member_out : (a : Answer) (rows : List Row) (b : B) (rest : List B) → ChainStands a rows (b ∷ rest) → has_range_fault (of b) ≡ true → has_range_fault a ≡ true
  member_out a rows b rest s e = s.fault_is ∙ or_first (has_range_fault (of b)) (is_crowded (f rows b) || chain_fault (f rows b) rest) e

  pub step_out : (a : Answer) (rows : List Row) (b : B) (rest : List B) → ChainStands a rows (b ∷ rest) → is_crowded (f rows b) ≡ true → has_range_fault a ≡ true
  step_out a rows b rest s e = s.fault_is ∙ or_second (has_range_fault (of b)) (is_crowded (f rows b) || chain_fault (f rows b) rest) (or_first (is_crowded (f rows b)) (chain_fault (f rows b) rest) e)

-- the first member is out of range
pub first_out : {B : Type 0} (f : List Row → B → List Row) (of : B → Answer) (first : Answer) (rest : List B) → has_range_fault first ≡ true → has_range_fault (chain_answer f of first rest) ≡ true
first_out f of first rest e = fault_is f of first rest ∙ or_first (has_range_fault first) (chain_fault f of first.rows rest) e
