-- Passes that a seat took in, one after the other.
use Rattle.std.proofs.Common.{◌≡◌, ℕ, suc, ◌+◌, ◌==◌, List, [], ◌∷◌, ◌++◌, length, map, All, if◌then◌else◌, refl, sym, ap, ◌∙◌, subst, arith, append_assoc, length-append}
use Rattle.std.specs.List.{AllByRecursion}
use Rattle.std.specs.List.Sorted.{IsStrictlyIncreasing}
use Rattle.atomic_table.specs.Table.{Me}
use Rattle.atomic_table.specs.Seated.{TableId}
use Rattle.sq_claims.specs.declared.rule.Hand.{Hand}
use Rattle.sq_claims.specs.Claims.{Place, Turn, Claimed, total, times}
use Rattle.sq_claims.specs.Hands.{IsSeatOf, Holds, Gathering, IsCount, taken_in, once_below}
use Rattle.sq_claims.proofs.Totals.{total_append, once_above, once_inside}

-- what holds of each holds of one between two lists
pub all_mid : {A : Type 0} (P : A → Type 0) (xs ys : List A) (p : A) → All P ((xs ++ p ∷ []) ++ ys) → P p
all_mid P [] ys p h = h 0 p (omega arith)
all_mid P (x ∷ xs) ys p h = all_mid P xs ys p (λ k d l. h (suc k) d (omega arith))

pub holds_more : (board : Place) (taken : List Turn) (id : TableId) (me : Me ℕ Hand) (p : Turn) → Holds board taken id me → IsStrictlyIncreasing p.claims
    → Holds board (p ∷ taken) id (taken_in me.0 p, me.1)
holds_more board taken id me p h up =
    let share = h.seat.share_is in record {
      seat = record { id_is = h.seat.id_is; plan_is = h.seat.plan_is; share_is = omega (arith, share); none_out = h.seat.none_out };
      claims = λ x. let a = total_append (λ (y : ℕ). if y == x then 1 else 0) me.0.claims p.claims in let c = h.claims x in omega (arith, a, c);
      late = let a = length-append me.0.late p.late in let l = h.late in omega (arith, a, l);
      ascends = (up, h.ascends);
    }

pub gathers_more : (board : Place) (all left rest : List Turn) (id id' : TableId) (me me' : Me ℕ Hand) (p : Turn) → Gathering board all left id me → left ≡ rest ++ p ∷ []
    → IsStrictlyIncreasing p.claims → id' ≡ id → me' ≡ (taken_in me.0 p, me.1) → Gathering board all rest id' me'
gathers_more board all left rest id id' me me' p g is up ids mes = record {
  taken = p ∷ g.taken;
  some = omega arith;
  all_is = g.all_is ∙ (ap (λ (l : List Turn). l ++ g.taken) is ∙ append_assoc rest (p ∷ []) g.taken);
  holds = subst (λ (m : Me ℕ Hand). Holds board (p ∷ g.taken) id' m) (sym mes) (subst (λ (i : TableId). Holds board (p ∷ g.taken) i (taken_in me.0 p, me.1)) (sym ids) (holds_more board g.taken id me p g.holds up));
}

pub gathers_one : (board : Place) (all rest : List Turn) (id : TableId) (me : Me ℕ Hand) (p : Turn) → all ≡ rest ++ p ∷ [] → IsSeatOf board 1 id me
    → me.0.claims ≡ p.claims → me.0.late ≡ p.late → IsStrictlyIncreasing p.claims → Gathering board all rest id me
gathers_one board all rest id me p is seat claims late up = record {
  taken = p ∷ [];
  some = omega arith;
  all_is = is;
  holds = record {
    seat = seat;
    claims = λ x. let c = ap (times x) claims in omega (arith, c);
    late = let l = ap (λ (xs : List ℕ). length xs) late in omega (arith, l);
    ascends = (up, tt);
  };
}

pub gathers_all : (board : Place) (all : List Turn) (id : TableId) (me : Me ℕ Hand) → Gathering board all [] id me → Holds board all id me
gathers_all board all id me g = subst (λ (ps : List Turn). Holds board ps id me) (sym g.all_is) g.holds

total_claims : (x : ℕ) (ps : List Turn) → total (times x) (map (λ p. p.claims) ps) ≡ total (λ p. times x p.claims) ps
total_claims x [] = refl
total_claims x (p ∷ ps) = ap (λ n. times x p.claims + n) (total_claims x ps)

each_ascends : (ps : List Turn) → AllByRecursion (λ p. IsStrictlyIncreasing p.claims) ps → AllByRecursion IsStrictlyIncreasing (map (λ p. p.claims) ps)
each_ascends [] all = tt
each_ascends (p ∷ ps) all = (all.0, each_ascends ps all.1)

pub claimed_all : (board : Place) (ps : List Turn) (id : TableId) (me : Me ℕ Hand) (n : ℕ) → Holds board ps id me → IsCount board me.0.claims me.0.late n
    → Claimed n (map (λ p. p.claims) ps)
claimed_all board ps id me n h c =
    let counts : (x : ℕ) → total (times x) (map (λ p. p.claims) ps) ≡ once_below x n = λ x. total_claims x ps ∙ (sym (h.claims x) ∙ c.once x) in record {
      once = λ x lt. counts x ∙ once_inside x n lt;
      no_other = λ x le. counts x ∙ once_above x n le;
      ascends = each_ascends ps h.ascends;
    }
