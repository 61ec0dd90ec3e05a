-- Places that take the answers to tasks, and lists of tasks.
use Rattle.std.proofs.Common.{◌≡◌, ℕ, Bool, zero, suc, ◌+◌, ◌<◌, ◌≤◌, ◌==◌, true, false, List, [], ◌∷◌, ◌++◌, All, Option, Some, None, IsSome, if◌then◌else◌, length, map, take, set, get_or, refl, sym, ap, ◌∙◌, subst, arith, eq-eqb, ne_eqb, lt_of_not-le}
use Rattle.std.proofs.lemmas.List.{get_or_default, get_or-set_same, get_or-set_other, length-map, length-set, take_more}
use Rattle.std.specs.List.{AllZip}
use Rattle.std.specs.Option.{IsSomeAnd}
use mathlib.Core.Logic.{dite}
use native.Mathlib.Decide.{ℕ_discrete, dec_le, dec_lt}
use Rattle.sq_claims.specs.Claims.{Claimed, total, times}
use Rattle.sq_claims.proofs.Totals.{total_append}
use Rattle.sq_workers.specs.Levels.{IsAnswered}
use Rattle.sq_workers.specs.Work.{filled}

-- the place of i has an answer that passes
abbrev pub IsFull : {X : Type 0} → (ℕ → X → Type 0) → List (Option X) → ℕ → Type 0
IsFull ok slots i = IsSomeAnd (get_or slots i None) (ok i)

-- each number in the lists has one
abbrev pub IsSettled : {X : Type 0} → (ℕ → X → Type 0) → List (Option X) → List (List ℕ) → Type 0
IsSettled ok slots lists = (x : ℕ) → 0 < total (times x) lists → IsFull ok slots x

-- each number in the list is below n
abbrev pub IsBelow : ℕ → List ℕ → Type 0
IsBelow n ns = (x : ℕ) → 0 < times x ns → x < n

-- a list's first number stands in it
pub here : (n : ℕ) (ns : List ℕ) → 0 < times n (n ∷ ns)
here n ns = let e : (n == n) ≡ true = eq-eqb n n refl in rw e (omega arith)

below_all : (n : ℕ) (ns : List ℕ) → IsBelow n ns → All (λ i. i < n) ns
below_all n [] below k d lt = absurd (omega (arith, lt))
below_all n (m ∷ ns) below zero d lt = below m (here m ns)
below_all n (m ∷ ns) below (suc k) d lt = below_all n ns (λ x p. below x (omega (arith, p))) k d (omega (arith, lt))

pub zip_length : {A B : Type 0} (R : A → B → Type 0) (xs : List A) (ys : List B) → AllZip R xs ys → length ys ≡ length xs
zip_length R [] [] all = refl
zip_length R [] (y ∷ ys) all = absurd all
zip_length R (x ∷ xs) [] all = absurd all
zip_length R (x ∷ xs) (y ∷ ys) all = ap suc (zip_length R xs ys all.1)

take_length : (k : ℕ) (ns : List ℕ) → k ≤ length ns → length (take k ns) ≡ k
take_length zero ns le = refl
take_length (suc k) [] le = absurd (omega (arith, le))
take_length (suc k) (n ∷ ns) le = ap suc (take_length k ns (omega (arith, le)))

none_of : (k : ℕ) → (0 < k → ⊥) → k ≡ 0
none_of zero not = refl
none_of (suc k) not = absurd (not (omega arith))

module _ {X : Type 0} where
  pub filled_length : (slots : List (Option X)) (ns : List ℕ) (xs : List X) → length (filled slots ns xs) ≡ length slots
  filled_length slots [] xs = refl
  filled_length slots (n ∷ ns) [] = refl
  filled_length slots (n ∷ ns) (x ∷ xs) = length-set (filled slots ns xs) n (Some x) ∙ filled_length slots ns xs

  -- the last number's place is the first to take its answer
  filled_last : (slots : List (Option X)) (ns : List ℕ) (xs : List X) (n : ℕ) (x : X) → length xs ≡ length ns
      → filled slots (ns ++ n ∷ []) (xs ++ x ∷ []) ≡ filled (set slots n (Some x)) ns xs
  filled_last slots [] [] n x is = refl
  filled_last slots [] (y ∷ xs) n x is = absurd (omega (arith, is))
  filled_last slots (m ∷ ns) [] n x is = absurd (omega (arith, is))
  filled_last slots (m ∷ ns) (y ∷ xs) n x is = ap (λ (l : List (Option X)). set l m (Some y)) (filled_last slots ns xs n x (omega (arith, is)))

  -- one answer less to place
  pub filled_on : (slots all : List (Option X)) (numbers : List ℕ) (before left : List X) (m k j : ℕ) (x : X) → before ≡ left ++ x ∷ [] → k ≡ length left → m ≡ k + 1 → j ≡ k
      → m ≤ length numbers → filled slots (take m numbers) before ≡ all → filled (set slots (get_or numbers j 0) (Some x)) (take k numbers) left ≡ all
  filled_on slots all numbers before left m k j x is count more same le told =
      let n = get_or numbers k 0 in
      let front : take m numbers ≡ take k numbers ++ n ∷ [] = ap (λ (i : ℕ). take i numbers) more ∙ take_more numbers k 0 (omega (arith, le, more)) in
      let long : length left ≡ length (take k numbers) = sym count ∙ sym (take_length k numbers (omega (arith, le, more))) in
      ap (λ (i : ℕ). filled (set slots (get_or numbers i 0) (Some x)) (take k numbers) left) same
      ∙ (sym (filled_last slots (take k numbers) left n x long)
      ∙ (ap (λ (l : List ℕ). filled slots l (left ++ x ∷ [])) (sym front)
      ∙ (ap (filled slots (take m numbers)) (sym is) ∙ told)))

  module _ (ok : ℕ → X → Type 0) where
    full_set : (slots : List (Option X)) (n : ℕ) (x : X) → n < length slots → ok n x → IsFull ok (set slots n (Some x)) n
    full_set slots n x lt fine = subst (λ (o : Option X). IsSomeAnd o (ok n)) (sym (get_or-set_same slots n (Some x) None lt)) fine

    full_kept : (slots : List (Option X)) (n i : ℕ) (x : X) → n < length slots → ok n x → IsFull ok slots i → IsFull ok (set slots n (Some x)) i
    full_kept slots n i x lt fine full = dite (ℕ_discrete i n)
        (λ q. subst (IsFull ok (set slots n (Some x))) (sym q) (full_set slots n x lt fine))
        (λ q. subst (λ (o : Option X). IsSomeAnd o (ok i)) (sym (get_or-set_other slots n i (Some x) None q)) full)

    full_old : (slots : List (Option X)) (ns : List ℕ) (xs : List X) (i : ℕ) → AllZip ok ns xs → IsBelow (length slots) ns → IsFull ok slots i → IsFull ok (filled slots ns xs) i
    full_old slots [] xs i all below full = full
    full_old slots (n ∷ ns) [] i all below full = full
    full_old slots (n ∷ ns) (x ∷ xs) i all below full =
        let long = filled_length slots ns xs in let first = below n (here n ns) in
        full_kept (filled slots ns xs) n i x (omega (arith, long, first)) all.0 (full_old slots ns xs i all.1 (λ y p. below y (omega (arith, p))) full)

    full_new : (slots : List (Option X)) (ns : List ℕ) (xs : List X) (i : ℕ) → AllZip ok ns xs → IsBelow (length slots) ns → 0 < times i ns → IsFull ok (filled slots ns xs) i
    full_new slots [] xs i all below some = absurd (omega (arith, some))
    full_new slots (n ∷ ns) [] i all below some = absurd all
    full_new slots (n ∷ ns) (x ∷ xs) i all below some =
        let long = filled_length slots ns xs in let first = below n (here n ns) in let lt : n < length (filled slots ns xs) = omega (arith, long, first) in
        dite (ℕ_discrete i n)
        (λ q. subst (IsFull ok (set (filled slots ns xs) n (Some x))) (sym q) (full_set (filled slots ns xs) n x lt all.0))
        (λ q. full_kept (filled slots ns xs) n i x lt all.0 (full_new slots ns xs i all.1 (λ y p. below y (omega (arith, p))) (rest q some)))
      where
        rest : (i ≡ n → ⊥) → 0 < times i (n ∷ ns) → 0 < times i ns
        rest q p = let e : (n == i) ≡ false = ne_eqb n i (λ r. q (sym r)) in omega (arith, subst (λ (b : Bool). 0 < (if b then 1 else 0) + times i ns) e p)

    -- one more list of tasks, with its answers
    pub settled_more : (slots : List (Option X)) (lists : List (List ℕ)) (ns : List ℕ) (xs : List X) → AllZip ok ns xs → IsBelow (length slots) ns → IsSettled ok slots lists
        → IsSettled ok (filled slots ns xs) (lists ++ ns ∷ [])
    settled_more slots lists ns xs all below settled i some =
        let t = total_append (times i) lists (ns ∷ []) in dite (dec_lt 0 (times i ns))
        (λ p. full_new slots ns xs i all below p)
        (λ not. let none = none_of (times i ns) not in full_old slots ns xs i all below (settled i (omega (arith, t, none, some))))

    pub all_full : (n : ℕ) (slots : List (Option X)) (lists : List (List ℕ)) → Claimed n lists → IsSettled ok slots lists → (i : ℕ) → i < n → IsFull ok slots i
    all_full n slots lists claimed settled i lt = let one = claimed.once i lt in settled i (omega (arith, one))

    some_of : (o : Option X) (P : X → Type 0) → IsSomeAnd o P → IsSome o
    some_of None P h = absurd h
    some_of (Some x) P h = refl

    pub all_some : (slots : List (Option X)) → ((i : ℕ) → i < length slots → IsFull ok slots i) → All (λ slot. IsSome slot) slots
    all_some slots full k d lt = subst (λ (o : Option X). IsSome o) (get_or_default slots k None d lt) (some_of (get_or slots k None) (ok k) (full k lt))

  some_at : (items : List X) (i : ℕ) (d : X) → i < length items → get_or (map Some items) i None ≡ Some (get_or items i d)
  some_at [] i d lt = absurd (omega (arith, lt))
  some_at (x ∷ items) zero d lt = refl
  some_at (x ∷ items) (suc i) d lt = some_at items i d (omega (arith, lt))

  pub answered_all : (ok : ℕ → X → Type 0) (n : ℕ) (slots : List (Option X)) (items : List X) → length slots ≡ n → map Some items ≡ slots → ((i : ℕ) → i < n → IsFull ok slots i)
      → IsAnswered ok n items
  answered_all ok n slots items long is full =
      let count : length items ≡ n = sym (length-map items Some) ∙ (ap length is ∙ long) in record {
        count = count;
        each = λ i d lt. subst (λ (o : Option X). IsSomeAnd o (ok i)) (ap (λ (l : List (Option X)). get_or l i None) (sym is) ∙ some_at items i d (omega (arith, lt, count))) (full i lt);
      }

-- what is claimed is a task
pub claims_below : (n : ℕ) (lists before after : List (List ℕ)) (ns : List ℕ) → Claimed n lists → before ++ ns ∷ after ≡ lists → IsBelow n ns
claims_below n lists before after ns claimed is x some = dite (dec_le n x)
    (λ le.
    let none = ap (total (times x)) is ∙ claimed.no_other x le in
    let t = total_append (times x) before (ns ∷ after) in absurd (omega (arith, none, t, some)))
    (λ no. lt_of_not-le no)

pub places_of : (n long : ℕ) (ns : List ℕ) → IsBelow n ns → long ≡ n → All (λ i. i < long) ns
places_of n long ns below is = below_all long ns (λ x p. let b = below x p in omega (arith, b, is))
