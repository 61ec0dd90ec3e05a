-- What workers leave, of which one after the other is placed.
use Rattle.std.proofs.Common.{◌≡◌, ℕ, zero, suc, ◌<◌, List, [], ◌∷◌, ◌++◌, All, Ok, Err, Result, IfOk, OnOk, Option, length, map, take, drop, refl, sym, ap, ◌∙◌, subst, arith, append_assoc}
use Rattle.std.proofs.lemmas.List.{map-append, append-nil}
use Rattle.std.specs.List.{AllZip}
use Rattle.sq_value.specs.declared.memory.NoMemory.{NoMemory}
use Rattle.sq_claims.specs.Claims.{Claimed, Turn, total}
use Rattle.sq_workers.specs.declared.crew.Yield.{Yield}
use Rattle.sq_workers.specs.Work.{IsYield, Leaves, filled}
use Rattle.sq_workers.proofs.Slots.{IsFull, IsSettled, IsBelow, settled_more, claims_below, all_full, filled_length}

all_inside : {A : Type 0} (P : A → Type 0) (xs ys : List A) (y : A) → All P (xs ++ y ∷ ys) → P y
all_inside P [] ys y h = h zero y (omega arith)
all_inside P (x ∷ xs) ys y h = all_inside P xs ys y (λ k d l. h (suc k) d (omega (arith, l)))

take_front : {A : Type 0} (xs ys : List A) → take (length xs) (xs ++ ys) ≡ xs
take_front [] ys = refl
take_front (x ∷ xs) ys = ap (λ (l : List _). x ∷ l) (take_front xs ys)

-- a Vec as it is after a call that had all of its slice
pub take_whole : {A : Type 0} (len : ℕ) (xs ys : List A) → len ≡ length xs → take len (xs ++ ys) ≡ xs
take_whole len xs ys is = ap (λ (k : ℕ). take k (xs ++ ys)) is ∙ take_front xs ys

pub if_ok : {T E : Type 0} (r : Result T E) (P Q : T → Type 0) → ((x : T) → P x → Q x) → IfOk r P → IfOk r Q
if_ok (Ok x) P Q f p = f x p
if_ok (Err e) P Q f p = tt

pub done_all : {A : Type 0} (done rest all : List A) → done ++ rest ≡ all → length rest ≡ 0 → done ≡ all
done_all done [] all is none = sym (append-nil done) ∙ is
done_all done (x ∷ rest) all is none = absurd (omega (arith, none))

answered : (r : Result (Unit {0}) NoMemory) (P Q : Type 0) → (P → Q) → OnOk r P → OnOk r Q
answered (Ok u) P Q f p = f p
answered (Err e) P Q f p = tt

module _ {X : Type 0} where
  -- the tasks that each claimed
  abbrev pub lists_of : List (Yield X) → List (List ℕ)
  lists_of = map (λ y. y.claims.items)

  -- All ended well, some are done, and y is the next.
  pub record IsNext (ok : ℕ → X → Type 0) (n : ℕ) (all done left rest : List (Yield X)) (y : Yield X) : Type 0 where
    pub claimed : Claimed n (lists_of all)
    pub answers : All (λ y. OnOk y.ended (AllZip ok y.claims.items y.answers.items)) all
    pub ended : All (λ y. y.ended ≡ Ok tt) all
    pub parts : done ++ left ≡ all
    pub step : left ≡ y ∷ rest

  split : (ok : ℕ → X → Type 0) (n : ℕ) (all done left rest : List (Yield X)) (y : Yield X) → IsNext ok n all done left rest y → done ++ y ∷ rest ≡ all
  split ok n all done left rest y next = sym (ap (λ (l : List (Yield X)). done ++ l) next.step) ∙ next.parts

  pub next_below : (ok : ℕ → X → Type 0) (n : ℕ) (all done left rest : List (Yield X)) (y : Yield X) → IsNext ok n all done left rest y → IsBelow n y.claims.items
  next_below ok n all done left rest y next =
      claims_below n (lists_of all) (lists_of done) (lists_of rest) y.claims.items next.claimed
      (sym (map-append (λ (y : Yield X). y.claims.items) done (y ∷ rest)) ∙ ap lists_of (split ok n all done left rest y next))

  pub next_zip : (ok : ℕ → X → Type 0) (n : ℕ) (all done left rest : List (Yield X)) (y : Yield X) → IsNext ok n all done left rest y → AllZip ok y.claims.items y.answers.items
  next_zip ok n all done left rest y next =
      let is = sym (split ok n all done left rest y next) in
      let ended = all_inside (λ (y : Yield X). y.ended ≡ Ok tt) done rest y (subst (All (λ (y : Yield X). y.ended ≡ Ok tt)) is next.ended) in
      subst (λ (r : Result (Unit {0}) NoMemory). OnOk r (AllZip ok y.claims.items y.answers.items)) ended
      (all_inside (λ (y : Yield X). OnOk y.ended (AllZip ok y.claims.items y.answers.items)) done rest y
      (subst (All (λ (y : Yield X). OnOk y.ended (AllZip ok y.claims.items y.answers.items))) is next.answers))

  pub next_parts : (ok : ℕ → X → Type 0) (n : ℕ) (all done left rest : List (Yield X)) (y : Yield X) → IsNext ok n all done left rest y → (done ++ y ∷ []) ++ rest ≡ all
  next_parts ok n all done left rest y next = append_assoc done (y ∷ []) rest ∙ split ok n all done left rest y next

  pub next_lists : (before now : List (List ℕ)) (done : List (Yield X)) (y : Yield X) → now ≡ before ++ y.claims.items ∷ [] → before ≡ lists_of done → now ≡ lists_of (done ++ y ∷ [])
  next_lists before now done y is same = is ∙ (ap (λ (l : List (List ℕ)). l ++ y.claims.items ∷ []) same ∙ sym (map-append (λ (y : Yield X). y.claims.items) done (y ∷ [])))

  -- the places as the Vec holds them, once the answers of one worker are placed
  pub placed_back : (len : ℕ) (slots now : List (Option X)) (ns : List ℕ) (xs : List X) → len ≡ length slots → now ≡ filled slots ns xs
      → take len (now ++ drop (length now) slots) ≡ filled slots ns xs
  placed_back len slots now ns xs is told =
      ap (λ (k : ℕ). take k (now ++ drop (length now) slots)) (is ∙ (sym (filled_length slots ns xs) ∙ ap length (sym told))) ∙ (take_front now (drop (length now) slots) ∙ told)

  pub next_settled : (ok : ℕ → X → Type 0) (n : ℕ) (all done left rest : List (Yield X)) (y : Yield X) (slots now : List (Option X)) → IsNext ok n all done left rest y
      → length slots ≡ n → IsSettled ok slots (lists_of done) → now ≡ filled slots y.claims.items y.answers.items → IsSettled ok now (lists_of (done ++ y ∷ []))
  next_settled ok n all done left rest y slots now next long settled is =
      let below = next_below ok n all done left rest y next in
      subst (λ (l : List (List ℕ)). IsSettled ok now l) (sym (map-append (λ (y : Yield X). y.claims.items) done (y ∷ [])))
      (subst (λ (l : List (Option X)). IsSettled ok l (lists_of done ++ y.claims.items ∷ [])) (sym is)
      (settled_more ok slots (lists_of done) y.claims.items y.answers.items (next_zip ok n all done left rest y next) (λ x p. let b = below x p in omega (arith, b, long)) settled))

  pub placed_full : (ok : ℕ → X → Type 0) (n : ℕ) (all done : List (Yield X)) (slots : List (Option X)) → Claimed n (lists_of all) → done ≡ all → IsSettled ok slots (lists_of done)
      → (i : ℕ) → i < n → IsFull ok slots i
  placed_full ok n all done slots claimed is settled i lt = all_full ok n slots (lists_of done) (subst (λ (l : List (Yield X)). Claimed n (lists_of l)) (sym is) claimed) settled i lt

  -- what workers with these passes left, if they had the memory for all
  pub yields_claims : (ok : ℕ → X → Type 0) (turns : List Turn) (ys : List (Yield X)) → AllZip (IsYield ok) turns ys → All (λ y. y.ended ≡ Ok tt) ys → map (λ t. t.claims) turns ≡ lists_of ys
  yields_claims ok [] [] all ended = refl
  yields_claims ok [] (y ∷ ys) all ended = absurd all
  yields_claims ok (t ∷ ts) [] all ended = absurd all
  yields_claims ok (t ∷ ts) (y ∷ ys) all ended =
      let one = subst (λ (r : Result (Unit {0}) NoMemory). OnOk r (Leaves ok t y.claims.items y.answers.items)) (ended zero y (omega arith)) all.0 in
      ap (λ (l : List ℕ). l ∷ map (λ t. t.claims) ts) (sym one.claims_are) ∙ ap (λ (l : List (List ℕ)). y.claims.items ∷ l) (yields_claims ok ts ys all.1 (λ k d l. ended (suc k) d (omega (arith, l))))

  -- if there are any, then some word was found late
  pub yields_late : (ok : ℕ → X → Type 0) (turns : List Turn) (ys : List (Yield X)) → AllZip (IsYield ok) turns ys → All (λ y. y.ended ≡ Ok tt) ys → 0 < length turns → 0 < total (λ t. length t.late) turns
  yields_late ok [] ys all ended some = absurd (omega (arith, some))
  yields_late ok (t ∷ ts) [] all ended some = absurd all
  yields_late ok (t ∷ ts) (y ∷ ys) all ended some =
      let one = subst (λ (r : Result (Unit {0}) NoMemory). OnOk r (Leaves ok t y.claims.items y.answers.items)) (ended zero y (omega arith)) all.0 in
      let late = one.late in omega (arith, late)

  pub yields_count : (ok : ℕ → X → Type 0) (turns : List Turn) (ys : List (Yield X)) → AllZip (IsYield ok) turns ys → length ys ≡ length turns
  yields_count ok [] [] all = refl
  yields_count ok [] (y ∷ ys) all = absurd all
  yields_count ok (t ∷ ts) [] all = absurd all
  yields_count ok (t ∷ ts) (y ∷ ys) all = ap suc (yields_count ok ts ys all.1)

  pub yields_answers : (ok : ℕ → X → Type 0) (turns : List Turn) (ys : List (Yield X)) → AllZip (IsYield ok) turns ys → All (λ y. OnOk y.ended (AllZip ok y.claims.items y.answers.items)) ys
  yields_answers ok [] [] all k d lt = absurd (omega (arith, lt))
  yields_answers ok [] (y ∷ ys) all k d lt = absurd all
  yields_answers ok (t ∷ ts) [] all k d lt = absurd all
  yields_answers ok (t ∷ ts) (y ∷ ys) all zero d lt = answered y.ended (Leaves ok t y.claims.items y.answers.items) (AllZip ok y.claims.items y.answers.items) (λ l. l.answered) all.0
  yields_answers ok (t ∷ ts) (y ∷ ys) all (suc k) d lt = yields_answers ok ts ys all.1 k d (omega (arith, lt))

  -- all tasks are claimed, if all had the memory for it
  pub yields_claimed : (ok : ℕ → X → Type 0) (turns : List Turn) (ys : List (Yield X)) (n tasks : ℕ) → AllZip (IsYield ok) turns ys → 0 < length turns → Claimed n (map (λ t. t.claims) turns)
      → (0 < total (λ t. length t.late) turns → n ≡ tasks) → All (λ y. y.ended ≡ Ok tt) ys → Claimed tasks (lists_of ys)
  yields_claimed ok turns ys n tasks all some claimed full ended =
      subst (λ (k : ℕ). Claimed k (lists_of ys)) (full (yields_late ok turns ys all ended some)) (subst (Claimed n) (yields_claims ok turns ys all ended) claimed)
