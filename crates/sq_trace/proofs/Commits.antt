-- Which parts stay, what comes behind them, and that the rule of lengths and the ranges hold afterwards.
use Rattle.std.proofs.Common.{◌≡◌, ℕ, zero, suc, ◌+◌, ◌-◌, ◌/◌, ◌<◌, ◌≤◌, List, [], ◌∷◌, ◌++◌, take, length, get_or, ℤ, Option, None, ◌⊎◌, inl, inr, refl, sym, ap, ap₂, subst, ◌∙◌, arith}
use Rattle.sq_algebra.specs.Groups.{AbelianGroup, IsAbelian}
use Rattle.sq_trace.specs.declared.entry.Entry.{Entry}
use Rattle.sq_trace.specs.Runs.{Place, at, content, IsRun, IsTwiceAsLong, KeepsLengths, FrontsInRange, AddsUpInRange}
use Rattle.sq_trace.specs.Changes.{changed, committed}
use Rattle.sq_trace.specs.Looking.{AreAllRows}
use Rattle.sq_trace.specs.Inside.{MayStandBehind, IsSum, IsOutside, IsMerging, IsMerged}
use Rattle.sq_trace.proofs.Sums.{content-last}
use Rattle.sq_trace.proofs.Ranges.{content_next, take_all_of}

-- ---- lists
take_or_all : {X : Type 0} (n : ℕ) (xs : List X) (y : X) → (take n (xs ++ y ∷ []) ≡ take n xs) ⊎ (take n (xs ++ y ∷ []) ≡ xs ++ y ∷ [])
take_or_all zero xs y = inl refl
take_or_all (suc zero) [] y = inr refl
take_or_all (suc (suc n)) [] y = inr refl
take_or_all (suc n) (x ∷ xs) y = elim (take_or_all n xs y) [ inl e ↦ inl (ap (λ zs. x ∷ zs) e) | inr e ↦ inr (ap (λ zs. x ∷ zs) e) ]

take_take : {X : Type 0} (n m : ℕ) (xs : List X) → (k : ℕ) × (take n (take m xs) ≡ take k xs)
take_take zero m xs = (0, refl)
take_take (suc n) zero xs = (0, refl)
take_take (suc n) (suc m) [] = (0, refl)
take_take (suc n) (suc m) (x ∷ xs) = let rest = take_take n m xs in (suc rest.0, ap (λ zs. x ∷ zs) rest.1)

-- ---- ranges
pub fronts_kept : {A : Type 0} (G : AbelianGroup A) (outside : A → Option ℤ) (parts : List (List (Entry A))) (prepared : ℕ × List (Entry A)) → FrontsInRange G outside parts → AddsUpInRange G outside (committed parts prepared) → FrontsInRange G outside (committed parts prepared)
fronts_kept G outside parts prepared fronts all n p = elim (take_or_all n (take prepared.0 parts) prepared.1) [
  | inl e ↦ let shorter = take_take n prepared.0 parts in ap (λ l. outside (content G p l)) (e ∙ shorter.1) ∙ fronts shorter.0 p
  | inr e ↦ ap (λ l. outside (content G p l)) e ∙ all p
]

pub fronts_of_none : {A : Type 0} (G : AbelianGroup A) (outside : A → Option ℤ) (parts : List (List (Entry A))) → parts ≡ [] → outside G.zero ≡ None → FrontsInRange G outside parts
fronts_of_none {A} G outside parts none in_range = subst (FrontsInRange G outside) (sym none) no_front
  where
    no_front : FrontsInRange {A = A} G outside []
    no_front zero p = in_range
    no_front (suc n) p = in_range

-- ---- the rule of lengths
lengths_taken : {A : Type 0} (n : ℕ) (parts : List (List (Entry A))) → KeepsLengths parts → KeepsLengths (take n parts)
lengths_taken zero parts keeps = tt
lengths_taken (suc n) [] keeps = tt
lengths_taken (suc zero) (es ∷ []) keeps = tt
lengths_taken (suc (suc n)) (es ∷ []) keeps = tt
lengths_taken (suc zero) (es ∷ fs ∷ parts) keeps = tt
lengths_taken (suc (suc n)) (es ∷ fs ∷ parts) keeps = (keeps.0, lengths_taken (suc n) (fs ∷ parts) keeps.1)

lengths_last : {A : Type 0} (parts : List (List (Entry A))) (new : List (Entry A)) → KeepsLengths parts → MayStandBehind parts new → KeepsLengths (parts ++ new ∷ [])
lengths_last [] new keeps behind = tt
lengths_last (es ∷ []) new keeps behind = (behind, tt)
lengths_last (es ∷ fs ∷ parts) new keeps behind = (keeps.0, lengths_last (fs ∷ parts) new keeps.1 behind)

pub lengths_kept : {A : Type 0} (parts : List (List (Entry A))) (stay : ℕ) (run : List (Entry A)) → MayStandBehind (take stay parts) run → KeepsLengths parts → KeepsLengths (committed parts (stay, run))
lengths_kept parts stay run behind keeps = lengths_last (take stay parts) run (lengths_taken stay parts keeps) behind

behind_got : {A : Type 0} (parts : List (List (Entry A))) (n : ℕ) (run d : List (Entry A)) → n < length parts → IsTwiceAsLong (get_or parts n d) run → MayStandBehind (take (suc n) parts) run
behind_got [] n run d low twice = tt
behind_got (es ∷ []) zero run d low twice = twice
behind_got (es ∷ []) (suc n) run d low twice = absurd (omega arith)
behind_got (es ∷ fs ∷ parts) zero run d low twice = twice
behind_got (es ∷ fs ∷ parts) (suc n) run d low twice = behind_got (fs ∷ parts) n run d (omega arith) twice

pub behind_nothing : {A : Type 0} (parts : List (List (Entry A))) (stay : ℕ) (run : List (Entry A)) → stay ≡ 0 → MayStandBehind (take stay parts) run
behind_nothing parts stay run none = subst (λ n. MayStandBehind (take n parts) run) (sym none) tt

pub behind_older : {A : Type 0} (parts : List (List (Entry A))) (stay : ℕ) (run older : List (Entry A)) → 0 < stay → stay ≤ length parts → older ≡ get_or parts (stay - 1) older → 0 < length older → length run ≤ length older / 2 → MayStandBehind (take stay parts) run
behind_older parts stay run older some within got entries half =
    let n : ℕ = stay - 1 in
    let is : suc n ≡ stay = omega arith in
    let low : n < length parts = omega arith in
    let twice : IsTwiceAsLong older run = record { has_entries = omega arith; twice = omega arith } in
    subst (λ m. MayStandBehind (take m parts) run) is (behind_got parts n run older low (subst (λ l. IsTwiceAsLong l run) got twice))

-- ---- merging
module _ {A : Type 0} (G : AbelianGroup A) (laws : IsAbelian G) (outside : A → Option ℤ) where
  pub merging_starts : (parts : List (List (Entry A))) (change run : List (Entry A)) (stay : ℕ) → IsRun G outside change → run ≡ change → stay ≡ length parts → IsMerging G outside parts change stay run
  merging_starts parts change run stay is_run same all = record {
    stays = omega arith;
    is_run = subst (IsRun G outside) (sym same) is_run;
    sums = λ p. ap₂ (λ l es. G.plus (content G p l) (at G p es)) (ap (λ n. take n parts) all ∙ take_all_of parts) same;
  }

  pub merging_goes_on : (parts : List (List (Entry A))) (change run older entries new : List (Entry A)) (stay : ℕ) → IsMerging G outside parts change stay run → 0 < stay → older ≡ get_or parts (stay - 1) older → entries ≡ older → IsSum G outside entries run new
      → IsMerging G outside parts change (stay - 1) new
  merging_goes_on parts change run older entries new stay so_far some got same sum =
      let within = so_far.stays in
      let low : stay - 1 < length parts = omega arith in
      let is : (stay - 1) + 1 ≡ stay = omega arith in
      record {
        stays = omega arith;
        is_run = sum.is_run;
        sums = λ p. ap (G.plus (content G p (take (stay - 1) parts))) (sum.sums p ∙ ap (λ es. G.plus (at G p es) (at G p run)) same)
            ∙ sym (laws.associative (content G p (take (stay - 1) parts)) (at G p older) (at G p run))
            ∙ ap (λ x. G.plus x (at G p run)) (sym (content_next G laws p parts (stay - 1) older low got) ∙ ap (λ n. content G p (take n parts)) is)
            ∙ so_far.sums p;
      }

  -- all parts in one run, and the change with it
  pub merging_all : (parts : List (List (Entry A))) (change all new : List (Entry A)) → AreAllRows G outside parts all → IsSum G outside all change new → IsMerged G outside parts change 0 new
  merging_all parts change all new rows sum = record {
    merging = record {
      stays = omega arith;
      is_run = sum.is_run;
      sums = λ p. laws.neutral (at G p new) ∙ sum.sums p ∙ ap (λ x. G.plus x (at G p change)) (rows.held p);
    };
    lengths = tt;
  }

  pub all_in_range : (parts : List (List (Entry A))) (change all : List (Entry A)) → AreAllRows G outside parts all → ((p : Place) → outside (changed G parts change p) ≡ None) → (p : Place) → outside (G.plus (at G p all) (at G p change)) ≡ None
  all_in_range parts change all rows within p = ap (λ x. outside (G.plus x (at G p change))) (rows.held p) ∙ within p

  -- ---- what is prepared
  pub commit_sums : (parts : List (List (Entry A))) (change run : List (Entry A)) (stay : ℕ) → IsMerging G outside parts change stay run → (p : Place) → content G p (committed parts (stay, run)) ≡ changed G parts change p
  commit_sums parts change run stay merging p = content-last G laws p (take stay parts) run ∙ merging.sums p

-- a fault that can't be
pub never_outside : {A : Type 0} (G : AbelianGroup A) (outside : A → Option ℤ) (left right : List (Entry A)) (number : ℤ) → ((p : Place) → outside (G.plus (at G p left) (at G p right)) ≡ None) → IsOutside G outside left right number → ⊥
never_outside G outside left right number within fault = cc (within fault.place, fault.is_outside)
