-- What is left of change lines that are cut off behind the last commit line.
use Rattle.std.specs.Prelude.{◌==◌, ◌||◌, map}
use Rattle.std.specs.List.{AllByRecursion, enumerate_from, flat_map, list_any}
use Rattle.std.proofs.Common.{◌≡◌, ℕ, ◌+◌, List, [], ◌∷◌, ◌++◌, length, Bool, true, false, refl, sym, ap, ap₂, subst, ◌∙◌, arith, append_assoc, append-nil}
use Rattle.std.proofs.lemmas.List.Folds.{list_any-append}
use Rattle.sq_lines.specs.Cutting.{ended, last_of, line_feed, lines_of, unfinished}
use Rattle.sq_lines.proofs.CutLemmas.{ended-append, lines_are_cut, unfinished-append}
use Rattle.sq_ticks.specs.Lines.{up_to_last, with_ends}

-- ---- lines without a line feed
abbrev has_feed : List ℕ → Bool
has_feed line = list_any (λ b. b == line_feed) line

abbrev AreLines : List (List ℕ) → Type 0
AreLines lines = AllByRecursion (λ line. has_feed line ≡ false) lines

feed_behind : (line : List ℕ) (b : ℕ) → has_feed line ≡ false → (b == line_feed) ≡ false → has_feed (line ++ b ∷ []) ≡ false
feed_behind line b none other = list_any-append (λ x. x == line_feed) line (b ∷ []) ∙ (rw (none, other) refl)

ended_in_front : (t : Bool) (b : ℕ) (begun bs : List ℕ) → (b == line_feed) ≡ t → has_feed begun ≡ false → AreLines (ended [] bs) → (t ≡ false → AreLines (ended (begun ++ b ∷ []) bs))
    → AreLines (ended begun (b ∷ bs))
ended_in_front true b begun bs e none fresh on = rw e (none, fresh)
ended_in_front false b begun bs e none fresh on = rw e (on refl)

ended_are_lines : (begun bs : List ℕ) → has_feed begun ≡ false → AreLines (ended begun bs)
ended_are_lines begun [] none = tt
ended_are_lines begun (b ∷ bs) none =
    ended_in_front _ b begun bs refl none (ended_are_lines [] bs refl) (λ other. ended_are_lines (begun ++ b ∷ []) bs (feed_behind begun b none other))

up_to_last_are_lines : (f : List ℕ → Bool) (lines : List (List ℕ)) → AreLines lines → AreLines (up_to_last f lines)
up_to_last_are_lines f [] are = tt
up_to_last_are_lines f (line ∷ lines) are = by (list_any f (line ∷ lines)) refl (up_to_last_are_lines f lines are.1) where
  by : (t : Bool) → list_any f (line ∷ lines) ≡ t → AreLines (up_to_last f lines) → AreLines (up_to_last f (line ∷ lines))
  by true e on = rw e (are.0, on)
  by false e on = rw e tt

-- ---- such lines, each with its line feed, are cut into the same lines
onto_line : (t : Bool) (b : ℕ) (begun line : List ℕ) → (b == line_feed) ≡ t → t ≡ false → (ended (begun ++ b ∷ []) line ≡ []) × (unfinished (begun ++ b ∷ []) line ≡ (begun ++ b ∷ []) ++ line)
    → (ended begun (b ∷ line) ≡ []) × (unfinished begun (b ∷ line) ≡ begun ++ b ∷ line)
onto_line true b begun line e not on = absurd (cc not)
onto_line false b begun line e not on = (rw e on.0, rw e (on.1 ∙ append_assoc begun (b ∷ []) line))

first_none : (a b : Bool) → (a || b) ≡ false → a ≡ false
first_none true b none = none
first_none false b none = refl

later_none : (a b : Bool) → (a || b) ≡ false → b ≡ false
later_none true b none = cc
later_none false b none = none

uncut_line : (begun line : List ℕ) → has_feed line ≡ false → (ended begun line ≡ []) × (unfinished begun line ≡ begun ++ line)
uncut_line begun [] none = (refl, sym (append-nil begun))
uncut_line begun (b ∷ line) none =
    onto_line _ b begun line refl (first_none (b == line_feed) (has_feed line) none) (uncut_line (begun ++ b ∷ []) line (later_none (b == line_feed) (has_feed line) none))

line_with_end : (line rest : List ℕ) → has_feed line ≡ false
    → (ended [] ((line ++ line_feed ∷ []) ++ rest) ≡ line ∷ ended [] rest) × (unfinished [] ((line ++ line_feed ∷ []) ++ rest) ≡ unfinished [] rest)
line_with_end line rest none =
    let cut = uncut_line [] line none in
    let assoc = append_assoc line (line_feed ∷ []) rest in (
      ap (ended []) assoc ∙ ended-append [] line (line_feed ∷ rest) ∙ ap₂ (λ ls u. ls ++ ended u (line_feed ∷ rest)) cut.0 cut.1,
      ap (unfinished []) assoc ∙ unfinished-append [] line (line_feed ∷ rest) ∙ ap (λ u. unfinished u (line_feed ∷ rest)) cut.1,
    )

lines_with_ends : (lines : List (List ℕ)) → AreLines lines → (ended [] (with_ends lines) ≡ lines) × (unfinished [] (with_ends lines) ≡ [])
lines_with_ends [] are = (refl, refl)
lines_with_ends (line ∷ lines) are =
    let on = lines_with_ends lines are.1 in
    let front = line_with_end line (with_ends lines) are.0 in
    (front.0 ∙ ap (λ ls. line ∷ ls) on.0, front.1 ∙ on.1)

-- the lines of what is left
pub lines_left : (f : List ℕ → Bool) (bytes : List ℕ) → lines_of (with_ends (up_to_last f (ended [] bytes))) ≡ up_to_last f (ended [] bytes)
lines_left f bytes =
    let kept = up_to_last f (ended [] bytes) in
    let cut = lines_with_ends kept (up_to_last_are_lines f (ended [] bytes) (ended_are_lines [] bytes refl)) in
    sym (lines_are_cut (with_ends kept)) ∙ ap₂ (λ ls u. ls ++ last_of u) cut.0 cut.1 ∙ append-nil kept

-- ---- up to the last
module _ {A : Type 0} (f : A → Bool) where
  any_behind : (xs : List A) (x : A) → list_any f (xs ++ x ∷ []) ≡ (list_any f xs || (f x || false))
  any_behind xs x = list_any-append f xs (x ∷ [])

  true_behind : (a : Bool) → (a || (true || false)) ≡ true
  true_behind true = refl
  true_behind false = refl

  same_behind : (a : Bool) → (a || (false || false)) ≡ a
  same_behind true = refl
  same_behind false = refl

  pub passed_last : (xs : List A) (x : A) → f x ≡ true → up_to_last f (xs ++ x ∷ []) ≡ xs ++ x ∷ []
  passed_last [] x e = rw e refl
  passed_last (y ∷ xs) x e =
      let any : list_any f (y ∷ (xs ++ x ∷ [])) ≡ true = any_behind (y ∷ xs) x ∙ ap (λ b. list_any f (y ∷ xs) || (b || false)) e ∙ true_behind (list_any f (y ∷ xs)) in
      rw any (ap (λ zs. y ∷ zs) (passed_last xs x e))

  pub failed_last : (xs : List A) (x : A) → f x ≡ false → up_to_last f (xs ++ x ∷ []) ≡ up_to_last f xs
  failed_last [] x e = rw e refl
  failed_last (y ∷ xs) x e = by (list_any f (y ∷ xs)) refl (failed_last xs x e) where
    by : (t : Bool) → list_any f (y ∷ xs) ≡ t → up_to_last f (xs ++ x ∷ []) ≡ up_to_last f xs → up_to_last f (y ∷ (xs ++ x ∷ [])) ≡ up_to_last f (y ∷ xs)
    by t on same =
        let any : list_any f (y ∷ (xs ++ x ∷ [])) ≡ t = any_behind (y ∷ xs) x ∙ ap (λ b. list_any f (y ∷ xs) || (b || false)) e ∙ same_behind (list_any f (y ∷ xs)) ∙ on in
        if_same t any on (ap (λ zs. y ∷ zs) same) where
          if_same : (t : Bool) → list_any f (y ∷ (xs ++ x ∷ [])) ≡ t → list_any f (y ∷ xs) ≡ t → y ∷ up_to_last f (xs ++ x ∷ []) ≡ y ∷ up_to_last f xs
              → up_to_last f (y ∷ (xs ++ x ∷ [])) ≡ up_to_last f (y ∷ xs)
          if_same true a b s = rw (a, b) s
          if_same false a b s = rw (a, b) refl

-- of numbered lines as of what they say
module _ {A B : Type 0} (h : A → Bool) (f : B → Bool) (g : ℕ → A → B) (agree : (n : ℕ) (x : A) → f (g n x) ≡ h x) where
  any_said : (n : ℕ) (xs : List A) → list_any f (map (λ (l : ℕ × A). g l.0 l.1) (enumerate_from n xs)) ≡ list_any h xs
  any_said n [] = refl
  any_said n (x ∷ xs) = ap₂ (λ a b. a || b) (agree n x) (any_said (n + 1) xs)

  pub said_up_to_last : (n : ℕ) (xs : List A) → up_to_last f (map (λ (l : ℕ × A). g l.0 l.1) (enumerate_from n xs)) ≡ map (λ (l : ℕ × A). g l.0 l.1) (enumerate_from n (up_to_last h xs))
  said_up_to_last n [] = refl
  said_up_to_last n (x ∷ xs) = by (list_any h (x ∷ xs)) refl (said_up_to_last (n + 1) xs) where
    by : (t : Bool) → list_any h (x ∷ xs) ≡ t → up_to_last f (map (λ (l : ℕ × A). g l.0 l.1) (enumerate_from (n + 1) xs)) ≡ map (λ (l : ℕ × A). g l.0 l.1) (enumerate_from (n + 1) (up_to_last h xs))
        → up_to_last f (map (λ (l : ℕ × A). g l.0 l.1) (enumerate_from n (x ∷ xs))) ≡ map (λ (l : ℕ × A). g l.0 l.1) (enumerate_from n (up_to_last h (x ∷ xs)))
    by true e on = rw (any_said n (x ∷ xs) ∙ e, e) (ap (λ zs. g n x ∷ zs) on)
    by false e on = rw (any_said n (x ∷ xs) ∙ e, e) refl
