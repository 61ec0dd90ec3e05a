-- A program text whose bytes come one after the other.
use Rattle.std.specs.Prelude.{◌==◌, ◌||◌, bytes_eq, codes}
use Rattle.std.specs.List.{flat_map, list_any}
use Rattle.std.proofs.Common.{◌≡◌, ℕ, zero, suc, ◌+◌, ◌<◌, ◌≤◌, List, [], ◌∷◌, ◌++◌, length, take, drop, Bool, true, false, refl, sym, ap, ap₂, subst, ◌∙◌, arith, append_assoc, append-nil, length-append, eqb-true}
use Rattle.std.proofs.lemmas.Grind.{flat_map-append}
use Rattle.std.proofs.lemmas.List.{drop-append-le, drop_all, take-append-drop, take-append-le, take_all}
use Rattle.std.proofs.lemmas.List.Folds.{list_any-append}
use Rattle.sq_lines.specs.Cutting.{ended, last_of, line_feed, lines_of, unfinished}
use Rattle.sq_lines.proofs.CutLemmas.{ended-append, lines_are_cut, unfinished-append}
use Rattle.sq_lines.specs.Lines.{says_commit}
use Rattle.sq_ticks.specs.Begun.{IsEnded, IsOpen}
use Rattle.sq_ticks.specs.Lines.{cut, cut_lines, has_end_line, is_end_line, lines_after_end, text_before_end, up_to_end, up_to_last, with_ends}

-- ---- lines before the first end line
neither_first : (a b : Bool) → (a || b) ≡ false → a ≡ false
neither_first true b none = none
neither_first false b none = refl

neither_second : (a b : Bool) → (a || b) ≡ false → b ≡ false
neither_second true b none = cc
neither_second false b none = none

none_first : (x : List ℕ) (xs : List (List ℕ)) → has_end_line (x ∷ xs) ≡ false → is_end_line x ≡ false
none_first x xs none = neither_first (is_end_line x) (has_end_line xs) none

none_later : (x : List ℕ) (xs : List (List ℕ)) → has_end_line (x ∷ xs) ≡ false → has_end_line xs ≡ false
none_later x xs none = neither_second (is_end_line x) (has_end_line xs) none

module _ (u : List ℕ) (ends : is_end_line u ≡ true) (ys : List (List ℕ)) where
  pub has_end : (xs : List (List ℕ)) → has_end_line xs ≡ false → has_end_line (xs ++ u ∷ ys) ≡ true
  has_end [] none = rw ends refl
  has_end (x ∷ xs) none = rw (none_first x xs none) (has_end xs (none_later x xs none))

  pub text_before : (xs : List (List ℕ)) → has_end_line xs ≡ false → text_before_end (xs ++ u ∷ ys) ≡ with_ends xs
  text_before [] none = rw ends refl
  text_before (x ∷ xs) none = rw (none_first x xs none) (ap (λ t. x ++ line_feed ∷ t) (text_before xs (none_later x xs none)) ∙ sym (append_assoc x (line_feed ∷ []) (with_ends xs)))

  pub lines_after : (xs : List (List ℕ)) → has_end_line xs ≡ false → lines_after_end (xs ++ u ∷ ys) ≡ ys
  lines_after [] none = rw ends refl
  lines_after (x ∷ xs) none = rw (none_first x xs none) (lines_after xs (none_later x xs none))

  pub up_to : (xs : List (List ℕ)) → has_end_line xs ≡ false → up_to_end (xs ++ u ∷ ys) ≡ xs ++ u ∷ []
  up_to [] none = rw ends refl
  up_to (x ∷ xs) none = rw (none_first x xs none) (ap (λ t. x ∷ t) (up_to xs (none_later x xs none)))

pub text_later : (xs ys : List (List ℕ)) → has_end_line xs ≡ false → text_before_end (xs ++ ys) ≡ with_ends xs ++ text_before_end ys
text_later [] ys none = refl
text_later (x ∷ xs) ys none =
    rw (none_first x xs none) (ap (λ t. x ++ line_feed ∷ t) (text_later xs ys (none_later x xs none)) ∙ sym (append_assoc x (line_feed ∷ with_ends xs) (text_before_end ys))
    ∙ ap (λ t. t ++ text_before_end ys) (sym (append_assoc x (line_feed ∷ []) (with_ends xs))))

pub end_later : (xs ys : List (List ℕ)) → has_end_line xs ≡ false → has_end_line (xs ++ ys) ≡ has_end_line ys
end_later xs ys none = list_any-append is_end_line xs ys ∙ ap (λ b. b || has_end_line ys) none

-- ---- one byte more
-- bytes that begin with whole lines
pub whole_front : (a more : List ℕ) → unfinished [] a ≡ [] → lines_of (a ++ more) ≡ ended [] a ++ lines_of more
whole_front a more none =
    sym (lines_are_cut (a ++ more))
    ∙ ap₂ (λ ls u. ls ++ last_of u) (ended-append [] a more ∙ ap (λ u. ended [] a ++ ended u more) none) (unfinished-append [] a more ∙ ap (λ u. unfinished u more) none)
    ∙ append_assoc (ended [] a) (ended [] more) (last_of (unfinished [] more))
    ∙ ap (λ ls. ended [] a ++ ls) (lines_are_cut more)

pub opens : (bytes : List ℕ) → bytes ≡ [] → IsOpen bytes 0
opens bytes none = subst (λ bs. IsOpen bs 0) (sym none) (record { front = refl; begun = refl; within = omega arith; none = refl })

line_ended : (bytes : List ℕ) → ended [] (bytes ++ line_feed ∷ []) ≡ ended [] bytes ++ unfinished [] bytes ∷ []
line_ended bytes = ended-append [] bytes (line_feed ∷ [])

none_left : (bytes : List ℕ) → unfinished [] (bytes ++ line_feed ∷ []) ≡ []
none_left bytes = unfinished-append [] bytes (line_feed ∷ [])

-- whole lines are all bytes
all_lines : (bytes : List ℕ) (line : ℕ) → IsOpen bytes line → with_ends (ended [] bytes ++ unfinished [] bytes ∷ []) ≡ bytes ++ line_feed ∷ []
all_lines bytes line so_far =
    let u = unfinished [] bytes in
    flat_map-append (λ l. l ++ line_feed ∷ []) (ended [] bytes) (u ∷ [])
    ∙ ap₂ (λ a b. a ++ b) so_far.front (append-nil (u ++ line_feed ∷ []) ∙ ap (λ x. x ++ line_feed ∷ []) so_far.begun)
    ∙ sym (append_assoc (take line bytes) (drop line bytes) (line_feed ∷ []))
    ∙ ap (λ x. x ++ line_feed ∷ []) (take-append-drop line bytes)

pub ends_a_line : (bytes now : List ℕ) (line : ℕ) (b : ℕ) → IsOpen bytes line → is_end_line (drop line bytes) ≡ false → b ≡ line_feed → now ≡ bytes ++ b ∷ [] → IsOpen now (length now)
ends_a_line bytes now line b so_far other feed is =
    let all : now ≡ bytes ++ line_feed ∷ [] = is ∙ ap (λ x. bytes ++ x ∷ []) feed in
    subst (λ bs. IsOpen bs (length bs)) (sym all) (record {
      front = ap with_ends (line_ended bytes) ∙ all_lines bytes line so_far ∙ sym (take_all (length (bytes ++ line_feed ∷ [])) (bytes ++ line_feed ∷ []) (omega arith));
      begun = none_left bytes ∙ sym (drop_all (length (bytes ++ line_feed ∷ [])) (bytes ++ line_feed ∷ []) (omega arith));
      within = omega arith;
      none = ap has_end_line (line_ended bytes) ∙ end_later (ended [] bytes) (unfinished [] bytes ∷ []) so_far.none ∙ ap (λ u. is_end_line u || false) so_far.begun ∙ (rw other refl);
    })

unlike : (b : ℕ) (t : Bool) → (b == line_feed) ≡ t → (b ≡ line_feed → ⊥) → (b == line_feed) ≡ false
unlike b true e other = absurd (other (eqb-true b line_feed e))
unlike b false e other = e

begins_on : (u : List ℕ) (b : ℕ) → (b == line_feed) ≡ false → (ended u (b ∷ []) ≡ []) × (unfinished u (b ∷ []) ≡ u ++ b ∷ [])
begins_on u b other = (rw other refl, rw other refl)

pub goes_on : (bytes now : List ℕ) (line : ℕ) (b : ℕ) → IsOpen bytes line → (b ≡ line_feed → ⊥) → now ≡ bytes ++ b ∷ [] → IsOpen now line
goes_on bytes now line b so_far other is =
    let u = unfinished [] bytes in
    let on = begins_on u b (unlike b (b == line_feed) refl other) in
    let same : ended [] (bytes ++ b ∷ []) ≡ ended [] bytes = ended-append [] bytes (b ∷ []) ∙ ap (λ t. ended [] bytes ++ t) on.0 ∙ append-nil (ended [] bytes) in
    subst (λ bs. IsOpen bs line) (sym is) (record {
      front = ap with_ends same ∙ so_far.front ∙ sym (take-append-le line bytes (b ∷ []) so_far.within);
      begun = unfinished-append [] bytes (b ∷ []) ∙ on.1 ∙ ap (λ x. x ++ b ∷ []) so_far.begun ∙ sym (drop-append-le line bytes (b ∷ []) so_far.within);
      within = omega (arith, so_far.within, length-append bytes (b ∷ []));
      none = ap has_end_line same ∙ so_far.none;
    })

-- ---- the end line
pub record EndsText (bytes : List ℕ) (line : ℕ) (more : List ℕ) : Type 0 where
  pub has : has_end_line (lines_of ((bytes ++ line_feed ∷ []) ++ more)) ≡ true
  pub text : take line bytes ≡ text_before_end (lines_of ((bytes ++ line_feed ∷ []) ++ more))
  pub changes : lines_after_end (lines_of ((bytes ++ line_feed ∷ []) ++ more)) ≡ lines_of more
  pub left : cut ((bytes ++ line_feed ∷ []) ++ more) ≡ (bytes ++ line_feed ∷ []) ++ with_ends (up_to_last says_commit (ended [] more))

pub ends_text : (bytes : List ℕ) (line : ℕ) (more : List ℕ) → IsEnded bytes line → EndsText bytes line more
ends_text bytes line more e =
    let so_far = e.so_far in
    let E = ended [] bytes in
    let u = unfinished [] bytes in
    let is : is_end_line u ≡ true = ap is_end_line so_far.begun ∙ e.ends in
    let front = bytes ++ line_feed ∷ [] in
    let lines : lines_of (front ++ more) ≡ E ++ u ∷ lines_of more =
    whole_front front more (none_left bytes) ∙ ap (λ ls. ls ++ lines_of more) (line_ended bytes) ∙ append_assoc E (u ∷ []) (lines_of more) in
    let closed : ended [] (front ++ more) ≡ E ++ u ∷ ended [] more =
    ended-append [] front more ∙ ap₂ (λ ls v. ls ++ ended v more) (line_ended bytes) (none_left bytes) ∙ append_assoc E (u ∷ []) (ended [] more) in
    let kept = up_to_last says_commit (ended [] more) in
    record {
      has = ap has_end_line lines ∙ has_end u is (lines_of more) E so_far.none;
      text = sym (ap text_before_end lines ∙ text_before u is (lines_of more) E so_far.none ∙ so_far.front);
      changes = ap lines_after_end lines ∙ lines_after u is (lines_of more) E so_far.none;
      left = ap cut_lines closed ∙ (rw (has_end u is (ended [] more) E so_far.none) refl)
          ∙ ap₂ (λ a b. with_ends (a ++ up_to_last says_commit b)) (up_to u is (ended [] more) E so_far.none) (lines_after u is (ended [] more) E so_far.none)
          ∙ flat_map-append (λ l. l ++ line_feed ∷ []) (E ++ u ∷ []) kept
          ∙ ap (λ t. t ++ with_ends kept) (all_lines bytes line so_far);
    }
