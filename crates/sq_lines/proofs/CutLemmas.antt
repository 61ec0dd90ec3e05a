-- How bytes are cut into lines, piece by piece.
use Rattle.std.specs.Prelude.{◌==◌, is_some, min, not, take}
use Rattle.std.proofs.Common.{◌≡◌, ℕ, zero, suc, ◌+◌, ◌-◌, ◌<◌, ◌≤◌, List, [], ◌∷◌, ◌++◌, length, get_or, drop, Bool, true, false, Option, Some, None, refl, sym, ap, subst, ◌∙◌, arith, append_assoc, append-nil, length-drop}
use Rattle.std.specs.List.{position}
use Rattle.std.proofs.lemmas.List.{take_all}
use Rattle.std.proofs.lemmas.List.Quantifiers.{position-Some}
use Rattle.std.proofs.Math.Seq.{take-append-add}
use Rattle.sq_lines.specs.declared.line.RawLine.{RawLine}
use Rattle.sq_lines.proofs.Places.{position-None}
use Rattle.sq_lines.specs.Cutting.{Cutting, answer, ended, fed, kept, last_of, line_feed, lines_of, most_kept, onto_first_line, raw_lines, unfinished}

-- ---- the bytes up to a line feed end a line
ended_on : (begun : List ℕ) (b : ℕ) (bs : List ℕ) → (b == line_feed) ≡ false → ended begun (b ∷ bs) ≡ ended (begun ++ b ∷ []) bs
ended_on begun b bs is = rw is refl

unfinished_on : (begun : List ℕ) (b : ℕ) (bs : List ℕ) → (b == line_feed) ≡ false → unfinished begun (b ∷ bs) ≡ unfinished (begun ++ b ∷ []) bs
unfinished_on begun b bs is = rw is refl

ended-cut : (begun bs : List ℕ) (i : ℕ) → i < length bs → (get_or bs i 0 == line_feed) ≡ true → ((k : ℕ) → k < i → (get_or bs k 0 == line_feed) ≡ false)
    → ended begun bs ≡ (begun ++ take i bs) ∷ ended [] (drop (suc i) bs)
ended-cut begun [] i lt at before = absurd (omega arith)
ended-cut begun (b ∷ bs) zero lt at before = rw at (ap (λ l. l ∷ ended [] bs) (sym (append-nil begun)))
ended-cut begun (b ∷ bs) (suc i) lt at before =
    ended_on begun b bs (before 0 (omega arith))
    ∙ ended-cut (begun ++ b ∷ []) bs i (omega arith) at (λ k h. before (suc k) (omega arith))
    ∙ ap (λ l. l ∷ ended [] (drop (suc i) bs)) (append_assoc begun (b ∷ []) (take i bs))

unfinished-cut : (begun bs : List ℕ) (i : ℕ) → i < length bs → (get_or bs i 0 == line_feed) ≡ true → ((k : ℕ) → k < i → (get_or bs k 0 == line_feed) ≡ false)
    → unfinished begun bs ≡ unfinished [] (drop (suc i) bs)
unfinished-cut begun [] i lt at before = absurd (omega arith)
unfinished-cut begun (b ∷ bs) zero lt at before = rw at refl
unfinished-cut begun (b ∷ bs) (suc i) lt at before =
    unfinished_on begun b bs (before 0 (omega arith))
    ∙ unfinished-cut (begun ++ b ∷ []) bs i (omega arith) at (λ k h. before (suc k) (omega arith))

ended-whole : (begun bs : List ℕ) → ((k : ℕ) → k < length bs → (get_or bs k 0 == line_feed) ≡ false) → ended begun bs ≡ []
ended-whole begun [] none = refl
ended-whole begun (b ∷ bs) none = ended_on begun b bs (none 0 (omega arith)) ∙ ended-whole (begun ++ b ∷ []) bs (λ k h. none (suc k) (omega arith))

unfinished-whole : (begun bs : List ℕ) → ((k : ℕ) → k < length bs → (get_or bs k 0 == line_feed) ≡ false) → unfinished begun bs ≡ begun ++ bs
unfinished-whole begun [] none = sym (append-nil begun)
unfinished-whole begun (b ∷ bs) none =
    unfinished_on begun b bs (none 0 (omega arith))
    ∙ unfinished-whole (begun ++ b ∷ []) bs (λ k h. none (suc k) (omega arith))
    ∙ append_assoc begun (b ∷ []) bs

-- a piece with a line feed at i
pub record IsCutAt (begun piece : List ℕ) (i : ℕ) : Type 0 where
  pub lines : ended begun piece ≡ (begun ++ take i piece) ∷ ended [] (drop (i + 1) piece)
  pub left : unfinished begun piece ≡ unfinished [] (drop (i + 1) piece)

pub cut_at : (begun piece : List ℕ) (i : ℕ) → position (λ b. b == line_feed) piece ≡ Some i → IsCutAt begun piece i
cut_at begun piece i e =
    let at = position-Some (λ b. b == line_feed) piece i 0 e in
    let next : suc i ≡ i + 1 = omega arith in
    record {
      lines = subst (λ n. ended begun piece ≡ (begun ++ take i piece) ∷ ended [] (drop n piece)) next (ended-cut begun piece i at.0 at.1 at.2);
      left = subst (λ n. unfinished begun piece ≡ unfinished [] (drop n piece)) next (unfinished-cut begun piece i at.0 at.1 at.2);
    }

-- a piece without one
pub record IsUncut (begun piece : List ℕ) : Type 0 where
  pub lines : ended begun piece ≡ []
  pub left : unfinished begun piece ≡ begun ++ piece

pub uncut_piece : (begun piece : List ℕ) → position (λ b. b == line_feed) piece ≡ None → IsUncut begun piece
uncut_piece begun piece e =
    let none = position-None (λ b. b == line_feed) piece 0 e in
    record { lines = ended-whole begun piece none; left = unfinished-whole begun piece none }

-- ---- what is kept of a line
take_none : (n : ℕ) → take {A = ℕ} n [] ≡ []
take_none zero = refl
take_none (suc n) = refl

take_min : (ys : List ℕ) (room n : ℕ) → n ≡ min (length ys) room → take n ys ≡ take room ys
take_min [] room n m = take_none n ∙ sym (take_none room)
take_min (y ∷ ys) zero n m = let none : n ≡ 0 = omega (arith, m) in ap (λ k. take k (y ∷ ys)) none
take_min (y ∷ ys) (suc room) zero m = absurd (omega (arith, m))
take_min (y ∷ ys) (suc room) (suc n) m = ap (λ zs. y ∷ zs) (take_min ys room n (omega (arith, m)))

pub kept_more : (old bytes : List ℕ) (room n : ℕ) → length old ≤ most_kept → room ≡ most_kept - length old → n ≡ min (length bytes) room
    → old ++ take n bytes ≡ kept (old ++ bytes)
kept_more old bytes room n le r m =
    let whole : length old + room ≡ most_kept = omega (arith, r, le) in
    ap (λ xs. old ++ xs) (take_min bytes room n m) ∙ sym (take-append-add old bytes room) ∙ ap (λ k. take k (old ++ bytes)) whole

pub kept_short : (line : List ℕ) → length line ≤ most_kept → kept line ≡ line
kept_short line le = take_all most_kept line le

-- the line that is left at the end
pub one_left : (handed : ℕ) (begun : List ℕ) (number : ℕ) → length begun ≤ most_kept → (length begun == 0) ≡ false → number ≡ handed + 1
    → raw_lines handed (last_of begun) ≡ record { number = number; bytes = begun } ∷ []
one_left handed [] number le some is = absurd (cc)
one_left handed (b ∷ bs) number le some is = rw is (ap (λ bytes. record { number = handed + 1; bytes = bytes } ∷ []) (kept_short (b ∷ bs) le))

length_kept : (n : ℕ) (line : List ℕ) → length (take n line) ≤ n
length_kept zero line = omega arith
length_kept (suc n) [] = omega arith
length_kept (suc n) (b ∷ bs) = let le : length (take n bs) ≤ n = length_kept n bs in omega (arith, le)

pub is_short : (line old : List ℕ) → line ≡ kept old → length line ≤ most_kept
is_short line old e = subst (λ l. length l ≤ most_kept) (sym e) (length_kept most_kept old)

pub nowhere : (r : Option ℕ) → ((i : ℕ) → r ≡ Some i → ⊥) → r ≡ None
nowhere None none = refl
nowhere (Some i) none = absurd (none i refl)

pub none_there : (r : Option ℕ) (t : Bool) → is_some r ≡ not t → t ≡ true → r ≡ None
none_there None t e is = refl
none_there (Some i) t e is = absurd (cc)

-- ---- a turn of the loop
-- where the cutting of a piece stands: these lines are handed over, and a line with these bytes began before the rest
pub record Cuts (self : Cutting) (piece : List ℕ) (lines : List RawLine) (handed : ℕ) (begun rest : List ℕ) : Type 0 where
  pub told : answer self piece ≡ lines ++ raw_lines handed (ended begun rest)
  pub left : unfinished self.begun piece ≡ unfinished begun rest
  pub counted : self.handed + length (ended self.begun piece) ≡ handed + length (ended begun rest)
  pub short : length begun ≤ most_kept
  pub fewer : handed + length rest ≤ self.handed + length piece

pub begins : (self : Cutting) (piece : List ℕ) (lines : List RawLine) (begun : List ℕ) (handed : ℕ) → lines ≡ [] → handed ≡ self.handed → begun ≡ self.begun
    → length self.begun ≤ most_kept → Cuts self piece lines handed begun piece
begins self piece lines begun handed none he be short = record {
  told = ap (λ b. raw_lines self.handed (ended b piece)) (sym be) ∙ ap (λ n. raw_lines n (ended begun piece)) (sym he) ∙ ap (λ ls. ls ++ raw_lines handed (ended begun piece)) (sym none);
  left = ap (λ b. unfinished b piece) (sym be);
  counted = ap (λ b. self.handed + length (ended b piece)) (sym be) ∙ ap (λ n. n + length (ended begun piece)) (sym he);
  short = subst (λ b. length b ≤ most_kept) (sym be) short;
  fewer = omega (arith, he);
}

pub goes_on : (self : Cutting) (piece : List ℕ) (lines now : List RawLine) (handed : ℕ) (begun rest part line next after : List ℕ) (i : ℕ)
    → Cuts self piece lines handed begun rest → position (λ b. b == line_feed) rest ≡ Some i → part ≡ take i rest → line ≡ kept (begun ++ part)
    → now ≡ lines ++ record { number = handed + 1; bytes = line } ∷ [] → next ≡ [] → after ≡ take (length rest - (i + 1)) (drop (i + 1) rest)
    → Cuts self piece now (handed + 1) next after
goes_on self piece lines now handed begun rest part line next after i inv at pe le ne none ae =
    let cut = cut_at begun rest i at in
    let within : i < length rest = (position-Some (λ b. b == line_feed) rest i 0 at).0 in
    let some : length (drop (i + 1) rest) ≡ length rest - (i + 1) = length-drop (i + 1) rest in
    let all : after ≡ drop (i + 1) rest = ae ∙ take_all _ _ (omega (arith, some)) in
    let fresh : ended next after ≡ ended [] (drop (i + 1) rest) = ap (λ b. ended b after) none ∙ ap (ended []) all in
    let front : length (ended begun rest) ≡ suc (length (ended [] (drop (i + 1) rest))) = ap length cut.lines in
    let behind : length (ended next after) ≡ length (ended [] (drop (i + 1) rest)) = ap length fresh in
    record {
      told = inv.told ∙ ap (λ ls. lines ++ raw_lines handed ls) cut.lines
          ∙ ap (λ l. lines ++ (record { number = handed + 1; bytes = l } ∷ raw_lines (handed + 1) (ended [] (drop (i + 1) rest)))) (ap (λ p. kept (begun ++ p)) (sym pe) ∙ sym le)
          ∙ ap (λ ls. lines ++ (record { number = handed + 1; bytes = line } ∷ raw_lines (handed + 1) ls)) (sym fresh)
          ∙ sym (append_assoc lines (record { number = handed + 1; bytes = line } ∷ []) (raw_lines (handed + 1) (ended next after)))
          ∙ ap (λ ls. ls ++ raw_lines (handed + 1) (ended next after)) (sym ne);
      left = inv.left ∙ cut.left ∙ ap (unfinished []) (sym all) ∙ ap (λ b. unfinished b after) (sym none);
      counted = omega (arith, inv.counted, front, behind);
      short = let empty : length next ≡ 0 = ap length none in omega (arith, empty);
      fewer = let shorter : length after ≡ length rest - (i + 1) = ap length all ∙ some in omega (arith, inv.fewer, within, shorter);
    }

-- ---- and its end
pub all_told : (self : Cutting) (piece : List ℕ) (lines : List RawLine) (handed : ℕ) (begun rest : List ℕ)
    → Cuts self piece lines handed begun rest → position (λ b. b == line_feed) rest ≡ None → lines ≡ answer self piece
all_told self piece lines handed begun rest inv at =
    sym (append-nil lines) ∙ ap (λ ls. lines ++ raw_lines handed ls) (sym (uncut_piece begun rest at).lines) ∙ sym inv.told

pub all_fed : (self : Cutting) (piece : List ℕ) (lines : List RawLine) (handed : ℕ) (begun rest line : List ℕ)
    → Cuts self piece lines handed begun rest → position (λ b. b == line_feed) rest ≡ None → line ≡ kept (begun ++ rest)
    → record { handed = handed; begun = line } ≡ fed self piece
all_fed self piece lines handed begun rest line inv at le =
    let cut = uncut_piece begun rest at in
    let none : length (ended begun rest) ≡ 0 = ap length cut.lines in
    let number : handed ≡ self.handed + length (ended self.begun piece) = omega (arith, inv.counted, none) in
    ap (λ n. record { handed = n; begun = line }) number
    ∙ ap (λ b. record { handed = self.handed + length (ended self.begun piece); begun = b }) (le ∙ ap kept (sym cut.left ∙ sym inv.left))

-- a piece ends at most as many lines as it has bytes
few_in_front : (t : Bool) (x : ℕ) (begun bs : List ℕ) → (x == line_feed) ≡ t → length (ended [] bs) ≤ length bs → length (ended (begun ++ x ∷ []) bs) ≤ length bs
    → length (ended begun (x ∷ bs)) ≤ length (x ∷ bs)
few_in_front true x begun bs is fresh on = rw is (omega (arith, fresh))
few_in_front false x begun bs is fresh on = rw is (omega (arith, on))

few_ended : (begun bs : List ℕ) → length (ended begun bs) ≤ length bs
few_ended begun [] = omega arith
few_ended begun (x ∷ bs) = few_in_front _ x begun bs refl (few_ended [] bs) (few_ended (begun ++ x ∷ []) bs)

pub few_fed : (self now : Cutting) (piece : List ℕ) → now ≡ fed self piece → now.handed ≤ self.handed + length piece
few_fed self now piece e =
    let same : now.handed ≡ self.handed + length (ended self.begun piece) = ap (λ (v : Cutting). v.handed) e in
    omega (arith, same, few_ended self.begun piece)

-- ---- pieces one behind the other
-- a byte in front of two pieces, if the law holds of what stands behind it
ended_in_front : (t : Bool) (x : ℕ) (begun a b : List ℕ) → (x == line_feed) ≡ t
    → ended [] (a ++ b) ≡ ended [] a ++ ended (unfinished [] a) b
    → ended (begun ++ x ∷ []) (a ++ b) ≡ ended (begun ++ x ∷ []) a ++ ended (unfinished (begun ++ x ∷ []) a) b
    → ended begun (x ∷ (a ++ b)) ≡ ended begun (x ∷ a) ++ ended (unfinished begun (x ∷ a)) b
ended_in_front true x begun a b is fresh on = rw is (ap (λ ls. begun ∷ ls) fresh)
ended_in_front false x begun a b is fresh on = rw is on

pub ended-append : (begun a b : List ℕ) → ended begun (a ++ b) ≡ ended begun a ++ ended (unfinished begun a) b
ended-append begun [] b = refl
ended-append begun (x ∷ a) b = ended_in_front _ x begun a b refl (ended-append [] a b) (ended-append (begun ++ x ∷ []) a b)

unfinished_in_front : (t : Bool) (x : ℕ) (begun a b : List ℕ) → (x == line_feed) ≡ t
    → unfinished [] (a ++ b) ≡ unfinished (unfinished [] a) b
    → unfinished (begun ++ x ∷ []) (a ++ b) ≡ unfinished (unfinished (begun ++ x ∷ []) a) b
    → unfinished begun (x ∷ (a ++ b)) ≡ unfinished (unfinished begun (x ∷ a)) b
unfinished_in_front true x begun a b is fresh on = rw is fresh
unfinished_in_front false x begun a b is fresh on = rw is on

pub unfinished-append : (begun a b : List ℕ) → unfinished begun (a ++ b) ≡ unfinished (unfinished begun a) b
unfinished-append begun [] b = refl
unfinished-append begun (x ∷ a) b = unfinished_in_front _ x begun a b refl (unfinished-append [] a b) (unfinished-append (begun ++ x ∷ []) a b)

-- ---- the lines of bytes are those that ended, and what is left
-- the bytes of a line that began, in front of the lines of what follows
abbrev onto : List ℕ → List (List ℕ) → List (List ℕ)
onto begun [] = last_of begun
onto begun (line ∷ lines) = (begun ++ line) ∷ lines

onto_none : (lines : List (List ℕ)) → onto [] lines ≡ lines
onto_none [] = refl
onto_none (line ∷ lines) = refl

last_nonempty : (begun : List ℕ) (x : ℕ) → last_of (begun ++ x ∷ []) ≡ (begun ++ x ∷ []) ∷ []
last_nonempty [] x = refl
last_nonempty (b ∷ bs) x = refl

onto_byte : (begun : List ℕ) (x : ℕ) (lines : List (List ℕ)) → onto (begun ++ x ∷ []) lines ≡ onto begun (onto_first_line x lines)
onto_byte begun x [] = last_nonempty begun x
onto_byte begun x (line ∷ lines) = ap (λ l. l ∷ lines) (append_assoc begun (x ∷ []) line)

lines_in_front : (t : Bool) (x : ℕ) (begun bs : List ℕ) → (x == line_feed) ≡ t
    → ended [] bs ++ last_of (unfinished [] bs) ≡ onto [] (lines_of bs)
    → ended (begun ++ x ∷ []) bs ++ last_of (unfinished (begun ++ x ∷ []) bs) ≡ onto (begun ++ x ∷ []) (lines_of bs)
    → ended begun (x ∷ bs) ++ last_of (unfinished begun (x ∷ bs)) ≡ onto begun (lines_of (x ∷ bs))
lines_in_front true x begun bs is fresh on =
    rw is (ap (λ ls. begun ∷ ls) (fresh ∙ onto_none (lines_of bs)) ∙ ap (λ l. l ∷ lines_of bs) (sym (append-nil begun)))
lines_in_front false x begun bs is fresh on = rw is (on ∙ onto_byte begun x (lines_of bs))

lines_begun : (begun bs : List ℕ) → ended begun bs ++ last_of (unfinished begun bs) ≡ onto begun (lines_of bs)
lines_begun begun [] = refl
lines_begun begun (x ∷ bs) = lines_in_front _ x begun bs refl (lines_begun [] bs) (lines_begun (begun ++ x ∷ []) bs)

pub lines_are_cut : (bs : List ℕ) → ended [] bs ++ last_of (unfinished [] bs) ≡ lines_of bs
lines_are_cut bs = lines_begun [] bs ∙ onto_none (lines_of bs)
