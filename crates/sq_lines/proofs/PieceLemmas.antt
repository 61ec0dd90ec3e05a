-- What is cut from any list of pieces is what is cut from all bytes at once.
use Rattle.std.specs.Prelude.{◌==◌, map, take}
use Rattle.std.proofs.Common.{◌≡◌, ℕ, zero, suc, ◌+◌, List, [], ◌∷◌, ◌++◌, length, Bool, true, false, refl, sym, ap, ◌∙◌, arith, append_assoc, append-nil, ap₂, length-append}
use Rattle.std.specs.List.{concat, enumerate_from}
use Rattle.std.proofs.lemmas.List.{length-map}
use Rattle.sq_lines.specs.Cutting.{Cutting, answer, answers, cut_after, ended, fed, kept, last_line, last_of, line_feed, lines_of, most_kept, raw_lines, uncut, unfinished}
use Rattle.sq_lines.specs.declared.line.RawLine.{RawLine}
use Rattle.sq_lines.proofs.CutLemmas.{ended-append, unfinished-append, lines_are_cut}

-- ---- what is kept of a line does not depend on what was cut off before
take_again : (n : ℕ) (xs ys : List ℕ) → take n (take n xs ++ ys) ≡ take n (xs ++ ys)
take_again zero xs ys = refl
take_again (suc n) [] ys = refl
take_again (suc n) (x ∷ xs) ys = ap (λ zs. x ∷ zs) (take_again n xs ys)

kept_again : (xs ys : List ℕ) → kept (kept xs ++ ys) ≡ kept (xs ++ ys)
kept_again xs ys = take_again most_kept xs ys

kept_alike : (f g ys : List ℕ) → kept f ≡ kept g → kept (f ++ ys) ≡ kept (g ++ ys)
kept_alike f g ys same = sym (kept_again f ys) ∙ ap (λ x. kept (x ++ ys)) same ∙ kept_again g ys

pub kept_twice : (f : List ℕ) → kept (kept f) ≡ kept f
kept_twice f = ap kept (sym (append-nil (kept f))) ∙ kept_again f [] ∙ ap kept (append-nil f)

-- ---- so it is cut in the same way
ended_in_front : (t : Bool) (x : ℕ) (f g bs : List ℕ) → (x == line_feed) ≡ t → kept f ≡ kept g
    → map kept (ended (f ++ x ∷ []) bs) ≡ map kept (ended (g ++ x ∷ []) bs) → map kept (ended f (x ∷ bs)) ≡ map kept (ended g (x ∷ bs))
ended_in_front true x f g bs is same on = rw is (ap (λ l. l ∷ map kept (ended [] bs)) same)
ended_in_front false x f g bs is same on = rw is on

ended_alike : (f g bs : List ℕ) → kept f ≡ kept g → map kept (ended f bs) ≡ map kept (ended g bs)
ended_alike f g [] same = refl
ended_alike f g (x ∷ bs) same = ended_in_front _ x f g bs refl same (ended_alike (f ++ x ∷ []) (g ++ x ∷ []) bs (kept_alike f g (x ∷ []) same))

left_in_front : (t : Bool) (x : ℕ) (f g bs : List ℕ) → (x == line_feed) ≡ t
    → kept (unfinished (f ++ x ∷ []) bs) ≡ kept (unfinished (g ++ x ∷ []) bs) → kept (unfinished f (x ∷ bs)) ≡ kept (unfinished g (x ∷ bs))
left_in_front true x f g bs is on = rw is refl
left_in_front false x f g bs is on = rw is on

unfinished_alike : (f g bs : List ℕ) → kept f ≡ kept g → kept (unfinished f bs) ≡ kept (unfinished g bs)
unfinished_alike f g [] same = same
unfinished_alike f g (x ∷ bs) same = left_in_front _ x f g bs refl (unfinished_alike (f ++ x ∷ []) (g ++ x ∷ []) bs (kept_alike f g (x ∷ []) same))

last_alike : (f : List ℕ) → map kept (last_of (kept f)) ≡ map kept (last_of f)
last_alike [] = refl
last_alike (b ∷ bs) = ap (λ l. l ∷ []) (kept_twice (b ∷ bs))

-- ---- lines as they are handed out
numbered : ℕ → List (List ℕ) → List RawLine
numbered n ls = map (λ l. record { number = l.0; bytes = l.1 }) (enumerate_from n ls)

raw_from : (n : ℕ) (ls : List (List ℕ)) → map (λ l. record { number = l.0; bytes = kept l.1 }) (enumerate_from n ls) ≡ numbered n (map kept ls)
unfolding numbered
raw_from n [] = refl
raw_from n (l ∷ ls) = ap (λ rs. record { number = n; bytes = kept l } ∷ rs) (raw_from (n + 1) ls)

raw_alike : (n m : ℕ) (ls ms : List (List ℕ)) → n ≡ m → map kept ls ≡ map kept ms → raw_lines n ls ≡ raw_lines m ms
raw_alike n m ls ms e same = raw_from (n + 1) ls ∙ ap (numbered (n + 1)) same ∙ sym (raw_from (n + 1) ms) ∙ ap (λ k. raw_lines k ms) e

raw_append : (n : ℕ) (ls ms : List (List ℕ)) → raw_lines n (ls ++ ms) ≡ raw_lines n ls ++ raw_lines (n + length ls) ms
raw_append n [] ms = let none : n ≡ n + 0 = omega arith in ap (λ k. raw_lines k ms) none
raw_append n (l ∷ ls) ms =
    let next : n + 1 + length ls ≡ n + length (l ∷ ls) = omega arith in
    ap (λ rs. record { number = n + 1; bytes = kept l } ∷ rs)
    (raw_append (n + 1) ls ms ∙ ap (λ k. raw_lines (n + 1) ls ++ raw_lines k ms) next)

-- ---- piece by piece
-- the cutting stands where these bytes of a line began, of which it keeps what it keeps
pub pieces_are_cut : (c : Cutting) (begun : List ℕ) (pieces : List (List ℕ)) → c.begun ≡ kept begun
    → answers c pieces ≡ raw_lines c.handed (ended begun (concat pieces) ++ last_of (unfinished begun (concat pieces)))
pieces_are_cut c begun [] is =
    raw_alike c.handed c.handed (last_of c.begun) (last_of begun) refl (ap (λ b. map kept (last_of b)) is ∙ last_alike begun)
pieces_are_cut c begun (p ∷ ps) is =
    let same : kept c.begun ≡ kept begun = ap kept is ∙ kept_twice begun in
    let now = unfinished begun p in
    let rest = ended now (concat ps) ++ last_of (unfinished now (concat ps)) in
    let many : length (ended c.begun p) ≡ length (ended begun p) =
    sym (length-map (ended c.begun p) kept) ∙ ap length (ended_alike c.begun begun p same) ∙ length-map (ended begun p) kept in
    ap (λ rs. answer c p ++ rs) (pieces_are_cut (fed c p) now ps (unfinished_alike c.begun begun p same))
    ∙ ap (λ rs. rs ++ raw_lines (c.handed + length (ended c.begun p)) rest)
    (raw_alike c.handed c.handed (ended c.begun p) (ended begun p) refl (ended_alike c.begun begun p same))
    ∙ ap (λ n. raw_lines c.handed (ended begun p) ++ raw_lines (c.handed + n) rest) many
    ∙ sym (raw_append c.handed (ended begun p) rest)
    ∙ ap (raw_lines c.handed) (sym (append_assoc (ended begun p) (ended now (concat ps)) (last_of (unfinished now (concat ps))))
    ∙ ap (λ ls. ls ++ last_of (unfinished now (concat ps))) (sym (ended-append begun p (concat ps)))
    ∙ ap (λ l. ended begun (p ++ concat ps) ++ last_of l) (sym (unfinished-append begun p (concat ps))))

pub any_pieces : (pieces : List (List ℕ)) → answers uncut pieces ≡ raw_lines 0 (lines_of (concat pieces))
any_pieces pieces = pieces_are_cut uncut [] pieces refl ∙ ap (raw_lines 0) (lines_are_cut (concat pieces))

-- ---- behind some bytes
left_kept : (a : List ℕ) → kept (kept (unfinished [] a)) ≡ kept (unfinished [] a)
left_kept a = kept_twice (unfinished [] a)

many_kept : (a piece : List ℕ) → length (ended (kept (unfinished [] a)) piece) ≡ length (ended (unfinished [] a) piece)
many_kept a piece =
    let u = unfinished [] a in
    sym (length-map (ended (kept u) piece) kept) ∙ ap length (ended_alike (kept u) u piece (left_kept a)) ∙ length-map (ended u piece) kept

pub fed_after : (a piece : List ℕ) → fed (cut_after a) piece ≡ cut_after (a ++ piece)
fed_after a piece =
    let u = unfinished [] a in
    let handed : length (ended [] a) + length (ended (kept u) piece) ≡ length (ended [] (a ++ piece)) =
    ap (λ n. length (ended [] a) + n) (many_kept a piece) ∙ sym (length-append (ended [] a) (ended u piece)) ∙ sym (ap length (ended-append [] a piece)) in
    let begun : kept (unfinished (kept u) piece) ≡ kept (unfinished [] (a ++ piece)) =
    unfinished_alike (kept u) u piece (left_kept a) ∙ sym (ap kept (unfinished-append [] a piece)) in
    ap₂ (λ h b. record { handed = h; begun = b }) handed begun

pub raw_after : (a piece : List ℕ) → raw_lines 0 (ended [] (a ++ piece)) ≡ raw_lines 0 (ended [] a) ++ answer (cut_after a) piece
raw_after a piece =
    let u = unfinished [] a in
    let many : 0 + length (ended [] a) ≡ length (ended [] a) = omega arith in
    ap (raw_lines 0) (ended-append [] a piece) ∙ raw_append 0 (ended [] a) (ended u piece)
    ∙ ap (λ rs. raw_lines 0 (ended [] a) ++ rs) (raw_alike _ _ (ended u piece) (ended (kept u) piece) many (sym (ended_alike (kept u) u piece (left_kept a))))

pub raw_last : (a : List ℕ) → raw_lines 0 (lines_of a) ≡ raw_lines 0 (ended [] a) ++ last_line (cut_after a)
raw_last a =
    let u = unfinished [] a in
    let many : 0 + length (ended [] a) ≡ length (ended [] a) = omega arith in
    ap (raw_lines 0) (sym (lines_are_cut a)) ∙ raw_append 0 (ended [] a) (last_of u)
    ∙ ap (λ rs. raw_lines 0 (ended [] a) ++ rs) (raw_alike _ _ (last_of u) (last_of (kept u)) many (sym (last_alike u)))
