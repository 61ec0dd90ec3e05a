-- What a text says at its front is one outcome: by its first bytes, which tell the sort of piece or fault,
-- and then within that sort.
use Rattle.std.proofs.Common.{◌≡◌, ℕ, suc, ◌+◌, ◌<◌, ◌≤◌, Bool, true, false, cond, eqb, List, [], ◌∷◌, ◌++◌, length, get_or, take, drop, Option, Some, None, refl, sym, ap, subst, ◌∙◌, arith, append_assoc, length-append, inl, inr, add-zero}
use Rattle.std.specs.List.{AllPass}
use Rattle.std.proofs.lemmas.Bool.{false≢true, eq-eqb, eqb-true, cases_lt}
use Rattle.std.proofs.lemmas.List.{append-nil, take-append-drop, take_at, drop_at, get_or-append-add, get_or_append_left}
use Rattle.std.proofs.Common.{drop-cons}
use Rattle.sq_token.specs.Bytes.{NextFails, Lacks, CutsAtFirst}
use Rattle.sq_token.specs.Spelling.{doubled}
use Rattle.sq_token.proofs.Quotes.{doubled-append}

-- ---- equal lists in parts

parts_at : (a b x y : List ℕ) → a ++ x ≡ b ++ y → length a ≡ length b → (a ≡ b) × (x ≡ y)
parts_at a b x y e len = (
  sym (take_at a x (length a) refl) ∙ ap (take (length a)) e ∙ take_at b y (length a) (sym len),
  sym (drop_at a x (length a) refl) ∙ ap (drop (length a)) e ∙ drop_at b y (length a) (sym len),
)

-- ---- runs

-- a text is bytes that pass a test, and then a rest that goes on with none
pub record Run (test : ℕ → Bool) (text slice rest : List ℕ) : Type 0 where
  pub parts : text ≡ slice ++ rest
  pub passes : AllPass test slice
  pub stops : NextFails test rest

pub not_longer : (test : ℕ → Bool) (a b x y : List ℕ) → a ++ x ≡ b ++ y → NextFails test x → AllPass test b → length b ≤ length a
not_longer test a b [] y e stops passes = omega (arith, ap length e, length-append a [], length-append b y)
not_longer test a b (c ∷ x) y e stops passes =
    elim (cases_lt (length a) (length b)) [
      | inl shorter ↦
          let at : get_or (a ++ (c ∷ x)) (length a + 0) 0 ≡ c = get_or-append-add a (c ∷ x) 0 0 in
          let in_b : get_or (b ++ y) (length a + 0) 0 ≡ get_or b (length a + 0) 0 = get_or_append_left b y 0 (length a + 0) (omega arith) in
          let same : get_or b (length a + 0) 0 ≡ c = sym in_b ∙ ap (λ (t : List ℕ). get_or t (length a + 0) 0) (sym e) ∙ at in
          absurd (false≢true (sym stops ∙ ap test (sym same) ∙ passes (length a + 0) 0 (omega arith)))
      | inr within ↦ within
    ]

pub run_once : (test : ℕ → Bool) (text a b x y : List ℕ) → Run test text a x → Run test text b y → (a ≡ b) × (x ≡ y)
run_once test text a b x y r s =
    let e : a ++ x ≡ b ++ y = sym r.parts ∙ s.parts in
    let one = not_longer test a b x y e r.stops s.passes in
    let two = not_longer test b a y x (sym e) s.stops r.passes in
    parts_at a b x y e (omega arith)

-- ---- marks

-- where the first mark of a text cuts it, if it has one
abbrev pub Cut : List ℕ → List ℕ → Option (List ℕ × List ℕ) → Type 0
Cut mark text None = Lacks mark text
Cut mark text (Some p) = CutsAtFirst mark text p.0 p.1

pub cut_once : (mark text : List ℕ) (o p : Option (List ℕ × List ℕ)) → Cut mark text o → Cut mark text p → o ≡ p
cut_once mark text None None h k = refl
cut_once mark text None (Some p) h k = absurd (h p.0 p.1 k.parts)
cut_once mark text (Some o) None h k = absurd (k o.0 o.1 h.parts)
cut_once mark text (Some o) (Some p) h k =
    let one = h.first p.0 p.1 k.parts in
    let two = k.first o.0 o.1 h.parts in
    let same = parts_at o.0 p.0 (mark ++ o.1) (mark ++ p.1) (sym h.parts ∙ k.parts) (omega arith) in
    let behind = parts_at mark mark o.1 p.1 same.1 refl in
    λ i. Some (same.0 i, behind.1 i)

-- a text without a byte, and then that byte, is cut there
pub cut_by_byte : (q : ℕ) (body rest : List ℕ) → Lacks (q ∷ []) body → CutsAtFirst (q ∷ []) (body ++ (q ∷ rest)) body rest
cut_by_byte q body rest lacks = record {
  parts = refl;
  first = λ before after e. elim (cases_lt (length before) (length body)) [
    | inr later ↦ later
    | inl earlier ↦
        let split : take (length before) body ++ (q ∷ drop (suc (length before)) body) ≡ body = inside before after e earlier in
        absurd (lacks (take (length before) body) (drop (suc (length before)) body) (sym split))
  ];
}
  where
    inside : (before after : List ℕ) → body ++ (q ∷ rest) ≡ before ++ (q ∷ after) → length before < length body → take (length before) body ++ (q ∷ drop (suc (length before)) body) ≡ body
    inside before after e lt =
        let at : get_or body (length before + 0) 0 ≡ q = sym (get_or_append_left body (q ∷ rest) 0 (length before + 0) (omega arith)) ∙ ap (λ (t : List ℕ). get_or t (length before + 0) 0) e ∙ get_or-append-add before (q ∷ after) 0 0 in
        let here : get_or body (length before) 0 ≡ q = subst (λ (n : ℕ). get_or body n 0 ≡ q) (add-zero (length before)) at in
        rw (← here) (sym (ap (λ (t : List ℕ). take (length before) body ++ t) (drop-cons body (length before) 0 lt)) ∙ take-append-drop (length before) body)

-- ---- quotes

-- a character in front of what was read
abbrev pub in_front : ℕ → Option (List ℕ × List ℕ) → Option (List ℕ × List ℕ)
in_front c None = None
in_front c (Some p) = Some (c ∷ p.0, p.1)

-- quoted characters up to the first single quote, and what stands behind it
abbrev pub unquote : ℕ → List ℕ → Option (List ℕ × List ℕ)
unquote q [] = None
unquote q (c ∷ []) = cond (eqb c q) (Some ([], [])) None
unquote q (c ∷ d ∷ rest) = cond (eqb c q) (cond (eqb d q) (in_front q (unquote q rest)) (Some ([], d ∷ rest))) (in_front c (unquote q (d ∷ rest)))

unquote_plain : (q c : ℕ) (rest : List ℕ) → eqb c q ≡ false → unquote q (c ∷ rest) ≡ in_front c (unquote q rest)
unquote_plain q c [] h = rw h refl
unquote_plain q c (d ∷ rest) h = rw h refl

unquote_doubled : (q : ℕ) (rest : List ℕ) → unquote q (q ∷ q ∷ rest) ≡ in_front q (unquote q rest)
unquote_doubled q rest = rw (eq-eqb q q refl) refl

-- what is read behind a first character, which is doubled where it is a quote
unquote_more : (q c : ℕ) (rest : List ℕ) → unquote q (doubled q (c ∷ []) ++ rest) ≡ in_front c (unquote q rest)
unquote_more q c rest = by_test (eqb c q) refl
  where
    by_test : (b : Bool) → eqb c q ≡ b → unquote q (doubled q (c ∷ []) ++ rest) ≡ in_front c (unquote q rest)
    by_test true h = rw h (unquote_doubled q rest ∙ ap (λ (x : ℕ). in_front x (unquote q rest)) (sym (eqb-true c q h)))
    by_test false h = rw h (unquote_plain q c rest h)

pub unquote_first : (q c : ℕ) (body rest : List ℕ) → unquote q (doubled q (c ∷ body) ++ rest) ≡ in_front c (unquote q (doubled q body ++ rest))
unquote_first q c body rest =
    ap (unquote q) (ap (λ (t : List ℕ). t ++ rest) (doubled-append q (c ∷ []) body) ∙ append_assoc (doubled q (c ∷ [])) (doubled q body) rest) ∙ unquote_more q c (doubled q body ++ rest)

pub unquote_closed : (q : ℕ) (body after : List ℕ) → NextFails (λ c. eqb c q) after → unquote q (doubled q body ++ (q ∷ after)) ≡ Some (body, after)
unquote_closed q [] [] ends = rw (eq-eqb q q refl) refl
unquote_closed q [] (d ∷ after) ends = rw (eq-eqb q q refl, ends) refl
unquote_closed q (c ∷ body) after ends = unquote_first q c body (q ∷ after) ∙ ap (in_front c) (unquote_closed q body after ends)

unquote_all : (q : ℕ) (body : List ℕ) → unquote q (doubled q body ++ []) ≡ None
unquote_all q [] = refl
unquote_all q (c ∷ body) = unquote_first q c body [] ∙ ap (in_front c) (unquote_all q body)

pub unquote_open : (q : ℕ) (body : List ℕ) → unquote q (doubled q body) ≡ None
unquote_open q body = ap (unquote q) (sym (append-nil (doubled q body))) ∙ unquote_all q body
