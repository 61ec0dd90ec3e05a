-- Symbols, and the bytes that spell them.
use Rattle.std.proofs.Common.{◌≡◌, ◌≢◌, ℕ, ◌<◌, Bool, true, false, cond, eqb, ◌&&◌, ◌||◌, List, [], ◌∷◌, ◌++◌, length, get_or, Option, Some, None, ◌⊎◌, codes, refl, sym, ap, subst, ◌∙◌, arith, inl, inr}
use Rattle.std.proofs.lemmas.Bool.{eqb-true, and_parts, or_cases, ne_eqb}
use Rattle.std.proofs.lemmas.Option.{same_Some, none-some}
use Rattle.std.proofs.lemmas.Bool.Decides.{nat_tests}
use Rattle.sq_token.specs.declared.symbol.Symbol.{Symbol}
use Rattle.sq_token.specs.declared.symbol.Symbol.TheVariants.{LeftParen, RightParen, Comma, Semicolon, Dot, Star, Plus, Minus, Equal, NotEqual, Less, LessEqual, Greater, GreaterEqual}
use Rattle.sq_token.specs.Bytes.{NextFails}
use Rattle.sq_token.specs.Symbols.{spelling, IsSymbol, extends, symbol_of_byte, symbol_of_pair, symbol_of_two}
use Rattle.sq_token.specs.Piece.{SymbolAt, HasNoSymbol}

-- which way a test went
test_cases : {A : Type 0} (b : Bool) (x y z : A) → cond b x y ≡ z → ((b ≡ true) × (x ≡ z)) ⊎ ((b ≡ false) × (y ≡ z))
test_cases true x y z e = inl (refl, e)
test_cases false x y z e = inr (refl, e)

-- the symbol of a byte is one that the byte spells, where this holds of the tests behind the first
one_more : (c d : ℕ) (s t : Symbol) (others : Option Symbol) → spelling t ≡ d ∷ [] → (others ≡ Some s → c ∷ [] ≡ spelling s) → cond (eqb c d) (Some t) others ≡ Some s → c ∷ [] ≡ spelling s
one_more c d s t others spelled behind e =
    elim (test_cases (eqb c d) (Some t) others (Some s) e) [
      | inl this ↦
          let same : c ≡ d = eqb-true c d this.0 in
          let is : t ≡ s = same_Some t s this.1 in
          ap (λ (x : ℕ). x ∷ []) same ∙ sym spelled ∙ ap spelling is
      | inr other ↦ behind other.1
    ]

pub byte_spelled : (c : ℕ) (s : Symbol) → symbol_of_byte c ≡ Some s → c ∷ [] ≡ spelling s
byte_spelled c s =
    one_more c 40 s LeftParen _ refl
    (one_more c 41 s RightParen _ refl
    (one_more c 44 s Comma _ refl
    (one_more c 59 s Semicolon _ refl
    (one_more c 46 s Dot _ refl
    (one_more c 42 s Star _ refl
    (one_more c 43 s Plus _ refl
    (one_more c 45 s Minus _ refl
    (one_more c 61 s Equal _ refl
    (one_more c 60 s Less _ refl
    (one_more c 62 s Greater _ refl (λ e. absurd (none-some s e))))))))))))

-- a symbol of one byte, where the first two spell none and no comment begins: the next byte does not extend it
one_ends : (s : Symbol) (c : ℕ) (rest : List ℕ) → c ∷ [] ≡ spelling s → symbol_of_two (c ∷ rest) ≡ None → ((after : List ℕ) → c ∷ rest ≢ codes "--" ++ after) → NextFails (extends s) rest
one_ends s c [] spelled two comment = refl
one_ends Less c (d ∷ rest) spelled two comment = let is : c ≡ 60 = cc in let e : symbol_of_pair 60 d ≡ None = subst (λ (x : ℕ). symbol_of_pair x d ≡ None) is two in grind (arith, nat_tests)
one_ends Greater c (d ∷ rest) spelled two comment = let is : c ≡ 62 = cc in let e : symbol_of_pair 62 d ≡ None = subst (λ (x : ℕ). symbol_of_pair x d ≡ None) is two in grind (arith, nat_tests)
one_ends Minus c (d ∷ rest) spelled two comment = ne_eqb d 45 (λ e. let is : c ≡ 45 = cc in comment rest (rw (is, e) refl))
one_ends _ c (d ∷ rest) spelled two comment = refl

-- two bytes that spell a symbol: a slice of two, which nothing extends
pub two_spelled : (c d : ℕ) (rest : List ℕ) (s : Symbol) → symbol_of_pair c d ≡ Some s → IsSymbol (c ∷ d ∷ []) s × NextFails (extends s) rest
two_spelled c d rest s e =
    elim (test_cases (eqb c 60 && eqb d 62 || eqb c 33 && eqb d 61) (Some NotEqual) _ (Some s) e) [
      | inl this ↦
          let is : NotEqual ≡ s = same_Some NotEqual s this.1 in
          subst (λ (t : Symbol). IsSymbol (c ∷ d ∷ []) t × NextFails (extends t) rest) is
          (elim (or_cases (eqb c 60 && eqb d 62) (eqb c 33 && eqb d 61) this.0) [
            | inl first ↦ let p = and_parts (eqb c 60) (eqb d 62) first in (inl (rw (eqb-true c 60 p.0, eqb-true d 62 p.1) refl), nothing rest)
            | inr second ↦ let p = and_parts (eqb c 33) (eqb d 61) second in (inr (refl, rw (eqb-true c 33 p.0, eqb-true d 61 p.1) refl), nothing rest)
          ])
      | inr other ↦ elim (test_cases (eqb c 60 && eqb d 61) (Some LessEqual) _ (Some s) other.1) [
        | inl this ↦
            let is : LessEqual ≡ s = same_Some LessEqual s this.1 in
            let p = and_parts (eqb c 60) (eqb d 61) this.0 in
            subst (λ (t : Symbol). IsSymbol (c ∷ d ∷ []) t × NextFails (extends t) rest) is (inl (rw (eqb-true c 60 p.0, eqb-true d 61 p.1) refl), nothing rest)
        | inr last ↦ elim (test_cases (eqb c 62 && eqb d 61) (Some GreaterEqual) None (Some s) last.1) [
          | inl this ↦
              let is : GreaterEqual ≡ s = same_Some GreaterEqual s this.1 in
              let p = and_parts (eqb c 62) (eqb d 61) this.0 in
              subst (λ (t : Symbol). IsSymbol (c ∷ d ∷ []) t × NextFails (extends t) rest) is (inl (rw (eqb-true c 62 p.0, eqb-true d 61 p.1) refl), nothing rest)
          | inr none ↦ absurd (none-some s none.1)
        ]
      ]
    ]
  where
    nothing : (rest : List ℕ) → NextFails (λ _. false) rest
    nothing [] = refl
    nothing (x ∷ rest) = refl

pub two_symbol : (text : List ℕ) (s : Symbol) → symbol_of_two text ≡ Some s → SymbolAt text s 2
two_symbol [] s e = absurd (none-some s e)
two_symbol (c ∷ []) s e = absurd (none-some s e)
two_symbol (c ∷ d ∷ rest) s e = let p = two_spelled c d rest s e in record { slice = c ∷ d ∷ []; rest = rest; parts = refl; len_is = refl; spelled = p.0; ends = p.1 }

pub one_symbol : (text : List ℕ) (s : Symbol) → 0 < length text → ((after : List ℕ) → text ≢ codes "--" ++ after) → symbol_of_two text ≡ None → symbol_of_byte (get_or text 0 0) ≡ Some s → SymbolAt text s 1
one_symbol [] s full comment two e = absurd (omega arith)
one_symbol (c ∷ rest) s full comment two e =
    let spelled = byte_spelled c s e in
    record { slice = c ∷ []; rest = rest; parts = refl; len_is = refl; spelled = inl spelled; ends = one_ends s c rest spelled two comment }

-- a text that a symbol begins has that symbol as one of one or of two bytes
pub no_symbol : (text : List ℕ) → symbol_of_two text ≡ None → symbol_of_byte (get_or text 0 0) ≡ None → HasNoSymbol text
no_symbol text two one slice after s parts (inr unequal) = absurd (none-some NotEqual (sym two ∙ ap symbol_of_two (parts ∙ ap (λ (t : List ℕ). t ++ after) unequal.1)))
no_symbol text two one slice after s parts (inl spelled) = none_of s (parts ∙ ap (λ (t : List ℕ). t ++ after) spelled)
  where
    first : (s : Symbol) (t : List ℕ) → text ≡ t → symbol_of_byte (get_or t 0 0) ≡ Some s → ⊥
    first s t e h = none-some s (sym one ∙ ap (λ (t : List ℕ). symbol_of_byte (get_or t 0 0)) e ∙ h)

    pair : (s : Symbol) (t : List ℕ) → text ≡ t → symbol_of_two t ≡ Some s → ⊥
    pair s t e h = none-some s (sym two ∙ ap symbol_of_two e ∙ h)

    none_of : (s : Symbol) → text ≡ spelling s ++ after → ⊥
    none_of LeftParen e = first LeftParen _ e refl
    none_of RightParen e = first RightParen _ e refl
    none_of Comma e = first Comma _ e refl
    none_of Semicolon e = first Semicolon _ e refl
    none_of Dot e = first Dot _ e refl
    none_of Star e = first Star _ e refl
    none_of Plus e = first Plus _ e refl
    none_of Minus e = first Minus _ e refl
    none_of Equal e = first Equal _ e refl
    none_of NotEqual e = pair NotEqual _ e refl
    none_of Less e = first Less _ e refl
    none_of LessEqual e = pair LessEqual _ e refl
    none_of Greater e = first Greater _ e refl
    none_of GreaterEqual e = pair GreaterEqual _ e refl
