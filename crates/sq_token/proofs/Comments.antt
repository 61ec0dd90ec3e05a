-- Comments, and where they end.
use Rattle.std.proofs.Common.{◌≡◌, ℕ, suc, ◌+◌, ◌-◌, ◌≤◌, List, [], ◌∷◌, ◌++◌, length, get_or, take, drop, Some, None, codes, refl, sym, ap, subst, ◌∙◌, arith, append_assoc, length-append, inl, inr}
use Rattle.std.specs.Str.Pattern.{FindsText}
use Rattle.std.proofs.lemmas.Bool.{cases_lt}
use Rattle.std.proofs.lemmas.List.{append-nil, take-append-drop, drop_at, length-take-le, get_or-append-add}
use Rattle.sq_token.specs.Bytes.{Lacks, CutsAtFirst}
use Rattle.sq_token.specs.Reading.IsGap.{line, last_line, block}
use Rattle.sq_token.specs.Piece.{PieceAt}
use Rattle.sq_token.specs.declared.fault.LexFault.TheVariants as faults
use Rattle.sq_token.specs.Fault.{FaultAt}
use Rattle.sq_token.specs.Fault.FaultAt.{open_comment}
use Rattle.sq_token.proofs.Quotes.{HasNo}

lacks_byte : (q : ℕ) (text : List ℕ) → HasNo q text → Lacks (q ∷ []) text
lacks_byte q text h front back e =
    let at : get_or text (length front + 0) 0 ≡ q = rw e (get_or-append-add front (q ∷ back) 0 0) in
    h (length front + 0) (omega (arith, ap length e, length-append front (q ∷ back))) at

pub line_piece : (text comment body rest : List ℕ) → text ≡ codes "--" ++ comment → comment ≡ body ++ (10 ∷ rest) → HasNo 10 body → PieceAt text (length text - length rest) None
line_piece text comment body rest opens split plain = record {
  slice = codes "--" ++ (body ++ 10 ∷ []);
  rest = rest;
  parts = opens ∙ rw split (simp append_assoc);
  len_is = let e : length text ≡ 2 + (length body + suc (length rest)) = ap length opens ∙ rw split (simp length-append (omega arith)) in simp length-append (omega arith);
  stands = line (lacks_byte 10 body plain);
}

pub last_line_piece : (text comment : List ℕ) → text ≡ codes "--" ++ comment → HasNo 10 comment → PieceAt text (length text - 0) None
last_line_piece text comment opens plain = record {
  slice = codes "--" ++ comment;
  rest = [];
  parts = opens ∙ sym (append-nil (codes "--" ++ comment));
  len_is = let e : length text ≡ length (codes "--" ++ comment) = ap length opens in omega arith;
  stands = last_line (lacks_byte 10 comment plain);
}

-- where a text was not found, it stands nowhere
pub not_found : (mark text : List ℕ) → FindsText mark text None → Lacks mark text
not_found mark text none front back e =
    none (length front) (omega (arith, ap length e, length-append front (mark ++ back))) back (rw e (drop_at front (mark ++ back) (length front) refl))

-- where a text was found first, it is cut
pub found_first : (mark text : List ℕ) (i j : ℕ) → i ≤ length text → FindsText mark text (Some (i, j)) → CutsAtFirst mark text (take i text) (drop j text)
found_first mark text i j within found = record {
  parts = sym (take-append-drop i text) ∙ ap (λ (t : List ℕ). take i text ++ t) found.1.split;
  first = λ before after e. elim (cases_lt (length before) i) [
    | inl earlier ↦ absurd (found.0 (length before) earlier after (rw e (drop_at before (mark ++ after) (length before) refl)))
    | inr later ↦ omega (arith, length-take-le i text within)
  ];
}

pub block_piece : (text comment body rest : List ℕ) → text ≡ codes "/*" ++ comment → CutsAtFirst (codes "*/") comment body rest → PieceAt text (length text - length rest) None
block_piece text comment body rest opens cut = record {
  slice = codes "/*" ++ (body ++ codes "*/");
  rest = rest;
  parts = opens ∙ rw cut.parts (simp append_assoc);
  len_is = let e : length text ≡ 2 + (length body + (2 + length rest)) = ap length opens ∙ rw cut.parts (simp length-append (omega arith)) in simp length-append (omega arith);
  stands = block (subst (λ t. CutsAtFirst (codes "*/") t body rest) cut.parts cut);
}

pub comment_open : (at : ℕ) (text comment : List ℕ) → text ≡ codes "/*" ++ comment → Lacks (codes "*/") comment → FaultAt at text (faults.OpenComment at)
comment_open at text comment opens lacks = subst (λ (t : List ℕ). FaultAt at t (faults.OpenComment at)) (sym opens) (open_comment lacks)
