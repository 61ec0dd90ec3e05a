use Rattle.std.proofs.Common.{ℕ, List, None, get_or, ap, subst, ◌∙◌, arith}
use Rattle.std.specs.Char.{is_ascii_digit}
use Rattle.std.proofs.lemmas.Str.Pattern.{strip_prefix_char}
use Rattle.sq_token.specs.Bytes.{is_blank, starts_word}
use Rattle.sq_token.specs.Piece.{HasNoSymbol}
use Rattle.sq_token.proofs.Steps.{blank_piece, bad_byte_at}
use Rattle.sq_token.proofs.piece.piece_at.Goals as goal

pub returns-then-is_blank : goal.returns-then-is_blank
returns-then-is_blank c = blank_piece c.args.text.now c.requires.full (c.if-is_blank.ensures ∙ ap (λ (t : List ℕ). is_blank (get_or t 0 0)) c.as_bytes.ensures.value)

pub returns-in-None : goal.returns-in-None
returns-in-None c =
    bad_byte_at c.args.at c.args.text.now c.requires.full
    (c.if-is_blank.ensures ∙ ap (λ (t : List ℕ). is_blank (get_or t 0 0)) c.as_bytes.ensures.value)
    (c.if-starts_word.ensures ∙ ap (λ (t : List ℕ). starts_word (get_or t 0 0)) c.as_bytes.ensures.value)
    (c.if-is_ascii_digit.ensures.value ∙ ap (λ (t : List ℕ). is_ascii_digit (get_or t 0 0)) c.as_bytes.ensures.value)
    (strip_prefix_char 34 c.args.text.now None c.in_default.ensures.cases (omega arith))
    (strip_prefix_char 39 c.args.text.now None c.in_default-strip_prefix.ensures.cases (omega arith))
    c.in_default-strip_prefix-3.ensures.cases
    (subst HasNoSymbol c.as_bytes-2.ensures.value c.in-None.ensures)
