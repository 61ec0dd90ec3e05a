use Rattle.std.proofs.Common.{List, ℕ, sym, ap, subst, ◌∙◌, ◌≤◌}
use Rattle.std.specs.Char.{is_ascii_digit}
use Rattle.std.specs.Str.Parse.{digits_value}
use Rattle.sq_token.specs.Bytes.{starts_word, next_passes}
use Rattle.sq_token.specs.Run.{IsRun}
use Rattle.sq_token.proofs.Runs.{run_cut, digit_ascii}
use Rattle.sq_token.proofs.Numbers.{run_numeral, long_number_at, after_number_at, number_piece}
use Rattle.sq_token.proofs.piece.number.Goals as goal
use Rattle.sq_token.proofs.piece.number.Goals.{After-digits_len-len}

run : (c : After-digits_len-len) → IsRun is_ascii_digit c.args.text.now c.digits_len-len.result
run c = subst (λ (s : List ℕ). IsRun is_ascii_digit s c.digits_len-len.result) c.as_bytes.ensures.value c.digits_len-len.ensures

pub split_at-requires : goal.split_at-requires
split_at-requires c = run_cut is_ascii_digit digit_ascii c.args.text.now c.digits_len-len.result c.utf8.text (run (goal.at.split_at-requires c).After-digits_len-len)

pub number_of-requires : goal.number_of-requires
number_of-requires c =
    rw c.split_at.ensures.front (run_numeral c.args.text.now c.digits_len-len.result c.requires.full c.requires.begins (run (goal.at.number_of-requires c).After-digits_len-len))

pub returns : goal.returns
returns c =
    number_piece c.args.text.now c.digits_len-len.result c.in-Some.number c.requires.full c.requires.begins (run (goal.at.returns c).After-digits_len-len)
    (c.in-Some.ensures.1 ∙ ap (digits_value 10) c.split_at.ensures.front) (subst (λ (n : ℕ). n ≤ 9223372036854775808) (sym c.in-Some.ensures.1) c.in-Some.ensures.0)
    (c.if-begins_word.ensures ∙ ap (next_passes starts_word) (c.as_bytes-2.ensures.value ∙ c.split_at.ensures.back))

pub returns-in_default : goal.returns-in_default
returns-in_default c =
    long_number_at c.args.at c.args.text.now c.digits_len-len.result c.requires.full c.requires.begins (run (goal.at.returns-in_default c).After-digits_len-len)
    (λ small. c.in_default.ensures (rw c.split_at.ensures.front small))

pub returns-then-begins_word : goal.returns-then-begins_word
returns-then-begins_word c =
    after_number_at c.args.at c.args.text.now c.digits_len-len.result c.in-Some.number c.requires.full c.requires.begins (run (goal.at.returns-then-begins_word c).After-digits_len-len)
    (c.in-Some.ensures.1 ∙ ap (digits_value 10) c.split_at.ensures.front) (subst (λ (n : ℕ). n ≤ 9223372036854775808) (sym c.in-Some.ensures.1) c.in-Some.ensures.0)
    (c.if-begins_word.ensures ∙ ap (next_passes starts_word) (c.as_bytes-2.ensures.value ∙ c.split_at.ensures.back))
