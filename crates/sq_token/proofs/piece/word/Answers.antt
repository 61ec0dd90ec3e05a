use Rattle.std.specs.Char.{to_ascii_lowercase}
use Rattle.std.proofs.Common.{map, List, ℕ, ap, subst, ◌∙◌}
use Rattle.sq_token.specs.Run.{IsRun}
use Rattle.sq_token.specs.Bytes.{in_word}
use Rattle.sq_token.proofs.Runs.{run_cut, word_ascii, word_piece}
use Rattle.sq_token.proofs.piece.word.Goals as goal

pub split_at-requires : goal.split_at-requires
split_at-requires c =
    run_cut in_word word_ascii c.args.text.now c.word_len-len.result c.utf8.text (subst (λ (s : List ℕ). IsRun in_word s c.word_len-len.result) c.as_bytes.ensures.value c.word_len-len.ensures)

pub returns : goal.returns
returns c =
    word_piece c.args.text.now c.word_len-len.result c.in_ok-word-2.word c.requires.full c.requires.begins (subst (λ (s : List ℕ). IsRun in_word s c.word_len-len.result) c.as_bytes.ensures.value c.word_len-len.ensures)
    (c.in_ok-word-2.ensures.equal ∙ c.as_str.ensures.value ∙ c.make_ascii_lowercase.ensures.bytes ∙ ap (map to_ascii_lowercase) (c.in_ok-word.ensures.ok ∙ c.split_at.ensures.front))
