use Rattle.std.proofs.Common.{◌∙◌, sym, arith}
use Rattle.sq_words.proofs.Reading.{told_in, told_out}
use Rattle.sq_words.proofs.words.number_told.Goals as goal

pub returns-then-number-most : goal.returns-then-number-most
returns-then-number-most c =
    let read = c.in-Ok.ensures.value.0 in
    read.1 ∙ sym (told_in c.args.least c.args.most c.args.other c.args.text.now (read.0.0, omega arith, omega arith, omega arith))

pub returns-in-Err : goal.returns-in-Err
returns-in-Err c = sym (told_out c.args.least c.args.most c.args.other c.args.text.now (λ h. c.in-Err.ensures.value.0 (h.0, omega arith)))
