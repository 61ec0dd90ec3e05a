use Rattle.sq_parse.proofs.Verdict.{spelled, only_list, few, refused, first}
use Rattle.sq_parse.proofs.program.statements.Goals as goal

pub returns : goal.returns
returns c =
    let ts = c.args.tokens.now in
    let answer = c.read.result in
    record {
      found = spelled ts answer c.read.ensures;
      only = λ list is. only_list ts answer list c.read.ensures is;
      sources = few ts answer c.read.ensures;
      refused = refused ts answer c.read.ensures;
      first = λ why is. first ts answer why c.read.ensures is;
    }
