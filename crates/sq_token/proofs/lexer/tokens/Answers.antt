use Rattle.std.proofs.Common.{ℕ, List, subst}
use Rattle.std.specs.Result.{IfOk, IfErr}
use Rattle.sq_token.specs.Reading.{Tokens}
use Rattle.sq_token.specs.Fault.{HasCause}
use Rattle.sq_token.proofs.Answer.{only_list, first_fault, in_turn, spelled, counted}
use Rattle.sq_token.proofs.lexer.tokens.Goals as goal

pub returns : goal.returns
returns c =
    let text = c.args.text.now in
    let r = c.read.result in
    let found = subst (λ (t : List ℕ). IfOk r (λ v. Tokens t v.items)) c.in-Ok.ensures.cases.0 c.read.ensures.found in
    let refused = subst (λ (t : List ℕ). IfErr r (λ f. HasCause t f)) c.in-Ok.ensures.cases.0 c.read.ensures.refused in
    record {
      found = found;
      only = λ list is. only_list text r list found refused is;
      spans = in_turn text r found;
      slices = spelled text r found;
      count = counted text r found;
      refused = refused;
      first = λ fault is. first_fault text r fault found refused is;
    }
