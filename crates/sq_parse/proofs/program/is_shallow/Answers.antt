use Rattle.std.proofs.Common.{sym, ◌∙◌, ◌≡◌, suc, length, arith}
use Rattle.sq_ast.specs.Spelling.{kinds}
use Rattle.sq_ast.specs.Words as w
use Rattle.sq_ast.specs.Words.{is_token}
use Rattle.sq_terms.proofs.Shorter.{next_shorter}
use Rattle.sq_parse.proofs.Places.{one_more, shallow_from, shallow_end, shallow_not, shallow_on}
use Rattle.sq_parse.proofs.program.is_shallow.Goals as goal

pub tokens-init : goal.tokens-init
tokens-init c = (omega arith, omega arith, shallow_from (kinds c.args.tokens.now))

pub returns-then-left-right : goal.returns-then-left-right
returns-then-left-right c = sym (shallow_not c.tokens.left c.tokens.right (kinds c.tokens.rest.now) (omega arith)) ∙ c.tokens.invariant.2

pub returns-in_default : goal.returns-in_default
returns-in_default c = sym (shallow_end c.tokens.left c.tokens.right (kinds c.tokens.rest.now) c.in_default.ensures (omega arith)) ∙ c.tokens.invariant.2

pub tokens-preserved : goal.tokens-preserved
tokens-preserved c =
    let l = c.tokens in
    let kind = c.in-Some.kind.now in
    let shorter : length l.rest.now ≡ suc (length c.in-Some.behind.now) = next_shorter l.rest.now c.in-Some.behind.now kind c.in-Some.ensures in (
      (let more = one_more l.left (is_token w.LEFT_PAREN kind) c.count_on-left.result c.count_on-left.ensures in omega (arith, l.invariant.0)),
      (let more = one_more l.right (is_token w.RIGHT_PAREN kind) c.count_on-right.result c.count_on-right.ensures in omega (arith, l.invariant.1)),
      shallow_on l.left l.right c.count_on-left.result c.count_on-right.result kind (kinds l.rest.now) (kinds c.in-Some.behind.now) _ (omega arith) c.in-Some.ensures
          c.count_on-left.ensures c.count_on-right.ensures l.invariant.2,
    )
