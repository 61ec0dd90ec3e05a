use Rattle.std.proofs.Common.{◌≡◌, length, suc, sym, ◌∙◌, Some, None, arith}
use Rattle.sq_ast.specs.Spelling.{kinds}
use Rattle.sq_terms.proofs.Shorter.{next_shorter}
use Rattle.sq_terms.proofs.Operands.{test_end, test_here, test_later, no_deeper}
use Rattle.sq_terms.proofs.cond.holds_test.Goals as goal

pub returns-in_default : goal.returns-in_default
returns-in_default c = sym (test_end c.tokens.depth (kinds c.tokens.rest.now) c.in_default.ensures) ∙ c.tokens.invariant.1

pub returns-then-is_test : goal.returns-then-is_test
returns-then-is_test c =
    sym (test_here c.tokens.depth c.in-Some.kind.now (kinds c.tokens.rest.now) (kinds c.in-Some.behind.now) c.in-Some.ensures (sym c.is_test.ensures ∙ c.if-is_test.true)) ∙ c.tokens.invariant.1

pub returns-in_default-depth_behind : goal.returns-in_default-depth_behind
returns-in_default-depth_behind c =
    sym (test_later c.tokens.depth c.in-Some.kind.now (kinds c.tokens.rest.now) (kinds c.in-Some.behind.now) None c.in-Some.ensures
    (sym c.is_test.ensures ∙ c.if-is_test.false) (sym c.in_default-depth_behind.is ∙ c.depth_behind.ensures)) ∙ c.tokens.invariant.1

pub tokens-preserved : goal.tokens-preserved
tokens-preserved c =
    let l = c.tokens in
    let kind = c.in-Some.kind.now in
    let next = c.in-Some-depth_behind.next in
    let shorter : length l.rest.now ≡ suc (length c.in-Some.behind.now) = next_shorter l.rest.now c.in-Some.behind.now kind c.in-Some.ensures in
    let went = sym c.in-Some-depth_behind.is ∙ c.depth_behind.ensures in (
      (let deeper = no_deeper l.depth kind next went in omega (arith, l.invariant.0)),
      sym (test_later l.depth kind (kinds l.rest.now) (kinds c.in-Some.behind.now) (Some next) c.in-Some.ensures (sym c.is_test.ensures ∙ c.if-is_test.false) went) ∙ l.invariant.1,
    )
