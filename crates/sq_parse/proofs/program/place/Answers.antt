use Rattle.std.proofs.Common.{◌≡◌, ◌<◌, true, false, length, Some, None, refl, arith}
use Rattle.std.proofs.lemmas.Grind.{common_steps}
use Rattle.sq_ast.specs.Spelling.{kinds}
use Rattle.sq_ast.specs.Reading as r
use Rattle.sq_ast.proofs.Programs.{place_reads}
use Rattle.sq_parse.proofs.Places.{no_tokens, empty_kinds, some_kinds}
use Rattle.sq_parse.proofs.program.place.Goals as goal

pub returns-then-is_empty : goal.returns-then-is_empty
returns-then-is_empty c =
    let none : length c.args.tokens.now ≡ 0 = grind (arith, common_steps) in no_tokens c.args.number (kinds c.args.tokens.now) (empty_kinds c.args.tokens.now none)

pub returns-then-not-is_shallow : goal.returns-then-not-is_shallow
returns-then-not-is_shallow c =
    let some : 0 < length c.args.tokens.now = grind (arith, common_steps) in
    let deep : r.is_shallow (kinds c.args.tokens.now) ≡ false = cc in
    place_reads c.args.number (kinds c.args.tokens.now) false (r.statement (kinds c.args.tokens.now)) (some_kinds c.args.tokens.now some) deep refl

pub returns-in-Ok : goal.returns-in-Ok
returns-in-Ok c =
    let some : 0 < length c.args.tokens.now = grind (arith, common_steps) in
    let shallow : r.is_shallow (kinds c.args.tokens.now) ≡ true = cc in
    place_reads c.args.number (kinds c.args.tokens.now) true (Some c.in-Ok.body) (some_kinds c.args.tokens.now some) shallow c.in-Ok.ensures

pub returns-in-Err-NotGrammar : goal.returns-in-Err-NotGrammar
returns-in-Err-NotGrammar c =
    let some : 0 < length c.args.tokens.now = grind (arith, common_steps) in
    let shallow : r.is_shallow (kinds c.args.tokens.now) ≡ true = cc in
    place_reads c.args.number (kinds c.args.tokens.now) true None (some_kinds c.args.tokens.now some) shallow (c.in-Err-NotGrammar.ensures c.in-Err-NotGrammar.field-0-is)
