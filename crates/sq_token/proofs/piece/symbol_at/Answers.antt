use Rattle.std.proofs.Common.{sym}
use Rattle.sq_token.proofs.SymbolLemmas.{two_symbol, one_symbol, no_symbol}
use Rattle.sq_token.proofs.piece.symbol_at.Goals as goal

pub returns-in-Some : goal.returns-in-Some
returns-in-Some c = two_symbol c.args.text.now c.in-Some.symbol (sym c.in-Some.ensures)

pub returns-in_err-symbol : goal.returns-in_err-symbol
returns-in_err-symbol c = rw c.from_residual.ensures (no_symbol c.args.text.now (sym c.in_default.ensures) (sym c.in_err-symbol.ensures))

pub returns : goal.returns
returns c = one_symbol c.args.text.now c.in_ok-symbol.symbol c.requires.full c.requires.no_comment (sym c.in_default.ensures) (sym c.in_ok-symbol.ensures)
