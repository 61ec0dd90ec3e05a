use Rattle.std.proofs.Common.{◌≡◌, ◌++◌, take}
use Rattle.sq_print.specs.Texts.{with_commas}
use Rattle.sq_print.proofs.CommaLemmas.{names}
use Rattle.sq_print.proofs.relations.push_names.Given as goal

abbrev pub invariant-loop-i : goal.invariant-loop-i
invariant-loop-i l = l.out.items ≡ l.fn.out.items ++ with_commas (take l.i (names l.columns))
