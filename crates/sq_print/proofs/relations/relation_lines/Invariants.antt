use Rattle.std.proofs.Common.{◌≡◌, take}
use Rattle.std.specs.List.{flat_map}
use Rattle.sq_print.specs.Catalogues.{relation_text}
use Rattle.sq_print.proofs.relations.relation_lines.Given as goal

abbrev pub invariant-loop-i : goal.invariant-loop-i
invariant-loop-i l = l.out.items ≡ flat_map relation_text (take l.i l.catalog)
