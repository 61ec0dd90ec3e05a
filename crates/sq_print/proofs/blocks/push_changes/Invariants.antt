use Rattle.std.proofs.Common.{◌≡◌, ◌++◌, take}
use Rattle.std.specs.List.{flat_map}
use Rattle.sq_algebra.specs.ZSet.{entries}
use Rattle.sq_print.specs.Texts.{rise_text}
use Rattle.sq_print.proofs.blocks.push_changes.Given as goal

abbrev pub invariant-loop-i : goal.invariant-loop-i
invariant-loop-i l = l.out.items ≡ l.fn.out.items ++ flat_map (λ e. rise_text l.view e.0 e.1) (take l.i (entries l.change))
