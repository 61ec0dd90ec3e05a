use Rattle.std.specs.Prelude.{map}
use Rattle.std.proofs.Common.{◌≡◌, ◌++◌, take}
use Rattle.std.specs.List.{zip}
use Rattle.sq_print.specs.Texts.{member_text, with_commas}
use Rattle.sq_print.proofs.json_text.push_members.Given as goal

abbrev pub invariant-loop-i : goal.invariant-loop-i
invariant-loop-i l = l.out.items ≡ l.fn.out.items ++ with_commas (take l.i (map (λ m. member_text m.0 m.1) (zip l.columns l.row)))
