-- Each statement of a program that tokens spell is spelled by some of them.
use Rattle.std.proofs.Common.{ℕ, ◌<◌, ◌^◌, List, ◌∷◌, length, arith}
use Rattle.std.proofs.lemmas.List.{length-append, length-map}
use Rattle.std.specs.List.{AllByRecursion}
use Rattle.sq_token.specs.declared.token.Token.{Token}
use Rattle.sq_ast.specs.Spelling as by
use Rattle.sq_ast.specs.Spelling.{SpellsPlace, SpellsFrom, Spells}
use Rattle.sq_ast.specs.Words as w
use Rattle.sq_ast.specs.Words.{Tokens}
use Rattle.sq_ast.specs.declared.statement.Statement.{Statement}
use Rattle.sq_expr.proofs.Lists.{all_append}
use Rattle.sq_typed.specs.Checked.{Spelling}

place_spelled : {n : ℕ} {ts : Tokens} {found : List Statement} → length ts < 2 ^ 27 → SpellsPlace n ts found → AllByRecursion Spelling found
place_spelled few by.empty_place = tt
place_spelled few (by.statement {n} {ts} p shallow) = (record { tokens = ts; spelled = p; shallow = shallow; few = few }, tt)

from_spelled : {n : ℕ} {ts : Tokens} {found : List Statement} → length ts < 2 ^ 27 → SpellsFrom n ts found → AllByRecursion Spelling found
from_spelled few (by.last_place p) = place_spelled few p
from_spelled few (by.more_places {n} {ts} {rest} {found} {more} p t) =
    let all = length-append ts (w.SEMICOLON ∷ rest) in
    all_append Spelling found more (place_spelled (omega (arith, few, all)) p) (from_spelled (omega (arith, few, all)) t)

pub each_spelled : (tokens : List Token) (statements : List Statement) → length tokens < 2 ^ 27 → Spells tokens statements → AllByRecursion Spelling statements
each_spelled tokens statements few spelled = from_spelled (let all = length-map tokens (λ (t : Token). t.kind) in omega (arith, few, all)) spelled
