-- How many sources a program has, by its tokens.
use Rattle.std.proofs.Common.{◌≡◌, ◌*◌, ◌≤◌, ◌^◌, ℕ, List, ap, ◌∙◌, arith}
use Rattle.sq_ast.specs.Sources.{program_sources}
use Rattle.sq_ast.specs.declared.statement.Statement.{Statement}

-- half as many as the tokens, so few if these are few
pub few : (statements items : List Statement) (tokens sources : ℕ) → tokens ≤ 2 ^ 20 → statements ≡ items → 2 * program_sources items ≤ tokens → sources ≡ program_sources statements → sources ≤ 2 ^ 20
few statements items tokens sources short same half is =
    let all : sources ≡ program_sources items = is ∙ ap program_sources same in
    omega (arith, short, half, all)
