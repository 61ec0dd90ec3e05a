-- Chains of two or more queries.
use Rattle.std.specs.Prelude.{◌≡◌, ◌≢◌, List, [], ◌∷◌, refl}
use Rattle.sq_ast.specs.declared.query.QueryTree.{QueryTree}
use Rattle.sq_ast.specs.declared.query.QueryTree.TheVariants as query
use Rattle.sq_ast.specs.declared.query.StepTree.{StepTree}
use Rattle.sq_ast.specs.Trees.{chain_of, intersect_of}

pub chain_more : (first : QueryTree) (more : List StepTree) → more ≢ [] → chain_of first more ≡ query.Chain first more
unfolding chain_of
chain_more first [] h = absurd (h refl)
chain_more first (second ∷ more) h = refl

pub intersect_more : (first : QueryTree) (more : List QueryTree) → more ≢ [] → intersect_of first more ≡ query.Intersect (first ∷ more)
unfolding intersect_of
intersect_more first [] h = absurd (h refl)
intersect_more first (second ∷ more) h = refl
