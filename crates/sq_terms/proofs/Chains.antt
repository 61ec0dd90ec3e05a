-- Chains of two or more members, and what the loops that read chains keep.
use Rattle.std.specs.Prelude.{◌≡◌, ◌≢◌, ◌<◌, false, List, [], ◌∷◌, ◌++◌, length, Option, Some, None, Result, Ok, Err, IsErrAnd, refl}
use Rattle.std.specs.Borrow.{Bor}
use Rattle.std.proofs.Common.{sym, ap, ◌∙◌}
use Rattle.sq_token.specs.declared.token.Token.{Token}
use Rattle.sq_ast.specs.declared.expr.ExprTree.{ExprTree}
use Rattle.sq_ast.specs.declared.expr.ExprTree.TheVariants as expr
use Rattle.sq_ast.specs.declared.expr.TermTree.{TermTree}
use Rattle.sq_ast.specs.declared.cond.CondTree.{CondTree}
use Rattle.sq_ast.specs.declared.cond.CondTree.TheVariants as condition
use Rattle.sq_ast.specs.Words.{Tokens}
use Rattle.sq_ast.specs.Trees.{term, sum_of, product_of, any_of, all_of}
use Rattle.sq_ast.specs.Parser.{Parser, many}
use Rattle.sq_terms.specs.Answers.{Reads}
use Rattle.sq_terms.specs.declared.stops.Stop.{Stop}
use Rattle.sq_terms.specs.declared.stops.Stop.TheVariants.{NotGrammar}
use Rattle.sq_ast.proofs.Loops.{Steps, with_front, front_stop, front_step, front_refuse}

pub sum_more : (first : ExprTree) (more : List TermTree) → more ≢ [] → sum_of first more ≡ expr.Sum (term false first ∷ more)
unfolding sum_of
sum_more first [] h = absurd (h refl)
sum_more first (second ∷ more) h = refl

pub product_more : (first : ExprTree) (more : List ExprTree) → more ≢ [] → product_of first more ≡ expr.Product (first ∷ more)
unfolding product_of
product_more first [] h = absurd (h refl)
product_more first (second ∷ more) h = refl

pub any_more : (first : CondTree) (more : List CondTree) → more ≢ [] → any_of first more ≡ condition.Any (first ∷ more)
unfolding any_of
any_more first [] h = absurd (h refl)
any_more first (second ∷ more) h = refl

pub all_more : (first : CondTree) (more : List CondTree) → more ≢ [] → all_of first more ≡ condition.All (first ∷ more)
unfolding all_of
all_more first [] h = absurd (h refl)
all_more first (second ∷ more) h = refl

-- ---- what a loop keeps: the members that were found, followed by what is still read, are what is read in all

pub begins : {A : Type 0} (found : List A) (o : Option (List A × Tokens)) → found ≡ [] → with_front found o ≡ o
begins found None h = refl
begins {A} found (Some (xs, rest)) h = ap (λ (front : List A). with_front front (Some (xs, rest))) h

pub goes : {A : Type 0} {next : Parser (Option A)} (steps : Steps next) (found grown : List A) (ts mid : Tokens) (x : A) (all : Option (List A × Tokens)) →
    with_front found (many next ts) ≡ all → next ts ≡ Some (Some x, mid) → grown ≡ found ++ x ∷ [] → with_front grown (many next mid) ≡ all
goes {A} {next} steps found grown ts mid x all keeps was more = ap (λ (front : List A). with_front front (many next mid)) more ∙ (front_step next steps found ts mid x was ∙ keeps)

pub falls : {A : Type 0} {next : Parser (Option A)} (steps : Steps next) (ts mid : Tokens) (x : A) → next ts ≡ Some (Some x, mid) → length mid < length ts
falls steps ts mid x was = steps.shrinks ts mid x was

pub ends : {A : Type 0} {next : Parser (Option A)} (steps : Steps next) (found : List A) (ts mid : Tokens) (all : Option (List A × Tokens)) →
    with_front found (many next ts) ≡ all → next ts ≡ Some (None, mid) → all ≡ Some (found, mid)
ends {A} {next} steps found ts mid all keeps was = sym keeps ∙ front_stop next steps found ts mid was

breaks : {A : Type 0} {next : Parser (Option A)} (steps : Steps next) (found : List A) (ts : Tokens) (all : Option (List A × Tokens)) →
    with_front found (many next ts) ≡ all → next ts ≡ None → all ≡ None
breaks {A} {next} steps found ts all keeps was = sym keeps ∙ front_refuse next steps found ts was

-- what a `?` passes on
stopped : {A : Type 0} (r : Result (A × Bor (List Token)) Stop) (expected : Option (A × Tokens)) (stop : Stop) (Q : Stop → Type 0) →
    IsErrAnd r Q → ((y : Stop) → Q y → y ≡ stop) → (stop ≡ NotGrammar → expected ≡ None) → Reads r expected
stopped (Ok p) expected stop Q h same refused = absurd h
stopped (Err y) expected stop Q h same refused = λ is. refused (sym (same y h) ∙ is)

pub chain_stopped : {A : Type 0} {next : Parser (Option A)} (steps : Steps next) (found : List A) (ts : Tokens) (all : Option (List A × Tokens))
    (r : Result (List A × Bor (List Token)) Stop) (stop : Stop) (Q : Stop → Type 0) →
    with_front found (many next ts) ≡ all → (stop ≡ NotGrammar → next ts ≡ None) → IsErrAnd r Q → ((y : Stop) → Q y → y ≡ stop) → Reads r all
chain_stopped steps found ts all r stop Q keeps refused h same = stopped r all stop Q h same (λ is. breaks steps found ts all keeps (refused is))
