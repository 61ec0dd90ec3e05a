-- Why a list of tokens spells no list of statements: the first statement that is too deep, or that no tree spells.
use Rattle.std.specs.Prelude.{◌≢◌, ℕ, suc, ◌+◌, ◌<◌, List, [], ◌∷◌, ◌++◌, take}
use Rattle.std.specs.List.{AllByRecursion}
use Rattle.sq_ast.specs.declared.statement.Statement.{Statement}
use Rattle.sq_ast.specs.declared.statement.Body.{Body}
use Rattle.sq_ast.specs.Words as w
use Rattle.sq_ast.specs.Words.{Tokens}
use Rattle.sq_token.specs.declared.token.Token.{Token}
use Rattle.sq_ast.specs.Spelling.{SpellsBody, SpellsPlace, IsShallow, kinds}

-- the cause, with the number of the statement
pub data Refusal : Type 0 where
  TooDeep : ℕ → Refusal
  NotGrammar : ℕ → Refusal

-- some front of the tokens has more than 64 opening parentheses beyond its closing ones
abbrev pub IsTooDeep : Tokens → Type 0
IsTooDeep ts = (n : ℕ) × (64 + w.closed (take n ts) < w.opened (take n ts))

abbrev pub HasNoSemicolon : Tokens → Type 0
HasNoSemicolon ts = AllByRecursion (λ t. t ≢ w.SEMICOLON) ts

-- the tokens of one place are no statement, for this cause: too deep comes first
pub data RefusesPlace : ℕ → Tokens → Refusal → Type 0 where
  too_deep : {n : ℕ} {ts : Tokens} → IsTooDeep ts → RefusesPlace n ts (TooDeep n)
  not_grammar : {n : ℕ} {ts : Tokens} → ts ≢ [] → IsShallow ts → ((b : Body) → SpellsBody ts b [] → ⊥) → RefusesPlace n ts (NotGrammar n)

-- some place is refused, and each place before it is none or a statement; the first place has this number
pub data RefusesFrom : ℕ → Tokens → Refusal → Type 0 where
  last_refused : {n : ℕ} {ts : Tokens} {why : Refusal} → HasNoSemicolon ts → RefusesPlace n ts why → RefusesFrom n ts why
  refused_here : {n : ℕ} {ts : Tokens} {why : Refusal} (rest : Tokens) → HasNoSemicolon ts → RefusesPlace n ts why → RefusesFrom n (ts ++ (w.SEMICOLON ∷ rest)) why
  refused_later : {n : ℕ} {ts rest : Tokens} {found : List Statement} {why : Refusal} → SpellsPlace n ts found → RefusesFrom (suc n) rest why →
      RefusesFrom n (ts ++ (w.SEMICOLON ∷ rest)) why

-- the tokens spell no statements, for this cause
abbrev pub RefusesProgram : Tokens → Refusal → Type 0
RefusesProgram = RefusesFrom 1

abbrev pub Refuses : List Token → Refusal → Type 0
Refuses ts why = RefusesProgram (kinds ts) why
