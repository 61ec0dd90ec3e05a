-- The steps of which the reading of tokens is made. A parser answers what it read and the tokens after it, or None
-- where the tokens do not go on as it wants.
use Rattle.std.specs.Prelude.{ℕ, zero, suc, Bool, true, false, if◌then◌else◌, List, [], ◌∷◌, length, Option, Some, None}
use Rattle.sq_token.specs.declared.token.TokenKind.{TokenKind}
use Rattle.sq_ast.specs.Words.{Tokens, is_token}

abbrev pub Parser : Type 0 → Type 0
Parser A = Tokens → Option (A × Tokens)

abbrev pub and_then : {A B : Type 0} → Option (A × Tokens) → (A → Parser B) → Option (B × Tokens)
and_then None f = None
and_then (Some p) f = f p.0 p.1

infixl 10 ◌>>=◌
abbrev pub ◌>>=◌ : {A B : Type 0} → Parser A → (A → Parser B) → Parser B
p >>= f = λ ts. and_then (p ts) f

infixl 10 ◌>>◌
abbrev pub ◌>>◌ : {A B : Type 0} → Parser A → Parser B → Parser B
p >> q = p >>= (λ _. q)

abbrev pub pure : {A : Type 0} → A → Parser A
pure x = λ ts. Some (x, ts)

abbrev pub refuse : {A : Type 0} → Parser A
refuse = λ ts. None

infixr 11 ◌<$>◌
abbrev pub ◌<$>◌ : {A B : Type 0} → (A → B) → Parser A → Parser B
f <$> p = p >>= (λ x. pure (f x))

-- whether this token comes next
unfoldable pub sees : TokenKind → Tokens → Bool
sees t [] = false
sees t (u ∷ ts) = is_token t u

-- the tokens after it where it comes next, and else all
unfoldable pub after : TokenKind → Tokens → Tokens
after t [] = []
after t (u ∷ ts) = if is_token t u then ts else u ∷ ts

-- takes this token if it comes next, and says whether it did
abbrev pub eat : TokenKind → Parser Bool
eat t = λ ts. Some (sees t ts, after t ts)

abbrev pub go_on : Bool → Parser (Unit {0})
go_on true = pure tt
go_on false = refuse

-- wants this token
abbrev pub expect : TokenKind → Parser (Unit {0})
expect t = eat t >>= go_on

-- what the first parser reads, or where it refuses what the second reads from the same place
abbrev pub first_of : {A : Type 0} → Option (A × Tokens) → Option (A × Tokens) → Option (A × Tokens)
first_of (Some p) other = Some p
first_of None other = other

abbrev pub or_else : {A : Type 0} → Parser A → Parser A → Parser A
or_else p q = λ ts. first_of (p ts) (q ts)

-- ---- repetition

abbrev pub goes_on : {A : Type 0} → Option A → Parser (List A) → Parser (List A)
goes_on None more = pure []
goes_on (Some x) more = (λ xs. x ∷ xs) <$> more

-- reads with the parser until it answers None, at most so many times
unfoldable pub many_for : {A : Type 0} → ℕ → Parser (Option A) → Parser (List A)
many_for zero next = pure []
many_for (suc turns) next = next >>= (λ found. goes_on found (many_for turns next))

-- as often as there are tokens, which is never too seldom where each turn takes one
unfoldable pub many : {A : Type 0} → Parser (Option A) → Parser (List A)
many next = λ ts. many_for (length ts) next ts

-- what the word introduces, where it comes next
abbrev pub clause : {A : Type 0} → TokenKind → Parser A → Parser (Option A)
clause t p = eat t >>= (λ found. if found then Some <$> p else pure None)
