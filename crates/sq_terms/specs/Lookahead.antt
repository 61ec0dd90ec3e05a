-- Which parentheses open a condition and which an operand, as far as it is seen by looking ahead.
use Rattle.std.specs.Prelude.{◌≡◌, ℕ, zero, suc, Bool, true, false, ◌||◌, is_some, if◌then◌else◌, [], ◌∷◌, Option, Some, None}
use Rattle.sq_token.specs.declared.token.TokenKind.{TokenKind}
use Rattle.sq_ast.specs.Words as w
use Rattle.sq_ast.specs.Words.{Tokens, is_token}
use Rattle.sq_ast.specs.Reading as r
use Rattle.sq_ast.specs.Reading.{comparison_of}

-- a token that stands behind the left operand of a test, and in no expression
unfoldable pub is_test : TokenKind → Bool
is_test t = is_some (comparison_of t) || is_token w.IS t

abbrev pub one_less : ℕ → Option ℕ
one_less zero = None
one_less (suc n) = Some n

-- how many levels further inside the next token stands, unless this one closes the parenthesis
unfoldable pub depth_behind : ℕ → TokenKind → Option ℕ
depth_behind depth t = if is_token w.LEFT_PAREN t then Some (suc depth) else (if is_token w.RIGHT_PAREN t then one_less depth else Some depth)

abbrev pub where_open : Option ℕ → (ℕ → Bool) → Bool
where_open None f = false
where_open (Some depth) f = f depth

-- whether a test stands before the parenthesis closes, from so many levels further inside
unfoldable pub holds_test : ℕ → Tokens → Bool
holds_test depth [] = false
holds_test depth (t ∷ ts) = if is_test t then true else where_open (depth_behind depth t) (λ next. holds_test next ts)

-- an answer that rules out an operand where it is true, and a condition in parentheses where it is false
abbrev pub Tells : Bool → Tokens → Type 0
Tells true ts = (n : ℕ) → r.sum (r.level n) ts ≡ None
Tells false ts = (n : ℕ) → r.nested_cond (r.level n) ts ≡ None
