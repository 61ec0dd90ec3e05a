-- The tokens that the grammar writes in capitals or as symbols, and which words are no names.
use Rattle.std.specs.Prelude.{ℕ, Bool, false, List, [], ◌∷◌, codes, bytes_eq, count_by}
use Rattle.std.specs.List.{list_any}
use denote.Enum.Bare.{sameb}
use Rattle.sq_token.specs.contracts.symbol.Symbol.{the_type}
use Rattle.sq_token.specs.declared.symbol.Symbol.{Symbol}
use Rattle.sq_token.specs.declared.token.TokenKind.{TokenKind}
use Rattle.sq_token.specs.declared.token.TokenKind.TheVariants as token
use Rattle.sq_token.specs.declared.symbol.Symbol.TheVariants as symbol

-- what a list of tokens says, without the places where they stand
abbrev pub Tokens : Type 0
Tokens = List TokenKind

abbrev pub Text : Type 0
Text = List ℕ

-- ---- symbols

abbrev pub LEFT_PAREN : TokenKind
LEFT_PAREN = token.Symbol symbol.LeftParen

abbrev pub RIGHT_PAREN : TokenKind
RIGHT_PAREN = token.Symbol symbol.RightParen

abbrev pub COMMA : TokenKind
COMMA = token.Symbol symbol.Comma

abbrev pub SEMICOLON : TokenKind
SEMICOLON = token.Symbol symbol.Semicolon

abbrev pub DOT : TokenKind
DOT = token.Symbol symbol.Dot

abbrev pub STAR : TokenKind
STAR = token.Symbol symbol.Star

abbrev pub PLUS : TokenKind
PLUS = token.Symbol symbol.Plus

abbrev pub MINUS : TokenKind
MINUS = token.Symbol symbol.Minus

abbrev pub EQUAL : TokenKind
EQUAL = token.Symbol symbol.Equal

abbrev pub NOT_EQUAL : TokenKind
NOT_EQUAL = token.Symbol symbol.NotEqual

abbrev pub LESS : TokenKind
LESS = token.Symbol symbol.Less

abbrev pub LESS_EQUAL : TokenKind
LESS_EQUAL = token.Symbol symbol.LessEqual

abbrev pub GREATER : TokenKind
GREATER = token.Symbol symbol.Greater

abbrev pub GREATER_EQUAL : TokenKind
GREATER_EQUAL = token.Symbol symbol.GreaterEqual

-- ---- words, which tokens keep in lower case

abbrev pub CREATE : TokenKind
CREATE = token.Word (codes "create")

abbrev pub TABLE : TokenKind
TABLE = token.Word (codes "table")

abbrev pub MATERIALIZED : TokenKind
MATERIALIZED = token.Word (codes "materialized")

abbrev pub LOCAL : TokenKind
LOCAL = token.Word (codes "local")

abbrev pub VIEW : TokenKind
VIEW = token.Word (codes "view")

abbrev pub AS : TokenKind
AS = token.Word (codes "as")

abbrev pub NOT : TokenKind
NOT = token.Word (codes "not")

abbrev pub NULL : TokenKind
NULL = token.Word (codes "null")

abbrev pub INT : TokenKind
INT = token.Word (codes "int")

abbrev pub INTEGER : TokenKind
INTEGER = token.Word (codes "integer")

abbrev pub BIGINT : TokenKind
BIGINT = token.Word (codes "bigint")

abbrev pub VARCHAR : TokenKind
VARCHAR = token.Word (codes "varchar")

abbrev pub TEXT : TokenKind
TEXT = token.Word (codes "text")

abbrev pub UNION : TokenKind
UNION = token.Word (codes "union")

abbrev pub ALL : TokenKind
ALL = token.Word (codes "all")

abbrev pub DISTINCT : TokenKind
DISTINCT = token.Word (codes "distinct")

abbrev pub EXCEPT : TokenKind
EXCEPT = token.Word (codes "except")

abbrev pub INTERSECT : TokenKind
INTERSECT = token.Word (codes "intersect")

abbrev pub SELECT : TokenKind
SELECT = token.Word (codes "select")

abbrev pub FROM : TokenKind
FROM = token.Word (codes "from")

abbrev pub WHERE : TokenKind
WHERE = token.Word (codes "where")

abbrev pub GROUP : TokenKind
GROUP = token.Word (codes "group")

abbrev pub BY : TokenKind
BY = token.Word (codes "by")

abbrev pub HAVING : TokenKind
HAVING = token.Word (codes "having")

abbrev pub CROSS : TokenKind
CROSS = token.Word (codes "cross")

abbrev pub JOIN : TokenKind
JOIN = token.Word (codes "join")

abbrev pub INNER : TokenKind
INNER = token.Word (codes "inner")

abbrev pub LEFT : TokenKind
LEFT = token.Word (codes "left")

abbrev pub OUTER : TokenKind
OUTER = token.Word (codes "outer")

abbrev pub ON : TokenKind
ON = token.Word (codes "on")

abbrev pub OR : TokenKind
OR = token.Word (codes "or")

abbrev pub AND : TokenKind
AND = token.Word (codes "and")

abbrev pub IS : TokenKind
IS = token.Word (codes "is")

abbrev pub COUNT : TokenKind
COUNT = token.Word (codes "count")

abbrev pub SUM : TokenKind
SUM = token.Word (codes "sum")

abbrev pub MIN : TokenKind
MIN = token.Word (codes "min")

abbrev pub MAX : TokenKind
MAX = token.Word (codes "max")

-- the words that are no names
abbrev pub reserved_words : List Text
reserved_words =
    codes "all" ∷ codes "and" ∷ codes "as" ∷ codes "between" ∷ codes "by" ∷ codes "case" ∷ codes "create" ∷ codes "cross" ∷ codes "distinct" ∷
    codes "else" ∷ codes "end" ∷ codes "except" ∷ codes "exists" ∷ codes "from" ∷ codes "full" ∷ codes "group" ∷ codes "having" ∷ codes "in" ∷
    codes "inner" ∷ codes "intersect" ∷ codes "is" ∷ codes "join" ∷ codes "lateral" ∷ codes "left" ∷ codes "like" ∷ codes "limit" ∷ codes "natural" ∷
    codes "not" ∷ codes "null" ∷ codes "on" ∷ codes "or" ∷ codes "order" ∷ codes "outer" ∷ codes "primary" ∷ codes "right" ∷ codes "select" ∷
    codes "table" ∷ codes "then" ∷ codes "union" ∷ codes "using" ∷ codes "view" ∷ codes "when" ∷ codes "where" ∷ codes "with" ∷ []

unfoldable pub is_reserved : Text → Bool
is_reserved word = list_any (λ reserved. bytes_eq word reserved) reserved_words

-- ---- tests

-- `==` on symbols
unfoldable pub same_symbol : Symbol → Symbol → Bool
same_symbol = sameb the_type

-- whether the second token is the first, which is a word or a symbol
abbrev pub is_token : TokenKind → TokenKind → Bool
is_token (token.Word word) (token.Word other) = bytes_eq other word
is_token (token.Symbol s) (token.Symbol other) = same_symbol other s
is_token _ _ = false

-- how many opening parentheses there are, and how many closing ones
unfoldable pub opened : Tokens → ℕ
opened ts = count_by (is_token LEFT_PAREN) ts

unfoldable pub closed : Tokens → ℕ
closed ts = count_by (is_token RIGHT_PAREN) ts
