-- How symbols are spelled.
use Rattle.std.specs.Prelude.{◌≡◌, ℕ, Bool, false, List, [], ◌∷◌, Option, Some, None, ◌⊎◌, ◌==◌, ◌||◌, ◌&&◌, if◌then◌else◌, codes}
use Rattle.sq_token.specs.declared.symbol.Symbol.{Symbol}
use Rattle.sq_token.specs.declared.symbol.Symbol.TheVariants.{LeftParen, RightParen, Comma, Semicolon, Dot, Star, Plus, Minus, Equal, NotEqual, Less, LessEqual, Greater, GreaterEqual}

-- the spelling of a symbol
abbrev pub spelling : Symbol → List ℕ
spelling LeftParen = codes "("
spelling RightParen = codes ")"
spelling Comma = codes ","
spelling Semicolon = codes ";"
spelling Dot = codes "."
spelling Star = codes "*"
spelling Plus = codes "+"
spelling Minus = codes "-"
spelling Equal = codes "="
spelling NotEqual = codes "<>"
spelling Less = codes "<"
spelling LessEqual = codes "<="
spelling Greater = codes ">"
spelling GreaterEqual = codes ">="

-- a slice spells a symbol; `!=` is another spelling of `<>`
abbrev pub IsSymbol : List ℕ → Symbol → Type 0
IsSymbol slice symbol = (slice ≡ spelling symbol) ⊎ ((symbol ≡ NotEqual) × (slice ≡ codes "!="))

-- whether this byte directly behind a symbol would make a longer symbol, or a comment, of the two
abbrev pub extends : Symbol → ℕ → Bool
extends Less c = c == 61 || c == 62
extends Greater c = c == 61
extends Minus c = c == 45
extends _ c = false

-- the symbol that one byte spells
abbrev pub symbol_of_byte : ℕ → Option Symbol
symbol_of_byte c =
    if c == 40 then Some LeftParen
    else (if c == 41 then Some RightParen
    else (if c == 44 then Some Comma
    else (if c == 59 then Some Semicolon
    else (if c == 46 then Some Dot
    else (if c == 42 then Some Star
    else (if c == 43 then Some Plus
    else (if c == 45 then Some Minus
    else (if c == 61 then Some Equal
    else (if c == 60 then Some Less
    else (if c == 62 then Some Greater
    else None))))))))))

-- the symbol that two bytes spell
abbrev pub symbol_of_pair : ℕ → ℕ → Option Symbol
symbol_of_pair c d =
    if c == 60 && d == 62 || c == 33 && d == 61 then Some NotEqual
    else (if c == 60 && d == 61 then Some LessEqual
    else (if c == 62 && d == 61 then Some GreaterEqual
    else None))

-- the symbol that the first two bytes of a text spell
abbrev pub symbol_of_two : List ℕ → Option Symbol
symbol_of_two [] = None
symbol_of_two (c ∷ []) = None
symbol_of_two (c ∷ d ∷ rest) = symbol_of_pair c d
