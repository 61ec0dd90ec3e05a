-- What 128 bits with a sign keep of a number.
use Rattle.std.specs.Int.{int_wrap, w128}
use Rattle.sq_value.specs.declared.value.Value.{Value}
use Rattle.sq_value.specs.declared.value.Value.TheVariants.{Null, Int, Text}

-- the number that is left in 128 bits; what is no number stays
abbrev pub wrapped : Value → Value
wrapped Null = Null
wrapped (Int x) = Int (int_wrap w128 x)
wrapped (Text t) = Text t
