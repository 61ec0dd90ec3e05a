-- The run of the sample.
--     IsAfter seed t engine ns   an engine over a plan of the program that is behind so many ticks, and how many rows its views list
--     wrapped ns zs              numbers, each with the total of a change, as 128 bits have it
--     number_line name n         the line of a view, from its name in quotes
use Rattle.std.specs.Prelude.{◌≡◌, ℕ, ℤ, true, List, ◌++◌, codes, map}
use Rattle.std.specs.Fmt.{signed_decimal}
use Rattle.std.specs.Int.{int_wrap, w128}
use Rattle.sq_algebra.specs.ZSet.{total}
use Rattle.sq_circuit.specs.Nodes.{Rows}
use Rattle.sq_plan.specs.Program.{IsPlanOf}
use Rattle.sq_engine.specs.Engines.{State}
use Rattle.sq_meant.specs.Program.{program}
use Rattle.sq_sample.specs.Accepted.{IsBehind}
use Rattle.sq_sample.specs.Printed.{counts, raised}

pub record IsAfter (seed t : ℕ) (engine : State) (ns : List ℤ) : Type 0 where
  pub plan : IsPlanOf program engine.circuit
  pub started : engine.started ≡ true
  pub behind : IsBehind engine seed t
  pub counted : ns ≡ counts seed t

abbrev pub wrapped : List ℤ → List Rows → List ℤ
wrapped ns zs = map (int_wrap w128) (raised ns (map total zs))

abbrev pub number_line : List ℕ → ℤ → List ℕ
number_line name n = codes "{\"view\":" ++ (name ++ (codes ",\"rows\":" ++ (signed_decimal n ++ codes "}\n")))
