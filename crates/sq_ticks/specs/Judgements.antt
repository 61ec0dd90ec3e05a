-- What the judgement of a program hands on.
use Rattle.std.specs.Prelude.{◌≡◌, ℕ, List, []}
use Rattle.sq_engine.specs.Engines.{no_tables, views_over}
use Rattle.sq_typed.specs.Views.{Meant, shown}
use Rattle.sq_ticks.specs.Over.{IsOver}
use Rattle.sq_compile.specs.Relations.{empty_tables}
use Rattle.sq_ticks.specs.Texts.{change_text}
use Rattle.sq_ticks.specs.declared.judge.Judged.{Judged}

-- the engine stands for empty tables and has so many shards, and the changes are what its views have over them
pub record Starts (count : ℕ) (j : Judged) : Type 0 where
  pub over : IsOver j.program (empty_tables j.program.catalog) j.engine
  pub shards : j.engine.shards ≡ count
  pub changes : j.changes.views.items ≡ views_over j.engine.circuit (no_tables j.engine.circuit)

-- block 0
abbrev pub first_text : Meant → List ℕ
first_text p = change_text p.catalog [] (shown p (empty_tables p.catalog)) 0
