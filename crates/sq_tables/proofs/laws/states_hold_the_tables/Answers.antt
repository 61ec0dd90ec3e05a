-- The tables that states hold.
use Rattle.sq_tables.proofs.Standing.{hold_tables, only_these, table_got, tables_begun, tables_kept}
use Rattle.sq_tables.proofs.laws.states_hold_the_tables.Goals as goal

pub returns-clause-tables : goal.returns-clause-tables
returns-clause-tables a = λ c circuit tables states totals some many keeps. tables_kept c tables states totals circuit keeps some many

pub returns-clause-held : goal.returns-clause-held
returns-clause-held a = λ c tables states totals circuit some few keeps. hold_tables c tables states totals circuit keeps some few

pub returns-clause-only : goal.returns-clause-only
returns-clause-only a = only_these

pub returns-clause-begun : goal.returns-clause-begun
returns-clause-begun a = tables_begun

pub returns-clause-each : goal.returns-clause-each
returns-clause-each a = table_got
