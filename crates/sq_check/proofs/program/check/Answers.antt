use Rattle.std.proofs.Common.{◌∙◌, arith}
use Rattle.sq_typed.proofs.SourceLemmas.{as_many_sources}
use Rattle.sq_check.proofs.QueriesProgram.{nothing_yet, counted, one_more, all_done, is_checked, passed, refused_here}
use Rattle.sq_typed.specs.Checked.{Spelling}
use Rattle.sq_check.proofs.QueriesSmall.{all_at, statement_small}
use Rattle.sq_check.specs.declared.program.CheckFault.TheVariants.{Fault}
use Rattle.sq_check.proofs.program.check.Goals as goal

pub loop-before-init : goal.loop-before-init
loop-before-init c = nothing_yet c.args.statements.now (record { catalog = c.new-catalog.result; queries = c.new-queries.result }) (λ i. record { catalog = c.new-catalog.ensures i; queries = c.new-queries.ensures i })

pub add_statement-requires : goal.add_statement-requires
add_statement-requires c = record {
  small = record {
    narrow = c.loop-before.invariant.narrow;
    few = statement_small c.index-statements-before.result (all_at Spelling c.args.statements.now c.loop-before.before c.index-statements-before.result c.requires.spelled (omega arith) c.index-statements-before.is);
  };
  before = counted c.args.statements.now c.loop-before.before (record { catalog = c.loop-before.catalog; queries = c.loop-before.queries }) c.loop-before.invariant;
}

pub returns-in_err-add_statement : goal.returns-in_err-add_statement
returns-in_err-add_statement c =
    let here = passed c.args.statements.now _ _ _ c.from_residual.result c.in_err-add_statement.field-0.0 _ Fault c.from_residual.ensures.1 (λ y same. same)
    (λ number k is.
    let told = c.in_err-add_statement.ensures.fault number k is in
    refused_here c.args.statements.now c.loop-before.before c.index-statements-before.result (omega arith) c.index-statements-before.is (record { catalog = c.loop-before.catalog; queries = c.loop-before.queries }) c.loop-before.invariant number k told.0 told.1) in
    record { accepted = here.0; typed = here.1; sources = here.2; refused = here.3 }

pub loop-before-preserved : goal.loop-before-preserved
loop-before-preserved c =
    one_more c.args.statements.now c.loop-before.before c.index-statements-before.result (omega arith) c.index-statements-before.is (record { catalog = c.loop-before.catalog; queries = c.loop-before.queries }) c.loop-before.invariant (record { catalog = c.add_statement.new.catalog; queries = c.add_statement.new.queries })
    c.in_ok-add_statement.ensures.none c.in_ok-add_statement.ensures.added

pub of-requires : goal.of-requires
of-requires c = is_checked c.args.statements.now c.loop-before.before (record { catalog = c.loop-before.catalog; queries = c.loop-before.queries }) c.requires.spelled (omega arith) c.loop-before.invariant

pub returns : goal.returns
returns c =
    let done = all_done c.args.statements.now c.loop-before.before (record { catalog = c.loop-before.catalog; queries = c.loop-before.queries }) (omega arith) c.loop-before.invariant in
    let means = c.of.ensures ∙ done.1 in
    record { accepted = done.0; typed = means; sources = as_many_sources c.args.statements.now _ means; refused = λ number k is. absurd (cc is) }
