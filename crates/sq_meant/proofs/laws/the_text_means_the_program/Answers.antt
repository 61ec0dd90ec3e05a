use Rattle.sq_meant.proofs.Meaning.{text_meant}
use Rattle.sq_meant.proofs.Reading.{short}
use Rattle.sq_meant.proofs.laws.the_text_means_the_program.Goals as goal

pub returns-clause-short : goal.returns-clause-short
returns-clause-short c = short

pub returns-clause-meant : goal.returns-clause-meant
returns-clause-meant c = text_meant
