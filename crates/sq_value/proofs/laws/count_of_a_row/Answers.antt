use Rattle.sq_value.proofs.CountLemmas.{count-append, count-empty, count-other, count-same}
use Rattle.sq_value.proofs.laws.count_of_a_row.Goals as goal

pub returns : goal.returns
returns c = record { empty = count-empty; same = count-same; other = count-other; append = count-append }
