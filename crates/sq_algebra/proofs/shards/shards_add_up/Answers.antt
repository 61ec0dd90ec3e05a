use Rattle.sq_algebra.proofs.ShardLemmas.{additive_cuts, cut-IsAdditive, cut-cut, cut-zero, cuts_add_up, parts_gathered, weight-cut}
use Rattle.sq_algebra.proofs.EntryLemmas.{entries-cut}
use Rattle.sq_algebra.proofs.shards.shards_add_up.Goals as goal

pub returns-clause-whole : goal.returns-clause-whole
returns-clause-whole g c identical S key = cuts_add_up S g.K.Ord.cmp key g.met.K.Ord.total identical

pub returns-clause-additive : goal.returns-clause-additive
returns-clause-additive g c identical S key = additive_cuts S g.K.Ord.cmp key g.met.K.Ord.total identical

pub returns-clause-part : goal.returns-clause-part
returns-clause-part g c identical S key = cut-IsAdditive S g.K.Ord.cmp key g.met.K.Ord.total identical

pub returns-clause-none : goal.returns-clause-none
returns-clause-none g c identical S key = cut-zero S g.K.Ord.cmp key g.met.K.Ord.total identical

pub returns-clause-weights : goal.returns-clause-weights
returns-clause-weights g c identical S key = weight-cut S g.K.Ord.cmp key g.met.K.Ord.total identical

pub returns-clause-entries : goal.returns-clause-entries
returns-clause-entries g c = entries-cut g.K.Ord.cmp g.met.K.Ord.total

pub returns-clause-gathered : goal.returns-clause-gathered
returns-clause-gathered g c identical S key = parts_gathered S g.K.Ord.cmp key g.met.K.Ord.total identical

pub returns-clause-again : goal.returns-clause-again
returns-clause-again g c identical S key = cut-cut S g.K.Ord.cmp key g.met.K.Ord.total identical
