use Rattle.sq_typed.proofs.Sorting.{block_widths}
use Rattle.sq_typed.proofs.sort_laws.sources_of_blocks_have_widths.Goals as goal

pub returns : goal.returns
returns c = block_widths
