use Rattle.sq_bridge.proofs.GroupSuiting.{group_items_suit, group_spec_suits}
use Rattle.sq_bridge.proofs.Suiting.{first_columns_suit}
use Rattle.sq_bridge.proofs.suit_laws.groups_suit_their_columns.Goals as goal

pub returns-clause-items : goal.returns-clause-items
returns-clause-items c = group_items_suit

pub returns-clause-spec : goal.returns-clause-spec
returns-clause-spec c = group_spec_suits

pub returns-clause-first : goal.returns-clause-first
returns-clause-first c = first_columns_suit
