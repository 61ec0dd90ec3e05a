-- What listed rows are to the meaning of queries.
use Rattle.sq_lists.specs.declared.listing.Listing.{Listing}
use Rattle.sq_typed.specs.Queries.{Contents}

-- the contents of a relation
abbrev pub contents_of : Listing → Contents
contents_of l = record { width = l.width; rows = l.rows }
