use Rattle.std.proofs.Common.{rules, sym, ◌∙◌, filter, arith}
use Rattle.std.specs.Prelude.{nat_lt}
use Rattle.std.proofs.lemmas.List.{length-map}
use Rattle.std.proofs.lemmas.List.Sorted.{IsPartitionPoint-from_clause}
use Rattle.sq_scope.proofs.NamesPlaces.{partition, rising_parted}
use Rattle.sq_scope.specs.declared.index.Place.{Place}
use Rattle.sq_scope.proofs.index.places_before.Goals as goal

pub returns : goal.returns
returns c =
    let parts = IsPartitionPoint-from_clause (λ (p : Place). nat_lt p.source c.args.sources) c.args.places.now c.partition_point.result c.partition_point.ensures.partitioned (λ i j d. rising_parted c.args.sources c.args.places.now i j d c.requires) (λ a r g h. search rules) in
    sym (length-map (filter (λ (p : Place). nat_lt p.source c.args.sources) c.args.places.now) (λ (p : Place). p.number) ∙ partition (λ (p : Place). nat_lt p.source c.args.sources) c.args.places.now c.partition_point.result c.partition_point.ensures.bound
    (λ k d below. parts.0 k d (omega arith) below) (λ k d from below. parts.1 k d from below))
