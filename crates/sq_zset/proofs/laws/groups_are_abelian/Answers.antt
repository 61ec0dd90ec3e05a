use Rattle.sq_zset.proofs.laws.groups_are_abelian.Goals as goal

pub returns : goal.returns
returns g c = g.met.G.Group.laws
