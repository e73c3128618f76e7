use Rattle.queue_sched.proofs.index_links.Stored.{seen, disjoint}
use Rattle.queue_sched.proofs.index_links.links.Links.are_disjoint.Goals as goal

pub returns : goal.returns
returns c = disjoint (seen _ _ _ _ _ c.self.invariant c.self.view_is)
