use Rattle.std.proofs.Common.{sym, ◌∙◌}
use Rattle.queue_sched.specs.index_links.Chains.{list_at}
use Rattle.queue_sched.proofs.index_links.Popped.{first_has, popped}
use Rattle.queue_sched.proofs.index_links.links.Links.pop_head.Goals as goal

pub unlink-requires : goal.unlink-requires
unlink-requires c = (c.args.list, first_has (list_at c.args.self.now c.args.list) c.in_ok-first.first (sym c.in_ok-first.ensures))

pub returns-clause-rest : goal.returns-clause-rest
returns-clause-rest c =
    c.unlink.ensures ∙ popped c.args.self.now c.args.list c.in_ok-first.first c.are_disjoint.ensures c.requires (sym c.in_ok-first.ensures)
