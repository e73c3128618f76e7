use Rattle.std.proofs.Common.{◌<◌, subst}
use Rattle.net_draft.specs.Views.{server_text}
use Rattle.net_draft.proofs.hops.hop_in.Goals as goal

pub returns-clause-range : goal.returns-clause-range
returns-clause-range c = record {
  server = server_text c.in_ok-number.server.now;
  is = c.in_ok-number.ensures.stands;
  has_queue = subst (λ n. c.in_ok-written.written.queue < n) c.queue_count.ensures c.if-written-queue_count.false;
}
