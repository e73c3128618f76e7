use Rattle.std.proofs.Common.{◌≡◌, drop, map}
use Rattle.net_draft.specs.Drafts.{quanta_from}
use Rattle.net_draft.specs.Views.{flow_text}
use Rattle.net_draft.proofs.quanta.quanta_fit.Given as goal

abbrev pub invariant-loop-queue : goal.invariant-loop-queue
invariant-loop-queue l = quanta_from (map flow_text l.flows) l.place l.server l.queue (drop l.queue l.quanta) ≡ quanta_from (map flow_text l.flows) l.place l.server 0 l.quanta
