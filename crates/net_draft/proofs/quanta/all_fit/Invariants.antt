use Rattle.std.proofs.Common.{◌≡◌, drop, map}
use Rattle.net_draft.specs.Drafts.{quanta_fit}
use Rattle.net_draft.specs.Views.{server_text, flow_text}
use Rattle.net_draft.proofs.quanta.all_fit.Given as goal

abbrev pub invariant-loop-number : goal.invariant-loop-number
invariant-loop-number l =
    quanta_fit (map flow_text l.flows) l.number (map server_text (drop l.number l.servers)) ≡ quanta_fit (map flow_text l.flows) 0 (map server_text l.servers)
