use Rattle.std.proofs.Common.{◌≡◌, drop, map}
use Rattle.std.specs.List.{list_any}
use Rattle.net_draft.specs.Drafts.{is_longer}
use Rattle.net_draft.specs.Views.{flow_text}
use Rattle.net_draft.proofs.quanta.some_longer.Given as goal

abbrev pub invariant-loop-flow : goal.invariant-loop-flow
invariant-loop-flow l =
    list_any (is_longer l.server l.queue l.bits) (map flow_text (drop l.flow-index l.flows)) ≡ list_any (is_longer l.server l.queue l.bits) (map flow_text l.flows)
