-- Each status of a reply has its cause.
use Rattle.std.proofs.Common.{inl, inr}
use Rattle.outcomes.specs.Stages.{stops, goes_on}
use Rattle.command_replies.proofs.Causes.{done, cycle, on_no_network, on_cell_over}
use Rattle.command_replies.proofs.Statuses.{status_is}
use Rattle.commands.specs.analyse.Laws.{StatusesHaveCauses}

pub causes : StatusesHaveCauses
causes form file bytes reply (stops h) = on_no_network reply file bytes h (λ k. k) (λ k. inl k) (λ k. inl k)
causes form file bytes reply (goes_on net given (stops h)) = cycle reply (status_is reply _ h.is) (net, given, h)
causes form file bytes reply (goes_on net given (goes_on order o (stops h))) =
    on_cell_over reply net order h (λ k. inr (net, given, (order, o, k))) (λ k. inr (net, given, (order, o, k)))
causes form file bytes reply (goes_on net given (goes_on order o (goes_on at table is))) =
    done reply (status_is reply _ is)
    (net, at, record { gives = given; order = order; ordered = o; answers = table.answers; meets = table.meets; is = is })
