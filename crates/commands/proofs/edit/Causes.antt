-- Each status of a reply has its cause.
use Rattle.std.proofs.Common.{inl, inr, sym, subst}
use Rattle.outcomes.specs.Stages.{stops, goes_on}
use Rattle.command_replies.proofs.Causes.{done, malformed, cycle, on_no_network, on_cell_over}
use Rattle.command_replies.proofs.Statuses.{status_is}
use Rattle.commands.specs.edit.EditCauses.{StatusesHaveCauses}
use Rattle.commands.specs.edit.OnEdits.{AsksFor}

pub causes : StatusesHaveCauses
causes form net_file net_bytes edits_file edits_bytes reply (stops h) =
    on_no_network reply net_file net_bytes h (λ k. inl k) (λ k. inl k) (λ k. inl k)
causes form net_file net_bytes edits_file edits_bytes reply (goes_on net given (stops h)) =
    malformed reply (status_is reply _ h.is) (inr (net, given, h))
causes form net_file net_bytes edits_file edits_bytes reply (goes_on net given (goes_on texts asks (stops h))) =
    cycle reply (status_is reply _ h.is) ((texts, asks), (net, given, h))
causes form net_file net_bytes edits_file edits_bytes reply
    (goes_on net given (goes_on texts asks (goes_on order o (stops h)))) =
    on_cell_over reply net order h (λ k. inr ((texts, asks), (net, given, (order, o, k))))
    (λ k. inr ((texts, asks), (net, given, (order, o, k))))
causes form net_file net_bytes edits_file edits_bytes reply
    (goes_on net given (goes_on texts asks (goes_on order o (goes_on table all (edits, same, last, at, told))))) =
    done reply (status_is reply _ told.is) (
      last,
      at,
      record {
        first = net;
        gives = given;
        edits = edits;
        asked = subst (AsksFor edits_bytes) (sym same) asks;
        report = told;
      },
    )
