-- Each status of a reply has its cause.
use Rattle.std.proofs.Common.{inl, inr}
use Rattle.upp_limits.specs.declared.own_limits.OverLimit.TheVariants.{TooMany, TooWide}
use Rattle.outcomes.specs.Stages.{stops, goes_on}
use Rattle.command_replies.proofs.Causes.{done, malformed, wide, many}
use Rattle.command_replies.proofs.Statuses.{status_is}
use Rattle.commands.specs.curve.Laws.{StatusesHaveCauses}

pub causes : StatusesHaveCauses
causes file bytes reply (stops h) = malformed reply (status_is reply _ h.is) (inl h)
causes file bytes reply (goes_on lines script (stops (inl h))) =
    malformed reply (status_is reply _ h.is) (inr (lines, script, h))
causes file bytes reply (goes_on lines script (stops (inr (TooMany, h)))) =
    many reply (status_is reply _ h.is) (lines, script, h)
causes file bytes reply (goes_on lines script (stops (inr (TooWide, h)))) =
    wide reply (status_is reply _ h.is) (lines, script, h)
causes file bytes reply (goes_on lines script (goes_on answers a is)) =
    done reply (status_is reply _ is)
    record { lines = lines; script = script; answers = answers; finds = a.finds; means = a.means; is = is }
