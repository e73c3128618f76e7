-- Of the replies on a network's file and a trace, those of each status.
use Rattle.std.specs.Prelude.{◌⊎◌, ℕ, List}
use Rattle.rational.specs.Rational.{ℚ}
use Rattle.upp_limits.specs.declared.own_limits.OverLimit.{OverLimit}
use Rattle.upp_limits.specs.declared.own_limits.OverLimit.TheVariants.{TooMany, TooWide}
use Rattle.command_replies.specs.Causes as causes
use Rattle.command_replies.specs.Causes.{NoReply}
use Rattle.command_replies.specs.Replies.{Reply}
use Rattle.command_replies.specs.OnFiles.{IsBroken, IsCurveOver, IsBadTrace}
use Rattle.commands.specs.measure.OnMeasures.{IsUnknownFlow, IsMeasureOver, IsBurstOver, IsMeasureReport}
use Rattle.commands.specs.measure.OnMeasures.{IsMeasureReply}

-- a rule of network files, or a row of the trace, or a name that no live flow has
abbrev pub IsMalformed : (net_file net_bytes trace_file trace_bytes name : List ℕ) → Reply → Type 0
IsMalformed net_file net_bytes trace_file trace_bytes name reply =
    IsBroken net_file net_bytes reply ⊎ (IsBadTrace net_bytes trace_file trace_bytes reply
    ⊎ IsUnknownFlow net_bytes trace_bytes name reply)

-- of the curves of the network's file the first that is over a limit is over this one, or else the flow's packets are,
-- or else the burst is
abbrev pub IsOverLimit : OverLimit → (net_bytes trace_bytes name : List ℕ) → ℚ → Reply → Type 0
IsOverLimit limit net_bytes trace_bytes name rate reply =
    IsCurveOver limit net_bytes reply ⊎ (IsMeasureOver limit net_bytes trace_bytes name reply
    ⊎ IsBurstOver limit net_bytes trace_bytes name rate reply)

-- each status has its cause, and there is no other
abbrev pub HasCause : (net_file net_bytes trace_file trace_bytes name : List ℕ) → ℚ → Reply → Type 0
HasCause net_file net_bytes trace_file trace_bytes name rate =
    causes.HasCause (IsMeasureReport net_bytes trace_bytes name rate) NoReply
    (IsMalformed net_file net_bytes trace_file trace_bytes name) (IsOverLimit TooWide net_bytes trace_bytes name rate)
    (IsOverLimit TooMany net_bytes trace_bytes name rate) NoReply

abbrev pub StatusesHaveCauses : Type 0
StatusesHaveCauses =
    (net_file net_bytes trace_file trace_bytes name : List ℕ) (rate : ℚ) (reply : Reply)
    → IsMeasureReply net_file net_bytes trace_file trace_bytes name rate reply
    → HasCause net_file net_bytes trace_file trace_bytes name rate reply
