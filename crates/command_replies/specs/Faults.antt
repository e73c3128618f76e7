-- The reply on the fault of a file, by its kind.
use Rattle.std.specs.Prelude.{ℕ, List}
use Rattle.input_texts.specs.declared.curve_script.fault.LangFault.{LangFault}
use Rattle.input_texts.specs.declared.curve_script.fault.LangKind.{LangKind}
use Rattle.input_texts.specs.declared.curve_script.fault.LangKind.TheVariants as lang
use Rattle.upp_limits.specs.declared.own_limits.OverLimit.TheVariants as limits
use Rattle.net_model.specs.declared.fault.NetKind.{NetKind}
use Rattle.net_model.specs.declared.fault.NetKind.TheVariants.{CurveTooMany, CurveTooWide}
use Rattle.net_draft.specs.Faults.{Fault}
use Rattle.command_replies.specs.Replies.{Reply, breaks_rule, curve_over, breaks_script_rule, line_over}

-- ---- of a network
abbrev pub reply_of_kind : List ℕ → Fault → NetKind → Reply
reply_of_kind file fault CurveTooMany = curve_over limits.TooMany fault.place
reply_of_kind file fault CurveTooWide = curve_over limits.TooWide fault.place
reply_of_kind file fault kind = breaks_rule file fault

abbrev pub fault_reply : List ℕ → Fault → Reply
fault_reply file fault = reply_of_kind file fault fault.kind

-- ---- of a script: a rule that it breaks, or a line over a limit
abbrev pub script_reply_of_kind : List ℕ → LangFault → LangKind → Reply
script_reply_of_kind file fault lang.TooMany = line_over limits.TooMany fault.line
script_reply_of_kind file fault lang.TooWide = line_over limits.TooWide fault.line
script_reply_of_kind file fault kind = breaks_script_rule file fault

abbrev pub script_fault_reply : List ℕ → LangFault → Reply
script_fault_reply file fault = script_reply_of_kind file fault fault.kind
