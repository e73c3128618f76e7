use Rattle.std.proofs.Common.{Err, ap, inl, inr}
use Rattle.curve_library.proofs.SignTests.{none_negative}
use Rattle.net_edits.proofs.flow_edits.bucket_of.Goals as goal

pub unreachable-requires : goal.unreachable-requires
unreachable-requires c =
    elim c.in-Err.ensures.refused [
      | inl e ↦ none_negative c.args.burst c.args.rate c.requires.burst c.requires.rate (c.in-Err.ensures.negative.0 (ap Err e))
      | inr e ↦ c.in_default.not-NoMemory e
    ]
