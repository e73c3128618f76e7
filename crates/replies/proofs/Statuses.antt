-- No status is above 9.
use Rattle.std.proofs.Common.{◌≤◌, arith}
use Rattle.replies.specs.declared.answer.Status.{Status}
use Rattle.replies.specs.declared.answer.Status.TheVariants.{Done}
use Rattle.replies.specs.View.{code_of}

pub code_at_most_nine : (status : Status) → code_of status ≤ 9
code_at_most_nine Done = omega arith
code_at_most_nine status = omega arith
