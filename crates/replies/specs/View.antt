-- What the code's status and answer stand for.
use Rattle.std.specs.Prelude.{ℕ, Result, Ok, Err}
use Rattle.replies.specs.declared.answer.Answer.{Answer}
use Rattle.replies.specs.declared.answer.Status.{Status}
use Rattle.replies.specs.declared.answer.Status.TheVariants.{Done, Malformed, Usage, ReadFault, WriteFault}
use Rattle.replies.specs.declared.answer.Status.TheVariants.{NoMemory, TooWide, TooMany, Cycle, Breach}
use Rattle.replies.specs.Replies.{Reply}

-- the exit status of the program
abbrev pub code_of : Status → ℕ
code_of Done = 0
code_of Malformed = 1
code_of Usage = 2
code_of ReadFault = 3
code_of WriteFault = 4
code_of NoMemory = 5
code_of TooWide = 6
code_of TooMany = 7
code_of Cycle = 8
code_of Breach = 9

abbrev pub reply_of : Answer → Reply
reply_of a = record { status = code_of a.status; bytes = a.text.items }

-- the status with which a call ends that may have no answer for want of memory
abbrev pub status_of : {E : Type 0} → Result Answer E → ℕ
status_of (Ok a) = code_of a.status
status_of (Err e) = 5
