-- What stands of a command's answer, with the files that were asked for and the steps that it took.
use Rattle.std.specs.Prelude.{ℕ, List, Option, Result, IfOk}
use Rattle.outside.specs.Fetching.{FetchesAll, FetchesUpTo}
use Rattle.replies.specs.declared.answer.Answer.{Answer}
use Rattle.command_replies.specs.View.{reply_of, status_of}
use Rattle.netcalc_cli.specs.Commands.{Command, files_of}
use Rattle.netcalc_cli.specs.Counts.{CountsOnCommand}
use Rattle.netcalc_cli.specs.Reply.{StandsOnFiles, MayReplyTo}

-- The inputs may bring it; the command's files were asked for in their order, and all were had where it stands on them;
-- and the steps are those of the command.
pub record IsAnswered {I E : Type 0} (content : I → List ℕ → Option (List ℕ)) (faults : I → ℕ) (last_fault : I → List ℕ)
    (asked had : I → List (List ℕ)) (command : Command) (old new : I) (result : Result Answer E) (before after : ℕ)
    : Type 0 where
  pub reply : IfOk result (λ a. MayReplyTo faults last_fault (content old) command old new (reply_of a))
  pub asked_for : FetchesUpTo asked had (files_of command) old new
  pub all : StandsOnFiles (status_of result) → FetchesAll asked had (files_of command) old new
  pub counts : CountsOnCommand (content old) command (status_of result) before after
