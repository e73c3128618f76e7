-- What holds of the replies on files, and of calls.
use Rattle.std.specs.Prelude.{◌≡◌, ◌≢◌, ℕ, List, Some}
use Rattle.outside.specs.Written.{Output, PutsWhole}
use Rattle.command_replies.specs.Replies.{Reply}
use Rattle.netcalc_cli.specs.Commands.{Command, files_of}
use Rattle.outside.specs.Files.{Told, all_told}
use Rattle.netcalc_cli.specs.Reply.{IsReplyOnFiles, GivesOnTold}

-- status and bytes are determined by the command and by what its files hold, at each status
abbrev pub RepliesAreDetermined : Type 0
RepliesAreDetermined =
    (command : Command) (files : List (List ℕ)) (x y : Reply) → IsReplyOnFiles command files x
    → IsReplyOnFiles command files y → x ≡ y

-- ---- calls
-- the status is not that of inputs that fail, of a sink that fails, or of want of memory
pub record IsOfReply (status : ℕ) : Type 0 where
  pub no_read : status ≢ 3
  pub no_write : status ≢ 4
  pub no_memory : status ≢ 5

-- two calls end with one status, and each put the same bytes, whatever was written before
pub record AreEqual (one other : ℕ) (a b c d : Output) : Type 0 where
  pub status : one ≡ other
  pub bytes : List ℕ
  pub first : PutsWhole bytes a b
  pub second : PutsWhole bytes c d

-- what the clause `told` of `run` says of each of two calls of a command makes them equal, but at 3, 4 and 5
abbrev pub CallsAreDetermined : Type 0
CallsAreDetermined =
    (command : Command) (told : Told) (files : List (List ℕ)) (one other : ℕ) (a b c d : Output)
    → all_told told (files_of command) ≡ Some files → IsOfReply one → IsOfReply other
    → GivesOnTold command told one a b → GivesOnTold command told other c d → AreEqual one other a b c d
