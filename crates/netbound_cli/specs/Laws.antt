-- What holds of the replies on files.
use Rattle.std.specs.Prelude.{◌≡◌, List, ℕ}
use Rattle.bounds_command.specs.Replies.{Reply}
use Rattle.netbound_cli.specs.Calls.{Call}
use Rattle.netbound_cli.specs.Reply.{IsReplyOnFiles}

-- status and text are determined by a call and by what its files hold
abbrev pub RepliesAreDetermined : Type 0
RepliesAreDetermined =
    (c : Call) (files : List (List ℕ)) (x y : Reply) → IsReplyOnFiles c files x → IsReplyOnFiles c files y
    → x ≡ y
