-- There is a reply on each script. Own choice.
use Rattle.std.specs.Prelude.{ℕ, List}
use Rattle.command_replies.specs.Replies.{Reply}
use Rattle.commands.specs.curve.OnScripts.{IsScriptReply}

-- its answers, its first fault, or the first of its lines over a limit: no want of memory
abbrev pub ScriptsHaveReplies : Type 0
ScriptsHaveReplies = (file bytes : List ℕ) → (reply : Reply) × IsScriptReply file bytes reply
