-- What holds of the replies on scripts.
use Rattle.std.specs.Prelude.{◌≡◌, ℕ, List, Err}
use Rattle.input_texts.specs.declared.curve_script.fault.LangFault.{LangFault}
use Rattle.input_texts.specs.curve_script.Scripts.{Numbered, IsScript, out_of_memory}
use Rattle.curve_lang.specs.Found.{ScriptTells}
use Rattle.upp_limits.specs.declared.own_limits.OverLimit.TheVariants.{TooMany, TooWide}
use Rattle.command_replies.specs.Causes as causes
use Rattle.command_replies.specs.Causes.{NoReply}
use Rattle.command_replies.specs.Replies.{Reply}
use Rattle.commands.specs.curve.OnScripts.{IsScriptReply, IsRefused, IsLineOver, IsAnswered}

-- status and text are determined by the file
abbrev pub RepliesAreDetermined : Type 0
RepliesAreDetermined =
    (file bytes : List ℕ) (x y : Reply) → IsScriptReply file bytes x → IsScriptReply file bytes y → x ≡ y

-- each status has its cause, and there is no other
abbrev pub HasCause : (file bytes : List ℕ) → Reply → Type 0
HasCause file bytes =
    causes.HasCause (IsAnswered bytes) NoReply (IsRefused file bytes) (IsLineOver TooWide bytes) (IsLineOver TooMany bytes)
    NoReply

abbrev pub StatusesHaveCauses : Type 0
StatusesHaveCauses = (file bytes : List ℕ) (reply : Reply) → IsScriptReply file bytes reply → HasCause file bytes reply

-- all lines are statements, and these find no fault: no rule is broken, and nothing is over a limit
pub record IsWithinRules (bytes : List ℕ) : Type 0 where
  pub lines : List Numbered
  pub script : IsScript bytes lines
  pub within : (fault : LangFault) → ScriptTells lines (Err fault) → fault ≡ out_of_memory

-- the one reply on it has the answers
abbrev pub RepliesAreComplete : Type 0
RepliesAreComplete =
    (file bytes : List ℕ) (reply : Reply) → IsWithinRules bytes → IsScriptReply file bytes reply → reply.status ≡ 0
