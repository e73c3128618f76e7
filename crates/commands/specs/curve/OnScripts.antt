-- What is answered on the bytes of a script's file, stage by stage: on its first line that is no statement; on the first
-- fault that its statements find; and else by their answers.
use Rattle.std.specs.Prelude.{◌≡◌, ◌⊎◌, ℕ, List, [], Ok, Err}
use Rattle.upp_limits.specs.declared.own_limits.OverLimit.{OverLimit}
use Rattle.upp_limits.specs.declared.own_limits.OverLimit.TheVariants.{TooMany, TooWide}
use Rattle.input_texts.specs.declared.curve_script.fault.LangFault.{LangFault}
use Rattle.input_texts.specs.declared.curve_script.fault.LangKind.{LangKind}
use Rattle.input_texts.specs.declared.curve_script.fault.LangKind.TheVariants as lang
use Rattle.input_texts.specs.curve_script.Scripts.{Numbered, IsScript, IsFirstFault}
use Rattle.curve_lang.specs.Answers.{Answered, ScriptMeans}
use Rattle.curve_lang.specs.Found.{ScriptTells}
use Rattle.curve_lang.specs.Texts.{answers_text}
use Rattle.command_replies.specs.Replies.{Reply, breaks_script_rule, line_over}
use Rattle.outcomes.specs.Stages.{Staged, Behind}

-- the first line with a fault of its own, and the least of these, C1 to C4
pub record IsMisread (file bytes : List ℕ) (reply : Reply) : Type 0 where
  pub fault : LangFault
  pub first : IsFirstFault bytes fault.kind fault.line
  pub is : reply ≡ breaks_script_rule file fault

-- a fault by a rule, and neither by a limit nor for want of memory
abbrev pub IsByRule : LangKind → Type 0
IsByRule lang.TooMany = ⊥
IsByRule lang.TooWide = ⊥
IsByRule lang.NoMemory = ⊥
IsByRule kind = Unit {0}

-- of statements the first fault that they find, by a rule
pub record IsFaultOf (file : List ℕ) (lines : List Numbered) (reply : Reply) : Type 0 where
  pub fault : LangFault
  pub by_rule : IsByRule fault.kind
  pub first : ScriptTells lines (Err fault)
  pub is : reply ≡ breaks_script_rule file fault

-- a line that has a curve, an operator or a value over this limit
abbrev pub fault_over : OverLimit → ℕ → LangFault
fault_over TooMany line = record { kind = lang.TooMany; line = line }
fault_over TooWide line = record { kind = lang.TooWide; line = line }

-- of statements the first fault that they find, by this limit
pub record IsOverAt (limit : OverLimit) (lines : List Numbered) (reply : Reply) : Type 0 where
  pub line : ℕ
  pub first : ScriptTells lines (Err (fault_over limit line))
  pub is : reply ≡ line_over limit line

-- the first fault that statements find
abbrev pub FindsFault : List ℕ → List Numbered → Reply → Type 0
FindsFault file lines reply = IsFaultOf file lines reply ⊎ ((limit : OverLimit) × IsOverAt limit lines reply)

-- the answers that statements find, which are those that they mean
pub record AreAnswersOf (lines : List Numbered) (answers : List Answered) : Type 0 where
  pub finds : ScriptTells lines (Ok answers)
  pub means : ScriptMeans [] lines answers

-- the lines of the answers
abbrev pub answered : List Answered → Reply
answered answers = record { status = 0; bytes = answers_text answers }

-- ---- all of them
-- the reply on the statements of a file
abbrev pub IsReplyOnLines : (file : List ℕ) → List Numbered → Reply → Type 0
IsReplyOnLines file lines =
    Staged (FindsFault file lines) (AreAnswersOf lines) (λ answers reply. reply ≡ answered answers)

-- on a file with this name and these bytes, which are not too many
abbrev pub IsScriptReply : (file bytes : List ℕ) → Reply → Type 0
IsScriptReply file bytes = Staged (IsMisread file bytes) (IsScript bytes) (IsReplyOnLines file)

-- ---- of these
abbrev pub IsFaulty : (file bytes : List ℕ) → Reply → Type 0
IsFaulty file bytes = Behind (IsScript bytes) (IsFaultOf file)

abbrev pub IsLineOver : OverLimit → List ℕ → Reply → Type 0
IsLineOver limit bytes = Behind (IsScript bytes) (IsOverAt limit)

-- all lines are statements, and these are their answers
pub record IsAnswered (bytes : List ℕ) (reply : Reply) : Type 0 where
  pub lines : List Numbered
  pub script : IsScript bytes lines
  pub answers : List Answered
  pub finds : ScriptTells lines (Ok answers)
  pub means : ScriptMeans [] lines answers
  pub is : reply ≡ answered answers

-- those that tell a rule that is broken
abbrev pub IsRefused : List ℕ → List ℕ → Reply → Type 0
IsRefused file bytes reply = IsMisread file bytes reply ⊎ IsFaulty file bytes reply
