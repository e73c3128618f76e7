-- A script has a reply: its stages, one after the other.
use Rattle.std.proofs.Common.{◌≢◌, ℕ, List, [], Ok, Err, refl, subst, inl, inr}
use Rattle.std.specs.Prelude.{IfErr}
use Rattle.input_texts.specs.declared.curve_script.fault.LangFault.{LangFault}
use Rattle.input_texts.specs.declared.curve_script.fault.LangKind.{LangKind}
use Rattle.input_texts.specs.declared.curve_script.fault.LangKind.TheVariants.{NoMemory}
use Rattle.input_texts.specs.curve_script.Scripts.{Numbered, lines_of}
use Rattle.curve_lang.specs.Found.{Told, ScriptTells}
use Rattle.curve_lang.proofs.ScriptMeant.{answers_are_meant}
use Rattle.command_replies.specs.Faults.{script_fault_reply, script_reply_of_kind}
use Rattle.command_replies.specs.Replies.{Reply}
use Rattle.outcomes.specs.Stages.{stops, goes_on}
use Rattle.commands.specs.curve.OnScripts.{IsByRule, IsReplyOnLines, answered}
use Rattle.commands.proofs.curve.Lines.{first_by_rule}
use Rattle.commands.proofs.curve.OnFaults.{found, misread}
use Rattle.existence.specs.scripts.Laws.{ScriptsHaveReplies}
use Rattle.existence.proofs.scripts.Answered.{script_has}
use Rattle.existence.proofs.scripts.Numbers.{script_small}
use Rattle.existence.proofs.texts.EachScript.{scripts_are_read}

on_told : (file : List ℕ) (lines : List Numbered) (told : Told) → ScriptTells lines told → IfErr told (λ fault. fault.kind ≢ NoMemory)
    → (reply : Reply) × IsReplyOnLines file lines reply
on_told file lines (Ok answers) tells kind =
    (answered answers, goes_on answers record { finds = tells; means = answers_are_meant lines answers tells } refl)
on_told file lines (Err fault) tells kind =
    (script_reply_of_kind file fault fault.kind, stops (found file lines fault.kind fault.line kind tells))

told_kind : (kind : LangKind) → IsByRule kind → kind ≢ NoMemory
told_kind kind rule e = subst IsByRule e rule

pub scripts_have : ScriptsHaveReplies
scripts_have file bytes = elim (scripts_are_read bytes) [
  | inl read ↦
      let lines = read.0 in
      let all = script_has lines [] [] 0 tt (script_small (lines_of bytes) 1 0 lines read.1) in
      let on = on_told file lines all.told record { old = 0; new = all.new; finds = all.finds } all.kind in
      (on.0, goes_on lines read.1 on.1)
  | inr bad ↦
      let fault : LangFault = record { kind = bad.0; line = bad.1 } in (
        script_fault_reply file fault,
        stops (misread file bytes fault (told_kind bad.0 (first_by_rule bytes bad.1 bad.0 bad.2)) (inr bad.2)),
      )
]
