-- There is one reply on a script.
use Rattle.std.proofs.Common.{◌≡◌, ◌≢◌, ℕ, List, Ok, Err, inl, inr, refl, sym, ap, ap₂, ◌∙◌, subst}
use Rattle.upp_limits.specs.declared.own_limits.OverLimit.TheVariants.{TooMany, TooWide}
use Rattle.input_texts.specs.declared.curve_script.fault.LangFault.{LangFault}
use Rattle.input_texts.specs.declared.curve_script.fault.LangKind.TheVariants.{NoMemory}
use Rattle.input_texts.specs.curve_script.Scripts.{Numbered, IsScript, out_of_memory}
use Rattle.input_texts.proofs.curve_script.OneScript.{text_is_one, fault_excludes_script}
use Rattle.curve_lang.specs.Found.{Told, ScriptTells}
use Rattle.curve_lang.proofs.OneFound.{scripts_find_one}
use Rattle.command_replies.specs.Faults.{script_fault_reply}
use Rattle.command_replies.specs.Replies.{Reply, breaks_script_rule}
use Rattle.commands.specs.curve.Laws.{RepliesAreDetermined, RepliesAreComplete}
use Rattle.outcomes.specs.Stages.{AreAlike, IsEqual, stops, goes_on}
use Rattle.outcomes.proofs.Stages.{one_staged, on_one, reached}
use Rattle.commands.specs.curve.OnScripts.{IsByRule, fault_over, answered, IsMisread, IsReplyOnLines}
use Rattle.commands.proofs.curve.Lines.{first_one}
use Rattle.commands.proofs.curve.OnFaults.{by_rule}

-- ---- sorted by what the statements find
abbrev reply_told : List ℕ → Told → Reply
reply_told file (Ok answers) = answered answers
reply_told file (Err fault) = script_fault_reply file fault

abbrev err : LangFault → Told
err fault = Err fault

record OnLines (file : List ℕ) (lines : List Numbered) (reply : Reply) : Type 0 where
  told : Told
  finds : ScriptTells lines told
  some : told ≢ Err out_of_memory
  is : reply ≡ reply_told file told

-- a fault of another kind than want of memory
not_memory : (fault : LangFault) → err fault ≡ err out_of_memory → (fault.kind ≡ NoMemory → ⊥) → ⊥
not_memory fault same other =
    let inner : fault ≡ out_of_memory = cc in
    other (ap (λ (f : LangFault). f.kind) inner)

sorted : (file : List ℕ) (lines : List Numbered) (reply : Reply) → IsReplyOnLines file lines reply
    → OnLines file lines reply
sorted file lines reply (stops (inl h)) = record {
  told = Err h.fault;
  finds = h.first;
  some = λ same. not_memory h.fault same (λ kind. subst IsByRule kind h.by_rule);
  is = h.is ∙ sym (by_rule file h.fault h.fault.kind h.by_rule);
}
sorted file lines reply (stops (inr (TooMany, h))) = record {
  told = Err (fault_over TooMany h.line);
  finds = h.first;
  some = λ same. not_memory (fault_over TooMany h.line) same (λ kind. cc);
  is = h.is;
}
sorted file lines reply (stops (inr (TooWide, h))) = record {
  told = Err (fault_over TooWide h.line);
  finds = h.first;
  some = λ same. not_memory (fault_over TooWide h.line) same (λ kind. cc);
  is = h.is;
}
sorted file lines reply (goes_on answers a is) =
    record { told = Ok answers; finds = a.finds; some = λ same. absurd (cc); is = is }

-- ---- one reply
one_misread : (file bytes : List ℕ) → AreAlike IsEqual (IsMisread file bytes)
one_misread file bytes x y h k =
    let same = first_one bytes h.fault.line k.fault.line h.fault.kind k.fault.kind h.first k.first in
    let fault : h.fault ≡ k.fault =
    ap₂ (λ kind line. let f : LangFault = record { kind = kind; line = line } in f) same.0 same.1 in
    h.is ∙ ap (breaks_script_rule file) fault ∙ sym k.is

on_lines : (file : List ℕ) (lines : List Numbered) → AreAlike IsEqual (IsReplyOnLines file lines)
on_lines file lines x y h k =
    let a = sorted file lines x h in
    let b = sorted file lines y k in
    a.is ∙ ap (reply_told file) (scripts_find_one lines a.told b.told a.finds b.finds a.some b.some) ∙ sym b.is

pub replies_are_determined : RepliesAreDetermined
replies_are_determined file bytes x y h k =
    one_staged (IsMisread file bytes) (IsScript bytes) (IsReplyOnLines file) IsEqual
    (λ r lines bad script. fault_excludes_script bytes lines bad.fault.kind bad.fault.line script bad.first)
    (one_misread file bytes)
    (on_one (IsScript bytes) (IsReplyOnLines file) IsEqual (λ a b i j. text_is_one bytes a b i j)
    (λ lines script. on_lines file lines)) x y h k

-- ---- within the rules
by_told : (file : List ℕ) (reply : Reply) (told : Told) → ((fault : LangFault) → told ≡ Err fault → ⊥)
    → reply ≡ reply_told file told → reply.status ≡ 0
by_told file reply (Ok answers) none is = ap (λ (r : Reply). r.status) is
by_told file reply (Err fault) none is = absurd (none fault refl)

pub replies_are_complete : RepliesAreComplete
replies_are_complete file bytes reply w h =
    let on =
    reached (IsMisread file bytes) (IsScript bytes) (IsReplyOnLines file) w.lines reply
    (λ bad. fault_excludes_script bytes w.lines bad.fault.kind bad.fault.line w.script bad.first)
    (λ lines script. text_is_one bytes lines w.lines script w.script) h in
    let a = sorted file w.lines reply on in
    let none = λ (fault : LangFault) (e : a.told ≡ Err fault).
    a.some (e ∙ ap Err (w.within fault (subst (λ t. ScriptTells w.lines t) e a.finds))) in
    by_told file reply a.told none a.is
