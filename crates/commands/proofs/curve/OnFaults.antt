-- The reply on a fault of a script, by its kind, and on its answers.
use Rattle.std.proofs.Common.{◌≡◌, ◌≢◌, ◌⊎◌, ℕ, List, [], Result, Ok, Err, IfOk, inl, inr, refl, sym, subst, arith}
use Rattle.input_texts.specs.declared.curve_script.fault.LangFault.{LangFault}
use Rattle.input_texts.specs.declared.curve_script.fault.LangKind.{LangKind}
use Rattle.input_texts.specs.declared.curve_script.fault.LangKind.TheVariants.{TooMany, TooWide, NoMemory}
use Rattle.upp_limits.specs.declared.own_limits.OverLimit.TheVariants as limits
use Rattle.input_texts.specs.curve_script.Scripts.{Numbered, IsFirstFault, out_of_memory}
use Rattle.curve_lang.specs.Answers.{Answered, ScriptMeans}
use Rattle.curve_lang.specs.Found.{ScriptTells}
use Rattle.command_replies.specs.Faults.{script_reply_of_kind, script_fault_reply}
use Rattle.command_replies.specs.Replies.{breaks_script_rule}
use Rattle.replies.specs.declared.answer.Answer.{Answer}
use Rattle.command_replies.specs.View.{reply_of, status_of}
use Rattle.outcomes.specs.Stages.{stops, goes_on}
use Rattle.command_replies.proofs.Statuses.{refused}
use Rattle.commands.specs.curve.OnScripts.{IsByRule, answered, IsMisread, FindsFault, IsReplyOnLines}
use Rattle.commands.proofs.curve.Lines.{first_by_rule}

-- the reply on a fault by a rule
pub by_rule : (file : List ℕ) (fault : LangFault) (kind : LangKind) → IsByRule kind
    → script_reply_of_kind file fault kind ≡ breaks_script_rule file fault
by_rule file fault TooMany rule = absurd rule
by_rule file fault TooWide rule = absurd rule
by_rule file fault NoMemory rule = absurd rule
by_rule file fault kind rule = refl

-- on the statements of a script
pub found : (file : List ℕ) (lines : List Numbered) (kind : LangKind) (line : ℕ) → kind ≢ NoMemory
    → ScriptTells lines (Err record { kind = kind; line = line })
    → FindsFault file lines (script_reply_of_kind file record { kind = kind; line = line } kind)
found file lines TooMany line told first = inr (limits.TooMany, record { line = line; first = first; is = refl })
found file lines TooWide line told first = inr (limits.TooWide, record { line = line; first = first; is = refl })
found file lines NoMemory line told first = absurd (told refl)
found file lines kind line told first =
    inl record { fault = record { kind = kind; line = line }; by_rule = tt; first = first; is = refl }

pub on_found : {E : Type 0} (file : List ℕ) (lines : List Numbered) (fault : LangFault) (r : Result Answer E)
    → ScriptTells lines (Err fault)
    → IfOk r (λ a. reply_of a ≡ script_fault_reply file fault) → IfOk r (λ a. fault.kind ≢ NoMemory)
    → IfOk r (λ a. IsReplyOnLines file lines (reply_of a))
on_found file lines fault (Ok a) first is told =
    stops (subst (FindsFault file lines) (sym is) (found file lines fault.kind fault.line told first))
on_found file lines fault (Err e) first is told = tt

-- a fault has another status than answers
no_report : (file : List ℕ) (fault : LangFault) (kind : LangKind) → (script_reply_of_kind file fault kind).status ≢ 0
no_report file fault TooMany e = omega (arith, e)
no_report file fault TooWide e = omega (arith, e)
no_report file fault kind e = omega (arith, e)

pub fault_is_no_report : {E : Type 0} (file : List ℕ) (fault : LangFault) (r : Result Answer E)
    → IfOk r (λ a. reply_of a ≡ script_fault_reply file fault) → status_of r ≢ 0
fault_is_no_report file fault r is = refused r (script_fault_reply file fault) (no_report file fault fault.kind) is

pub on_answers : {E : Type 0} (file : List ℕ) (lines : List Numbered) (answers : List Answered) (r : Result Answer E)
    → ScriptTells lines (Ok answers) → ScriptMeans [] lines answers
    → IfOk r (λ a. reply_of a ≡ answered answers)
    → IfOk r (λ a. IsReplyOnLines file lines (reply_of a))
on_answers file lines answers (Ok a) finds means is = goes_on answers record { finds = finds; means = means } is
on_answers file lines answers (Err e) finds means is = tt

-- on a line that is no statement
pub misread : (file bytes : List ℕ) (fault : LangFault) → fault.kind ≢ NoMemory
    → (fault ≡ out_of_memory) ⊎ IsFirstFault bytes fault.kind fault.line
    → IsMisread file bytes (script_fault_reply file fault)
misread file bytes fault told (inl memory) = absurd (told (let same : fault.kind ≡ NoMemory = cc in same))
misread file bytes fault told (inr first) = record {
  fault = fault;
  first = first;
  is = by_rule file fault fault.kind (first_by_rule bytes fault.line fault.kind first);
}

pub on_misread : {E : Type 0} (file bytes : List ℕ) (fault : LangFault) (r : Result Answer E)
    → (fault ≡ out_of_memory) ⊎ IsFirstFault bytes fault.kind fault.line
    → IfOk r (λ a. reply_of a ≡ script_fault_reply file fault) → IfOk r (λ a. fault.kind ≢ NoMemory)
    → IfOk r (λ a. IsMisread file bytes (reply_of a))
on_misread file bytes fault (Ok a) first is told =
    subst (IsMisread file bytes) (sym is) (misread file bytes fault told first)
on_misread file bytes fault (Err e) first is told = tt
