-- The reply on files, and its steps.
use Rattle.std.proofs.Common.{◌≡◌, ◌≢◌, ◌⊎◌, ◌≤◌, ℕ, List, length, map, inl, inr, ap, arith}
use Rattle.std.specs.Prelude.{Result, Ok, Err, IfOk}
use Rattle.std.proofs.lemmas.List.{length-map}
use Rattle.net_model.specs.declared.edit.Edit.{Edit}
use Rattle.net_model.specs.Networks.{Net}
use Rattle.input_texts.specs.declared.table_text.fault.TableFault.{TableFault}
use Rattle.input_texts.specs.declared.table_text.fault.TableKind.TheVariants as tables
use Rattle.input_texts.specs.table_text.Rows.{rows_of, Read}
use Rattle.input_texts.specs.table_text.EditRows.{EditText, edit_row, edit_view}
use Rattle.input_texts.specs.table_text.EditLists.{AreEditsOf, IsFirstEditFault}
use Rattle.input_texts.specs.table_text.Traces.{out_of_memory}
use Rattle.command_replies.specs.Replies.{table_fault_reply}
use Rattle.replies.specs.declared.answer.Answer.{Answer}
use Rattle.command_replies.specs.View.{reply_of}
use Rattle.commands.specs.edit.OnEdits.{AsksFor, IsBadListOf}
use Rattle.commands.specs.edit.EditCounts.{CountsOnEdits, CountsOnNet}

-- ---- lists of edits
pub few_edits : (bytes : List ℕ) (edits : List Edit) → AreEditsOf (rows_of bytes) (map edit_view edits)
    → length edits ≤ 1000
few_edits bytes edits are =
    let same = ap length are.each in
    omega (
      arith,
      same,
      length-map (rows_of bytes) edit_row,
      length-map {B = Read EditText} (map edit_view edits) Ok,
      length-map edits edit_view,
      are.few,
    )

told_fault : (bytes : List ℕ) (fault : TableFault) → (fault ≡ out_of_memory) ⊎ IsFirstEditFault bytes fault.kind fault.row
    → fault.kind ≢ tables.NoMemory → IsFirstEditFault bytes fault.kind fault.row
told_fault bytes fault (inl want) told = absurd (told (ap (λ (f : TableFault). f.kind) want))
told_fault bytes fault (inr first) told = first

-- a call that answers on a fault of a list, if anything, answers on the first
pub on_bad_list : {E : Type 0} (file bytes : List ℕ) (fault : TableFault) (r : Result Answer E)
    → (fault ≡ out_of_memory) ⊎ IsFirstEditFault bytes fault.kind fault.row
    → IfOk r (λ a. reply_of a ≡ table_fault_reply file fault) → IfOk r (λ a. fault.kind ≢ tables.NoMemory)
    → IfOk r (λ a. IsBadListOf file bytes (reply_of a))
on_bad_list file bytes fault (Ok a) first is told =
    record { fault = fault; first = told_fault bytes fault first told; is = is }
on_bad_list file bytes fault (Err e) first is told = tt

-- ---- steps
-- those of edits that a list asks for
pub of_edits : (net : Net) (bytes : List ℕ) (edits : List Edit) (status old new : ℕ)
    → AreEditsOf (rows_of bytes) (map edit_view edits) → CountsOnEdits net edits status old new
    → CountsOnNet net bytes status old new
of_edits net bytes edits status old new are counts =
    let asked : AsksFor bytes (map edit_view edits) = record { are = are } in
    inr (record { edits = edits; asked = asked; counts = counts })
