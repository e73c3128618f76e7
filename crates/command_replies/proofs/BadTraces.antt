-- The reply on a trace's first fault.
use Rattle.std.proofs.Common.{◌≡◌, ◌≢◌, ℕ, List, Result, Ok, Err, IfOk, inl, inr, sym, ap, ◌∙◌}
use Rattle.std.specs.Prelude.{◌⊎◌}
use Rattle.net_model.specs.Accepted.{IsAccepted}
use Rattle.net_model.specs.Networks.{Net}
use Rattle.input_texts.specs.declared.table_text.fault.TableFault.{TableFault}
use Rattle.input_texts.specs.declared.table_text.fault.TableKind.TheVariants.{NoMemory}
use Rattle.input_texts.specs.table_text.Traces.{IsFirstFault, out_of_memory}
use Rattle.input_texts.proofs.table_text.OneTrace.{fault_one}
use Rattle.command_replies.specs.OnFiles.{IsBadTraceOf}
use Rattle.command_replies.specs.Replies.{Reply, table_fault_reply}
use Rattle.replies.specs.declared.answer.Answer.{Answer}
use Rattle.command_replies.specs.View.{reply_of}

same_fault : (f g : TableFault) → f.kind ≡ g.kind → f.row ≡ g.row → f ≡ g
same_fault f g kind row =
    ap (λ k. record { kind = k; row = f.row }) kind ∙ ap (λ n. record { kind = g.kind; row = n }) row

-- there is one
pub one_bad_trace : (net : Net) (trace_file trace_bytes : List ℕ) (x y : Reply) → IsAccepted net
    → IsBadTraceOf net trace_file trace_bytes x → IsBadTraceOf net trace_file trace_bytes y → x ≡ y
one_bad_trace net trace_file trace_bytes x y a h k =
    let one = fault_one net trace_bytes h.fault.kind k.fault.kind h.fault.row k.fault.row a h.first k.first in
    h.is ∙ ap (table_fault_reply trace_file) (same_fault h.fault k.fault one.0 one.1) ∙ sym k.is

-- a call that answers on a fault of a trace, if anything, answers on the first
pub on_told : {E : Type 0} (net : Net) (trace_file trace_bytes : List ℕ) (fault : TableFault) (r : Result Answer E)
    → (fault ≡ out_of_memory) ⊎ IsFirstFault net trace_bytes fault.kind fault.row
    → IfOk r (λ a. reply_of a ≡ table_fault_reply trace_file fault) → IfOk r (λ a. fault.kind ≢ NoMemory)
    → IfOk r (λ a. IsBadTraceOf net trace_file trace_bytes (reply_of a))
on_told net trace_file trace_bytes fault (Ok a) (inl none) is told =
    absurd (told (ap (λ (f : TableFault). f.kind) none))
on_told net trace_file trace_bytes fault (Ok a) (inr first) is told =
    record { fault = fault; first = first; is = is }
on_told net trace_file trace_bytes fault (Err e) found is told = tt
