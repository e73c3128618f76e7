-- Two refusals of one file have one status, and one text unless it tells a cycle; and what a file with a refusal does not give.
use Rattle.std.proofs.Common.{◌≡◌, ℕ, List, inl, inr, sym, ap, ◌∙◌}
use Rattle.upp_limits.specs.LimitTest.{fault_of}
use Rattle.upp_limits.specs.declared.own_limits.OverLimit.{OverLimit}
use Rattle.upp_limits.proofs.OneLimit.{same_limit}
use Rattle.net_model.specs.Accepted.{IsAccepted}
use Rattle.net_model.specs.Networks.{Net}
use Rattle.net_model.specs.Orders.{IsOrder}
use Rattle.net_draft.specs.Faults.{Fault}
use Rattle.net_text.specs.Becoming.{limit_fault}
use Rattle.net_text.specs.Reading.{IsNetworkOf, FirstFault}
use Rattle.net_text.proofs.OneThing.{each_file_says_one_thing}
use Rattle.net_cells.specs.Meanings.{CellTable}
use Rattle.net_cells.specs.FirstOver.{AnswersAll}
use Rattle.net_cells.specs.Order.{evaluation_order}
use Rattle.net_cells.proofs.Tables.{one_is_first_over}
use Rattle.report_text.specs.CellWords.{cell_words}
use Rattle.command_replies.specs.Replies.{Reply, AreSame, cell_over}
use Rattle.command_replies.specs.Faults.{fault_reply}
use Rattle.command_replies.specs.OnFiles.{IsNoNetwork, OnCycle, OnCellOver, IsOver}
use Rattle.command_replies.proofs.FirstFaults.{on_broken, on_limit}

pub equal : (x y : Reply) → x ≡ y → AreSame x y
equal x y same = record {
  status = ap (λ (r : Reply). r.status) same;
  bytes = λ other. ap (λ (r : Reply). r.bytes) same;
}

-- ---- a file that gives no network
pub record OnFault (file bytes : List ℕ) (reply : Reply) : Type 0 where
  pub fault : Fault
  pub first : FirstFault bytes fault
  pub is : reply ≡ fault_reply file fault

pub on_fault : (file bytes : List ℕ) (reply : Reply) → IsNoNetwork file bytes reply → OnFault file bytes reply
on_fault file bytes reply (inl h) =
    record { fault = h.fault; first = inl h.first; is = on_broken file bytes reply h }
on_fault file bytes reply (inr (limit, h)) =
    let is = h.is ∙ sym (on_limit file h.place limit) in
    record { fault = limit_fault limit h.place; first = inr h.first; is = is }

pub one_fault : (file bytes : List ℕ) (x y : Reply) → OnFault file bytes x → OnFault file bytes y → x ≡ y
one_fault file bytes x y h k =
    h.is ∙ ap (fault_reply file) ((each_file_says_one_thing bytes).one_fault h.fault k.fault h.first k.first) ∙ sym k.is

pub no_network : (file bytes : List ℕ) (reply : Reply) (net : Net) → OnFault file bytes reply
    → IsNetworkOf bytes net → ⊥
no_network file bytes reply net h reads = (each_file_says_one_thing bytes).not_both net h.fault reads h.first

-- ---- a cycle
pub one_cycle : (net : Net) (x y : Reply) → OnCycle net x → OnCycle net y → AreSame x y
one_cycle net x y h k =
    let here : x.status ≡ 8 = ap (λ (r : Reply). r.status) h.is in
    let there : y.status ≡ 8 = ap (λ (r : Reply). r.status) k.is in
    record { status = here ∙ sym there; bytes = λ other. absurd (other here) }

-- ---- a cell over a limit
one_limit : (net : Net) (order : List ℕ) (x y : Reply) (l m : OverLimit) → IsAccepted net → IsOrder net order
    → OnCellOver l net order x → OnCellOver m net order y → x ≡ y
one_limit net order x y l m a o h k =
    let one = one_is_first_over.fault net order h.cell k.cell (fault_of l) (fault_of m) a o h.first k.first in
    let cell = one_is_first_over.cell net order h.cell k.cell (fault_of l) (fault_of m) a o h.first k.first in
    h.is ∙ ap (λ n. cell_over n (cell_words net h.cell)) (same_limit l m one)
    ∙ ap (λ c. cell_over m (cell_words net c)) cell ∙ sym k.is

pub one_over : (net : Net) (order : List ℕ) (x y : Reply) → IsAccepted net → IsOrder net order → IsOver net order x
    → IsOver net order y → x ≡ y
one_over net order x y a o h k = one_limit net order x y h.0 k.0 a o h.1 k.1

-- no table has all answers
pub no_answers : (net : Net) (order : List ℕ) (x : Reply) (at : CellTable) → IsAccepted net → IsOrder net order
    → IsOver net order x → AnswersAll net at (evaluation_order net order) → ⊥
no_answers net order x at a o h answers =
    one_is_first_over.alone net order h.1.cell (fault_of h.0) at a o h.1.first answers
