-- Of the stages that the commands share: two replies are alike, and what a file and a network come to that stop nowhere.
use Rattle.std.proofs.Common.{◌≡◌, ℕ, List, subst}
use Rattle.upp_limits.specs.LimitTest.{fault_of}
use Rattle.upp_limits.specs.declared.op_kind.OpFault.{OpFault}
use Rattle.net_model.specs.Accepted.{IsAccepted}
use Rattle.net_model.specs.Networks.{Net}
use Rattle.net_model.specs.Orders.{IsOrder}
use Rattle.net_model.specs.Walks.{IsFeedForward}
use Rattle.net_model.proofs.net_graph.OneOrders.{one_order}
use Rattle.net_model.proofs.net_graph.Returns.{cycle_is_closed, order_or_cycle}
use Rattle.net_text.specs.Reading.{IsNetworkOf}
use Rattle.net_cells.specs.declared.cell.Cell.{Cell}
use Rattle.net_cells.specs.FirstOver.{FirstOver}
use Rattle.net_cells.specs.Meanings.{CellTable}
use Rattle.command_replies.specs.OnFiles.{IsNoNetwork, IsNetOf, OnFile, OnCycle, IsOver, IsTableOf}
use Rattle.command_replies.specs.OnFiles.{OnOrder, OnTable}
use Rattle.command_replies.specs.Replies.{Reply}
use Rattle.outcomes.specs.Stages.{AreAlike, GoOnAlike, stops, goes_on}
use Rattle.net_text.proofs.OneThing.{each_file_says_one_thing}
use Rattle.command_replies.proofs.OneRefusal.{on_fault, one_fault, no_network, one_over, no_answers}
use Rattle.outcomes.proofs.Stages.{one_staged, on_one}

-- ---- two replies
-- where equal replies are alike
module _ (Alike : Reply → Reply → Type 0) (same : (x y : Reply) → x ≡ y → Alike x y) where
  pub file_alike : (file bytes : List ℕ) (Said : Net → Reply → Type 0)
      → ((net : Net) → IsNetOf bytes net → AreAlike Alike (Said net)) → AreAlike Alike (OnFile file bytes Said)
  file_alike file bytes Said each =
      one_staged (IsNoNetwork file bytes) (IsNetOf bytes) Said Alike
      (λ r net h given. no_network file bytes r net (on_fault file bytes r h) given.reads)
      (λ x y h k. same x y (one_fault file bytes x y (on_fault file bytes x h) (on_fault file bytes y k)))
      (on_one (IsNetOf bytes) Said Alike (λ m n h k. (each_file_says_one_thing bytes).one_network m n h.reads k.reads) each)

  pub order_alike : (net : Net) (order : List ℕ) (Told : CellTable → Reply → Type 0) → IsAccepted net
      → IsOrder net order → GoOnAlike Alike (IsTableOf net order) Told → AreAlike Alike (OnOrder net Told order)
  order_alike net order Told a o tables =
      one_staged (IsOver net order) (IsTableOf net order) Told Alike
      (λ r at h table. no_answers net order r at a o h table.answers)
      (λ x y h k. same x y (one_over net order x y a o h k))
      tables

  pub table_alike : (net : Net) (Told : CellTable → Reply → Type 0) → IsAccepted net → AreAlike Alike (OnCycle net)
      → ((order : List ℕ) → IsOrder net order → GoOnAlike Alike (IsTableOf net order) Told)
      → AreAlike Alike (OnTable net Told)
  table_alike net Told a cycles tables =
      one_staged (OnCycle net) (IsOrder net) (OnOrder net Told) Alike
      (λ r order h o. order_or_cycle.no_cycle net order h.walk a o h.cycle) cycles
      (on_one (IsOrder net) (OnOrder net Told) Alike (λ x y o p. one_order net x y o p)
      (λ order o. order_alike net order Told a o (tables order o)))

-- ---- what stops nowhere
-- what is said of a network that a file gives, which is accepted
pub record IsSaidOfNet (net : Net) (Said : Net → Reply → Type 0) (reply : Reply) : Type 0 where
  pub accepted : IsAccepted net
  pub said : Said net reply

pub file_reached : (file bytes : List ℕ) (Said : Net → Reply → Type 0) (net : Net) (reply : Reply)
    → IsNetworkOf bytes net → OnFile file bytes Said reply → IsSaidOfNet net Said reply
file_reached file bytes Said net reply reads (stops h) =
    absurd (no_network file bytes reply net (on_fault file bytes reply h) reads)
file_reached file bytes Said net reply reads (goes_on other given h) =
    let one = (each_file_says_one_thing bytes).one_network other net given.reads reads in
    record { accepted = subst IsAccepted one given.accepted; said = subst (λ n. Said n reply) one h }

pub order_reached : (net : Net) (order : List ℕ) (Told : CellTable → Reply → Type 0) (reply : Reply)
    → ((c : Cell) (fault : OpFault) → ¬ (FirstOver net order c fault)) → OnOrder net Told order reply
    → (at : CellTable) × Told at reply
order_reached net order Told reply within (stops h) = absurd (within h.1.cell (fault_of h.0) h.1.first)
order_reached net order Told reply within (goes_on at table told) = (at, told)

pub table_reached : (net : Net) (Told : CellTable → Reply → Type 0) (reply : Reply) → IsFeedForward net
    → ((order : List ℕ) (c : Cell) (fault : OpFault) → IsOrder net order → ¬ (FirstOver net order c fault))
    → OnTable net Told reply → (at : CellTable) × Told at reply
table_reached net Told reply free within (stops h) = absurd (free h.walk (cycle_is_closed net h.walk h.cycle))
table_reached net Told reply free within (goes_on order o h) =
    order_reached net order Told reply (λ c fault. within order c fault o) h
