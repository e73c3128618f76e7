use Rattle.std.specs.List.{AllZip}
use Rattle.std.proofs.Common.{◌≤◌, map, take, drop}
use Rattle.net_model.specs.Views.{flows_of}
use Rattle.net_draft.specs.Views.{flow_text}
use Rattle.net_text.specs.Built.{IsLiveFlowOf}
use Rattle.net_text.specs.Firsts.{arrivals_from}
use Rattle.net_text.proofs.Firsts.{Leads}
use Rattle.net_text.proofs.FoldSteps.{HaveTaken, LeavesSteps}
use Rattle.net_text.proofs.flows.flows_of.Given as goal

abbrev pub invariant-loop-number : goal.invariant-loop-number
invariant-loop-number g l = record {
  built : AllZip IsLiveFlowOf (map flow_text (take l.number l.drafts)) (flows_of l.flows.items);
  leads : Leads (arrivals_from l.number (map flow_text (drop l.number l.drafts))) (arrivals_from 0 (map flow_text l.drafts));
  rises : l.fn.steps ≤ l.steps;
  taken : HaveTaken (map flow_text (take l.number l.drafts)) l.fn.steps l.steps;
  left : LeavesSteps (map flow_text l.drafts) (map flow_text (drop l.number l.drafts)) l.fn.steps l.steps;
}
