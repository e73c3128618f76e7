-- Where want of memory was, as the reader's loops find it.
use Rattle.std.specs.List.{AllZip}
use Rattle.std.proofs.Common.{◌≡◌, ℕ, ◌+◌, ◌<◌, Bool, true, false, List, [], ◌∷◌, ◌++◌, length, map, get_or, take, drop, Option, Ok, refl, sym, ap, ◌∙◌, inl, arith, true≢false}
use Rattle.std.proofs.lemmas.List.{map-append, take-append-drop}
use Rattle.upp_curve.specs.Curve.{SpecCurve}
use Rattle.net_model.specs.Networks.{NetFlow}
use Rattle.net_model.specs.declared.fault.NetFault.{NetFault}
use Rattle.net_model.specs.declared.fault.NetKind.TheVariants.{NoMemory}
use Rattle.net_draft.specs.declared.fault.DraftFault.{DraftFault}
use Rattle.net_draft.specs.declared.fault.DraftFault.TheVariants as answers
use Rattle.net_draft.specs.declared.flow_draft.FlowDraft.{FlowDraft}
use Rattle.net_draft.specs.CurveTexts.{text_of}
use Rattle.net_draft.specs.Faults.{fault_of}
use Rattle.net_draft.specs.Made.{IsMade}
use Rattle.net_draft.specs.Texts.{CurveText, FlowText}
use Rattle.net_draft.specs.Views.{flow_text}
use Rattle.net_draft.proofs.OverNone.{made_or_over}
use Rattle.subadd_closure.specs.FoldMemory.{CloseWants}
use Rattle.net_text.specs.Becoming.{IsCurveOf, IsTold}
use Rattle.net_text.specs.Built.{IsLiveFlowOf}
use Rattle.net_text.specs.Folds.{FoldsOf}
use Rattle.net_text.specs.Reading.{FailsFile}
use Rattle.net_text.specs.Wants.{ArrivalWants, FlowWants, StopsIn, FlowsWant}
use Rattle.net_text.proofs.FirstFaults.{no_fault_is_want_of_memory}
use Rattle.net_text.proofs.Firsts.{texts_more}

-- ---- one arrival
pub closure_wants : (closes : Bool) (text : CurveText) (c : SpecCurve) (n : ℕ) → closes ≡ true → IsCurveOf text c → CloseWants c n → ArrivalWants closes text n
closure_wants false text c n e is h = absurd (true≢false (sym e))
closure_wants true text c n e is h = record { curve = c; is = is; wants = h }

pub open_wants : (closes : Bool) (text : CurveText) (c : SpecCurve) (n : ℕ) → closes ≡ false → IsMade text (Ok c) → n ≡ 0 → ArrivalWants closes text n
open_wants false text c n e made none = (none, λ limit over. made_or_over text c limit made over)
open_wants true text c n e made none = absurd (true≢false e)

-- ---- all flows
at_first : (fs : List FlowText) → StopsIn fs 0
at_first [] = refl
at_first (f ∷ fs) = inl refl

texts_split : (ds : List FlowDraft) (i : ℕ) → map flow_text ds ≡ map flow_text (take i ds) ++ map flow_text (drop i ds)
texts_split ds i = ap (map flow_text) (sym (take-append-drop i ds)) ∙ map-append flow_text (take i ds) (drop i ds)

-- between two flows
pub between_flows : (ds : List FlowDraft) (i : ℕ) (made : List (Option NetFlow)) (n : ℕ) → AllZip IsLiveFlowOf (map flow_text (take i ds)) made
    → FoldsOf (map flow_text (take i ds)) n → FlowsWant (map flow_text ds) n
between_flows ds i made n built folds = record {
  before = map flow_text (take i ds);
  after = map flow_text (drop i ds);
  are = texts_split ds i;
  made = made;
  built = built;
  count = n;
  folds = folds;
  more = 0;
  counted = omega arith;
  stops = at_first (map flow_text (drop i ds));
}

-- in one of them
pub in_flow : (ds : List FlowDraft) (i : ℕ) (d : FlowDraft) (made : List (Option NetFlow)) (k more n : ℕ) → i < length ds → d ≡ get_or ds i d → AllZip IsLiveFlowOf (map flow_text (take i ds)) made
    → FoldsOf (map flow_text (take i ds)) k → n ≡ k + more → FlowWants d.closes (text_of d.arrival.text) more → FlowsWant (map flow_text ds) n
in_flow ds i d made k more n within is built folds sum wants = record {
  before = map flow_text (take i ds);
  after = flow_text d ∷ map flow_text (drop (i + 1) ds);
  are = texts_split ds i ∙ ap (λ fs. map flow_text (take i ds) ++ fs) (texts_more ds i d within is);
  made = made;
  built = built;
  count = k;
  folds = folds;
  more = more;
  counted = sum;
  stops = wants;
}

-- ---- a file
-- what is told as want of memory was want of memory, since no fault of a file is
pub told_wants : (bytes : List ℕ) (e : DraftFault) (f : NetFault) → IsTold e f → FailsFile bytes e → f.kind ≡ NoMemory → e ≡ answers.NoMemory
told_wants bytes answers.NoMemory f told fails kind = refl
told_wants bytes (answers.Fault g) f told fails kind = absurd (no_fault_is_want_of_memory bytes (fault_of g) fails (sym (ap (λ x. x.kind) told) ∙ kind))
