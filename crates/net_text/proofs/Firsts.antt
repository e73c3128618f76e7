-- The first curve that is over a limit, as loops find it.
use Rattle.std.specs.List.{AllZip}
use Rattle.std.proofs.Common.{◌≡◌, ℕ, ◌+◌, ◌<◌, false, List, [], ◌∷◌, ◌++◌, length, map, get_or, drop, sym, ap, ◌∙◌, subst, inl, inr}
use Rattle.std.proofs.lemmas.List.{drop_more}
use Rattle.net_model.specs.Networks.{NetServer}
use Rattle.net_draft.specs.declared.fault.DraftFault.{DraftFault}
use Rattle.net_draft.specs.declared.fault.DraftFault.TheVariants as answers
use Rattle.net_draft.specs.declared.server_draft.ServerDraft.{ServerDraft}
use Rattle.net_draft.specs.declared.flow_draft.FlowDraft.{FlowDraft}
use Rattle.net_draft.specs.CurveTexts.{text_of}
use Rattle.net_draft.specs.Faults.{Fault, fault_of}
use Rattle.net_draft.specs.Texts.{ServerText}
use Rattle.net_draft.specs.Views.{server_text, flow_text}
use Rattle.net_text.specs.Becoming.{Becomes, FailsAt}
use Rattle.net_text.specs.Built.{IsServerOf}
use Rattle.net_text.specs.Firsts.{PlacedCurve, service_place, arrival_place, services_from, arrivals_from, Fits, FirstCurveOver, FailsFirst}

-- ---- one more entry
abbrev pub service_entry : ℕ → ServerDraft → PlacedCurve
service_entry i d = record { place = service_place i; text = text_of d.service.text; closes = false }

abbrev pub arrival_entry : ℕ → FlowDraft → PlacedCurve
arrival_entry i d = record { place = arrival_place i; text = text_of d.arrival.text; closes = d.closes }

pub services_more : (ds : List ServerDraft) (i : ℕ) (d : ServerDraft) → i < length ds → d ≡ get_or ds i d
    → services_from i (map server_text (drop i ds)) ≡ service_entry i d ∷ services_from (i + 1) (map server_text (drop (i + 1) ds))
services_more ds i d within is = ap (λ l. services_from i (map server_text l)) (drop_more ds i d within ∙ ap (λ t. t ∷ drop (i + 1) ds) (sym is))

pub arrivals_more : (ds : List FlowDraft) (i : ℕ) (d : FlowDraft) → i < length ds → d ≡ get_or ds i d
    → arrivals_from i (map flow_text (drop i ds)) ≡ arrival_entry i d ∷ arrivals_from (i + 1) (map flow_text (drop (i + 1) ds))
arrivals_more ds i d within is = ap (λ l. arrivals_from i (map flow_text l)) (drop_more ds i d within ∙ ap (λ t. t ∷ drop (i + 1) ds) (sym is))

-- ---- the texts of what is left
pub texts_more : (ds : List FlowDraft) (i : ℕ) (d : FlowDraft) → i < length ds → d ≡ get_or ds i d → map flow_text (drop i ds) ≡ flow_text d ∷ map flow_text (drop (i + 1) ds)
texts_more ds i d within is = ap (map flow_text) (drop_more ds i d within ∙ ap (λ t. t ∷ drop (i + 1) ds) (sym is))

-- the first of some curves that is over a limit is the first of the whole
abbrev pub Leads : List PlacedCurve → List PlacedCurve → Type 0
Leads es whole = (f : Fault) → FirstCurveOver es f → FirstCurveOver whole f

pub goes_on : (es whole : List PlacedCurve) (e : PlacedCurve) (rest : List PlacedCurve) → es ≡ e ∷ rest → Fits e → Leads es whole → Leads rest whole
goes_on es whole e rest same fits leads = λ f h. leads f (subst (λ l. FirstCurveOver l f) (sym same) (inr (fits, h)))

pub stops : (es whole : List PlacedCurve) (e : PlacedCurve) (rest : List PlacedCurve) (fault : DraftFault) → es ≡ e ∷ rest → FailsAt (Becomes e.closes e.text) e.place fault → Leads es whole → FailsFirst whole fault
stops es whole e rest answers.NoMemory same h leads = tt
stops es whole e rest (answers.Fault f) same h leads = leads (fault_of f) (subst (λ l. FirstCurveOver l (fault_of f)) (sym same) (inl h))

-- ---- services before arrivals
-- where all services fit, the first is that of those after them
pub after_services : (n : ℕ) (ts : List ServerText) (ss : List NetServer) (more : List PlacedCurve) (f : Fault) → AllZip IsServerOf ts ss → FirstCurveOver more f
    → FirstCurveOver (services_from n ts ++ more) f
after_services n [] [] more f z h = h
after_services n [] (s ∷ ss) more f z h = absurd z
after_services n (t ∷ ts) [] more f z h = absurd z
after_services n (t ∷ ts) (s ∷ ss) more f z h = inr (record { curve = s.service; is = z.0.service }, after_services (n + 1) ts ss more f z.1 h)

pub among_services : (es more : List PlacedCurve) (f : Fault) → FirstCurveOver es f → FirstCurveOver (es ++ more) f
among_services [] more f h = absurd h
among_services (e ∷ es) more f h = elim h [ inl over ↦ inl over | inr later ↦ inr (later.0, among_services es more f later.1) ]
