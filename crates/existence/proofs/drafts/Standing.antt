-- A file whose tables break no rule has a draft: the strings and vectors of its texts, with the curve of each text or the
-- limit that it is over.
use Rattle.std.specs.Prelude.{◌≢◌, All, AllPairs, Vec, String, true}
use Rattle.std.specs.declared.alloc.Global.{Global}
use Rattle.std.proofs.StringFromBytes.{spelled}
use Rattle.std.proofs.Common.{◌≡◌, ℕ, ◌<◌, ◌≤◌, ◌^◌, List, [], ◌∷◌, map, length, Ok, refl, sym, ap, ap₂, subst, subst₂, arith, le_refl, ◌∙◌}
use Rattle.std.proofs.lemmas.Bool.Decides.{nat_tests}
use Rattle.std.proofs.lemmas.List.{length-map}
use Rattle.std.proofs.lemmas.List.Elements.{All-nil, All-cons, All-head, All-tail, All-weaker}
use Rattle.std.specs.Str.{IsUtf8}
use Rattle.std.proofs.lemmas.Str.{IsUtf8-from_ascii}
use Rattle.std.proofs.lemmas.Str.Ascii.{IsAscii-from_all}
use denote.RawPtr.{null_ptr}
use Rattle.run_laws.specs.Servers.{Discipline}
use Rattle.net_model.specs.Accepted.{HasFewQueues}
use Rattle.net_model.specs.Names.{IsName, is_name_byte}
use Rattle.net_draft.specs.declared.curve_text.CurveText.{CurveText as CurveCode}
use Rattle.net_draft.specs.declared.curve_text.CurveText.TheVariants as curves
use Rattle.net_draft.specs.declared.draft.Draft.{Draft}
use Rattle.net_draft.specs.declared.flow_draft.FlowDraft.{FlowDraft}
use Rattle.net_draft.specs.declared.server_draft.ServerDraft.{ServerDraft}
use Rattle.net_draft.specs.CurveTexts.{text_of}
use Rattle.net_draft.specs.DraftViews.{draft_text}
use Rattle.net_draft.specs.Drafts.{draft_of}
use Rattle.net_draft.specs.Kept.{IsServerDraft, IsFlowDraft, IsDraft, AreWithinQuanta}
use Rattle.net_draft.specs.Made.{IsMade}
use Rattle.net_draft.specs.Texts.{CurveText, Bucket, Stair, RateLatency, Gate, Listed, ServerText, FlowText, DraftText, IsServiceOf, IsArrivalOf}
use Rattle.net_draft.specs.Views.{server_text, flow_text}
use Rattle.net_draft.proofs.DisciplinesKept.{discipline_code}
use Rattle.existence.specs.drafts.Drafts.{HasService, HasArrival}
use Rattle.existence.proofs.drafts.FoundCurves.{curve_found}
use Rattle.existence.proofs.drafts.ReadTexts.{IsShortList, IsReadServer, IsReadFlow, IsReadDraft, draft_kept}

-- ---- strings and vectors
heap : Global
heap = record { memory = record { seal = tt } }

abbrev vec_of : {A : Type 0} → (xs : List A) → length xs < 2 ^ 63 → Vec A Global
vec_of xs small = record {
  ptr = null_ptr;
  len = length xs;
  cap = length xs;
  alloc = heap;
  items = xs;
  ok = (refl, le_refl (length xs));
  small = small;
}

below : (b : ℕ) → is_name_byte b ≡ true → b < 128
below b h = grind (arith, nat_tests)

is_text : (name : List ℕ) → IsName name → IsUtf8 name
is_text name h = IsUtf8-from_ascii name (IsAscii-from_all name (All-weaker (λ b. is_name_byte b ≡ true) (λ b. b < 128) below name h.bytes))

short : (name : List ℕ) → IsName name → length name < 2 ^ 63
short name h = let few = h.few in omega (arith, few)

abbrev string_of : (name : List ℕ) → IsName name → String Global
string_of name h = spelled heap name ∣ is_text name h ∣₁ (short name h)

-- ---- curves
curve_code : (t : CurveText) → IsShortList t → (c : CurveCode) × (text_of c ≡ t)
curve_code (Bucket burst rate) few = (curves.Bucket burst rate, refl)
curve_code (Stair packet period jitter) few = (curves.Stair packet period jitter, refl)
curve_code (RateLatency rate latency) few = (curves.RateLatency rate latency, refl)
curve_code (Gate rate cycle slot) few = (curves.Gate rate cycle slot, refl)
curve_code (Listed pieces tail use_as) few = (curves.Listed (vec_of pieces (omega (arith, few))) tail use_as, refl)

-- ---- servers
record IsServerMade (s : ServerText) : Type 0 where
  draft : ServerDraft
  text : server_text draft ≡ s
  kept : IsServerDraft draft
  curve : HasService draft

abbrev server_with : ServerText → CurveText → Discipline → ServerText
server_with s t d = record { name = s.name; rate = s.rate; service = t; link = s.link; discipline = d }

server_made : (s : ServerText) → IsReadServer s → IsServerMade s
server_made s k =
    let code = curve_code s.service k.service.short in
    let found = curve_found s.service k.service.passes k.service.small in
    let queues = discipline_code (λ xs small. vec_of xs small) (λ xs small. refl) s.discipline k.queues in
    let draft : ServerDraft = record {
      name = string_of s.name k.name;
      rate = s.rate;
      service = record { text = code.0; made = found.made };
      link = s.link;
      discipline = queues.0;
    } in
    record {
      draft = draft;
      text = ap₂ (server_with s) code.1 queues.1;
      kept = record {
        name = k.name;
        rate = k.rate;
        service = record {
          made = subst (λ (t : CurveText). IsMade t found.made) (sym code.1) found.is;
          own = subst (IsServiceOf s.rate) (sym code.1) k.service.own;
        };
        link = k.link;
        queues = subst HasFewQueues (sym queues.1) k.queues;
      };
      curve = found.curve;
    }

record AreServersMade (ss : List ServerText) : Type 0 where
  drafts : List ServerDraft
  texts : map server_text drafts ≡ ss
  kept : All IsServerDraft drafts
  curves : All HasService drafts

servers_made : (ss : List ServerText) → All IsReadServer ss → AreServersMade ss
servers_made [] each = record { drafts = []; texts = refl; kept = All-nil IsServerDraft; curves = All-nil HasService }
servers_made (s ∷ ss) each =
    let one = server_made s (All-head IsReadServer s ss each) in
    let rest = servers_made ss (All-tail IsReadServer s ss each) in
    record {
      drafts = one.draft ∷ rest.drafts;
      texts = ap₂ (λ (t : ServerText) (ts : List ServerText). t ∷ ts) one.text rest.texts;
      kept = All-cons IsServerDraft one.draft rest.drafts one.kept rest.kept;
      curves = All-cons HasService one.draft rest.drafts one.curve rest.curves;
    }

-- ---- flows
module _ (servers : List ServerText) where
  record IsFlowMade (f : FlowText) : Type 0 where
    draft : FlowDraft
    text : flow_text draft ≡ f
    kept : IsFlowDraft servers draft
    curve : HasArrival draft

  abbrev flow_with : FlowText → CurveText → FlowText
  flow_with f t = record { name = f.name; packet = f.packet; arrival = t; closes = f.closes; path = f.path }

  flow_made : (f : FlowText) → IsReadFlow servers f → IsFlowMade f
  flow_made f k =
      let code = curve_code f.arrival k.arrival.short in
      let found = curve_found f.arrival k.arrival.passes k.arrival.small in
      let few = k.few in
      let draft : FlowDraft = record {
        name = string_of f.name k.name;
        packet = f.packet;
        arrival = record { text = code.0; made = found.made };
        closes = f.closes;
        path = vec_of f.path (let l : length f.path < 2 ^ 63 = omega (arith, few) in l);
      } in
      record {
        draft = draft;
        text = ap (flow_with f) code.1;
        kept = record {
          name = k.name;
          packet = k.packet;
          arrival = record {
            made = subst (λ (t : CurveText). IsMade t found.made) (sym code.1) found.is;
            own = subst (IsArrivalOf f.packet) (sym code.1) k.arrival.own;
          };
          some = k.some;
          few = k.few;
          hops = k.hops;
          once = k.once;
        };
        curve = found.curve;
      }

  record AreFlowsMade (fs : List FlowText) : Type 0 where
    drafts : List FlowDraft
    texts : map flow_text drafts ≡ fs
    kept : All (IsFlowDraft servers) drafts
    curves : All HasArrival drafts

  flows_made : (fs : List FlowText) → All (IsReadFlow servers) fs → AreFlowsMade fs
  flows_made [] each = record { drafts = []; texts = refl; kept = All-nil (IsFlowDraft servers); curves = All-nil HasArrival }
  flows_made (f ∷ fs) each =
      let one = flow_made f (All-head (IsReadFlow servers) f fs each) in
      let rest = flows_made fs (All-tail (IsReadFlow servers) f fs each) in
      record {
        drafts = one.draft ∷ rest.drafts;
        texts = ap₂ (λ (t : FlowText) (ts : List FlowText). t ∷ ts) one.text rest.texts;
        kept = All-cons (IsFlowDraft servers) one.draft rest.drafts one.kept rest.kept;
        curves = All-cons HasArrival one.draft rest.drafts one.curve rest.curves;
      }

-- ---- drafts
pub record IsDraftMade (t : DraftText) : Type 0 where
  pub draft : Draft
  pub text : draft_text draft ≡ t
  pub kept : IsDraft draft
  pub services : All HasService draft.servers.items
  pub arrivals : All HasArrival draft.flows.items

-- a list that views as one of so many entries has so many
as_many : {X Y : Type 0} (f : X → Y) (xs : List X) (ys : List Y) → map f xs ≡ ys → length xs ≡ length ys
as_many f xs ys e = sym (length-map xs f) ∙ ap length e

draft_made : (t : DraftText) → IsReadDraft t → IsDraftMade t
draft_made t k =
    let ss = servers_made t.servers k.servers.servers in
    let fs = flows_made t.servers t.flows k.flows.flows in
    let many : length ss.drafts ≤ 64 = (let a = as_many server_text ss.drafts t.servers ss.texts in let b = k.few_servers in omega (arith, a, b)) in
    let more : length fs.drafts ≤ 256 = (let a = as_many flow_text fs.drafts t.flows fs.texts in let b = k.few_flows in omega (arith, a, b)) in
    let draft : Draft = record {
      version = t.version;
      servers = vec_of ss.drafts (let l : length ss.drafts < 2 ^ 63 = omega (arith, many) in l);
      flows = vec_of fs.drafts (let l : length fs.drafts < 2 ^ 63 = omega (arith, more) in l);
    } in
    record {
      draft = draft;
      text = ap₂ (λ (a : List ServerText) (b : List FlowText). let d : DraftText = record { version = t.version; servers = a; flows = b } in d) ss.texts fs.texts;
      kept = record {
        version = k.version;
        few_servers = many;
        few_flows = more;
        server_names = subst (AllPairs (λ s u. s.name ≢ u.name)) (sym ss.texts) k.servers.names;
        flow_names = subst (AllPairs (λ f g. f.name ≢ g.name)) (sym fs.texts) k.flows.names;
        servers = ss.kept;
        flows = subst (λ (a : List ServerText). All (IsFlowDraft a) fs.drafts) (sym ss.texts) fs.kept;
        quanta = subst₂ AreWithinQuanta (sym ss.texts) (sym fs.texts) k.quanta;
      };
      services = ss.curves;
      arrivals = fs.curves;
    }

pub draft_stands : (bytes : List ℕ) (t : DraftText) → draft_of bytes ≡ Ok t → IsDraftMade t
draft_stands bytes t h = draft_made t (draft_kept bytes t h)
