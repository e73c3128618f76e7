-- A file says one thing.
use Rattle.std.specs.List.{AllZip}
use Rattle.std.proofs.Common.{◌≡◌, ℕ, ◌+◌, Bool, true, false, List, [], ◌∷◌, ◌++◌, Option, Some, Ok, Err, sym, ap, ◌∙◌, subst, inl, inr}
use Rattle.rational.proofs.Bounds.{infimum_unique}
use Rattle.upp_curve.specs.Curve.{SpecCurve, value_at}
use Rattle.min_plus.specs.Convolution.{Parts, sum_at}
use Rattle.upp_limits.specs.declared.own_limits.OverLimit.{OverLimit}
use Rattle.upp_curve.proofs.OneForm.{normal_unique}
use Rattle.upp_limits.proofs.OneLimit.{one_limit}
use Rattle.net_model.specs.Networks.{Net, NetServer, NetFlow}
use Rattle.net_draft.specs.Faults.{Fault, Read}
use Rattle.net_draft.specs.Made.{IsMade}
use Rattle.net_draft.proofs.OverNone.{made_or_over}
use Rattle.net_draft.specs.Texts.{CurveText, Bucket, Stair, RateLatency, Gate, Listed, ServerText, FlowText, DraftText}
use Rattle.net_text.specs.Becoming.{IsCurveOf, Becomes, limit_fault}
use Rattle.net_text.specs.Built.{IsServerOf, IsFlowOf, IsLiveFlowOf, IsBuilt}
use Rattle.net_text.specs.Closing.{OverFold, IsClosureOf}
use Rattle.net_text.specs.Firsts.{PlacedCurve, services_from, arrivals_from, curves_of, FirstCurveOver}
use Rattle.net_text.specs.Laws.{EachFileSaysOneThing}
use Rattle.net_text.specs.Reading.{IsNetworkOf, FirstFault}
use Rattle.net_text.proofs.OneLimit.{fold_has_one_limit}
use Rattle.net_text.proofs.Zips.{zip_one}

-- ---- what was made of a text
pub one_made : (text : CurveText) (a b : SpecCurve) → IsCurveOf text a → IsCurveOf text b → a ≡ b
one_made (Bucket burst rate) a b g h = g.made.1 ∙ sym h.made.1
one_made (Stair packet period jitter) a b g h = g.made.1.0 ∙ sym h.made.1.0
one_made (RateLatency rate latency) a b g h = g.made.1.0 ∙ sym h.made.1.0
one_made (Gate rate cycle slot) a b g h = g.made.1.0 ∙ sym h.made.1.0
one_made (Listed pieces tail use_as) a b g h = normal_unique a b g.curve.normal h.curve.normal (λ t late. g.made.1.0 t late ∙ sym (h.made.1.0 t late))

one_over : (text : CurveText) (l m : OverLimit) → IsMade text (Err l) → IsMade text (Err m) → l ≡ m
one_over (Bucket burst rate) l m g h = absurd g
one_over (Stair packet period jitter) l m g h = one_limit _ l m g.1 h.1
one_over (RateLatency rate latency) l m g h = one_limit _ l m g.1 h.1
one_over (Gate rate cycle slot) l m g h = one_limit _ l m g.1 h.1
one_over (Listed pieces tail use_as) l m g h = one_limit _ l m g.1 h.1

-- ---- networks
one_server : (t : ServerText) (m n : NetServer) → IsServerOf t m → IsServerOf t n → m ≡ n
one_server t m n g h =
    let name : m.name ≡ n.name = g.name ∙ sym h.name in
    let rate : m.rate ≡ n.rate = g.rate ∙ sym h.rate in
    let kind : m.kind ≡ n.kind = g.kind ∙ sym h.kind in
    let service : m.service ≡ n.service = one_made t.service m.service n.service g.service h.service in
    let link : m.link ≡ n.link = g.link ∙ sym h.link in
    let discipline : m.discipline ≡ n.discipline = g.discipline ∙ sym h.discipline in
    λ i. record { name = name i; rate = rate i; kind = kind i; service = service i; link = link i; discipline = discipline i }

-- ---- files
pub same_draft : (d e : DraftText) → (let r : Read DraftText = Ok d in r) ≡ Ok e → d ≡ e
same_draft d e h = cc

same_fault : (f g : Fault) → (let r : Read DraftText = Err f in r) ≡ Err g → f ≡ g
same_fault f g h = cc

pub draft_or_fault : (d : DraftText) (f : Fault) → (let r : Read DraftText = Ok d in r) ≡ Err f → ⊥
draft_or_fault d f h = cc

-- ---- closures
one_closure : (f a b : SpecCurve) → IsClosureOf f a → IsClosureOf f b → a ≡ b
one_closure f a b g h =
    normal_unique a b g.curve.normal h.curve.normal
    (λ t late. infimum_unique {I = Parts t} (λ p. sum_at (value_at f) (p.first ∷ p.others)) (value_at a t) (value_at b t) (g.value t late) (h.value t late))

-- ---- what a curve becomes
one_curve : (closes : Bool) (text : CurveText) (a b : SpecCurve) → Becomes closes text (Ok a) → Becomes closes text (Ok b) → a ≡ b
one_curve false text a b g h = one_made text a b g h
one_curve true text a b g h =
    let same : h.made ≡ g.made = one_made text h.made g.made h.is g.is in
    one_closure g.made a b g.closes (subst (λ f. IsClosureOf f b) same h.closes)

fits_or_over : (closes : Bool) (text : CurveText) (a : SpecCurve) (limit : OverLimit) → Becomes closes text (Ok a) → Becomes closes text (Err limit) → ⊥
fits_or_over false text a limit g h = made_or_over text a limit g.made h
fits_or_over true text a limit g (inl own) = made_or_over text g.made limit g.is.made own
fits_or_over true text a limit g (inr h) =
    let same : g.made ≡ h.made = one_made text g.made h.made g.is h.is in
    (subst (λ f. IsClosureOf f a) same g.closes).within limit h.closes

over_once : (closes : Bool) (text : CurveText) (l m : OverLimit) → Becomes closes text (Err l) → Becomes closes text (Err m) → l ≡ m
over_once false text l m g h = one_over text l m g h
over_once true text l m (inl g) (inl h) = one_over text l m g h
over_once true text l m (inl g) (inr h) = absurd (made_or_over text h.made l h.is.made g)
over_once true text l m (inr g) (inl h) = absurd (made_or_over text g.made m g.is.made h)
over_once true text l m (inr g) (inr h) =
    let same : h.made ≡ g.made = one_made text h.made g.made h.is g.is in
    fold_has_one_limit g.made l m g.closes (subst (λ f. OverFold f m) same h.closes)

-- ---- flows
one_flow : (t : FlowText) (m n : NetFlow) → IsFlowOf t m → IsFlowOf t n → m ≡ n
one_flow t m n g h =
    let name : m.name ≡ n.name = g.name ∙ sym h.name in
    let path : m.path ≡ n.path = g.path ∙ sym h.path in
    let queues : m.queues ≡ n.queues = g.queues ∙ sym h.queues in
    let packet : m.packet ≡ n.packet = g.packet ∙ sym h.packet in
    let arrival : m.arrival ≡ n.arrival = one_curve t.closes t.arrival m.arrival n.arrival g.arrival h.arrival in
    λ i. record { name = name i; path = path i; queues = queues i; packet = packet i; arrival = arrival i }

one_live_flow : (t : FlowText) (m n : Option NetFlow) → IsLiveFlowOf t m → IsLiveFlowOf t n → m ≡ n
one_live_flow t m n g h = g.live ∙ ap Some (one_flow t g.flow h.flow g.is h.is) ∙ sym h.live

one_built : (d : DraftText) (m n : Net) → IsBuilt d m → IsBuilt d n → m ≡ n
one_built d m n g h =
    let version : m.version ≡ n.version = g.version ∙ sym h.version in
    let servers : m.servers ≡ n.servers = zip_one IsServerOf one_server d.servers m.servers n.servers g.servers h.servers in
    let flows : m.flows ≡ n.flows = zip_one IsLiveFlowOf one_live_flow d.flows m.flows n.flows g.flows h.flows in
    λ i. record { version = version i; servers = servers i; flows = flows i }

-- ---- the first curve over a limit
one_first : (es : List PlacedCurve) (f g : Fault) → FirstCurveOver es f → FirstCurveOver es g → f ≡ g
one_first [] f g a b = absurd a
one_first (e ∷ es) f g (inl a) (inl b) = a.is ∙ ap (λ l. limit_fault l e.place) (over_once e.closes e.text a.limit b.limit a.over b.over) ∙ sym b.is
one_first (e ∷ es) f g (inl a) (inr b) = absurd (fits_or_over e.closes e.text b.0.curve a.limit b.0.is a.over)
one_first (e ∷ es) f g (inr a) (inl b) = absurd (fits_or_over e.closes e.text a.0.curve b.limit a.0.is b.over)
one_first (e ∷ es) f g (inr a) (inr b) = one_first es f g a.1 b.1

flows_fit : (n : ℕ) (ts : List FlowText) (os : List (Option NetFlow)) (f : Fault) → AllZip IsLiveFlowOf ts os → FirstCurveOver (arrivals_from n ts) f → ⊥
flows_fit n [] os f z h = h
flows_fit n (t ∷ ts) [] f z h = z
flows_fit n (t ∷ ts) (o ∷ os) f z (inl over) = fits_or_over t.closes t.arrival z.0.flow.arrival over.limit z.0.is.arrival over.over
flows_fit n (t ∷ ts) (o ∷ os) f z (inr later) = flows_fit (n + 1) ts os f z.1 later.1

servers_fit : (n : ℕ) (ts : List ServerText) (ss : List NetServer) (more : List PlacedCurve) (f : Fault) → AllZip IsServerOf ts ss → (FirstCurveOver more f → ⊥)
    → FirstCurveOver (services_from n ts ++ more) f → ⊥
servers_fit n [] ss more f z rest h = rest h
servers_fit n (t ∷ ts) [] more f z rest h = z
servers_fit n (t ∷ ts) (s ∷ ss) more f z rest (inl over) = fits_or_over false t.service s.service over.limit z.0.service over.over
servers_fit n (t ∷ ts) (s ∷ ss) more f z rest (inr later) = servers_fit (n + 1) ts ss more f z.1 rest later.1

-- ---- the file
one_network : (bytes : List ℕ) (m n : Net) → IsNetworkOf bytes m → IsNetworkOf bytes n → m ≡ n
one_network bytes m n g h =
    let same : h.draft ≡ g.draft = same_draft h.draft g.draft (sym h.is_draft ∙ g.is_draft) in
    one_built g.draft m n g.built (subst (λ d. IsBuilt d n) same h.built)

one_fault : (bytes : List ℕ) (f g : Fault) → FirstFault bytes f → FirstFault bytes g → f ≡ g
one_fault bytes f g (inl a) (inl b) = same_fault f g (sym a ∙ b)
one_fault bytes f g (inl a) (inr b) = absurd (draft_or_fault b.draft f (sym b.is_draft ∙ a))
one_fault bytes f g (inr a) (inl b) = absurd (draft_or_fault a.draft g (sym a.is_draft ∙ b))
one_fault bytes f g (inr a) (inr b) =
    let same : b.draft ≡ a.draft = same_draft b.draft a.draft (sym b.is_draft ∙ a.is_draft) in
    one_first (curves_of a.draft) f g a.first (subst (λ d. FirstCurveOver (curves_of d) g) same b.first)

not_both : (bytes : List ℕ) (n : Net) (f : Fault) → IsNetworkOf bytes n → FirstFault bytes f → ⊥
not_both bytes n f g (inl a) = draft_or_fault g.draft f (sym g.is_draft ∙ a)
not_both bytes n f g (inr a) =
    let same : a.draft ≡ g.draft = same_draft a.draft g.draft (sym a.is_draft ∙ g.is_draft) in
    servers_fit 0 g.draft.servers n.servers (arrivals_from 0 g.draft.flows) f g.built.servers (flows_fit 0 g.draft.flows n.flows f g.built.flows)
    (subst (λ d. FirstCurveOver (curves_of d) f) same a.first)

pub each_file_says_one_thing : EachFileSaysOneThing
each_file_says_one_thing bytes = record { one_network = one_network bytes; one_fault = one_fault bytes; not_both = not_both bytes }
