-- What holds of a class of one queue holds of a class whose packets that arrive are of one queue, as a flow's: in a
-- lawful view both have the same packets.
use Rattle.std.specs.Prelude.{Option, Some, None, ◌≡◌, ℕ, pos, ◌==◌, Bool, true, false, not, ◌&&◌, ◌||◌, List, [], ◌∷◌, ◌++◌}
use Rattle.std.proofs.Common.{sym, ap, ◌∙◌, refl, inl, inr, subst}
use Rattle.std.proofs.lemmas.Bool.{cases_Bool, eqb-true, eq-eqb, and_parts, and_from, and_right}
use Rattle.rational.specs.Rational.{ℚ, int, ◌-ℚ◌, ◌≤ℚ◌}
use Rattle.rational.specs.Extended.{Ext, ◌≤ₑ◌}
use Rattle.rational.specs.declared.Extended.TheVariants.{Fin, Inf}
use Rattle.rational.specs.declared.Extended.TheVariants.{Fin}
use Rattle.min_plus.specs.Functions.{IsRising}
use Rattle.min_plus.specs.Pointwise.{shifted}
use Rattle.min_plus.specs.Deviations.{IsHorizontalDeviation}
use Rattle.min_plus.proofs.Deviations.{within_deviation, deviation_nonneg}
use Rattle.run_laws.specs.Runs.{SpecRun}
use Rattle.run_laws.specs.Cards.{Card, Class, of_flow, of_queue, ServerStep, Arrives, Works, Leaves, Visits}
use Rattle.run_laws.specs.Servers.{Discipline, Server, Under, Round, ServerState, head_of, without_head, start}
use Rattle.run_laws.specs.Next.{next}
use Rattle.run_laws.specs.Allows.{AllAllowed, IsLawfulView, MayLeave, next_card}
use Rattle.run_laws.specs.Counts.{departed_in}
use Rattle.run_laws.specs.Premises.{EachArrival, KeepsArrivals, NoneTwice}
use Rattle.run_laws.specs.Classes.{IsOfQueue, IsPart, AreParts}
use Rattle.run_laws.specs.Serves.{Serves}
use Rattle.run_laws.specs.Delays.{hop_delays, AreAtMost}
use Rattle.run_laws.specs.Waits.{IsReachedAfter}
use Rattle.run_laws.specs.Routes.{Routes, route_of, queue_at}
use Rattle.run_laws.specs.Views.{view}
use Rattle.run_laws.proofs.Heads.{same_some, pick_is_head}
use Rattle.run_laws.proofs.Arrivals.{arrivals_map, arrivals_both}
use Rattle.run_laws.proofs.Always.{IsAlwaysOfQueue, AreAlwaysParts}
use Rattle.run_laws.proofs.Seen.{EachCard, arriving_cards, IsInOwnQueue, in_own_queues, Agree, agree_back, keeps_same, serves_same, same_delays, same_departed_in}
use Rattle.run_laws.proofs.Delay.{each_delay, none_above_infinity}
use Rattle.run_laws.proofs.Shifted.{part_output_always, delay_output_always}

-- ---- what holds of each packet that arrives holds of each that is worked on or leaves
abbrev EachInside : (Card → Type 0) → List Card → Type 0
EachInside P [] = Unit {0}
EachInside P (c ∷ cs) = P c × EachInside P cs

abbrev OfUnder : (Card → Type 0) → Option Under → Type 0
OfUnder P None = Unit {0}
OfUnder P (Some u) = P u.card

inside_push : (P : Card → Type 0) (cs : List Card) (d : Card) → EachInside P cs → P d → EachInside P (cs ++ d ∷ [])
inside_push P [] d h k = (k, tt)
inside_push P (c ∷ cs) d h k = (h.0, inside_push P cs d h.1 k)

inside_without : (P : Card → Type 0) (q : ℕ) (cs : List Card) → EachInside P cs → EachInside P (without_head q cs)
inside_without P q [] h = tt
inside_without P q (c ∷ cs) h = elim (cases_Bool (c.queue == q)) [
  | inl e ↦ rw e h.1
  | inr e ↦ rw e (h.0, inside_without P q cs h.1)
]

inside_head : (P : Card → Type 0) (q : ℕ) (c : Card) (cs : List Card) → head_of q cs ≡ Some c → EachInside P cs → P c
inside_head P q c [] e h = absurd (cc)
inside_head P q c (x ∷ cs) e h = elim (cases_Bool (x.queue == q)) [
  | inl f ↦ subst P (same_some x c (rw f at e)) h.0
  | inr f ↦ inside_head P q c cs (rw f at e) h.1
]

of_next : (P : Card → Type 0) (cards : List Card) (under : Option Under) (d : Discipline) (r : Round) (c : Card)
    → next_card under d cards r ≡ Some c → EachInside P cards → OfUnder P under → P c
of_next P cards None d r c e h k = inside_head P c.queue c cards (pick_is_head d cards r c e) h
of_next P cards (Some u) d r c e h k = subst P (same_some u.card c e) k

of_leaving : (P : Card → Type 0) (under : Option Under) (c : Card) (t : ℚ) → MayLeave under c t → OfUnder P under → P c
of_leaving P None c t m k = absurd m
of_leaving P (Some u) c t m k = subst P m.is_card k

seen_after : (P : Card → Type 0) (server : Server) (end : ℚ) (σ : ServerState) (V : List ServerStep)
    → AllAllowed server end σ V → EachInside P σ.inside → OfUnder P σ.under → EachArrival P V → EachCard P V
seen_after P server end σ [] a h k each = tt
seen_after P server end σ (Arrives c t ∷ V) a h k each = (
  each.0,
  seen_after P server end (next server.discipline σ (Arrives c t)) V a.1 (inside_push P σ.inside c h each.0) k each.1,
)
seen_after P server end σ (Works c b f w ∷ V) a h k each =
    let one = of_next P σ.inside σ.under server.discipline σ.round c a.0.1.is_next h k in
    (one, seen_after P server end (next server.discipline σ (Works c b f w)) V a.1 h one each)
seen_after P server end σ (Leaves c t ∷ V) a h k each = (
  of_leaving P σ.under c t a.0.1 k,
  seen_after P server end (next server.discipline σ (Leaves c t)) V a.1 (inside_without P c.queue σ.inside h) tt each,
)
seen_after P server end σ (Visits q t ∷ V) a h k each =
    seen_after P server end (next server.discipline σ (Visits q t)) V a.1 h k each

pub each_seen : (P : Card → Type 0) (server : Server) (end : ℚ) (V : List ServerStep) → IsLawfulView server end V
    → EachArrival P V → EachCard P V
each_seen P server end V lawful each =
    seen_after P server end (start server.discipline) V lawful.allowed tt tt each

-- ---- the class without what is of another queue, which does not arrive
pub same_and : (a b : Bool) → (b ≡ true → a ≡ true) → (a && b) ≡ b
same_and true b h = refl
same_and false false h = refl
same_and false true h = h refl

abbrev pub cut : Class → ℕ → Class
cut C q c = (c.queue == q) && C c

pub cut_queue : (C : Class) (q : ℕ) → IsAlwaysOfQueue (cut C q) q
cut_queue C q c e = eqb-true c.queue q (and_parts (c.queue == q) (C c) e).0

pub cut_agrees : (server : Server) (end : ℚ) (V : List ServerStep) (C : Class) (q : ℕ) → IsLawfulView server end V
    → IsOfQueue C q V → Agree (cut C q) C V
cut_agrees server end V C q lawful own =
    each_seen (λ c. cut C q c ≡ C c) server end V lawful
    (arrivals_map (λ c. C c ≡ true → c.queue ≡ q) (λ c. cut C q c ≡ C c)
    (λ c h. same_and (c.queue == q) (C c) (λ e. eq-eqb c.queue q (h e))) V own)

-- ---- a part of such a class
pub part_of_queue : (f Q : Class) (q : ℕ) (V : List ServerStep) → IsOfQueue Q q V → IsPart f Q V → IsOfQueue f q V
part_of_queue f Q q V own part =
    arrivals_map (λ c. (Q c ≡ true → c.queue ≡ q) × (f c ≡ true → Q c ≡ true)) (λ c. f c ≡ true → c.queue ≡ q)
    (λ c h e. h.0 (h.1 e)) V
    (arrivals_both (λ c. Q c ≡ true → c.queue ≡ q) (λ c. f c ≡ true → Q c ≡ true) V own part)

abbrev pub cut_part : Class → ℕ → Class → Class
cut_part Q q f c = cut Q q c && f c

pub cut_part_agrees : (server : Server) (end : ℚ) (V : List ServerStep) (Q f : Class) (q : ℕ)
    → IsLawfulView server end V → IsOfQueue Q q V → IsPart f Q V → Agree (cut_part Q q f) f V
cut_part_agrees server end V Q f q lawful own part =
    each_seen (λ c. cut_part Q q f c ≡ f c) server end V lawful
    (arrivals_map (λ c. (Q c ≡ true → c.queue ≡ q) × (f c ≡ true → Q c ≡ true)) (λ c. cut_part Q q f c ≡ f c)
    (λ c h. same_and (cut Q q c) (f c) (λ e. and_from (c.queue == q) (Q c) (eq-eqb c.queue q (h.0 (h.1 e))) (h.1 e))) V
    (arrivals_both (λ c. Q c ≡ true → c.queue ≡ q) (λ c. f c ≡ true → Q c ≡ true) V own part))

-- ---- two parts of one class
pub split_parts : (Q f : Class) → AreAlwaysParts Q (λ c. Q c && f c) (λ c. Q c && not (f c))
split_parts Q f = record { of_one = λ c. one (Q c) (f c); apart = λ c. two (Q c) (f c) }
  where
    one : (a b : Bool) → a ≡ ((a && b) || (a && not b))
    one true true = refl
    one true false = refl
    one false b = refl

    two : (a b : Bool) → ((a && b) && (a && not b)) ≡ false
    two true true = refl
    two true false = refl
    two false b = refl

pub first_is_part : (Q f g : Class) (V : List ServerStep) → AreParts Q f g V → IsPart f Q V
first_is_part Q f g V parts =
    arrivals_map (λ c. Q c ≡ (f c || g c)) (λ c. f c ≡ true → Q c ≡ true) (λ c h e. h ∙ rw e) V parts.of_one

abbrev pub cut_other : Class → ℕ → Class → Class
cut_other Q q f c = cut Q q c && not (f c)

other_is : (e Q f g : Bool) → Q ≡ (f || g) → (f && g) ≡ false → (Q ≡ true → e ≡ true) → ((e && Q) && not f) ≡ g
other_is e Q true true h a k = absurd (cc)
other_is e Q true false h a k = and_right (e && Q) false refl
other_is e Q false true h a k = rw (k h, h) refl
other_is e Q false false h a k = rw (h, and_right e false refl) refl

pub cut_other_agrees : (server : Server) (end : ℚ) (V : List ServerStep) (Q f g : Class) (q : ℕ)
    → IsLawfulView server end V → IsOfQueue Q q V → AreParts Q f g V → Agree (cut_other Q q f) g V
cut_other_agrees server end V Q f g q lawful own parts =
    each_seen (λ c. cut_other Q q f c ≡ g c) server end V lawful
    (arrivals_map (λ c. (Q c ≡ true → c.queue ≡ q) × ((Q c ≡ (f c || g c)) × ((f c && g c) ≡ false)))
    (λ c. cut_other Q q f c ≡ g c)
    (λ c h. other_is (c.queue == q) (Q c) (f c) (g c) h.1.0 h.1.1 (λ e. eq-eqb c.queue q (h.0 e))) V
    (arrivals_both (λ c. Q c ≡ true → c.queue ≡ q) (λ c. (Q c ≡ (f c || g c)) × ((f c && g c) ≡ false)) V own
    (arrivals_both (λ c. Q c ≡ (f c || g c)) (λ c. (f c && g c) ≡ false) V parts.of_one parts.apart)))

-- ---- the laws
pub delay_from_wait : (server : Server) (end : ℚ) (V : List ServerStep) (C : Class) (q : ℕ) (α β : ℚ → Ext) (d : ℚ)
    → IsLawfulView server end V → IsOfQueue C q V → KeepsArrivals C α V → Serves C β end V → int (pos 0) ≤ℚ d
    → IsReachedAfter α β d → AreAtMost (Fin d) (hop_delays C end V)
delay_from_wait server end V C q α β d lawful own keeps serves on reached =
    let same = cut_agrees server end V C q lawful own in
    let back = agree_back (cut C q) C V same in
    subst (AreAtMost (Fin d)) (same_delays (cut C q) C end V same)
    (each_delay server end V [] V (cut C q) q α β d lawful refl (cut_queue C q) (serves_same C (cut C q) β end V back serves)
    (keeps_same C (cut C q) α V back keeps) on reached)

pub delay_from_service : (server : Server) (end : ℚ) (V : List ServerStep) (C : Class) (q : ℕ) (α β : ℚ → Ext)
    (delay : Ext) → IsLawfulView server end V → IsOfQueue C q V → KeepsArrivals C α V → Serves C β end V
    → IsRising β → IsHorizontalDeviation α β delay → AreAtMost delay (hop_delays C end V)
delay_from_service server end V C q α β Inf lawful own keeps serves rises dev = none_above_infinity (hop_delays C end V)
delay_from_service server end V C q α β (Fin d) lawful own keeps serves rises dev =
    delay_from_wait server end V C q α β d lawful own keeps serves (deviation_nonneg α β d dev)
    (within_deviation α β d rises dev)

pub part_output_from_service : (server : Server) (end : ℚ) (V : List ServerStep) (Q f : Class) (q : ℕ)
    (α β own : ℚ → Ext) (d : Ext) (s t : ℚ) → IsLawfulView server end V → IsOfQueue Q q V → IsPart f Q V
    → KeepsArrivals Q α V → KeepsArrivals f own V → Serves Q β end V → IsRising β → IsHorizontalDeviation α β d
    → s ≤ℚ t → Fin (departed_in f V s t) ≤ₑ shifted own d (t -ℚ s)
part_output_from_service server end V Q f q α β own d s t lawful of_q part keeps keeps_own serves rises dev l =
    let whole = agree_back (cut Q q) Q V (cut_agrees server end V Q q lawful of_q) in
    let same = cut_part_agrees server end V Q f q lawful of_q part in
    let back = agree_back (cut_part Q q f) f V same in
    subst (λ (x : ℚ). Fin x ≤ₑ shifted own d (t -ℚ s)) (same_departed_in (cut_part Q q f) f V s t same)
    (part_output_always server end V (cut Q q) (cut_part Q q f) q α β own d s t lawful (cut_queue Q q)
    (λ c e. (and_parts (cut Q q c) (f c) e).0)
    (keeps_same Q (cut Q q) α V whole keeps) (keeps_same f (cut_part Q q f) own V back keeps_own)
    (serves_same Q (cut Q q) β end V whole serves) rises dev l)

pub output_from_delay : (server : Server) (end : ℚ) (V : List ServerStep) (C : Class) (q : ℕ) (α : ℚ → Ext) (d : Ext)
    (s t : ℚ) → IsLawfulView server end V → NoneTwice V → IsOfQueue C q V → KeepsArrivals C α V
    → Fin (int (pos 0)) ≤ₑ d → AreAtMost d (hop_delays C end V) → s ≤ℚ t
    → Fin (departed_in C V s t) ≤ₑ shifted α d (t -ℚ s)
output_from_delay server end V C q α d s t lawful twice own keeps on most l =
    let same = cut_agrees server end V C q lawful own in
    subst (λ (x : ℚ). Fin x ≤ₑ shifted α d (t -ℚ s)) (same_departed_in (cut C q) C V s t same)
    (delay_output_always server end V (cut C q) q α d s t lawful twice (cut_queue C q)
    (keeps_same C (cut C q) α V (agree_back (cut C q) C V same) keeps) on
    (subst (AreAtMost d) (sym (same_delays (cut C q) C end V same)) most) l)

-- ---- a flow at a server
own_queue : (net : Routes) (i s : ℕ) (c : Card) → IsInOwnQueue net s c → of_flow i c ≡ true
    → c.queue ≡ queue_at s (route_of net i).hops
own_queue net i s c own e = own ∙ ap (λ (j : ℕ). queue_at s (route_of net j).hops) (eqb-true c.flow i e)

pub flow_of_queue : (net : Routes) (run : SpecRun) (i s : ℕ)
    → IsOfQueue (of_flow i) (queue_at s (route_of net i).hops) (view net run s)
flow_of_queue net run i s =
    arrivals_map (IsInOwnQueue net s) (λ c. of_flow i c ≡ true → c.queue ≡ queue_at s (route_of net i).hops)
    (λ c own e. own_queue net i s c own e) (view net run s)
    (arriving_cards (IsInOwnQueue net s) (view net run s) (in_own_queues net run s))

pub flow_is_part : (net : Routes) (run : SpecRun) (i s : ℕ)
    → IsPart (of_flow i) (of_queue (queue_at s (route_of net i).hops)) (view net run s)
flow_is_part net run i s =
    arrivals_map (λ c. of_flow i c ≡ true → c.queue ≡ queue_at s (route_of net i).hops)
    (λ c. of_flow i c ≡ true → of_queue (queue_at s (route_of net i).hops) c ≡ true)
    (λ c h e. eq-eqb c.queue (queue_at s (route_of net i).hops) (h e)) (view net run s) (flow_of_queue net run i s)
