-- The packets that a server sees have the queue that their flow has there; so a flow is a part of that queue.
use Rattle.std.specs.Prelude.{◌≡◌, ℕ, pos, ◌==◌, Bool, List, [], ◌∷◌}
use Rattle.std.proofs.Common.{sym, ap, ap₂, refl, inl, inr, subst}
use Rattle.std.proofs.lemmas.Bool.{cases_Bool, eqb-true}
use Rattle.rational.specs.Rational.{ℚ, int, ◌+ℚ◌, ◌-ℚ◌, ◌≤ℚ◌}
use Rattle.rational.specs.Extended.{Ext, ◌≤ₑ◌, ◌+ₑ◌}
use Rattle.rational.specs.declared.Extended.TheVariants.{Fin}
use Rattle.run_laws.specs.declared.steps.Step.{Step}
use Rattle.run_laws.specs.declared.steps.Step.TheVariants.{Enter, Reach, Work, Leave, Visit}
use Rattle.run_laws.specs.Runs.{SpecRun}
use Rattle.run_laws.specs.Cards.{Card, Class, ServerStep, Arrives, Works, Leaves, Visits}
use Rattle.run_laws.specs.Counts.{total, arrives, leaves, works, arrived, worked, departed, departed_in, before, within}
use Rattle.run_laws.specs.Premises.{EachArrival, KeepsArrivals}
use Rattle.run_laws.specs.Serves.{Serves}
use Rattle.run_laws.specs.Delays.{gone_at, kept, hop_delays}
use Rattle.run_laws.specs.Routes.{Routes, route_of, queue_at}
use Rattle.run_laws.specs.Views.{Entry, entered_after, server_of, seen, view_from, view}

-- ---- of each packet of a view
abbrev pub EachCard : (Card → Type 0) → List ServerStep → Type 0
EachCard P [] = Unit {0}
EachCard P (Arrives c t ∷ V) = P c × EachCard P V
EachCard P (Works c a b w ∷ V) = P c × EachCard P V
EachCard P (Leaves c t ∷ V) = P c × EachCard P V
EachCard P (Visits q t ∷ V) = EachCard P V

pub cards_map : (P Q : Card → Type 0) → ((c : Card) → P c → Q c) → (V : List ServerStep) → EachCard P V → EachCard Q V
cards_map P Q f [] h = tt
cards_map P Q f (Arrives c t ∷ V) h = (f c h.0, cards_map P Q f V h.1)
cards_map P Q f (Works c a b w ∷ V) h = (f c h.0, cards_map P Q f V h.1)
cards_map P Q f (Leaves c t ∷ V) h = (f c h.0, cards_map P Q f V h.1)
cards_map P Q f (Visits q t ∷ V) h = cards_map P Q f V h

pub arriving_cards : (P : Card → Type 0) → (V : List ServerStep) → EachCard P V → EachArrival P V
arriving_cards P [] h = tt
arriving_cards P (Arrives c t ∷ V) h = (h.0, arriving_cards P V h.1)
arriving_cards P (Works c a b w ∷ V) h = arriving_cards P V h.1
arriving_cards P (Leaves c t ∷ V) h = arriving_cards P V h.1
arriving_cards P (Visits q t ∷ V) h = arriving_cards P V h

-- its queue is the one that its flow has at server s
abbrev pub IsInOwnQueue : Routes → ℕ → Card → Type 0
IsInOwnQueue net s c = c.queue ≡ queue_at s (route_of net c.flow).hops

own_first : (net : Routes) (entered : List Entry) (x : Step) (V : List ServerStep)
    → EachCard (IsInOwnQueue net (server_of net x)) V
    → EachCard (IsInOwnQueue net (server_of net x)) (seen net entered x ∷ V)
own_first net entered (Enter f p t b) V h = (refl, h)
own_first net entered (Reach r p t) V h = (refl, h)
own_first net entered (Work r p a b w) V h = (refl, h)
own_first net entered (Leave r p t) V h = (refl, h)
own_first net entered (Visit r q t) V h = h

own_from : (net : Routes) (s : ℕ) (entered : List Entry) (xs : List Step)
    → EachCard (IsInOwnQueue net s) (view_from net s entered xs)
own_from net s entered [] = tt
own_from net s entered (x ∷ xs) =
    let V = view_from net s (entered_after entered x) xs in
    let rest = own_from net s (entered_after entered x) xs in
    elim (cases_Bool (server_of net x == s)) [
      | inl e ↦
          let here : server_of net x ≡ s = eqb-true (server_of net x) s e in
          rw e (subst (λ (k : ℕ). EachCard (IsInOwnQueue net k) (seen net entered x ∷ V)) here
          (own_first net entered x V (subst (λ (k : ℕ). EachCard (IsInOwnQueue net k) V) (sym here) rest)))
      | inr e ↦ rw e rest
    ]

pub in_own_queues : (net : Routes) (run : SpecRun) (s : ℕ) → EachCard (IsInOwnQueue net s) (view net run s)
in_own_queues net run s = own_from net s [] run.steps

-- ---- two classes that agree on the packets of a view
abbrev pub Agree : Class → Class → List ServerStep → Type 0
Agree C D V = EachCard (λ c. C c ≡ D c) V

pub agree_back : (C D : Class) (V : List ServerStep) → Agree C D V → Agree D C V
agree_back C D V h = cards_map (λ c. C c ≡ D c) (λ c. D c ≡ C c) (λ c e. sym e) V h

same_arrives : (C D : Class) (p : ℚ → Bool) (V : List ServerStep) → Agree C D V
    → total (arrives C p) V ≡ total (arrives D p) V
same_arrives C D p [] h = refl
same_arrives C D p (Arrives c t ∷ V) h = rw (h.0, same_arrives C D p V h.1) refl
same_arrives C D p (Works c a b w ∷ V) h = ap (λ (x : ℚ). int (pos 0) +ℚ x) (same_arrives C D p V h.1)
same_arrives C D p (Leaves c t ∷ V) h = ap (λ (x : ℚ). int (pos 0) +ℚ x) (same_arrives C D p V h.1)
same_arrives C D p (Visits q t ∷ V) h = ap (λ (x : ℚ). int (pos 0) +ℚ x) (same_arrives C D p V h)

same_leaves : (C D : Class) (p : ℚ → Bool) (V : List ServerStep) → Agree C D V
    → total (leaves C p) V ≡ total (leaves D p) V
same_leaves C D p [] h = refl
same_leaves C D p (Arrives c t ∷ V) h = ap (λ (x : ℚ). int (pos 0) +ℚ x) (same_leaves C D p V h.1)
same_leaves C D p (Works c a b w ∷ V) h = ap (λ (x : ℚ). int (pos 0) +ℚ x) (same_leaves C D p V h.1)
same_leaves C D p (Leaves c t ∷ V) h = rw (h.0, same_leaves C D p V h.1) refl
same_leaves C D p (Visits q t ∷ V) h = ap (λ (x : ℚ). int (pos 0) +ℚ x) (same_leaves C D p V h)

same_works : (C D : Class) (t : ℚ) (V : List ServerStep) → Agree C D V → total (works C t) V ≡ total (works D t) V
same_works C D t [] h = refl
same_works C D t (Arrives c u ∷ V) h = ap (λ (x : ℚ). int (pos 0) +ℚ x) (same_works C D t V h.1)
same_works C D t (Works c a b w ∷ V) h = rw (h.0, same_works C D t V h.1) refl
same_works C D t (Leaves c u ∷ V) h = ap (λ (x : ℚ). int (pos 0) +ℚ x) (same_works C D t V h.1)
same_works C D t (Visits q u ∷ V) h = ap (λ (x : ℚ). int (pos 0) +ℚ x) (same_works C D t V h)

pub same_departed_in : (C D : Class) (V : List ServerStep) (s t : ℚ) → Agree C D V
    → departed_in C V s t ≡ departed_in D V s t
same_departed_in C D V s t h = same_leaves C D (within s t) V h

pub keeps_same : (C D : Class) (α : ℚ → Ext) (V : List ServerStep) → Agree C D V → KeepsArrivals C α V
    → KeepsArrivals D α V
keeps_same C D α V h keeps s t l =
    subst (λ (x : ℚ). Fin x ≤ₑ α (t -ℚ s)) (same_arrives C D (within s t) V h) (keeps s t l)

pub serves_same : (C D : Class) (β : ℚ → Ext) (end : ℚ) (V : List ServerStep) → Agree C D V → Serves C β end V
    → Serves D β end V
serves_same C D β end V h serves t l =
    let (s, one) = serves t l in
    let came = same_arrives C D (before s) V h in
    let gone = same_leaves C D (before t) V h in
    let work = same_works C D t V h in (
      s,
      record {
        earlier = one.earlier;
        left = subst (λ (x : ℚ). x ≤ℚ departed D V t) came (subst (λ (y : ℚ). arrived C V s ≤ℚ y) gone one.left);
        kept_up = subst (λ (x : ℚ). (Fin x +ₑ β (t -ℚ s)) ≤ₑ Fin (worked D V t)) came
            (subst (λ (y : ℚ). (Fin (arrived C V s) +ₑ β (t -ℚ s)) ≤ₑ Fin y) work one.kept_up);
      },
    )

pub same_delays : (C D : Class) (end : ℚ) (V : List ServerStep) → Agree C D V → hop_delays C end V ≡ hop_delays D end V
same_delays C D end [] h = refl
same_delays C D end (Arrives c t ∷ V) h =
    ap₂ (λ (b : Bool) (ds : List ℚ). kept b (gone_at end c.packet V -ℚ t) ds) h.0 (same_delays C D end V h.1)
same_delays C D end (Works c a b w ∷ V) h = same_delays C D end V h.1
same_delays C D end (Leaves c t ∷ V) h = same_delays C D end V h.1
same_delays C D end (Visits q t ∷ V) h = same_delays C D end V h
