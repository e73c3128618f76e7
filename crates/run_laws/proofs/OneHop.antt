-- A packet of a flow of one hop: its delay is its delay there, and the link.
use Rattle.std.specs.Prelude.{◌≡◌, ℕ, pos, ◌==◌, true, List, [], ◌∷◌, ◌++◌, length}
use Rattle.std.proofs.Common.{arith, sym, ap, ◌∙◌, refl, inl, inr, subst}
use Rattle.std.proofs.lemmas.Bool.{cases_Bool, eqb-true, eq-eqb}
use Rattle.rational.specs.Rational.{ℚ, int, ◌+ℚ◌, ◌-ℚ◌, ◌≤ℚ◌}
use Rattle.rational.specs.Extended.{Ext, ◌≤ₑ◌, ◌+ₑ◌}
use Rattle.rational.specs.declared.Extended.TheVariants.{Fin, Inf}
use Rattle.rational.proofs.Laws.{le_refl}
use Rattle.rational.proofs.Linear.{with2, with5}
use Rattle.run_laws.specs.declared.steps.Step.{Step}
use Rattle.run_laws.specs.declared.steps.Step.TheVariants.{Enter, Reach, Work, Leave, Visit}
use Rattle.run_laws.specs.Cards.{Class, of_queue}
use Rattle.run_laws.specs.Delays.{gone_at, kept, hop_delays, AreAtMost}
use Rattle.run_laws.specs.FlowDelays.{delivered_at, delays_from}
use Rattle.run_laws.specs.Routes.{Hop, Routes, route_of, link_at, queue_at, first_server, last_server}
use Rattle.run_laws.specs.Bounds.{IsOneHop}
use Rattle.run_laws.specs.Views.{Entry, hops_of, card_of, entered_after, server_of, seen, view_from}
use Rattle.run_laws.specs.Lawful.{RunState, next_run, AllAllowedInRun}
use Rattle.run_laws.proofs.Delay.{kept_most, kept_first, kept_rest}
use Rattle.run_laws.proofs.Entries.{entry_last, queue_of_hop}

-- ---- where the packet leaves its server, it is delivered a link later
pub gone_other : (net : Routes) (end : ℚ) (s p : ℕ) (entered : List Entry) (x : Step) (xs : List Step)
    → gone_at end p (seen net entered x ∷ view_from net s (entered_after entered x) xs) ≡ gone_at end p (view_from net s (entered_after entered x) xs)
    → gone_at end p (view_from net s entered (x ∷ xs)) ≡ gone_at end p (view_from net s (entered_after entered x) xs)
gone_other net end s p entered x xs h = elim (cases_Bool (server_of net x == s)) [
  | inl e ↦ rw e h
  | inr e ↦ rw e refl
]

pub delivered_most : (net : Routes) (end : ℚ) (s p : ℕ) (entered : List Entry) (xs : List Step) → int (pos 0) ≤ℚ link_at net s
    → delivered_at net end s p xs ≤ℚ gone_at end p (view_from net s entered xs) +ℚ link_at net s
delivered_most net end s p entered [] h = with2 end (link_at net s) (λ c. omega (arith, c.le, c.lt, c.same))
delivered_most net end s p entered (Enter f q t b ∷ xs) h = rw (gone_other net end s p entered (Enter f q t b) xs refl) (delivered_most net end s p (entered_after entered (Enter f q t b)) xs h)
delivered_most net end s p entered (Reach r q t ∷ xs) h = rw (gone_other net end s p entered (Reach r q t) xs refl) (delivered_most net end s p entered xs h)
delivered_most net end s p entered (Work r q a b w ∷ xs) h = rw (gone_other net end s p entered (Work r q a b w) xs refl) (delivered_most net end s p entered xs h)
delivered_most net end s p entered (Visit r q t ∷ xs) h = rw (gone_other net end s p entered (Visit r q t) xs refl) (delivered_most net end s p entered xs h)
delivered_most net end s p entered (Leave r q t ∷ xs) h =
    let rest = delivered_most net end s p entered xs h in
    elim (cases_Bool (r == s)) [
      | inr e ↦ rw e rest
      | inl e ↦ elim (cases_Bool (q == p)) [
        | inl f ↦ rw (e, f) (le_refl (t +ℚ link_at net s))
        | inr f ↦ rw (e, f) rest
      ]
    ]

-- ---- so the delays of the flow are at most those at the server, and the link
later : (t gone delivered link : ℚ) (most : Ext) → delivered ≤ℚ gone +ℚ link → Fin (gone -ℚ t) ≤ₑ most
    → Fin (delivered -ℚ t) ≤ₑ (most +ₑ Fin link)
later t gone delivered link Inf h k = tt
later t gone delivered link (Fin most) h k = with5 t gone delivered link most (λ c. omega (arith, c.le, c.lt, c.same))

-- the rest of the steps
view_rest : (net : Routes) (end : ℚ) (s : ℕ) (entered : List Entry) (x : Step) (xs : List Step) (C : Class) (most : Ext)
    → AreAtMost most (hop_delays C end (view_from net s entered (x ∷ xs)))
    → AreAtMost most (hop_delays C end (view_from net s (entered_after entered x) xs))
view_rest net end s entered x xs C most h = elim (cases_Bool (server_of net x == s)) [
  | inl e ↦ seen_rest x (rw e at h)
  | inr e ↦ rw e at h
]
  where
    seen_rest : (y : Step) → AreAtMost most (hop_delays C end (seen net entered y ∷ view_from net s (entered_after entered x) xs))
        → AreAtMost most (hop_delays C end (view_from net s (entered_after entered x) xs))
    seen_rest (Enter f p t b) k = kept_rest _ _ _ most k
    seen_rest (Reach r p t) k = kept_rest _ _ _ most k
    seen_rest (Work r p a b w) k = k
    seen_rest (Leave r p t) k = k
    seen_rest (Visit r q t) k = k

entering : (net : Routes) (end : ℚ) (r : RunState) (i s q p b : ℕ) (t : ℚ) (xs : List Step) (most : Ext) → IsOneHop net i s q
    → p ≡ length r.entered
    → AreAtMost most (hop_delays (of_queue q) end (view_from net s r.entered (Enter i p t b ∷ xs)))
    → Fin (delivered_at net end (last_server (route_of net i).hops) p xs -ℚ t) ≤ₑ (most +ₑ Fin (link_at net s))
entering net end r i s q p b t xs most hop turn h =
    let e : Entry = record { flow = i; bits = b } in
    let first : first_server (route_of net i).hops ≡ s = ap first_server hop.path in
    let last : last_server (route_of net i).hops ≡ s = ap last_server hop.path in
    let here : (first_server (route_of net i).hops == s) ≡ true = eq-eqb (first_server (route_of net i).hops) s first in
    let V = view_from net s (r.entered ++ e ∷ []) xs in
    let c = card_of net (r.entered ++ e ∷ []) p (first_server (route_of net i).hops) in
    let k : AreAtMost most (kept (of_queue q c) (gone_at end p V -ℚ t) (hop_delays (of_queue q) end V)) = rw here at h in
    let its_queue : queue_at (first_server (route_of net i).hops) (hops_of net (r.entered ++ e ∷ []) p) ≡ q =
    ap (λ (y : Entry). queue_at (first_server (route_of net i).hops) (route_of net y.flow).hops) (entry_last r.entered e p turn)
    ∙ ap (λ (hs : List Hop). queue_at (first_server hs) hs) hop.path
    ∙ queue_of_hop s q in
    let own : of_queue q c ≡ true = eq-eqb _ q its_queue in
    let gone = kept_first (of_queue q c) (gone_at end p V -ℚ t) (hop_delays (of_queue q) end V) most own k in
    rw last (later t (gone_at end p V) (delivered_at net end s p xs) (link_at net s) most (delivered_most net end s p (r.entered ++ e ∷ []) xs hop.link_on) gone)

pub one_hop_delays : (net : Routes) (end : ℚ) (r : RunState) (xs : List Step) (i s q : ℕ) (most : Ext) → IsOneHop net i s q
    → AllAllowedInRun net end r xs
    → AreAtMost most (hop_delays (of_queue q) end (view_from net s r.entered xs))
    → AreAtMost (most +ₑ Fin (link_at net s)) (delays_from net i end xs)
one_hop_delays net end r [] i s q most hop a h = tt
one_hop_delays net end r (Enter f p t b ∷ xs) i s q most hop a h =
    kept_most (f == i) (delivered_at net end (last_server (route_of net f).hops) p xs -ℚ t) (delays_from net i end xs) (most +ₑ Fin (link_at net s))
    (λ e.
    let same : f ≡ i = eqb-true f i e in
    subst (λ (j : ℕ). Fin (delivered_at net end (last_server (route_of net j).hops) p xs -ℚ t) ≤ₑ (most +ₑ Fin (link_at net s))) (sym same)
    (entering net end r i s q p b t xs most hop a.0.known.in_turn (subst (λ (j : ℕ). AreAtMost most (hop_delays (of_queue q) end (view_from net s r.entered (Enter j p t b ∷ xs)))) same h)))
    (one_hop_delays net end (next_run net r (Enter f p t b)) xs i s q most hop a.1 (view_rest net end s r.entered (Enter f p t b) xs (of_queue q) most h))
one_hop_delays net end r (Reach m p t ∷ xs) i s q most hop a h = one_hop_delays net end (next_run net r (Reach m p t)) xs i s q most hop a.1 (view_rest net end s r.entered (Reach m p t) xs (of_queue q) most h)
one_hop_delays net end r (Work m p c b w ∷ xs) i s q most hop a h = one_hop_delays net end (next_run net r (Work m p c b w)) xs i s q most hop a.1 (view_rest net end s r.entered (Work m p c b w) xs (of_queue q) most h)
one_hop_delays net end r (Leave m p t ∷ xs) i s q most hop a h = one_hop_delays net end (next_run net r (Leave m p t)) xs i s q most hop a.1 (view_rest net end s r.entered (Leave m p t) xs (of_queue q) most h)
one_hop_delays net end r (Visit m p t ∷ xs) i s q most hop a h = one_hop_delays net end (next_run net r (Visit m p t)) xs i s q most hop a.1 (view_rest net end s r.entered (Visit m p t) xs (of_queue q) most h)
