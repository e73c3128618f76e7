-- Packets that are due are due at a server that comes after another.
use Rattle.std.specs.Prelude.{◌<◌, ◌≤◌, ℕ, List, [], ◌∷◌, ◌++◌, length, ◌≡◌, true}
use Rattle.std.proofs.Common.{arith, sym, refl, subst, ap, ◌∙◌, inl, inr}
use Rattle.std.proofs.lemmas.Bool.{eq-eqb, cases_eq}
use Rattle.rational.specs.Rational.{ℚ, ◌+ℚ◌}
use Rattle.run_laws.specs.declared.steps.Step.{Step}
use Rattle.run_laws.specs.declared.steps.Step.TheVariants.{Enter, Reach, Work, Leave, Visit}
use Rattle.run_laws.specs.Rounds.{count_of}
use Rattle.run_laws.specs.Routes.{Routes, link_at, route_of}
use Rattle.run_laws.specs.Views.{Entry, entry_of, entered_after}
use Rattle.run_laws.specs.Lawful.{Due, RunState, IsKnown}
use Rattle.run_laws.proofs.Entries.{entry_before, one_more, EachDue, each_due_map, each_due_push, each_due_without, entry_last}
use Rattle.net_laws.specs.Multicast.{NextServers, sent_to, next_due_by, next_run_by}

pub record IsDueBy (to : NextServers) (entered : List Entry) (d : Due) : Type 0 where
  pub has_entered : d.packet < length entered
  pub left : ℕ
  pub next : 1 ≤ count_of d.server (to (entry_of entered d.packet).flow left)

due_more : (to : NextServers) (entered : List Entry) (e : Entry) (d : Due) → IsDueBy to entered d → IsDueBy to (entered ++ e ∷ []) d
due_more to entered e d h =
    let k = h.has_entered in
    let m = one_more entered e in
    record {
      has_entered = omega arith;
      left = h.left;
      next = subst (λ (x : Entry). 1 ≤ count_of d.server (to x.flow h.left)) (sym (entry_before entered e d.packet k)) h.next;
    }

due_sent_to : (to : NextServers) (entered : List Entry) (s p : ℕ) (t : ℚ) (ss : List ℕ) (ds : List Due) → p < length entered
    → ((b : ℕ) → 1 ≤ count_of b ss → 1 ≤ count_of b (to (entry_of entered p).flow s))
    → EachDue (IsDueBy to entered) ds → EachDue (IsDueBy to entered) (sent_to ss p t ds)
due_sent_to to entered s p t [] ds l f h = h
due_sent_to to entered s p t (y ∷ ss) ds l f h =
    let d : Due = record { packet = p; server = y; time = t } in
    let one : 1 ≤ count_of y (y ∷ ss) = rw (eq-eqb y y refl) (omega arith) in
    due_sent_to to entered s p t ss (ds ++ d ∷ []) l (λ b k. f b (omega (arith, k)))
    (each_due_push (IsDueBy to entered) ds d h record { has_entered = l; left = s; next = f y one })

pub due_next_by : (net : Routes) (to : NextServers) (r : RunState) (x : Step) → IsKnown net r x → EachDue (IsDueBy to r.entered) r.due
    → EachDue (IsDueBy to (entered_after r.entered x)) (next_due_by net to r x)
due_next_by net to r (Enter f p t b) k h = each_due_map (IsDueBy to r.entered) (IsDueBy to (r.entered ++ record { flow = f; bits = b } ∷ [])) (due_more to r.entered record { flow = f; bits = b }) r.due h
due_next_by net to r (Reach s p t) k h = each_due_without (IsDueBy to r.entered) r.due record { packet = p; server = s; time = t } h
due_next_by net to r (Work s p a b w) k h = h
due_next_by net to r (Leave s p t) k h = due_sent_to to r.entered s p (t +ℚ link_at net s) (to (entry_of r.entered p).flow s) r.due k.has_entered (λ b l. l) h
due_next_by net to r (Visit s q t) k h = h

-- ---- a packet that has entered
pub record Knows (r : RunState) (p : ℕ) (e : Entry) : Type 0 where
  pub has_entered : p < length r.entered
  pub is : entry_of r.entered p ≡ e

-- ---- a packet that has entered stays known
pub knows_next_by : (net : Routes) (to : NextServers) (r : RunState) (x : Step) (p : ℕ) (e : Entry) → Knows r p e → Knows (next_run_by net to r x) p e
knows_next_by net to r (Enter f q t b) p e k =
    let h = k.has_entered in
    let m = one_more r.entered record { flow = f; bits = b } in
    record { has_entered = omega arith; is = entry_before r.entered record { flow = f; bits = b } p k.has_entered ∙ k.is }
knows_next_by net to r (Reach s q t) p e k = record { has_entered = k.has_entered; is = k.is }
knows_next_by net to r (Work s q a b w) p e k = record { has_entered = k.has_entered; is = k.is }
knows_next_by net to r (Leave s q t) p e k = record { has_entered = k.has_entered; is = k.is }
knows_next_by net to r (Visit s q t) p e k = record { has_entered = k.has_entered; is = k.is }

-- ---- packets that have entered are of live flows
abbrev pub AreLive : Routes → List Entry → Type 0
AreLive net entered = (p : ℕ) → p < length entered → (route_of net (entry_of entered p).flow).live ≡ true

pub live_next : (net : Routes) (r : RunState) (x : Step) → IsKnown net r x → AreLive net r.entered
    → AreLive net (entered_after r.entered x)
live_next net r (Enter f q t b) known h p l =
    let e : Entry = record { flow = f; bits = b } in
    let m = one_more r.entered e in
    elim (cases_eq p (length r.entered)) [
      | inl g ↦ ap (λ (y : Entry). (route_of net y.flow).live) (entry_last r.entered e p g) ∙ known.is_live
      | inr g ↦
          let less : p < length r.entered = omega arith in
          ap (λ (y : Entry). (route_of net y.flow).live) (entry_before r.entered e p less) ∙ h p less
    ]
live_next net r (Reach s q t) known h p l = h p l
live_next net r (Work s q a b w) known h p l = h p l
live_next net r (Leave s q t) known h p l = h p l
live_next net r (Visit s q t) known h p l = h p l
