-- Packets that have entered, and packets that are due at a server.
use Rattle.std.specs.Prelude.{Option, Some, None, true, ◌≡◌, ◌<◌, ℕ, zero, suc, ◌==◌, List, [], ◌∷◌, ◌++◌, length, slice_index_or}
use Rattle.std.proofs.Common.{arith, sym, ap, ◌∙◌, refl, inl, inr, subst}
use Rattle.std.proofs.lemmas.Bool.{cases_Bool, eq-eqb}
use Rattle.rational.specs.Rational.{ℚ, ◌+ℚ◌}
use Rattle.run_laws.specs.declared.steps.Step.{Step}
use Rattle.run_laws.specs.declared.steps.Step.TheVariants.{Enter, Reach, Work, Leave, Visit}
use Rattle.run_laws.specs.Routes.{Hop, Routes, route_of, link_at, queue_at, PassesServer, first_of, server_after}
use Rattle.run_laws.specs.Views.{Entry, entry_of, hops_of, entered_after}
use Rattle.run_laws.specs.Lawful.{Due, RunState, same_due, without, sent, next_due, IsKnown}
use Rattle.rational.proofs.Over.{le_q_out}
use Rattle.rational.proofs.Laws.{le_refl}

-- ---- a packet that is due
pub same_due_self : (d : Due) → same_due d d ≡ true
same_due_self d = rw (eq-eqb d.packet d.packet refl, eq-eqb d.server d.server refl, le_q_out d.time d.time (le_refl d.time)) refl

-- ---- the list of those that have entered
pub entry_before : (entered : List Entry) (e : Entry) (p : ℕ) → p < length entered → entry_of (entered ++ e ∷ []) p ≡ entry_of entered p
entry_before [] e p h = absurd (omega arith)
entry_before (x ∷ xs) e zero h = refl
entry_before (x ∷ xs) e (suc p) h = entry_before xs e p (omega arith)

pub entry_last : (entered : List Entry) (e : Entry) (p : ℕ) → p ≡ length entered → entry_of (entered ++ e ∷ []) p ≡ e
entry_last entered e p h = subst (λ (k : ℕ). entry_of (entered ++ e ∷ []) k ≡ e) (sym h) (at_end entered e)
  where
    at_end : (entered : List Entry) (e : Entry) → entry_of (entered ++ e ∷ []) (length entered) ≡ e
    at_end [] e = refl
    at_end (x ∷ xs) e = at_end xs e

pub one_more : (entered : List Entry) (e : Entry) → length (entered ++ e ∷ []) ≡ suc (length entered)
one_more [] e = refl
one_more (x ∷ xs) e = ap suc (one_more xs e)

-- ---- of each packet that is due
abbrev pub EachDue : (Due → Type 0) → List Due → Type 0
EachDue P [] = Unit {0}
EachDue P (d ∷ ds) = P d × EachDue P ds

pub each_due_map : (P Q : Due → Type 0) → ((d : Due) → P d → Q d) → (ds : List Due) → EachDue P ds → EachDue Q ds
each_due_map P Q f [] h = tt
each_due_map P Q f (d ∷ ds) h = (f d h.0, each_due_map P Q f ds h.1)

pub each_due_push : (P : Due → Type 0) (ds : List Due) (d : Due) → EachDue P ds → P d → EachDue P (ds ++ d ∷ [])
each_due_push P [] d h k = (k, tt)
each_due_push P (c ∷ ds) d h k = (h.0, each_due_push P ds d h.1 k)

pub each_due_without : (P : Due → Type 0) (ds : List Due) (d : Due) → EachDue P ds → EachDue P (without d ds)
each_due_without P [] d h = tt
each_due_without P (c ∷ ds) d h = elim (cases_Bool (same_due d c)) [
  | inl e ↦ rw e h.1
  | inr e ↦ rw e (h.0, each_due_without P ds d h.1)
]

pub each_due_at : (P : Due → Type 0) (ds : List Due) (d : Due) (k : ℕ) → EachDue P ds → k < length ds → slice_index_or ds k d ≡ d → P d
each_due_at P [] d k h l e = absurd (omega arith)
each_due_at P (c ∷ ds) d zero h l e = subst P e h.0
each_due_at P (c ∷ ds) d (suc k) h l e = each_due_at P ds d k h.1 (omega arith) e

-- ---- a packet is due at the server after one of its path
pub record IsDueAfter (net : Routes) (entered : List Entry) (d : Due) : Type 0 where
  pub has_entered : d.packet < length entered
  pub left : ℕ
  pub next : server_after left (hops_of net entered d.packet) ≡ Some d.server

pub due_more : (net : Routes) (entered : List Entry) (e : Entry) (d : Due) → IsDueAfter net entered d → IsDueAfter net (entered ++ e ∷ []) d
due_more net entered e d h =
    let k = h.has_entered in
    let m = one_more entered e in
    record {
      has_entered = omega arith;
      left = h.left;
      next = ap (λ (x : Entry). server_after h.left (route_of net x.flow).hops) (entry_before entered e d.packet k) ∙ h.next;
    }

due_sent : (net : Routes) (entered : List Entry) (s p : ℕ) (t : ℚ) (ds : List Due) (next : Option ℕ) → p < length entered
    → server_after s (hops_of net entered p) ≡ next
    → EachDue (IsDueAfter net entered) ds → EachDue (IsDueAfter net entered) (sent next p t ds)
due_sent net entered s p t ds None l e h = h
due_sent net entered s p t ds (Some r) l e h =
    each_due_push (IsDueAfter net entered) ds record { packet = p; server = r; time = t } h record { has_entered = l; left = s; next = e }

pub due_next : (net : Routes) (r : RunState) (x : Step) → IsKnown net r x → EachDue (IsDueAfter net r.entered) r.due
    → EachDue (IsDueAfter net (entered_after r.entered x)) (next_due net r x)
due_next net r (Enter f p t b) k h = each_due_map (IsDueAfter net r.entered) (IsDueAfter net (r.entered ++ record { flow = f; bits = b } ∷ [])) (due_more net r.entered record { flow = f; bits = b }) r.due h
due_next net r (Reach s p t) k h = each_due_without (IsDueAfter net r.entered) r.due record { packet = p; server = s; time = t } h
due_next net r (Work s p a b w) k h = h
due_next net r (Leave s p t) k h = due_sent net r.entered s p (t +ℚ link_at net s) r.due (server_after s (hops_of net r.entered p)) k.has_entered refl h
due_next net r (Visit s q t) k h = h

-- a server after another is one of the path
pub passes_first : (s : ℕ) (hs : List Hop) → first_of hs ≡ Some s → PassesServer s hs
passes_first s [] h = absurd (cc)
passes_first s (x ∷ hs) h = inl (same x.server s h)
  where
    same : (a b : ℕ) → Some a ≡ Some b → a ≡ b
    same a b e = cc

pub passes_next : (a s : ℕ) (hs : List Hop) → server_after a hs ≡ Some s → PassesServer s hs
passes_next a s [] h = absurd (cc)
passes_next a s (x ∷ hs) h = elim (cases_Bool (x.server == a)) [
  | inl e ↦ inr (passes_first s hs (rw e at h))
  | inr e ↦ inr (passes_next a s hs (rw e at h))
]

-- the queue of a path of one hop
pub queue_of_hop : (s q : ℕ) → queue_at s (record { server = s; queue = q } ∷ []) ≡ q
queue_of_hop s q = rw (eq-eqb s s refl) refl
