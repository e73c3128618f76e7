-- At its first server a flow arrives as it enters.
use Rattle.std.specs.Prelude.{Some, ◌≡◌, ℕ, pos, ◌==◌, Bool, true, false, ◌&&◌, List, [], ◌∷◌}
use Rattle.std.proofs.Common.{arith, sym, ap, ◌∙◌, refl, inl, inr, subst}
use Rattle.std.proofs.lemmas.Bool.{cases_Bool, cases_eq, eq-eqb, ne_eqb, and_left}
use Rattle.rational.specs.Rational.{ℚ, int, ◌+ℚ◌, ◌-ℚ◌, ◌≤ℚ◌}
use Rattle.rational.specs.Extended.{Ext, ◌≤ₑ◌}
use Rattle.rational.specs.declared.Extended.TheVariants.{Fin}
use Rattle.rational.proofs.Linear.{with1}
use Rattle.run_laws.specs.declared.steps.Step.{Step}
use Rattle.run_laws.specs.declared.steps.Step.TheVariants.{Enter, Reach, Work, Leave, Visit}
use Rattle.run_laws.specs.Runs.{SpecRun}
use Rattle.run_laws.specs.Cards.{whole, of_flow, ServerStep}
use Rattle.run_laws.specs.Counts.{when, total, arrives, within}
use Rattle.run_laws.specs.Premises.{KeepsArrivals}
use Rattle.run_laws.specs.Routes.{Routes, route_of, first_server, server_after}
use Rattle.run_laws.specs.Views.{Entry, entry_of, entered_after, server_of, seen, view_from, view}
use Rattle.run_laws.specs.Lawful.{RunState, next_run, AllAllowedInRun, run_start, IsKnown, IsLawful}
use Rattle.run_laws.specs.Bounds.{BeginsAt}
use Rattle.run_laws.specs.RunPremises.{enters, entered_in}
use Rattle.run_laws.proofs.Sums.{when_true, when_false, when_none}
use Rattle.run_laws.proofs.Entries.{entry_last, EachDue, each_due_at, IsDueAfter, due_next}

-- ---- what a step adds to a sum over the steps of a server
pub at_server : (f : ServerStep → ℚ) (net : Routes) (s : ℕ) (entered : List Entry) (x : Step) (xs : List Step)
    → total f (view_from net s entered (x ∷ xs)) ≡ when (server_of net x == s) (f (seen net entered x)) +ℚ total f (view_from net s (entered_after entered x) xs)
at_server f net s entered x xs = elim (cases_Bool (server_of net x == s)) [
  | inl e ↦ rw (e, when_true true (f (seen net entered x)) refl) refl
  | inr e ↦ rw (e, when_false false (f (seen net entered x)) refl) (with1 (total f (view_from net s (entered_after entered x) xs)) (λ c. omega (arith, c.le, c.lt, c.same)))
]

abbrev pub enters_one : ℕ → (ℚ → Bool) → Step → ℚ
enters_one i p (Enter f q t b) = when ((f == i) && p t) (whole b)
enters_one i p (Reach s q t) = int (pos 0)
enters_one i p (Work s q a b w) = int (pos 0)
enters_one i p (Leave s q t) = int (pos 0)
enters_one i p (Visit s q t) = int (pos 0)

enter_adds : (i f s t0 : ℕ) (first : ℕ) (p : Bool) (v : ℚ) → (f ≡ i → first ≡ s)
    → when (first == s) (when ((f == i) && p) v) ≡ when ((f == i) && p) v
enter_adds i f s t0 first p v h = elim (cases_eq f i) [
  | inl e ↦ when_true (first == s) _ (eq-eqb first s (h e))
  | inr e ↦ let no = when_false ((f == i) && p) v (and_left (f == i) p (ne_eqb f i e)) in rw no (when_none (first == s))
]

reach_adds : (net : Routes) (r : RunState) (i s r_s q : ℕ) (t : ℚ) (p : ℚ → Bool) → BeginsAt net i s
    → IsDueAfter net r.entered record { packet = q; server = r_s; time = t }
    → when (r_s == s) (when (((entry_of r.entered q).flow == i) && p t) (whole (entry_of r.entered q).bits)) ≡ int (pos 0)
reach_adds net r i s r_s q t p begins due = elim (cases_eq r_s s) [
  | inr e ↦ when_false (r_s == s) _ (ne_eqb r_s s e)
  | inl e ↦ elim (cases_eq (entry_of r.entered q).flow i) [
    | inr g ↦ let no = when_false (((entry_of r.entered q).flow == i) && p t) (whole (entry_of r.entered q).bits) (and_left ((entry_of r.entered q).flow == i) (p t) (ne_eqb (entry_of r.entered q).flow i g)) in rw no (when_none (r_s == s))
    | inl g ↦ absurd (begins.never_again due.left (sym (ap (λ (j : ℕ). server_after due.left (route_of net j).hops) g) ∙ due.next ∙ ap (λ (x : ℕ). Some x) e))
  ]
]

adds : (net : Routes) (r : RunState) (x : Step) (i s : ℕ) (p : ℚ → Bool) → BeginsAt net i s → IsKnown net r x
    → EachDue (IsDueAfter net r.entered) r.due
    → when (server_of net x == s) (arrives (of_flow i) p (seen net r.entered x)) ≡ enters_one i p x
adds net r (Enter f q t b) i s p begins k h =
    let e : Entry = record { flow = f; bits = b } in
    let last = entry_last r.entered e q k.in_turn in
    rw last (enter_adds i f s 0 (first_server (route_of net f).hops) (p t) (whole b) (λ g. subst (λ (j : ℕ). first_server (route_of net j).hops ≡ s) (sym g) begins.first))
adds net r (Reach r_s q t) i s p begins k h =
    let (n, l, e) = k in
    reach_adds net r i s r_s q t p begins (each_due_at (IsDueAfter net r.entered) r.due record { packet = q; server = r_s; time = t } n h l e)
adds net r (Work r_s q a b w) i s p begins k h = when_none (r_s == s)
adds net r (Leave r_s q t) i s p begins k h = when_none (r_s == s)
adds net r (Visit r_s q t) i s p begins k h = when_none (r_s == s)

pub enters_more : (i : ℕ) (p : ℚ → Bool) (x : Step) (xs : List Step) → enters i p (x ∷ xs) ≡ enters_one i p x +ℚ enters i p xs
enters_more i p (Enter f q t b) xs = refl
enters_more i p (Reach s q t) xs = with1 (enters i p xs) (λ c. omega (arith, c.le, c.lt, c.same))
enters_more i p (Work s q a b w) xs = with1 (enters i p xs) (λ c. omega (arith, c.le, c.lt, c.same))
enters_more i p (Leave s q t) xs = with1 (enters i p xs) (λ c. omega (arith, c.le, c.lt, c.same))
enters_more i p (Visit s q t) xs = with1 (enters i p xs) (λ c. omega (arith, c.le, c.lt, c.same))

arrive_as_enter : (net : Routes) (end : ℚ) (r : RunState) (xs : List Step) (i s : ℕ) (p : ℚ → Bool) → BeginsAt net i s
    → AllAllowedInRun net end r xs → EachDue (IsDueAfter net r.entered) r.due
    → total (arrives (of_flow i) p) (view_from net s r.entered xs) ≡ enters i p xs
arrive_as_enter net end r [] i s p begins a h = refl
arrive_as_enter net end r (x ∷ xs) i s p begins a h =
    let rest = arrive_as_enter net end (next_run net r x) xs i s p begins a.1 (due_next net r x a.0.known h) in
    let one = adds net r x i s p begins a.0.known h in
    at_server (arrives (of_flow i) p) net s r.entered x xs
    ∙ ap (λ (y : ℚ). y +ℚ total (arrives (of_flow i) p) (view_from net s (entered_after r.entered x) xs)) one
    ∙ ap (λ (y : ℚ). enters_one i p x +ℚ y) rest
    ∙ sym (enters_more i p x xs)

-- so it keeps there the curve with which it enters
pub first_hop_keeps : (net : Routes) (run : SpecRun) (i s : ℕ) (α : ℚ → Ext) → IsLawful net run → BeginsAt net i s
    → ((a b : ℚ) → a ≤ℚ b → Fin (entered_in i a b run.steps) ≤ₑ α (b -ℚ a)) → KeepsArrivals (of_flow i) α (view net run s)
first_hop_keeps net run i s α lawful begins keeps a b l =
    subst (λ (x : ℚ). Fin x ≤ₑ α (b -ℚ a)) (sym (arrive_as_enter net run.end (run_start net) run.steps i s (within a b) begins lawful.allowed tt)) (keeps a b l)
