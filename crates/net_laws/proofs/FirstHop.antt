-- At its first server a flow arrives as it enters.
use Rattle.std.specs.Prelude.{◌≡◌, ℕ, pos, ◌==◌, Bool, ◌&&◌, ◌≤◌, List, [], ◌∷◌}
use Rattle.std.proofs.Common.{arith, sym, ap, ◌∙◌, refl, inl, inr, subst}
use Rattle.std.proofs.lemmas.Bool.{cases_eq, eq-eqb, ne_eqb, and_left}
use Rattle.rational.specs.Rational.{ℚ, int, ◌+ℚ◌, ◌-ℚ◌, ◌≤ℚ◌}
use Rattle.rational.specs.Extended.{Ext, ◌≤ₑ◌}
use Rattle.rational.specs.declared.Extended.TheVariants.{Fin}
use Rattle.run_laws.specs.declared.steps.Step.{Step}
use Rattle.run_laws.specs.declared.steps.Step.TheVariants.{Enter, Reach, Work, Leave, Visit}
use Rattle.run_laws.specs.Runs.{SpecRun}
use Rattle.run_laws.specs.Cards.{whole, of_flow}
use Rattle.run_laws.specs.Counts.{when, total, arrives, within}
use Rattle.run_laws.specs.Premises.{KeepsArrivals}
use Rattle.run_laws.specs.Rounds.{count_of}
use Rattle.run_laws.specs.Routes.{Routes, route_of, first_server}
use Rattle.run_laws.specs.Views.{Entry, entry_of, entered_after, server_of, seen, view_from, view}
use Rattle.run_laws.specs.Lawful.{RunState, run_start, IsKnown}
use Rattle.run_laws.specs.RunPremises.{enters, entered_in}
use Rattle.run_laws.proofs.Sums.{when_true, when_false, when_none}
use Rattle.run_laws.proofs.Entries.{entry_last, EachDue, each_due_at}
use Rattle.run_laws.proofs.FirstHop.{at_server, enters_one, enters_more}
use Rattle.net_laws.specs.Multicast.{NextServers, next_run_by, AllAllowedBy, IsLawfulBy}
use Rattle.net_laws.proofs.Arcs.{IsRoot}
use Rattle.net_laws.proofs.Dues.{IsDueBy, due_next_by}

enter_adds : (i f s first : ℕ) (p : Bool) (v : ℚ) → (f ≡ i → first ≡ s)
    → when (first == s) (when ((f == i) && p) v) ≡ when ((f == i) && p) v
enter_adds i f s first p v h = elim (cases_eq f i) [
  | inl e ↦ when_true (first == s) _ (eq-eqb first s (h e))
  | inr e ↦ let no = when_false ((f == i) && p) v (and_left (f == i) p (ne_eqb f i e)) in rw no (when_none (first == s))
]

reach_adds : (net : Routes) (to : NextServers) (r : RunState) (i s r_s q : ℕ) (t : ℚ) (p : ℚ → Bool) → IsRoot net to i s
    → IsDueBy to r.entered record { packet = q; server = r_s; time = t }
    → when (r_s == s) (when (((entry_of r.entered q).flow == i) && p t) (whole (entry_of r.entered q).bits)) ≡ int (pos 0)
reach_adds net to r i s r_s q t p begins due = elim (cases_eq r_s s) [
  | inr e ↦ when_false (r_s == s) _ (ne_eqb r_s s e)
  | inl e ↦ elim (cases_eq (entry_of r.entered q).flow i) [
    | inr g ↦ let no = when_false (((entry_of r.entered q).flow == i) && p t) (whole (entry_of r.entered q).bits) (and_left ((entry_of r.entered q).flow == i) (p t) (ne_eqb (entry_of r.entered q).flow i g)) in rw no (when_none (r_s == s))
    | inl g ↦
        let some : 1 ≤ count_of s (to i due.left) = subst (λ (j : ℕ). 1 ≤ count_of s (to j due.left)) g (subst (λ (k : ℕ). 1 ≤ count_of k (to (entry_of r.entered q).flow due.left)) e due.next) in
        let none = begins.never_again due.left in
        absurd (omega arith)
  ]
]

adds : (net : Routes) (to : NextServers) (r : RunState) (x : Step) (i s : ℕ) (p : ℚ → Bool) → IsRoot net to i s → IsKnown net r x
    → EachDue (IsDueBy to r.entered) r.due
    → when (server_of net x == s) (arrives (of_flow i) p (seen net r.entered x)) ≡ enters_one i p x
adds net to r (Enter f q t b) i s p begins k h =
    let e : Entry = record { flow = f; bits = b } in
    let last = entry_last r.entered e q k.in_turn in
    rw last (enter_adds i f s (first_server (route_of net f).hops) (p t) (whole b) (λ g. subst (λ (j : ℕ). first_server (route_of net j).hops ≡ s) (sym g) begins.first))
adds net to r (Reach r_s q t) i s p begins k h =
    let (n, l, e) = k in
    reach_adds net to r i s r_s q t p begins (each_due_at (IsDueBy to r.entered) r.due record { packet = q; server = r_s; time = t } n h l e)
adds net to r (Work r_s q a b w) i s p begins k h = when_none (r_s == s)
adds net to r (Leave r_s q t) i s p begins k h = when_none (r_s == s)
adds net to r (Visit r_s q t) i s p begins k h = when_none (r_s == s)

arrive_as_enter : (net : Routes) (to : NextServers) (end : ℚ) (r : RunState) (xs : List Step) (i s : ℕ) (p : ℚ → Bool) → IsRoot net to i s
    → AllAllowedBy net to end r xs → EachDue (IsDueBy to r.entered) r.due
    → total (arrives (of_flow i) p) (view_from net s r.entered xs) ≡ enters i p xs
arrive_as_enter net to end r [] i s p begins a h = refl
arrive_as_enter net to end r (x ∷ xs) i s p begins a h =
    let rest = arrive_as_enter net to end (next_run_by net to r x) xs i s p begins a.1 (due_next_by net to r x a.0.known h) in
    let one = adds net to r x i s p begins a.0.known h in
    at_server (arrives (of_flow i) p) net s r.entered x xs
    ∙ ap (λ (y : ℚ). y +ℚ total (arrives (of_flow i) p) (view_from net s (entered_after r.entered x) xs)) one
    ∙ ap (λ (y : ℚ). enters_one i p x +ℚ y) rest
    ∙ sym (enters_more i p x xs)

-- so it keeps there the curve with which it enters
pub root_keeps : (net : Routes) (to : NextServers) (run : SpecRun) (i s : ℕ) (α : ℚ → Ext) → IsLawfulBy net to run → IsRoot net to i s
    → ((a b : ℚ) → a ≤ℚ b → Fin (entered_in i a b run.steps) ≤ₑ α (b -ℚ a)) → KeepsArrivals (of_flow i) α (view net run s)
root_keeps net to run i s α lawful begins keeps a b l =
    subst (λ (x : ℚ). Fin x ≤ₑ α (b -ℚ a)) (sym (arrive_as_enter net to run.end (run_start net) run.steps i s (within a b) begins lawful.allowed tt)) (keeps a b l)
