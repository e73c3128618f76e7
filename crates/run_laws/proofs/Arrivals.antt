-- The packets that arrive at a server of a lawful run: each is of a live flow that passes the server, and keeps its flow's size.
use Rattle.std.specs.Prelude.{◌≡◌, ◌<◌, ◌≤◌, ℕ, pos, ◌==◌, true, false, Bool, List, [], ◌∷◌, ◌++◌, length}
use Rattle.std.proofs.Common.{arith, sym, ap, ◌∙◌, refl, inl, inr, subst}
use Rattle.std.proofs.lemmas.Bool.{cases_Bool, eqb-true, cases_eq}
use Rattle.rational.specs.Rational.{ℚ, int, ◌+ℚ◌}
use Rattle.run_laws.specs.declared.steps.Step.{Step}
use Rattle.run_laws.specs.declared.steps.Step.TheVariants.{Enter, Reach, Work, Leave, Visit}
use Rattle.run_laws.specs.Cards.{Card, Class, size, ServerStep, Arrives, Works, Leaves, Visits}
use Rattle.run_laws.specs.Counts.{total, arrives}
use Rattle.run_laws.specs.Premises.{EachArrival}
use Rattle.run_laws.specs.Routes.{Routes, route_of, queue_at, PassesServer, first_server}
use Rattle.run_laws.specs.Views.{Entry, entry_of, hops_of, card_of, entered_after, server_of, seen, view_from}
use Rattle.run_laws.specs.Lawful.{RunState, next_run, AllAllowedInRun, IsKnown}
use Rattle.run_laws.specs.RunPremises.{EnterSizes}
use Rattle.run_laws.proofs.Sums.{each_all, total_none, when_false}
use Rattle.run_laws.proofs.Entries.{entry_before, entry_last, one_more, EachDue, each_due_at, IsDueAfter, due_next, passes_first, passes_next}

-- ---- classes that agree on what arrives
pub arrivals_map : (P Q : Card → Type 0) → ((c : Card) → P c → Q c) → (V : List ServerStep) → EachArrival P V → EachArrival Q V
arrivals_map P Q f [] h = tt
arrivals_map P Q f (Arrives c t ∷ V) h = (f c h.0, arrivals_map P Q f V h.1)
arrivals_map P Q f (Works c a b w ∷ V) h = arrivals_map P Q f V h
arrivals_map P Q f (Leaves c t ∷ V) h = arrivals_map P Q f V h
arrivals_map P Q f (Visits q t ∷ V) h = arrivals_map P Q f V h

pub arrivals_all : (P : Card → Type 0) → ((c : Card) → P c) → (V : List ServerStep) → EachArrival P V
arrivals_all P f [] = tt
arrivals_all P f (Arrives c t ∷ V) = (f c, arrivals_all P f V)
arrivals_all P f (Works c a b w ∷ V) = arrivals_all P f V
arrivals_all P f (Leaves c t ∷ V) = arrivals_all P f V
arrivals_all P f (Visits q t ∷ V) = arrivals_all P f V

pub arrivals_both : (P Q : Card → Type 0) → (V : List ServerStep) → EachArrival P V → EachArrival Q V
    → EachArrival (λ c. P c × Q c) V
arrivals_both P Q [] h k = tt
arrivals_both P Q (Arrives c t ∷ V) h k = ((h.0, k.0), arrivals_both P Q V h.1 k.1)
arrivals_both P Q (Works c a b w ∷ V) h k = arrivals_both P Q V h k
arrivals_both P Q (Leaves c t ∷ V) h k = arrivals_both P Q V h k
arrivals_both P Q (Visits q t ∷ V) h k = arrivals_both P Q V h k

pub same_arrivals : (C D : Class) (p : ℚ → Bool) (V : List ServerStep) → EachArrival (λ c. C c ≡ D c) V
    → total (arrives C p) V ≡ total (arrives D p) V
same_arrivals C D p [] h = refl
same_arrivals C D p (Arrives c t ∷ V) h = rw (h.0, same_arrivals C D p V h.1) refl
same_arrivals C D p (Works c a b w ∷ V) h = ap (λ (x : ℚ). int (pos 0) +ℚ x) (same_arrivals C D p V h)
same_arrivals C D p (Leaves c t ∷ V) h = ap (λ (x : ℚ). int (pos 0) +ℚ x) (same_arrivals C D p V h)
same_arrivals C D p (Visits q t ∷ V) h = ap (λ (x : ℚ). int (pos 0) +ℚ x) (same_arrivals C D p V h)

pub none_arrive : (C : Class) (p : ℚ → Bool) (V : List ServerStep) → EachArrival (λ c. C c ≡ false) V → total (arrives C p) V ≡ int (pos 0)
none_arrive C p V h = same_arrivals C (λ c. false) p V h ∙ total_none (arrives (λ c. false) p) V (each_all (λ x. arrives (λ c. false) p x ≡ int (pos 0)) nothing V)
  where
    nothing : (x : ServerStep) → arrives (λ c. false) p x ≡ int (pos 0)
    nothing (Arrives c t) = when_false false (size c) refl
    nothing (Works c a b w) = refl
    nothing (Leaves c t) = refl
    nothing (Visits q t) = refl

-- ---- what is known of the packets that have entered
pub record IsEntered (net : Routes) (packet : ℕ → ℕ) (e : Entry) : Type 0 where
  pub is_live : (route_of net e.flow).live ≡ true
  pub small : e.bits ≤ packet e.flow

pub record KnowsPackets (net : Routes) (packet : ℕ → ℕ) (r : RunState) : Type 0 where
  pub entries : (p : ℕ) → p < length r.entered → IsEntered net packet (entry_of r.entered p)
  pub dues : EachDue (IsDueAfter net r.entered) r.due

abbrev pub AllSizes : Routes → (ℕ → ℕ) → List Step → Type 0
AllSizes net packet xs = (flow : ℕ) → (route_of net flow).live ≡ true → EnterSizes flow (packet flow) xs

pub rest_sizes : (net : Routes) (packet : ℕ → ℕ) (x : Step) (xs : List Step) → AllSizes net packet (x ∷ xs) → AllSizes net packet xs
rest_sizes net packet (Enter f p t b) xs h = λ flow live. (h flow live).1
rest_sizes net packet (Reach s p t) xs h = h
rest_sizes net packet (Work s p a b w) xs h = h
rest_sizes net packet (Leave s p t) xs h = h
rest_sizes net packet (Visit s q t) xs h = h

pub entries_more : (net : Routes) (packet : ℕ → ℕ) (entered : List Entry) (e : Entry)
    → ((p : ℕ) → p < length entered → IsEntered net packet (entry_of entered p)) → IsEntered net packet e
    → (p : ℕ) → p < length (entered ++ e ∷ []) → IsEntered net packet (entry_of (entered ++ e ∷ []) p)
entries_more net packet entered e h k p l =
    let m = one_more entered e in
    elim (cases_eq p (length entered)) [
      | inl g ↦ subst (IsEntered net packet) (sym (entry_last entered e p g)) k
      | inr g ↦
          let less : p < length entered = omega arith in
          subst (IsEntered net packet) (sym (entry_before entered e p less)) (h p less)
    ]

entries_next : (net : Routes) (packet : ℕ → ℕ) (r : RunState) (x : Step) (xs : List Step) → IsKnown net r x → AllSizes net packet (x ∷ xs)
    → KnowsPackets net packet r
    → (p : ℕ) → p < length (entered_after r.entered x) → IsEntered net packet (entry_of (entered_after r.entered x) p)
entries_next net packet r (Enter f p t b) xs k sizes h =
    entries_more net packet r.entered record { flow = f; bits = b } h.entries record { is_live = k.is_live; small = (sizes f k.is_live).0 refl }
entries_next net packet r (Reach s p t) xs k sizes h = h.entries
entries_next net packet r (Work s p a b w) xs k sizes h = h.entries
entries_next net packet r (Leave s p t) xs k sizes h = h.entries
entries_next net packet r (Visit s q t) xs k sizes h = h.entries

knows_next : (net : Routes) (packet : ℕ → ℕ) (r : RunState) (x : Step) (xs : List Step) → IsKnown net r x → AllSizes net packet (x ∷ xs)
    → KnowsPackets net packet r → KnowsPackets net packet (next_run net r x)
knows_next net packet r x xs k sizes h = record { entries = entries_next net packet r x xs k sizes h; dues = due_next net r x k h.dues }

-- ---- a packet that arrives at server s
pub record IsPassing (net : Routes) (packet : ℕ → ℕ) (s : ℕ) (c : Card) : Type 0 where
  pub is_live : (route_of net c.flow).live ≡ true
  pub passes : PassesServer s (route_of net c.flow).hops
  pub its_queue : c.queue ≡ queue_at s (route_of net c.flow).hops
  pub small : c.bits ≤ packet c.flow

pub passing_entry : (net : Routes) (packet : ℕ → ℕ) (entered : List Entry) (p s : ℕ) → IsEntered net packet (entry_of entered p)
    → PassesServer s (hops_of net entered p) → IsPassing net packet s (card_of net entered p s)
passing_entry net packet entered p s h k = record { is_live = h.is_live; passes = k; its_queue = refl; small = h.small }

-- a packet that enters passes its first server
pub enter_passes : (net : Routes) (packet : ℕ → ℕ) (r : RunState) (f p : ℕ) (t : ℚ) (b : ℕ) (xs : List Step) → IsKnown net r (Enter f p t b)
    → AllSizes net packet (Enter f p t b ∷ xs)
    → IsPassing net packet (first_server (route_of net f).hops)
    (card_of net (r.entered ++ record { flow = f; bits = b } ∷ []) p (first_server (route_of net f).hops))
enter_passes net packet r f p t b xs k sizes =
    let e : Entry = record { flow = f; bits = b } in
    let last = entry_last r.entered e p k.in_turn in
    let is : IsEntered net packet e = record { is_live = k.is_live; small = (sizes f k.is_live).0 refl } in
    let s = first_server (route_of net f).hops in
    passing_entry net packet (r.entered ++ e ∷ []) p s (subst (IsEntered net packet) (sym last) is)
    (subst (λ (y : Entry). PassesServer s (route_of net y.flow).hops) (sym last) (passes_first s (route_of net f).hops k.has_path))

head_passes : (net : Routes) (packet : ℕ → ℕ) (r : RunState) (x : Step) (xs : List Step) (V : List ServerStep) → IsKnown net r x
    → AllSizes net packet (x ∷ xs) → KnowsPackets net packet r
    → EachArrival (IsPassing net packet (server_of net x)) V
    → EachArrival (IsPassing net packet (server_of net x)) (seen net r.entered x ∷ V)
head_passes net packet r (Enter f p t b) xs V k sizes h rest =
    (enter_passes net packet r f p t b xs k sizes, rest)
head_passes net packet r (Reach s p t) xs V k sizes h rest =
    let (n, l, e) = k in
    let due = each_due_at (IsDueAfter net r.entered) r.due record { packet = p; server = s; time = t } n h.dues l e in
    (passing_entry net packet r.entered p s (h.entries p due.has_entered) (passes_next due.left s (hops_of net r.entered p) due.next), rest)
head_passes net packet r (Work s p a b w) xs V k sizes h rest = rest
head_passes net packet r (Leave s p t) xs V k sizes h rest = rest
head_passes net packet r (Visit s q t) xs V k sizes h rest = rest

pub all_pass : (net : Routes) (packet : ℕ → ℕ) (end : ℚ) (r : RunState) (xs : List Step) (s : ℕ) → AllAllowedInRun net end r xs
    → AllSizes net packet xs → KnowsPackets net packet r
    → EachArrival (IsPassing net packet s) (view_from net s r.entered xs)
all_pass net packet end r [] s a sizes h = tt
all_pass net packet end r (x ∷ xs) s a sizes h =
    let rest = all_pass net packet end (next_run net r x) xs s a.1 (rest_sizes net packet x xs sizes) (knows_next net packet r x xs a.0.known sizes h) in
    elim (cases_Bool (server_of net x == s)) [
      | inl e ↦
          let here : server_of net x ≡ s = eqb-true (server_of net x) s e in
          let V = view_from net s (entered_after r.entered x) xs in
          rw e (subst (λ (k : ℕ). EachArrival (IsPassing net packet k) (seen net r.entered x ∷ V)) here
          (head_passes net packet r x xs V a.0.known sizes h (subst (λ (k : ℕ). EachArrival (IsPassing net packet k) V) (sym here) rest)))
      | inr e ↦ rw e rest
    ]
