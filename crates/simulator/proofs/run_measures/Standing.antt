-- A lawful run after some of its steps: each packet that has entered is in one place at most.
use Rattle.std.specs.Prelude.{Option, Some, None, ◌≡◌, ℕ, zero, suc, ◌+◌, ◌*◌, ◌^◌, ◌<◌, ◌≤◌, false, ◌==◌, ◌&&◌, List, [], ◌∷◌, ◌++◌, length, get_or, set, map, take, drop, slice_get}
use Rattle.std.proofs.Common.{arith, refl, sym, ap, ◌∙◌, subst, inl, inr}
use Rattle.std.proofs.lemmas.Bool.{cases_Bool, cases_eq, eqb-true, and_parts}
use Rattle.std.proofs.lemmas.List.{length-map, length-set}
use Rattle.rational.specs.Rational.{ℚ, le_q, ◌+ℚ◌}
use Rattle.run_laws.specs.declared.steps.Step.{Step}
use Rattle.run_laws.specs.declared.steps.Step.TheVariants.{Enter, Reach, Work, Leave, Visit}
use Rattle.run_laws.specs.Runs.{SpecRun}
use Rattle.run_laws.specs.Cards.{Card, Class, all, Arrives, Works, Leaves, Visits, ServerStep}
use Rattle.run_laws.specs.Servers.{Fifo, Server, ServerState, queue_count, start, head_of, without_head}
use Rattle.run_laws.specs.Next.{next, next_inside}
use Rattle.run_laws.specs.Allows.{Allows, MayLeave}
use Rattle.run_laws.specs.Routes.{Routes, server_at, link_at, route_of, first_server, server_after}
use Rattle.run_laws.specs.Views.{Entry, entry_of, hops_of, card_of, server_of, seen}
use Rattle.run_laws.specs.Lawful.{Due, RunState, same_due, without, sent, state_at, next_run, run_start, after_run, AllAllowedInRun, IsLawful}
use Rattle.run_laws.proofs.Entries.{same_due_self, EachDue, IsDueAfter, due_next, entry_before, entry_last}
use Rattle.run_laws.proofs.Heads.{same_some}
use Rattle.run_laws.proofs.Members.{Has, contains_has}
use Rattle.run_laws.proofs.States.{IsSound, sound_next, leaving}
use Rattle.run_laws.proofs.Views.{own_state, other_state, start_state}
use Rattle.simulator.specs.run_measures.Gauged.{bits_of, AreFew, state_after}
use Rattle.simulator.proofs.run_measures.Gauging.{bits_push, bits_without, counted_most}

-- ---- the bits of packets that have entered, that are inside, and that are on links
abbrev pub bits_entered : List Entry → ℕ
bits_entered [] = 0
bits_entered (e ∷ es) = e.bits + bits_entered es

abbrev pub bits_inside : List ServerState → ℕ
bits_inside [] = 0
bits_inside (σ ∷ σs) = bits_of all σ.inside + bits_inside σs

abbrev pub bits_on_links : List Entry → List Due → ℕ
bits_on_links entered [] = 0
bits_on_links entered (d ∷ ds) = (entry_of entered d.packet).bits + bits_on_links entered ds

entered_push : (es : List Entry) (e : Entry) → bits_entered (es ++ e ∷ []) ≡ bits_entered es + e.bits
entered_push [] e = omega arith
entered_push (x ∷ xs) e = let h = entered_push xs e in omega (arith, h)

inside_set : (σs : List ServerState) (i : ℕ) (τ : ServerState) → i < length σs
    → bits_inside (set σs i τ) + bits_of all (get_or σs i (start Fifo)).inside ≡ bits_inside σs + bits_of all τ.inside
inside_set [] i τ h = absurd (omega (arith, h))
inside_set (σ ∷ σs) zero τ h = omega arith
inside_set (σ ∷ σs) (suc i) τ h = let k = inside_set σs i τ (omega (arith, h)) in omega (arith, k)

inside_at : (σs : List ServerState) (i : ℕ) → i < length σs → bits_of all (get_or σs i (start Fifo)).inside ≤ bits_inside σs
inside_at [] i h = absurd (omega (arith, h))
inside_at (σ ∷ σs) zero h = omega arith
inside_at (σ ∷ σs) (suc i) h = let k = inside_at σs i (omega (arith, h)) in omega (arith, k)

inside_start : (xs : List Server) → bits_inside (map (λ (x : Server). start x.discipline) xs) ≡ 0
inside_start [] = refl
inside_start (x ∷ xs) = let h = inside_start xs in omega (arith, h)

bits_part : (C : Class) (cs : List Card) → bits_of C cs ≤ bits_of all cs
bits_part C [] = omega arith
bits_part C (c ∷ cs) =
    let h = bits_part C cs in
    let k = counted_most (C c) c.bits in
    omega (arith, h, k)

-- ---- links
links_more : (net : Routes) (entered : List Entry) (e : Entry) (ds : List Due) → EachDue (IsDueAfter net entered) ds
    → bits_on_links (entered ++ e ∷ []) ds ≡ bits_on_links entered ds
links_more net entered e [] h = refl
links_more net entered e (d ∷ ds) h =
    let one : (entry_of (entered ++ e ∷ []) d.packet).bits ≡ (entry_of entered d.packet).bits =
    ap (λ (x : Entry). x.bits) (entry_before entered e d.packet h.0.has_entered) in
    let rest = links_more net entered e ds h.1 in
    omega (arith, one, rest)

links_without : (entered : List Entry) (d : Due) (ds : List Due) → Has ds d
    → bits_on_links entered (without d ds) + (entry_of entered d.packet).bits ≡ bits_on_links entered ds
links_without entered d [] h = absurd h
links_without entered d (e ∷ es) h = elim (cases_Bool (same_due d e)) [
  | inl t ↦
      let a = and_parts (d.packet == e.packet) ((d.server == e.server) && (le_q d.time e.time && le_q e.time d.time)) t in
      let same : (entry_of entered d.packet).bits ≡ (entry_of entered e.packet).bits = ap (λ p. (entry_of entered p).bits) (eqb-true d.packet e.packet a.0) in
      rw t (omega (arith, same))
  | inr f ↦ elim h [
    | inl i ↦ absurd (let a = same_due_self d in let b : same_due d d ≡ false = subst (λ x. same_due d x ≡ false) i f in cc)
    | inr i ↦
        let k = links_without entered d es i in
        rw f (omega (arith, k))
  ]
]

links_push : (entered : List Entry) (ds : List Due) (d : Due) → bits_on_links entered (ds ++ d ∷ []) ≡ bits_on_links entered ds + (entry_of entered d.packet).bits
links_push entered [] d = omega arith
links_push entered (x ∷ xs) d = let h = links_push entered xs d in omega (arith, h)

links_sent : (entered : List Entry) (o : Option ℕ) (p : ℕ) (t : ℚ) (ds : List Due)
    → bits_on_links entered (sent o p t ds) ≤ bits_on_links entered ds + (entry_of entered p).bits
links_sent entered None p t ds = omega arith
links_sent entered (Some s) p t ds = let h = links_push entered ds record { packet = p; server = s; time = t } in omega (arith, h)

-- ---- the queues of the packets at a server
abbrev pub EachQueue : ℕ → List Card → Type 0
EachQueue n [] = Unit {0}
EachQueue n (c ∷ cs) = (c.queue < n) × EachQueue n cs

queues_push : (n : ℕ) (cs : List Card) (d : Card) → EachQueue n cs → d.queue < n → EachQueue n (cs ++ d ∷ [])
queues_push n [] d h k = (k, tt)
queues_push n (c ∷ cs) d h k = (h.0, queues_push n cs d h.1 k)

queues_without : (n q : ℕ) (cs : List Card) → EachQueue n cs → EachQueue n (without_head q cs)
queues_without n q [] h = tt
queues_without n q (c ∷ cs) h = elim (cases_Bool (c.queue == q)) [
  | inl e ↦ rw e h.1
  | inr e ↦ rw e (h.0, queues_without n q cs h.1)
]

queue_known : (n q : ℕ) (c : Card) (cs : List Card) → EachQueue n cs → head_of q cs ≡ Some c → c.queue < n
queue_known n q c [] h k = absurd (cc)
queue_known n q c (x ∷ cs) h k = elim (cases_Bool (x.queue == q)) [
  | inl e ↦ let same : x ≡ c = same_some x c (rw e at k) in subst (λ (y : Card). y.queue < n) same h.0
  | inr e ↦ queue_known n q c cs h.1 (rw e at k)
]

queues_next : (server : Server) (end : ℚ) (σ : ServerState) (y : ServerStep) → Allows server end σ y → EachQueue (queue_count server.discipline) σ.inside
    → EachQueue (queue_count server.discipline) (next_inside σ.inside y)
queues_next server end σ (Arrives c t) a h = queues_push (queue_count server.discipline) σ.inside c h a.1.known_queue
queues_next server end σ (Works c a b w) m h = h
queues_next server end σ (Leaves c t) a h = queues_without (queue_count server.discipline) c.queue σ.inside h
queues_next server end σ (Visits q t) a h = h

-- ---- the state after some steps of a lawful run
pub record Stands (net : Routes) (end : ℚ) (r : RunState) (xs : List Step) : Type 0 where
  pub allowed : AllAllowedInRun net end r xs
  pub as_many : length r.servers ≡ length net.servers
  pub sound : (s : ℕ) → s < length net.servers → IsSound (state_at r s)
  pub queues : (s : ℕ) → s < length net.servers → EachQueue (queue_count (server_at net s).discipline) (state_at r s).inside
  pub dues : EachDue (IsDueAfter net r.entered) r.due
  pub counted : bits_inside r.servers + bits_on_links r.entered r.due ≤ bits_entered r.entered

sound_then : (net : Routes) (end : ℚ) (r : RunState) (x : Step) (xs : List Step) → Stands net end r (x ∷ xs) → (s : ℕ) → s < length net.servers
    → IsSound (state_at (next_run net r x) s)
sound_then net end r x xs h s l =
    let a = h.allowed.0 in
    let many = h.as_many in
    let known = a.known_server in
    elim (cases_eq s (server_of net x)) [
      | inl e ↦
          let own = own_state net r x (omega (arith, many, known)) in
          let next_sound = sound_next (server_at net (server_of net x)) end (state_at r (server_of net x)) (seen net r.entered x) a.at_server (h.sound (server_of net x) known) in
          subst (λ k. IsSound (state_at (next_run net r x) k)) (sym e) (subst IsSound (sym own) next_sound)
      | inr n ↦ subst IsSound (sym (other_state net r x s n)) (h.sound s l)
    ]

queues_then : (net : Routes) (end : ℚ) (r : RunState) (x : Step) (xs : List Step) → Stands net end r (x ∷ xs) → (s : ℕ) → s < length net.servers
    → EachQueue (queue_count (server_at net s).discipline) (state_at (next_run net r x) s).inside
queues_then net end r x xs h s l =
    let a = h.allowed.0 in
    let many = h.as_many in
    let known = a.known_server in
    elim (cases_eq s (server_of net x)) [
      | inl e ↦
          let i = server_of net x in
          let own = own_state net r x (omega (arith, many, known)) in
          let now = queues_next (server_at net i) end (state_at r i) (seen net r.entered x) a.at_server (h.queues i known) in
          subst (λ k. EachQueue (queue_count (server_at net k).discipline) (state_at (next_run net r x) k).inside) (sym e)
          (subst (λ (σ : ServerState). EachQueue (queue_count (server_at net i).discipline) σ.inside) (sym own) now)
      | inr n ↦ subst (λ (σ : ServerState). EachQueue (queue_count (server_at net s).discipline) σ.inside) (sym (other_state net r x s n)) (h.queues s l)
    ]

-- what a step does to the bits inside
step_inside : (net : Routes) (end : ℚ) (r : RunState) (x : Step) (xs : List Step) → Stands net end r (x ∷ xs)
    → bits_inside (next_run net r x).servers + bits_of all (state_at r (server_of net x)).inside
    ≡ bits_inside r.servers + bits_of all (next_inside (state_at r (server_of net x)).inside (seen net r.entered x))
step_inside net end r x xs h =
    let many = h.as_many in
    let known = h.allowed.0.known_server in
    inside_set r.servers (server_of net x) (next (server_at net (server_of net x)).discipline (state_at r (server_of net x)) (seen net r.entered x)) (omega (arith, many, known))

counted_then : (net : Routes) (end : ℚ) (r : RunState) (x : Step) (xs : List Step) → Stands net end r (x ∷ xs)
    → bits_inside (next_run net r x).servers + bits_on_links (next_run net r x).entered (next_run net r x).due ≤ bits_entered (next_run net r x).entered
counted_then net end r (Enter f p t b) xs h =
    let e : Entry = record { flow = f; bits = b } in
    let s = first_server (route_of net f).hops in
    let c = card_of net (r.entered ++ e ∷ []) p s in
    let set_one = step_inside net end r (Enter f p t b) xs h in
    let push = bits_push all (state_at r s).inside c in
    let own : c.bits ≡ b = ap (λ (y : Entry). y.bits) (entry_last r.entered e p h.allowed.0.known.in_turn) in
    let links = links_more net r.entered e r.due h.dues in
    let more = entered_push r.entered e in
    let was = h.counted in
    omega (arith, set_one, push, own, links, more, was)
counted_then net end r (Reach s p t) xs h =
    let set_one = step_inside net end r (Reach s p t) xs h in
    let push = bits_push all (state_at r s).inside (card_of net r.entered p s) in
    let links = links_without r.entered record { packet = p; server = s; time = t } r.due (contains_has r.due record { packet = p; server = s; time = t } h.allowed.0.known) in
    let was = h.counted in
    omega (arith, set_one, push, links, was)
counted_then net end r (Work s p a b w) xs h =
    let set_one = step_inside net end r (Work s p a b w) xs h in
    let was = h.counted in
    omega (arith, set_one, was)
counted_then net end r (Leave s p t) xs h =
    let σ = state_at r s in
    let c = card_of net r.entered p s in
    let set_one = step_inside net end r (Leave s p t) xs h in
    let lost = bits_without all c.queue c σ.inside (leaving σ.inside σ.busy σ.under c t (h.sound s h.allowed.0.known_server) h.allowed.0.at_server.1) in
    let links = links_sent r.entered (server_after s (hops_of net r.entered p)) p (t +ℚ link_at net s) r.due in
    let was = h.counted in
    omega (arith, set_one, lost, links, was)
counted_then net end r (Visit s q t) xs h =
    let set_one = step_inside net end r (Visit s q t) xs h in
    let was = h.counted in
    omega (arith, set_one, was)

pub stands_next : (net : Routes) (end : ℚ) (r : RunState) (x : Step) (xs : List Step) → Stands net end r (x ∷ xs) → Stands net end (next_run net r x) xs
stands_next net end r x xs h = record {
  allowed = h.allowed.1;
  as_many = length-set r.servers (server_of net x) (next (server_at net (server_of net x)).discipline (state_at r (server_of net x)) (seen net r.entered x)) ∙ h.as_many;
  sound = sound_then net end r x xs h;
  queues = queues_then net end r x xs h;
  dues = due_next net r x h.allowed.0.known h.dues;
  counted = counted_then net end r x xs h;
}

stands_first : (net : Routes) (run : SpecRun) → IsLawful net run → Stands net run.end (run_start net) run.steps
stands_first net run h = record {
  allowed = h.allowed;
  as_many = length-map net.servers (λ (x : Server). start x.discipline);
  sound = λ s l. subst IsSound (sym (start_state net s l)) tt;
  queues = λ s l. subst (λ (σ : ServerState). EachQueue (queue_count (server_at net s).discipline) σ.inside) (sym (start_state net s l)) tt;
  dues = tt;
  counted = let none = inside_start net.servers in omega (arith, none);
}

stands_after : (net : Routes) (end : ℚ) (r : RunState) (xs : List Step) (k : ℕ) → Stands net end r xs → Stands net end (after_run net r (take k xs)) (drop k xs)
stands_after net end r xs zero h = h
stands_after net end r [] (suc k) h = h
stands_after net end r (x ∷ xs) (suc k) h = stands_after net end (next_run net r x) xs k (stands_next net end r x xs h)

drop_at : (xs : List Step) (k : ℕ) (x : Step) → slice_get xs k ≡ Some x → drop k xs ≡ x ∷ drop (suc k) xs
drop_at [] k x e = absurd (cc)
drop_at (y ∷ ys) zero x e = let same : y ≡ x = cc in ap (λ z. z ∷ ys) same
drop_at (y ∷ ys) (suc k) x e = drop_at ys k x e

after_at : (net : Routes) (r : RunState) (xs : List Step) (k : ℕ) (x : Step) → slice_get xs k ≡ Some x
    → after_run net r (take (suc k) xs) ≡ next_run net (after_run net r (take k xs)) x
after_at net r [] k x e = absurd (cc)
after_at net r (y ∷ ys) zero x e = let same : y ≡ x = cc in ap (next_run net r) same
after_at net r (y ∷ ys) (suc k) x e = after_at net (next_run net r y) ys k x e

-- step x comes in the state r, and xs after it
pub record IsNext (net : Routes) (run : SpecRun) (k : ℕ) (x : Step) : Type 0 where
  pub stands : Stands net run.end (state_after net run.steps k) (x ∷ drop (suc k) run.steps)
  pub later : drop k run.steps ≡ x ∷ drop (suc k) run.steps
  pub after : state_after net run.steps (suc k) ≡ next_run net (state_after net run.steps k) x

pub is_next : (net : Routes) (run : SpecRun) (k : ℕ) (x : Step) → IsLawful net run → slice_get run.steps k ≡ Some x → IsNext net run k x
is_next net run k x lawful e = record {
  stands = subst (Stands net run.end (state_after net run.steps k)) (drop_at run.steps k x e)
      (stands_after net run.end (run_start net) run.steps k (stands_first net run lawful));
  later = drop_at run.steps k x e;
  after = after_at net (run_start net) run.steps k x e;
}

-- ---- how many bits a queue has at most
entered_most : (es : List Entry) → ((p : ℕ) → (entry_of es p).bits < 2 ^ 32) → bits_entered es ≤ length es * 4294967295
entered_most [] h = omega arith
entered_most (e ∷ es) h =
    let first = h 0 in
    let rest = entered_most es (λ p. h (suc p)) in
    omega (arith, first, rest)

pub queue_most : (net : Routes) (end : ℚ) (r : RunState) (xs : List Step) (s : ℕ) (C : Class) → Stands net end r xs → AreFew r.entered → s < length net.servers
    → bits_of C (state_at r s).inside ≤ 18446744069414584320
queue_most net end r xs s C h few known =
    let part = bits_part C (state_at r s).inside in
    let many = h.as_many in
    let at = inside_at r.servers s (omega (arith, many, known)) in
    let was = h.counted in
    let most = entered_most r.entered few.short in
    let count = few.few in
    omega (arith, part, at, was, most, count)

-- a packet that leaves is in one of the server's queues
pub leaving_queue : (net : Routes) (end : ℚ) (r : RunState) (xs : List Step) (s : ℕ) (c : Card) (t : ℚ) → Stands net end r xs → s < length net.servers
    → MayLeave (state_at r s).under c t → c.queue < queue_count (server_at net s).discipline
leaving_queue net end r xs s c t h known may =
    let σ = state_at r s in
    queue_known (queue_count (server_at net s).discipline) c.queue c σ.inside (h.queues s known) (leaving σ.inside σ.busy σ.under c t (h.sound s known) may)
