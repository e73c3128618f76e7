-- No packet arrives twice at a server: it enters once, each link brings it on once for each time that it left the
-- server before, and it leaves no more often than it came.
use Rattle.std.specs.Prelude.{Some, ◌≡◌, ◌≢◌, ◌⊎◌, ℕ, zero, suc, ◌+◌, ◌<◌, ◌≤◌, ◌==◌, leb, Bool, true, false, ◌&&◌, List, [], ◌∷◌, ◌++◌, length, slice_index_or, if◌then◌else◌}
use Rattle.std.proofs.Common.{arith, sym, ap, ◌∙◌, refl, inl, inr, subst}
use Rattle.std.proofs.lemmas.Bool.{cases_Bool, cases_eq, cases_lt, eqb-true, eq-eqb, ne_eqb, le-leb, lt-leb}
use Rattle.rational.specs.Rational.{ℚ, ◌+ℚ◌}
use Rattle.run_laws.specs.declared.steps.Step.{Step}
use Rattle.run_laws.specs.declared.steps.Step.TheVariants.{Enter, Reach, Work, Leave, Visit}
use Rattle.run_laws.specs.Runs.{SpecRun}
use Rattle.run_laws.specs.Cards.{Card, ServerStep, Arrives, Works, Leaves, Visits}
use Rattle.run_laws.specs.Servers.{Server, ServerState, head_of, without_head, start}
use Rattle.run_laws.specs.Next.{next}
use Rattle.run_laws.specs.Allows.{AllAllowed}
use Rattle.run_laws.specs.Premises.{EachArrival, NoneTwice}
use Rattle.run_laws.specs.Routes.{Hop, Routes, route_of, server_at, link_at, PassesServer, first_server}
use Rattle.run_laws.specs.Views.{Entry, entry_of, hops_of, entered_after, server_of, seen, view_from, view}
use Rattle.run_laws.specs.Lawful.{Due, RunState, same_due, without, IsKnown, run_start}
use Rattle.run_laws.proofs.Heads.{same_some}
use Rattle.run_laws.proofs.States.{IsSound, sound_next, leaving}
use Rattle.run_laws.proofs.Entries.{same_due_self, entry_last, one_more, EachDue, each_due_at, passes_first}
use Rattle.run_laws.proofs.Sums.{one_if as one}
use Rattle.run_laws.specs.Rounds.{count_of}
use Rattle.net_laws.proofs.Views.{views_lawful}
use Rattle.net_laws.specs.Multicast.{NextServers, sent_to, next_due_by, next_run_by, AllAllowedBy, after_run_by, IsLawfulBy}
use Rattle.net_laws.proofs.Arcs.{IsArc, StaysInside, IsReachedIn, IsSpanned}
use Rattle.net_laws.proofs.Dues.{IsDueBy, due_next_by, Knows, knows_next_by, AreLive, live_next}
use Rattle.net_laws.proofs.Links.{same_is}

-- ---- how often packet p comes to a server, and leaves it
-- n where the test holds, else 0
abbrev pub at : Bool → ℕ → ℕ
at true n = n
at false n = 0

abbrev pub tally : (ServerStep → ℕ) → List ServerStep → ℕ
tally f [] = 0
tally f (x ∷ V) = f x + tally f V

abbrev pub came : ℕ → ServerStep → ℕ
came p (Arrives c t) = one (c.packet == p)
came p (Works c a b w) = 0
came p (Leaves c t) = 0
came p (Visits q t) = 0

abbrev pub went : ℕ → ServerStep → ℕ
went p (Arrives c t) = 0
went p (Works c a b w) = 0
went p (Leaves c t) = one (c.packet == p)
went p (Visits q t) = 0

pub one_is : (b : Bool) → b ≡ true → one b ≡ 1
one_is b e = rw e refl

pub one_most : (b : Bool) → one b ≤ 1
one_most true = omega arith
one_most false = omega arith

pub at_none : (b : Bool) → at b 0 ≡ 0
at_none true = refl
at_none false = refl

pub at_most : (b : Bool) (n : ℕ) → at b n ≤ n
at_most true n = omega arith
at_most false n = omega arith

-- not both tests hold
pub not_both : (b c : Bool) → (b ≡ true → c ≡ true → ⊥) → at b (one c) ≡ 0
not_both true true h = absurd (h refl refl)
not_both true false h = refl
not_both false c h = refl

pub at_one : (b c : Bool) → at b (one c) ≡ one (c && b)
at_one true true = refl
at_one true false = refl
at_one false true = refl
at_one false false = refl

pub tally_view : (f : ServerStep → ℕ) (net : Routes) (s : ℕ) (entered : List Entry) (x : Step) (xs : List Step)
    → tally f (view_from net s entered (x ∷ xs))
    ≡ at (server_of net x == s) (f (seen net entered x)) + tally f (view_from net s (entered_after entered x) xs)
tally_view f net s entered x xs = elim (cases_Bool (server_of net x == s)) [
  | inl e ↦ rw e refl
  | inr e ↦ rw e (omega arith)
]

-- ---- of one server: it leaves no more often than it came
abbrev copies : ℕ → List Card → ℕ
copies p [] = 0
copies p (c ∷ cs) = one (c.packet == p) + copies p cs

copies_push : (p : ℕ) (cs : List Card) (d : Card) → copies p (cs ++ d ∷ []) ≡ copies p cs + one (d.packet == p)
copies_push p [] d = omega arith
copies_push p (c ∷ cs) d = omega (arith, copies_push p cs d)

copies_without : (p q : ℕ) (c : Card) (cs : List Card) → head_of q cs ≡ Some c
    → copies p (without_head q cs) + one (c.packet == p) ≡ copies p cs
copies_without p q c [] h = absurd (cc)
copies_without p q c (x ∷ cs) h = elim (cases_Bool (x.queue == q)) [
  | inl e ↦
      let k : x ≡ c = same_some x c (rw e at h) in
      rw (e, k) (omega arith)
  | inr e ↦
      let k = copies_without p q c cs (rw e at h) in
      rw e (omega (arith, k))
]

pub went_came : (server : Server) (end : ℚ) (σ : ServerState) (V : List ServerStep) (p : ℕ) → AllAllowed server end σ V
    → IsSound σ → tally (went p) V ≤ copies p σ.inside + tally (came p) V
went_came server end σ [] p a h = omega arith
went_came server end σ (Arrives c t ∷ V) p a h =
    let rest = went_came server end (next server.discipline σ (Arrives c t)) V p a.1
    (sound_next server end σ (Arrives c t) a.0 h) in
    omega (arith, rest, copies_push p σ.inside c)
went_came server end σ (Works c b f w ∷ V) p a h =
    let rest = went_came server end (next server.discipline σ (Works c b f w)) V p a.1
    (sound_next server end σ (Works c b f w) a.0 h) in
    omega (arith, rest)
went_came server end σ (Leaves c t ∷ V) p a h =
    let rest = went_came server end (next server.discipline σ (Leaves c t)) V p a.1
    (sound_next server end σ (Leaves c t) a.0 h) in
    omega (arith, rest, copies_without p c.queue c σ.inside (leaving σ.inside σ.busy σ.under c t h a.0.1))
went_came server end σ (Visits q t ∷ V) p a h =
    let rest = went_came server end (next server.discipline σ (Visits q t)) V p a.1
    (sound_next server end σ (Visits q t) a.0 h) in
    omega (arith, rest)

knows_after : (net : Routes) (to : NextServers) (r : RunState) (xs : List Step) (p : ℕ) (e : Entry) → Knows r p e
    → Knows (after_run_by net to r xs) p e
knows_after net to r [] p e k = k
knows_after net to r (x ∷ xs) p e k = knows_after net to (next_run_by net to r x) xs p e (knows_next_by net to r x p e k)

enters : (net : Routes) (to : NextServers) (r : RunState) (f q p : ℕ) (t : ℚ) (b : ℕ) → q ≡ length r.entered → q ≡ p
    → Knows (next_run_by net to r (Enter f q t b)) p record { flow = f; bits = b }
enters net to r f q p t b in_turn is =
    let e : Entry = record { flow = f; bits = b } in
    let m = one_more r.entered e in
    record { has_entered = omega arith; is = entry_last r.entered e p (sym is ∙ in_turn) }

-- what is to be known of the packet's flow at the end
abbrev AtEnd : Routes → NextServers → RunState → List Step → ℕ → (ℕ → Type 0) → Type 0
AtEnd net to r xs p P = (e : Entry) → Knows (after_run_by net to r xs) p e → P e.flow

-- ---- it comes to no server that its flow does not pass
never_step : (net : Routes) (to : NextServers) (r : RunState) (x : Step) (xs : List Step) (s p : ℕ) → StaysInside net to → IsKnown net r x
    → EachDue (IsDueBy to r.entered) r.due
    → AtEnd net to r (x ∷ xs) p (λ i. PassesServer s (route_of net i).hops → ⊥)
    → at (server_of net x == s) (came p (seen net r.entered x)) ≡ 0
never_step net to r (Enter f q t b) xs s p inside known dues bad =
    let e : Entry = record { flow = f; bits = b } in
    not_both (first_server (route_of net f).hops == s) (q == p)
    (λ here it.
    let first = eqb-true (first_server (route_of net f).hops) s here in
    bad e
    (knows_after net to (next_run_by net to r (Enter f q t b)) xs p e
    (enters net to r f q p t b known.in_turn (eqb-true q p it)))
    (passes_first s (route_of net f).hops (known.has_path ∙ ap (λ (k : ℕ). Some k) first)))
never_step net to r (Reach k q t) xs s p inside known dues bad =
    let (n, l, e) = known in
    let due = each_due_at (IsDueBy to r.entered) r.due record { packet = q; server = k; time = t } n dues l e in
    not_both (k == s) (q == p)
    (λ here it.
    let knows : Knows r q (entry_of r.entered q) = record { has_entered = due.has_entered; is = refl } in
    let knows_p : Knows r p (entry_of r.entered q) =
    subst (λ (j : ℕ). Knows r j (entry_of r.entered q)) (eqb-true q p it) knows in
    bad (entry_of r.entered q) (knows_after net to r (Reach k q t ∷ xs) p (entry_of r.entered q) knows_p)
    (subst (λ (j : ℕ). PassesServer j (hops_of net r.entered q)) (eqb-true k s here)
    (inside (entry_of r.entered q).flow due.left k due.next)))
never_step net to r (Work k q a b w) xs s p inside known dues bad = at_none (k == s)
never_step net to r (Leave k q t) xs s p inside known dues bad = at_none (k == s)
never_step net to r (Visit k q t) xs s p inside known dues bad = at_none (k == s)

never : (net : Routes) (to : NextServers) (end : ℚ) (r : RunState) (xs : List Step) (s p : ℕ) → StaysInside net to → AllAllowedBy net to end r xs
    → EachDue (IsDueBy to r.entered) r.due → AtEnd net to r xs p (λ i. PassesServer s (route_of net i).hops → ⊥)
    → tally (came p) (view_from net s r.entered xs) ≡ 0
never net to end r [] s p inside a dues bad = refl
never net to end r (x ∷ xs) s p inside a dues bad =
    let here = never_step net to r x xs s p inside a.0.known dues bad in
    let rest = never net to end (next_run_by net to r x) xs s p inside a.1 (due_next_by net to r x a.0.known dues) bad in
    tally_view (came p) net s r.entered x xs ∙ omega (arith, here, rest)

-- ---- it comes once to the first server of its flow
-- 1 where packet p is not among the first n
abbrev pub absent : ℕ → ℕ → ℕ
absent p n = one (leb n p)

absent_less : (p n : ℕ) → absent p (suc n) ≤ absent p n
absent_less p n = elim (cases_lt p n) [
  | inl l ↦ rw (lt-leb n p l, lt-leb (suc n) p (omega (arith, l))) (omega arith)
  | inr l ↦ rw (le-leb n p l) (one_most (leb (suc n) p))
]

pub enters_once : (b : Bool) (q p n m x : ℕ) → q ≡ n → m ≡ suc n → x ≤ absent p m → at b (one (q == p)) + x ≤ absent p n
enters_once b q p n m x is next h = elim (cases_eq q p) [
  | inl e ↦
      let none : absent p m ≡ 0 = ap one (lt-leb m p (omega arith)) in
      let some : absent p n ≡ 1 = ap one (le-leb n p (omega arith)) in
      let few = at_most b (one (q == p)) in
      let it = one_is (q == p) (eq-eqb q p e) in
      omega arith
  | inr e ↦
      let none : at b (one (q == p)) ≡ 0 = ap (λ (c : Bool). at b (one c)) (ne_eqb q p e) ∙ at_none b in
      let less = subst (λ (k : ℕ). absent p k ≤ absent p n) (sym next) (absent_less p n) in
      omega arith
]

first_step : (net : Routes) (to : NextServers) (r : RunState) (x : Step) (xs : List Step) (s p rest : ℕ) → IsKnown net r x
    → EachDue (IsDueBy to r.entered) r.due
    → AtEnd net to r (x ∷ xs) p (λ i. (a : ℕ) → count_of s (to i a) ≡ 0)
    → rest ≤ absent p (length (entered_after r.entered x))
    → at (server_of net x == s) (came p (seen net r.entered x)) + rest ≤ absent p (length r.entered)
first_step net to r (Enter f q t b) xs s p rest known dues bad h =
    enters_once (first_server (route_of net f).hops == s) q p (length r.entered)
    (length (r.entered ++ record { flow = f; bits = b } ∷ [])) rest known.in_turn
    (one_more r.entered record { flow = f; bits = b }) h
first_step net to r (Reach k q t) xs s p rest known dues bad h =
    let (n, l, e) = known in
    let due = each_due_at (IsDueBy to r.entered) r.due record { packet = q; server = k; time = t } n dues l e in
    let none = not_both (k == s) (q == p)
    (λ here it.
    let knows : Knows r q (entry_of r.entered q) = record { has_entered = due.has_entered; is = refl } in
    let knows_p : Knows r p (entry_of r.entered q) =
    subst (λ (j : ℕ). Knows r j (entry_of r.entered q)) (eqb-true q p it) knows in
    let no = bad (entry_of r.entered q) (knows_after net to r (Reach k q t ∷ xs) p (entry_of r.entered q) knows_p) due.left in
    let some : 1 ≤ count_of s (to (entry_of r.entered q).flow due.left) = subst (λ (j : ℕ). 1 ≤ count_of j (to (entry_of r.entered q).flow due.left)) (eqb-true k s here) due.next in
    absurd (omega arith)) in
    omega (arith, none, h)
first_step net to r (Work k q a b w) xs s p rest known dues bad h = omega (arith, at_none (k == s), h)
first_step net to r (Leave k q t) xs s p rest known dues bad h = omega (arith, at_none (k == s), h)
first_step net to r (Visit k q t) xs s p rest known dues bad h = omega (arith, at_none (k == s), h)

first_once : (net : Routes) (to : NextServers) (end : ℚ) (r : RunState) (xs : List Step) (s p : ℕ) → AllAllowedBy net to end r xs
    → EachDue (IsDueBy to r.entered) r.due
    → AtEnd net to r xs p (λ i. (a : ℕ) → count_of s (to i a) ≡ 0)
    → tally (came p) (view_from net s r.entered xs) ≤ absent p (length r.entered)
first_once net to end r [] s p a dues bad = omega arith
first_once net to end r (x ∷ xs) s p a dues bad =
    let rest = first_once net to end (next_run_by net to r x) xs s p a.1 (due_next_by net to r x a.0.known dues) bad in
    subst (λ (n : ℕ). n ≤ absent p (length r.entered)) (sym (tally_view (came p) net s r.entered x xs))
    (first_step net to r x xs s p (tally (came p) (view_from net s (entered_after r.entered x) xs)) a.0.known dues bad
    rest)

-- ---- it comes to a next server no more often than it left the server before
-- how often packet p is due at server b
abbrev pub dues_at : ℕ → ℕ → List Due → ℕ
dues_at p b [] = 0
dues_at p b (d ∷ ds) = one ((d.packet == p) && (d.server == b)) + dues_at p b ds

pub dues_push : (p b : ℕ) (ds : List Due) (d : Due)
    → dues_at p b (ds ++ d ∷ []) ≡ dues_at p b ds + one ((d.packet == p) && (d.server == b))
dues_push p b [] d = omega arith
dues_push p b (c ∷ ds) d = omega (arith, dues_push p b ds d)

pub dues_without : (p b : ℕ) (ds : List Due) (d : Due) (k : ℕ) → k < length ds → slice_index_or ds k d ≡ d
    → dues_at p b (without d ds) + one ((d.packet == p) && (d.server == b)) ≡ dues_at p b ds
dues_without p b [] d k l e = absurd (omega arith)
dues_without p b (c ∷ ds) d zero l e =
    let f : same_due d c ≡ true = subst (λ (x : Due). same_due d x ≡ true) (sym e) (same_due_self d) in
    rw (f, e) (omega arith)
dues_without p b (c ∷ ds) d (suc k) l e =
    let rest = dues_without p b ds d k (omega arith) e in
    elim (cases_Bool (same_due d c)) [
      | inl f ↦ let same : c ≡ d = same_is d c f in rw (f, same) (omega arith)
      | inr f ↦ rw f (omega (arith, rest))
    ]

both_counts : (b c : Bool) (n : ℕ) → one (b && c) + at b n ≡ at b (one c + n)
both_counts true c n = refl
both_counts false c n = refl

same_one : (y b : ℕ) → (if y == b then 1 else 0) ≡ one (y == b)
same_one y b = elim (cases_Bool (y == b)) [
  | inl e ↦ rw e refl
  | inr e ↦ rw e refl
]

dues_sent : (p b q : ℕ) (t : ℚ) (ss : List ℕ) (ds : List Due)
    → dues_at p b (sent_to ss q t ds) ≡ dues_at p b ds + at (q == p) (count_of b ss)
dues_sent p b q t [] ds = rw (at_none (q == p)) (omega arith)
dues_sent p b q t (y ∷ ss) ds =
    let d : Due = record { packet = q; server = y; time = t } in
    let rest = dues_sent p b q t ss (ds ++ d ∷ []) in
    let more = dues_push p b ds d in
    let both = both_counts (q == p) (y == b) (count_of b ss) in
    rw (same_one y b) (omega (arith, rest, more, both))

leaves_few : (here it : Bool) (n : ℕ) → (it ≡ true → here ≡ true → n ≡ 1) → (it ≡ true → here ≡ false → n ≡ 0)
    → at it n ≤ at here (one it)
leaves_few here false n h k = omega arith
leaves_few true true n h k = let e = h refl refl in omega arith
leaves_few false true n h k = let e = k refl refl in omega arith

arc_step : (net : Routes) (to : NextServers) (r : RunState) (x : Step) (xs : List Step) (a b p came_later went_later : ℕ)
    → IsKnown net r x
    → AtEnd net to r (x ∷ xs) p (λ i. IsArc net to i a b)
    → came_later ≤ went_later + dues_at p b (next_due_by net to r x)
    → at (server_of net x == b) (came p (seen net r.entered x)) + came_later
    ≤ at (server_of net x == a) (went p (seen net r.entered x)) + went_later + dues_at p b r.due
arc_step net to r (Enter f q t bits) xs a b p came_later went_later known arc h =
    let e : Entry = record { flow = f; bits = bits } in
    let none = not_both (first_server (route_of net f).hops == b) (q == p)
    (λ here it.
    (arc e
    (knows_after net to (next_run_by net to r (Enter f q t bits)) xs p e
    (enters net to r f q p t bits known.in_turn (eqb-true q p it)))).not_first
    (eqb-true (first_server (route_of net f).hops) b here)) in
    omega (arith, none, h)
arc_step net to r (Reach s q t) xs a b p came_later went_later known arc h =
    let (n, l, e) = known in
    let out = dues_without p b r.due record { packet = q; server = s; time = t } n l e in
    let same = at_one (s == b) (q == p) in
    omega (arith, out, same, h)
arc_step net to r (Work s q c d w) xs a b p came_later went_later known arc h = omega (arith, at_none (s == b), h)
arc_step net to r (Leave s q t) xs a b p came_later went_later known arc h =
    let knows : Knows r q (entry_of r.entered q) = record { has_entered = known.has_entered; is = refl } in
    let ss = to (entry_of r.entered q).flow s in
    let sent = dues_sent p b q (t +ℚ link_at net s) ss r.due in
    let its = λ (it : (q == p) ≡ true). arc (entry_of r.entered q) (knows_after net to r (Leave s q t ∷ xs) p (entry_of r.entered q)
    (subst (λ (j : ℕ). Knows r j (entry_of r.entered q)) (eqb-true q p it) knows)) in
    let few = leaves_few (s == a) (q == p) (count_of b ss)
    (λ it here. ap (λ (c : ℕ). count_of b (to (entry_of r.entered q).flow c)) (eqb-true s a here) ∙ (its it).next)
    (λ it away. (its it).only s (λ e. let f = eq-eqb s a e in cc)) in
    omega (arith, at_none (s == b), sent, few, h)
arc_step net to r (Visit s q t) xs a b p came_later went_later known arc h = omega (arith, at_none (s == b), h)

arc_once : (net : Routes) (to : NextServers) (end : ℚ) (r : RunState) (xs : List Step) (a b p : ℕ) → AllAllowedBy net to end r xs
    → AtEnd net to r xs p (λ i. IsArc net to i a b)
    → tally (came p) (view_from net b r.entered xs) ≤ tally (went p) (view_from net a r.entered xs) + dues_at p b r.due
arc_once net to end r [] a b p al arc = omega arith
arc_once net to end r (x ∷ xs) a b p al arc =
    let rest = arc_once net to end (next_run_by net to r x) xs a b p al.1 arc in
    let step = arc_step net to r x xs a b p (tally (came p) (view_from net b (entered_after r.entered x) xs))
    (tally (went p) (view_from net a (entered_after r.entered x) xs)) al.0.known arc rest in
    omega (arith, step, tally_view (came p) net b r.entered x xs, tally_view (went p) net a r.entered x xs)

-- so it comes to this one no more often than to the one before
arc_few : (net : Routes) (to : NextServers) (run : SpecRun) (a b p : ℕ) → IsLawfulBy net to run → a < length net.servers
    → AtEnd net to (run_start net) run.steps p (λ i. IsArc net to i a b)
    → tally (came p) (view net run b) ≤ tally (came p) (view net run a)
arc_few net to run a b p lawful known arc =
    let server = server_at net a in
    let gone = went_came server run.end (start server.discipline) (view net run a) p (views_lawful net to run a lawful known).allowed tt in
    let next = arc_once net to run.end (run_start net) run.steps a b p lawful.allowed arc in
    omega (arith, gone, next)

-- ---- so no packet comes twice
-- packets that have entered are of live flows
live_after : (net : Routes) (to : NextServers) (end : ℚ) (r : RunState) (xs : List Step) → AllAllowedBy net to end r xs
    → AreLive net r.entered → AreLive net (after_run_by net to r xs).entered
live_after net to end r [] a h = h
live_after net to end r (x ∷ xs) a h = live_after net to end (next_run_by net to r x) xs a.1 (live_next net r x a.0.known h)

pub passes_or : (s : ℕ) (hs : List Hop) → PassesServer s hs ⊎ (PassesServer s hs → ⊥)
passes_or s [] = inr (λ bad. bad)
passes_or s (h ∷ hs) = elim (cases_eq h.server s) [
  | inl e ↦ inl (inl e)
  | inr n ↦ elim (passes_or s hs) [
    | inl k ↦ inl (inr k)
    | inr m ↦ inr (neither n m)
  ]
]
  where
    neither : (h.server ≡ s → ⊥) → (PassesServer s hs → ⊥) → PassesServer s (h ∷ hs) → ⊥
    neither n m (inl e) = n e
    neither n m (inr k) = m k

-- ---- over one link after the other
record IsPacket (net : Routes) (to : NextServers) (run : SpecRun) (p i : ℕ) : Type 0 where
  lawful : IsLawfulBy net to run
  flow : AtEnd net to (run_start net) run.steps p (λ j. i ≡ j)

reached_few : (net : Routes) (to : NextServers) (run : SpecRun) (p i n s : ℕ) → IsPacket net to run p i → IsReachedIn net to i n s
    → tally (came p) (view net run s) ≤ 1
reached_few net to run p i zero s w root =
    let once = first_once net to run.end (run_start net) run.steps s p w.lawful.allowed tt
    (λ e k a. ap (λ (j : ℕ). count_of s (to j a)) (sym (w.flow e k)) ∙ root.never_again a) in
    omega (arith, once, one_most (leb zero p))
reached_few net to run p i (suc n) s w r =
    let (a, q) = r in
    let less = arc_few net to run a s p w.lawful q.0 (λ e k. subst (λ (j : ℕ). IsArc net to j a s) (w.flow e k) q.1) in
    omega (arith, less, reached_few net to run p i n a w q.2)

comes_once : (net : Routes) (to : NextServers) (run : SpecRun) (s p : ℕ) → IsLawfulBy net to run → IsSpanned net to
    → tally (came p) (view net run s) ≤ 1
comes_once net to run s p lawful spread =
    let last = after_run_by net to (run_start net) run.steps in
    let i = (entry_of last.entered p).flow in
    let flow : AtEnd net to (run_start net) run.steps p (λ j. i ≡ j) = λ e k. ap (λ (y : Entry). y.flow) k.is in
    elim (cases_lt p (length last.entered)) [
      | inr past ↦
          let none = never net to run.end (run_start net) run.steps s p spread.inside lawful.allowed tt
          (λ e k _. absurd (omega (arith, past, k.has_entered))) in
          omega (arith, none)
      | inl here ↦ elim (passes_or s (route_of net i).hops) [
        | inr bad ↦
            let none = never net to run.end (run_start net) run.steps s p spread.inside lawful.allowed tt
            (λ e k passes. bad (subst (λ (j : ℕ). PassesServer s (route_of net j).hops) (sym (flow e k)) passes)) in
            omega (arith, none)
        | inl on ↦
            let live = live_after net to run.end (run_start net) run.steps lawful.allowed (λ q l. absurd (omega (arith, l))) p here in
            let (n, reached) = spread.reached i live s on in
            reached_few net to run p i n s record { lawful = lawful; flow = flow } reached
      ]
    ]

pub each_other : (p : ℕ) (V : List ServerStep) → tally (came p) V ≤ 0 → EachArrival (λ d. d.packet ≢ p) V
each_other p [] h = tt
each_other p (Arrives c t ∷ V) h = (
  λ e. let it = one_is (c.packet == p) (eq-eqb c.packet p e) in absurd (omega (arith, it, h)),
  each_other p V (omega (arith, h)),
)
each_other p (Works c a b w ∷ V) h = each_other p V (omega (arith, h))
each_other p (Leaves c t ∷ V) h = each_other p V (omega (arith, h))
each_other p (Visits q t ∷ V) h = each_other p V (omega (arith, h))

pub none_twice : (V : List ServerStep) → ((p : ℕ) → tally (came p) V ≤ 1) → NoneTwice V
none_twice [] h = tt
none_twice (Arrives c t ∷ V) h =
    let it = one_is (c.packet == c.packet) (eq-eqb c.packet c.packet refl) in (
      each_other c.packet V (omega (arith, it, h c.packet)),
      none_twice V (λ p. omega (arith, h p)),
    )
none_twice (Works c a b w ∷ V) h = none_twice V (λ p. omega (arith, h p))
none_twice (Leaves c t ∷ V) h = none_twice V (λ p. omega (arith, h p))
none_twice (Visits q t ∷ V) h = none_twice V (λ p. omega (arith, h p))

pub none_twice_by : (net : Routes) (to : NextServers) (run : SpecRun) (s : ℕ) → IsLawfulBy net to run → IsSpanned net to → NoneTwice (view net run s)
none_twice_by net to run s lawful spread = none_twice (view net run s) (λ p. comes_once net to run s p lawful spread)
