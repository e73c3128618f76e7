-- What arrives of a flow at a next server is what left the server before, a link's time ago.
use Rattle.std.specs.Prelude.{◌≡◌, ◌≢◌, ◌<◌, ℕ, zero, suc, pos, ◌==◌, Bool, true, false, ◌&&◌, List, [], ◌∷◌, ◌++◌, length, slice_index_or, All, ◌+◌}
use Rattle.std.proofs.Common.{arith, sym, ap, ◌∙◌, refl, inl, inr, subst}
use Rattle.std.proofs.lemmas.Bool.{cases_Bool, cases_eq, eqb-true, eq-eqb, ne_eqb, and_parts, and_left, and_right}
use Rattle.rational.specs.Rational.{ℚ, int, ◌+ℚ◌, ◌-ℚ◌, ◌≤ℚ◌, ◌<ℚ◌, le_q, lt_q}
use Rattle.rational.specs.Extended.{Ext, ◌≤ₑ◌}
use Rattle.rational.specs.declared.Extended.TheVariants.{Fin}
use Rattle.rational.proofs.Over.{le_q_out, le_q_in, lt_q_out}
use Rattle.rational.proofs.MinMax.{le_q_not, lt_q_not}
use Rattle.rational.proofs.ExtendedOrder.{le_ext_trans}
use Rattle.rational.proofs.Laws.{antisym, le_refl, le_or_lt}
use Rattle.rational.proofs.Linear.{with1, with2, with3, with4, with7}
use Rattle.run_laws.specs.declared.steps.Step.{Step}
use Rattle.run_laws.specs.declared.steps.Step.TheVariants.{Enter, Reach, Work, Leave, Visit}
use Rattle.run_laws.specs.Runs.{SpecRun}
use Rattle.run_laws.specs.Cards.{size, whole, of_flow, ServerStep, Arrives, Works, Leaves, Visits}
use Rattle.run_laws.specs.Counts.{when, total, arrives, leaves, before, arrived, departed, within, arrived_in, departed_in}
use Rattle.run_laws.specs.Premises.{KeepsArrivals}
use Rattle.run_laws.specs.Routes.{Routes, route_of, link_at, first_server}
use Rattle.run_laws.specs.Views.{Entry, entry_of, entered_after, server_of, seen, view_from, view}
use Rattle.run_laws.specs.Lawful.{Due, RunState, same_due, without, IsKnown, run_start}
use Rattle.run_laws.proofs.Sizes.{whole_nonneg}
use Rattle.run_laws.proofs.Sums.{when_true, when_false, when_none, each_all, total_same, when_nonneg}
use Rattle.run_laws.proofs.Entries.{same_due_self, entry_before, entry_last, EachDue}
use Rattle.run_laws.proofs.FirstHop.{at_server}
use Rattle.run_laws.specs.Rounds.{count_of}
use Rattle.net_laws.specs.Multicast.{NextServers, sent_to, next_due_by, next_run_by, AllAllowedBy, after_run_by, IsLawfulBy}
use Rattle.net_laws.proofs.Arcs.{IsArc}
use Rattle.net_laws.proofs.Dues.{IsDueBy, due_next_by}

-- the bits of flow i that are due at server b, at times that pass the test
abbrev pub due_term : List Entry → ℕ → ℕ → (ℚ → Bool) → Due → ℚ
due_term entered i b p d = when (((entry_of entered d.packet).flow == i) && ((d.server == b) && p d.time)) (whole (entry_of entered d.packet).bits)

abbrev pub due_bits : List Entry → ℕ → ℕ → (ℚ → Bool) → List Due → ℚ
due_bits entered i b p [] = int (pos 0)
due_bits entered i b p (d ∷ ds) = due_term entered i b p d +ℚ due_bits entered i b p ds

-- ---- one entry is taken out
make_due : ℕ → ℕ → ℚ → Due
make_due p s t = record { packet = p; server = s; time = t }

pub same_is : (d e : Due) → same_due d e ≡ true → e ≡ d
unfolding make_due
same_is d e h =
    let a = and_parts (d.packet == e.packet) _ h in
    let b = and_parts (d.server == e.server) _ a.1 in
    let c = and_parts (le_q d.time e.time) (le_q e.time d.time) b.1 in
    let packet : e.packet ≡ d.packet = sym (eqb-true d.packet e.packet a.0) in
    let server : e.server ≡ d.server = sym (eqb-true d.server e.server b.0) in
    let time : e.time ≡ d.time = antisym (le_q_in e.time d.time c.1, le_q_in d.time e.time c.0) in
    ap (λ (x : ℕ). make_due x e.server e.time) packet ∙ ap (λ (x : ℕ). make_due d.packet x e.time) server ∙ ap (λ (x : ℚ). make_due d.packet d.server x) time

pub due_without : (entered : List Entry) (i b : ℕ) (p : ℚ → Bool) (ds : List Due) (d : Due) (k : ℕ) → k < length ds → slice_index_or ds k d ≡ d
    → due_bits entered i b p (without d ds) +ℚ due_term entered i b p d ≡ due_bits entered i b p ds
due_without entered i b p [] d k l e = absurd (omega arith)
due_without entered i b p (c ∷ ds) d zero l e =
    let f : same_due d c ≡ true = subst (λ (x : Due). same_due d x ≡ true) (sym e) (same_due_self d) in
    rw (f, e) (with2 (due_term entered i b p d) (due_bits entered i b p ds) (λ c. omega (arith, c.le, c.lt, c.same)))
due_without entered i b p (c ∷ ds) d (suc k) l e =
    let rest = due_without entered i b p ds d k (omega arith) e in
    elim (cases_Bool (same_due d c)) [
      | inl f ↦
          let same : c ≡ d = same_is d c f in
          rw (f, same) (with2 (due_term entered i b p d) (due_bits entered i b p ds) (λ c. omega (arith, c.le, c.lt, c.same)))
      | inr f ↦ rw f (with4 (due_term entered i b p c) (due_bits entered i b p (without d ds)) (due_term entered i b p d) (due_bits entered i b p ds) (λ c. omega (arith, c.le, c.lt, c.same)))
    ]

pub due_push : (entered : List Entry) (i b : ℕ) (p : ℚ → Bool) (ds : List Due) (d : Due)
    → due_bits entered i b p (ds ++ d ∷ []) ≡ due_bits entered i b p ds +ℚ due_term entered i b p d
due_push entered i b p [] d = with1 (due_term entered i b p d) (λ c. omega (arith, c.le, c.lt, c.same))
due_push entered i b p (c ∷ ds) d =
    let h = due_push entered i b p ds d in
    with4 (due_term entered i b p c) (due_bits entered i b p ds) (due_term entered i b p d) (due_bits entered i b p (ds ++ d ∷ [])) (λ c. omega (arith, c.le, c.lt, c.same))

pub when_when : (x y z : Bool) (v : ℚ) → when x (when (y && z) v) ≡ when (y && (x && z)) v
unfolding when
when_when true true z v = refl
when_when true false z v = refl
when_when false true z v = refl
when_when false false z v = refl

-- moved by the link from server a
abbrev pub moved_test : Routes → ℕ → (ℚ → Bool) → ℚ → Bool
moved_test net a p u = p (u +ℚ link_at net a)

pub enter_none : (net : Routes) (i b f q : ℕ) (t : ℚ) (bits : ℕ) (entered : List Entry) (p : ℚ → Bool) → first_server (route_of net i).hops ≢ b
    → q ≡ length entered
    → when (first_server (route_of net f).hops == b) (arrives (of_flow i) p (seen net entered (Enter f q t bits))) ≡ int (pos 0)
enter_none net i b f q t bits entered p n e =
    let own : entry_of (entered ++ record { flow = f; bits = bits } ∷ []) q ≡ record { flow = f; bits = bits } = entry_last entered record { flow = f; bits = bits } q e in
    let flow : (entry_of (entered ++ record { flow = f; bits = bits } ∷ []) q).flow ≡ f = ap (λ (x : Entry). x.flow) own in
    elim (cases_eq f i) [
      | inl g ↦
          let other : (first_server (route_of net f).hops == b) ≡ false = ne_eqb (first_server (route_of net f).hops) b (λ h. n (subst (λ (k : ℕ). first_server (route_of net k).hops ≡ b) g h)) in
          when_false _ _ other
      | inr g ↦
          let other : ((entry_of (entered ++ record { flow = f; bits = bits } ∷ []) q).flow == i) ≡ false = ne_eqb _ i (λ h. g (sym flow ∙ h)) in
          ap (when (first_server (route_of net f).hops == b)) (when_false _ _ (and_left _ (p t) other)) ∙ when_none (first_server (route_of net f).hops == b)
    ]

due_stable : (to : NextServers) (entered : List Entry) (e : Entry) (i b : ℕ) (p : ℚ → Bool) (ds : List Due)
    → EachDue (IsDueBy to entered) ds → due_bits (entered ++ e ∷ []) i b p ds ≡ due_bits entered i b p ds
due_stable to entered e i b p [] h = refl
due_stable to entered e i b p (d ∷ ds) h = rw (entry_before entered e d.packet h.0.has_entered, due_stable to entered e i b p ds h.1) refl

-- ---- a packet that leaves is due at each next server
-- of another flow
sent_other : (entered : List Entry) (i b q : ℕ) (p : ℚ → Bool) (t : ℚ) (ss : List ℕ) (due : List Due)
    → ((entry_of entered q).flow == i) ≡ false → due_bits entered i b p (sent_to ss q t due) ≡ due_bits entered i b p due
sent_other entered i b q p t [] due n = refl
sent_other entered i b q p t (y ∷ ss) due n =
    let d : Due = record { packet = q; server = y; time = t } in
    let rest = sent_other entered i b q p t ss (due ++ d ∷ []) n in
    let push = due_push entered i b p due d in
    let none = when_false _ (whole (entry_of entered q).bits) (and_left ((entry_of entered q).flow == i) ((y == b) && p t) n) in
    rest ∙ push ∙ with2 (due_bits entered i b p due) (due_term entered i b p d) (λ c. omega (arith, c.le, c.lt, c.same))

-- at other servers
sent_none : (entered : List Entry) (i b q : ℕ) (p : ℚ → Bool) (t : ℚ) (ss : List ℕ) (due : List Due)
    → count_of b ss ≡ 0 → due_bits entered i b p (sent_to ss q t due) ≡ due_bits entered i b p due
sent_none entered i b q p t [] due n = refl
sent_none entered i b q p t (y ∷ ss) due n = elim (cases_Bool (y == b)) [
  | inl e ↦ let k : 1 + count_of b ss ≡ 0 = rw e at n in absurd (omega arith)
  | inr e ↦
      let d : Due = record { packet = q; server = y; time = t } in
      let k : 0 + count_of b ss ≡ 0 = rw e at n in
      let rest = sent_none entered i b q p t ss (due ++ d ∷ []) (omega arith) in
      let push = due_push entered i b p due d in
      let none = when_false _ (whole (entry_of entered q).bits) (and_right ((entry_of entered q).flow == i) _ (and_left (y == b) (p t) e)) in
      rest ∙ push ∙ with2 (due_bits entered i b p due) (due_term entered i b p d) (λ c. omega (arith, c.le, c.lt, c.same))
]

-- once at this one
sent_once : (entered : List Entry) (i b q : ℕ) (p : ℚ → Bool) (t : ℚ) (ss : List ℕ) (due : List Due)
    → count_of b ss ≡ 1
    → due_bits entered i b p (sent_to ss q t due) ≡ due_bits entered i b p due +ℚ when (((entry_of entered q).flow == i) && p t) (whole (entry_of entered q).bits)
sent_once entered i b q p t [] due n = absurd (omega arith)
sent_once entered i b q p t (y ∷ ss) due n =
    let d : Due = record { packet = q; server = y; time = t } in
    let push = due_push entered i b p due d in
    elim (cases_Bool (y == b)) [
      | inl e ↦
          let k : 1 + count_of b ss ≡ 1 = rw e at n in
          let rest = sent_none entered i b q p t ss (due ++ d ∷ []) (omega arith) in
          let same : due_term entered i b p d ≡ when (((entry_of entered q).flow == i) && p t) (whole (entry_of entered q).bits) = rw e refl in
          rest ∙ push ∙ ap (λ (x : ℚ). due_bits entered i b p due +ℚ x) same
      | inr e ↦
          let k : 0 + count_of b ss ≡ 1 = rw e at n in
          let rest = sent_once entered i b q p t ss (due ++ d ∷ []) (omega arith) in
          let none = when_false _ (whole (entry_of entered q).bits) (and_right ((entry_of entered q).flow == i) _ (and_left (y == b) (p t) e)) in
          rest ∙ ap (λ (x : ℚ). x +ℚ when (((entry_of entered q).flow == i) && p t) (whole (entry_of entered q).bits)) push ∙ with3 (due_bits entered i b p due) (due_term entered i b p d) (when (((entry_of entered q).flow == i) && p t) (whole (entry_of entered q).bits)) (λ c. omega (arith, c.le, c.lt, c.same))
    ]

leave_sent : (net : Routes) (to : NextServers) (i a b s q : ℕ) (t : ℚ) (entered : List Entry) (p : ℚ → Bool) (due : List Due)
    → IsArc net to i a b
    → when (s == a) (when (((entry_of entered q).flow == i) && p (t +ℚ link_at net a)) (whole (entry_of entered q).bits)) +ℚ due_bits entered i b p due
    ≡ due_bits entered i b p (sent_to (to (entry_of entered q).flow s) q (t +ℚ link_at net s) due)
leave_sent net to i a b s q t entered p due k = elim (cases_eq (entry_of entered q).flow i) [
  | inr f ↦
      let n = ne_eqb (entry_of entered q).flow i f in
      let none = ap (when (s == a)) (when_false _ (whole (entry_of entered q).bits) (and_left _ (p (t +ℚ link_at net a)) n)) ∙ when_none (s == a) in
      let sent = sent_other entered i b q p (t +ℚ link_at net s) (to (entry_of entered q).flow s) due n in
      with3 (when (s == a) (when (((entry_of entered q).flow == i) && p (t +ℚ link_at net a)) (whole (entry_of entered q).bits))) (due_bits entered i b p due) (due_bits entered i b p (sent_to (to (entry_of entered q).flow s) q (t +ℚ link_at net s) due)) (λ c. omega (arith, c.le, c.lt, c.same))
  | inl f ↦ elim (cases_eq s a) [
    | inr g ↦
        let none = when_false (s == a) (when (((entry_of entered q).flow == i) && p (t +ℚ link_at net a)) (whole (entry_of entered q).bits)) (ne_eqb s a g) in
        let away : count_of b (to (entry_of entered q).flow s) ≡ 0 = ap (λ (j : ℕ). count_of b (to j s)) f ∙ k.only s g in
        let sent = sent_none entered i b q p (t +ℚ link_at net s) (to (entry_of entered q).flow s) due away in
        with3 (when (s == a) (when (((entry_of entered q).flow == i) && p (t +ℚ link_at net a)) (whole (entry_of entered q).bits))) (due_bits entered i b p due) (due_bits entered i b p (sent_to (to (entry_of entered q).flow s) q (t +ℚ link_at net s) due)) (λ c. omega (arith, c.le, c.lt, c.same))
    | inl g ↦
        let here = when_true (s == a) (when (((entry_of entered q).flow == i) && p (t +ℚ link_at net a)) (whole (entry_of entered q).bits)) (eq-eqb s a g) in
        let once : count_of b (to (entry_of entered q).flow s) ≡ 1 = ap (λ (j : ℕ). count_of b (to j s)) f ∙ ap (λ (c : ℕ). count_of b (to i c)) g ∙ k.next in
        let sent = sent_once entered i b q p (t +ℚ link_at net s) (to (entry_of entered q).flow s) due once in
        let same : when (((entry_of entered q).flow == i) && p (t +ℚ link_at net s)) (whole (entry_of entered q).bits) ≡ when (((entry_of entered q).flow == i) && p (t +ℚ link_at net a)) (whole (entry_of entered q).bits) =
        ap (λ (c : ℕ). when (((entry_of entered q).flow == i) && p (t +ℚ link_at net c)) (whole (entry_of entered q).bits)) g in
        summed (when (s == a) (when (((entry_of entered q).flow == i) && p (t +ℚ link_at net a)) (whole (entry_of entered q).bits))) (when (((entry_of entered q).flow == i) && p (t +ℚ link_at net a)) (whole (entry_of entered q).bits)) (when (((entry_of entered q).flow == i) && p (t +ℚ link_at net s)) (whole (entry_of entered q).bits)) (due_bits entered i b p due) (due_bits entered i b p (sent_to (to (entry_of entered q).flow s) q (t +ℚ link_at net s) due)) here same sent
  ]
]
  where
    summed : (left at_a at_s due later : ℚ) → left ≡ at_a → at_s ≡ at_a → later ≡ due +ℚ at_s → left +ℚ due ≡ later
    summed left at_a at_s due later e f g = with7 left at_a at_s due later left left (λ c. omega (arith, c.le, c.lt, c.same))

link_step : (net : Routes) (to : NextServers) (r : RunState) (x : Step) (i a b : ℕ) (p : ℚ → Bool) → IsArc net to i a b → IsKnown net r x
    → EachDue (IsDueBy to r.entered) r.due
    → when (server_of net x == a) (leaves (of_flow i) (moved_test net a p) (seen net r.entered x)) +ℚ due_bits r.entered i b p r.due ≡ when (server_of net x == b) (arrives (of_flow i) p (seen net r.entered x)) +ℚ due_bits (entered_after r.entered x) i b p (next_due_by net to r x)
link_step net to r (Enter f q t bits) i a b p k known have =
    let one = enter_none net i b f q t bits r.entered p k.not_first known.in_turn in
    let two = when_none (first_server (route_of net f).hops == a) in
    let same = due_stable to r.entered record { flow = f; bits = bits } i b p r.due have in
    rw (two, one, same) refl
link_step net to r (Reach s q t) i a b p k known have =
    let d : Due = record { packet = q; server = s; time = t } in
    let (n, l, e) = known in
    let out = due_without r.entered i b p r.due d n l e in
    let one = when_none (s == a) in
    let two = when_when (s == b) ((entry_of r.entered q).flow == i) (p t) (whole (entry_of r.entered q).bits) in
    rw (one, two) (with3 (due_bits r.entered i b p r.due) (due_term r.entered i b p d) (due_bits r.entered i b p (without d r.due)) (λ c. omega (arith, c.le, c.lt, c.same)))
link_step net to r (Work s q c d w) i a b p k known have = rw (when_none (s == a), when_none (s == b)) refl
link_step net to r (Leave s q t) i a b p k known have =
    let one = leave_sent net to i a b s q t r.entered p r.due k in
    rw (when_none (s == b), one) (with1 (due_bits r.entered i b p (sent_to (to (entry_of r.entered q).flow s) q (t +ℚ link_at net s) r.due)) (λ c. omega (arith, c.le, c.lt, c.same)))
link_step net to r (Visit s q t) i a b p k known have = rw (when_none (s == a), when_none (s == b)) refl

-- along a run: what left a, moved by the link, is what arrived at b and what is still due there
link_counts : (net : Routes) (to : NextServers) (end : ℚ) (r : RunState) (xs : List Step) (i a b : ℕ) (p : ℚ → Bool) → IsArc net to i a b
    → AllAllowedBy net to end r xs → EachDue (IsDueBy to r.entered) r.due
    → total (leaves (of_flow i) (moved_test net a p)) (view_from net a r.entered xs) +ℚ due_bits r.entered i b p r.due ≡ total (arrives (of_flow i) p) (view_from net b r.entered xs) +ℚ due_bits (after_run_by net to r xs).entered i b p (after_run_by net to r xs).due
link_counts net to end r [] i a b p k h have = refl
link_counts net to end r (x ∷ xs) i a b p k h have =
    let s = next_run_by net to r x in
    let rest = link_counts net to end s xs i a b p k h.1 (due_next_by net to r x h.0.known have) in
    let one = link_step net to r x i a b p k h.0.known have in
    let at_a = at_server (leaves (of_flow i) (moved_test net a p)) net a r.entered x xs in
    let at_b = at_server (arrives (of_flow i) p) net b r.entered x xs in
    rw (at_a, at_b) (summed (when (server_of net x == a) (leaves (of_flow i) (moved_test net a p) (seen net r.entered x))) (total (leaves (of_flow i) (moved_test net a p)) (view_from net a (entered_after r.entered x) xs)) (due_bits r.entered i b p r.due)
    (when (server_of net x == b) (arrives (of_flow i) p (seen net r.entered x))) (total (arrives (of_flow i) p) (view_from net b (entered_after r.entered x) xs)) (due_bits (entered_after r.entered x) i b p (next_due_by net to r x)) (due_bits (after_run_by net to s xs).entered i b p (after_run_by net to s xs).due) one rest)
  where
    summed : (left left_later due arrived arrived_later due_later due_end : ℚ) → left +ℚ due ≡ arrived +ℚ due_later
        → left_later +ℚ due_later ≡ arrived_later +ℚ due_end
        → left +ℚ left_later +ℚ due ≡ arrived +ℚ arrived_later +ℚ due_end
    summed left left_later due arrived arrived_later due_later due_end e f =
        with7 left left_later due arrived arrived_later due_later due_end (λ c. omega (arith, c.le, c.lt, c.same))

-- ---- at the end of a lawful run nothing is due before it
pub due_none : (entered : List Entry) (i b : ℕ) (end t : ℚ) (ds : List Due) → t ≤ℚ end → All (λ (d : Due). end <ℚ d.time) ds
    → due_bits entered i b (before t) ds ≡ int (pos 0)
due_none entered i b end t [] l h = refl
due_none entered i b end t (d ∷ ds) l h =
    let late : end <ℚ d.time = h 0 d (omega arith) in
    let no : before t d.time ≡ false = lt_q_not _ _ (with3 t end d.time (λ c. omega (arith, c.le, c.lt, c.same))) in
    let one = when_false _ (whole (entry_of entered d.packet).bits) (and_right ((entry_of entered d.packet).flow == i) _ (and_right (d.server == b) (before t d.time) no)) in
    let rest = due_none entered i b end t ds l (λ k e m. h (suc k) e (omega arith)) in
    with2 (due_term entered i b (before t) d) (due_bits entered i b (before t) ds) (λ c. omega (arith, c.le, c.lt, c.same))

same_moved : (D t u : ℚ) → lt_q (u +ℚ D) t ≡ lt_q u (t -ℚ D)
same_moved D t u = elim (le_or_lt (t -ℚ D) u) [
  | inl h ↦
      let k : t ≤ℚ u +ℚ D = with3 D t u (λ c. omega (arith, c.le, c.lt, c.same)) in
      lt_q_not _ _ k ∙ sym (lt_q_not _ _ h)
  | inr h ↦
      let k : u +ℚ D <ℚ t = with3 D t u (λ c. omega (arith, c.le, c.lt, c.same)) in
      lt_q_out _ _ k ∙ sym (lt_q_out _ _ h)
]

pub leaves_moved : (net : Routes) (i a : ℕ) (t : ℚ) (x : ServerStep)
    → leaves (of_flow i) (moved_test net a (before t)) x ≡ leaves (of_flow i) (before (t -ℚ link_at net a)) x
leaves_moved net i a t (Arrives c u) = refl
leaves_moved net i a t (Works c d b w) = refl
leaves_moved net i a t (Leaves c u) = ap (λ (k : Bool). when ((c.flow == i) && k) (size c)) (same_moved (link_at net a) t u)
leaves_moved net i a t (Visits q u) = refl

pub arc_carries : (net : Routes) (to : NextServers) (run : SpecRun) (i a b : ℕ) (t : ℚ) → IsLawfulBy net to run → IsArc net to i a b → t ≤ℚ run.end
    → arrived (of_flow i) (view net run b) t ≡ departed (of_flow i) (view net run a) (t -ℚ link_at net a)
arc_carries net to run i a b t lawful k l =
    let last = after_run_by net to (run_start net) run.steps in
    let counts = link_counts net to run.end (run_start net) run.steps i a b (before t) k lawful.allowed tt in
    let none = due_none last.entered i b run.end t last.due l lawful.none_overdue in
    let same = total_same (leaves (of_flow i) (moved_test net a (before t))) (leaves (of_flow i) (before (t -ℚ link_at net a))) (view net run a) (each_all (λ x. leaves (of_flow i) (moved_test net a (before t)) x ≡ leaves (of_flow i) (before (t -ℚ link_at net a)) x) (leaves_moved net i a t) (view net run a)) in
    summed (total (leaves (of_flow i) (moved_test net a (before t))) (view net run a)) (departed (of_flow i) (view net run a) (t -ℚ link_at net a)) (arrived (of_flow i) (view net run b) t) (due_bits last.entered i b (before t) last.due) counts none same
  where
    summed : (moved left came due : ℚ) → moved +ℚ int (pos 0) ≡ came +ℚ due → due ≡ int (pos 0) → moved ≡ left → came ≡ left
    summed moved left came due e f g = with4 moved left came due (λ c. omega (arith, c.le, c.lt, c.same))

-- ---- windows: what arrives in one is at most what left the server before in that window, moved back
le_moved : (D t u : ℚ) → le_q (u +ℚ D) t ≡ le_q u (t -ℚ D)
le_moved D t u = elim (le_or_lt u (t -ℚ D)) [
  | inl h ↦
      let k : u +ℚ D ≤ℚ t = with3 D t u (λ c. omega (arith, c.le, c.lt, c.same)) in
      le_q_out _ _ k ∙ sym (le_q_out _ _ h)
  | inr h ↦
      let k : t <ℚ u +ℚ D = with3 D t u (λ c. omega (arith, c.le, c.lt, c.same)) in
      le_q_not _ _ k ∙ sym (le_q_not _ _ h)
]

from_moved : (D s u : ℚ) → le_q s (u +ℚ D) ≡ le_q (s -ℚ D) u
from_moved D s u = elim (le_or_lt (s -ℚ D) u) [
  | inl h ↦
      let k : s ≤ℚ u +ℚ D = with3 D s u (λ c. omega (arith, c.le, c.lt, c.same)) in
      le_q_out _ _ k ∙ sym (le_q_out _ _ h)
  | inr h ↦
      let k : u +ℚ D <ℚ s = with3 D s u (λ c. omega (arith, c.le, c.lt, c.same)) in
      le_q_not _ _ k ∙ sym (le_q_not _ _ h)
]

pub leaves_window : (net : Routes) (i a : ℕ) (s t : ℚ) (x : ServerStep)
    → leaves (of_flow i) (moved_test net a (within s t)) x ≡ leaves (of_flow i) (within (s -ℚ link_at net a) (t -ℚ link_at net a)) x
leaves_window net i a s t (Arrives c u) = refl
leaves_window net i a s t (Works c d b w) = refl
leaves_window net i a s t (Leaves c u) = rw (from_moved (link_at net a) s u, le_moved (link_at net a) t u) refl
leaves_window net i a s t (Visits q u) = refl

pub due_nonneg : (entered : List Entry) (i b : ℕ) (p : ℚ → Bool) (ds : List Due) → int (pos 0) ≤ℚ due_bits entered i b p ds
due_nonneg entered i b p [] = le_refl (int (pos 0))
due_nonneg entered i b p (d ∷ ds) =
    let one = when_nonneg (((entry_of entered d.packet).flow == i) && ((d.server == b) && p d.time)) (whole (entry_of entered d.packet).bits) (whole_nonneg (entry_of entered d.packet).bits) in
    let rest = due_nonneg entered i b p ds in
    with2 (due_term entered i b p d) (due_bits entered i b p ds) (λ c. omega (arith, c.le, c.lt, c.same))

-- what arrives in a window is at most what left the server before in that window, moved back
pub arc_window : (net : Routes) (to : NextServers) (run : SpecRun) (i a b : ℕ) (s t : ℚ) → IsLawfulBy net to run → IsArc net to i a b
    → arrived_in (of_flow i) (view net run b) s t ≤ℚ departed_in (of_flow i) (view net run a) (s -ℚ link_at net a) (t -ℚ link_at net a)
arc_window net to run i a b s t lawful k =
    let last = after_run_by net to (run_start net) run.steps in
    let counts = link_counts net to run.end (run_start net) run.steps i a b (within s t) k lawful.allowed tt in
    let rest = due_nonneg last.entered i b (within s t) last.due in
    let same = total_same (leaves (of_flow i) (moved_test net a (within s t))) (leaves (of_flow i) (within (s -ℚ link_at net a) (t -ℚ link_at net a))) (view net run a) (each_all (λ x. leaves (of_flow i) (moved_test net a (within s t)) x ≡ leaves (of_flow i) (within (s -ℚ link_at net a) (t -ℚ link_at net a)) x) (leaves_window net i a s t) (view net run a)) in
    summed (total (leaves (of_flow i) (moved_test net a (within s t))) (view net run a)) (departed_in (of_flow i) (view net run a) (s -ℚ link_at net a) (t -ℚ link_at net a)) (arrived_in (of_flow i) (view net run b) s t) (due_bits last.entered i b (within s t) last.due) counts rest same
  where
    summed : (moved left came due : ℚ) → moved +ℚ int (pos 0) ≡ came +ℚ due → int (pos 0) ≤ℚ due → moved ≡ left → came ≤ℚ left
    summed moved left came due e f g = with4 moved left came due (λ c. omega (arith, c.le, c.lt, c.same))

-- so a flow keeps at the next server the curve with which it leaves this one
pub arc_keeps : (net : Routes) (to : NextServers) (run : SpecRun) (i a b : ℕ) (out : ℚ → Ext) → IsLawfulBy net to run → IsArc net to i a b
    → ((s t : ℚ) → s ≤ℚ t → Fin (departed_in (of_flow i) (view net run a) s t) ≤ₑ out (t -ℚ s))
    → KeepsArrivals (of_flow i) out (view net run b)
arc_keeps net to run i a b out lawful k leaves_so s t l =
    let D = link_at net a in
    let less = arc_window net to run i a b s t lawful k in
    let span : (t -ℚ D) -ℚ (s -ℚ D) ≡ t -ℚ s = with3 s t D (λ c. omega (arith, c.le, c.lt, c.same)) in
    let order : s -ℚ D ≤ℚ t -ℚ D = with3 s t D (λ c. omega (arith, c.le, c.lt, c.same)) in
    le_ext_trans (Fin (arrived_in (of_flow i) (view net run b) s t)) (Fin (departed_in (of_flow i) (view net run a) (s -ℚ D) (t -ℚ D))) (out (t -ℚ s)) less
    (subst (λ (x : ℚ). Fin (departed_in (of_flow i) (view net run a) (s -ℚ D) (t -ℚ D)) ≤ₑ out x) span (leaves_so (s -ℚ D) (t -ℚ D) order))
