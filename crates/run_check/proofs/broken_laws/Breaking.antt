-- A step is allowed exactly where it breaks no law.
use Rattle.std.proofs.Common.{◌≡◌, ℕ, ◌<◌, List, length, refl, sym, ap, ◌∙◌, subst, arith, inl, inr, ◌⊎◌, Some, None}
use Rattle.std.specs.Prelude.{Option}
use Rattle.std.proofs.lemmas.Bool.{cases_eq}
use Rattle.rational.specs.Rational.{ℚ, ◌+ℚ◌, ◌≤ℚ◌, ◌<ℚ◌}
use Rattle.rational.proofs.Laws.{le_of_not_lt, lt_of_not_le, not_le_of_lt}
use Rattle.run_laws.specs.declared.steps.Step.{Step}
use Rattle.run_laws.specs.declared.steps.Step.TheVariants.{Enter, Reach, Work, Leave, Visit}
use Rattle.run_laws.specs.Cards.{Card, whole, size}
use Rattle.run_laws.specs.Servers.{Under}
use Rattle.run_laws.specs.Allows.{IsInTime, KeepsPace, MayArrive, next_card, pick}
use Rattle.run_laws.specs.Routes.{Routes, route_of, server_at, queue_at, PassesServer, first_server}
use Rattle.run_laws.specs.Views.{Entry, entry_of, hops_of, card_of, server_of}
use Rattle.run_laws.specs.Lawful.{Due, RunState, state_at, AllowsInRun}
use Rattle.run_laws.proofs.Entries.{entry_last}
use Rattle.run_laws.proofs.Heads.{same_some}
use Rattle.net_model.specs.stated_runs.DueSteps.{step_time}
use Rattle.net_model.proofs.stated_runs.Lists.{In, contains_in, in_contains}
use Rattle.net_model.proofs.stated_runs.GoodServers.{IsCardAt}
use Rattle.net_model.proofs.stated_runs.Routed.{place_of, first_passes}
use Rattle.run_laws.proofs.Deciding.{may_visit}
use Rattle.run_check.specs.declared.broken_laws.law.Law.{Law}
use Rattle.run_check.specs.declared.broken_laws.law.Law.TheVariants.{L1, L2, L3, L4, L5, L6, L7, L8, L9}
use Rattle.run_packets.specs.declared.place.Place.{Place}
use Rattle.run_check.specs.broken_laws.Recorded.{HasPaths, IsRecordedStep}
use Rattle.run_check.specs.broken_laws.Broken.{IsOutOfTime, IsOther, IsWrongWork, IsNotPicked, IsTooFast, Breaks}
use Rattle.run_check.proofs.broken_laws.Deciding.{holds, picked_same, due_in, may_leave}
use Rattle.run_check.specs.broken_laws.Tracked.{IsTracked}
use Rattle.run_check.proofs.broken_laws.Tracking.{under_here}
use Rattle.run_check.proofs.broken_laws.TrackedSteps.{next_in, worked_so_far}

-- ---- an allowed step breaks none
timely : (x y n e : ℚ) → n ≤ℚ x → x ≤ℚ e → (x <ℚ n) ⊎ (e <ℚ x) ⊎ ⊥ → ⊥
timely x y n e a b (inl h) = not_le_of_lt h a
timely x y n e a b (inr (inl h)) = not_le_of_lt h b
timely x y n e a b (inr (inr h)) = h

slow : (pace : Option ℚ) (a b w : ℚ) → KeepsPace pace a b w → IsTooFast pace a b w → ⊥
slow None a b w k h = h
slow (Some rate) a b w k h = not_le_of_lt h k

module _ (net : Routes) (end : ℚ) (before : List Step) (r : RunState) (tracks : List Place) (h : IsTracked net before r tracks) where
  in_time : (x : Step) → AllowsInRun net end r x → IsOutOfTime net end r x → ⊥
  in_time (Enter f p t b) a k = timely t t (state_at r (server_of net (Enter f p t b))).now end a.at_server.0.in_order a.at_server.0.in_run k
  in_time (Reach s p t) a k = timely t t (state_at r s).now end a.at_server.0.in_order a.at_server.0.in_run k
  in_time (Work s p c d w) a (inl k) = not_le_of_lt k a.at_server.0.in_order
  in_time (Work s p c d w) a (inr (inl k)) = not_le_of_lt k a.at_server.0.in_run
  in_time (Work s p c d w) a (inr (inr k)) = not_le_of_lt k a.at_server.1.ends_in_run
  in_time (Leave s p t) a k = timely t t (state_at r s).now end a.at_server.0.in_order a.at_server.0.in_run k
  in_time (Visit s q t) a k = timely t t (state_at r s).now end a.at_server.0.in_order a.at_server.0.in_run k

  right_work : (s p : ℕ) (a b w : ℚ) → AllowsInRun net end r (Work s p a b w) → IsWrongWork before r s p a b w → ⊥
  right_work s p a b w k (inl z) = not_le_of_lt k.at_server.1.forward z
  right_work s p a b w k (inr (inl z)) = not_le_of_lt k.at_server.1.some_work z
  right_work s p a b w k (inr (inr (inl z))) = not_le_of_lt z k.at_server.1.no_overlap
  right_work s p a b w k (inr (inr (inr (inl z)))) = go (state_at r s).under k.at_server.1.is_next z
    where
      go : (o : Option Under) → next_card o (server_at net s).discipline (state_at r s).inside (state_at r s).round ≡ Some (card_of net r.entered p s) → IsOther o p → ⊥
      go None e z = z
      go (Some u) e z = z (ap (λ (c : Card). c.packet) (same_some u.card (card_of net r.entered p s) e))
  right_work s p a b w k (inr (inr (inr (inr z)))) =
      let far = worked_so_far net end before r tracks h s p k.at_server.1.is_next in
      not_le_of_lt z (subst (λ y. (y +ℚ w) ≤ℚ whole (entry_of r.entered p).bits) (sym far) k.at_server.1.within_bits)

  picked : (s p : ℕ) (a b w : ℚ) → AllowsInRun net end r (Work s p a b w) → IsNotPicked net r s p → ⊥
  picked s p a b w k n = n.not_picked (sym (ap (λ o. next_card o (server_at net s).discipline (state_at r s).inside (state_at r s).round) n.idle) ∙ k.at_server.1.is_next)

  pub breaks_none : (x : Step) → AllowsInRun net end r x → (law : Law) → Breaks net end before r x law → ⊥
  breaks_none x a L1 k = in_time x a k
  breaks_none (Enter f p t b) a L2 k = k
  breaks_none (Reach s p t) a L2 k =
      let d : Due = record { packet = p; server = s; time = t } in
      let l = (h.dues d (contains_in r.due d a.known)).entered_one in omega (arith, l, k)
  breaks_none (Work s p c d w) a L2 k = let l = a.known.has_entered in omega (arith, l, k)
  breaks_none (Leave s p t) a L2 k = let l = a.known.has_entered in omega (arith, l, k)
  breaks_none (Visit s q t) a L2 k = k
  breaks_none (Enter f p t b) a L3 k = k
  breaks_none (Reach s p t) a L3 k = k a.known
  breaks_none (Work s p c d w) a L3 k = k
  breaks_none (Leave s p t) a L3 k = k
  breaks_none (Visit s q t) a L3 k = k
  breaks_none (Enter f p t b) a L4 k = k
  breaks_none (Reach s p t) a L4 k = k
  breaks_none (Work s p c d w) a L4 k = right_work s p c d w a k
  breaks_none (Leave s p t) a L4 k = k
  breaks_none (Visit s q t) a L4 k = k
  breaks_none (Enter f p t b) a L5 k = k
  breaks_none (Reach s p t) a L5 k = k
  breaks_none (Work s p c d w) a L5 k = picked s p c d w a k
  breaks_none (Leave s p t) a L5 k = k
  breaks_none (Visit s q t) a L5 k = k
  breaks_none (Enter f p t b) a L6 k = k
  breaks_none (Reach s p t) a L6 k = k
  breaks_none (Work s p c d w) a L6 k = k
  breaks_none (Leave s p t) a L6 k = k a.at_server.1
  breaks_none (Visit s q t) a L6 k = k
  breaks_none (Enter f p t b) a L7 k = k
  breaks_none (Reach s p t) a L7 k = k
  breaks_none (Work s p c d w) a L7 k = k
  breaks_none (Leave s p t) a L7 k = k
  breaks_none (Visit s q t) a L7 k = k a.at_server.1
  breaks_none (Enter f p t b) a L8 k = k
  breaks_none (Reach s p t) a L8 k = k
  breaks_none (Work s p c d w) a L8 k = slow (server_at net s).pace c d w a.at_server.1.in_pace k
  breaks_none (Leave s p t) a L8 k = k
  breaks_none (Visit s q t) a L8 k = k
  breaks_none x a L9 k = k

  -- ---- and one that breaks none is allowed
  module _ (paths : HasPaths net) where
    known_place : (p s : ℕ) → p < length r.entered → PassesServer s (hops_of net r.entered p) → Rattle.net_model.proofs.stated_runs.Routed.IsPlace net s (card_of net r.entered p s).queue
    known_place p s l k = place_of net s (hops_of net r.entered p) (paths (entry_of r.entered p).flow (h.entries p l).is_live).hops_are k

    timed : (x : Step) → (IsOutOfTime net end r x → ⊥) → IsInTime end (state_at r (server_of net x)) (step_time x)
    timed x n = record { in_order = le_of_not_lt (λ k. n (inl k)); in_run = le_of_not_lt (λ k. n (inr (inl k))) }

    allows_enter : (f p : ℕ) (t : ℚ) (b : ℕ) → IsRecordedStep net r.entered (Enter f p t b) → ((law : Law) → Breaks net end before r (Enter f p t b) law → ⊥)
        → AllowsInRun net end r (Enter f p t b)
    allows_enter f p t b k n =
        let path = paths f k.is_live in
        let s0 = first_server (route_of net f).hops in
        let first = first_passes (route_of net f).hops path.some in
        let place = place_of net s0 (route_of net f).hops path.hops_are first.0 in
        let e : Entry = record { flow = f; bits = b } in
        let last = entry_last r.entered e p k.in_turn in
        record {
          known = record { in_turn = k.in_turn; is_live = k.is_live; has_path = first.1 };
          known_server = place.known_server;
          at_server = (
            timed (Enter f p t b) (n L1),
            subst (λ (i : Entry). MayArrive (server_at net s0).discipline
                (let z : Card = record { packet = p; flow = i.flow; queue = queue_at s0 (route_of net i.flow).hops; bits = i.bits } in z)) (sym last)
                record { known_queue = place.known_queue; some_bits = k.some_bits },
          );
        }

    allows_reach : (s p : ℕ) (t : ℚ) → IsRecordedStep net r.entered (Reach s p t) → ((law : Law) → Breaks net end before r (Reach s p t) law → ⊥)
        → AllowsInRun net end r (Reach s p t)
    allows_reach s p t k n =
        let d : Due = record { packet = p; server = s; time = t } in
        let there : In r.due d = holds (due_in r.due d) (λ m. n L3 (λ c. m (contains_in r.due d c))) in
        let way = h.dues d there in
        let place = known_place p s way.entered_one way.passes in
        record {
          known = in_contains r.due d there;
          known_server = k;
          at_server = (timed (Reach s p t) (n L1), record { known_queue = place.known_queue; some_bits = (h.entries p way.entered_one).some_bits });
        }

    next_one : (s p : ℕ) → ((state_at r s).under ≡ None → pick (server_at net s).discipline (state_at r s).inside (state_at r s).round ≡ Some (card_of net r.entered p s))
        → (IsOther (state_at r s).under p → ⊥) → next_card (state_at r s).under (server_at net s).discipline (state_at r s).inside (state_at r s).round ≡ Some (card_of net r.entered p s)
    next_one s p idle other = go (state_at r s).under refl other
      where
        go : (o : Option Under) → (state_at r s).under ≡ o → (IsOther o p → ⊥) → next_card o (server_at net s).discipline (state_at r s).inside (state_at r s).round ≡ Some (card_of net r.entered p s)
        go None e n = idle e
        go (Some u) e n =
            let same : u.card.packet ≡ p = elim (cases_eq u.card.packet p) [ inl i ↦ i | inr m ↦ absurd (n m) ] in
            ap Some ((under_here net before r tracks h s u e).card.is ∙ ap (λ q. card_of net r.entered q s) same)

    paced : (pace : Option ℚ) (a b w : ℚ) → (IsTooFast pace a b w → ⊥) → KeepsPace pace a b w
    paced None a b w n = tt
    paced (Some rate) a b w n = le_of_not_lt n

    allows_work : (s p : ℕ) (a b w : ℚ) → IsRecordedStep net r.entered (Work s p a b w) → ((law : Law) → Breaks net end before r (Work s p a b w) law → ⊥)
        → AllowsInRun net end r (Work s p a b w)
    allows_work s p a b w k n =
        let c = card_of net r.entered p s in
        let is_next = next_one s p (λ e. holds (picked_same (pick (server_at net s).discipline (state_at r s).inside (state_at r s).round) c) (λ m. n L5 record { idle = e; not_picked = m }))
        (λ o. n L4 (inr (inr (inr (inl o))))) in
        let here = h.cards s c (next_in net end before r tracks h s c is_next) in
        let far = worked_so_far net end before r tracks h s p is_next in
        record {
          known = record { has_entered = here.card.entered_one; passes = here.card.passes };
          known_server = k;
          at_server = (
            timed (Work s p a b w) (n L1),
            record {
              no_overlap = le_of_not_lt (λ z. n L4 (inr (inr (inl z))));
              forward = lt_of_not_le (λ z. n L4 (inl z));
              ends_in_run = le_of_not_lt (λ z. n L1 (inr (inr z)));
              some_work = lt_of_not_le (λ z. n L4 (inr (inl z)));
              in_pace = paced (server_at net s).pace a b w (n L8);
              is_next = is_next;
              within_bits = subst (λ y. (y +ℚ w) ≤ℚ size c) far (le_of_not_lt (λ z. n L4 (inr (inr (inr (inr z))))));
            },
          );
        }

    allows_leave : (s p : ℕ) (t : ℚ) → IsRecordedStep net r.entered (Leave s p t) → ((law : Law) → Breaks net end before r (Leave s p t) law → ⊥)
        → AllowsInRun net end r (Leave s p t)
    allows_leave s p t k n =
        let c = card_of net r.entered p s in
        let may = holds (may_leave (state_at r s).under c t) (n L6) in
        let here = go c t (state_at r s).under refl may in
        record { known = record { has_entered = here.entered_one; passes = here.passes }; known_server = k; at_server = (timed (Leave s p t) (n L1), may) }
      where
        go : (c : Card) (t : ℚ) (o : Option Under) → (state_at r s).under ≡ o → Rattle.run_laws.specs.Allows.MayLeave o c t → IsCardAt net r.entered s c
        go c t None e m = absurd m
        go c t (Some u) e m = subst (IsCardAt net r.entered s) m.is_card (under_here net before r tracks h s u e).card

    pub allows : (x : Step) → IsRecordedStep net r.entered x → ((law : Law) → Breaks net end before r x law → ⊥) → AllowsInRun net end r x
    allows (Enter f p t b) k n = allows_enter f p t b k n
    allows (Reach s p t) k n = allows_reach s p t k n
    allows (Work s p a b w) k n = allows_work s p a b w k n
    allows (Leave s p t) k n = allows_leave s p t k n
    allows (Visit s q t) k n = record { known = tt; known_server = k; at_server = (timed (Visit s q t) (n L1), holds (may_visit (server_at net s).discipline (state_at r s) q) (n L7)) }
