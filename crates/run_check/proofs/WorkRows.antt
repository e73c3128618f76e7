-- A row with work.
use Rattle.std.proofs.Common.{◌≡◌, ℕ, ◌<◌, ◌≤◌, List, length, get_or, refl, sym, ap, ◌∙◌, subst, arith, inl, inr, ◌⊎◌, Some, None, true, false}
use Rattle.std.specs.Prelude.{Option, pos, slice_get, Bool, ◌||◌, nat_le}
use Rattle.std.proofs.lemmas.Bool.{cases_eq}
use Rattle.rational.specs.Rational.{ℚ, int, ◌-ℚ◌, ◌<ℚ◌}
use Rattle.rational.proofs.Grid.{whole_int}
use Rattle.rational.proofs.Laws.{le_refl}
use Rattle.rational.proofs.Linear.{with1, with4}
use Rattle.run_laws.specs.declared.steps.Step.{Step}
use Rattle.run_laws.specs.Cards.{whole, size, Works}
use Rattle.run_laws.specs.Counts.{when}
use Rattle.run_laws.specs.Servers.{ServerState, Under, done}
use Rattle.run_laws.specs.Next.{next}
use Rattle.run_laws.specs.Allows.{next_card}
use Rattle.run_laws.specs.Routes.{Routes, server_at, route_of}
use Rattle.run_laws.specs.Views.{entry_of, card_of, hops_of}
use Rattle.run_laws.specs.Lawful.{RunState, state_at}
use Rattle.run_laws.proofs.Heads.{pick_is_head}
use Rattle.net_model.specs.stated_runs.TimeGrids.{HasRoom, IsTime}
use Rattle.net_model.proofs.stated_runs.Lists.{head_in}
use Rattle.run_check.specs.declared.broken_laws.law.Law.{Law}
use Rattle.run_check.specs.declared.broken_laws.law.Law.TheVariants.{L1, L2, L3, L4, L5, L6, L7, L8, L9}
use Rattle.run_packets.specs.declared.place.Place.TheVariants.{At}
use Rattle.run_check.specs.broken_laws.FirstBroken.{number_of, BreaksNone}
use Rattle.run_check.specs.broken_laws.Broken.{Breaks, IsWrongWork, IsNotPicked, IsTooFast}
use Rattle.run_check.specs.broken_laws.Broken as broken
use Rattle.run_check.specs.broken_laws.Tracked.{place_of, has_left, worked_of}
use Rattle.run_check.specs.broken_laws.Worked.{worked_in}
use Rattle.run_check.proofs.broken_laws.Paths.{before_self}
use Rattle.run_check.proofs.broken_laws.Tracking.{under_here, is_under}
use Rattle.run_check.proofs.broken_laws.TrackedSteps.{next_in}
use Rattle.run_check.specs.declared.site.Site.{Site}
use Rattle.run_check.specs.declared.site.Piece.{Piece}
use Rattle.run_check.specs.declared.walk.Walk.{Walk}
use Rattle.run_check.specs.Sites.{IsSite, IsOut, IsFresh, rest_by, IsOtherBy, IsWrongBy, IsOfPacket, WorkAnswer, WorkRoom}
use Rattle.run_check.specs.Rows.{ChangesAt, Worked}
use Rattle.run_check.specs.Walks.{Keeps, Stands, Told, fresh_by, fresh_for, work_of}
use Rattle.run_check.proofs.WalkSteps.{walk_next, below_first}
use Rattle.run_check.proofs.LeaveRows.{flows_long, flow_at, bits_at}

-- ---- what is yet to be worked
-- of a packet that has entered
known_fresh : (net : Routes) (room grid : ℕ) (most : ℚ) (before : List Step) (r : RunState) (w : Walk) (s p : ℕ) → Keeps net room grid most before r w → p < length r.entered
    → fresh_for net w s p ≡ fresh_by (has_left (place_of w.places.items p) (hops_of net r.entered p) s) (whole (entry_of r.entered p).bits)
known_fresh net room grid most before r w s p h l =
    let long = flows_long net room grid most before r w h in
    let near : nat_le (length w.flows.items) p ≡ false = far (length w.flows.items) p (omega (arith, l, long)) in
    ap (λ b. fresh_by (b || has_left (place_of w.places.items p) (route_of net (get_or w.flows.items p 0)).hops s) (whole (get_or w.bits.items p 0))) near
    ∙ (ap (λ f. fresh_by (has_left (place_of w.places.items p) (route_of net f).hops s) (whole (get_or w.bits.items p 0))) (flow_at net room grid most before r w p h l)
    ∙ ap (λ b. fresh_by (has_left (place_of w.places.items p) (hops_of net r.entered p) s) (whole b)) (bits_at net room grid most before r w p h l))
  where
    far : (m n : ℕ) → n < m → nat_le m n ≡ false
    far m n l = grind (arith, Rattle.std.proofs.lemmas.Bool.Decides.nat_tests)

fresh_when : (b : Bool) (z : ℚ) → fresh_by b z ≡ z -ℚ when b z
unfolding when
fresh_when true z = with1 z (λ c. omega (arith, c.le, c.lt, c.same))
fresh_when false z = with1 z (λ c. omega (arith, c.le, c.lt, c.same))

pub is_fresh : (net : Routes) (room grid : ℕ) (most : ℚ) (before : List Step) (r : RunState) (w : Walk) (s p : ℕ) → Keeps net room grid most before r w
    → IsFresh (server_at net s).discipline (state_at r s) p (fresh_for net w s p)
is_fresh net room grid most before r w s p h idle c is picked =
    let σ = state_at r s in
    let here = h.tracked.cards s c (head_in c.queue σ.inside c (pick_is_head (server_at net s).discipline σ.inside σ.round c picked)) in
    let known : p < length r.entered = subst (λ q. q < length r.entered) is here.card.entered_one in
    let place : place_of w.places.items p ≡ At s = ap (place_of w.places.items) (sym is) ∙ here.place in
    let left : has_left (place_of w.places.items p) (hops_of net r.entered p) s ≡ false = ap (λ y. has_left y (hops_of net r.entered p) s) place ∙ before_self s (hops_of net r.entered p) in
    let card : c ≡ card_of net r.entered p s = here.card.is ∙ ap (λ q. card_of net r.entered q s) is in
    known_fresh net room grid most before r w s p h known ∙ (ap (λ b. fresh_by b (whole (entry_of r.entered p).bits)) left ∙ sym (ap size card))

-- what is yet to be worked, and what has been, are all bits, where no other is under way
rest_is : (net : Routes) (room grid : ℕ) (most : ℚ) (before : List Step) (r : RunState) (w : Walk) (s p : ℕ) → Keeps net room grid most before r w → p < length r.entered
    → ¬ IsOtherBy (state_at r s).under p → rest_by (state_at r s).under (fresh_for net w s p) ≡ whole (entry_of r.entered p).bits -ℚ worked_in s p before
rest_is net room grid most before r w s p h l n = go (state_at r s).under refl n ∙ ap (λ y. whole (entry_of r.entered p).bits -ℚ y) (sym (h.tracked.worked s p l))
  where
    gone : Bool
    gone = has_left (place_of w.places.items p) (hops_of net r.entered p) s

    go : (o : Option Under) → (state_at r s).under ≡ o → (IsOtherBy o p → ⊥) → rest_by o (fresh_for net w s p)
        ≡ whole (entry_of r.entered p).bits -ℚ worked_of o p (when (has_left (place_of w.places.items p) (hops_of net r.entered p) s) (whole (entry_of r.entered p).bits))
    go None e m = known_fresh net room grid most before r w s p h l ∙ fresh_when (has_left (place_of w.places.items p) (hops_of net r.entered p) s) (whole (entry_of r.entered p).bits)
    go (Some u) e m =
        let is : u.card.packet ≡ p = elim (cases_eq u.card.packet p) [ inl i ↦ i | inr i ↦ absurd (m i) ] in
        let card : u.card ≡ card_of net r.entered p s = (under_here net before r w.places.items h.tracked s u e).card.is ∙ ap (λ q. card_of net r.entered q s) is in
        ap (λ y. y -ℚ done u) (ap size card) ∙ ap (λ y. whole (entry_of r.entered p).bits -ℚ y) (sym (is_under u p _ is))

-- ---- the tests are the laws
other_or : (o : Option Under) (p : ℕ) → IsOtherBy o p ⊎ (¬ IsOtherBy o p)
other_or None p = inr (λ h. h)
other_or (Some u) p = elim (cases_eq u.card.packet p) [ inl e ↦ inr (λ n. n e) | inr n ↦ inl n ]

same_other : (o : Option Under) (p : ℕ) → IsOtherBy o p → broken.IsOther o p
same_other None p h = h
same_other (Some u) p h = h

other_same : (o : Option Under) (p : ℕ) → broken.IsOther o p → IsOtherBy o p
other_same None p h = h
other_same (Some u) p h = h

wrong_work : (net : Routes) (room grid : ℕ) (most : ℚ) (before : List Step) (r : RunState) (w : Walk) (s : ℕ) (x : Piece) → Keeps net room grid most before r w → x.packet < length r.entered
    → IsWrongBy (state_at r s) x (fresh_for net w s x.packet) → IsWrongWork before r s x.packet x.start x.end x.bits
wrong_work net room grid most before r w s x h l (inl k) = inl k
wrong_work net room grid most before r w s x h l (inr (inl k)) = inr (inl k)
wrong_work net room grid most before r w s x h l (inr (inr (inl k))) = inr (inr (inl k))
wrong_work net room grid most before r w s x h l (inr (inr (inr (inl k)))) = inr (inr (inr (inl (same_other (state_at r s).under x.packet k))))
wrong_work net room grid most before r w s x h l (inr (inr (inr (inr k)))) = elim (other_or (state_at r s).under x.packet) [
  | inl o ↦ inr (inr (inr (inl (same_other (state_at r s).under x.packet o))))
  | inr n ↦
      let e = rest_is net room grid most before r w s x.packet h l n in
      inr (inr (inr (inr (with4 (rest_by (state_at r s).under (fresh_for net w s x.packet)) (whole (entry_of r.entered x.packet).bits) (worked_in s x.packet before) x.bits
      (λ c. omega (arith, c.le, c.lt, c.same))))))
]

work_wrong : (net : Routes) (room grid : ℕ) (most : ℚ) (before : List Step) (r : RunState) (w : Walk) (s : ℕ) (x : Piece) → Keeps net room grid most before r w → x.packet < length r.entered
    → IsWrongWork before r s x.packet x.start x.end x.bits → IsWrongBy (state_at r s) x (fresh_for net w s x.packet)
work_wrong net room grid most before r w s x h l (inl k) = inl k
work_wrong net room grid most before r w s x h l (inr (inl k)) = inr (inl k)
work_wrong net room grid most before r w s x h l (inr (inr (inl k))) = inr (inr (inl k))
work_wrong net room grid most before r w s x h l (inr (inr (inr (inl k)))) = inr (inr (inr (inl (other_same (state_at r s).under x.packet k))))
work_wrong net room grid most before r w s x h l (inr (inr (inr (inr k)))) = elim (other_or (state_at r s).under x.packet) [
  | inl o ↦ inr (inr (inr (inl o)))
  | inr n ↦
      let e = rest_is net room grid most before r w s x.packet h l n in
      inr (inr (inr (inr (with4 (rest_by (state_at r s).under (fresh_for net w s x.packet)) (whole (entry_of r.entered x.packet).bits) (worked_in s x.packet before) x.bits
      (λ c. omega (arith, c.le, c.lt, c.same))))))
]

-- ---- numbers
zero_time : (grid : ℕ) (most : ℚ) → HasRoom grid most → IsTime grid most (int (pos 0))
zero_time grid most room = record { on_grid = whole_int grid (pos 0); from_zero = le_refl (int (pos 0)); by = room.from_zero }

fresh_time : (net : Routes) (y : Step) (w : Walk) (k : Stands net y w) (s p : ℕ) → IsTime k.grid k.most (fresh_for net w s p)
fresh_time net y w k s p = go (nat_le (length w.flows.items) p) (has_left (place_of w.places.items p) (route_of net (get_or w.flows.items p 0)).hops s) refl
  where
    h : Keeps net k.room k.grid k.most k.before k.state w
    h = k.keeps

    near : nat_le (length w.flows.items) p ≡ false → p < length w.flows.items
    near e = grind (arith, Rattle.std.proofs.lemmas.Bool.Decides.nat_tests)

    go : (a b : Bool) → nat_le (length w.flows.items) p ≡ a → IsTime k.grid k.most (fresh_by (a || b) (whole (get_or w.bits.items p 0)))
    go true b e = zero_time k.grid k.most k.numbers
    go false true e = zero_time k.grid k.most k.numbers
    go false false e =
        let long = flows_long net k.room k.grid k.most k.before k.state w k.keeps in
        let l = near e in
        let known : p < length k.state.entered = omega (arith, l, long) in
        subst (λ b. IsTime k.grid k.most (whole b)) (sym (bits_at net k.room k.grid k.most k.before k.state w p k.keeps known)) (k.keeps.sizes p known)

pub work_room : (net : Routes) (w : Walk) (s : ℕ) (x : Piece) (k : Stands net (work_of s x) w) (y : Site) → slice_get w.sites.items s ≡ Some y
    → WorkRoom y (fresh_for net w s x.packet) x
work_room net w s x k y at = record {
  grid = k.grid;
  most = k.most;
  room = k.numbers;
  on_grid = record { site_is = k.keeps.fine s y at; fresh_is = fresh_time net (work_of s x) w k s x.packet; bits_are = k.fits.0 };
  paced = k.fits.1;
}

-- ---- the answer
late : (σ : ServerState) (end : ℚ) (x : Piece) → IsOut σ end x.start ⊎ (end <ℚ x.end) → (x.start <ℚ σ.now) ⊎ (end <ℚ x.start) ⊎ (end <ℚ x.end)
late σ end x (inl (inl l)) = inl l
late σ end x (inl (inr l)) = inr (inl l)
late σ end x (inr l) = inr (inr l)

not_late : (σ : ServerState) (end : ℚ) (x : Piece) → ¬ (IsOut σ end x.start ⊎ (end <ℚ x.end)) → (x.start <ℚ σ.now) ⊎ (end <ℚ x.start) ⊎ (end <ℚ x.end) → ⊥
not_late σ end x n (inl l) = n (inl (inl l))
not_late σ end x n (inr (inl l)) = n (inl (inr l))
not_late σ end x n (inr (inr l)) = n (inr l)

module _ (net : Routes) (end : ℚ) (before : List Step) (r : RunState) (s : ℕ) (x : Piece) (n : ¬ (IsOut (state_at r s) end x.start ⊎ (end <ℚ x.end))) where
  below_second : (other : Law) → number_of other < 2 → ¬ Breaks net end before r (work_of s x) other
  below_second L1 l k = not_late (state_at r s) end x n k
  below_second L2 l k = omega (arith, l)
  below_second L3 l k = k
  below_second L4 l k = omega (arith, l)
  below_second L5 l k = omega (arith, l)
  below_second L6 l k = k
  below_second L7 l k = k
  below_second L8 l k = omega (arith, l)
  below_second L9 l k = k

  module _ (m : x.packet < length r.entered) where
    below_fourth : (other : Law) → number_of other < 4 → ¬ Breaks net end before r (work_of s x) other
    below_fourth L1 l k = not_late (state_at r s) end x n k
    below_fourth L2 l k = omega (arith, m, k)
    below_fourth L3 l k = k
    below_fourth L4 l k = omega (arith, l)
    below_fourth L5 l k = omega (arith, l)
    below_fourth L6 l k = k
    below_fourth L7 l k = k
    below_fourth L8 l k = omega (arith, l)
    below_fourth L9 l k = k

    below_fifth : (IsWrongWork before r s x.packet x.start x.end x.bits → ⊥) → (other : Law) → number_of other < 5 → ¬ Breaks net end before r (work_of s x) other
    below_fifth right L1 l k = not_late (state_at r s) end x n k
    below_fifth right L2 l k = omega (arith, m, k)
    below_fifth right L3 l k = k
    below_fifth right L4 l k = right k
    below_fifth right L5 l k = omega (arith, l)
    below_fifth right L6 l k = k
    below_fifth right L7 l k = k
    below_fifth right L8 l k = omega (arith, l)
    below_fifth right L9 l k = k

    module _ (right : IsWrongWork before r s x.packet x.start x.end x.bits → ⊥)
        (picked : next_card (state_at r s).under (server_at net s).discipline (state_at r s).inside (state_at r s).round ≡ Some (card_of net r.entered x.packet s)) where
      one_picked : IsNotPicked net r s x.packet → ⊥
      one_picked k = k.not_picked (sym (ap (λ o. next_card o (server_at net s).discipline (state_at r s).inside (state_at r s).round) k.idle) ∙ picked)

      below_eighth : (other : Law) → number_of other < 8 → ¬ Breaks net end before r (work_of s x) other
      below_eighth L1 l k = not_late (state_at r s) end x n k
      below_eighth L2 l k = omega (arith, m, k)
      below_eighth L3 l k = k
      below_eighth L4 l k = right k
      below_eighth L5 l k = one_picked k
      below_eighth L6 l k = k
      below_eighth L7 l k = k
      below_eighth L8 l k = omega (arith, l)
      below_eighth L9 l k = k

      work_none : (IsTooFast (server_at net s).pace x.start x.end x.bits → ⊥) → BreaksNone net end before r (work_of s x)
      work_none paced L1 k = not_late (state_at r s) end x n k
      work_none paced L2 k = omega (arith, m, k)
      work_none paced L3 k = k
      work_none paced L4 k = right k
      work_none paced L5 k = one_picked k
      work_none paced L6 k = k
      work_none paced L7 k = k
      work_none paced L8 k = paced k
      work_none paced L9 k = k

pub work_told : (net : Routes) (w after : Walk) (s : ℕ) (x : Piece) (k : Stands net (work_of s x) w) (end : ℚ) (known : Bool) (o : Option Law) → (known ≡ true → x.packet < length w.flows.items)
    → (known ≡ false → length w.flows.items ≤ x.packet) → ChangesAt (Worked end known (fresh_for net w s x.packet) (server_at net s).pace x o) w.sites.items after.sites.items s
    → after.places.items ≡ w.places.items → after.flows.items ≡ w.flows.items → after.bits.items ≡ w.bits.items → Told net (work_of s x) w k end after o
work_told net w after s x k end known o near_by far_by c places flows bits =
    go o c.changed.fine (c.changed.told (server_at net s).discipline k.room (state_at k.state s) (h.sites s c.old c.was) (is_fresh net k.room k.grid k.most k.before k.state w s x.packet h))
  where
    h : Keeps net k.room k.grid k.most k.before k.state w
    h = k.keeps

    near : known ≡ true → x.packet < length k.state.entered
    near e = let long = flows_long net k.room k.grid k.most k.before k.state w k.keeps in let l = near_by e in omega (arith, l, long)

    -- the packet of work that may be worked
    card_is : (p : IsOfPacket (server_at net s).discipline (state_at k.state s) end known (fresh_for net w s x.packet) x) → p.card ≡ card_of net k.state.entered x.packet s
    card_is p =
        let there = next_in net end k.before k.state w.places.items h.tracked s p.card p.next_one in
        (h.tracked.cards s p.card there).card.is ∙ ap (λ q. card_of net k.state.entered q s) p.packet

    in_run : (p : IsOfPacket (server_at net s).discipline (state_at k.state s) end known (fresh_for net w s x.packet) x)
        → ¬ (IsOut (state_at k.state s) end x.start ⊎ (end <ℚ x.end))
    in_run p z = elim z [ inl i ↦ p.timely i | inr i ↦ p.ends i ]

    is_right : (p : IsOfPacket (server_at net s).discipline (state_at k.state s) end known (fresh_for net w s x.packet) x)
        → IsWrongWork k.before k.state s x.packet x.start x.end x.bits → ⊥
    is_right p z = p.right (work_wrong net k.room k.grid k.most k.before k.state w s x k.keeps (near p.is_known) z)

    go : (p : Option Law) → ((grid : ℕ) (most : ℚ) → Rattle.run_check.specs.Sites.IsOnGrid grid most c.old (fresh_for net w s x.packet) x → p ≡ None → Rattle.run_check.specs.Sites.IsFine grid most c.new)
        → WorkAnswer (server_at net s).discipline k.room (state_at k.state s) end known (fresh_for net w s x.packet) (server_at net s).pace x c.new p → Told net (work_of s x) w k end after p
    go None fine a =
        let r = k.state in
        let σ = state_at r s in
        let p = a.of_packet in
        let card = card_is p in
        let none = work_none net end k.before r s x (in_run p) (near p.is_known) (is_right p) (p.next_one ∙ ap Some card) a.in_pace in (
          none,
          walk_next net (work_of s x) w after k end none c.old c.new c.was c.is
              (subst (λ z. IsSite (server_at net s).discipline k.room (next (server_at net s).discipline σ (Works z x.start x.end x.bits)) c.new) card a.after_it)
              (fine k.grid k.most record { site_is = h.fine s c.old c.was; fresh_is = fresh_time net (work_of s x) w k s x.packet; bits_are = k.fits.0 } refl)
              places (flows ∙ h.flows) (bits ∙ h.bits),
        )
    go (Some L1) fine a = record { breaks = late (state_at k.state s) end x a; no_other = λ other l b. below_first other l }
    go (Some L2) fine a =
        let long = flows_long net k.room k.grid k.most k.before k.state w k.keeps in
        let far = far_by a.1 in
        record { breaks = omega (arith, far, long); no_other = λ other l b. below_second net end k.before k.state s x a.0 other l b }
    go (Some L3) fine a = absurd a
    go (Some L4) fine a = record {
      breaks = wrong_work net k.room k.grid k.most k.before k.state w s x k.keeps (near a.1) a.2;
      no_other = λ other l b. below_fourth net end k.before k.state s x a.0 (near a.1) other l b;
    }
    go (Some L5) fine a = record {
      breaks = record { idle = a.3; not_picked = λ e. a.4 (card_of net k.state.entered x.packet s) refl e };
      no_other = λ other l b. below_fifth net end k.before k.state s x a.0 (near a.1)
          (λ z. a.2 (work_wrong net k.room k.grid k.most k.before k.state w s x k.keeps (near a.1) z)) other l b;
    }
    go (Some L6) fine a = absurd a
    go (Some L7) fine a = absurd a
    go (Some L8) fine a =
        let p = a.0 in
        record {
          breaks = a.1;
          no_other = λ other l b. below_eighth net end k.before k.state s x (in_run p) (near p.is_known) (is_right p) (p.next_one ∙ ap Some (card_is p)) other l b;
        }
    go (Some L9) fine a = absurd a

-- the same where what is yet to be worked, and the pace, are known by their values
pub work_told_by : (net : Routes) (w after : Walk) (s : ℕ) (x : Piece) (k : Stands net (work_of s x) w) (end fresh : ℚ) (pace : Option ℚ) (known : Bool) (o : Option Law)
    → fresh ≡ fresh_for net w s x.packet → pace ≡ (server_at net s).pace
    → (known ≡ true → x.packet < length w.flows.items) → (known ≡ false → length w.flows.items ≤ x.packet) → ChangesAt (Worked end known fresh pace x o) w.sites.items after.sites.items s
    → after.places.items ≡ w.places.items → after.flows.items ≡ w.flows.items → after.bits.items ≡ w.bits.items → Told net (work_of s x) w k end after o
work_told_by net w after s x k end fresh pace known o e d near_by far_by c places flows bits =
    work_told net w after s x k end known o near_by far_by
    (subst (λ f. ChangesAt (Worked end known f (server_at net s).pace x o) w.sites.items after.sites.items s) e
    (subst (λ z. ChangesAt (Worked end known fresh z x o) w.sites.items after.sites.items s) d c)) places flows bits
