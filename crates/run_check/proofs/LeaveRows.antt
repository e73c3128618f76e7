-- A row that has a packet leave.
use Rattle.std.proofs.Common.{◌≡◌, ℕ, ◌<◌, ◌≤◌, List, length, set, get_or, refl, sym, ap, ◌∙◌, subst, arith, inl, inr, Some, None, true, false}
use Rattle.std.specs.Prelude.{Option, ◌↔◌, Bool, IsTrue}
use Rattle.std.proofs.lemmas.List.{get_or-map, length-map}
use Rattle.rational.specs.Rational.{ℚ, ◌+ℚ◌}
use Rattle.run_laws.specs.declared.steps.Step.{Step}
use Rattle.run_laws.specs.declared.steps.Step.TheVariants.{Leave}
use Rattle.run_laws.specs.Cards.{Card, size}
use Rattle.run_laws.specs.Servers.{Under}
use Rattle.run_laws.specs.Allows.{MayLeave}
use Rattle.run_laws.specs.Routes.{Routes, server_at, route_of, link_at, server_after}
use Rattle.run_laws.specs.Views.{Entry, entry_of, card_of}
use Rattle.run_laws.specs.Lawful.{RunState, state_at}
use Rattle.run_check.specs.declared.broken_laws.law.Law.{Law}
use Rattle.run_check.specs.declared.broken_laws.law.Law.TheVariants.{L1, L2, L3, L4, L5, L6, L7, L8, L9}
use Rattle.run_check.specs.broken_laws.FirstBroken.{number_of, BreaksNone, BreaksFirst}
use Rattle.run_check.specs.broken_laws.Broken.{Breaks}
use Rattle.run_check.specs.broken_laws.Tracked.{place_after, IsTracked}
use Rattle.run_check.proofs.broken_laws.Tracking.{under_here}
use Rattle.run_check.specs.declared.site.Site.{Site}
use Rattle.run_check.specs.declared.walk.Walk.{Walk}
use Rattle.run_check.specs.Sites.{IsFineUnder, IsOut, GoesOff, LeaveAnswer}
use Rattle.run_check.specs.Rows.{ChangesAt, Left}
use Rattle.run_check.specs.Walks.{Keeps, Stands, Told}
use Rattle.run_check.proofs.WalkSteps.{walk_next, below_first, timely, untimely}

-- ---- what is known of packets
pub flows_long : (net : Routes) (room grid : ℕ) (most : ℚ) (before : List Step) (r : RunState) (w : Walk) → Keeps net room grid most before r w → length w.flows.items ≡ length r.entered
flows_long net room grid most before r w h = ap length h.flows ∙ length-map r.entered (λ (e : Entry). e.flow)

pub bits_long : (net : Routes) (room grid : ℕ) (most : ℚ) (before : List Step) (r : RunState) (w : Walk) → Keeps net room grid most before r w → length w.bits.items ≡ length r.entered
bits_long net room grid most before r w h = ap length h.bits ∙ length-map r.entered (λ (e : Entry). e.bits)

pub flow_at : (net : Routes) (room grid : ℕ) (most : ℚ) (before : List Step) (r : RunState) (w : Walk) (p : ℕ) → Keeps net room grid most before r w → p < length r.entered
    → get_or w.flows.items p 0 ≡ (entry_of r.entered p).flow
flow_at net room grid most before r w p h l =
    ap (λ xs. get_or xs p 0) h.flows ∙ get_or-map (λ (e : Entry). e.flow) r.entered p record { flow = 0; bits = 0 } 0 l

pub bits_at : (net : Routes) (room grid : ℕ) (most : ℚ) (before : List Step) (r : RunState) (w : Walk) (p : ℕ) → Keeps net room grid most before r w → p < length r.entered
    → get_or w.bits.items p 0 ≡ (entry_of r.entered p).bits
bits_at net room grid most before r w p h l =
    ap (λ xs. get_or xs p 0) h.bits ∙ get_or-map (λ (e : Entry). e.bits) r.entered p record { flow = 0; bits = 0 } 0 l

-- ---- whether it may leave
off_leaves : (net : Routes) (before : List Step) (r : RunState) (tracks : List Rattle.run_packets.specs.declared.place.Place.Place) (s p : ℕ) (t : ℚ) → IsTracked net before r tracks
    → GoesOff (state_at r s).under p t → MayLeave (state_at r s).under (card_of net r.entered p s) t
off_leaves net before r tracks s p t h g = go (state_at r s).under refl g
  where
    go : (o : Option Under) → (state_at r s).under ≡ o → GoesOff o p t → MayLeave o (card_of net r.entered p s) t
    go None e g = g
    go (Some u) e g =
        let is : u.card ≡ card_of net r.entered p s = (under_here net before r tracks h s u e).card.is ∙ ap (λ q. card_of net r.entered q s) g.packet in
        record { is_card = is; worked_off = g.worked_off ∙ ap size is; at_end = g.at_end }

leaves_off : (o : Option Under) (c : Card) (t : ℚ) → MayLeave o c t → GoesOff o c.packet t
leaves_off None c t m = m
leaves_off (Some u) c t m = record { packet = ap (λ (x : Card). x.packet) m.is_card; worked_off = m.worked_off ∙ ap size (sym m.is_card); at_end = m.at_end }

leave_none : (net : Routes) (end : ℚ) (before : List Step) (r : RunState) (s p : ℕ) (t : ℚ) → ¬ IsOut (state_at r s) end t → p < length r.entered
    → MayLeave (state_at r s).under (card_of net r.entered p s) t → BreaksNone net end before r (Leave s p t)
leave_none net end before r s p t n l m L1 k = timely (state_at r s) end t n k
leave_none net end before r s p t n l m L2 k = omega (arith, l, k)
leave_none net end before r s p t n l m L3 k = k
leave_none net end before r s p t n l m L4 k = k
leave_none net end before r s p t n l m L5 k = k
leave_none net end before r s p t n l m L6 k = k m
leave_none net end before r s p t n l m L7 k = k
leave_none net end before r s p t n l m L8 k = k
leave_none net end before r s p t n l m L9 k = k

below_second : (net : Routes) (end : ℚ) (before : List Step) (r : RunState) (s p : ℕ) (t : ℚ) → ¬ IsOut (state_at r s) end t
    → (other : Law) → number_of other < 2 → ¬ Breaks net end before r (Leave s p t) other
below_second net end before r s p t n L1 l k = timely (state_at r s) end t n k
below_second net end before r s p t n L2 l k = omega (arith, l)
below_second net end before r s p t n L3 l k = k
below_second net end before r s p t n L4 l k = k
below_second net end before r s p t n L5 l k = k
below_second net end before r s p t n L6 l k = omega (arith, l)
below_second net end before r s p t n L7 l k = k
below_second net end before r s p t n L8 l k = k
below_second net end before r s p t n L9 l k = k

below_sixth : (net : Routes) (end : ℚ) (before : List Step) (r : RunState) (s p : ℕ) (t : ℚ) → ¬ IsOut (state_at r s) end t → p < length r.entered
    → (other : Law) → number_of other < 6 → ¬ Breaks net end before r (Leave s p t) other
below_sixth net end before r s p t n m L1 l k = timely (state_at r s) end t n k
below_sixth net end before r s p t n m L2 l k = omega (arith, m, k)
below_sixth net end before r s p t n m L3 l k = k
below_sixth net end before r s p t n m L4 l k = k
below_sixth net end before r s p t n m L5 l k = k
below_sixth net end before r s p t n m L6 l k = omega (arith, l)
below_sixth net end before r s p t n m L7 l k = k
below_sixth net end before r s p t n m L8 l k = k
below_sixth net end before r s p t n m L9 l k = k

pub leave_refused : (net : Routes) (w after : Walk) (s p : ℕ) (t : ℚ) (k : Stands net (Leave s p t) w) (end : ℚ) (known : Bool) (law : Law) → (known ≡ true → p < length w.flows.items)
    → (known ≡ false → length w.flows.items ≤ p) → {sites : List Site} → ChangesAt (Left end known p t (Some law)) w.sites.items sites s → Told net (Leave s p t) w k end after (Some law)
leave_refused net w after s p t k end known law near_by far_by c =
    go law (c.changed.0 (server_at net s).discipline k.room (state_at k.state s) (k.keeps.sites s c.old c.was))
  where
    go : (law : Law) → LeaveAnswer (server_at net s).discipline k.room (state_at k.state s) end known p t c.new (Some law) → BreaksFirst net end k.before k.state (Leave s p t) law
    go L1 h = record { breaks = untimely (state_at k.state s) end t h; no_other = λ other l b. below_first other l }
    go L2 h =
        let long = flows_long net k.room k.grid k.most k.before k.state w k.keeps in
        let far = far_by h.1 in
        record { breaks = omega (arith, far, long); no_other = λ other l b. below_second net end k.before k.state s p t h.0 other l b }
    go L3 h = absurd h
    go L4 h = absurd h
    go L5 h = absurd h
    go L6 h =
        let long = flows_long net k.room k.grid k.most k.before k.state w k.keeps in
        let near = near_by h.1 in
        record {
          breaks = λ m. h.2 (leaves_off (state_at k.state s).under (card_of net k.state.entered p s) t m);
          no_other = λ other l b. below_sixth net end k.before k.state s p t h.0 (omega (arith, near, long)) other l b;
        }
    go L7 h = absurd h
    go L8 h = absurd h
    go L9 h = absurd h

pub leave_told : (net : Routes) (w after : Walk) (s p : ℕ) (t : ℚ) (k : Stands net (Leave s p t) w) (end : ℚ) (known : Bool) → (known ≡ true → p < length w.flows.items)
    → ChangesAt (Left end known p t None) w.sites.items after.sites.items s
    → after.places.items ≡ set w.places.items p (place_after (server_after s (route_of net (get_or w.flows.items p 0)).hops) (t +ℚ link_at net s))
    → after.flows.items ≡ w.flows.items → after.bits.items ≡ w.bits.items → Told net (Leave s p t) w k end after None
leave_told net w after s p t k end known near_by c places flows bits =
    let h = k.keeps in
    let gone = c.changed.0 (server_at net s).discipline k.room (state_at k.state s) (h.sites s c.old c.was) in
    let long = flows_long net k.room k.grid k.most k.before k.state w h in
    let near = near_by gone.is_known in
    let l : p < length k.state.entered = omega (arith, near, long) in
    let may = off_leaves net k.before k.state w.places.items s p t h.tracked gone.off in
    let none = leave_none net end k.before k.state s p t gone.timely l may in
    let flow = flow_at net k.room k.grid k.most k.before k.state w p h l in (
      none,
      walk_next net (Leave s p t) w after k end none c.old c.new c.was c.is (gone.after_it (card_of net k.state.entered p s) may)
          (subst (λ u. IsFineUnder k.grid k.most u) (sym (c.changed.1 refl)) tt)
          (places ∙ ap (λ f. set w.places.items p (place_after (server_after s (route_of net f).hops) (t +ℚ link_at net s))) flow)
          (flows ∙ h.flows) (bits ∙ h.bits),
    )

pub gone_known : (net : Routes) (w : Walk) (s p : ℕ) (t : ℚ) (k : Stands net (Leave s p t) w) (end : ℚ) (known : Bool) {sites : List Site}
    → ChangesAt (Left end known p t None) w.sites.items sites s → known ≡ true
gone_known net w s p t k end known c = (c.changed.0 (server_at net s).discipline k.room (state_at k.state s) (k.keeps.sites s c.old c.was)).is_known

pub unknown : (b : Bool) (p n : ℕ) → (IsTrue b ↔ (p < n)) → b ≡ false → n ≤ p
unknown b p n h e = elim (Rattle.std.proofs.lemmas.Bool.cases_lt p n) [
  | inl l ↦ absurd (let f : true ≡ false = sym (h.1 l) ∙ e in cc)
  | inr l ↦ l
]
