-- What one row does at its server.
use Rattle.std.proofs.Common.{◌≡◌, ℕ, refl, sym, ap, ◌∙◌, subst, arith, inl, inr, ◌⊎◌, Some, None, true, false}
use Rattle.std.specs.Prelude.{Option, ◌≢◌, ◌↔◌, Bool, IsTrue, pos}
use Rattle.std.proofs.lemmas.Bool.{cases_eq}
use Rattle.rational.specs.Rational.{ℚ, int, neg_ℚ, ◌+ℚ◌, ◌-ℚ◌, ◌/ℚ◌, ◌≤ℚ◌, ◌<ℚ◌}
use Rattle.rational.specs.Ratio.{SumFits}
use Rattle.rational.proofs.Laws.{le_of_not_lt, lt_of_not_le, lt_irrefl}
use Rattle.rational.proofs.Linear.{with2, with3, with4, with5}
use Rattle.rational.proofs.Quotients.{lt_div}
use Rattle.run_laws.specs.Cards.{Card, size, Works}
use Rattle.run_laws.specs.Servers.{Discipline, Under, ServerState, done, done_so_far}
use Rattle.run_laws.specs.Next.{next}
use Rattle.run_laws.specs.Allows.{next_card}
use Rattle.run_laws.proofs.Heads.{same_some}
use Rattle.net_model.specs.stated_runs.TimeGrids.{HasRoom, IsTime}
use Rattle.net_model.proofs.stated_runs.GridTimes.{difference_fits, rest_is_time}
use Rattle.sim_servers.specs.Queues.{served_by, StandFor, work_goes_on}
use Rattle.run_packets.specs.declared.underway.Underway.{Underway}
use Rattle.run_check.specs.declared.site.Piece.{Piece}
use Rattle.run_check.specs.declared.site.Site.{Site}
use Rattle.run_check.specs.Sites.{IsUnder, AreUnder, IsSite, IsWrong, IsOut, GoesOff, IsTakenOn, rest_by, IsOtherBy, IsWrongBy, IsFresh, IsOfPacket, IsOnGrid, IsFineUnder, IsFast}
use Rattle.run_packets.specs.Works.{IsOther, MayGo, rest_of}
use Rattle.run_check.proofs.SiteSteps.{busy_of, untrue}

pub in_time : (d : Discipline) (room : ℕ) (σ : ServerState) (site : Site) (end t : ℚ) (b : Bool) → IsSite d room σ site
    → (IsTrue b ↔ ((t <ℚ site.latest) ⊎ (end <ℚ t))) → b ≡ false → ¬ IsOut σ end t
in_time d room σ site end t b h k e (inl l) = untrue b (k.1 (inl (subst (λ z. t <ℚ z) (sym h.now) l))) e
in_time d room σ site end t b h k e (inr l) = untrue b (k.1 (inr l)) e

pub out_of_time : (d : Discipline) (room : ℕ) (σ : ServerState) (site : Site) (end t : ℚ) (b : Bool) → IsSite d room σ site
    → (IsTrue b ↔ ((t <ℚ site.latest) ⊎ (end <ℚ t))) → b ≡ true → IsOut σ end t
out_of_time d room σ site end t b h k e = elim (k.0 e) [ inl l ↦ inl (subst (λ z. t <ℚ z) h.now l) | inr l ↦ inr l ]

-- ---- a packet leaves
pub off_go : (o : Option Under) (v : Option Underway) (p : ℕ) (t : ℚ) → AreUnder o v → GoesOff o p t → MayGo v p t
off_go None v p t h g = absurd g
off_go (Some u) None p t h g = absurd h
off_go (Some u) (Some v) p t h g = record {
  packet = h.packet ∙ g.packet;
  none_left = let l = h.left in let w = g.worked_off in with3 v.left (size u.card) (done u) (λ c. omega (arith, c.le, c.lt, c.same));
  at_end = h.end ∙ sym g.at_end;
}

pub go_off : (o : Option Under) (v : Option Underway) (p : ℕ) (t : ℚ) → AreUnder o v → MayGo v p t → GoesOff o p t
go_off None None p t h g = g
go_off None (Some v) p t h g = absurd h
go_off (Some u) None p t h g = absurd h
go_off (Some u) (Some v) p t h g = record {
  packet = sym h.packet ∙ g.packet;
  worked_off = let l = h.left in let w = g.none_left in with3 v.left (size u.card) (done u) (λ c. omega (arith, c.le, c.lt, c.same));
  at_end = sym g.at_end ∙ h.end;
}

pub going : (o : Option Under) (v : Option Underway) (p : ℕ) (t : ℚ) → AreUnder o v → MayGo v p t → (u : Under) × (o ≡ Some u)
going o None p t h g = absurd g
going o (Some v) p t h g = busy_of o (Some v) h (λ e. cc)

-- ---- work
rest_same : (o : Option Under) (v : Option Underway) (fresh : ℚ) → AreUnder o v → rest_of v fresh ≡ rest_by o fresh
rest_same None None fresh h = refl
rest_same None (Some v) fresh h = absurd h
rest_same (Some u) None fresh h = absurd h
rest_same (Some u) (Some v) fresh h = h.left

by_other : (o : Option Under) (v : Option Underway) (p : ℕ) → AreUnder o v → IsOtherBy o p → IsOther v p
by_other None v p h n = absurd n
by_other (Some u) None p h n = absurd h
by_other (Some u) (Some v) p h n = λ e. n (sym h.packet ∙ e)

-- work that is not wrong takes time
pub runs_forward : (site : Site) (w : Piece) (rest : ℚ) → (IsWrong site w rest → ⊥) → w.start <ℚ w.end
runs_forward site w rest n = lt_of_not_le (λ l. n (inl l))

pub by_wrong : (d : Discipline) (room : ℕ) (σ : ServerState) (site : Site) (w : Piece) (fresh rest : ℚ) → IsSite d room σ site → rest ≡ rest_of site.under fresh
    → IsWrongBy σ w fresh → IsWrong site w rest
by_wrong d room σ site w fresh rest h e (inl k) = inl k
by_wrong d room σ site w fresh rest h e (inr (inl k)) = inr (inl k)
by_wrong d room σ site w fresh rest h e (inr (inr (inl k))) = inr (inr (inl (subst (λ z. w.start <ℚ z) (sym h.busy) k)))
by_wrong d room σ site w fresh rest h e (inr (inr (inr (inl k)))) = inr (inr (inr (inl (by_other σ.under site.under w.packet h.under k))))
by_wrong d room σ site w fresh rest h e (inr (inr (inr (inr k)))) = inr (inr (inr (inr (subst (λ z. z <ℚ w.bits) (sym (e ∙ rest_same σ.under site.under fresh h.under)) k))))

-- the packet under way is taken on
pub goes_on : (d : Discipline) (room : ℕ) (σ : ServerState) (site : Site) (p : ℕ) → IsSite d room σ site → site.under ≢ None → IsTakenOn d room σ site site p
goes_on d room σ site p h n =
    let (u, e) = busy_of σ.under site.under h.under n in
    record {
      card = u.card;
      next_one = ap (λ o. next_card o d σ.inside σ.round) e;
      packet = λ i. absurd (let f : Some u ≡ None = sym e ∙ i in cc);
      queues = λ a b w. subst (λ z. StandFor site.queues (next z σ (Works u.card a b w))) h.serves (work_goes_on site.queues σ u a b w h.queues e);
      serves = h.serves;
      has_room = h.has_room;
      under = refl;
    }

-- and is the one that is meant
pub right_card : (d : Discipline) (room : ℕ) (σ : ServerState) (before taken : Site) (w : Piece) (fresh : ℚ) → (k : IsTakenOn d room σ before taken w.packet)
    → ¬ IsWrongBy σ w fresh → k.card.packet ≡ w.packet
right_card d room σ before taken w fresh k n = go σ.under refl k.next_one (λ z. n (inr (inr (inr (inl z)))))
  where
    go : (o : Option Under) → σ.under ≡ o → next_card o d σ.inside σ.round ≡ Some k.card → (IsOtherBy o w.packet → ⊥) → k.card.packet ≡ w.packet
    go None e i m = k.packet e
    go (Some u) e i m = ap (λ (c : Card). c.packet) (sym (same_some u.card k.card i)) ∙ elim (cases_eq u.card.packet w.packet) [ inl z ↦ z | inr z ↦ absurd (m z) ]

-- work in time on a packet that is known, right by itself, and taken on
abbrev pub of_packet : (d : Discipline) (room : ℕ) (σ : ServerState) (before taken : Site) (end : ℚ) (known : Bool) (fresh : ℚ) (w : Piece) → ¬ IsOut σ end w.start → ¬ (end <ℚ w.end)
    → known ≡ true → ¬ IsWrongBy σ w fresh → IsTakenOn d room σ before taken w.packet → IsOfPacket d σ end known fresh w
of_packet d room σ before taken end known fresh w timely ends is_known right k = record {
  timely = timely;
  ends = ends;
  is_known = is_known;
  right = right;
  card = k.card;
  packet = right_card d room σ before taken w fresh k right;
  next_one = k.next_one;
}

-- what is yet to be worked
pub rest_left : (d : Discipline) (σ : ServerState) (c : Card) (v : Option Underway) (p : ℕ) (fresh bits rest : ℚ) → AreUnder σ.under v → next_card σ.under d σ.inside σ.round ≡ Some c
    → c.packet ≡ p → IsFresh d σ p fresh → rest ≡ rest_of v fresh → rest -ℚ bits ≡ size c -ℚ (done_so_far σ.under +ℚ bits)
rest_left d σ c v p fresh bits rest h i is f e = go σ.under v refl h i (e ∙ rest_same σ.under v fresh h)
  where
    go : (o : Option Under) (v : Option Underway) → σ.under ≡ o → AreUnder o v → next_card o d σ.inside σ.round ≡ Some c → rest ≡ rest_by o fresh
        → rest -ℚ bits ≡ size c -ℚ (done_so_far o +ℚ bits)
    go None v k h i e =
        let all = f k c is i in
        with4 rest bits (size c) fresh (λ c. omega (arith, c.le, c.lt, c.same))
    go (Some u) v k h i e =
        let same : size u.card ≡ size c = ap size (same_some u.card c i) in
        with5 rest bits (size c) (done u) (size u.card) (λ c. omega (arith, c.le, c.lt, c.same))

pub worked : (d : Discipline) (room : ℕ) (σ : ServerState) (before taken after : Site) (w : Piece) (fresh rest left : ℚ) → IsSite d room σ before → IsFresh d σ w.packet fresh
    → rest ≡ rest_of before.under fresh → (k : IsTakenOn d room σ before taken w.packet) → ¬ IsWrongBy σ w fresh → left ≡ rest -ℚ w.bits
    → after.latest ≡ w.start → after.busy ≡ w.end → after.queues ≡ taken.queues → after.under ≡ Some record { packet = w.packet; left = left; end = w.end }
    → IsSite d room (next d σ (Works k.card w.start w.end w.bits)) after
worked d room σ before taken after w fresh rest left h f e k n l latest busy queues under =
    let same = right_card d room σ before taken w fresh k n in
    let new : Under = record { card = k.card; before = done_so_far σ.under; last = record { start = w.start; end = w.end; bits = w.bits } } in
    let now : IsUnder new record { packet = w.packet; left = left; end = w.end } = record {
      packet = sym same;
      left = l ∙ rest_left d σ k.card before.under w.packet fresh w.bits rest h.under k.next_one same f e;
      end = refl;
    } in
    record {
      now = latest;
      busy = busy;
      under = subst (AreUnder (Some new)) (sym under) now;
      queues = subst (λ z. StandFor z (next d σ (Works k.card w.start w.end w.bits))) (sym queues) (k.queues w.start w.end w.bits);
      serves = ap served_by queues ∙ k.serves;
      has_room = ap Rattle.sim_servers.specs.Queues.room_of queues ∙ k.has_room;
    }

-- ---- numbers
rest_fine : (grid : ℕ) (most : ℚ) (v : Option Underway) (fresh : ℚ) → IsFineUnder grid most v → IsTime grid most fresh → IsTime grid most (rest_of v fresh)
rest_fine grid most None fresh h k = k
rest_fine grid most (Some v) fresh h k = h

some_bits : (site : Site) (w : Piece) (rest : ℚ) → ¬ IsWrong site w rest → int (pos 0) <ℚ w.bits
some_bits site w rest n = lt_of_not_le (λ z. n (inr (inl z)))

enough : (site : Site) (w : Piece) (rest : ℚ) → ¬ IsWrong site w rest → w.bits ≤ℚ rest
enough site w rest n = le_of_not_lt (λ z. n (inr (inr (inr (inr z)))))

pub rest_fits : (grid : ℕ) (most : ℚ) (site : Site) (fresh rest : ℚ) (w : Piece) → HasRoom grid most → IsOnGrid grid most site fresh w → rest ≡ rest_of site.under fresh
    → ¬ IsWrong site w rest → SumFits rest (neg_ℚ w.bits)
rest_fits grid most site fresh rest w room g e n =
    difference_fits grid most rest w.bits room (subst (IsTime grid most) (sym e) (rest_fine grid most site.under fresh g.site_is g.fresh_is)) (g.bits_are (some_bits site w rest n))

pub left_fine : (grid : ℕ) (most : ℚ) (site : Site) (fresh rest left : ℚ) (w : Piece) → IsOnGrid grid most site fresh w → rest ≡ rest_of site.under fresh
    → ¬ IsWrong site w rest → left ≡ rest -ℚ w.bits → IsTime grid most left
left_fine grid most site fresh rest left w g e n l =
    subst (IsTime grid most) (sym l) (rest_is_time grid most rest w.bits (subst (IsTime grid most) (sym e) (rest_fine grid most site.under fresh g.site_is g.fresh_is))
    (g.bits_are (some_bits site w rest n)) (enough site w rest n))

-- ---- paces
-- work that takes time is faster than a pace exactly where its own pace is above that
pub faster : (most : ℚ) (w : Piece) (time own : ℚ) (b : Bool) → w.start <ℚ w.end → time ≡ w.end -ℚ w.start → own ≡ w.bits /ℚ time
    → (IsTrue b ↔ (most <ℚ own)) → IsTrue b ↔ IsFast (Some most) w
faster most w time own b forward e f same =
    let some : int (pos 0) <ℚ w.end -ℚ w.start = with2 w.start w.end (λ c. omega (arith, c.le, c.lt, c.same)) in
    let is : own ≡ w.bits /ℚ (w.end -ℚ w.start) = f ∙ ap (λ t. w.bits /ℚ t) e in
    let by = lt_div w.bits (w.end -ℚ w.start) most some in (
      λ t. by.0 (subst (λ x. most <ℚ x) is (same.0 t)),
      λ l. same.1 (subst (λ x. most <ℚ x) (sym is) (by.1 l)),
    )

pub time_some : (w : Piece) (time : ℚ) → w.start <ℚ w.end → time ≡ w.end -ℚ w.start → time ≢ int (pos 0)
time_some w time forward e z =
    let some : int (pos 0) <ℚ w.end -ℚ w.start = with2 w.start w.end (λ c. omega (arith, c.le, c.lt, c.same)) in
    lt_irrefl (int (pos 0)) (subst (λ t. int (pos 0) <ℚ t) (sym e ∙ z) some)
