-- The least delay and the least backlog over the services so far, and that each is one number.
use Rattle.std.specs.Prelude.{◌≡◌, ℕ, suc, ◌+◌, ◌*◌, ◌^◌, ◌<◌, ◌≤◌, min, List, length, get_or, Option, Some, None, MatchOption}
use Rattle.std.proofs.Common.{arith, sym, ap, ap₂, ◌∙◌, refl, subst, inl, inr}
use Rattle.std.specs.Int.{div_ceil}
use Rattle.std.proofs.lemmas.Bool.{cases_lt}
use Rattle.std.proofs.lemmas.List.{get_or_default}
use Rattle.rational.specs.Rational.{ℚ, ◌+ℚ◌, ◌*ℚ◌, ◌≤ℚ◌, ◌<ℚ◌}
use Rattle.rational.specs.Line.{line_at}
use Rattle.rational.proofs.Integers.{nat_le, nat_next}
use Rattle.rational.proofs.Linear.{with2, with5, with7}
use Rattle.min_plus.specs.Functions.{whole}
use Rattle.arrival_lines.specs.Grid.{grain, bits, speed, parts_value}
use Rattle.arrival_lines.specs.Excess.{IsExcess, IsEndless}
use Rattle.arrival_lines.specs.Delays.{IsDelayAt, IsNever}
use Rattle.arrival_lines.specs.Backlogs.{passed_value, IsBacklogAt}
use Rattle.arrival_lines.specs.Queues.{IsLeastDelay, IsLeastBacklog, AreNever, IsLeastQueue, IsUnbounded, IsKept, BoundsAreOne, lesser_stay}
use Rattle.arrival_lines.specs.declared.grid.Part.{Part}
use Rattle.arrival_lines.specs.declared.grid.Queue.{Queue}
use Rattle.arrival_lines.specs.declared.grid.Service.{Service}
use Rattle.arrival_lines.specs.declared.queues.Stay.{Stay}
use Rattle.arrival_lines.proofs.Units.{bits_add, bits_le, one_grain}
use Rattle.arrival_lines.proofs.Promised.{delay_serves, backlog_holds}

-- ---- each is one number
less_excess : (parts : List Part) (rate x y : ℕ) → IsExcess parts rate x → IsExcess parts rate y → y ≤ x
less_excess parts rate x y a b = elim (cases_lt x y) [
  | inr h ↦ h
  | inl h ↦ absurd (clash (bits x) (bits (x + 1)) (bits y) (bits 1) (speed rate *ℚ b.at) (parts_value parts b.at)
      (bits_add x 1) one_grain (bits_le (x + 1) y (omega (arith, h))) (a.over b.at b.on) b.near)
]
  where
    clash : (u v w g r p : ℚ) → v ≡ u +ℚ g → g ≡ grain → v ≤ℚ w → p ≤ℚ u +ℚ r → w +ℚ r <ℚ p +ℚ grain → ⊥
    clash u v w g r p e f h k l = let n = grain in with7 u v w g r p n (λ c. omega (arith, c.le, c.lt, c.same))

pub one_excess : (parts : List Part) (rate x y : ℕ) → IsExcess parts rate x → IsExcess parts rate y → x ≡ y
one_excess parts rate x y a b =
    let h = less_excess parts rate x y a b in
    let k = less_excess parts rate y x b a in
    omega (arith, h, k)

pub one_delay : (parts : List Part) (service : Service) (d e : ℕ) → IsDelayAt parts service d → IsDelayAt parts service e → d ≡ e
one_delay parts service d e a b =
    a.is ∙ ap (λ (n : ℕ). div_ceil ((n + service.debt) * 10 ^ 12) service.rate) (one_excess parts service.rate a.over b.over a.excess b.excess) ∙ sym b.is

less_backlog : (parts : List Part) (service : Service) (longest b c : ℕ) → IsBacklogAt parts service longest b → IsBacklogAt parts service longest c → c ≤ b
less_backlog parts service longest b c x y = elim (cases_lt b c) [
  | inr h ↦ h
  | inl h ↦ absurd (clash (whole b) (whole (b + 1)) (whole c) (passed_value service longest y.at) (parts_value parts y.at)
      (ap whole (next b) ∙ nat_next b) (nat_le (b + 1) c (omega (arith, h))) (x.over y.at y.on) y.near)
]
  where
    next : (n : ℕ) → n + 1 ≡ suc n
    next n = omega arith

    clash : (u v w m p : ℚ) → v ≡ u +ℚ whole 1 → v ≤ℚ w → p ≤ℚ u +ℚ m → w +ℚ m <ℚ p +ℚ whole 1 → ⊥
    clash u v w m p e h k l = with5 u v w m p (λ c. omega (arith, c.le, c.lt, c.same))

pub one_backlog : (parts : List Part) (service : Service) (longest b c : ℕ) → IsBacklogAt parts service longest b → IsBacklogAt parts service longest c → b ≡ c
one_backlog parts service longest b c x y =
    let h = less_backlog parts service longest b c x y in
    let k = less_backlog parts service longest c b y x in
    omega (arith, h, k)

-- where there is none there is none
never : (parts : List Part) (service : Service) (d : ℕ) → IsNever parts service → IsDelayAt parts service d → ⊥
never parts service d (inl none) is = let s = is.some in omega (arith, none, s)
never parts service d (inr far) is =
    let (t, on, past) = far (bits is.over) in
    clash (line_at (bits is.over) (speed service.rate) t) (parts_value parts t) past (is.excess.over t on)
  where
    clash : (x y : ℚ) → x <ℚ y → y ≤ℚ x → ⊥
    clash x y h k = with2 x y (λ c. omega (arith, c.le, c.lt, c.same))

-- ---- one service more
module _ (parts : List Part) (services : List Service) (longest i : ℕ) (service : Service) (is : (e : Service) → get_or services i e ≡ service) where
  here_never : IsNever parts service → (k : ℕ) (e : Service) (d : ℕ) → k ≡ i → IsDelayAt parts (get_or services k e) d → ⊥
  here_never none k e d at h = never parts service d none (subst (λ (s : Service). IsDelayAt parts s d) (is e) (subst (λ (n : ℕ). IsDelayAt parts (get_or services n e) d) at h))

  at_here : (P : Service → Type 0) (k : ℕ) (e : Service) → k ≡ i → P (get_or services k e) → P service
  at_here P k e at p = subst P (is e) (subst (λ (n : ℕ). P (get_or services n e)) at p)

  from_here : (P : Service → Type 0) (e : Service) → P service → P (get_or services i e)
  from_here P e p = subst P (sym (is e)) p

  -- that serves none
  never_more : AreNever parts services i → IsNever parts service → AreNever parts services (i + 1)
  never_more are none = record {
    never = λ k e h. elim (cases_lt k i) [
      | inl l ↦ are.never k e l
      | inr l ↦ let at : i ≡ k = omega (arith, h, l) in subst (λ (n : ℕ). IsNever parts (get_or services n e)) at (from_here (IsNever parts) e none)
    ];
  }

  delay_kept : (d : ℕ) → IsLeastDelay parts services i d → IsNever parts service → IsLeastDelay parts services (i + 1) d
  delay_kept d one none = record {
    place = one.place;
    inside = let h = one.inside in omega (arith, h);
    is = one.is;
    least = λ k e other h there. elim (cases_lt k i) [
      | inl l ↦ one.least k e other l there
      | inr l ↦ absurd (here_never none k e other (omega (arith, h, l)) there)
    ];
  }

  backlog_kept : (b : ℕ) → IsLeastBacklog parts services i longest b → IsNever parts service → IsLeastBacklog parts services (i + 1) longest b
  backlog_kept b one none = record {
    place = one.place;
    inside = let h = one.inside in omega (arith, h);
    delay = one.delay;
    served = one.served;
    is = one.is;
    least = λ k e d other h there back. elim (cases_lt k i) [
      | inl l ↦ one.least k e d other l there back
      | inr l ↦ absurd (here_never none k e d (omega (arith, h, l)) there)
    ];
  }

  -- that serves them first
  delay_first : (d : ℕ) → AreNever parts services i → IsDelayAt parts service d → IsLeastDelay parts services (i + 1) d
  delay_first d are this = record {
    place = i;
    inside = omega arith;
    is = λ e. from_here (λ (s : Service). IsDelayAt parts s d) e this;
    least = λ k e other h there. elim (cases_lt k i) [
      | inl l ↦ absurd (never parts (get_or services k e) other (are.never k e l) there)
      | inr l ↦ let m = one_delay parts service d other this (at_here (λ (s : Service). IsDelayAt parts s other) k e (omega (arith, h, l)) there) in omega (arith, m)
    ];
  }

  backlog_first : (d b : ℕ) → AreNever parts services i → IsDelayAt parts service d → IsBacklogAt parts service longest b → IsLeastBacklog parts services (i + 1) longest b
  backlog_first d b are this low = record {
    place = i;
    inside = omega arith;
    delay = d;
    served = λ e. from_here (λ (s : Service). IsDelayAt parts s d) e this;
    is = λ e. from_here (λ (s : Service). IsBacklogAt parts s longest b) e low;
    least = λ k e x other h there back. elim (cases_lt k i) [
      | inl l ↦ absurd (never parts (get_or services k e) x (are.never k e l) there)
      | inr l ↦ let m = one_backlog parts service longest b other low (at_here (λ (s : Service). IsBacklogAt parts s longest other) k e (omega (arith, h, l)) back) in omega (arith, m)
    ];
  }

  -- or as well
  delay_more : (d new all : ℕ) → IsLeastDelay parts services i d → IsDelayAt parts service new → all ≡ min d new → IsLeastDelay parts services (i + 1) all
  delay_more d new all one this e = elim (cases_lt new d) [
    | inl l ↦ let at : new ≡ all = omega (arith, e, l) in subst (λ (n : ℕ). IsLeastDelay parts services (i + 1) n) at record {
      place = i;
      inside = omega arith;
      is = λ f. from_here (λ (s : Service). IsDelayAt parts s new) f this;
      least = λ k f other h there. elim (cases_lt k i) [
        | inl m ↦ let n = one.least k f other m there in omega (arith, n, l)
        | inr m ↦ let n = one_delay parts service new other this (at_here (λ (s : Service). IsDelayAt parts s other) k f (omega (arith, h, m)) there) in omega (arith, n)
      ];
    }
    | inr l ↦ let at : d ≡ all = omega (arith, e, l) in subst (λ (n : ℕ). IsLeastDelay parts services (i + 1) n) at record {
      place = one.place;
      inside = let h = one.inside in omega (arith, h);
      is = one.is;
      least = λ k f other h there. elim (cases_lt k i) [
        | inl m ↦ one.least k f other m there
        | inr m ↦ let n = one_delay parts service new other this (at_here (λ (s : Service). IsDelayAt parts s other) k f (omega (arith, h, m)) there) in omega (arith, n, l)
      ];
    }
  ]

  backlog_more : (d b new all : ℕ) → IsLeastBacklog parts services i longest b → IsDelayAt parts service d → IsBacklogAt parts service longest new → all ≡ min b new
      → IsLeastBacklog parts services (i + 1) longest all
  backlog_more d b new all one this low e = elim (cases_lt new b) [
    | inl l ↦ let at : new ≡ all = omega (arith, e, l) in subst (λ (n : ℕ). IsLeastBacklog parts services (i + 1) longest n) at record {
      place = i;
      inside = omega arith;
      delay = d;
      served = λ f. from_here (λ (s : Service). IsDelayAt parts s d) f this;
      is = λ f. from_here (λ (s : Service). IsBacklogAt parts s longest new) f low;
      least = λ k f x other h there back. elim (cases_lt k i) [
        | inl m ↦ let n = one.least k f x other m there back in omega (arith, n, l)
        | inr m ↦ let n = one_backlog parts service longest new other low (at_here (λ (s : Service). IsBacklogAt parts s longest other) k f (omega (arith, h, m)) back) in omega (arith, n)
      ];
    }
    | inr l ↦ let at : b ≡ all = omega (arith, e, l) in subst (λ (n : ℕ). IsLeastBacklog parts services (i + 1) longest n) at record {
      place = one.place;
      inside = let h = one.inside in omega (arith, h);
      delay = one.delay;
      served = one.served;
      is = one.is;
      least = λ k f x other h there back. elim (cases_lt k i) [
        | inl m ↦ one.least k f x other m there back
        | inr m ↦ let n = one_backlog parts service longest new other low (at_here (λ (s : Service). IsBacklogAt parts s longest other) k f (omega (arith, h, m)) back) in omega (arith, n, l)
      ];
    }
  ]

-- what is known after the first i services
abbrev pub Known : List Part → List Service → ℕ → ℕ → Option Stay → Type 0
Known parts services longest i found = MatchOption found (AreNever parts services i)
    (λ stay. IsLeastDelay parts services i stay.delay × IsLeastBacklog parts services i longest stay.backlog)

pub more_known : (parts : List Part) (services : List Service) (longest i : ℕ) (e : Service) (found new : Option Stay) → i < length services
    → MatchOption new (IsNever parts (get_or services i e)) (λ stay. IsDelayAt parts (get_or services i e) stay.delay × IsBacklogAt parts (get_or services i e) longest stay.backlog)
    → Known parts services longest i found → Known parts services longest (i + 1) (lesser_stay found new)
more_known parts services longest i e None None h none known = never_more parts services longest i (get_or services i e) (λ f. get_or_default services i f e h) known none
more_known parts services longest i e (Some old) None h none (d, b) =
    let is : (f : Service) → get_or services i f ≡ get_or services i e = λ f. get_or_default services i f e h in
    (delay_kept parts services longest i (get_or services i e) is old.delay d none, backlog_kept parts services longest i (get_or services i e) is old.backlog b none)
more_known parts services longest i e None (Some stay) h (this, low) known =
    let is : (f : Service) → get_or services i f ≡ get_or services i e = λ f. get_or_default services i f e h in
    (delay_first parts services longest i (get_or services i e) is stay.delay known this, backlog_first parts services longest i (get_or services i e) is stay.delay stay.backlog known this low)
more_known parts services longest i e (Some old) (Some stay) h (this, low) (d, b) =
    let is : (f : Service) → get_or services i f ≡ get_or services i e = λ f. get_or_default services i f e h in
    (delay_more parts services longest i (get_or services i e) is old.delay stay.delay (min old.delay stay.delay) d this refl, backlog_more parts services longest i (get_or services i e) is stay.delay old.backlog stay.backlog (min old.backlog stay.backlog) b this low refl)

-- of one service, where there is no excess
pub stay_none : (parts : List Part) (service : Service) (longest : ℕ) (over : Option ℕ) (found : Option Stay) → found ≡ None → over ≡ None
    → MatchOption over (IsEndless parts service.rate) (IsExcess parts service.rate)
    → MatchOption found (IsNever parts service) (λ stay. IsDelayAt parts service stay.delay × IsBacklogAt parts service longest stay.backlog)
stay_none parts service longest None None e f far = inr far
stay_none parts service longest over (Some s) e f far = absurd (cc)
stay_none parts service longest (Some x) None e f far = absurd (cc)

-- ---- of a queue
never_unbounded : (parts : List Part) (services : List Service) → AreNever parts services (length services) → IsUnbounded parts services
never_unbounded parts services are = record { long = λ k e d h is. absurd (never parts (get_or services k e) d (are.never k e h) is) }

pub none_unbounded : (parts : List Part) (services : List Service) (longest : ℕ) (least : Option Stay) (found : Option Queue) → found ≡ None → least ≡ None
    → Known parts services longest (length services) least → MatchOption found (IsUnbounded parts services) (λ queue. IsLeastQueue parts services longest queue)
none_unbounded parts services longest None None e f known = never_unbounded parts services known
none_unbounded parts services longest (Some s) None e f known = absurd (cc)
none_unbounded parts services longest least (Some q) e f known = absurd (cc)

pub long_unbounded : (parts : List Part) (services : List Service) (d : ℕ) → IsLeastDelay parts services (length services) d → 2 ^ 50 ≤ d → IsUnbounded parts services
long_unbounded parts services d one h = record { long = λ k e other l is. let m = one.least k e other l is in omega (arith, m, h) }

pub queue_kept : (parts : List Part) (services : List Service) (longest : ℕ) (queue : Queue) → IsLeastQueue parts services longest queue → IsKept parts services longest queue
queue_kept parts services longest queue is = record {
  soon = is.delay.place;
  soon_inside = is.delay.inside;
  delay = λ e. delay_serves parts (get_or services is.delay.place e) queue.delay (is.delay.is e);
  low = is.backlog.place;
  low_inside = is.backlog.inside;
  backlog = λ e. backlog_holds parts (get_or services is.backlog.place e) longest queue.backlog (is.backlog.is e);
}

pub bounds_are_one : BoundsAreOne
bounds_are_one parts services longest one other a b =
    let d : one.delay ≡ other.delay =
    let h = b.delay.least a.delay.place none one.delay a.delay.inside (a.delay.is none) in
    let k = a.delay.least b.delay.place none other.delay b.delay.inside (b.delay.is none) in
    omega (arith, h, k) in
    let l : one.backlog ≡ other.backlog =
    let h = b.backlog.least a.backlog.place none a.backlog.delay one.backlog a.backlog.inside (a.backlog.served none) (a.backlog.is none) in
    let k = a.backlog.least b.backlog.place none b.backlog.delay other.backlog b.backlog.inside (b.backlog.served none) (b.backlog.is none) in
    omega (arith, h, k) in
    ap₂ (λ (x y : ℕ). let q : Queue = record { delay = x; backlog = y } in q) d l
  where
    none : Service
    none = record { rate = 0; debt = 0 }
