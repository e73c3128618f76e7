-- Every turn is the time of a step, or the run's end.
use Rattle.std.specs.Prelude.{◌≡◌, ◌⊎◌, ◌≤◌, Bool, ◌&&◌, pos, List, [], ◌∷◌}
use Rattle.std.proofs.Common.{arith, refl, sym, subst, ap, ap₂, ◌∙◌, inl, inr}
use Rattle.std.proofs.lemmas.Bool.{and_from, and_left, and_right}
use Rattle.rational.specs.Rational.{ℚ, int, le_q, lt_q, ◌+ℚ◌, ◌≤ℚ◌, ◌<ℚ◌}
use Rattle.rational.proofs.Laws.{le_refl, le_trans, le_or_lt, le_of_lt, lt_le_trans, le_lt_trans, lt_trans, lt_irrefl, lt_cases, between}
use Rattle.rational.proofs.Linear.{with_atoms, with2, with4}
use Rattle.rational.proofs.Over.{le_q_out, lt_q_out, lt_q_in}
use Rattle.rational.proofs.MinMax.{le_q_not, lt_q_not}
use Rattle.run_laws.specs.Cards.{all, size, ServerStep, Arrives, Works, Leaves, Visits}
use Rattle.run_laws.specs.Servers.{Server, ServerState, start}
use Rattle.run_laws.specs.Next.{next}
use Rattle.run_laws.specs.Allows.{AllAllowed, IsLawfulView}
use Rattle.run_laws.specs.Premises.{EachArrival}
use Rattle.run_laws.proofs.Sizes.{size_nonneg, whole_lt}
use Rattle.run_laws.specs.Counts.{when, total, arrives, before, upto, arrived, worked}
use Rattle.run_laws.proofs.Cuts.{all_works}
use Rattle.run_laws.proofs.Counts.{arrived_rises, worked_rises, departed_upto}
use Rattle.run_laws.proofs.Orders.{left_upto_worked, worked_arrived}
use Rattle.run_laws.proofs.Gone.{gone_by}
use Rattle.run_laws.proofs.Sums.{when_true, when_false, when_rises}
use Rattle.flow_watch.specs.watch_laws.Affine.{EachTime, Among}
use Rattle.flow_watch.specs.watch_laws.Paces.{pace_of, pace_after, pace_before}
use Rattle.flow_watch.specs.watch_laws.Stretches.{IsStretch}
use Rattle.flow_watch.specs.watch_laws.Times.{arrival_times, leave_times, IsStepTime, TurnsAreTimes, HasArrival, IsBeginning, StretchesBegin}
use Rattle.flow_watch.proofs.watch_laws.Stretches.{last_after, none_since, each_time_map, stop}

-- ---- beginnings
arrival_is : (V : List ServerStep) (t : ℚ) → Among t (arrival_times V) → IsStepTime V t
arrival_is [] t h = absurd h
arrival_is (Arrives c u ∷ V) t h = elim h [ inl e ↦ inl e | inr k ↦ inr (arrival_is V t k) ]
arrival_is (Works c a b w ∷ V) t h = inr (inr (arrival_is V t h))
arrival_is (Leaves c u ∷ V) t h = inr (arrival_is V t h)
arrival_is (Visits q u ∷ V) t h = arrival_is V t h

leave_is : (V : List ServerStep) (t : ℚ) → Among t (leave_times V) → IsStepTime V t
leave_is [] t h = absurd h
leave_is (Arrives c u ∷ V) t h = inr (leave_is V t h)
leave_is (Works c a b w ∷ V) t h = inr (inr (leave_is V t h))
leave_is (Leaves c u ∷ V) t h = elim h [ inl e ↦ inl e | inr k ↦ inr (leave_is V t k) ]
leave_is (Visits q u ∷ V) t h = leave_is V t h

-- two tests that agree on the times of arrivals count the same
arrives_same : (p q : ℚ → Bool) (V : List ServerStep) → EachTime (λ u. p u ≡ q u) (arrival_times V) → total (arrives all p) V ≡ total (arrives all q) V
arrives_same p q [] h = refl
arrives_same p q (Arrives c t ∷ V) h = rw (h.0, arrives_same p q V h.1) refl
arrives_same p q (Works c a b w ∷ V) h = ap (λ x. int (pos 0) +ℚ x) (arrives_same p q V h)
arrives_same p q (Leaves c t ∷ V) h = ap (λ x. int (pos 0) +ℚ x) (arrives_same p q V h)
arrives_same p q (Visits k t ∷ V) h = ap (λ x. int (pos 0) +ℚ x) (arrives_same p q V h)

record IsFree (u e t : ℚ) (us : List ℚ) : Type 0 where
  after : u <ℚ t
  before_e : t ≤ℚ e
  others : EachTime (λ v. v <ℚ u ⊎ t ≤ℚ v) us

-- one of the times is u, or for a while after u there is none
free_after : (u e : ℚ) (us : List ℚ) → u <ℚ e → Among u us ⊎ ((t : ℚ) × IsFree u e t us)
free_after u e [] h = inr (e, record { after = h; before_e = le_refl e; others = tt })
free_after u e (v ∷ us) h = elim (free_after u e us h) [
  | inl a ↦ inl (inr a)
  | inr s ↦
      let (t, is) = s in
      elim (lt_cases v u) [
        | inl l ↦ inr (t, record { after = is.after; before_e = is.before_e; others = (inl l, is.others) })
        | inr d ↦ elim d [
          | inl g ↦ inl (inl (sym g))
          | inr l ↦ elim (le_or_lt t v) [
            | inl k ↦ inr (t, record { after = is.after; before_e = is.before_e; others = (inr k, is.others) })
            | inr k ↦ inr (
              v,
              record {
                after = l;
                before_e = le_trans (le_of_lt k) is.before_e;
                others = (inr (le_refl v), each_time_map (λ w. w <ℚ u ⊎ t ≤ℚ w) (λ w. w <ℚ u ⊎ v ≤ℚ w) (λ w c. elim c [ inl m ↦ inl m | inr m ↦ inr (le_trans (le_of_lt k) m) ]) us is.others);
              },
            )
          ]
        ]
      ]
]

agree : (u x t v : ℚ) → u ≤ℚ x → x ≤ℚ t → v <ℚ u ⊎ t ≤ℚ v → before x v ≡ before u v
agree u x t v h k c = elim c [
  | inl l ↦ lt_q_out v x (lt_le_trans l h) ∙ sym (lt_q_out v u l)
  | inr l ↦ lt_q_not v x (le_trans k l) ∙ sym (lt_q_not v u (le_trans h (le_trans k l)))
]

pub begins_with : (server : Server) (end : ℚ) (V : List ServerStep) (u e : ℚ) → IsLawfulView server end V → IsStretch end V u e → Among u (arrival_times V)
begins_with server end V u e h s = elim (free_after u e (arrival_times V) s.forward) [
  | inl a ↦ a
  | inr f ↦
      let (t, is) = f in
      let (x, past, early) = between u t is.after in
      let same : arrived all V x ≡ arrived all V u =
      arrives_same (before x) (before u) V (each_time_map (λ v. v <ℚ u ⊎ t ≤ℚ v) (λ v. before x v ≡ before u v) (λ v. agree u x t v (le_of_lt past) (le_of_lt early)) (arrival_times V) is.others) in
      let more = worked_rises all V u x (all_works server end (start server.discipline) V h.allowed) (le_of_lt past) in
      absurd (never (arrived all V u) (arrived all V x) (worked all V u) (worked all V x) s.caught_up same more (s.busy x past (lt_le_trans early is.before_e)))
]
  where
    never : (a b w v : ℚ) → a ≤ℚ w → b ≡ a → w ≤ℚ v → v <ℚ b → ⊥
    never a b w v i j k l = with4 a b w v (λ c. omega (arith, c.le, c.lt, c.same))

-- ---- ends
pub ends_with : (server : Server) (end : ℚ) (V : List ServerStep) (u e : ℚ) → IsLawfulView server end V → IsStretch end V u e → (e ≡ end) ⊎ Among e (leave_times V)
ends_with server end V u e h s = elim s.stops [
  | inl g ↦ inl g
  | inr g ↦
      let gone : arrived all V e ≤ℚ departed_upto all V e = gone_by server end V all (upto e) e h g (λ v l. le_q_out v e l) in
      let (x, past, early) = between u e s.forward in
      elim (last_after u e (leave_times V)) [
        | inl none ↦
            let same = none_since V u e (le_of_lt s.forward) none in
            let few = left_upto_worked server end V all u h in
            let less = s.busy x past early in
            let more = arrived_rises all V x e (le_of_lt early) in
            let rises = worked_rises all V u x (all_works server end (start server.discipline) V h.allowed) (le_of_lt past) in
            absurd (never (arrived all V x) (arrived all V e) (worked all V u) (worked all V x) (departed_upto all V u) (departed_upto all V e) gone same few rises less more)
        | inr k ↦
            let (l, is) = k in
            elim (lt_cases l e) [
              | inl m ↦
                  let same = none_since V l e (le_of_lt m) is.others in
                  let few = left_upto_worked server end V all l h in
                  let more = arrived_rises all V l e (le_of_lt m) in
                  absurd (not_here (arrived all V l) (arrived all V e) (worked all V l) (departed_upto all V l) (departed_upto all V e) gone same few more (s.busy l is.after m))
              | inr d ↦ elim d [
                | inl q ↦ inr (subst (λ z. Among z (leave_times V)) q is.among)
                | inr m ↦ absurd (lt_irrefl e (lt_le_trans m is.upto_t))
              ]
            ]
      ]
]
  where
    never : (a b w v d c : ℚ) → b ≤ℚ c → c ≡ d → d ≤ℚ w → w ≤ℚ v → v <ℚ a → a ≤ℚ b → ⊥
    never a b w v d c i j k l m n = lt_irrefl v (lt_le_trans m (le_trans n (le_trans i (subst (λ z. z ≤ℚ v) (sym j) (le_trans k l)))))

    not_here : (a b w d c : ℚ) → b ≤ℚ c → c ≡ d → d ≤ℚ w → a ≤ℚ b → w <ℚ a → ⊥
    not_here a b w d c i j k m n = lt_irrefl w (lt_le_trans n (le_trans m (le_trans i (subst (λ z. z ≤ℚ w) (sym j) k))))

-- ---- changes of the pace
pub work_same : (a b w t : ℚ) → (t ≡ a) ⊎ (t ≡ b)
    ⊎ (when (lt_q a t && le_q t b) (pace_of a b w) ≡ when (le_q a t && lt_q t b) (pace_of a b w))
work_same a b w t = elim (lt_cases t a) [
  | inl l ↦ inr (inr (when_false _ (pace_of a b w) (and_left (lt_q a t) (le_q t b) (lt_q_not a t (le_of_lt l))) ∙ sym (when_false _ (pace_of a b w) (and_left (le_q a t) (lt_q t b) (le_q_not a t l)))))
  | inr d ↦ elim d [
    | inl e ↦ inl e
    | inr l ↦ elim (lt_cases t b) [
      | inl m ↦ inr (inr (when_true _ (pace_of a b w) (and_from (lt_q a t) (le_q t b) (lt_q_out a t l) (le_q_out t b (le_of_lt m))) ∙ sym (when_true _ (pace_of a b w) (and_from (le_q a t) (lt_q t b) (le_q_out a t (le_of_lt l)) (lt_q_out t b m)))))
      | inr c ↦ elim c [
        | inl e ↦ inr (inl e)
        | inr m ↦ inr (inr (when_false _ (pace_of a b w) (and_right (lt_q a t) (le_q t b) (le_q_not t b m)) ∙ sym (when_false _ (pace_of a b w) (and_right (le_q a t) (lt_q t b) (lt_q_not t b (le_of_lt m))))))
      ]
    ]
  ]
]

change_at : (V : List ServerStep) (t : ℚ) → IsStepTime V t ⊎ (pace_before V t ≡ pace_after V t)
change_at [] t = inr refl
change_at (Arrives c u ∷ V) t = elim (change_at V t) [ inl h ↦ inl (inr h) | inr e ↦ inr (ap (λ x. int (pos 0) +ℚ x) e) ]
change_at (Works c a b w ∷ V) t = elim (work_same a b w t) [
  | inl e ↦ inl (inl e)
  | inr d ↦ elim d [
    | inl e ↦ inl (inr (inl e))
    | inr f ↦ elim (change_at V t) [ inl h ↦ inl (inr (inr h)) | inr e ↦ inr (ap₂ (λ (x y : ℚ). x +ℚ y) f e) ]
  ]
]
change_at (Leaves c u ∷ V) t = elim (change_at V t) [ inl h ↦ inl (inr h) | inr e ↦ inr (ap (λ x. int (pos 0) +ℚ x) e) ]
change_at (Visits q u ∷ V) t = elim (change_at V t) [ inl h ↦ inl h | inr e ↦ inr (ap (λ x. int (pos 0) +ℚ x) e) ]

pub turns_are_times : TurnsAreTimes
turns_are_times server end V t h turn = elim turn [
  | inl b ↦ let (e, s) = b in inr (arrival_is V t (begins_with server end V t e h s))
  | inr d ↦ elim d [
    | inl f ↦ let (u, s) = f in elim (ends_with server end V u t h s) [ inl g ↦ inl g | inr a ↦ inr (leave_is V t a) ]
    | inr c ↦ elim (change_at V t) [ inl k ↦ inr k | inr e ↦ absurd (c e) ]
  ]
]

-- ---- where a stretch begins
nothing_first : (x y : ℚ) → x <ℚ y → int (pos 0) +ℚ x <ℚ int (pos 0) +ℚ y
nothing_first x y h = with2 x y (λ c. omega (arith, c.le, c.lt, c.same))

has_arrival : (V : List ServerStep) (t : ℚ) → Among t (arrival_times V) → HasArrival V t
has_arrival [] t h = h
has_arrival (Arrives c u ∷ V) t h = elim h [ inl e ↦ inl e | inr k ↦ inr (has_arrival V t k) ]
has_arrival (Works c a b w ∷ V) t h = has_arrival V t h
has_arrival (Leaves c u ∷ V) t h = has_arrival V t h
has_arrival (Visits q u ∷ V) t h = has_arrival V t h

-- each packet that arrives has some bits
some_bits : (server : Server) (end : ℚ) (σ : ServerState) (V : List ServerStep) → AllAllowed server end σ V → EachArrival (λ c. 1 ≤ c.bits) V
some_bits server end σ [] a = tt
some_bits server end σ (Arrives c t ∷ V) a = (a.0.1.some_bits, some_bits server end (next server.discipline σ (Arrives c t)) V a.1)
some_bits server end σ (Works c x b w ∷ V) a = some_bits server end (next server.discipline σ (Works c x b w)) V a.1
some_bits server end σ (Leaves c t ∷ V) a = some_bits server end (next server.discipline σ (Leaves c t)) V a.1
some_bits server end σ (Visits q t ∷ V) a = some_bits server end (next server.discipline σ (Visits q t)) V a.1

-- after an arrival more has arrived than before it
arrived_more : (V : List ServerStep) (u t : ℚ) → EachArrival (λ c. 1 ≤ c.bits) V → HasArrival V u → u <ℚ t → arrived all V u <ℚ arrived all V t
arrived_more [] u t h k l = absurd k
arrived_more (Arrives c v ∷ V) u t h k l = elim k [
  | inl e ↦
      let none : when (all c && before u v) (size c) ≡ int (pos 0) = when_false (all c && before u v) (size c) (and_right (all c) (before u v) (lt_q_not v u (subst (λ x. u ≤ℚ x) e (le_refl u)))) in
      let some : when (all c && before t v) (size c) ≡ size c = when_true (all c && before t v) (size c) (and_from (all c) (before t v) refl (lt_q_out v t (subst (λ x. x <ℚ t) e l))) in
      gains (when (all c && before u v) (size c)) (when (all c && before t v) (size c)) (size c) (arrived all V u) (arrived all V t) none some (whole_lt 0 c.bits h.0) (arrived_rises all V u t (le_of_lt l))
  | inr m ↦
      let term = when_rises (all c) (before u v) (before t v) (size c) (size_nonneg c) (λ p. lt_q_out v t (lt_trans (lt_q_in v u p) l)) in
      keeps (when (all c && before u v) (size c)) (when (all c && before t v) (size c)) (arrived all V u) (arrived all V t) term (arrived_more V u t h.1 m l)
]
  where
    gains : (a b s x y : ℚ) → a ≡ int (pos 0) → b ≡ s → int (pos 0) <ℚ s → x ≤ℚ y → a +ℚ x <ℚ b +ℚ y
    gains a b s x y e f g h = with_atoms (a ∷ b ∷ s ∷ x ∷ y ∷ []) (λ c. omega (arith, c.le, c.lt, c.same))

    keeps : (a b x y : ℚ) → a ≤ℚ b → x <ℚ y → a +ℚ x <ℚ b +ℚ y
    keeps a b x y h k = with4 a b x y (λ c. omega (arith, c.le, c.lt, c.same))
arrived_more (Works c a b w ∷ V) u t h k l = nothing_first (arrived all V u) (arrived all V t) (arrived_more V u t h k l)
arrived_more (Leaves c v ∷ V) u t h k l = nothing_first (arrived all V u) (arrived all V t) (arrived_more V u t h k l)
arrived_more (Visits q v ∷ V) u t h k l = nothing_first (arrived all V u) (arrived all V t) (arrived_more V u t h k l)

begins : (server : Server) (end : ℚ) (V : List ServerStep) (u : ℚ) → IsLawfulView server end V → IsBeginning end V u → (e : ℚ) × IsStretch end V u e
begins server end V u h b =
    let few = worked_arrived server end V all u h in
    let bits = some_bits server end (start server.discipline) V h.allowed in
    let (e, s) = stop server end V u h b.in_run (λ t l. le_lt_trans few (arrived_more V u t bits b.arrives l)) in
    (e, record { forward = s.later; in_run = s.in_run; busy = s.busy; caught_up = b.caught_up; stops = s.stops })

pub stretches_begin : StretchesBegin
stretches_begin server end V u h = (
  λ k. let (e, s) = k in record { arrives = has_arrival V u (begins_with server end V u e h s); in_run = lt_le_trans s.forward s.in_run; caught_up = s.caught_up },
  λ b. begins server end V u h b,
)
