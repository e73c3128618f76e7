-- Step by step, a server of a stated run without a stall works at its rate in all open time in which it has something to
-- work on.
use Rattle.std.proofs.Common.{◌≡◌, ℕ, List, [], ◌∷◌, ◌++◌, refl, sym, ap, ◌∙◌, subst, arith, inl, inr, Some, None}
use Rattle.std.specs.Prelude.{◌≢◌, pos, true, ◌⊎◌}
use Rattle.rational.specs.Rational.{ℚ, int, ◌+ℚ◌, ◌-ℚ◌, ◌*ℚ◌, ◌/ℚ◌, ◌≤ℚ◌, ◌<ℚ◌}
use Rattle.rational.proofs.Linear.{with1, with2, with4, with5, with6, with7, with8}
use Rattle.rational.proofs.Laws.{le_trans, le_of_lt, lt_le_trans, le_or_lt, lt_irrefl, antisym, between, mul_le_mul, mul_sub, mul_add, mul_assoc, mul_comm, mul_pos, div_mul, not_zero}
use Rattle.rational.proofs.MinMax.{lt_q_not, le_q_not}
use Rattle.run_laws.specs.Cards.{Card, ServerStep, Arrives, Works, Leaves, Visits, all, size}
use Rattle.run_laws.specs.Counts.{when, arrived, worked, before}
use Rattle.run_laws.specs.Servers.{Discipline, Span, Under, ServerState, clip, done, done_so_far, head_of, without_head}
use Rattle.run_laws.specs.Next.{next}
use Rattle.run_laws.proofs.Clips.{clip_early, clip_late}
use Rattle.run_laws.proofs.Counts.{IsWork, worked_rises, worked_nonneg}
use Rattle.run_laws.proofs.Heads.{sum_of, sum_push, sum_without}
use Rattle.run_laws.proofs.Sizes.{size_nonneg}
use Rattle.run_laws.proofs.Sums.{Each, when_true, when_false, when_most}
use Rattle.net_model.specs.stated_runs.Setups.{Setup, IsSetup, IsGateOpen, IsOpen, IsFirstOpen, IsStretch, opening_of, rate_of}
use Rattle.net_model.proofs.stated_runs.Progress.{inside_cases}
use Rattle.net_model.proofs.stated_runs.Lawfulness.{under_cases}
use Rattle.sim_bounds.proofs.Levels.{clock_of, clock}
use Rattle.sim_bounds.proofs.OpenTime.{open_time, open_time_of}
use Rattle.sim_bounds.proofs.stated_service.Gains.{Gains, IsBusyWith, gains_none, glue, gains_flat}

-- what is inside, less what was worked of the packet under way
abbrev pub backlog : ServerState → ℚ
backlog σ = sum_of all σ.inside -ℚ done_so_far σ.under

-- from this state on, with the steps V to come, none of them before T
pub record IsDriven (S : Setup) (s : ℕ) (σ : ServerState) (T : ℚ) (V : List ServerStep) : Type 0 where
  pub gains : (x y : ℚ) → clock σ ≤ℚ x → x ≤ℚ y → IsBusyWith (backlog σ) V x y → Gains (rate_of S s) (open_time (opening_of S s).gate) (worked all V) x y
  pub works : Each IsWork V
  pub later : (z : ℚ) → z ≤ℚ T → arrived all V z ≡ int (pos 0)

-- the server never stalls, and its state is one of times from 0 on
pub record IsSteady (S : Setup) (s : ℕ) (σ : ServerState) : Type 0 where
  pub ok : IsSetup S
  pub no_stall : (opening_of S s).stalls ≡ []
  pub from_zero : int (pos 0) ≤ℚ clock σ

closed_gate : (S : Setup) (s : ℕ) (z : ℚ) → (opening_of S s).stalls ≡ [] → ¬ (IsOpen S s z) → ¬ (IsGateOpen (opening_of S s).gate z)
closed_gate S s z e n g = n (g, λ i. subst (λ xs. Rattle.net_model.specs.stated_runs.Setups.IsStalled xs z) e i)

-- where the server is closed no open time is added
flat : (S : Setup) (s : ℕ) (σ : ServerState) (W : ℚ → ℚ) (to x y : ℚ) → IsSteady S s σ → ((z : ℚ) → clock σ ≤ℚ z → z <ℚ to → ¬ (IsOpen S s z)) → clock σ ≤ℚ x → x ≤ℚ y → y ≤ℚ to
    → W x ≤ℚ W y → Gains (rate_of S s) (open_time (opening_of S s).gate) W x y
flat S s σ W to x y k closed h l m w =
    let time = open_time (opening_of S s).gate in
    let none = (open_time_of (opening_of S s).gate (k.ok.gates s)).flat x y (le_trans k.from_zero h) l
    (λ z p q. closed_gate S s z k.no_stall (closed z (le_trans h p) (lt_le_trans q m))) in
    gains_flat (rate_of S s) time W x y (mul_le_mul (rate_of S s) (le_of_lt (k.ok.rates s)) none) w

-- ---- an empty server is not busy before the next arrival
pub not_busy : (V : List ServerStep) (x y : ℚ) → Each IsWork V → x <ℚ y
    → ((z : ℚ) → z ≤ℚ y → arrived all V z ≡ int (pos 0)) → IsBusyWith (int (pos 0)) V x y → ⊥
not_busy V x y works l early busy =
    let z = (between x y l).0 in
    let p = (between x y l).1 in
    let q = (between x y l).2 in
    let b = busy z p q in
    let w = worked_nonneg all V z works in
    let a = early z (le_of_lt q) in
    lt_irrefl (int (pos 0)) (with2 (worked all V z) (arrived all V z) (λ c. omega (arith, c.le, c.lt, c.same)))

pub backlog_zero : (σ : ServerState) → σ.inside ≡ [] → σ.under ≡ None → backlog σ ≡ int (pos 0)
backlog_zero σ e f =
    let a : sum_of all σ.inside ≡ int (pos 0) = ap (sum_of all) e in
    let b : done_so_far σ.under ≡ int (pos 0) = ap done_so_far f in
    antisym (with2 (sum_of all σ.inside) (done_so_far σ.under) (λ c. omega (arith, c.le, c.lt, c.same)))

-- ---- at the end nothing is there
pub driven_end : (S : Setup) (s : ℕ) (σ : ServerState) (T : ℚ) → σ.inside ≡ [] → σ.under ≡ None → IsDriven S s σ T []
driven_end S s σ T empty idle = record {
  gains = λ x y h l busy. elim (le_or_lt y x) [
    | inl back ↦ gains_none (rate_of S s) (open_time (opening_of S s).gate) (worked all []) x y (antisym (l, back))
    | inr ahead ↦ absurd (not_busy [] x y tt ahead (λ z k. refl) (subst (λ β. IsBusyWith β [] x y) (backlog_zero σ empty idle) busy))
  ];
  works = tt;
  later = λ z k. refl;
}

-- a step that is no work adds nothing to the work
pub same_gains : (R : ℚ) (O : ℚ → ℚ) (x y a b : ℚ) → R *ℚ O y +ℚ a ≤ℚ R *ℚ O x +ℚ b → R *ℚ O y +ℚ (int (pos 0) +ℚ a) ≤ℚ R *ℚ O x +ℚ (int (pos 0) +ℚ b)
same_gains R O x y a b h = with4 (R *ℚ O x) (R *ℚ O y) a b (λ c. omega (arith, c.le, c.lt, c.same))

-- ---- a packet arrives
arrive_step : (S : Setup) (s : ℕ) (d : Discipline) (σ : ServerState) (T : ℚ) (V : List ServerStep) (c : Card) (t x y : ℚ) → IsDriven S s (next d σ (Arrives c t)) t V
    → clock (next d σ (Arrives c t)) ≤ℚ x → x ≤ℚ y → IsBusyWith (backlog σ) (Arrives c t ∷ V) x y
    → Gains (rate_of S s) (open_time (opening_of S s).gate) (worked all (Arrives c t ∷ V)) x y
arrive_step S s d σ T V c t x y k h l busy =
    let more = sum_push all σ.inside c in
    let own : when (all c) (size c) ≡ size c = when_true true (size c) refl in
    same_gains (rate_of S s) (open_time (opening_of S s).gate) x y (worked all V x) (worked all V y) (k.gains x y h l (λ z p q.
    let b = busy z p q in
    let most = when_most (before z t) (size c) (size_nonneg c) in
    with8 (worked all V z) (when (all c) (size c)) (sum_of all σ.inside) (sum_of all (σ.inside ++ c ∷ [])) (done_so_far σ.under) (when (before z t) (size c)) (size c) (arrived all V z) (λ o. omega (arith, o.le, o.lt, o.same))))

pub driven_arrive : (S : Setup) (s : ℕ) (d : Discipline) (σ : ServerState) (T : ℚ) (V : List ServerStep) (c : Card) (t : ℚ) → IsSteady S s σ → T ≤ℚ t
    → (σ.under ≡ None → σ.inside ≢ [] → (z : ℚ) → σ.now ≤ℚ z → z <ℚ t → ¬ (IsOpen S s z)) → IsDriven S s (next d σ (Arrives c t)) t V
    → IsDriven S s σ T (Arrives c t ∷ V)
driven_arrive S s d σ T V c t st late closed k = record {
  gains = gains (under_cases σ.under);
  works = (tt, k.works);
  later = λ z l. none z (le_trans l late);
}
  where
    X : List ServerStep
    X = Arrives c t ∷ V

    none : (z : ℚ) → z ≤ℚ t → arrived all (Arrives c t ∷ V) z ≡ int (pos 0)
    none z l =
        let a : when (before z t) (size c) ≡ int (pos 0) = when_false (before z t) (size c) (lt_q_not t z l) in
        let b = k.later z l in
        antisym (with2 (when (before z t) (size c)) (arrived all V z) (λ o. omega (arith, o.le, o.lt, o.same)))

    grown : (x y : ℚ) → x ≤ℚ y → worked all (Arrives c t ∷ V) x ≤ℚ worked all (Arrives c t ∷ V) y
    grown x y l = worked_rises all (Arrives c t ∷ V) x y (tt, k.works) l

    gains : (σ.under ≡ None) ⊎ ((u : Under) × (σ.under ≡ Some u)) → (x y : ℚ) → clock σ ≤ℚ x → x ≤ℚ y → IsBusyWith (backlog σ) (Arrives c t ∷ V) x y
        → Gains (rate_of S s) (open_time (opening_of S s).gate) (worked all (Arrives c t ∷ V)) x y
    gains (inr u) x y h l busy =
        let same : clock_of σ.under σ.now ≡ clock_of σ.under t = ap (λ o. clock_of o σ.now) u.1 ∙ sym (ap (λ o. clock_of o t) u.1) in
        arrive_step S s d σ T V c t x y k (subst (λ i. i ≤ℚ x) same h) l busy
    gains (inl idle) x y h l busy =
        let now : clock σ ≡ σ.now = ap (λ o. clock_of o σ.now) idle in
        let then : t ≡ clock (next d σ (Arrives c t)) = sym (ap (λ o. clock_of o t) idle) in
        glue (rate_of S s) (open_time (opening_of S s).gate) (worked all (Arrives c t ∷ V)) (backlog σ) (Arrives c t ∷ V) (clock σ) t
        (λ x y h l m busy. elim (inside_cases σ.inside) [
          | inl empty ↦ elim (le_or_lt y x) [
            | inl back ↦ gains_none (rate_of S s) (open_time (opening_of S s).gate) (worked all (Arrives c t ∷ V)) x y (antisym (l, back))
            | inr ahead ↦ absurd (not_busy (Arrives c t ∷ V) x y (tt, k.works) ahead (λ z p. none z (le_trans p m))
                (subst (λ β. IsBusyWith β (Arrives c t ∷ V) x y) (backlog_zero σ empty idle) busy))
          ]
          | inr some ↦
              let full : σ.inside ≢ [] = λ e. absurd (let f : some.0 ∷ some.1 ≡ [] = sym some.2 ∙ e in cc) in
              flat S s σ (worked all (Arrives c t ∷ V)) t x y st (λ z p q. closed idle full z (subst (λ i. i ≤ℚ z) now p) q) h l m (grown x y l)
        ])
        (λ x y h l busy. arrive_step S s d σ T V c t x y k (subst (λ i. i ≤ℚ x) then h) l busy)
        x y h l busy

-- ---- a server turns to a queue
pub driven_visit : (S : Setup) (s : ℕ) (d : Discipline) (σ : ServerState) (T : ℚ) (V : List ServerStep) (q : ℕ) (t : ℚ) → IsSteady S s σ → T ≤ℚ t → σ.under ≡ None
    → IsFirstOpen S s σ.now t → IsDriven S s (next d σ (Visits q t)) t V → IsDriven S s σ T (Visits q t ∷ V)
driven_visit S s d σ T V q t st late idle first k = record {
  gains = λ x y h l busy.
      glue (rate_of S s) (open_time (opening_of S s).gate) (worked all (Visits q t ∷ V)) (backlog σ) (Visits q t ∷ V) (clock σ) t
      (λ x y h l m busy. flat S s σ (worked all (Visits q t ∷ V)) t x y st (λ z p r. first.closed_before z (subst (λ i. i ≤ℚ z) now p) r) h l m (worked_rises all (Visits q t ∷ V) x y (tt, k.works) l))
      (λ x y h l busy. same_gains (rate_of S s) (open_time (opening_of S s).gate) x y (worked all V x) (worked all V y)
      (k.gains x y (subst (λ i. i ≤ℚ x) then h) l (λ z p r. let b = busy z p r in
      with4 (worked all V z) (sum_of all σ.inside) (done_so_far σ.under) (arrived all V z) (λ o. omega (arith, o.le, o.lt, o.same)))))
      x y h l busy;
  works = (tt, k.works);
  later = λ z l. let b = k.later z (le_trans l late) in antisym (with1 (arrived all V z) (λ o. omega (arith, o.le, o.lt, o.same)));
}
  where
    now : clock σ ≡ σ.now
    now = ap (λ o. clock_of o σ.now) idle

    then : t ≡ clock (next d σ (Visits q t))
    then = sym (ap (λ o. clock_of o t) idle)

-- ---- a packet leaves
pub driven_leave : (S : Setup) (s : ℕ) (d : Discipline) (σ : ServerState) (T : ℚ) (V : List ServerStep) (c : Card) (u : Under) (t : ℚ) → T ≤ℚ t → σ.under ≡ Some u
    → done u ≡ size c → t ≡ u.last.end → head_of c.queue σ.inside ≡ Some c → IsDriven S s (next d σ (Leaves c t)) t V → IsDriven S s σ T (Leaves c t ∷ V)
driven_leave S s d σ T V c u t late is off at head k = record {
  gains = λ x y h l busy.
      same_gains (rate_of S s) (open_time (opening_of S s).gate) x y (worked all V x) (worked all V y)
      (k.gains x y (subst (λ i. i ≤ℚ x) then h) l (λ z p r.
      let b = busy z p r in
      let less = fewer in
      let off_now = so_far in
      with6 (worked all V z) (sum_of all σ.inside) (sum_of all (without_head c.queue σ.inside)) (done_so_far σ.under) (size c) (arrived all V z) (λ o. omega (arith, o.le, o.lt, o.same))));
  works = (tt, k.works);
  later = λ z l. let b = k.later z (le_trans l late) in antisym (with1 (arrived all V z) (λ o. omega (arith, o.le, o.lt, o.same)));
}
  where
    then : clock σ ≡ t
    then = ap (λ o. clock_of o σ.now) is ∙ sym at

    fewer : sum_of all (without_head c.queue σ.inside) +ℚ size c ≡ sum_of all σ.inside
    fewer = ap (λ x. sum_of all (without_head c.queue σ.inside) +ℚ x) (sym (when_true true (size c) refl)) ∙ sum_without all c.queue c σ.inside head

    so_far : done_so_far σ.under ≡ size c
    so_far = ap done_so_far is ∙ off

-- ---- work
-- within its span work is done at its rate
clip_is : (a b w R t : ℚ) → a <ℚ b → w ≡ R *ℚ (b -ℚ a) → a ≤ℚ t → t ≤ℚ b → clip record { start = a; end = b; bits = w } t ≡ R *ℚ (t -ℚ a)
unfolding clip
clip_is a b w R t f e h k =
    let span : Span = record { start = a; end = b; bits = w } in
    elim (le_or_lt t a) [
      | inl back ↦
          let zero : t -ℚ a ≡ int (pos 0) = antisym (with2 t a (λ c. omega (arith, c.le, c.lt, c.same))) in
          clip_early span t back ∙ sym (ap (λ x. R *ℚ x) zero ∙ Rattle.rational.proofs.Laws.mul_zero R)
      | inr past ↦ elim (le_or_lt b t) [
        | inl over ↦ clip_late span t f over ∙ e ∙ ap (λ x. R *ℚ (x -ℚ a)) (antisym (over, k))
        | inr within ↦
            let long : int (pos 0) <ℚ b -ℚ a = with2 a b (λ c. omega (arith, c.le, c.lt, c.same)) in
            let part = (t -ℚ a) /ℚ (b -ℚ a) in
            let whole_part : (b -ℚ a) *ℚ part ≡ t -ℚ a = mul_comm (b -ℚ a) part ∙ div_mul (t -ℚ a) (b -ℚ a) (not_zero (b -ℚ a) long) in
            rw (le_q_not t a past, le_q_not b t within) (ap (λ x. x *ℚ part) e ∙ mul_assoc R (b -ℚ a) part ∙ ap (λ x. R *ℚ x) whole_part)
      ]
    ]

pub driven_work : (S : Setup) (s : ℕ) (d : Discipline) (σ : ServerState) (T : ℚ) (V : List ServerStep) (c : Card) (left a b w : ℚ) → IsSteady S s σ → T ≤ℚ a
    → IsStretch S s (clock σ) left a b w → IsDriven S s (next d σ (Works c a b w)) a V → IsDriven S s σ T (Works c a b w ∷ V)
driven_work S s d σ T V c left a b w st late k m = record {
  gains = glue R O W (backlog σ) X (clock σ) a
      (λ x y h l n busy. flat S s σ W a x y st k.begins.closed_before h l n (worked_rises all X x y works l))
      (glue R O W (backlog σ) X a b middle after);
  works = works;
  later = λ z l. let e = m.later z (le_trans l late) in antisym (with1 (arrived all V z) (λ o. omega (arith, o.le, o.lt, o.same)));
}
  where
    X : List ServerStep
    X = Works c a b w ∷ V

    span : Span
    span = record { start = a; end = b; bits = w }

    R : ℚ
    R = rate_of S s

    O : ℚ → ℚ
    O = open_time (opening_of S s).gate

    W : ℚ → ℚ
    W = worked all (Works c a b w ∷ V)

    some : int (pos 0) <ℚ w
    some = subst (λ x. int (pos 0) <ℚ x) (sym k.at_rate) (mul_pos (st.ok.rates s) (let f = k.forward in with2 a b (λ o. omega (arith, o.le, o.lt, o.same))))

    works : Each IsWork (Works c a b w ∷ V)
    works = (record { forward = k.forward; some_work = some }, m.works)

    own : (z : ℚ) → when (all c) (clip span z) ≡ clip span z
    own z = when_true true (clip span z) refl

    middle : (x y : ℚ) → a ≤ℚ x → x ≤ℚ y → y ≤ℚ b → IsBusyWith (backlog σ) (Works c a b w ∷ V) x y → Gains R O W x y
    middle x y h l n busy =
        let cx : when (all c) (clip span x) ≡ R *ℚ (x -ℚ a) = own x ∙ clip_is a b w R x k.forward k.at_rate h (le_trans l n) in
        let cy : when (all c) (clip span y) ≡ R *ℚ (y -ℚ a) = own y ∙ clip_is a b w R y k.forward k.at_rate (le_trans h l) n in
        let from : int (pos 0) ≤ℚ x = le_trans st.from_zero (le_trans k.begins.not_before h) in
        let one = mul_le_mul R (le_of_lt (st.ok.rates s)) ((open_time_of (opening_of S s).gate (st.ok.gates s)).lipschitz x y from l) in
        let two = mul_add R (O x) (y -ℚ x) in
        let three = mul_sub R y x in
        let four = mul_sub R x a in
        let five = mul_sub R y a in
        let rest = worked_rises all V x y m.works l in
        let bound : R *ℚ O y ≤ℚ R *ℚ O x +ℚ (R *ℚ y -ℚ R *ℚ x) = subst (λ i. R *ℚ O y ≤ℚ i) (two ∙ ap (λ i. R *ℚ O x +ℚ i) three) one in
        let px : when (all c) (clip span x) ≡ R *ℚ x -ℚ R *ℚ a = cx ∙ four in
        let py : when (all c) (clip span y) ≡ R *ℚ y -ℚ R *ℚ a = cy ∙ five in
        sum (R *ℚ O x) (R *ℚ O y) (R *ℚ x) (R *ℚ y) (R *ℚ a) (when (all c) (clip span x)) (when (all c) (clip span y)) (worked all V x) (worked all V y) bound px py rest
      where
        sum : (ox oy rx ry ra cx cy vx vy : ℚ) → oy ≤ℚ ox +ℚ (ry -ℚ rx) → cx ≡ rx -ℚ ra → cy ≡ ry -ℚ ra → vx ≤ℚ vy → oy +ℚ (cx +ℚ vx) ≤ℚ ox +ℚ (cy +ℚ vy)
        sum ox oy rx ry ra cx cy vx vy h p q l =
            let gap : cy -ℚ cx ≡ ry -ℚ rx = antisym (with5 rx ry ra cx cy (λ o. omega (arith, o.le, o.lt, o.same))) in
            with8 ox oy rx ry cx cy vx vy (λ o. omega (arith, o.le, o.lt, o.same))

    after : (x y : ℚ) → b ≤ℚ x → x ≤ℚ y → IsBusyWith (backlog σ) (Works c a b w ∷ V) x y → Gains R O W x y
    after x y h l busy =
        let cx : when (all c) (clip span x) ≡ w = own x ∙ clip_late span x k.forward h in
        let cy : when (all c) (clip span y) ≡ w = own y ∙ clip_late span y k.forward (le_trans h l) in
        let rest = m.gains x y h l (λ z p q.
        let e = busy z p q in
        let cz : when (all c) (clip span z) ≡ w = own z ∙ clip_late span z k.forward (le_trans h (le_of_lt p)) in
        with6 (worked all V z) (when (all c) (clip span z)) w (sum_of all σ.inside) (done_so_far σ.under) (arrived all V z) (λ o. omega (arith, o.le, o.lt, o.same))) in
        with7 (R *ℚ O x) (R *ℚ O y) (when (all c) (clip span x)) (when (all c) (clip span y)) w (worked all V x) (worked all V y) (λ o. omega (arith, o.le, o.lt, o.same))
