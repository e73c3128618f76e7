-- Of the steps that are due one comes first, if any is due.
use Rattle.std.proofs.Common.{◌≡◌, ℕ, zero, suc, ◌<◌, ◌≤◌, List, [], ◌∷◌, length, refl, sym, ap, ◌∙◌, subst, arith, inl, inr, ◌⊎◌, Some, None}
use Rattle.std.specs.Prelude.{pos}
use Rattle.std.proofs.lemmas.Bool.{cases_eq, cases_lt, cases_order}
use Rattle.rational.specs.Rational.{ℚ, int, ◌-ℚ◌, ◌≤ℚ◌, ◌<ℚ◌}
use Rattle.rational.proofs.Linear.{with1, with2}
use Rattle.rational.proofs.Laws.{le_refl, le_trans, le_of_lt, le_or_lt, lt_cases, lt_irrefl, antisym}
use Rattle.run_laws.specs.declared.steps.Step.{Step}
use Rattle.run_laws.specs.declared.steps.Step.TheVariants.{Enter, Reach, Work, Leave, Visit}
use Rattle.run_laws.specs.Cards.{Card, size}
use Rattle.run_laws.specs.Servers.{Under, ServerState, done}
use Rattle.run_laws.specs.Allows.{pick, MayVisit}
use Rattle.run_laws.specs.Routes.{server_at}
use Rattle.run_laws.specs.Lawful.{Due, RunState, state_at}
use Rattle.run_laws.proofs.Heads.{pick_is_head}
use Rattle.run_laws.proofs.Sizes.{size_pos}
use Rattle.net_model.specs.stated_runs.Setups.{Setup, IsSetup, IsFirstOpen, packet_of}
use Rattle.net_model.specs.stated_runs.DueSteps.{IsLeaving, IsResumed, IsStarted, IsVisited, IsEntering, IsDue, step_time, Rank, RankAtMost, rank_of, ComesFirst}
use Rattle.net_model.specs.stated_runs.Simulated.{IsNext}
use Rattle.net_model.proofs.stated_runs.Lists.{In, head_in, contains_in, in_contains}
use Rattle.net_model.proofs.stated_runs.Good.{IsGood}
use Rattle.net_model.proofs.stated_runs.Lawfulness.{under_cases}
use Rattle.net_model.proofs.stated_runs.Opens.{stretch_of}
use Rattle.net_model.proofs.stated_runs.Unique.{open_once, no_visit, not_idle}
use Rattle.net_model.proofs.stated_runs.Turning.{progress}
use Rattle.net_model.proofs.stated_runs.Progress.{AllKeepTurns, inside_cases, fair_card, heads_at}
use Rattle.sim_servers.proofs.Firsts.{rank_refl, rank_trans}
use Rattle.sim_servers.proofs.sim_states.Firsts.{visit_some}

-- ---- the order of steps
first_refl : (r : RunState) (x : Step) → ComesFirst r x x
first_refl r x = record { no_later = le_refl (step_time x); in_turn = λ e. rank_refl (rank_of r x) }

first_trans : (r : RunState) (x y z : Step) → ComesFirst r x y → ComesFirst r y z → ComesFirst r x z
first_trans r x y z h k = record {
  no_later = le_trans h.no_later k.no_later;
  in_turn = λ e.
      let xy : step_time x ≡ step_time y = antisym (h.no_later, subst (λ t. step_time y ≤ℚ t) (sym e) k.no_later) in
      let yz : step_time y ≡ step_time z = sym xy ∙ e in
      rank_trans (rank_of r x) (rank_of r y) (rank_of r z) (h.in_turn xy) (k.in_turn yz);
}

sooner : (r : RunState) (x y : Step) → step_time x <ℚ step_time y → ComesFirst r x y
sooner r x y l = record { no_later = le_of_lt l; in_turn = λ e. absurd (lt_irrefl (step_time y) (subst (λ t. t <ℚ step_time y) e l)) }

-- at one time
level : (r : RunState) (x y : Step) → step_time x ≡ step_time y → RankAtMost (rank_of r x) (rank_of r y) → ComesFirst r x y
level r x y e k = record { no_later = subst (λ t. step_time x ≤ℚ t) e (le_refl (step_time x)); in_turn = λ f. k }

rank_total : (a b : Rank) → RankAtMost a b ⊎ RankAtMost b a
rank_total a b = elim (cases_order a.kind b.kind) [
  | inl e ↦ elim (cases_order a.server b.server) [
    | inl f ↦ elim (cases_lt a.packet b.packet) [
      | inl l ↦ inl (inr (e, inr (f, omega (arith, l))))
      | inr l ↦ inr (inr (sym e, inr (sym f, l)))
    ]
    | inr d ↦ elim d [ inl l ↦ inl (inr (e, inl l)) | inr l ↦ inr (inr (sym e, inl l)) ]
  ]
  | inr d ↦ elim d [ inl l ↦ inl (inl l) | inr l ↦ inr (inl l) ]
]

first_total : (r : RunState) (x y : Step) → ComesFirst r x y ⊎ ComesFirst r y x
first_total r x y = elim (lt_cases (step_time x) (step_time y)) [
  | inl l ↦ inl (sooner r x y l)
  | inr k ↦ elim k [
    | inl e ↦ elim (rank_total (rank_of r x) (rank_of r y)) [ inl h ↦ inl (level r x y e h) | inr h ↦ inr (level r y x (sym e) h) ]
    | inr l ↦ inr (sooner r y x l)
  ]
]

-- ---- the first of some
-- x is due, and none of these that are due comes before it
record IsBest (S : Setup) (r : RunState) (P : Step → Type 0) (x : Step) : Type 0 where
  due : IsDue S r x
  first : (y : Step) → P y → IsDue S r y → ComesFirst r x y

abbrev HasBest : Setup → RunState → (Step → Type 0) → Type 0
HasBest S r P = ((x : Step) × IsBest S r P x) ⊎ ((y : Step) → P y → ¬ (IsDue S r y))

both_best : (S : Setup) (r : RunState) (P Q : Step → Type 0) → HasBest S r P → HasBest S r Q → HasBest S r (λ y. P y ⊎ Q y)
both_best S r P Q (inl a) (inl b) = elim (first_total r a.0 b.0) [
  | inl h ↦ inl (
    a.0,
    record {
      due = a.1.due;
      first = λ y k due. elim k [ inl p ↦ a.1.first y p due | inr q ↦ first_trans r a.0 b.0 y h (b.1.first y q due) ];
    },
  )
  | inr h ↦ inl (
    b.0,
    record {
      due = b.1.due;
      first = λ y k due. elim k [ inl p ↦ first_trans r b.0 a.0 y h (a.1.first y p due) | inr q ↦ b.1.first y q due ];
    },
  )
]
both_best S r P Q (inl a) (inr n) =
    inl (a.0, record { due = a.1.due; first = λ y k due. elim k [ inl p ↦ a.1.first y p due | inr q ↦ absurd (n y q due) ] })
both_best S r P Q (inr n) (inl b) =
    inl (b.0, record { due = b.1.due; first = λ y k due. elim k [ inl p ↦ absurd (n y p due) | inr q ↦ b.1.first y q due ] })
both_best S r P Q (inr n) (inr m) = inr (λ y k due. elim k [ inl p ↦ n y p due | inr q ↦ m y q due ])

for_these : (S : Setup) (r : RunState) (P Q : Step → Type 0) → ((y : Step) → IsDue S r y → Q y → P y) → HasBest S r P → HasBest S r Q
for_these S r P Q f (inl a) = inl (a.0, record { due = a.1.due; first = λ y q due. a.1.first y (f y due q) due })
for_these S r P Q f (inr n) = inr (λ y q due. n y (f y due q) due)

-- ---- what one server's state makes due
abbrev IsOwn : ℕ → Step → Type 0
IsOwn s (Enter f p t b) = ⊥
IsOwn s (Reach i p t) = ⊥
IsOwn s (Work i p a b w) = i ≡ s
IsOwn s (Leave i p t) = i ≡ s
IsOwn s (Visit i q t) = i ≡ s

of_own : (S : Setup) (r : RunState) (s : ℕ) (G : Step → Type 0)
    → ((p : ℕ) (a b w : ℚ) → IsResumed S s (state_at r s) p a b w ⊎ IsStarted S s (state_at r s) p a b w → G (Work s p a b w))
    → ((p : ℕ) (t : ℚ) → IsLeaving (state_at r s) p t → G (Leave s p t)) → ((q : ℕ) (t : ℚ) → IsVisited S s (state_at r s) q t → G (Visit s q t))
    → (y : Step) → IsOwn s y → IsDue S r y → G y
of_own S r s G work leave visit (Enter f p t b) o due = absurd o
of_own S r s G work leave visit (Reach i p t) o due = absurd o
of_own S r s G work leave visit (Work i p a b w) o due =
    subst (λ j. G (Work j p a b w)) (sym o) (work p a b w (subst (λ j. IsResumed S j (state_at r j) p a b w ⊎ IsStarted S j (state_at r j) p a b w) o due.1))
of_own S r s G work leave visit (Leave i p t) o due =
    subst (λ j. G (Leave j p t)) (sym o) (leave p t (subst (λ j. IsLeaving (state_at r j) p t) o due.1))
of_own S r s G work leave visit (Visit i q t) o due =
    subst (λ j. G (Visit j q t)) (sym o) (visit q t (subst (λ j. IsVisited S j (state_at r j) q t) o due.1))

same_under : (σ : ServerState) (u v : Under) → σ.under ≡ Some u → σ.under ≡ Some v → u ≡ v
same_under σ u v e f = let g : Some u ≡ Some v = sym e ∙ f in cc

idle_not : (σ : ServerState) (u : Under) → σ.under ≡ None → ¬ (σ.under ≡ Some u)
idle_not σ u e f = let g : None ≡ Some u = sym e ∙ f in cc

-- a packet under way that is worked off leaves
own_leaves : (S : Setup) (r : RunState) (s : ℕ) → s < length S.net.servers → (u : Under) → (state_at r s).under ≡ Some u → done u ≡ size u.card
    → HasBest S r (IsOwn s)
own_leaves S r s h u is all =
    let σ = state_at r s in
    let x = Leave s u.card.packet u.last.end in
    inl (
      x,
      record {
        due = (h, record { under = u; is_under = is; packet_is = refl; worked_off = all; at_end = refl });
        first = of_own S r s (ComesFirst r x)
            (λ p a b w k. elim k [
              | inl y ↦ absurd (lt_irrefl (done u) (subst (λ z. done u <ℚ z) (sym all)
                  (subst (λ (v : Under). done v <ℚ size v.card) (same_under σ y.under u y.is_under is) y.not_done)))
              | inr y ↦ absurd (idle_not σ u y.idle is)
            ])
            (λ p t y. level r x (Leave s p t) (ap (λ (v : Under). v.last.end) (same_under σ u y.under is y.is_under) ∙ sym y.at_end) (rank_refl (rank_of r (Leave s p t))))
            (λ q t y. absurd (not_idle (server_at S.net s).discipline σ q u y.may is));
      },
    )

-- one that is not goes on
own_resumes : (S : Setup) → IsSetup S → (r : RunState) (s : ℕ) → s < length S.net.servers → (u : Under) → (state_at r s).under ≡ Some u → done u <ℚ size u.card
    → int (pos 0) ≤ℚ u.last.end → HasBest S r (IsOwn s)
own_resumes S ok r s h u is less from =
    let σ = state_at r s in
    let left : int (pos 0) <ℚ size u.card -ℚ done u = with2 (size u.card) (done u) (λ c. omega (arith, c.le, c.lt, c.same)) in
    let o = stretch_of S s (ok.rates s) (ok.gates s) u.last.end (size u.card -ℚ done u) from left in
    let x = Work s u.card.packet o.0 o.1 o.2 in
    inl (
      x,
      record {
        due = (h, inl record { under = u; is_under = is; packet_is = refl; not_done = less; stretch = o.3 });
        first = of_own S r s (ComesFirst r x)
            (λ p a b w k. elim k [
              | inl y ↦ level r x (Work s p a b w)
                  (open_once S s u.last.end o.0 a o.3.begins
                  (subst (λ (v : Under). IsFirstOpen S s v.last.end a) (same_under σ y.under u y.is_under is) y.stretch.begins))
                  (rank_refl (rank_of r (Work s p a b w)))
              | inr y ↦ absurd (idle_not σ u y.idle is)
            ])
            (λ p t y. absurd (lt_irrefl (done u) (subst (λ z. done u <ℚ z)
            (sym (subst (λ (v : Under). done v ≡ size v.card) (same_under σ y.under u y.is_under is) y.worked_off)) less)))
            (λ q t y. absurd (not_idle (server_at S.net s).discipline σ q u y.may is));
      },
    )

-- where none is under way, a packet starts or a queue is visited
own_starts : (S : Setup) → IsSetup S → (r : RunState) (s : ℕ) → s < length S.net.servers → (state_at r s).under ≡ None → int (pos 0) ≤ℚ (state_at r s).now
    → (c : Card) → pick (server_at S.net s).discipline (state_at r s).inside (state_at r s).round ≡ Some c → int (pos 0) <ℚ size c → HasBest S r (IsOwn s)
own_starts S ok r s h idle from c picked some =
    let σ = state_at r s in
    let d = (server_at S.net s).discipline in
    let o = stretch_of S s (ok.rates s) (ok.gates s) σ.now (size c) from some in
    let x = Work s c.packet o.0 o.1 o.2 in
    inl (
      x,
      record {
        due = (h, inr record { idle = idle; card = c; packet_is = refl; picked = picked; stretch = o.3 });
        first = of_own S r s (ComesFirst r x)
            (λ p a b w k. elim k [
              | inl y ↦ absurd (idle_not σ y.under idle y.is_under)
              | inr y ↦ level r x (Work s p a b w) (open_once S s σ.now o.0 a o.3.begins y.stretch.begins) (rank_refl (rank_of r (Work s p a b w)))
            ])
            (λ p t y. absurd (idle_not σ y.under idle y.is_under))
            (λ q t y. absurd (no_visit d σ q c y.may picked));
      },
    )

own_visits : (S : Setup) → IsSetup S → (r : RunState) (s : ℕ) → s < length S.net.servers → (state_at r s).under ≡ None → int (pos 0) ≤ℚ (state_at r s).now
    → (q : ℕ) → MayVisit (server_at S.net s).discipline (state_at r s) q → HasBest S r (IsOwn s)
own_visits S ok r s h idle from q may =
    let σ = state_at r s in
    let d = (server_at S.net s).discipline in
    let one : int (pos 0) <ℚ int (pos 1) = with1 (int (pos 0)) (λ c. omega (arith, c.le, c.lt, c.same)) in
    let o = stretch_of S s (ok.rates s) (ok.gates s) σ.now (int (pos 1)) from one in
    let x = Visit s q o.0 in
    inl (
      x,
      record {
        due = (h, record { may = may; opens = o.3.begins });
        first = of_own S r s (ComesFirst r x)
            (λ p a b w k. elim k [
              | inl y ↦ absurd (idle_not σ y.under idle y.is_under)
              | inr y ↦ absurd (no_visit d σ q y.card may y.picked)
            ])
            (λ p t y. absurd (idle_not σ y.under idle y.is_under))
            (λ j t y. level r x (Visit s j t) (open_once S s σ.now o.0 t o.3.begins y.opens) (rank_refl (rank_of r (Visit s j t))));
      },
    )

own_rests : (S : Setup) (r : RunState) (s : ℕ) → s < length S.net.servers → AllKeepTurns S r → (state_at r s).under ≡ None → (state_at r s).inside ≡ []
    → HasBest S r (IsOwn s)
own_rests S r s h a idle empty =
    let σ = state_at r s in
    let d = (server_at S.net s).discipline in
    inr (of_own S r s (λ y. ⊥)
    (λ p b c w k. elim k [
      | inl y ↦ idle_not σ y.under idle y.is_under
      | inr y ↦ subst (λ cs. In cs y.card) empty (head_in y.card.queue σ.inside y.card (pick_is_head d σ.inside σ.round y.card y.picked))
    ])
    (λ p t y. idle_not σ y.under idle y.is_under)
    (λ q t y. visit_some d σ q y.may (a s h) empty))

own_best : (S : Setup) → IsSetup S → (r : RunState) (T : ℚ) → IsGood S r T → AllKeepTurns S r → (s : ℕ) → s < length S.net.servers → HasBest S r (IsOwn s)
own_best S ok r T g a s h =
    let σ = state_at r s in
    let good = g.servers s h in
    elim (under_cases σ.under) [
      | inr k ↦ elim (le_or_lt (size k.0.card) (done k.0)) [
        | inl all ↦ own_leaves S r s h k.0 k.1 (antisym ((good.under k.0 k.1).within, all))
        | inr less ↦ own_resumes S ok r s h k.0 k.1 less (good.under k.0 k.1).from_zero
      ]
      | inl idle ↦ elim (inside_cases σ.inside) [
        | inl empty ↦ own_rests S r s h a idle empty
        | inr k ↦ elim (progress (server_at S.net s).discipline σ k.0 k.1 k.2 idle (heads_at S r T g s h) (a s h)) [
          | inl e ↦
              let here = good.cards e.0 (head_in e.0.queue σ.inside e.0 (pick_is_head (server_at S.net s).discipline σ.inside σ.round e.0 e.1)) in
              own_starts S ok r s h idle good.from_zero e.0 e.1 (size_pos e.0 (fair_card S r T g s e.0 here).some)
          | inr v ↦ own_visits S ok r s h idle good.from_zero v.0 v.1
        ]
      ]
    ]

-- ---- of all servers
abbrev IsOwnBelow : ℕ → Step → Type 0
IsOwnBelow k y = (s : ℕ) × (s < k) × IsOwn s y

servers_best : (S : Setup) → IsSetup S → (r : RunState) (T : ℚ) → IsGood S r T → AllKeepTurns S r → (k : ℕ) → k ≤ length S.net.servers
    → HasBest S r (IsOwnBelow k)
servers_best S ok r T g a zero l = inr (λ y o due. let f = o.1 in omega (arith, f))
servers_best S ok r T g a (suc k) l =
    for_these S r (λ y. IsOwnBelow k y ⊎ IsOwn k y) (IsOwnBelow (suc k))
    (λ y due o. elim (cases_eq o.0 k) [
      | inl e ↦ inr (subst (λ j. IsOwn j y) e o.2)
      | inr n ↦ inl (o.0, (let f = o.1 in omega (arith, f, n)), o.2)
    ])
    (both_best S r (IsOwnBelow k) (IsOwn k) (servers_best S ok r T g a k (omega (arith, l))) (own_best S ok r T g a k (omega (arith, l))))

-- ---- of what is on links
abbrev IsReachOf : List Due → Step → Type 0
IsReachOf ds y = (d : Due) × In ds d × (y ≡ Reach d.server d.packet d.time)

links_best : (S : Setup) (r : RunState) (ds : List Due) → ((d : Due) → In ds d → In r.due d) → HasBest S r (IsReachOf ds)
links_best S r [] h = inr (λ y o due. o.1)
links_best S r (d ∷ ds) h =
    let x = Reach d.server d.packet d.time in
    for_these S r (λ y. (y ≡ x) ⊎ IsReachOf ds y) (IsReachOf (d ∷ ds))
    (λ y due o. elim o.1 [
      | inl e ↦ inl (o.2 ∙ ap (λ (z : Due). Reach z.server z.packet z.time) (sym e))
      | inr i ↦ inr (o.0, i, o.2)
    ])
    (both_best S r (λ y. y ≡ x) (IsReachOf ds)
    (inl (x, record { due = in_contains r.due d (h d (inl refl)); first = λ y e due. subst (ComesFirst r x) (sym e) (first_refl r x) }))
    (links_best S r ds (λ e i. h e (inr i))))

-- ---- of what enters
abbrev IsEnter : Step → Type 0
IsEnter (Enter f p t b) = Unit {0}
IsEnter (Reach i p t) = ⊥
IsEnter (Work i p a b w) = ⊥
IsEnter (Leave i p t) = ⊥
IsEnter (Visit i q t) = ⊥

abbrev next_enter : Setup → RunState → Step
next_enter S r =
    let n = length r.entered in
    Enter (packet_of S n).flow n (packet_of S n).time (packet_of S n).bits

enter_first : (S : Setup) (r : RunState) (y : Step) → IsEnter y → IsDue S r y → ComesFirst r (next_enter S r) y
enter_first S r (Enter f p t b) e due =
    let d : IsEntering S r f p t b = due in
    level r (next_enter S r) (Enter f p t b) (ap (λ i. (packet_of S i).time) (sym d.in_turn) ∙ sym d.time_is)
    (inr (refl, inr (refl, (let k = d.in_turn in omega (arith, k)))))
enter_first S r (Reach i p t) e due = absurd e
enter_first S r (Work i p a b w) e due = absurd e
enter_first S r (Leave i p t) e due = absurd e
enter_first S r (Visit i q t) e due = absurd e

none_enters : (S : Setup) (r : RunState) → length S.packets ≤ length r.entered → (y : Step) → IsEnter y → ¬ (IsDue S r y)
none_enters S r l (Enter f p t b) e due =
    let d : IsEntering S r f p t b = due in
    let k = d.in_turn in
    let m = d.in_trace in
    omega (arith, k, l, m)
none_enters S r l (Reach i p t) e due = e
none_enters S r l (Work i p a b w) e due = e
none_enters S r l (Leave i p t) e due = e
none_enters S r l (Visit i q t) e due = e

enter_best : (S : Setup) (r : RunState) → HasBest S r IsEnter
enter_best S r = elim (cases_lt (length r.entered) (length S.packets)) [
  | inl l ↦ inl (
    next_enter S r,
    record {
      due = record { in_turn = refl; in_trace = l; flow_is = refl; time_is = refl; bits_are = refl };
      first = enter_first S r;
    },
  )
  | inr l ↦ inr (none_enters S r l)
]

-- ---- of all
abbrev IsAny : Setup → RunState → Step → Type 0
IsAny S r y = (IsOwnBelow (length S.net.servers) y ⊎ IsReachOf r.due y) ⊎ IsEnter y

is_any : (S : Setup) (r : RunState) (y : Step) → IsDue S r y → IsAny S r y
is_any S r (Enter f p t b) due = inr tt
is_any S r (Reach s p t) due =
    let d : Due = record { packet = p; server = s; time = t } in
    inl (inr (d, contains_in r.due d due, refl))
is_any S r (Work s p a b w) due = inl (inl (s, due.0, refl))
is_any S r (Leave s p t) due = inl (inl (s, due.0, refl))
is_any S r (Visit s q t) due = inl (inl (s, due.0, refl))

as_next : (S : Setup) (r : RunState) → HasBest S r (λ y. Unit {0}) → ((x : Step) × IsNext S r x) ⊎ ((y : Step) → ¬ (IsDue S r y))
as_next S r (inl a) = inl (a.0, record { due = a.1.due; first = λ y due. a.1.first y tt due })
as_next S r (inr n) = inr (λ y due. n y tt due)

pub next_or_end : (S : Setup) → IsSetup S → (r : RunState) (T : ℚ) → IsGood S r T → AllKeepTurns S r
    → ((x : Step) × IsNext S r x) ⊎ ((y : Step) → ¬ (IsDue S r y))
next_or_end S ok r T g a =
    let n = length S.net.servers in
    as_next S r (for_these S r (IsAny S r) (λ y. Unit {0}) (λ y due u. is_any S r y due)
    (both_best S r (λ y. IsOwnBelow n y ⊎ IsReachOf r.due y) IsEnter
    (both_best S r (IsOwnBelow n) (IsReachOf r.due) (servers_best S ok r T g a n (omega arith)) (links_best S r r.due (λ d i. i)))
    (enter_best S r)))
