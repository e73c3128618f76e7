-- One packet over the fork, which reaches the sum of its branch.
use Rattle.std.specs.Prelude.{◌≡◌, ◌<◌, ℕ, zero, suc, pos, ◌+◌, true, ◌==◌, ◌&&◌, List, [], ◌∷◌}
use Rattle.std.proofs.Common.{arith, sym, ap, ◌∙◌, refl, inl, inr}
use Rattle.rational.specs.Rational.{ℚ, int, ◌+ℚ◌, ◌-ℚ◌, ◌*ℚ◌, ◌/ℚ◌, ◌≤ℚ◌, le_q, lt_q}
use Rattle.rational.specs.Whole.{whole_part}
use Rattle.rational.specs.Extended.{◌≤ₑ◌}
use Rattle.rational.specs.declared.Extended.TheVariants.{Fin}
use Rattle.rational.proofs.Integers.{nat_le}
use Rattle.rational.proofs.Laws.{le_refl, le_trans}
use Rattle.rational.proofs.MinMax.{lt_q_not}
use Rattle.rational.proofs.Over.{le_q_out}
use Rattle.rational.proofs.Linear.{with1, with2, with3}
use Rattle.run_laws.specs.Cards.{whole, all, of_queue, ServerStep}
use Rattle.run_laws.specs.Counts.{when, within, arrived, worked}
use Rattle.run_laws.specs.Delays.{hop_delays, backlog}
use Rattle.run_laws.specs.Premises.{KeepsService}
use Rattle.run_laws.specs.RunPremises.{entered_in}
use Rattle.run_laws.specs.Servers.{Span, clip}
use Rattle.run_laws.specs.Views.{view}
use Rattle.run_laws.proofs.Clips.{clip_early, clip_late}
use Rattle.run_laws.proofs.Small.{le_t, lt_t, sum_t, enters, works, leaves}
use Rattle.run_laws.proofs.SmallRuns.{none_due}
use Rattle.run_laws.proofs.Sums.{when_true, when_false, when_most}
use Rattle.run_laws.proofs.Sizes.{whole_lt, whole_times}
use Rattle.tree_runs.specs.Trees.{flat, IsLawfulTree}
use Rattle.tree_runs.specs.Branches.{delays_to}
use Rattle.tree_runs.proofs.Examples.{three_idle}
use Rattle.worked_trees.specs.PacedFork.{paced_fork, at_entry, service, over_the_fork}
use Rattle.worked_trees.proofs.Linked.{reaches}
use Rattle.worked_trees.proofs.Busy.{none_over, keeps_at_rate, service_at_most, span_at_rate, not_yet}

-- ---- lawful
in_pace : (a b : ℕ) → whole b -ℚ whole a ≡ whole 120 → whole 12000 ≤ℚ whole 100 *ℚ (whole b -ℚ whole a)
in_pace a b e = rw e (with1 (whole 0) (λ c. omega (arith, c.le, c.lt, c.same)))

took : (a b : ℕ) → whole a +ℚ whole 120 ≡ whole b → whole b -ℚ whole a ≡ whole 120
took a b e = with2 (whole a) (whole b) (λ c. omega (arith, c.le, c.lt, c.same))

pub is_lawful : IsLawfulTree paced_fork over_the_fork
is_lawful = record {
  allowed = (
    enters 0 0 12000 0 0 265 record { in_turn = refl; is_live = refl; has_path = refl } (omega arith) refl refl
        record { known_queue = omega arith; some_bits = omega arith },
    (
      works 0 0 0 0 10 130 12000 265 record { has_entered = omega arith; passes = inl refl }
          (omega arith) refl refl refl
          (in_pace 10 130 (took 10 130 (sum_t 10 120))) refl refl refl,
      (
        leaves 0 0 10 130 265 record { has_entered = omega arith; passes = inl refl } (omega arith) refl refl
            record { is_card = refl; worked_off = sum_t 0 12000; at_end = refl },
        (
          reaches 1 0 130 5 0 265 (0, omega arith, refl) (omega arith) refl refl record { known_queue = omega arith; some_bits = omega arith },
          (
            reaches 2 0 130 5 0 265 (rw (le_q_out _ _ (le_refl (whole 130 +ℚ whole 5))) (0, omega arith, refl)) (omega arith) refl refl
                record { known_queue = omega arith; some_bits = omega arith },
            (
              works 1 0 0 135 145 265 12000 265 record { has_entered = omega arith; passes = inr (inl refl) } (omega arith) (sum_t 130 5)
                  refl refl (in_pace 145 265 (took 145 265 (sum_t 145 120))) refl refl refl,
              (
                leaves 1 0 145 265 265 record { has_entered = omega arith; passes = inr (inl refl) }
                    (omega arith) refl refl
                    record { is_card = refl; worked_off = sum_t 0 12000; at_end = refl },
                (
                  works 2 0 0 135 135 255 12000 265 record { has_entered = omega arith; passes = inr (inr (inl refl)) } (omega arith) (sum_t 130 5)
                      refl refl (in_pace 135 255 (took 135 255 (sum_t 135 120))) refl refl refl,
                  (
                    leaves 2 0 135 255 265 record { has_entered = omega arith; passes = inr (inr (inl refl)) }
                        (omega arith) refl refl
                        record { is_card = refl; worked_off = sum_t 0 12000; at_end = refl },
                    tt,
                  ),
                ),
              ),
            ),
          ),
        ),
      ),
    ),
  );
  none_complete = three_idle _ _ _ refl refl refl;
  none_overdue = rw (
    le_q_out _ _ (le_refl (whole 130 +ℚ whole 5)),
    le_q_out _ _ (le_refl (whole 130 +ℚ whole 5)),
  ) (none_due (whole 265));
}

pub to_the_first : delays_to paced_fork over_the_fork 0 1 ≡ whole 265 ∷ []
to_the_first = ap (λ (x : ℚ). x ∷ []) (with1 (whole 0) (λ c. omega (arith, c.le, c.lt, c.same)))

pub to_the_second : delays_to paced_fork over_the_fork 0 2 ≡ whole 255 ∷ []
to_the_second = ap (λ (x : ℚ). x ∷ []) (with1 (whole 0) (λ c. omega (arith, c.le, c.lt, c.same)))

pub stay : hop_delays (of_queue 0) (whole 265) (view (flat paced_fork) over_the_fork 1) ≡ whole 130 ∷ []
stay = ap (λ (x : ℚ). x ∷ []) since
  where
    since : whole 265 -ℚ (whole 130 +ℚ whole 5) ≡ whole 130
    since = with1 (whole 0) (λ c. omega (arith, c.le, c.lt, c.same))

pub held_at_0 : backlog (of_queue 0) (view (flat paced_fork) over_the_fork 0) (whole 0) ≡ whole 12000
held_at_0 =
    here (when (true && le_q (whole 0) (whole 0)) (whole 12000))
    (when (true && lt_q (whole 130) (whole 0)) (whole 12000))
    (when_true (true && le_q (whole 0) (whole 0)) (whole 12000) (le_q_out _ _ (le_refl (whole 0))))
    (when_false (true && lt_q (whole 130) (whole 0)) (whole 12000) (lt_q_not _ _ (le_t 0 130 refl)))
  where
    here : (came gone : ℚ) → came ≡ whole 12000 → gone ≡ whole 0
        → (came +ℚ (whole 0 +ℚ (whole 0 +ℚ whole 0))) -ℚ (whole 0 +ℚ (whole 0 +ℚ (gone +ℚ whole 0))) ≡ whole 12000
    here came gone e f = with2 came gone (λ c. omega (arith, c.le, c.lt, c.same))

-- ---- it keeps the service curves
-- a packet is worked on for 120, at the rate
abbrev span : ℕ → Span
span start = record { start = whole start; end = whole (start + 120); bits = whole 12000 }

-- the one packet that a server sees arrives at `came`, and is worked on from `start` on
record IsOneSpan (s : ℕ) (came : ℚ) (start : ℕ) : Type 0 where
  soon : came ≤ℚ whole start
  late : whole start ≤ℚ came +ℚ whole 10
  arrivals : (x : ℚ) → arrived all (view (flat paced_fork) over_the_fork s) x ≡ when (true && lt_q came x) (whole 12000)
  work : (x : ℚ) → worked all (view (flat paced_fork) over_the_fork s) x ≡ clip (span start) x

one_span_keeps : (s : ℕ) (came : ℚ) (start : ℕ) → IsOneSpan s came start
    → KeepsService (service s) (whole 265) (view (flat paced_fork) over_the_fork s)
one_span_keeps s came start h =
    keeps_at_rate (whole 100) (whole 10) came (whole start) (whole (start + 120)) (whole 265) (service s) V
    (service_at_most (whole 100) (whole 10) (whole (start + 120) -ℚ came) (service s) record { is = λ t on. refl })
    (le_t 0 10 refl) record {
      rate = le_t 0 100 refl;
      soon = h.late;
      only = record {
        before = λ x l. none_over (arrived all V x) (worked all V x) (h.arrivals x ∙ not_yet came (whole 12000) x l)
            (h.work x ∙ clip_early (span start) x (le_trans l h.soon));
        past = inr (λ x l.
            let a = h.arrivals x in
            let m = when_most (true && lt_q came x) (whole 12000) (le_t 0 12000 refl) in
            let w = h.work x ∙ clip_late (span start) x (whole_lt start (start + 120) (omega arith)) l in
            with3 (arrived all V x) (worked all V x) (when (true && lt_q came x) (whole 12000))
            (λ c. omega (arith, c.le, c.lt, c.same)));
      };
      early = λ x l. h.work x ∙ clip_early (span start) x l;
      steady = λ x low high. h.work x
          ∙ span_at_rate (whole 100) (whole 120) (span start) x (sym (sum_t start 120)) (lt_t 0 120 refl)
          (whole_times 100 120) low high;
    }
  where
    V : List ServerStep
    V = view (flat paced_fork) over_the_fork s

-- a server sees the packet arrive, be worked on and leave
came_alone : (v : ℚ) → v +ℚ (whole 0 +ℚ (whole 0 +ℚ whole 0)) ≡ v
came_alone v = with1 v (λ c. omega (arith, c.le, c.lt, c.same))

worked_alone : (start : ℕ) (x : ℚ)
    → whole 0 +ℚ (when true (clip (span start) x) +ℚ (whole 0 +ℚ whole 0)) ≡ clip (span start) x
worked_alone start x =
    let one = when_true true (clip (span start) x) refl in
    with2 (when true (clip (span start) x)) (clip (span start) x) (λ c. omega (arith, c.le, c.lt, c.same))

at_0 : IsOneSpan 0 (whole 0) 10
at_0 = record {
  soon = le_t 0 10 refl;
  late = rw (sum_t 0 10) (le_t 10 10 refl);
  arrivals = λ x. came_alone (when (true && lt_q (whole 0) x) (whole 12000));
  work = worked_alone 10;
}

at_1 : IsOneSpan 1 (whole 130 +ℚ whole 5) 145
at_1 = record {
  soon = rw (sum_t 130 5) (le_t 135 145 refl);
  late = rw (sum_t 130 5, sum_t 135 10) (le_t 145 145 refl);
  arrivals = λ x. came_alone (when (true && lt_q (whole 130 +ℚ whole 5) x) (whole 12000));
  work = worked_alone 145;
}

at_2 : IsOneSpan 2 (whole 130 +ℚ whole 5) 135
at_2 = record {
  soon = rw (sum_t 130 5) (le_t 135 135 refl);
  late = rw (sum_t 130 5, sum_t 135 10) (le_t 135 145 refl);
  arrivals = λ x. came_alone (when (true && lt_q (whole 130 +ℚ whole 5) x) (whole 12000));
  work = worked_alone 135;
}

pub keeps_service : (s : ℕ) → s < 3 → KeepsService (service s) (whole 265) (view (flat paced_fork) over_the_fork s)
keeps_service zero h = one_span_keeps 0 (whole 0) 10 at_0
keeps_service (suc zero) h = one_span_keeps 1 (whole 130 +ℚ whole 5) 145 at_1
keeps_service (suc (suc zero)) h = one_span_keeps 2 (whole 130 +ℚ whole 5) 135 at_2
keeps_service (suc (suc (suc s))) h = absurd (omega arith)

-- ---- and the arrival curve
pub keeps_arrivals : (i : ℕ) (s t : ℚ) → s ≤ℚ t → Fin (entered_in i s t over_the_fork.steps) ≤ₑ at_entry i (t -ℚ s)
keeps_arrivals i s t l =
    let n = whole_part ((t -ℚ s +ℚ whole 0) /ℚ whole 1000) in
    let one = when_most ((0 == i) && within s t (whole 0)) (whole 12000) (le_t 0 12000 refl) in
    let first = nat_le 1 (suc n) (omega arith) in
    with2 (when ((0 == i) && within s t (whole 0)) (whole 12000)) (int (pos (suc n)))
    (λ c. omega (arith, c.le, c.lt, c.same))
