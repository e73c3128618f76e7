-- The view in which a class gets less since its own backlogged period began than what is left to it.
use Rattle.std.specs.Prelude.{◌≡◌, true, false, ◌&&◌}
use Rattle.std.proofs.Common.{arith, sym, ap, ◌∙◌, refl, inl, inr, subst}
use Rattle.std.proofs.lemmas.Bool.{cases_Bool, and_parts}
use Rattle.rational.specs.Rational.{ℚ, ◌+ℚ◌, ◌-ℚ◌, ◌*ℚ◌, ◌/ℚ◌, ◌≤ℚ◌, ◌<ℚ◌, lt_q, le_q}
use Rattle.rational.specs.MinMax.{max_q}
use Rattle.rational.specs.Extended.{Ext, ◌≤ₑ◌, ◌+ₑ◌}
use Rattle.rational.specs.declared.Extended.TheVariants.{Fin}
use Rattle.rational.proofs.Laws.{le_refl, le_trans, le_or_lt, le_of_lt, le_lt_trans, lt_trans, lt_irrefl}
use Rattle.rational.proofs.Laws.{antisym, mul_comm}
use Rattle.rational.proofs.Linear.{with1, with2, with3, with4, with5}
use Rattle.rational.proofs.MinMax.{max_q_ge_left, max_q_ge_right, max_q_le, max_q_right}
use Rattle.rational.proofs.Over.{le_q_in, lt_q_out}
use Rattle.min_plus.specs.Functions.{zero_q}
use Rattle.run_laws.specs.Cards.{all, whole}
use Rattle.run_laws.specs.Servers.{Priority, Span, clip}
use Rattle.run_laws.specs.Allows.{IsLawfulView}
use Rattle.run_laws.specs.Counts.{when, before, within, arrived, arrived_in, worked, departed}
use Rattle.run_laws.specs.Premises.{KeepsArrivals, KeepsService, IsZeroAtStart}
use Rattle.run_laws.specs.Backlogged.{IsBacklogged}
use Rattle.run_laws.specs.Serves.{IsServed}
use Rattle.run_laws.specs.Examples.{paced_server}
use Rattle.run_laws.proofs.Clips.{quotient, clip_early, clip_late}
use Rattle.run_laws.proofs.Gone.{left_nonneg}
use Rattle.run_laws.proofs.Small.{le_t, lt_t, sum_t, in_time, works_whole}
use Rattle.run_laws.proofs.Sums.{when_true, when_false, when_nonneg, when_most}
use Rattle.residual_laws.specs.RestLaws.{others, rest_left, IsRestService, RestServesSincePeriodOf}
use Rattle.residual_laws.specs.lines.RateDebt.{rate_debt_value}
use Rattle.residual_laws.proofs.lines.RateDebt.{rises, less_line}
use Rattle.residual_laws.proofs.lines.Lines.{running}
use Rattle.worked_trees.proofs.Busy.{not_yet, keeps_at_rate, span_at_rate}
use Rattle.worked_trees.specs.OwnPeriod.{second, comes_last, passed_by, service, brought, left, OwnPeriodIsTooShort}

-- ---- when the last packet comes
four_times : whole 4 *ℚ comes_last ≡ whole 13
four_times = mul_comm (whole 4) comes_last ∙ quotient (whole 13) (whole 4) (lt_t 0 4 refl)

after_3 : whole 3 <ℚ comes_last
after_3 = let e = four_times in with1 comes_last (λ c. omega (arith, c.le, c.lt, c.same))

before_4 : comes_last <ℚ whole 4
before_4 = let e = four_times in with1 comes_last (λ c. omega (arith, c.le, c.lt, c.same))

before_5 : comes_last <ℚ whole 5
before_5 = let e = four_times in with1 comes_last (λ c. omega (arith, c.le, c.lt, c.same))

-- ---- lawful
is_lawful : IsLawfulView (paced_server (Priority 2) 3) (whole 5) passed_by
is_lawful = record {
  allowed = (
    (in_time 0 0 5 refl refl, record { known_queue = omega arith; some_bits = omega arith }),
    (
      (in_time 0 0 5 refl refl, works_whole 0 0 3 9 5 refl refl nine refl refl),
      (
        (in_time 0 0 5 refl refl, record { known_queue = omega arith; some_bits = omega arith }),
        (
          (in_time 0 3 5 refl refl, record { is_card = refl; worked_off = sum_t 0 9; at_end = refl }),
          (
            (in_time 3 3 5 refl refl, record { known_queue = omega arith; some_bits = omega arith }),
            (
              (in_time 3 3 5 refl refl, works_whole 3 3 4 3 5 refl refl three refl refl),
              (
                (
                  record { in_order = le_of_lt after_3; in_run = le_of_lt before_5 },
                  record { known_queue = omega arith; some_bits = omega arith },
                ),
                (
                  (
                    record { in_order = le_of_lt before_4; in_run = le_t 4 5 refl },
                    record { is_card = refl; worked_off = sum_t 0 3; at_end = refl },
                  ),
                  (
                    (in_time 4 4 5 refl refl, works_whole 4 4 5 3 5 refl refl three_more refl refl),
                    (
                      (in_time 4 5 5 refl refl, record { is_card = refl; worked_off = sum_t 0 3; at_end = refl }),
                      tt,
                    ),
                  ),
                ),
              ),
            ),
          ),
        ),
      ),
    ),
  );
  none_complete = λ h. h;
}
  where
    nine : whole 9 ≤ℚ whole 3 *ℚ (whole 3 -ℚ whole 0)
    nine = with1 (whole 0) (λ c. omega (arith, c.le, c.lt, c.same))

    three : whole 3 ≤ℚ whole 3 *ℚ (whole 4 -ℚ whole 3)
    three = with1 (whole 0) (λ c. omega (arith, c.le, c.lt, c.same))

    three_more : whole 3 ≤ℚ whole 3 *ℚ (whole 5 -ℚ whole 4)
    three_more = with1 (whole 0) (λ c. omega (arith, c.le, c.lt, c.same))

-- ---- what was worked
abbrev spans_first : Span
spans_first = record { start = whole 0; end = whole 3; bits = whole 9 }

abbrev spans_second : Span
spans_second = record { start = whole 3; end = whole 4; bits = whole 3 }

abbrev spans_third : Span
spans_third = record { start = whole 4; end = whole 5; bits = whole 3 }

three_works : (p q r a b c : ℚ) → p ≡ a → q ≡ b → r ≡ c
    → whole 0 +ℚ (p +ℚ (whole 0 +ℚ (whole 0 +ℚ (whole 0 +ℚ
    (q +ℚ (whole 0 +ℚ (whole 0 +ℚ (r +ℚ (whole 0 +ℚ whole 0)))))))))
    ≡ a +ℚ (b +ℚ c)
three_works p q r a b c e f g = rw (e, f, g) (with3 a b c (λ c. omega (arith, c.le, c.lt, c.same)))

all_worked : (x : ℚ) → worked all passed_by x ≡ clip spans_first x +ℚ (clip spans_second x +ℚ clip spans_third x)
all_worked x =
    three_works (when true (clip spans_first x)) (when true (clip spans_second x)) (when true (clip spans_third x))
    (clip spans_first x) (clip spans_second x) (clip spans_third x)
    (when_true true (clip spans_first x) refl) (when_true true (clip spans_second x) refl)
    (when_true true (clip spans_third x) refl)

second_worked : (x : ℚ) → worked second passed_by x ≡ clip spans_first x +ℚ (whole 0 +ℚ whole 0)
second_worked x =
    three_works (when true (clip spans_first x)) (when false (clip spans_second x)) (when false (clip spans_third x))
    (clip spans_first x) (whole 0) (whole 0)
    (when_true true (clip spans_first x) refl) (when_false false (clip spans_second x) refl)
    (when_false false (clip spans_third x) refl)

-- of the class, 9 bits from 3 on
nine_worked : (x : ℚ) → whole 3 ≤ℚ x → worked second passed_by x ≡ whole 9
nine_worked x l =
    second_worked x ∙ ap (λ (y : ℚ). y +ℚ (whole 0 +ℚ whole 0)) (clip_late spans_first x (lt_t 0 3 refl) l)
    ∙ sum_9
  where
    sum_9 : whole 9 +ℚ (whole 0 +ℚ whole 0) ≡ whole 9
    sum_9 = with1 (whole 0) (λ c. omega (arith, c.le, c.lt, c.same))

-- of all, 3 a unit of time
none_yet : (x : ℚ) → x ≤ℚ whole 0 → worked all passed_by x ≡ zero_q
none_yet x l =
    let a = clip_early spans_first x l in
    let b = clip_early spans_second x (le_trans l (le_t 0 3 refl)) in
    let c = clip_early spans_third x (le_trans l (le_t 0 4 refl)) in
    let e = all_worked x in
    with4 (worked all passed_by x) (clip spans_first x) (clip spans_second x) (clip spans_third x)
    (λ k. omega (arith, k.le, k.lt, k.same))

steady : (x : ℚ) → whole 0 ≤ℚ x → x ≤ℚ whole 5 → worked all passed_by x ≡ whole 3 *ℚ (x -ℚ whole 0)
steady x low high =
    let e = all_worked x in
    elim (le_or_lt x (whole 3)) [
      | inl l ↦
          let a = span_at_rate (whole 3) (whole 3) spans_first x (sym (sum_t 0 3)) (lt_t 0 3 refl) nine low l in
          let b = clip_early spans_second x l in
          let c = clip_early spans_third x (le_trans l (le_t 3 4 refl)) in
          with5 x (worked all passed_by x) (clip spans_first x) (clip spans_second x) (clip spans_third x)
          (λ k. omega (arith, k.le, k.lt, k.same))
      | inr l ↦
          let a = clip_late spans_first x (lt_t 0 3 refl) (le_of_lt l) in
          elim (le_or_lt x (whole 4)) [
            | inl m ↦
                let b =
                span_at_rate (whole 3) (whole 1) spans_second x (sym (sum_t 3 1)) (lt_t 0 1 refl) three
                (le_of_lt l) m in
                let c = clip_early spans_third x m in
                with5 x (worked all passed_by x) (clip spans_first x) (clip spans_second x) (clip spans_third x)
                (λ k. omega (arith, k.le, k.lt, k.same))
            | inr m ↦
                let b = clip_late spans_second x (lt_t 3 4 refl) (le_of_lt m) in
                let c =
                span_at_rate (whole 3) (whole 1) spans_third x (sym (sum_t 4 1)) (lt_t 0 1 refl) three
                (le_of_lt m) high in
                with5 x (worked all passed_by x) (clip spans_first x) (clip spans_second x) (clip spans_third x)
                (λ k. omega (arith, k.le, k.lt, k.same))
          ]
    ]
  where
    nine : whole 9 ≡ whole 3 *ℚ whole 3
    nine = with1 (whole 0) (λ c. omega (arith, c.le, c.lt, c.same))

    three : whole 3 ≡ whole 3 *ℚ whole 1
    three = with1 (whole 0) (λ c. omega (arith, c.le, c.lt, c.same))

-- ---- what arrived
four_arrivals : (p q r s a b c d : ℚ) → p ≡ a → q ≡ b → r ≡ c → s ≡ d
    → p +ℚ (whole 0 +ℚ (q +ℚ (whole 0 +ℚ (r +ℚ (whole 0 +ℚ (s +ℚ (whole 0 +ℚ (whole 0 +ℚ (whole 0 +ℚ whole 0)))))))))
    ≡ a +ℚ (b +ℚ (c +ℚ d))
four_arrivals p q r s a b c d e f g h = rw (e, f, g, h) (with4 a b c d (λ k. omega (arith, k.le, k.lt, k.same)))

came : (u bits x : ℚ) → u <ℚ x → when (true && lt_q u x) bits ≡ bits
came u bits x l = when_true (true && lt_q u x) bits (lt_q_out _ _ l)

never : (u bits x : ℚ) → when (false && lt_q u x) bits ≡ whole 0
never u bits x = when_false (false && lt_q u x) bits refl

-- of the class, 9 bits until the last packet comes, and then 10
second_before : (x : ℚ) → whole 0 <ℚ x → x ≤ℚ comes_last → arrived second passed_by x ≡ whole 9
second_before x l m =
    four_arrivals (when (true && lt_q (whole 0) x) (whole 9)) (when (false && lt_q (whole 0) x) (whole 3))
    (when (false && lt_q (whole 3) x) (whole 3)) (when (true && lt_q comes_last x) (whole 1))
    (whole 9) (whole 0) (whole 0) (whole 0)
    (came (whole 0) (whole 9) x l) (never (whole 0) (whole 3) x)
    (never (whole 3) (whole 3) x) (not_yet comes_last (whole 1) x m)
    ∙ with1 (whole 0) (λ c. omega (arith, c.le, c.lt, c.same))

second_past : (x : ℚ) → comes_last <ℚ x → arrived second passed_by x ≡ whole 10
second_past x l =
    let after = after_3 in
    four_arrivals (when (true && lt_q (whole 0) x) (whole 9)) (when (false && lt_q (whole 0) x) (whole 3))
    (when (false && lt_q (whole 3) x) (whole 3)) (when (true && lt_q comes_last x) (whole 1))
    (whole 9) (whole 0) (whole 0) (whole 1)
    (came (whole 0) (whole 9) x (with2 x comes_last (λ c. omega (arith, c.le, c.lt, c.same))))
    (never (whole 0) (whole 3) x) (never (whole 3) (whole 3) x) (came comes_last (whole 1) x l)
    ∙ with1 (whole 0) (λ c. omega (arith, c.le, c.lt, c.same))

-- of all, none up to 0, 12 bits up to 3, and then 15 or more
all_at_first : (x : ℚ) → x ≤ℚ whole 0 → arrived all passed_by x ≡ zero_q
all_at_first x l =
    let m = le_trans l (le_t 0 3 refl) in
    four_arrivals (when (true && lt_q (whole 0) x) (whole 9)) (when (true && lt_q (whole 0) x) (whole 3))
    (when (true && lt_q (whole 3) x) (whole 3)) (when (true && lt_q comes_last x) (whole 1))
    (whole 0) (whole 0) (whole 0) (whole 0)
    (not_yet (whole 0) (whole 9) x l) (not_yet (whole 0) (whole 3) x l)
    (not_yet (whole 3) (whole 3) x m) (not_yet comes_last (whole 1) x (le_trans m (le_of_lt after_3)))
    ∙ with1 (whole 0) (λ c. omega (arith, c.le, c.lt, c.same))

all_up_to_3 : (x : ℚ) → whole 0 <ℚ x → x ≤ℚ whole 3 → arrived all passed_by x ≡ whole 12
all_up_to_3 x l m =
    four_arrivals (when (true && lt_q (whole 0) x) (whole 9)) (when (true && lt_q (whole 0) x) (whole 3))
    (when (true && lt_q (whole 3) x) (whole 3)) (when (true && lt_q comes_last x) (whole 1))
    (whole 9) (whole 3) (whole 0) (whole 0)
    (came (whole 0) (whole 9) x l) (came (whole 0) (whole 3) x l)
    (not_yet (whole 3) (whole 3) x m) (not_yet comes_last (whole 1) x (le_trans m (le_of_lt after_3)))
    ∙ with1 (whole 0) (λ c. omega (arith, c.le, c.lt, c.same))

all_past_3 : (x : ℚ) → whole 3 <ℚ x → whole 15 ≤ℚ arrived all passed_by x
all_past_3 x l =
    let m : whole 0 <ℚ x = with1 x (λ c. omega (arith, c.le, c.lt, c.same)) in
    let last = when (true && lt_q comes_last x) (whole 1) in
    let some = when_nonneg (true && lt_q comes_last x) (whole 1) (le_t 0 1 refl) in
    rw (four_arrivals (when (true && lt_q (whole 0) x) (whole 9)) (when (true && lt_q (whole 0) x) (whole 3))
    (when (true && lt_q (whole 3) x) (whole 3)) last (whole 9) (whole 3) (whole 3) last
    (came (whole 0) (whole 9) x m) (came (whole 0) (whole 3) x m) (came (whole 3) (whole 3) x l) refl)
    (with1 last (λ c. omega (arith, c.le, c.lt, c.same)))

-- ---- the curves
keeps_service : KeepsService service (whole 5) passed_by
keeps_service =
    keeps_at_rate (whole 3) (whole 0) (whole 0) (whole 0) (whole 5) (whole 5) service passed_by
    (λ u on l.
    let m = max_q_ge_right zero_q (u -ℚ whole 0) in
    let n = max_q_ge_left zero_q (u -ℚ whole 0) in
    max_q_le zero_q (whole 3 *ℚ u -ℚ whole 0) (whole 3 *ℚ max_q zero_q (u -ℚ whole 0))
    (with2 u (max_q zero_q (u -ℚ whole 0)) (λ c. omega (arith, c.le, c.lt, c.same)))
    (with2 u (max_q zero_q (u -ℚ whole 0)) (λ c. omega (arith, c.le, c.lt, c.same))))
    (le_refl (whole 0)) record {
      rate = le_t 0 3 refl;
      soon = with1 (whole 0) (λ c. omega (arith, c.le, c.lt, c.same));
      only = record {
        before = λ x l. rw (all_at_first x l, none_yet x l) (le_refl zero_q);
        past = inl refl;
      };
      early = none_yet;
      steady = steady;
    }

from_zero : IsZeroAtStart service
from_zero =
    max_q_le zero_q (whole 3 *ℚ zero_q -ℚ whole 0) zero_q (le_refl zero_q)
    (with1 (whole 0) (λ c. omega (arith, c.le, c.lt, c.same)))

others_keep : KeepsArrivals (others second) brought passed_by
others_keep s t l =
    let one = within s t (whole 0) in
    let two = within s t (whole 3) in
    let a = when (true && one) (whole 3) in
    let b = when (true && two) (whole 3) in
    let is : arrived_in (others second) passed_by s t ≡ whole 0 +ℚ (a +ℚ (b +ℚ whole 0)) =
    four_arrivals (when (false && one) (whole 9)) a b (when (false && within s t comes_last) (whole 1)) (whole 0) a b
    (whole 0) (when_false (false && one) (whole 9) refl) refl refl
    (when_false (false && within s t comes_last) (whole 1) refl) in
    let a_most = when_most (true && one) (whole 3) (le_t 0 3 refl) in
    let b_most = when_most (true && two) (whole 3) (le_t 0 3 refl) in
    rw is (elim (cases_Bool one) [
      | inr e ↦
          let none = when_false (true && one) (whole 3) e in
          with4 s t a b (λ c. omega (arith, c.le, c.lt, c.same))
      | inl e ↦ elim (cases_Bool two) [
        | inr f ↦
            let none = when_false (true && two) (whole 3) f in
            with4 s t a b (λ c. omega (arith, c.le, c.lt, c.same))
        | inl f ↦
            let early = le_q_in s (whole 0) (and_parts (le_q s (whole 0)) (le_q (whole 0) t) e).0 in
            let late = le_q_in (whole 3) t (and_parts (le_q s (whole 3)) (le_q (whole 3) t) f).1 in
            with4 s t a b (λ c. omega (arith, c.le, c.lt, c.same))
      ]
    ])

is_left : IsRestService service brought left
is_left =
    running (rest_left service brought) left (rises (whole 2) (whole 3) (le_t 0 2 refl))
    (λ t on.
    less_line (whole 3) (whole 0) (whole 3) (whole 1) t (with1 t (λ c. omega (arith, c.le, c.lt, c.same)))
    ∙ ap (λ (r : ℚ). rate_debt_value r (whole 0 +ℚ whole 3) t) slower
    ∙ ap (λ (d : ℚ). rate_debt_value (whole 2) d t) (sum_t 0 3))
  where
    slower : whole 3 -ℚ whole 1 ≡ whole 2
    slower = with1 (whole 0) (λ c. omega (arith, c.le, c.lt, c.same))

-- ---- the periods
of_server : IsBacklogged all passed_by (whole 0) (whole 5)
of_server = record {
  begins = lt_t 0 5 refl;
  caught_up = rw (all_at_first (whole 0) (le_refl (whole 0)), none_yet (whole 0) (le_refl (whole 0))) (le_refl zero_q);
  busy = λ x l m.
      let w = steady x (le_of_lt l) (le_of_lt m) in
      elim (le_or_lt x (whole 3)) [
        | inl n ↦ rw (w, all_up_to_3 x l n) (with1 x (λ c. omega (arith, c.le, c.lt, c.same)))
        | inr n ↦
            let some = all_past_3 x n in
            rw w (with2 x (arrived all passed_by x) (λ c. omega (arith, c.le, c.lt, c.same)))
      ];
}

idle : (x : ℚ) → whole 3 ≤ℚ x → x ≤ℚ comes_last → arrived second passed_by x ≡ worked second passed_by x
idle x l m =
    second_before x (with1 x (λ c. omega (arith, c.le, c.lt, c.same))) m ∙ sym (nine_worked x l)

idle_at_last : arrived second passed_by comes_last ≡ worked second passed_by comes_last
idle_at_last = idle comes_last (le_of_lt after_3) (le_refl comes_last)

of_class : IsBacklogged second passed_by comes_last (whole 5)
of_class = record {
  begins = before_5;
  caught_up = rw idle_at_last (le_refl (worked second passed_by comes_last));
  busy = λ x l m. rw (nine_worked x (le_of_lt (lt_trans after_3 l)), second_past x l) (lt_t 9 10 refl);
}

no_other : (s : ℚ) → IsBacklogged second passed_by s (whole 5) → s ≡ comes_last
no_other s h = elim (le_or_lt s comes_last) [
  | inr l ↦
      let late = le_of_lt (lt_trans after_3 l) in
      let k : whole 10 ≤ℚ whole 9 = rw (second_past s l, nine_worked s late) at h.caught_up in
      absurd (with1 (whole 0) (λ c. omega (arith, c.le, c.lt, c.same)))
  | inl l ↦ elim (le_or_lt comes_last s) [
    | inl m ↦ antisym (l, m)
    | inr m ↦
        let late = h.busy comes_last m before_5 in
        let k : worked second passed_by comes_last <ℚ worked second passed_by comes_last =
        rw idle_at_last at late in
        absurd (lt_irrefl (worked second passed_by comes_last) k)
  ]
]

since_server : IsServed second left passed_by (whole 5) (whole 0)
since_server = record {
  earlier = le_t 0 5 refl;
  left = rw none (left_nonneg second (before (whole 5)) passed_by);
  kept_up = rw (none, nine_worked (whole 5) (le_t 3 5 refl))
      (subst (λ (y : ℚ). whole 0 +ℚ y ≤ℚ whole 9)
      (sym (max_q_right zero_q (whole 2 *ℚ (whole 5 -ℚ whole 0) -ℚ whole 3) on)) few);
}
  where
    none : arrived second passed_by (whole 0) ≡ whole 0
    none =
        four_arrivals (when (true && lt_q (whole 0) (whole 0)) (whole 9))
        (when (false && lt_q (whole 0) (whole 0)) (whole 3))
        (when (false && lt_q (whole 3) (whole 0)) (whole 3)) (when (true && lt_q comes_last (whole 0)) (whole 1))
        (whole 0) (whole 0) (whole 0) (whole 0)
        (not_yet (whole 0) (whole 9) (whole 0) (le_refl (whole 0))) (never (whole 0) (whole 3) (whole 0))
        (never (whole 3) (whole 3) (whole 0))
        (not_yet comes_last (whole 1) (whole 0) (le_trans (le_t 0 3 refl) (le_of_lt after_3)))
        ∙ with1 (whole 0) (λ c. omega (arith, c.le, c.lt, c.same))

    on : zero_q ≤ℚ whole 2 *ℚ (whole 5 -ℚ whole 0) -ℚ whole 3
    on = with1 (whole 0) (λ c. omega (arith, c.le, c.lt, c.same))

    few : whole 0 +ℚ (whole 2 *ℚ (whole 5 -ℚ whole 0) -ℚ whole 3) ≤ℚ whole 9
    few = with1 (whole 0) (λ c. omega (arith, c.le, c.lt, c.same))

twice : whole 2 *ℚ (whole 19 /ℚ whole 2) ≡ whole 19
twice = mul_comm (whole 2) (whole 19 /ℚ whole 2) ∙ quotient (whole 19) (whole 2) (lt_t 0 2 refl)

over_9 : whole 9 <ℚ whole 19 /ℚ whole 2
over_9 = let e = twice in with1 (whole 19 /ℚ whole 2) (λ c. omega (arith, c.le, c.lt, c.same))

claimed : (Fin (arrived second passed_by comes_last) +ₑ left (whole 5 -ℚ comes_last)) ≡ Fin (whole 19 /ℚ whole 2)
claimed =
    rw (second_before comes_last (lt_trans (lt_t 0 3 refl) after_3) (le_refl comes_last))
    (ap (λ (y : ℚ). Fin (whole 9 +ℚ y))
    (max_q_right zero_q (whole 2 *ℚ (whole 5 -ℚ comes_last) -ℚ whole 3) on) ∙ ap Fin halves)
  where
    on : zero_q ≤ℚ whole 2 *ℚ (whole 5 -ℚ comes_last) -ℚ whole 3
    on = let e = four_times in with1 comes_last (λ c. omega (arith, c.le, c.lt, c.same))

    halves : whole 9 +ℚ (whole 2 *ℚ (whole 5 -ℚ comes_last) -ℚ whole 3) ≡ whole 19 /ℚ whole 2
    halves =
        let e = four_times in
        let f = twice in
        with2 comes_last (whole 19 /ℚ whole 2) (λ c. omega (arith, c.le, c.lt, c.same))

-- ---- not since the class's own
waits : departed second passed_by (whole 5) <ℚ arrived second passed_by (whole 5)
waits =
    rw (second_past (whole 5) before_5)
    (few (when (true && lt_q (whole 3) (whole 5)) (whole 9)) (when (false && lt_q (whole 4) (whole 5)) (whole 3))
    (when (false && lt_q (whole 5) (whole 5)) (whole 3))
    (when_most (true && lt_q (whole 3) (whole 5)) (whole 9) (le_t 0 9 refl))
    (never (whole 4) (whole 3) (whole 5)) (never (whole 5) (whole 3) (whole 5)))
  where
    few : (p q r : ℚ) → p ≤ℚ whole 9 → q ≡ whole 0 → r ≡ whole 0
        → whole 0 +ℚ (whole 0 +ℚ (whole 0 +ℚ (p +ℚ (whole 0 +ℚ (whole 0 +ℚ (whole 0 +ℚ
        (q +ℚ (whole 0 +ℚ (r +ℚ whole 0)))))))))
        <ℚ whole 10
    few p q r l e f = with3 p q r (λ c. omega (arith, c.le, c.lt, c.same))

not_since_own : ¬ RestServesSincePeriodOf (λ C. C)
not_since_own law =
    let (s, own, served) =
    law (paced_server (Priority 2) 3) (whole 5) passed_by second service brought left is_lawful keeps_service from_zero
    others_keep is_left (whole 5) (le_t 5 5 refl) waits in
    let done = worked second passed_by (whole 5) in
    let since_it =
    subst (λ (u : ℚ). (Fin (arrived second passed_by u) +ₑ left (whole 5 -ℚ u)) ≤ₑ Fin done)
    (no_other s own) served.kept_up in
    let more : whole 19 /ℚ whole 2 ≤ℚ worked second passed_by (whole 5) =
    subst (λ (x : Ext). x ≤ₑ Fin (worked second passed_by (whole 5))) claimed since_it in
    let k : whole 19 /ℚ whole 2 ≤ℚ whole 9 =
    subst (λ (y : ℚ). whole 19 /ℚ whole 2 ≤ℚ y) (nine_worked (whole 5) (le_t 3 5 refl)) more in
    lt_irrefl (whole 19 /ℚ whole 2) (le_lt_trans k over_9)

pub own_period_is_too_short : OwnPeriodIsTooShort
own_period_is_too_short = record {
  lawful = is_lawful;
  works = keeps_service;
  from_zero = from_zero;
  others_keep = others_keep;
  is_left = is_left;
  waits = waits;
  idle = idle;
  of_server = of_server;
  of_class = of_class;
  no_other = no_other;
  since_server = since_server;
  claimed = claimed;
  done = nine_worked (whole 5) (le_t 3 5 refl);
  not_since_own = not_since_own;
}
