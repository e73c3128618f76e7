-- The ramp in which a time is tells how many bits there are up to it.
use Rattle.std.specs.Prelude.{◌≡◌, ℕ, zero, suc, ◌+◌, ◌-◌, ◌<◌, ◌≤◌, pos, Bool, true, false, ◌&&◌, List, [], ◌∷◌, length, get_or}
use Rattle.std.specs.List.{slice_index_or}
use Rattle.std.proofs.Common.{arith, inl, inr, refl, sym, subst, ap, ap₂, ◌∙◌, true≢false}
use Rattle.std.proofs.lemmas.Bool.{and_left, and_right}
use Rattle.std.proofs.lemmas.List.{get_or_default}
use Rattle.rational.specs.Rational.{ℚ, int, ◌+ℚ◌, ◌-ℚ◌, ◌*ℚ◌, ◌/ℚ◌, ◌≤ℚ◌, ◌<ℚ◌, lt_q, le_q, inv_ℚ}
use Rattle.rational.proofs.Laws.{le_refl, le_trans, le_or_lt, le_of_lt, lt_le_trans, le_lt_trans, lt_irrefl, antisym, add_assoc, add_zero, mul_assoc, mul_comm, div_mul, not_zero}
use Rattle.rational.proofs.Linear.{with2}
use Rattle.rational.proofs.Over.{le_q_out, lt_q_out, lt_q_in, le_q_in}
use Rattle.rational.proofs.MinMax.{le_q_not, lt_q_not}
use Rattle.run_laws.specs.Servers as servers
use Rattle.run_laws.proofs.Sums.{when_true, when_false, add_nothing}
use Rattle.run_watch.specs.declared.span.Span.{Span}
use Rattle.run_watch.specs.declared.span.Ramp.{Ramp}
use Rattle.run_watch.specs.Ramps.{as_span, amount, pace_in, rate_before, rate_after, InOrder, TakeTime, ramps_after, AreRamps, spans_of, part, all_done, paced_before, paced_after, EachRamp, EndBefore, EndBy, EndsBefore, EndsBy}

-- ---- one span
pub clip_past : (s : servers.Span) (t : ℚ) → s.start <ℚ t → s.end ≤ℚ t → servers.clip s t ≡ s.bits
unfolding servers.clip
clip_past s t h k = rw (le_q_not t s.start h, le_q_out s.end t k) refl

pub clip_before : (s : servers.Span) (t : ℚ) → t ≤ℚ s.start → servers.clip s t ≡ int (pos 0)
unfolding servers.clip
clip_before s t h = rw (le_q_out t s.start h) refl

-- (x / k) y = x (y / k)
over_times : (x y k : ℚ) → (x /ℚ k) *ℚ y ≡ x *ℚ (y /ℚ k)
unfolding ◌/ℚ◌
over_times x y k = mul_assoc x (inv_ℚ k) y ∙ ap (λ z. x *ℚ z) (mul_comm (inv_ℚ k) y)

pub clip_within : (s : servers.Span) (t : ℚ) → s.start <ℚ t → t ≤ℚ s.end → servers.clip s t ≡ (s.bits /ℚ (s.end -ℚ s.start)) *ℚ (t -ℚ s.start)
unfolding servers.clip
clip_within s t h k = elim (le_or_lt s.end t) [
  | inl l ↦
      let e : s.end ≡ t = antisym (l, k) in
      let a = s.start in
      let b = s.end in
      let longer : int (pos 0) <ℚ s.end -ℚ s.start = let g : a <ℚ b = lt_le_trans h k in with2 a b (λ c. omega (arith, c.le, c.lt, c.same)) in
      clip_past s t h l ∙ sym (div_mul s.bits (s.end -ℚ s.start) (not_zero (s.end -ℚ s.start) longer)) ∙ ap (λ z. (s.bits /ℚ (s.end -ℚ s.start)) *ℚ (z -ℚ s.start)) e
  | inr l ↦ rw (le_q_not t s.start h, le_q_not s.end t l) (sym (over_times s.bits (t -ℚ s.start) (s.end -ℚ s.start)))
]

pub pace_is : (s : Span) → s.start <ℚ s.end → pace_in s ≡ s.bits /ℚ (s.end -ℚ s.start)
pace_is s h = rw (lt_q_out s.start s.end h) refl

-- ---- how many bits
pub amount_late : (from t : ℚ) (ss : List Span) → InOrder from ss → t ≤ℚ from → amount ss t ≡ int (pos 0)
amount_late from t [] h l = refl
amount_late from t (s ∷ ss) h l =
    ap₂ (λ (x y : ℚ). x +ℚ y) (clip_before (as_span s) t (le_trans l h.0)) (amount_late s.end t ss h.2 (le_trans l (le_trans h.0 h.1))) ∙ add_nothing (int (pos 0))

pub part_first : (done t : ℚ) (s : Span) (ss : List Span) → s.start ≤ℚ s.end → InOrder s.end ss → t ≤ℚ s.end
    → done +ℚ amount (s ∷ ss) t ≡ part record { span = s; before = done; after = done +ℚ s.bits; pace = pace_in s } t
part_first done t s ss g h l =
    let rest = amount_late s.end t ss h l in
    elim (le_or_lt t s.start) [
      | inl k ↦ rw (lt_q_not s.start t k) (ap (λ z. done +ℚ z) (ap₂ (λ (x y : ℚ). x +ℚ y) (clip_before (as_span s) t k) rest ∙ add_nothing (int (pos 0))) ∙ add_zero done)
      | inr k ↦
          let paced = pace_is s (lt_le_trans k l) in
          rw (lt_q_out s.start t k, paced) (ap (λ z. done +ℚ z) (ap₂ (λ (x y : ℚ). x +ℚ y) (clip_within (as_span s) t k l) rest ∙ add_zero ((s.bits /ℚ (s.end -ℚ s.start)) *ℚ (t -ℚ s.start))))
    ]

amount_here : (done from t : ℚ) (ss : List Span) (k : ℕ) (r : Ramp) → InOrder from ss → k < length (ramps_after done ss) → r ≡ get_or (ramps_after done ss) k r
    → EndBefore t (ramps_after done ss) k → t ≤ℚ r.span.end → done +ℚ amount ss t ≡ part r t
amount_here done from t [] k r h l e before near = absurd (omega arith)
amount_here done from t (s ∷ ss) zero r h l e before near =
    subst (λ (q : Ramp). done +ℚ amount (s ∷ ss) t ≡ part q t) (sym e) (part_first done t s ss h.1 h.2 (subst (λ (q : Ramp). t ≤ℚ q.span.end) e near))
amount_here done from t (s ∷ ss) (suc k) r h l e before near =
    let past : s.end <ℚ t = lt_q_in s.end t (before 0 r (omega arith) (omega arith)) in
    ap (λ z. done +ℚ (z +ℚ amount ss t)) (clip_past (as_span s) t (le_lt_trans h.1 past) (le_of_lt past)) ∙ sym (add_assoc done s.bits (amount ss t))
    ∙ amount_here (done +ℚ s.bits) s.end t ss k r h.2 (omega arith) e (λ i d a b. before (suc i) d (omega arith) (omega arith)) near

amount_all : (done from t : ℚ) (s : Span) (ss : List Span) → InOrder from (s ∷ ss) → EndBefore t (ramps_after done (s ∷ ss)) (length (ramps_after done (s ∷ ss)))
    → done +ℚ amount (s ∷ ss) t ≡ all_done (ramps_after done (s ∷ ss))
amount_all done from t s [] h before =
    let past : s.end <ℚ t = lt_q_in s.end t (before 0 record { span = s; before = done; after = done; pace = done } (omega arith) (omega arith)) in
    ap (λ z. done +ℚ z) (add_zero (servers.clip (as_span s) t) ∙ clip_past (as_span s) t (le_lt_trans h.1 past) (le_of_lt past))
amount_all done from t s (q ∷ ss) h before =
    let past : s.end <ℚ t = lt_q_in s.end t (before 0 record { span = s; before = done; after = done; pace = done } (omega arith) (omega arith)) in
    ap (λ z. done +ℚ (z +ℚ amount (q ∷ ss) t)) (clip_past (as_span s) t (le_lt_trans h.1 past) (le_of_lt past)) ∙ sym (add_assoc done s.bits (amount (q ∷ ss) t))
    ∙ amount_all (done +ℚ s.bits) s.end t q ss h.2 (λ i d a b. before (suc i) d (omega arith) (omega arith))

pub spans_are : (done : ℚ) (ss : List Span) → spans_of (ramps_after done ss) ≡ ss
spans_are done [] = refl
spans_are done (s ∷ ss) = ap (λ (xs : List Span). s ∷ xs) (spans_are (done +ℚ s.bits) ss)

pub amount_found : (rs : List Ramp) (t : ℚ) (k : ℕ) (r : Ramp) → AreRamps rs → k < length rs → r ≡ slice_index_or rs k r → EndBefore t rs k → t ≤ℚ r.span.end
    → part r t ≡ amount (spans_of rs) t
amount_found rs t k r A l e before near =
    let is = A.is in
    let z = int (pos 0) in
    let h = amount_here z A.from t A.spans k r A.in_order (subst (λ (xs : List Ramp). k < length xs) is l) (subst (λ (xs : List Ramp). r ≡ get_or xs k r) is e) (subst (λ (xs : List Ramp). EndBefore t xs k) is before) near in
    sym h ∙ add_nothing (amount A.spans t) ∙ ap (λ (ss : List Span). amount ss t) (sym (ap spans_of is ∙ spans_are z A.spans))

pub amount_past : (rs : List Ramp) (t : ℚ) → AreRamps rs → EndBefore t rs (length rs) → all_done rs ≡ amount (spans_of rs) t
amount_past rs t A before = go A.spans A.is A.in_order
  where
    go : (ss : List Span) → rs ≡ ramps_after (int (pos 0)) ss → InOrder A.from ss → all_done rs ≡ amount (spans_of rs) t
    go [] is h = ap all_done is ∙ ap (λ (xs : List Ramp). amount (spans_of xs) t) (sym is)
    go (s ∷ ss) is h =
        let z = int (pos 0) in
        ap all_done is ∙ sym (amount_all z A.from t s ss h (subst (λ (xs : List Ramp). EndBefore t xs (length xs)) is before)) ∙ add_nothing (amount (s ∷ ss) t)
        ∙ ap (λ (qs : List Span). amount qs t) (sym (ap spans_of is ∙ spans_are z (s ∷ ss)))

-- ---- the ramps that end before a time come first
end_later : (from done : ℚ) (ss : List Span) (j : ℕ) (d : Ramp) → InOrder from ss → j < length (ramps_after done ss) → from ≤ℚ (get_or (ramps_after done ss) j d).span.end
end_later from done [] j d h l = absurd (omega arith)
end_later from done (s ∷ ss) zero d h l = le_trans h.0 h.1
end_later from done (s ∷ ss) (suc j) d h l = le_trans h.0 (le_trans h.1 (end_later s.end (done +ℚ s.bits) ss j d h.2 (omega arith)))

ends_rise : (from done : ℚ) (ss : List Span) (i j : ℕ) (d : Ramp) → InOrder from ss → i ≤ j → j < length (ramps_after done ss)
    → (get_or (ramps_after done ss) i d).span.end ≤ℚ (get_or (ramps_after done ss) j d).span.end
ends_rise from done [] i j d h k l = absurd (omega arith)
ends_rise from done (s ∷ ss) zero zero d h k l = le_refl s.end
ends_rise from done (s ∷ ss) zero (suc j) d h k l = end_later s.end (done +ℚ s.bits) ss j d h.2 (omega arith)
ends_rise from done (s ∷ ss) (suc i) zero d h k l = absurd (omega arith)
ends_rise from done (s ∷ ss) (suc i) (suc j) d h k l = ends_rise s.end (done +ℚ s.bits) ss i j d h.2 (omega arith) (omega arith)

ramp_ends : (rs : List Ramp) (i j : ℕ) (d : Ramp) → AreRamps rs → i ≤ j → j < length rs → (get_or rs i d).span.end ≤ℚ (get_or rs j d).span.end
ramp_ends rs i j d A k l =
    subst (λ (xs : List Ramp). (get_or xs i d).span.end ≤ℚ (get_or xs j d).span.end) (sym A.is)
    (ends_rise A.from (int (pos 0)) A.spans i j d A.in_order k (subst (λ (xs : List Ramp). j < length xs) A.is l))

pub parted_before : (rs : List Ramp) (t : ℚ) → AreRamps rs → (i j : ℕ) (d : Ramp) → i ≤ j → j < length rs → lt_q (get_or rs j d).span.end t ≡ true → lt_q (get_or rs i d).span.end t ≡ true
parted_before rs t A i j d k l e = lt_q_out (get_or rs i d).span.end t (le_lt_trans (ramp_ends rs i j d A k l) (lt_q_in (get_or rs j d).span.end t e))

abbrev pub ends_before : ℚ → Ramp → Bool
ends_before t r = lt_q r.span.end t

pub not_less : (x y : ℚ) → lt_q x y ≡ false → y ≤ℚ x
not_less x y e = elim (le_or_lt y x) [ inl h ↦ h | inr h ↦ absurd (true≢false (sym (lt_q_out x y h) ∙ e)) ]

pub not_most : (x y : ℚ) → le_q x y ≡ false → y <ℚ x
not_most x y e = elim (le_or_lt x y) [ inl h ↦ absurd (true≢false (sym (le_q_out x y h) ∙ e)) | inr h ↦ h ]

-- ---- the pace
before_late : (from t : ℚ) (ss : List Span) → InOrder from ss → t ≤ℚ from → rate_before ss t ≡ int (pos 0)
before_late from t [] h l = refl
before_late from t (s ∷ ss) h l =
    ap₂ (λ (x y : ℚ). x +ℚ y) (when_false (lt_q s.start t && le_q t s.end) (s.bits /ℚ (s.end -ℚ s.start)) (and_left (lt_q s.start t) (le_q t s.end) (lt_q_not s.start t (le_trans l h.0))))
    (before_late s.end t ss h.2 (le_trans l (le_trans h.0 h.1))) ∙ add_nothing (int (pos 0))

after_late : (from t : ℚ) (ss : List Span) → InOrder from ss → t <ℚ from → rate_after ss t ≡ int (pos 0)
after_late from t [] h l = refl
after_late from t (s ∷ ss) h l =
    ap₂ (λ (x y : ℚ). x +ℚ y) (when_false (le_q s.start t && lt_q t s.end) (s.bits /ℚ (s.end -ℚ s.start)) (and_left (le_q s.start t) (lt_q t s.end) (le_q_not s.start t (lt_le_trans l h.0))))
    (after_late s.end t ss h.2 (lt_le_trans l (le_trans h.0 h.1))) ∙ add_nothing (int (pos 0))

before_first : (t done : ℚ) (s : Span) (ss : List Span) → s.start <ℚ s.end → InOrder s.end ss → t ≤ℚ s.end
    → rate_before (s ∷ ss) t ≡ paced_before record { span = s; before = done; after = done +ℚ s.bits; pace = pace_in s } t
before_first t done s ss g h l =
    let p = s.bits /ℚ (s.end -ℚ s.start) in
    let rest = before_late s.end t ss h l in
    elim (le_or_lt t s.start) [
      | inl k ↦ rw (lt_q_not s.start t k) (ap₂ (λ (x y : ℚ). x +ℚ y) (when_false false p refl) rest ∙ add_nothing (int (pos 0)))
      | inr k ↦ rw (lt_q_out s.start t k, le_q_out t s.end l, pace_is s g) (ap₂ (λ (x y : ℚ). x +ℚ y) (when_true true p refl) rest ∙ add_zero p)
    ]

before_here : (done from t : ℚ) (ss : List Span) (k : ℕ) (r : Ramp) → InOrder from ss → TakeTime ss → k < length (ramps_after done ss) → r ≡ get_or (ramps_after done ss) k r
    → EndBefore t (ramps_after done ss) k → t ≤ℚ r.span.end → rate_before ss t ≡ paced_before r t
before_here done from t [] k r h g l e before near = absurd (omega arith)
before_here done from t (s ∷ ss) zero r h g l e before near =
    subst (λ (q : Ramp). rate_before (s ∷ ss) t ≡ paced_before q t) (sym e) (before_first t done s ss g.0 h.2 (subst (λ (q : Ramp). t ≤ℚ q.span.end) e near))
before_here done from t (s ∷ ss) (suc k) r h g l e before near =
    let past : s.end <ℚ t = lt_q_in s.end t (before 0 r (omega arith) (omega arith)) in
    ap (λ z. z +ℚ rate_before ss t) (when_false (lt_q s.start t && le_q t s.end) (s.bits /ℚ (s.end -ℚ s.start)) (and_right (lt_q s.start t) (le_q t s.end) (le_q_not t s.end past)))
    ∙ add_nothing (rate_before ss t) ∙ before_here (done +ℚ s.bits) s.end t ss k r h.2 g.1 (omega arith) e (λ i d a b. before (suc i) d (omega arith) (omega arith)) near

before_none : (done t : ℚ) (ss : List Span) → EndBefore t (ramps_after done ss) (length (ramps_after done ss)) → rate_before ss t ≡ int (pos 0)
before_none done t [] before = refl
before_none done t (s ∷ ss) before =
    let past : s.end <ℚ t = lt_q_in s.end t (before 0 record { span = s; before = done; after = done; pace = done } (omega arith) (omega arith)) in
    ap₂ (λ (x y : ℚ). x +ℚ y) (when_false (lt_q s.start t && le_q t s.end) (s.bits /ℚ (s.end -ℚ s.start)) (and_right (lt_q s.start t) (le_q t s.end) (le_q_not t s.end past)))
    (before_none (done +ℚ s.bits) t ss (λ i d a b. before (suc i) d (omega arith) (omega arith))) ∙ add_nothing (int (pos 0))

after_first : (t done : ℚ) (s : Span) (ss : List Span) → s.start <ℚ s.end → InOrder s.end ss → t <ℚ s.end
    → rate_after (s ∷ ss) t ≡ paced_after record { span = s; before = done; after = done +ℚ s.bits; pace = pace_in s } t
after_first t done s ss g h l =
    let p = s.bits /ℚ (s.end -ℚ s.start) in
    let rest = after_late s.end t ss h l in
    elim (le_or_lt s.start t) [
      | inr k ↦ rw (le_q_not s.start t k) (ap₂ (λ (x y : ℚ). x +ℚ y) (when_false false p refl) rest ∙ add_nothing (int (pos 0)))
      | inl k ↦ rw (le_q_out s.start t k, lt_q_out t s.end l, pace_is s g) (ap₂ (λ (x y : ℚ). x +ℚ y) (when_true true p refl) rest ∙ add_zero p)
    ]

after_here : (done from t : ℚ) (ss : List Span) (k : ℕ) (r : Ramp) → InOrder from ss → TakeTime ss → k < length (ramps_after done ss) → r ≡ get_or (ramps_after done ss) k r
    → EndBy t (ramps_after done ss) k → t <ℚ r.span.end → rate_after ss t ≡ paced_after r t
after_here done from t [] k r h g l e before near = absurd (omega arith)
after_here done from t (s ∷ ss) zero r h g l e before near =
    subst (λ (q : Ramp). rate_after (s ∷ ss) t ≡ paced_after q t) (sym e) (after_first t done s ss g.0 h.2 (subst (λ (q : Ramp). t <ℚ q.span.end) e near))
after_here done from t (s ∷ ss) (suc k) r h g l e before near =
    let past : s.end ≤ℚ t = le_q_in s.end t (before 0 r (omega arith) (omega arith)) in
    ap (λ z. z +ℚ rate_after ss t) (when_false (le_q s.start t && lt_q t s.end) (s.bits /ℚ (s.end -ℚ s.start)) (and_right (le_q s.start t) (lt_q t s.end) (lt_q_not t s.end past)))
    ∙ add_nothing (rate_after ss t) ∙ after_here (done +ℚ s.bits) s.end t ss k r h.2 g.1 (omega arith) e (λ i d a b. before (suc i) d (omega arith) (omega arith)) near

after_none : (done t : ℚ) (ss : List Span) → EndBy t (ramps_after done ss) (length (ramps_after done ss)) → rate_after ss t ≡ int (pos 0)
after_none done t [] before = refl
after_none done t (s ∷ ss) before =
    let past : s.end ≤ℚ t = le_q_in s.end t (before 0 record { span = s; before = done; after = done; pace = done } (omega arith) (omega arith)) in
    ap₂ (λ (x y : ℚ). x +ℚ y) (when_false (le_q s.start t && lt_q t s.end) (s.bits /ℚ (s.end -ℚ s.start)) (and_right (le_q s.start t) (lt_q t s.end) (lt_q_not t s.end past)))
    (after_none (done +ℚ s.bits) t ss (λ i d a b. before (suc i) d (omega arith) (omega arith))) ∙ add_nothing (int (pos 0))

spans_same : (rs : List Ramp) (A : AreRamps rs) → spans_of rs ≡ A.spans
spans_same rs A = ap spans_of A.is ∙ spans_are (int (pos 0)) A.spans

pub before_found : (rs : List Ramp) (t : ℚ) (k : ℕ) (r : Ramp) → AreRamps rs → TakeTime (spans_of rs) → k < length rs → r ≡ slice_index_or rs k r → EndBefore t rs k → t ≤ℚ r.span.end
    → paced_before r t ≡ rate_before (spans_of rs) t
before_found rs t k r A g l e before near =
    let is = A.is in
    let same = spans_same rs A in
    sym (before_here (int (pos 0)) A.from t A.spans k r A.in_order (subst TakeTime same g) (subst (λ (xs : List Ramp). k < length xs) is l) (subst (λ (xs : List Ramp). r ≡ get_or xs k r) is e)
    (subst (λ (xs : List Ramp). EndBefore t xs k) is before) near) ∙ ap (λ (ss : List Span). rate_before ss t) (sym same)

pub before_past : (rs : List Ramp) (t : ℚ) → AreRamps rs → EndBefore t rs (length rs) → int (pos 0) ≡ rate_before (spans_of rs) t
before_past rs t A before =
    sym (before_none (int (pos 0)) t A.spans (subst (λ (xs : List Ramp). EndBefore t xs (length xs)) A.is before)) ∙ ap (λ (ss : List Span). rate_before ss t) (sym (spans_same rs A))

pub after_found : (rs : List Ramp) (t : ℚ) (k : ℕ) (r : Ramp) → AreRamps rs → TakeTime (spans_of rs) → k < length rs → r ≡ slice_index_or rs k r → EndBy t rs k → t <ℚ r.span.end
    → paced_after r t ≡ rate_after (spans_of rs) t
after_found rs t k r A g l e before near =
    let is = A.is in
    let same = spans_same rs A in
    sym (after_here (int (pos 0)) A.from t A.spans k r A.in_order (subst TakeTime same g) (subst (λ (xs : List Ramp). k < length xs) is l) (subst (λ (xs : List Ramp). r ≡ get_or xs k r) is e)
    (subst (λ (xs : List Ramp). EndBy t xs k) is before) near) ∙ ap (λ (ss : List Span). rate_after ss t) (sym same)

pub after_past : (rs : List Ramp) (t : ℚ) → AreRamps rs → EndBy t rs (length rs) → int (pos 0) ≡ rate_after (spans_of rs) t
after_past rs t A before =
    sym (after_none (int (pos 0)) t A.spans (subst (λ (xs : List Ramp). EndBy t xs (length xs)) A.is before)) ∙ ap (λ (ss : List Span). rate_after ss t) (sym (spans_same rs A))

-- ---- how many end
pub first_end_before : (rs : List Ramp) (t : ℚ) (n : ℕ) (r : Ramp) → AreRamps rs → 1 ≤ n → n ≤ length rs → r ≡ slice_index_or rs (n - 1) r → lt_q r.span.end t ≡ true → EndBefore t rs n
first_end_before rs t n r A some few is ends = λ i d a b.
    parted_before rs t A i (n - 1) d (omega arith) (omega arith) (subst (λ (q : Ramp). lt_q q.span.end t ≡ true) (is ∙ get_or_default rs (n - 1) r d (omega arith)) ends)

pub none_later : (rs : List Ramp) (t : ℚ) (n : ℕ) (r : Ramp) → AreRamps rs → n < length rs → r ≡ slice_index_or rs n r → lt_q r.span.end t ≡ false → (i : ℕ) (d : Ramp) → n ≤ i → i < length rs → lt_q (get_or rs i d).span.end t ≡ false
none_later rs t n r A few is stays i d a b =
    let here = not_less (get_or rs n d).span.end t (subst (λ (q : Ramp). lt_q q.span.end t ≡ false) (is ∙ get_or_default rs n r d few) stays) in
    lt_q_not (get_or rs i d).span.end t (le_trans here (ramp_ends rs n i d A a b))

pub as_by : (rs : List Ramp) (t : ℚ) (n : ℕ) → EndBefore t rs n → EndBy t rs n
as_by rs t n before = λ i d a b. le_q_out (get_or rs i d).span.end t (le_of_lt (lt_q_in (get_or rs i d).span.end t (before i d a b)))

ends_apart : (from done : ℚ) (ss : List Span) (k : ℕ) (d : Ramp) → InOrder from ss → TakeTime ss → suc k < length (ramps_after done ss) → (get_or (ramps_after done ss) k d).span.end <ℚ (get_or (ramps_after done ss) (suc k) d).span.end
ends_apart from done [] k d h g l = absurd (omega arith)
ends_apart from done (s ∷ []) k d h g l = absurd (omega arith)
ends_apart from done (s ∷ q ∷ ss) zero d h g l = le_lt_trans h.2.0 g.1.0
ends_apart from done (s ∷ q ∷ ss) (suc k) d h g l = ends_apart s.end (done +ℚ s.bits) (q ∷ ss) k d h.2 g.1 (omega arith)

next_later : (rs : List Ramp) (k : ℕ) (d : Ramp) → AreRamps rs → TakeTime (spans_of rs) → suc k < length rs → (get_or rs k d).span.end <ℚ (get_or rs (suc k) d).span.end
next_later rs k d A g l =
    subst (λ (xs : List Ramp). (get_or xs k d).span.end <ℚ (get_or xs (suc k) d).span.end) (sym A.is)
    (ends_apart A.from (int (pos 0)) A.spans k d A.in_order (subst TakeTime (spans_same rs A) g) (subst (λ (xs : List Ramp). suc k < length xs) A.is l))

pub all_by : (rs : List Ramp) (t : ℚ) (n : ℕ) → EndsBefore t rs n → length rs ≤ n → EndsBy t rs n
all_by rs t n E all = record { few = E.few; by = as_by rs t n E.before; later = λ i d a b. absurd (omega arith) }

pub one_by : (rs : List Ramp) (t : ℚ) (n : ℕ) (r : Ramp) → AreRamps rs → TakeTime (spans_of rs) → EndsBefore t rs n → n < length rs → r ≡ slice_index_or rs n r → le_q r.span.end t ≡ true → EndsBy t rs (n + 1)
one_by rs t n r A g E few is ends = record {
  few = omega arith;
  by = λ i d a b. le_q_out (get_or rs i d).span.end t (le_trans (ramp_ends rs i n d A (omega arith) few) (le_q_in (get_or rs n d).span.end t (subst (λ (q : Ramp). le_q q.span.end t ≡ true) (is ∙ get_or_default rs n r d few) ends)));
  later = λ i d a b.
      let here = not_less (get_or rs n d).span.end t (E.later n d (omega arith) few) in
      let more = next_later rs n d A g (omega arith) in
      le_q_not (get_or rs i d).span.end t (lt_le_trans (le_lt_trans here more) (ramp_ends rs (suc n) i d A (omega arith) b));
}

pub none_by : (rs : List Ramp) (t : ℚ) (n : ℕ) (r : Ramp) → AreRamps rs → EndsBefore t rs n → n < length rs → r ≡ slice_index_or rs n r → le_q r.span.end t ≡ false → EndsBy t rs n
none_by rs t n r A E few is stays = record {
  few = E.few;
  by = as_by rs t n E.before;
  later = λ i d a b.
      let here = not_most (get_or rs n d).span.end t (subst (λ (q : Ramp). le_q q.span.end t ≡ false) (is ∙ get_or_default rs n r d few) stays) in
      le_q_not (get_or rs i d).span.end t (lt_le_trans here (ramp_ends rs n i d A a b));
}

-- ---- making them
pub each_ramp_at : (P : Ramp → Type 0) (rs : List Ramp) (k : ℕ) (r : Ramp) → EachRamp P rs → k < length rs → r ≡ slice_index_or rs k r → P r
each_ramp_at P [] k r h l e = absurd (omega arith)
each_ramp_at P (q ∷ rs) zero r h l e = subst P (sym e) h.0
each_ramp_at P (q ∷ rs) (suc k) r h l e = each_ramp_at P rs k r h.1 (omega arith) e

-- ---- as the code finds them
pub near_before : (rs : List Ramp) (t : ℚ) (k : ℕ) (r : Ramp) → k < length rs → r ≡ slice_index_or rs k r
    → ((i : ℕ) (d : Ramp) → k ≤ i → i < length rs → lt_q (get_or rs i d).span.end t ≡ false) → t ≤ℚ r.span.end
near_before rs t k r l e out = not_less r.span.end t (subst (λ (q : Ramp). lt_q q.span.end t ≡ false) (sym e) (out k r (omega arith) l))

pub near_by : (rs : List Ramp) (t : ℚ) (k : ℕ) (r : Ramp) → k < length rs → r ≡ slice_index_or rs k r
    → ((i : ℕ) (d : Ramp) → k ≤ i → i < length rs → le_q (get_or rs i d).span.end t ≡ false) → t <ℚ r.span.end
near_by rs t k r l e out = not_most r.span.end t (subst (λ (q : Ramp). le_q q.span.end t ≡ false) (sym e) (out k r (omega arith) l))

pub done_none : (rs : List Ramp) → length rs ≡ 0 → int (pos 0) ≡ all_done rs
done_none [] h = refl
done_none (r ∷ rs) h = absurd (omega arith)

pub done_last : (rs : List Ramp) (k : ℕ) (r : Ramp) → suc k ≡ length rs → r ≡ slice_index_or rs k r → r.after ≡ all_done rs
done_last [] k r h e = absurd (omega arith)
done_last (q ∷ []) zero r h e = ap (λ (p : Ramp). p.after) e
done_last (q ∷ p ∷ rs) zero r h e = absurd (omega arith)
done_last (q ∷ []) (suc k) r h e = absurd (omega arith)
done_last (q ∷ p ∷ rs) (suc k) r h e = done_last (p ∷ rs) k r (omega arith) e

pub longer : (s : Span) → s.start <ℚ s.end → s.end -ℚ s.start ≡ int (pos 0) → ⊥
longer s h e =
    let a = s.start in
    let b = s.end in
    let d = s.end -ℚ s.start in
    lt_irrefl a (with2 a b (λ c. omega (arith, c.le, c.lt, c.same)))
