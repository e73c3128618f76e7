-- The gap of two parts of a convolution, stretch by stretch.
use Rattle.std.specs.Prelude.{◌≡◌, ◌<◌, pos, Option, Some, None}
use Rattle.std.proofs.Common.{sym, ◌∙◌, refl, subst, inl, inr}
use Rattle.rational.specs.Rational.{ℚ, ◌≤ℚ◌, ◌<ℚ◌, int}
use Rattle.rational.specs.Extended.{Ext, ◌≤ₑ◌, ◌<ₑ◌, ◌+ₑ◌}
use Rattle.rational.specs.declared.Extended.TheVariants.{Fin}
use Rattle.rational.proofs.Bounds.{infimum_unique, same_infimum}
use Rattle.rational.proofs.ExtendedOrder.{same_le_ext}
use Rattle.rational.proofs.Laws.{le_refl, le_trans, le_of_lt, le_or_lt, lt_le_trans, le_lt_trans, antisym, le_of_not_lt, lt_irrefl}
use Rattle.rational.proofs.MinMax.{min_q_one}
use Rattle.upp_normal.specs.declared.ahead.Stretch.{Stretch}
use Rattle.upp_limits.specs.Limits.{Sizes}
use Rattle.upp_normal.specs.Operand.{AreLimited}
use Rattle.upp_normal.specs.Ahead.{GoesOn, IsBeforeNext, AtNext}
use Rattle.element_envelope.specs.ElementRoom.{WindowTime}
use Rattle.element_envelope.specs.SumWindows.{SumStart}
use Rattle.curve_call.specs.declared.gaps.Gap.{Gap}
use Rattle.curve_call.specs.declared.gaps.Gap.TheVariants.{NoTime, Never, Is}
use Rattle.curve_call.specs.Gaps.{InWindow, IsGap}
use Rattle.curve_call.specs.GapSteps.{larger, IsUntil, earlier_of}
use Rattle.curve_call.proofs.GapParts.{window_more, window_none, before_next}
use Rattle.curve_call.proofs.GapWalk.{NextTime, next_is, next_found}
use Rattle.curve_conv.specs.Parts.{PartSplit, part_sum, IsPart, FirstLate, FirstEarly}
use Rattle.curve_conv.specs.PartGaps.{PartGapStands, SumTimeTo, ArePartValues, HavePartValues}
use Rattle.curve_conv.specs.Scans.{InPart}
use Rattle.curve_conv.specs.Stretches.{SumPlace, SumTimeIn, IsAhead}
use Rattle.curve_conv.proofs.GapStretches.{larger_stands}
use Rattle.curve_conv.proofs.GridSteps.{steps_to, fewer_steps}
use Rattle.curve_conv.proofs.WalkGrid.{walk_grid, grid_some, place_on}

-- ---- the two parts
late_is : (f g : ℚ → Ext) (first u : ℚ) (v : Ext) → IsPart f g (InPart first None None (int (pos 0))) u v → IsPart f g (FirstLate first) u v
late_is f g first u v h =
    same_infimum (part_sum f g (InPart first None None (int (pos 0))) u) (part_sum f g (FirstLate first) u) v
    (λ i. (record { split = i.split; inside = i.inside.span.late }, same_le_ext refl))
    (λ j. (record { split = j.split; inside = record { span = record { late = j.inside; before = tt }; before = tt; second = j.split.second_nonneg } }, same_le_ext refl)) h

soon_is : (f g : ℚ → Ext) (first second u : ℚ) (v : Ext) → IsPart f g (InPart (int (pos 0)) None (Some first) second) u v → IsPart f g (FirstEarly first second) u v
soon_is f g first second u v h =
    same_infimum (part_sum f g (InPart (int (pos 0)) None (Some first) second) u) (part_sum f g (FirstEarly first second) u) v
    (λ i. (record { split = i.split; inside = (i.inside.before, i.inside.second) }, same_le_ext refl))
    (λ j. (record { split = j.split; inside = record { span = record { late = j.split.first_nonneg; before = tt }; before = j.inside.0; second = j.inside.1 } }, same_le_ext refl)) h

-- ---- gaps of functions that agree
same_gap : (S : ℚ → Type 0) (f g p q : ℚ → Ext) (gap : Gap) → ((t : ℚ) → S t → f t ≡ p t) → ((t : ℚ) → S t → g t ≡ q t) → IsGap S f g gap → IsGap S p q gap
same_gap S f g p q NoTime F G h = λ t i. sym (G t i) ∙ h t i
same_gap S f g p q Never F G h = record { at = h.at; among = h.among; top = sym (F h.at h.among) ∙ h.top; value = h.value; below = sym (G h.at h.among) ∙ h.below }
same_gap S f g p q (Is y) F G h = record {
  above = λ t i. subst (λ v. v ≤ₑ q t +ₑ Fin y) (F t i) (subst (λ v. f t ≤ₑ v +ₑ Fin y) (G t i) (h.above t i));
  near = λ x l.
      let m = h.near x l in
      record { at = m.at; among = m.among; more = subst (λ v. q m.at +ₑ Fin x <ₑ v) (F m.at m.among) (subst (λ v. v +ₑ Fin x <ₑ f m.at) (G m.at m.among) m.more) };
}

-- ---- the walk
pub record PartGapWalk (z : Sizes) (f g : ℚ → Ext) (first second from end t : ℚ) (gap : Gap) : Type 0 where
  pub start : from ≤ℚ t
  pub most : t ≤ℚ end
  pub place : SumPlace z t
  pub gap_is : (a b : ℚ → Ext) → ArePartValues f g first second from t a b → IsGap (InWindow from t) a b gap
  pub values : (u : ℚ) → InWindow from t u → HavePartValues f g first second u
  pub stands : PartGapStands z gap

pub walk_start : (z : Sizes) (f g : ℚ → Ext) (first second from end : ℚ) → WindowTime z end from → PartGapWalk z f g first second from end from NoTime
walk_start z f g first second from end T = record {
  start = le_refl from;
  most = T.early;
  place = inl T.whole;
  gap_is = λ a b V. window_none from a b;
  values = λ u i. absurd (no_time from u i);
  stands = tt;
}
  where
    no_time : (from u : ℚ) → InWindow from from u → ⊥
    no_time from u i = lt_irrefl from (le_lt_trans i.start i.before)

pub time_in : (z : Sizes) (f g : ℚ → Ext) (first second from end t : ℚ) (gap : Gap) → WindowTime z end from → PartGapWalk z f g first second from end t gap → t <ℚ end → SumStart z end t
time_in z f g first second from end t gap T W h = record { place = W.place; nonneg = le_trans T.nonneg W.start; before = h }

earlier_at : (P : ℚ → Type 0) (t : ℚ) (n : Option ℚ) → P t → AtNext P n → P (earlier_of t n)
earlier_at P t None h k = h
earlier_at P t (Some e) h k = elim (min_q_one t e) [ inl q ↦ subst P (sym q) h | inr q ↦ subst P (sym q) k ]

-- the next time
pub record NextPlace (z : Sizes) (end t next : ℚ) (a b : Option ℚ) : Type 0 where
  pub time : NextTime t end next a b
  pub place : SumPlace z next

pub next_place : (z : Sizes) (end t soonest next : ℚ) (a b : Option ℚ) → SumPlace z end → t <ℚ end → IsBeforeNext t a → IsBeforeNext t b → AtNext (SumPlace z) a → AtNext (SumPlace z) b
    → soonest ≡ earlier_of end a → next ≡ earlier_of soonest b → NextPlace z end t next a b
next_place z end t soonest next a b last h k l p q e f = record {
  time = subst (λ n. NextTime t end n a b) (sym (next_found end a b soonest next e f)) (next_is t end a b h k l);
  place = subst (SumPlace z) (sym f) (earlier_at (SumPlace z) soonest b (subst (SumPlace z) (sym e) (earlier_at (SumPlace z) end a last p)) q);
}

pub next_to : (z : Sizes) (end t next : ℚ) (a b : Option ℚ) → int (pos 0) ≤ℚ t → NextPlace z end t next a b → SumTimeTo z end next
next_to z end t next a b low N = record { place = N.place; nonneg = le_trans low (le_of_lt N.time.past); most = N.time.high }

-- the step from t to the next time
pub record GapStep (z : Sizes) (f g : ℚ → Ext) (first second end t step : ℚ) (a b : Stretch) : Type 0 where
  pub late : IsAhead (PartSplit (InPart first None None (int (pos 0)))) (part_sum f g (InPart first None None (int (pos 0)))) end t a
  pub soon : IsAhead (PartSplit (InPart (int (pos 0)) None (Some first) second)) (part_sum f g (InPart (int (pos 0)) None (Some first) second)) end t b
  pub next : NextPlace z end t step a.next b.next
  pub time : SumTimeIn z end t
  pub to : SumTimeTo z end step

pub gap_step : (z : Sizes) (f g : ℚ → Ext) (first second from end t soonest next low : ℚ) (gap : Gap) (late soon : Stretch) → low ≡ int (pos 0) → AreLimited z end → WindowTime z end from
    → PartGapWalk z f g first second from end t gap → t <ℚ end → IsAhead (PartSplit (InPart first None None low)) (part_sum f g (InPart first None None low)) end t late
    → IsAhead (PartSplit (InPart low None (Some first) second)) (part_sum f g (InPart low None (Some first) second)) end t soon → AtNext (SumPlace z) late.next → AtNext (SumPlace z) soon.next
    → soonest ≡ earlier_of end late.next → next ≡ earlier_of soonest soon.next → GapStep z f g first second end t next late soon
gap_step z f g first second from end t soonest next low gap late soon zero L T W h A B p q e d =
    let start = time_in z f g first second from end t gap T W h in
    let N = next_place z end t soonest next late.next soon.next (inl L.sizes.window) h A.goes.next B.goes.next p q e d in
    record {
      late = subst (λ y. IsAhead (PartSplit (InPart first None None y)) (part_sum f g (InPart first None None y)) end t late) zero A;
      soon = subst (λ y. IsAhead (PartSplit (InPart y None (Some first) second)) (part_sum f g (InPart y None (Some first) second)) end t soon) zero B;
      next = N;
      time = record { limited = L; start = start };
      to = next_to z end t next late.next soon.next start.nonneg N;
    }

pub walk_step : (z : Sizes) (f g : ℚ → Ext) (first second from end t next : ℚ) (gap more : Gap) (late soon : Stretch) → PartGapWalk z f g first second from end t gap
    → IsAhead (PartSplit (InPart first None None (int (pos 0)))) (part_sum f g (InPart first None None (int (pos 0)))) end t late
    → IsAhead (PartSplit (InPart (int (pos 0)) None (Some first) second)) (part_sum f g (InPart (int (pos 0)) None (Some first) second)) end t soon
    → NextPlace z end t next late.next soon.next
    → ((a b : ℚ → Ext) → GoesOn a t late → GoesOn b t soon → IsUntil next late.next → IsUntil next soon.next → IsGap (InWindow t next) a b more) → PartGapStands z more
    → PartGapWalk z f g first second from end next (larger gap more)
walk_step z f g first second from end t next gap more late soon W A B N stretch stands = record {
  start = le_trans W.start (le_of_lt N.time.past);
  most = N.time.high;
  place = N.place;
  gap_is = λ a b V.
      window_more from t next a b gap more W.start N.time.past
      (W.gap_is a b record { late = λ u i. V.late u (wider u i); soon = λ u i. V.soon u (wider u i) })
      (same_gap (InWindow t next) A.value B.value a b more
      (λ u i. infimum_unique (part_sum f g (FirstLate first) u) (A.value u) (a u) (late_at u i) (V.late u (later u i)))
      (λ u i. infimum_unique (part_sum f g (FirstEarly first second) u) (B.value u) (b u) (soon_at u i) (V.soon u (later u i)))
      (stretch A.value B.value A.goes B.goes N.time.first N.time.second));
  values = λ u i. elim (le_or_lt t u) [
    | inl h ↦ let j : InWindow t next u = record { start = h; before = i.before } in record { late = (A.value u, late_at u j); soon = (B.value u, soon_at u j) }
    | inr h ↦ W.values u record { start = i.start; before = h }
  ];
  stands = larger_stands z gap more W.stands stands;
}
  where
    wider : (u : ℚ) → InWindow from t u → InWindow from next u
    wider u i = record { start = i.start; before = lt_le_trans i.before (le_of_lt N.time.past) }

    later : (u : ℚ) → InWindow t next u → InWindow from next u
    later u i = record { start = le_trans W.start i.start; before = i.before }

    late_at : (u : ℚ) → InWindow t next u → IsPart f g (FirstLate first) u (A.value u)
    late_at u i = late_is f g first u (A.value u) (A.is u i.start (lt_le_trans i.before N.time.high) (before_next u next late.next i.before N.time.first))

    soon_at : (u : ℚ) → InWindow t next u → IsPart f g (FirstEarly first second) u (B.value u)
    soon_at u i = soon_is f g first second u (B.value u) (B.is u i.start (lt_le_trans i.before N.time.high) (before_next u next soon.next i.before N.time.second))

pub walk_fewer : (z : Sizes) (end t next : ℚ) (a b : Option ℚ) → 0 < z.dv → 0 < z.dt → SumPlace z t → NextPlace z end t next a b → steps_to (walk_grid z) end next < steps_to (walk_grid z) end t
walk_fewer z end t next a b some more P N = fewer_steps (walk_grid z) end t next (grid_some z some more) (place_on z t P) (place_on z next N.place) N.time.past N.time.high

pub walk_end : (z : Sizes) (f g : ℚ → Ext) (first second from end t : ℚ) (gap : Gap) → PartGapWalk z f g first second from end t gap → ¬ (t <ℚ end) → t ≡ end
walk_end z f g first second from end t gap W h = antisym (W.most, le_of_not_lt h)
