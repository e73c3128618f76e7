-- The elements of a curve over some times, stretch by stretch, and the part that the pairs of two lists of them make.
use Rattle.std.specs.Prelude.{◌≡◌, ◌↔◌, ℕ, pos, Bool, true, false, IsTrue, List, [], ◌++◌, Option, Some, None}
use Rattle.std.proofs.Common.{arith, sym, ap, ap₂, ◌∙◌, refl, subst, inl, inr, true≢false}
use Rattle.rational.specs.Rational.{ℚ, ◌+ℚ◌, ◌≤ℚ◌, ◌<ℚ◌, int}
use Rattle.rational.specs.Grid.{Whole}
use Rattle.rational.specs.Extended.{Ext, ◌≤ₑ◌, ◌+ₑ◌}
use Rattle.rational.specs.declared.Extended.TheVariants.{Fin, Inf}
use Rattle.rational.proofs.Linear.{with4}
use Rattle.rational.proofs.Laws.{le_refl, le_trans, le_of_lt, le_lt_trans, lt_le_trans, lt_cases, lt_irrefl}
use Rattle.rational.proofs.ExtendedOrder.{same_le_ext, finite_sum}
use Rattle.upp_curve.specs.declared.affine_segment.line.Line.{Line}
use Rattle.upp_curve.specs.declared.affine_segment.line.Piece.{Piece}
use Rattle.upp_curve.specs.declared.affine_segment.element.Element.{Element}
use Rattle.upp_curve.specs.declared.affine_segment.element.Element.TheVariants.{Point, Open}
use Rattle.upp_curve.specs.affine_segment.Elements.{IsProper, Covers}
use Rattle.upp_curve.specs.affine_segment.Values.{line_value}
use Rattle.upp_normal.specs.declared.ahead.Stretch.{Stretch}
use Rattle.upp_curve.specs.Curve.{SpecCurve, value_at}
use Rattle.upp_limits.specs.Limits.{Sizes}
use Rattle.upp_curve.specs.affine_segment.Reading.{read}
use Rattle.upp_normal.specs.Operand.{AreLimited, OperandLineAt}
use Rattle.upp_normal.specs.Ahead.{GoesOn, IsBeforeNext, AtNext, HasWindow, IsTimeIn, TimesStand, GridValue}
use Rattle.element_envelope.specs.PieceElements.{Among, ElementAt}
use Rattle.element_envelope.specs.ElementRoom.{WindowTime, OperandElement}
use Rattle.element_envelope.specs.Envelopes.{ListSplit, list_sum, IsEnvelope}
use Rattle.element_envelope.specs.EnvelopeWindows.{EnvelopeRoom, IsEnvelopeWindow}
use Rattle.element_envelope.proofs.Members.{among_left, among_right, among_cases, Matched, matched_out}
use Rattle.curve_conv.specs.Parts.{PartSplit, part_sum, IsPart}
use Rattle.curve_conv.specs.Stretches.{IsAhead, until_time, point_at, open_at, IsProperPart, OperandPart}
use Rattle.curve_conv.specs.Scans.{IsEarly, IsLimit, InPart, or_else, is_time, time_or}
use Rattle.curve_conv.specs.SpanElements.{listed, ReadsAs, AreSpanElements, IsPartWindow}
use Rattle.curve_conv.proofs.RowLoops.{at_of, before_until, until_before, early_before, early_limit, point_proper, at_next, late_or, whole_or, limit_or}
use Rattle.curve_conv.proofs.PartLoops.{CellFacts, cell_facts, before_or, or_next, or_until}

-- ---- an element that may be missing
listed_is : (o : Option Element) (e : Element) → Among e (listed o) → o ≡ Some e
listed_is None e h = absurd h
listed_is (Some d) e (inl p) = ap Some (sym p)
listed_is (Some d) e (inr p) = absurd p

listed_in : (o : Option Element) (e : Element) → o ≡ Some e → Among e (listed o)
listed_in o e h = subst (λ p. Among e (listed p)) (sym h) (inl refl)

part_proper : (o : Option Element) (e : Element) → o ≡ Some e → IsProperPart o → IsProper e
part_proper o e h p = subst IsProperPart h p

part_in : (z : Sizes) (end : ℚ) (o : Option Element) (e : Element) → o ≡ Some e → OperandPart z end o → OperandElement z end e
part_in z end o e h p = subst (OperandPart z end) h p

-- ---- one piece more
-- what the point at x and the line after it read as
record PartReads (f : ℚ → Ext) (from end : ℚ) (until : Option ℚ) (o : Option Element) : Type 0 where
  late : (e : Element) (s : ℚ) → o ≡ Some e → Covers e s → from ≤ℚ s
  reads : (e : Element) (s : ℚ) → o ≡ Some e → Covers e s → s <ℚ end → ReadsAs f until e s

-- where a curve goes on from x
record Next (f : ℚ → Ext) (from limit end x : ℚ) (until : Option ℚ) (here : Stretch) (next : Option ℚ) : Type 0 where
  goes : GoesOn f x here
  is_next : IsEarly here.next limit next
  is_limit : IsLimit end until limit
  late : from ≤ℚ x
  before : x <ℚ limit

no_element : (e : Element) → None ≡ Some e → ⊥
no_element e h = by_none (subst (λ o. IsNothing o) h tt)
  where
    IsNothing : Option Element → Type 0
    IsNothing None = Unit {0}
    IsNothing (Some e) = ⊥

    by_none : ⊥ → ⊥
    by_none h = h

the_element : (d e : Element) → Some d ≡ Some e → d ≡ e
the_element d e h = subst (λ o. IsThe o) h refl
  where
    IsThe : Option Element → Type 0
    IsThe None = ⊥
    IsThe (Some e) = d ≡ e

point_reads : (f : ℚ → Ext) (from limit end x : ℚ) (until : Option ℚ) (here : Stretch) (next : Option ℚ) → Next f from limit end x until here next
    → (at : Ext) → here.at ≡ at → PartReads f from end until (point_at x at)
point_reads f from limit end x until here next N Inf q = record { late = λ e s h. absurd (no_element e h); reads = λ e s h. absurd (no_element e h) }
point_reads f from limit end x until here next N (Fin v) q = record {
  late = λ e s h. subst (λ d. Covers d s → from ≤ℚ s) (the_element (Point x v) e h) (λ k. subst (λ y. from ≤ℚ y) (sym k) N.late);
  reads = λ e s h. subst (λ d. Covers d s → s <ℚ end → ReadsAs f until d s) (the_element (Point x v) e h)
      (λ k l. record { before = subst (λ y. IsBeforeNext y until) (sym k) (N.is_limit.before x N.before); value = ap f k ∙ sym N.goes.at ∙ q });
}

open_reads : (f : ℚ → Ext) (from limit end x : ℚ) (until : Option ℚ) (here : Stretch) (next : Option ℚ) → Next f from limit end x until here next
    → (line : Option Line) → here.line ≡ line → PartReads f from end until (open_at x (or_else next until) line)
open_reads f from limit end x until here next N None q = record { late = λ e s h. absurd (no_element e h); reads = λ e s h. absurd (no_element e h) }
open_reads f from limit end x until here next N (Some l) q =
    let to = or_else next until in
    record {
      late = λ e s h. subst (λ d. Covers d s → from ≤ℚ s) (the_element (Open x (until_time to) l) e h) (λ k. le_trans N.late (le_of_lt k.past));
      reads = λ e s h. subst (λ d. Covers d s → s <ℚ end → ReadsAs f until d s) (the_element (Open x (until_time to) l) e h)
          (λ k j.
          let b = until_before to s k.before in
          let m = or_until next until limit s N.is_limit.before (early_limit here.next limit next N.is_next) b in
          let in_limit = N.is_limit.least s j m in
          record { before = m; value = N.goes.line s k.past (early_before here.next limit next s N.is_next (or_next next until s b) in_limit) ∙ ap (λ o. line_value o s) q });
    }

-- at a time at which the function is finite
point_found : (f : ℚ → Ext) (from limit end x : ℚ) (until : Option ℚ) (here : Stretch) (next : Option ℚ) (s v : ℚ) → Next f from limit end x until here next → s ≡ x → f s ≡ Fin v
    → ElementAt (listed (point_at x here.at)) s
point_found f from limit end x until here next s v N k e = record { element = Point x v; among = listed_in (point_at x here.at) (Point x v) (ap (point_at x) (N.goes.at ∙ ap f (sym k) ∙ e)); covers = k }

open_found : (f : ℚ → Ext) (from limit end x : ℚ) (until : Option ℚ) (here : Stretch) (next : Option ℚ) (s v : ℚ) → Next f from limit end x until here next → x <ℚ s → IsBeforeNext s next
    → IsBeforeNext s until → s <ℚ limit → f s ≡ Fin v → ElementAt (listed (open_at x (or_else next until) here.line)) s
open_found f from limit end x until here next s v N past b m l e = by here.line refl
  where
    read_at : f s ≡ line_value here.line s
    read_at = N.goes.line s past (early_before here.next limit next s N.is_next b l)

    no_value : None ≡ here.line → ⊥
    no_value q = same_le_ext (ap (λ o. line_value o s) q ∙ sym read_at ∙ e)

    by : (line : Option Line) → here.line ≡ line → ElementAt (listed (open_at x (or_else next until) here.line)) s
    by None q = absurd (no_value (sym q))
    by (Some k) q = record {
      element = Open x (until_time (or_else next until)) k;
      among = listed_in (open_at x (or_else next until) here.line) (Open x (until_time (or_else next until)) k) (ap (open_at x (or_else next until)) q);
      covers = record { past = past; before = before_until (or_else next until) s (before_or next until s b m) };
    }

-- ---- the walk
pub record SpanWalk (z : Sizes) (f : SpecCurve) (from : ℚ) (until : Option ℚ) (limit end : ℚ) (es : List Element) (more : Bool) (x : ℚ) : Type 0 where
  pub proper : (e : Element) → Among e es → IsProper e
  pub stands : (e : Element) → Among e es → OperandElement z end e
  pub reads_late : (e : Element) (s : ℚ) → Among e es → Covers e s → from ≤ℚ s
  pub reads : (e : Element) (s : ℚ) → Among e es → Covers e s → s <ℚ end → ReadsAs (value_at f) until e s
  pub found : (s v : ℚ) → from ≤ℚ s → IsBeforeNext s (at_of more x) → IsBeforeNext s until → s <ℚ limit → value_at f s ≡ Fin v → ElementAt es s
  pub late : from ≤ℚ x
  pub whole : Whole z.dt x
  pub early : more ≡ true → x <ℚ limit

pub span_start : (z : Sizes) (f : SpecCurve) (from : ℚ) (until : Option ℚ) (limit end : ℚ) (es : List Element) (more : Bool) → WindowTime z end from → es ≡ [] → (IsTrue more ↔ (from <ℚ limit))
    → SpanWalk z f from until limit end es more from
span_start z f from until limit end es more F is test = subst (λ xs. SpanWalk z f from until limit end xs more from) (sym is) (by more test)
  where
    by : (more : Bool) → (IsTrue more ↔ (from <ℚ limit)) → SpanWalk z f from until limit end [] more from
    by true test = record {
      proper = λ e h. absurd h;
      stands = λ e h. absurd h;
      reads_late = λ e s h. absurd h;
      reads = λ e s h. absurd h;
      found = λ s v h b m l e. absurd (lt_irrefl from (le_lt_trans h b));
      late = le_refl from;
      whole = F.whole;
      early = λ h. test.0 refl;
    }
    by false test = record {
      proper = λ e h. absurd h;
      stands = λ e h. absurd h;
      reads_late = λ e s h. absurd h;
      reads = λ e s h. absurd h;
      found = λ s v h b m l e. absurd (true≢false (sym (test.1 (le_lt_trans h l))));
      late = le_refl from;
      whole = F.whole;
      early = λ h. absurd (true≢false (sym h));
    }

pub span_time : (z : Sizes) (f : SpecCurve) (from : ℚ) (until : Option ℚ) (limit end : ℚ) (es : List Element) (x : ℚ) → WindowTime z end from → IsLimit end until limit
    → SpanWalk z f from until limit end es true x → IsTimeIn z end x
span_time z f from until limit end es x F L W = record { whole = W.whole; nonneg = le_trans F.nonneg W.late; before = lt_le_trans (W.early refl) L.most }

pub span_facts : (z : Sizes) (f : SpecCurve) (from : ℚ) (until : Option ℚ) (limit end : ℚ) (es : List Element) (x : ℚ) (here : Stretch) (next : Option ℚ) → WindowTime z end from
    → AtNext (WindowTime z end) until → IsLimit end until limit → SpanWalk z f from until limit end es true x → HasWindow z end f → GoesOn (value_at f) x here
    → ((d : ℕ) → TimesStand d f → AtNext (Whole d) here.next) → (IsTimeIn z end x → OperandLineAt z here.line × GridValue z here.at) → IsEarly here.next limit next
    → CellFacts z end limit x until here next
span_facts z f from until limit end es x here next F U L W V G times sizes E =
    cell_facts z f end limit x until here next U (span_time z f from until limit end es x F L W) L.most (L.before x (W.early refl)) V G times sizes E

pub span_step : (z : Sizes) (f : SpecCurve) (from : ℚ) (until : Option ℚ) (limit end : ℚ) (es fs : List Element) (x : ℚ) (here : Stretch) (next : Option ℚ) (more : Bool) (y : ℚ)
    → WindowTime z end from → IsLimit end until limit → SpanWalk z f from until limit end es true x → GoesOn (value_at f) x here → IsEarly here.next limit next → CellFacts z end limit x until here next
    → fs ≡ (es ++ listed (point_at x here.at)) ++ listed (open_at x (or_else next until) here.line) → more ≡ is_time next → y ≡ time_or next x → SpanWalk z f from until limit end fs more y
span_step z f from until limit end es fs x here next more y F L W G E K is em ey = subst (λ xs. SpanWalk z f from until limit end xs more y) (sym is) step
  where
    point : Option Element
    point = point_at x here.at

    after : Option Element
    after = open_at x (or_else next until) here.line

    all : List Element
    all = (es ++ listed point) ++ listed after

    N : Next (value_at f) from limit end x until here next
    N = record { goes = G; is_next = E; is_limit = L; late = W.late; before = W.early refl }

    P : PartReads (value_at f) from end until point
    P = point_reads (value_at f) from limit end x until here next N here.at refl

    A : PartReads (value_at f) from end until after
    A = open_reads (value_at f) from limit end x until here next N here.line refl

    cases : {Q : Type 0} (e : Element) → Among e all → (Among e es → Q) → (point ≡ Some e → Q) → (after ≡ Some e → Q) → Q
    cases e h a b c = elim (among_cases e (es ++ listed point) (listed after) h) [
      | inl k ↦ elim (among_cases e es (listed point) k) [ inl m ↦ a m | inr m ↦ b (listed_is point e m) ]
      | inr k ↦ c (listed_is after e k)
    ]

    before_at : (s : ℚ) → IsBeforeNext s (at_of more y) → IsBeforeNext s next
    before_at s b = subst (IsBeforeNext s) (sym (at_next next x ∙ ap (λ b. at_of b (time_or next x)) (sym em) ∙ ap (at_of more) (sym ey))) b

    first : (s : ℚ) → ElementAt es s → ElementAt all s
    first s d = record { element = d.element; among = among_left d.element (es ++ listed point) (listed after) (among_left d.element es (listed point) d.among); covers = d.covers }

    second : (s : ℚ) → ElementAt (listed point) s → ElementAt all s
    second s d = record { element = d.element; among = among_left d.element (es ++ listed point) (listed after) (among_right d.element es (listed point) d.among); covers = d.covers }

    third : (s : ℚ) → ElementAt (listed after) s → ElementAt all s
    third s d = record { element = d.element; among = among_right d.element (es ++ listed point) (listed after) d.among; covers = d.covers }

    found : (s v : ℚ) → from ≤ℚ s → IsBeforeNext s (at_of more y) → IsBeforeNext s until → s <ℚ limit → value_at f s ≡ Fin v → ElementAt all s
    found s v h b m l e = elim (lt_cases s x) [
      | inl k ↦ first s (W.found s v h k m l e)
      | inr (inl k) ↦ second s (point_found (value_at f) from limit end x until here next s v N k e)
      | inr (inr k) ↦ third s (open_found (value_at f) from limit end x until here next s v N k (before_at s b) m l e)
    ]

    step : SpanWalk z f from until limit end all more y
    step = record {
      proper = λ e h. cases e h (λ k. W.proper e k) (λ k. part_proper point e k (point_proper x here.at)) (λ k. part_proper after e k K.proper);
      stands = λ e h. cases e h (λ k. W.stands e k) (λ k. part_in z end point e k K.point) (λ k. part_in z end after e k K.after);
      reads_late = λ e s h c. cases e h (λ k. W.reads_late e s k c) (λ k. P.late e s k c) (λ k. A.late e s k c);
      reads = λ e s h c l. cases e h (λ k. W.reads e s k c l) (λ k. P.reads e s k c l) (λ k. A.reads e s k c l);
      found = found;
      late = subst (λ v. from ≤ℚ v) (sym ey) (late_or from x next W.late K.past);
      whole = subst (Whole z.dt) (sym ey) (whole_or z x next W.whole K.whole);
      early = λ h. subst (λ v. v <ℚ limit) (sym ey) (limit_or limit x next K.limit_is (sym em ∙ h));
    }

pub span_end : (z : Sizes) (f : SpecCurve) (from : ℚ) (until : Option ℚ) (limit end : ℚ) (es : List Element) (x : ℚ) → IsLimit end until limit → SpanWalk z f from until limit end es false x
    → AreSpanElements z end (value_at f) from until es
span_end z f from until limit end es x L W = record {
  proper = W.proper;
  stands = W.stands;
  late = W.reads_late;
  reads = W.reads;
  found = λ s v h m l e. W.found s v h tt m (L.least s l m) e;
}

-- ---- the part that all pairs make
first_before : (s u t end : ℚ) → int (pos 0) ≤ℚ u → s +ℚ u ≡ t → t <ℚ end → s <ℚ end
first_before s u t end n w l = with4 s u t end (λ c. omega (arith, c.le, c.lt, c.same))

second_before : (s u t end : ℚ) → int (pos 0) ≤ℚ s → s +ℚ u ≡ t → t <ℚ end → u <ℚ end
second_before s u t end n w l = with4 s u t end (λ c. omega (arith, c.le, c.lt, c.same))

spans_matched : (z : Sizes) (end : ℚ) (f g : ℚ → Ext) (from : ℚ) (until : Option ℚ) (low : ℚ) (xs ys : List Element) (t : ℚ) → int (pos 0) ≤ℚ from → int (pos 0) ≤ℚ low
    → AreSpanElements z end f from until xs → AreSpanElements z end g low None ys → t <ℚ end → Matched (part_sum f g (InPart from None until low) t) (list_sum xs ys t)
spans_matched z end f g from until low xs ys t from_low low_low X Y early = record { down = down; up = up }
  where
    down : (i : PartSplit (InPart from None until low) t) (q : ℚ) → part_sum f g (InPart from None until low) t i ≡ Fin q → (j : ListSplit xs ys t) × (list_sum xs ys t j ≤ₑ Fin q)
    down i q e =
        let s = i.split.first in
        let u = i.split.second in
        let (a, b, p, r) = finite_sum (f s) (g u) q e in
        let early_s = first_before s u t end i.split.second_nonneg i.split.whole early in
        let early_u = second_before s u t end i.split.first_nonneg i.split.whole early in
        let d = X.found s a i.inside.span.late i.inside.before early_s p in
        let c = Y.found u b i.inside.second tt early_u r in
        let ed = (X.reads d.element s d.among d.covers early_s).value in
        let ec = (Y.reads c.element u c.among c.covers early_u).value in (
          record {
            left = d.element;
            right = c.element;
            left_in = d.among;
            right_in = c.among;
            split = record { first = s; second = u; first_in = d.covers; second_in = c.covers; whole = i.split.whole };
          },
          same_le_ext (ap₂ (λ (x y : Ext). x +ₑ y) (sym ed) (sym ec) ∙ e),
        )

    up : (j : ListSplit xs ys t) → (i : PartSplit (InPart from None until low) t) × (part_sum f g (InPart from None until low) t i ≤ₑ list_sum xs ys t j)
    up j =
        let k = j.split in
        let s = k.first in
        let u = k.second in
        let late_s = X.late j.left s j.left_in k.first_in in
        let late_u = Y.late j.right u j.right_in k.second_in in
        let some_s = le_trans from_low late_s in
        let some_u = le_trans low_low late_u in
        let R = X.reads j.left s j.left_in k.first_in (first_before s u t end some_u k.whole early) in
        let S = Y.reads j.right u j.right_in k.second_in (second_before s u t end some_s k.whole early) in (
          record {
            split = record { first = s; second = u; first_nonneg = some_s; second_nonneg = some_u; whole = k.whole };
            inside = record { span = record { late = late_s; before = tt }; before = R.before; second = late_u };
          },
          same_le_ext (ap₂ (λ (x y : Ext). x +ₑ y) R.value S.value),
        )

pub spans_make : (z : Sizes) (end : ℚ) (f g : ℚ → Ext) (from : ℚ) (until : Option ℚ) (low : ℚ) (xs ys : List Element) (t : ℚ) (v : Ext) → int (pos 0) ≤ℚ from → int (pos 0) ≤ℚ low
    → AreSpanElements z end f from until xs → AreSpanElements z end g low None ys → t <ℚ end → IsEnvelope xs ys t v → IsPart f g (InPart from None until low) t v
spans_make z end f g from until low xs ys t v from_low low_low X Y early h =
    matched_out (part_sum f g (InPart from None until low) t) (list_sum xs ys t) v (spans_matched z end f g from until low xs ys t from_low low_low X Y early) h

-- ---- the pieces of it
pub spans_room : (z : Sizes) (end : ℚ) (f g : ℚ → Ext) (from : ℚ) (until : Option ℚ) (low : ℚ) (xs ys : List Element) → AreLimited z end → int (pos 0) <ℚ end
    → AreSpanElements z end f from until xs → AreSpanElements z end g low None ys → EnvelopeRoom end xs ys
spans_room z end f g from until low xs ys A some X Y = record {
  sizes = z;
  limited = A;
  some = some;
  left_proper = X.proper;
  right_proper = Y.proper;
  left = X.stands;
  right = Y.stands;
}

pub spans_window : (z : Sizes) (end : ℚ) (f g : ℚ → Ext) (from : ℚ) (until : Option ℚ) (low : ℚ) (xs ys : List Element) (ps : List Piece) → AreLimited z end → int (pos 0) <ℚ end
    → int (pos 0) ≤ℚ from → int (pos 0) ≤ℚ low → AreSpanElements z end f from until xs → AreSpanElements z end g low None ys → IsEnvelopeWindow end xs ys ps
    → IsPartWindow z end f g from until low ps
unfolding spans_room
spans_window z end f g from until low xs ys ps A some from_low low_low X Y E = record {
  stands = E.stands (spans_room z end f g from until low xs ys A some X Y);
  reads = λ t n l. spans_make z end f g from until low xs ys t (read ps t) from_low low_low X Y l (E.reads t n l);
}

-- how they go on
pub made_ahead : (z : Sizes) (end : ℚ) (f g : ℚ → Ext) (from : ℚ) (until : Option ℚ) (low : ℚ) (ps : List Piece) (t : ℚ) (s : Stretch) → IsPartWindow z end f g from until low ps
    → int (pos 0) ≤ℚ t → GoesOn (read ps) t s → IsAhead (PartSplit (InPart from None until low)) (part_sum f g (InPart from None until low)) end t s
made_ahead z end f g from until low ps t s W some G = record {
  value = read ps;
  is = λ u late early b. W.reads u (le_trans some late) early;
  goes = G;
}
