-- What elements make, as it goes on from a time, is there: found by proof alone, where no code runs.
use Rattle.std.specs.Prelude.{◌≡◌, ◌⊎◌, List, [], ◌∷◌, Option, Some, None}
use Rattle.std.proofs.Common.{sym, refl, subst, inl, inr}
use Rattle.rational.specs.Rational.{ℚ, ◌-ℚ◌, ◌/ℚ◌, ◌<ℚ◌}
use Rattle.rational.specs.Extended.{Ext, ◌<ₑ◌, min_ext}
use Rattle.rational.specs.declared.Extended.TheVariants.{Fin, Inf}
use Rattle.rational.proofs.Laws.{lt_cases, le_or_lt, lt_irrefl, le_lt_trans}
use Rattle.upp_curve.specs.declared.affine_segment.line.Line.{Line}
use Rattle.upp_curve.specs.declared.affine_segment.element.Element.{Element}
use Rattle.upp_curve.specs.declared.affine_segment.element.Element.TheVariants.{Point, Open}
use Rattle.upp_curve.specs.declared.affine_segment.element.Joined.{Joined}
use Rattle.upp_curve.specs.affine_segment.Elements.{IsProper, element_value, part_value, joined_value, IsConvolved}
use Rattle.upp_curve.specs.affine_segment.MadeParts.{AreParts}
use Rattle.upp_curve.specs.affine_segment.Values.{line_at}
use Rattle.upp_curve.proofs.affine_segment.Meeting.{lines_meet}
use Rattle.upp_normal.specs.declared.ahead.Stretch.{Stretch}
use Rattle.upp_limits.specs.Limits.{Sizes}
use Rattle.upp_normal.specs.Ahead.{GoesOn, IsBeforeNext}
use Rattle.element_envelope.specs.PieceElements.{Among}
use Rattle.element_envelope.specs.ElementRoom.{OperandElement, SumElement, SumPart}
use Rattle.element_envelope.specs.Envelopes.{ListSplit, list_sum}
use Rattle.element_envelope.proofs.ElementSizes.{parts_stand}
use Rattle.element_envelope.proofs.Envelopes.{envelope_rules}
use Rattle.element_envelope.proofs.FoundPairs.{pair_of}
use Rattle.curve_conv.specs.declared.lower.Under.{Under}
use Rattle.curve_conv.specs.Stretches.{SumStretch, SumTimeIn, IsUnder, IsEarliest, IsAhead, end_time, IsProperPart}
use Rattle.curve_conv.proofs.Lowers.{meeting_before, meeting_after, parallel_first, parallel_second, under_turned, under_none, under_left, earliest_first, earliest_second, lower_goes, lower_next, lower_stands}
use Rattle.curve_conv.proofs.ElementStretches.{point_before, point_here, point_after, point_stands, open_before, open_here, open_within, open_after, here_stands, within_stands}
use Rattle.curve_conv.proofs.PairStretches.{first_proper, join_proper, second_proper, none_stands}

-- ---- the lower of two
not_same : (x y : ℚ) → x <ℚ y → x ≡ y → ⊥
not_same x y h e = lt_irrefl y (subst (λ z. z <ℚ y) e h)

abbrev IsUnderOf : Option Line → Option Line → ℚ → Type 0
IsUnderOf l m t = (w : Under) × IsUnder l m t w

meet : Line → Line → ℚ
meet a b = (b.icept -ℚ a.icept) /ℚ (a.slope -ℚ b.slope)

under_crossing : (steep shallow : Line) (t : ℚ) → shallow.slope <ℚ steep.slope → IsUnderOf (Some steep) (Some shallow) t
unfolding meet
under_crossing steep shallow t h =
    let x = meet steep shallow in
    let e : line_at steep x ≡ line_at shallow x =
    lines_meet steep shallow (shallow.icept -ℚ steep.icept) (steep.slope -ℚ shallow.slope) x (λ k. not_same shallow.slope steep.slope h (sym k)) refl refl refl in
    elim (le_or_lt x t) [
      | inl k ↦ (record { line = Some shallow; turn = None }, meeting_after steep shallow x t h e (λ l. lt_irrefl x (le_lt_trans k l)))
      | inr k ↦ (record { line = Some steep; turn = Some x }, meeting_before steep shallow x t h e k)
    ]

under_of : (l m : Option Line) (t : ℚ) → IsUnderOf l m t
under_of None m t = (record { line = m; turn = None }, under_none m t)
under_of (Some l) None t = (record { line = Some l; turn = None }, under_left (Some l) t)
under_of (Some l) (Some m) t = elim (lt_cases l.slope m.slope) [
  | inl h ↦ let (w, U) = under_crossing m l t h in (w, under_turned (Some m) (Some l) t w U)
  | inr (inl e) ↦ elim (le_or_lt l.icept m.icept) [
    | inl k ↦ (record { line = Some l; turn = None }, parallel_first l m t e (λ n. lt_irrefl l.icept (le_lt_trans k n)))
    | inr k ↦ (record { line = Some m; turn = None }, parallel_second l m t e k)
  ]
  | inr (inr h) ↦ under_crossing l m t h
]

earliest_of : (a b : Option ℚ) → (e : Option ℚ) × IsEarliest a b e
earliest_of None b = (b, record { both = λ u h. (tt, h); one = inr refl })
earliest_of (Some x) None = (Some x, record { both = λ u h. (h, tt); one = inl refl })
earliest_of (Some x) (Some y) = elim (le_or_lt x y) [
  | inl h ↦ (Some x, earliest_first x y (λ k. lt_irrefl x (le_lt_trans h k)))
  | inr h ↦ (Some y, earliest_second x y h)
]

record Lowered (z : Sizes) (t : ℚ) (s r : Stretch) : Type 0 where
  stretch : Stretch
  goes : (f g : ℚ → Ext) → GoesOn f t s → GoesOn g t r → GoesOn (λ u. min_ext (f u) (g u)) t stretch
  next : (u : ℚ) → IsBeforeNext u stretch.next → IsBeforeNext u s.next × IsBeforeNext u r.next
  stands : SumStretch z t stretch

lowered : (z : Sizes) (end t : ℚ) (s r : Stretch) → SumTimeIn z end t → SumStretch z t s → SumStretch z t r → Lowered z t s r
lowered z end t s r T S R =
    let (w, U) = under_of s.line r.line t in
    let (e, E) = earliest_of s.next r.next in
    let (n, N) = earliest_of e w.turn in
    let both : Stretch = record { at = min_ext s.at r.at; line = w.line; next = n } in
    record {
      stretch = both;
      goes = λ f g F G. lower_goes f g t s r both w e F G U E refl refl N;
      next = λ u h. lower_next u s.next r.next w.turn e n E N h;
      stands = lower_stands z end t s r both w e T S R U E refl refl N;
    }

-- ---- one element
record Going (z : Sizes) (f : ℚ → Ext) (t : ℚ) : Type 0 where
  stretch : Stretch
  goes : GoesOn f t stretch
  stands : SumStretch z t stretch

before_end : (t : ℚ) (to : Ext) → (Fin t <ₑ to) ⊎ ¬ (Fin t <ₑ to)
before_end t Inf = inl tt
before_end t (Fin e) = elim (le_or_lt e t) [ inl h ↦ inr (λ k. lt_irrefl e (le_lt_trans h k)) | inr h ↦ inl h ]

element_goes : (z : Sizes) (end t : ℚ) (e : Element) → SumTimeIn z end t → SumElement z end e → IsProper e → Going z (element_value e) t
element_goes z end t (Point x v) T S p = elim (lt_cases t x) [
  | inl h ↦ record { stretch = record { at = Inf; line = None; next = Some x }; goes = point_before x v t h; stands = record { at = tt; line = tt; next = inl S.time.whole } }
  | inr (inl e) ↦ record { stretch = record { at = Fin v; line = None; next = None }; goes = point_here x v t e; stands = point_stands z end x v t e S }
  | inr (inr h) ↦ record { stretch = record { at = Inf; line = None; next = None }; goes = point_after x v t h; stands = none_stands z t }
]
element_goes z end t (Open from to l) T S p = elim (lt_cases t from) [
  | inl h ↦ record { stretch = record { at = Inf; line = None; next = Some from }; goes = open_before from to l t h; stands = record { at = tt; line = tt; next = inl S.start.whole } }
  | inr (inl e) ↦ record { stretch = record { at = Inf; line = Some l; next = end_time to }; goes = open_here from to l t p e; stands = here_stands z end from t to l S }
  | inr (inr h) ↦ elim (before_end t to) [
    | inl k ↦
        record {
          stretch = record { at = Fin (line_at l t); line = Some l; next = end_time to };
          goes = open_within from to l t (line_at l t) h k refl;
          stands = within_stands z end from t (line_at l t) to l T refl S;
        }
    | inr k ↦ record { stretch = record { at = Inf; line = None; next = None }; goes = open_after from to l t k; stands = none_stands z t }
  ]
]

part_goes : (z : Sizes) (end t : ℚ) (o : Option Element) → SumTimeIn z end t → SumPart z end o → IsProperPart o → Going z (part_value o) t
part_goes z end t None T S p = record {
  stretch = record { at = Inf; line = None; next = None };
  goes = record { at = refl; line = λ u past before. refl; next = tt };
  stands = none_stands z t;
}
part_goes z end t (Some e) T S p = element_goes z end t e T S p

-- ---- two elements
joined_goes : (z : Sizes) (end t : ℚ) (a b : Element) → SumTimeIn z end t → OperandElement z end a → OperandElement z end b → (j : Joined) → IsConvolved a b j → AreParts a b j → Going z (joined_value j) t
joined_goes z end t a b T A B j C P =
    let S = parts_stand z end a b j T.limited A B P in
    let F = element_goes z end t j.first T S.first (first_proper j.first j.join j.second C.adjoined) in
    let J = part_goes z end t j.join T S.join (join_proper j.first j.join j.second C.adjoined) in
    let N = part_goes z end t j.second T S.second (second_proper j.first j.join j.second C.adjoined) in
    let R = lowered z end t J.stretch N.stretch T J.stands N.stands in
    let W = lowered z end t F.stretch R.stretch T F.stands R.stands in
    record {
      stretch = W.stretch;
      goes = W.goes (element_value j.first) (λ u. min_ext (part_value j.join u) (part_value j.second u)) F.goes (R.goes (part_value j.join) (part_value j.second) J.goes N.goes);
      stands = W.stands;
    }

-- ---- all pairs
-- what the pairs of two lists make, as it goes on from t
pub record ListGoing (z : Sizes) (end t : ℚ) (xs ys : List Element) : Type 0 where
  pub stretch : Stretch
  pub ahead : IsAhead (ListSplit xs ys) (list_sum xs ys) end t stretch
  pub stands : SumStretch z t stretch

-- elements of an operand
pub record AreOperand (z : Sizes) (end : ℚ) (es : List Element) : Type 0 where
  pub proper : (e : Element) → Among e es → IsProper e
  pub stands : (e : Element) → Among e es → OperandElement z end e

rest_of : (z : Sizes) (end : ℚ) (e : Element) (es : List Element) → AreOperand z end (e ∷ es) → AreOperand z end es
rest_of z end e es A = record { proper = λ d h. A.proper d (inr h); stands = λ d h. A.stands d (inr h) }

nothing : Stretch
nothing = record { at = Inf; line = None; next = None }

row_goes : (z : Sizes) (end t : ℚ) (a : Element) (ys : List Element) → SumTimeIn z end t → IsProper a → OperandElement z end a → AreOperand z end ys → ListGoing z end t (a ∷ []) ys
unfolding nothing
row_goes z end t a [] T p A Y = record {
  stretch = nothing;
  ahead = record {
    value = λ u. Inf;
    is = λ u late early before. (envelope_rules.none (a ∷ []) u).1;
    goes = record { at = refl; line = λ u past before. refl; next = tt };
  };
  stands = none_stands z t;
}
row_goes z end t a (b ∷ bs) T p A Y =
    let (j, C, M) = pair_of a b p (Y.proper b (inl refl)) in
    let P = joined_goes z end t a b T A (Y.stands b (inl refl)) j C M in
    let R = row_goes z end t a bs T p A (rest_of z end b bs Y) in
    let W = lowered z end t P.stretch R.stretch T P.stands R.stands in
    record {
      stretch = W.stretch;
      ahead = record {
        value = λ u. min_ext (joined_value j u) (R.ahead.value u);
        is = λ u late early before.
            envelope_rules.right (a ∷ []) (b ∷ []) bs u (joined_value j u) (R.ahead.value u) (envelope_rules.pair a b j u C) (R.ahead.is u late early (W.next u before).1);
        goes = W.goes (joined_value j) R.ahead.value P.goes R.ahead.goes;
      };
      stands = W.stands;
    }

pub lists_go : (z : Sizes) (end t : ℚ) (xs ys : List Element) → SumTimeIn z end t → AreOperand z end xs → AreOperand z end ys → ListGoing z end t xs ys
unfolding nothing
lists_go z end t [] ys T X Y = record {
  stretch = nothing;
  ahead = record {
    value = λ u. Inf;
    is = λ u late early before. (envelope_rules.none ys u).0;
    goes = record { at = refl; line = λ u past before. refl; next = tt };
  };
  stands = none_stands z t;
}
lists_go z end t (x ∷ xs) ys T X Y =
    let P = row_goes z end t x ys T (X.proper x (inl refl)) (X.stands x (inl refl)) Y in
    let R = lists_go z end t xs ys T (rest_of z end x xs X) Y in
    let W = lowered z end t P.stretch R.stretch T P.stands R.stands in
    record {
      stretch = W.stretch;
      ahead = record {
        value = λ u. min_ext (P.ahead.value u) (R.ahead.value u);
        is = λ u late early before.
            let n = W.next u before in
            envelope_rules.left (x ∷ []) xs ys u (P.ahead.value u) (R.ahead.value u) (P.ahead.is u late early n.0) (R.ahead.is u late early n.1);
        goes = W.goes P.ahead.value R.ahead.value P.ahead.goes R.ahead.goes;
      };
      stands = W.stands;
    }
