-- The least number of periods of a convolution is there, and how large it is at most: found by proof alone, where no code runs.
use Rattle.std.specs.Prelude.{ℕ, suc, zero, ◌<◌, ◌≤◌, pos, Bool, true, false, List, [], ◌++◌, Option, Some, None}
use Rattle.std.proofs.Common.{arith, sym, refl, inl, inr, true≢false}
use Rattle.rational.specs.Rational.{ℚ, ◌≤ℚ◌, int}
use Rattle.rational.specs.Extended.{Ext}
use Rattle.rational.proofs.Laws.{le_or_lt, lt_irrefl, le_lt_trans}
use Rattle.upp_curve.specs.declared.affine_segment.element.Element.{Element}
use Rattle.upp_normal.specs.declared.ahead.Stretch.{Stretch}
use Rattle.upp_curve.specs.Curve.{SpecCurve, value_at}
use Rattle.upp_limits.specs.Limits.{Sizes}
use Rattle.upp_normal.specs.Ahead.{AtNext, HasWindow}
use Rattle.element_envelope.specs.ElementRoom.{WindowTime}
use Rattle.curve_conv.specs.Parts.{PartSplit, part_sum}
use Rattle.curve_conv.specs.Scans.{IsEarly, IsLimit, InPart, or_else, is_time, time_or}
use Rattle.curve_conv.specs.SpanElements.{listed, AreSpanElements}
use Rattle.curve_conv.specs.Stretches.{SumStretch, SumTimeIn, IsAhead, point_at, open_at}
use Rattle.curve_conv.proofs.GridSteps.{steps_while}
use Rattle.curve_conv.proofs.PartLoops.{limit_all, limit_until, limit_room, walk_fewer}
use Rattle.curve_conv.proofs.SpanLoops.{SpanWalk, span_start, span_facts, span_time, span_step, span_end, spans_make}
use Rattle.curve_call.proofs.FoundCurves.{curve_goes}
use Rattle.curve_conv.proofs.FoundStretches.{lists_go}

-- ---- the elements of a curve over some times
early_of : (at : Option ℚ) (limit : ℚ) → (next : Option ℚ) × IsEarly at limit next
early_of None limit = (None, tt)
early_of (Some x) limit = elim (le_or_lt limit x) [ inl h ↦ (None, h) | inr h ↦ (Some x, (refl, h)) ]

limit_of : (room : ℚ) (until : Option ℚ) → (limit : ℚ) × IsLimit room until limit
limit_of room None = (room, limit_all room)
limit_of room (Some e) = elim (le_or_lt room e) [ inl h ↦ (room, limit_room room e (λ k. lt_irrefl room (le_lt_trans h k))) | inr h ↦ (e, limit_until room e h) ]

record Walked (z : Sizes) (c : SpecCurve) (from : ℚ) (until : Option ℚ) (limit end : ℚ) : Type 0 where
  elements : List Element
  at : ℚ
  walk : SpanWalk z c from until limit end elements false at

-- one stretch more
record Further (z : Sizes) (c : SpecCurve) (from : ℚ) (until : Option ℚ) (limit end : ℚ) (x : ℚ) : Type 0 where
  elements : List Element
  more : Bool
  at : ℚ
  walk : SpanWalk z c from until limit end elements more at
  fewer : steps_while more z.dt limit at < steps_while true z.dt limit x

further : (z : Sizes) (c : SpecCurve) (from : ℚ) (until : Option ℚ) (limit end : ℚ) → HasWindow z end c → WindowTime z end from → AtNext (WindowTime z end) until → IsLimit end until limit
    → (es : List Element) (x : ℚ) → SpanWalk z c from until limit end es true x → Further z c from until limit end x
further z c from until limit end V F U L es x W =
    let H = curve_goes z end c x V (span_time z c from until limit end es x F L W) in
    let here = H.stretch in
    let (next, E) = early_of here.next limit in
    let K = span_facts z c from until limit end es x here next F U L W V H.goes H.times (λ t. H.sizes z end V t) E in
    let fs = (es ++ listed (point_at x here.at)) ++ listed (open_at x (or_else next until) here.line) in
    record {
      elements = fs;
      more = is_time next;
      at = time_or next x;
      walk = span_step z c from until limit end es fs x here next (is_time next) (time_or next x) F L W H.goes E K refl refl refl;
      fewer = walk_fewer z end limit x until here next (is_time next) (time_or next x) V.limited.sizes.dt W.whole K refl refl;
    }

walked : (z : Sizes) (c : SpecCurve) (from : ℚ) (until : Option ℚ) (limit end : ℚ) → HasWindow z end c → WindowTime z end from → AtNext (WindowTime z end) until → IsLimit end until limit
    → (n : ℕ) (es : List Element) (more : Bool) (x : ℚ) → steps_while more z.dt limit x ≤ n → SpanWalk z c from until limit end es more x → Walked z c from until limit end
walked z c from until limit end V F U L n es false x few W = record { elements = es; at = x; walk = W }
walked z c from until limit end V F U L zero es true x few W = let S = further z c from until limit end V F U L es x W in let less = S.fewer in absurd (omega (arith, few, less))
walked z c from until limit end V F U L (suc n) es true x few W =
    let S = further z c from until limit end V F U L es x W in
    let less = S.fewer in
    walked z c from until limit end V F U L n S.elements S.more S.at (omega (arith, few, less)) S.walk

pub record Spans (z : Sizes) (end : ℚ) (f : ℚ → Ext) (from : ℚ) (until : Option ℚ) : Type 0 where
  pub elements : List Element
  pub are : AreSpanElements z end f from until elements

pub spans_of : (z : Sizes) (end : ℚ) (c : SpecCurve) (from : ℚ) (until : Option ℚ) → HasWindow z end c → WindowTime z end from → AtNext (WindowTime z end) until → Spans z end (value_at c) from until
spans_of z end c from until V F U =
    let (limit, L) = limit_of end until in
    elim (le_or_lt limit from) [
      | inl h ↦ done limit L (walked z c from until limit end V F U L (steps_while false z.dt limit from) [] false from (omega arith) (span_start z c from until limit end [] false F refl (λ k. absurd (true≢false (sym k)), λ k. absurd (lt_irrefl limit (le_lt_trans h k)))))
      | inr h ↦ done limit L (walked z c from until limit end V F U L (steps_while true z.dt limit from) [] true from (omega arith) (span_start z c from until limit end [] true F refl (λ k. h, λ k. refl)))
    ]
  where
    done : (limit : ℚ) → IsLimit end until limit → Walked z c from until limit end → Spans z end (value_at c) from until
    done limit L W = record { elements = W.elements; are = span_end z c from until limit end W.elements W.at L W.walk }

-- ---- a part at a time
pub record PartGoing (z : Sizes) (end t : ℚ) (f g : ℚ → Ext) (from : ℚ) (until : Option ℚ) (low : ℚ) : Type 0 where
  pub stretch : Stretch
  pub ahead : IsAhead (PartSplit (InPart from None until low)) (part_sum f g (InPart from None until low)) end t stretch
  pub stands : SumStretch z t stretch

pub spans_go : (z : Sizes) (end t : ℚ) (f g : ℚ → Ext) (from : ℚ) (until : Option ℚ) (low : ℚ) → int (pos 0) ≤ℚ from → int (pos 0) ≤ℚ low → SumTimeIn z end t → Spans z end f from until
    → Spans z end g low None → PartGoing z end t f g from until low
spans_go z end t f g from until low a b T X Y =
    let G = lists_go z end t X.elements Y.elements T record { proper = X.are.proper; stands = X.are.stands } record { proper = Y.are.proper; stands = Y.are.stands } in
    record {
      stretch = G.stretch;
      ahead = record {
        value = G.ahead.value;
        is = λ u late early before. spans_make z end f g from until low X.elements Y.elements u (G.ahead.value u) a b X.are Y.are early (G.ahead.is u late early before);
        goes = G.ahead.goes;
      };
      stands = G.stands;
    }
