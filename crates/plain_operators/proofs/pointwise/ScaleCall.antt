-- A curve times a number within the limits of the call: the products fit, and the curve of them has room.
use Rattle.std.specs.Prelude.{◌≡◌, pos, List, map}
use Rattle.std.specs.List.{AllByRecursion}
use Rattle.std.proofs.Common.{arith, sym, ap, ap₂, ◌∙◌, subst}
use Rattle.rational.specs.Rational.{ℚ, ◌+ℚ◌, ◌≤ℚ◌, ◌<ℚ◌, int}
use Rattle.rational.proofs.Linear.{with3}
use Rattle.rational.proofs.Laws.{lt_le_trans}
use Rattle.upp_curve.specs.declared.affine_segment.line.Piece.{Piece}
use Rattle.upp_curve.specs.declared.curve.Tail.{Tail}
use Rattle.upp_curve.specs.declared.curve.Tail.TheVariants.{Periodic, Affine, Infinite}
use Rattle.upp_limits.specs.declared.op_kind.OpKind.TheVariants.{Scale}
use Rattle.upp_curve.specs.Curve.{SpecCurve, value_at, HasSameValues}
use Rattle.upp_curve.specs.Curves.{IsCurve}
use Rattle.upp_curve.specs.affine_segment.Pieces.{Each}
use Rattle.upp_curve.specs.Normal.{IsNormal, IsRaw}
use Rattle.upp_curve.specs.Steady.{steady}
use Rattle.upp_limits.specs.Periods.{own_period}
use Rattle.min_plus.specs.Pointwise.{IsScaled}
use Rattle.upp_limits.specs.Spans.{piece_read, spans}
use Rattle.upp_limits.specs.Limits.{Sizes, curve_numbers, own_end}
use Rattle.upp_limits.specs.Sized.{Stands, HeldBy}
use Rattle.upp_limits.specs.Gauges.{scaled_piece, scaled_tail, scaled_curve, kind_numbers}
use Rattle.upp_limits.specs.ClosedOperands.{PieceScales, KnowsTimes, KnowsScaled}
use Rattle.upp_limits.proofs.Stands.{stands_right}
use Rattle.upp_limits.proofs.Every.{every_weaken}
use Rattle.upp_limits.proofs.Operands.{held_scaled}
use Rattle.upp_limits.proofs.CurveStands.{starts_below_own_end}
use Rattle.upp_normal.proofs.UnrolledPieces.{each_of_spans, each_with, all_read}
use Rattle.upp_curve.proofs.affine_segment.PieceOrder.{each_map}
use Rattle.upp_normal.proofs.NormaliseOwn.{EndsBy, Found, limited_found}
use Rattle.curve_call.specs.declared.frame.Frame.{Frame}
use Rattle.curve_call.specs.Frames.{IsFrame, sizes_at}
use Rattle.curve_call.proofs.FrameFacts.{FrameFacts, frame_facts}
use Rattle.plain_operators.proofs.pointwise.ScaledValues.{curve_scaled, each_start, raw_scaled}
use Rattle.upp_curve.proofs.SteadyTimes.{rank_early}

-- ---- what the frame gives
pub record ScaleCall (q : ℚ) (f : SpecCurve) (r : Frame) (z : Sizes) : Type 0 where
  pub is : IsCurve f
  pub facts : FrameFacts (Scale q) f f r z
  pub stands : Stands z (curve_numbers r.end (scaled_curve q f))
  pub scales : KnowsScaled q r.end f
  pub far : steady f +ℚ own_period f ≤ℚ r.end
  pub some : int (pos 0) <ℚ own_period f

pub scale_call : (q : ℚ) (f : SpecCurve) (r : Frame) → IsFrame (Scale q) f f 0 0 r → ScaleCall q f r (sizes_at (Scale q) f f 0 0)
scale_call q f r h =
    let z = sizes_at (Scale q) f f 0 0 in
    let facts = frame_facts (Scale q) f f 0 0 r tt h in
    let a = facts.limited in
    let g = a.gauge in
    let stands = stands_right z (curve_numbers r.end f) (curve_numbers r.end (scaled_curve q f)) (stands_right z (kind_numbers (Scale q)) _ facts.stands) in
    let held : HeldBy z r.end (curve_numbers r.end (scaled_curve q f)) = record { sizes = a.sizes; gauge = omega arith; stands = stands } in
    record {
      is = h.first;
      facts = facts;
      stands = stands;
      scales = held_scaled z r.end q f h.first held;
      far = subst (λ s. s +ℚ own_period f ≤ℚ r.end) h.start (subst (λ p. r.start +ℚ p ≤ℚ r.end) h.period facts.early.both);
      some = subst (λ p. int (pos 0) <ℚ p) h.period facts.period.above;
    }

-- ---- the products
before_end : (q : ℚ) (f : SpecCurve) (r : Frame) (z : Sizes) → ScaleCall q f r z → Each (λ p. p.x <ℚ r.end) f.pieces
unfolding own_end
before_end q f r z h = each_map (λ p. p.x <ℚ own_end f) (λ p. p.x <ℚ r.end) (λ p l. lt_le_trans l h.far) f.pieces (starts_below_own_end f h.is.normal.raw)

base_pieces : (F : Piece → Type 0) (ps : List Piece) (tail : Tail) → IsNormal record { pieces = ps; tail = tail } → AllByRecursion (λ s. F s.piece) (spans tail ps) → Each F ps
base_pieces F ps (Periodic rank period rise) n h = each_of_spans F (Periodic rank period rise) ps h
base_pieces F ps (Affine rank) n h = each_of_spans F (Affine rank) ps h
base_pieces F ps (Infinite rank) n h =
    each_with (λ p. F (piece_read (Infinite rank) p)) (λ p. piece_read (Infinite rank) p ≡ p) F (λ p f e. subst F e f) ps
    (each_of_spans F (Infinite rank) ps h) (all_read rank ps n.raw.starts n.raw.tail.starts n.tail)

pub pieces_scale : (q : ℚ) (f : SpecCurve) (r : Frame) (z : Sizes) → ScaleCall q f r z → Each (PieceScales q) f.pieces
pieces_scale q f r z h =
    let F : Piece → Type 0 = λ p. p.x <ℚ r.end → PieceScales q p in
    let spans_scale = every_weaken {P = KnowsTimes q (scaled_tail q f.tail) r.end} {Q = λ s. F s.piece} (λ s k. k.scales) (spans f.tail f.pieces) h.scales.spans in
    each_with F (λ p. p.x <ℚ r.end) (PieceScales q) (λ p f l. f l) f.pieces (base_pieces F f.pieces f.tail h.is.normal spans_scale) (before_end q f r z h)

-- ---- the curve of the products
ends_scaled : (q w : ℚ) (ps : List Piece) (tail : Tail) → int (pos 0) <ℚ own_period record { pieces = ps; tail = tail }
    → steady record { pieces = ps; tail = tail } +ℚ own_period record { pieces = ps; tail = tail } ≤ℚ w → EndsBy (scaled_tail q tail) w
unfolding own_period steady
ends_scaled q w ps (Periodic rank period rise) some l = (l, some)
ends_scaled q w ps (Affine rank) some l =
    let s = steady record { pieces = ps; tail = Affine rank } in
    let e : rank ≤ℚ s = rank_early record { pieces = ps; tail = Affine rank } in
    with3 rank s w (λ c. omega (arith, c.le, c.lt, c.same))
ends_scaled q w ps (Infinite rank) some l =
    let s = steady record { pieces = ps; tail = Infinite rank } in
    let e : rank ≤ℚ s = rank_early record { pieces = ps; tail = Infinite rank } in
    with3 rank s w (λ c. omega (arith, c.le, c.lt, c.same))

found_at : (q : ℚ) (f : SpecCurve) (r : Frame) (z : Sizes) → ScaleCall q f r z → Found (scaled_curve q f) r.times r.values
found_at q f r z h =
    let c = scaled_curve q f in
    let at = limited_found z r.end c h.facts.limited (raw_scaled q f h.is.normal.raw) (each_start (λ x. x <ℚ r.end) q f.pieces (before_end q f r z h)) (ends_scaled q r.end f.pieces f.tail h.some h.far) h.stands in
    subst (λ n. Found c n r.values) (sym h.facts.times) (subst (Found c z.dt) (sym h.facts.values) at)

-- as the code makes it: pieces and a tail
pub record IsMade (q : ℚ) (f : SpecCurve) (ps : List Piece) (by : Tail) : Type 0 where
  pub pieces : ps ≡ map (scaled_piece q) f.pieces
  pub tail : by ≡ scaled_tail q f.tail

unfoldable made : List Piece → Tail → SpecCurve
made ps tail = record { pieces = ps; tail = tail }

made_is : (q : ℚ) (f : SpecCurve) (ps : List Piece) (tail : Tail) → IsMade q f ps tail → scaled_curve q f ≡ made ps tail
unfolding made
made_is q f ps tail h = ap₂ made (sym h.pieces) (sym h.tail)

pub made_raw : (q : ℚ) (f : SpecCurve) (r : Frame) (z : Sizes) (ps : List Piece) (tail : Tail) → ScaleCall q f r z → IsMade q f ps tail → IsRaw record { pieces = ps; tail = tail }
unfolding made
made_raw q f r z ps tail h m = subst IsRaw (made_is q f ps tail m) (raw_scaled q f h.is.normal.raw)

pub made_found : (q : ℚ) (f : SpecCurve) (r : Frame) (z : Sizes) (ps : List Piece) (tail : Tail) → ScaleCall q f r z → IsMade q f ps tail
    → Found record { pieces = ps; tail = tail } r.times r.values
unfolding made
made_found q f r z ps tail h m = subst (λ c. Found c r.times r.values) (made_is q f ps tail m) (found_at q f r z h)

pub made_values : (q : ℚ) (f : SpecCurve) (ps : List Piece) (tail : Tail) (c : SpecCurve) → IsMade q f ps tail → HasSameValues c record { pieces = ps; tail = tail }
    → (t : ℚ) → int (pos 0) ≤ℚ t → IsScaled (value_at f) q t (value_at c t)
unfolding made
made_values q f ps tail c m same t some = same t some ∙ ap (λ k. value_at k t) (sym (made_is q f ps tail m)) ∙ curve_scaled q t f
