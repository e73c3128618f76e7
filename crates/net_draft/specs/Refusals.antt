-- Why the text of a curve is refused, as tests of its numbers: the first cause that is there. A curve that is over a
-- limit by itself is not refused here, and its shape is not looked at. Own choice.
use Rattle.std.specs.Prelude.{◌^◌, Bool, true, false, not, ◌&&◌, ◌||◌, nat_lt, nat_le, if◌then◌else◌, List, [], ◌∷◌, Option, Some, None}
use Rattle.std.specs.Ordering.{is_eq}
use Rattle.rational.specs.Rational.{ℚ, ◌+ℚ◌}
use Rattle.rational.specs.Ratio.{cmp_q}
use Rattle.rational.specs.Extended.{Ext, ◌+ₑ◌}
use Rattle.rational.specs.declared.Extended.TheVariants.{Fin, Inf}
use Rattle.upp_curve.specs.declared.affine_segment.line.Line.{Line}
use Rattle.upp_curve.specs.declared.affine_segment.line.Piece.{Piece}
use Rattle.upp_curve.specs.affine_segment.Values.{line_value}
use Rattle.upp_curve.specs.declared.curve.Tail.{Tail}
use Rattle.upp_curve.specs.declared.curve.Tail.TheVariants.{Periodic, Affine, Infinite}
use Rattle.upp_curve.specs.Curve.{SpecCurve, value_at}
use Rattle.min_plus.specs.Functions.{zero_q}
use Rattle.upp_limits.specs.Limits.{own_gauge, own_tally}
use Rattle.upp_curve.specs.affine_segment.Reading.{read}
use Rattle.curve_library.specs.declared.texts.PieceText.{PieceText}
use Rattle.curve_library.specs.declared.texts.TailText.{TailText}
use Rattle.curve_library.specs.declared.texts.UseAs.{UseAs}
use Rattle.curve_library.specs.declared.texts.UseAs.TheVariants.{Arrival, Service}
use Rattle.curve_library.specs.Listed.{listed_curve}
use Rattle.net_model.specs.declared.fault.CurveRefusal.{CurveRefusal}
use Rattle.net_model.specs.declared.fault.CurveRefusal.TheVariants.{Negative, ZeroPeriod, NotRising, NotContinuous, NotZeroAtStart}
use Rattle.net_draft.specs.Texts.{CurveText, Bucket, Stair, RateLatency, Gate, Listed}
use Rattle.net_draft.specs.Values.{less}

abbrev pub below_zero : ℚ → Bool
below_zero x = less x zero_q

abbrev pub is_zero : ℚ → Bool
is_zero x = is_eq (cmp_q x zero_q)

abbrev pub at_most_q : ℚ → ℚ → Bool
at_most_q x y = not (less y x)

-- ---- what is listed: its numbers, and the order of its pieces
abbrev pub is_nonneg_text : PieceText → Bool
is_nonneg_text p = at_most_q zero_q p.x && (at_most_q zero_q p.at && at_most_q zero_q p.after)

abbrev pub are_nonneg_texts : List PieceText → Bool
are_nonneg_texts [] = true
are_nonneg_texts (p ∷ ps) = is_nonneg_text p && are_nonneg_texts ps

abbrev pub is_nonneg_end : Option TailText → Bool
is_nonneg_end None = true
is_nonneg_end (Some t) = at_most_q zero_q t.rank && at_most_q zero_q t.rise

abbrev pub has_length : Option TailText → Bool
has_length None = true
has_length (Some t) = less zero_q t.period

abbrev pub rise_from : ℚ → List PieceText → Bool
rise_from x [] = true
rise_from x (p ∷ ps) = less x p.x && rise_from p.x ps

-- the first at 0, and each after the one before it
abbrev pub starts_ascend : List PieceText → Bool
starts_ascend [] = false
starts_ascend (p ∷ ps) = is_zero p.x && rise_from p.x ps

abbrev pub all_before : ℚ → List PieceText → Bool
all_before x [] = true
all_before x (p ∷ ps) = less p.x x && all_before x ps

-- before the end of the first period
abbrev pub are_within_period : Option TailText → List PieceText → Bool
are_within_period None ps = true
are_within_period (Some t) ps = all_before (t.rank +ℚ t.period) ps

-- ---- the shape of a curve, by its pieces
abbrev pub at_most : Ext → Ext → Bool
at_most v Inf = true
at_most Inf (Fin w) = false
at_most (Fin v) (Fin w) = at_most_q v w

abbrev pub is_same : Ext → Ext → Bool
is_same Inf Inf = true
is_same Inf (Fin w) = false
is_same (Fin v) Inf = false
is_same (Fin v) (Fin w) = is_eq (cmp_q v w)

abbrev pub line_rises : Option Line → Bool
line_rises None = true
line_rises (Some l) = at_most_q zero_q l.slope

-- the time and the value of what comes next, if anything does
abbrev pub Next : Type 0
Next = Option (ℚ × Ext)

abbrev pub next_of : List Piece → Next → Next
next_of [] end = end
next_of (q ∷ qs) end = Some (q.x, q.at)

abbrev pub ends_below : Option Line → Next → Bool
ends_below l None = true
ends_below l (Some e) = at_most (line_value l e.0) e.1

-- the line starts no lower than the piece's value, never falls, and ends no higher than what comes next
abbrev pub piece_rises : Piece → Next → Bool
piece_rises p next = at_most p.at (line_value p.line p.x) && (line_rises p.line && ends_below p.line next)

abbrev pub pieces_rise : Next → List Piece → Bool
pieces_rise end [] = true
pieces_rise end (p ∷ ps) = piece_rises p (next_of ps end) && pieces_rise end ps

abbrev pub ends_at : Option Line → Next → Bool
ends_at l None = true
ends_at l (Some e) = is_same (line_value l e.0) e.1

-- the line begins at the piece's value and ends at the value of what comes next
abbrev pub piece_joins : Piece → Next → Bool
piece_joins p next = is_same (line_value p.line p.x) p.at && ends_at p.line next

abbrev pub pieces_join : Next → List Piece → Bool
pieces_join end [] = true
pieces_join end (p ∷ ps) = piece_joins p (next_of ps end) && pieces_join end ps

-- what comes after the last piece: a period after the rank, the value there and the rise
abbrev pub end_of : List Piece → Tail → Next
end_of ps (Periodic rank period rise) = Some (rank +ℚ period, read ps rank +ₑ Fin rise)
end_of ps (Affine rank) = None
end_of ps (Infinite rank) = None

abbrev pub rises : SpecCurve → Bool
rises c = pieces_rise (end_of c.pieces c.tail) c.pieces

abbrev pub joins : SpecCurve → Bool
joins c = pieces_join (end_of c.pieces c.tail) c.pieces

-- ---- refusals
-- at most 2^20 pieces to look at, and a gauge below 2^120
abbrev pub is_within : SpecCurve → Bool
is_within c = nat_lt (own_gauge c) (2 ^ 120) && nat_le (own_tally c) (2 ^ 20)

-- the first of three causes that is there
abbrev pub first_of : Bool → Bool → Bool → CurveRefusal → CurveRefusal → CurveRefusal → Option CurveRefusal
first_of first second third a b c = if first then Some a else if second then Some b else if third then Some c else None

-- a service curve never falls, is continuous, and 0 at 0; an arrival curve never falls
unfoldable pub shape_refusal : UseAs → SpecCurve → Option CurveRefusal
shape_refusal Arrival c = if rises c then None else Some NotRising
shape_refusal Service c =
    first_of (not (rises c)) (not (joins c)) (not (is_same (value_at c zero_q) (Fin zero_q)))
    NotRising NotContinuous NotZeroAtStart

-- the form of what is listed, and within the limits the shape of its curve
abbrev pub form_refusal : Bool → Bool → Bool → Bool → Option CurveRefusal → Option CurveRefusal
form_refusal nonneg long order within shape =
    if not nonneg then Some Negative
    else if not long then Some ZeroPeriod
    else if not order then Some NotRising
    else if within then shape else None

unfoldable pub listed_refusal : List PieceText → Option TailText → UseAs → Option CurveRefusal
listed_refusal ps tail use_as =
    form_refusal (are_nonneg_texts ps && is_nonneg_end tail) (has_length tail)
    (starts_ascend ps && are_within_period tail ps)
    (is_within (listed_curve ps tail)) (shape_refusal use_as (listed_curve ps tail))

-- the first of two causes
abbrev pub first_cause : Bool → Bool → Option CurveRefusal
first_cause negative zero_period = if negative then Some Negative else if zero_period then Some ZeroPeriod else None

unfoldable pub refusal_of : CurveText → Option CurveRefusal
refusal_of (Bucket burst rate) = first_cause (below_zero burst || below_zero rate) false
refusal_of (Stair packet period jitter) = first_cause (below_zero jitter) (at_most_q period zero_q)
refusal_of (RateLatency rate latency) = first_cause (below_zero rate || below_zero latency) false
refusal_of (Gate rate cycle slot) =
    first_cause (below_zero rate || below_zero slot) (at_most_q cycle zero_q || (is_zero slot || less cycle slot))
refusal_of (Listed pieces tail use_as) = listed_refusal pieces tail use_as
