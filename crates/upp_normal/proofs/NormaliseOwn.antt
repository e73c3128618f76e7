-- Room for a curve by itself, in whatever form it is given, where its gauge is below 2 ^ 120.
use Rattle.std.specs.Prelude.{◌≡◌, ℕ, ◌*◌, ◌<◌, ◌≤◌, ◌^◌, pos, List, [], ◌∷◌, Option, Some, None}
use Rattle.std.specs.List.{AllByRecursion}
use Rattle.std.proofs.Common.{arith, sym, ap, ◌∙◌, refl, subst}
use Prim.Native.Nat.{◌∣◌}
use native.Mathlib.Nat.{dvd-mul_left, dvd_refl, mul-pos, mul-le-mul_left, le-mul_of_pos_right}
use Rattle.rational.specs.Rational.{ℚ, ◌+ℚ◌, ◌*ℚ◌, ◌≤ℚ◌, ◌<ℚ◌, int}
use Rattle.rational.specs.Grid.{Whole, Within}
use Rattle.rational.proofs.Grid.{whole_weaken, within_weaken}
use Rattle.rational.proofs.Integers.{nat_le, nat_nonneg}
use Rattle.rational.proofs.Laws.{le_refl, le_trans, le_of_lt, mul_le_mul, mul_le_mul_right, mul_assoc, mul_comm}
use Rattle.rational.proofs.Linear.{with1, with2, with3}
use Rattle.rational.specs.Extended.{Ext}
use Rattle.rational.specs.declared.Extended.TheVariants.{Fin, Inf}
use Rattle.upp_curve.specs.declared.affine_segment.line.Line.{Line}
use Rattle.upp_curve.specs.declared.affine_segment.line.Piece.{Piece}
use Rattle.upp_curve.specs.affine_segment.Values.{line_value}
use Rattle.upp_curve.specs.declared.curve.Tail.{Tail}
use Rattle.upp_curve.specs.declared.curve.Tail.TheVariants.{Periodic, Affine, Infinite}
use Rattle.upp_curve.specs.affine_segment.Reading.{read}
use Rattle.upp_curve.specs.Curve.{SpecCurve, repeated, value_at}
use Rattle.upp_curve.specs.Steady.{steady, rank_of}
use Rattle.upp_limits.specs.Periods.{own_period}
use Rattle.upp_curve.specs.affine_segment.Pieces.{Each, StartsAtZero, start_after}
use Rattle.upp_curve.specs.Normal.{IsRaw, TailFits}
use Rattle.upp_limits.specs.Spans.{Span, spans, piece_read, end_of}
use Rattle.upp_limits.specs.Limits.{Sizes, curve_numbers, own_end, own_sizes, own_gauge}
use Rattle.upp_limits.specs.declared.own_window.OwnNumbers.{OwnNumbers}
use Rattle.upp_limits.specs.OwnWindow.{AreNumbers}
use Rattle.upp_limits.specs.Sized.{grid_of, AreSizes, ValueStands, LineStands, SpanStands, TailStands, Stands}
use Rattle.upp_normal.specs.Operand.{AreLimited}
use Rattle.upp_normal.specs.Normalising.{TailOnGrids}
use Rattle.upp_normal.specs.Room.{top, Room, IsRoom, TimeHasRoom, many, ValueHasRoom, LineHasRoom, PieceHasRoom, TailHasRoom}
use Rattle.upp_curve.proofs.Rules.{int_mul}
use Rattle.upp_curve.proofs.ByTail.{value_of}
use Rattle.upp_limits.proofs.NarrowSizes.{grids_narrow, IsNarrow, narrow_limit, grid_pos, value_whole, run_within, line_parts, slope_time_divides}
use Rattle.upp_limits.proofs.PieceLists.{starts_nonneg}
use Rattle.upp_limits.proofs.OwnGauge.{end_within}
use Rattle.upp_limits.proofs.CurveStands.{curve_stands, own_are_sizes, own_stands, starts_below_own_end}
use Rattle.upp_curve.proofs.affine_segment.PieceOrder.{each_map}
use Rattle.upp_normal.proofs.NormaliseForm.{grids_through}
use Rattle.upp_normal.proofs.NormaliseGrids.{ValueOn, LineOn, PieceOn, raw_on}
use Rattle.upp_normal.proofs.AnswerRoom.{far, thrice}
use Rattle.upp_normal.proofs.UnrolledPieces.{each_nonneg}
use Rattle.upp_curve.proofs.SteadyTimes.{later_at_least}

-- ---- the room that the sizes give: times up to three times the window's end, values up to three times the largest
abbrev room_of : Sizes → ℚ → Room
room_of z w = record { times = z.dt; base = z.dv * z.dt; slopes = z.ds; largest = 3 * z.largest; end = int (pos 3) *ℚ w }

-- sizes of a gauge below 2 ^ 120, for a window that ends at w
record Given (z : Sizes) (w : ℚ) : Type 0 where
  sizes : AreSizes z w
  narrow : IsNarrow z (2 ^ 114)
  some : int (pos 0) ≤ℚ w

times_divide : (z : Sizes) → z.dt ∣ z.dv * z.dt
times_divide z = dvd-mul_left z.dt z.dv

end_top : (z : Sizes) (w : ℚ) (k : ℕ) → Given z w → k ≤ grid_of z → (int (pos 3) *ℚ w) *ℚ int (pos k) ≤ℚ int (pos top)
end_top z w k G h =
    let V = z.largest in
    let n = G.narrow.grid in
    let early : w ≤ℚ int (pos V) = end_within z w G.sizes G.some in
    let three : int (pos 3) *ℚ w ≤ℚ int (pos (3 * V)) = subst (λ y. int (pos 3) *ℚ w ≤ℚ y) (sym (int_mul 3 V)) (mul_le_mul (int (pos 3)) (nat_nonneg 3) early) in
    let grown : V * k ≤ V * grid_of z = mul-le-mul_left V h in
    let all : 3 * V * k ≤ top = omega (arith, n, grown) in
    le_trans (mul_le_mul_right (int (pos k)) (nat_nonneg k) three) (subst (λ y. y ≤ℚ int (pos top)) (int_mul (3 * V) k) (nat_le (3 * V * k) top all))

base_least : (z : Sizes) (w : ℚ) → Given z w → z.dv * z.dt ≤ grid_of z
base_least z w G = le-mul_of_pos_right (z.dv * z.dt) G.sizes.ds

room_is : (z : Sizes) (w : ℚ) → Given z w → IsRoom (room_of z w)
room_is z w G =
    let some = G.some in
    let largest = G.sizes.largest in
    record {
      some_times = G.sizes.dt;
      some_base = mul-pos G.sizes.dv G.sizes.dt;
      some_slopes = G.sizes.ds;
      some_largest = omega (arith, largest);
      nested = times_divide z;
      some_end = with1 w (λ c. omega (arith, c.le, c.lt, c.same));
      rate = end_top z w (grid_of z) G (omega arith);
    }

time_room : (z : Sizes) (w x : ℚ) → Given z w → Whole z.dt x → int (pos 0) ≤ℚ x → TimeHasRoom (room_of z w) x
time_room z w x G on low =
    let n = G.narrow.grid in
    record {
      grid = z.dv * z.dt;
      some = mul-pos G.sizes.dv G.sizes.dt;
      base = dvd_refl (z.dv * z.dt);
      whole = whole_weaken z.dt (z.dv * z.dt) x (times_divide z) on;
      low = low;
      time_size = end_top z w (z.dv * z.dt) G (base_least z w G);
      value_size = omega (arith, n);
    }

three_times : (z : Sizes) (w : ℚ) → many (room_of z w) 1 ≡ int (pos 3) *ℚ int (pos z.largest)
three_times z w = ap (λ n. int (pos n)) (one z.largest) ∙ int_mul 3 z.largest
  where
    one : (v : ℕ) → 1 * (3 * v) ≡ 3 * v
    one v = omega arith

largest_many : (z : Sizes) (w : ℚ) → int (pos z.largest) ≤ℚ many (room_of z w) 1
largest_many z w = nat_le z.largest (1 * (3 * z.largest)) (omega arith)

value_room : (z : Sizes) (w : ℚ) (v : Ext) → Given z w → ValueStands z v → ValueHasRoom (room_of z w) 1 (z.dv * z.dt) v
value_room z w Inf G h = tt
value_room z w (Fin v) G h = record { whole = value_whole z v h; within = within_weaken (int (pos z.largest)) (many (room_of z w) 1) v (largest_many z w) h.within }

value_on : (z : Sizes) (v : Ext) → ValueStands z v → ValueOn (grid_of z) v
value_on z Inf h = tt
value_on z (Fin v) h = value_whole z v h

swap : (s n w : ℚ) → n *ℚ (s *ℚ w) ≡ s *ℚ (n *ℚ w)
swap s n w = sym (mul_assoc n s w) ∙ ap (λ y. y *ℚ w) (mul_comm n s) ∙ mul_assoc s n w

line_room : (z : Sizes) (w x : ℚ) (l : Option Line) → Given z w → Whole z.dt x → int (pos 0) ≤ℚ x → x ≤ℚ w → ValueStands z (line_value l x) → LineStands z l → LineHasRoom (room_of z w) 1 l
line_room z w x None G on low early v s = tt
line_room z w x (Some l) G on low early v s =
    let P = line_parts z w l.icept l.slope x G.sizes s on low early v in
    let V = z.largest in
    let two : int (pos 2) *ℚ int (pos V) ≤ℚ many (room_of z w) 1 = subst (λ y. y ≤ℚ many (room_of z w) 1) (int_mul 2 V) (nat_le (2 * V) (1 * (3 * V)) (omega arith)) in
    let run = run_within z w l.slope w G.sizes s G.some (le_refl w) in
    record {
      icept = P.icept_whole;
      within = within_weaken (int (pos 2) *ℚ int (pos V)) (many (room_of z w) 1) l.icept two P.icept_within;
      slope = s.whole;
      rise = subst (λ y. Within (many (room_of z w) 1) y) (swap l.slope (int (pos 3)) w) (subst (λ m. Within m (int (pos 3) *ℚ (l.slope *ℚ w))) (sym (three_times z w)) (thrice (int (pos V)) (l.slope *ℚ w) run));
    }

line_on : (z : Sizes) (w x : ℚ) (l : Option Line) → Given z w → Whole z.dt x → int (pos 0) ≤ℚ x → x ≤ℚ w → ValueStands z (line_value l x) → LineStands z l → LineOn z.ds (grid_of z) l
line_on z w x None G on low early v s = tt
line_on z w x (Some l) G on low early v s = ((line_parts z w l.icept l.slope x G.sizes s on low early v).icept_whole, s.whole)

piece_room : (z : Sizes) (w : ℚ) (s : Span) → Given z w → SpanStands z s → int (pos 0) ≤ℚ s.piece.x → s.piece.x ≤ℚ w → PieceHasRoom (room_of z w) 1 s.piece
unfolding time_room
piece_room z w s G S low early = record {
  time = time_room z w s.piece.x G S.start low;
  at = value_room z w s.piece.at G S.at;
  line = line_room z w s.piece.x s.piece.line G S.start low early S.after S.slope;
}

piece_on : (z : Sizes) (w : ℚ) (s : Span) → Given z w → SpanStands z s → int (pos 0) ≤ℚ s.piece.x → s.piece.x ≤ℚ w → PieceOn z.dt z.ds (grid_of z) s.piece
piece_on z w s G S low early = record {
  start = S.start;
  at = value_on z s.piece.at S.at;
  line = line_on z w s.piece.x s.piece.line G S.start low early S.after S.slope;
}

-- ---- the pieces
nonneg : (ps : List Piece) (x : ℚ) → Each (λ p. int (pos 0) ≤ℚ p.x) ps → Each (λ p. p.x <ℚ x) ps → Each (λ p. (int (pos 0) ≤ℚ p.x) × (p.x ≤ℚ x)) ps
nonneg [] x h k = tt
nonneg (p ∷ ps) x h k = ((h.0, le_of_lt k.0), nonneg ps x h.1 k.1)

each_room : (z : Sizes) (w : ℚ) (tail : Tail) (ps : List Piece) → Given z w → AllByRecursion (SpanStands z) (spans tail ps) → Each (λ p. (int (pos 0) ≤ℚ p.x) × (p.x ≤ℚ w)) ps
    → Each (λ p. PieceHasRoom (room_of z w) 1 (piece_read tail p)) ps
unfolding spans
each_room z w tail [] G h k = tt
each_room z w tail (p ∷ ps) G h k =
    (piece_room z w record { piece = piece_read tail p; next = start_after ps (end_of tail) } G h.0 k.0.0 k.0.1, each_room z w tail ps G h.1 k.1)

each_on : (z : Sizes) (w : ℚ) (tail : Tail) (ps : List Piece) → Given z w → AllByRecursion (SpanStands z) (spans tail ps) → Each (λ p. (int (pos 0) ≤ℚ p.x) × (p.x ≤ℚ w)) ps
    → Each (λ p. PieceOn z.dt z.ds (grid_of z) (piece_read tail p)) ps
unfolding spans
each_on z w tail [] G h k = tt
each_on z w tail (p ∷ ps) G h k =
    (piece_on z w record { piece = piece_read tail p; next = start_after ps (end_of tail) } G h.0 k.0.0 k.0.1, each_on z w tail ps G h.1 k.1)

-- ---- the end of the curve's own window

-- what ends at w: the first period, or the rank
abbrev pub EndsBy : Tail → ℚ → Type 0
EndsBy (Periodic rank period rise) w = (rank +ℚ period ≤ℚ w) × (int (pos 0) <ℚ period)
EndsBy (Affine rank) w = rank ≤ℚ w
EndsBy (Infinite rank) w = rank ≤ℚ w

ends_by : (ps : List Piece) (tail : Tail) → TailFits ps tail → EndsBy tail (own_end record { pieces = ps; tail = tail }) × (int (pos 0) ≤ℚ own_end record { pieces = ps; tail = tail })
unfolding own_end steady own_period
ends_by ps (Periodic rank period rise) F =
    let nonneg = F.nonneg in
    let some = F.some in
    ((le_refl (rank +ℚ period), F.some), with2 rank period (λ c. omega (arith, c.le, c.lt, c.same)))
ends_by ps (Affine rank) F =
    let s = steady record { pieces = ps; tail = Affine rank } in
    let l : rank ≤ℚ s = later_at_least _ rank in
    let nonneg = F.nonneg in
    (with2 rank s (λ c. omega (arith, c.le, c.lt, c.same)), with2 rank s (λ c. omega (arith, c.le, c.lt, c.same)))
ends_by ps (Infinite rank) F =
    let s = steady record { pieces = ps; tail = Infinite rank } in
    let l : rank ≤ℚ s = later_at_least _ rank in
    let nonneg = F.nonneg in
    (with2 rank s (λ c. omega (arith, c.le, c.lt, c.same)), with2 rank s (λ c. omega (arith, c.le, c.lt, c.same)))

-- ---- the curve
tail_room : (z : Sizes) (w : ℚ) (ps : List Piece) (tail : Tail) → Given z w → TailFits ps tail → EndsBy tail w → Whole z.dt (rank_of tail) → TailStands z tail
    → AllByRecursion (SpanStands z) (spans tail ps) → Each (λ p. (int (pos 0) ≤ℚ p.x) × (p.x ≤ℚ w)) ps → TailHasRoom z.dt (grid_of z) ps tail
tail_room z w ps (Periodic rank period rise) G F E on S spans_stand inside =
    let r = E.0 in
    let some = G.some in
    let nonneg = F.nonneg in (
      room_of z w,
      record {
        is = room_is z w G;
        times_is = refl;
        values_is = refl;
        each = each_room z w (Periodic rank period rise) ps G spans_stand inside;
        time = time_room z w rank G on F.nonneg;
        move = record {
          time = S.whole;
          low = le_of_lt F.some;
          height = value_whole z rise S.value;
          within = within_weaken (int (pos z.largest)) (many (room_of z w) 1) rise (largest_many z w) S.value.within;
        };
        ends = with3 rank period w (λ c. omega (arith, c.le, c.lt, c.same));
      },
    )
tail_room z w ps (Affine rank) G F E on S spans_stand inside = (
  room_of z w,
  record {
    is = room_is z w G;
    each = each_room z w (Affine rank) ps G spans_stand inside;
    early = each_map (λ p. (int (pos 0) ≤ℚ p.x) × (p.x ≤ℚ w)) (λ p. p.x ≤ℚ int (pos 3) *ℚ w) (λ p h. far w p.x G.some h.1) ps inside;
  },
)
tail_room z w ps (Infinite rank) G F E on S spans_stand inside = (
  room_of z w,
  record {
    is = room_is z w G;
    each = each_room z w (Infinite rank) ps G spans_stand inside;
    time = time_room z w rank G on F.nonneg;
    early = far w rank G.some E;
  },
)

tail_grids : (z : Sizes) (w : ℚ) (ps : List Piece) (tail : Tail) → Given z w → StartsAtZero ps → TailFits ps tail → Whole z.dt (rank_of tail) → TailStands z tail
    → AllByRecursion (SpanStands z) (spans tail ps) → Each (λ p. (int (pos 0) ≤ℚ p.x) × (p.x ≤ℚ w)) ps → TailOnGrids z.dt (grid_of z) tail (value_at record { pieces = ps; tail = tail })
tail_grids z w ps (Periodic rank period rise) G zero_start F on S spans_stand inside =
    let c : SpecCurve = record { pieces = ps; tail = Periodic rank period rise } in
    let raw = raw_on z.dt z.ds (grid_of z) ps rank period rise (times_slopes z) zero_start F (each_on z w (Periodic rank period rise) ps G spans_stand inside) on S.whole (value_whole z rise S.value) in
    grids_through z.dt (grid_of z) (value_at c) (repeated (read ps) rank period rise) rank period rise (λ t. sym (value_of c ps (Periodic rank period rise) (Periodic rank period rise) t refl refl)) raw
  where
    times_slopes : (z : Sizes) → z.dt * z.ds ∣ grid_of z
    times_slopes z = subst (λ n. n ∣ grid_of z) (swapped z.ds z.dt) (slope_time_divides z)
      where
        swapped : (a b : ℕ) → a * b ≡ b * a
        swapped a b = omega arith
tail_grids z w ps (Affine rank) G zero_start F on S spans_stand inside = tt
tail_grids z w ps (Infinite rank) G zero_start F on S spans_stand inside = tt

given : (c : SpecCurve) → IsRaw c → own_gauge c < 2 ^ 120 → Given (own_sizes c) (own_end c)
given c raw small = record {
  sizes = own_are_sizes c;
  narrow = narrow_limit (own_sizes c) (own_end c) (own_are_sizes c) small;
  some = (ends_by c.pieces c.tail raw.tail).1;
}

inside_own : (c : SpecCurve) → IsRaw c → Each (λ p. (int (pos 0) ≤ℚ p.x) × (p.x ≤ℚ own_end c)) c.pieces
inside_own c raw = nonneg c.pieces (own_end c) (each_nonneg c.pieces (starts_nonneg c.pieces raw.starts)) (starts_below_own_end c raw)

-- the numbers of a curve whose own gauge is below 2 ^ 120 have room
own_room : (c : SpecCurve) → IsRaw c → own_gauge c < 2 ^ 120 → TailHasRoom (own_sizes c).dt (grid_of (own_sizes c)) c.pieces c.tail
own_room c raw small =
    let S = own_stands c raw in
    tail_room (own_sizes c) (own_end c) c.pieces c.tail (given c raw small) raw.tail (ends_by c.pieces c.tail raw.tail).0 S.rank S.tail S.spans (inside_own c raw)

own_grids : (c : SpecCurve) → IsRaw c → own_gauge c < 2 ^ 120 → TailOnGrids (own_sizes c).dt (grid_of (own_sizes c)) c.tail (value_at c)
own_grids c raw small =
    let S = own_stands c raw in
    tail_grids (own_sizes c) (own_end c) c.pieces c.tail (given c raw small) raw.starts raw.tail S.rank S.tail S.spans (inside_own c raw)

-- what the code has found of its numbers
pub record Found (c : SpecCurve) (times values : ℕ) : Type 0 where
  pub some_times : 0 < times
  pub times_fit : times < 2 ^ 127
  pub some_values : 0 < values
  pub values_fit : values < 2 ^ 127
  pub grids : TailOnGrids times values c.tail (value_at c)
  pub room : TailHasRoom times values c.pieces c.tail

found_of : (c : SpecCurve) (times values : ℕ) → IsRaw c → own_gauge c < 2 ^ 120 → times ≡ (own_sizes c).dt → values ≡ grid_of (own_sizes c) → Found c times values
found_of c times values raw small t v =
    let z = own_sizes c in
    let a = own_are_sizes c in
    let n = grids_narrow z (own_end c) (2 ^ 114) a (narrow_limit z (own_end c) a small) in
    let n0 = n.0 in
    let n1 = n.1 in
    let at : Found c z.dt (grid_of z) = record {
      some_times = a.dt;
      times_fit = omega (arith, n0);
      some_values = grid_pos z (own_end c) a;
      values_fit = omega (arith, n1);
      grids = own_grids c raw small;
      room = own_room c raw small;
    } in
    subst (λ x. Found c x values) (sym t) (subst (Found c z.dt) (sym v) at)

pub own_found : (ps seen : List Piece) (tail : Tail) (o : OwnNumbers) → IsRaw record { pieces = ps; tail = tail } → seen ≡ ps
    → AreNumbers (own_end record { pieces = seen; tail = tail }) (own_sizes record { pieces = seen; tail = tail }) o → o.gauge < 2 ^ 120
    → Found record { pieces = ps; tail = tail } o.times o.values
own_found ps seen tail o raw e A small =
    let c : SpecCurve = record { pieces = ps; tail = tail } in
    let B = subst (λ zs. AreNumbers (own_end record { pieces = zs; tail = tail }) (own_sizes record { pieces = zs; tail = tail }) o) e A in
    found_of c o.times o.values raw (subst (λ k. k < 2 ^ 120) B.gauge small) B.times B.values

-- a curve in any form in a call's window has room by the call's sizes, where its first period or its rank ends in it
pub limited_found : (z : Sizes) (end : ℚ) (c : SpecCurve) → AreLimited z end → IsRaw c → Each (λ p. p.x <ℚ end) c.pieces → EndsBy c.tail end → Stands z (curve_numbers end c)
    → Found c z.dt (grid_of z)
limited_found z end c a raw before ends h =
    let narrow = narrow_limit z end a.sizes a.gauge in
    let G : Given z end = record { sizes = a.sizes; narrow = narrow; some = a.some } in
    let S = curve_stands z end c raw before h in
    let inside = nonneg c.pieces end (each_nonneg c.pieces (starts_nonneg c.pieces raw.starts)) before in
    let n = grids_narrow z end (2 ^ 114) a.sizes narrow in
    let n0 = n.0 in
    let n1 = n.1 in
    record {
      some_times = a.sizes.dt;
      times_fit = omega (arith, n0);
      some_values = grid_pos z end a.sizes;
      values_fit = omega (arith, n1);
      grids = tail_grids z end c.pieces c.tail G raw.starts raw.tail S.rank S.tail S.spans inside;
      room = tail_room z end c.pieces c.tail G raw.tail ends S.rank S.tail S.spans inside;
    }
