-- By the sizes of a call: the steps of a scan of an operand's pieces fit, and each piece that comes out has room.
use Rattle.std.specs.Prelude.{◌≡◌, ◌≢◌, Bool, ◌*◌, pos, List, [], ◌∷◌, Option, Some, None, ◌⊎◌}
use Rattle.std.proofs.Common.{arith, sym, ap, ◌∙◌, subst, inl, inr}
use native.Mathlib.Nat.{dvd-mul_left}
use Rattle.rational.specs.Rational.{ℚ, ◌-ℚ◌, ◌*ℚ◌, ◌/ℚ◌, ◌≤ℚ◌, ◌<ℚ◌, int}
use Rattle.rational.specs.Ratio.{IsSmall}
use Rattle.rational.specs.Grid.{Whole, Within}
use Rattle.rational.proofs.Grid.{whole_weaken, whole_int, whole_sub, within_weaken, within_sub, within_nonneg}
use Rattle.rational.proofs.Integers.{int_mul, nat_le, nat_nonneg}
use Rattle.rational.proofs.Laws.{le_refl, le_of_lt, lt_irrefl, mul_comm}
use Rattle.rational.proofs.Linear.{with1, with2, with3}
use Rattle.rational.proofs.Sizes.{quotient_on_grid}
use Rattle.upp_curve.specs.declared.affine_segment.line.Line.{Line}
use Rattle.upp_curve.specs.declared.affine_segment.line.Piece.{Piece}
use Rattle.upp_curve.specs.affine_segment.Values.{line_at, line_value}
use Rattle.upp_normal.specs.Bends.{LineOn, NumbersOn, SlopeTurns, BendAfter, OnlyBend}
use Rattle.upp_curve.specs.affine_segment.Pieces.{Each, HasStart, StartsAtZero, RisesFrom, start_after}
use Rattle.upp_curve.specs.Readable.{EachFits, LineFitsTo}
use Rattle.upp_limits.specs.Limits.{Sizes}
use Rattle.upp_limits.specs.Sized.{grid_of, times_largest, IsSlope, AreSizes}
use Rattle.upp_normal.specs.Operand.{AreLimited, OperandLine, OperandLineAt, OperandPiece, OperandPieces, answer_room}
use Rattle.upp_normal.specs.Room.{top, LineHasRoom, PieceHasRoom, TimeHasRoom}
use Rattle.upp_limits.proofs.NarrowSizes.{grid_pos}
use Rattle.upp_normal.proofs.AnswerRoom.{tight, AnswerLine, line_in_room, operand_line_room, operand_line_fits, stands_operand_value, operand_line_value, values_fit, operand_value_room, operand_lines_fit, halves_apart, IsCrossing, crossing_from, crossing_room, room_at_start, many_more, more_largest}
use Rattle.plain_operators.specs.running.Scans.{start_or, flat, IsLevel, HasLine, MeetingFits, ScanFits}
use Rattle.plain_operators.specs.running.Made.{IsMeeting, IsMade, TurnsAfter, IsScan}
use Rattle.upp_normal.specs.Ahead.{GridValue, IsGridValue}
use Rattle.upp_normal.proofs.StretchSizes.{grid_value}

-- ---- an operand's line against a level
zero_slope : (z : Sizes) (end : ℚ) → AreSizes z end → IsSlope z (int (pos 0))
zero_slope z end S = record {
  whole = whole_int z.ds (pos 0);
  within = subst (Within (int (pos z.steepness))) twice (within_nonneg (int (pos z.steepness)) (int (pos 0)) (le_refl (int (pos 0))) (nat_nonneg z.steepness));
}
  where
    twice : int (pos 0) ≡ int (pos 2) *ℚ int (pos 0)
    twice = sym (int_mul (pos 2) (pos 0))

zero_line : (z : Sizes) (end : ℚ) → AreSizes z end → OperandLine z (flat (int (pos 0)))
zero_line z end S = record {
  slope = zero_slope z end S;
  icept = whole_int (grid_of z) (pos 0);
  within = within_nonneg (times_largest 2 z) (int (pos 0)) (le_refl (int (pos 0)))
      (subst (λ y. int (pos 0) ≤ℚ y) (sym (int_mul (pos 2) (pos z.largest))) (nat_nonneg (2 * z.largest)));
}

icept_value : (z : Sizes) (l : Line) → OperandLine z l → IsGridValue z l.icept
icept_value z l L = record { whole = L.icept; within = within_weaken (times_largest 2 z) (times_largest 3 z) l.icept (more_largest z 2 3 (omega arith)) L.within }

-- the level less the line's value at 0
pub record Apart (z : Sizes) (up down : ℚ) : Type 0 where
  pub up_whole : Whole (grid_of z) up
  pub up_within : Within (times_largest 14 z) up
  pub down_whole : Whole z.ds down
  pub down_within : Within (int (pos z.steepness)) down

level_apart : (z : Sizes) (end v : ℚ) (l : Line) → AreLimited z end → OperandLine z l → IsGridValue z v → Apart z (v -ℚ l.icept) (l.slope -ℚ int (pos 0))
level_apart z end v l A L V =
    let zero = zero_slope z end A.sizes in
    record {
      up_whole = whole_sub (grid_of z) v l.icept V.whole L.icept;
      up_within = within_weaken (times_largest 5 z) (times_largest 14 z) (v -ℚ l.icept) (more_largest z 5 14 (omega arith))
          (subst (λ m. Within m (v -ℚ l.icept)) (many_more z 3 2) (within_sub (times_largest 3 z) (times_largest 2 z) v l.icept V.within L.within));
      down_whole = whole_sub z.ds l.slope (int (pos 0)) L.slope.whole zero.whole;
      down_within = halves_apart (int (pos z.steepness)) l.slope (int (pos 0)) L.slope.within zero.within;
    }

pub level_small : (z : Sizes) (end up down : ℚ) → AreLimited z end → down ≢ int (pos 0) → Apart z up down → IsSmall (up /ℚ down)
level_small z end up down A h a =
    let t = tight z end A in
    let s = t.sums in
    let p = t.steep in
    let d = grid_of z in
    let wide : times_largest 14 z *ℚ int (pos d) ≤ℚ int (pos top) =
    subst (λ y. y ≤ℚ int (pos top)) (sym (ap (λ y. y *ℚ int (pos d)) (int_mul (pos 14) (pos z.largest)) ∙ int_mul (pos (14 * z.largest)) (pos d)))
    (nat_le (14 * z.largest * d) top (omega (arith, s))) in
    let steep : int (pos z.steepness) *ℚ int (pos d) ≤ℚ int (pos top) = subst (λ y. y ≤ℚ int (pos top)) (sym (int_mul (pos z.steepness) (pos d)))
    (nat_le (z.steepness * d) top (omega (arith, p))) in
    quotient_on_grid d (times_largest 14 z) (int (pos z.steepness)) up down (grid_pos z end A.sizes) h wide steep a.up_whole
    (whole_weaken z.ds d down (dvd-mul_left z.ds (z.dv * z.dt)) a.down_whole)
    a.up_within a.down_within

pub less_zero : (s : ℚ) → s -ℚ int (pos 0) ≡ s
less_zero s = with1 s (λ c. omega (arith, c.le, c.lt, c.same))

pub not_flat : (s : ℚ) → int (pos 0) <ℚ s → s -ℚ int (pos 0) ≢ int (pos 0)
not_flat s h e = lt_irrefl (int (pos 0)) (subst (λ x. int (pos 0) <ℚ x) (with1 s (λ c. omega (arith, c.le, c.lt, c.same))) h)

-- where a line that rises comes to a level no step is too wide
pub level_fits : (z : Sizes) (end v : ℚ) (l : Line) → AreLimited z end → OperandLine z l → IsGridValue z v → int (pos 0) <ℚ l.slope → MeetingFits v l
level_fits z end v l A L V rises w (inl a) = a.1 (values_fit z end v l.icept A V (icept_value z l L)).1
level_fits z end v l A L V rises w (inr (inl b)) = b.1 (operand_lines_fit z end l (flat (int (pos 0))) A L (zero_line z end A.sizes)).closing
level_fits z end v l A L V rises w (inr (inr c)) = c.1 (level_small z end (v -ℚ l.icept) (l.slope -ℚ int (pos 0)) A (not_flat l.slope rises) (level_apart z end v l A L V))

-- a line that meets a level does so at a crossing
pub meeting_crossing : (z : Sizes) (end v : ℚ) (l : Line) (t : ℚ) → AreLimited z end → Apart z (v -ℚ l.icept) (l.slope -ℚ int (pos 0)) → IsMeeting v l t → IsCrossing z t
meeting_crossing z end v l t A a m =
    crossing_from z end (v -ℚ l.icept) (l.slope -ℚ int (pos 0)) t A a.up_whole a.down_whole a.down_within (not_flat l.slope m.rises) (reached m.is)
  where
    reached : line_at l t ≡ v → t *ℚ (l.slope -ℚ int (pos 0)) ≡ v -ℚ l.icept
    reached e =
        let s = l.slope in
        let i = l.icept in
        let run : s *ℚ t ≡ v -ℚ i = let p = s *ℚ t in with3 p i v (λ c. omega (arith, c.le, c.lt, c.same)) in
        ap (λ x. t *ℚ x) (less_zero s) ∙ mul_comm t s ∙ run

pub level_crossing : (z : Sizes) (end v : ℚ) (l : Line) (t : ℚ) → AreLimited z end → OperandLine z l → IsGridValue z v → IsMeeting v l t → IsCrossing z t
level_crossing z end v l t A L V m = meeting_crossing z end v l t A (level_apart z end v l A L V) m

pub flat_line : (z : Sizes) (end v : ℚ) → AreLimited z end → IsGridValue z v → AnswerLine z 3 (flat v)
flat_line z end v A V = record {
  icept = V.whole;
  within = V.within;
  slope = whole_int z.ds (pos 0);
  steep = within_nonneg (int (pos z.steepness)) (int (pos 0)) (le_refl (int (pos 0))) (nat_nonneg z.steepness);
}

-- ---- levels and lines of an operand's pieces
abbrev pub EachOperand : Sizes → ℚ → List Piece → Type 0
EachOperand z end ps = Each (OperandPiece z end) ps

next_stands : (z : Sizes) (end : ℚ) (ps : List Piece) → AreLimited z end → EachOperand z end ps
    → Whole z.dt (start_or end ps) × (int (pos 0) ≤ℚ start_or end ps) × (start_or end ps ≤ℚ end)
next_stands z end [] A h = (A.sizes.window, A.some, le_refl end)
next_stands z end (q ∷ qs) A h = let Q = h.0 in (Q.start, Q.nonneg, le_of_lt Q.before)

pub level_value : (z : Sizes) (end : ℚ) (ps : List Piece) (v : ℚ) → AreLimited z end → EachOperand z end ps → IsLevel end ps v → IsGridValue z v
level_value z end [] v A h k = absurd k
level_value z end (p ∷ ps) v A h (inl e) = grid_value z p.at v e (stands_operand_value z p.at h.0.at)
level_value z end (p ∷ ps) v A h (inr (inl e)) =
    let P = h.0 in grid_value z (line_value p.line p.x) v e (operand_line_value z end p.x p.line A P.line P.start P.nonneg (le_of_lt P.before))
level_value z end (p ∷ ps) v A h (inr (inr (inl e))) =
    let P = h.0 in
    let (on, low, early) = next_stands z end ps A h.1 in
    grid_value z (line_value p.line (start_or end ps)) v e (operand_line_value z end (start_or end ps) p.line A P.line on low early)
level_value z end (p ∷ ps) v A h (inr (inr (inr k))) = level_value z end ps v A h.1 k

pub line_operand : (z : Sizes) (end : ℚ) (ps : List Piece) (l : Line) → EachOperand z end ps → HasLine l ps → OperandLine z l
line_operand z end [] l h k = absurd k
line_operand z end (p ∷ ps) l h (inl e) = subst (OperandLineAt z) e h.0.line
line_operand z end (p ∷ ps) l h (inr k) = line_operand z end ps l h.1 k

pub start_operand : (z : Sizes) (end : ℚ) (ps : List Piece) (x : ℚ) → EachOperand z end ps → HasStart x ps → Whole z.dt x
start_operand z end [] x h k = absurd k
start_operand z end (p ∷ ps) x h (inl e) = subst (Whole z.dt) e h.0.start
start_operand z end (p ∷ ps) x h (inr k) = start_operand z end ps x h.1 k

-- ---- the steps of a scan
ends_fit : (z : Sizes) (end : ℚ) (p : Piece) (ps : List Piece) → AreLimited z end → OperandPiece z end p → EachOperand z end ps → LineFitsTo (start_after ps (Some end)) p.line
ends_fit z end p [] A P h = operand_line_fits z end end p.line A P.line A.sizes.window A.some (le_refl end)
ends_fit z end p (q ∷ qs) A P h = let Q = h.0 in operand_line_fits z end q.x p.line A P.line Q.start Q.nonneg (le_of_lt Q.before)

each_fits : (z : Sizes) (end : ℚ) (ps : List Piece) → AreLimited z end → EachOperand z end ps → EachFits (Some end) ps
each_fits z end [] A h = tt
each_fits z end (p ∷ ps) A h =
    let P = h.0 in (operand_line_fits z end p.x p.line A P.line P.start P.nonneg (le_of_lt P.before), ends_fit z end p ps A P h.1, each_fits z end ps A h.1)

pub scan_fits : (z : Sizes) (end : ℚ) (ps : List Piece) → AreLimited z end → OperandPieces z end ps → ScanFits end ps
scan_fits z end ps A O = record {
  lines = each_fits z end ps A O.each;
  meetings = λ l v has level rises. level_fits z end v l A (line_operand z end ps l O.each has) (level_value z end ps v A O.each level) rises;
}

-- ---- room for what comes out
made_line : (z : Sizes) (end : ℚ) (ps : List Piece) (line : Option Line) → AreLimited z end → EachOperand z end ps
    → (((l : Line) × (line ≡ Some l) × HasLine l ps) ⊎ ((v : ℚ) × (line ≡ Some (flat v)) × IsLevel end ps v)) → LineHasRoom (answer_room z end) 1 line
made_line z end ps line A O (inl (l, e, k)) = subst (LineHasRoom (answer_room z end) 1) (sym e) (operand_line_room z end (Some l) A (line_operand z end ps l O k))
made_line z end ps line A O (inr (v, e, k)) =
    subst (LineHasRoom (answer_room z end) 1) (sym e) (line_in_room z end 3 (flat v) A (omega arith) (flat_line z end v A (level_value z end ps v A O k)))

made_time : (z : Sizes) (end : ℚ) (ps : List Piece) (x : ℚ) → AreLimited z end → EachOperand z end ps → int (pos 0) ≤ℚ x
    → (HasStart x ps ⊎ ((v : ℚ) × (l : Line) × IsLevel end ps v × HasLine l ps × IsMeeting v l x)) → TimeHasRoom (answer_room z end) x
made_time z end ps x A O low (inl h) = room_at_start z end x A (start_operand z end ps x O h) low
made_time z end ps x A O low (inr (v, l, k, has, m)) =
    crossing_room z end x A (level_crossing z end v l x A (line_operand z end ps l O has) (level_value z end ps v A O k) m) low

pub made_room : (z : Sizes) (end : ℚ) (ps : List Piece) (q : Piece) → AreLimited z end → EachOperand z end ps → int (pos 0) ≤ℚ q.x → IsMade end ps q
    → PieceHasRoom (answer_room z end) 1 q
made_room z end ps q A O low m =
    let T = made_time z end ps q.x A O low m.start in
    let (v, e, k) = m.at in
    record {
      time = T;
      at = operand_value_room z end T.grid q.at T.base (subst (GridValue z) (sym e) (level_value z end ps v A O k));
      line = made_line z end ps q.line A O m.line;
    }

pub starts_low : (x : ℚ) (qs : List Piece) → int (pos 0) ≤ℚ x → RisesFrom x qs → Each (λ q. int (pos 0) ≤ℚ q.x) qs
starts_low x [] h r = tt
starts_low x (q ∷ qs) h r =
    let y = q.x in
    let l = r.0 in
    let low : int (pos 0) ≤ℚ y = with2 x y (λ c. omega (arith, c.le, c.lt, c.same)) in
    (low, starts_low y qs low r.1)

pub all_low : (qs : List Piece) → StartsAtZero qs → Each (λ q. int (pos 0) ≤ℚ q.x) qs
all_low [] h = absurd h
all_low (q ∷ qs) h =
    let low : int (pos 0) ≤ℚ q.x = subst (λ x. int (pos 0) ≤ℚ x) (sym h.0) (le_refl (int (pos 0))) in (low, starts_low q.x qs low h.1)

each_room : (z : Sizes) (end : ℚ) (ps qs : List Piece) → AreLimited z end → EachOperand z end ps → Each (λ q. int (pos 0) ≤ℚ q.x) qs → Each (IsMade end ps) qs
    → Each (PieceHasRoom (answer_room z end) 1) qs
each_room z end ps [] A O low m = tt
each_room z end ps (q ∷ qs) A O low m = (made_room z end ps q A O low.0 m.0, each_room z end ps qs A O low.1 m.1)

pub scan_room : (rises : Bool) (z : Sizes) (end : ℚ) (ps qs : List Piece) → AreLimited z end → OperandPieces z end ps → IsScan rises ps end qs
    → Each (PieceHasRoom (answer_room z end) 1) qs
scan_room rises z end ps qs A O s = each_room z end ps qs A O.each (all_low qs s.starts) s.made

pub some_none : {l : Line} → Some l ≡ None → ⊥
some_none e = cc

-- ---- each start is on the grid of times, or all turns go one way
made_on : (z : Sizes) (end : ℚ) (ps : List Piece) (line : Option Line) → AreLimited z end → EachOperand z end ps
    → (((l : Line) × (line ≡ Some l) × HasLine l ps) ⊎ ((v : ℚ) × (line ≡ Some (flat v)) × IsLevel end ps v)) → LineOn z.ds (grid_of z) line
made_on z end ps line A O (inl (l, e, k)) = let L = line_operand z end ps l O k in subst (LineOn z.ds (grid_of z)) (sym e) (L.icept, L.slope.whole)
made_on z end ps line A O (inr (v, e, k)) = subst (LineOn z.ds (grid_of z)) (sym e) ((level_value z end ps v A O k).whole, whole_int z.ds (pos 0))

some_line : (end : ℚ) (ps : List Piece) (line : Option Line) → (((l : Line) × (line ≡ Some l) × HasLine l ps) ⊎ ((v : ℚ) × (line ≡ Some (flat v)) × IsLevel end ps v))
    → line ≡ None → ⊥
some_line end ps line (inl (l, e, k)) n = some_none (sym e ∙ n)
some_line end ps line (inr (v, e, k)) n = some_none (sym e ∙ n)

numbers_on : (z : Sizes) (end : ℚ) (ps : List Piece) (q : Piece) → AreLimited z end → EachOperand z end ps → IsMade end ps q → NumbersOn z.ds (grid_of z) q
numbers_on z end ps q A O m = record { line = made_on z end ps q.line A O m.line; at = λ n. absurd (some_line end ps q.line m.line n) }

bend_after : (rises : Bool) (z : Sizes) (end : ℚ) (ps : List Piece) (p : Piece) (qs : List Piece) → AreLimited z end → EachOperand z end ps → Each (IsMade end ps) qs
    → TurnsAfter rises ps p.line qs
    → BendAfter rises z.dt z.ds (grid_of z) p qs
bend_after rises z end ps p [] A O m t = tt
bend_after rises z end ps p (q ∷ qs) A O m t = (turn t.0, numbers_on z end ps q A O m.0, bend_after rises z end ps q qs A O m.1 t.1)
  where
    turn : (HasStart q.x ps ⊎ SlopeTurns rises p.line q.line) → Whole z.dt q.x ⊎ SlopeTurns rises p.line q.line
    turn (inl h) = inl (start_operand z end ps q.x O h)
    turn (inr h) = inr h

pub only_bend : (rises : Bool) (z : Sizes) (end : ℚ) (ps qs : List Piece) → AreLimited z end → EachOperand z end ps → Each (IsMade end ps) qs → TurnsAfter rises ps None qs
    → OnlyBend rises z.dt z.ds (grid_of z) qs
only_bend rises z end ps [] A O m t = tt
only_bend rises z end ps (q ∷ qs) A O m t = (numbers_on z end ps q A O m.0, bend_after rises z end ps q qs A O m.1 t.1)
