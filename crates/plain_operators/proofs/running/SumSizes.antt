-- By the sizes of a call: the steps of a scan of finite pieces, whose values are sums, fit, and each piece that comes out has room.
use Rattle.std.specs.Prelude.{◌≡◌, ℕ, Bool, ◌+◌, ◌*◌, ◌≤◌, pos, List, [], ◌∷◌, Option, Some, None, ◌⊎◌}
use Rattle.std.proofs.Common.{arith, sym, ap, ◌∙◌, subst, inl, inr}
use native.Mathlib.Nat.{mul-le-mul_right}
use Rattle.rational.specs.Rational.{ℚ, ◌+ℚ◌, ◌-ℚ◌, ◌*ℚ◌, ◌≤ℚ◌, ◌<ℚ◌, neg_ℚ, int}
use Rattle.rational.specs.Ratio.{SumFits}
use Rattle.rational.specs.Grid.{Whole, Within}
use Rattle.rational.specs.Extended.{Ext}
use Rattle.rational.specs.declared.Extended.TheVariants.{Fin}
use Rattle.rational.proofs.Grid.{whole_weaken, whole_int, whole_add, whole_sub, whole_neg, whole_mul, within_weaken, within_add, within_sub, within_neg, within_mul, within_nonneg}
use Rattle.rational.proofs.Integers.{int_add, int_mul, nat_le, nat_nonneg}
use Rattle.rational.proofs.Laws.{le_refl, le_trans, mul_comm, mul_assoc, mul_le_mul}
use Rattle.rational.proofs.Linear.{with2}
use Rattle.rational.proofs.Sizes.{sum_on_grid}
use Rattle.rational.proofs.ExtendedOrder.{fin_same}
use Rattle.upp_curve.specs.declared.affine_segment.line.Line.{Line}
use Rattle.upp_curve.specs.declared.affine_segment.line.Piece.{Piece}
use Rattle.upp_curve.specs.affine_segment.Values.{line_at, line_value}
use Rattle.upp_normal.specs.Bends.{LineOn, NumbersOn, SlopeTurns, BendAfter, OnlyBend}
use Rattle.min_plus.specs.Functions.{zero_q}
use Rattle.upp_curve.specs.affine_segment.Pieces.{Each, HasStart, start_after}
use Rattle.upp_curve.specs.Readable.{EachFits, LineFitsTo}
use Rattle.upp_curve.specs.affine_segment.Fits.{LineFits, LineFitsAt}
use Rattle.upp_limits.specs.Limits.{Sizes}
use Rattle.upp_limits.specs.Sized.{grid_of, times_largest}
use Rattle.upp_normal.specs.Operand.{AreLimited, answer_room}
use Rattle.upp_normal.specs.Room.{top, LineInRoom, LineHasRoom, PieceHasRoom, TimeHasRoom, ValueHasRoom}
use Rattle.upp_limits.proofs.NarrowSizes.{small_sum, slope_time_divides}
use Rattle.upp_normal.proofs.NormaliseRoom.{line_fits}
use Rattle.upp_normal.proofs.AnswerRoom.{tight, wide_narrow, answer_is_room, AnswerLine, line_in_room, answer_value_room, IsCrossing, crossing_room, room_at_start, more_largest}
use Rattle.plain_operators.specs.running.Scans.{start_or, flat, IsLevel, HasLine, MeetingFits, ScanFits}
use Rattle.plain_operators.specs.running.Made.{IsMeeting, IsMade, TurnsAfter, IsScan}
use Rattle.plain_operators.proofs.running.LevelSizes.{Apart, level_small, less_zero, meeting_crossing, all_low, not_flat, some_none}
use Rattle.upp_normal.proofs.AnswerRoom.{many_more}
use Rattle.plain_operators.specs.running.Lowest.{SumLine, SumPiece}
use Rattle.plain_operators.proofs.running.Makings.{LineIsMade}
use Rattle.upp_normal.proofs.NormaliseGrids.{some_same}
use Rattle.upp_normal.specs.Ahead.{AnswerValue}

-- ---- values

pub sum_weaken : (z : Sizes) (k j : ℕ) (v : ℚ) → k ≤ j → AnswerValue z k v → AnswerValue z j v
sum_weaken z k j v h V = record { whole = V.whole; within = within_weaken (times_largest k z) (times_largest j z) v (more_largest z k j h) V.within }

pub sums_fit : (z : Sizes) (end : ℚ) (k j : ℕ) (v w : ℚ) → AreLimited z end → k + j ≤ 31 → AnswerValue z k v → AnswerValue z j w → SumFits v w × SumFits v (neg_ℚ w)
sums_fit z end k j v w A h V W =
    let N = wide_narrow z end A in (
      small_sum z end k j v w A.sizes N h V.whole W.whole V.within W.within,
      small_sum z end k j v (neg_ℚ w) A.sizes N h V.whole (whole_neg (grid_of z) w W.whole) V.within (within_neg (times_largest j z) w W.within),
    )

-- ---- lines
pub answer_line : (z : Sizes) (k : ℕ) (l : Line) → SumLine z k l → AnswerLine z k l
answer_line z k l L = record { icept = L.icept.whole; within = L.icept.within; slope = L.slope; steep = L.steep }

pub line_room : (z : Sizes) (end : ℚ) (k : ℕ) (l : Line) → AreLimited z end → k ≤ 8 → SumLine z k l → LineInRoom (answer_room z end) 1 l
line_room z end k l A h L = line_in_room z end k l A h (answer_line z k l L)

pub flat_line : (z : Sizes) (k : ℕ) (v : ℚ) → AnswerValue z k v → SumLine z k (flat v)
flat_line z k v V = record {
  icept = V;
  slope = whole_int z.ds (pos 0);
  steep = within_nonneg (int (pos z.steepness)) (int (pos 0)) (le_refl (int (pos 0))) (nat_nonneg z.steepness);
}

-- a time on the grid of times up to twice the window's end
pub record IsNear (z : Sizes) (end x : ℚ) : Type 0 where
  pub whole : Whole z.dt x
  pub low : zero_q ≤ℚ x
  pub near : x ≤ℚ int (pos 2) *ℚ end

pub near_of : (z : Sizes) (end x : ℚ) → Whole z.dt x → zero_q ≤ℚ x → x ≤ℚ end → IsNear z end x
near_of z end x w low early = record { whole = w; low = low; near = with2 x end (λ c. omega (arith, c.le, c.lt, c.same)) }

line_time : (z : Sizes) (end x : ℚ) (l : Line) → AreLimited z end → LineInRoom (answer_room z end) 1 l → IsNear z end x → LineFits x l
line_time z end x l A L N =
    let some = A.some in
    let near = N.near in
    line_fits (answer_room z end) 1 x (Some l) (answer_is_room z end A) (omega arith) L (room_at_start z end x A N.whole N.low) (with2 x end (λ c. omega (arith, c.le, c.lt, c.same)))

pub line_near : (z : Sizes) (end x : ℚ) (k : ℕ) (l : Line) → AreLimited z end → k ≤ 8 → SumLine z k l → IsNear z end x → LineFits x l
line_near z end x k l A h L N = line_time z end x l A (line_room z end k l A h L) N

run_near : (z : Sizes) (end s x : ℚ) → AreLimited z end → Within (int (pos z.steepness)) s → IsNear z end x → Within (times_largest 2 z) (s *ℚ x)
run_near z end s x A h N =
    let S = int (pos z.steepness) in
    let V = int (pos z.largest) in
    let run = S *ℚ end in
    let reach : run ≤ℚ V = A.sizes.reach in
    let far : S *ℚ x ≤ℚ S *ℚ (int (pos 2) *ℚ end) = mul_le_mul S (nat_nonneg z.steepness) N.near in
    let same : S *ℚ (int (pos 2) *ℚ end) ≡ int (pos 2) *ℚ run = sym (mul_assoc S (int (pos 2)) end) ∙ ap (λ y. y *ℚ end) (mul_comm S (int (pos 2))) ∙ mul_assoc (int (pos 2)) S end in
    let twice : int (pos 2) *ℚ run ≤ℚ int (pos 2) *ℚ V = with2 run V (λ c. omega (arith, c.le, c.lt, c.same)) in
    within_weaken (S *ℚ x) (times_largest 2 z) (s *ℚ x) (le_trans far (subst (λ y. y ≤ℚ int (pos 2) *ℚ V) (sym same) twice)) (within_mul S x s x h (within_nonneg x x N.low (le_refl x)))

pub value_near : (z : Sizes) (end x : ℚ) (k : ℕ) (l : Line) → AreLimited z end → SumLine z k l → IsNear z end x → AnswerValue z (k + 2) (line_at l x)
value_near z end x k l A L N = record {
  whole = whole_add (grid_of z) l.icept (l.slope *ℚ x) L.icept.whole (whole_weaken (z.ds * z.dt) (grid_of z) (l.slope *ℚ x) (slope_time_divides z) (whole_mul z.ds z.dt l.slope x L.slope N.whole));
  within = subst (λ m. Within m (line_at l x)) (many_more z k 2) (within_add (times_largest k z) (times_largest 2 z) l.icept (l.slope *ℚ x) L.icept.within (run_near z end l.slope x A L.steep N));
}

-- ---- a line against a level
level_apart : (z : Sizes) (v : ℚ) (l : Line) → SumLine z 6 l → AnswerValue z 8 v → Apart z (v -ℚ l.icept) (l.slope -ℚ int (pos 0))
level_apart z v l L V = record {
  up_whole = whole_sub (grid_of z) v l.icept V.whole L.icept.whole;
  up_within = subst (λ m. Within m (v -ℚ l.icept)) (many_more z 8 6) (within_sub (times_largest 8 z) (times_largest 6 z) v l.icept V.within L.icept.within);
  down_whole = subst (Whole z.ds) (sym (less_zero l.slope)) L.slope;
  down_within = subst (Within (int (pos z.steepness))) (sym (less_zero l.slope)) L.steep;
}

slope_fits : (z : Sizes) (end s : ℚ) → AreLimited z end → Whole z.ds s → Within (int (pos z.steepness)) s → SumFits s (neg_ℚ (int (pos 0)))
slope_fits z end s A w i =
    let S = z.steepness in
    let t = tight z end A in
    let p = t.steep in
    let some = A.sizes.steepness in
    let n = (wide_narrow z end A).slopes in
    let zero = int (pos 0) in
    let e : (int (pos S) +ℚ int (pos S)) *ℚ int (pos z.ds) ≡ int (pos ((S + S) * z.ds)) = ap (λ y. y *ℚ int (pos z.ds)) (int_add (pos S) (pos S)) ∙ int_mul (pos (S + S)) (pos z.ds) in
    let one : 1 * z.ds ≤ S * z.ds = mul-le z.ds S some in
    sum_on_grid z.ds (int (pos S)) (int (pos S)) s (neg_ℚ zero) A.sizes.ds (omega (arith, n, one)) (subst (λ y. y ≤ℚ int (pos top)) (sym e) (nat_le ((S + S) * z.ds) top (omega (arith, n)))) w
    (whole_neg z.ds zero (whole_int z.ds (pos 0))) i (within_neg (int (pos S)) zero (within_nonneg (int (pos S)) zero (le_refl zero) (nat_nonneg S)))
  where
    mul-le : (d S : ℕ) → 1 ≤ S → 1 * d ≤ S * d
    mul-le d S h = mul-le-mul_right d h

-- where a line that rises comes to a level no step is too wide
pub level_fits : (z : Sizes) (end v : ℚ) (l : Line) → AreLimited z end → SumLine z 6 l → AnswerValue z 8 v → int (pos 0) <ℚ l.slope → MeetingFits v l
level_fits z end v l A L V rises w (inl a) = a.1 (sums_fit z end 8 6 v l.icept A (omega arith) V L.icept).1
level_fits z end v l A L V rises w (inr (inl b)) = b.1 (slope_fits z end l.slope A L.slope L.steep)
level_fits z end v l A L V rises w (inr (inr c)) = c.1 (level_small z end (v -ℚ l.icept) (l.slope -ℚ int (pos 0)) A (not_flat l.slope rises) (level_apart z v l L V))

pub level_crossing : (z : Sizes) (end v : ℚ) (l : Line) (t : ℚ) → AreLimited z end → SumLine z 6 l → AnswerValue z 8 v → IsMeeting v l t → IsCrossing z t
level_crossing z end v l t A L V m = meeting_crossing z end v l t A (level_apart z v l L V) m

-- ---- levels and lines of the pieces
abbrev pub EachSum : Sizes → ℚ → List Piece → Type 0
EachSum z end ps = Each (SumPiece z end) ps

value_is : (v w : ℚ) (z : Sizes) (k : ℕ) (x : Ext) → x ≡ Fin w → x ≡ Fin v → AnswerValue z k w → AnswerValue z k v
value_is v w z k x e h V = subst (λ y. AnswerValue z k y) (fin_same (sym e ∙ h)) V

piece_near : (z : Sizes) (end : ℚ) (p : Piece) → SumPiece z end p → AreLimited z end → IsNear z end p.x
piece_near z end p P A = let some = A.some in let low = P.nonneg in let early = P.early in near_of z end p.x P.start P.nonneg P.early

next_near : (z : Sizes) (end far : ℚ) (ps : List Piece) → AreLimited z end → IsNear z end far → EachSum z end ps → IsNear z end (start_or far ps)
next_near z end far [] A F h = F
next_near z end far (q ∷ qs) A F h = piece_near z end q h.0 A

on_line : (z : Sizes) (end x v : ℚ) (p : Piece) → AreLimited z end → SumPiece z end p → IsNear z end x → line_value p.line x ≡ Fin v → AnswerValue z 8 v
on_line z end x v p A P N e = value_is v (line_at P.on x) z 8 (line_value p.line x) (ap (λ l. line_value l x) P.line) e (value_near z end x 6 P.on A P.line_stands N)

pub level_value : (z : Sizes) (end far : ℚ) (ps : List Piece) (v : ℚ) → AreLimited z end → IsNear z end far → EachSum z end ps → IsLevel far ps v → AnswerValue z 8 v
level_value z end far [] v A F h k = absurd k
level_value z end far (p ∷ ps) v A F h (inl e) = let P = h.0 in sum_weaken z 6 8 v (omega arith) (value_is v P.value z 6 p.at P.at e P.value_stands)
level_value z end far (p ∷ ps) v A F h (inr (inl e)) = on_line z end p.x v p A h.0 (piece_near z end p h.0 A) e
level_value z end far (p ∷ ps) v A F h (inr (inr (inl e))) = on_line z end (start_or far ps) v p A h.0 (next_near z end far ps A F h.1) e
level_value z end far (p ∷ ps) v A F h (inr (inr (inr k))) = level_value z end far ps v A F h.1 k

pub line_sum : (z : Sizes) (end : ℚ) (ps : List Piece) (l : Line) → EachSum z end ps → HasLine l ps → SumLine z 6 l
line_sum z end [] l h k = absurd k
line_sum z end (p ∷ ps) l h (inl e) = subst (SumLine z 6) (some_same _ _ (sym h.0.line ∙ e)) h.0.line_stands
line_sum z end (p ∷ ps) l h (inr k) = line_sum z end ps l h.1 k

pub start_sum : (z : Sizes) (end : ℚ) (ps : List Piece) (x : ℚ) → EachSum z end ps → HasStart x ps → Whole z.dt x
start_sum z end [] x h k = absurd k
start_sum z end (p ∷ ps) x h (inl e) = subst (Whole z.dt) e h.0.start
start_sum z end (p ∷ ps) x h (inr k) = start_sum z end ps x h.1 k

-- ---- the steps of a scan
fits_at : (z : Sizes) (end x : ℚ) (p : Piece) → AreLimited z end → SumPiece z end p → IsNear z end x → LineFitsAt x p.line
fits_at z end x p A P N = subst (LineFitsAt x) (sym P.line) (line_near z end x 6 P.on A (omega arith) P.line_stands N)

ends_fit : (z : Sizes) (end far : ℚ) (p : Piece) (ps : List Piece) → AreLimited z end → IsNear z end far → SumPiece z end p → EachSum z end ps → LineFitsTo (start_after ps (Some far)) p.line
ends_fit z end far p [] A F P h = fits_at z end far p A P F
ends_fit z end far p (q ∷ qs) A F P h = fits_at z end q.x p A P (piece_near z end q h.0 A)

each_fits : (z : Sizes) (end far : ℚ) (ps : List Piece) → AreLimited z end → IsNear z end far → EachSum z end ps → EachFits (Some far) ps
each_fits z end far [] A F h = tt
each_fits z end far (p ∷ ps) A F h = (fits_at z end p.x p A h.0 (piece_near z end p h.0 A), ends_fit z end far p ps A F h.0 h.1, each_fits z end far ps A F h.1)

pub scan_fits : (z : Sizes) (end far : ℚ) (ps : List Piece) → AreLimited z end → IsNear z end far → EachSum z end ps → ScanFits far ps
scan_fits z end far ps A F O = record {
  lines = each_fits z end far ps A F O;
  meetings = λ l v has level rises. level_fits z end v l A (line_sum z end ps l O has) (level_value z end far ps v A F O level) rises;
}

-- ---- room for what comes out
-- the line of a piece that comes out
pub made_sum : (z : Sizes) (end far : ℚ) (ps : List Piece) (line : Option Line) → AreLimited z end → IsNear z end far → EachSum z end ps → LineIsMade far ps line
    → (l : Line) × (line ≡ Some l) × SumLine z 8 l
made_sum z end far ps line A F O (inl (l, e, k)) = let L = line_sum z end ps l O k in (l, e, record { icept = sum_weaken z 6 8 l.icept (omega arith) L.icept; slope = L.slope; steep = L.steep })
made_sum z end far ps line A F O (inr (v, e, k)) = (flat v, e, flat_line z 8 v (level_value z end far ps v A F O k))

made_line : (z : Sizes) (end far : ℚ) (ps : List Piece) (line : Option Line) → AreLimited z end → IsNear z end far → EachSum z end ps → LineIsMade far ps line → LineHasRoom (answer_room z end) 1 line
made_line z end far ps line A F O h = let (l, e, L) = made_sum z end far ps line A F O h in subst (LineHasRoom (answer_room z end) 1) (sym e) (line_room z end 8 l A (omega arith) L)

made_time : (z : Sizes) (end far : ℚ) (ps : List Piece) (x : ℚ) → AreLimited z end → IsNear z end far → EachSum z end ps → int (pos 0) ≤ℚ x
    → (HasStart x ps ⊎ ((v : ℚ) × (l : Line) × IsLevel far ps v × HasLine l ps × IsMeeting v l x)) → TimeHasRoom (answer_room z end) x
made_time z end far ps x A F O low (inl h) = room_at_start z end x A (start_sum z end ps x O h) low
made_time z end far ps x A F O low (inr (v, l, k, has, m)) =
    crossing_room z end x A (level_crossing z end v l x A (line_sum z end ps l O has) (level_value z end far ps v A F O k) m) low

made_room : (z : Sizes) (end far : ℚ) (ps : List Piece) (q : Piece) → AreLimited z end → IsNear z end far → EachSum z end ps → int (pos 0) ≤ℚ q.x → IsMade far ps q
    → PieceHasRoom (answer_room z end) 1 q
made_room z end far ps q A F O low m =
    let T = made_time z end far ps q.x A F O low m.start in
    let (v, e, k) = m.at in
    let V = level_value z end far ps v A F O k in
    record {
      time = T;
      at = subst (ValueHasRoom (answer_room z end) 1 T.grid) (sym e) (answer_value_room z end 8 T.grid v (omega arith) T.base record { whole = V.whole; within = V.within });
      line = made_line z end far ps q.line A F O m.line;
    }

each_room : (z : Sizes) (end far : ℚ) (ps qs : List Piece) → AreLimited z end → IsNear z end far → EachSum z end ps → Each (λ q. int (pos 0) ≤ℚ q.x) qs → Each (IsMade far ps) qs
    → Each (PieceHasRoom (answer_room z end) 1) qs
each_room z end far ps [] A F O low m = tt
each_room z end far ps (q ∷ qs) A F O low m = (made_room z end far ps q A F O low.0 m.0, each_room z end far ps qs A F O low.1 m.1)

pub scan_room : (rises : Bool) (z : Sizes) (end far : ℚ) (ps qs : List Piece) → AreLimited z end → IsNear z end far → EachSum z end ps → IsScan rises ps far qs
    → Each (PieceHasRoom (answer_room z end) 1) qs
scan_room rises z end far ps qs A F O s = each_room z end far ps qs A F O (all_low qs s.starts) s.made

-- the lines that come out are readable at each time on the grid
pub scan_lines : (z : Sizes) (end far x : ℚ) (ps qs : List Piece) → AreLimited z end → IsNear z end far → EachSum z end ps → IsNear z end x → Each (IsMade far ps) qs → Each (λ q. LineFitsAt x q.line) qs
scan_lines z end far x ps [] A F O N m = tt
scan_lines z end far x ps (q ∷ qs) A F O N m =
    let (l, e, L) = made_sum z end far ps q.line A F O m.0.line in
    (subst (LineFitsAt x) (sym e) (line_near z end x 8 l A (omega arith) L N), scan_lines z end far x ps qs A F O N m.1)

-- ---- each start is on the grid of times, or all turns go one way

numbers_on : (z : Sizes) (end far : ℚ) (ps : List Piece) (q : Piece) → AreLimited z end → IsNear z end far → EachSum z end ps → IsMade far ps q → NumbersOn z.ds (grid_of z) q
numbers_on z end far ps q A F O m =
    let (l, e, L) = made_sum z end far ps q.line A F O m.line in
    record { line = subst (LineOn z.ds (grid_of z)) (sym e) (L.icept.whole, L.slope); at = λ n. absurd (some_none (sym e ∙ n)) }

bend_after : (rises : Bool) (z : Sizes) (end far : ℚ) (ps : List Piece) (p : Piece) (qs : List Piece) → AreLimited z end → IsNear z end far → EachSum z end ps → Each (IsMade far ps) qs
    → TurnsAfter rises ps p.line qs
    → BendAfter rises z.dt z.ds (grid_of z) p qs
bend_after rises z end far ps p [] A F O m t = tt
bend_after rises z end far ps p (q ∷ qs) A F O m t = (turn t.0, numbers_on z end far ps q A F O m.0, bend_after rises z end far ps q qs A F O m.1 t.1)
  where
    turn : (HasStart q.x ps ⊎ SlopeTurns rises p.line q.line) → Whole z.dt q.x ⊎ SlopeTurns rises p.line q.line
    turn (inl h) = inl (start_sum z end ps q.x O h)
    turn (inr h) = inr h

pub only_bend : (rises : Bool) (z : Sizes) (end far : ℚ) (ps qs : List Piece) → AreLimited z end → IsNear z end far → EachSum z end ps → Each (IsMade far ps) qs → TurnsAfter rises ps None qs
    → OnlyBend rises z.dt z.ds (grid_of z) qs
only_bend rises z end far ps [] A F O m t = tt
only_bend rises z end far ps (q ∷ qs) A F O m t = (numbers_on z end far ps q A F O m.0, bend_after rises z end far ps q qs A F O m.1 t.1)
