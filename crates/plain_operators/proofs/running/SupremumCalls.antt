-- The pieces of a finite curve up to the end of its first period, by the sizes of a call: how they are read, and that the steps over them fit.
use Rattle.std.specs.Prelude.{◌≡◌, ℕ, ◌*◌, ◌≤◌, pos, List, [], ◌∷◌, Option, Some, None}
use Rattle.std.proofs.Common.{arith, sym, ap, ◌∙◌, refl, subst, inl, inr}
use Rattle.std.specs.List.{AllByRecursion}
use native.Mathlib.Nat.{mul-le-mul_right}
use Rattle.rational.specs.Rational.{ℚ, ◌+ℚ◌, ◌-ℚ◌, ◌*ℚ◌, ◌≤ℚ◌, ◌<ℚ◌, int}
use Rattle.rational.specs.Grid.{Whole, Within}
use Rattle.rational.specs.Extended.{Ext, ◌≤ₑ◌}
use Rattle.rational.specs.declared.Extended.TheVariants.{Fin}
use Rattle.rational.proofs.Grid.{whole_int, whole_sub, within_sub, within_nonneg, whole_add}
use Rattle.rational.proofs.Integers.{int_mul, nat_le, nat_nonneg}
use Rattle.rational.proofs.Laws.{antisym, le_refl, le_of_lt, le_trans, lt_le_trans, not_zero}
use Rattle.rational.proofs.Linear.{with2}
use Rattle.rational.proofs.Sizes.{quotient_on_grid}
use Rattle.rational.proofs.Bounds.{same_supremum}
use Rattle.rational.proofs.ExtendedOrder.{same_le_ext}
use Rattle.upp_curve.specs.declared.affine_segment.line.Line.{Line}
use Rattle.upp_curve.specs.declared.affine_segment.line.Piece.{Piece}
use Rattle.upp_curve.specs.affine_segment.Values.{line_at, line_value}
use Rattle.upp_curve.specs.declared.curve.Tail.{Tail}
use Rattle.upp_curve.specs.declared.curve.Tail.TheVariants.{Periodic, Affine, Infinite}
use Rattle.upp_curve.specs.affine_segment.Reading.{read}
use Rattle.upp_curve.specs.Curve.{SpecCurve, value_at}
use Rattle.min_plus.specs.Functions.{zero_q, IsFinite}
use Rattle.upp_curve.specs.affine_segment.Pieces.{Each}
use Rattle.upp_curve.specs.Normal.{IsNormal}
use Rattle.upp_limits.specs.Spans.{spans}
use Rattle.upp_curve.specs.Steady.{Repeats, steady, rise_over, IsWholePeriods}
use Rattle.upp_limits.specs.declared.op_kind.OpKind.TheVariants.{RunSup}
use Rattle.upp_limits.specs.Periods.{own_period}
use Rattle.upp_limits.specs.Windows.{IsLeast, Meets}
use Rattle.upp_limits.specs.Limits.{Sizes, own_end}
use Rattle.upp_limits.specs.Sized.{grid_of, times_largest, AreSizes, SpanStands, ValueStands, LineStands}
use Rattle.upp_normal.specs.Operand.{AreLimited, OperandLine, OperandLineAt, OperandPieces}
use Rattle.upp_normal.specs.Room.{top}
use Rattle.upp_limits.proofs.CurveStands.{curve_stands, starts_below_own_end}
use Rattle.upp_limits.proofs.NarrowSizes.{grid_pos, line_parts}
use Rattle.upp_limits.proofs.PieceLists.{starts_nonneg}
use Rattle.upp_curve.proofs.Repeats.{repeated_first}
use Rattle.upp_curve.proofs.RisingCurves.{GoesOn, finite_pieces_by_tail, infinite_is_not_finite}
use Rattle.upp_curve.proofs.Steady.{steady_rule}
use Rattle.upp_normal.proofs.AnswerRoom.{tight, operand_line_fits, operand_line_value, values_fit}
use Rattle.curve_call.proofs.CurveRises.{IsRise, rise_is, own_whole}
use Rattle.curve_call.proofs.OwnPeriods.{limited_less}
use Rattle.plain_operators.specs.running.Scans.{IsWindow, IsSupremumIn, Until}
use Rattle.plain_operators.specs.running.Between.{FitsAtBoth, IsLevelBetween}
use Rattle.plain_operators.specs.running.Periods.{CoverFits, IsFirstPeriod, IsCovering, IsSupremumCall, IsCoveredAfter}
use Rattle.plain_operators.proofs.running.LevelSizes.{EachOperand, level_value, line_operand, scan_fits}
use Rattle.upp_normal.proofs.AnswerRoom.{many_more}
use Rattle.plain_operators.proofs.running.Covers.{no_fall, least_by_cover, covered_by_cover, least_flat, least_from_zero}
use Rattle.upp_normal.specs.Ahead.{IsGridValue}

-- ---- the tail of a finite curve
finite_goes_on : (ps : List Piece) (tail : Tail) → IsNormal record { pieces = ps; tail = tail } → IsFinite (value_at record { pieces = ps; tail = tail }) → GoesOn tail
finite_goes_on ps (Periodic r d c) N F = tt
finite_goes_on ps (Affine r) N F = tt
finite_goes_on ps (Infinite r) N F = infinite_is_not_finite ps r N F

first_by_tail : (ps : List Piece) (tail : Tail) → IsNormal record { pieces = ps; tail = tail } → GoesOn tail → (t : ℚ) → zero_q ≤ℚ t
    → t <ℚ own_end record { pieces = ps; tail = tail }
    → value_at record { pieces = ps; tail = tail } t ≡ read ps t
unfolding value_at own_end steady own_period
first_by_tail ps (Periodic r d c) N on t low h = repeated_first (read ps) r d c t N.raw.tail.some h
first_by_tail ps (Affine r) N on t low h = refl
first_by_tail ps (Infinite r) N on t low h = absurd on

pub first_read : (c : SpecCurve) → IsNormal c → IsFinite (value_at c) → (t : ℚ) → zero_q ≤ℚ t → t <ℚ own_end c → value_at c t ≡ read c.pieces t
first_read c N F t low h = first_by_tail c.pieces c.tail N (finite_goes_on c.pieces c.tail N F) t low h

-- ---- its pieces stand by the sizes
record PieceStands (z : Sizes) (p : Piece) : Type 0 where
  start : Whole z.dt p.x
  at : ValueStands z p.at
  after : ValueStands z (line_value p.line p.x)
  slope : LineStands z p.line

each_by_tail : (z : Sizes) (tail : Tail) (ps : List Piece) → GoesOn tail → AllByRecursion (SpanStands z) (spans tail ps) → Each (PieceStands z) ps
unfolding spans
each_by_tail z tail [] on h = tt
each_by_tail z (Periodic r d c) (p ∷ ps) on h = (record { start = h.0.start; at = h.0.at; after = h.0.after; slope = h.0.slope }, each_by_tail z (Periodic r d c) ps on h.1)
each_by_tail z (Affine r) (p ∷ ps) on h = (record { start = h.0.start; at = h.0.at; after = h.0.after; slope = h.0.slope }, each_by_tail z (Affine r) ps on h.1)
each_by_tail z (Infinite r) (p ∷ ps) on h = absurd on

line_by : (z : Sizes) (end x : ℚ) (l : Option Line) → AreSizes z end → Whole z.dt x → zero_q ≤ℚ x → x ≤ℚ end → ValueStands z (line_value l x) → LineStands z l → OperandLineAt z l
line_by z end x None S w low early v s = tt
line_by z end x (Some l) S w low early v s = let P = line_parts z end l.icept l.slope x S s w low early v in record { slope = s; icept = P.icept_whole; within = P.icept_within }

each_operand : (z : Sizes) (end : ℚ) (ps : List Piece) → AreSizes z end → Each (PieceStands z) ps → AllByRecursion (λ p. zero_q ≤ℚ p.x) ps → Each (λ p. p.x <ℚ end) ps
    → EachOperand z end ps
each_operand z end [] S h low before = tt
each_operand z end (p ∷ ps) S h low before =
    let P = h.0 in (
      record { start = P.start; nonneg = low.0; before = before.0; at = P.at; line = line_by z end p.x p.line S P.start low.0 (le_of_lt before.0) P.after P.slope },
      each_operand z end ps S h.1 low.1 before.1,
    )

-- ---- the call
pub record FirstFacts (f : SpecCurve) (start period rise : ℚ) : Type 0 where
  pub sizes : Sizes
  pub limited : AreLimited sizes (start +ℚ period)
  pub operands : OperandPieces sizes (start +ℚ period) f.pieces
  pub window : IsWindow (start +ℚ period) f.pieces
  pub repeats : Repeats (value_at f) start period rise
  pub rise_whole : Whole (grid_of sizes) rise
  pub rise_within : Within (times_largest 3 sizes) rise
  pub rise_low : zero_q ≤ℚ rise
  pub reads : (t : ℚ) → zero_q ≤ℚ t → t <ℚ start +ℚ period → value_at f t ≡ read f.pieces t
  pub start_whole : Whole sizes.dt start

pub first_facts : (f : SpecCurve) (start period rise : ℚ) → IsSupremumCall f start period rise → FirstFacts f start period rise
unfolding own_end
first_facts f start period rise C = record {
  sizes = z;
  limited = limited;
  operands = record { starts = N.raw.starts; each = each_operand z (start +ℚ period) f.pieces limited.sizes pieces (starts_nonneg f.pieces N.raw.starts) early };
  window = record { starts = N.raw.starts; before = early; finite = finite_pieces_by_tail f.pieces f.tail N on C.finite };
  repeats = repeats;
  rise_whole = subst (Whole (grid_of z)) (sym C.rise_is) R.whole;
  rise_within = subst (Within (times_largest 3 z)) (sym C.rise_is) R.within;
  rise_low = falls (C.finite start C.low);
  reads = λ t low h. first_read f N C.finite t low (subst (λ e. t <ℚ e) end_is h);
  start_whole = C.start_whole;
}
  where
    z : Sizes
    z = C.sizes

    N : IsNormal f
    N = C.curve.normal

    on : GoesOn f.tail
    on = finite_goes_on f.pieces f.tail N C.finite

    end_is : start +ℚ period ≡ own_end f
    end_is = ap (λ s. s +ℚ period) C.start_is ∙ ap (λ d. steady f +ℚ d) C.period_is

    whole : Whole z.dt (start +ℚ period)
    whole = whole_add z.dt start period C.start_whole C.period_whole

    above : zero_q ≤ℚ start +ℚ period
    above = let a = C.low in let b = C.some in with2 start period (λ c. omega (arith, c.le, c.lt, c.same))

    limited : AreLimited z (start +ℚ period)
    limited = limited_less z C.end (start +ℚ period) C.limited whole above C.early

    early : Each (λ p. p.x <ℚ start +ℚ period) f.pieces
    early = subst (λ e. Each (λ p. p.x <ℚ e) f.pieces) (sym end_is) (starts_below_own_end f N.raw)

    in_window : Each (λ p. p.x <ℚ C.end) f.pieces
    in_window = sooner f.pieces early
      where
        sooner : (ps : List Piece) → Each (λ p. p.x <ℚ start +ℚ period) ps → Each (λ p. p.x <ℚ C.end) ps
        sooner [] h = tt
        sooner (p ∷ ps) h = (lt_le_trans h.0 C.early, sooner ps h.1)

    pieces : Each (PieceStands z) f.pieces
    pieces = each_by_tail z f.tail f.pieces on (curve_stands z C.end f N.raw in_window C.stands).spans

    R : IsRise z f period
    R =
        rise_is z C.end f period C.limited C.curve C.stands (subst (λ d. IsWholePeriods f.tail d) (sym C.period_is) (own_whole f C.curve)) C.period_whole C.some
        (subst (λ s. s +ℚ period ≤ℚ C.end) C.start_is C.early)

    repeats : Repeats (value_at f) start period rise
    repeats =
        subst (λ s. Repeats (value_at f) s period rise) (sym C.start_is)
        (subst (λ c. Repeats (value_at f) (steady f) period c) (sym C.rise_is)
        (steady_rule f period N.raw (subst (λ d. IsWholePeriods f.tail d) (sym C.period_is) (own_whole f C.curve)) (le_of_lt C.some)))

    falls : ((level : ℚ) × (value_at f start ≡ Fin level)) → zero_q ≤ℚ rise
    falls (level, e) = no_fall (value_at f) start period rise level C.low C.some repeats e C.nonneg

-- ---- the steps fit
both_fit : (z : Sizes) (end from to : ℚ) (ps : List Piece) → AreLimited z end → EachOperand z end ps → Whole z.dt from → zero_q ≤ℚ from → from ≤ℚ end → Whole z.dt to
    → zero_q ≤ℚ to → to ≤ℚ end
    → FitsAtBoth from to ps
both_fit z end from to ps A O w low early v soon late l has =
    let L = line_operand z end ps l O has in (operand_line_fits z end from (Some l) A L w low early, operand_line_fits z end to (Some l) A L v soon late)

line_level : (z : Sizes) (end x v : ℚ) (l : Line) → AreLimited z end → OperandLine z l → Whole z.dt x → zero_q ≤ℚ x → x ≤ℚ end → v ≡ line_at l x → IsGridValue z v
line_level z end x v l A L w low early e = subst (IsGridValue z) (sym e) (operand_line_value z end x (Some l) A L w low early)

between_value : (z : Sizes) (end from to : ℚ) (ps : List Piece) (v : ℚ) → AreLimited z end → EachOperand z end ps → Whole z.dt from → zero_q ≤ℚ from → from ≤ℚ end
    → Whole z.dt to → zero_q ≤ℚ to
    → to ≤ℚ end → IsLevelBetween end from to ps v → IsGridValue z v
between_value z end from to ps v A O w low early x soon late (inl e) =
    subst (IsGridValue z) (sym e)
    record {
      whole = whole_int (grid_of z) (pos 0);
      within = within_nonneg (times_largest 3 z) zero_q (le_refl zero_q)
          (subst (λ y. zero_q ≤ℚ y) (sym (int_mul (pos 3) (pos z.largest))) (nat_nonneg (3 * z.largest)));
    }
between_value z end from to ps v A O w low early x soon late (inr (inl k)) = level_value z end ps v A O k
between_value z end from to ps v A O w low early x soon late (inr (inr (l, has, inl e))) = line_level z end from v l A (line_operand z end ps l O has) w low early e
between_value z end from to ps v A O w low early x soon late (inr (inr (l, has, inr e))) = line_level z end to v l A (line_operand z end ps l O has) x soon late e

cover_fits : (z : Sizes) (end v w rise : ℚ) → AreLimited z end → IsGridValue z v → IsGridValue z w → Whole (grid_of z) rise → Within (times_largest 3 z) rise
    → zero_q <ℚ rise → CoverFits v w rise
cover_fits z end v w rise A V W whole within rises = record {
  gap = (values_fit z end v w A V W).1;
  number = quotient_on_grid (grid_of z) (times_largest 6 z) (times_largest 3 z) (v -ℚ w) rise (grid_pos z end A.sizes) (not_zero rise rises) (room 6 (omega arith))
      (room 3 (omega arith))
      (whole_sub (grid_of z) v w V.whole W.whole) whole (subst (λ m. Within m (v -ℚ w)) (many_more z 3 3)
      (within_sub (times_largest 3 z) (times_largest 3 z) v w V.within W.within)) within;
}
  where
    room : (k : ℕ) → k ≤ 6 → times_largest k z *ℚ int (pos (grid_of z)) ≤ℚ int (pos top)
    room k h =
        let s = (tight z end A).sums in
        let m : k * (z.largest * grid_of z) ≤ 6 * (z.largest * grid_of z) = mul-le-mul_right (z.largest * grid_of z) h in
        subst (λ y. y ≤ℚ int (pos top)) (sym (ap (λ y. y *ℚ int (pos (grid_of z))) (int_mul (pos k) (pos z.largest)) ∙ int_mul (pos (k * z.largest)) (pos (grid_of z))))
        (nat_le (k * z.largest * grid_of z) top (omega (arith, s, m)))

pub first_period : (f : SpecCurve) (start period rise : ℚ) (ps : List Piece) → IsSupremumCall f start period rise → ps ≡ f.pieces → zero_q <ℚ rise → zero_q <ℚ start
    → IsFirstPeriod ps start period rise
first_period f start period rise ps C e rises first = subst (λ q. IsFirstPeriod q start period rise) (sym e) here
  where
    F : FirstFacts f start period rise
    F = first_facts f start period rise C

    z : Sizes
    z = F.sizes

    soon : start ≤ℚ start +ℚ period
    soon = let b = C.some in with2 start period (λ c. omega (arith, c.le, c.lt, c.same))

    here : IsFirstPeriod f.pieces start period rise
    here = record {
      window = F.window;
      fits = scan_fits z (start +ℚ period) f.pieces F.limited F.operands;
      before = both_fit z (start +ℚ period) zero_q start f.pieces F.limited F.operands.each (whole_int z.dt (pos 0)) (le_refl zero_q) F.limited.some F.start_whole
          (le_of_lt first) soon;
      within = both_fit z (start +ℚ period) start (start +ℚ period) f.pieces F.limited F.operands.each F.start_whole (le_of_lt first) soon F.limited.sizes.window
          F.limited.some (le_refl (start +ℚ period));
      first = first;
      some = C.some;
      rises = rises;
      nonneg = λ t low h. subst (λ v. Fin zero_q ≤ₑ v) (F.reads t low h) (C.nonneg t low);
      sum = C.sum;
      cover = λ v w h k.
          cover_fits z (start +ℚ period) v w rise F.limited
          (between_value z (start +ℚ period) zero_q start f.pieces v F.limited F.operands.each (whole_int z.dt (pos 0)) (le_refl zero_q) F.limited.some F.start_whole
          (le_of_lt first) soon h)
          (between_value z (start +ℚ period) start (start +ℚ period) f.pieces w F.limited F.operands.each F.start_whole (le_of_lt first) soon F.limited.sizes.window
          F.limited.some (le_refl (start +ℚ period)) k)
          F.rise_whole F.rise_within rises;
    }

-- ---- what is read of the pieces holds of the curve
same_in : (f g : ℚ → Ext) (from to v : ℚ) → ((t : ℚ) → from ≤ℚ t → t <ℚ to → f t ≡ g t) → IsSupremumIn g from to (Fin v) → IsSupremumIn f from to (Fin v)
same_in f g from to v same h =
    same_supremum {I = Until from to} {J = Until from to} (λ s. g s.at) (λ s. f s.at) (Fin v)
    (λ s. (s, same_le_ext (sym (same s.at s.least s.early))))
    (λ s. (s, same_le_ext (same s.at s.least s.early)))
    h

pub covering_of_curve : (f : SpecCurve) (start period rise : ℚ) (ps : List Piece) (k : ℕ) → IsSupremumCall f start period rise → ps ≡ f.pieces
    → IsCovering (read ps) start period rise k
    → IsCovering (value_at f) start period rise k
covering_of_curve f start period rise ps k C e V = record {
  early = V.early;
  once = V.once;
  before = same_in (value_at f) (read ps) zero_q start V.early (λ t low h. reads t low (lt_le_trans h (le_of_lt later))) V.before;
  within = same_in (value_at f) (read ps) start (start +ℚ period) V.once (λ t low h. reads t (le_trans C.low low) h) V.within;
  cover = V.cover;
}
  where
    later : start <ℚ start +ℚ period
    later = let b = C.some in with2 start period (λ c. omega (arith, c.le, c.lt, c.same))

    reads : (t : ℚ) → zero_q ≤ℚ t → t <ℚ start +ℚ period → value_at f t ≡ read ps t
    reads t low h = (first_facts f start period rise C).reads t low h ∙ sym (ap (λ q. read q t) e)

-- ---- the number
pub record FoundNumber (f : SpecCurve) (start period rise : ℚ) (k : ℕ) : Type 0 where
  pub least : IsLeast (Meets RunSup f f) k
  pub covered : IsCoveredAfter f start period rise k

pub found_number : (f : SpecCurve) (start period rise : ℚ) (ps : List Piece) (k : ℕ) → IsSupremumCall f start period rise → ps ≡ f.pieces → zero_q <ℚ rise
    → IsCovering (read ps) start period rise k
    → FoundNumber f start period rise k
found_number f start period rise ps k C e rises V =
    let W = covering_of_curve f start period rise ps k C e V in
    let F = first_facts f start period rise C in
    record {
      least = least_by_cover f start period rise k C.start_is C.period_is C.rise_is C.some rises F.repeats W;
      covered = covered_by_cover f start period rise k C.some F.repeats W;
    }

pub flat_number : (f : SpecCurve) (start period rise : ℚ) → IsSupremumCall f start period rise → rise ≤ℚ zero_q → FoundNumber f start period rise 0
flat_number f start period rise C low =
    let F = first_facts f start period rise C in
    let flat : rise ≡ zero_q = antisym (low, F.rise_low) in
    record { least = least_flat f (sym (C.rise_is ∙ ap (rise_over f) C.period_is) ∙ flat); covered = inl flat }

pub early_number : (f : SpecCurve) (start period rise : ℚ) → IsSupremumCall f start period rise → start ≤ℚ zero_q → FoundNumber f start period rise 0
early_number f start period rise C low = record { least = least_from_zero f (subst (λ s. s ≤ℚ zero_q) C.start_is low); covered = inr (inl low) }
