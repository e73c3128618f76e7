-- The scans that find the lowest of some pieces: their steps fit, and the level that ends the second is one of the sums.
use Rattle.std.specs.Prelude.{◌≡◌, List, [], ◌∷◌, ◌++◌}
use Rattle.std.proofs.Common.{arith, sym, ap, ◌∙◌, refl, subst, inl, inr}
use Rattle.rational.specs.Rational.{ℚ, ◌+ℚ◌, ◌≤ℚ◌, ◌<ℚ◌}
use Rattle.rational.specs.MinMax.{min_q}
use Rattle.rational.specs.Ratio.{SumFits}
use Rattle.rational.specs.Extended.{◌≤ₑ◌}
use Rattle.rational.specs.declared.Extended.TheVariants.{Fin}
use Rattle.rational.proofs.Grid.{whole_add, within_nonneg}
use Rattle.rational.proofs.Linear.{with2}
use Rattle.rational.proofs.Laws.{le_or_lt, le_refl, le_of_lt, le_trans, lt_le_trans}
use Rattle.rational.proofs.MinMax.{min_q_one, min_q_le_right}
use Rattle.rational.proofs.ExtendedOrder.{fin_same, lt_ext_not_le}
use Rattle.upp_curve.specs.declared.affine_segment.line.Piece.{Piece}
use Rattle.upp_curve.specs.affine_segment.Values.{line_value}
use Rattle.min_plus.specs.Functions.{zero_q}
use Rattle.upp_curve.specs.affine_segment.Pieces.{Each, StartsAtZero}
use Rattle.upp_curve.specs.affine_segment.Reading.{read, piece_in, piece_value}
use Rattle.upp_curve.specs.affine_segment.Fits.{LineFitsAt}
use Rattle.upp_curve.specs.Shapes.{IsFinitePiece, IsNumber, IsLine}
use Rattle.upp_curve.specs.Steady.{last_line}
use Rattle.upp_limits.specs.Limits.{Sizes}
use Rattle.upp_limits.specs.Sized.{grid_of, times_largest}
use Rattle.upp_normal.specs.Operand.{AreLimited}
use Rattle.upp_curve.proofs.Finite.{each_in}
use Rattle.upp_curve.proofs.affine_segment.PieceIn.{value_past, read_is, value_by}
use Rattle.upp_curve.proofs.affine_segment.PieceOrder.{each_append, each_map, rises_append}
use Rattle.upp_normal.proofs.NormaliseLists.{last_in}
use Rattle.plain_operators.specs.running.Scans.{IsWindow, ScanFits, IsInfimumUntil, flat}
use Rattle.plain_operators.specs.running.Made.{IsMade, IsInfimumScan}
use Rattle.plain_operators.specs.running.Runs.{IsFrontBefore}
use Rattle.plain_operators.specs.running.Lowest.{SumPiece, level_piece, IsLowestCall, IsLowest}
use Rattle.plain_operators.proofs.running.SumSizes.{EachSum, IsNear, near_of, sum_weaken, sums_fit, flat_line, line_near, value_near, level_value, made_sum, scan_fits, scan_lines}
use Rattle.plain_operators.proofs.running.FiniteRuns.{list_number, made_finite}
use Rattle.upp_normal.specs.Ahead.{AnswerValue}

-- ---- finite pieces
sum_finite : (z : Sizes) (end : ℚ) (p : Piece) → SumPiece z end p → IsFinitePiece p
sum_finite z end p P = record { at = subst IsNumber (sym P.at) tt; line = subst IsLine (sym P.line) tt }

pub sums_finite : (z : Sizes) (end : ℚ) (ps : List Piece) → EachSum z end ps → Each IsFinitePiece ps
sums_finite z end ps h = each_map (SumPiece z end) IsFinitePiece (λ p P. sum_finite z end p P) ps h

pub scan_read : (far : ℚ) (ps qs : List Piece) (t : ℚ) → StartsAtZero qs → Each (IsMade far ps) qs → IsNumber (read qs t)
scan_read far ps qs t s m = list_number qs t s (each_map (IsMade far ps) IsFinitePiece (λ q h. made_finite far ps q h) qs m)

-- ---- what a scan reads
made_value : (z : Sizes) (end far x v : ℚ) (ps : List Piece) (q : Piece) → AreLimited z end → IsNear z end far → EachSum z end ps → IsNear z end x → IsMade far ps q → piece_value q x ≡ Fin v → AnswerValue z 10 v
made_value z end far x v ps q A F O N m e = elim (le_or_lt x q.x) [
  | inl l ↦
      let (w, k, level) = m.at in
      subst (AnswerValue z 10) (fin_same (sym (value_by q x l ∙ k) ∙ e)) (sum_weaken z 8 10 w (omega arith) (level_value z end far ps w A F O level))
  | inr l ↦
      let (n, k, L) = made_sum z end far ps q.line A F O m.line in
      subst (AnswerValue z 10) (fin_same (sym (value_past q x l ∙ ap (λ i. line_value i x) k) ∙ e)) (value_near z end x 8 n A L N)
]

pub scan_value : (z : Sizes) (end far x v : ℚ) (ps qs : List Piece) → AreLimited z end → IsNear z end far → EachSum z end ps → IsNear z end x → StartsAtZero qs → Each (IsMade far ps) qs → read qs x ≡ Fin v
    → AnswerValue z 10 v
scan_value z end far x v ps [] A F O N s m e = absurd s
scan_value z end far x v ps (q ∷ qs) A F O N s m e =
    made_value z end far x v ps (piece_in q qs x) A F O N (each_in (IsMade far ps) q qs x m) (sym (read_is q qs x) ∙ e)

-- ---- the call
pub call_end : (z : Sizes) (ps : List Piece) (from end far rise : ℚ) → IsLowestCall z ps from end far rise → IsNear z end end
call_end z ps from end far rise C = near_of z end end C.limited.sizes.window C.limited.some (le_refl end)

pub call_far : (z : Sizes) (ps : List Piece) (from end far rise : ℚ) → IsLowestCall z ps from end far rise → IsNear z end far
call_far z ps from end far rise C = record { whole = C.far_whole; low = le_trans C.limited.some (le_of_lt C.far_late); near = C.far_near }

call_from : (z : Sizes) (ps : List Piece) (from end far rise : ℚ) → IsLowestCall z ps from end far rise → IsNear z end from
call_from z ps from end far rise C = near_of z end from C.from_whole C.from_low (le_of_lt C.from_early)

pub first_window : (z : Sizes) (ps : List Piece) (from end far rise : ℚ) → IsLowestCall z ps from end far rise → IsWindow end ps
first_window z ps from end far rise C = record { starts = C.starts; before = C.before; finite = sums_finite z end ps C.each }

pub first_fits : (z : Sizes) (ps : List Piece) (from end far rise : ℚ) → IsLowestCall z ps from end far rise → ScanFits end ps
first_fits z ps from end far rise C = scan_fits z end end ps C.limited (call_end z ps from end far rise C) C.each

pub first_lines : (z : Sizes) (ps qs : List Piece) (from end far rise : ℚ) → IsLowestCall z ps from end far rise → IsInfimumScan ps end qs → Each (λ q. LineFitsAt from q.line) qs
first_lines z ps qs from end far rise C S = scan_lines z end end from ps qs C.limited (call_end z ps from end far rise C) C.each (call_from z ps from end far rise C) S.scan.made

pub first_number : (ps qs : List Piece) (from end : ℚ) → IsInfimumScan ps end qs → IsNumber (read qs from)
first_number ps qs from end S = scan_read end ps qs from S.scan.starts S.scan.made

pub low_value : (z : Sizes) (ps qs : List Piece) (from end far rise low : ℚ) → IsLowestCall z ps from end far rise → IsInfimumScan ps end qs → read qs from ≡ Fin low → AnswerValue z 10 low
low_value z ps qs from end far rise low C S e =
    scan_value z end end from low ps qs C.limited (call_end z ps from end far rise C) C.each (call_from z ps from end far rise C) S.scan.starts S.scan.made e

pub later_fits : (z : Sizes) (ps qs : List Piece) (from end far rise low : ℚ) → IsLowestCall z ps from end far rise → IsInfimumScan ps end qs → read qs from ≡ Fin low → SumFits low rise
later_fits z ps qs from end far rise low C S e = (sums_fit z end 10 6 low rise C.limited (omega arith) (low_value z ps qs from end far rise low C S e) C.rise_stands).0

-- the last line
pub last_fits : (z : Sizes) (ps : List Piece) (from end far rise : ℚ) → IsLowestCall z ps from end far rise → LineFitsAt end (last_line ps) × IsNumber (line_value (last_line ps) end)
last_fits z ps from end far rise C = by_list ps C.starts C.each
  where
    by_list : (ps : List Piece) → StartsAtZero ps → EachSum z end ps → LineFitsAt end (last_line ps) × IsNumber (line_value (last_line ps) end)
    by_list [] s h = absurd s
    by_list (p ∷ ps) s h =
        let P = last_in (SumPiece z end) p ps h.0 h.1 in (
          subst (LineFitsAt end) (sym P.line) (line_near z end end 6 P.on C.limited (omega arith) P.line_stands (near_of z end end C.limited.sizes.window C.limited.some (le_refl end))),
          subst (λ l. IsNumber (line_value l end)) (sym P.line) tt,
        )

-- ---- the level
pub low_nonneg : (ps : List Piece) (from end low : ℚ) → zero_q ≤ℚ from → ((t : ℚ) → zero_q ≤ℚ t → t <ℚ end → Fin zero_q ≤ₑ read ps t) → IsInfimumUntil (read ps) end from (Fin low) → zero_q ≤ℚ low
low_nonneg ps from end low some nonneg h = elim (le_or_lt zero_q low) [
  | inl l ↦ l
  | inr l ↦
      let (s, m) = h.near zero_q l in
      absurd ((lt_ext_not_le (read ps s.at) (Fin zero_q)).0 m (nonneg s.at (le_trans some s.least) s.early))
]

pub level_stands : (z : Sizes) (ps qs : List Piece) (from end far rise low limit : ℚ) → IsLowestCall z ps from end far rise → IsInfimumScan ps end qs → read qs from ≡ Fin low
    → line_value (last_line ps) end ≡ Fin limit → AnswerValue z 6 (min_q (low +ℚ rise) limit)
level_stands z ps qs from end far rise low limit C S e k =
    let later = low +ℚ rise in
    let top = C.last_value limit k in
    let L = low_value z ps qs from end far rise low C S e in
    let first : IsInfimumUntil (read ps) end from (Fin low) = subst (IsInfimumUntil (read ps) end from) e (S.reads from C.from_low C.from_early) in
    let a = low_nonneg ps from end low C.from_low C.nonneg first in
    let b = C.rise_low in
    let some : zero_q ≤ℚ later = with2 low rise (λ c. omega (arith, c.le, c.lt, c.same)) in
    elim (min_q_one later limit) [
      | inl same ↦
          let below : later ≤ℚ limit = subst (λ y. y ≤ℚ limit) same (min_q_le_right later limit) in
          subst (AnswerValue z 6) (sym same) record {
            whole = whole_add (grid_of z) low rise L.whole C.rise_stands.whole;
            within = within_nonneg (times_largest 6 z) later some (le_trans below top.within.high);
          }
      | inr same ↦ subst (AnswerValue z 6) (sym same) top
    ]

-- ---- the second scan
level_sum : (z : Sizes) (end v : ℚ) → AreLimited z end → AnswerValue z 6 v → SumPiece z end (level_piece end v)
level_sum z end v A V = record {
  start = A.sizes.window;
  nonneg = A.some;
  early = le_refl end;
  value = v;
  at = refl;
  value_stands = V;
  on = flat v;
  line = refl;
  line_stands = flat_line z 6 v V;
}

pub all_sums : (z : Sizes) (ps : List Piece) (end v : ℚ) → AreLimited z end → EachSum z end ps → AnswerValue z 6 v → EachSum z end (ps ++ level_piece end v ∷ [])
all_sums z ps end v A h V = each_append (SumPiece z end) ps (level_piece end v ∷ []) h (level_sum z end v A V, tt)

starts_more : (ps : List Piece) (q : Piece) → Each (λ p. p.x <ℚ q.x) ps → StartsAtZero ps → StartsAtZero (ps ++ q ∷ [])
starts_more [] q b s = absurd s
starts_more (p ∷ ps) q b s = (s.0, rises_append p.x ps q [] s.1 b.0 b.1 tt)

pub second_window : (z : Sizes) (ps : List Piece) (from end far rise v : ℚ) → IsLowestCall z ps from end far rise → AnswerValue z 6 v → IsWindow far (ps ++ level_piece end v ∷ [])
second_window z ps from end far rise v C V = record {
  starts = starts_more ps (level_piece end v) C.before C.starts;
  before = each_append (λ p. p.x <ℚ far) ps (level_piece end v ∷ []) (each_map (λ p. p.x <ℚ end) (λ p. p.x <ℚ far) (λ p l. lt_le_trans l (le_of_lt C.far_late)) ps C.before) (C.far_late, tt);
  finite = sums_finite z end (ps ++ level_piece end v ∷ []) (all_sums z ps end v C.limited C.each V);
}

pub second_fits : (z : Sizes) (ps : List Piece) (from end far rise v : ℚ) → IsLowestCall z ps from end far rise → AnswerValue z 6 v → ScanFits far (ps ++ level_piece end v ∷ [])
second_fits z ps from end far rise v C V =
    scan_fits z end far (ps ++ level_piece end v ∷ []) C.limited (call_far z ps from end far rise C) (all_sums z ps end v C.limited C.each V)

pub lowest_is : (ps once all scanned qs : List Piece) (from end far rise low limit : ℚ) → zero_q ≤ℚ from → from <ℚ end → IsInfimumScan ps end once → read once from ≡ Fin low
    → line_value (last_line ps) end ≡ Fin limit → all ≡ ps ++ level_piece end (min_q (low +ℚ rise) limit) ∷ [] → IsInfimumScan all far scanned → IsFrontBefore scanned end qs → IsLowest ps from end far rise qs
lowest_is ps once all scanned qs from end far rise low limit some early S e k is T F = record {
  low = low;
  first = subst (IsInfimumUntil (read ps) end from) e (S.reads from some early);
  limit = limit;
  limit_is = k;
  stands = λ z C. level_stands z ps once from end far rise low limit C S e k;
  scanned = scanned;
  scan = subst (λ x. IsInfimumScan x far scanned) is T;
  front = F;
}
