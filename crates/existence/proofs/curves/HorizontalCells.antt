-- How two finite curves that rise go on from a time each, and how long the second lies behind the first on these stretches.
use Rattle.std.specs.Prelude.{◌≡◌, pos, None}
use Rattle.std.proofs.Common.{sym, refl, subst, inl, inr}
use Rattle.rational.specs.Rational.{ℚ, ◌+ℚ◌, ◌-ℚ◌, ◌*ℚ◌, ◌/ℚ◌, ◌≤ℚ◌, ◌<ℚ◌, int}
use Rattle.rational.specs.MinMax.{min_q}
use Rattle.rational.proofs.Laws.{le_or_lt, le_of_lt, le_lt_trans, lt_le_trans, div_mul, not_zero}
use Rattle.upp_curve.specs.affine_segment.Reading.{read, line_in, next_in}
use Rattle.upp_curve.specs.affine_segment.Values.{line_at}
use Rattle.min_plus.specs.Functions.{IsRising}
use Rattle.upp_curve.specs.declared.curve.Tail.{Tail}
use Rattle.upp_curve.specs.declared.curve.Tail.TheVariants.{Periodic, Affine, Infinite}
use Rattle.upp_curve.specs.Curve.{SpecCurve, value_at}
use Rattle.upp_limits.specs.Limits.{Sizes}
use Rattle.upp_normal.specs.Ahead.{IsOverBy, IsTimeIn}
use Rattle.curve_call.specs.GapSteps.{earlier_of}
use Rattle.curve_call.proofs.FoundCurves.{curve_goes}
use Rattle.existence.proofs.curves.Scans.{line_of}
use Rattle.curve_deviation.specs.declared.cells.Cell.{Cell}
use Rattle.curve_deviation.specs.declared.parts.Part.{Part}
use Rattle.curve_deviation.specs.Cells.{RisingCell, CellSizes, IsTimeTo, IsCellLag}
use Rattle.curve_deviation.specs.Parts.{IsFiniteInSizes, GoesTo, PartStands, IsEarlyBy}
use Rattle.curve_deviation.specs.Rises.{IsCellOf}
use Rattle.curve_deviation.proofs.CellLag.{gets_higher, apart_lag, passing_lag, ending_lag, under_lag, starting_lag, owed_lag}
use Rattle.curve_deviation.proofs.EarlyParts.{early_goes, early_stands, seen_window, late_goes, late_stands}
use Rattle.curve_deviation.proofs.RisingParts.{part_line, cell_of, cell_sizes}

-- ---- how a curve goes on
record HasPart (z : Sizes) (end : ℚ) (c : SpecCurve) (t : ℚ) : Type 0 where
  part : Part
  goes : GoesTo (value_at c) t end part
  stands : PartStands z part

early : (z : Sizes) (end : ℚ) (c : SpecCurve) (t : ℚ) → IsFiniteInSizes z end c → IsTimeIn z end t → IsEarlyBy end c.tail → HasPart z end c t
early z end c t S T by =
    let p : Part = record { at = read c.pieces t; line = line_in c.pieces t; until = earlier_of end (next_in c.pieces t None) } in
    record { part = p; goes = early_goes c t end p S.curve S.finite by T.nonneg T.before refl refl refl; stands = early_stands z end c t p S T refl refl refl }

late : (z : Sizes) (end : ℚ) (c : SpecCurve) (t : ℚ) → IsFiniteInSizes z end c → IsTimeIn z end t → IsOverBy end c.tail → HasPart z end c t
late z end c t S T over =
    let F = curve_goes z end c t (seen_window z end c S over) T in
    let s = F.stretch in
    let p : Part = record { at = s.at; line = s.line; until = earlier_of end s.next } in
    record { part = p; goes = late_goes (value_at c) t end s p T.before F.goes refl refl refl; stands = late_stands z end t c s p S over T F.times (F.sizes z end) refl refl refl }

part_of : (z : Sizes) (end : ℚ) (c : SpecCurve) (t : ℚ) → IsFiniteInSizes z end c → IsTimeIn z end t → HasPart z end c t
part_of z end c t S T = by_tail c.tail refl
  where
    by_tail : (tail : Tail) → c.tail ≡ tail → HasPart z end c t
    by_tail (Periodic rank period rise) e = elim (le_or_lt end (rank +ℚ period)) [
      | inl h ↦ early z end c t S T (subst (IsEarlyBy end) (sym e) h)
      | inr h ↦ late z end c t S T (subst (IsOverBy end) (sym e) (le_of_lt h))
    ]
    by_tail (Affine rank) e = early z end c t S T (subst (IsEarlyBy end) (sym e) tt)
    by_tail (Infinite rank) e = early z end c t S T (subst (IsEarlyBy end) (sym e) tt)

-- ---- a stretch of each
pub record HasCell (z : Sizes) (f g : SpecCurve) (t x until end : ℚ) : Type 0 where
  pub cell : Cell
  pub is : IsCellOf (value_at f) (value_at g) t x until end cell
  pub sizes : CellSizes z end cell

pub cell_at : (z : Sizes) (f g : SpecCurve) (t x until end : ℚ) → IsFiniteInSizes z end f → IsFiniteInSizes z end g → IsRising (value_at f) → IsRising (value_at g)
    → IsTimeIn z end t → IsTimeIn z end x → IsTimeTo z end until → t <ℚ until → HasCell z f g t x until end
cell_at z f g t x until end F G up rise T X U before =
    let P = part_of z end f t F T in
    let Q = part_of z end g x G X in
    let p = P.part in
    let q = Q.part in
    let (k, first) = line_of p.line (part_line (value_at f) t end p T.nonneg F.finite P.goes) in
    let (l, second) = line_of q.line (part_line (value_at g) x end q X.nonneg G.finite Q.goes) in
    let c : Cell = record { first = k; start = t; end = min_q until p.until; second = l; from = x; until = q.until } in
    record {
      cell = c;
      is = cell_of (value_at f) (value_at g) t x until end p q c T.nonneg X.nonneg before up rise P.goes Q.goes first second refl refl refl refl;
      sizes = cell_sizes z f g t x until end p q c F T X U before P.goes Q.goes P.stands Q.stands first second refl refl refl refl;
    }

-- ---- the lag
-- what times s is v
quotient_of : (v s : ℚ) → int (pos 0) <ℚ s → (q : ℚ) × (q *ℚ s ≡ v)
quotient_of v s some = (v /ℚ s, div_mul v s (not_zero s some))

gentle : (c : Cell) → RisingCell c → line_at c.first c.start ≤ℚ line_at c.second c.until → c.first.slope ≤ℚ c.second.slope → (q : ℚ) × IsCellLag c q
gentle c R low slow = elim (le_or_lt (line_at c.first c.start) (line_at c.second c.from)) [
  | inl owed ↦ (int (pos 0), owed_lag c R slow owed)
  | inr high ↦
      let (q, e) = quotient_of (line_at c.first c.start -ℚ line_at c.second c.start) c.second.slope (gets_higher c.second c.from c.until R.second (lt_le_trans high low)) in
      (q, starting_lag c q R slow low high e)
]

steep : (c : Cell) → RisingCell c → line_at c.first c.start ≤ℚ line_at c.second c.until → c.second.slope <ℚ c.first.slope → (q : ℚ) × IsCellLag c q
steep c R low fast = elim (le_or_lt (line_at c.first c.end) (line_at c.second c.until)) [
  | inr high ↦
      let (q, e) = quotient_of (line_at c.first c.until -ℚ line_at c.second c.until) c.first.slope (le_lt_trans R.second fast) in
      (q, passing_lag c q R low fast high e)
  | inl under ↦ elim (le_or_lt (line_at c.first c.end) (line_at c.second c.from)) [
    | inl all ↦ (int (pos 0), under_lag c R all)
    | inr high ↦
        let (q, e) = quotient_of (line_at c.first c.end -ℚ line_at c.second c.end) c.second.slope (gets_higher c.second c.from c.until R.second (lt_le_trans high under)) in
        (q, ending_lag c q R fast under high e)
  ]
]

pub lag_of : (c : Cell) → RisingCell c → (q : ℚ) × IsCellLag c q
lag_of c R = elim (le_or_lt (line_at c.first c.start) (line_at c.second c.until)) [
  | inr below ↦ (c.until -ℚ c.start, apart_lag c R below)
  | inl low ↦ elim (le_or_lt c.first.slope c.second.slope) [ inl slow ↦ gentle c R low slow | inr fast ↦ steep c R low fast ]
]
