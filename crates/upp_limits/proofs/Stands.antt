-- The numbers of a call stand on the grids and within the bounds of its sizes.
use Rattle.std.specs.Prelude.{ℕ, ◌≤◌, pos, ◌∷◌, ◌++◌, Option, Some, None}
use Rattle.std.proofs.Common.{arith}
use Rattle.std.specs.List.{AllByRecursion}
use Rattle.std.proofs.Math.Nat.{le-max_left}
use Rattle.rational.specs.Rational.{ℚ, ◌*ℚ◌, int}
use Rattle.rational.specs.Extended.{Ext}
use Rattle.rational.specs.declared.Extended.TheVariants.{Fin, Inf}
use Rattle.rational.specs.Grid.{Whole, Within}
use Rattle.upp_curve.specs.declared.affine_segment.line.Line.{Line}
use Rattle.upp_curve.specs.affine_segment.Values.{line_value}
use Rattle.upp_limits.specs.Spans.{Span}
use Rattle.upp_limits.specs.Limits.{Numbers, Sizes, joined, twice, sizes_of, finite, limit_before, span_values, line_slope, span_slopes}
use Rattle.upp_limits.specs.Sized.{IsValue, IsSlope, Stands, ValueStands, LineStands, SpanStands}
use Rattle.upp_limits.proofs.Every.{every_weaken, every_left, every_right, every_map_out, every_both}
use Rattle.upp_limits.proofs.CommonDen.{common_den_each, bound_each}

-- ---- the numbers
pub sizes_stand : (end : ℚ) (n : Numbers) → Stands (sizes_of end n) n
sizes_stand end n =
    let z = sizes_of end n in
    let values = every_both (Whole z.dv) (Within (int (pos z.largest))) n.values (common_den_each n.values) (bound_each n.values z.largest (le-max_left _ _)) in
    let slopes = every_both (Whole z.ds) (λ s. Within (int (pos z.steepness)) (int (pos 2) *ℚ s)) n.slopes (common_den_each n.slopes)
    (every_map_out (Within (int (pos z.steepness))) (λ s. int (pos 2) *ℚ s) n.slopes (bound_each (twice n.slopes) z.steepness (at_most z.steepness))) in
    record {
      times = (common_den_each (end ∷ n.times)).1;
      values = every_weaken (λ v h. record { whole = h.0; within = h.1 }) n.values values;
      slopes = every_weaken (λ v h. record { whole = h.0; within = h.1 }) n.slopes slopes;
    }
  where
    at_most : (n : ℕ) → n ≤ n
    at_most n = omega arith

pub stands_left : (z : Sizes) (a b : Numbers) → Stands z (joined a b) → Stands z a
stands_left z a b h = record {
  times = every_left (Whole z.dt) a.times b.times h.times;
  values = every_left (IsValue z) a.values b.values h.values;
  slopes = every_left (IsSlope z) a.slopes b.slopes h.slopes;
}

pub stands_right : (z : Sizes) (a b : Numbers) → Stands z (joined a b) → Stands z b
stands_right z a b h = record {
  times = every_right (Whole z.dt) a.times b.times h.times;
  values = every_right (IsValue z) a.values b.values h.values;
  slopes = every_right (IsSlope z) a.slopes b.slopes h.slopes;
}

-- ---- the numbers of one span
finite_out : (z : Sizes) (x : Ext) → AllByRecursion (IsValue z) (finite x) → ValueStands z x
finite_out z Inf h = tt
finite_out z (Fin v) h = h.0

slope_out : (z : Sizes) (l : Option Line) → AllByRecursion (IsSlope z) (line_slope l) → LineStands z l
slope_out z None h = tt
slope_out z (Some l) h = h.0

pub span_stands : (z : Sizes) (s : Span) → Whole z.dt s.piece.x → AllByRecursion (IsValue z) (span_values s) → AllByRecursion (IsSlope z) (span_slopes s) → SpanStands z s
span_stands z s start values slopes =
    let at = finite s.piece.at in
    let after = finite (line_value s.piece.line s.piece.x) in
    let before = finite (limit_before s.piece.line s.next) in
    let first = every_left (IsValue z) (at ++ after) before values in
    record {
      start = start;
      at = finite_out z s.piece.at (every_left (IsValue z) at after first);
      after = finite_out z (line_value s.piece.line s.piece.x) (every_right (IsValue z) at after first);
      before = finite_out z (limit_before s.piece.line s.next) (every_right (IsValue z) (at ++ after) before values);
      slope = slope_out z s.piece.line slopes;
    }
