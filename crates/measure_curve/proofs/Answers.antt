-- What single calls need: fractions that are made, the last of some steps, and the test of the width.
use Rattle.std.specs.Prelude.{◌≡◌, ◌≢◌, ◌↔◌, ℕ, suc, ◌+◌, ◌-◌, ◌*◌, ◌<◌, ◌≤◌, ◌^◌, ℤ, pos, max, min, nat_le, List, [], ◌∷◌, length, map, sum_by, nat_abs, Result, Ok, Err, IsOk, IsTrue, All, nat_eq}
use Rattle.std.proofs.Common.{arith, refl, sym, ap, subst, ◌∙◌, inl, inr}
use Rattle.std.proofs.lemmas.Bool.{leb-true, le-leb}
use Rattle.std.proofs.lemmas.List.Elements.{All-filter}
use Rattle.std.proofs.lemmas.List.Kept.{AllPairs-filter}
use Rattle.rational.specs.Rational.{ℚ, ◌≤ℚ◌}
use Rattle.rational.specs.Ratio.{ratio, IsSmall}
use Rattle.rational.specs.Gauge.{Kept, bound_of}
use Rattle.rational.proofs.Gauges.{cap_cases, le_times}
use Rattle.rational.proofs.Parts.{small_ratio}
use Rattle.fraction128.specs.declared.fault.FracFault.{FracFault}
use Rattle.fraction128.specs.declared.fault.FracFault.TheVariants.{ZeroDen, TooBig}
use Rattle.upp_limits.specs.Gathered.{Gathers}
use Rattle.upp_limits.specs.declared.gathered.Gathered.{Gathered}
use Rattle.net_model.specs.declared.trace.TracePacket.{TracePacket}
use Rattle.net_model.specs.Traces.{SpecTrace, IsTrace, IsTracePacket}
use Rattle.packet_windows.specs.declared.windows.Window.{Window}
use Rattle.measure_curve.specs.Grids.{width_of, numbers_of, IsNarrow}
use Rattle.measure_curve.specs.Limits.{grid_of, reach_of}
use Rattle.upp_curve.specs.declared.affine_segment.line.Piece.{Piece}
use Rattle.upp_curve.specs.declared.curve.Tail.TheVariants.{Affine}
use Rattle.upp_curve.specs.Curve.{SpecCurve}
use Rattle.upp_curve.specs.Curves.{IsCurve}
use Rattle.packet_windows.specs.Scans.{last_length}
use Rattle.measure_curve.specs.Staircases.{Fit, time_of, piece_of}
use Rattle.measure_curve.proofs.Stairs.{stairs_curve}
use Rattle.measure_curve.specs.Windows.{of_flow}

-- ---- a fraction
pub made_ok : (r : Result ℚ FracFault) (z w : ℤ) (n g : ℕ) → z ≡ pos n → w ≡ pos g → 0 < g → g < 2 ^ 127 → n < 2 ^ 127 → (r ≡ Err ZeroDen → w ≡ pos 0)
    → (r ≡ Err TooBig → (w ≢ pos 0) × ¬ (IsSmall (ratio z w))) → IsOk r
made_ok (Ok x) z w n g p q some small short none big = refl
made_ok (Err ZeroDen) z w n g p q some small short none big =
    absurd (let e : pos g ≡ pos 0 = sym q ∙ none refl in let k : g ≡ 0 = cc in omega arith)
made_ok (Err TooBig) z w n g p q some small short none big =
    let (other, wide) = big refl in
    let top : nat_abs z < 2 ^ 127 = subst (λ x. nat_abs x < 2 ^ 127) (sym p) short in
    let bottom : nat_abs w < 2 ^ 127 = subst (λ x. nat_abs x < 2 ^ 127) (sym q) small in
    absurd (wide (small_ratio z w other top bottom))

-- ---- the last step
pub stair_curve : (grid : ℕ) (ws : List Window) (ps : List Piece) (rank : ℚ) (n : ℕ) → Fit grid ws → ps ≡ map (piece_of grid) ws → rank ≡ time_of grid n → n ≡ last_length 0 ws
    → (let c : SpecCurve = record { pieces = ps; tail = Affine rank } in IsCurve c)
stair_curve grid ws ps rank n h p r e =
    let at : rank ≡ time_of grid (last_length 0 ws) = r ∙ ap (time_of grid) e in
    let with_rank = subst (λ (x : ℚ). let c : SpecCurve = record { pieces = map (piece_of grid) ws; tail = Affine x } in IsCurve c) (sym at) (stairs_curve grid ws h) in
    subst (λ (qs : List Piece). let c : SpecCurve = record { pieces = qs; tail = Affine rank } in IsCurve c) (sym p) with_rank

pub last_short : (n : ℕ) (ws : List Window) → n < 2 ^ 127 → All (λ w. (w.length < 2 ^ 127) × (w.bits < 2 ^ 64)) ws → last_length n ws < 2 ^ 127
last_short n [] h all = h
last_short n (w ∷ ws) h all =
    last_short w.length ws (all 0 w (omega arith)).0 (λ k d l. all (suc k) d (omega arith))

-- ---- the width
known_reach : (largest L bits reach : ℕ) → Kept largest L → reach ≡ max largest bits → reach ≤ max L bits
known_reach largest L bits reach k e = let i = k.is in elim (cap_cases L) [ inl p ↦ let a = p.0 in omega arith | inr p ↦ let a = p.0 in let b = p.1 in omega arith ]

exact_reach : (largest L bits reach : ℕ) → Kept largest L → reach ≡ max largest bits → reach < 2 ^ 114 → reach ≡ max L bits
exact_reach largest L bits reach k e h = let i = k.is in elim (cap_cases L) [ inl p ↦ let a = p.0 in omega arith | inr p ↦ let a = p.0 in omega arith ]

far_is_wide : (R D : ℕ) → 2 ^ 114 ≤ R → 0 < D → 2 ^ 120 ≤ 64 * (R + 1) * D
far_is_wide R D h some = let t = le_times (64 * (R + 1)) D some in omega arith

capped_product : (X d D : ℕ) → 1 ≤ X → Kept d D → (2 ^ 120 ≤ min (X * d) (2 ^ 128 - 1)) ↔ (2 ^ 120 ≤ X * D)
capped_product X d D some k = elim (cap_cases D) [
  | inl p ↦ let e : d ≡ D = k.is ∙ p.0 in rw e (λ h. omega arith, λ h. omega arith)
  | inr p ↦
      let e : d ≡ 2 ^ 128 - 1 = k.is ∙ p.0 in
      let a : d ≤ d * X = le_times d X some in
      let b : D ≤ D * X = le_times D X some in
      let far = p.1 in
      (λ h. omega arith, λ h. omega arith)
]

pub wide_by_reach : (g : Gathered) (ps : List TracePacket) (bits reach : ℕ) → Gathers g (numbers_of ps) → bits ≡ sum_by (λ p. p.bits) ps → reach ≡ max g.largest bits → 2 ^ 114 ≤ reach
    → 2 ^ 120 ≤ width_of ps
wide_by_reach g ps bits reach h b e l =
    let r = known_reach g.largest (bound_of (map (λ (p : TracePacket). p.time) ps)) bits reach h.largest e in
    far_is_wide (reach_of ps) (grid_of ps) (omega arith) h.dv.some

pub width_test : (g : Gathered) (ps : List TracePacket) (bits reach product : ℕ) → Gathers g (numbers_of ps) → bits ≡ sum_by (λ p. p.bits) ps → reach ≡ max g.largest bits → reach < 2 ^ 114
    → product ≡ min (64 * (reach + 1) * g.dv) (2 ^ 128 - 1) → IsTrue (nat_le (2 ^ 120) product) ↔ (2 ^ 120 ≤ width_of ps)
width_test g ps bits reach product h b e l p =
    let r : reach ≡ reach_of ps = exact_reach g.largest (bound_of (map (λ (q : TracePacket). q.time) ps)) bits reach h.largest e l ∙ ap (λ n. max (bound_of (map (λ (q : TracePacket). q.time) ps)) n) b in
    let t = capped_product (64 * (reach + 1)) g.dv (grid_of ps) (omega arith) h.dv in
    let same : 64 * (reach + 1) * grid_of ps ≡ width_of ps = ap (λ n. 64 * (n + 1) * grid_of ps) r in (
      λ y. subst (λ n. 2 ^ 120 ≤ n) same (t.0 (subst (λ n. 2 ^ 120 ≤ n) p (leb-true (2 ^ 120) product y))),
      λ w. le-leb (2 ^ 120) product (subst (λ n. 2 ^ 120 ≤ n) (sym p) (t.1 (subst (λ n. 2 ^ 120 ≤ n) (sym same) w))),
    )

-- where they are not wide the grid is known
pub grid_known : (g : Gathered) (ps : List TracePacket) → Gathers g (numbers_of ps) → width_of ps < 2 ^ 120 → g.dv ≡ grid_of ps
grid_known g ps h l =
    let t = le_times (grid_of ps) (64 * (reach_of ps + 1)) (omega arith) in
    h.dv.is ∙ elim (cap_cases (grid_of ps)) [ inl p ↦ p.0 | inr p ↦ absurd (let far = p.1 in omega arith) ]

-- ---- the packets of a flow in a trace
pub narrow_of : (flow grid : ℕ) (trace : SpecTrace) (own : List TracePacket) → IsTrace trace → own ≡ of_flow flow trace.packets → length (of_flow flow trace.packets) ≤ 1024
    → grid ≡ grid_of (of_flow flow trace.packets) → width_of (of_flow flow trace.packets) < 2 ^ 120 → IsNarrow grid own
narrow_of flow grid trace own h is few g narrow = subst (IsNarrow grid) (sym is) record {
  few = few;
  packets = All-filter (λ (p : TracePacket). nat_eq p.flow flow) IsTracePacket trace.packets h.packets;
  in_order = AllPairs-filter (λ (p q : TracePacket). p.time ≤ℚ q.time) (λ (p : TracePacket). nat_eq p.flow flow) trace.packets h.in_order;
  grid_is = g;
  narrow = narrow;
}
