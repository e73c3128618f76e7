-- The curve of the steps is the least arrival curve of the packets.
use Rattle.std.specs.Prelude.{◌≡◌, ℕ, zero, suc, ◌<◌, ◌≤◌, ◌^◌, true, List, length, map, All, Result, Ok, Err, IfOk}
use Rattle.std.specs.List.Sorted.{IsPermutation}
use Rattle.std.proofs.Common.{arith, sym, ap, subst, ◌∙◌}
use Rattle.std.proofs.lemmas.List.{length-map}
use Rattle.std.proofs.lemmas.List.Sorted.{All-permutation}
use Rattle.rational.specs.Rational.{ℚ, ◌≤ℚ◌}
use Rattle.rational.specs.declared.Extended.TheVariants.{Fin}
use Rattle.rational.proofs.Over.{le_q_out}
use Rattle.min_plus.specs.Functions.{zero_q}
use Rattle.upp_curve.specs.Curve.{SpecCurve, value_at}
use Rattle.run_laws.specs.Cards.{whole}
use Rattle.net_model.specs.declared.trace.TracePacket.{TracePacket}
use Rattle.packet_windows.specs.declared.windows.Entry.{Entry}
use Rattle.packet_windows.specs.declared.windows.Window.{Window}
use Rattle.measure_curve.specs.Grids.{IsNarrow}
use Rattle.packet_windows.specs.Scans.{windows, LengthenFrom, steps_after, no_window}
use Rattle.measure_curve.specs.Scans.{entry_of}
use Rattle.measure_curve.specs.Staircases.{staircase, Fit, TellRises}
use Rattle.measure_curve.specs.Windows.{IsLeastArrival}
use Rattle.measure_curve.proofs.Tests.{most, level}
use Rattle.measure_curve.proofs.WindowSums.{near, near_down, is_most}
use Rattle.measure_curve.proofs.StepLevels.{steps_level, are_steps, most_moved, steps_short}
use Rattle.measure_curve.proofs.Stairs.{value_level, time_zero}
use Rattle.measure_curve.proofs.Rising.{tell_rises}
use Rattle.measure_curve.proofs.Widths.{stand, windows_short, entries_small}

-- windows of the packets, put in the order of their lengths
pub record AreSorted (grid : ℕ) (ps : List TracePacket) (ws : List Window) : Type 0 where
  pub moved : IsPermutation (windows (map (entry_of grid) ps)) ws
  pub ordered : LengthenFrom 0 ws

-- the most bits are the level of the steps
most_level : (d : ℕ) (x : ℚ) (ps : List TracePacket) (ws : List Window) → zero_q ≤ℚ x → AreSorted (suc d) ps ws
    → level (near (suc d) x) 0 (steps_after no_window ws) ≡ most (near (suc d) x) (windows (map (entry_of (suc d)) ps))
most_level d x ps ws h s =
    let fits = near (suc d) x in
    let here : fits 0 ≡ true = rw time_zero (le_q_out zero_q x h) in
    let a = steps_level fits (near_down d x) 0 no_window ws s.ordered here in
    let b = most_moved fits (windows (map (entry_of (suc d)) ps)) ws s.moved in
    omega arith

pub measured : (grid : ℕ) (ps : List TracePacket) (ws : List Window) → IsNarrow grid ps → AreSorted grid ps ws
    → IsLeastArrival ps (value_at (staircase grid (steps_after no_window ws)))
measured zero ps ws h s = absurd (let k = (stand zero ps h).some in omega arith)
measured (suc d) ps ws h s = λ x l.
    let S = stand (suc d) ps h in
    let v = most (near (suc d) x) (windows (map (entry_of (suc d)) ps)) in (
      v,
      value_level d (steps_after no_window ws) x (are_steps ws s.ordered) l ∙ ap (λ n. Fin (whole n)) (most_level d x ps ws l s),
      is_most d ps x S.on S.up,
    )

-- ---- the steps fit
pub steps_fit : (grid : ℕ) (ps : List TracePacket) (ws : List Window) → IsNarrow grid ps → AreSorted grid ps ws → Fit grid (steps_after no_window ws)
steps_fit grid ps ws h s =
    let S = stand grid ps h in
    let es = map (entry_of grid) ps in
    let small : length es ≤ 1024 = (let e = length-map ps (entry_of grid) in let f = h.few in omega arith) in
    let P : Window → Type 0 = λ w. (w.length < 2 ^ 127) × (w.bits < 2 ^ 64) in
    let all = windows_short es (entries_small grid ps S h.packets) in
    let wide : All P (windows es) = (λ k d l. let w = all k d l in (let a = w.0 in omega arith, let b = w.1 in omega arith)) in
    record {
      some = S.some;
      narrow = let n = S.narrow in omega arith;
      steps = are_steps ws s.ordered;
      narrow_steps = steps_short P no_window ws (omega arith, omega arith) (All-permutation P (windows es) ws s.moved wide);
    }

-- ---- as the calls give them
pub sorted_of : (grid : ℕ) (ps : List TracePacket) (ds es : List Entry) (vs ws : List Window) → ds ≡ es → es ≡ map (entry_of grid) ps → vs ≡ windows ds → IsPermutation vs ws
    → LengthenFrom 0 ws → AreSorted grid ps ws
sorted_of grid ps ds es vs ws a b e moved ordered = record {
  moved = subst (λ (xs : List Window). IsPermutation xs ws) (e ∙ ap windows (a ∙ b)) moved;
  ordered = ordered;
}

-- a curve that is that of the steps
pub measured_ok : {E : Type 0} (grid : ℕ) (ps : List TracePacket) (ws ss : List Window) (r : Result SpecCurve E) → IsNarrow grid ps → AreSorted grid ps ws → ss ≡ steps_after no_window ws
    → IfOk r (λ c. c ≡ staircase grid ss) → IfOk r (λ c. IsLeastArrival ps (value_at c))
measured_ok grid ps ws ss (Ok c) h s e is =
    subst (λ (k : SpecCurve). IsLeastArrival ps (value_at k)) (sym (is ∙ ap (staircase grid) e)) (measured grid ps ws h s)
measured_ok grid ps ws ss (Err e) h s k is = tt

pub rises_ok : {E : Type 0} (grid : ℕ) (ps : List TracePacket) (ws ss : List Window) (r : Result SpecCurve E) → IsNarrow grid ps → AreSorted grid ps ws → ss ≡ steps_after no_window ws
    → IfOk r (λ c. c ≡ staircase grid ss) → IfOk r (λ c. TellRises (value_at c) c.pieces)
rises_ok grid ps ws ss (Ok c) h s e is =
    subst (λ (k : SpecCurve). TellRises (value_at k) k.pieces) (sym (is ∙ ap (staircase grid) e))
    (tell_rises grid (steps_after no_window ws) (are_steps ws s.ordered) (stand grid ps h).some)
rises_ok grid ps ws ss (Err e) h s k is = tt
