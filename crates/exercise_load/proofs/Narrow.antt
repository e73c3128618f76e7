-- The curves of a workload are within the limits of a curve by itself. Each is one of few, and its numbers are computed.
use Rattle.std.proofs.Common.{◌≡◌, ℕ, zero, suc, ◌+◌, ◌*◌, ◌^◌, ◌<◌, length, get_or, refl, sym, ◌∙◌, subst, arith, Bool, true}
use Rattle.std.specs.Prelude.{◌&&◌, nat_le, nat_lt}
use Rattle.std.specs.List.{list_all, range_with_len}
use Rattle.std.proofs.lemmas.Bool.{and_parts, leb-true, ltb-true}
use Rattle.std.proofs.lemmas.List.FromFn.{get_or-range_with_len, length-range_with_len}
use Rattle.rational.specs.Gauge.{common_den_from, size_up, bound_of}
use Rattle.min_plus.specs.Functions.{zero_q}
use Rattle.upp_curve.specs.Curve.{SpecCurve}
use Rattle.upp_curve.specs.Kinds.{rate_latency, stair}
use Rattle.upp_curve.specs.Steady.{steady, same_ext}
use Rattle.net_model.proofs.PlainNets.{each_passes}
use Rattle.upp_curve.proofs.Worked.{computing}
use Rattle.upp_limits.specs.Limits.{gauge_of, own_end, own_sizes, own_gauge, own_tally}
use Rattle.upp_limits.specs.OwnLimits.{IsWithinOwn}
use Rattle.upp_limits.specs.Periods.{own_period}
use Rattle.upp_limits.specs.Spans.{spans, copies_of, spans_below}
use Rattle.exercise_load.specs.declared.drawn.DrawnFlow.{DrawnFlow}
use Rattle.exercise_load.specs.Bounds.{IsDrawn}
use Rattle.exercise_load.specs.Drawn.{drawn_flows}
use Rattle.exercise_load.specs.Workloads.{whole}
use Rattle.exercise_load.specs.WorkloadLaws.{HasNarrowArrival, CurvesAreWithinLimits}
use Rattle.exercise_load.proofs.DrawnAre.{all_drawn}

-- what the proofs by computation open
unfoldable counting : ℕ
unfolding computing gauge_of own_end own_sizes own_period steady same_ext common_den_from size_up bound_of spans copies_of spans_below
counting = 0

is_narrow : SpecCurve → Bool
is_narrow c = nat_lt (own_gauge c) (2 ^ 120) && nat_le (own_tally c) (2 ^ 20)

narrow : (c : SpecCurve) → is_narrow c ≡ true → IsWithinOwn c
unfolding is_narrow
narrow c h =
    let parts = and_parts (nat_lt (own_gauge c) (2 ^ 120)) (nat_le (own_tally c) (2 ^ 20)) h in
    record { narrow = ltb-true (own_gauge c) (2 ^ 120) parts.0; few = leb-true (own_tally c) (2 ^ 20) parts.1 }

pub service_is_narrow : IsWithinOwn (rate_latency (whole 100) (whole 10))
unfolding is_narrow counting
service_is_narrow = narrow (rate_latency (whole 100) (whole 10)) refl

one_of : ℕ → ℕ → SpecCurve
one_of thousands doublings = stair (whole (1000 * (1 + thousands))) (whole (8000 * 2 ^ doublings)) zero_q

are_narrow : ℕ → Bool
are_narrow doublings = list_all (λ thousands. is_narrow (one_of thousands doublings)) (range_with_len 0 12)

once : are_narrow 0 ≡ true
unfolding are_narrow one_of is_narrow counting
once = refl

twice : are_narrow 1 ≡ true
unfolding are_narrow one_of is_narrow counting
twice = refl

four_times : are_narrow 2 ≡ true
unfolding are_narrow one_of is_narrow counting
four_times = refl

each : (doublings : ℕ) → doublings < 3 → are_narrow doublings ≡ true
each zero h = once
each (suc zero) h = twice
each (suc (suc zero)) h = four_times
each (suc (suc (suc d))) h = absurd (omega (arith, h))

stair_is_narrow : (thousands doublings : ℕ) → thousands < 12 → doublings < 3 → IsWithinOwn (one_of thousands doublings)
unfolding are_narrow
stair_is_narrow thousands doublings h k =
    let long : thousands < length (range_with_len 0 12) =
    subst (λ n. thousands < n) (sym (length-range_with_len 0 12)) h in
    let place : get_or (range_with_len 0 12) thousands 0 ≡ thousands =
    get_or-range_with_len 0 12 thousands 0 h ∙ (omega arith) in
    let test : ℕ → Bool = λ t. is_narrow (one_of t doublings) in
    narrow (one_of thousands doublings)
    (subst (λ t. is_narrow (one_of t doublings) ≡ true) place
    (each_passes test (range_with_len 0 12) (each doublings k) thousands 0 long))

pub arrival_is_narrow : (f : DrawnFlow) → IsDrawn f → HasNarrowArrival f
unfolding one_of
arrival_is_narrow f own =
    let made = stair_is_narrow own.thousands own.doublings own.few_thousands own.few_doublings in
    subst (λ p. IsWithinOwn (stair (whole p) (whole f.period) zero_q)) (sym own.packet)
    (subst (λ d. IsWithinOwn (stair (whole (1000 * (1 + own.thousands))) (whole d) zero_q)) (sym own.period) made)

pub narrow_curves : CurvesAreWithinLimits
narrow_curves seed = record {
  service = service_is_narrow;
  arrivals = λ k d l. arrival_is_narrow (get_or (drawn_flows seed) k d) (all_drawn seed k d l);
}
