use Rattle.std.specs.Prelude.{Result, Ok, Err, IfOk}
use Rattle.std.proofs.Common.{◌≡◌, ◌∙◌, ap, length, map, subst, sym, arith}
use Rattle.net_model.specs.NetRoutes.{routes_of}
use Rattle.simulator.specs.run_measures.Gauges.{gauges_of, peak_of}
use Rattle.simulator.specs.run_measures.Peaks.{ArePeaks}
use Rattle.simulator.proofs.run_measures.LevelEnds.{peaks_at_end}
use Rattle.simulator.proofs.run_measures.levels.peaks.Goals as goal

-- what holds of the value where there is one
if_ok : {A E : Type 0} (P Q : A → Type 0) (r : Result A E) → ((x : A) → P x → Q x) → IfOk r P → IfOk r Q
if_ok P Q (Ok x) f h = f x h
if_ok P Q (Err e) f h = h

pub returns : goal.returns
returns c =
    let net = routes_of c.args.net.now in
    let run = c.args.run.now in
    let k = c.loop-place.place in
    let rows = c.loop-place.levels.rows.items in
    let steps : length c.run.inside.steps.items ≡ length run.steps = ap (λ r. length r.steps) c.run.view_is in
    let many = c.len-place-end.ensures in
    let long = c.run.inside.steps.ok.0 in
    let from = c.loop-place-test.false in
    let to = c.loop-place.auto.place-end in
    let last : k ≡ length run.steps = omega (arith, steps, many, long, from, to) in
    let at_end = peaks_at_end net run k (gauges_of rows) last c.loop-place.invariant.gauged in
    if_ok _ _ c.peaks_of.result
    (λ v e. subst (ArePeaks net run) (sym (e ∙ ap (λ xs. map (map peak_of) (gauges_of xs)) c.deref.ensures.value)) at_end)
    c.peaks_of.ensures
