use Rattle.std.proofs.Common.{◌≡◌, sym, ap, ◌∙◌, subst}
use Rattle.std.specs.Prelude.{[], ◌∷◌}
use Rattle.upp_limits.specs.Limits.{joined}
use Rattle.upp_limits.specs.Sized.{HeldBy}
use Rattle.upp_limits.specs.Gathered.{Gathers}
use Rattle.upp_limits.proofs.Gathering.{gathers_same}
use Rattle.upp_limits.proofs.JoinedNumbers.{joined_nothing}
use Rattle.upp_limits.proofs.SpanNumbers.{if_some_map}
use Rattle.net_model.specs.Views.{flows_of}
use Rattle.sim_bounds.specs.Gauge.{numbers_to, numbers_of_curves, arrivals_of}
use Rattle.sim_bounds.proofs.window_numbers.curves.with_flow.Goals as goal

pub returns-in-Some-clause-value : goal.returns-in-Some-clause-value
returns-in-Some-clause-value c =
    let e = c.args.end in
    let f = c.in-Some.there in
    let one : numbers_to e f.arrival ≡ numbers_of_curves e (arrivals_of (flows_of (c.args.flow.now ∷ []))) =
    sym (joined_nothing (numbers_to e f.arrival)) ∙ ap (λ x. numbers_of_curves e (arrivals_of (flows_of (x ∷ [])))) (sym c.in-Some.is) in
    if_some_map c.with_curve.result _ _ (λ r w n h. subst (λ k. Gathers r (joined n k)) one (w n h)) c.with_curve.ensures.value

pub returns-in-Some-clause-fits : goal.returns-in-Some-clause-fits
returns-in-Some-clause-fits c = λ z h.
    let e = c.args.end in
    let f = c.in-Some.there in
    c.with_curve.ensures.fits z
    (subst (HeldBy z e) (joined_nothing (numbers_to e f.arrival)) (subst (λ x. HeldBy z e (numbers_of_curves e (arrivals_of (flows_of (x ∷ []))))) c.in-Some.is h))

pub returns-in-None-clause-value : goal.returns-in-None-clause-value
returns-in-None-clause-value c = λ n h.
    subst (λ x. Gathers c.args.g (joined n (numbers_of_curves c.args.end (arrivals_of (flows_of (x ∷ [])))))) (sym c.in-None.is) (gathers_same c.args.g n h)
