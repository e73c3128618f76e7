use Rattle.std.proofs.Common.{ap, ◌∙◌, subst, Option}
use Rattle.std.proofs.lemmas.Result.{err_from_is_err_and}
use Rattle.upp_curve.specs.Kinds.{rate_latency}
use Rattle.curve_library.specs.Causes.{OneNegative, KeepsOwnLimits}
use Rattle.upp_curve.specs.Curve.{SpecCurve}
use Rattle.net_model.specs.Networks.{NetServer}
use Rattle.net_model.specs.declared.server.ServiceKind.TheVariants.{Latency}
use Rattle.net_model.specs.Views.{server_of}
use Rattle.net_edits.specs.Edited.{MadeCurve}
use Rattle.net_edits.specs.Replies.{MakesNone, MadeCurveFits}
use Rattle.net_edits.proofs.Signs.{own_of}
use Rattle.net_edits.proofs.Making.{none_below}
use Rattle.net_edits.proofs.service.with_latency.Goals as goal
use Rattle.net_edits.proofs.service.with_latency.Goals.{After-rate_latency-made}

-- the service that is asked for, and what it is refused for
abbrev made_of : After-rate_latency-made → SpecCurve
made_of c = rate_latency c.args.server.now.rate c.args.latency

own : (c : After-rate_latency-made) → KeepsOwnLimits (made_of c) c.rate_latency-made.result
own c =
    own_of (OneNegative c.args.server.now.rate c.args.latency) ⊥ (made_of c) c.rate_latency-made.result
    (none_below c.args.server.now.rate c.args.latency c.requires.kept.rate c.requires.latency) (λ h. h) c.rate_latency-made.ensures.causes

pub within_limits-requires : goal.within_limits-requires
within_limits-requires c =
    let here = (goal.at.within_limits-requires c).After-rate_latency-made in (made_of here, own here)

pub returns-in_err-service : goal.returns-in_err-service
returns-in_err-service c =
    let p = err_from_is_err_and c.from_residual.result c.from_residual.ensures.1 in
    let here = (goal.at.returns-in_err-service c).After-rate_latency-made in
    rw (p.1, p.2)
    (subst (λ (m : Option MadeCurve). MakesNone m c.in_err-service.field-0.0) (c.first_queue.ensures (made_of here))
    (c.in_err-service.ensures (made_of here) (own here)))

pub returns : goal.returns
returns c =
    let here = (goal.at.returns c).After-rate_latency-made in
    let made = c.in_ok-service.ensures (made_of here) (own here) in (
      ap (λ (s : NetServer). record s { kind = Latency c.args.latency; service = c.in_ok-service.service }) c.in_ok-changed.ensures
          ∙ ap (λ (x : SpecCurve). record (server_of c.args.server.now) { kind = Latency c.args.latency; service = x }) made.0,
      subst MadeCurveFits (c.first_queue.ensures (made_of here)) made.1,
    )

pub returns-in_err-changed : goal.returns-in_err-changed
returns-in_err-changed c =
    let p = err_from_is_err_and c.from_residual-in_err-changed.result c.from_residual-in_err-changed.ensures.1 in
    let here = (goal.at.returns-in_err-changed c).After-rate_latency-made in
    rw (p.1, p.2)
    (subst MadeCurveFits (c.first_queue.ensures (made_of here)) (c.in_ok-service.ensures (made_of here) (own here)).1)
