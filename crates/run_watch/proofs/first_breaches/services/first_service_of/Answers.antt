use Rattle.std.proofs.Common.{◌≡◌, ◌∙◌, List, [], Option, refl, sym, subst, ap, pos}
use Rattle.std.proofs.lemmas.Result.{IfOk-weaker}
use Rattle.rational.specs.Rational.{int}
use Rattle.upp_curve.specs.Curves.{IsCurve}
use Rattle.run_laws.specs.declared.steps.Step.{Step}
use Rattle.run_laws.specs.Runs.{SpecRun}
use Rattle.run_laws.specs.Routes.{server_at}
use Rattle.run_laws.specs.Views.{view}
use Rattle.net_model.specs.NetRoutes.{routes_of}
use Rattle.net_model.specs.Views.{server_of}
use Rattle.net_cells.specs.Numbered.{service, service_of}
use Rattle.flow_watch.specs.watch_laws.Laws.{MayServe}
use Rattle.run_watch.specs.declared.found.Found.{Found}
use Rattle.run_watch.specs.Ramps.{RampsFit}
use Rattle.run_watch.specs.Seen.{arrivals_at, works_at}
use Rattle.run_watch.specs.Held.{IsHeld}
use Rattle.run_watch.specs.FirstOf.{IsBestBefore, IsIdleOn}
use Rattle.run_watch.specs.first_breaches.Firsts.{IsOne, HasService}
use Rattle.run_watch.proofs.first_breaches.Views.{watchable, sees_as}
use Rattle.curve_call.proofs.Applied.{if_ok}
use Rattle.run_watch.proofs.first_breaches.Parts.{service_one, may_serve, no_server, none_of_kept}
use Rattle.run_watch.proofs.first_breaches.services.first_service_of.Goals as goal

pub watch-requires-clause-arrivals : goal.watch-requires-clause-arrivals
watch-requires-clause-arrivals c =
    let steps_are = c.deref.ensures.value ∙ ap (λ (r : SpecRun). r.steps) c.run.view_is in
    let W = watchable c.args.net.now c.args.run.now c.args.firsts.now c.args.number c.requires.sizes.0 c.requires.lawful c.requires.sizes.1 c.requires.firsts c.requires.in_range in
    subst (λ (xs : List Step). RampsFit (int (pos 0)) (arrivals_at c.args.firsts.now c.args.number [] xs)) (sym steps_are) W.arrivals

pub watch-requires-clause-works : goal.watch-requires-clause-works
watch-requires-clause-works c =
    let steps_are = c.deref.ensures.value ∙ ap (λ (r : SpecRun). r.steps) c.run.view_is in
    let W = watchable c.args.net.now c.args.run.now c.args.firsts.now c.args.number c.requires.sizes.0 c.requires.lawful c.requires.sizes.1 c.requires.firsts c.requires.in_range in
    subst (λ (xs : List Step). RampsFit (int (pos 0)) (works_at c.args.number xs)) (sym steps_are) W.works

pub service_breach-requires : goal.service_breach-requires
service_breach-requires c =
    let net = c.args.net.now in
    let run = c.args.run.now in
    let w = c.in_ok-seen-in-Some.seen in
    let curve = c.in-Some.found.now.service in
    let steps_are = c.deref.ensures.value ∙ ap (λ (r : SpecRun). r.steps) c.run.view_is in
    let end_is = ap (λ (r : SpecRun). r.end) c.run.view_is in
    let W = watchable net run c.args.firsts.now c.args.number c.requires.sizes.0 c.requires.lawful c.requires.sizes.1 c.requires.firsts c.requires.in_range in
    let sees = sees_as w c.args.firsts.now c.args.number c.deref.result.now run.steps c.run.inside.end run.end steps_are end_is c.in_ok-seen-in-Some.ensures in
    let same : curve ≡ service net c.args.number = ap service_of c.in-Some.ensures.server in
    subst (IsHeld w) (sym same) (W.held w sees (subst IsCurve same c.keeps.ensures))

pub returns-in-None-clause-best : goal.returns-in-None-clause-best
returns-in-None-clause-best c = absurd (no_server c.args.net.now c.args.number c.requires.in_range c.in-None.ensures.server)

pub returns-in-None-clause-curve : goal.returns-in-None-clause-curve
returns-in-None-clause-curve c = absurd (no_server c.args.net.now c.args.number c.requires.in_range c.in-None.ensures.server)

pub returns-in_ok-seen-in-Some-clause-best : goal.returns-in_ok-seen-in-Some-clause-best
returns-in_ok-seen-in-Some-clause-best c =
    let net = c.args.net.now in
    let run = c.args.run.now in
    let s = c.args.number in
    let w = c.in_ok-seen-in-Some.seen in
    let curve = c.in-Some.found.now.service in
    let V = view (routes_of net) run s in
    let steps_are = c.deref.ensures.value ∙ ap (λ (r : SpecRun). r.steps) c.run.view_is in
    let end_is = ap (λ (r : SpecRun). r.end) c.run.view_is in
    let W = watchable net run c.args.firsts.now s c.requires.sizes.0 c.requires.lawful c.requires.sizes.1 c.requires.firsts c.requires.in_range in
    let sees = sees_as w c.args.firsts.now s c.deref.result.now run.steps c.run.inside.end run.end steps_are end_is c.in_ok-seen-in-Some.ensures in
    let same : curve ≡ service net s = ap service_of c.in-Some.ensures.server in
    let serves = may_serve (server_of c.in-Some.found.now) c.in-Some.ensures.kept c.keeps.ensures in
    let until = c.args.until.now in
    IfOk-weaker c.service_breach.result (IsBestBefore until (IsIdleOn w.end V s curve) run) (IsBestBefore until (IsOne net run 2 s) run)
    (λ (o : Option Found) (h : IsBestBefore until (IsIdleOn w.end V s curve) run o). service_one net run s curve w.end until o c.requires.in_range same sees.end h)
    (c.service_breach.ensures run (server_at (routes_of net) s) V (W.seen w sees) serves)

pub returns-in_ok-seen-in-Some-clause-curve : goal.returns-in_ok-seen-in-Some-clause-curve
returns-in_ok-seen-in-Some-clause-curve c =
    let same : c.in-Some.found.now.service ≡ service c.args.net.now c.args.number = ap service_of c.in-Some.ensures.server in
    if_ok {P = HasService c.args.net.now c.args.number} c.service_breach.result (subst IsCurve same c.keeps.ensures)

pub returns-then-is_told-clause-best : goal.returns-then-is_told-clause-best
returns-then-is_told-clause-best c =
    let net = c.args.net.now in
    let s = c.args.number in
    let same : c.in-Some.found.now.service ≡ service net s = ap service_of c.in-Some.ensures.server in
    let serves = subst MayServe same (may_serve (server_of c.in-Some.found.now) c.in-Some.ensures.kept c.keeps.ensures) in
    λ y h. absurd (none_of_kept net c.args.run.now s c.requires.lawful serves (c.requires.kept s c.requires.in_range (c.if-is_told.ensures.0 refl)) y h)

pub returns-then-is_told-clause-curve : goal.returns-then-is_told-clause-curve
returns-then-is_told-clause-curve c =
    let same : c.in-Some.found.now.service ≡ service c.args.net.now c.args.number = ap service_of c.in-Some.ensures.server in
    subst IsCurve same c.keeps.ensures
