use Rattle.std.proofs.Common.{ap, arith, refl, inr, subst, sym}
use Rattle.net_model.specs.NetRoutes.{routes_of}
use Rattle.run_laws.specs.Lawful.{run_start, after_run}
use Rattle.run_check.specs.broken_laws.FirstBroken.{IsUnfinished}
use Rattle.run_check.proofs.broken_laws.WholeRuns.{unbroken_is_lawful}
use Rattle.run_check.proofs.Along.{behind}
use Rattle.run_check.proofs.SiteSteps.{untrue}
use Rattle.run_check.proofs.first.first_broken.Goals as goal

pub returns-then-is_unfinished : goal.returns-then-is_unfinished
returns-then-is_unfinished c =
    let net = routes_of c.args.net.now in
    let run = c.args.run.now in
    let b = behind net run c.loop-place.place c.loop-place.walk c.loop-place.invariant (omega (arith, c.row_count-rows.ensures, c.loop-place-test.false)) in
    inr record {
      law_is = refl;
      place = omega (arith, c.row_count-rows.ensures);
      none = b.none;
      unfinished = subst (λ e. IsUnfinished e (after_run net (run_start net) run.steps)) (ap (λ r. r.end) c.run.view_is)
          ((c.is_unfinished.ensures net b.room b.grid b.most run.steps (after_run net (run_start net) run.steps) b.keeps).0 c.if-is_unfinished.true);
    }

pub returns : goal.returns
returns c =
    let net = routes_of c.args.net.now in
    let run = c.args.run.now in
    let b = behind net run c.loop-place.place c.loop-place.walk c.loop-place.invariant (omega (arith, c.row_count-rows.ensures, c.loop-place-test.false)) in
    unbroken_is_lawful net run b.walkable.paths c.requires.recorded b.none
    (λ u. untrue c.is_unfinished.result ((c.is_unfinished.ensures net b.room b.grid b.most run.steps (after_run net (run_start net) run.steps) b.keeps).1
    (subst (λ e. IsUnfinished e (after_run net (run_start net) run.steps)) (sym (ap (λ r. r.end) c.run.view_is)) u)) c.if-is_unfinished.false)
