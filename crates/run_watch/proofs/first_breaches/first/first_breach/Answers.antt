use Rattle.std.proofs.Common.{Option, Some, None, subst}
use Rattle.run_watch.specs.declared.found.Found.{Found}
use Rattle.run_watch.specs.FirstOf.{IsBest}
use Rattle.run_watch.specs.first_breaches.Firsts.{IsOfKinds}
use Rattle.run_watch.proofs.first_breaches.Parts.{tells_first}
use Rattle.run_watch.proofs.first_breaches.first.first_breach.Goals as goal

pub first_service-requires-clause-known : goal.first_service-requires-clause-known
first_service-requires-clause-known c = c.in_ok-known.ensures

pub returns-in-None : goal.returns-in-None
returns-in-None c =
    let net = c.args.net.now in
    let run = c.args.run.now in
    tells_first net run None c.requires.lawful c.keeps.ensures c.in_ok-found.ensures.curves (subst (λ (o : Option Found). IsBest (IsOfKinds net run 3) run o) c.in-None.is c.in_ok-found.ensures.best)

pub returns-in-Some : goal.returns-in-Some
returns-in-Some c =
    let net = c.args.net.now in
    let run = c.args.run.now in
    tells_first net run (Some c.in-Some.f) c.requires.lawful c.keeps.ensures c.in_ok-found.ensures.curves (subst (λ (o : Option Found). IsBest (IsOfKinds net run 3) run o) c.in-Some.is c.in_ok-found.ensures.best)
