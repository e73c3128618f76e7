use Rattle.run_watch.proofs.FirstFound.{service_none_of, service_some_of}
use Rattle.run_watch.proofs.found.service_breach.Goals as goal

pub returns-in-None : goal.returns-in-None
returns-in-None c = λ run s V S M. service_none_of run c.args.until.now c.args.w.now.end V c.args.server c.args.curve.now c.in_ok-first_idle.field-0 c.in-None.is (c.in_ok-first_idle.ensures s V S M)

pub returns-in-Some : goal.returns-in-Some
returns-in-Some c = λ run s V S M.
    service_some_of run c.args.until.now c.args.w.now.end V c.args.server c.args.curve.now c.in_ok-first_idle.field-0 c.in-Some.window.0 c.in-Some.window.1 c.in-Some.is (c.in_ok-first_idle.ensures s V S M)
