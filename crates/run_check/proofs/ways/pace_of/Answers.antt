use Rattle.std.proofs.Common.{sym, ◌∙◌}
use Rattle.net_model.specs.Views.{server_of}
use Rattle.run_check.proofs.Started.{no_pace, past_pace, rate_pace}
use Rattle.run_check.proofs.ways.pace_of.Goals as goal

pub returns-then-version-ne2 : goal.returns-then-version-ne2
returns-then-version-ne2 c = no_pace c.args.net.now c.args.number (λ e. c.if-version-ne2.true (c.version.ensures.version ∙ e))

pub returns-in-Some : goal.returns-in-Some
returns-in-Some c =
    rate_pace c.args.net.now c.args.number (server_of c.in-Some.found.now) (sym c.version.ensures.version ∙ c.if-version-ne2.false)
    (sym (rw c.in-Some.is at c.server.ensures.server))

pub returns-in-None : goal.returns-in-None
returns-in-None c =
    past_pace c.args.net.now c.args.number (sym (rw c.in-None.is at c.server.ensures.server))
