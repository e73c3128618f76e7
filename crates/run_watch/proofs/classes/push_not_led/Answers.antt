use Rattle.std.proofs.Common.{List, refl, subst}
use Rattle.rational.specs.Rational.{ℚ}
use Rattle.run_watch.specs.Classes.{IsLed}
use Rattle.run_watch.proofs.ClassTimes.{led_now, led_pushed}
use Rattle.run_watch.proofs.classes.push_not_led.Goals as goal

pub returns-in_ok-push : goal.returns-in_ok-push
returns-in_ok-push c = led_pushed c.args.side c.args.end c.args.period c.args.found.now.items c.push.new.self.items c.args.t c.in_ok-push.ensures.items

pub returns-else-not-last_leads : goal.returns-else-not-last_leads
returns-else-not-last_leads c =
    led_now c.args.side c.args.end c.args.period c.args.found.now.items c.args.t
    (subst (λ (xs : List ℚ). IsLed c.args.side c.args.end c.args.period xs c.args.t) c.deref.ensures.value (c.if-not-last_leads.ensures refl))
