use Rattle.curve_library.proofs.SignTests.{turned}
use Rattle.curve_library.proofs.signs.is_positive.Goals as goal

pub returns : goal.returns
returns c =
    let t = turned c.args.x c.negated.result c.negated.ensures in
    (λ h. t.0 (c.is_negative.ensures.0 h), λ h. c.is_negative.ensures.1 (t.1 h))
