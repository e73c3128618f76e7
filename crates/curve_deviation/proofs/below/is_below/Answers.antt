use Rattle.curve_deviation.proofs.Lesser.{lesser_is}
use Rattle.curve_deviation.proofs.below.is_below.Goals as goal

pub returns : goal.returns
returns c = λ other least.
    let both = lesser_is c.args.f.now other c.args.lesser.now least in
    (λ h. both.0 (c.equal.ensures.0 h), λ below. c.equal.ensures.1 (both.1 below))
