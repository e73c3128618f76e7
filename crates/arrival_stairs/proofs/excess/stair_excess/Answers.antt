use Rattle.std.proofs.Common.{ap, ◌∙◌, sym, subst, min, ℕ}
use Rattle.arrival_stairs.specs.Ahead.{IsAheadUpTo}
use Rattle.arrival_stairs.proofs.Past.{excess_of}
use Rattle.arrival_stairs.proofs.excess.stair_excess.Goals as goal

pub returns : goal.returns
returns c = λ bundles are steps_are slow is end.
    excess_of bundles c.args.steps.now c.args.rate c.args.most c.args.walk.now c.tail-later.result c.min.result are steps_are slow is end c.tail-later.ensures
    record {
      walked = c.ahead-walked.result;
      ahead =
          let e = c.ahead-walked.ensures in
          subst (λ (n : ℕ). IsAheadUpTo bundles c.args.rate c.args.walk.now.end n) (sym e) (is.greatest c.args.rate);
      later = c.tail-later.result;
      tail = c.tail-later.ensures;
      is = c.min.ensures ∙ ap (λ n. min n c.args.most) c.greater.ensures;
    }
