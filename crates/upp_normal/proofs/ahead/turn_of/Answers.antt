use Rattle.std.proofs.Common.{subst, sym, ap, ◌∙◌, refl}
use Rattle.rational.specs.Rational.{◌*ℚ◌, ◌/ℚ◌, neg_ℚ}
use Rattle.rational.specs.Ratio.{IsSmall, SumFits}
use Rattle.rational.specs.Whole.{periods}
use Rattle.rational.proofs.Laws.{not_zero}
use Rattle.upp_normal.proofs.StretchTurns.{count_is}
use Rattle.upp_normal.proofs.StretchSizes.{turn_steps, some_period}
use Rattle.upp_normal.proofs.ahead.turn_of.Goals as goal

pub difference-past-requires : goal.difference-past-requires
difference-past-requires c =
    let w = c.requires.window in
    (turn_steps w.0 w.1 c.args.c.now c.args.rank c.args.period c.args.rise c.args.t c.requires.curve w.2 w.3 c.requires.tail (periods c.args.rank c.args.period c.args.t) refl).past

pub quotient-requires-clause-some : goal.quotient-requires-clause-some
quotient-requires-clause-some c = not_zero c.args.period (some_period c.args.c.now c.args.rank c.args.period c.args.rise c.requires.curve c.requires.tail).some

pub quotient-requires-clause-fits : goal.quotient-requires-clause-fits
quotient-requires-clause-fits c =
    let w = c.requires.window in
    subst (λ x. IsSmall (x /ℚ c.args.period)) (sym c.difference-past.ensures)
    (turn_steps w.0 w.1 c.args.c.now c.args.rank c.args.period c.args.rise c.args.t c.requires.curve w.2 w.3 c.requires.tail (periods c.args.rank c.args.period c.args.t) refl).count

pub product-by-requires : goal.product-by-requires
product-by-requires c =
    let w = c.requires.window in
    let e = count_is c.args.rank c.args.period c.args.t c.difference-past.result c.quotient.result c.whole_part-n.result c.difference-past.ensures c.quotient.ensures c.whole_part-n.ensures in
    subst (λ n. IsSmall (n *ℚ c.args.period)) (sym e)
    (turn_steps w.0 w.1 c.args.c.now c.args.rank c.args.period c.args.rise c.args.t c.requires.curve w.2 w.3 c.requires.tail (periods c.args.rank c.args.period c.args.t) refl).by

pub difference-requires : goal.difference-requires
difference-requires c =
    let w = c.requires.window in
    let e = count_is c.args.rank c.args.period c.args.t c.difference-past.result c.quotient.result c.whole_part-n.result c.difference-past.ensures c.quotient.ensures c.whole_part-n.ensures in
    subst (λ y. SumFits c.args.t (neg_ℚ y)) (sym (c.product-by.ensures ∙ ap (λ n. n *ℚ c.args.period) e))
    (turn_steps w.0 w.1 c.args.c.now c.args.rank c.args.period c.args.rise c.args.t c.requires.curve w.2 w.3 c.requires.tail (periods c.args.rank c.args.period c.args.t) refl).early

pub returns : goal.returns
returns c = record {
  count = count_is c.args.rank c.args.period c.args.t c.difference-past.result c.quotient.result c.whole_part-n.result c.difference-past.ensures c.quotient.ensures c.whole_part-n.ensures;
  by = c.product-by.ensures;
  early = c.difference.ensures;
}
