use Rattle.std.proofs.Common.{subst, sym, ◌∙◌, ◌<◌, ◌^◌}
use Rattle.std.specs.Prelude.{nat_abs}
use Rattle.rational.specs.Ratio.{IsSmall}
use Rattle.upp_curve.specs.Curves.{IsCurve}
use Rattle.subadd_closure.proofs.LatticeCurves.{lattice_is_curve, lattice_made}
use Rattle.subadd_closure.proofs.lattices.lattice.Goals as goal

pub from_normal-requires : goal.from_normal-requires
from_normal-requires c =
    let small_d : IsSmall c.args.period = record {
      top = subst (λ n. nat_abs n < 2 ^ 127) c.numerator.ensures.value c.numerator.ensures.size;
      bottom = subst (λ n. n < 2 ^ 127) c.denominator.ensures.value c.denominator.ensures.size;
    } in
    let small_c : IsSmall c.args.rise = record {
      top = subst (λ n. nat_abs n < 2 ^ 127) c.numerator-2.ensures.value c.numerator-2.ensures.size;
      bottom = subst (λ n. n < 2 ^ 127) c.denominator-2.ensures.value c.denominator-2.ensures.size;
    } in
    subst IsCurve (sym (lattice_made c.zero-rank.result c.args.period c.args.rise c.in_ok-pieces.pieces.items c.zero-rank.ensures c.in_ok-pieces.ensures.items))
    (lattice_is_curve c.args.period c.args.rise c.requires.some small_d small_c c.requires.rate)

pub returns : goal.returns
returns c =
    c.from_normal.ensures ∙ lattice_made c.zero-rank.result c.args.period c.args.rise c.in_ok-pieces.pieces.items c.zero-rank.ensures c.in_ok-pieces.ensures.items
