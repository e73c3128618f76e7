use Rattle.upp_curve.specs.affine_segment.Elements.{element_value, part_value}
use Rattle.rational.specs.Extended.{min_ext}
use Rattle.curve_conv.proofs.PairStretches.{second_proper}
use Rattle.curve_conv.proofs.elements.joined_stretch.Goals as goal

pub part_stretch-second-requires-clause-proper : goal.part_stretch-second-requires-clause-proper
part_stretch-second-requires-clause-proper c = let j = c.args.j.now in second_proper j.first j.join j.second c.requires.adjoined

pub lower-rest-requires : goal.lower-rest-requires
lower-rest-requires c =
    let w = c.requires.room in
    (w.0, w.1, w.2, c.part_stretch-join.ensures.sizes w.0 w.1 w.2 w.3.join, c.part_stretch-second.ensures.sizes w.0 w.1 w.2 w.3.second)

pub lower-requires : goal.lower-requires
lower-requires c =
    let w = c.requires.room in (
      w.0,
      w.1,
      w.2,
      c.element_stretch-first.ensures.sizes w.0 w.1 w.2 w.3.first,
      c.lower-rest.ensures.sizes w.0 w.1 w.2 (c.part_stretch-join.ensures.sizes w.0 w.1 w.2 w.3.join) (c.part_stretch-second.ensures.sizes w.0 w.1 w.2 w.3.second),
    )

pub returns-clause-goes : goal.returns-clause-goes
returns-clause-goes c =
    let j = c.args.j.now in
    c.lower.ensures.goes (element_value j.first) (λ u. min_ext (part_value j.join u) (part_value j.second u)) c.element_stretch-first.ensures.goes
    (c.lower-rest.ensures.goes (part_value j.join) (part_value j.second) c.part_stretch-join.ensures.goes c.part_stretch-second.ensures.goes)

pub returns-clause-sizes : goal.returns-clause-sizes
returns-clause-sizes c z end T J =
    c.lower.ensures.sizes z end T (c.element_stretch-first.ensures.sizes z end T J.first)
    (c.lower-rest.ensures.sizes z end T (c.part_stretch-join.ensures.sizes z end T J.join) (c.part_stretch-second.ensures.sizes z end T J.second))
