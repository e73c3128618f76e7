use Rattle.element_envelope.proofs.ElementSizes.{not_wide}
use Rattle.element_envelope.proofs.pair.joined.Goals as goal

pub unreachable-requires : goal.unreachable-requires
unreachable-requires c =
    let r = c.requires.room in
    not_wide r.sizes r.end c.args.a.now c.args.b.now c.in-Err.field-0 r.limited r.left r.right c.in-Err.ensures.wide
