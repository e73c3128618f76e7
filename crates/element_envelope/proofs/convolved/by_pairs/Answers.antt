use Rattle.std.proofs.Common.{◌∙◌}
use Rattle.element_envelope.proofs.WindowConvolution.{elements_room, ok_convolves}
use Rattle.element_envelope.proofs.convolved.by_pairs.Goals as goal

pub envelope-requires : goal.envelope-requires
envelope-requires c =
    elements_room c.args.from c.args.end c.args.f.now c.args.g.now c.deref.result.now c.deref-2.result.now (c.deref.ensures.value ∙ c.in_ok-xs.ensures) (c.deref-2.ensures.value ∙ c.in_ok-ys.ensures) c.requires

pub returns : goal.returns
returns c =
    ok_convolves c.envelope.result c.args.from c.args.end c.args.f.now c.args.g.now c.deref.result.now c.deref-2.result.now (c.deref.ensures.value ∙ c.in_ok-xs.ensures) (c.deref-2.ensures.value ∙ c.in_ok-ys.ensures) c.requires c.envelope.ensures
