use Rattle.std.proofs.Common.{inr, refl, subst}
use Rattle.input_texts.specs.table_text.Traces.{IsEarlier}
use Rattle.input_texts.proofs.table_text.traces.add_packet.Goals as goal

pub returns-then-is_earlier-clause-wrong : goal.returns-then-is_earlier-clause-wrong
returns-then-is_earlier-clause-wrong c = inr (refl, subst (λ ps. IsEarlier ps c.args.packet.time) c.deref.ensures.value (c.is_earlier.ensures.earlier c.if-is_earlier.true))
