use Rattle.std.proofs.Common.{sym, ◌∙◌}
use Rattle.element_envelope.proofs.starts.goes_through.Goals as goal

pub returns : goal.returns
returns c h =
    let value = rw c.unwrap.ensures at c.value.ensures.value in
    sym (c.eq.ensures.same.0 h) ∙ value
