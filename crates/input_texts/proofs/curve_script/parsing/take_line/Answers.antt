use Rattle.std.proofs.Common.{sym, subst, inl, inr, ⊎_elim, ◌∙◌}
use Rattle.input_texts.specs.curve_script.Lines.{HasFault}
use Rattle.input_texts.proofs.curve_script.parsing.take_line.Goals as goal

pub returns-in-Err-clause-fault : goal.returns-in-Err-clause-fault
returns-in-Err-clause-fault c =
    ⊎_elim
    (λ memory. inl (c.fault_at.ensures.memory memory))
    (λ wrong.
    let other = c.fault_at.ensures.other (λ memory. subst (λ k. HasFault k c.args.line.now) memory wrong) in
    inr (sym c.is_skipped.ensures ∙ c.if-is_skipped.false, other.1, inl (subst (λ k. HasFault k c.args.line.now) (sym other.0) wrong)))
    c.in-Err.ensures.fault
