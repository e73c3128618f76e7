use Rattle.std.specs.String.{string_bytes}
use Rattle.std.proofs.Common.{Err, refl, ap, subst}
use Rattle.upp_limits.specs.declared.own_limits.OverLimit.TheVariants as limits
use Rattle.outcomes.proofs.Spending.{spends_answer, spends_refusal}
use Rattle.net_draft.specs.declared.fault.DraftFault.TheVariants.{NoMemory}
use Rattle.net_text.specs.Closing.{KeepsClosing}
use Rattle.net_text.proofs.ClosedArrivals.{limit_fails, limit_is_told}
use Rattle.net_text.proofs.arrivals.closure_of.Goals as goal

pub returns-in-Err-TooMany-clause-over : goal.returns-in-Err-TooMany-clause-over
returns-in-Err-TooMany-clause-over g c =
    limit_fails c.args.curve.now limits.TooMany (string_bytes c.args.place) c.limit_fault.result c.limit_fault.ensures
    (subst (λ x. KeepsClosing c.args.curve.now (Err x)) c.in-Err-TooMany.field-0-is c.in-Err-TooMany.ensures.answer)

pub returns-in-Err-TooWide-clause-over : goal.returns-in-Err-TooWide-clause-over
returns-in-Err-TooWide-clause-over g c =
    limit_fails c.args.curve.now limits.TooWide (string_bytes c.args.place) c.limit_fault-in-Err-TooWide.result c.limit_fault-in-Err-TooWide.ensures
    (subst (λ x. KeepsClosing c.args.curve.now (Err x)) c.in-Err-TooWide.field-0-is c.in-Err-TooWide.ensures.answer)

-- ---- what is counted, and want of memory
pub returns-in-Ok-clause-spends : goal.returns-in-Ok-clause-spends
returns-in-Ok-clause-spends g c = spends_answer c.in-Ok.ensures.spends (λ n is. is)

pub returns-in-Err-TooMany-clause-spends : goal.returns-in-Err-TooMany-clause-spends
returns-in-Err-TooMany-clause-spends g c =
    spends_refusal c.in-Err-TooMany.ensures.spends _ c.limit_fault.result refl (λ n is. is)
    (λ told. absurd (limit_is_told limits.TooMany (string_bytes c.args.place) c.limit_fault.result c.limit_fault.ensures (ap Err told)))
    (λ n ends. ends)

pub returns-in-Err-TooWide-clause-spends : goal.returns-in-Err-TooWide-clause-spends
returns-in-Err-TooWide-clause-spends g c =
    let fault = c.limit_fault-in-Err-TooWide in
    spends_refusal c.in-Err-TooWide.ensures.spends _ fault.result refl (λ n is. is)
    (λ told. absurd (limit_is_told limits.TooWide (string_bytes c.args.place) fault.result fault.ensures (ap Err told))) (λ n ends. ends)

pub returns-in-Err-NoMemory-clause-spends : goal.returns-in-Err-NoMemory-clause-spends
returns-in-Err-NoMemory-clause-spends g c =
    spends_refusal c.in-Err-NoMemory.ensures.spends _ NoMemory refl (λ n is. is) (λ told. c.in-Err-NoMemory.field-0-is) (λ n ends. ends)
