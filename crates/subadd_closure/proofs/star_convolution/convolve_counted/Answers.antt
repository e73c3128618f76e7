use Rattle.std.proofs.Common.{◌≡◌, ◌+◌, arith, refl, inl, inr}
use Rattle.upp_limits.specs.declared.op_kind.OpFault.TheVariants.{TooMany, TooWide, NoMemory}
use Rattle.outcomes.proofs.Spending.{counts_all, spends_stopped, spends_so, spends_made, spends_fault}
use Rattle.subadd_closure.proofs.star_convolution.convolve_counted.Goals as goal

pub returns-then-at_once-clause-spends : goal.returns-then-at_once-clause-spends
returns-then-at_once-clause-spends g c =
    let call = c.convolve_stars in
    let one : call.new.steps ≡ c.args.steps.now + 1 = call.ensures.count in
    spends_so 1 c.args.steps.now call.new.steps call.result (counts_all 1 c.args.steps.now call.new.steps call.result one)
    (λ is. inl (c.if-at_once.true, omega (arith, one)))

pub returns-in-Ok-clause-spends : goal.returns-in-Ok-clause-spends
returns-in-Ok-clause-spends g c = spends_made 1 (omega arith)

pub returns-in-Err-NoMemory-clause-spends : goal.returns-in-Err-NoMemory-clause-spends
returns-in-Err-NoMemory-clause-spends g c = spends_stopped _ NoMemory refl (λ lack n none. inr none)

pub returns-in-Err-TooMany-clause-spends : goal.returns-in-Err-TooMany-clause-spends
returns-in-Err-TooMany-clause-spends g c =
    spends_fault 1 _ _ _ TooMany refl (omega arith) (omega arith) (λ lack. absurd (let bad : ⊥ = cc in bad))

pub returns-in-Err-TooWide-clause-spends : goal.returns-in-Err-TooWide-clause-spends
returns-in-Err-TooWide-clause-spends g c =
    spends_fault 1 _ _ _ TooWide refl (omega arith) (omega arith) (λ lack. absurd (let bad : ⊥ = cc in bad))
