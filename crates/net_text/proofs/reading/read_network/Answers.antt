use Rattle.std.proofs.Common.{refl}
use Rattle.outcomes.proofs.Spending.{spends_answer, spends_refusal}
use Rattle.net_text.proofs.Wanting.{told_wants}
use Rattle.net_text.proofs.reading.read_network.Goals as goal

pub returns-in-Ok-clause-spends : goal.returns-in-Ok-clause-spends
returns-in-Ok-clause-spends g c = spends_answer c.in-Ok.ensures.spends (λ n is. is)

pub returns-in-Err-clause-spends : goal.returns-in-Err-clause-spends
returns-in-Err-clause-spends g c =
    spends_refusal c.in-Err.ensures.spends _ c.told.result.kind refl (λ n is. is)
    (told_wants c.args.text.now c.in-Err.fault c.told.result c.told.ensures c.in-Err.ensures.fault) (λ n ends. ends)
