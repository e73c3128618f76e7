use Rattle.std.proofs.Common.{inl, inr, ◌∙◌, arith}
use Rattle.std.proofs.lemmas.Bool.{cases_eq}
use Rattle.replies.proofs.Statuses.{code_at_most_nine}
use Rattle.netcalc_cli.proofs.top_call.give.Goals as goal

pub give-requires : goal.give-requires
give-requires g c = rw c.code.ensures c.requires

pub returns-clause-given : goal.returns-clause-given
returns-clause-given g c other =
    let given = c.give.ensures.given other in (given.0 ∙ c.code.ensures, given.1)

pub returns-clause-failed : goal.returns-clause-failed
returns-clause-failed g c four = c.give.ensures.failed four

pub returns-clause-status : goal.returns-clause-status
returns-clause-status g c =
    elim (cases_eq c.give.result 4) [
      | inl four ↦ omega (arith, four)
      | inr other ↦ rw ((c.give.ensures.given other).0 ∙ c.code.ensures) (code_at_most_nine c.args.status)
    ]
