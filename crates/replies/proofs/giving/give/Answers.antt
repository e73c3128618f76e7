use Rattle.std.proofs.Common.{refl}
use Rattle.replies.proofs.giving.give.Goals as goal

pub returns-in-Ok-clause-given : goal.returns-in-Ok-clause-given
returns-in-Ok-clause-given g c other = (refl, record { put = c.put.ensures.puts; written = c.in-Ok.ensures.ok })

pub returns-in-Ok-clause-failed : goal.returns-in-Ok-clause-failed
returns-in-Ok-clause-failed g c four = absurd (c.requires four)

pub returns-in-Err-clause-given : goal.returns-in-Err-clause-given
returns-in-Err-clause-given g c other = absurd (other refl)

pub returns-in-Err-clause-failed : goal.returns-in-Err-clause-failed
returns-in-Err-clause-failed g c four = record {
  rose = c.in-Err.ensures.failed;
  front = record { put = c.put.ensures.puts; front = c.in-Err.ensures.front };
}
