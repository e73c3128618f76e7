use Rattle.fraction128.proofs.ReadBack.{reads_back}
use Rattle.fraction128.proofs.laws.prints_what_it_reads.Goals as goal

pub returns : goal.returns
returns c = λ x h. reads_back x h
