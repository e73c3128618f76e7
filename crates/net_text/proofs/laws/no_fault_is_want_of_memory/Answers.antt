use Rattle.net_text.proofs.FirstFaults.{no_fault_is_want_of_memory}
use Rattle.net_text.proofs.laws.no_fault_is_want_of_memory.Goals as goal

pub returns : goal.returns
returns c = no_fault_is_want_of_memory
