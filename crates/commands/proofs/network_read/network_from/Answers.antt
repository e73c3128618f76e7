use Rattle.outcomes.proofs.Spending.{counts_all}
use Rattle.command_replies.proofs.FirstFaults.{on_told}
use Rattle.commands.proofs.network_read.network_from.Goals as goal

pub returns-in-Ok-clause-network : goal.returns-in-Ok-clause-network
returns-in-Ok-clause-network g c = record { reads = c.in-Ok.ensures.network; accepted = c.keeps.ensures }

pub returns-in-Err-clause-none : goal.returns-in-Err-clause-none
returns-in-Err-clause-none g c =
    on_told c.args.file.now c.args.bytes.now c.in-Err.fault c.on_fault.result c.in-Err.ensures.fault
    c.on_fault.ensures.reply c.on_fault.ensures.told

-- ---- steps
pub returns-in-Ok-clause-counts : goal.returns-in-Ok-clause-counts
returns-in-Ok-clause-counts g c =
    let spends = c.in-Ok.ensures.spends in
    record { rises = spends.rises; folds = λ n work. counts_all n _ _ _ (spends.counts n work).exact }

pub returns-in-Err-clause-counts : goal.returns-in-Err-clause-counts
returns-in-Err-clause-counts g c =
    let spends = c.in-Err.ensures.spends in
    record {
      rises = spends.rises;
      folds = λ n work. let k = spends.counts n work in record { exact = tt; least = k.least; most = k.most };
    }
