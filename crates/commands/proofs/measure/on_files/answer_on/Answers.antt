use Rattle.std.proofs.Common.{inl}
use Rattle.command_replies.specs.View.{status_of}
use Rattle.commands.proofs.FileAnswers.{said_of_network, said_of_none, none_told, no_net}
use Rattle.commands.proofs.FileCounts.{folds_made, folds_without}
use Rattle.commands.proofs.measure.Counting.{counts_without}
use Rattle.commands.proofs.measure.on_files.answer_on.Goals as goal

pub returns-in-Ok-clause-reply : goal.returns-in-Ok-clause-reply
returns-in-Ok-clause-reply g c =
    said_of_network _ _ c.in-Ok.network _ c.on_rows.result c.in-Ok.ensures.network c.on_rows.ensures.reply

pub returns-in-Ok-clause-counts : goal.returns-in-Ok-clause-counts
returns-in-Ok-clause-counts g c =
    record {
      between = c.network_from.new.steps;
      folds = folds_made c.args.net_bytes.now _ c.args.steps.now c.network_from.new.steps c.in-Ok.ensures.counts;
      burst = c.on_rows.ensures.counts;
    }

pub returns-in-Err-clause-reply : goal.returns-in-Err-clause-reply
returns-in-Err-clause-reply g c =
    said_of_none c.args.net_file.now c.args.net_bytes.now _ c.in-Err.told c.in-Err.ensures.none

pub returns-in-Err-clause-counts : goal.returns-in-Err-clause-counts
returns-in-Err-clause-counts g c =
    counts_without c.args.net_bytes.now (status_of c.in-Err.told) c.args.steps.now c.network_from.new.steps
    (folds_without c.args.net_bytes.now (status_of c.in-Err.told) c.args.steps.now c.network_from.new.steps c.in-Err.ensures.counts
    (no_net c.args.net_file.now c.args.net_bytes.now c.in-Err.told c.in-Err.ensures.none))
    (λ zero. none_told c.args.net_file.now c.args.net_bytes.now c.in-Err.told c.in-Err.ensures.none (inl zero))
