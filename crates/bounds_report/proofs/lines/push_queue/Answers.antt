use Rattle.std.proofs.Common.{◌++◌}
use Rattle.std.specs.Fmt.{decimal}
use Rattle.std.specs.Prelude.{codes}
use Rattle.std.specs.String.{string_bytes}
use Rattle.bounds_report.specs.Lines.{queue_line}
use Rattle.bounds_report.specs.Numbers.{microseconds, or_none, thousandths}
use Rattle.bounds_report.proofs.Shown.{told}
use Rattle.bounds_report.proofs.lines.push_queue.Goals as goal

pub returns : goal.returns
unfolding queue_line
returns c =
    let row = c.args.row.now in
    let load = or_none thousandths row.load in
    let delay = or_none microseconds row.delay in
    let backlog = or_none decimal row.backlog in
    let from_backlog = codes " backlog " ++ (backlog ++ codes "\n") in
    let from_delay = codes " delay " ++ (delay ++ from_backlog) in
    let from_load = codes " load " ++ (load ++ from_delay) in
    let from_queue = codes " " ++ (decimal row.queue ++ from_load) in
    told (string_bytes c.args.into.now) (codes "port ") row.name.now from_queue c.in_ok-push_told.ensures
    (told (string_bytes c.push_told.new.into) (codes " ") (decimal row.queue) from_load c.in_ok-push_number.ensures
    (told (string_bytes c.push_number.new.into) (codes " load ") load from_delay c.in_ok-push_load.ensures
    (told (string_bytes c.push_load.new.into) (codes " delay ") delay from_backlog c.in_ok-push_time.ensures
    (told (string_bytes c.push_time.new.into) (codes " backlog ") backlog (codes "\n") c.in_ok-push_count.ensures c.in_ok-push_str.ensures.bytes))))
