use Rattle.std.specs.Fmt.{decimal}
use Rattle.std.proofs.Common.{◌≡◌, ◌++◌, List, ℕ, map, codes, append_assoc}
use Rattle.std.proofs.lemmas.Result.{on_ok_weaker}
use Rattle.net_cells.specs.declared.cell.Kind.TheVariants.{QueueBacklog}
use Rattle.report_text.specs.Shown.{shown}
use Rattle.report_text.specs.RunReport.{bits_text, peak_at, peak_line}
use Rattle.report_text.proofs.run_lines.push_peak_line.Goals as goal

-- two texts, words and a text, and an end
joined : (old a b w s n first second third last : List ℕ) → first ≡ old ++ a → second ≡ first ++ b → third ≡ second ++ (w ++ s) → last ≡ third ++ n
    → last ≡ old ++ (a ++ b ++ w ++ s ++ n)
joined old a b w s n first second third last h k l m = rw (m, l, k, h) (simp append_assoc)

pub returns : goal.returns
unfolding peak_line
returns g c =
    let bits = bits_text (peak_at (map (λ row. row.items) c.args.peaks.now) c.args.server c.args.queue) in
    on_ok_weaker c.push_text.result
    (joined c.args.into.now.items (codes "peak " ++ c.args.name.now ++ codes " " ++ decimal c.args.queue ++ codes " ") bits (codes " bound ")
    (shown (g.T.Table.at c.args.table.now) QueueBacklog c.args.server c.args.queue) (codes "\n") c.push_peak_name.new.into.items c.push_peak.new.into.items c.push_number_after.new.into.items
    c.push_text.new.into.items c.in_ok-push_peak_name.ensures c.in_ok-push_peak.ensures c.in_ok-push_number_after.ensures)
    c.push_text.ensures
