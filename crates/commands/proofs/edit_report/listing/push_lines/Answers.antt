use Rattle.std.proofs.Common.{◌≡◌, ◌++◌, ◌+◌, List, map, get_or, sym, ap, ◌∙◌}
use Rattle.std.specs.List.{flat_map, range_with_len}
use Rattle.std.proofs.lemmas.List.{get_or-map}
use Rattle.net_cells.proofs.Growing.{behind, flat_more}
use Rattle.commands.specs.edit_report.EditReport.{edit_line, line_at}
use Rattle.commands.specs.edit_report.Said.{EditSaid, Made, said_view}
use Rattle.commands.proofs.edit_report.listing.push_lines.Goals as goal

pub loop-place-preserved : goal.loop-place-preserved
loop-place-preserved c =
    let all : List EditSaid = map said_view c.args.said.now in
    let k = c.loop-place.place in
    let one = c.index-said-place.result in
    let here : get_or all k (Made 0) ≡ said_view one =
    get_or-map said_view c.args.said.now k one (Made 0) c.loop-place-test.true ∙ ap said_view (sym c.index-said-place.is) in
    let pushed : c.push_line.new.into.items ≡ c.loop-place.into.items ++ line_at all k =
    c.in_ok-push_line.ensures ∙ ap (λ (s : EditSaid). c.loop-place.into.items ++ edit_line (k + 1) s) (sym here) in
    behind c.args.into.now.items c.loop-place.into.items c.push_line.new.into.items (line_at all k)
    (flat_map (line_at all) (range_with_len 0 k)) (flat_map (line_at all) (range_with_len 0 (k + 1)))
    c.loop-place.invariant pushed (flat_more (line_at all) k)
