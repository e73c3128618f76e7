use Rattle.std.proofs.Common.{ap, sym, ◌∙◌, subst, length, map}
use Rattle.std.specs.Prelude.{Option}
use Rattle.std.specs.List.{filter, range_with_len}
use Rattle.net_model.specs.Networks.{NetFlow}
use Rattle.net_cells.specs.Numbered.{path_of}
use Rattle.net_cells.specs.Visits.{visit, is_at}
use Rattle.cell_numbers.specs.Chosen.{FindsOn}
use Rattle.cell_numbers.proofs.Choosing.{found_on}
use Rattle.cell_numbers.proofs.found.hop_at.Goals as goal

pub returns-in-Some : goal.returns-in-Some
returns-in-Some c =
    found_on c.args.net.now c.args.server c.args.flow c.place_on.result c.keeps.ensures
    (subst (λ way. FindsOn way c.args.server c.place_on.result) (c.deref.ensures.value ∙ ap path_of c.in-Some.ensures.flow)
    c.place_on.ensures)

pub returns-in-None : goal.returns-in-None
returns-in-None c =
    ap (λ (o : Option NetFlow). filter (is_at c.args.net.now c.args.server) (map (visit c.args.flow) (range_with_len 0 (length (path_of o)))))
    (sym c.in-None.ensures.flow)
