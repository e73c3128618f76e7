use Rattle.std.proofs.Common.{List, sym, ap, ◌∙◌}
use Rattle.document_tables.specs.Grids.{place_of}
use Rattle.document_tables.specs.Stops.{Stop}
use Rattle.document_tables.proofs.FewStops.{place_among_all}
use Rattle.document_tables.proofs.StopSteps.{place_by_stops}
use Rattle.document_tables.proofs.stops.place_in.Goals as goal

pub returns-in-Some : goal.returns-in-Some
returns-in-Some c =
    sym (place_among_all c.args.stops.now c.args.port c.in-Some.place
    (ap (λ (es : List Stop). place_of es c.args.port) (sym c.first_few.ensures)
    ∙ (sym (place_by_stops c.args.port c.first_few.result.now) ∙ (sym c.place_among.ensures ∙ c.in-Some.is))))

pub returns-in-None : goal.returns-in-None
returns-in-None c =
    c.copied.ensures
    ∙ (c.get.ensures.value
    ∙ c.requires c.args.port
    (ap (λ (es : List Stop). place_of es c.args.port) (sym c.first_few.ensures)
    ∙ (sym (place_by_stops c.args.port c.first_few.result.now) ∙ (sym c.place_among.ensures ∙ c.in-None.is))))
