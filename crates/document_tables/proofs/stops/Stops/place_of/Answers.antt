use Rattle.std.specs.Prelude.{nat_eq}
use Rattle.std.proofs.Common.{List, sym, ap, subst, ◌∙◌}
use Rattle.document_tables.specs.Grids.{place_of}
use Rattle.document_tables.specs.Stops.{Stop, ArePlacesOf}
use Rattle.document_tables.proofs.StopSteps.{place_within}
use Rattle.document_tables.proofs.stops.Stops.place_of.Goals as goal

pub place_in-requires : goal.place_in-requires
place_in-requires c = subst (ArePlacesOf c.self.inside.places) (sym c.deref.ensures.value) c.self.invariant

pub returns-clause-value : goal.returns-clause-value
returns-clause-value c = c.place_in.ensures ∙ ap (λ (es : List Stop). place_of es c.args.port) (c.deref.ensures.value ∙ c.self.view_is)

pub returns-clause-within : goal.returns-clause-within
returns-clause-within c =
    place_within c.args.self.now (nat_eq c.args.port) c.place_in.result
    (c.place_in.ensures ∙ ap (λ (es : List Stop). place_of es c.args.port) (c.deref.ensures.value ∙ c.self.view_is))
