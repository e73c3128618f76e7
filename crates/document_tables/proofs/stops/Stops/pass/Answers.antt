use Rattle.std.specs.Prelude.{nat_eq}
use Rattle.std.specs.List.{position}
use Rattle.std.proofs.Common.{◌≡◌, false, List, [], ◌∷◌, ◌++◌, map, length, None, sym, ap, subst, ◌∙◌, arith}
use Rattle.document_tables.specs.Stops.{Stop, ArePlacesOf, has_stop}
use Rattle.document_tables.proofs.FewStops.{noted_more}
use Rattle.document_tables.proofs.Named.{any_by_number, no_number}
use Rattle.document_tables.proofs.StopSteps.{keeps, grows}
use Rattle.document_tables.proofs.stops.Stops.pass.Goals as goal

pub returns-then-is_some : goal.returns-then-is_some
returns-then-is_some c =
    keeps c.args.self.now c.args.port c.args.after
    (sym (any_by_number (nat_eq c.args.port) (map (λ (s : Stop). s.0) c.args.self.now) c.place_of.result c.is_some.result c.place_of.ensures.value c.is_some.ensures)
    ∙ c.if-is_some.true)

pub invariant_of-self-2 : goal.invariant_of-self-2
invariant_of-self-2 c =
    let port = c.args.port in
    let es = c.self.inside.stops.items in
    let nowhere = no_number (nat_eq port) (map (λ (s : Stop). s.0) c.args.self.now) c.place_of.result c.is_some.result c.place_of.ensures.value c.is_some.ensures c.if-is_some.false in
    let none : position (nat_eq port) (map (λ (s : Stop). s.0) es) ≡ None =
    subst (λ (xs : List Stop). position (nat_eq port) (map (λ (s : Stop). s.0) xs) ≡ None) (sym c.self.view_is) nowhere
    in
    let next : c.len-place.result ≡ length es = omega (arith, c.len-place.ensures) in
    let more = c.push_reserved.ensures.items ∙ ap (λ (xs : List Stop). xs ++ (port, c.args.after) ∷ []) c.reserve.ensures.items in
    subst (ArePlacesOf c.note.new.places) (sym more) (noted_more c.self.inside.places c.note.new.places es port c.len-place.result c.args.after c.self.invariant none next c.in_ok-note.ensures.noted)

pub returns : goal.returns
returns c =
    let none : has_stop c.args.self.now c.args.port ≡ false =
    sym (any_by_number (nat_eq c.args.port) (map (λ (s : Stop). s.0) c.args.self.now) c.place_of.result c.is_some.result c.place_of.ensures.value c.is_some.ensures)
    ∙ c.if-is_some.false
    in
    let put : List Stop → List Stop = λ xs. xs ++ (c.args.port, c.args.after) ∷ [] in
    c.push_reserved.ensures.items ∙ (ap put (c.reserve.ensures.items ∙ c.self.view_is) ∙ grows c.args.self.now c.args.port c.args.after none)
