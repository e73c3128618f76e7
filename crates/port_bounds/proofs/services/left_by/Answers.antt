use Rattle.std.proofs.Common.{◌++◌, sym, ap, ◌∙◌, subst, filter_map, List}
use Rattle.std.specs.Option.{option_map}
use Rattle.arrival_lines.specs.Steps.{AreSteps}
use Rattle.arrival_lines.specs.Services.{left_of}
use Rattle.arrival_lines.specs.declared.grid.Part.{Part}
use Rattle.port_bounds.specs.Incoming.{incoming}
use Rattle.port_bounds.proofs.Left.{joined_fit, left_all, left_small}
use Rattle.port_bounds.proofs.services.left_by.Goals as goal

pub steps-requires : goal.steps-requires
steps-requires c =
    let queues = incoming c.args.before.now ++ incoming c.args.behind.now in
    let known = sym c.in_ok-together.ensures ∙ ap (option_map (λ v. v.items)) c.in-Some.is in
    rw c.deref.ensures.value (joined_fit queues c.in-Some.parts.items c.requires.range known)

pub returns-in_ok-services-in-Some : goal.returns-in_ok-services-in-Some
returns-in_ok-services-in-Some c =
    let queues = incoming c.args.before.now ++ incoming c.args.behind.now in
    let own = c.args.own in
    let frame = c.args.frame in
    let parts = c.in-Some.parts.items in
    let lines = c.in_ok-lines-in-Some.lines.items in
    let known = sym c.in_ok-together.ensures ∙ ap (option_map (λ v. v.items)) c.in-Some.is in
    let pieces = subst (λ (ps : List Part). AreSteps ps lines) c.deref.ensures.value c.in_ok-lines-in-Some.ensures in
    let is = c.in_ok-services-in-Some.ensures.each ∙ ap (filter_map (left_of own frame)) c.deref-in-Some.ensures.value in
    record {
      all = left_all own queues parts lines frame c.in_ok-services-in-Some.services.items c.requires.range known pieces c.requires.debt c.requires.frame is;
      small = left_small own queues parts lines frame c.in_ok-services-in-Some.services.items c.requires.range known pieces c.requires.debt c.requires.frame is;
    }
