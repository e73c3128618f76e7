use Rattle.std.proofs.Common.{◌<◌, arith, sym, Some, subst, Option}
use Rattle.std.specs.Option.{option_map}
use Rattle.net_model.specs.declared.flow.Flow.{Flow}
use Rattle.net_model.specs.Networks.{NetFlow}
use Rattle.net_model.specs.Views.{flow_of}
use Rattle.net_model.specs.Names.{HasName}
use Rattle.net_model.proofs.Placed.{made_of}
use Rattle.net_model.proofs.Named.{flow_named_at}
use Rattle.net_model.proofs.names.place_of_flow.Goals as goal

pub returns-then-has_name : goal.returns-then-has_name
returns-then-has_name c =
    flow_named_at c.args.flows.now c.args.name.now c.loop-i.i c.index-flows-i.result c.loop-i-test.true c.index-flows-i.is (c.has_name.ensures.0 c.if-has_name.true)

pub returns : goal.returns
returns c = λ k h.
    let found = made_of (option_map flow_of) c.args.flows.now k (Some h.flow) h.is in
    let before : k < c.loop-i.i = omega (arith, found.within, c.loop-i-test.false) in
    let P : Option Flow → Type 0 = λ f. HasName (option_map flow_of f) c.args.name.now in
    let Q : Option NetFlow → Type 0 = λ f. HasName f c.args.name.now in
    c.loop-i.invariant k found.element before (subst P (sym found.is) (subst Q (sym found.made) h.named))
