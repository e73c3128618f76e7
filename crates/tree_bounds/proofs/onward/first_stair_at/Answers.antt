use Rattle.std.proofs.Common.{Option, length, ap, sym, subst, ◌∙◌, refl}
use Rattle.std.specs.Option.{IfSome}
use Rattle.std.proofs.lemmas.Option.{slice_get_read}
use Rattle.arrival_stairs.specs.Stairs.{IsStair}
use Rattle.arrival_stairs.specs.declared.stairs.Stair.{Stair}
use Rattle.tree_network.specs.Networks.{IsLink}
use Rattle.tree_network.specs.declared.network.Link.{Link}
use Rattle.tree_bounds.specs.Stairs.{first_stair_of}
use Rattle.tree_bounds.proofs.Onwards.{first_range}
use Rattle.tree_bounds.proofs.onward.first_stair_at.Goals as goal

pub stair_of-requires : goal.stair_of-requires
stair_of-requires c =
    let L : Link → Type 0 = λ l. IsLink c.args.network.now l in
    (subst L (sym c.index.ensures) (c.requires.network.links c.args.spot.link c.index.result.now c.requires.link)).frame

pub returns-then-spot-eq0-clause-own : goal.returns-then-spot-eq0-clause-own
returns-then-spot-eq0-clause-own c = λ e.
    let is = slice_get_read c.args.network.now.links.items (length c.args.network.now.links.items) c.args.spot.link c.index.result.now refl c.requires.link c.index.ensures in
    c.stair_of.ensures ∙ ap first_stair_of (sym is)

pub returns-then-spot-eq0-clause-range : goal.returns-then-spot-eq0-clause-range
returns-then-spot-eq0-clause-range c =
    let L : Link → Type 0 = λ l. IsLink c.args.network.now l in
    let is = subst L (sym c.index.ensures) (c.requires.network.links c.args.spot.link c.index.result.now c.requires.link) in
    subst (λ (o : Option Stair). IfSome o (λ s. IsStair s)) (sym c.stair_of.ensures) (first_range c.index.result.now is.frame is.some_gap)
