use Rattle.std.proofs.Common.{◌≡◌, ◌<◌, ◌-◌, true, false, get_or, length, arith, sym, ◌∙◌, ap}
use Rattle.std.proofs.lemmas.List.{get_or_default}
use Rattle.tree_network.proofs.ring.late_source.Goals as goal

pub returns-then-source-eq0 : goal.returns-then-source-eq0
returns-then-source-eq0 c = λ a l. let e = l.from in omega (arith, e)

pub returns-then-is_done-source : goal.returns-then-is_done-source
returns-then-is_done-source c = λ a l.
    let e = l.from in
    let same : c.args.source - 1 ≡ a = omega (arith, e) in
    let inside : a < length c.args.is_done.now = omega (arith, e, c.requires) in
    let on = ap (λ k. get_or c.args.is_done.now k false) (sym same) ∙ c.if-is_done-source.true in
    let off = get_or_default c.args.is_done.now a false true inside ∙ l.free in
    let f : true ≡ false = sym on ∙ off in cc

pub returns : goal.returns
returns c = record {
  from = omega (arith, c.if-source-eq0.false);
  free = get_or_default c.args.is_done.now (c.args.source - 1) true false (omega (arith, c.requires, c.if-source-eq0.false)) ∙ c.if-is_done-source.false;
}
