use Rattle.std.proofs.Common.{◌-◌, arith, refl, sym, true≢false}
use Rattle.curve_deviation.specs.declared.search.Stage.TheVariants.{Second}
use Rattle.curve_deviation.proofs.PeriodsFound.{narrow_with, unmet_all}
use Rattle.curve_deviation.proofs.horizontals.reaches_at.Goals as goal

pub known_window-before-requires : goal.known_window-before-requires
known_window-before-requires c =
    let n = c.args.numbers.now in
    narrow_with c.args.f.now c.args.g.now n.first (n.second - 1) n.first n.second c.keeps.ensures c.keeps-2.ensures (omega arith) (omega arith) c.requires.narrow

pub is_below-requires-clause-window : goal.is_below-requires-clause-window
is_below-requires-clause-window c = let n = c.args.numbers.now in (n.first, n.second, c.requires.window)

pub is_below-requires-2-clause-window : goal.is_below-requires-2-clause-window
is_below-requires-2-clause-window c = let n = c.args.numbers.now in (n.first, n.second - 1, c.known_window-before.ensures.window)

pub returns-then-second-eq0-clause-below : goal.returns-then-second-eq0-clause-below
returns-then-second-eq0-clause-below c = λ yes i h. let none = c.if-second-eq0.true in absurd (omega (arith, h, none))

pub returns-then-second-eq0-clause-reached : goal.returns-then-second-eq0-clause-reached
returns-then-second-eq0-clause-reached c = λ yes. let n = c.args.numbers.now in c.if-is_below.ensures.reached n.first n.second c.requires.window (λ e. true≢false (sym e))

pub returns-then-is_below-2-clause-reached : goal.returns-then-is_below-2-clause-reached
returns-then-is_below-2-clause-reached c = λ yes. let n = c.args.numbers.now in c.if-is_below.ensures.reached n.first n.second c.requires.window (λ e. true≢false (sym e))

pub returns-then-is_below-2-clause-below : goal.returns-then-is_below-2-clause-below
returns-then-is_below-2-clause-below c = λ yes i h.
    let n = c.args.numbers.now in
    unmet_all (Second n.first c.args.level) c.args.f.now c.args.g.now n.second i c.keeps.ensures c.keeps-2.ensures c.requires.both
    (c.if-is_below-2.ensures.below n.first (n.second - 1) c.known_window-before.ensures.window refl) h
