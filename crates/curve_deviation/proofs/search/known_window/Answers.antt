use Rattle.std.proofs.Common.{arith, sym, true≢false}
use Rattle.curve_deviation.proofs.search.known_window.Goals as goal

pub returns-in-Some-clause-window : goal.returns-in-Some-clause-window
returns-in-Some-clause-window c = record { window = c.in-Some.ensures.value; gauge = c.requires }

pub returns-in-None-clause-window : goal.returns-in-None-clause-window
returns-in-None-clause-window c = let h = c.requires in absurd (true≢false (sym (c.in-None.ensures.fits (omega (arith, h)))))
