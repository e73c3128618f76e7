use Rattle.std.specs.Prelude.{◌≡◌, ◌<◌, ◌==◌, false, List, [], ◌∷◌, length, Some}
use Rattle.std.proofs.Common.{◌∙◌, arith, refl, sym, true≢false}
use Rattle.rational.specs.Rational.{ℚ}
use Rattle.run_watch.proofs.NearWindows.{all_part, part_to}
use Rattle.run_watch.proofs.service.part_from.Goals as goal

some_of : (ts : List ℚ) → length ts == 0 ≡ false → 0 < length ts
some_of [] h = absurd (true≢false h)
some_of (t ∷ ts) h = omega arith

pub returns-then-is_empty : goal.returns-then-is_empty
returns-then-is_empty c = all_part (Some c.args.start) c.args.sorted.now c.args.s.now

pub returns : goal.returns
returns c =
    let t = c.index-late-0.result in
    let late = c.turns_in-late.result.now in
    part_to c.args.sorted.now late c.args.s.now record { start = c.args.s.now.start; end = t } c.args.start t c.turns_in-late.ensures.holds (some_of late (sym c.is_empty.ensures ∙ c.if-is_empty.false)) c.index-late-0.is refl
