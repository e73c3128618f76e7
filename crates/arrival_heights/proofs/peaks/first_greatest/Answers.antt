use Rattle.std.proofs.Common.{ℕ, ◌*◌, ◌+◌, ◌≤◌, arith, sym, subst}
use Rattle.std.proofs.lemmas.Bool.{iff_false}
use Rattle.arrival_heights.specs.Peaks.{IsFirstGreatest, IsLower, excess_of}
use Rattle.arrival_heights.specs.declared.heights.Height.{Height}
use Rattle.arrival_heights.proofs.Further.{at_any, none_looked_at, is_further, is_no_further}
use Rattle.arrival_heights.proofs.Most.{no_height}
use Rattle.arrival_heights.proofs.peaks.first_greatest.Goals as goal
use Rattle.arrival_heights.proofs.peaks.first_greatest.Goals.{then-is_lower, else-is_lower}

pub loop-i-init : goal.loop-i-init
loop-i-init c = none_looked_at c.args.heights.now c.args.rate c.requires.some

pub loop-i-preserved : goal.loop-i-preserved
loop-i-preserved c =
    let hs = c.args.heights.now in
    let rate = c.args.rate in
    let i = c.loop-i.i in
    elim c.if-is_lower.branch [
      | then-is_lower w ↦
          subst (λ (p : ℕ). IsFirstGreatest hs rate (i + 1) p) (sym w.place-is)
          (is_further hs rate i c.loop-i.place (omega arith) c.requires.at c.loop-i.invariant
          (λ d. at_any (IsLower rate) hs c.loop-i.place i no_height d c.loop-i.invariant.inside (omega arith) (c.is_lower.ensures.0 w.if-is_lower.true)))
      | else-is_lower w ↦
          subst (λ (p : ℕ). IsFirstGreatest hs rate (i + 1) p) (sym w.place-is)
          (is_no_further hs rate i c.loop-i.place (omega arith) c.requires.at c.loop-i.invariant
          (λ d. let P : Height → Height → Type 0 = λ g h. excess_of rate h * g.at.under ≤ excess_of rate g * h.at.under in
          at_any P hs c.loop-i.place i no_height d c.loop-i.invariant.inside (omega arith) (let n = iff_false c.is_lower.ensures w.if-is_lower.false in omega (arith, n))))
    ]
