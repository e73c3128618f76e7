use Rattle.std.proofs.Common.{arith, ◌≡◌, ◌∙◌, ◌-◌, ap, sym, cond, take, length}
use Rattle.rational.proofs.Over.{lt_q_out}
use Rattle.rational.proofs.MinMax.{lt_q_not}
use Rattle.rational.proofs.Comparison.{cmp_less}
use Rattle.upp_normal.specs.Normalising.{cut_last}
use Rattle.upp_normal.proofs.NormaliseLoops.{cmp_not_less}
use Rattle.upp_normal.proofs.lowest_rank.cut_off.Goals as goal

pub returns-in-Less : goal.returns-in-Less
unfolding cut_last
returns-in-Less c =
    let ps = c.args.pieces.now.items in
    sym (ap (λ b. cond b ps (take (length ps - 1) ps)) (lt_q_out c.args.start c.args.end (cmp_less c.args.start c.args.end (sym c.cmp.ensures.is ∙ c.in-Less.is))))

pub returns-in_default : goal.returns-in_default
unfolding cut_last
returns-in_default c =
    let ps = c.args.pieces.now.items in
    let n : c.len.result ≡ length ps = omega arith in
    c.truncate.ensures.items ∙ ap (λ n. take (n - 1) ps) n ∙ sym (ap (λ b. cond b ps (take (length ps - 1) ps)) (lt_q_not c.args.start c.args.end (cmp_not_less c.args.start c.args.end (λ k. c.in_default.not-Less (c.cmp.ensures.is ∙ k)))))
