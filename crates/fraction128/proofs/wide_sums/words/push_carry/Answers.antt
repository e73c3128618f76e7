use Rattle.std.proofs.Common.{ℕ, ap, ◌∙◌, arith}
use Rattle.arrayvec.specs.ArrayVec.{ArrayVec}
use Rattle.fraction128.specs.wide_sums.Words.{number}
use Rattle.fraction128.proofs.wide_sums.Numbers.{carry_none, carry_one, carry_two}
use Rattle.fraction128.proofs.wide_sums.words.push_carry.Goals.{then-carry-gt0, else-carry-gt0}
use Rattle.fraction128.proofs.wide_sums.words.push_carry.Goals as goal

pub returns-then-carry-ge-BASE-clause-value : goal.returns-then-carry-ge-BASE-clause-value
returns-then-carry-ge-BASE-clause-value c =
    let ws = c.args.words.now.items in
    let wide = c.if-carry-ge-BASE.true in
    elim c.if-carry-gt0.branch [
      | then-carry-gt0 w ↦
          let is = ap (λ (v : ArrayVec ℕ). v.items) w.words-is in
          carry_two ws c.if-carry-gt0.words.items c.push-then-carry-ge-BASE.new.self.items c.args.carry (is ∙ w.push.ensures.items) c.push-then-carry-ge-BASE.ensures.items
      | else-carry-gt0 w ↦ let none = w.if-carry-gt0.false in absurd (omega (arith, none, wide))
    ]

pub returns-else-carry-ge-BASE-clause-value : goal.returns-else-carry-ge-BASE-clause-value
returns-else-carry-ge-BASE-clause-value c =
    let ws = c.args.words.now.items in
    elim c.if-carry-gt0.branch [
      | then-carry-gt0 w ↦
          let is = ap (λ (v : ArrayVec ℕ). v.items) w.words-is in
          carry_one ws c.if-carry-gt0.words.items c.args.carry c.if-carry-ge-BASE.false (is ∙ w.push.ensures.items)
      | else-carry-gt0 w ↦
          let is = ap (λ (v : ArrayVec ℕ). number v.items) w.words-is in
          is ∙ carry_none ws c.args.carry w.if-carry-gt0.false
    ]
