use Rattle.std.proofs.Common.{arith, ap, ◌∙◌, ◌≡◌, pos}
use Rattle.std.proofs.lemmas.Int.{ints}
use Rattle.rational.specs.Rational.{den}
use Rattle.curve_lang.proofs.Packets.{den_whole, num_whole}
use Rattle.curve_lang.proofs.kinds.packet_bits.Goals as goal
use Rattle.curve_lang.proofs.kinds.packet_bits.Goals.{then-bits-lt1-via-then-bits-lt1, then-bits-lt1-via-else-bits-lt1+then-bits-gt-MOST_BITS}

pub returns-then-denominator-ne1-clause-none : goal.returns-then-denominator-ne1-clause-none
returns-then-denominator-ne1-clause-none c = λ p.
    let e : c.denominator.result ≡ 1 = c.denominator.ensures.value ∙ ap den p.is ∙ den_whole p.bits in omega arith

pub returns-then-bits-lt1-clause-none : goal.returns-then-bits-lt1-clause-none
returns-then-bits-lt1-clause-none c = λ p.
    let e : c.numerator-bits.result ≡ pos p.bits = c.numerator-bits.ensures.value ∙ ap (λ q. q.num) p.is ∙ num_whole p.bits in
    let some = p.some in
    let few = p.few in
    elim c.then-bits-lt1.branch [
      | then-bits-lt1-via-then-bits-lt1 w ↦ omega (arith, ints)
      | then-bits-lt1-via-else-bits-lt1+then-bits-gt-MOST_BITS w ↦ omega (arith, ints)
    ]
