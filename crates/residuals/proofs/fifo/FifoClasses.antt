-- One flow of a first in, first out queue is served by what the others leave, where the packets that arrive are of one
-- queue and of two parts.
use Rattle.std.specs.Prelude.{ℕ, pos, List}
use Rattle.rational.specs.Rational.{ℚ, int}
use Rattle.rational.specs.Extended.{Ext, ◌≤ₑ◌}
use Rattle.rational.specs.declared.Extended.TheVariants.{Fin}
use Rattle.run_laws.specs.Cards.{Class, ServerStep}
use Rattle.run_laws.specs.Classes.{IsOfQueue, AreParts}
use Rattle.run_laws.specs.Servers.{Server}
use Rattle.run_laws.specs.Allows.{IsLawfulView}
use Rattle.run_laws.specs.Premises.{KeepsArrivals}
use Rattle.run_laws.specs.Serves.{Serves}
use Rattle.run_laws.proofs.Classes.{cut, cut_queue, cut_agrees, cut_part, cut_part_agrees, first_is_part, cut_other, cut_other_agrees, split_parts}
use Rattle.run_laws.proofs.Seen.{agree_back, keeps_same, serves_same}
use Rattle.residuals.specs.fifo.Laws.{IsResidual}
use Rattle.residuals.proofs.fifo.FifoLaw.{fifo_serves_always}

pub fifo_serves : (server : Server) (end : ℚ) (V : List ServerStep) (Q f g : Class) (q : ℕ) (β cross R : ℚ → Ext)
    (θ : Ext) → IsLawfulView server end V → IsOfQueue Q q V → AreParts Q f g V → KeepsArrivals g cross V
    → Serves Q β end V → Fin (int (pos 0)) ≤ₑ θ → IsResidual β cross θ R → Serves f R end V
fifo_serves server end V Q f g q β cross R θ lawful own parts keeps serves nonneg residual =
    let whole = agree_back (cut Q q) Q V (cut_agrees server end V Q q lawful own) in
    let same = cut_part_agrees server end V Q f q lawful own (first_is_part Q f g V parts) in
    let rest = agree_back (cut_other Q q f) g V (cut_other_agrees server end V Q f g q lawful own parts) in
    serves_same (cut_part Q q f) f R end V same
    (fifo_serves_always server end V (cut Q q) (cut_part Q q f) (cut_other Q q f) q β cross R θ lawful (cut_queue Q q)
    (split_parts (cut Q q) f) (keeps_same g (cut_other Q q f) cross V rest keeps)
    (serves_same Q (cut Q q) β end V whole serves) nonneg residual)
