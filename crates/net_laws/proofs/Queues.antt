-- A flow in a queue of a server: how long it stays, and with what curve it leaves.
use Rattle.std.specs.Prelude.{◌≡◌, ℕ, true, List, [], ◌∷◌}
use Rattle.std.proofs.Common.{sym, inl, inr, subst}
use Rattle.rational.specs.Rational.{ℚ, ◌-ℚ◌, ◌≤ℚ◌}
use Rattle.rational.specs.Extended.{Ext, ◌≤ₑ◌, min_ext}
use Rattle.rational.specs.declared.Extended.TheVariants.{Fin}
use Rattle.rational.proofs.ExtendedOrder.{min_one, min_greatest}
use Rattle.min_plus.specs.Pointwise.{packetised, shifted}
use Rattle.min_plus.specs.Convolution.{IsDeconvolution}
use Rattle.run_laws.specs.Cards.{Class, whole, ServerStep, Arrives, Works, Leaves, Visits}
use Rattle.run_laws.specs.Classes.{IsPart}
use Rattle.run_laws.specs.Servers.{Server}
use Rattle.run_laws.specs.Counts.{departed_in}
use Rattle.run_laws.specs.Premises.{KeepsSizes}
use Rattle.run_laws.specs.Delays.{gone_at, hop_delays, AreAtMost}
use Rattle.run_laws.proofs.Arrivals.{arrivals_all}
use Rattle.run_laws.proofs.Classes.{part_of_queue, delay_from_service, part_output_from_service}
use Rattle.run_laws.proofs.Delay.{kept_most, kept_first, kept_rest}
use Rattle.run_laws.proofs.Outputs.{output_from_service}
use Rattle.net_laws.specs.Queues.{IsInQueue}

-- the packets of a part stay no longer than those of the whole
pub stays_of_part : (f Q : Class) (end : ℚ) (V : List ServerStep) (most : Ext) → IsPart f Q V → AreAtMost most (hop_delays Q end V)
    → AreAtMost most (hop_delays f end V)
stays_of_part f Q end [] most part h = tt
stays_of_part f Q end (Arrives c t ∷ V) most part h =
    kept_most (f c) (gone_at end c.packet V -ℚ t) (hop_delays f end V) most
    (λ e. kept_first (Q c) (gone_at end c.packet V -ℚ t) (hop_delays Q end V) most (part.0 e) h)
    (stays_of_part f Q end V most part.1 (kept_rest (Q c) (gone_at end c.packet V -ℚ t) (hop_delays Q end V) most h))
stays_of_part f Q end (Works c a b w ∷ V) most part h = stays_of_part f Q end V most part h
stays_of_part f Q end (Leaves c t ∷ V) most part h = stays_of_part f Q end V most part h
stays_of_part f Q end (Visits q t ∷ V) most part h = stays_of_part f Q end V most part h

-- what holds of two numbers holds of the lesser
pub of_lesser : (P : Ext → Type 0) (x y : Ext) → P x → P y → P (min_ext x y)
of_lesser P x y h k = elim (min_one x y) [
  | inl e ↦ subst P (sym e) h
  | inr e ↦ subst P (sym e) k
]

pub flow_stays : (server : Server) (end : ℚ) (V : List ServerStep) (Q f : Class) (queue : ℕ) (total service own residual : ℚ → Ext)
    (queue_delay own_delay : Ext) → IsInQueue server end V Q f queue total service own residual queue_delay own_delay
    → AreAtMost (min_ext queue_delay own_delay) (hop_delays f end V)
flow_stays server end V Q f queue total service own residual queue_delay own_delay h =
    of_lesser (λ (d : Ext). AreAtMost d (hop_delays f end V)) queue_delay own_delay
    (stays_of_part f Q end V queue_delay h.is_part (delay_from_service server end V Q queue total service queue_delay h.lawful h.one_queue h.keeps_total h.serves_queue h.service_rises h.is_queue_delay))
    (delay_from_service server end V f queue own residual own_delay h.lawful (part_of_queue f Q queue V h.one_queue h.is_part) h.keeps_own h.serves_own h.residual_rises h.is_own_delay)

pub flow_leaves : (server : Server) (end : ℚ) (V : List ServerStep) (Q f : Class) (queue bits : ℕ) (total service own residual : ℚ → Ext)
    (queue_delay own_delay by_service : Ext) (s t : ℚ) → IsInQueue server end V Q f queue total service own residual queue_delay own_delay
    → KeepsSizes f bits V → s ≤ℚ t → IsDeconvolution own (packetised residual (whole bits)) (t -ℚ s) by_service
    → Fin (departed_in f V s t) ≤ₑ min_ext (shifted own (min_ext queue_delay own_delay) (t -ℚ s)) by_service
flow_leaves server end V Q f queue bits total service own residual queue_delay own_delay by_service s t h sizes l is =
    min_greatest (shifted own (min_ext queue_delay own_delay) (t -ℚ s)) by_service (Fin (departed_in f V s t))
    (of_lesser (λ (d : Ext). Fin (departed_in f V s t) ≤ₑ shifted own d (t -ℚ s)) queue_delay own_delay
    (part_output_from_service server end V Q f queue total service own queue_delay s t h.lawful h.one_queue h.is_part h.keeps_total h.keeps_own h.serves_queue h.service_rises h.is_queue_delay l)
    (part_output_from_service server end V f f queue own residual own own_delay s t h.lawful (part_of_queue f Q queue V h.one_queue h.is_part) (arrivals_all (λ c. f c ≡ true → f c ≡ true) (λ c e. e) V) h.keeps_own h.keeps_own h.serves_own h.residual_rises h.is_own_delay l))
    (output_from_service server end V f bits own residual s t by_service h.lawful sizes h.keeps_own h.serves_own l is)
