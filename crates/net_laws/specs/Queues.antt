-- A flow in a queue of a server: how long it stays, and with what curve it leaves. (Le Boudec and Thiran; that the
-- lesser of two delays and of two curves is taken is our own choice.)
use Rattle.std.specs.Prelude.{ℕ, List}
use Rattle.rational.specs.Rational.{ℚ, ◌-ℚ◌, ◌≤ℚ◌}
use Rattle.rational.specs.Extended.{Ext, ◌≤ₑ◌, min_ext}
use Rattle.rational.specs.declared.Extended.TheVariants.{Fin}
use Rattle.min_plus.specs.Functions.{IsRising}
use Rattle.min_plus.specs.Pointwise.{packetised, shifted}
use Rattle.min_plus.specs.Convolution.{IsDeconvolution}
use Rattle.min_plus.specs.Deviations.{IsHorizontalDeviation}
use Rattle.run_laws.specs.Cards.{Class, whole, ServerStep}
use Rattle.run_laws.specs.Classes.{IsOfQueue, IsPart}
use Rattle.run_laws.specs.Servers.{Server}
use Rattle.run_laws.specs.Allows.{IsLawfulView}
use Rattle.run_laws.specs.Counts.{departed_in}
use Rattle.run_laws.specs.Premises.{KeepsArrivals, KeepsSizes}
use Rattle.run_laws.specs.Serves.{Serves}
use Rattle.run_laws.specs.Delays.{hop_delays, AreAtMost}

-- a part of a queue, as one of its flows: both keep a curve and are served by one, and these have a horizontal
-- deviation
pub record IsInQueue (server : Server) (end : ℚ) (view : List ServerStep) (Q f : Class) (queue : ℕ)
    (total service own residual : ℚ → Ext) (queue_delay own_delay : Ext) : Type 0 where
  pub lawful : IsLawfulView server end view
  pub one_queue : IsOfQueue Q queue view
  pub is_part : IsPart f Q view
  pub keeps_total : KeepsArrivals Q total view
  pub keeps_own : KeepsArrivals f own view
  pub serves_queue : Serves Q service end view
  pub serves_own : Serves f residual end view
  pub service_rises : IsRising service
  pub residual_rises : IsRising residual
  pub is_queue_delay : IsHorizontalDeviation total service queue_delay
  pub is_own_delay : IsHorizontalDeviation own residual own_delay

-- none of its packets stays longer than either deviation
abbrev pub FlowStays : Type 0
FlowStays = (server : Server) (end : ℚ) (view : List ServerStep) (Q f : Class) (queue : ℕ)
    (total service own residual : ℚ → Ext) (queue_delay own_delay : Ext) →
    IsInQueue server end view Q f queue total service own residual queue_delay own_delay →
    AreAtMost (min_ext queue_delay own_delay) (hop_delays f end view)

-- it leaves with its own curve, moved by the lesser of them, and with what its curve and its service, less one packet,
-- allow
abbrev pub FlowLeaves : Type 0
FlowLeaves = (server : Server) (end : ℚ) (view : List ServerStep) (Q f : Class) (queue bits : ℕ)
    (total service own residual : ℚ → Ext) (queue_delay own_delay by_service : Ext) (s t : ℚ) →
    IsInQueue server end view Q f queue total service own residual queue_delay own_delay →
    KeepsSizes f bits view → s ≤ℚ t → IsDeconvolution own (packetised residual (whole bits)) (t -ℚ s) by_service →
    Fin (departed_in f view s t) ≤ₑ min_ext (shifted own (min_ext queue_delay own_delay) (t -ℚ s)) by_service
