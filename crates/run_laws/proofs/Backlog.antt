-- The backlog is at most the vertical deviation.
use Rattle.std.specs.Prelude.{ℕ, pos, List}
use Rattle.std.proofs.Common.{arith}
use Rattle.rational.specs.Rational.{ℚ, int, ◌-ℚ◌, ◌≤ℚ◌}
use Rattle.rational.specs.Extended.{Ext, ◌≤ₑ◌, ◌-ₑ◌}
use Rattle.rational.specs.declared.Extended.TheVariants.{Fin}
use Rattle.rational.proofs.ExtendedOrder.{le_ext_trans}
use Rattle.rational.proofs.Linear.{with2, with5}
use Rattle.min_plus.specs.Deviations.{IsVerticalDeviation}
use Rattle.min_plus.specs.Pointwise.{packetised}
use Rattle.run_laws.specs.Cards.{Class, whole, ServerStep}
use Rattle.run_laws.specs.Servers.{Server}
use Rattle.run_laws.specs.Allows.{IsLawfulView}
use Rattle.run_laws.specs.Counts.{arrived, arrived_upto, arrived_in, departed}
use Rattle.run_laws.specs.Premises.{KeepsArrivals, KeepsSizes}
use Rattle.run_laws.specs.Delays.{backlog}
use Rattle.run_laws.specs.Waits.{IsAboveByAtMost}
use Rattle.run_laws.specs.Serves.{Serves}
use Rattle.run_laws.proofs.Levels.{finite_below, minus_le}
use Rattle.run_laws.proofs.Counts.{arrived_in_is}
use Rattle.run_laws.proofs.Service.{packets_are_served}

pub backlog_from_gap : (server : Server) (end : ℚ) (V : List ServerStep) (C : Class) (bits : ℕ) (α β : ℚ → Ext) (most : Ext)
    → IsLawfulView server end V → KeepsSizes C bits V → KeepsArrivals C α V
    → Serves C β end V → IsAboveByAtMost α (packetised β (whole bits)) most → (t : ℚ) → t ≤ℚ end → Fin (backlog C V t) ≤ₑ most
backlog_from_gap server end V C bits α β most lawful sizes keeps serves gap t l =
    let (s, is) = packets_are_served server end V C β bits lawful sizes serves t l in
    let (g, e, up) = finite_below (arrived C V s) (departed C V t) (packetised β (whole bits) (t -ℚ s)) is.kept_up in
    let early = is.earlier in
    let window = arrived_in_is C V s t early in
    let on : int (pos 0) ≤ℚ t -ℚ s = with2 s t (λ c. omega (arith, c.le, c.lt, c.same)) in
    let few : backlog C V t ≤ℚ arrived_in C V s t -ℚ g = with5 (arrived C V s) (arrived_in C V s t) (arrived_upto C V t) (departed C V t) g (λ c. omega (arith, c.le, c.lt, c.same)) in
    let member = le_ext_trans (Fin (arrived_in C V s t -ℚ g)) (α (t -ℚ s) -ₑ g) most (minus_le (arrived_in C V s t) g (α (t -ℚ s)) (keeps s t early)) (gap (t -ℚ s) g on e) in
    le_ext_trans (Fin (backlog C V t)) (Fin (arrived_in C V s t -ℚ g)) most few member

pub backlog_from_service : (server : Server) (end : ℚ) (V : List ServerStep) (C : Class) (bits : ℕ) (α β : ℚ → Ext) (most : Ext)
    → IsLawfulView server end V → KeepsSizes C bits V → KeepsArrivals C α V
    → Serves C β end V → IsVerticalDeviation α (packetised β (whole bits)) most → (t : ℚ) → t ≤ℚ end → Fin (backlog C V t) ≤ₑ most
backlog_from_service server end V C bits α β most lawful sizes keeps serves dev =
    backlog_from_gap server end V C bits α β most lawful sizes keeps serves
    (λ t level on e. dev.above record { at = t; nonneg = on; level = level; is = e })
