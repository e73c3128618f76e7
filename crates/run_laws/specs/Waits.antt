-- The delay and the backlog of a class at one server, by what bounds the two deviations of its curves: the deviations
-- themselves need not be known. (Le Boudec and Thiran, chapter 1.)
use Rattle.std.specs.Prelude.{◌≡◌, ℕ, List}
use Rattle.rational.specs.Rational.{ℚ, ◌+ℚ◌, ◌≤ℚ◌, ◌<ℚ◌}
use Rattle.rational.specs.Extended.{Ext, ◌≤ₑ◌, ◌-ₑ◌}
use Rattle.rational.specs.declared.Extended.TheVariants.{Fin}
use Rattle.min_plus.specs.Functions.{zero_q, IsRising}
use Rattle.min_plus.specs.Pointwise.{packetised}
use Rattle.run_laws.specs.Cards.{Class, whole, ServerStep}
use Rattle.run_laws.specs.Classes.{IsOfQueue}
use Rattle.run_laws.specs.Servers.{Server}
use Rattle.run_laws.specs.Allows.{IsLawfulView}
use Rattle.run_laws.specs.Premises.{KeepsSizes, KeepsArrivals}
use Rattle.run_laws.specs.Serves.{Serves}
use Rattle.run_laws.specs.Delays.{hop_delays, AreAtMost, backlog}

-- ---- delay
-- after each wait longer than d, β is at least where α was before it
abbrev pub IsReachedAfter : (ℚ → Ext) → (ℚ → Ext) → ℚ → Type 0
IsReachedAfter α β d = (t wait : ℚ) → zero_q ≤ℚ t → d <ℚ wait → α t ≤ₑ β (t +ℚ wait)

-- then no packet of a class of one queue stays longer than d
abbrev pub DelayFromWait : Type 0
DelayFromWait = (server : Server) (end : ℚ) (view : List ServerStep) (C : Class) (queue : ℕ) (α β : ℚ → Ext) (d : ℚ) →
    IsLawfulView server end view → IsOfQueue C queue view → KeepsArrivals C α view → Serves C β end view →
    zero_q ≤ℚ d → IsReachedAfter α β d → AreAtMost (Fin d) (hop_delays C end view)

-- where β never falls, the wait d is enough
abbrev pub OneWaitIsEnough : Type 0
OneWaitIsEnough = (α β : ℚ → Ext) (d : ℚ) → zero_q ≤ℚ d → IsRising β →
    ((t : ℚ) → zero_q ≤ℚ t → α t ≤ₑ β (t +ℚ d)) → IsReachedAfter α β d

-- ---- backlog
-- where γ is a number, α is above it by no more than `most`
abbrev pub IsAboveByAtMost : (ℚ → Ext) → (ℚ → Ext) → Ext → Type 0
IsAboveByAtMost α γ most = (t level : ℚ) → zero_q ≤ℚ t → γ t ≡ Fin level → (α t -ₑ level) ≤ₑ most

-- then the backlog of a class of packets of at most so many bits is no more
abbrev pub BacklogFromGap : Type 0
BacklogFromGap = (server : Server) (end : ℚ) (view : List ServerStep) (C : Class) (bits : ℕ) (α β : ℚ → Ext)
    (most : Ext) →
    IsLawfulView server end view → KeepsSizes C bits view → KeepsArrivals C α view → Serves C β end view →
    IsAboveByAtMost α (packetised β (whole bits)) most → (t : ℚ) → t ≤ℚ end → Fin (backlog C view t) ≤ₑ most
