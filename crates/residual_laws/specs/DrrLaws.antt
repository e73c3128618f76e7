-- What a queue of a deficit round robin server is served. (Bouillard, Boyer and Le Corronc; the discipline is
-- Shreedhar and Varghese's.)
use Rattle.std.specs.Prelude.{◌≡◌, ◌≤◌, ◌<◌, ℕ, pos, List, length, get_or, sum}
use Rattle.rational.specs.Rational.{ℚ, int, ◌+ℚ◌, ◌-ℚ◌, ◌*ℚ◌, ◌/ℚ◌, ◌≤ℚ◌}
use Rattle.rational.specs.Extended.{Ext}
use Rattle.rational.specs.declared.Extended.TheVariants.{Fin}
use Rattle.min_plus.specs.Pointwise.{excess, scaled}
use Rattle.run_laws.specs.Cards.{whole, of_queue, ServerStep}
use Rattle.run_laws.specs.Servers.{Drr, Server}
use Rattle.run_laws.specs.Allows.{IsLawfulView}
use Rattle.run_laws.specs.Premises.{KeepsService, KeepsSizes, IsZeroAtStart}
use Rattle.run_laws.specs.Serves.{Serves}

-- of a queue with quantum Q and longest packet l, where all quanta are F and all longest packets Λ: its share of the
-- service
abbrev pub share : (Q F : ℕ) → ℚ
share Q F = whole Q /ℚ whole F

-- and what is taken from that first
abbrev pub owed : (Q l F Λ : ℕ) → ℚ
owed Q l F Λ = (whole Q *ℚ (whole Λ -ℚ whole l) +ℚ (whole F -ℚ whole Q) *ℚ (whole Q +ℚ whole l)) /ℚ whole F

-- (Q β - Q (Λ - l) - (F - Q) (Q + l)) / F, or 0 where that is less
abbrev pub drr_left : (ℚ → Ext) → (Q l F Λ : ℕ) → ℚ → Ext
drr_left β Q l F Λ t = excess (scaled (share Q F) (β t)) (Fin (owed Q l F Λ))

abbrev pub IsDrrService : (ℚ → Ext) → (quanta longest : List ℕ) → ℕ → (ℚ → Ext) → Type 0
IsDrrService β quanta longest i R = (t : ℚ) → int (pos 0) ≤ℚ t
    → R t ≡ drr_left β (get_or quanta i 0) (get_or longest i 0) (sum quanta) (sum longest) t

-- packets of each queue have at most its longest packet's bits
abbrev pub DrrServes : Type 0
DrrServes = (server : Server) (end : ℚ) (view : List ServerStep) (quanta longest : List ℕ) (i : ℕ) (β R : ℚ → Ext) →
    IsLawfulView server end view → server.discipline ≡ Drr quanta → length longest ≡ length quanta → i < length quanta
    → 1 ≤ get_or quanta i 0 →
    ((q : ℕ) → KeepsSizes (of_queue q) (get_or longest q 0) view) → KeepsService β end view → IsZeroAtStart β →
    IsDrrService β quanta longest i R → Serves (of_queue i) R end view
