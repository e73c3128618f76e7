-- What each step keeps of a server's state: the packet under way is the first of its queue.
use Rattle.std.specs.Prelude.{◌≡◌, Option, Some, None, pos, List}
use Rattle.rational.specs.Rational.{ℚ, int, ◌≤ℚ◌, ◌<ℚ◌}
use Rattle.run_laws.specs.Cards.{Card, size}
use Rattle.run_laws.specs.Servers.{Span, Under, done, ServerState, head_of}

-- a span that takes time, of some bits
pub record IsSpan (s : Span) : Type 0 where
  pub forward : s.start <ℚ s.end
  pub some_work : int (pos 0) <ℚ s.bits

pub record IsUnderWay (cards : List Card) (busy : ℚ) (u : Under) : Type 0 where
  pub is_head : head_of u.card.queue cards ≡ Some u.card
  pub started : int (pos 0) ≤ℚ u.before
  pub is_span : IsSpan u.last
  pub within_bits : done u ≤ℚ size u.card
  pub at_end : busy ≡ u.last.end

abbrev pub IsSoundFor : List Card → ℚ → Option Under → Type 0
IsSoundFor cards busy None = Unit {0}
IsSoundFor cards busy (Some u) = IsUnderWay cards busy u

abbrev pub IsSound : ServerState → Type 0
IsSound σ = IsSoundFor σ.inside σ.busy σ.under
