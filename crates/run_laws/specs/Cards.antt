-- What one server sees: packets that arrive, work on them, packets that leave, and visits of its queues.
use Rattle.std.specs.Prelude.{ℕ, Bool, true, ◌==◌, ltb}
use Rattle.rational.specs.Rational.{ℚ}
pub use Rattle.min_plus.specs.Functions.{whole}

-- a packet at a server, with the queue that it joins there
pub record Card : Type 0 where
  pub packet : ℕ
  pub flow : ℕ
  pub queue : ℕ
  pub bits : ℕ

-- one step, as its server sees it
pub data ServerStep : Type 0 where
  Arrives : (card : Card) (time : ℚ) → ServerStep
  -- at an even pace from its start to its end
  Works : (card : Card) (start end bits : ℚ) → ServerStep
  Leaves : (card : Card) (time : ℚ) → ServerStep
  Visits : (queue : ℕ) (time : ℚ) → ServerStep

-- the time of a step; of work, its start
abbrev pub time_of : ServerStep → ℚ
time_of (Arrives c t) = t
time_of (Works c a b w) = a
time_of (Leaves c t) = t
time_of (Visits q t) = t

-- a packet's bits
abbrev pub size : Card → ℚ
size c = whole c.bits

-- ---- which packets are meant: those that pass a test
abbrev pub Class : Type 0
Class = Card → Bool

-- every packet
abbrev pub all : Class
all c = true

-- those of queue q; of the queues before it, after it
abbrev pub of_queue : ℕ → Class
of_queue q c = c.queue == q

abbrev pub before_queue : ℕ → Class
before_queue q c = ltb c.queue q

abbrev pub after_queue : ℕ → Class
after_queue q c = ltb q c.queue

-- those of flow i
abbrev pub of_flow : ℕ → Class
of_flow i c = c.flow == i
