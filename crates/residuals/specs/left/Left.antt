-- What a server leaves one of its queues, whatever its discipline: all of its service; what is above the curve of the
-- queues before it, less one packet of those after it; or a share, less what is owed. (Le Boudec and Thiran;
-- Bouillard, Boyer and Le Corronc; that they are one type is own choice.)
use Rattle.std.specs.Prelude.{◌<◌, ℕ, List, length}
use Rattle.residuals.specs.calls.DrrCalls.{AreQueues}

-- A stands for the curve of the queues before: a cell, or a function of time
pub data Left (A : Type 0) : Type 0 where
  all : Left A
  above : (before : A) → (lower : ℕ) → Left A
  share : (quanta longest : List ℕ) → (queue : ℕ) → Left A

abbrev pub map_left : {A B : Type 0} → (A → B) → Left A → Left B
map_left f all = all
map_left f (above before lower) = above (f before) lower
map_left f (share quanta longest queue) = share quanta longest queue

-- it holds of the curve of the queues before, if there is one
abbrev pub EachBefore : {A : Type 0} → (A → Type 0) → Left A → Type 0
EachBefore P all = Unit {0}
EachBefore P (above before lower) = P before
EachBefore P (share quanta longest queue) = Unit {0}

-- a share is that of a queue, by quanta and longest packets of all of them
abbrev pub IsFit : {A : Type 0} → Left A → Type 0
IsFit all = Unit {0}
IsFit (above before lower) = Unit {0}
IsFit (share quanta longest queue) = AreQueues quanta longest × (queue < length quanta)

-- how many operators on curves it takes
abbrev pub left_work : {A : Type 0} → Left A → ℕ
left_work all = 0
left_work (above before lower) = 3
left_work (share quanta longest queue) = 2
