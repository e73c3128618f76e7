-- What arrives at the queues of a port: parts, none where nothing bounds them, and the longest frame.
use Rattle.std.specs.Prelude.{Option, Some, None, ◌≡◌, ℕ, max, Bool, true, false, List, [], ◌∷◌, ◌++◌, map, take, drop, suc, get_or}
use Rattle.std.specs.List.{sum_by}
use Rattle.std.specs.Option.{option_map}
use Rattle.arrival_lines.specs.declared.grid.Part.{Part}
use Rattle.port_bounds.specs.declared.arrivals.Arrivals.{Arrivals}

pub record Incoming : Type 0 where
  pub parts : Option (List Part)
  -- in bits; 0 where no link has the queue
  pub longest : ℕ

abbrev pub incoming_of : Arrivals → Incoming
incoming_of a = record { parts = option_map (λ v. v.items) a.parts; longest = a.longest }

abbrev pub incoming : List Arrivals → List Incoming
incoming = map incoming_of

abbrev pub queue_in : List Incoming → ℕ → Incoming
queue_in queues q = get_or queues q record { parts = None; longest = 0 }

-- ---- of several queues
-- both lists, where both are known
abbrev pub both : Option (List Part) → Option (List Part) → Option (List Part)
both None more = None
both (Some parts) None = None
both (Some parts) (Some more) = Some (parts ++ more)

-- the parts of some queues together; none where one of them is bounded by nothing
unfoldable pub joined_parts : List Incoming → Option (List Part)
joined_parts [] = Some []
joined_parts (queue ∷ queues) = both queue.parts (joined_parts queues)

-- the longest frame of some queues, and their longest frames together
unfoldable pub longest_frame_of : List Incoming → ℕ
longest_frame_of [] = 0
longest_frame_of (queue ∷ queues) = max queue.longest (longest_frame_of queues)

abbrev pub longest_frames_of : List Incoming → ℕ
longest_frames_of queues = sum_by (λ queue. queue.longest) queues

-- the queues before and behind queue q
abbrev pub before : ℕ → List Incoming → List Incoming
before q queues = take q queues

abbrev pub behind : ℕ → List Incoming → List Incoming
behind q queues = drop (suc q) queues

-- the parts of the queues are added to others; false where one of them is bounded by nothing
abbrev pub AddsParts : List Incoming → List Part → List Part → Bool → Type 0
AddsParts queues old new true = both (Some old) (joined_parts queues) ≡ Some new
AddsParts queues old new false = joined_parts queues ≡ None
