-- What a file says of a network: texts of curves in place of curves. Own choice.
use Rattle.std.specs.Prelude.{◌≡◌, ℕ, ◌<◌, List, Bool, Option, Some, slice_get}
use Rattle.rational.specs.Rational.{ℚ}
use Rattle.curve_library.specs.declared.texts.PieceText.{PieceText}
use Rattle.curve_library.specs.declared.texts.TailText.{TailText}
use Rattle.curve_library.specs.declared.texts.UseAs.{UseAs}
use Rattle.curve_library.specs.declared.texts.UseAs.TheVariants as uses
use Rattle.run_laws.specs.Servers.{Discipline, queue_count}
use Rattle.net_model.specs.Accepted.{IsInQuantum}
use Rattle.net_draft.specs.declared.hop.Hop.{Hop}

-- a token bucket, a stair of packets, a rate after a latency, a gate, or pieces
pub data CurveText : Type 0 where
  Bucket : (burst rate : ℚ) → CurveText
  Stair : (packet : ℕ) → (period jitter : ℚ) → CurveText
  RateLatency : (rate latency : ℚ) → CurveText
  Gate : (rate cycle slot : ℚ) → CurveText
  Listed : List PieceText → Option TailText → UseAs → CurveText

pub record ServerText : Type 0 where
  pub name : List ℕ
  pub rate : ℚ
  pub service : CurveText
  pub link : ℚ
  pub discipline : Discipline

-- `closes`: its curve is to be replaced by the subadditive closure
pub record FlowText : Type 0 where
  pub name : List ℕ
  pub packet : ℕ
  pub arrival : CurveText
  pub closes : Bool
  pub path : List Hop

pub record DraftText : Type 0 where
  pub version : ℕ
  pub servers : List ServerText
  pub flows : List FlowText

-- ---- ranges
-- a server's curve has the server's rate, or is listed as one of service
abbrev pub IsServiceOf : ℚ → CurveText → Type 0
IsServiceOf own (Bucket burst rate) = ⊥
IsServiceOf own (Stair packet period jitter) = ⊥
IsServiceOf own (RateLatency rate latency) = rate ≡ own
IsServiceOf own (Gate rate cycle slot) = rate ≡ own
IsServiceOf own (Listed pieces tail use_as) = use_as ≡ uses.Service

-- a flow's curve has the flow's packet, or none, or is listed as one of arrivals
abbrev pub IsArrivalOf : ℕ → CurveText → Type 0
IsArrivalOf own (Bucket burst rate) = Unit {0}
IsArrivalOf own (Stair packet period jitter) = packet ≡ own
IsArrivalOf own (RateLatency rate latency) = ⊥
IsArrivalOf own (Gate rate cycle slot) = ⊥
IsArrivalOf own (Listed pieces tail use_as) = use_as ≡ uses.Arrival

-- a server of the draft, and a queue that it has
pub record IsHopOf (servers : List ServerText) (h : Hop) : Type 0 where
  pub server : ServerText
  pub is : slice_get servers h.server ≡ Some server
  pub has_queue : h.queue < queue_count server.discipline

-- where the queue has a quantum, a packet is no longer
abbrev pub IsWithinQuantum : List ServerText → ℕ → Hop → Type 0
IsWithinQuantum servers bits h =
    (s : ServerText) → slice_get servers h.server ≡ Some s → IsInQuantum s.discipline h.queue bits
