-- The tables of a file, key by key: what each gives, or its first fault. Own choice.
use Rattle.std.specs.Prelude.{◌≡◌, ℕ, ◌+◌, pos, Bool, false, codes, if◌then◌else◌}
use Rattle.std.specs.Prelude.{List, [], ◌∷◌, ◌++◌, length, map, Option, Some, None, Result, Ok, Err}
use Rattle.std.specs.Str.{bytes_eq}
use Rattle.rational.specs.Rational.{ℚ, int}
use Rattle.curve_library.specs.declared.texts.PieceText.{PieceText}
use Rattle.curve_library.specs.declared.texts.TailText.{TailText}
use Rattle.curve_library.specs.declared.texts.UseAs.{UseAs}
use Rattle.curve_library.specs.declared.texts.UseAs.TheVariants as uses
use Rattle.run_laws.specs.Servers.{Discipline, Fifo, Priority, Drr}
use Rattle.toml.specs.Data.{Data, Members, get_member}
use Rattle.net_model.specs.declared.fault.NetKind.{NetKind}
use Rattle.net_model.specs.declared.fault.NetKind.TheVariants.{M3, M6, M9}
use Rattle.net_model.specs.declared.fault.CurveRefusal.{CurveRefusal}
use Rattle.net_draft.specs.declared.hop.Hop.{Hop}
use Rattle.net_draft.specs.declared.words.ServiceWord.{ServiceWord}
use Rattle.net_draft.specs.declared.words.ServiceWord.TheVariants as services
use Rattle.net_draft.specs.declared.words.ArrivalWord.{ArrivalWord}
use Rattle.net_draft.specs.declared.words.ArrivalWord.TheVariants as arrivals
use Rattle.net_draft.specs.declared.words.DisciplineWord.{DisciplineWord}
use Rattle.net_draft.specs.declared.words.DisciplineWord.TheVariants as disciplines
use Rattle.net_draft.specs.Faults.{◌>>=◌, Read, placed, under, nth}
use Rattle.net_draft.specs.Hops.{hop_in}
use Rattle.net_draft.specs.Keys.{only}
use Rattle.net_draft.specs.Refusals.{refusal_of}
use Rattle.net_draft.specs.Texts.{CurveText, Bucket, Stair, RateLatency, Gate, Listed, ServerText, FlowText}
use Rattle.net_draft.specs.Values.{required, optional, at_key, text_in, truth_in, table_in, number_in, positive_in}
use Rattle.net_draft.specs.Values.{nonnegative_in, whole_in, longest, new_name, list_in}

-- the entries of an array one after the other, each with those before it and its place
unfoldable pub each : {A : Type 0} → (List A → List ℕ → Data → Read A) → List ℕ → List A → List Data → Read (List A)
each read place before [] = Ok before
each read place before (d ∷ ds) =
    read before (nth place (length before)) d >>= λ x. each read place (before ++ x ∷ []) ds

-- ---- words
abbrev pub service_of_text : List ℕ → Result ServiceWord NetKind
service_of_text s =
    if bytes_eq s (codes "latency") then Ok services.Latency
    else if bytes_eq s (codes "gate") then Ok services.Gate
    else if bytes_eq s (codes "list") then Ok services.List else Err M6

abbrev pub service_word : Data → Result ServiceWord NetKind
service_word d = text_in d >>= service_of_text

abbrev pub arrival_of_text : List ℕ → Result ArrivalWord NetKind
arrival_of_text s =
    if bytes_eq s (codes "bucket") then Ok arrivals.Bucket
    else if bytes_eq s (codes "stair") then Ok arrivals.Stair
    else if bytes_eq s (codes "list") then Ok arrivals.List else Err M6

abbrev pub arrival_word : Data → Result ArrivalWord NetKind
arrival_word d = text_in d >>= arrival_of_text

abbrev pub discipline_of_text : List ℕ → Result DisciplineWord NetKind
discipline_of_text s =
    if bytes_eq s (codes "fifo") then Ok disciplines.Fifo
    else if bytes_eq s (codes "priority") then Ok disciplines.Priority
    else if bytes_eq s (codes "drr") then Ok disciplines.Drr else Err M6

abbrev pub discipline_word : Data → Result DisciplineWord NetKind
discipline_word d = text_in d >>= discipline_of_text

-- ---- curves
abbrev pub unless_refused : List ℕ → CurveText → Option CurveRefusal → Read CurveText
unless_refused place text None = Ok text
unless_refused place text (Some refusal) = Err (record { kind = M9 refusal; place = place })

-- the text of a curve that is not refused
abbrev pub curve_at : List ℕ → CurveText → Read CurveText
curve_at place text = unless_refused place text (refusal_of text)

unfoldable pub piece_at : List ℕ → Data → Read PieceText
piece_at place d =
    placed place (table_in d) >>= λ ms.
    only (codes "x" ∷ codes "at" ∷ codes "after" ∷ codes "slope" ∷ []) place ms >>= λ _.
    at_key (codes "x") (required number_in) place ms >>= λ x.
    at_key (codes "at") (required number_in) place ms >>= λ value.
    at_key (codes "after") (optional number_in value) place ms >>= λ after.
    at_key (codes "slope") (optional number_in (int (pos 0))) place ms >>= λ slope.
    Ok (record { x = x; at = value; after = after; slope = slope })

unfoldable pub pieces_of : List ℕ → Members → Read (List PieceText)
pieces_of place ms =
    at_key (codes "piece") (required (list_in 0 64)) place ms >>= λ ds.
    each (λ before. piece_at) (under place (codes "piece")) [] ds

unfoldable pub tail_at : List ℕ → Data → Read TailText
tail_at place d =
    placed place (table_in d) >>= λ ms.
    only (codes "rank" ∷ codes "period" ∷ codes "rise" ∷ []) place ms >>= λ _.
    at_key (codes "rank") (required number_in) place ms >>= λ rank.
    at_key (codes "period") (required number_in) place ms >>= λ period.
    at_key (codes "rise") (required number_in) place ms >>= λ rise.
    Ok (record { rank = rank; period = period; rise = rise })

unfoldable pub tail_or_none : List ℕ → Option Data → Read (Option TailText)
tail_or_none place None = Ok None
tail_or_none place (Some d) = tail_at place d >>= λ t. Ok (Some t)

abbrev pub tail_of : List ℕ → Members → Read (Option TailText)
tail_of place ms = tail_or_none (under place (codes "tail")) (get_member (codes "tail") ms)

-- ---- services, of a server of this rate
unfoldable pub latency_at : ℚ → List ℕ → Members → Read CurveText
latency_at rate place ms =
    only (codes "kind" ∷ codes "latency" ∷ []) place ms >>= λ _.
    at_key (codes "latency") (optional number_in (int (pos 0))) place ms >>= λ latency.
    curve_at place (RateLatency rate latency)

unfoldable pub gate_at : ℚ → List ℕ → Members → Read CurveText
gate_at rate place ms =
    only (codes "kind" ∷ codes "cycle" ∷ codes "slot" ∷ []) place ms >>= λ _.
    at_key (codes "cycle") (required number_in) place ms >>= λ cycle.
    at_key (codes "slot") (required number_in) place ms >>= λ slot.
    curve_at place (Gate rate cycle slot)

unfoldable pub listed_service_at : List ℕ → Members → Read CurveText
listed_service_at place ms =
    only (codes "kind" ∷ codes "piece" ∷ codes "tail" ∷ []) place ms >>= λ _.
    pieces_of place ms >>= λ pieces.
    tail_of place ms >>= λ tail.
    curve_at place (Listed pieces tail uses.Service)

abbrev pub service_by : ServiceWord → ℚ → List ℕ → Members → Read CurveText
service_by services.Latency rate place ms = latency_at rate place ms
service_by services.Gate rate place ms = gate_at rate place ms
service_by services.List rate place ms = listed_service_at place ms

unfoldable pub service_at : ℚ → List ℕ → Data → Read CurveText
service_at rate place d =
    placed place (table_in d) >>= λ ms.
    at_key (codes "kind") (required service_word) place ms >>= λ word.
    service_by word rate place ms

-- without a service there is no latency
unfoldable pub service_or_rate : ℚ → List ℕ → Option Data → Read CurveText
service_or_rate rate place None = curve_at place (RateLatency rate (int (pos 0)))
service_or_rate rate place (Some d) = service_at rate place d

-- ---- arrivals, of a flow with this packet: a curve, and whether it is to be closed
unfoldable pub bucket_at : List ℕ → Members → Read (CurveText × Bool)
bucket_at place ms =
    only (codes "kind" ∷ codes "burst" ∷ codes "rate" ∷ []) place ms >>= λ _.
    at_key (codes "burst") (required number_in) place ms >>= λ burst.
    at_key (codes "rate") (required number_in) place ms >>= λ rate.
    curve_at place (Bucket burst rate) >>= λ text.
    Ok (text, false)

unfoldable pub stair_at : ℕ → List ℕ → Members → Read (CurveText × Bool)
stair_at packet place ms =
    only (codes "kind" ∷ codes "period" ∷ codes "jitter" ∷ []) place ms >>= λ _.
    at_key (codes "period") (required number_in) place ms >>= λ period.
    at_key (codes "jitter") (optional number_in (int (pos 0))) place ms >>= λ jitter.
    curve_at place (Stair packet period jitter) >>= λ text.
    Ok (text, false)

unfoldable pub listed_arrival_at : List ℕ → Members → Read (CurveText × Bool)
listed_arrival_at place ms =
    only (codes "kind" ∷ codes "piece" ∷ codes "tail" ∷ codes "close" ∷ []) place ms >>= λ _.
    pieces_of place ms >>= λ pieces.
    tail_of place ms >>= λ tail.
    at_key (codes "close") (optional truth_in false) place ms >>= λ closes.
    curve_at place (Listed pieces tail uses.Arrival) >>= λ text.
    Ok (text, closes)

abbrev pub arrival_by : ArrivalWord → ℕ → List ℕ → Members → Read (CurveText × Bool)
arrival_by arrivals.Bucket packet place ms = bucket_at place ms
arrival_by arrivals.Stair packet place ms = stair_at packet place ms
arrival_by arrivals.List packet place ms = listed_arrival_at place ms

unfoldable pub arrival_at : ℕ → List ℕ → Data → Read (CurveText × Bool)
arrival_at packet place d =
    placed place (table_in d) >>= λ ms.
    at_key (codes "kind") (required arrival_word) place ms >>= λ word.
    arrival_by word packet place ms

-- ---- servers
-- a key that only servers of another discipline may have
abbrev pub forbidden_in : List ℕ → Option Data → Read (Unit {0})
forbidden_in place None = Ok tt
forbidden_in place (Some d) = Err (record { kind = M3; place = place })

abbrev pub forbidden : List ℕ → List ℕ → Members → Read (Unit {0})
forbidden name place ms = forbidden_in (under place name) (get_member name ms)

abbrev pub quantum_at : List ℕ → Data → Read ℕ
quantum_at place d = placed place (whole_in 1 longest d)

unfoldable pub quanta_of : List ℕ → Members → Read (List ℕ)
quanta_of place ms =
    at_key (codes "quanta") (required (list_in 1 8)) place ms >>= λ ds.
    each (λ before. quantum_at) (under place (codes "quanta")) [] ds

unfoldable pub fifo_at : List ℕ → Members → Read Discipline
fifo_at place ms =
    forbidden (codes "queues") place ms >>= λ _.
    forbidden (codes "quanta") place ms >>= λ _.
    Ok Fifo

unfoldable pub priority_at : List ℕ → Members → Read Discipline
priority_at place ms =
    at_key (codes "queues") (required (whole_in 1 8)) place ms >>= λ queues.
    forbidden (codes "quanta") place ms >>= λ _.
    Ok (Priority queues)

unfoldable pub drr_at : List ℕ → Members → Read Discipline
drr_at place ms =
    forbidden (codes "queues") place ms >>= λ _.
    quanta_of place ms >>= λ quanta.
    Ok (Drr quanta)

abbrev pub discipline_by : DisciplineWord → List ℕ → Members → Read Discipline
discipline_by disciplines.Fifo place ms = fifo_at place ms
discipline_by disciplines.Priority place ms = priority_at place ms
discipline_by disciplines.Drr place ms = drr_at place ms

unfoldable pub discipline_at : List ℕ → Members → Read Discipline
discipline_at place ms =
    at_key (codes "discipline") (optional discipline_word disciplines.Fifo) place ms >>= λ word.
    discipline_by word place ms

abbrev pub server_keys : List (List ℕ)
server_keys =
    codes "name" ∷ codes "rate" ∷ codes "service" ∷ codes "link"
    ∷ codes "discipline" ∷ codes "queues" ∷ codes "quanta" ∷ []

abbrev pub server_names : List ServerText → List (List ℕ)
server_names = map (λ s. s.name)

-- a server with none of these names
unfoldable pub server_with : List (List ℕ) → List ℕ → Data → Read ServerText
server_with names place d =
    placed place (table_in d) >>= λ ms.
    only server_keys place ms >>= λ _.
    at_key (codes "name") (required (new_name names)) place ms >>= λ name.
    at_key (codes "rate") (required positive_in) place ms >>= λ rate.
    service_or_rate rate (under place (codes "service")) (get_member (codes "service") ms) >>= λ service.
    at_key (codes "link") (optional nonnegative_in (int (pos 0))) place ms >>= λ link.
    discipline_at place ms >>= λ discipline.
    Ok (record { name = name; rate = rate; service = service; link = link; discipline = discipline })

-- a server after these
abbrev pub server_text_at : List ServerText → List ℕ → Data → Read ServerText
server_text_at before = server_with (server_names before)

-- ---- flows
abbrev pub hop_at : List ServerText → List Hop → List ℕ → Data → Read Hop
hop_at servers before place d = placed place (hop_in servers before d)

unfoldable pub path_of : List ServerText → List ℕ → Members → Read (List Hop)
path_of servers place ms =
    at_key (codes "path") (required (list_in 1 16)) place ms >>= λ ds.
    each (hop_at servers) (under place (codes "path")) [] ds

unfoldable pub arrival_of : ℕ → List ℕ → Members → Read (CurveText × Bool)
arrival_of packet place ms =
    at_key (codes "arrival") (required Ok) place ms >>= arrival_at packet (under place (codes "arrival"))

abbrev pub flow_names : List FlowText → List (List ℕ)
flow_names = map (λ f. f.name)

-- a flow with none of these names, over these servers
unfoldable pub flow_with : List ServerText → List (List ℕ) → List ℕ → Data → Read FlowText
flow_with servers names place d =
    placed place (table_in d) >>= λ ms.
    only (codes "name" ∷ codes "packet" ∷ codes "arrival" ∷ codes "path" ∷ []) place ms >>= λ _.
    at_key (codes "name") (required (new_name names)) place ms >>= λ name.
    at_key (codes "packet") (required (whole_in 1 longest)) place ms >>= λ packet.
    arrival_of packet place ms >>= λ arrival.
    path_of servers place ms >>= λ path.
    Ok (record { name = name; packet = packet; arrival = arrival.0; closes = arrival.1; path = path })

-- a flow after these
abbrev pub flow_at : List ServerText → List FlowText → List ℕ → Data → Read FlowText
flow_at servers before = flow_with servers (flow_names before)
