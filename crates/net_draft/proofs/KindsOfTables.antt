-- Each fault that reading a file gives is one of its tables.
use Rattle.std.specs.Prelude.{codes, ◌^◌, ◌-◌, ◌&&◌, min, nat_le, nat_lt, nat_eq, option_map}
use Rattle.std.specs.List.{list_any, position}
use Rattle.std.specs.Str.{bytes_eq}
use Rattle.std.specs.Str.Parse.{digits_value}
use Rattle.std.proofs.Common.{◌≡◌, ℕ, ℤ, pos, negsuc, ◌+◌, Bool, true, false, if◌then◌else◌, List, [], ◌∷◌, ◌++◌, length, Option, None, Some, Result, Ok, Err, refl, subst}
use Rattle.rational.specs.Rational.{ℚ, int}
use Rattle.fraction128.specs.declared.fault.FracText.{FracText}
use Rattle.fraction128.specs.Text.{parse_of, is_numeral, before_at}
use Rattle.curve_library.specs.declared.texts.UseAs.TheVariants as uses
use Rattle.run_laws.specs.Servers.{Fifo, Priority, Drr, queue_count}
use Rattle.toml.specs.Data.{Data, Members, no_members, member, get_member, as_str, as_integer, as_bool, as_array, as_table}
use Rattle.net_model.specs.declared.fault.NetKind.{NetKind}
use Rattle.net_model.specs.declared.fault.NetKind.TheVariants.{M1, M2, M3, M4, M5, M6, M7, M8, M9, M10, M11, M12}
use Rattle.net_model.specs.declared.fault.CurveRefusal.{CurveRefusal}
use Rattle.net_draft.specs.declared.hop.Hop.{Hop}
use Rattle.net_draft.specs.declared.words.ServiceWord.{ServiceWord}
use Rattle.net_draft.specs.declared.words.ServiceWord.TheVariants as services
use Rattle.net_draft.specs.declared.words.ArrivalWord.{ArrivalWord}
use Rattle.net_draft.specs.declared.words.ArrivalWord.TheVariants as arrivals
use Rattle.net_draft.specs.declared.words.DisciplineWord.{DisciplineWord}
use Rattle.net_draft.specs.declared.words.DisciplineWord.TheVariants as disciplines
use Rattle.net_draft.specs.Drafts.{is_longer, quanta_from, quanta_in, quanta_of_server, quanta_fit, servers_of, flows_of, root_of, tree_of, draft_in}
use Rattle.net_draft.specs.FaultKinds.{IsOfTables, FaultsAreOfTables}
use Rattle.net_draft.specs.Faults.{◌>>=◌, Fault, Read, placed, under, nth}
use Rattle.net_draft.specs.Hops.{is_colon, queue_digits, hop_parts, hop_text, hop_to, hop_in, named_from}
use Rattle.net_draft.specs.Keys.{only}
use Rattle.net_draft.specs.Refusals.{refusal_of}
use Rattle.net_draft.specs.Tables.{each, service_of_text, service_word, arrival_of_text, arrival_word, discipline_of_text, discipline_word, unless_refused, curve_at, piece_at, pieces_of, tail_at, tail_or_none, tail_of, latency_at, gate_at, listed_service_at, service_by, service_at, service_or_rate}
use Rattle.net_draft.specs.Tables.{bucket_at, stair_at, listed_arrival_at, arrival_by, arrival_at, forbidden_in, forbidden, quantum_at, quanta_of, fifo_at, priority_at, drr_at, discipline_by, discipline_at, server_keys, server_names, server_with, server_text_at, hop_at, path_of, arrival_of, flow_names, flow_with, flow_at}
use Rattle.net_draft.specs.Texts.{CurveText, Bucket, Stair, RateLatency, Gate, Listed, ServerText, FlowText}
use Rattle.net_draft.specs.Values.{wanted, entries, number_of, number_in, written, less, above_zero, not_below_zero, positive_in, nonnegative_in, in_range, whole_in, longest, is_name, name_of, name_in, untaken, new_name, counted, list_in, required, optional, at_key, truth_in, table_in}

-- what is said of each error
record Tells {A E : Type 0} (P : E → Type 0) (r : Result A E) : Type 0 where
  told : (e : E) → r ≡ Err e → P e

abbrev Kinds : {A : Type 0} → Result A NetKind → Type 0
Kinds r = Tells IsOfTables r

abbrev Faults : {A : Type 0} → Read A → Type 0
Faults r = Tells (λ (f : Fault). IsOfTables f.kind) r

-- ---- steps
ok_is_err : {A E : Type 0} (x : A) (e : E) → (let r : Result A E = Ok x in r) ≡ Err e → ⊥
ok_is_err x e h = cc

same_err : {A E : Type 0} (d e : E) → (let r : Result A E = Err d in r) ≡ Err e → d ≡ e
same_err d e h = cc

fine : {A E : Type 0} {P : E → Type 0} (x : A) → Tells {A = A} {E = E} P (Ok x)
fine x = record { told = λ e h. absurd (ok_is_err x e h) }

bad : {A E : Type 0} {P : E → Type 0} (e : E) → P e → Tells {A = A} {E = E} P (Err e)
bad {A} {E} {P} e p = record { told = λ d h. subst P (same_err {A = A} e d h) p }

next : {A B E : Type 0} {P : E → Type 0} {r : Result A E} {g : A → Result B E} → Tells P r → ((x : A) → Tells P (g x)) → Tells P (r >>= g)
next {A} {B} {E} {P} {r} {g} h k = by r h
  where
    by : (q : Result A E) → Tells P q → Tells P (q >>= g)
    by (Ok x) t = k x
    by (Err e) t = bad e (t.told e refl)

choose : {A E : Type 0} {P : E → Type 0} (b : Bool) {x y : Result A E} → Tells P x → Tells P y → Tells P (if b then x else y)
choose true h k = h
choose false h k = k

at_place : {A : Type 0} (place : List ℕ) (r : Result A NetKind) → Kinds r → Faults (placed place r)
at_place place (Ok x) h = fine x
at_place place (Err kind) h = bad (record { kind = kind; place = place }) (h.told kind refl)

-- ---- values
wanted_k : {A : Type 0} (o : Option A) → Kinds (wanted o)
wanted_k None = bad M4 tt
wanted_k (Some x) = fine x

read_k : (r : Result ℚ FracText) → Kinds (written r)
read_k (Ok x) = fine x
read_k (Err e) = bad M5 tt

number_of_k : (z : Option ℤ) (s : Option (List ℕ)) → Kinds (number_of z s)
number_of_k (Some z) s = fine (int z)
number_of_k None (Some s) = read_k (parse_of s)
number_of_k None None = bad M4 tt

number_k : (d : Data) → Kinds (number_in d)
number_k d = number_of_k (as_integer d) (as_str d)

above_k : (x : ℚ) → Kinds (above_zero x)
above_k x = choose (less (int (pos 0)) x) (fine x) (bad M6 tt)

not_below_k : (x : ℚ) → Kinds (not_below_zero x)
not_below_k x = choose (less x (int (pos 0))) (bad M6 tt) (fine x)

positive_k : (d : Data) → Kinds (positive_in d)
positive_k d = next (number_k d) above_k

nonnegative_k : (d : Data) → Kinds (nonnegative_in d)
nonnegative_k d = next (number_k d) not_below_k

in_range_k : (least most : ℕ) (z : ℤ) → Kinds (in_range least most z)
in_range_k least most (pos n) = choose (nat_le least n && nat_le n most) (fine n) (bad M6 tt)
in_range_k least most (negsuc n) = bad M6 tt

whole_k : (least most : ℕ) (d : Data) → Kinds (whole_in least most d)
whole_k least most d = next (wanted_k (as_integer d)) (in_range_k least most)

name_of_k : (s : List ℕ) → Kinds (name_of s)
name_of_k s = choose (is_name s) (fine s) (bad M6 tt)

name_k : (d : Data) → Kinds (name_in d)
name_k d = next (wanted_k (as_str d)) name_of_k

untaken_k : (names : List (List ℕ)) (s : List ℕ) → Kinds (untaken names s)
untaken_k names s = choose (list_any (bytes_eq s) names) (bad M7 tt) (fine s)

new_name_k : (names : List (List ℕ)) (d : Data) → Kinds (new_name names d)
new_name_k names d = next (name_k d) (untaken_k names)

counted_k : (least most : ℕ) (ds : List Data) → Kinds (counted least most ds)
counted_k least most ds = choose (nat_lt (length ds) least) (bad M6 tt) (choose (nat_lt most (length ds)) (bad M11 tt) (fine ds))

list_k : (least most : ℕ) (d : Data) → Kinds (list_in least most d)
list_k least most d = next (wanted_k (option_map entries (as_array d))) (counted_k least most)

truth_k : (d : Data) → Kinds (truth_in d)
truth_k d = wanted_k (as_bool d)

any_k : (d : Data) → Kinds (let r : Result Data NetKind = Ok d in r)
any_k d = fine d

-- ---- keys
required_k : {A : Type 0} (read : Data → Result A NetKind) → ((d : Data) → Kinds (read d)) → (o : Option Data) → Kinds (required read o)
required_k read h None = bad M2 tt
required_k read h (Some d) = h d

optional_k : {A : Type 0} (read : Data → Result A NetKind) (default : A) → ((d : Data) → Kinds (read d)) → (o : Option Data) → Kinds (optional read default o)
optional_k read default h None = fine default
optional_k read default h (Some d) = h d

needed : {A : Type 0} (read : Data → Result A NetKind) → ((d : Data) → Kinds (read d)) → (name place : List ℕ) (ms : Members) → Faults (at_key name (required read) place ms)
needed read h name place ms = at_place (under place name) (required read (get_member name ms)) (required_k read h (get_member name ms))

allowed : {A : Type 0} (read : Data → Result A NetKind) (default : A) → ((d : Data) → Kinds (read d)) → (name place : List ℕ) (ms : Members)
    → Faults (at_key name (optional read default) place ms)
allowed read default h name place ms = at_place (under place name) (optional read default (get_member name ms)) (optional_k read default h (get_member name ms))

only_k : (known : List (List ℕ)) (place : List ℕ) (ms : Members) → Faults (only known place ms)
only_k known place no_members = fine tt
only_k known place (member k d ms) = choose (list_any (bytes_eq k) known) (only_k known place ms) (bad (record { kind = M3; place = under place k }) tt)

each_k : {A : Type 0} (read : List A → List ℕ → Data → Read A) → ((before : List A) (place : List ℕ) (d : Data) → Faults (read before place d)) → (place : List ℕ) (before : List A) (ds : List Data)
    → Faults (each read place before ds)
unfolding each
each_k read h place before [] = fine before
each_k read h place before (d ∷ ds) = next (h before (nth place (length before)) d) (λ x. each_k read h place (before ++ x ∷ []) ds)

table_k : (place : List ℕ) (d : Data) → Faults (placed place (table_in d))
table_k place d = at_place place (table_in d) (wanted_k (as_table d))

-- ---- words
three_k : {A : Type 0} (a b c : Bool) (x y z : A) → Kinds (if a then Ok x else if b then Ok y else if c then Ok z else Err M6)
three_k a b c x y z = choose a (fine x) (choose b (fine y) (choose c (fine z) (bad M6 tt)))

service_text_k : (s : List ℕ) → Kinds (service_of_text s)
service_text_k s = three_k (bytes_eq s (codes "latency")) (bytes_eq s (codes "gate")) (bytes_eq s (codes "list")) services.Latency services.Gate services.List

arrival_text_k : (s : List ℕ) → Kinds (arrival_of_text s)
arrival_text_k s = three_k (bytes_eq s (codes "bucket")) (bytes_eq s (codes "stair")) (bytes_eq s (codes "list")) arrivals.Bucket arrivals.Stair arrivals.List

discipline_text_k : (s : List ℕ) → Kinds (discipline_of_text s)
discipline_text_k s = three_k (bytes_eq s (codes "fifo")) (bytes_eq s (codes "priority")) (bytes_eq s (codes "drr")) disciplines.Fifo disciplines.Priority disciplines.Drr

service_word_k : (d : Data) → Kinds (service_word d)
service_word_k d = next (wanted_k (as_str d)) service_text_k

arrival_word_k : (d : Data) → Kinds (arrival_word d)
arrival_word_k d = next (wanted_k (as_str d)) arrival_text_k

discipline_word_k : (d : Data) → Kinds (discipline_word d)
discipline_word_k d = next (wanted_k (as_str d)) discipline_text_k

-- ---- curves
unless_k : (place : List ℕ) (text : CurveText) (o : Option CurveRefusal) → Faults (unless_refused place text o)
unless_k place text None = fine text
unless_k place text (Some refusal) = bad (record { kind = M9 refusal; place = place }) tt

curve_k : (place : List ℕ) (text : CurveText) → Faults (curve_at place text)
curve_k place text = unless_k place text (refusal_of text)

piece_k : (place : List ℕ) (d : Data) → Faults (piece_at place d)
unfolding piece_at
piece_k place d =
    next (table_k place d) (λ ms. next (only_k (codes "x" ∷ codes "at" ∷ codes "after" ∷ codes "slope" ∷ []) place ms) (λ u. next (needed number_in number_k (codes "x") place ms) (λ x.
    next (needed number_in number_k (codes "at") place ms) (λ value. next (allowed number_in value number_k (codes "after") place ms) (λ after.
    next (allowed number_in (int (pos 0)) number_k (codes "slope") place ms) (λ slope. fine (record { x = x; at = value; after = after; slope = slope })))))))

pieces_k : (place : List ℕ) (ms : Members) → Faults (pieces_of place ms)
unfolding pieces_of
pieces_k place ms = next (needed (list_in 0 64) (list_k 0 64) (codes "piece") place ms) (λ ds. each_k (λ before. piece_at) (λ before. piece_k) (under place (codes "piece")) [] ds)

tail_at_k : (place : List ℕ) (d : Data) → Faults (tail_at place d)
unfolding tail_at
tail_at_k place d =
    next (table_k place d) (λ ms. next (only_k (codes "rank" ∷ codes "period" ∷ codes "rise" ∷ []) place ms) (λ u. next (needed number_in number_k (codes "rank") place ms) (λ rank.
    next (needed number_in number_k (codes "period") place ms) (λ period. next (needed number_in number_k (codes "rise") place ms) (λ rise. fine (record { rank = rank; period = period; rise = rise }))))))

tail_k : (place : List ℕ) (o : Option Data) → Faults (tail_or_none place o)
unfolding tail_or_none
tail_k place None = fine None
tail_k place (Some d) = next (tail_at_k place d) (λ t. fine (Some t))

tail_of_k : (place : List ℕ) (ms : Members) → Faults (tail_of place ms)
tail_of_k place ms = tail_k (under place (codes "tail")) (get_member (codes "tail") ms)

-- ---- services
latency_k : (rate : ℚ) (place : List ℕ) (ms : Members) → Faults (latency_at rate place ms)
unfolding latency_at
latency_k rate place ms = next (only_k (codes "kind" ∷ codes "latency" ∷ []) place ms) (λ u. next (allowed number_in (int (pos 0)) number_k (codes "latency") place ms) (λ latency. curve_k place (RateLatency rate latency)))

gate_k : (rate : ℚ) (place : List ℕ) (ms : Members) → Faults (gate_at rate place ms)
unfolding gate_at
gate_k rate place ms =
    next (only_k (codes "kind" ∷ codes "cycle" ∷ codes "slot" ∷ []) place ms) (λ u. next (needed number_in number_k (codes "cycle") place ms) (λ cycle.
    next (needed number_in number_k (codes "slot") place ms) (λ slot. curve_k place (Gate rate cycle slot))))

listed_service_k : (place : List ℕ) (ms : Members) → Faults (listed_service_at place ms)
unfolding listed_service_at
listed_service_k place ms =
    next (only_k (codes "kind" ∷ codes "piece" ∷ codes "tail" ∷ []) place ms) (λ u. next (pieces_k place ms) (λ pieces. next (tail_of_k place ms) (λ tail. curve_k place (Listed pieces tail uses.Service))))

service_by_k : (word : ServiceWord) (rate : ℚ) (place : List ℕ) (ms : Members) → Faults (service_by word rate place ms)
service_by_k services.Latency rate place ms = latency_k rate place ms
service_by_k services.Gate rate place ms = gate_k rate place ms
service_by_k services.List rate place ms = listed_service_k place ms

service_at_k : (rate : ℚ) (place : List ℕ) (d : Data) → Faults (service_at rate place d)
unfolding service_at
service_at_k rate place d = next (table_k place d) (λ ms. next (needed service_word service_word_k (codes "kind") place ms) (λ word. service_by_k word rate place ms))

service_k : (rate : ℚ) (place : List ℕ) (o : Option Data) → Faults (service_or_rate rate place o)
unfolding service_or_rate
service_k rate place None = curve_k place (RateLatency rate (int (pos 0)))
service_k rate place (Some d) = service_at_k rate place d

-- ---- arrivals
bucket_k : (place : List ℕ) (ms : Members) → Faults (bucket_at place ms)
unfolding bucket_at
bucket_k place ms =
    next (only_k (codes "kind" ∷ codes "burst" ∷ codes "rate" ∷ []) place ms) (λ u. next (needed number_in number_k (codes "burst") place ms) (λ burst.
    next (needed number_in number_k (codes "rate") place ms) (λ rate. next (curve_k place (Bucket burst rate)) (λ text. fine (text, false)))))

stair_k : (packet : ℕ) (place : List ℕ) (ms : Members) → Faults (stair_at packet place ms)
unfolding stair_at
stair_k packet place ms =
    next (only_k (codes "kind" ∷ codes "period" ∷ codes "jitter" ∷ []) place ms) (λ u. next (needed number_in number_k (codes "period") place ms) (λ period.
    next (allowed number_in (int (pos 0)) number_k (codes "jitter") place ms) (λ jitter. next (curve_k place (Stair packet period jitter)) (λ text. fine (text, false)))))

listed_arrival_k : (place : List ℕ) (ms : Members) → Faults (listed_arrival_at place ms)
unfolding listed_arrival_at
listed_arrival_k place ms =
    next (only_k (codes "kind" ∷ codes "piece" ∷ codes "tail" ∷ codes "close" ∷ []) place ms) (λ u. next (pieces_k place ms) (λ pieces. next (tail_of_k place ms) (λ tail.
    next (allowed truth_in false truth_k (codes "close") place ms) (λ closes. next (curve_k place (Listed pieces tail uses.Arrival)) (λ text. fine (text, closes))))))

arrival_by_k : (word : ArrivalWord) (packet : ℕ) (place : List ℕ) (ms : Members) → Faults (arrival_by word packet place ms)
arrival_by_k arrivals.Bucket packet place ms = bucket_k place ms
arrival_by_k arrivals.Stair packet place ms = stair_k packet place ms
arrival_by_k arrivals.List packet place ms = listed_arrival_k place ms

arrival_at_k : (packet : ℕ) (place : List ℕ) (d : Data) → Faults (arrival_at packet place d)
unfolding arrival_at
arrival_at_k packet place d = next (table_k place d) (λ ms. next (needed arrival_word arrival_word_k (codes "kind") place ms) (λ word. arrival_by_k word packet place ms))

arrival_k : (packet : ℕ) (place : List ℕ) (ms : Members) → Faults (arrival_of packet place ms)
unfolding arrival_of
arrival_k packet place ms = next (needed Ok any_k (codes "arrival") place ms) (arrival_at_k packet (under place (codes "arrival")))

-- ---- servers
forbidden_in_k : (place : List ℕ) (o : Option Data) → Faults (forbidden_in place o)
forbidden_in_k place None = fine tt
forbidden_in_k place (Some d) = bad (record { kind = M3; place = place }) tt

forbidden_k : (name place : List ℕ) (ms : Members) → Faults (forbidden name place ms)
forbidden_k name place ms = forbidden_in_k (under place name) (get_member name ms)

quantum_k : (place : List ℕ) (d : Data) → Faults (quantum_at place d)
quantum_k place d = at_place place (whole_in 1 longest d) (whole_k 1 longest d)

quanta_k : (place : List ℕ) (ms : Members) → Faults (quanta_of place ms)
unfolding quanta_of
quanta_k place ms = next (needed (list_in 1 8) (list_k 1 8) (codes "quanta") place ms) (λ ds. each_k (λ before. quantum_at) (λ before. quantum_k) (under place (codes "quanta")) [] ds)

fifo_k : (place : List ℕ) (ms : Members) → Faults (fifo_at place ms)
unfolding fifo_at
fifo_k place ms = next (forbidden_k (codes "queues") place ms) (λ u. next (forbidden_k (codes "quanta") place ms) (λ v. fine Fifo))

priority_k : (place : List ℕ) (ms : Members) → Faults (priority_at place ms)
unfolding priority_at
priority_k place ms = next (needed (whole_in 1 8) (whole_k 1 8) (codes "queues") place ms) (λ queues. next (forbidden_k (codes "quanta") place ms) (λ v. fine (Priority queues)))

drr_k : (place : List ℕ) (ms : Members) → Faults (drr_at place ms)
unfolding drr_at
drr_k place ms = next (forbidden_k (codes "queues") place ms) (λ u. next (quanta_k place ms) (λ quanta. fine (Drr quanta)))

discipline_by_k : (word : DisciplineWord) (place : List ℕ) (ms : Members) → Faults (discipline_by word place ms)
discipline_by_k disciplines.Fifo place ms = fifo_k place ms
discipline_by_k disciplines.Priority place ms = priority_k place ms
discipline_by_k disciplines.Drr place ms = drr_k place ms

discipline_k : (place : List ℕ) (ms : Members) → Faults (discipline_at place ms)
unfolding discipline_at
discipline_k place ms = next (allowed discipline_word disciplines.Fifo discipline_word_k (codes "discipline") place ms) (λ word. discipline_by_k word place ms)

server_k : (names : List (List ℕ)) (place : List ℕ) (d : Data) → Faults (server_with names place d)
unfolding server_with
server_k names place d =
    next (table_k place d) (λ ms. next (only_k server_keys place ms) (λ u. next (needed (new_name names) (new_name_k names) (codes "name") place ms) (λ name.
    next (needed positive_in positive_k (codes "rate") place ms) (λ rate. next (service_k rate (under place (codes "service")) (get_member (codes "service") ms)) (λ service.
    next (allowed nonnegative_in (int (pos 0)) nonnegative_k (codes "link") place ms) (λ link. next (discipline_k place ms) (λ discipline.
    fine (record { name = name; rate = rate; service = service; link = link; discipline = discipline }))))))))

-- ---- flows
hop_parts_k : (name digits : List ℕ) → Kinds (hop_parts name digits)
hop_parts_k name digits = choose (is_name name && is_numeral digits) (fine (record { name = name; queue = min (digits_value 10 digits) (2 ^ 32 - 1) })) (bad M5 tt)

hop_text_k : (s : List ℕ) → Kinds (hop_text s)
hop_text_k s = hop_parts_k (before_at (position is_colon s) s) (queue_digits (position is_colon s) s)

named_k : (n : ℕ) (name : List ℕ) (ss : List ServerText) → Kinds (named_from n name ss)
unfolding named_from
named_k n name [] = bad M8 tt
named_k n name (s ∷ ss) = choose (bytes_eq s.name name) (fine (n, s)) (named_k (n + 1) name ss)

hop_to_k : (before : List Hop) (queue : ℕ) (found : ℕ × ServerText) → Kinds (hop_to before queue found)
hop_to_k before queue found =
    choose (nat_lt queue (queue_count found.1.discipline))
    (choose (list_any (λ h. nat_eq h.server found.0) before) (bad M10 tt) (fine (record { server = found.0; queue = queue }))) (bad M6 tt)

hop_k : (servers : List ServerText) (before : List Hop) (d : Data) → Kinds (hop_in servers before d)
unfolding hop_in
hop_k servers before d = next (wanted_k (as_str d)) (λ s. next (hop_text_k s) (λ h. next (named_k 0 h.name servers) (λ found. hop_to_k before h.queue found)))

hop_at_k : (servers : List ServerText) (before : List Hop) (place : List ℕ) (d : Data) → Faults (hop_at servers before place d)
hop_at_k servers before place d = at_place place (hop_in servers before d) (hop_k servers before d)

path_k : (servers : List ServerText) (place : List ℕ) (ms : Members) → Faults (path_of servers place ms)
unfolding path_of
path_k servers place ms = next (needed (list_in 1 16) (list_k 1 16) (codes "path") place ms) (λ ds. each_k (hop_at servers) (hop_at_k servers) (under place (codes "path")) [] ds)

flow_k : (servers : List ServerText) (names : List (List ℕ)) (place : List ℕ) (d : Data) → Faults (flow_with servers names place d)
unfolding flow_with
flow_k servers names place d =
    next (table_k place d) (λ ms. next (only_k (codes "name" ∷ codes "packet" ∷ codes "arrival" ∷ codes "path" ∷ []) place ms) (λ u. next (needed (new_name names) (new_name_k names) (codes "name") place ms) (λ name.
    next (needed (whole_in 1 longest) (whole_k 1 longest) (codes "packet") place ms) (λ packet. next (arrival_k packet place ms) (λ arrival. next (path_k servers place ms) (λ path.
    fine (record { name = name; packet = packet; arrival = arrival.0; closes = arrival.1; path = path })))))))

-- ---- quanta and the root
quanta_from_k : (flows : List FlowText) (place : List ℕ) (server queue : ℕ) (quanta : List ℕ) → Faults (quanta_from flows place server queue quanta)
unfolding quanta_from
quanta_from_k flows place server queue [] = fine tt
quanta_from_k flows place server queue (bits ∷ more) =
    choose (list_any (is_longer server queue bits) flows) (bad (record { kind = M12; place = nth place queue }) tt) (quanta_from_k flows place server (queue + 1) more)

of_server_k : (flows : List FlowText) (server : ℕ) (s : ServerText) → Faults (quanta_of_server flows server s)
of_server_k flows server s = quanta_from_k flows (under (nth (codes "server") server) (codes "quanta")) server 0 (quanta_in s.discipline)

fit_k : (flows : List FlowText) (server : ℕ) (ss : List ServerText) → Faults (quanta_fit flows server ss)
unfolding quanta_fit
fit_k flows server [] = fine tt
fit_k flows server (s ∷ ss) = next (of_server_k flows server s) (λ u. fit_k flows (server + 1) ss)

servers_k : (ms : Members) → Faults (servers_of ms)
unfolding servers_of
servers_k ms = next (allowed (list_in 0 64) [] (list_k 0 64) (codes "server") [] ms) (λ ds. each_k server_text_at (λ before. server_k (server_names before)) (codes "server") [] ds)

flows_k : (servers : List ServerText) (ms : Members) → Faults (flows_of servers ms)
unfolding flows_of
flows_k servers ms = next (allowed (list_in 0 256) [] (list_k 0 256) (codes "flow") [] ms) (λ ds. each_k (flow_at servers) (λ before. flow_k servers (flow_names before)) (codes "flow") [] ds)

root_k : (ms : Members) → Faults (root_of ms)
unfolding root_of
root_k ms =
    next (only_k (codes "version" ∷ codes "server" ∷ codes "flow" ∷ []) [] ms) (λ u. next (allowed (whole_in 1 2) 1 (whole_k 1 2) (codes "version") [] ms) (λ version. next (servers_k ms) (λ servers.
    next (flows_k servers ms) (λ flows. next (fit_k flows 0 servers) (λ v. fine (record { version = version; servers = servers; flows = flows }))))))

draft_k : (tree : Option Members) → Faults (draft_in tree)
draft_k None = bad (record { kind = M1; place = [] }) tt
draft_k (Some ms) = root_k ms

pub faults_are_of_tables : FaultsAreOfTables
faults_are_of_tables bytes f h = (draft_k (tree_of bytes)).told f h
