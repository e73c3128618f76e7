-- What is read of a file keeps what a draft keeps: names, ranges, paths and quanta, and that no curve of it is refused.
use Rattle.std.specs.Prelude.{codes, ◌≢◌, All, AllPairs, slice_get}
use Rattle.std.specs.List.{list_any, list_all}
use Rattle.std.specs.Str.{bytes_eq}
use Rattle.std.proofs.Common.{◌≡◌, ℕ, ℤ, pos, negsuc, suc, ◌+◌, ◌<◌, ◌≤◌, ◌^◌, ◌&&◌, nat_lt, nat_le, nat_eq, nat_abs, Bool, true, false, if◌then◌else◌, List, [], ◌∷◌, ◌++◌, length, get_or, Option, Some, None, Result, Ok, Err, refl, sym, subst, arith, true≢false, ◌∙◌}
use Rattle.std.proofs.lemmas.Bool.{and_parts, ltb-true, ltb-false, leb-true, eq-eqb}
use Rattle.std.proofs.lemmas.List.{length_push}
use Rattle.std.proofs.lemmas.List.Elements.{All-nil, All-push}
use Rattle.std.proofs.lemmas.List.Quantifiers.{all_pairs_push}
use Rattle.std.proofs.lemmas.List.Sums.{AllPass-from_list_all}
use Rattle.rational.specs.Rational.{ℚ, int, ◌≤ℚ◌, ◌<ℚ◌}
use Rattle.rational.specs.Ratio.{IsSmall}
use Rattle.rational.proofs.Laws.{le_of_not_lt, le_refl}
use Rattle.min_plus.specs.Functions.{zero_q}
use Rattle.fraction128.specs.declared.fault.FracText.{FracText}
use Rattle.fraction128.specs.Text.{parse_of}
use Rattle.curve_library.specs.declared.texts.PieceText.{PieceText}
use Rattle.curve_library.specs.declared.texts.UseAs.TheVariants as uses
use Rattle.run_laws.specs.Servers.{queue_count}
use Rattle.net_model.specs.Accepted.{IsVersion, IsLength, IsQueueNumber, HasFewQueues}
use Rattle.net_model.specs.Names.{IsName, is_name, is_name_byte}
use Rattle.net_model.specs.declared.fault.NetKind.{NetKind}
use Rattle.net_model.specs.declared.fault.NetKind.TheVariants.{M1, M2, M4, M5, M6, M7, M8, M9, M10, M11}
use Rattle.net_model.specs.declared.fault.CurveRefusal.{CurveRefusal}
use Rattle.toml.specs.Data.{Data, string, integer, float, boolean, datetime, array, table, Items, no_items, item, Members, get_member, as_integer}
use Rattle.net_draft.specs.declared.hop.Hop.{Hop}
use Rattle.net_draft.specs.declared.words.ServiceWord.{ServiceWord}
use Rattle.net_draft.specs.declared.words.ServiceWord.TheVariants as services
use Rattle.net_draft.specs.declared.words.ArrivalWord.{ArrivalWord}
use Rattle.net_draft.specs.declared.words.ArrivalWord.TheVariants as arrivals
use Rattle.net_draft.specs.Drafts.{quanta_fit, servers_of, flows_of, root_of, tree_of, draft_in, draft_of}
use Rattle.net_draft.specs.Faults.{◌>>=◌, Read, placed, under, nth}
use Rattle.net_draft.specs.Hops.{hop_text, hop_in, named_from}
use Rattle.net_draft.specs.Keys.{only}
use Rattle.net_draft.specs.Kept.{AreWithinQuanta}
use Rattle.net_draft.specs.Refusals.{refusal_of}
use Rattle.net_draft.specs.Tables.{each, unless_refused, curve_at, piece_at, pieces_of, latency_at, gate_at, listed_service_at, service_by, service_at, service_or_rate, bucket_at, stair_at, listed_arrival_at, arrival_by, arrival_at, quantum_at, quanta_of, discipline_at, tail_of, service_word, arrival_word, server_keys, server_names, server_with, server_text_at, hop_at, path_of, arrival_of, flow_names, flow_with, flow_at}
use Rattle.net_draft.specs.Texts.{CurveText, Bucket, Stair, RateLatency, Gate, Listed, ServerText, FlowText, DraftText, IsServiceOf, IsArrivalOf, IsHopOf}
use Rattle.net_draft.specs.Values.{entries, entries_in, number_in, written, less, positive_in, nonnegative_in, in_range, whole_in, longest, name_in, new_name, list_in, required, optional, at_key, table_in, text_in, truth_in, wanted}
use Rattle.net_draft.proofs.Decided.{Decides, less_decides}
use Rattle.net_draft.proofs.DisciplinesKept.{AreQuanta, discipline_few, same_ok}
use Rattle.net_draft.proofs.Named.{All-unmap, all_other}
use Rattle.net_draft.proofs.QuantaKept.{none_passes, quanta_kept}
use Rattle.existence.proofs.scripts.Numbers.{over_small, parsed_small}
use Rattle.existence.proofs.drafts.TomlIntegers.{IsShort, AreShort, ItemsAreShort, MembersAreShort, Gives, member_short, integers_are_short}

-- ---- what is said of each value that is read
record Keeps {A E : Type 0} (P : A → Type 0) (r : Result A E) : Type 0 where
  kept : (x : A) → r ≡ Ok x → P x

err_is_ok : {A E : Type 0} (x : A) (e : E) → (let r : Result A E = Err e in r) ≡ Ok x → ⊥
err_is_ok x e h = cc

fine : {A E : Type 0} {P : A → Type 0} (x : A) → P x → Keeps {A = A} {E = E} P (Ok x)
fine {A} {E} {P} x p = record { kept = λ y h. subst P (same_ok {E = E} x y h) p }

bad : {A E : Type 0} {P : A → Type 0} (e : E) → Keeps {A = A} {E = E} P (Err e)
bad e = record { kept = λ y h. absurd (err_is_ok y e h) }

next : {A B E : Type 0} {P : A → Type 0} {Q : B → Type 0} {r : Result A E} {g : A → Result B E}
    → Keeps P r → ((x : A) → P x → Keeps Q (g x)) → Keeps Q (r >>= g)
next {A} {B} {E} {P} {Q} {r} {g} h k = by r h
  where
    by : (q : Result A E) → Keeps P q → Keeps Q (q >>= g)
    by (Ok x) t = k x (t.kept x refl)
    by (Err e) t = bad e

whatever : {A E : Type 0} (r : Result A E) → Keeps (λ x. Unit {0}) r
whatever r = record { kept = λ x h. tt }

weaker : {A E : Type 0} {P Q : A → Type 0} {r : Result A E} → Keeps P r → ((x : A) → P x → Q x) → Keeps Q r
weaker h f = record { kept = λ x e. f x (h.kept x e) }

at_place : {A : Type 0} {P : A → Type 0} (place : List ℕ) (r : Result A NetKind) → Keeps P r → Keeps P (placed place r)
at_place place (Ok x) h = fine x (h.kept x refl)
at_place place (Err kind) h = bad (record { kind = kind; place = place })

-- ---- keys
module _ {A : Type 0} {P : A → Type 0} (read : Data → Result A NetKind) (each_is : (d : Data) → AreShort d → Keeps P (read d)) where
  required_kept : (o : Option Data) → Gives AreShort o → Keeps P (required read o)
  required_kept None g = bad M2
  required_kept (Some d) g = each_is d (g.given d refl)

  optional_kept : (default : A) → P default → (o : Option Data) → Gives AreShort o → Keeps P (optional read default o)
  optional_kept default p None g = fine default p
  optional_kept default p (Some d) g = each_is d (g.given d refl)

  needed : (name place : List ℕ) (ms : Members) → MembersAreShort ms → Keeps P (at_key name (required read) place ms)
  needed name place ms h =
      at_place (under place name) (required read (get_member name ms)) (required_kept (get_member name ms) (member_short name ms h))

  allowed : (default : A) → P default → (name place : List ℕ) (ms : Members) → MembersAreShort ms
      → Keeps P (at_key name (optional read default) place ms)
  allowed default p name place ms h =
      at_place (under place name) (optional read default (get_member name ms))
      (optional_kept default p (get_member name ms) (member_short name ms h))

-- ---- numbers
int_small : (z : ℤ) → IsShort z → IsSmall (int z)
int_small z h = over_small z 1 (λ e. let no : ⊥ = omega (arith, e) in no) (let l : nat_abs z < 2 ^ 127 = omega (arith, h) in l) (let l : 1 < 2 ^ 127 = omega arith in l)

written_kept : (s : List ℕ) (r : Result ℚ FracText) → parse_of s ≡ r → Keeps IsSmall (written r)
written_kept s (Ok x) e = fine x (parsed_small s x e)
written_kept s (Err fault) e = bad M5

number_kept : (d : Data) → AreShort d → Keeps IsSmall (number_in d)
number_kept (integer z) h = fine (int z) (int_small z h)
number_kept (string s) h = written_kept s (parse_of s) refl
number_kept (float x) h = bad M4
number_kept (boolean b) h = bad M4
number_kept (datetime dt) h = bad M4
number_kept (array ds) h = bad M4
number_kept (table ms) h = bad M4

by_sign : (x : ℚ) (b : Bool) → Decides b (zero_q <ℚ x) → Keeps (λ y. zero_q <ℚ y) (if b then Ok x else Err M6)
by_sign x true d = fine x d
by_sign x false d = bad M6

positive_kept : (d : Data) → AreShort d → Keeps (λ y. zero_q <ℚ y) (positive_in d)
positive_kept d h = next (whatever (number_in d)) (λ x u. by_sign x (less zero_q x) (less_decides zero_q x))

by_low : (x : ℚ) (b : Bool) → Decides b (x <ℚ zero_q) → Keeps (λ y. zero_q ≤ℚ y) (if b then Err M6 else Ok x)
by_low x true d = bad M6
by_low x false d = fine x (le_of_not_lt d)

nonnegative_kept : (d : Data) → AreShort d → Keeps (λ y. zero_q ≤ℚ y) (nonnegative_in d)
nonnegative_kept d h = next (whatever (number_in d)) (λ x u. by_low x (less x zero_q) (less_decides x zero_q))

abbrev IsWithin : ℕ → ℕ → ℕ → Type 0
IsWithin least most n = (least ≤ n) × (n ≤ most)

by_range : (least most n : ℕ) (b : Bool) → (nat_le least n && nat_le n most) ≡ b → Keeps (IsWithin least most) (if b then Ok n else Err M6)
by_range least most n true e =
    let p = and_parts (nat_le least n) (nat_le n most) e in
    fine n (leb-true least n p.0, leb-true n most p.1)
by_range least most n false e = bad M6

range_kept : (least most : ℕ) (z : ℤ) → Keeps (IsWithin least most) (in_range least most z)
range_kept least most (pos n) = by_range least most n (nat_le least n && nat_le n most) refl
range_kept least most (negsuc n) = bad M6

whole_kept : (least most : ℕ) (d : Data) → AreShort d → Keeps (IsWithin least most) (whole_in least most d)
whole_kept least most d h = next (whatever (wanted (as_integer d))) (λ z u. range_kept least most z)

-- ---- names
-- a name that none of these is
record IsNewName (names : List (List ℕ)) (s : List ℕ) : Type 0 where
  name : IsName s
  fresh : All (λ t. t ≢ s) names

name_is : (s : List ℕ) → is_name s ≡ true → IsName s
name_is s e =
    let first = and_parts (nat_le 1 (length s)) (nat_le (length s) 32 && list_all is_name_byte s) e in
    let second = and_parts (nat_le (length s) 32) (list_all is_name_byte s) first.1 in
    record { some = leb-true 1 (length s) first.0; few = leb-true (length s) 32 second.0; bytes = AllPass-from_list_all is_name_byte s second.1 }

by_name : (s : List ℕ) (b : Bool) → is_name s ≡ b → Keeps IsName (if b then Ok s else Err M6)
by_name s true e = fine s (name_is s e)
by_name s false e = bad M6

name_kept : (d : Data) → Keeps IsName (name_in d)
name_kept d = next (whatever (text_in d)) (λ s u. by_name s (is_name s) refl)

by_taken : (names : List (List ℕ)) (s : List ℕ) (b : Bool) → IsName s → list_any (bytes_eq s) names ≡ b
    → Keeps (IsNewName names) (if b then Err M7 else Ok s)
by_taken names s true n e = bad M7
by_taken names s false n e = fine s (record { name = n; fresh = all_other names s e })

new_name_kept : (names : List (List ℕ)) (d : Data) → AreShort d → Keeps (IsNewName names) (new_name names d)
new_name_kept names d h = next (name_kept d) (λ s n. by_taken names s (list_any (bytes_eq s) names) n refl)

-- ---- tables and arrays
table_kept : (d : Data) → AreShort d → Keeps MembersAreShort (table_in d)
table_kept (table ms) h = fine ms h
table_kept (integer z) h = bad M4
table_kept (string s) h = bad M4
table_kept (float x) h = bad M4
table_kept (boolean b) h = bad M4
table_kept (datetime dt) h = bad M4
table_kept (array ds) h = bad M4

table_at : (place : List ℕ) (d : Data) → AreShort d → Keeps MembersAreShort (placed place (table_in d))
table_at place d h = at_place place (table_in d) (table_kept d h)

abbrev EachShort : List Data → Type 0
EachShort [] = Unit {0}
EachShort (d ∷ ds) = AreShort d × EachShort ds

entries_short : (ds : Items) → ItemsAreShort ds → EachShort (entries ds)
entries_short no_items h = tt
entries_short (item d ds) h = (h.0, entries_short ds h.1)

entries_kept : (d : Data) → AreShort d → Keeps EachShort (entries_in d)
entries_kept (array ds) h = fine (entries ds) (entries_short ds h)
entries_kept (table ms) h = bad M4
entries_kept (integer z) h = bad M4
entries_kept (string s) h = bad M4
entries_kept (float x) h = bad M4
entries_kept (boolean b) h = bad M4
entries_kept (datetime dt) h = bad M4

abbrev IsCounted : ℕ → ℕ → List Data → Type 0
IsCounted least most ds = EachShort ds × IsWithin least most (length ds)

by_count : (least most : ℕ) (ds : List Data) (a b : Bool) → EachShort ds → nat_lt (length ds) least ≡ a → nat_lt most (length ds) ≡ b
    → Keeps (IsCounted least most) (if a then Err M6 else if b then Err M11 else Ok ds)
by_count least most ds true b h e f = bad M6
by_count least most ds false true h e f = bad M11
by_count least most ds false false h e f = fine ds (h, (ltb-false (length ds) least e, ltb-false most (length ds) f))

list_kept : (least most : ℕ) (d : Data) → AreShort d → Keeps (IsCounted least most) (list_in least most d)
list_kept least most d h =
    next (entries_kept d h) (λ ds s. by_count least most ds (nat_lt (length ds) least) (nat_lt most (length ds)) s refl refl)

-- entry by entry
module _ {A : Type 0} (read : List A → List ℕ → Data → Read A) (Holds : List A → Type 0)
    (step : (before : List A) (place : List ℕ) (d : Data) → Holds before → AreShort d → Keeps (λ x. Holds (before ++ x ∷ [])) (read before place d)) where
  abbrev HoldsAll : ℕ → List A → Type 0
  HoldsAll count out = Holds out × (length out ≡ count)

  each_from : (place : List ℕ) (before : List A) (ds : List Data) → Holds before → EachShort ds
      → Keeps (HoldsAll (length before + length ds)) (each read place before ds)
  unfolding each
  each_from place before [] h s = fine before (h, (let e : length before ≡ length before + 0 = omega arith in e))
  each_from place before (d ∷ ds) h s =
      next (step before (nth place (length before)) d h s.0)
      (λ x t. weaker (each_from place (before ++ x ∷ []) ds t s.1)
      (λ out k. (k.0, (let l = length_push before x in let m = k.1 in let e : length out ≡ length before + suc (length ds) = omega (arith, l, m) in e))))

-- ---- curves
abbrev pub IsShortList : CurveText → Type 0
IsShortList (Listed pieces tail use_as) = length pieces ≤ 64
IsShortList _ = Unit {0}

-- the number of a token bucket that has no limit of its own
abbrev pub HasSmallBurst : CurveText → Type 0
HasSmallBurst (Bucket burst rate) = IsSmall burst
HasSmallBurst _ = Unit {0}

pub record IsReadCurve (Own : CurveText → Type 0) (t : CurveText) : Type 0 where
  pub own : Own t
  pub passes : refusal_of t ≡ None
  pub short : IsShortList t
  pub small : HasSmallBurst t

abbrev IsText : CurveText → CurveText → Type 0
IsText text t = (t ≡ text) × (refusal_of text ≡ None)

by_refusal : (place : List ℕ) (text : CurveText) (o : Option CurveRefusal) → refusal_of text ≡ o → Keeps (IsText text) (unless_refused place text o)
by_refusal place text None e = fine text (refl, e)
by_refusal place text (Some refusal) e = bad (record { kind = M9 refusal; place = place })

curve_kept : (place : List ℕ) (text : CurveText) → Keeps (IsText text) (curve_at place text)
curve_kept place text = by_refusal place text (refusal_of text) refl

is_read : (Own : CurveText → Type 0) (text t : CurveText) → IsText text t → Own text → IsShortList text → HasSmallBurst text → IsReadCurve Own t
is_read Own text t k own short small =
    subst (IsReadCurve Own) (sym k.0) (record { own = own; passes = k.1; short = short; small = small })

pieces_kept : (place : List ℕ) (ms : Members) → MembersAreShort ms → Keeps (λ (ps : List PieceText). length ps ≤ 64) (pieces_of place ms)
unfolding pieces_of
pieces_kept place ms h =
    next (needed (list_in 0 64) (list_kept 0 64) (codes "piece") place ms h)
    (λ ds c. weaker (each_from (λ before. piece_at) (λ ps. Unit {0}) (λ before at d u s. weaker (whatever (piece_at at d)) (λ x v. tt)) (under place (codes "piece")) [] ds tt c.0)
    (λ ps k. let most = c.1.1 in let same = k.1 in let l : length ps ≤ 64 = omega (arith, most, same) in l))

-- ---- services
abbrev IsService : ℚ → CurveText → Type 0
IsService rate = IsReadCurve (IsServiceOf rate)

latency_kept : (rate : ℚ) (place : List ℕ) (ms : Members) → Keeps (IsService rate) (latency_at rate place ms)
unfolding latency_at
latency_kept rate place ms =
    next (whatever (only (codes "kind" ∷ codes "latency" ∷ []) place ms)) (λ u v.
    next (whatever (at_key (codes "latency") (optional number_in zero_q) place ms)) (λ latency w.
    weaker (curve_kept place (RateLatency rate latency)) (λ t k. is_read (IsServiceOf rate) (RateLatency rate latency) t k refl tt tt)))

gate_kept : (rate : ℚ) (place : List ℕ) (ms : Members) → Keeps (IsService rate) (gate_at rate place ms)
unfolding gate_at
gate_kept rate place ms =
    next (whatever (only (codes "kind" ∷ codes "cycle" ∷ codes "slot" ∷ []) place ms)) (λ u v.
    next (whatever (at_key (codes "cycle") (required number_in) place ms)) (λ cycle w.
    next (whatever (at_key (codes "slot") (required number_in) place ms)) (λ slot x.
    weaker (curve_kept place (Gate rate cycle slot)) (λ t k. is_read (IsServiceOf rate) (Gate rate cycle slot) t k refl tt tt))))

listed_service_kept : (rate : ℚ) (place : List ℕ) (ms : Members) → MembersAreShort ms → Keeps (IsService rate) (listed_service_at place ms)
unfolding listed_service_at
listed_service_kept rate place ms h =
    next (whatever (only (codes "kind" ∷ codes "piece" ∷ codes "tail" ∷ []) place ms)) (λ u v.
    next (pieces_kept place ms h) (λ pieces few. next (whatever (tail_of place ms)) (λ tail w.
    weaker (curve_kept place (Listed pieces tail uses.Service)) (λ t k. is_read (IsServiceOf rate) (Listed pieces tail uses.Service) t k refl few tt))))

service_by_kept : (word : ServiceWord) (rate : ℚ) (place : List ℕ) (ms : Members) → MembersAreShort ms → Keeps (IsService rate) (service_by word rate place ms)
service_by_kept services.Latency rate place ms h = latency_kept rate place ms
service_by_kept services.Gate rate place ms h = gate_kept rate place ms
service_by_kept services.List rate place ms h = listed_service_kept rate place ms h

service_at_kept : (rate : ℚ) (place : List ℕ) (d : Data) → AreShort d → Keeps (IsService rate) (service_at rate place d)
unfolding service_at
service_at_kept rate place d h =
    next (table_at place d h) (λ ms s. next (whatever (at_key (codes "kind") (required service_word) place ms)) (λ word u. service_by_kept word rate place ms s))

service_kept : (rate : ℚ) (place : List ℕ) (o : Option Data) → Gives AreShort o → Keeps (IsService rate) (service_or_rate rate place o)
unfolding service_or_rate
service_kept rate place None g =
    weaker (curve_kept place (RateLatency rate zero_q)) (λ t k. is_read (IsServiceOf rate) (RateLatency rate zero_q) t k refl tt tt)
service_kept rate place (Some d) g = service_at_kept rate place d (g.given d refl)

-- ---- arrivals, with whether they are closed
abbrev IsArrival : ℕ → CurveText × Bool → Type 0
IsArrival packet p = IsReadCurve (IsArrivalOf packet) p.0

bucket_kept : (packet : ℕ) (place : List ℕ) (ms : Members) → MembersAreShort ms → Keeps (IsArrival packet) (bucket_at place ms)
unfolding bucket_at
bucket_kept packet place ms h =
    next (whatever (only (codes "kind" ∷ codes "burst" ∷ codes "rate" ∷ []) place ms)) (λ u v.
    next (needed number_in number_kept (codes "burst") place ms h) (λ burst small.
    next (whatever (at_key (codes "rate") (required number_in) place ms)) (λ rate w. next (curve_kept place (Bucket burst rate)) (λ t k. fine (t, false) (is_read (IsArrivalOf packet) (Bucket burst rate) t k tt tt small)))))

stair_kept : (packet : ℕ) (place : List ℕ) (ms : Members) → Keeps (IsArrival packet) (stair_at packet place ms)
unfolding stair_at
stair_kept packet place ms =
    next (whatever (only (codes "kind" ∷ codes "period" ∷ codes "jitter" ∷ []) place ms)) (λ u v.
    next (whatever (at_key (codes "period") (required number_in) place ms)) (λ period w.
    next (whatever (at_key (codes "jitter") (optional number_in zero_q) place ms)) (λ jitter x. next (curve_kept place (Stair packet period jitter)) (λ t k. fine (t, false) (is_read (IsArrivalOf packet) (Stair packet period jitter) t k refl tt tt)))))

listed_arrival_kept : (packet : ℕ) (place : List ℕ) (ms : Members) → MembersAreShort ms → Keeps (IsArrival packet) (listed_arrival_at place ms)
unfolding listed_arrival_at
listed_arrival_kept packet place ms h =
    next (whatever (only (codes "kind" ∷ codes "piece" ∷ codes "tail" ∷ codes "close" ∷ []) place ms)) (λ u v.
    next (pieces_kept place ms h) (λ pieces few. next (whatever (tail_of place ms)) (λ tail w.
    next (whatever (at_key (codes "close") (optional truth_in false) place ms)) (λ closes x. next (curve_kept place (Listed pieces tail uses.Arrival)) (λ t k. fine (t, closes) (is_read (IsArrivalOf packet) (Listed pieces tail uses.Arrival) t k refl few tt))))))

arrival_by_kept : (word : ArrivalWord) (packet : ℕ) (place : List ℕ) (ms : Members) → MembersAreShort ms → Keeps (IsArrival packet) (arrival_by word packet place ms)
arrival_by_kept arrivals.Bucket packet place ms h = bucket_kept packet place ms h
arrival_by_kept arrivals.Stair packet place ms h = stair_kept packet place ms
arrival_by_kept arrivals.List packet place ms h = listed_arrival_kept packet place ms h

arrival_at_kept : (packet : ℕ) (place : List ℕ) (d : Data) → AreShort d → Keeps (IsArrival packet) (arrival_at packet place d)
unfolding arrival_at
arrival_at_kept packet place d h =
    next (table_at place d h) (λ ms s. next (whatever (at_key (codes "kind") (required arrival_word) place ms)) (λ word u. arrival_by_kept word packet place ms s))

any_data : (d : Data) → AreShort d → Keeps AreShort (let r : Result Data NetKind = Ok d in r)
any_data d h = fine d h

arrival_kept : (packet : ℕ) (place : List ℕ) (ms : Members) → MembersAreShort ms → Keeps (IsArrival packet) (arrival_of packet place ms)
unfolding arrival_of
arrival_kept packet place ms h =
    next (needed Ok any_data (codes "arrival") place ms h) (λ d s. arrival_at_kept packet (under place (codes "arrival")) d s)

-- ---- disciplines
quantum_kept : (before : List ℕ) (place : List ℕ) (d : Data) → All IsLength before → AreShort d
    → Keeps (λ n. All IsLength (before ++ n ∷ [])) (quantum_at place d)
quantum_kept before place d h s =
    at_place place (whole_in 1 longest d) (weaker (whole_kept 1 longest d s) (λ n l. All-push IsLength before n h (l.0, l.1)))

quanta_read : (place : List ℕ) (ms : Members) → MembersAreShort ms → Keeps AreQuanta (quanta_of place ms)
unfolding quanta_of
quanta_read place ms h =
    next (needed (list_in 1 8) (list_kept 1 8) (codes "quanta") place ms h)
    (λ ds c. weaker (each_from (λ before. quantum_at) (All IsLength) quantum_kept (under place (codes "quanta")) [] ds (All-nil IsLength) c.0)
    (λ qs k. let same = k.1 in let e : length qs ≡ length ds = omega (arith, same) in (subst IsQueueNumber (sym e) (c.1.0, c.1.1), k.0)))

discipline_kept : (place : List ℕ) (ms : Members) → MembersAreShort ms → Keeps HasFewQueues (discipline_at place ms)
discipline_kept place ms h = record {
  kept = discipline_few place ms
      (λ n is. (needed (whole_in 1 8) (whole_kept 1 8) (codes "queues") place ms h).kept n is)
      (λ quanta is. (quanta_read place ms h).kept quanta is);
}

-- ---- servers
pub record IsReadServer (s : ServerText) : Type 0 where
  pub name : IsName s.name
  pub rate : zero_q <ℚ s.rate
  pub service : IsReadCurve (IsServiceOf s.rate) s.service
  pub link : zero_q ≤ℚ s.link
  pub queues : HasFewQueues s.discipline

-- after these names
record IsServerAfter (names : List (List ℕ)) (s : ServerText) : Type 0 where
  read : IsReadServer s
  fresh : All (λ t. t ≢ s.name) names

server_kept : (names : List (List ℕ)) (place : List ℕ) (d : Data) → AreShort d → Keeps (IsServerAfter names) (server_with names place d)
unfolding server_with
server_kept names place d h =
    next (table_at place d h) (λ ms s. next (whatever (only server_keys place ms)) (λ u v.
    next (needed (new_name names) (new_name_kept names) (codes "name") place ms s) (λ name n.
    next (needed positive_in positive_kept (codes "rate") place ms s) (λ rate above.
    next (service_kept rate (under place (codes "service")) (get_member (codes "service") ms) (member_short (codes "service") ms s)) (λ service made.
    next (allowed nonnegative_in nonnegative_kept zero_q (le_refl zero_q) (codes "link") place ms s) (λ link low.
    next (discipline_kept place ms s) (λ discipline queues.
    fine (record { name = name; rate = rate; service = service; link = link; discipline = discipline })
    (record {
      read = record { name = n.name; rate = above; service = made; link = low; queues = queues };
      fresh = n.fresh;
    }))))))))

pub record AreReadServers (ss : List ServerText) : Type 0 where
  pub servers : All IsReadServer ss
  pub names : AllPairs (λ s t. s.name ≢ t.name) ss

no_pairs : {X : Type 0} (R : X → X → Type 0) → AllPairs R []
no_pairs R i j d l within = absurd (omega (arith, within))

server_next : (before : List ServerText) (place : List ℕ) (d : Data) → AreReadServers before → AreShort d
    → Keeps (λ s. AreReadServers (before ++ s ∷ [])) (server_text_at before place d)
server_next before place d h short =
    weaker (server_kept (server_names before) place d short) (λ s k. record {
      servers = All-push IsReadServer before s h.servers k.read;
      names = all_pairs_push (λ a b. a.name ≢ b.name) before s h.names (All-unmap (λ t. t ≢ s.name) (λ t. t.name) before k.fresh);
    })

abbrev AreFewServers : List ServerText → Type 0
AreFewServers ss = AreReadServers ss × (length ss ≤ 64)

servers_kept : (ms : Members) → MembersAreShort ms → Keeps AreFewServers (servers_of ms)
unfolding servers_of
servers_kept ms h =
    next (allowed (list_in 0 64) (list_kept 0 64) [] (tt, (omega arith, omega arith)) (codes "server") [] ms h)
    (λ ds c. weaker (each_from server_text_at AreReadServers server_next (codes "server") [] ds (record { servers = All-nil IsReadServer; names = no_pairs (λ s t. s.name ≢ t.name) }) c.0)
    (λ ss k. (k.0, (let most = c.1.1 in let same = k.1 in let l : length ss ≤ 64 = omega (arith, most, same) in l))))

-- ---- paths
-- the server of a number from n on
record IsNamedFrom (n : ℕ) (ss : List ServerText) (found : ℕ × ServerText) : Type 0 where
  on : ℕ
  number : found.0 ≡ n + on
  is : slice_get ss on ≡ Some found.1

by_match : (n : ℕ) (s : ServerText) (ss : List ServerText) (b : Bool) (r : Result (ℕ × ServerText) NetKind) → Keeps (IsNamedFrom (n + 1) ss) r
    → Keeps (IsNamedFrom n (s ∷ ss)) (if b then Ok (n, s) else r)
by_match n s ss true r h = fine (n, s) (record { on = 0; number = (let e : n ≡ n + 0 = omega arith in e); is = refl })
by_match n s ss false r h =
    weaker h (λ found k. record { on = suc k.on; number = (let e = k.number in let f : found.0 ≡ n + suc k.on = omega (arith, e) in f); is = k.is })

named_kept : (n : ℕ) (name : List ℕ) (ss : List ServerText) → Keeps (IsNamedFrom n ss) (named_from n name ss)
unfolding named_from
named_kept n name [] = bad M8
named_kept n name (s ∷ ss) = by_match n s ss (bytes_eq s.name name) (named_from (n + 1) name ss) (named_kept (n + 1) name ss)

-- a hop behind these
record IsHopAfter (servers : List ServerText) (before : List Hop) (h : Hop) : Type 0 where
  stands : IsHopOf servers h
  fresh : All (λ b. b.server ≢ h.server) before

elsewhere : (n : ℕ) (before : List Hop) → list_any (λ h. nat_eq h.server n) before ≡ false → All (λ b. b.server ≢ n) before
elsewhere n before e k d l same =
    true≢false (sym (eq-eqb (get_or before k d).server n same) ∙ none_passes (λ h. nat_eq h.server n) before e k d l)

by_place : (servers : List ServerText) (before : List Hop) (queue : ℕ) (found : ℕ × ServerText) (a b : Bool)
    → slice_get servers found.0 ≡ Some found.1 → nat_lt queue (queue_count found.1.discipline) ≡ a → list_any (λ h. nat_eq h.server found.0) before ≡ b
    → Keeps (IsHopAfter servers before) (if a then (if b then Err M10 else Ok (record { server = found.0; queue = queue })) else Err M6)
by_place servers before queue found false b is e f = bad M6
by_place servers before queue found true true is e f = bad M10
by_place servers before queue found true false is e f = fine (record { server = found.0; queue = queue }) (record {
  stands = record { server = found.1; is = is; has_queue = ltb-true queue (queue_count found.1.discipline) e };
  fresh = elsewhere found.0 before f;
})

hop_kept : (servers : List ServerText) (before : List Hop) (d : Data) → Keeps (IsHopAfter servers before) (hop_in servers before d)
unfolding hop_in
hop_kept servers before d =
    next (whatever (text_in d)) (λ s u. next (whatever (hop_text s)) (λ h v. next (named_kept 0 h.name servers) (λ found k.
    let at : k.on ≡ found.0 = (let e = k.number in let f : k.on ≡ found.0 = omega (arith, e) in f) in
    by_place servers before h.queue found (nat_lt h.queue (queue_count found.1.discipline)) (list_any (λ h. nat_eq h.server found.0) before)
    (subst (λ n. slice_get servers n ≡ Some found.1) at k.is) refl refl)))

record ArePathHops (servers : List ServerText) (hops : List Hop) : Type 0 where
  stand : All (IsHopOf servers) hops
  once : AllPairs (λ a b. a.server ≢ b.server) hops

hop_next : (servers : List ServerText) (before : List Hop) (place : List ℕ) (d : Data) → ArePathHops servers before → AreShort d
    → Keeps (λ h. ArePathHops servers (before ++ h ∷ [])) (hop_at servers before place d)
hop_next servers before place d p short =
    at_place place (hop_in servers before d) (weaker (hop_kept servers before d) (λ h k. record {
      stand = All-push (IsHopOf servers) before h p.stand k.stands;
      once = all_pairs_push (λ a b. a.server ≢ b.server) before h p.once k.fresh;
    }))

abbrev IsPath : List ServerText → List Hop → Type 0
IsPath servers hops = ArePathHops servers hops × IsWithin 1 16 (length hops)

path_kept : (servers : List ServerText) (place : List ℕ) (ms : Members) → MembersAreShort ms → Keeps (IsPath servers) (path_of servers place ms)
unfolding path_of
path_kept servers place ms h =
    next (needed (list_in 1 16) (list_kept 1 16) (codes "path") place ms h)
    (λ ds c. weaker (each_from (hop_at servers) (ArePathHops servers) (hop_next servers) (under place (codes "path")) [] ds
    (record { stand = All-nil (IsHopOf servers); once = no_pairs (λ a b. a.server ≢ b.server) }) c.0)
    (λ hops k. let same = k.1 in let e : length hops ≡ length ds = omega (arith, same) in (k.0, subst (IsWithin 1 16) (sym e) c.1)))

-- ---- flows
pub record IsReadFlow (servers : List ServerText) (f : FlowText) : Type 0 where
  pub name : IsName f.name
  pub packet : IsLength f.packet
  pub arrival : IsReadCurve (IsArrivalOf f.packet) f.arrival
  pub some : 1 ≤ length f.path
  pub few : length f.path ≤ 16
  pub hops : All (IsHopOf servers) f.path
  pub once : AllPairs (λ a b. a.server ≢ b.server) f.path

record IsFlowAfter (servers : List ServerText) (names : List (List ℕ)) (f : FlowText) : Type 0 where
  read : IsReadFlow servers f
  fresh : All (λ t. t ≢ f.name) names

flow_kept : (servers : List ServerText) (names : List (List ℕ)) (place : List ℕ) (d : Data) → AreShort d
    → Keeps (IsFlowAfter servers names) (flow_with servers names place d)
unfolding flow_with
flow_kept servers names place d h =
    next (table_at place d h) (λ ms s.
    next (whatever (only (codes "name" ∷ codes "packet" ∷ codes "arrival" ∷ codes "path" ∷ []) place ms)) (λ u v.
    next (needed (new_name names) (new_name_kept names) (codes "name") place ms s) (λ name n.
    next (needed (whole_in 1 longest) (whole_kept 1 longest) (codes "packet") place ms s) (λ packet l.
    next (arrival_kept packet place ms s) (λ arrival made. next (path_kept servers place ms s) (λ path p.
    fine (record { name = name; packet = packet; arrival = arrival.0; closes = arrival.1; path = path })
    (record {
      read = record { name = n.name; packet = (l.0, l.1); arrival = made; some = p.1.0; few = p.1.1; hops = p.0.stand; once = p.0.once };
      fresh = n.fresh;
    })))))))

pub record AreReadFlows (servers : List ServerText) (fs : List FlowText) : Type 0 where
  pub flows : All (IsReadFlow servers) fs
  pub names : AllPairs (λ f g. f.name ≢ g.name) fs

flow_next : (servers : List ServerText) (before : List FlowText) (place : List ℕ) (d : Data) → AreReadFlows servers before → AreShort d
    → Keeps (λ f. AreReadFlows servers (before ++ f ∷ [])) (flow_at servers before place d)
flow_next servers before place d h short =
    weaker (flow_kept servers (flow_names before) place d short) (λ f k. record {
      flows = All-push (IsReadFlow servers) before f h.flows k.read;
      names = all_pairs_push (λ a b. a.name ≢ b.name) before f h.names (All-unmap (λ t. t ≢ f.name) (λ t. t.name) before k.fresh);
    })

abbrev AreFewFlows : List ServerText → List FlowText → Type 0
AreFewFlows servers fs = AreReadFlows servers fs × (length fs ≤ 256)

flows_kept : (servers : List ServerText) (ms : Members) → MembersAreShort ms → Keeps (AreFewFlows servers) (flows_of servers ms)
unfolding flows_of
flows_kept servers ms h =
    next (allowed (list_in 0 256) (list_kept 0 256) [] (tt, (omega arith, omega arith)) (codes "flow") [] ms h)
    (λ ds c. weaker (each_from (flow_at servers) (AreReadFlows servers) (flow_next servers) (codes "flow") [] ds
    (record { flows = All-nil (IsReadFlow servers); names = no_pairs (λ f g. f.name ≢ g.name) }) c.0)
    (λ fs k. (k.0, (let most = c.1.1 in let same = k.1 in let l : length fs ≤ 256 = omega (arith, most, same) in l))))

-- ---- drafts
pub record IsReadDraft (d : DraftText) : Type 0 where
  pub version : IsVersion d.version
  pub servers : AreReadServers d.servers
  pub few_servers : length d.servers ≤ 64
  pub flows : AreReadFlows d.servers d.flows
  pub few_flows : length d.flows ≤ 256
  pub quanta : AreWithinQuanta d.servers d.flows

-- where nothing was found wrong with the quanta
abbrev Passes : List ServerText → List FlowText → Unit {0} → Type 0
Passes servers flows u = quanta_fit flows 0 servers ≡ Ok tt

fit_kept : (servers : List ServerText) (flows : List FlowText) → Keeps (Passes servers flows) (quanta_fit flows 0 servers)
fit_kept servers flows = record { kept = λ u e. e }

root_kept : (ms : Members) → MembersAreShort ms → Keeps IsReadDraft (root_of ms)
unfolding root_of
root_kept ms h =
    next (whatever (only (codes "version" ∷ codes "server" ∷ codes "flow" ∷ []) [] ms)) (λ u v.
    next (allowed (whole_in 1 2) (whole_kept 1 2) 1 (omega arith, omega arith) (codes "version") [] ms h) (λ version l.
    next (servers_kept ms h) (λ servers s. next (flows_kept servers ms h) (λ flows f. next (fit_kept servers flows) (λ w fit.
    fine (record { version = version; servers = servers; flows = flows }) (record {
      version = (l.0, l.1);
      servers = s.0;
      few_servers = s.1;
      flows = f.0;
      few_flows = f.1;
      quanta = quanta_kept flows servers fit (λ k e l. (f.0.flows k e l).hops);
    }))))))

by_tree : (bytes : List ℕ) (o : Option Members) → tree_of bytes ≡ o → Keeps IsReadDraft (draft_in o)
by_tree bytes None e = bad (record { kind = M1; place = [] })
by_tree bytes (Some ms) e = root_kept ms (integers_are_short bytes ms e)

pub draft_kept : (bytes : List ℕ) (d : DraftText) → draft_of bytes ≡ Ok d → IsReadDraft d
draft_kept bytes d h = (by_tree bytes (tree_of bytes) refl).kept d h
