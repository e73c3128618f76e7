-- Some of the queues of a port: those before one and behind it.
use Rattle.std.proofs.Common.{◌≡◌, ◌<◌, ◌≤◌, ◌+◌, ◌-◌, ◌^◌, ◌++◌, ◌∷◌, [], ℕ, suc, List, length, get_or, take, drop, arith, ap, sym, subst, ◌∙◌, add-one, drop-cons, length-append, length-drop, All, Some, None, sum}
use Rattle.std.specs.List.{sum_by}
use Rattle.std.proofs.lemmas.List.{length-take, length-map, take-map, drop-map, take_all, append-nil, get_or-map}
use Rattle.std.proofs.lemmas.List.Elements.{All-append, All-take, All-drop}
use Rattle.std.proofs.lemmas.List.Sums.{sum_by-append, sum_by-cons, sum_by-take-drop, sum_by-take-le, sum_by-le, get_or-le-sum_by}
use Rattle.arrival_lines.specs.Steps.{Fit, most_burst, most_rate}
use Rattle.arrival_lines.specs.declared.grid.Part.{Part}
use Rattle.tree_network.specs.Networks.{longest_frame}
use Rattle.port_bounds.specs.declared.arrivals.Arrivals.{Arrivals}
use Rattle.port_bounds.specs.Incoming.{Incoming, incoming_of, incoming, queue_in, longest_frame_of, longest_frames_of, before, behind}
use Rattle.port_bounds.specs.Ranges.{sum_of, AreInRange}

-- ---- as slices of what arrives
pub same_before : (queues xs : List Arrivals) (q : ℕ) → xs ≡ take q queues → incoming xs ≡ before q (incoming queues)
same_before queues xs q is = ap incoming is ∙ sym (take-map incoming_of q queues)

pub same_behind : (queues xs : List Arrivals) (q : ℕ) → xs ≡ drop (q + 1) queues → incoming xs ≡ behind q (incoming queues)
same_behind queues xs q is = ap incoming is ∙ sym (drop-map incoming_of (q + 1) queues) ∙ ap (λ n. drop n (incoming queues)) (add-one q)

-- a slice up to the end
pub to_end : (queues : List Arrivals) (q : ℕ) → take (length queues - (q + 1)) (drop (q + 1) queues) ≡ drop (q + 1) queues
to_end queues q = take_all (length queues - (q + 1)) (drop (q + 1) queues) (omega (arith, length-drop (q + 1) queues))

-- ---- they are in range where all are
fewer : (all some : List Incoming) → AreInRange all → length some ≤ length all → ((f : Incoming → ℕ) → sum_by f some ≤ sum_by f all)
    → All (λ (w : Incoming). w.longest ≤ longest_frame) some → AreInRange some
fewer all some range count sums each = record {
  few = omega (arith, range.few, count);
  longest = each;
  bursts = omega (arith, sums (λ w. sum_of most_burst w.parts), range.bursts);
  rates = omega (arith, sums (λ w. sum_of most_rate w.parts), range.rates);
}

others_sum : (queues : List Incoming) (q : ℕ) → q < length queues → (f : Incoming → ℕ) → sum_by f (before q queues ++ behind q queues) ≤ sum_by f queues
others_sum queues q h f =
    let w : Incoming = record { parts = None; longest = 0 } in
    let rest = ap (sum_by f) (drop-cons queues q w h) ∙ sum_by-cons f (get_or queues q w) (drop (suc q) queues) in
    omega (arith, sum_by-take-drop f queues q, rest, sum_by-append f (take q queues) (drop (suc q) queues))

pub others_range : (queues : List Incoming) (q : ℕ) → q < length queues → AreInRange queues → AreInRange (before q queues ++ behind q queues)
others_range queues q h range =
    let short = λ (w : Incoming). w.longest ≤ longest_frame in
    fewer queues (before q queues ++ behind q queues) range
    (omega (arith, length-append (take q queues) (drop (suc q) queues), length-take q queues, length-drop (suc q) queues, h))
    (others_sum queues q h)
    (All-append short (take q queues) (drop (suc q) queues) (All-take short q queues range.longest) (All-drop short (suc q) queues range.longest))

pub above_range : (queues : List Incoming) (q : ℕ) → AreInRange queues → AreInRange (before q queues)
above_range queues q range =
    let short = λ (w : Incoming). w.longest ≤ longest_frame in
    fewer queues (before q queues) range (omega (arith, length-take q queues)) (λ f. sum_by-take-le f queues q) (All-take short q queues range.longest)

-- ---- as the call has them
pub same_above : (queues xs ys : List Arrivals) (q : ℕ) → xs ≡ take q queues → ys ≡ [] → incoming xs ++ incoming ys ≡ before q (incoming queues)
same_above queues xs ys q is none = ap (λ zs. incoming xs ++ incoming zs) none ∙ append-nil (incoming xs) ∙ same_before queues xs q is

pub same_others : (queues xs ys : List Arrivals) (q : ℕ) → xs ≡ take q queues → ys ≡ drop (q + 1) queues
    → incoming xs ++ incoming ys ≡ before q (incoming queues) ++ behind q (incoming queues)
same_others queues xs ys q first last =
    ap (λ zs. zs ++ incoming ys) (same_before queues xs q first) ∙ ap (λ zs. before q (incoming queues) ++ zs) (same_behind queues ys q last)

pub above_in_range : (queues xs ys : List Arrivals) (q : ℕ) → xs ≡ take q queues → ys ≡ [] → AreInRange (incoming queues) → AreInRange (incoming xs ++ incoming ys)
above_in_range queues xs ys q is none range = subst AreInRange (sym (same_above queues xs ys q is none)) (above_range (incoming queues) q range)

pub others_in_range : (queues xs ys : List Arrivals) (q : ℕ) → xs ≡ take q queues → ys ≡ drop (q + 1) queues → q < length queues → AreInRange (incoming queues)
    → AreInRange (incoming xs ++ incoming ys)
others_in_range queues xs ys q first last h range =
    let inside : q < length (incoming queues) = omega (arith, h, length-map queues incoming_of) in
    subst AreInRange (sym (same_others queues xs ys q first last)) (others_range (incoming queues) q inside range)

-- ---- numbers that fit
longest_bounded : (queues : List Incoming) → All (λ (w : Incoming). w.longest ≤ longest_frame) queues → longest_frame_of queues ≤ longest_frame
unfolding longest_frame_of
longest_bounded [] h = omega arith
longest_bounded (w ∷ ws) h =
    let rest = longest_bounded ws (λ k d m. h (suc k) d (omega (arith, m))) in
    let first : w.longest ≤ longest_frame = h 0 w (omega arith) in
    omega (arith, rest, first)

pub longest_small : (queues xs : List Arrivals) (q : ℕ) → xs ≡ drop (q + 1) queues → AreInRange (incoming queues) → longest_frame_of (incoming xs) ≤ 2 ^ 24
unfolding longest_frame
longest_small queues xs q is range =
    let short = λ (w : Incoming). w.longest ≤ longest_frame in
    subst (λ zs. longest_frame_of zs ≤ 2 ^ 24) (sym (same_behind queues xs q is)) (longest_bounded (behind q (incoming queues)) (All-drop short (suc q) (incoming queues) range.longest))

pub quanta_bounded : (quanta : List ℕ) → length quanta ≤ 8 → All (λ q. (1 ≤ q) × (q ≤ longest_frame)) quanta → sum quanta ≤ 2 ^ 27
unfolding longest_frame
quanta_bounded quanta few range =
    let most = sum_by-le (λ x. x) longest_frame quanta (λ k d h. (range k d h).1) in
    omega (arith, most, few)

pub at_queue : (queues : List Arrivals) (q : ℕ) (e : Arrivals) → q < length queues → queue_in (incoming queues) q ≡ incoming_of (get_or queues q e)
at_queue queues q e h = get_or-map incoming_of queues q e record { parts = None; longest = 0 } h

pub longest_among : (queues : List Arrivals) (q : ℕ) (e : Arrivals) → q < length queues → (get_or queues q e).longest ≤ longest_frames_of (incoming queues)
longest_among queues q e h =
    let inside : q < length (incoming queues) = omega (arith, h, length-map queues incoming_of) in
    let le = get_or-le-sum_by (λ (w : Incoming). w.longest) (incoming queues) q record { parts = None; longest = 0 } inside in
    let at = ap (λ (w : Incoming). w.longest) (at_queue queues q e h) in
    omega (arith, le, at)

pub part_fits : (queues : List Incoming) (q : ℕ) (parts : List Part) → AreInRange queues → q < length queues → (queue_in queues q).parts ≡ Some parts → Fit parts
part_fits queues q parts range h known =
    let bursts = get_or-le-sum_by (λ (w : Incoming). sum_of most_burst w.parts) queues q record { parts = None; longest = 0 } h in
    let rates = get_or-le-sum_by (λ (w : Incoming). sum_of most_rate w.parts) queues q record { parts = None; longest = 0 } h in
    record {
      bursts = omega (arith, bursts, ap (sum_of most_burst) known, range.bursts);
      rates = omega (arith, rates, ap (sum_of most_rate) known, range.rates);
    }

pub at_most_frame : (queues : List Arrivals) (q : ℕ) (e : Arrivals) → q < length queues → AreInRange (incoming queues) → (get_or queues q e).longest ≤ 2 ^ 24
unfolding longest_frame
at_most_frame queues q e h range =
    let most = range.longest q record { parts = None; longest = 0 } (omega (arith, h, length-map queues incoming_of)) in
    let at = ap (λ (w : Incoming). w.longest) (at_queue queues q e h) in
    omega (arith, most, at)
