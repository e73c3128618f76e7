-- What several queues have together, one queue more or fewer at a time.
use Rattle.std.proofs.Common.{◌≡◌, ◌<◌, ◌≤◌, ◌+◌, ◌^◌, ◌++◌, ◌∷◌, [], ℕ, max, List, length, get_or, drop, refl, ap, sym, subst, ◌∙◌, append_assoc, add-one, arith, drop-cons, Option, Some, None, true, false, Bool}
use Rattle.std.proofs.lemmas.List.{drop_all, append-nil}
use Rattle.std.proofs.lemmas.List.Sums.{sum_by-cons, sum_by-le}
use Rattle.arrival_lines.specs.declared.grid.Part.{Part}
use Rattle.tree_network.specs.Networks.{longest_frame}
use Rattle.port_bounds.specs.Ranges.{AreInRange}
use Rattle.port_bounds.specs.declared.arrivals.Arrivals.{Arrivals}
use Rattle.port_bounds.specs.Incoming.{Incoming, incoming_of, incoming, both, joined_parts, longest_frame_of, longest_frames_of, AddsParts}

-- ---- from place i on
pub rest_of : (queues : List Arrivals) (i : ℕ) (queue : Arrivals) → i < length queues → queue ≡ get_or queues i queue
    → incoming (drop i queues) ≡ incoming_of queue ∷ incoming (drop (i + 1) queues)
rest_of queues i queue h is = rw (drop-cons queues i queue h, add-one i, sym is) refl

-- ---- the longest frame
longest_cons : (queue : Incoming) (queues : List Incoming) → longest_frame_of (queue ∷ queues) ≡ max queue.longest (longest_frame_of queues)
unfolding longest_frame_of
longest_cons queue queues = refl

pub longest_none : longest_frame_of [] ≡ 0
unfolding longest_frame_of
longest_none = refl

pub longest_more : (queues : List Arrivals) (i : ℕ) (queue : Arrivals) (longest : ℕ) → i < length queues → queue ≡ get_or queues i queue
    → max longest (longest_frame_of (incoming (drop i queues))) ≡ longest_frame_of (incoming queues)
    → max (max longest queue.longest) (longest_frame_of (incoming (drop (i + 1) queues))) ≡ longest_frame_of (incoming queues)
longest_more queues i queue longest h is so_far =
    let cut = (ap longest_frame_of (rest_of queues i queue h is)) ∙ (longest_cons (incoming_of queue) (incoming (drop (i + 1) queues))) in
    omega (arith, cut, so_far)

pub longest_end : (queues : List Arrivals) (i longest : ℕ) → length queues ≤ i
    → max longest (longest_frame_of (incoming (drop i queues))) ≡ longest_frame_of (incoming queues) → longest ≡ longest_frame_of (incoming queues)
longest_end queues i longest h so_far =
    let none = (ap (λ xs. longest_frame_of (incoming xs)) (drop_all i queues h)) ∙ longest_none in
    omega (arith, none, so_far)

-- ---- the longest frames together
pub frames_bounded : (queues : List Incoming) → AreInRange queues → longest_frames_of queues ≤ 2 ^ 27
unfolding longest_frame
frames_bounded queues range =
    let each = sum_by-le (λ queue. queue.longest) longest_frame queues range.longest in
    omega (arith, each, range.few)

pub frames_more : (queues : List Arrivals) (i : ℕ) (queue : Arrivals) (sum : ℕ) → i < length queues → queue ≡ get_or queues i queue
    → sum + longest_frames_of (incoming (drop i queues)) ≡ longest_frames_of (incoming queues)
    → (sum + queue.longest) + longest_frames_of (incoming (drop (i + 1) queues)) ≡ longest_frames_of (incoming queues)
frames_more queues i queue sum h is so_far =
    let cut = (ap longest_frames_of (rest_of queues i queue h is)) ∙ (sum_by-cons (λ (q : Incoming). q.longest) (incoming_of queue) (incoming (drop (i + 1) queues))) in
    omega (arith, cut, so_far)

pub frames_end : (queues : List Arrivals) (i sum : ℕ) → length queues ≤ i
    → sum + longest_frames_of (incoming (drop i queues)) ≡ longest_frames_of (incoming queues) → sum ≡ longest_frames_of (incoming queues)
frames_end queues i sum h so_far =
    let none : longest_frames_of (incoming (drop i queues)) ≡ 0 = ap (λ xs. longest_frames_of (incoming xs)) (drop_all i queues h) in
    omega (arith, none, so_far)

-- so the sum with one more fits 64 bits
pub frames_fit : (queues : List Arrivals) (i : ℕ) (queue : Arrivals) (sum : ℕ) → AreInRange (incoming queues) → i < length queues → queue ≡ get_or queues i queue
    → sum + longest_frames_of (incoming (drop i queues)) ≡ longest_frames_of (incoming queues) → sum + queue.longest < 2 ^ 64
frames_fit queues i queue sum range h is so_far =
    let cut = (ap longest_frames_of (rest_of queues i queue h is)) ∙ (sum_by-cons (λ (q : Incoming). q.longest) (incoming_of queue) (incoming (drop (i + 1) queues))) in
    let most = frames_bounded (incoming queues) range in
    omega (arith, cut, so_far, most)

-- ---- the parts
pub parts_cons : (queue : Incoming) (queues : List Incoming) → joined_parts (queue ∷ queues) ≡ both queue.parts (joined_parts queues)
unfolding joined_parts
parts_cons queue queues = refl

pub parts_none : joined_parts [] ≡ Some []
unfolding joined_parts
parts_none = refl

pub both_assoc : (a b c : Option (List Part)) → both (both a b) c ≡ both a (both b c)
both_assoc None b c = refl
both_assoc (Some a) None c = refl
both_assoc (Some a) (Some b) None = refl
both_assoc (Some a) (Some b) (Some c) = ap Some (append_assoc a b c)

pub both_none : (a : Option (List Part)) → both (Some []) a ≡ a
both_none None = refl
both_none (Some a) = refl

pub both_end : (a : Option (List Part)) → both a (Some []) ≡ a
both_end None = refl
both_end (Some a) = ap Some (append-nil a)

pub parts_append : (xs ys : List Incoming) → joined_parts (xs ++ ys) ≡ both (joined_parts xs) (joined_parts ys)
parts_append [] ys = (sym (both_none (joined_parts ys))) ∙ (ap (λ o. both o (joined_parts ys)) (sym parts_none))
parts_append (x ∷ xs) ys =
    ((parts_cons x (xs ++ ys)) ∙ (ap (both x.parts) (parts_append xs ys))) ∙ ((sym (both_assoc x.parts (joined_parts xs) (joined_parts ys))) ∙ (ap (λ o. both o (joined_parts ys)) (sym (parts_cons x xs))))

-- from place i on they are still to be added
abbrev pub Adding : List Arrivals → ℕ → List Part → List Part → Type 0
Adding queues i old now = both (Some now) (joined_parts (incoming (drop i queues))) ≡ both (Some old) (joined_parts (incoming queues))

cut_parts : (queues : List Arrivals) (i : ℕ) (queue : Arrivals) → i < length queues → queue ≡ get_or queues i queue
    → joined_parts (incoming (drop i queues)) ≡ both (incoming_of queue).parts (joined_parts (incoming (drop (i + 1) queues)))
cut_parts queues i queue h is = (ap joined_parts (rest_of queues i queue h is)) ∙ (parts_cons (incoming_of queue) (incoming (drop (i + 1) queues)))

pub adding_more : (queues : List Arrivals) (i : ℕ) (queue : Arrivals) (parts old now : List Part) → i < length queues → queue ≡ get_or queues i queue
    → (incoming_of queue).parts ≡ Some parts → Adding queues i old now → Adding queues (i + 1) old (now ++ parts)
adding_more queues i queue parts old now h is known so_far =
    let rest = joined_parts (incoming (drop (i + 1) queues)) in
    let cut = (cut_parts queues i queue h is) ∙ (ap (λ o. both o rest) known) in
    (both_assoc (Some now) (Some parts) rest) ∙ ((ap (both (Some now)) (sym cut)) ∙ so_far)

both_unknown : (old : List Part) (a : Option (List Part)) → None ≡ both (Some old) a → a ≡ None
both_unknown old None h = refl
both_unknown old (Some a) h = absurd (grind (arith, h))

pub adding_unknown : (queues : List Arrivals) (i : ℕ) (queue : Arrivals) (old now : List Part) → i < length queues → queue ≡ get_or queues i queue
    → (incoming_of queue).parts ≡ None → Adding queues i old now → joined_parts (incoming queues) ≡ None
adding_unknown queues i queue old now h is unknown so_far =
    let rest = joined_parts (incoming (drop (i + 1) queues)) in
    let cut = (cut_parts queues i queue h is) ∙ (ap (λ o. both o rest) unknown) in
    both_unknown old _ ((ap (both (Some now)) (sym cut)) ∙ so_far)

pub adding_end : (queues : List Arrivals) (i : ℕ) (old now : List Part) → length queues ≤ i → Adding queues i old now
    → both (Some old) (joined_parts (incoming queues)) ≡ Some now
adding_end queues i old now h so_far =
    let none = (ap (λ xs. joined_parts (incoming xs)) (drop_all i queues h)) ∙ parts_none in
    (sym so_far) ∙ ((ap (both (Some now)) none) ∙ (both_end (Some now)))

-- ---- all of some queues, and then all of others
pub adds_known : (queues : List Incoming) (old new : List Part) (known : Bool) → AddsParts queues old new known → known ≡ true
    → both (Some old) (joined_parts queues) ≡ Some new
adds_known queues old new known adds is = subst (AddsParts queues old new) is adds

pub adds_unknown : (queues : List Incoming) (old new : List Part) (known : Bool) → AddsParts queues old new known → known ≡ false
    → joined_parts queues ≡ None
adds_unknown queues old new known adds is = subst (AddsParts queues old new) is adds

pub all_known : (xs ys : List Incoming) (mid all : List Part) → both (Some []) (joined_parts xs) ≡ Some mid → both (Some mid) (joined_parts ys) ≡ Some all
    → Some all ≡ joined_parts (xs ++ ys)
all_known xs ys mid all first second =
    let known = sym (both_none (joined_parts xs)) ∙ first in
    sym second ∙ (ap (λ o. both o (joined_parts ys)) (sym known) ∙ sym (parts_append xs ys))

pub first_unknown : (xs ys : List Incoming) → joined_parts xs ≡ None → None ≡ joined_parts (xs ++ ys)
first_unknown xs ys h = ap (λ o. both o (joined_parts ys)) (sym h) ∙ sym (parts_append xs ys)

none_behind : (a : Option (List Part)) → None ≡ both a None
none_behind None = refl
none_behind (Some a) = refl

pub second_unknown : (xs ys : List Incoming) → joined_parts ys ≡ None → None ≡ joined_parts (xs ++ ys)
second_unknown xs ys h = none_behind (joined_parts xs) ∙ (ap (both (joined_parts xs)) (sym h) ∙ sym (parts_append xs ys))
