-- The hops at a server, found flow by flow, are those of the definitions.
use Rattle.std.proofs.Common.{◌≡◌, ◌≢◌, ℕ, zero, suc, ◌<◌, ◌≤◌, ◌+◌, List, [], ◌∷◌, ◌++◌, length, map, refl, sym, ap, ◌∙◌, subst, arith, inl, inr, Bool, true, false, append-nil, append_assoc, max}
use Rattle.std.specs.Prelude.{Option, Some, None, slice_index, ◌==◌}
use Rattle.std.specs.List.{filter, flat_map, range_with_len}
use Rattle.std.proofs.lemmas.Bool.{cases_lt, cond-true, cond-false, eq-eqb, ne_eqb}
use Rattle.std.proofs.lemmas.List.FromFn.{map-range_with_len_more}
use Rattle.net_model.specs.Networks.{Net, NetFlow}
use Rattle.net_model.specs.Accepted.{IsAccepted}
use Rattle.net_cells.specs.Numbered.{flow_at, path_of, hops, server_of_hop, queue_of_hop}
use Rattle.net_cells.specs.declared.visit.Visit.{Visit}
use Rattle.net_cells.specs.Visits.{visit, visits, is_at, visits_in, others, longest_of}
use Rattle.net_cells.specs.QueueParts.{part_of, in_part}
use Rattle.net_cells.proofs.Counting.{filter_twice}
use Rattle.net_cells.proofs.Growing.{filter_flat, flat_more, kept_number, dropped_number}
use Rattle.net_cells.proofs.Stored.{flow_kept}
use Rattle.cell_numbers.specs.declared.found.Pick.{Pick}
use Rattle.cell_numbers.specs.declared.found.Pick.TheVariants.{InQueue, InPart}
use Rattle.cell_numbers.specs.Chosen.{IsFreeBefore, FindsOn, flow_visits, visit_list, picks, is_other, picked, chosen, all_picked, all_chosen}

-- ---- one of a row
pub only_one : {Y : Type 0} (p : Y → Bool) (f : ℕ → Y) (k n : ℕ) → p (f k) ≡ true → filter p (map f (range_with_len 0 k)) ≡ []
    → ((j : ℕ) → k < j → j < n → p (f j) ≡ false) → k < n → filter p (map f (range_with_len 0 n)) ≡ f k ∷ []
only_one p f k zero is none after h = absurd (omega (arith, h))
only_one p f k (suc n) is none after h =
    elim (cases_lt k n) [
      | inl l ↦
          let before = only_one p f k n is none (λ j lo hi. after j lo (omega arith)) l in
          let next : filter p (map f (range_with_len 0 (n + 1))) ≡ filter p (map f (range_with_len 0 n)) ++ [] = dropped_number p f n (after n l (omega arith)) in
          let same : suc n ≡ n + 1 = omega arith in
          subst (λ m. filter p (map f (range_with_len 0 m)) ≡ f k ∷ []) (sym same) (next ∙ append-nil (filter p (map f (range_with_len 0 n))) ∙ before)
      | inr l ↦
          let same : k ≡ n = omega arith in
          let last : filter p (map f (range_with_len 0 (k + 1))) ≡ filter p (map f (range_with_len 0 k)) ++ f k ∷ [] = kept_number p f k is in
          let all : suc n ≡ k + 1 = omega arith in
          subst (λ m. filter p (map f (range_with_len 0 m)) ≡ f k ∷ []) (sym all) (last ∙ ap (λ xs. xs ++ f k ∷ []) none)
    ]

-- ---- one flow
-- the servers of a path differ
differ : (net : Net) (i : ℕ) (o : Option NetFlow) (j k : ℕ) → IsAccepted net → flow_at net i ≡ o → j < k → k < length (path_of o)
    → slice_index (path_of o) j ≢ slice_index (path_of o) k
differ net i None j k a e h l = absurd (omega (arith, l))
differ net i (Some f) j k a e h l = (flow_kept net i f a e).once j k 0 h l

hop_here : (net : Net) (s i k : ℕ) → IsAccepted net → k < hops net i → server_of_hop net i k ≡ s
    → filter (is_at net s) (map (visit i) (range_with_len 0 k)) ≡ [] → flow_visits net s i ≡ visit i k ∷ []
hop_here net s i k a h e none =
    only_one (is_at net s) (visit i) k (hops net i) (eq-eqb (server_of_hop net i k) s e) none
    (λ j lo hi. ne_eqb (server_of_hop net i j) s (λ f. differ net i (flow_at net i) k j a refl lo hi (e ∙ sym f))) h

not_here : (net : Net) (s i k : ℕ) → server_of_hop net i k ≢ s → filter (is_at net s) (map (visit i) (range_with_len 0 k)) ≡ []
    → filter (is_at net s) (map (visit i) (range_with_len 0 (k + 1))) ≡ []
not_here net s i k e none =
    dropped_number (is_at net s) (visit i) k (ne_eqb (server_of_hop net i k) s e)
    ∙ append-nil (filter (is_at net s) (map (visit i) (range_with_len 0 k))) ∙ none

none_before : (net : Net) (s i n : ℕ) → IsFreeBefore (path_of (flow_at net i)) s n
    → filter (is_at net s) (map (visit i) (range_with_len 0 n)) ≡ []
none_before net s i zero free = refl
none_before net s i (suc n) free =
    let next : suc n ≡ n + 1 = omega arith in
    subst (λ m. filter (is_at net s) (map (visit i) (range_with_len 0 m)) ≡ []) (sym next)
    (not_here net s i n (free n (omega arith)) (none_before net s i n (λ j l. free j (omega (arith, l)))))

pub found_on : (net : Net) (s i : ℕ) (r : Option ℕ) → IsAccepted net → FindsOn (path_of (flow_at net i)) s r
    → flow_visits net s i ≡ visit_list i r
found_on net s i None a free = none_before net s i (hops net i) free
found_on net s i (Some k) a f = hop_here net s i k a f.inside f.here (none_before net s i k f.before)

-- what is kept of one hop
pub keep_one : {Y : Type 0} (p : Y → Bool) (xs : List Y) (y : Y) → xs ≡ y ∷ [] → p y ≡ true → filter p xs ≡ y ∷ []
keep_one p xs y e h = ap (filter p) e ∙ cond-true (p y) (y ∷ []) [] h

pub drop_one : {Y : Type 0} (p : Y → Bool) (xs : List Y) (y : Y) → xs ≡ y ∷ [] → p y ≡ false → filter p xs ≡ []
drop_one p xs y e h = ap (filter p) e ∙ cond-false (p y) (y ∷ []) [] h

pub keep_none : {Y : Type 0} (p : Y → Bool) (xs : List Y) → xs ≡ [] → filter p xs ≡ []
keep_none p xs e = ap (filter p) e

-- ---- all flows
pub visits_are : (net : Net) (s : ℕ) → visits net s ≡ flat_map (flow_visits net s) (range_with_len 0 (length net.flows))
visits_are net s =
    filter_flat (is_at net s) (λ i. map (visit i) (range_with_len 0 (hops net i))) (range_with_len 0 (length net.flows))

pub picked_are : (net : Net) (s : ℕ) (pick : Pick) → filter (picks net pick) (visits net s) ≡ all_picked net s pick (length net.flows)
picked_are net s pick =
    ap (filter (picks net pick)) (visits_are net s)
    ∙ filter_flat (picks net pick) (flow_visits net s) (range_with_len 0 (length net.flows))

pub chosen_are : (net : Net) (s : ℕ) (pick : Pick) (except : Option ℕ)
    → filter (is_other except) (filter (picks net pick) (visits net s)) ≡ all_chosen net s pick except (length net.flows)
chosen_are net s pick except =
    ap (filter (is_other except)) (picked_are net s pick)
    ∙ filter_flat (is_other except) (picked net s pick) (range_with_len 0 (length net.flows))

filter_all : {Y : Type 0} (xs : List Y) → filter (λ y. true) xs ≡ xs
filter_all [] = refl
filter_all (x ∷ xs) = ap (λ ys. x ∷ ys) (filter_all xs)

pub queue_visits : (net : Net) (s q : ℕ) → visits_in net s q ≡ all_chosen net s (InQueue q) None (length net.flows)
queue_visits net s q = sym (filter_all (visits_in net s q)) ∙ chosen_are net s (InQueue q) None

pub other_visits : (net : Net) (i s q : ℕ) → others net i s q ≡ all_chosen net s (InQueue q) (Some i) (length net.flows)
other_visits net i s q = chosen_are net s (InQueue q) (Some i)

-- those of a part are those of the queue that are of it
pub part_picked : (net : Net) (s q k : ℕ) → in_part net s q k ≡ all_picked net s (InPart q k) (length net.flows)
part_picked net s q k =
    filter_twice (λ v. part_of net v == k) (λ v. queue_of_hop net v.flow v.hop == q) (visits net s) ∙ picked_are net s (InPart q k)

pub part_visits : (net : Net) (s q k : ℕ) → in_part net s q k ≡ all_chosen net s (InPart q k) None (length net.flows)
part_visits net s q k =
    filter_twice (λ v. part_of net v == k) (λ v. queue_of_hop net v.flow v.hop == q) (visits net s)
    ∙ sym (filter_all (filter (picks net (InPart q k)) (visits net s))) ∙ chosen_are net s (InPart q k) None

pub all_chosen_more : (net : Net) (s : ℕ) (pick : Pick) (except : Option ℕ) (n : ℕ)
    → all_chosen net s pick except (n + 1) ≡ all_chosen net s pick except n ++ chosen net s pick except n
all_chosen_more net s pick except n = flat_more (chosen net s pick except) n

pub all_picked_more : (net : Net) (s : ℕ) (pick : Pick) (n : ℕ) → all_picked net s pick (n + 1) ≡ all_picked net s pick n ++ picked net s pick n
all_picked_more net s pick n = flat_more (picked net s pick) n

-- the first of a row, and the rest
pub record IsFront {Y : Type 0} (front whole : List Y) : Type 0 where
  pub rest : List Y
  pub is : whole ≡ front ++ rest

pub flat_front : {Y : Type 0} (f : ℕ → List Y) (n m : ℕ) → n ≤ m → IsFront (flat_map f (range_with_len 0 n)) (flat_map f (range_with_len 0 m))
flat_front f n zero h = let e : n ≡ 0 = omega arith in subst (λ k. IsFront (flat_map f (range_with_len 0 k)) (flat_map f (range_with_len 0 0))) (sym e) (record { rest = []; is = refl })
flat_front f n (suc m) h =
    elim (cases_lt m n) [
      | inl l ↦
          let e : n ≡ suc m = omega arith in
          subst (λ k. IsFront (flat_map f (range_with_len 0 k)) (flat_map f (range_with_len 0 (suc m)))) (sym e)
          (record { rest = []; is = sym (append-nil (flat_map f (range_with_len 0 (suc m)))) })
      | inr l ↦
          let before = flat_front f n m l in
          let same : suc m ≡ m + 1 = omega arith in
          subst (λ k. IsFront (flat_map f (range_with_len 0 n)) (flat_map f (range_with_len 0 k))) (sym same) (record {
            rest = before.rest ++ f m;
            is = flat_more f m ∙ ap (λ xs. xs ++ f m) before.is ∙ append_assoc (flat_map f (range_with_len 0 n)) before.rest (f m);
          })
    ]

pub map_front : {Y : Type 0} (f : ℕ → Y) (n m : ℕ) → n ≤ m → IsFront (map f (range_with_len 0 n)) (map f (range_with_len 0 m))
map_front f n zero h = let e : n ≡ 0 = omega arith in subst (λ k. IsFront (map f (range_with_len 0 k)) (map f (range_with_len 0 0))) (sym e) (record { rest = []; is = refl })
map_front f n (suc m) h =
    elim (cases_lt m n) [
      | inl l ↦
          let e : n ≡ suc m = omega arith in
          subst (λ k. IsFront (map f (range_with_len 0 k)) (map f (range_with_len 0 (suc m)))) (sym e)
          (record { rest = []; is = sym (append-nil (map f (range_with_len 0 (suc m)))) })
      | inr l ↦
          let before = map_front f n m l in
          let same : suc m ≡ m + 1 = omega arith in
          subst (λ k. IsFront (map f (range_with_len 0 n)) (map f (range_with_len 0 k))) (sym same) (record {
            rest = before.rest ++ f m ∷ [];
            is = map-range_with_len_more f 0 m m (omega arith) ∙ ap (λ xs. xs ++ f m ∷ []) before.is
                ∙ append_assoc (map f (range_with_len 0 n)) before.rest (f m ∷ []);
          })
    ]

-- ---- longest packets
pub longest_append : (net : Net) (xs ys : List Visit) → longest_of net (xs ++ ys) ≡ max (longest_of net xs) (longest_of net ys)
longest_append net [] ys = omega arith
longest_append net (x ∷ xs) ys = let e = longest_append net xs ys in omega (arith, e)
