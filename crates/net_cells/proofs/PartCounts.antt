-- How many hops are in the parts of a queue, flow by flow and part by part, and in which part a hop is.
use Rattle.std.proofs.Common.{◌≡◌, ℕ, zero, suc, ◌<◌, ◌+◌, ◌-◌, List, [], ◌∷◌, ◌++◌, length, get_or, map, refl, sym, ap, ◌∙◌, subst, arith, Bool, true, false, eqb, length-append}
use Rattle.std.specs.Prelude.{◌&&◌, ◌==◌}
use Rattle.std.specs.List.{filter, flat_map, range_with_len}
use Rattle.std.proofs.lemmas.Bool.{ne_eqb}
use Rattle.std.proofs.lemmas.List.{map-append}
use Rattle.std.proofs.lemmas.Option.{slice_get_within}
use Rattle.net_model.specs.Networks.{Net}
use Rattle.net_model.specs.Accepted.{IsAccepted}
use Rattle.net_cells.specs.declared.cell.Cell.{Cell}
use Rattle.net_cells.specs.declared.cell.Kind.TheVariants.{In}
use Rattle.net_cells.specs.Numbered.{flow_at, path, queues_of, hops, server_of_hop}
use Rattle.net_cells.specs.Visits.{Visit, visit}
use Rattle.net_cells.specs.QueueParts.{part_of, in_part, is_there, flow_part, link_of, links_among}
use Rattle.net_cells.specs.Order.{at_visit}
use Rattle.net_cells.proofs.Growing.{range_more, flat_more, filter_flat, flat_same, filter_mapped}
use Rattle.net_cells.proofs.Counting.{filter_twice, hops_of, in_by_flow}
use Rattle.net_cells.proofs.Members.{hop_kept}

-- ---- a list for each number
pub more_items : {Y : Type 0} (f : ℕ → List Y) (n total count : ℕ) → total ≡ length (flat_map f (range_with_len 0 n)) → count ≡ length (f n)
    → total + count ≡ length (flat_map f (range_with_len 0 (n + 1)))
more_items f n total count a b =
    let joined = ap length (flat_more f n) in
    let sum = length-append (flat_map f (range_with_len 0 n)) (f n) in
    omega (arith, a, b, joined, sum)

pub more_cells : (f : ℕ → List Visit) (n : ℕ) (items new : List Cell) → items ≡ map (at_visit In) (flat_map f (range_with_len 0 n))
    → new ≡ items ++ map (at_visit In) (f n) → new ≡ map (at_visit In) (flat_map f (range_with_len 0 (n + 1)))
more_cells f n items new a b =
    b ∙ ap (λ (xs : List Cell). xs ++ map (at_visit In) (f n)) a ∙ sym (map-append (at_visit In) (flat_map f (range_with_len 0 n)) (f n))
    ∙ ap (map (at_visit In)) (sym (flat_more f n))

-- ---- a part, flow by flow
and_more : (a b c : Bool) → ((a && b) && c) ≡ (a && (b && c))
and_more true b c = refl
and_more false b c = refl

part_flow : (net : Net) (s q k i : ℕ) → filter (λ (v : Visit). eqb (part_of net v) k) (hops_of net s q i) ≡ flow_part net s q k i
part_flow net s q k i =
    let t = λ (v : Visit). eqb (get_or (path net i) v.hop 0) s && eqb (get_or (queues_of (flow_at net i)) v.hop 0) q in
    filter_twice (λ (v : Visit). eqb (part_of net v) k) t (map (visit i) (range_with_len 0 (hops net i)))
    ∙ filter_mapped (λ (v : Visit). t v && eqb (part_of net v) k) (is_there net s q k) (visit i) (range_with_len 0 (hops net i))
    (λ j. and_more (eqb (get_or (path net i) j 0) s) (eqb (get_or (queues_of (flow_at net i)) j 0) q) (eqb (part_of net (visit i j)) k))

pub part_by_flow : (net : Net) (s q k : ℕ) → in_part net s q k ≡ flat_map (flow_part net s q k) (range_with_len 0 (length net.flows))
part_by_flow net s q k =
    ap (filter (λ (v : Visit). eqb (part_of net v) k)) (in_by_flow net s q)
    ∙ filter_flat (λ (v : Visit). eqb (part_of net v) k) (hops_of net s q) (range_with_len 0 (length net.flows))
    ∙ flat_same (λ i. filter (λ (v : Visit). eqb (part_of net v) k) (hops_of net s q i)) (flow_part net s q k)
    (range_with_len 0 (length net.flows)) (part_flow net s q k)

-- ---- parts that come over a link
pub links_append : (net : Net) (s q : ℕ) (ks js : List ℕ) → links_among net s q (ks ++ js) ≡ links_among net s q ks + links_among net s q js
links_append net s q [] js = omega arith
links_append net s q (k ∷ ks) js = let h = links_append net s q ks js in omega (arith, h)

pub links_more : (net : Net) (s q n links hops count : ℕ) → links ≡ links_among net s q (range_with_len 0 n)
    → hops ≡ length (in_part net s q n) → count ≡ link_of n hops
    → links + count ≡ links_among net s q (range_with_len 0 (n + 1))
links_more net s q n links hops count a b e =
    let joined = ap (links_among net s q) (range_more n) in
    let sum = links_append net s q (range_with_len 0 n) (n ∷ []) in
    let same = e ∙ ap (link_of n) b in
    omega (arith, a, same, joined, sum)

pub no_hops : (k : ℕ) → link_of k 0 ≡ 0
no_hops zero = refl
no_hops (suc p) = refl

pub some_hops : (k n : ℕ) → 0 < k → 0 < n → link_of k n ≡ 1
some_hops zero n h l = absurd (omega (arith, h))
some_hops (suc p) zero h l = absurd (omega (arith, l))
some_hops (suc p) (suc n) h l = refl

-- ---- a hop's part
pub part_next : (net : Net) (i j : ℕ) → part_of net (visit i (suc j)) ≡ suc (server_of_hop net i j)
part_next net i j =
    let one : suc j - 1 ≡ j = omega arith in
    let later : (suc j == 0) ≡ false = ne_eqb (suc j) 0 (λ e. omega (arith, e)) in
    rw later (ap (λ (m : ℕ). suc (server_of_hop net i m)) one)

-- no later one than that of the last server
pub part_small : (net : Net) (i k : ℕ) → IsAccepted net → k < hops net i → part_of net (visit i k) < suc (length net.servers)
part_small net i zero a h = omega arith
part_small net i (suc j) a h =
    let hop = hop_kept net i j a (omega (arith, h)) in
    let inside = slice_get_within net.servers (server_of_hop net i j) hop.server hop.is in
    subst (λ (n : ℕ). n < suc (length net.servers)) (sym (part_next net i j)) (omega (arith, inside))
