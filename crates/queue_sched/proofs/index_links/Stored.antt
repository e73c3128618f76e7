-- What the cells hold, before and after each call.
use Rattle.std.proofs.Common.{◌≡◌, ℕ, ◌+◌, ◌-◌, ◌<◌, ◌≤◌, ◌^◌, List, [], ◌∷◌, ◌++◌, length, get_or, set, map, replicate, refl, sym, ap, ◌∙◌, subst, arith, inl, inr, true, false, eqb, Some}
use Rattle.std.specs.Prelude.{◌≢◌}
use Rattle.std.specs.List.{IsDistinct, AllByRecursion, list_any}
use Rattle.std.proofs.lemmas.Bool.{cases_lt, ne_eqb, or_cases, eqb-true, lt-ltb, le-ltb}
use Rattle.std.proofs.lemmas.List.{get_or-set_same, get_or-set_other, get_or-replicate}
use Rattle.std.proofs.lemmas.Map.Steps.{length-le_from_distinct_below}
use Rattle.std.proofs.Math.ListN.{length-set}
use Rattle.queue_sched.specs.index_links.Chains.{Chains, list_at, Has, Apart, IsLinked, IsFree, first_of, after, without, with_list, unlinked, AreDisjoint}
use Rattle.queue_sched.specs.index_links.Rings.{walk, collect, chains_of, Chain, AreRings, AreStored, node_of}
use Rattle.queue_sched.proofs.index_links.Collected.{length_collect, collect_at, collect_past, collect_same, collect_map, collect_set, collect_replicate, but_at}
use Rattle.queue_sched.proofs.index_links.RingLemmas.{IsCell, walk_chain, last_cell, first_cell, chain_split}
use Rattle.queue_sched.proofs.index_links.Moves.{tail_rings, head_rings, out_rings, PushesTail, PushesHead, TakesOut, new_cell, other_ring}
use Rattle.queue_sched.proofs.index_links.Members.{place_of}

-- a list as a function
abbrev pub at : List ℕ → ℕ → ℕ
at xs i = get_or xs i 0

-- ---- a list without repeats of numbers below n is no longer than n
all_other : (xs : List ℕ) (x : ℕ) → ¬ (Has xs x) → AllByRecursion (λ y. eqb x y ≡ false) xs
all_other [] x n = tt
all_other (y ∷ ys) x n = (ne_eqb x y (λ e. n (inl (sym e))), all_other ys x (λ h. n (inr h)))

distinct : (xs : List ℕ) → Apart xs → IsDistinct eqb xs
unfolding IsDistinct
distinct [] a = tt
distinct (x ∷ xs) a = (all_other xs x a.0, distinct xs a.1)

any_has : (q : ℕ) (xs : List ℕ) → list_any (eqb q) xs ≡ true → Has xs q
any_has q [] h = absurd (cc)
any_has q (x ∷ xs) h = elim (or_cases (eqb q x) (list_any (eqb q) xs) h) [ inl e ↦ inl (sym (eqb-true q x e)) | inr g ↦ inr (any_has q xs g) ]

pub apart_length : (xs : List ℕ) (n : ℕ) → Apart xs → ((k : ℕ) → Has xs k → k < n) → length xs ≤ n
apart_length xs n a below = length-le_from_distinct_below xs n (distinct xs a) (λ q h. below q (any_has q xs h))

-- ---- the view
pub built : (next prev owners : List ℕ) (m n : ℕ) (xss : ℕ → List ℕ) → AreRings (at next) (at prev) (at owners) m n xss
    → chains_of next m n ≡ record { nodes = n; lists = collect xss 0 m }
built next prev owners m n xss r =
    let same : collect (λ l. walk next m n (get_or next l 0)) 0 m ≡ collect xss 0 m =
    collect_same (λ l. walk next m n (get_or next l 0)) xss 0 m
    (λ l _ h.
    let hl : l < m = omega (arith, h) in
    walk_chain next (at prev) m n l (xss l) l (r.rings l hl) hl (apart_length (xss l) n (r.once l hl) (λ k g. (r.known l k hl g).0)))
    in
    ap (λ t. let v : Chains = record { nodes = n; lists = t } in v) same

pub record Seen (next prev owners : List ℕ) (m : ℕ) (v : Chains) (xss : ℕ → List ℕ) : Type 0 where
  pub rings : AreRings (at next) (at prev) (at owners) m (length owners) xss
  pub nodes : v.nodes ≡ length owners
  pub lists : v.lists ≡ collect xss 0 m
  pub count : length v.lists ≡ m
  pub here : (l : ℕ) → l < m → list_at v l ≡ xss l
  pub past : (l : ℕ) → m ≤ l → list_at v l ≡ []

pub seen : (next prev owners : List ℕ) (m : ℕ) (v : Chains) (s : AreStored next prev owners m)
    → chains_of next m (length owners) ≡ v → Seen next prev owners m v s.stored.0
seen next prev owners m v s e =
    let xss = s.stored.0 in
    let whole : v ≡ record { nodes = length owners; lists = collect xss 0 m } = sym e ∙ built next prev owners m (length owners) xss s.stored.1 in
    let lists : v.lists ≡ collect xss 0 m = ap (λ (t : Chains). t.lists) whole in
    record {
      rings = s.stored.1;
      nodes = ap (λ (t : Chains). t.nodes) whole;
      lists = lists;
      count = ap length lists ∙ length_collect xss 0 m;
      here = λ l h. ap (λ t. get_or t l []) lists ∙ collect_at xss 0 m l [] h ∙ ap xss (omega arith);
      past = λ l h. ap (λ t. get_or t l []) lists ∙ collect_past xss 0 m l [] h;
    }

-- a node that is in a list is in one of the m lists
pub record InList (m : ℕ) (xss : ℕ → List ℕ) (l k : ℕ) : Type 0 where
  pub known : l < m
  pub has : Has (xss l) k

pub in_list : {next prev owners : List ℕ} {m : ℕ} {v : Chains} {xss : ℕ → List ℕ} → Seen next prev owners m v xss
    → (l k : ℕ) → Has (list_at v l) k → InList m xss l k
in_list {m = m} s l k h = elim (cases_lt l m) [
  | inl g ↦ record { known = g; has = subst (λ t. Has t k) (s.here l g) h }
  | inr g ↦ absurd (subst (λ t. Has t k) (s.past l g) h)
]

pub cell_within : {nx pv ow : ℕ → ℕ} {m n : ℕ} {xss : ℕ → List ℕ} → AreRings nx pv ow m n xss → (l i : ℕ) → l < m → IsCell m l (xss l) i → i < m + n
cell_within r l i h (inl e) = omega (arith, e, h)
cell_within r l i h (inr g) = let k = (r.known l g.0 h g.1).0 in omega (arith, k, g.2)

-- ---- disjoint
pub disjoint : {next prev owners : List ℕ} {m : ℕ} {v : Chains} {xss : ℕ → List ℕ} → Seen next prev owners m v xss → AreDisjoint v
disjoint {owners = owners} {m = m} {v = v} {xss = xss} s = record {
  known = λ l k h. let i = in_list s l k h in omega (arith, s.nodes, (s.rings.known l k i.known i.has).0);
  once = λ l. elim (cases_lt l m) [
    | inl g ↦ subst (λ t. Apart t) (sym (s.here l g)) (s.rings.once l g)
    | inr g ↦ subst (λ t. Apart t) (sym (s.past l g)) tt
  ];
  in_one = λ l j k h g.
      let a = in_list s l k h in
      let b = in_list s j k g in
      sym (s.rings.known l k a.known a.has).1 ∙ (s.rings.known j k b.known b.has).1;
}

-- ---- the first node, and the next one
pub first_is : (nx pv : ℕ → ℕ) (m a : ℕ) (xs : List ℕ) (b : ℕ) → Chain nx pv m a xs b → b < m → node_of m (nx a) ≡ first_of xs
first_is nx pv m a [] b c h = rw (lt-ltb (nx a) m (omega (arith, c.0, h))) refl
first_is nx pv m a (x ∷ xs) b c h =
    rw (le-ltb (nx a) m (omega (arith, c.0))) (let e : nx a - m ≡ x = omega (arith, c.0) in ap (λ t. Some t) e)

after_place : (k : ℕ) (xs ys : List ℕ) → ¬ (Has xs k) → after k (xs ++ k ∷ ys) ≡ first_of ys
after_place k [] ys n = rw (Rattle.std.proofs.lemmas.Bool.eq-eqb k k refl) refl
after_place k (x ∷ xs) ys n = rw (ne_eqb x k (λ e. n (inl e))) (after_place k xs ys (λ h. n (inr h)))

pub next_is : (nx pv : ℕ → ℕ) (m a k : ℕ) (xs : List ℕ) (b : ℕ) → Chain nx pv m a xs b → b < m → Apart xs → Has xs k
    → node_of m (nx (m + k)) ≡ after k xs
next_is nx pv m a k xs b c h apart has =
    let p = place_of xs k has in
    let parts = Rattle.queue_sched.proofs.index_links.Members.apart_parts p.0 k p.1 (subst (λ t. Apart t) p.2 apart) in
    let split = chain_split nx pv m a p.0 k p.1 b (subst (λ t. Chain nx pv m a t b) p.2 c) in
    first_is nx pv m (m + k) p.1 b split.1 h ∙ sym (after_place k p.0 p.1 parts.not_front) ∙ ap (after k) (sym p.2)

-- ---- at the tail
abbrev pub Kept : List ℕ → List ℕ → List ℕ → ℕ → Chains → Type 0
Kept next prev owners m v = AreStored next prev owners m × (chains_of next m (length owners) ≡ v)

same_pushed : (v : Chains) (n m l : ℕ) (xss : ℕ → List ℕ) (ys : List ℕ) → v.nodes ≡ n → v.lists ≡ collect xss 0 m
    → record { nodes = n; lists = collect (but_at xss l ys) 0 m } ≡ with_list v l ys
same_pushed v n m l xss ys e f =
    let g : collect (but_at xss l ys) 0 m ≡ set v.lists l ys =
    sym (collect_set xss 0 m l ys ∙ ap (λ t. collect (but_at xss t ys) 0 m) (omega arith)) ∙ ap (λ t. set t l ys) (sym f) in
    let whole : with_list v l ys ≡ record { nodes = n; lists = collect (but_at xss l ys) 0 m } = cc in
    sym whole

-- a list, and a node that is in none
record IsSpare (xss : ℕ → List ℕ) (v : Chains) (m n l k : ℕ) : Type 0 where
  list_in : l < m
  node_in : k < n
  here : (j : ℕ) → j < m → list_at v j ≡ xss j
  unused : (j : ℕ) → j < m → ¬ (Has (xss j) k)

is_spare : (next prev owners : List ℕ) (m l k : ℕ) (v : Chains) (s : AreStored next prev owners m)
    → chains_of next m (length owners) ≡ v → l < length v.lists → k < v.nodes → IsFree v k
    → IsSpare s.stored.0 v m (length owners) l k
is_spare next prev owners m l k v s e hl hk free =
    let see = seen next prev owners m v s e in
    record {
      list_in = omega (arith, hl, see.count);
      node_in = omega (arith, hk, see.nodes);
      here = see.here;
      unused = λ j h g. free j (subst (λ t. Has t k) (sym (see.here j h)) g);
    }

-- cells of the same lengths, in whose rings one list is another
pushed_kept : (next prev owners next' prev' : List ℕ) (m l k : ℕ) (v : Chains) (s : AreStored next prev owners m) (ys : List ℕ)
    → chains_of next m (length owners) ≡ v → length next' ≡ length next → length prev' ≡ length prev
    → AreRings (at next') (at prev') (at (set owners k l)) m (length owners) (but_at s.stored.0 l ys)
    → Kept next' prev' (set owners k l) m (with_list v l ys)
pushed_kept next prev owners next' prev' m l k v s ys e long_n long_p after_it =
    let see = seen next prev owners m v s e in
    let long_o : length (set owners k l) ≡ length owners = length-set owners k l in
    let to = but_at s.stored.0 l ys in
    let rings : AreRings (at next') (at prev') (at (set owners k l)) m (length (set owners k l)) to =
    subst (λ u. AreRings (at next') (at prev') (at (set owners k l)) m u to) (sym long_o) after_it in (
      record {
        few = omega (arith, s.few, long_o);
        long_next = omega (arith, s.long_next, long_n, long_o);
        long_prev = omega (arith, s.long_prev, long_p, long_o);
        stored = (to, rings);
      },
      built next' prev' (set owners k l) m (length (set owners k l)) to rings
          ∙ same_pushed v (length (set owners k l)) m l s.stored.0 ys (see.nodes ∙ sym long_o) see.lists,
    )

pub tail_kept : (next prev owners : List ℕ) (m l k : ℕ) (v : Chains) (s : AreStored next prev owners m)
    → chains_of next m (length owners) ≡ v → l < length v.lists → k < v.nodes → IsFree v k
    → Kept (set (set next (get_or prev l 0) (m + k)) (m + k) l) (set (set prev (m + k) (get_or prev l 0)) l (m + k)) (set owners k l) m
    (with_list v l (list_at v l ++ k ∷ []))
tail_kept next prev owners m l k v s e hl hk free =
    let xss = s.stored.0 in
    let r = s.stored.1 in
    let spare = is_spare next prev owners m l k v s e hl hk free in
    let in_m = spare.list_in in
    let in_n = spare.node_in in
    let t = get_or prev l 0 in
    let last = last_cell (at next) (at prev) m l (xss l) l (r.rings l in_m) in
    let t_in : t < m + length owners = cell_within r l t in_m last.0 in
    let t_other : t ≢ m + k = λ q. new_cell m l k (xss l) in_m (spare.unused l in_m) (subst (λ u. IsCell m l (xss l) u) q last.0) in
    let next' = set (set next t (m + k)) (m + k) l in
    let prev' = set (set prev (m + k) t) l (m + k) in
    let long_n : length next' ≡ length next = length-set (set next t (m + k)) (m + k) l ∙ length-set next t (m + k) in
    let long_p : length prev' ≡ length prev = length-set (set prev (m + k) t) l (m + k) ∙ length-set prev (m + k) t in
    let pushes : PushesTail (at next) (at prev) (at owners) (at next') (at prev') (at (set owners k l)) m l k = record {
      next_last = get_or-set_other (set next t (m + k)) (m + k) t l 0 t_other ∙ get_or-set_same next t (m + k) 0 (omega (arith, t_in, s.long_next));
      next_node = get_or-set_same (set next t (m + k)) (m + k) l 0 (omega (arith, in_n, s.long_next, length-set next t (m + k)));
      next_others = λ i a b. get_or-set_other (set next t (m + k)) (m + k) i l 0 b ∙ get_or-set_other next t i (m + k) 0 a;
      prev_node = get_or-set_other (set prev (m + k) t) l (m + k) (m + k) 0 (λ q. absurd (omega (arith, q, in_m))) ∙ get_or-set_same prev (m + k) t 0 (omega (arith, in_n, s.long_prev));
      prev_end = get_or-set_same (set prev (m + k) t) l (m + k) 0 (omega (arith, in_m, s.long_prev, length-set prev (m + k) t));
      prev_others = λ i a b. get_or-set_other (set prev (m + k) t) l i (m + k) 0 b ∙ get_or-set_other prev (m + k) i t 0 a;
      owner_node = get_or-set_same owners k l 0 in_n;
      owner_others = λ j d. get_or-set_other owners k j l 0 d;
    } in
    let after_it = tail_rings (at next) (at prev) (at owners) (at next') (at prev') (at (set owners k l)) m (length owners) xss l k r in_m in_n spare.unused pushes in
    let it = pushed_kept next prev owners next' prev' m l k v s (xss l ++ k ∷ []) e long_n long_p after_it in
    (it.0, it.1 ∙ ap (λ u. with_list v l (u ++ k ∷ [])) (sym (spare.here l in_m)))

pub head_kept : (next prev owners : List ℕ) (m l k : ℕ) (v : Chains) (s : AreStored next prev owners m)
    → chains_of next m (length owners) ≡ v → l < length v.lists → k < v.nodes → IsFree v k
    → Kept (set (set next (m + k) (get_or next l 0)) l (m + k)) (set (set prev (get_or next l 0) (m + k)) (m + k) l) (set owners k l) m
    (with_list v l (k ∷ list_at v l))
head_kept next prev owners m l k v s e hl hk free =
    let xss = s.stored.0 in
    let r = s.stored.1 in
    let spare = is_spare next prev owners m l k v s e hl hk free in
    let in_m = spare.list_in in
    let in_n = spare.node_in in
    let t = get_or next l 0 in
    let first = first_cell (at next) (at prev) m l (xss l) l (r.rings l in_m) in
    let t_in : t < m + length owners = cell_within r l t in_m first.0 in
    let t_other : t ≢ m + k = λ q. new_cell m l k (xss l) in_m (spare.unused l in_m) (subst (λ u. IsCell m l (xss l) u) q first.0) in
    let next' = set (set next (m + k) t) l (m + k) in
    let prev' = set (set prev t (m + k)) (m + k) l in
    let long_n : length next' ≡ length next = length-set (set next (m + k) t) l (m + k) ∙ length-set next (m + k) t in
    let long_p : length prev' ≡ length prev = length-set (set prev t (m + k)) (m + k) l ∙ length-set prev t (m + k) in
    let pushes : PushesHead (at next) (at prev) (at owners) (at next') (at prev') (at (set owners k l)) m l k = record {
      next_end = get_or-set_same (set next (m + k) t) l (m + k) 0 (omega (arith, in_m, s.long_next, length-set next (m + k) t));
      next_node = get_or-set_other (set next (m + k) t) l (m + k) (m + k) 0 (λ q. absurd (omega (arith, q, in_m))) ∙ get_or-set_same next (m + k) t 0 (omega (arith, in_n, s.long_next));
      next_others = λ i a b. get_or-set_other (set next (m + k) t) l i (m + k) 0 a ∙ get_or-set_other next (m + k) i t 0 b;
      prev_node = get_or-set_same (set prev t (m + k)) (m + k) l 0 (omega (arith, in_n, s.long_prev, length-set prev t (m + k)));
      prev_first = get_or-set_other (set prev t (m + k)) (m + k) t l 0 t_other ∙ get_or-set_same prev t (m + k) 0 (omega (arith, t_in, s.long_prev));
      prev_others = λ i a b. get_or-set_other (set prev t (m + k)) (m + k) i l 0 a ∙ get_or-set_other prev t i (m + k) 0 b;
      owner_node = get_or-set_same owners k l 0 in_n;
      owner_others = λ j d. get_or-set_other owners k j l 0 d;
    } in
    let after_it = head_rings (at next) (at prev) (at owners) (at next') (at prev') (at (set owners k l)) m (length owners) xss l k r in_m in_n spare.unused pushes in
    let it = pushed_kept next prev owners next' prev' m l k v s (k ∷ xss l) e long_n long_p after_it in
    (it.0, it.1 ∙ ap (λ u. with_list v l (k ∷ u)) (sym (spare.here l in_m)))

-- the cells beside a node that is in a list
pub out_cells : (next prev owners : List ℕ) (m k l : ℕ) (xss : ℕ → List ℕ) → AreRings (at next) (at prev) (at owners) m (length owners) xss
    → l < m → Has (xss l) k → (get_or prev (m + k) 0 < m + length owners) × (get_or next (m + k) 0 < m + length owners)
out_cells next prev owners m k l xss r h has =
    let p = place_of (xss l) k has in
    let split = chain_split (at next) (at prev) m l p.0 k p.1 l (subst (λ t. Chain (at next) (at prev) m l t l) p.2 (r.rings l h)) in
    let a = last_cell (at next) (at prev) m l p.0 (m + k) split.0 in
    let b = first_cell (at next) (at prev) m (m + k) p.1 l split.1 in
    let widen : (i : ℕ) (ys : List ℕ) → ((j : ℕ) → Has ys j → Has (xss l) j) → IsCell m l ys i → i < m + length owners =
    λ i ys sub c. cell_within r l i h (elim c [ inl e ↦ inl e | inr g ↦ inr (g.0, sub g.0 g.1, g.2) ]) in (
      widen (get_or prev (m + k) 0) p.0 (λ j g. subst (λ t. Has t j) (sym p.2) (Rattle.queue_sched.proofs.index_links.Members.has_left p.0 (k ∷ p.1) j g)) a.0,
      widen (get_or next (m + k) 0) p.1 (λ j g. subst (λ t. Has t j) (sym p.2) (Rattle.queue_sched.proofs.index_links.Members.has_right p.0 (k ∷ p.1) j (inr g))) b.0,
    )

-- ---- out of its list
pub out_kept : (next prev owners : List ℕ) (m k : ℕ) (v : Chains) (s : AreStored next prev owners m)
    → chains_of next m (length owners) ≡ v → IsLinked v k
    → Kept (set next (get_or prev (m + k) 0) (get_or next (m + k) 0)) (set prev (get_or next (m + k) 0) (get_or prev (m + k) 0)) (set owners k m) m
    (unlinked v k)
out_kept next prev owners m k v s e linked =
    let xss = s.stored.0 in
    let r = s.stored.1 in
    let see = seen next prev owners m v s e in
    let l = linked.0 in
    let there = in_list see l k linked.1 in
    let in_m = there.known in
    let in_n : k < length owners = (r.known l k in_m there.has).0 in
    let cells = out_cells next prev owners m k l xss r in_m there.has in
    let p = get_or prev (m + k) 0 in
    let x = get_or next (m + k) 0 in
    let next' = set next p x in
    let prev' = set prev x p in
    let owners' = set owners k m in
    let long_n : length next' ≡ length next = length-set next p x in
    let long_p : length prev' ≡ length prev = length-set prev x p in
    let long_o : length owners' ≡ length owners = length-set owners k m in
    let takes : TakesOut (at next) (at prev) (at owners) (at next') (at prev') (at owners') m k = record {
      next_before = get_or-set_same next p x 0 (omega (arith, cells.0, s.long_next));
      next_others = λ i d. get_or-set_other next p i x 0 d;
      prev_behind = get_or-set_same prev x p 0 (omega (arith, cells.1, s.long_prev));
      prev_others = λ i d. get_or-set_other prev x i p 0 d;
      owner_node = get_or-set_same owners k m 0 in_n;
      owner_others = λ j d. get_or-set_other owners k j m 0 d;
    } in
    let after_it = out_rings (at next) (at prev) (at owners) (at next') (at prev') (at owners') m (length owners) xss l k r in_m there.has takes in
    let to : ℕ → List ℕ = λ j. without k (xss j) in
    let rings : AreRings (at next') (at prev') (at owners') m (length owners') to =
    subst (λ u. AreRings (at next') (at prev') (at owners') m u to) (sym long_o) after_it in
    let lists : collect to 0 m ≡ map (without k) v.lists = sym (collect_map (without k) xss 0 m) ∙ ap (map (without k)) (sym see.lists) in
    let whole : record { nodes = length owners'; lists = collect to 0 m } ≡ unlinked v k =
    let f : unlinked v k ≡ record { nodes = length owners'; lists = collect to 0 m } =
    (let q : v.nodes ≡ length owners' = see.nodes ∙ sym long_o in cc) in sym f in (
      record {
        few = omega (arith, s.few, long_o);
        long_next = omega (arith, s.long_next, long_n, long_o);
        long_prev = omega (arith, s.long_prev, long_p, long_o);
        stored = (to, rings);
      },
      built next' prev' owners' m (length owners') to rings ∙ whole,
    )

-- ---- more room
pub grown_rings : (nx pv ow nx' pv' ow' : ℕ → ℕ) (m n n' : ℕ) (xss : ℕ → List ℕ) → AreRings nx pv ow m n xss → n ≤ n'
    → ((i : ℕ) → i < m + n → (nx' i ≡ nx i) × (pv' i ≡ pv i)) → ((k : ℕ) → k < n → ow' k ≡ ow k) → ((k : ℕ) → n ≤ k → k < n' → m ≤ ow' k)
    → AreRings nx' pv' ow' m n' xss
grown_rings nx pv ow nx' pv' ow' m n n' xss r more same owner new = record {
  rings = λ l h. other_ring nx pv nx' pv' m l (xss l) (r.rings l h) (λ i c. same i (cell_within r l i h c));
  known = λ l k h g. let q = r.known l k h g in (omega (arith, q.0, more), owner k q.0 ∙ q.1);
  once = r.once;
  owned = λ k h o. elim (cases_lt k n) [
    | inl g ↦ subst (λ t. Has (xss t) k) (sym (owner k g)) (r.owned k g (subst (λ t. t < m) (owner k g) o))
    | inr g ↦ absurd (let q = new k g h in omega (arith, q, o))
  ];
}

-- ---- at first
pub empty_rings : (nx pv ow : ℕ → ℕ) (m n : ℕ) → ((l : ℕ) → l < m → (nx l ≡ l) × (pv l ≡ l)) → ((k : ℕ) → k < n → m ≤ ow k)
    → AreRings nx pv ow m n (λ _. [])
empty_rings nx pv ow m n ends none = record {
  rings = λ l h. ends l h;
  known = λ l k h g. absurd g;
  once = λ l h. tt;
  owned = λ k h o. absurd (let q = none k h in omega (arith, q, o));
}

-- ---- where the cells of calls are
pub first_within : {next prev owners : List ℕ} {m : ℕ} {v : Chains} {xss : ℕ → List ℕ} → Seen next prev owners m v xss
    → (l : ℕ) → l < m → get_or next l 0 < m + length owners
first_within {next = next} {prev = prev} {m = m} {xss = xss} s l h =
    cell_within s.rings l (get_or next l 0) h (first_cell (at next) (at prev) m l (xss l) l (s.rings.rings l h)).0

pub last_within : {next prev owners : List ℕ} {m : ℕ} {v : Chains} {xss : ℕ → List ℕ} → Seen next prev owners m v xss
    → (l : ℕ) → l < m → get_or prev l 0 < m + length owners
last_within {next = next} {prev = prev} {m = m} {xss = xss} s l h =
    cell_within s.rings l (get_or prev l 0) h (last_cell (at next) (at prev) m l (xss l) l (s.rings.rings l h)).0

pub record NodeCells (next prev owners : List ℕ) (m k : ℕ) : Type 0 where
  pub node : k < length owners
  pub before : get_or prev (m + k) 0 < m + length owners
  pub behind : get_or next (m + k) 0 < m + length owners

pub node_cells : {next prev owners : List ℕ} {m : ℕ} {v : Chains} {xss : ℕ → List ℕ} → Seen next prev owners m v xss
    → (k : ℕ) → IsLinked v k → NodeCells next prev owners m k
node_cells {next = next} {prev = prev} {owners = owners} {m = m} {xss = xss} s k h =
    let i = in_list s h.0 k h.1 in
    let cells = out_cells next prev owners m k h.0 xss s.rings i.known i.has in
    record { node = (s.rings.known h.0 k i.known i.has).0; before = cells.0; behind = cells.1 }

-- ---- as made
pub made : (next prev owners : List ℕ) (m n : ℕ) → length next ≡ m + n → length prev ≡ m + n → owners ≡ replicate n m → n < 2 ^ 32
    → ((l : ℕ) → l < m → (get_or next l 0 ≡ l) × (get_or prev l 0 ≡ l))
    → AreStored next prev owners m × (chains_of next m (length owners) ≡ record { nodes = n; lists = replicate m [] })
made next prev owners m n a b o few ends =
    let long : length owners ≡ n = ap length o ∙ Rattle.std.proofs.Math.ListN.length-replicate n m in
    let rings : AreRings (at next) (at prev) (at owners) m (length owners) (λ _. []) =
    empty_rings (at next) (at prev) (at owners) m (length owners) ends
    (λ k h. let e : get_or owners k 0 ≡ m = ap (λ t. get_or t k 0) o ∙ get_or-replicate n k m 0 (omega (arith, h, long)) in omega (arith, e)) in
    let none : collect (λ (_ : ℕ). let e : List ℕ = [] in e) 0 m ≡ replicate m [] = collect_replicate [] 0 m in
    let whole : record { nodes = length owners; lists = collect (λ _. []) 0 m } ≡ (let v : Chains = record { nodes = n; lists = replicate m [] } in v) = cc in (
      record { few = omega (arith, few, long); long_next = omega (arith, a, long); long_prev = omega (arith, b, long); stored = ((λ _. []), rings) },
      built next prev owners m (length owners) (λ _. []) rings ∙ whole,
    )

-- ---- as grown
pub record Grows (next prev owners next' prev' owners' : List ℕ) (m : ℕ) : Type 0 where
  pub long_next : m + length owners' ≤ length next'
  pub long_prev : m + length owners' ≤ length prev'
  pub more : length owners ≤ length owners'
  pub few : length owners' < 2 ^ 32
  pub same_next : (i : ℕ) → i < m + length owners → get_or next' i 0 ≡ get_or next i 0
  pub same_prev : (i : ℕ) → i < m + length owners → get_or prev' i 0 ≡ get_or prev i 0
  pub same_owner : (k : ℕ) → k < length owners → get_or owners' k 0 ≡ get_or owners k 0
  pub no_owner : (k : ℕ) → length owners ≤ k → k < length owners' → get_or owners' k 0 ≡ m

pub grown : (next prev owners next' prev' owners' : List ℕ) (m : ℕ) (v : Chains) (s : AreStored next prev owners m)
    → chains_of next m (length owners) ≡ v → Grows next prev owners next' prev' owners' m
    → AreStored next' prev' owners' m × (chains_of next' m (length owners') ≡ record { nodes = length owners'; lists = v.lists })
grown next prev owners next' prev' owners' m v s e g =
    let see = seen next prev owners m v s e in
    let xss = s.stored.0 in
    let rings : AreRings (at next') (at prev') (at owners') m (length owners') xss =
    grown_rings (at next) (at prev) (at owners) (at next') (at prev') (at owners') m (length owners) (length owners') xss s.stored.1 g.more
    (λ i h. (g.same_next i h, g.same_prev i h)) g.same_owner (λ k a b. let q = g.no_owner k a b in omega (arith, q)) in
    let whole : record { nodes = length owners'; lists = collect xss 0 m } ≡ (let w : Chains = record { nodes = length owners'; lists = v.lists } in w) =
    (let q : collect xss 0 m ≡ v.lists = sym see.lists in cc) in (
      record { few = g.few; long_next = g.long_next; long_prev = g.long_prev; stored = (xss, rings) },
      built next' prev' owners' m (length owners') xss rings ∙ whole,
    )

-- where the number of nodes stays, all stays
pub grown_same : (next prev owners next' prev' owners' : List ℕ) (m : ℕ) (v : Chains) (s : AreStored next prev owners m)
    → chains_of next m (length owners) ≡ v → Grows next prev owners next' prev' owners' m → length owners' ≡ length owners
    → chains_of next' m (length owners') ≡ v
grown_same next prev owners next' prev' owners' m v s e g same =
    let see = seen next prev owners m v s e in
    let n : length owners' ≡ v.nodes = same ∙ sym see.nodes in
    (grown next prev owners next' prev' owners' m v s e g).1 ∙ ap (λ t. let w : Chains = record { nodes = t; lists = v.lists } in w) n
