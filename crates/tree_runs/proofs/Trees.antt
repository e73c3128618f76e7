-- The links of a tree: a server that hangs on another comes once after it, and after no other; the first after none.
use Rattle.std.specs.Prelude.{Option, Some, None, ◌≡◌, ◌⊎◌, ◌<◌, ◌≤◌, ℕ, zero, suc, pos, ◌==◌, false, List, [], ◌∷◌, ◌++◌, length, get_or, map}
use Rattle.std.proofs.Common.{arith, sym, ap, ◌∙◌, refl, inl, inr, subst, append_assoc, append-nil}
use Rattle.std.proofs.lemmas.Bool.{cases_Bool, eqb-true, eq-eqb, ne_eqb}
use Rattle.run_laws.specs.Rounds.{count_of}
use Rattle.run_laws.specs.Routes.{Hop, Route, Routes, route_of, link_at, PassesServer, first_server}
use Rattle.run_laws.proofs.Sums.{one_if}
use Rattle.net_laws.specs.Paths.{IsPath}
use Rattle.net_laws.proofs.Once.{passes_or}
use Rattle.net_laws.proofs.Arcs.{IsArc, IsRoot, StaysInside, IsReachedIn, IsSpanned, IsWalk}
use Rattle.tree_runs.specs.Trees.{Node, Tree, TreeRoutes, tree_of, hops_in, flat_tree, flat, is_from, hanging_on, next_servers, tree_server_before, Hangs, HangsOn, EachHangs, IsTree, IsOverTrees}
use Rattle.tree_runs.specs.Branches.{GoesOn}
use Rattle.rational.specs.Rational.{int, ◌≤ℚ◌}

-- ---- the route of a flow is that of its tree
route_from : (ts : List Tree) (i : ℕ)
    → get_or (map flat_tree ts) i record { live = false; hops = [] } ≡ flat_tree (get_or ts i record { live = false; nodes = [] })
route_from [] i = refl
route_from (t ∷ ts) zero = refl
route_from (t ∷ ts) (suc i) = route_from ts i

pub route_is : (net : TreeRoutes) (i : ℕ) → route_of (flat net) i ≡ flat_tree (tree_of net i)
route_is net i = route_from net.flows i

pub hops_are : (net : TreeRoutes) (i : ℕ) → (route_of (flat net) i).hops ≡ hops_in (tree_of net i).nodes
hops_are net i = ap (λ (r : Route). r.hops) (route_is net i)

pub live_is : (net : TreeRoutes) (i : ℕ) → (route_of (flat net) i).live ≡ (tree_of net i).live
live_is net i = ap (λ (r : Route). r.live) (route_is net i)

-- ---- how often a server hangs on another
absent : (b c : ℕ) (ns : List Node) → (PassesServer b (hops_in ns) → ⊥) → count_of b (hanging_on c ns) ≡ 0
absent b c [] h = refl
absent b c (n ∷ ns) h =
    let rest = absent b c ns (λ p. h (inr p)) in
    elim (cases_Bool (is_from c n.from)) [
      | inr e ↦ rw e rest
      | inl e ↦ rw (e, ne_eqb n.server b (λ f. h (inl f))) (omega (arith, rest))
    ]

there : (net : Routes) (b c : ℕ) (ns : List Node) → IsPath net (hops_in ns) → PassesServer b (hops_in ns)
    → count_of b (hanging_on c ns) ≡ one_if (is_from c (tree_server_before b ns))
there net b c [] path p = absurd p
there net b c (n ∷ ns) path p = elim (cases_Bool (n.server == b)) [
  | inl e ↦
      let gone = absent b c ns (λ k. path.2 (subst (λ (s : ℕ). PassesServer s (hops_in ns)) (sym (eqb-true n.server b e)) k)) in
      elim (cases_Bool (is_from c n.from)) [
        | inl f ↦ rw (e, f, e) (omega (arith, gone))
        | inr f ↦ rw (e, f) gone
      ]
  | inr e ↦
      let rest = there net b c ns path.3 (later n ns e p) in
      elim (cases_Bool (is_from c n.from)) [
        | inl f ↦ rw (e, f, e) (omega (arith, rest))
        | inr f ↦ rw (e, f) rest
      ]
]
  where
    later : (n : Node) (ns : List Node) → (n.server == b) ≡ false → PassesServer b (hops_in (n ∷ ns)) → PassesServer b (hops_in ns)
    later n ns e (inl k) = let f = eq-eqb n.server b k in absurd (cc)
    later n ns e (inr k) = k

pub from_passes : (b : ℕ) (ns : List Node) (a : ℕ) → tree_server_before b ns ≡ Some a → PassesServer b (hops_in ns)
from_passes b [] a e = absurd (cc)
from_passes b (n ∷ ns) a e = elim (cases_Bool (n.server == b)) [
  | inl f ↦ inl (eqb-true n.server b f)
  | inr f ↦ inr (from_passes b ns a (rw f at e))
]

-- the first hangs on none
first_free : (ns : List Node) (s : ℕ) → EachHangs [] ns → PassesServer s (hops_in ns) → first_server (hops_in ns) ≡ s → tree_server_before s ns ≡ None
first_free [] s h p e = absurd p
first_free (n ∷ ns) s h p e = rw (eq-eqb n.server s e) (free n.from h.0)
  where
    free : (from : Option ℕ) → HangsOn from [] → from ≡ None
    free None k = refl
    free (Some p) k = absurd k

-- and each other one on one before it
some_from : (done ns : List Node) (x : Node) (s : ℕ) → EachHangs (done ++ x ∷ []) ns → PassesServer s (hops_in ns)
    → (a : ℕ) × (tree_server_before s ns ≡ Some a)
some_from done [] x s h p = absurd p
some_from done (n ∷ ns) x s h p = elim (cases_Bool (n.server == s)) [
  | inl e ↦ let (a, f) = on n.from h.0 in (a, rw e f)
  | inr e ↦
      let (a, f) = some_from (done ++ x ∷ []) ns n s h.1 (later n ns e p) in (a, rw e f)
]
  where
    not_nil : (done : List Node) → done ++ x ∷ [] ≡ [] → ⊥
    not_nil [] e = cc
    not_nil (y ∷ ys) e = cc

    on : (from : Option ℕ) → HangsOn from (done ++ x ∷ []) → (a : ℕ) × (from ≡ Some a)
    on None k = absurd (not_nil done k)
    on (Some a) k = (a, refl)

    later : (n : Node) (ns : List Node) → (n.server == s) ≡ false → PassesServer s (hops_in (n ∷ ns)) → PassesServer s (hops_in ns)
    later n ns e (inl k) = let f = eq-eqb n.server s k in absurd (cc)
    later n ns e (inr k) = k

pub first_or_hangs : (ns : List Node) (s : ℕ) → EachHangs [] ns → PassesServer s (hops_in ns)
    → (first_server (hops_in ns) ≡ s) ⊎ ((a : ℕ) × (tree_server_before s ns ≡ Some a))
first_or_hangs [] s h p = absurd p
first_or_hangs (n ∷ ns) s h (inl e) = inl e
first_or_hangs (n ∷ ns) s h (inr p) = elim (cases_Bool (n.server == s)) [
  | inl e ↦ inl (eqb-true n.server s e)
  | inr e ↦ let (a, f) = some_from [] ns n s h.1 p in inr (a, rw e f)
]

-- ---- so of a tree
pub arc_of : (net : TreeRoutes) (i a b : ℕ) → IsTree net i → Hangs net i a b → IsArc (flat net) (next_servers net) i a b
arc_of net i a b tree hangs =
    let ns = (tree_of net i).nodes in
    let passes = from_passes b ns a hangs in
    record {
      next = there (flat net) b a ns tree.servers passes ∙ ap (λ (f : Option ℕ). one_if (is_from a f)) hangs ∙ ap one_if (eq-eqb a a refl);
      not_first = λ e. let free = first_free ns b tree.hangs passes (ap first_server (sym (hops_are net i)) ∙ e) in none_some (sym free ∙ hangs);
      only = λ c n. there (flat net) b c ns tree.servers passes ∙ ap (λ (f : Option ℕ). one_if (is_from c f)) hangs ∙ ap one_if (ne_eqb a c (λ e. n (sym e)));
    }
  where
    none_some : None ≡ Some a → ⊥
    none_some e = cc

pub root_of : (net : TreeRoutes) (i s : ℕ) → IsTree net i → PassesServer s (hops_in (tree_of net i).nodes) → first_server (hops_in (tree_of net i).nodes) ≡ s
    → IsRoot (flat net) (next_servers net) i s
root_of net i s tree passes first =
    let ns = (tree_of net i).nodes in
    record {
      first = ap first_server (hops_are net i) ∙ first;
      never_again = λ a. there (flat net) s a ns tree.servers passes ∙ ap (λ (f : Option ℕ). one_if (is_from a f)) (first_free ns s tree.hangs passes first);
    }

pub stays_inside : (net : TreeRoutes) → StaysInside (flat net) (next_servers net)
stays_inside net i a b l =
    let ns = (tree_of net i).nodes in
    elim (passes_or b (hops_in ns)) [
      | inl p ↦ subst (λ (hs : List Hop). PassesServer b hs) (sym (hops_are net i)) p
      | inr n ↦ let none = absent b a ns n in absurd (omega arith)
    ]

-- ---- servers and links of a tree are known
pub path_known : (net : Routes) (hs : List Hop) (s : ℕ) → IsPath net hs → PassesServer s hs → s < length net.servers
path_known net [] s path p = absurd p
path_known net (h ∷ hs) s path (inl e) = subst (λ (k : ℕ). k < length net.servers) e path.0
path_known net (h ∷ hs) s path (inr p) = path_known net hs s path.3 p

path_link : (net : Routes) (hs : List Hop) (s : ℕ) → IsPath net hs → PassesServer s hs → int (pos 0) ≤ℚ link_at net s
path_link net [] s path p = absurd p
path_link net (h ∷ hs) s path (inl e) = subst (λ (k : ℕ). int (pos 0) ≤ℚ link_at net k) e path.1
path_link net (h ∷ hs) s path (inr p) = path_link net hs s path.3 p

pub passes_there : (done : List Node) (n : Node) (ns : List Node) → PassesServer n.server (hops_in (done ++ n ∷ ns))
passes_there [] n ns = inl refl
passes_there (x ∷ done) n ns = inr (passes_there done n ns)

pub passes_before : (done ns : List Node) (s : ℕ) → PassesServer s (hops_in done) → PassesServer s (hops_in (done ++ ns))
passes_before [] ns s p = absurd p
passes_before (x ∷ done) ns s (inl e) = inl e
passes_before (x ∷ done) ns s (inr p) = inr (passes_before done ns s p)

pub passes_last : (done : List Node) (n : Node) (s : ℕ) → PassesServer s (hops_in (done ++ n ∷ [])) → PassesServer s (hops_in done) ⊎ (n.server ≡ s)
passes_last [] n s (inl e) = inr e
passes_last [] n s (inr p) = absurd p
passes_last (x ∷ done) n s (inl e) = inl (inl e)
passes_last (x ∷ done) n s (inr p) = elim (passes_last done n s p) [
  | inl k ↦ inl (inr k)
  | inr e ↦ inr e
]

-- where no server is twice, the node of a server is the one that hangs where it does
from_there : (net : Routes) (done : List Node) (n : Node) (ns : List Node) → IsPath net (hops_in (done ++ n ∷ ns))
    → tree_server_before n.server (done ++ n ∷ ns) ≡ n.from
from_there net [] n ns path = rw (eq-eqb n.server n.server refl) refl
from_there net (x ∷ done) n ns path =
    let other = ne_eqb x.server n.server (λ e. path.2 (subst (λ (k : ℕ). PassesServer k (hops_in (done ++ n ∷ ns))) (sym e) (passes_there done n ns))) in
    rw other (from_there net done n ns path.3)

-- a server on which another hangs is one of the tree
pub hung_on : (done ns : List Node) (b a : ℕ) → EachHangs done ns → tree_server_before b ns ≡ Some a → PassesServer a (hops_in (done ++ ns))
hung_on done [] b a h e = absurd (cc)
hung_on done (n ∷ ns) b a h e = elim (cases_Bool (n.server == b)) [
  | inl f ↦
      let is : n.from ≡ Some a = rw f at e in
      passes_before done (n ∷ ns) a (subst (λ (from : Option ℕ). HangsOn from done) is h.0)
  | inr f ↦
      subst (λ (ms : List Node). PassesServer a (hops_in ms)) (append_assoc done (n ∷ []) ns)
      (hung_on (done ++ n ∷ []) ns b a h.1 (rw f at e))
]

-- ---- each server is reached from the first, one link after the other
grow : (net : TreeRoutes) (i : ℕ) (done ns : List Node) → IsTree net i → (tree_of net i).nodes ≡ done ++ ns → EachHangs done ns
    → ((s : ℕ) → PassesServer s (hops_in done) → (m : ℕ) × IsReachedIn (flat net) (next_servers net) i m s)
    → (s : ℕ) → PassesServer s (hops_in (tree_of net i).nodes) → (m : ℕ) × IsReachedIn (flat net) (next_servers net) i m s
grow net i done [] tree is hang before s passes =
    before s (subst (λ (ms : List Node). PassesServer s (hops_in ms)) (is ∙ append-nil done) passes)
grow net i done (n ∷ ns) tree is hang before s passes =
    grow net i (done ++ n ∷ []) ns tree (is ∙ sym (append_assoc done (n ∷ []) ns)) hang.1
    (λ k q. elim (passes_last done n k q) [
      | inl m ↦ before k m
      | inr e ↦ subst (λ (j : ℕ). (m : ℕ) × IsReachedIn (flat net) (next_servers net) i m j) e (here n.from refl hang.0)
    ]) s passes
  where
    here : (from : Option ℕ) → n.from ≡ from → HangsOn from done → (m : ℕ) × IsReachedIn (flat net) (next_servers net) i m n.server
    here None e hangs =
        let whole = is ∙ ap (λ (ms : List Node). ms ++ n ∷ ns) hangs in (
          0,
          root_of net i n.server tree (subst (λ (ms : List Node). PassesServer n.server (hops_in ms)) (sym whole) (inl refl)) (ap (λ (ms : List Node). first_server (hops_in ms)) whole),
        )
    here (Some a) e hangs =
        let path = subst (λ (ms : List Node). IsPath (flat net) (hops_in ms)) is tree.servers in
        let on : tree_server_before n.server (tree_of net i).nodes ≡ Some a = ap (tree_server_before n.server) is ∙ from_there (flat net) done n ns path ∙ e in
        let known = path_known (flat net) (hops_in (done ++ n ∷ ns)) a path (passes_before done (n ∷ ns) a hangs) in
        let (m, reached) = before a hangs in
        (suc m, (a, (known, arc_of net i a n.server tree on, reached)))

pub spanned_by_trees : (net : TreeRoutes) → IsOverTrees net → IsSpanned (flat net) (next_servers net)
spanned_by_trees net trees = record {
  inside = stays_inside net;
  reached = λ i live s p.
      let tree = trees i (sym (live_is net i) ∙ live) in
      grow net i [] (tree_of net i).nodes tree refl tree.hangs (λ k q. absurd q) s (subst (PassesServer s) (hops_are net i) p);
}

-- a server that comes after another hangs on it
pub hangs_where : (net : TreeRoutes) (i a b : ℕ) → IsTree net i → 1 ≤ count_of b (next_servers net i a) → Hangs net i a b
hangs_where net i a b tree l =
    let ns = (tree_of net i).nodes in
    elim (passes_or b (hops_in ns)) [
      | inr n ↦ let none = absent b a ns n in absurd (omega arith)
      | inl p ↦ only_from (tree_server_before b ns) (subst (λ (k : ℕ). 1 ≤ k) (there (flat net) b a ns tree.servers p) l)
    ]
  where
    only_from : (from : Option ℕ) → 1 ≤ one_if (is_from a from) → from ≡ Some a
    only_from None k = absurd (omega arith)
    only_from (Some c) k = elim (cases_Bool (c == a)) [
      | inl e ↦ ap (λ (j : ℕ). Some j) (eqb-true c a e)
      | inr e ↦ let none : 1 ≤ 0 = rw e at k in absurd (omega arith)
    ]

-- ---- branches are walks
pub walk_of_branch : (net : TreeRoutes) (i : ℕ) (from : Option ℕ) (hs : List Hop) → IsTree net i → GoesOn (tree_of net i).nodes from hs
    → IsWalk (flat net) (next_servers net) i hs
walk_of_branch net i from [] tree b = tt
walk_of_branch net i from (h ∷ []) tree b = (
  path_known (flat net) (hops_in (tree_of net i).nodes) h.server tree.servers b.0,
  path_link (flat net) (hops_in (tree_of net i).nodes) h.server tree.servers b.0,
)
walk_of_branch net i from (h ∷ g ∷ hs) tree b = (
  path_known (flat net) (hops_in (tree_of net i).nodes) h.server tree.servers b.0,
  path_link (flat net) (hops_in (tree_of net i).nodes) h.server tree.servers b.0,
  arc_of net i h.server g.server tree b.2.1,
  walk_of_branch net i (Some h.server) (g ∷ hs) tree b.2,
)

pub branch_first : (net : TreeRoutes) (i s : ℕ) → IsTree net i → PassesServer s (hops_in (tree_of net i).nodes) → tree_server_before s (tree_of net i).nodes ≡ None
    → first_server (route_of (flat net) i).hops ≡ s
branch_first net i s tree passes free = elim (first_or_hangs (tree_of net i).nodes s tree.hangs passes) [
  | inl first ↦ ap first_server (hops_are net i) ∙ first
  | inr on ↦ let (a, e) = on in absurd (none_some a (sym free ∙ e))
]
  where
    none_some : (a : ℕ) → None ≡ Some a → ⊥
    none_some a e = cc
