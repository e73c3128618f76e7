-- At a port no more groups of spots come together than there are links, for no link has a port twice.
use Rattle.std.proofs.Common.{◌≡◌, ℕ, zero, suc, ◌<◌, ◌≤◌, ◌+◌, ◌==◌, ◌&&◌, Bool, true, false, Option, Some, None, List, [], ◌∷◌, ◌++◌, length, nat_lt, refl, sym, ◌∙◌, ap, subst, arith, inl, inr, length-append, append-nil, append_assoc}
use Rattle.std.specs.Prelude.{slice_get}
use Rattle.std.proofs.lemmas.Bool.{cases_eq, cases_lt}
use Rattle.std.proofs.lemmas.Bool.Decides.{nat_tests}
use Rattle.std.proofs.lemmas.List.{get_or_append_left, get_or_at}
use Rattle.std.proofs.lemmas.Option.{slice_get_within, get_or_from_slice_get, slice_get_cases}
use Rattle.arrival_lines.specs.declared.grid.Line.{Line}
use Rattle.tree_network.specs.Networks.{node_at, IsLink, IsNetwork}
use Rattle.tree_network.specs.declared.network.Link.{Link}
use Rattle.tree_network.specs.declared.network.Network.{Network}
use Rattle.tree_network.specs.declared.spots.Spot.{Spot}
use Rattle.tree_network.specs.Spots.{no_spot, spot_at, spot_of, spots_in, spots_below, spots_of}
use Rattle.tree_network.specs.Lists.{those}
use Rattle.tree_network.proofs.Those.{those_zero, those_same, length_more, length_split, one_if, some_if_any}
use Rattle.tree_network.proofs.SpotLists.{in_zero, in_more, below_zero, below_more}
use Rattle.tree_bounds.specs.Groups.{group_list, groups_at, is_in_group, spots_in_group}

test_on : (a b : ℕ) → a < b → nat_lt a b ≡ true
test_on a b h = grind (arith, nat_tests)

test_off : (a b : ℕ) → b ≤ a → nat_lt a b ≡ false
test_off a b h = grind (arith, nat_tests)

same_on : (a b : ℕ) → a ≡ b → (a == b) ≡ true
same_on a b e = grind (arith, nat_tests)

same_off : (a b : ℕ) → (a ≡ b → ⊥) → (a == b) ≡ false
same_off a b e = grind (arith, nat_tests)

-- ---- how many pass a test
fewer : (p q : ℕ → Bool) (n : ℕ) → ((k : ℕ) → k < n → one_if (p k) ≤ one_if (q k)) → length (those p n) ≤ length (those q n)
fewer p q zero h = let z = those_zero p in rw z (omega arith)
fewer p q (suc n) h =
    let a = length_more p n in let b = length_more q n in
    let rest = fewer p q n (λ k lt. h k (omega arith)) in
    let one = h n (omega arith) in
    omega (arith, a, b, rest, one)

at_most_one : (p : ℕ → Bool) (n : ℕ) → ((a b : ℕ) → a < b → b < n → p a ≡ true → p b ≡ true → ⊥) → length (those p n) ≤ 1
at_most_one p zero h = let z = those_zero p in rw z (omega arith)
at_most_one p (suc n) h = by_last (at_most_one p n (λ a b lt below. h a b lt (omega (arith, below)))) (p n) refl
  where
    by_last : length (those p n) ≤ 1 → (b : Bool) → p n ≡ b → length (those p (suc n)) ≤ 1
    by_last rest false e =
        let more = length_more p n in
        let none : one_if (p n) ≡ 0 = ap one_if e in
        omega (arith, more, none, rest)
    by_last rest true e =
        let more = length_more p n in
        let one : one_if (p n) ≡ 1 = ap one_if e in
        elim (cases_lt 0 (length (those p n))) [
          | inl some ↦ let found = some_if_any p n some in absurd (h found.0 n found.1 (omega arith) found.2 e)
          | inr none ↦ omega (arith, more, one, none)
        ]

-- ---- spots at a port
abbrev is_at : List Spot → ℕ → ℕ → Bool
is_at spots s n = (spot_at spots n).port == s

abbrev count_here : List Spot → ℕ → ℕ
count_here spots s = length (those (is_at spots s) (length spots))

here_push : (spots : List Spot) (spot : Spot) (s : ℕ) → count_here (spots ++ spot ∷ []) s ≡ count_here spots s + one_if (spot.port == s)
here_push spots spot s =
    let all = spots ++ spot ∷ [] in
    let count : length all ≡ suc (length spots) = let e = length-append spots (spot ∷ []) in omega (arith, e) in
    ap (λ n. length (those (is_at all s) n)) count ∙ length_more (is_at all s) (length spots)
    ∙ ap (λ l. length l + one_if (is_at all s (length spots)))
    (those_same (is_at all s) (is_at spots s) (length spots) (λ k lt. ap (λ x. x.port == s) (get_or_append_left spots (spot ∷ []) no_spot k lt)))
    ∙ ap (λ x. count_here spots s + one_if (x.port == s)) (get_or_at spots spot [] no_spot (length spots) refl)

here_link : (xs : List Spot) (i first : ℕ) (link : Link) (s m : ℕ)
    → count_here (xs ++ spots_in i first link m) s ≡ count_here xs s + length (those (λ place. (node_at link place).port == s) m)
here_link xs i first link s zero =
    let none = those_zero (λ place. (node_at link place).port == s) in
    let same = ap (λ l. count_here (xs ++ l) s) (in_zero i first link) ∙ ap (λ l. count_here l s) (append-nil xs) in
    let nothing = ap length none in
    omega (arith, same, nothing)
here_link xs i first link s (suc m) =
    let next : m + 1 ≡ suc m = omega arith in
    let split = ap (λ k. count_here (xs ++ spots_in i first link k) s) (sym next) ∙ ap (λ l. count_here (xs ++ l) s) (in_more i first link m)
    ∙ ap (λ l. count_here l s) (sym (append_assoc xs (spots_in i first link m) (spot_of i first link m ∷ []))) in
    let push = here_push (xs ++ spots_in i first link m) (spot_of i first link m) s in
    let rest = here_link xs i first link s m in
    let more = length_more (λ place. (node_at link place).port == s) m in
    omega (arith, split, push, rest, more)

here_below : (net : Network) (s i : ℕ) → IsNetwork net → i ≤ length net.links.items → count_here (spots_below net i) s ≤ i
here_below net s zero w h =
    let none = ap (λ xs. count_here xs s) (below_zero net) in
    let nothing = ap length (those_zero (is_at [] s)) in
    omega (arith, none, nothing)
here_below net s (suc i) w h = one_more (here_below net s i w (omega (arith, h))) (slice_get net.links.items i) refl
  where
    one_more : count_here (spots_below net i) s ≤ i → (o : Option Link) → slice_get net.links.items i ≡ o → count_here (spots_below net (suc i)) s ≤ suc i
    one_more rest None e =
        let past = slice_get_cases net.links.items i in
        elim past.1 [
          | inl found ↦ absurd (let f : None ≡ Some found.0 = sym e ∙ found.2 in cc)
          | inr over ↦ absurd (omega (arith, over.0, h))
        ]
    one_more rest (Some link) e =
        let L : Link → Type 0 = λ l. IsLink net l in
        let inside = slice_get_within net.links.items i link e in
        let l = subst L (get_or_from_slice_get net.links.items i link link e) (w.links i link inside) in
        let next : i + 1 ≡ suc i = omega arith in
        let split = ap (λ k. count_here (spots_below net k) s) (sym next) ∙ ap (λ xs. count_here xs s) (below_more net i link e) in
        let its = here_link (spots_below net i) i (length (spots_below net i)) link s (length link.nodes.items) in
        let one = at_most_one (λ place. (node_at link place).port == s) (length link.nodes.items)
        (λ a b lt below at_a at_b. l.once a b lt below (port_of a at_a ∙ sym (port_of b at_b))) in
        omega (arith, split, its, rest, one)
      where
        port_of : (place : ℕ) → ((node_at link place).port == s) ≡ true → (node_at link place).port ≡ s
        port_of place e = grind (arith, nat_tests)

pub here_few : (net : Network) (s : ℕ) → IsNetwork net → count_here (spots_of net) s ≤ 16384
here_few net s w =
    let few = here_below net s (length net.links.items) w (omega arith) in
    omega (arith, few, w.few_links)

-- ---- by queues
abbrev is_in_queue : List Spot → (s q n : ℕ) → Bool
is_in_queue spots s q n = ((spot_at spots n).port == s) && ((spot_at spots n).queue == q)

abbrev pub count_queue : List Spot → (s q : ℕ) → ℕ
count_queue spots s q = length (those (is_in_queue spots s q) (length spots))

abbrev is_in_queues : List Spot → (s q n : ℕ) → Bool
is_in_queues spots s q n = nat_lt (spot_at spots n).queue q && ((spot_at spots n).port == s)

-- of the first queues
abbrev pub count_queues : List Spot → (s q : ℕ) → ℕ
count_queues spots s q = length (those (is_in_queues spots s q) (length spots))

table : (x k : ℕ) (u : Bool) → one_if (nat_lt x (suc k) && u) ≡ one_if (nat_lt x k && u) + one_if (u && (x == k))
table x k u =
    elim (cases_lt x k) [
      | inl less ↦
          let a = test_on x (suc k) (omega (arith, less)) in let b = test_on x k less in let c = same_off x k (λ e. omega (arith, e, less)) in
          rw (a, b, c) (yes u)
      | inr not_less ↦ elim (cases_eq x k) [
        | inl same ↦
            let a = test_on x (suc k) (omega (arith, same)) in let b = test_off x k (omega (arith, not_less)) in let c = same_on x k same in
            rw (a, b, c) (here u)
        | inr other ↦
            let a = test_off x (suc k) (omega (arith, not_less, other)) in let b = test_off x k (omega (arith, not_less)) in let c = same_off x k other in
            rw (a, b, c) (no u)
      ]
    ]
  where
    yes : (u : Bool) → one_if u ≡ one_if u + one_if (u && false)
    yes true = refl
    yes false = refl

    here : (u : Bool) → one_if u ≡ 0 + one_if (u && true)
    here true = refl
    here false = refl

    no : (u : Bool) → 0 ≡ 0 + one_if (u && false)
    no true = refl
    no false = refl

pub queues_more : (spots : List Spot) (s q : ℕ) → count_queues spots s (suc q) ≡ count_queues spots s q + count_queue spots s q
queues_more spots s q =
    length_split (is_in_queues spots s (suc q)) (is_in_queues spots s q) (is_in_queue spots s q) (length spots)
    (λ n lt. table (spot_at spots n).queue q ((spot_at spots n).port == s))

no_more : (a b : Bool) → one_if (a && b) ≤ one_if b
no_more true true = omega arith
no_more true false = omega arith
no_more false true = omega arith
no_more false false = omega arith

pub queues_few : (net : Network) (s q : ℕ) → IsNetwork net → count_queues (spots_of net) s q ≤ 16384
queues_few net s q w =
    let spots = spots_of net in
    let few = here_few net s w in
    let all = fewer (is_in_queues spots s q) (is_at spots s) (length spots) (λ n lt. no_more (nat_lt (spot_at spots n).queue q) (is_at spots s n)) in
    omega (arith, few, all)

-- ---- groups
one_list : (spots : List Spot) (line : ℕ → Option Line) (k : ℕ) (numbers : List ℕ) → length (group_list spots line k numbers) ≤ length numbers
one_list spots line k [] = omega arith
one_list spots line k (n ∷ numbers) = omega arith

abbrev is_before : List Spot → (s q k n : ℕ) → Bool
is_before spots s q k n = nat_lt (spot_at spots n).source k && is_in_queue spots s q n

groups_before : (spots : List Spot) (line : ℕ → Option Line) (s q k : ℕ)
    → length (groups_at spots line s q k) ≤ length (those (is_before spots s q k) (length spots))
unfolding groups_at
groups_before spots line s q zero = omega arith
groups_before spots line s q (suc k) =
    let count = length-append (groups_at spots line s q k) (group_list spots line k (spots_in_group spots s q k)) in
    let last = one_list spots line k (spots_in_group spots s q k) in
    let rest = groups_before spots line s q k in
    let split = length_split (is_before spots s q (suc k)) (is_before spots s q k) (is_in_group spots s q k) (length spots)
    (λ n lt. table (spot_at spots n).source k (is_in_queue spots s q n)
    ∙ ap (λ j. one_if (is_before spots s q k n) + j) (turned ((spot_at spots n).source == k) ((spot_at spots n).port == s) ((spot_at spots n).queue == q))) in
    omega (arith, count, last, rest, split)
  where
    turned : (a u v : Bool) → one_if ((u && v) && a) ≡ one_if ((a && u) && v)
    turned true true true = refl
    turned true true false = refl
    turned true false v = refl
    turned false true true = refl
    turned false true false = refl
    turned false false v = refl

pub groups_few : (spots : List Spot) (line : ℕ → Option Line) (s q k : ℕ) → length (groups_at spots line s q k) ≤ count_queue spots s q
groups_few spots line s q k =
    let before = groups_before spots line s q k in
    let all = fewer (is_before spots s q k) (is_in_queue spots s q) (length spots) (λ n lt. no_more (nat_lt (spot_at spots n).source k) (is_in_queue spots s q n)) in
    omega (arith, before, all)
