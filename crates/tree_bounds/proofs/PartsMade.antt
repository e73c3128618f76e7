-- Groups made parts.
use Rattle.std.proofs.Common.{◌≡◌, ℕ, zero, suc, ◌<◌, ◌≤◌, ◌+◌, ◌*◌, ◌^◌, ◌&&◌, max, Bool, true, false, Option, Some, None, List, [], ◌∷◌, ◌++◌, inl, inr, length, get_or, map, nat_lt, take, if◌then◌else◌, refl, sym, ◌∙◌, ap, arith}
use Rattle.std.specs.List.{sum_by, list_all}
use Rattle.std.proofs.lemmas.Bool.Decides.{nat_tests}
use Rattle.std.proofs.lemmas.List.{take_more}
use Rattle.std.proofs.lemmas.List.Sums.{sum_by-cons}
use Rattle.arrival_lines.specs.declared.grid.Part.{Part}
use Rattle.tree_network.specs.declared.network.Network.{Network}
use Rattle.tree_bounds.specs.Groups.{part_of, parts_in, are_bounded, sum_burst, sum_rate, longest_group}
use Rattle.port_bounds.specs.Incoming.{Incoming}
use Rattle.tree_bounds.specs.Parts.{IsNoPart}
use Rattle.tree_bounds.specs.declared.groups.Group.{Group}

-- ---- one that is none
unknown_of : (groups : List Group) (i : ℕ) (d : Group) → i < length groups → (get_or groups i d).known ≡ false → list_all (λ g. g.known) groups ≡ false
unknown_of [] i d h e = absurd (omega (arith, h))
unknown_of (g ∷ groups) zero d h e = ap (λ b. b && list_all (λ w. w.known) groups) e
unknown_of (g ∷ groups) (suc i) d h e = ap (λ b. g.known && b) (unknown_of groups i d (omega (arith, h)) e) ∙ never g.known
  where
    never : (b : Bool) → (b && false) ≡ false
    never true = refl
    never false = refl

burst_in_sum : (net : Network) (groups : List Group) (i : ℕ) (d : Group) → i < length groups → (get_or groups i d).burst ≤ sum_by sum_burst (map (part_of net) groups)
burst_in_sum net [] i d h = absurd (omega (arith, h))
burst_in_sum net (g ∷ groups) zero d h =
    let both = sum_by-cons sum_burst (part_of net g) (map (part_of net) groups) in
    omega (arith, both)
burst_in_sum net (g ∷ groups) (suc i) d h =
    let rest = burst_in_sum net groups i d (omega (arith, h)) in
    let both = sum_by-cons sum_burst (part_of net g) (map (part_of net) groups) in
    omega (arith, rest, both)

rate_in_sum : (net : Network) (groups : List Group) (i : ℕ) (d : Group) → i < length groups → (get_or groups i d).rate ≤ sum_by sum_rate (map (part_of net) groups)
rate_in_sum net [] i d h = absurd (omega (arith, h))
rate_in_sum net (g ∷ groups) zero d h =
    let both = sum_by-cons sum_rate (part_of net g) (map (part_of net) groups) in
    omega (arith, both)
rate_in_sum net (g ∷ groups) (suc i) d h =
    let rest = rate_in_sum net groups i d (omega (arith, h)) in
    let both = sum_by-cons sum_rate (part_of net g) (map (part_of net) groups) in
    omega (arith, rest, both)

not_below : (a b : ℕ) → b ≤ a → nat_lt a b ≡ false
not_below a b h = grind (arith, nat_tests)

none_by : (net : Network) (groups : List Group) → (list_all (λ g. g.known) groups && are_bounded (map (part_of net) groups)) ≡ false → parts_in net groups ≡ None
none_by net groups e = rw e refl

never_and : (b : Bool) → (b && false) ≡ false
never_and true = refl
never_and false = refl

pub no_parts : (net : Network) (groups : List Group) (i : ℕ) (d : Group) → i < length groups → IsNoPart (get_or groups i d) → parts_in net groups ≡ None
no_parts net groups i d h (inl e) =
    none_by net groups (ap (λ b. b && are_bounded (map (part_of net) groups)) (unknown_of groups i d h e))
no_parts net groups i d h (inr (inl e)) =
    let much = burst_in_sum net groups i d h in
    let off = not_below (sum_by sum_burst (map (part_of net) groups)) (2 ^ 58) (omega (arith, much, e)) in
    none_by net groups (ap (λ b. list_all (λ g. g.known) groups && (b && nat_lt (sum_by sum_rate (map (part_of net) groups)) (2 ^ 50))) off
    ∙ never_and (list_all (λ g. g.known) groups))
no_parts net groups i d h (inr (inr e)) =
    let much = rate_in_sum net groups i d h in
    let off = not_below (sum_by sum_rate (map (part_of net) groups)) (2 ^ 50) (omega (arith, much, e)) in
    none_by net groups (ap (λ b. list_all (λ g. g.known) groups && (nat_lt (sum_by sum_burst (map (part_of net) groups)) (2 ^ 58) && b)) off
    ∙ ap (λ b. list_all (λ g. g.known) groups && b) (never_and (nat_lt (sum_by sum_burst (map (part_of net) groups)) (2 ^ 58)))
    ∙ never_and (list_all (λ g. g.known) groups))

-- ---- all of them
pub parts_made : (net : Network) (groups : List Group) (parts : List Part) (b : Bool) → parts ≡ map (part_of net) groups → list_all (λ g. g.known) groups ≡ true
    → b ≡ are_bounded parts → (if b then Some parts else None) ≡ parts_in net groups
parts_made net groups parts b is known e =
    ap (λ t. if t then Some parts else None) e ∙ ap (λ ps. if are_bounded ps then Some ps else None) is
    ∙ ap (λ t. if t && are_bounded (map (part_of net) groups) then Some (map (part_of net) groups) else None) (sym known)

-- ---- one more
longest_push : (groups : List Group) (g : Group) → longest_group (groups ++ g ∷ []) ≡ max (longest_group groups) g.longest
unfolding longest_group
longest_push [] g = omega arith
longest_push (h ∷ groups) g = let e = longest_push groups g in omega (arith, e)

pub longest_more : (groups : List Group) (i longest next : ℕ) (d : Group) → i < length groups → longest ≡ longest_group (take i groups)
    → next ≡ max longest (get_or groups i d).longest → next ≡ longest_group (take (i + 1) groups)
longest_more groups i longest next d h e is =
    is ∙ ap (λ m. max m (get_or groups i d).longest) e
    ∙ sym (ap longest_group (take_more groups i d h) ∙ longest_push (take i groups) (get_or groups i d))

abbrev pub both_fields : Option (List Part) → ℕ → Incoming
both_fields parts longest = record { parts = parts; longest = longest }

pub same_incoming : (a b : Option (List Part)) (l m : ℕ) → a ≡ b → l ≡ m → both_fields a l ≡ both_fields b m
same_incoming a b l m e f =
    ap (λ p. both_fields p l) e ∙ ap (λ n. both_fields b n) f

pub longest_zero : (groups : List Group) → 0 ≡ longest_group (take 0 groups)
unfolding longest_group
longest_zero groups = refl

-- ---- the parts' numbers together
pub record Totals (parts : List Part) (i bursts rates : ℕ) : Type 0 where
  pub burst : bursts ≡ sum_by sum_burst (take i parts)
  pub rate : rates ≡ sum_by sum_rate (take i parts)
  pub few_bursts : bursts ≤ i * 2 ^ 64
  pub few_rates : rates ≤ i * 2 ^ 64
