-- What arrives as stairs: its lines are the parts of the same groups.
use Rattle.std.proofs.Common.{◌≡◌, ℕ, zero, suc, ◌+◌, ◌^◌, ◌&&◌, Bool, true, false, Option, Some, None, List, [], ◌∷◌, ◌++◌, length, map, nat_lt, if◌then◌else◌, refl, sym, ◌∙◌, ap, ap₂, subst, arith, append-nil, length-append, zero-add}
use Rattle.std.specs.Prelude.{is_some}
use Rattle.std.specs.List.{sum_by, list_all}
use Rattle.std.specs.Option.{option_map}
use Rattle.std.proofs.lemmas.List.{map-append}
use Rattle.std.proofs.lemmas.List.Folds.{list_all-append}
use Rattle.std.proofs.lemmas.List.Sums.{sum_by-append, sum_by-cons}
use Rattle.arrival_lines.specs.declared.grid.Line.{Line}
use Rattle.arrival_lines.specs.declared.grid.Part.{Part}
use Rattle.arrival_stairs.specs.BelowLines.{stair_burst, stair_rate, line_parts}
use Rattle.arrival_stairs.specs.Views.{Bunch, bunches}
use Rattle.arrival_stairs.specs.declared.stairs.Bundle.{Bundle}
use Rattle.arrival_stairs.specs.declared.stairs.Stair.{Stair}
use Rattle.arrival_stairs.proofs.OneExcess.{part_by, parts_are}
use Rattle.port_bounds.specs.Incoming.{Incoming}
use Rattle.port_bounds.specs.StairsIncoming.{StairsIn, line_incoming, line_incomings}
use Rattle.tree_network.specs.declared.network.Network.{Network}
use Rattle.tree_network.specs.declared.spots.Spot.{Spot}
use Rattle.tree_network.proofs.Those.{of_both}
use Rattle.tree_bounds.specs.Bunches.{Arriving, stair_list, stairs_among, bunch_of_group, arriving_at, arriving_below, arriving_of}
use Rattle.tree_bounds.specs.Groups.{burst_in, rate_in, longest_of, group_of, spots_in_group, group_list, groups_at, part_of, are_bounded, pace_line, longest_group, incoming_at, incomings_at}
use Rattle.tree_bounds.specs.Lines.{line_of}
use Rattle.tree_bounds.specs.declared.groups.Group.{Group}
use Rattle.tree_bounds.proofs.PartsMade.{both_fields}

-- ---- the lines of a spot's stair
pub among_more : (stair : ℕ → Option Stair) (xs ys : List ℕ) → stairs_among stair (xs ++ ys) ≡ stairs_among stair xs ++ stairs_among stair ys
unfolding stairs_among
among_more stair [] ys = refl
among_more stair (x ∷ xs) ys = by_stair (among_more stair xs ys) (stair x)
  where
    by_stair : stairs_among stair (xs ++ ys) ≡ stairs_among stair xs ++ stairs_among stair ys → (o : Option Stair)
        → stair_list o ++ stairs_among stair (xs ++ ys) ≡ (stair_list o ++ stairs_among stair xs) ++ stairs_among stair ys
    by_stair rest None = rest
    by_stair rest (Some s) = ap (λ (ss : List Stair). s ∷ ss) rest

-- where it is known it has the stair's numbers
pub record HasLine (o : Option Stair) : Type 0 where
  pub burst : sum_by stair_burst (stair_list o) ≡ burst_in (line_of o)
  pub rate : sum_by stair_rate (stair_list o) ≡ rate_in (line_of o)

abbrev own_line : Stair → Line
own_line s = record { burst = stair_burst s; rate = stair_rate s }

abbrev line_if : Stair → Bool → Option Line
line_if s b = if b then Some (own_line s) else None

line_known : (s : Stair) → is_some (line_of (Some s)) ≡ true → line_of (Some s) ≡ Some (own_line s)
line_known s e = by_test (nat_lt (stair_burst s) (2 ^ 58) && nat_lt (stair_rate s) (2 ^ 64)) e
  where
    by_test : (b : Bool) → is_some (line_if s b) ≡ true → line_if s b ≡ Some (own_line s)
    by_test true f = refl
    by_test false f = absurd (let g : false ≡ true = f in cc)

pub line_has : (o : Option Stair) → is_some (line_of o) ≡ true → HasLine o
line_has None e = absurd (let f : false ≡ true = e in cc)
line_has (Some s) e =
    let is = line_known s e in
    record {
      burst = zero-add (stair_burst s) ∙ sym (ap burst_in is);
      rate = zero-add (stair_rate s) ∙ sym (ap rate_in is);
    }

pub burst_among : (stair : ℕ → Option Stair) (numbers : List ℕ) → list_all (λ n. is_some (line_of (stair n))) numbers ≡ true
    → sum_by stair_burst (stairs_among stair numbers) ≡ sum_by (λ n. burst_in (line_of (stair n))) numbers
unfolding stairs_among
burst_among stair [] e = refl
burst_among stair (n ∷ numbers) e =
    let both = of_both (is_some (line_of (stair n))) (list_all (λ m. is_some (line_of (stair m))) numbers) e in
    let one = (line_has (stair n) both.0).burst in
    let rest = burst_among stair numbers both.1 in
    let all = sum_by-append stair_burst (stair_list (stair n)) (stairs_among stair numbers) in
    let cons = sum_by-cons (λ m. burst_in (line_of (stair m))) n numbers in
    omega (arith, one, rest, all, cons)

pub rate_among : (stair : ℕ → Option Stair) (numbers : List ℕ) → list_all (λ n. is_some (line_of (stair n))) numbers ≡ true
    → sum_by stair_rate (stairs_among stair numbers) ≡ sum_by (λ n. rate_in (line_of (stair n))) numbers
unfolding stairs_among
rate_among stair [] e = refl
rate_among stair (n ∷ numbers) e =
    let both = of_both (is_some (line_of (stair n))) (list_all (λ m. is_some (line_of (stair m))) numbers) e in
    let one = (line_has (stair n) both.0).rate in
    let rest = rate_among stair numbers both.1 in
    let all = sum_by-append stair_rate (stair_list (stair n)) (stairs_among stair numbers) in
    let cons = sum_by-cons (λ m. rate_in (line_of (stair m))) n numbers in
    omega (arith, one, rest, all, cons)

-- ---- of groups
module _ (net : Network) (spots : List Spot) (stair : ℕ → Option Stair) (s q : ℕ) where
  abbrev line : ℕ → Option Line
  line n = line_of (stair n)

  abbrev bunch : Group → Bunch
  bunch = bunch_of_group net spots stair s q

  part_is : (k : ℕ) → (group_of spots line k (spots_in_group spots s q k)).known ≡ true
      → part_by (bunch (group_of spots line k (spots_in_group spots s q k))) ≡ part_of net (group_of spots line k (spots_in_group spots s q k))
  part_is k known =
      let numbers = spots_in_group spots s q k in
      let pace = pace_line net (longest_of spots numbers) k in
      let P : ℕ → ℕ → Part = λ b r. record { sum = record { burst = b; rate = r }; pace = pace } in
      ap₂ P (burst_among stair numbers known) (rate_among stair numbers known)

  -- the parts of the first sources
  parts_same : (k : ℕ) → list_all (λ g. g.known) (groups_at spots line s q k) ≡ true
      → map part_by (map bunch (groups_at spots line s q k)) ≡ map (part_of net) (groups_at spots line s q k)
  unfolding groups_at
  parts_same zero all = refl
  parts_same (suc k) all = by_spots (λ h. parts_same k h) (spots_in_group spots s q k) refl
    where
      Before : Type 0
      Before = list_all (λ g. g.known) (groups_at spots line s q k) ≡ true
          → map part_by (map bunch (groups_at spots line s q k)) ≡ map (part_of net) (groups_at spots line s q k)

      Goal : List ℕ → Type 0
      Goal l = map part_by (map bunch (groups_at spots line s q k ++ group_list spots line k l)) ≡ map (part_of net) (groups_at spots line s q k ++ group_list spots line k l)

      none : Before → list_all (λ g. g.known) (groups_at spots line s q k ++ []) ≡ true → Goal []
      none before h =
          let plain = append-nil (groups_at spots line s q k) in
          let P : List Group → Type 0 = λ gs. map part_by (map bunch gs) ≡ map (part_of net) gs in
          subst P (sym plain) (before (sym (ap (list_all (λ g. g.known)) plain) ∙ h))

      some : Before → (m : ℕ) (ms : List ℕ) → spots_in_group spots s q k ≡ m ∷ ms
          → list_all (λ g. g.known) (groups_at spots line s q k ++ group_of spots line k (m ∷ ms) ∷ []) ≡ true → Goal (m ∷ ms)
      some before m ms e h =
          let gs = groups_at spots line s q k in
          let g = group_of spots line k (m ∷ ms) in
          let both = of_both (list_all (λ w. w.known) gs) (list_all (λ w. w.known) (g ∷ [])) (sym (list_all-append (λ w. w.known) gs (g ∷ [])) ∙ h) in
          let own = of_both g.known true both.1 in
          let known = ap (λ l. (group_of spots line k l).known) e ∙ own.0 in
          let one = ap (λ l. part_by (bunch (group_of spots line k l))) (sym e) ∙ part_is k known ∙ ap (λ l. part_of net (group_of spots line k l)) e in
          ap (map part_by) (map-append bunch gs (g ∷ []))
          ∙ map-append part_by (map bunch gs) (bunch g ∷ [])
          ∙ ap₂ (λ ps p. ps ++ p ∷ []) (before both.0) one
          ∙ sym (map-append (part_of net) gs (g ∷ []))

      by_spots : Before → (l : List ℕ) → spots_in_group spots s q k ≡ l → Goal (spots_in_group spots s q k)
      by_spots before [] e =
          let P : List ℕ → Type 0 = λ l. list_all (λ g. g.known) (groups_at spots line s q k ++ group_list spots line k l) ≡ true in
          subst Goal (sym e) (none before (subst P e all))
      by_spots before (m ∷ ms) e =
          let P : List ℕ → Type 0 = λ l. list_all (λ g. g.known) (groups_at spots line s q k ++ group_list spots line k l) ≡ true in
          subst Goal (sym e) (some before m ms e (subst P e all))

  abbrev pub all_groups : List Group
  all_groups = groups_at spots line s q (length net.ports.items + 1)

  pub lines_known : list_all (λ g. g.known) all_groups ≡ true → map part_by (map bunch all_groups) ≡ map (part_of net) all_groups
  lines_known known = parts_same (length net.ports.items + 1) known

-- ---- of queues
abbrev pub line_arriving : Arriving → Incoming
line_arriving a = record { parts = option_map (map part_by) a.bunches; longest = a.longest }

line_is : (s : StairsIn) → line_incoming s ≡ line_arriving (arriving_of s)
line_is s = ap (λ (parts : Option (List Part)). record { parts = parts; longest = s.longest }) (by_bundles s.bundles)
  where
    by_bundles : (o : Option (List Bundle)) → option_map line_parts o ≡ option_map (map part_by) (option_map bunches o)
    by_bundles None = refl
    by_bundles (Some bundles) = ap (λ (ps : List Part). Some ps) (parts_are bundles)

pub lines_are : (queues : List StairsIn) → line_incomings queues ≡ map line_arriving (map arriving_of queues)
lines_are [] = refl
lines_are (s ∷ ss) = ap₂ (λ (x : Incoming) (xs : List Incoming). x ∷ xs) (line_is s) (lines_are ss)

module _ (net : Network) (spots : List Spot) (stair : ℕ → Option Stair) (s : ℕ) where
  queue_lines : (q : ℕ) → line_arriving (arriving_at net spots stair s q) ≡ incoming_at net spots (λ n. line_of (stair n)) s q
  queue_lines q = by_test (list_all (λ g. g.known) gs) (are_bounded (map (part_of net) gs)) refl refl
    where
      gs : List Group
      gs = groups_at spots (λ n. line_of (stair n)) s q (length net.ports.items + 1)

      ws : List Bunch
      ws = map (bunch_of_group net spots stair s q) gs

      Same : Bool → Type 0
      Same b = both_fields (option_map (map part_by) (option_map (λ (parts : List Part). ws) (if b then Some (map (part_of net) gs) else None))) (longest_group gs)
          ≡ both_fields (if b then Some (map (part_of net) gs) else None) (longest_group gs)

      by_test : (k b : Bool) → list_all (λ g. g.known) gs ≡ k → are_bounded (map (part_of net) gs) ≡ b → Same (list_all (λ g. g.known) gs && are_bounded (map (part_of net) gs))
      by_test true true e f =
          let I : List Part → Incoming = λ ps. record { parts = Some ps; longest = longest_group gs } in
          rw (e, f) (ap I (lines_known net spots stair s q e))
      by_test true false e f = rw (e, f) refl
      by_test false b e f = rw e refl

  all_lines : (q : ℕ) → map line_arriving (arriving_below net spots stair s q) ≡ incomings_at net spots (λ n. line_of (stair n)) s q
  unfolding arriving_below incomings_at
  all_lines zero = refl
  all_lines (suc q) =
      map-append line_arriving (arriving_below net spots stair s q) (arriving_at net spots stair s q ∷ [])
      ∙ ap₂ (λ (xs : List Incoming) (x : Incoming). xs ++ x ∷ []) (all_lines q) (queue_lines q)

  pub lines_of_coming : (count : ℕ) (queues : List StairsIn) → map arriving_of queues ≡ arriving_below net spots stair s count
      → line_incomings queues ≡ incomings_at net spots (λ n. line_of (stair n)) s count
  lines_of_coming count queues are = lines_are queues ∙ ap (map line_arriving) are ∙ all_lines count

-- ---- how many
pub arriving_length : (net : Network) (spots : List Spot) (stair : ℕ → Option Stair) (s q : ℕ) → length (arriving_below net spots stair s q) ≡ q
unfolding arriving_below
arriving_length net spots stair s zero = refl
arriving_length net spots stair s (suc q) =
    let count = length-append (arriving_below net spots stair s q) (arriving_at net spots stair s q ∷ []) in
    let few = arriving_length net spots stair s q in
    omega (arith, count, few)
