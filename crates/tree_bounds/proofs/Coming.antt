-- What arrives at a port as the code lists it.
use Rattle.std.proofs.Common.{◌≡◌, ◌≢◌, ℕ, suc, ◌<◌, ◌+◌, Bool, Option, Some, None, List, [], ◌∷◌, ◌++◌, cond, filter, length, get_or, map, take, drop, ◌-◌, refl, sym, ◌∙◌, ap, ap₂, subst, arith, append-nil}
use Rattle.std.specs.List.{sum_by}
use Rattle.std.specs.Option.{option_map}
use Rattle.std.specs.declared.vec.Vec.{Vec}
use Rattle.std.specs.declared.alloc.Global.{Global}
use Rattle.std.proofs.lemmas.List.{take_more, map-append, length-map}
use Rattle.std.proofs.lemmas.List.Elements.{filter_more}
use Rattle.arrival_lines.specs.declared.grid.Line.{Line}
use Rattle.arrival_lines.specs.declared.grid.Part.{Part}
use Rattle.arrival_stairs.specs.Views.{Bunch}
use Rattle.arrival_stairs.specs.declared.stairs.Stair.{Stair}
use Rattle.port_bounds.specs.Incoming.{Incoming, incoming, incoming_of}
use Rattle.port_bounds.specs.declared.arrivals.Arrivals.{Arrivals}
use Rattle.port_bounds.specs.StairsIncoming.{stairs_of, stairs_in}
use Rattle.port_bounds.specs.declared.stair_arrivals.StairArrivals.{StairArrivals}
use Rattle.tree_network.specs.declared.network.Network.{Network}
use Rattle.tree_network.specs.declared.spots.Spot.{Spot}
use Rattle.tree_network.specs.Lists.{spots_at_port}
use Rattle.tree_network.specs.Plans.{IsPlanOf}
use Rattle.tree_network.specs.Spots.{spot_at, spots_of}
use Rattle.tree_network.specs.declared.order.Plan.{Plan}
use Rattle.tree_network.proofs.ListSets.{list_of}
use Rattle.tree_network.proofs.Those.{eq_true, eq_false}
use Rattle.tree_bounds.specs.Bunches.{Arriving, stair_list, stairs_among, bunch_of_group, arriving_of, arriving_of_groups, arriving_at, arriving_below}
use Rattle.tree_bounds.specs.Coming.{IsComing, is_of_queue}
use Rattle.tree_bounds.specs.Grouping.{AreInGroups, grouped}
use Rattle.tree_bounds.specs.Groups.{groups_at, pace_line, parts_in, incoming_of_groups, incoming_at, incomings_at}
use Rattle.tree_bounds.specs.Lines.{line_of}
use Rattle.tree_bounds.specs.declared.groups.Group.{Group}
use Rattle.tree_bounds.proofs.Bunched.{among_more, arriving_length}
use Rattle.tree_bounds.proofs.Grouped.{grouped_at, in_groups, in_queue, run_of, spots_in_queue}

-- ---- the spots of a queue
pub kept : (spots : List Spot) (q : ℕ) (numbers : List ℕ) (i : ℕ) (old new : List ℕ) → i < length numbers → (spot_at spots (get_or numbers i 0)).queue ≡ q
    → old ≡ filter (is_of_queue spots q) (take i numbers) → new ≡ old ++ get_or numbers i 0 ∷ [] → new ≡ filter (is_of_queue spots q) (take (i + 1) numbers)
kept spots q numbers i old new h own is more =
    let n = get_or numbers i 0 in
    more ∙ ap (λ (l : List ℕ). l ++ n ∷ []) is
    ∙ sym (filter_more (is_of_queue spots q) numbers i 0 h
    ∙ ap (λ (b : Bool). filter (is_of_queue spots q) (take i numbers) ++ cond b (n ∷ []) []) (eq_true (spot_at spots n).queue q own))

pub left_out : (spots : List Spot) (q : ℕ) (numbers : List ℕ) (i : ℕ) (old : List ℕ) → i < length numbers → (spot_at spots (get_or numbers i 0)).queue ≢ q
    → old ≡ filter (is_of_queue spots q) (take i numbers) → old ≡ filter (is_of_queue spots q) (take (i + 1) numbers)
left_out spots q numbers i old h other is =
    let n = get_or numbers i 0 in
    is ∙ sym (filter_more (is_of_queue spots q) numbers i 0 h
    ∙ ap (λ (b : Bool). filter (is_of_queue spots q) (take i numbers) ++ cond b (n ∷ []) []) (eq_false (spot_at spots n).queue q other)
    ∙ append-nil (filter (is_of_queue spots q) (take i numbers)))

-- ---- the stairs of a list of spots
pub none_among : (stair : ℕ → Option Stair) (numbers : List ℕ) → [] ≡ stairs_among stair (take 0 numbers)
unfolding stairs_among
none_among stair numbers = refl

pub one_among : (stair : ℕ → Option Stair) (numbers : List ℕ) (i d : ℕ) (old new : List Stair) → i < length numbers
    → old ≡ stairs_among stair (take i numbers) → new ≡ old ++ stair_list (stair (get_or numbers i d)) → new ≡ stairs_among stair (take (i + 1) numbers)
unfolding stairs_among
one_among stair numbers i d old new h is more =
    let n = get_or numbers i d in
    more ∙ ap (λ (l : List Stair). l ++ stair_list (stair n)) is
    ∙ ap (λ (l : List Stair). stairs_among stair (take i numbers) ++ l) (sym (append-nil (stair_list (stair n))))
    ∙ sym (ap (stairs_among stair) (take_more numbers i d h) ∙ among_more stair (take i numbers) (n ∷ []))

-- ---- bunches
pub bunches_more : (f : Group → Bunch) (groups : List Group) (i : ℕ) (d : Group) (old new : List Bunch) (last : Bunch) → i < length groups
    → new ≡ old ++ last ∷ [] → old ≡ map f (take i groups) → last ≡ f (get_or groups i d) → new ≡ map f (take (i + 1) groups)
bunches_more f groups i d old new last h e is own =
    e ∙ ap₂ (λ (ws : List Bunch) (w : Bunch). ws ++ w ∷ []) is own
    ∙ sym (ap (map f) (take_more groups i d h) ∙ map-append f (take i groups) (get_or groups i d ∷ []))

-- those of the group whose spots begin there
pub run_bunch : (net : Network) (stair : ℕ → Option Stair) (s q : ℕ) (groups : List Group) (numbers : List ℕ) (i : ℕ) (d : Group) (first : ℕ) → i < length groups
    → first ≡ sum_by (λ g. g.count) (take i groups) → AreInGroups (spots_of net) s q groups numbers
    → record {
      stairs = stairs_among stair (take (first + (get_or groups i d).count - first) (drop first numbers));
      pace = pace_line net (get_or groups i d).longest (get_or groups i d).source;
    } ≡ bunch_of_group net (spots_of net) stair s q (get_or groups i d)
run_bunch net stair s q groups numbers i d first h e are =
    let g = get_or groups i d in
    let all : first + g.count - first ≡ g.count = omega arith in
    let B : List ℕ → Bunch = λ ns. record { stairs = stairs_among stair ns; pace = pace_line net g.longest g.source } in
    ap₂ (λ (m k : ℕ). B (take m (drop k numbers))) all e ∙ ap B (run_of (spots_of net) s q groups numbers i d are h)

-- ---- the spots of a queue and their groups, as the code lists them
pub at_port : (net : Network) (plan : Plan) (s : ℕ) (v : Vec ℕ Global) (numbers : List ℕ) → IsPlanOf net plan → s < length net.ports.items → v ≡ get_or plan.at.items s v
    → numbers ≡ v.items → numbers ≡ spots_at_port (spots_of net) s (length net.ports.items + 1)
at_port net plan s v numbers is h at e =
    let count = length-map plan.at.items (λ w. w.items) in
    e ∙ sym (list_of plan.at.items s v (omega (arith, count, is.at.count, h)) at) ∙ is.at.each s h

-- those of a queue, by the spots and the numbers that the code reads of its plan
pub queue_spots : (net : Network) (plan : Plan) (s q : ℕ) (spots : List Spot) (v : Vec ℕ Global) (numbers found : List ℕ) → IsPlanOf net plan → s < length net.ports.items
    → v ≡ get_or plan.at.items s v → numbers ≡ v.items → spots ≡ plan.spots.items → found ≡ filter (is_of_queue spots q) numbers
    → found ≡ spots_in_queue (spots_of net) s q (length net.ports.items + 1)
queue_spots net plan s q spots v numbers found is h at e same f =
    let listed = at_port net plan s v numbers is h at e in
    f ∙ ap₂ (λ (ss : List Spot) (ns : List ℕ). filter (is_of_queue ss q) ns) (same ∙ is.spots) listed ∙ in_queue (spots_of net) s q (length net.ports.items + 1)

pub queue_groups : (net : Network) (plan : Plan) (stair : ℕ → Option Stair) (s q : ℕ) (spots : List Spot) (v : Vec ℕ Global) (numbers found : List ℕ)
    (spots_again : List Spot) (found_again : List ℕ) (groups : List Group) → IsPlanOf net plan → s < length net.ports.items
    → v ≡ get_or plan.at.items s v → numbers ≡ v.items → spots ≡ plan.spots.items → found ≡ filter (is_of_queue spots q) numbers
    → spots_again ≡ plan.spots.items → found_again ≡ found → groups ≡ grouped spots_again (λ n. line_of (stair n)) found_again
    → groups ≡ groups_at (spots_of net) (λ n. line_of (stair n)) s q (length net.ports.items + 1)
queue_groups net plan stair s q spots v numbers found spots_again found_again groups is h at e same f again found_is g =
    let own = found_is ∙ queue_spots net plan s q spots v numbers found is h at e same f in
    g ∙ ap₂ (λ (ss : List Spot) (ns : List ℕ). grouped ss (λ n. line_of (stair n)) ns) (again ∙ is.spots) own
    ∙ grouped_at (spots_of net) (λ n. line_of (stair n)) s q (length net.ports.items + 1)

pub are_in_groups : (net : Network) (line : ℕ → Option Line) (s q : ℕ) (groups : List Group) (numbers : List ℕ)
    → groups ≡ groups_at (spots_of net) line s q (length net.ports.items + 1) → numbers ≡ spots_in_queue (spots_of net) s q (length net.ports.items + 1)
    → AreInGroups (spots_of net) s q groups numbers
are_in_groups net line s q groups numbers e f =
    let G : List Group → Type 0 = λ gs. AreInGroups (spots_of net) s q gs numbers in
    let N : List ℕ → Type 0 = λ ns. AreInGroups (spots_of net) s q (groups_at (spots_of net) line s q (length net.ports.items + 1)) ns in
    subst G (sym e) (subst N (sym f) (in_groups (spots_of net) line s q (length net.ports.items + 1)))

-- ---- a queue
abbrev arriving : Option (List Bunch) → ℕ → Arriving
arriving ws longest = record { bunches = ws; longest = longest }

pub none_arrives : (net : Network) (spots : List Spot) (stair : ℕ → Option Stair) (s q : ℕ) (groups : List Group) (lines : Arrivals)
    → incoming_of lines ≡ incoming_of_groups net groups → lines.parts ≡ None
    → arriving None lines.longest ≡ arriving_of_groups net spots stair s q groups
none_arrives net spots stair s q groups lines is none =
    let ws = map (bunch_of_group net spots stair s q) groups in
    let e : None ≡ parts_in net groups = ap (option_map (λ v. v.items)) (sym none) ∙ ap (λ (x : Incoming). x.parts) is in
    let l = ap (λ (x : Incoming). x.longest) is in
    ap₂ (λ (o : Option (List Part)) (n : ℕ). arriving (option_map (λ parts. ws) o) n) e l

pub some_arrive : (net : Network) (spots : List Spot) (stair : ℕ → Option Stair) (s q : ℕ) (groups : List Group) (lines : Arrivals) (parts : Vec Part Global) (ws : List Bunch)
    → incoming_of lines ≡ incoming_of_groups net groups → lines.parts ≡ Some parts → ws ≡ map (bunch_of_group net spots stair s q) groups
    → arriving (Some ws) lines.longest ≡ arriving_of_groups net spots stair s q groups
some_arrive net spots stair s q groups lines parts ws is some are =
    let e : Some parts.items ≡ parts_in net groups = ap (option_map (λ v. v.items)) (sym some) ∙ ap (λ (x : Incoming). x.parts) is in
    let l = ap (λ (x : Incoming). x.longest) is in
    ap (λ (us : List Bunch). arriving (Some us) lines.longest) are
    ∙ ap₂ (λ (o : Option (List Part)) (n : ℕ). arriving (option_map (λ ps. map (bunch_of_group net spots stair s q) groups) o) n) e l

-- ---- all queues
-- as many as there are queues
pub stairs_count : (net : Network) (stair : ℕ → Option Stair) (s count : ℕ) (stairs : List StairArrivals) → map arriving_of (stairs_in stairs) ≡ arriving_below net (spots_of net) stair s count → length stairs ≡ count
stairs_count net stair s count stairs are =
    let many = length-map stairs stairs_of in
    let seen = length-map (stairs_in stairs) arriving_of in
    let same = ap length are in
    let queues = arriving_length net (spots_of net) stair s count in
    omega (arith, many, seen, same, queues)

pub none_coming : (net : Network) (stair : ℕ → Option Stair) (s : ℕ) → IsComing net stair s 0 [] []
unfolding arriving_below incomings_at
none_coming net stair s = record { lines = refl; stairs = refl }

pub one_coming : (net : Network) (stair : ℕ → Option Stair) (s q : ℕ) (lines more_lines : List Arrivals) (stairs more_stairs : List StairArrivals) (line : Arrivals) (last : StairArrivals)
    → more_lines ≡ lines ++ line ∷ [] → more_stairs ≡ stairs ++ last ∷ [] → incoming_of line ≡ incoming_at net (spots_of net) (λ n. line_of (stair n)) s q
    → arriving_of (stairs_of last) ≡ arriving_at net (spots_of net) stair s q → IsComing net stair s q lines stairs → IsComing net stair s (q + 1) more_lines more_stairs
unfolding arriving_below incomings_at
one_coming net stair s q lines more_lines stairs more_stairs line last e f by_line by_stair known =
    let next : q + 1 ≡ suc q = omega arith in
    let L : ℕ → Type 0 = λ n. incoming more_lines ≡ incomings_at net (spots_of net) (λ m. line_of (stair m)) s n in
    let S : ℕ → Type 0 = λ n. map arriving_of (stairs_in more_stairs) ≡ arriving_below net (spots_of net) stair s n in
    record {
      lines = subst L (sym next) (ap incoming e ∙ map-append incoming_of lines (line ∷ []) ∙ ap₂ (λ (xs : List Incoming) (x : Incoming). xs ++ x ∷ []) known.lines by_line);
      stairs = subst S (sym next) (ap (λ (xs : List StairArrivals). map arriving_of (stairs_in xs)) f
          ∙ ap (map arriving_of) (map-append stairs_of stairs (last ∷ []))
          ∙ map-append arriving_of (stairs_in stairs) (stairs_of last ∷ [])
          ∙ ap₂ (λ (xs : List Arriving) (x : Arriving). xs ++ x ∷ []) known.stairs by_stair);
    }
