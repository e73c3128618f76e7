-- Two networks of one document: the same numbers, however the code keeps their lists.
use Rattle.std.proofs.Common.{◌≡◌, ℕ, zero, suc, ◌+◌, ◌*◌, ◌^◌, ◌&&◌, if◌then◌else◌, Option, Some, None, List, [], ◌∷◌, ◌++◌, length, get_or, map, sum, refl, sym, ◌∙◌, ap, ap₂, subst, inl, inr}
use Rattle.std.specs.Prelude.{slice_get, option_map, sum_by}
use Rattle.std.specs.List.{list_all}
use Rattle.std.specs.Int.{div_ceil}
use Rattle.std.proofs.lemmas.List.{length-map}
use Rattle.std.proofs.lemmas.List.Sums.{sum_by-cons}
use Rattle.std.proofs.lemmas.Option.{slice_get-map}
use Rattle.arrival_lines.specs.declared.grid.Line.{Line}
use Rattle.arrival_lines.specs.declared.grid.Part.{Part}
use Rattle.arrival_lines.specs.declared.grid.Service.{Service}
use Rattle.arrival_stairs.specs.Views.{Bunch}
use Rattle.arrival_stairs.specs.declared.stairs.Stair.{Stair}
use Rattle.tree_network.specs.Networks.{queues_of, port_at, no_port, node_at, no_node}
use Rattle.tree_network.specs.declared.network.Discipline.{Discipline}
use Rattle.tree_network.specs.declared.network.Discipline.TheVariants as discipline
use Rattle.tree_network.specs.declared.network.Port.{Port}
use Rattle.tree_network.specs.declared.network.Node.{Node}
use Rattle.tree_network.specs.declared.network.Link.{Link}
use Rattle.tree_network.specs.declared.network.Network.{Network}
use Rattle.tree_network.specs.declared.spots.Spot.{Spot}
use Rattle.tree_network.specs.Spots.{spot_of, source_in, number_before, spots_in, spots_of_link, spots_below, spots_of}
use Rattle.document_rows.specs.Disciplines.{DisciplineText, Fifo, Priority, Drr, discipline_view}
use Rattle.document_tables.specs.Grids.{PortOnGrid, LinkOnGrid, grid_port, grid_link}
use Rattle.port_bounds.specs.Incoming.{Incoming, queue_in, longest_frames_of}
use Rattle.port_bounds.specs.Services.{IsServiceAt, IsServiceOf, round_robin_share}
use Rattle.port_bounds.specs.Ports.{port_service}
use Rattle.tree_bounds.specs.Bunches.{Arriving, stairs_among, bunch_of_group, arriving_of_groups, arriving_below}
use Rattle.tree_bounds.specs.Lines.{line_of}
use Rattle.tree_bounds.specs.Stairs.{stair_within, first_stair_of}
use Rattle.tree_bounds.specs.Groups.{pace_line, part_of, are_bounded, longest_group, spots_in_group, groups_at}
use Rattle.tree_bounds.specs.Equations.{comes_to}
use Rattle.tree_bounds.specs.guarantee.Loads.{rates_at, brought}
use Rattle.bounds_command.specs.Loads.{load_at, load_of}
use Rattle.bounds_command.specs.Reports.{port_in}

-- ---- lists
pub map_same : {X Y : Type 0} (f g : X → Y) → ((x : X) → f x ≡ g x) → (xs : List X) → map f xs ≡ map g xs
map_same f g h [] = refl
map_same f g h (x ∷ xs) = ap₂ (λ y ys. y ∷ ys) (h x) (map_same f g h xs)

at_map : {X Y : Type 0} (f : X → Y) (xs : List X) (i : ℕ) (d : X) → get_or (map f xs) i (f d) ≡ f (get_or xs i d)
at_map f [] i d = refl
at_map f (x ∷ xs) zero d = refl
at_map f (x ∷ xs) (suc i) d = at_map f xs i d

-- ---- networks
pub record AreAlike (a b : Network) : Type 0 where
  pub ports : map grid_port a.ports.items ≡ map grid_port b.ports.items
  pub links : map grid_link a.links.items ≡ map grid_link b.links.items

module _ (a b : Network) (alike : AreAlike a b) where
  pub ports_count : length a.ports.items ≡ length b.ports.items
  ports_count =
      sym (length-map a.ports.items grid_port) ∙ ap length alike.ports ∙ length-map b.ports.items grid_port

  pub links_count : length a.links.items ≡ length b.links.items
  links_count =
      sym (length-map a.links.items grid_link) ∙ ap length alike.links ∙ length-map b.links.items grid_link

  pub port_same : (s : ℕ) → grid_port (port_at a s) ≡ grid_port (port_at b s)
  port_same s =
      sym (at_map grid_port a.ports.items s no_port)
      ∙ ap (λ (ps : List PortOnGrid). get_or ps s (grid_port no_port)) alike.ports
      ∙ at_map grid_port b.ports.items s no_port

  pub link_same : (i : ℕ) → option_map grid_link (slice_get a.links.items i) ≡ option_map grid_link
      (slice_get b.links.items i)
  link_same i =
      sym (slice_get-map grid_link a.links.items i) ∙ ap (λ (ls : List LinkOnGrid). slice_get ls i) alike.links
      ∙ slice_get-map grid_link b.links.items i

-- ---- ports
abbrev queues_by : DisciplineText → ℕ
queues_by Fifo = 1
queues_by (Priority n) = n
queues_by (Drr quanta) = length quanta

queues_is : (d : Discipline) → queues_of d ≡ queues_by (discipline_view d)
queues_is discipline.Fifo = refl
queues_is (discipline.Priority n) = refl
queues_is (discipline.Drr quanta) = refl

pub queues_same : (p r : Port) → grid_port p ≡ grid_port r → queues_of p.discipline ≡ queues_of r.discipline
queues_same p r e =
    queues_is p.discipline ∙ ap (λ (v : PortOnGrid). queues_by v.discipline) e ∙ sym (queues_is r.discipline)

abbrev service_by : PortOnGrid → Service
service_by v =
    port_service record {
      rate = v.rate;
      pace = v.pace;
      latency = v.latency;
      link = v.link;
      discipline =
          discipline.Fifo;
      gate = v.gate;
    }

pub service_same : (p r : Port) → grid_port p ≡ grid_port r → port_service p ≡ port_service r
service_same p r e = ap service_by e

at_same : (d e : Discipline) → discipline_view d ≡ discipline_view e
    → (own : Service) (queues : List Incoming) (q : ℕ) (service : Service)
    → IsServiceAt d own queues q service → IsServiceAt e own queues q service
at_same discipline.Fifo discipline.Fifo same own queues q service h = h
at_same discipline.Fifo (discipline.Priority n) same own queues q service h = absurd (cc)
at_same discipline.Fifo (discipline.Drr ys) same own queues q service h = absurd (cc)
at_same (discipline.Priority n) discipline.Fifo same own queues q service h = absurd (cc)
at_same (discipline.Priority n) (discipline.Priority m) same own queues q service h = h
at_same (discipline.Priority n) (discipline.Drr ys) same own queues q service h = absurd (cc)
at_same (discipline.Drr xs) discipline.Fifo same own queues q service h = absurd (cc)
at_same (discipline.Drr xs) (discipline.Priority m) same own queues q service h = absurd (cc)
at_same (discipline.Drr xs) (discipline.Drr ys) same own queues q service h =
    let quanta : xs.items ≡ ys.items = cc in
    elim h [
      | inl share ↦
          inl (share ∙ ap (λ (qs : List ℕ). round_robin_share own (get_or qs q 0) (sum qs) (queue_in queues q).longest
          (longest_frames_of queues)) quanta)
      | inr left ↦ inr left
    ]

pub services_same : (p r : Port) → grid_port p ≡ grid_port r → (queues : List Incoming) (q : ℕ) (service : Service)
    → IsServiceOf p queues q service → IsServiceOf r queues q service
services_same p r e queues q service h =
    let S : Service → Type 0 = λ own. IsServiceAt p.discipline own queues q service in
    at_same p.discipline r.discipline (ap (λ (v : PortOnGrid). v.discipline) e) (port_service r) queues q service
    (subst S (service_same p r e) h)

pub load_same : (p r : Port) (rates : ℕ) → grid_port p ≡ grid_port r → load_of p rates ≡ load_of r rates
load_same p r rates e = ap (λ (s : Service). load_at rates s.rate) (service_same p r e)

-- ---- links
abbrev source_by : List Node → Option ℕ → ℕ
source_by nodes None = 0
source_by nodes (Some from) = (get_or nodes from no_node).port + 1

source_is : (link : Link) (from : Option ℕ) → source_in link from ≡ source_by link.nodes.items from
source_is link None = refl
source_is link (Some from) = refl

abbrev spot_by : (i first place : ℕ) → LinkOnGrid → Spot
spot_by i first place v = record {
  link = i;
  frame = v.frame;
  port = (get_or v.nodes place no_node).port;
  queue = (get_or v.nodes place no_node).queue;
  source = source_by v.nodes (get_or v.nodes place no_node).from;
  from = number_before first place (get_or v.nodes place no_node).from;
}

spot_is : (i first place : ℕ) (link : Link) → spot_of i first link place ≡ spot_by i first place (grid_link link)
spot_is i first place link =
    ap (λ (source : ℕ). record {
      link = i;
      frame = link.frame;
      port = (node_at link place).port;
      queue = (node_at link place).queue;
      source = source;
      from = number_before first place (node_at link place).from;
    }) (source_is link (node_at link place).from)

spots_in_same : (i first : ℕ) (l m : Link) → grid_link l ≡ grid_link m → (n : ℕ)
    → spots_in i first l n ≡ spots_in i first m n
unfolding spots_in
spots_in_same i first l m e zero = refl
spots_in_same i first l m e (suc place) =
    ap₂ (λ xs spot. xs ++ spot ∷ []) (spots_in_same i first l m e place)
    (spot_is i first place l ∙ ap (spot_by i first place) e ∙ sym (spot_is i first place m))

spots_of_same : (i first : ℕ) (o p : Option Link) → option_map grid_link o ≡ option_map grid_link p
    → spots_of_link i first o ≡ spots_of_link i first p
spots_of_same i first None None e = refl
spots_of_same i first None (Some m) e = absurd (cc)
spots_of_same i first (Some l) None e = absurd (cc)
spots_of_same i first (Some l) (Some m) e =
    let same : grid_link l ≡ grid_link m = cc in
    spots_in_same i first l m same (length l.nodes.items)
    ∙ ap (λ (v : LinkOnGrid). spots_in i first m (length v.nodes)) same

abbrev stair_by : LinkOnGrid → Option Stair
stair_by v = stair_within (v.frame * 1024) v.gap v.jitter

pub first_same : (o p : Option Link) → option_map grid_link o ≡ option_map grid_link p
    → first_stair_of o ≡ first_stair_of p
first_same None None e = refl
first_same None (Some m) e = absurd (cc)
first_same (Some l) None e = absurd (cc)
first_same (Some l) (Some m) e = let same : grid_link l ≡ grid_link m = cc in ap stair_by same

pub last_same : (o p : Option Link) (place : ℕ) → option_map grid_link o ≡ option_map grid_link p
    → port_in o place ≡ port_in p place
last_same None None place e = refl
last_same None (Some m) place e = absurd (cc)
last_same (Some l) None place e = absurd (cc)
last_same (Some l) (Some m) place e =
    let same : grid_link l ≡ grid_link m = cc in ap (λ (v : LinkOnGrid). (get_or v.nodes place no_node).port) same

abbrev brought_on : (s q : ℕ) → LinkOnGrid → ℕ
brought_on s q v = sum_by (brought s q (div_ceil (v.frame * 1024 * 10 ^ 12) v.gap)) v.nodes

sum_map : {X Y : Type 0} (f : Y → ℕ) (v : X → Y) (xs : List X) → sum_by (λ x. f (v x)) xs ≡ sum_by f (map v xs)
sum_map f v [] = refl
sum_map f v (x ∷ xs) =
    sum_by-cons (λ y. f (v y)) x xs ∙ ap (λ n. f (v x) + n) (sum_map f v xs) ∙ sym (sum_by-cons f (v x) (map v xs))

-- ---- of the networks
module _ (a b : Network) (alike : AreAlike a b) where
  below_same : (i : ℕ) → spots_below a i ≡ spots_below b i
  unfolding spots_below
  below_same zero = refl
  below_same (suc i) =
      ap (λ (xs : List Spot). xs ++ spots_of_link i (length xs) (slice_get a.links.items i)) (below_same i)
      ∙ ap (λ (ys : List Spot). spots_below b i ++ ys)
      (spots_of_same i (length (spots_below b i)) (slice_get a.links.items i) (slice_get b.links.items i)
      (link_same a b alike i))

  pub spots_same : spots_of a ≡ spots_of b
  spots_same = below_same (length a.links.items) ∙ ap (spots_below b) (links_count a b alike)

  pub rates_same : (s q : ℕ) → rates_at a s q ≡ rates_at b s q
  rates_same s q =
      sum_map (brought_on s q) grid_link a.links.items ∙ ap (sum_by (brought_on s q)) alike.links
      ∙ sym (sum_map (brought_on s q) grid_link b.links.items)

  pace_same : (longest source : ℕ) → pace_line a longest source ≡ pace_line b longest source
  pace_same longest zero = refl
  pace_same longest (suc p) =
      let L : PortOnGrid → Option Line = λ v. Some record { burst = longest * 1024; rate = v.pace } in
      ap L (port_same a b alike p)

  arriving_alike : (spots : List Spot) (stair : ℕ → Option Stair) (s q : ℕ)
      → arriving_below a spots stair s q ≡ arriving_below b spots stair s q
  unfolding arriving_below
  arriving_alike spots stair s zero = refl
  arriving_alike spots stair s (suc q) =
      let groups = groups_at spots (λ n. line_of (stair n)) s q (length a.ports.items + 1) in
      let A : List Part → List Bunch → Arriving = λ parts ws. record {
        bunches = option_map (λ ps. ws) (if list_all (λ g. g.known) groups && are_bounded parts then Some parts else None);
        longest = longest_group groups;
      } in
      let paced = map_same (part_of a) (part_of b)
      (λ g. ap (λ (pace : Option Line). record { sum = record { burst = g.burst; rate = g.rate }; pace = pace })
      (pace_same g.longest g.source))
      groups in
      let bunched = map_same (bunch_of_group a spots stair s q) (bunch_of_group b spots stair s q)
      (λ g. ap (λ (pace : Option Line). record { stairs = stairs_among stair (spots_in_group spots s q g.source); pace = pace })
      (pace_same g.longest g.source))
      groups in
      ap₂ (λ (xs : List Arriving) (x : Arriving). xs ++ x ∷ []) (arriving_alike spots stair s q)
      (ap₂ A paced bunched
      ∙ ap (λ (n : ℕ). arriving_of_groups b spots stair s q (groups_at spots (λ m. line_of (stair m)) s q (n + 1)))
      (ports_count a b alike))

  pub arriving_same : (stair : ℕ → Option Stair) (s : ℕ) → comes_to a stair s ≡ comes_to b stair s
  arriving_same stair s =
      arriving_alike (spots_of a) stair s (queues_of (port_at a s).discipline)
      ∙ ap (λ (xs : List Spot). arriving_below b xs stair s (queues_of (port_at a s).discipline)) spots_same
      ∙ ap (λ n. arriving_below b (spots_of b) stair s n) (queues_same (port_at a s) (port_at b s) (port_same a b alike s))
