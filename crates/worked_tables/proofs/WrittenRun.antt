-- The run over the fork is one of the network that the tables write.
use Rattle.std.specs.Prelude.{◌≡◌, ℕ, zero, suc, pos, ◌<◌, List, [], ◌∷◌, map, slice_get}
use Rattle.std.proofs.Common.{arith, refl, sym, ap, ◌∙◌, subst}
use Rattle.min_plus.specs.Formulas.{stair_value}
use Rattle.rational.specs.Rational.{ℚ, ◌*ℚ◌}
use Rattle.rational.specs.Fractions.{frac-same}
use Rattle.rational.proofs.Over.{mul_frac}
use Rattle.run_laws.specs.Cards.{whole}
use Rattle.run_laws.specs.Premises.{KeepsService}
use Rattle.run_laws.specs.RunPremises.{KeepsPremises}
use Rattle.run_laws.specs.Servers as servers
use Rattle.run_laws.specs.Views.{view}
use Rattle.tree_runs.specs.Trees.{Tree, TreeRoutes, flat, IsLawfulTree}
use Rattle.worked_trees.specs.PacedFork.{paced_fork, over_the_fork, at_entry}
use Rattle.worked_trees.proofs.PacedForkRun as paced
use Rattle.tree_network.specs.declared.network.Link.{Link}
use Rattle.tree_network.specs.declared.network.Network.{Network}
use Rattle.document_tables.specs.Grids.{LinkOnGrid, grid_link, links_from, link_on_grid}
use Rattle.document_tables.specs.Links.{paths_of}
use Rattle.document_tables.specs.Stops.{stops_of, with_path, with_paths}
use Rattle.rounded_runs.specs.Written.{IsWrittenRun, exact, routes_written, server_written, time_written, service_written, stair_written, text_at, keys_at}
use Rattle.tree_bounds.specs.guarantee.Guarantee.{frame_of, frame_in}
use Rattle.tree_bounds.specs.guarantee.Routes.{tree_of_link}
use Rattle.worked_tables.specs.Fork.{IsOverFork}
use Rattle.worked_tables.specs.WrittenFork.{fork_keys, fork_links, fork_ports}
use Rattle.worked_tables.proofs.ForkNetwork.{its_nodes, tree_is}
use Rattle.worked_tables.proofs.ForkRun.{fork_premises}

-- ---- its link
abbrev on_grid : LinkOnGrid
on_grid = link_on_grid fork_ports.ports 20 fork_keys (stops_of (paths_of 0 fork_links.branches))

nodes_are : on_grid.nodes ≡ its_nodes
unfolding with_path with_paths
nodes_are = refl

links_on_grid : links_from fork_ports.ports 20 fork_links.branches 0 fork_links.keys ≡ on_grid ∷ []
unfolding links_from
links_on_grid = refl

over_fork : (link : Link) → grid_link link ≡ on_grid → IsOverFork link
over_fork link e = record {
  frame = ap (λ (l : LinkOnGrid). l.frame) e;
  gap = ap (λ (l : LinkOnGrid). l.gap) e;
  jitter = ap (λ (l : LinkOnGrid). l.jitter) e;
  nodes = ap (λ (l : LinkOnGrid). l.nodes) e ∙ nodes_are;
}

only_link : (links : List Link) → map grid_link links ≡ on_grid ∷ [] → (link : Link) × (links ≡ link ∷ []) × (grid_link link ≡ on_grid)
only_link [] e = absurd (cc)
only_link (link ∷ []) e = (link, refl, cc)
only_link (link ∷ (other ∷ links)) e = absurd (cc)

-- ---- as runs know it
servers_are : map server_written fork_ports.ports ≡ paced_fork.servers
servers_are = refl

times_are : map time_written fork_ports.ports ≡ paced_fork.links
times_are = refl

gap_is : whole 1000 *ℚ exact fork_keys.gap ≡ whole 1000
gap_is = mul_frac (pos 1000) 0 (pos 1) 0 ∙ frac-same _ _ _ _ refl

stair_is : (t : ℚ) → stair_written 20 fork_keys t ≡ at_entry 0 t
stair_is t = ap (λ gap. stair_value (whole 12000) gap (whole 0) t) gap_is

module _ (net : Network) (link : Link) (links : net.links.items ≡ link ∷ []) (over : IsOverFork link) where
  routes_are : routes_written fork_ports.ports net ≡ paced_fork
  routes_are =
      let routes : List servers.Server → List ℚ → List Tree → TreeRoutes = λ s l t. record { servers = s; links = l; flows = t } in
      ap (λ s. routes s (map time_written fork_ports.ports) (map tree_of_link net.links.items)) servers_are
      ∙ (ap (λ l. routes paced_fork.servers l (map tree_of_link net.links.items)) times_are
      ∙ ap (λ t. routes paced_fork.servers paced_fork.links t) (ap (map tree_of_link) links ∙ tree_is link over))

  frame_is : frame_of net 0 ≡ 12000
  frame_is = ap frame_in (ap (λ (ls : List Link). slice_get ls 0) links) ∙ over.frame

  service_kept : (s : ℕ) → s < 3 → KeepsService (service_written (text_at fork_ports.ports s)) over_the_fork.end (view (flat paced_fork) over_the_fork s)
  service_kept zero h = paced.keeps_service 0 h
  service_kept (suc zero) h = paced.keeps_service 1 h
  service_kept (suc (suc zero)) h = paced.keeps_service 2 h
  service_kept (suc (suc (suc s))) h = absurd (omega (arith, h))

  pub is_written : IsWrittenRun 20 fork_ports.ports fork_links.keys net over_the_fork
  is_written =
      let P : TreeRoutes → Type 0 =
      λ r. KeepsPremises (flat r) (frame_of net) (λ i. stair_written 20 (keys_at fork_links.keys i)) (λ s. service_written (text_at fork_ports.ports s)) over_the_fork
      in record {
        lawful = subst (λ (r : TreeRoutes). IsLawfulTree r over_the_fork) (sym routes_are) paced.is_lawful;
        premises = subst P (sym routes_are)
            (fork_premises (frame_of net) (λ i. stair_written 20 (keys_at fork_links.keys i)) (λ s. service_written (text_at fork_ports.ports s)) frame_is stair_is service_kept);
      }

pub written_run : (net : Network) → map grid_link net.links.items ≡ links_from fork_ports.ports 20 fork_links.branches 0 fork_links.keys
    → IsWrittenRun 20 fork_ports.ports fork_links.keys net over_the_fork
written_run net e =
    let one = only_link net.links.items (e ∙ links_on_grid) in
    is_written net one.0 one.1 (over_fork one.0 one.2)
