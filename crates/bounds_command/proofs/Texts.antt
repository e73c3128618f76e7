-- What the rows of a document write, and its network, which has that on its grid.
use Rattle.std.proofs.Common.{◌≡◌, ℕ, List, Some, Ok, Err, All, map, sym, ◌∙◌, ap, subst}
use Rattle.std.specs.Prelude.{slice_get, option_map}
use Rattle.std.proofs.lemmas.List.Elements.{All-get_or}
use Rattle.std.proofs.lemmas.Option.{slice_get-map, slice_get_within, get_or_from_slice_get}
use Rattle.tree_network.specs.declared.network.Link.{Link}
use Rattle.tree_network.specs.declared.network.Network.{Network}
use Rattle.document_rows.specs.Reads.{and_then}
use Rattle.document_tables.specs.declared.fault.TableFile.{TableFile}
use Rattle.document_tables.specs.declared.fault.TableFile.TheVariants as file
use Rattle.document_tables.specs.declared.links.LinkKeys.{LinkKeys}
use Rattle.document_tables.specs.Documents.{DocumentText, document_of, document_with, in_file}
use Rattle.document_tables.specs.Grids.{LinkOnGrid, grid_port, port_on_grid, grid_link, links_from}
use Rattle.document_tables.specs.Links.{Links, links_of}
use Rattle.document_tables.specs.Ports.{Ports, ports_of}
use Rattle.document_tables.specs.Ranges.{IsPortText, AreLinkKeys}
use Rattle.document_tables.specs.Tables.{LineRow, TableRead}
use Rattle.document_tables.proofs.NetworkFacts.{link_at}
use Rattle.document_tables.proofs.Reading.{both_read, same_read}
use Rattle.document_tables.proofs.TableRanges.{ports_in_range, links_in_range}
use Rattle.rounded_runs.specs.Written.{IsRounded, IsRoundedLink, keys_at, no_keys}
use Rattle.bounds_command.specs.OnTables.{AreWritten}
use Rattle.bounds_command.specs.Reports.{IsNetworkOf}

read_in : {X : Type 0} (file : TableFile) (r : TableRead X) (x : X) → in_file file r ≡ Ok x → r ≡ Ok x
read_in file (Ok y) x h = cc
read_in file (Err fault) x h = cc

module _ (overhead : ℕ) (ports : Ports) (links : Links) (net : Network)
    (same_ports : map grid_port net.ports.items ≡ map port_on_grid ports.ports)
    (same_links : map grid_link net.links.items ≡ links_from ports.ports overhead links.branches 0 links.keys)
    (texts : All IsPortText ports.ports) (keys : All AreLinkKeys links.keys) where
  link_rounded : (i : ℕ) (link : Link) → slice_get net.links.items i ≡ Some link
      → IsRoundedLink overhead (keys_at links.keys i) link
  link_rounded i link h =
      let seen : slice_get (links_from ports.ports overhead links.branches 0 links.keys) i ≡ Some (grid_link link) =
      ap (λ (ls : List LinkOnGrid). slice_get ls i) (sym same_links)
      ∙ (slice_get-map grid_link net.links.items i ∙ ap (option_map grid_link) h) in
      let at = link_at ports.ports overhead links.branches 0 links.keys i (grid_link link) seen in
      let key = at.0 in
      let below = slice_get_within links.keys i key at.1 in
      let range = subst AreLinkKeys (get_or_from_slice_get links.keys i key key at.1)
      (All-get_or AreLinkKeys links.keys i key below keys) in
      let made : IsRoundedLink overhead key link = record {
        frame = ap (λ (l : LinkOnGrid). l.frame) at.2;
        gap = ap (λ (l : LinkOnGrid). l.gap) at.2;
        jitter = ap (λ (l : LinkOnGrid). l.jitter) at.2;
        range = range;
      } in
      subst (λ (k : LinkKeys). IsRoundedLink overhead k link) (sym (get_or_from_slice_get links.keys i key no_keys at.1)) made

  rounded : IsRounded overhead ports.ports links.keys net
  rounded = record { ports = same_ports; ranges = texts; links = link_rounded }

pub written_of : (overhead : ℕ) (port_rows link_rows : List LineRow) (d : DocumentText) (net : Network)
    → document_of overhead port_rows link_rows ≡ Ok d → IsNetworkOf d net → AreWritten overhead port_rows link_rows net
unfolding document_of
written_of overhead port_rows link_rows d net h is =
    let p = both_read (in_file file.Ports (ports_of port_rows)) (λ ports.
    and_then (in_file file.Links (links_of ports overhead link_rows)) (λ links. Ok (document_with overhead ports links))) d h in
    let l = both_read (in_file file.Links (links_of p.0 overhead link_rows)) (λ links. Ok (document_with overhead p.0 links)) d p.2 in
    let made = same_read (document_with overhead p.0 l.0) d l.2 in
    let ports_are = read_in file.Ports (ports_of port_rows) p.0 p.1 in
    let links_are = read_in file.Links (links_of p.0 overhead link_rows) l.0 l.1 in
    let texts = (ports_in_range port_rows p.0 ports_are).0 in
    let keys = (links_in_range p.0 overhead link_rows l.0 links_are).0 in
    let same_ports = is.ports ∙ sym (ap (λ (e : DocumentText). e.ports) made) in
    let same_links = is.links ∙ sym (ap (λ (e : DocumentText). e.links) made) in
    record {
      ports = p.0;
      links = l.0;
      ports_are = ports_are;
      links_are = links_are;
      rounded = rounded overhead p.0 l.0 net same_ports same_links texts keys;
    }
