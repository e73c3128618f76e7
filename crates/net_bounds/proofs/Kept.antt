-- The guarantee: hop by hop, queue by queue, and from end to end.
use Rattle.std.specs.Prelude.{◌≡◌, ℕ, ◌<◌, length, Option, Some, None, slice_get}
use Rattle.std.proofs.Common.{arith, refl, sym, subst}
use Rattle.std.proofs.lemmas.Option.{slice_get_within}
use Rattle.run_laws.specs.Servers.{queue_count}
use Rattle.net_model.specs.Networks.{Net, NetServer}
use Rattle.net_cells.specs.Numbered.{queues, discipline_of, server_of_hop}
use Rattle.run_laws.specs.Runs.{SpecRun}
use Rattle.run_laws.specs.Cards.{of_flow}
use Rattle.run_laws.specs.Premises.{KeepsArrivals}
use Rattle.net_laws.specs.Orders.{KeptAt}
use Rattle.net_cells.specs.declared.cell.Kind.TheVariants.{In}
use Rattle.net_cells.specs.Cells.{cell_of}
use Rattle.net_cells.specs.Meanings.{CellTable}
use Rattle.net_bounds.specs.NetRuns.{routes_of}
use Rattle.net_bounds.specs.Promises.{seen_by}
use Rattle.net_bounds.specs.OneServer.{FlowsKeep, ServerKeeps}
use Rattle.net_bounds.specs.Guarantee.{TableBoundsEveryRun}
use Rattle.net_bounds.proofs.Routed.{hop_inside, hop_at, passes_at}
use Rattle.net_bounds.proofs.Cells.{curve_holds}
use Rattle.net_bounds.proofs.Arriving.{arrivals, AtServer}
use Rattle.net_bounds.proofs.Queues.{queue_kept}
use Rattle.net_bounds.proofs.Hops.{hop_kept}
use Rattle.net_bounds.proofs.Everywhere.{at_server}
use Rattle.net_bounds.proofs.EndToEnd.{path_kept}

-- a server with a queue is one of the network's
pub with_queues : (net : Net) (s q : ℕ) → q < queues net s → s < length net.servers
with_queues net s q h = one (slice_get net.servers s) refl h
  where
    one : (o : Option NetServer) → slice_get net.servers s ≡ o → q < queue_count (discipline_of o)
        → s < length net.servers
    one None e l = absurd (omega (arith, l))
    one (Some server) e l = slice_get_within net.servers s server e

-- ---- one server
kept_there : (net : Net) (at : CellTable) (run : SpecRun) (s : ℕ) → FlowsKeep net at run s
    → KeptAt (routes_of net) run (arrivals net at) s
kept_there net at run s keep i live passes =
    let there = passes_at net i s passes in
    curve_holds at (cell_of In i (hop_at net i s)) (λ α. KeepsArrivals (of_flow i) α (seen_by net run s))
    (keep i (hop_at net i s) there.within there.is)

pub server_keeps : ServerKeeps
server_keeps net at run s accepted meets run_of inside keep = record {
  queues = λ q h. queue_kept net at run s q server h;
  hops = λ i k h e. hop_kept net at run i k
      record { server = subst (AtServer net at run) (sym e) server; within = h; is = refl };
}
  where
    server : AtServer net at run s
    server = record {
      accepted = accepted;
      meets = meets;
      run_of = run_of;
      inside = inside;
      kept = kept_there net at run s keep;
    }

-- ---- the whole network
pub table_bounds_every_run : TableBoundsEveryRun
table_bounds_every_run net order at run accepted is_order meets run_of = record {
  hops = λ i k h. hop_kept net at run i k
      record {
        server = at_server net order at run (server_of_hop net i k) accepted is_order meets run_of
            (hop_inside net i k accepted h);
        within = h;
        is = refl;
      };
  queues = λ s q h. queue_kept net at run s q
      (at_server net order at run s accepted is_order meets run_of (with_queues net s q h)) h;
  paths = λ i live. path_kept net at run i
      record {
        accepted = accepted;
        meets = meets;
        run_of = run_of;
        live = live;
        servers = λ s h. at_server net order at run s accepted is_order meets run_of h;
      };
}
