use Rattle.net_model.specs.stated_runs.FromTraces.{stalls_at}
use Rattle.simulator.proofs.packet_sim.SortedStalls.{are_sorted}
use Rattle.simulator.proofs.packet_sim.making.sorted_stalls.Goals as goal

pub returns : goal.returns
returns c =
    are_sorted (stalls_at c.args.server c.args.stalls.now) c.in_ok-spans.spans.items c.put_in_order.new.spans.items c.in_ok-spans.ensures
    c.put_in_order.ensures.permutation c.put_in_order.ensures.sorted
