use Rattle.std.proofs.Common.{◌/◌, ◌<◌, length, arith}
use Rattle.std.proofs.lemmas.Bool.Decides.{nat_tests}
use Rattle.arrival_heights.proofs.Further.{most_of_all}
use Rattle.arrival_heights.proofs.peaks.+add_most.Goals as goal

pub returns : goal.returns
returns t c =
    most_of_all c.args.heights.now c.args.rates.now (length c.args.rates.now / 2) c.first_greatest-place.result c.ahead.result c.args.most.now.items c.add_most.new.most.items c.push.new.self.items c.add_most-2.new.most.items
    c.requires.at c.requires.order c.requires.rising (let inside : length c.args.rates.now / 2 < length c.args.rates.now = grind (arith, nat_tests) in inside) c.first_greatest-place.ensures c.in_ok-add_most.ensures c.ahead.ensures c.in_ok-push.ensures.items c.in_ok-add_most-2.ensures
