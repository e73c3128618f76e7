use Rattle.std.proofs.Common.{arith, sym, subst, refl, ap, ◌∙◌}
use Rattle.rational.specs.Rational.{◌-ℚ◌, ◌<ℚ◌}
use Rattle.rational.proofs.Linear.{with2}
use Rattle.rational.proofs.Laws.{le_trans, le_of_lt}
use Rattle.net_model.specs.stated_runs.Setups.{IsOpenAt, StaysTo}
use Rattle.net_model.specs.stated_runs.TimeGrids.{IsTime}
use Rattle.sim_servers.specs.Openings.{opening_for}
use Rattle.sim_servers.proofs.GridSteps.{sum_fits, difference_fits, rest_is_time}
use Rattle.sim_servers.proofs.StationSteps.{worked_time, after_work}
use Rattle.sim_servers.proofs.station.Station.work.Goals as goal

pub sum-requires : goal.sum-requires
sum-requires c = let r = c.requires.room in sum_fits r.grid r.most c.args.start c.args.left r.room r.start_is r.left_is

pub stays-end-requires-clause-forward : goal.stays-end-requires-clause-forward
stays-end-requires-clause-forward c =
    let s = c.requires.some in
    subst (λ y. c.args.start <ℚ y) (sym c.sum.ensures) (with2 c.args.start c.args.left (λ o. omega (arith, o.le, o.lt, o.same)))

pub difference-time-requires : goal.difference-time-requires
difference-time-requires c =
    let r = c.requires.room in
    let stays = subst (λ y. StaysTo (IsOpenAt (opening_for c.args.self.now.opening)) c.args.start y c.stays-end.result) c.sum.ensures c.stays-end.ensures in
    difference_fits r.grid r.most c.stays-end.result c.args.start r.room (r.ends c.stays-end.result stays) r.start_is

pub difference-rest-requires : goal.difference-rest-requires
difference-rest-requires c =
    let r = c.requires.room in
    let stays = subst (λ y. StaysTo (IsOpenAt (opening_for c.args.self.now.opening)) c.args.start y c.stays-end.result) c.sum.ensures c.stays-end.ensures in
    let time : IsTime r.grid r.most c.difference-time.result = subst (λ y. IsTime r.grid r.most y) (sym c.difference-time.ensures)
    (rest_is_time r.grid r.most c.stays-end.result c.args.start (r.ends c.stays-end.result stays) r.start_is (le_of_lt stays.forward)) in
    difference_fits r.grid r.most c.args.left c.difference-time.result r.room r.left_is time

pub product-bits-requires : goal.product-bits-requires
product-bits-requires c =
    let r = c.requires.room in
    let stays = subst (λ y. StaysTo (IsOpenAt (opening_for c.args.self.now.opening)) c.args.start y c.stays-end.result) c.sum.ensures c.stays-end.ensures in
    r.works c.difference-time.result (subst (λ y. IsTime r.grid r.most y) (sym c.difference-time.ensures)
    (rest_is_time r.grid r.most c.stays-end.result c.args.start (r.ends c.stays-end.result stays) r.start_is (le_of_lt stays.forward)))

pub next_after_work-self-requires-clause-over : goal.next_after_work-self-requires-clause-over
next_after_work-self-requires-clause-over c = λ k d h. le_trans (c.requires.opened.over k d h) (le_of_lt c.stays-end.ensures.forward)

pub next_after_work-self-requires-clause-room : goal.next_after_work-self-requires-clause-room
next_after_work-self-requires-clause-room c =
    let r = c.requires.room in
    let stays = subst (λ y. StaysTo (IsOpenAt (opening_for c.args.self.now.opening)) c.args.start y c.stays-end.result) c.sum.ensures c.stays-end.ensures in
    record { grid = r.grid; most = r.most; room = r.room; gate = r.gate; stalls = r.stalls; time = r.ends c.stays-end.result stays }

pub returns-clause-work : goal.returns-clause-work
returns-clause-work c = record {
  packet = refl;
  starts = refl;
  stays = subst (λ y. StaysTo (IsOpenAt (opening_for c.args.self.now.opening)) c.args.start y c.stays-end.result) c.sum.ensures c.stays-end.ensures;
  bits = worked_time c.args.self.now.rate c.args.start c.stays-end.result c.difference-time.result c.product-bits.result c.product-bits.ensures c.difference-time.ensures;
}

pub returns-clause-next : goal.returns-clause-next
returns-clause-next c =
    let stays = subst (λ y. StaysTo (IsOpenAt (opening_for c.args.self.now.opening)) c.args.start y c.stays-end.result) c.sum.ensures c.stays-end.ensures in
    after_work c.args.self.now.opening c.next_after_work-self.new.opening c.args.packet c.args.start c.args.left
    record { packet = c.args.packet; start = c.args.start; end = c.stays-end.result; bits = c.product-bits.result }
    c.difference-rest.result c.next_after_work-self.result c.next_after_work-self.ensures.same
    (c.difference-rest.ensures ∙ ap (λ y. c.args.left -ℚ y) c.difference-time.ensures) stays.within c.next_after_work-self.ensures.next
