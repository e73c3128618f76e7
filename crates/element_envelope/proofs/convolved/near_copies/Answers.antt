use Rattle.std.proofs.Common.{sym, subst}
use Rattle.element_envelope.specs.NearStarts.{IsNear}
use Rattle.element_envelope.proofs.Paces.{paced}
use Rattle.element_envelope.proofs.NearCopies.{start_among, near_room, ok_near}
use Rattle.element_envelope.proofs.convolved.near_copies.Goals as goal

pub least_copies-requires-2 : goal.least_copies-requires-2
least_copies-requires-2 c =
    let a = c.args in
    let p = c.in-Some.pace in
    near_room a.from a.end p.slope p.more c.index-starts-low.result a.starts.now c.deref.result.now a.g.now
    (subst (IsNear p.slope p.more c.index-starts-low.result a.starts.now) (sym c.deref.ensures.value) c.in_ok-near.ensures) c.requires.room

pub returns : goal.returns
returns c =
    let a = c.args in
    let p = c.in-Some.pace in
    let own = start_among a.starts.now c.lowest-low.result c.index-starts-low.result c.lowest-low.ensures c.index-starts-low.is in
    ok_near c.least_copies-2.result a.from a.end p.slope p.more c.index-starts-low.result a.starts.now c.deref.result.now a.g.now own c.requires.room
    (paced a.g.now p.slope p.more a.end c.requires.room.copied.starts c.requires.low c.in-Some.ensures)
    (subst (IsNear p.slope p.more c.index-starts-low.result a.starts.now) (sym c.deref.ensures.value) c.in_ok-near.ensures) c.least_copies-2.ensures
