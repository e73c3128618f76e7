use Rattle.std.proofs.Common.{ℕ, List, sym, subst, rules, w64}
use Rattle.std.specs.Prelude.{ℤ}
use Rattle.std.proofs.lemmas.Int.{to_z-of_z}
use mir.Val.{SFits, of_z, to_z}
use Rattle.net_model.specs.declared.edit.Edit.{Edit}
use Rattle.net_model.specs.declared.edit.PathEntry.{PathEntry}
use Rattle.net_edits.specs.Edited.{edited, rate_edited, latency_edited, link_edited, quantum_edited, bucket_edited, stair_edited, packet_edited, route_edited, drop_edited}
use Rattle.net_edits.specs.Replies.{IsChangeReply, IsOverNone}
use Rattle.net_edits.proofs.OverNone.{link_none, quantum_none, bucket_none, packet_none, route_none, drop_none, add_none}
use Rattle.net_edits.proofs.all_kinds.change_of.Goals as goal

pub returns-in-Rate-clause-reply : goal.returns-in-Rate-clause-reply
returns-in-Rate-clause-reply c =
    let net = c.args.net.now in
    let r = c.rate_edited.result in
    subst (λ (e : Edit). IsChangeReply net (edited net e) r) (sym c.in-Rate.is)
    (subst (λ (bytes : List ℕ). IsChangeReply net (rate_edited net bytes c.in-Rate.rate) r) c.deref.ensures c.rate_edited.ensures.reply)

pub returns-in-Latency-clause-reply : goal.returns-in-Latency-clause-reply
returns-in-Latency-clause-reply c =
    let net = c.args.net.now in
    let r = c.latency_edited.result in
    subst (λ (e : Edit). IsChangeReply net (edited net e) r) (sym c.in-Latency.is)
    (subst (λ (bytes : List ℕ). IsChangeReply net (latency_edited net bytes c.in-Latency.latency) r) c.deref-in-Latency.ensures c.latency_edited.ensures.reply)

pub returns-in-Link-clause-reply : goal.returns-in-Link-clause-reply
returns-in-Link-clause-reply c =
    let net = c.args.net.now in
    let r = c.link_edited.result in
    subst (λ (e : Edit). IsChangeReply net (edited net e) r) (sym c.in-Link.is)
    (subst (λ (bytes : List ℕ). IsChangeReply net (link_edited net bytes c.in-Link.link) r) c.deref-in-Link.ensures c.link_edited.ensures)

pub returns-in-Bucket-clause-reply : goal.returns-in-Bucket-clause-reply
returns-in-Bucket-clause-reply c =
    let net = c.args.net.now in
    let r = c.bucket_edited.result in
    subst (λ (e : Edit). IsChangeReply net (edited net e) r) (sym c.in-Bucket.is)
    (subst (λ (bytes : List ℕ). IsChangeReply net (bucket_edited net bytes c.in-Bucket.burst c.in-Bucket.rate) r) c.deref-in-Bucket.ensures c.bucket_edited.ensures)

pub returns-in-Stair-clause-reply : goal.returns-in-Stair-clause-reply
returns-in-Stair-clause-reply c =
    let net = c.args.net.now in
    let r = c.stair_edited.result in
    subst (λ (e : Edit). IsChangeReply net (edited net e) r) (sym c.in-Stair.is)
    (subst (λ (bytes : List ℕ). IsChangeReply net (stair_edited net bytes c.in-Stair.period c.in-Stair.jitter) r) c.deref-in-Stair.ensures c.stair_edited.ensures.reply)

pub returns-in-Drop-clause-reply : goal.returns-in-Drop-clause-reply
returns-in-Drop-clause-reply c =
    let net = c.args.net.now in
    let r = c.drop_edited.result in
    subst (λ (e : Edit). IsChangeReply net (edited net e) r) (sym c.in-Drop.is)
    (subst (λ (bytes : List ℕ). IsChangeReply net (drop_edited net bytes) r) c.deref-in-Drop.ensures c.drop_edited.ensures)

pub returns-in-Quantum-clause-reply : goal.returns-in-Quantum-clause-reply
returns-in-Quantum-clause-reply c =
    let net = c.args.net.now in
    let r = c.quantum_edited.result in
    let queue = c.in-Quantum.queue in
    let bits = c.in-Quantum.bits in
    let first : SFits w64 queue = search rules in
    let second : SFits w64 bits = search rules in
    subst (λ (e : Edit). IsChangeReply net (edited net e) r) (sym c.in-Quantum.is)
    (subst (λ (bytes : List ℕ). IsChangeReply net (quantum_edited net bytes queue bits) r) c.deref-in-Quantum.ensures
    (subst (λ (z : ℤ). IsChangeReply net (quantum_edited net c.deref-in-Quantum.result.now queue z) r) (to_z-of_z w64 bits second)
    (subst (λ (z : ℤ). IsChangeReply net (quantum_edited net c.deref-in-Quantum.result.now z (to_z w64 (of_z w64 bits))) r) (to_z-of_z w64 queue first)
    c.quantum_edited.ensures)))

pub returns-in-Packet-clause-reply : goal.returns-in-Packet-clause-reply
returns-in-Packet-clause-reply c =
    let net = c.args.net.now in
    let r = c.packet_edited.result in
    let bits = c.in-Packet.bits in
    let fits : SFits w64 bits = search rules in
    subst (λ (e : Edit). IsChangeReply net (edited net e) r) (sym c.in-Packet.is)
    (subst (λ (bytes : List ℕ). IsChangeReply net (packet_edited net bytes bits) r) c.deref-in-Packet.ensures
    (subst (λ (z : ℤ). IsChangeReply net (packet_edited net c.deref-in-Packet.result.now z) r) (to_z-of_z w64 bits fits)
    c.packet_edited.ensures))

pub returns-in-Route-clause-reply : goal.returns-in-Route-clause-reply
returns-in-Route-clause-reply c =
    let net = c.args.net.now in
    let r = c.route_edited.result in
    subst (λ (e : Edit). IsChangeReply net (edited net e) r) (sym c.in-Route.is)
    (subst (λ (bytes : List ℕ). IsChangeReply net (route_edited net bytes c.in-Route.path.items) r) c.deref-in-Route.ensures
    (subst (λ (entries : List PathEntry). IsChangeReply net (route_edited net c.deref-in-Route.result.now entries) r) c.deref-in-Route-2.ensures.value
    c.route_edited.ensures))

-- ---- want of memory
pub returns-in-Rate-clause-memory : goal.returns-in-Rate-clause-memory
returns-in-Rate-clause-memory c = λ told.
    let net = c.args.net.now in
    subst (λ (e : Edit). IsOverNone (edited net e)) (sym c.in-Rate.is)
    (subst (λ (bytes : List ℕ). IsOverNone (rate_edited net bytes c.in-Rate.rate)) c.deref.ensures (c.rate_edited.ensures.memory told))

pub returns-in-Latency-clause-memory : goal.returns-in-Latency-clause-memory
returns-in-Latency-clause-memory c = λ told.
    let net = c.args.net.now in
    subst (λ (e : Edit). IsOverNone (edited net e)) (sym c.in-Latency.is)
    (subst (λ (bytes : List ℕ). IsOverNone (latency_edited net bytes c.in-Latency.latency)) c.deref-in-Latency.ensures
    (c.latency_edited.ensures.memory told))

pub returns-in-Stair-clause-memory : goal.returns-in-Stair-clause-memory
returns-in-Stair-clause-memory c = λ told.
    let net = c.args.net.now in
    subst (λ (e : Edit). IsOverNone (edited net e)) (sym c.in-Stair.is)
    (subst (λ (bytes : List ℕ). IsOverNone (stair_edited net bytes c.in-Stair.period c.in-Stair.jitter)) c.deref-in-Stair.ensures
    (c.stair_edited.ensures.memory told))

pub returns-in-Link-clause-memory : goal.returns-in-Link-clause-memory
returns-in-Link-clause-memory c = λ told. subst (λ (e : Edit). IsOverNone (edited c.args.net.now e)) (sym c.in-Link.is) (link_none c.args.net.now _ _)

pub returns-in-Quantum-clause-memory : goal.returns-in-Quantum-clause-memory
returns-in-Quantum-clause-memory c = λ told. subst (λ (e : Edit). IsOverNone (edited c.args.net.now e)) (sym c.in-Quantum.is) (quantum_none c.args.net.now _ c.in-Quantum.queue c.in-Quantum.bits)

pub returns-in-Bucket-clause-memory : goal.returns-in-Bucket-clause-memory
returns-in-Bucket-clause-memory c = λ told. subst (λ (e : Edit). IsOverNone (edited c.args.net.now e)) (sym c.in-Bucket.is) (bucket_none c.args.net.now _ _ _)

pub returns-in-Packet-clause-memory : goal.returns-in-Packet-clause-memory
returns-in-Packet-clause-memory c = λ told. subst (λ (e : Edit). IsOverNone (edited c.args.net.now e)) (sym c.in-Packet.is) (packet_none c.args.net.now _ c.in-Packet.bits)

pub returns-in-Route-clause-memory : goal.returns-in-Route-clause-memory
returns-in-Route-clause-memory c = λ told. subst (λ (e : Edit). IsOverNone (edited c.args.net.now e)) (sym c.in-Route.is) (route_none c.args.net.now _ _)

pub returns-in-Drop-clause-memory : goal.returns-in-Drop-clause-memory
returns-in-Drop-clause-memory c = λ told. subst (λ (e : Edit). IsOverNone (edited c.args.net.now e)) (sym c.in-Drop.is) (drop_none c.args.net.now _)

pub returns-in-Add-clause-memory : goal.returns-in-Add-clause-memory
returns-in-Add-clause-memory c = λ told. subst (λ (e : Edit). IsOverNone (edited c.args.net.now e)) (sym c.in-Add.is) (add_none c.args.net.now _ c.in-Add.bits c.in-Add.burst c.in-Add.rate c.in-Add.path.items)
