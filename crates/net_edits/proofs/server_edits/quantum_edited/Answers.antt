use Rattle.std.proofs.Common.{w64, ◌≡◌, ℕ, Ok, refl, sym, ap, ap₂, ◌∙◌, subst, None, true}
use Rattle.std.specs.Prelude.{ℤ}
use Rattle.std.proofs.lemmas.Int.{to_z-of_z}
use Rattle.std.proofs.lemmas.Result.{err_from_is_err_and}
use Rattle.net_model.specs.Accepted.{IsAccepted}
use Rattle.net_model.specs.Networks.{NetServer}
use Rattle.net_model.specs.Views.{server_of}
use Rattle.net_model.specs.Quanta.{is_quantum_of}
use Rattle.net_edits.specs.Refusals.{and_then}
use Rattle.net_edits.specs.Values.{whole_that, is_length, quanta_fit}
use Rattle.net_edits.specs.Changed.{put_server, with_quantum}
use Rattle.net_edits.specs.Edited.{fitting, quantum_edited}
use Rattle.net_edits.specs.Replies.{Refuses, IsChange}
use Rattle.net_edits.proofs.Steps.{refused_reply, same_refused, then_refused}
use Rattle.net_edits.proofs.FlowEdits.{bits_length}
use Rattle.net_edits.proofs.ServerEdits.{quantum_stands, quantum_found, quantum_edit, unfit_reply, fitting_reply}
use Rattle.net_edits.proofs.server_edits.quantum_edited.Goals as goal
use Rattle.net_edits.proofs.server_edits.quantum_edited.Goals.{In_ok-bits, In_ok-server}

pub returns-in_err-queue : goal.returns-in_err-queue
returns-in_err-queue c =
    let p = err_from_is_err_and c.from_residual-in_err-queue.result c.from_residual-in_err-queue.ensures.1 in
    let net = c.args.net.now in
    let name = c.args.name.now in
    let s = c.in_ok-number.number in
    let found = c.server_at-old in
    let old = server_of found.result.now in
    let e = c.in_err-queue.field-0.0 in
    rw (p.1, p.2)
    (refused_reply (IsChange (quantum_edited net name c.args.queue c.args.bits) net) (quantum_edited net name c.args.queue c.args.bits) e
    (same_refused (quantum_edited net name c.args.queue c.args.bits)
    (and_then (whole_that (is_quantum_of old.discipline) c.args.queue)
    (λ q. and_then (whole_that is_length c.args.bits) (λ b. fitting (put_server net s (with_quantum q b old)) None)))
    e (quantum_found net name s c.args.queue c.args.bits old c.in_ok-number.ensures.number found.ensures.server)
    (then_refused (whole_that (is_quantum_of old.discipline) c.args.queue)
    (λ q. and_then (whole_that is_length c.args.bits) (λ b. fitting (put_server net s (with_quantum q b old)) None)) e
    (subst (λ (z : ℤ). Refuses (whole_that (is_quantum_of old.discipline) z) e) (to_z-of_z w64 c.args.queue c.ranges.queue)
    c.in_err-queue.ensures))))

-- ---- the two numbers
size : (c : In_ok-bits) → whole_that is_length c.args.bits ≡ Ok c.in_ok-bits.bits
size c =
    subst (λ (z : ℤ). whole_that is_length z ≡ Ok c.in_ok-bits.bits) (to_z-of_z w64 c.args.bits c.ranges.bits) c.in_ok-bits.ensures

numbered : (c : In_ok-bits) → whole_that (is_quantum_of (server_of c.server_at-old.result.now).discipline) c.args.queue ≡ Ok c.in_ok-queue.queue
numbered c =
    subst (λ (z : ℤ). whole_that (is_quantum_of (server_of c.server_at-old.result.now).discipline) z ≡ Ok c.in_ok-queue.queue)
    (to_z-of_z w64 c.args.queue c.ranges.queue) c.in_ok-queue.ensures

-- ---- the server with the quantum
is_edit : (c : In_ok-server) (q b : ℕ) → q ≡ c.in_ok-queue.queue → b ≡ c.in_ok-bits.bits
    → whole_that (is_quantum_of (server_of c.server_at-old.result.now).discipline) c.args.queue ≡ Ok q
    → whole_that is_length c.args.bits ≡ Ok b
    → quantum_edited c.args.net.now c.args.name.now c.args.queue c.args.bits
    ≡ fitting (put_server c.args.net.now c.in_ok-number.number (server_of c.in_ok-server.server)) None
is_edit c q b is_q is_b numbered size =
    let net = c.args.net.now in
    let s = c.in_ok-number.number in
    let found = c.server_at-old in
    let old = server_of found.result.now in
    quantum_edit net c.args.name.now s c.args.queue c.args.bits q b old c.in_ok-number.ensures.number found.ensures.server numbered size
    ∙ ap₂ (λ (n m : ℕ). fitting (put_server net s (with_quantum n m old)) None) is_q is_b
    ∙ ap (λ (m : NetServer). fitting (put_server net s m) None) (sym c.in_ok-server.ensures)

pub returns-then-not-server_fits : goal.returns-then-not-server_fits
returns-then-not-server_fits c =
    let at = goal.at.returns-then-not-server_fits c in
    unfit_reply (put_server c.args.net.now c.in_ok-number.number (server_of c.in_ok-server.server)) _
    (is_edit at.In_ok-server c.in_ok-queue.queue c.in_ok-bits.bits refl refl (numbered at.In_ok-bits) (size at.In_ok-bits))
    (sym c.server_fits.ensures ∙ c.if-not-server_fits.true)

pub returns : goal.returns
returns c =
    let at = goal.at.returns c in
    let net = c.args.net.now in
    let s = c.in_ok-number.number in
    let found = c.server_at-old in
    let old = server_of found.result.now in
    let q = c.in_ok-queue.queue in
    let b = c.in_ok-bits.bits in
    let long = size at.In_ok-bits in
    let fits : quanta_fit (put_server net s (server_of c.in_ok-server.server)) ≡ true = sym c.server_fits.ensures ∙ c.if-not-server_fits.false in
    fitting_reply net _ _ (is_edit at.In_ok-server q b refl refl (numbered at.In_ok-bits) long) fits
    (subst (λ (m : NetServer). IsAccepted (put_server net s m)) (sym c.in_ok-server.ensures)
    (quantum_stands net s old found.ensures.accepted found.ensures.server found.ensures.kept q b (bits_length c.args.bits b long)
    (ap (λ (m : NetServer). quanta_fit (put_server net s m)) (sym c.in_ok-server.ensures) ∙ fits)))
