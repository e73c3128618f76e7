-- What edits of one server give.
use Rattle.std.proofs.Common.{◌≡◌, ℕ, List, Option, Some, None, Bool, true, false, refl, ap, ◌∙◌}
use Rattle.std.specs.Prelude.{Ok, Err, slice_get, ℤ, not, ◌&&◌}
use Rattle.std.proofs.lemmas.Bool.{and_from, not_from_false}
use Rattle.rational.specs.Rational.{ℚ, ◌≤ℚ◌, ◌<ℚ◌}
use Rattle.min_plus.specs.Functions.{zero_q}
use Rattle.net_model.specs.Networks.{Net, NetServer}
use Rattle.net_model.specs.Accepted.{IsLength, IsServer, IsAccepted}
use Rattle.net_model.specs.Quanta.{is_quantum_of}
use Rattle.net_model.proofs.Quanta.{as_many}
use Rattle.net_cells.specs.Numbered.{discipline, discipline_of}
use Rattle.net_edits.specs.declared.change.Change.{Change}
use Rattle.net_edits.specs.Refusals.{Or, bad_value, and_then, only_if}
use Rattle.net_edits.specs.Lookups.{server_number}
use Rattle.net_edits.specs.Values.{whole_that, is_length, quanta_fit}
use Rattle.net_edits.specs.Changed.{changed, put_server, server_changed, at_server, with_rate, with_latency, with_link, with_quantum}
use Rattle.net_edits.specs.Edited.{MadeCurve, Edited, fitting, is_positive, is_negative, is_latency, has_latency, rate_made, latency_made, rate_edited, latency_edited, quantum_edited}
use Rattle.net_edits.specs.Replies.{IsChangeReply}
use Rattle.net_edits.proofs.Signs.{positive_of, nonneg_of}
use Rattle.net_edits.proofs.Steps.{then_ok, passed, stopped, change_reply}
use Rattle.net_edits.proofs.Fitting.{accepted_fits}
use Rattle.net_edits.proofs.Standing.{same_discipline, quanta_stand}
use Rattle.net_edits.proofs.Making.{rate_server, latency_server, link_server, quantum_server}

-- an edit whose test passes and that may stand
pub server_edit : (net : Net) (name : List ℕ) (s : ℕ) (test : Option NetServer → Bool) (change : NetServer → NetServer)
    (made : ℕ → Option NetServer → Option MadeCurve) (old : NetServer) → server_number net name ≡ Ok s
    → slice_get net.servers s ≡ Some old → test (Some old) ≡ true → IsAccepted (put_server net s (change old))
    → and_then (server_number net name)
    (λ (n : ℕ). only_if (test (slice_get net.servers n)) (fitting (at_server change net n) (made n (slice_get net.servers n))))
    ≡ Ok (record { net = put_server net s (change old); made = made s (Some old) })
server_edit net name s test change made old found at passes stands =
    then_ok (server_number net name)
    (λ (n : ℕ). only_if (test (slice_get net.servers n)) (fitting (at_server change net n) (made n (slice_get net.servers n)))) s found
    ∙ ap (λ (o : Option NetServer). only_if (test o) (fitting (server_changed change net s o) (made s o))) at
    ∙ passed (test (Some old)) (fitting (put_server net s (change old)) (made s (Some old))) passes
    ∙ passed (quanta_fit (put_server net s (change old))) (Ok (record { net = put_server net s (change old); made = made s (Some old) }))
    (accepted_fits (put_server net s (change old)) stands)

module _ (net : Net) (s : ℕ) (old : NetServer) (a : IsAccepted net) (at : slice_get net.servers s ≡ Some old) (is : IsServer old) where
  pub rate_stands : (rate : ℚ) → zero_q <ℚ rate → IsAccepted (put_server net s (with_rate rate old))
  rate_stands rate p = same_discipline net s old (with_rate rate old) a at (rate_server old rate p is) refl refl

  pub latency_stands : (latency : ℚ) → zero_q ≤ℚ latency → IsAccepted (put_server net s (with_latency latency old))
  latency_stands latency p = same_discipline net s old (with_latency latency old) a at (latency_server old latency p is) refl refl

  pub link_stands : (link : ℚ) → zero_q ≤ℚ link → IsAccepted (put_server net s (with_link link old))
  link_stands link p = same_discipline net s old (with_link link old) a at (link_server old link p is) refl refl

  pub quantum_stands : (queue bits : ℕ) → IsLength bits → quanta_fit (put_server net s (with_quantum queue bits old)) ≡ true
      → IsAccepted (put_server net s (with_quantum queue bits old))
  quantum_stands queue bits is_length fits =
      quanta_stand net s old (with_quantum queue bits old) a at (quantum_server old queue bits is_length is) refl
      (as_many old.discipline queue bits) fits

-- ---- a rate or a latency
pub rate_edit : (net : Net) (name : List ℕ) (s : ℕ) (rate : ℚ) (old : NetServer) → IsAccepted net → server_number net name ≡ Ok s
    → slice_get net.servers s ≡ Some old → IsServer old → is_positive rate ≡ true
    → rate_edited net name rate
    ≡ Ok (record { net = put_server net s (with_rate rate old); made = rate_made rate s (Some old) })
rate_edit net name s rate old a found at is some =
    server_edit net name s (λ o. is_positive rate) (with_rate rate) (rate_made rate) old found at some
    (rate_stands net s old a at is rate (positive_of rate some))

pub latency_edit : (net : Net) (name : List ℕ) (s : ℕ) (latency : ℚ) (old : NetServer) → IsAccepted net
    → server_number net name ≡ Ok s → slice_get net.servers s ≡ Some old → IsServer old → is_negative latency ≡ false
    → is_latency old.kind ≡ true
    → latency_edited net name latency
    ≡ Ok (record { net = put_server net s (with_latency latency old); made = latency_made latency s (Some old) })
latency_edit net name s latency old a found at is none kind =
    server_edit net name s (λ o. not (is_negative latency) && has_latency o) (with_latency latency)
    (λ n o. latency_made latency n o) old found at
    (and_from (not (is_negative latency)) (is_latency old.kind) (not_from_false (is_negative latency) none) kind)
    (latency_stands net s old a at is latency (nonneg_of latency none))

-- ---- a quantum
-- at the server that was found
pub quantum_found : (net : Net) (name : List ℕ) (s : ℕ) (queue bits : ℤ) (old : NetServer) → server_number net name ≡ Ok s
    → slice_get net.servers s ≡ Some old
    → quantum_edited net name queue bits
    ≡ and_then (whole_that (is_quantum_of old.discipline) queue)
    (λ q. and_then (whole_that is_length bits) (λ b. fitting (put_server net s (with_quantum q b old)) None))
quantum_found net name s queue bits old found at =
    ap (λ (r : Or ℕ). and_then r (λ n. and_then (whole_that (is_quantum_of (discipline net n)) queue) (λ q.
    and_then (whole_that is_length bits) (λ b. fitting (at_server (with_quantum q b) net n) None)))) found
    ∙ ap (λ (o : Option NetServer). and_then (whole_that (is_quantum_of (discipline_of o)) queue) (λ q.
    and_then (whole_that is_length bits) (λ b. fitting (server_changed (with_quantum q b) net s o) None))) at

pub quantum_edit : (net : Net) (name : List ℕ) (s : ℕ) (queue bits : ℤ) (q b : ℕ) (old : NetServer)
    → server_number net name ≡ Ok s → slice_get net.servers s ≡ Some old
    → whole_that (is_quantum_of old.discipline) queue ≡ Ok q → whole_that is_length bits ≡ Ok b
    → quantum_edited net name queue bits ≡ fitting (put_server net s (with_quantum q b old)) None
quantum_edit net name s queue bits q b old found at is_queue is_bits =
    quantum_found net name s queue bits old found at
    ∙ ap (λ (r : Or ℕ). and_then r (λ n. and_then (whole_that is_length bits) (λ m. fitting (put_server net s (with_quantum n m old)) None))) is_queue
    ∙ ap (λ (r : Or ℕ). and_then r (λ m. fitting (put_server net s (with_quantum q m old)) None)) is_bits

-- a bad value where quanta do not fit, else what is put into the network
pub unfit_reply : (after : Net) (r : Or Edited) → r ≡ fitting after None → quanta_fit after ≡ false → r ≡ Err bad_value
unfit_reply after r e unfit = e ∙ stopped (quanta_fit after) _ unfit

pub fitting_reply : (net : Net) (change : Change) (r : Or Edited) → r ≡ fitting (changed change net) None
    → quanta_fit (changed change net) ≡ true → IsAccepted (changed change net) → IsChangeReply net r (Ok change)
fitting_reply net change r e fits stands =
    change_reply r (record { net = changed change net; made = None }) net change (e ∙ passed (quanta_fit (changed change net)) _ fits) refl tt stands
