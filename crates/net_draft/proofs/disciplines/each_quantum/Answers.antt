use Rattle.std.proofs.Common.{◌≡◌, ◌+◌, [], ◌∷◌, ◌++◌, length, map, Ok, rules, subst, ap, ◌∙◌}
use Rattle.std.proofs.lemmas.Result.{err_from_is_err_and}
use Rattle.std.proofs.lemmas.List.{length_push}
use Rattle.std.proofs.lemmas.List.Elements.{All-push}
use Rattle.toml.specs.View.{view}
use Rattle.net_model.specs.Accepted.{IsLength}
use Rattle.net_draft.specs.Faults.{Fails, nth}
use Rattle.net_draft.specs.Tables.{each, quantum_at}
use Rattle.net_draft.proofs.Each.{goes_on, stops, is_done}
use Rattle.net_draft.proofs.disciplines.each_quantum.Goals as goal

pub returns-in_err-bits-clause-value : goal.returns-in_err-bits-clause-value
returns-in_err-bits-clause-value c =
    let p = err_from_is_err_and c.from_residual.result c.from_residual.ensures.1 in
    let here : nth c.args.place.now c.len.result ≡ nth c.args.place.now (length c.loop-entry.quanta.items) = search rules in
    let e = c.in_err-bits.field-0.0 in
    rw (p.1, p.2) (stops (λ before. quantum_at) c.args.place.now c.loop-entry.quanta.items c.args.entries.now c.loop-entry.entry-index c.entry-item.result e
    (each (λ before. quantum_at) c.args.place.now [] (map view c.args.entries.now)) c.loop-entry-test.true c.entry-item.is
    (subst (λ q. Fails e (quantum_at q (view c.entry-item.result))) here c.in_err-bits.ensures.value) c.loop-entry.invariant.value)

pub loop-entry-preserved : goal.loop-entry-preserved
loop-entry-preserved c =
    let here : nth c.args.place.now c.len.result ≡ nth c.args.place.now (length c.loop-entry.quanta.items) = search rules in
    let x = c.in_ok-bits.bits in
    let xs = c.loop-entry.quanta.items in
    let grown : c.push.new.self.items ≡ xs ++ x ∷ [] = c.in_ok-push.ensures.items in
    record {
      value = rw grown (goes_on (λ before. quantum_at) c.args.place.now xs c.args.entries.now c.loop-entry.entry-index c.entry-item.result x
          (each (λ before. quantum_at) c.args.place.now [] (map view c.args.entries.now)) c.loop-entry-test.true c.entry-item.is
          (subst (λ q. quantum_at q (view c.entry-item.result) ≡ Ok x) here c.in_ok-bits.ensures.value) c.loop-entry.invariant.value);
      count = rw grown (length_push xs x ∙ ap (λ n. n + 1) c.loop-entry.invariant.count);
      range = rw grown (All-push IsLength xs x c.loop-entry.invariant.range c.in_ok-bits.ensures.range);
    }

pub returns-clause-value : goal.returns-clause-value
returns-clause-value c =
    is_done (λ before. quantum_at) c.args.place.now c.loop-entry.quanta.items c.args.entries.now c.loop-entry.entry-index (each (λ before. quantum_at) c.args.place.now [] (map view c.args.entries.now))
    c.loop-entry-test.false c.loop-entry.invariant.value
