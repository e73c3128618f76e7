use Rattle.std.proofs.Common.{◌<◌, arith, ◌∙◌, ap, sym}
use Rattle.std.specs.String.{string_bytes}
use Rattle.net_model.specs.Views.{server_of}
use Rattle.std.proofs.lemmas.Slice.Eq.{bytes_eq-Decides}
use Rattle.net_model.proofs.Placed.{made_at, made_of}
use Rattle.net_model.proofs.names.place_of_server.Goals as goal

pub returns-then-eq : goal.returns-then-eq
returns-then-eq c = record {
  server = server_of c.index-servers-i.result;
  is = made_at server_of c.args.servers.now c.loop-i.i c.index-servers-i.result c.loop-i-test.true c.index-servers-i.is;
  named = sym c.as_str.ensures.value ∙ (bytes_eq-Decides _ _).0 (sym c.eq.ensures ∙ c.if-eq.true);
}

pub returns : goal.returns
returns c = λ k h.
    let found = made_of server_of c.args.servers.now k h.server h.is in
    let before : k < c.loop-i.i = omega (arith, found.within, c.loop-i-test.false) in
    c.loop-i.invariant k found.element before (ap (λ s. string_bytes s.name) found.is ∙ ap (λ s. s.name) found.made ∙ h.named)
