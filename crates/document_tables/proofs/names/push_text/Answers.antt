use Rattle.std.specs.String.{string_bytes}
use Rattle.std.proofs.Common.{◌≡◌, map, length, refl, sym, subst, arith}
use Rattle.std.proofs.lemmas.List.{length-map}
use Rattle.document_tables.specs.Names.{AreNumbersOf}
use Rattle.document_tables.proofs.Named.{numbered, pushed}
use Rattle.document_tables.proofs.names.push_text.Goals as goal

pub returns-clause-numbered : goal.returns-clause-numbered
returns-clause-numbered c =
    let name = c.args.name.now in
    let texts = c.args.texts.now.items in
    let names = map string_bytes texts in
    let many = length-map texts string_bytes in
    let next : c.len-number.result ≡ length names = omega (arith, many, c.len-number.ensures) in
    let are = numbered c.args.numbers.now c.insert.new.self c.in_ok-from_str.field-0 c.len-number.result names name c.requires.numbered c.requires.new c.in_ok-from_str.ensures.ok next c.in_ok-insert.ensures.updates in
    let more = pushed texts c.reserve.new.self.items c.push_reserved.new.self.items c.in_ok-text.text names name refl c.reserve.ensures.items c.push_reserved.ensures.items c.in_ok-text.ensures.ok in
    subst (AreNumbersOf c.insert.new.self) (sym more) are

pub returns-clause-grown : goal.returns-clause-grown
returns-clause-grown c =
    let texts = c.args.texts.now.items in
    pushed texts c.reserve.new.self.items c.push_reserved.new.self.items c.in_ok-text.text (map string_bytes texts) c.args.name.now refl c.reserve.ensures.items c.push_reserved.ensures.items c.in_ok-text.ensures.ok
