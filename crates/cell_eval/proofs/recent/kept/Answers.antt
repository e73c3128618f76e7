use Rattle.std.proofs.Common.{◌≡◌, rules, refl, sym}
use Rattle.std.specs.Prelude.{Ok}
use Rattle.net_cells.specs.Meanings.{curve}
use Rattle.net_cells.specs.cell_table.Values.{answer_of, meaning_of}
use Rattle.cell_eval.proofs.LastServices.{made_by, made_of_same}
use Rattle.cell_eval.proofs.recent.kept.Goals as goal

pub invariant_of-result : goal.invariant_of-result
invariant_of-result c =
    let own : c.args.service.now ≡ c.in-Ok.own = sym c.in-Ok.ensures in
    let before : c.args.higher.now.value ≡ c.in-Ok-clone.before.value = search rules in
    let is : answer_of meaning_of c.args.made.now ≡ Ok (curve c.in-Ok-clone-2.made.value) = search rules in
    made_of_same c.args.service.now c.in-Ok.own c.args.higher.now.value c.in-Ok-clone.before.value c.args.lower c.args.lower
    c.in-Ok-clone-2.made.value own before refl
    (made_by c.args.service.now c.args.higher.now.value c.args.lower (answer_of meaning_of c.args.made.now) c.in-Ok-clone-2.made.value is c.requires)
