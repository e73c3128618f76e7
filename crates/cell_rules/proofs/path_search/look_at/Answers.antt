use Rattle.std.proofs.Common.{List, Bool, false, refl, inr, sym, subst, ◌∙◌}
use Rattle.std.proofs.lemmas.Result.{on_ok_weaker}
use Rattle.cell_rules.specs.Finding.{IsTold}
use Rattle.cell_rules.proofs.PathMarks.{looked_here}
use Rattle.cell_rules.proofs.path_search.look_at.Goals as goal

pub returns-then-not-is_marked : goal.returns-then-not-is_marked
returns-then-not-is_marked c = record {
  told = false;
  noted = (refl, refl);
  why = inr (sym c.is_marked.ensures ∙ c.if-not-is_marked.true, refl);
}

pub returns : goal.returns
returns c =
    let old = c.args.old.now in
    let net = c.args.net.now in
    let cell = c.args.cell in
    let flags = c.args.flags.now.items in
    let here = c.in_ok-here.here in
    let told = subst (λ (fs : List Bool). IsTold old net fs cell here) c.deref.ensures.value c.in_ok-here.ensures in
    on_ok_weaker c.note.result
    (looked_here old net c.args.marks.now cell flags c.note.new.flags.items c.args.touched.now.items c.note.new.touched.items here
    (sym c.is_marked.ensures ∙ c.if-not-is_marked.false) told) c.note.ensures
