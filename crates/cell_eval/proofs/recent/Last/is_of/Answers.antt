use Rattle.std.proofs.Common.{◌≡◌, sym, ◌∙◌, subst}
use Rattle.upp_curve.specs.Normal.{IsNormal}
use Rattle.upp_curve.proofs.OneForm.{normal_unique}
use Rattle.cell_eval.specs.Recent.{IsMadeOf}
use Rattle.cell_eval.proofs.LastServices.{made_of_same}
use Rattle.cell_eval.proofs.recent.Last.is_of.Goals as goal

pub returns : goal.returns
returns c = λ yes.
    let l = c.self.inside in
    let own : l.service ≡ c.args.service.now =
    normal_unique l.service c.args.service.now c.keeps-3.ensures.normal c.keeps.ensures.normal (c.equal.ensures.0 c.if-not-equal.false) in
    let kept : IsNormal c.deref-2.result.now = subst IsNormal (c.deref.ensures ∙ sym c.deref-2.ensures) c.keeps-4.ensures.normal in
    let before : l.higher.value ≡ c.args.higher.now =
    sym c.deref-2.ensures ∙ normal_unique c.deref-2.result.now c.args.higher.now kept c.keeps-2.ensures.normal (c.equal-2.ensures.0 yes) in
    made_of_same l.service c.args.service.now l.higher.value c.args.higher.now l.lower c.args.lower c.args.self.now own before c.if-self-lower.false
    (subst (IsMadeOf l.service l.higher.value l.lower) c.self.view_is c.self.invariant)
