use Rattle.std.proofs.Common.{◌≡◌, ◌≤◌, ◌++◌, ◌∷◌, [], List, ℕ, ◌+◌, length, map, take, drop, refl, sym, ap, ◌∙◌, subst, arith}
use Rattle.std.proofs.lemmas.List.{map-append, drop_all}
use Rattle.std.proofs.lemmas.Result.{err_from_is_err_and}
use Rattle.net_model.specs.declared.edit.Edit.{Edit}
use Rattle.commands.specs.edit_report.Said.{EditSaid, said_view}
use Rattle.commands.specs.edit.NetHistories.{history_of}
use Rattle.commands.specs.edit.Answered.{AreAnswered}
use Rattle.commands.proofs.edit.InTurn.{IsLeft, cut_at, all_left, answered_at, rest_at, one_less, no_deeper, at_most, none_left, counts_cut}
use Rattle.commands.specs.edit.EditCounts.{WorkOfEdits}
use Rattle.commands.proofs.edit.rows.all_answered.Given.{Over}
use Rattle.commands.proofs.edit.rows.all_answered.Goals.{After-answered}
use Rattle.commands.proofs.edit.rows.all_answered.Goals as goal

pub answered-requires : goal.answered-requires
answered-requires g c = λ other. omega arith

pub loop-edit-init : goal.loop-edit-init
loop-edit-init g c = record {
  answered = rw c.new-answers.ensures.items refl;
  deep = omega (arith, ap length c.requires.first);
  rises = omega arith;
  left = all_left (history_of c.args.store.now) c.args.edits.now (g.E.Evaluator.count c.args.eval.now);
  same = refl;
}

pub loop-edit-preserved : goal.loop-edit-preserved
loop-edit-preserved g c =
    let edits = c.args.edits.now in
    let i = c.loop-edit.edit-index in
    let edit = c.edit-item.result in
    let old = history_of c.loop-edit.store in
    let next = history_of c.answered.new.store in
    let one = c.in_ok-said.ensures.answered in
    let told : map said_view c.push.new.self.items ≡ map said_view c.loop-edit.answers.items ++ said_view c.in_ok-said.said ∷ [] =
    ap (map said_view) c.in_ok-push.ensures.items
    ∙ map-append said_view c.loop-edit.answers.items (c.in_ok-said.said ∷ []) in
    record {
      answered =
          subst (λ (ws : List EditSaid). AreAnswered (history_of c.args.store.now) (take (i + 1) edits) ws next) (sym told)
          (answered_at (history_of c.args.store.now) edits i edit (map said_view c.loop-edit.answers.items) old
          (said_view c.in_ok-said.said) next (omega arith) c.edit-item.is c.loop-edit.invariant.answered one);
      deep = let more = no_deeper old edit (said_view c.in_ok-said.said) next one in omega (arith, more, c.loop-edit.invariant.deep);
      rises = omega (arith, c.answered.ensures.counts.rises, c.loop-edit.invariant.rises);
      left = λ all done w.
          one_less old next edit (drop (i + 1) edits) (said_view c.in_ok-said.said) (g.E.Evaluator.count c.args.eval.now)
          (g.E.Evaluator.count c.loop-edit.eval) (g.E.Evaluator.count c.answered.new.eval) all done one
          c.answered.ensures.counts
          (subst (λ (es : List Edit). IsLeft old es (g.E.Evaluator.count c.args.eval.now)
          (g.E.Evaluator.count c.loop-edit.eval) all done) (rest_at edits i edit (omega arith) c.edit-item.is)
          (c.loop-edit.invariant.left all done w));
      same = c.answered.ensures.same ∙ c.loop-edit.invariant.same;
    }

-- ---- what is counted
cut : (g : Over) (c : After-answered g) → (all done : ℕ) → WorkOfEdits (history_of c.args.store.now) c.args.edits.now all done
    → g.E.Evaluator.count c.answered.new.eval ≤ g.E.Evaluator.count c.args.eval.now + all
cut g c all done w =
    cut_at (history_of c.loop-edit.store) c.args.edits.now c.loop-edit.edit-index c.edit-item.result
    (g.E.Evaluator.count c.args.eval.now) (g.E.Evaluator.count c.loop-edit.eval) (g.E.Evaluator.count c.answered.new.eval)
    all done (omega arith) c.edit-item.is c.answered.ensures.counts.most (c.loop-edit.invariant.left all done w)

pub returns-in_err-said-clause-counts : goal.returns-in_err-said-clause-counts
returns-in_err-said-clause-counts g c =
    let p = err_from_is_err_and c.from_residual.result c.from_residual.ensures.1 in
    counts_cut (history_of c.args.store.now) c.args.edits.now (g.E.Evaluator.count c.args.eval.now) (g.E.Evaluator.count c.answered.new.eval)
    c.from_residual.result p.0 p.1 (omega (arith, c.answered.ensures.counts.rises, c.loop-edit.invariant.rises))
    (cut g (goal.at.returns-in_err-said-clause-counts g c).After-answered)

pub returns-in_err-push-clause-counts : goal.returns-in_err-push-clause-counts
returns-in_err-push-clause-counts g c =
    let r = c.from_residual-in_err-push in
    let p = err_from_is_err_and r.result r.ensures.1 in
    counts_cut (history_of c.args.store.now) c.args.edits.now (g.E.Evaluator.count c.args.eval.now) (g.E.Evaluator.count c.answered.new.eval)
    r.result p.0 p.1 (omega (arith, c.answered.ensures.counts.rises, c.loop-edit.invariant.rises))
    (cut g (goal.at.returns-in_err-push-clause-counts g c).After-answered)

pub returns-clause-counts : goal.returns-clause-counts
returns-clause-counts g c =
    let edits = c.args.edits.now in
    let i = c.loop-edit.edit-index in
    let now = history_of c.loop-edit.store in
    let before = g.E.Evaluator.count c.args.eval.now in
    let after = g.E.Evaluator.count c.loop-edit.eval in
    record {
      rises = c.loop-edit.invariant.rises;
      most = λ all done w. at_most now (drop i edits) before after all done (c.loop-edit.invariant.left all done w);
      least = λ all done w.
          none_left now before after all done
          (subst (λ (es : List Edit). IsLeft now es before after all done) (drop_all i edits (omega arith)) (c.loop-edit.invariant.left all done w));
    }
