use Rattle.std.proofs.Common.{refl, subst, ⊎_elim}
use Rattle.run_check.specs.Sites.{TakesOn, IsWrongBy}
use Rattle.run_check.proofs.SiteSteps.{untrue}
use Rattle.run_check.proofs.RowSteps.{in_time, runs_forward, by_wrong, rest_fits, left_fine, of_packet, worked}
use Rattle.run_check.proofs.site.Site.work_at.Goals as goal

pub returns-then-not-takes_on-clause-answer : goal.returns-then-not-takes_on-clause-answer
returns-then-not-takes_on-clause-answer c = λ d room σ h f.
    let site = c.args.self.now in
    let w = c.args.piece.now in
    let t = subst (TakesOn d room σ site c.takes_on.new.self w.packet) c.if-not-takes_on.true (c.takes_on.ensures d room σ h) in (
      λ k. ⊎_elim (in_time d room σ site c.args.end w.start c.is_out_of_time.result h c.is_out_of_time.ensures c.if-is_out_of_time.false)
          (λ l. untrue c.is_less.result (c.is_less.ensures.less.1 l) c.if-is_less.false) k,
      c.if-not-known.false,
      λ k. untrue c.is_wrong.result (c.is_wrong.ensures.1 (by_wrong d room σ site w c.args.known.now.fresh c.rest-rest.result h c.rest-rest.ensures k)) c.if-is_wrong.false,
      t.0,
      t.1,
    )

pub difference-left-requires : goal.difference-left-requires
difference-left-requires c =
    let r = c.requires.room in
    rest_fits r.grid r.most c.args.self.now c.args.known.now.fresh c.rest-rest.result c.args.piece.now r.room r.on_grid c.rest-rest.ensures
    (λ k. untrue c.is_wrong.result (c.is_wrong.ensures.1 k) c.if-is_wrong.false)

pub is_faster-requires-clause-forward : goal.is_faster-requires-clause-forward
is_faster-requires-clause-forward c =
    runs_forward c.args.self.now c.args.piece.now c.rest-rest.result (λ k. untrue c.is_wrong.result (c.is_wrong.ensures.1 k) c.if-is_wrong.false)

pub is_faster-requires-clause-fits : goal.is_faster-requires-clause-fits
is_faster-requires-clause-fits c = c.requires.room.paced

pub returns-then-is_faster-clause-answer : goal.returns-then-is_faster-clause-answer
returns-then-is_faster-clause-answer c = λ d room σ h f.
    let site = c.args.self.now in
    let w = c.args.piece.now in
    let k = subst (TakesOn d room σ site c.takes_on.new.self w.packet) c.if-not-takes_on.false (c.takes_on.ensures d room σ h) in
    let right : IsWrongBy σ w c.args.known.now.fresh → ⊥ = λ z. untrue c.is_wrong.result (c.is_wrong.ensures.1 (by_wrong d room σ site w c.args.known.now.fresh c.rest-rest.result h c.rest-rest.ensures z)) c.if-is_wrong.false in (
      of_packet d room σ site c.takes_on.new.self c.args.end c.args.known.now.entered c.args.known.now.fresh w
          (in_time d room σ site c.args.end w.start c.is_out_of_time.result h c.is_out_of_time.ensures c.if-is_out_of_time.false)
          (λ l. untrue c.is_less.result (c.is_less.ensures.less.1 l) c.if-is_less.false) c.if-not-known.false right k,
      c.is_faster.ensures.0 c.if-is_faster.true,
    )

pub returns-clause-answer : goal.returns-clause-answer
returns-clause-answer c = λ d room σ h f.
    let site = c.args.self.now in
    let w = c.args.piece.now in
    let k = subst (TakesOn d room σ site c.takes_on.new.self w.packet) c.if-not-takes_on.false (c.takes_on.ensures d room σ h) in
    let right : IsWrongBy σ w c.args.known.now.fresh → ⊥ = λ z. untrue c.is_wrong.result (c.is_wrong.ensures.1 (by_wrong d room σ site w c.args.known.now.fresh c.rest-rest.result h c.rest-rest.ensures z)) c.if-is_wrong.false in
    record {
      of_packet = of_packet d room σ site c.takes_on.new.self c.args.end c.args.known.now.entered c.args.known.now.fresh w
          (in_time d room σ site c.args.end w.start c.is_out_of_time.result h c.is_out_of_time.ensures c.if-is_out_of_time.false)
          (λ l. untrue c.is_less.result (c.is_less.ensures.less.1 l) c.if-is_less.false) c.if-not-known.false right k;
      in_pace = λ z. untrue c.is_faster.result (c.is_faster.ensures.1 z) c.if-is_faster.false;
      after_it = worked d room σ site c.takes_on.new.self _ w c.args.known.now.fresh c.rest-rest.result c.difference-left.result h f c.rest-rest.ensures k right c.difference-left.ensures
          refl refl refl refl;
    }

pub returns-clause-fine : goal.returns-clause-fine
returns-clause-fine c = λ grid most g e.
    left_fine grid most c.args.self.now c.args.known.now.fresh c.rest-rest.result c.difference-left.result c.args.piece.now g c.rest-rest.ensures
    (λ k. untrue c.is_wrong.result (c.is_wrong.ensures.1 k) c.if-is_wrong.false) c.difference-left.ensures
