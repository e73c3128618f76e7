use Rattle.std.proofs.Common.{arith, ◌≡◌, ◌+◌, ◌++◌, ◌∙◌, ap, drop, drop_of_length-le, subst, sym, pos}
use Rattle.std.proofs.lemmas.Int.{ints}
use mir.Val.{to_z}
use mir.Syntax.{w128}
use Rattle.rational.specs.Rational.{◌-ℚ◌, ◌*ℚ◌, ◌≤ℚ◌, ◌<ℚ◌, int}
use Rattle.upp_curve.specs.declared.affine_segment.line.Piece.{Piece}
use Rattle.upp_curve.specs.Fitting.{LaterFits}
use Rattle.upp_curve.specs.Unrolled.{each_later, upto}
use Rattle.rational.proofs.Compared.{not_less_out}
use Rattle.upp_curve.proofs.affine_segment.NextPiece.{next_piece}
use Rattle.upp_normal.proofs.NormaliseRank.{each_index}
use Rattle.upp_normal.proofs.UnrollLoops.{push_ends, push_more, push_stops, pushed}
use Rattle.upp_normal.proofs.unrolling.push_copies.Goals as goal

pub later-requires : goal.later-requires
later-requires c =
    let a = c.args in
    let p = c.p-item.result in
    let n = int (pos a.n) in
    let whole : to_z w128 a.n ≡ pos a.n = omega (arith, ints) in
    let times : c.from_whole-times.result ≡ n = c.from_whole-times.ensures ∙ ap int whole in
    let by : c.product-by.result ≡ n *ℚ a.period = c.product-by.ensures ∙ ap (λ x. x *ℚ a.period) times in
    let height : c.product-height.result ≡ n *ℚ a.rise = c.product-height.ensures ∙ ap (λ x. x *ℚ a.rise) times in
    let left : p.x <ℚ a.end -ℚ n *ℚ a.period =
    subst (λ x. p.x <ℚ x) (c.difference-left.ensures ∙ ap (λ x. a.end -ℚ x) by) (c.is_less.ensures.less.0 c.if-not-is_less.false) in
    let P = λ (p : Piece). p.x <ℚ a.end -ℚ n *ℚ a.period → LaterFits (n *ℚ a.period) (n *ℚ a.rise) p in
    let fits : P p = subst P (sym c.p-item.is) (each_index P a.turn.now c.loop-p.p-index p c.loop-p-test.true c.requires.copies) in
    subst (λ x. LaterFits x c.product-height.result p) (sym by) (subst (λ x. LaterFits (n *ℚ a.period) x p) (sym height) (fits left))

pub loop-p-preserved : goal.loop-p-preserved
loop-p-preserved c =
    let a = c.args in
    let p = c.p-item.result in
    let by = c.product-by.result in
    let height = c.product-height.result in
    let i = c.loop-p.p-index in
    push_more a.end by height p c.later.result _ (drop (i + 1) a.turn.now) c.loop-p.kept.items c.push.new.self.items (a.kept.now.items ++ upto a.end (each_later by height a.turn.now))
    (next_piece p a.turn.now i c.loop-p-test.true c.p-item.is) c.later.ensures
    (subst (λ x. p.x <ℚ x) c.difference-left.ensures (c.is_less.ensures.less.0 c.if-not-is_less.false)) c.in_ok-push.ensures.items c.loop-p.invariant

pub returns-after-loop-p : goal.returns-after-loop-p
returns-after-loop-p c =
    let a = c.args in
    let by = c.product-by.result in
    let height = c.product-height.result in
    let whole : to_z w128 a.n ≡ pos a.n = omega (arith, ints) in
    let times : c.from_whole-times.result ≡ int (pos a.n) = c.from_whole-times.ensures ∙ ap int whole in
    pushed a.n a.end a.period a.rise by height c.loop-p.kept.items a.kept.now.items a.turn.now
    (c.product-by.ensures ∙ ap (λ x. x *ℚ a.period) times) (c.product-height.ensures ∙ ap (λ x. x *ℚ a.rise) times)
    (push_ends a.end by height _ c.loop-p.kept.items (a.kept.now.items ++ upto a.end (each_later by height a.turn.now))
    (drop_of_length-le a.turn.now c.loop-p-test.false) c.loop-p.invariant)

pub returns-then-not-is_less : goal.returns-then-not-is_less
returns-then-not-is_less c =
    let a = c.args in
    let p = c.p-item.result in
    let by = c.product-by.result in
    let height = c.product-height.result in
    let i = c.loop-p.p-index in
    let whole : to_z w128 a.n ≡ pos a.n = omega (arith, ints) in
    let times : c.from_whole-times.result ≡ int (pos a.n) = c.from_whole-times.ensures ∙ ap int whole in
    pushed a.n a.end a.period a.rise by height c.loop-p.kept.items a.kept.now.items a.turn.now
    (c.product-by.ensures ∙ ap (λ x. x *ℚ a.period) times) (c.product-height.ensures ∙ ap (λ x. x *ℚ a.rise) times)
    (push_stops a.end by height p _ (drop (i + 1) a.turn.now) c.loop-p.kept.items (a.kept.now.items ++ upto a.end (each_later by height a.turn.now))
    (next_piece p a.turn.now i c.loop-p-test.true c.p-item.is)
    (subst (λ x. x ≤ℚ p.x) c.difference-left.ensures (not_less_out c.is_less.result p.x c.difference-left.result c.is_less.ensures.less c.if-not-is_less.true)) c.loop-p.invariant)
