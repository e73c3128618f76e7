use Rattle.std.proofs.Common.{rules, arith, ◌≡◌, ◌≢◌, ◌∙◌, ◌<◌, ◌^◌, ◌*ℤ◌, pos, unsigned_abs, sym, ap, SFits, to_z-of_z, to_z, of_z}
use Rattle.std.proofs.lemmas.Int.{to_z_pos, fits_signed_from_abs}
use Rattle.fraction128.proofs.Multiplied.{short_product}
use mir.Syntax.{w128}
use Rattle.fraction128.proofs.Compared.{int_whole_cmp, rest_cmp}
use Rattle.fraction128.proofs.order.compare_apart.Goals as goal

pub returns-then-left-right : goal.returns-then-left-right
returns-then-left-right c =
    let fa = c.ranges.a in let fb = c.ranges.b in
    let f = c.whole_and_rest-left.result.0 in let g = c.whole_and_rest-right.result.0 in
    let ff : SFits w128 f = search rules in
    let fg : SFits w128 g = search rules in
    let n : f ≢ g = λ h. c.if-left-right.true (ap (of_z w128) h) in
    (simp to_z-of_z at c.cmp-then-left-right.ensures)
    ∙ int_whole_cmp c.args.a c.args.b f g _ _ _ _ (simp to_z-of_z at c.whole_and_rest-left.ensures.parts) (simp to_z-of_z at c.whole_and_rest-right.ensures.parts) n

pub returns : goal.returns
returns c =
    let fa = c.ranges.a in let fb = c.ranges.b in
    let f = c.whole_and_rest-left.result.0 in let g = c.whole_and_rest-right.result.0 in
    let ff : SFits w128 f = search rules in
    let fg : SFits w128 g = search rules in
    let h : f ≡ g = sym (to_z-of_z ff) ∙ ap (to_z w128) c.if-left-right.false ∙ to_z-of_z fg in
    c.compare_rests.ensures
    ∙ sym (rest_cmp c.args.a c.args.b f g _ _ _ _ (simp to_z-of_z at c.whole_and_rest-left.ensures.parts) (simp to_z-of_z at c.whole_and_rest-right.ensures.parts) h)

pub returns-then-e-lt-SHORT : goal.returns-then-e-lt-SHORT
returns-then-e-lt-SHORT c =
    let a = c.args.a in let b = c.args.b in let d = c.args.d in let e = c.args.e in
    let fa = c.ranges.a in
    let fb = c.ranges.b in
    let left : unsigned_abs a < 2 ^ 63 = (simp to_z-of_z at c.is_short.ensures).0 c.if-is_short.true in
    let right : unsigned_abs b < 2 ^ 63 = (simp to_z-of_z at c.is_short-then-is_short.ensures).0 c.if-is_short-2.true in
    let d_is : to_z w128 d ≡ pos d = to_z_pos w128 d (omega arith) in
    let e_is : to_z w128 e ≡ pos e = to_z_pos w128 e (omega arith) in
    let fl : SFits w128 (a *ℤ pos e) = fits_signed_from_abs w128 _ (short_product a (pos e) left (omega arith)) in
    let fr : SFits w128 (b *ℤ pos d) = fits_signed_from_abs w128 _ (short_product b (pos d) right (omega arith)) in
    simp (d_is, e_is, to_z-of_z) at c.cmp.ensures
