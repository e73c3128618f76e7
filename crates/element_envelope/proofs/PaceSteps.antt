-- What one step of the look at pieces tells.
use Rattle.std.specs.Prelude.{◌≡◌, Some}
use Rattle.std.proofs.Common.{arith, sym, subst}
use Rattle.rational.specs.Rational.{ℚ, ◌+ℚ◌, ◌-ℚ◌, ◌*ℚ◌, ◌≤ℚ◌}
use Rattle.rational.specs.MinMax.{min_q, max_q}
use Rattle.rational.specs.declared.Extended.TheVariants.{Fin}
use Rattle.rational.proofs.Linear.{with5}
use Rattle.rational.proofs.Laws.{le_trans}
use Rattle.rational.proofs.MinMax.{min_q_le_left, min_q_le_right, max_q_ge_left, max_q_ge_right}
use Rattle.upp_curve.specs.declared.affine_segment.line.Line.{Line}
use Rattle.upp_curve.specs.declared.affine_segment.line.Piece.{Piece}
use Rattle.upp_curve.specs.affine_segment.Values.{line_at}
use Rattle.element_envelope.specs.declared.pace.Seen.{Seen}
use Rattle.element_envelope.specs.Pace.{IsSeen}

below : (x top low more a : ℚ) → x ≤ℚ top → more ≡ top -ℚ low → more ≤ℚ a → x ≤ℚ low +ℚ a
below x top low more a h e k = with5 x top low more a (λ c. omega (arith, c.le, c.lt, c.same))

pub seen_is : (r until : ℚ) (p : Piece) (old : Seen) (v : ℚ) (line : Line) (start after before low both top more most : ℚ) → p.at ≡ Fin v → p.line ≡ Some line
    → start ≡ v -ℚ r *ℚ p.x → after ≡ line_at line p.x -ℚ r *ℚ p.x → before ≡ line_at line until -ℚ r *ℚ until → low ≡ min_q old.low start → both ≡ max_q after before → top ≡ max_q start both → more ≡ top -ℚ low
    → most ≡ max_q old.more more → IsSeen r until p old record { low = low; more = most }
seen_is r until p old v line start after before low both top more most at is es ea eb el eo et em es_most = record {
  most = subst (λ y. old.more ≤ℚ y) (sym es_most) (max_q_ge_left old.more more);
  capped = λ a h.
      let room : more ≤ℚ a = le_trans (subst (λ y. more ≤ℚ y) (sym es_most) (max_q_ge_right old.more more)) h in
      record {
        line = line;
        line_is = is;
        value = v;
        at_is = at;
        lower = subst (λ y. y ≤ℚ old.low) (sym el) (min_q_le_left old.low start);
        start = subst (λ y. low ≤ℚ y) es (subst (λ y. y ≤ℚ start) (sym el) (min_q_le_right old.low start));
        at = subst (λ y. y ≤ℚ low +ℚ a) es (below start top low more a first em room);
        after = subst (λ y. y ≤ℚ low +ℚ a) ea (below after top low more a (le_trans (subst (λ y. after ≤ℚ y) (sym eo) (max_q_ge_left after before)) second) em room);
        before = subst (λ y. y ≤ℚ low +ℚ a) eb (below before top low more a (le_trans (subst (λ y. before ≤ℚ y) (sym eo) (max_q_ge_right after before)) second) em room);
      };
}
  where
    first : start ≤ℚ top
    first = subst (λ y. start ≤ℚ y) (sym et) (max_q_ge_left start both)

    second : both ≤ℚ top
    second = subst (λ y. both ≤ℚ y) (sym et) (max_q_ge_right start both)
