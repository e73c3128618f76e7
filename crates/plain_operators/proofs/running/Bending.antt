-- The cases of a bend: what follows the start of a stretch, and what it is made of.
use Rattle.std.specs.Prelude.{◌≡◌, pos, Bool, true, false, Some, None}
use Rattle.std.proofs.Common.{sym, ap, ◌∙◌, refl, subst, inl, inr}
use Rattle.rational.specs.Rational.{ℚ, ◌≤ℚ◌, ◌<ℚ◌, int}
use Rattle.rational.specs.MinMax.{min_q, max_q}
use Rattle.rational.specs.declared.Extended.TheVariants.{Fin}
use Rattle.rational.proofs.MinMax.{max_q_one, min_q_one}
use Rattle.upp_curve.specs.declared.affine_segment.line.Line.{Line}
use Rattle.upp_curve.specs.affine_segment.Values.{line_at}
use Rattle.plain_operators.specs.declared.running.stretch.Stretch.{Stretch}
use Rattle.plain_operators.specs.declared.running.bend.Bend.{Bend}
use Rattle.plain_operators.specs.running.Scans.{flat}
use Rattle.plain_operators.specs.running.Bends.{risen, sunk, IsOn, Follows}
use Rattle.plain_operators.specs.running.Made.{IsMeeting, IsOneOf, IsMadeOf}
use Rattle.plain_operators.proofs.running.Levels.{sup_line, sup_flat, sup_falls, sup_turn, inf_line, inf_flat, inf_falls, inf_turn}

-- a bend of the greatest
pub record IsHigh (level : ℚ) (s : Stretch) (b : Bend) : Type 0 where
  pub follows : Follows (risen level s.line s.from) s.from s.to b.line b.turn
  pub made : IsMadeOf true level s b

-- a bend of the least
pub record IsLow (level : ℚ) (s : Stretch) (b : Bend) : Type 0 where
  pub follows : Follows (sunk level s.line s.to) s.from s.to b.line b.turn
  pub made : IsMadeOf false level s b

abbrev pub one_line : Line → Bend
one_line l = record { line = l; turn = None }

abbrev pub two_lines : Line → ℚ → ℚ → Line → Bend
two_lines l x v m = record { line = l; turn = Some record { x = x; at = Fin v; line = Some m } }

made_line : (rises : Bool) (level : ℚ) (s : Stretch) → IsMadeOf rises level s (one_line s.line)
made_line rises level s = record { line = inl refl; turn = tt; turns = tt }

made_flat : (rises : Bool) (level : ℚ) (s : Stretch) (v : ℚ) → IsOneOf level s v → IsMadeOf rises level s (one_line (flat v))
made_flat rises level s v h = record { line = inr (v, refl, h); turn = tt; turns = tt }

pub sup_falling : (level : ℚ) (s : Stretch) (zero top : ℚ) → zero ≡ int (pos 0) → s.line.slope ≤ℚ zero → s.right ≡ line_at s.line s.from → top ≡ max_q level s.right
    → IsHigh level s (one_line (flat top))
sup_falling level s zero top z h right e =
    let slope : s.line.slope ≤ℚ int (pos 0) = subst (λ q. s.line.slope ≤ℚ q) z h in
    let top_is : top ≡ max_q level (line_at s.line s.from) = e ∙ ap (max_q level) right in
    record {
      follows = subst (λ v. IsOn (risen level s.line s.from) s.from s.to (Some (flat v))) (sym top_is) (sup_falls level s.line s.from s.to slope);
      made = made_flat true level s top (elim (max_q_one level s.right) [ inl q ↦ inl (e ∙ q) | inr q ↦ inr (inl (e ∙ q)) ]);
    }

pub inf_falling : (level : ℚ) (s : Stretch) (zero bottom : ℚ) → zero ≡ int (pos 0) → s.line.slope ≤ℚ zero → s.left ≡ line_at s.line s.to → bottom ≡ min_q level s.left
    → IsLow level s (one_line (flat bottom))
inf_falling level s zero bottom z h left e =
    let slope : s.line.slope ≤ℚ int (pos 0) = subst (λ q. s.line.slope ≤ℚ q) z h in
    let bottom_is : bottom ≡ min_q level (line_at s.line s.to) = e ∙ ap (min_q level) left in
    record {
      follows = subst (λ v. IsOn (sunk level s.line s.to) s.from s.to (Some (flat v))) (sym bottom_is) (inf_falls level s.line s.from s.to slope);
      made = made_flat false level s bottom (elim (min_q_one level s.left) [ inl q ↦ inl (e ∙ q) | inr q ↦ inr (inr (e ∙ q)) ]);
    }

pub sup_level : (level : ℚ) (s : Stretch) → int (pos 0) <ℚ s.line.slope → s.left ≡ line_at s.line s.to → s.left ≤ℚ level → IsHigh level s (one_line (flat level))
sup_level level s rises left h = record {
  follows = sup_flat level s.line s.from s.to rises (subst (λ z. z ≤ℚ level) left h);
  made = made_flat true level s level (inl refl);
}

pub sup_rising : (level : ℚ) (s : Stretch) → int (pos 0) <ℚ s.line.slope → s.right ≡ line_at s.line s.from → level ≤ℚ s.right → IsHigh level s (one_line s.line)
sup_rising level s rises right h = record {
  follows = sup_line level s.line s.from s.to rises (subst (λ z. level ≤ℚ z) right h);
  made = made_line true level s;
}

pub sup_turning : (level : ℚ) (s : Stretch) (x : ℚ) → int (pos 0) <ℚ s.line.slope → s.right ≡ line_at s.line s.from → s.left ≡ line_at s.line s.to
    → s.right <ℚ level → level <ℚ s.left → IsMeeting level s.line x → IsHigh level s (two_lines (flat level) x level s.line)
sup_turning level s x rises right left low high m = record {
  follows = sup_turn level s.line s.from s.to x rises (subst (λ z. z <ℚ level) right low) (subst (λ z. level <ℚ z) left high) m.is;
  made = record { line = inr (level, refl, inl refl); turn = record { meets = m; at = refl; line = inl refl }; turns = rises };
}

pub inf_rising : (level : ℚ) (s : Stretch) → int (pos 0) <ℚ s.line.slope → s.left ≡ line_at s.line s.to → s.left ≤ℚ level → IsLow level s (one_line s.line)
inf_rising level s rises left h = record {
  follows = inf_line level s.line s.from s.to rises (subst (λ z. z ≤ℚ level) left h);
  made = made_line false level s;
}

pub inf_level : (level : ℚ) (s : Stretch) → int (pos 0) <ℚ s.line.slope → s.right ≡ line_at s.line s.from → level ≤ℚ s.right → IsLow level s (one_line (flat level))
inf_level level s rises right h = record {
  follows = inf_flat level s.line s.from s.to rises (subst (λ z. level ≤ℚ z) right h);
  made = made_flat false level s level (inl refl);
}

pub inf_turning : (level : ℚ) (s : Stretch) (x : ℚ) → int (pos 0) <ℚ s.line.slope → s.right ≡ line_at s.line s.from → s.left ≡ line_at s.line s.to
    → s.right <ℚ level → level <ℚ s.left → IsMeeting level s.line x → IsLow level s (two_lines s.line x level (flat level))
inf_turning level s x rises right left low high m = record {
  follows = inf_turn level s.line s.from s.to x rises (subst (λ z. z <ℚ level) right low) (subst (λ z. level <ℚ z) left high) m.is;
  made = record { line = inl refl; turn = record { meets = m; at = refl; line = inr refl }; turns = rises };
}
