-- The parts of an answer read at a time of one of them, or of none.
use Rattle.std.specs.Prelude.{◌≡◌, Option, Some, None}
use Rattle.std.proofs.Common.{arith, refl, subst, ap₂, inl, inr}
use Rattle.rational.specs.Rational.{ℚ, ◌<ℚ◌}
use Rattle.rational.specs.Extended.{Ext, ◌<ₑ◌, min_ext}
use Rattle.rational.specs.declared.Extended.TheVariants.{Fin, Inf}
use Rattle.rational.proofs.Linear.{with2, with3}
use Rattle.upp_curve.specs.declared.affine_segment.element.Element.{Element}
use Rattle.upp_curve.specs.declared.affine_segment.element.Element.TheVariants.{Point, Open}
use Rattle.upp_curve.specs.declared.affine_segment.element.Joined.{Joined}
use Rattle.upp_curve.specs.affine_segment.Elements.{Covers, element_value, part_value, joined_value, AreAdjoined}
use Rattle.upp_curve.specs.affine_segment.ElementLaws.{ElementIsRead, JoinedIsRead, NotOnPart}
use Rattle.upp_curve.proofs.affine_segment.ElementValues.{value_in, value_cases}

-- elsewhere it is infinite
pub value_out : (e : Element) (t : ℚ) → ¬ (Covers e t) → element_value e t ≡ Inf
value_out e t h = elim (value_cases e t) [ inl p ↦ p | inr k ↦ absurd (h k) ]

pub element_read : (e : Element) (t : ℚ) → ElementIsRead e t
element_read e t = record { here = value_in e t; elsewhere = value_out e t }

-- the lesser of three, of which at most one is a number
least : {x y z u v w : Ext} → x ≡ u → y ≡ v → z ≡ w → min_ext x (min_ext y z) ≡ min_ext u (min_ext v w)
least p q r = ap₂ min_ext p (ap₂ min_ext q r)

part_out : (o : Option Element) (t : ℚ) → NotOnPart o t → part_value o t ≡ Inf
part_out None t h = refl
part_out (Some e) t h = value_out e t h

nowhere : (j : Joined) (t : ℚ) → ¬ (Covers j.first t) → NotOnPart j.join t → NotOnPart j.second t → joined_value j t ≡ Inf
nowhere j t h k m = least (value_out j.first t h) (part_out j.join t k) (part_out j.second t m)

-- two segments and the point between have no time in common
record Apart (first join second : Element) (t : ℚ) : Type 0 where
  on_first : Covers first t → ¬ (Covers join t) × ¬ (Covers second t)
  on_join : Covers join t → ¬ (Covers first t) × ¬ (Covers second t)
  on_second : Covers second t → ¬ (Covers first t) × ¬ (Covers join t)

apart : (first join second : Element) (t : ℚ) → AreAdjoined first (Some join) (Some second) → Apart first join second t
apart (Point x v) join second t h = absurd h
apart (Open from to line) (Open f u l) second t h = absurd h
apart (Open from to line) (Point x v) (Point y u) t h = absurd h
apart (Open from to line) (Point x v) (Open y end next) t h = record {
  on_first = λ w. let b = before t w.before in (λ e. below t e b, λ k. under t k.past b);
  on_join = λ e. (λ w. below t e (before t w.before), λ k. past_it t e k.past);
  on_second = λ k. (λ w. under t k.past (before t w.before), λ e. past_it t e k.past);
}
  where
    before : (t : ℚ) → Fin t <ₑ to → t <ℚ x
    before t b = subst (λ z. Fin t <ₑ z) h.0 b

    below : (t : ℚ) → t ≡ x → t <ℚ x → ⊥
    below t e b = with2 t x (λ c. omega (arith, c.le, c.lt, c.same))

    under : (t : ℚ) → y <ℚ t → t <ℚ x → ⊥
    under t p b = let e = h.1 in with3 t x y (λ c. omega (arith, c.le, c.lt, c.same))

    past_it : (t : ℚ) → t ≡ x → y <ℚ t → ⊥
    past_it t e p = let g = h.1 in with3 t x y (λ c. omega (arith, c.le, c.lt, c.same))

pub joined_read : (first : Element) (join second : Option Element) (t : ℚ) → AreAdjoined first join second
    → JoinedIsRead record { first = first; join = join; second = second } t
joined_read first None None t h = record {
  first = λ k. least {y = Inf} {z = Inf} (value_in first t k) refl refl;
  join = tt;
  second = tt;
  elsewhere = nowhere record { first = first; join = None; second = None } t;
}
joined_read first None (Some second) t h = absurd h
joined_read first (Some join) None t h = absurd (alone first join h)
  where
    alone : (first join : Element) → AreAdjoined first (Some join) None → ⊥
    alone (Point x v) join h = h
    alone (Open from to line) join h = h
joined_read first (Some join) (Some second) t h =
    let a = apart first join second t h in
    record {
      first = λ k. let o = a.on_first k in least (value_in first t k) (value_out join t o.0) (value_out second t o.1);
      join = λ k. let o = a.on_join k in least (value_out first t o.0) (value_in join t k) (value_out second t o.1);
      second = λ k. let o = a.on_second k in least (value_out first t o.0) (value_out join t o.1) (value_in second t k);
      elsewhere = nowhere record { first = first; join = Some join; second = Some second } t;
    }
