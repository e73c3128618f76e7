-- Elements read at any time, and the parts of an answer read together.
use Rattle.std.specs.Prelude.{◌≡◌, ◌⊎◌, Bool, true, false, cond, ◌&&◌, Option, Some, None}
use Rattle.std.proofs.Common.{sym, ap, ap₂, ◌∙◌, refl, subst, inl, inr, true≢false}
use Rattle.rational.specs.Rational.{ℚ, ◌≤ℚ◌}
use Rattle.rational.specs.Extended.{Ext, ◌≤ₑ◌, ◌<ₑ◌, min_ext}
use Rattle.rational.specs.declared.Extended.TheVariants.{Fin, Inf}
use Rattle.rational.specs.Bounds.{IsInfimum}
use Rattle.rational.proofs.Laws.{le_refl, antisym}
use Rattle.rational.proofs.Over.{le_q_out, lt_q_out, le_q_in, lt_q_in}
use Rattle.rational.proofs.ExtendedOrder.{le_inf, le_ext_trans, same_le_ext, min_ext_of_le, min_left, min_right}
use Rattle.rational.proofs.Bounds.{infimum_unique, all_infinite}
use Rattle.upp_curve.specs.declared.affine_segment.element.Element.{Element}
use Rattle.upp_curve.specs.declared.affine_segment.element.Element.TheVariants.{Point, Open}
use Rattle.upp_curve.specs.declared.affine_segment.element.Joined.{Joined}
use Rattle.upp_curve.specs.affine_segment.Elements.{Covers, level, is_early, is_time, element_value, part_value, joined_value}

-- ---- the tests
both_true : {a b : Bool} → a ≡ true → b ≡ true → a && b ≡ true
both_true p q = ap₂ (λ (x y : Bool). x && y) p q

pub and_parts : (a b : Bool) → a && b ≡ true → (a ≡ true) × (b ≡ true)
and_parts true b h = (refl, h)
and_parts false b h = absurd (true≢false (sym h))

early_in : (to : Ext) (t : ℚ) → Fin t <ₑ to → is_early to t ≡ true
early_in Inf t h = refl
early_in (Fin e) t h = lt_q_out t e h

early_out : (to : Ext) (t : ℚ) → is_early to t ≡ true → Fin t <ₑ to
early_out Inf t h = tt
early_out (Fin e) t h = lt_q_in t e h

time_in : (e : Element) (t : ℚ) → Covers e t → is_time e t ≡ true
time_in (Point x v) t h =
    both_true (le_q_out t x (subst (λ z. t ≤ℚ z) h (le_refl t))) (le_q_out x t (subst (λ z. z ≤ℚ t) h (le_refl t)))
time_in (Open from to line) t h = both_true (lt_q_out from t h.past) (early_in to t h.before)

time_out : (e : Element) (t : ℚ) → is_time e t ≡ true → Covers e t
time_out (Point x v) t h = let p = and_parts _ _ h in antisym (le_q_in t x p.0, le_q_in x t p.1)
time_out (Open from to line) t h =
    let p = and_parts _ _ h in record { past = lt_q_in from t p.0; before = early_out to t p.1 }

-- ---- the value
-- at one of its times
pub value_in : (e : Element) (t : ℚ) → Covers e t → element_value e t ≡ Fin (level e t)
value_in e t h = ap (λ b. cond b (Fin (level e t)) Inf) (time_in e t h)

by_test : (b : Bool) → (b ≡ true) ⊎ (b ≡ false)
by_test true = inl refl
by_test false = inr refl

-- it is infinite, or t is one of its times
pub value_cases : (e : Element) (t : ℚ) → (element_value e t ≡ Inf) ⊎ Covers e t
value_cases e t = elim (by_test (is_time e t)) [
  | inl h ↦ inr (time_out e t h)
  | inr h ↦ inl (ap (λ b. cond b (Fin (level e t)) Inf) h)
]

-- ---- parts read together
-- where t is one of its times, its value is the infimum of F
abbrev pub Reads : {I : Type 0} → (I → Ext) → ℚ → Element → Type 0
Reads F t e = Covers e t → IsInfimum F (Fin (level e t))

abbrev pub PartReads : {I : Type 0} → (I → Ext) → ℚ → Option Element → Type 0
PartReads F t None = Unit {0}
PartReads F t (Some e) = Reads F t e

abbrev pub PartCovers : ℚ → Option Element → Type 0
PartCovers t None = ⊥
PartCovers t (Some e) = Covers e t

-- infinite, or the infimum of F
abbrev pub Candidate : {I : Type 0} → (I → Ext) → Ext → Type 0
Candidate F x = (x ≡ Inf) ⊎ IsInfimum F x

of_element : {I : Type 0} (F : I → Ext) (t : ℚ) (e : Element) → Reads F t e → Candidate F (element_value e t)
of_element F t e h = elim (value_cases e t) [
  | inl p ↦ inl p
  | inr k ↦ inr (subst (λ z. IsInfimum F z) (sym (value_in e t k)) (h k))
]

of_part : {I : Type 0} (F : I → Ext) (t : ℚ) (o : Option Element) → PartReads F t o → Candidate F (part_value o t)
of_part F t None h = inl refl
of_part F t (Some e) h = of_element F t e h

-- the lesser of two is the infimum where one of them is
pub lesser : {I : Type 0} (F : I → Ext) (x y : Ext) → Candidate F x → Candidate F y → Candidate F (min_ext x y)
lesser F x y (inl p) k = subst (λ z. Candidate F (min_ext z y)) (sym p) k
lesser F x y (inr h) (inl q) = inr (subst (λ z. IsInfimum F z) (sym (ap (λ z. min_ext x z) q ∙ min_ext_of_le x Inf (le_inf x))) h)
lesser F x y (inr h) (inr k) =
    inr (subst (λ z. IsInfimum F z) (sym (min_ext_of_le x y (same_le_ext (infimum_unique F x y h k)))) h)

-- the value at one of a part's times is a number
part_in : (t : ℚ) (o : Option Element) → PartCovers t o → (q : ℚ) × (part_value o t ≡ Fin q)
part_in t None h = absurd h
part_in t (Some e) h = (level e t, value_in e t h)

not_infinite : (x y : Ext) (q : ℚ) → x ≤ₑ y → y ≡ Fin q → x ≡ Inf → ⊥
not_infinite x y q l e f = subst (λ z. z ≤ₑ Fin q) f (subst (λ z. x ≤ₑ z) e l)

some_part : (j : Joined) (t : ℚ) → Covers j.first t ⊎ (PartCovers t j.join ⊎ PartCovers t j.second) → joined_value j t ≡ Inf → ⊥
some_part j t h =
    let x = element_value j.first t in
    let y = part_value j.join t in
    let z = part_value j.second t in
    let whole = min_ext x (min_ext y z) in
    let rest = min_right x (min_ext y z) in
    elim h [
      | inl k ↦ not_infinite whole x (level j.first t) (min_left x (min_ext y z)) (value_in j.first t k)
      | inr k ↦ elim k [
        | inl m ↦ let (q, e) = part_in t j.join m in not_infinite whole y q (le_ext_trans whole (min_ext y z) y rest (min_left y z)) e
        | inr m ↦ let (q, e) = part_in t j.second m in not_infinite whole z q (le_ext_trans whole (min_ext y z) z rest (min_right y z)) e
      ]
    ]

-- where each part has the infimum at its times, and t is one of them if there is a member, the parts together have it
pub read_joined : {I : Type 0} (F : I → Ext) (j : Joined) (t : ℚ) → Reads F t j.first → PartReads F t j.join → PartReads F t j.second
    → ((i : I) → Covers j.first t ⊎ (PartCovers t j.join ⊎ PartCovers t j.second)) → IsInfimum F (joined_value j t)
read_joined F j t h k m some =
    let y = part_value j.join t in
    let z = part_value j.second t in
    let rest = lesser F y z (of_part F t j.join k) (of_part F t j.second m) in
    elim (lesser F (element_value j.first t) (min_ext y z) (of_element F t j.first h) rest) [
      | inl e ↦ subst (λ z. IsInfimum F z) (sym e) (all_infinite F (λ i. absurd (some_part j t (some i) e)))
      | inr g ↦ g
    ]

-- one part
pub read_alone : {I : Type 0} (F : I → Ext) (e : Element) (t : ℚ) → Reads F t e → ((i : I) → Covers e t)
    → IsInfimum F (joined_value record { first = e; join = None; second = None } t)
read_alone F e t h some = read_joined F record { first = e; join = None; second = None } t h tt tt (λ i. inl (some i))
