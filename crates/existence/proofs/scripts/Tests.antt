-- What a script asks of curves and numbers can be decided: whether a curve rises, whether two are one, whether the numbers of a
-- kind of curve are refused, and whether a curve is over a limit by itself.
use Rattle.std.proofs.Common.{◌≡◌, ◌⊎◌, ℕ, ◌≤◌, ◌^◌, pos, List, [], ◌∷◌, Option, Some, None, refl, sym, ap, ap₂, subst, arith, inl, inr, ◌∙◌}
use Rattle.std.specs.Prelude.{nat_abs}
use Rattle.std.proofs.lemmas.Bool.{cases_lt}
use Rattle.rational.specs.Rational.{ℚ, int, ◌≤ℚ◌, ◌<ℚ◌}
use Rattle.rational.specs.Extended.{◌≤ₑ◌}
use Rattle.rational.proofs.Laws.{le_or_lt, not_le_of_lt}
use Rattle.min_plus.specs.Functions.{zero_q, IsRising}
use Rattle.upp_curve.specs.declared.affine_segment.line.Line.{Line}
use Rattle.upp_curve.specs.declared.affine_segment.line.Piece.{Piece}
use Rattle.upp_curve.specs.declared.curve.Tail.{Tail}
use Rattle.upp_curve.specs.declared.curve.Tail.TheVariants.{Periodic, Affine, Infinite}
use Rattle.upp_curve.specs.affine_segment.Values.{line_value}
use Rattle.upp_curve.specs.Curve.{SpecCurve, value_at, HasSameValues}
use Rattle.upp_curve.specs.Curves.{IsCurve}
use Rattle.upp_curve.specs.Normal.{IsNormal}
use Rattle.upp_curve.specs.Shapes.{LineRises, EndsBelow, end_before, PiecesRise}
use Rattle.upp_curve.proofs.OneForm.{normal_unique}
use Rattle.upp_curve.proofs.RisingCurves.{period_end, rises_by_tail, pieces_by_tail}
use Rattle.upp_limits.specs.declared.own_limits.OverLimit.{OverLimit}
use Rattle.upp_limits.specs.declared.own_limits.OverLimit.TheVariants.{TooMany, TooWide}
use Rattle.upp_limits.specs.Limits.{own_gauge, own_tally}
use Rattle.upp_limits.specs.OwnLimits.{IsOver, IsWithinOwn}
use Rattle.upp_normal.proofs.NormaliseGrids.{q_same_or}
use Rattle.curve_library.specs.Causes.{OneNegative, NoSlot}
use Rattle.curve_lang.specs.Finding.{IsPacket, NoStair, NoGate}
use Rattle.curve_lang.proofs.Packets.{num_whole}
use Rattle.existence.proofs.curves.Deciding.{on_parts, both, pieces_same_or}
use Rattle.existence.proofs.curves.Forms.{own_curve}
use Rattle.existence.proofs.curves.HorizontalNumbers.{at_most_or as ext_at_most_or}

-- ---- one or the other
pub either : {A B : Type 0} → A ⊎ ¬ A → B ⊎ ¬ B → (A ⊎ B) ⊎ ¬ (A ⊎ B)
either (inl a) d = inl (inl a)
either (inr n) (inl b) = inl (inr b)
either (inr n) (inr m) = inr (λ s. elim s [ inl a ↦ n a | inr b ↦ m b ])

negated : {A : Type 0} → A ⊎ ¬ A → (¬ A) ⊎ ¬ (¬ A)
negated (inl a) = inr (λ n. n a)
negated (inr n) = inl n

-- ---- numbers
at_most_or : (a b : ℕ) → (a ≤ b) ⊎ ¬ (a ≤ b)
at_most_or a b = elim (cases_lt b a) [ inl l ↦ inr (λ h. omega arith) | inr l ↦ inl l ]

pub le_q_or : (x y : ℚ) → (x ≤ℚ y) ⊎ ¬ (x ≤ℚ y)
le_q_or x y = elim (le_or_lt x y) [ inl l ↦ inl l | inr l ↦ inr (λ h. not_le_of_lt l h) ]

lt_q_or : (x y : ℚ) → (x <ℚ y) ⊎ ¬ (x <ℚ y)
lt_q_or x y = elim (le_or_lt y x) [ inl l ↦ inr (λ h. not_le_of_lt h l) | inr l ↦ inl l ]

-- ---- whether a curve rises
line_rises_or : (l : Option Line) → LineRises l ⊎ ¬ (LineRises l)
line_rises_or None = inl tt
line_rises_or (Some l) = le_q_or zero_q l.slope

-- what comes behind some pieces of a curve, by its tail: the end of its period, or nothing
abbrev EndsBelowTo : List Piece → Tail → Option Line → List Piece → Type 0
EndsBelowTo all (Periodic r d c) l rest = EndsBelow l (end_before rest (Some (period_end all r d c)))
EndsBelowTo all (Affine r) l rest = EndsBelow l (end_before rest None)
EndsBelowTo all (Infinite r) l rest = EndsBelow l (end_before rest None)

abbrev RisesTo : List Piece → Tail → List Piece → Type 0
RisesTo all (Periodic r d c) ps = PiecesRise (Some (period_end all r d c)) ps
RisesTo all (Affine r) ps = PiecesRise None ps
RisesTo all (Infinite r) ps = PiecesRise None ps

ends_below_or : (all : List Piece) (tail : Tail) (l : Option Line) (rest : List Piece)
    → EndsBelowTo all tail l rest ⊎ ¬ (EndsBelowTo all tail l rest)
ends_below_or all (Periodic r d c) l [] = ext_at_most_or (line_value l (period_end all r d c).x) (period_end all r d c).at
ends_below_or all (Periodic r d c) l (q ∷ qs) = ext_at_most_or (line_value l q.x) q.at
ends_below_or all (Affine r) l [] = inl tt
ends_below_or all (Affine r) l (q ∷ qs) = ext_at_most_or (line_value l q.x) q.at
ends_below_or all (Infinite r) l [] = inl tt
ends_below_or all (Infinite r) l (q ∷ qs) = ext_at_most_or (line_value l q.x) q.at

-- what is asked of one piece
abbrev Parts : List Piece → Tail → Piece → List Piece → Type 0
Parts all tail p rest = (p.at ≤ₑ line_value p.line p.x) × (LineRises p.line × EndsBelowTo all tail p.line rest)

parts_or : (all : List Piece) (tail : Tail) (p : Piece) (rest : List Piece) → Parts all tail p rest ⊎ ¬ (Parts all tail p rest)
parts_or all tail p rest =
    both (ext_at_most_or p.at (line_value p.line p.x)) (both (line_rises_or p.line) (ends_below_or all tail p.line rest))

pieces_or : (all : List Piece) (tail : Tail) (ps : List Piece) → RisesTo all tail ps ⊎ ¬ (RisesTo all tail ps)
pieces_or all (Periodic r d c) [] = inl tt
pieces_or all (Affine r) [] = inl tt
pieces_or all (Infinite r) [] = inl tt
pieces_or all (Periodic r d c) (p ∷ ps) =
    on_parts {A = Parts all (Periodic r d c) p ps × RisesTo all (Periodic r d c) ps}
    (λ a. (record { first = a.0.0; slope = a.0.1.0; last = a.0.1.1 }, a.1)) (λ h. ((h.0.first, (h.0.slope, h.0.last)), h.1))
    (both (parts_or all (Periodic r d c) p ps) (pieces_or all (Periodic r d c) ps))
pieces_or all (Affine r) (p ∷ ps) =
    on_parts {A = Parts all (Affine r) p ps × RisesTo all (Affine r) ps}
    (λ a. (record { first = a.0.0; slope = a.0.1.0; last = a.0.1.1 }, a.1)) (λ h. ((h.0.first, (h.0.slope, h.0.last)), h.1))
    (both (parts_or all (Affine r) p ps) (pieces_or all (Affine r) ps))
pieces_or all (Infinite r) (p ∷ ps) =
    on_parts {A = Parts all (Infinite r) p ps × RisesTo all (Infinite r) ps}
    (λ a. (record { first = a.0.0; slope = a.0.1.0; last = a.0.1.1 }, a.1)) (λ h. ((h.0.first, (h.0.slope, h.0.last)), h.1))
    (both (parts_or all (Infinite r) p ps) (pieces_or all (Infinite r) ps))

abbrev Rises : List Piece → Tail → Type 0
Rises ps tail = IsRising (value_at record { pieces = ps; tail = tail })

by_tail : (ps : List Piece) (tail : Tail) → IsNormal record { pieces = ps; tail = tail } → Rises ps tail ⊎ ¬ (Rises ps tail)
by_tail ps (Periodic r d c) n =
    let end = Some (period_end ps r d c) in
    on_parts {A = RisesTo ps (Periodic r d c) ps} (λ h. rises_by_tail ps (Periodic r d c) end n refl h) (λ h. pieces_by_tail ps (Periodic r d c) end n refl h)
    (pieces_or ps (Periodic r d c) ps)
by_tail ps (Affine r) n =
    on_parts {A = RisesTo ps (Affine r) ps} (λ h. rises_by_tail ps (Affine r) None n refl h) (λ h. pieces_by_tail ps (Affine r) None n refl h)
    (pieces_or ps (Affine r) ps)
by_tail ps (Infinite r) n =
    on_parts {A = RisesTo ps (Infinite r) ps} (λ h. rises_by_tail ps (Infinite r) None n refl h) (λ h. pieces_by_tail ps (Infinite r) None n refl h)
    (pieces_or ps (Infinite r) ps)

pub rising_or : (c : SpecCurve) → IsCurve c → IsRising (value_at c) ⊎ ¬ (IsRising (value_at c))
rising_or c k = by_tail c.pieces c.tail k.normal

-- ---- whether two curves are one
tail_same_or : (s t : Tail) → (s ≡ t) ⊎ ¬ (s ≡ t)
tail_same_or (Periodic r d c) (Periodic s u v) =
    on_parts {A = (r ≡ s) × ((d ≡ u) × (c ≡ v))} (λ a. ap₂ (λ (x : ℚ) (y : ℚ × ℚ). Periodic x y.0 y.1) a.0 (ap₂ (λ (y z : ℚ). (y, z)) a.1.0 a.1.1))
    (λ e. ((let x : r ≡ s = cc in x), ((let x : d ≡ u = cc in x), (let x : c ≡ v = cc in x))))
    (both (q_same_or r s) (both (q_same_or d u) (q_same_or c v)))
tail_same_or (Affine r) (Affine s) = on_parts {A = r ≡ s} (λ a. ap (λ (x : ℚ). Affine x) a) (λ e. (let x : r ≡ s = cc in x)) (q_same_or r s)
tail_same_or (Infinite r) (Infinite s) = on_parts {A = r ≡ s} (λ a. ap (λ (x : ℚ). Infinite x) a) (λ e. (let x : r ≡ s = cc in x)) (q_same_or r s)
tail_same_or (Periodic r d c) (Affine s) = inr (λ e. let bad : ⊥ = cc in bad)
tail_same_or (Periodic r d c) (Infinite s) = inr (λ e. let bad : ⊥ = cc in bad)
tail_same_or (Affine r) (Periodic s d c) = inr (λ e. let bad : ⊥ = cc in bad)
tail_same_or (Affine r) (Infinite s) = inr (λ e. let bad : ⊥ = cc in bad)
tail_same_or (Infinite r) (Periodic s d c) = inr (λ e. let bad : ⊥ = cc in bad)
tail_same_or (Infinite r) (Affine s) = inr (λ e. let bad : ⊥ = cc in bad)

curve_same_or : (f g : SpecCurve) → (f ≡ g) ⊎ ¬ (f ≡ g)
curve_same_or f g =
    on_parts {A = (f.pieces ≡ g.pieces) × (f.tail ≡ g.tail)}
    (λ e. ap₂ (λ (ps : List Piece) (t : Tail). let c : SpecCurve = record { pieces = ps; tail = t } in c) e.0 e.1)
    (λ e. (ap (λ (c : SpecCurve). c.pieces) e, ap (λ (c : SpecCurve). c.tail) e))
    (both (pieces_same_or f.pieces g.pieces) (tail_same_or f.tail g.tail))

pub same_values_or : (f g : SpecCurve) → IsCurve f → IsCurve g → HasSameValues f g ⊎ ¬ (HasSameValues f g)
same_values_or f g h k =
    on_parts {A = f ≡ g} (λ e. λ t l. ap (λ (c : SpecCurve). value_at c t) e) (λ same. normal_unique f g h.normal k.normal same) (curve_same_or f g)

-- ---- kinds of curve
pub negative_or : (x y : ℚ) → OneNegative x y ⊎ ¬ (OneNegative x y)
negative_or x y = either (lt_q_or x zero_q) (lt_q_or y zero_q)

packet_or : (x : ℚ) → IsPacket x ⊎ ¬ (IsPacket x)
packet_or x =
    let n = nat_abs x.num in
    on_parts {A = (x ≡ int (pos n)) × ((1 ≤ n) × (n ≤ 2 ^ 24))}
    (λ a. record { bits = n; is = a.0; some = a.1.0; few = a.1.1 })
    (λ p.
    let e : p.bits ≡ n = sym (ap (λ (q : ℚ). nat_abs q.num) p.is ∙ ap nat_abs (num_whole p.bits)) in (
      subst (λ (m : ℕ). x ≡ int (pos m)) e p.is,
      (subst (λ (m : ℕ). 1 ≤ m) e p.some, subst (λ (m : ℕ). m ≤ 2 ^ 24) e p.few),
    ))
    (both (q_same_or x (int (pos n))) (both (at_most_or 1 n) (at_most_or n (2 ^ 24))))

pub no_stair_or : (packet period jitter : ℚ) → NoStair packet period jitter ⊎ ¬ (NoStair packet period jitter)
no_stair_or packet period jitter =
    either (negated (packet_or packet)) (either (lt_q_or jitter zero_q) (le_q_or period zero_q))

no_slot_or : (cycle slot : ℚ) → NoSlot cycle slot ⊎ ¬ (NoSlot cycle slot)
no_slot_or cycle slot = either (le_q_or cycle zero_q) (either (q_same_or slot zero_q) (lt_q_or cycle slot))

pub no_gate_or : (rate cycle slot : ℚ) → NoGate rate cycle slot ⊎ ¬ (NoGate rate cycle slot)
no_gate_or rate cycle slot = either (negative_or rate slot) (no_slot_or cycle slot)

-- ---- a curve by itself
pub own_or : (c : SpecCurve) → IsNormal c → (IsWithinOwn c × IsCurve c) ⊎ ((limit : OverLimit) × IsOver c limit)
own_or c normal = elim (cases_lt (own_gauge c) (2 ^ 120)) [
  | inr wide ↦ inr (TooWide, wide)
  | inl narrow ↦ elim (cases_lt (2 ^ 20) (own_tally c)) [
    | inl many ↦ inr (TooMany, (narrow, many))
    | inr few ↦
        let (d, curve, same) = own_curve c normal.raw narrow in
        inl (
          record { narrow = narrow; few = few },
          subst IsCurve (normal_unique d c curve.normal normal same) curve,
        )
  ]
]
