-- The least of all pairs from that of two halves of a list.
use Rattle.std.specs.Prelude.{◌≡◌, ◌↔◌, Bool, true, false, not, IsTrue, pos, suc, List, [], ◌∷◌, ◌++◌, Result, Ok, Err, IfOk, Vec, All}
use Rattle.std.proofs.Common.{arith, sym, ap, ap₂, ◌∙◌, true≢false, refl, subst, inl, inr, length, get_or, ◌≤◌, Global}
use Rattle.rational.specs.Rational.{ℚ, int, ◌+ℚ◌, ◌≤ℚ◌, ◌<ℚ◌}
use Rattle.rational.specs.Extended.{min_ext}
use Rattle.rational.specs.declared.Extended.TheVariants.{Inf}
use Rattle.rational.proofs.Grid.{whole_int}
use Rattle.rational.proofs.Compared.{not_less_out}
use Rattle.rational.proofs.Laws.{le_refl}
use Rattle.upp_curve.specs.declared.affine_segment.line.Piece.{Piece}
use Rattle.upp_curve.specs.declared.affine_segment.element.Element.{Element}
use Rattle.upp_curve.specs.affine_segment.Elements.{start_of}
use Rattle.upp_curve.specs.affine_segment.Reading.{read, nothing_at}
use Rattle.upp_limits.specs.Limits.{Sizes}
use Rattle.upp_normal.specs.Operand.{AreLimited}
use Rattle.curve_call.specs.Stretches.{CutsFit}
use Rattle.curve_call.specs.Lower.{LowerFits, IsLowerOf}
use Rattle.element_envelope.specs.PieceElements.{Among}
use Rattle.element_envelope.specs.Envelopes.{IsEnvelope}
use Rattle.element_envelope.specs.SumWindows.{SumWindow}
use Rattle.element_envelope.specs.EnvelopeWindows.{EnvelopeRoom, IsEnvelopeWindow}
use Rattle.element_envelope.proofs.Members.{among_left, among_right}
use Rattle.element_envelope.proofs.Envelopes.{envelope_rules}
use Rattle.element_envelope.proofs.Arching.{same_arches, lesser_arches, nothing_arches}
use Rattle.element_envelope.proofs.SumSteps.{sum_cuts_fit}
use Rattle.element_envelope.proofs.SumLower.{sum_lower_fits, sum_lower}
use Rattle.upp_curve.proofs.affine_segment.PieceIn.{read_one, nothing_read}

-- ---- no pair
nothing_is : (end : ℚ) (xs ys : List Element) → ((t : ℚ) → t <ℚ end → IsEnvelope xs ys t Inf) → IsEnvelopeWindow end xs ys (nothing_at (int (pos 0)) ∷ [])
nothing_is end xs ys h = record {
  starts = (refl, tt);
  reads = λ t low high. subst (IsEnvelope xs ys t) (sym (read_one (nothing_at (int (pos 0))) t ∙ nothing_read (int (pos 0)) t)) (h t high);
  stands = λ r. record {
    starts = (refl, tt);
    each = (record { start = record { place = inl (whole_int r.sizes.dt (pos 0)); nonneg = le_refl (int (pos 0)); before = r.some }; at = tt; line = tt }, tt);
  };
  arches = λ r. same_arches r.sizes.dt end (λ t. Inf) (read (nothing_at (int (pos 0)) ∷ [])) (λ t low high. read_one (nothing_at (int (pos 0))) t ∙ nothing_read (int (pos 0)) t) (nothing_arches r.sizes.dt end);
}

pub none_left : (end : ℚ) (xs ys : List Element) → xs ≡ [] → IsEnvelopeWindow end xs ys (nothing_at (int (pos 0)) ∷ [])
none_left end xs ys e = nothing_is end xs ys (λ t high. subst (λ z. IsEnvelope z ys t Inf) (sym e) (envelope_rules.none ys t).0)

pub none_right : (end : ℚ) (xs ys : List Element) → ys ≡ [] → IsEnvelopeWindow end xs ys (nothing_at (int (pos 0)) ∷ [])
none_right end xs ys e = nothing_is end xs ys (λ t high. subst (λ z. IsEnvelope xs z t Inf) (sym e) (envelope_rules.none xs t).1)

-- what a test of the sum of two starts tells
pub late_is : (b : Bool) (s end p q x y : ℚ) → (IsTrue b ↔ (s <ℚ end)) → s ≡ p +ℚ q → p ≡ x → q ≡ y → IsTrue (not b) → end ≤ℚ x +ℚ y
late_is b s end p q x y t e f g h = subst (λ z. end ≤ℚ z) (e ∙ ap₂ (λ (u v : ℚ). u +ℚ v) f g) (not_less_out b s end t (is_false b h))
  where
    is_false : (b : Bool) → IsTrue (not b) → b ≡ false
    is_false true h = absurd (true≢false (sym h))
    is_false false h = refl

-- no pair starts before the end
pub none_late : (end : ℚ) (xs ys : List Element) → All (λ x. All (λ y. end ≤ℚ start_of x +ℚ start_of y) ys) xs → IsEnvelopeWindow end xs ys (nothing_at (int (pos 0)) ∷ [])
none_late end xs ys h =
    nothing_is end xs ys (λ t high. envelope_rules.late xs ys end t (λ x y a b. one_of (λ y. end ≤ℚ start_of x +ℚ start_of y) y ys b (one_of (λ x. All (λ y. end ≤ℚ start_of x +ℚ start_of y) ys) x xs a h)) high)
  where
    one_of : (P : Element → Type 0) (y : Element) (ys : List Element) → Among y ys → All P ys → P y
    one_of P y [] a h = absurd a
    one_of P y (z ∷ zs) (inl e) h = subst P (sym e) (h 0 z (omega arith))
    one_of P y (z ∷ zs) (inr a) h = one_of P y zs a (λ k d l. h (suc k) d (omega arith))

-- ---- lists of no element, and of one
pub empty_is : (xs : List Element) → length xs ≡ 0 → xs ≡ []
empty_is [] h = refl
empty_is (x ∷ xs) h = absurd (omega arith)

pub single_is : (xs : List Element) (a : Element) → length xs ≤ 1 → ¬ (length xs ≡ 0) → a ≡ get_or xs 0 a → xs ≡ a ∷ []
single_is [] a h k e = absurd (k refl)
single_is (x ∷ []) a h k e = ap (λ z. z ∷ []) (sym e)
single_is (x ∷ y ∷ zs) a h k e = absurd (omega arith)

-- ---- halves have the room of the whole
pub part_room : (end : ℚ) (xs ys us vs : List Element) → ((x : Element) → Among x us → Among x xs)
    → ((y : Element) → Among y vs → Among y ys) → EnvelopeRoom end xs ys → EnvelopeRoom end us vs
part_room end xs ys us vs left right r = record {
  sizes = r.sizes;
  limited = r.limited;
  some = r.some;
  left_proper = λ x h. r.left_proper x (left x h);
  right_proper = λ y h. r.right_proper y (right y h);
  left = λ x h. r.left x (left x h);
  right = λ y h. r.right y (right y h);
}

pub left_front : (end : ℚ) (xs front back ys : List Element) → front ++ back ≡ xs → EnvelopeRoom end xs ys → EnvelopeRoom end front ys
left_front end xs front back ys e r = part_room end xs ys front ys (λ x h. subst (Among x) e (among_left x front back h)) (λ y h. h) r

pub left_back : (end : ℚ) (xs front back ys : List Element) → front ++ back ≡ xs → EnvelopeRoom end xs ys → EnvelopeRoom end back ys
left_back end xs front back ys e r = part_room end xs ys back ys (λ x h. subst (Among x) e (among_right x front back h)) (λ y h. h) r

pub right_front : (end : ℚ) (xs ys front back : List Element) → front ++ back ≡ ys → EnvelopeRoom end xs ys → EnvelopeRoom end xs front
right_front end xs ys front back e r = part_room end xs ys xs front (λ x h. h) (λ y h. subst (Among y) e (among_left y front back h)) r

pub right_back : (end : ℚ) (xs ys front back : List Element) → front ++ back ≡ ys → EnvelopeRoom end xs ys → EnvelopeRoom end xs back
right_back end xs ys front back e r = part_room end xs ys xs back (λ x h. h) (λ y h. subst (Among y) e (among_right y front back h)) r

-- ---- the lower of both
pub record LowerReady (end : ℚ) (f g : List Piece) : Type 0 where
  pub cuts : CutsFit f g
  pub fits : LowerFits end f g

pub lower_ready : (z : Sizes) (end : ℚ) (f g : List Piece) → AreLimited z end → SumWindow z end f → SumWindow z end g → LowerReady end f g
lower_ready z end f g A F G = record {
  cuts = sum_cuts_fit z end f g A F G;
  fits = sum_lower_fits z end f g A F G;
}

pub left_ready : (end : ℚ) (xs front back ys : List Element) (f g : List Piece) → front ++ back ≡ xs → EnvelopeRoom end xs ys
    → IsEnvelopeWindow end front ys f → IsEnvelopeWindow end back ys g → LowerReady end f g
unfolding left_front left_back part_room
left_ready end xs front back ys f g e r F G =
    let a = F.stands (left_front end xs front back ys e r) in
    let b = G.stands (left_back end xs front back ys e r) in
    lower_ready r.sizes end f g r.limited a b

pub right_ready : (end : ℚ) (xs ys front back : List Element) (f g : List Piece) → front ++ back ≡ ys → EnvelopeRoom end xs ys
    → IsEnvelopeWindow end xs front f → IsEnvelopeWindow end xs back g → LowerReady end f g
unfolding right_front right_back part_room
right_ready end xs ys front back f g e r F G =
    let a = F.stands (right_front end xs ys front back e r) in
    let b = G.stands (right_back end xs ys front back e r) in
    lower_ready r.sizes end f g r.limited a b

pub left_halves : (end : ℚ) (xs front back ys : List Element) (f g ps : List Piece) → front ++ back ≡ xs
    → IsEnvelopeWindow end front ys f → IsEnvelopeWindow end back ys g → IsLowerOf f g end ps → IsEnvelopeWindow end xs ys ps
unfolding left_front left_back part_room
left_halves end xs front back ys f g ps e F G L = record {
  starts = L.starts;
  reads = λ t low high.
      subst (λ z. IsEnvelope z ys t (read ps t)) e
      (subst (IsEnvelope (front ++ back) ys t) (sym (L.reads t low high))
      (envelope_rules.left front back ys t (read f t) (read g t) (F.reads t low high) (G.reads t low high)));
  stands = λ r. sum_lower r.sizes end f g ps r.limited (F.stands (left_front end xs front back ys e r)) (G.stands (left_back end xs front back ys e r)) L;
  arches = λ r.
      same_arches r.sizes.dt end (λ t. min_ext (read f t) (read g t)) (read ps) L.reads
      (lesser_arches r.sizes.dt end (read f) (read g) (F.arches (left_front end xs front back ys e r)) (G.arches (left_back end xs front back ys e r)));
}

pub right_halves : (end : ℚ) (xs ys front back : List Element) (f g ps : List Piece) → front ++ back ≡ ys
    → IsEnvelopeWindow end xs front f → IsEnvelopeWindow end xs back g → IsLowerOf f g end ps → IsEnvelopeWindow end xs ys ps
unfolding right_front right_back part_room
right_halves end xs ys front back f g ps e F G L = record {
  starts = L.starts;
  reads = λ t low high.
      subst (λ z. IsEnvelope xs z t (read ps t)) e
      (subst (IsEnvelope xs (front ++ back) t) (sym (L.reads t low high))
      (envelope_rules.right xs front back t (read f t) (read g t) (F.reads t low high) (G.reads t low high)));
  stands = λ r. sum_lower r.sizes end f g ps r.limited (F.stands (right_front end xs ys front back e r)) (G.stands (right_back end xs ys front back e r)) L;
  arches = λ r.
      same_arches r.sizes.dt end (λ t. min_ext (read f t) (read g t)) (read ps) L.reads
      (lesser_arches r.sizes.dt end (read f) (read g) (F.arches (right_front end xs ys front back e r)) (G.arches (right_back end xs ys front back e r)));
}

pub ok_lower : {E : Type 0} (r : Result (Vec Piece Global) E) (f g : List Piece) (end : ℚ) (xs ys : List Element)
    → ((ps : List Piece) → IsLowerOf f g end ps → IsEnvelopeWindow end xs ys ps) → IfOk r (λ v. IsLowerOf f g end v.items) → IfOk r (λ v. IsEnvelopeWindow end xs ys v.items)
ok_lower (Ok v) f g end xs ys h k = h v.items k
ok_lower (Err e) f g end xs ys h k = k

pub ok_nothing : {E : Type 0} (r : Result (Vec Piece Global) E) (end : ℚ) (xs ys : List Element) → IsEnvelopeWindow end xs ys (nothing_at (int (pos 0)) ∷ [])
    → IfOk r (λ v. v.items ≡ nothing_at (int (pos 0)) ∷ []) → IfOk r (λ v. IsEnvelopeWindow end xs ys v.items)
ok_nothing (Ok v) end xs ys h k = subst (IsEnvelopeWindow end xs ys) (sym k) h
ok_nothing (Err e) end xs ys h k = k
