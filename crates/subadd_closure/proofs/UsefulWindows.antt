-- Without the elements of the first operand that make nothing below it, the lesser of it and of the rest is the
-- convolution.
use Rattle.std.specs.Prelude.{◌≡◌, ◌⊎◌, List, [], ◌∷◌, Result, Ok, Err, IfOk, Vec}
use Rattle.std.specs.List.{All}
use Rattle.std.proofs.Common.{arith, sym, ap, ◌∙◌, subst, inl, inr, Global}
use Rattle.std.proofs.lemmas.List.Elements.{All-head, All-tail}
use Rattle.rational.specs.Rational.{ℚ, ◌+ℚ◌, ◌≤ℚ◌, ◌<ℚ◌}
use Rattle.rational.specs.Extended.{Ext, ◌≤ₑ◌, ◌<ₑ◌, min_ext}
use Rattle.rational.specs.declared.Extended.TheVariants.{Fin, Inf}
use Rattle.rational.proofs.Linear.{with2}
use Rattle.rational.proofs.Laws.{antisym, add_zero}
use Rattle.rational.proofs.ExtendedOrder.{le_ext_trans, le_lt_ext, same_le_ext, min_left, min_right, min_one}
use Rattle.upp_curve.specs.declared.affine_segment.line.Piece.{Piece}
use Rattle.upp_curve.specs.declared.affine_segment.element.Element.{Element}
use Rattle.upp_curve.specs.declared.affine_segment.element.Element.TheVariants.{Point, Open}
use Rattle.upp_curve.specs.affine_segment.Elements.{Covers, level}
use Rattle.upp_curve.specs.affine_segment.Reading.{read}
use Rattle.min_plus.specs.Functions.{zero_q}
use Rattle.min_plus.specs.Convolution.{IsSubadditive}
use Rattle.element_envelope.specs.PieceElements.{elements_of, Among}
use Rattle.element_envelope.specs.Envelopes.{ListSplit, list_sum, IsEnvelope}
use Rattle.element_envelope.specs.EnvelopeWindows.{BesideRoom, IsLowerEnvelope}
use Rattle.element_envelope.specs.ConvolutionWindows.{OperandWindows, IsConvolutionWindow}
use Rattle.element_envelope.proofs.Cover.{cover, element_times}
use Rattle.element_envelope.proofs.Members.{number_below}
use Rattle.element_envelope.proofs.OperandElements.{operand_pieces}
use Rattle.element_envelope.proofs.WindowConvolution.{endless}
use Rattle.element_envelope.proofs.Windows.{windows_convolve}
use Rattle.subadd_closure.specs.Thinned.{IsThinned}
use Rattle.subadd_closure.specs.Useful.{IsOrigin, MakesOver, AreUseful}
use Rattle.subadd_closure.proofs.Covering.{rooms}
use Rattle.subadd_closure.proofs.Thinning.{StartElement, start_element, envelope_is}

one_of : (P : Element → Type 0) (ys : List Element) (y : Element) → All P ys → Among y ys → P y
one_of P [] y h a = absurd a
one_of P (x ∷ xs) y h (inl is) = subst P (sym is) (All-head P x xs h)
one_of P (x ∷ xs) y h (inr a) = one_of P xs y (All-tail P x xs h) a

-- an element that is a value from 0 on at 0
at_zero : (y : Element) (u : ℚ) → IsOrigin y → Covers y u → zero_q ≤ℚ u → (u ≡ zero_q) × (zero_q ≤ℚ level y u)
at_zero (Point x v) u o c n = (antisym (subst (λ z. z ≤ℚ zero_q) (sym c) o.0, n), o.1)
at_zero (Open from to line) u o c n = absurd o

no_less : (a b : ℚ) → zero_q ≤ℚ b → a ≤ℚ a +ℚ b
no_less a b h = with2 a b (λ c. omega (arith, c.le, c.lt, c.same))

no_more : (a b : ℚ) → b ≤ℚ zero_q → a +ℚ b ≤ℚ a
no_more a b h = with2 a b (λ c. omega (arith, c.le, c.lt, c.same))

module _ (F : ℚ → Ext) (end : ℚ) (f g ps : List Piece) (late zs : List Element) (windows : OperandWindows end f g)
    (reads : (t : ℚ) → zero_q ≤ℚ t → t <ℚ end → read f t ≡ F t) (sub : IsSubadditive F)
    (low : read g zero_q ≤ₑ Fin zero_q) (thin : IsThinned F end (elements_of g Inf) late)
    (useful : AreUseful (read f) end (elements_of f Inf) late zs) (lower : IsLowerEnvelope end f zs late ps) where
  abbrev xs : List Element
  xs = elements_of f Inf

  abbrev ys : List Element
  ys = elements_of g Inf

  left_reads : (t : ℚ) (e : Element) → Among e xs → Covers e t → read f t ≡ Fin (level e t)
  left_reads t e a c =
      (cover f Inf windows.left.starts (endless f)).reads t
      record { element = e; among = a; covers = c }

  right_late : (t : ℚ) (e : Element) → Among e late → Covers e t → zero_q ≤ℚ t
  right_late t e a c = (element_times g Inf t e windows.right.starts (endless g) (thin.fewer e a) c).0

  start : StartElement F end f g late windows reads sub low thin
  start = start_element F end f g late windows reads sub low thin

  module _ (t : ℚ) (n : zero_q ≤ℚ t) (early : t <ℚ end) where
    -- a split with a value at 0 is nowhere below f
    by_origin : (i : ListSplit xs late t) → IsOrigin i.right → read f t ≤ₑ list_sum xs late t i
    by_origin i origin =
        let s = i.split.first in
        let u = i.split.second in
        let (none, some) = at_zero i.right u origin i.split.second_in (right_late u i.right i.right_in i.split.second_in) in
        let here : t ≡ s = sym i.split.whole ∙ ap (λ z. s +ℚ z) none ∙ add_zero s in
        le_ext_trans (read f t) (Fin (level i.left s)) (list_sum xs late t i)
        (same_le_ext (ap (read f) here ∙ left_reads s i.left i.left_in i.split.first_in))
        (no_less (level i.left s) (level i.right u) some)

    below_all : (i : ListSplit xs late t) → read ps t ≤ₑ list_sum xs late t i
    below_all i =
        let l = lower.reads t n early in
        let sum = list_sum xs late t i in
        subst (λ z. z ≤ₑ sum) (sym l.lesser) (elim (useful.others i.left i.left_in) [
          | inl kept ↦
              le_ext_trans (min_ext (read f t) l.least) l.least sum (min_right (read f t) l.least)
              (l.is.below record { left = i.left; right = i.right; left_in = kept; right_in = i.right_in; split = i.split })
          | inr idle ↦
              le_ext_trans (min_ext (read f t) l.least) (read f t) sum (min_left (read f t) l.least)
              (elim (one_of (λ y. IsOrigin y ⊎ MakesOver (read f) end i.left y) late i.right idle i.right_in) [
                | inl origin ↦ by_origin i origin
                | inr over ↦ over t i.split early
              ])
        ])

    -- f is made with the element at 0
    by_start : (q : ℚ) → read f t <ₑ Fin q → (i : ListSplit xs late t) × (list_sum xs late t i <ₑ Fin q)
    by_start q h =
        let (w, is) = number_below (read f t) q h in
        let e = (cover f Inf windows.left.starts (endless f)).found t w n tt is in
        let among : Among e.element xs = e.among in
        let here : read f t ≡ Fin (level e.element t) = left_reads t e.element among e.covers in (
          record {
            left = e.element;
            right = start.element;
            left_in = among;
            right_in = start.among;
            split = record {
              first = t;
              second = zero_q;
              first_in = e.covers;
              second_in = start.covers;
              whole = add_zero t;
            };
          },
          le_lt_ext (Fin (level e.element t +ℚ level start.element zero_q)) (Fin (level e.element t)) (Fin q)
              (no_more (level e.element t) (level start.element zero_q) start.most) (subst (λ z. z <ₑ Fin q) here h),
        )

    near_some : (q : ℚ) → read ps t <ₑ Fin q → (i : ListSplit xs late t) × (list_sum xs late t i <ₑ Fin q)
    near_some q h =
        let l = lower.reads t n early in
        let k : min_ext (read f t) l.least <ₑ Fin q = subst (λ z. z <ₑ Fin q) l.lesser h in
        elim (min_one (read f t) l.least) [
          | inl own ↦ by_start q (subst (λ z. z <ₑ Fin q) own k)
          | inr made ↦
              let (j, m) = l.is.near q (subst (λ z. z <ₑ Fin q) made k) in (
                record {
                  left = j.left;
                  right = j.right;
                  left_in = useful.fewer j.left j.left_in;
                  right_in = j.right_in;
                  split = j.split;
                },
                m,
              )
        ]

    useful_is : IsEnvelope xs late t (read ps t)
    useful_is = record { below = below_all; near = near_some }

  -- ---- the windows
  abbrev beside : OperandWindows end f g → BesideRoom end f zs late
  beside r = record {
    room = rooms end f g zs late useful.fewer thin.fewer r;
    own = operand_pieces r.sizes end f r.left;
  }

  pub useful_convolves : IsConvolutionWindow f g end ps
  useful_convolves = record {
    starts = lower.starts;
    reads = λ t n early.
        (windows_convolve f g Inf t (read ps t) windows.left.starts windows.right.starts (endless f) (endless g) tt).0
        (envelope_is F end f g late windows reads sub low thin t early (read ps t) (useful_is t n early));
    stands = λ r. lower.stands (beside r);
    arches = λ r. lower.arches (beside r);
  }

-- ---- of elements that are those of the windows
pub beside_room : (end : ℚ) (f g : List Piece) (us vs late zs : List Element) → us ≡ elements_of f Inf
    → vs ≡ elements_of g Inf → OperandWindows end f g → ((e : Element) → Among e late → Among e vs)
    → AreUseful (read f) end us late zs → BesideRoom end f zs late
beside_room end f g us vs late zs p q r few useful = record {
  room = rooms end f g zs late (λ e h. subst (Among e) p (useful.fewer e h)) (λ e h. subst (Among e) q (few e h)) r;
  own = operand_pieces r.sizes end f r.left;
}

pub ok_useful : {E : Type 0} (r : Result (Vec Piece Global) E) (F : ℚ → Ext) (end : ℚ) (f g : List Piece)
    (us late zs : List Element) → us ≡ elements_of f Inf → OperandWindows end f g
    → ((t : ℚ) → zero_q ≤ℚ t → t <ℚ end → read f t ≡ F t) → IsSubadditive F → read g zero_q ≤ₑ Fin zero_q
    → IsThinned F end (elements_of g Inf) late → AreUseful (read f) end us late zs
    → IfOk r (λ v. IsLowerEnvelope end f zs late v.items) → IfOk r (λ v. IsConvolutionWindow f g end v.items)
ok_useful (Ok v) F end f g us late zs p o reads sub low thin useful k =
    useful_convolves F end f g v.items late zs o reads sub low thin
    (subst (λ x. AreUseful (read f) end x late zs) p useful) k
ok_useful (Err x) F end f g us late zs p o reads sub low thin useful k = k
