-- Where the first of two operands is subadditive, and the second at most 0 at 0, the elements of the second that are
-- nowhere below the first do not count in their convolution.
use Rattle.std.specs.Prelude.{◌≡◌, List}
use Rattle.std.proofs.Common.{arith, sym, ◌∙◌, subst, inl, inr}
use Rattle.rational.specs.Rational.{ℚ, ◌+ℚ◌, ◌≤ℚ◌, ◌<ℚ◌}
use Rattle.rational.specs.Extended.{Ext, ◌≤ₑ◌, ◌+ₑ◌}
use Rattle.rational.specs.declared.Extended.TheVariants.{Fin, Inf}
use Rattle.rational.proofs.Linear.{with2, with3}
use Rattle.rational.proofs.Laws.{add_zero, le_refl, lt_irrefl, lt_le_trans}
use Rattle.rational.proofs.ExtendedOrder.{le_ext_refl, le_ext_trans, same_le_ext, add_le_ext}
use Rattle.upp_curve.specs.declared.affine_segment.line.Piece.{Piece}
use Rattle.upp_curve.specs.declared.affine_segment.element.Element.{Element}
use Rattle.upp_curve.specs.declared.affine_segment.element.Element.TheVariants.{Point, Open}
use Rattle.upp_curve.specs.affine_segment.Elements.{Covers, level}
use Rattle.upp_curve.specs.affine_segment.Reading.{read}
use Rattle.min_plus.specs.Functions.{zero_q}
use Rattle.min_plus.specs.Convolution.{IsSubadditive}
use Rattle.element_envelope.specs.PieceElements.{elements_of, Among}
use Rattle.element_envelope.specs.Envelopes.{ListSplit, list_sum, IsEnvelope}
use Rattle.element_envelope.specs.EnvelopeWindows.{EnvelopeRoom, IsEnvelopeWindow}
use Rattle.element_envelope.specs.ConvolutionWindows.{OperandWindows, IsConvolutionWindow}
use Rattle.element_envelope.proofs.Cover.{cover}
use Rattle.element_envelope.proofs.Members.{Matched, matched_out}
use Rattle.rational.proofs.ExtendedOrder.{finite_below}
use Rattle.element_envelope.proofs.OperandElements.{elements_stand}
use Rattle.element_envelope.proofs.WindowConvolution.{endless}
use Rattle.element_envelope.proofs.Windows.{windows_convolve}
use Rattle.subadd_closure.proofs.ThinnedElements.{element_late, element_reads}
use Rattle.subadd_closure.specs.Thinned.{IsOver, IsThinned}

no_more : (a b : ℚ) → b ≤ℚ zero_q → a +ℚ b ≤ℚ a
no_more a b h = with2 a b (λ c. omega (arith, c.le, c.lt, c.same))

-- an element with the time 0 is not over anything
not_over : (F : ℚ → Ext) (end : ℚ) (e : Element) → Covers e zero_q → IsOver F end e → ⊥
not_over F end (Point x v) c o = lt_irrefl zero_q (subst (λ z. zero_q <ℚ z) (sym c) o.late)
not_over F end (Open from to line) c o = lt_irrefl from (lt_le_trans c.past o.late)

module _ (F : ℚ → Ext) (end : ℚ) (f g : List Piece) (zs : List Element) (windows : OperandWindows end f g)
    (reads : (t : ℚ) → zero_q ≤ℚ t → t <ℚ end → read f t ≡ F t) (sub : IsSubadditive F)
    (low : read g zero_q ≤ₑ Fin zero_q) (thin : IsThinned F end (elements_of g Inf) zs) where
  abbrev xs : List Element
  xs = elements_of f Inf

  abbrev ys : List Element
  ys = elements_of g Inf

  -- the element of g at 0 is left in
  pub record StartElement : Type 0 where
    pub element : Element
    pub among : Among element zs
    pub covers : Covers element zero_q
    pub most : level element zero_q ≤ℚ zero_q

  pub start_element : StartElement
  start_element =
      let (v, is) = finite_below (read g zero_q) zero_q low in
      let e = (cover g Inf windows.right.starts (endless g)).found zero_q v (le_refl zero_q) tt is in
      let among : Among e.element ys = e.among in
      let most : level e.element zero_q ≤ℚ zero_q =
      subst (λ z. z ≤ₑ Fin zero_q) (element_reads g zero_q e.element windows.right.starts among e.covers) low in
      elim (thin.others e.element among) [
        | inl a ↦ record { element = e.element; among = a; covers = e.covers; most = most }
        | inr o ↦ absurd (not_over F end e.element e.covers o)
      ]

  module _ (t : ℚ) (early : t <ℚ end) where
    -- a split of which the second side is left out: f alone is nowhere above it
    instead : (i : ListSplit xs ys t) → IsOver F end i.right
        → (j : ListSplit xs zs t) × (list_sum xs zs t j ≤ₑ list_sum xs ys t i)
    instead i o =
        let s = i.split.first in
        let u = i.split.second in
        let whole : s +ℚ u ≡ t = i.split.whole in
        let sn : zero_q ≤ℚ s = element_late f s i.left windows.left.starts i.left_in i.split.first_in in
        let un : zero_q ≤ℚ u = element_late g u i.right windows.right.starts i.right_in i.split.second_in in
        let ends : s +ℚ u <ℚ end = subst (λ z. z <ℚ end) (sym whole) early in
        let se : s <ℚ end = with3 s u end (λ c. omega (arith, c.le, c.lt, c.same)) in
        let ue : u <ℚ end = with3 s u end (λ c. omega (arith, c.le, c.lt, c.same)) in
        let tn : zero_q ≤ℚ t = subst (λ z. zero_q ≤ℚ z) whole (with2 s u (λ c. omega (arith, c.le, c.lt, c.same))) in
        let sum : F t ≤ₑ Fin (level i.left s +ℚ level i.right u) =
        le_ext_trans (F t) (F s +ₑ F u) (Fin (level i.left s +ℚ level i.right u))
        (subst (λ z. F z ≤ₑ F s +ₑ F u) whole (sub s u sn un))
        (add_le_ext (F s) (Fin (level i.left s)) (F u) (Fin (level i.right u))
        (same_le_ext (sym (reads s sn se) ∙ element_reads f s i.left windows.left.starts i.left_in i.split.first_in))
        (o.over u i.split.second_in ue)) in
        let (w, at) = finite_below (F t) (level i.left s +ℚ level i.right u) sum in
        let e = (cover f Inf windows.left.starts (endless f)).found t w tn tt (reads t tn early ∙ at) in
        let among : Among e.element xs = e.among in
        let b = start_element in
        let j : ListSplit xs zs t = record {
          left = e.element;
          right = b.element;
          left_in = among;
          right_in = b.among;
          split = record {
            first = t;
            second = zero_q;
            first_in = e.covers;
            second_in = b.covers;
            whole = add_zero t;
          };
        } in
        let here : F t ≡ Fin (level e.element t) = sym (reads t tn early) ∙ element_reads f t e.element windows.left.starts among e.covers in
        let less : level e.element t +ℚ level b.element zero_q ≤ℚ level e.element t =
        no_more (level e.element t) (level b.element zero_q) b.most in (
          j,
          le_ext_trans (Fin (level e.element t +ℚ level b.element zero_q)) (F t)
              (Fin (level i.left s +ℚ level i.right u))
              (le_ext_trans (Fin (level e.element t +ℚ level b.element zero_q)) (Fin (level e.element t)) (F t) less
              (same_le_ext (sym here))) sum,
        )

    matched : Matched {I = ListSplit xs ys t} {J = ListSplit xs zs t} (list_sum xs ys t) (list_sum xs zs t)
    matched = record {
      down = λ i q is. down i q is;
      up = λ j. (
        record {
          left = j.left;
          right = j.right;
          left_in = j.left_in;
          right_in = thin.fewer j.right j.right_in;
          split = j.split;
        },
        le_ext_refl (list_sum xs zs t j),
      );
    }
      where
        down : (i : ListSplit xs ys t) (q : ℚ) → list_sum xs ys t i ≡ Fin q
            → (j : ListSplit xs zs t) × (list_sum xs zs t j ≤ₑ Fin q)
        down i q is = elim (thin.others i.right i.right_in) [
          | inl a ↦ (
            record { left = i.left; right = i.right; left_in = i.left_in; right_in = a; split = i.split },
            same_le_ext is,
          )
          | inr o ↦ let (j, l) = instead i o in
              (j, le_ext_trans (list_sum xs zs t j) (list_sum xs ys t i) (Fin q) l (same_le_ext is))
        ]

    pub envelope_is : (v : Ext) → IsEnvelope xs zs t v → IsEnvelope xs ys t v
    envelope_is v h = matched_out {I = ListSplit xs ys t} {J = ListSplit xs zs t} (list_sum xs ys t) (list_sum xs zs t) v matched h

  -- ---- the windows
  abbrev pub room_in : OperandWindows end f g → EnvelopeRoom end (elements_of f Inf) zs
  room_in r = record {
    sizes = r.sizes;
    limited = r.limited;
    some = r.some;
    left_proper = λ e h. (cover f Inf r.left.starts (endless f)).proper e h;
    right_proper = λ e h. (cover g Inf r.right.starts (endless g)).proper e (thin.fewer e h);
    left = λ e h. elements_stand r.sizes end f Inf e r.left tt h;
    right = λ e h. elements_stand r.sizes end g Inf e r.right tt (thin.fewer e h);
  }

  pub thinned_room : EnvelopeRoom end (elements_of f Inf) zs
  thinned_room = room_in windows

  pub thinned_convolves : (ps : List Piece) → IsEnvelopeWindow end (elements_of f Inf) zs ps → IsConvolutionWindow f g end ps
  thinned_convolves ps E = record {
    starts = E.starts;
    reads = λ t late early.
        (windows_convolve f g Inf t (read ps t) windows.left.starts windows.right.starts (endless f) (endless g) tt).0
        (envelope_is t early (read ps t) (E.reads t late early));
    stands = λ r. E.stands (room_in r);
    arches = λ r. E.arches (room_in r);
  }
