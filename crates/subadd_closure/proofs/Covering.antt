-- Where the second of two operands is subadditive, the elements of the first that are nowhere below what it makes with some
-- elements of the second, each after 0, do not count in their convolution: a split at such an element is nowhere below one
-- that is earlier, by at least the start of those.
use Rattle.std.specs.Prelude.{◌≡◌, ℕ, zero, suc, pos, List, [], ◌∷◌, Result, Ok, Err, IfOk, Vec}
use Rattle.std.proofs.Common.{arith, subst, inl, inr, Global}
use Rattle.rational.specs.Rational.{ℚ, ◌+ℚ◌, ◌-ℚ◌, ◌*ℚ◌, ◌≤ℚ◌, ◌<ℚ◌, int}
use Rattle.rational.specs.Extended.{Ext, ◌≤ₑ◌, ◌<ₑ◌, ◌+ₑ◌}
use Rattle.rational.specs.declared.Extended.TheVariants.{Fin, Inf}
use Rattle.rational.proofs.Linear.{with1, with2, with3, with4, with_atoms}
use Rattle.rational.proofs.Laws.{le_trans, le_lt_trans, lt_irrefl, zero_mul}
use Rattle.rational.proofs.Quotients.{times_above}
use Rattle.rational.proofs.Whole.{one_more_times}
use Rattle.rational.proofs.ExtendedOrder.{le_ext_trans, le_lt_ext, le_or_lt_ext, finite_below}
use Rattle.upp_curve.specs.declared.affine_segment.line.Piece.{Piece}
use Rattle.upp_curve.specs.declared.affine_segment.element.Element.{Element}
use Rattle.upp_curve.specs.affine_segment.Elements.{level}
use Rattle.upp_curve.specs.affine_segment.Reading.{read}
use Rattle.min_plus.specs.Functions.{zero_q}
use Rattle.element_envelope.specs.PieceElements.{elements_of, Among}
use Rattle.element_envelope.specs.Envelopes.{ListSplit, list_sum, IsEnvelope}
use Rattle.element_envelope.specs.EnvelopeWindows.{EnvelopeRoom, IsEnvelopeWindow}
use Rattle.element_envelope.specs.ConvolutionWindows.{OperandWindows, IsConvolutionWindow}
use Rattle.element_envelope.proofs.Cover.{cover}
use Rattle.element_envelope.proofs.EnvelopeHalves.{part_room}
use Rattle.element_envelope.proofs.Envelopes.{from_start}
use Rattle.element_envelope.proofs.OperandElements.{elements_stand}
use Rattle.element_envelope.proofs.WindowConvolution.{endless}
use Rattle.element_envelope.proofs.Windows.{windows_convolve}
use Rattle.subadd_closure.proofs.ThinnedElements.{element_late, element_reads}
use Rattle.subadd_closure.specs.Thinned.{StartFrom, IsCovered, IsOver, IsThinned}

-- ---- numbers
none_early : (s e : ℚ) → zero_q ≤ℚ s → s <ℚ int (pos 0) *ℚ e → ⊥
none_early s e n h = lt_irrefl zero_q (le_lt_trans n (subst (λ z. s <ℚ z) (zero_mul e) h))

one_less : (a w s e x y : ℚ) → a +ℚ w ≡ s → e ≤ℚ w → s <ℚ y → y ≡ x +ℚ e → a <ℚ x
one_less a w s e x y whole late far is = with_atoms (a ∷ w ∷ s ∷ e ∷ x ∷ y ∷ []) (λ c. omega (arith, c.le, c.lt, c.same))

same_whole : (a w s u t : ℚ) → a +ℚ w ≡ s → s +ℚ u ≡ t → a +ℚ (w +ℚ u) ≡ t
same_whole a w s u t p q = with_atoms (a ∷ w ∷ s ∷ u ∷ t ∷ []) (λ c. omega (arith, c.le, c.lt, c.same))

rest_early : (a x t end : ℚ) → zero_q ≤ℚ a → a +ℚ x ≡ t → t <ℚ end → x <ℚ end
rest_early a x t end n p h = with4 a x t end (λ c. omega (arith, c.le, c.lt, c.same))

first_early : (s u t end : ℚ) → zero_q ≤ℚ u → s +ℚ u ≡ t → t <ℚ end → s <ℚ end
first_early s u t end n p h = with4 s u t end (λ c. omega (arith, c.le, c.lt, c.same))

sum_low : (p q r z : ℚ) → z ≤ℚ q +ℚ r → p +ℚ z ≤ℚ (p +ℚ q) +ℚ r
sum_low p q r z h = with4 p q r z (λ c. omega (arith, c.le, c.lt, c.same))

no_less : (q y r : ℚ) → q <ℚ y → y +ℚ r ≤ℚ q +ℚ r → ⊥
no_less q y r h k = with3 q y r (λ c. omega (arith, c.le, c.lt, c.same))

-- between l and what is left of a value above l + r there is a number
record Between (v : Ext) (l r : ℚ) : Type 0 where
  number : ℚ
  above : l <ℚ number
  below : Fin (number +ℚ r) ≤ₑ v

number_between : (v : Ext) (l r : ℚ) → Fin (l +ℚ r) <ₑ v → Between v l r
number_between Inf l r h = record {
  number = l +ℚ int (pos 1);
  above = with1 l (λ c. omega (arith, c.le, c.lt, c.same));
  below = tt;
}
number_between (Fin w) l r h = record {
  number = w -ℚ r;
  above = with3 l r w (λ c. omega (arith, c.le, c.lt, c.same));
  below = with2 w r (λ c. omega (arith, c.le, c.lt, c.same));
}

-- ---- elements of both windows have room
abbrev pub rooms : (end : ℚ) (f g : List Piece) (us vs : List Element)
    → ((e : Element) → Among e us → Among e (elements_of f Inf))
    → ((e : Element) → Among e vs → Among e (elements_of g Inf)) → OperandWindows end f g → EnvelopeRoom end us vs
rooms end f g us vs left right r = record {
  sizes = r.sizes;
  limited = r.limited;
  some = r.some;
  left_proper = λ e h. (cover f Inf r.left.starts (endless f)).proper e (left e h);
  right_proper = λ e h. (cover g Inf r.right.starts (endless g)).proper e (right e h);
  left = λ e h. elements_stand r.sizes end f Inf e r.left tt (left e h);
  right = λ e h. elements_stand r.sizes end g Inf e r.right tt (right e h);
}

-- ---- the first window's elements
module _ (end : ℚ) (f g cs : List Piece) (ws zs : List Element) (least : ℚ) (windows : OperandWindows end f g)
    (adds : (s u : ℚ) → zero_q ≤ℚ s → zero_q ≤ℚ u → s +ℚ u <ℚ end → read g (s +ℚ u) ≤ₑ read g s +ₑ read g u)
    (some : zero_q <ℚ least) (few : StartFrom least (elements_of g Inf) ws)
    (lower : IsEnvelopeWindow end (elements_of f Inf) ws cs) (thin : IsThinned (read cs) end (elements_of f Inf) zs) where
  abbrev xs : List Element
  xs = elements_of f Inf

  abbrev ys : List Element
  ys = elements_of g Inf

  module _ (t : ℚ) (early : t <ℚ end) (v : Ext) (all : IsEnvelope zs ys t v) where
    -- where v is nowhere above the sums at a split of the first side, it is not above the first side's own sum
    by_few : (i : ListSplit xs ys t) → IsOver (read cs) end i.left
        → ((k : ListSplit xs ws i.split.first)
        → v ≤ₑ list_sum xs ws i.split.first k +ₑ Fin (level i.right i.split.second))
        → v ≤ₑ list_sum xs ys t i
    by_few i over each =
        let s = i.split.first in
        let l = level i.left s in
        let r = level i.right i.split.second in
        let sn : zero_q ≤ℚ s = element_late f s i.left windows.left.starts i.left_in i.split.first_in in
        let un : zero_q ≤ℚ i.split.second = element_late g i.split.second i.right windows.right.starts i.right_in i.split.second_in in
        let se : s <ℚ end = first_early s i.split.second t end un i.split.whole early in
        let under : read cs s ≤ₑ Fin l = over.over s i.split.first_in se in
        elim (le_or_lt_ext v (Fin (l +ℚ r))) [
          | inl le ↦ le
          | inr above ↦
              let b = number_between v l r above in
              let (k, low) = (lower.reads s sn se).near b.number (le_lt_ext (read cs s) (Fin l) (Fin b.number) under b.above) in
              absurd (no_less (level k.left k.split.first +ℚ level k.right k.split.second) b.number r low
              (le_ext_trans (Fin (b.number +ℚ r)) v (list_sum xs ws s k +ₑ Fin r) b.below (each k)))
        ]

    -- a split of the first side makes an earlier split of the whole, which is nowhere above
    earlier : (n : ℕ) → ((j : ListSplit xs ys t) → j.split.first <ℚ int (pos n) *ℚ least → v ≤ₑ list_sum xs ys t j)
        → (i : ListSplit xs ys t) → i.split.first <ℚ int (pos (suc n)) *ℚ least → (k : ListSplit xs ws i.split.first)
        → v ≤ₑ list_sum xs ws i.split.first k +ₑ Fin (level i.right i.split.second)
    earlier n before i far k =
        let s = i.split.first in
        let u = i.split.second in
        let a = k.split.first in
        let w = k.split.second in
        let (among, late) = few k.right k.right_in in
        let an : zero_q ≤ℚ a = element_late f a k.left windows.left.starts k.left_in k.split.first_in in
        let wn : zero_q ≤ℚ w = element_late g w k.right windows.right.starts among k.split.second_in in
        let un : zero_q ≤ℚ u = element_late g u i.right windows.right.starts i.right_in i.split.second_in in
        let past : least ≤ℚ w = le_trans late (from_start k.right w k.split.second_in) in
        let whole : a +ℚ (w +ℚ u) ≡ t = same_whole a w s u t k.split.whole i.split.whole in
        let soon : w +ℚ u <ℚ end = rest_early a (w +ℚ u) t end an whole early in
        let low : zero_q ≤ℚ w +ℚ u = with2 w u (λ c. omega (arith, c.le, c.lt, c.same)) in
        let sum : read g (w +ℚ u) ≤ₑ Fin (level k.right w +ℚ level i.right u) =
        subst (λ z. read g (w +ℚ u) ≤ₑ z +ₑ Fin (level i.right u)) (element_reads g w k.right windows.right.starts among k.split.second_in)
        (subst (λ z. read g (w +ℚ u) ≤ₑ read g w +ₑ z) (element_reads g u i.right windows.right.starts i.right_in i.split.second_in)
        (adds w u wn un soon)) in
        let (q, is) = finite_below (read g (w +ℚ u)) (level k.right w +ℚ level i.right u) sum in
        let e = (cover g Inf windows.right.starts (endless g)).found (w +ℚ u) q low tt is in
        let here : Among e.element ys = e.among in
        let less : level e.element (w +ℚ u) ≤ℚ level k.right w +ℚ level i.right u =
        subst (λ z. z ≤ₑ Fin (level k.right w +ℚ level i.right u)) (element_reads g (w +ℚ u) e.element windows.right.starts here e.covers) sum in
        let j : ListSplit xs ys t = record {
          left = k.left;
          right = e.element;
          left_in = k.left_in;
          right_in = here;
          split = record {
            first = a;
            second = w +ℚ u;
            first_in = k.split.first_in;
            second_in = e.covers;
            whole = whole;
          };
        } in
        le_ext_trans v (Fin (level k.left a +ℚ level e.element (w +ℚ u)))
        (Fin ((level k.left a +ℚ level k.right w) +ℚ level i.right u))
        (before j (one_less a w s least (int (pos n) *ℚ least) (int (pos (suc n)) *ℚ least) k.split.whole past far
        (one_more_times n least)))
        (sum_low (level k.left a) (level k.right w) (level i.right u) (level e.element (w +ℚ u)) less)

    bounded : (n : ℕ) (i : ListSplit xs ys t) → i.split.first <ℚ int (pos n) *ℚ least → v ≤ₑ list_sum xs ys t i
    bounded zero i far =
        absurd (none_early i.split.first least (element_late f i.split.first i.left windows.left.starts i.left_in i.split.first_in) far)
    bounded (suc n) i far = elim (thin.others i.left i.left_in) [
      | inl kept ↦
          all.below
          record { left = i.left; right = i.right; left_in = kept; right_in = i.right_in; split = i.split }
      | inr over ↦ by_few i over (λ k. earlier n (λ j h. bounded n j h) i far k)
    ]

    covered_is : IsEnvelope xs ys t v
    covered_is = record {
      below = λ i. let (n, far) = times_above i.split.first least some in bounded n i far;
      near = λ y h.
          let (j, low) = all.near y h in (
            record {
              left = j.left;
              right = j.right;
              left_in = thin.fewer j.left j.left_in;
              right_in = j.right_in;
              split = j.split;
            },
            low,
          );
    }

  -- ---- the windows
  pub covered_convolves : (ps : List Piece) → IsEnvelopeWindow end zs (elements_of g Inf) ps → IsConvolutionWindow f g end ps
  covered_convolves ps E = record {
    starts = E.starts;
    reads = λ t late early.
        (windows_convolve f g Inf t (read ps t) windows.left.starts windows.right.starts (endless f) (endless g) tt).0
        (covered_is t early (read ps t) (E.reads t late early));
    stands = λ r. E.stands (rooms end f g zs ys thin.fewer (λ e h. h) r);
    arches = λ r. E.arches (rooms end f g zs ys thin.fewer (λ e h. h) r);
  }

-- ---- of elements that are those of the windows
pub whole_room : (end : ℚ) (f g : List Piece) (us vs : List Element) → us ≡ elements_of f Inf → vs ≡ elements_of g Inf
    → OperandWindows end f g → EnvelopeRoom end us vs
whole_room end f g us vs p q r =
    rooms end f g us vs (λ e h. subst (Among e) p h) (λ e h. subst (Among e) q h) r

pub few_room : (end : ℚ) (us vs ws : List Element) (least : ℚ) → StartFrom least vs ws → EnvelopeRoom end us vs
    → EnvelopeRoom end us ws
few_room end us vs ws least few r = part_room end us vs us ws (λ e h. h) (λ e h. (few e h).0) r

pub ok_covered : {E : Type 0} (r : Result (Vec Piece Global) E) (end : ℚ) (f g : List Piece) (us vs zs : List Element)
    → us ≡ elements_of f Inf → vs ≡ elements_of g Inf → OperandWindows end f g
    → ((s u : ℚ) → zero_q ≤ℚ s → zero_q ≤ℚ u → s +ℚ u <ℚ end → read g (s +ℚ u) ≤ₑ read g s +ₑ read g u)
    → IsCovered end us vs zs → IfOk r (λ v. IsEnvelopeWindow end zs vs v.items)
    → IfOk r (λ v. IsConvolutionWindow f g end v.items)
ok_covered (Ok v) end f g us vs zs p q o adds c k =
    covered_convolves end f g c.low c.few zs c.least o adds c.late (subst (λ y. StartFrom c.least y c.few) q c.among)
    (subst (λ x. IsEnvelopeWindow end x c.few c.low) p c.makes) (subst (λ x. IsThinned (read c.low) end x zs) p c.thin)
    v.items (subst (λ y. IsEnvelopeWindow end zs y v.items) q k)
ok_covered (Err x) end f g us vs zs p q o adds c k = k

-- as code makes them
pub ok_covers : {E : Type 0} (r : Result (Vec Element Global) E) (end least : ℚ) (us vs few : List Element)
    (low : List Piece) → zero_q <ℚ least → StartFrom least vs few → IsEnvelopeWindow end us few low
    → IfOk r (λ v. IsThinned (read low) end us v.items) → IfOk r (λ v. IsCovered end us vs v.items)
ok_covers (Ok v) end least us vs few low late among makes thin = record {
  least = least;
  late = late;
  few = few;
  among = among;
  low = low;
  makes = makes;
  thin = thin;
}
ok_covers (Err x) end least us vs few low late among makes thin = thin
