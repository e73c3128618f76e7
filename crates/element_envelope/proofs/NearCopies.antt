-- Starts that are far from the first one need no copy.
use Rattle.std.specs.Prelude.{ℕ, zero, suc, ◌<◌, ◌≡◌, ◌⊎◌, pos, List, [], ◌∷◌, ◌++◌, Result, Ok, Err, IfOk, Vec}
use Rattle.std.proofs.Common.{append_assoc, append-nil, arith, get_or, length, refl, sym, ap, ap₂, ◌∙◌, subst, inl, inr, Global}
use Rattle.rational.specs.Rational.{ℚ, ◌+ℚ◌, ◌-ℚ◌, ◌*ℚ◌, ◌≤ℚ◌, int}
use Rattle.rational.specs.Extended.{Ext, ◌≤ₑ◌, ◌+ₑ◌}
use Rattle.rational.specs.declared.Extended.TheVariants.{Fin}
use Rattle.rational.proofs.Linear.{with2, with3, with6}
use Rattle.rational.proofs.Laws.{le_of_lt, le_trans, lt_irrefl}
use Rattle.rational.proofs.ExtendedOrder.{le_ext_trans}
use Rattle.upp_curve.specs.declared.affine_segment.line.Piece.{Piece}
use Rattle.upp_curve.specs.affine_segment.Pieces.{Each}
use Rattle.upp_curve.specs.affine_segment.Reading.{read}
use Rattle.element_envelope.specs.ConvolutionWindows.{WindowPiece}
use Rattle.element_envelope.specs.Copies.{IsPieceOf, IsLeastCopy}
use Rattle.element_envelope.specs.CopyWindows.{CopyRoom, IsCopyWindow}
use Rattle.element_envelope.specs.NearStarts.{IsFar, IsWithout, IsNear}
use Rattle.element_envelope.proofs.Paces.{Paced}

-- ---- what is left out
pub without_in : (P : Piece → Type 0) (k : Piece) (qs ks : List Piece) → IsWithout P qs ks → IsPieceOf k ks → IsPieceOf k qs
without_in P k [] ks N m = subst (IsPieceOf k) N m
without_in P k (q ∷ qs) ks (inl N) m = inr (without_in P k qs ks N.1 m)
without_in P k (q ∷ qs) ks (inr N) m = elim (subst (IsPieceOf k) N.1 m) [ inl e ↦ inl e | inr n ↦ inr (without_in P k qs N.0 N.2 n) ]

without_out : (P : Piece → Type 0) (k : Piece) (qs ks : List Piece) → IsWithout P qs ks → IsPieceOf k qs → IsPieceOf k ks ⊎ P k
without_out P k [] ks N m = absurd m
without_out P k (q ∷ qs) ks (inl N) (inl e) = inr (subst P (sym e) N.0)
without_out P k (q ∷ qs) ks (inl N) (inr m) = without_out P k qs ks N.1 m
without_out P k (q ∷ qs) ks (inr N) (inl e) = inl (subst (IsPieceOf k) (sym N.1) (inl e))
without_out P k (q ∷ qs) ks (inr N) (inr m) = elim (without_out P k qs N.0 N.2 m) [
  | inl n ↦ inl (subst (IsPieceOf k) (sym N.1) (inr n))
  | inr F ↦ inr F
]

pub each_without : (P Q : Piece → Type 0) (qs ks : List Piece) → IsWithout P qs ks → Each Q qs → Each Q ks
each_without P Q [] ks N h = subst (Each Q) (sym N) tt
each_without P Q (q ∷ qs) ks (inl N) h = each_without P Q qs ks N.1 h.1
each_without P Q (q ∷ qs) ks (inr N) h = subst (Each Q) (sym N.1) (h.0, each_without P Q qs N.0 N.2 h.1)

-- ---- a copy at a start that is far is nowhere below that at the first
far_above : (g : List Piece) (r a end : ℚ) (p q : Piece) (t : ℚ) → Paced g r a end → IsFar r a p q → int (pos 0) ≤ℚ p.x → q.x ≤ℚ t → t ≤ℚ end → p.at +ₑ read g (t -ℚ p.x) ≤ₑ q.at +ₑ read g (t -ℚ q.x)
far_above g r a end p q t G F first h high =
    let x = p.x in
    let y = q.x in
    let late = F.late in
    let low : int (pos 0) ≤ℚ t -ℚ y = with2 t y (λ c. omega (arith, c.le, c.lt, c.same)) in
    let more : t -ℚ y ≤ℚ t -ℚ x = with3 t x y (λ c. omega (arith, c.le, c.lt, c.same)) in
    let soon : t -ℚ x ≤ℚ end = with3 t x end (λ c. omega (arith, c.le, c.lt, c.same)) in
    let (v, ev) = G.level (t -ℚ y) in
    let (w, ew) = G.level (t -ℚ x) in
    let gain : w ≤ℚ v +ℚ a +ℚ r *ℚ ((t -ℚ x) -ℚ (t -ℚ y)) = G.most (t -ℚ y) (t -ℚ x) v w low more soon ev ew in
    let same : (t -ℚ x) -ℚ (t -ℚ y) ≡ y -ℚ x = with3 t x y (λ c. omega (arith, c.le, c.lt, c.same)) in
    let left : p.at +ₑ read g (t -ℚ x) ≡ Fin (F.first +ℚ w) = ap₂ (λ (i j : Ext). i +ₑ j) F.first_is ew in
    let right : q.at +ₑ read g (t -ℚ y) ≡ Fin (F.second +ℚ v) = ap₂ (λ (i j : Ext). i +ₑ j) F.second_is ev in
    subst (λ z. z ≤ₑ q.at +ₑ read g (t -ℚ y)) (sym left)
    (subst (λ z. Fin (F.first +ℚ w) ≤ₑ z) (sym right)
    (sums F.first F.second v w a (r *ℚ (y -ℚ x)) F.above (subst (λ z. w ≤ℚ v +ℚ a +ℚ r *ℚ z) same gain)))
  where
    sums : (i j v w a m : ℚ) → i +ℚ a +ℚ m ≤ℚ j → w ≤ℚ v +ℚ a +ℚ m → i +ℚ w ≤ℚ j +ℚ v
    sums i j v w a m h k = with6 i j v w a m (λ c. omega (arith, c.le, c.lt, c.same))

near_least : (g : List Piece) (r a end : ℚ) (p : Piece) (qs ks : List Piece) (t : ℚ) (v : Ext) → Paced g r a end → int (pos 0) ≤ℚ p.x → t ≤ℚ end → IsPieceOf p qs → IsNear r a p qs ks → IsLeastCopy ks g t v → IsLeastCopy qs g t v
near_least g r a end p qs ks t v G low high own N h = record {
  below = λ s. elim (without_out (IsFar r a p) s.piece qs ks N s.among) [
    | inl m ↦ h.below record { piece = s.piece; among = m; late = s.late }
    | inr F ↦
        le_ext_trans v (p.at +ₑ read g (t -ℚ p.x)) (s.piece.at +ₑ read g (t -ℚ s.piece.x))
        (h.below record { piece = p; among = kept; late = le_trans (le_of_lt F.late) s.late }) (far_above g r a end p s.piece t G F low s.late high)
  ];
  near = λ y l.
      let (i, k) = h.near y l in
      (record { piece = i.piece; among = without_in (IsFar r a p) i.piece qs ks N i.among; late = i.late }, k);
}
  where
    kept : IsPieceOf p ks
    kept = elim (without_out (IsFar r a p) p qs ks N own) [ inl m ↦ m | inr F ↦ absurd (lt_irrefl p.x F.late) ]

-- ---- the windows
pub near_room : (from end r a : ℚ) (p : Piece) (qs ks g : List Piece) → IsNear r a p qs ks → CopyRoom from end qs g → CopyRoom from end ks g
near_room from end r a p qs ks g N R = record {
  sizes = R.sizes;
  limited = R.limited;
  some = R.some;
  late = R.late;
  starts = each_without (IsFar r a p) (WindowPiece R.sizes end) qs ks N R.starts;
  copied = R.copied;
}

near_window : (from end r a : ℚ) (p : Piece) (qs ks g ws : List Piece) → Paced g r a end → int (pos 0) ≤ℚ p.x → IsPieceOf p qs → IsNear r a p qs ks → IsCopyWindow from end ks g ws → IsCopyWindow from end qs g ws
unfolding near_room
near_window from end r a p qs ks g ws G low own N W = record {
  starts = W.starts;
  reads = λ t nonneg late high. near_least g r a end p qs ks t (read ws t) G low (le_of_lt high) own N (W.reads t nonneg late high);
  stands = λ R. W.stands (near_room from end r a p qs ks g N R);
  arches = λ R. W.arches (near_room from end r a p qs ks g N R);
}

each_of : (P : Piece → Type 0) (ps : List Piece) (p : Piece) → Each P ps → IsPieceOf p ps → P p
each_of P [] p E m = absurd m
each_of P (q ∷ qs) p E (inl e) = subst P (sym e) E.0
each_of P (q ∷ qs) p E (inr m) = each_of P qs p E.1 m

pub ok_near : {E : Type 0} (result : Result (Vec Piece Global) E) (from end r a : ℚ) (p : Piece) (qs ks g : List Piece) → IsPieceOf p qs → CopyRoom from end qs g → Paced g r a end → IsNear r a p qs ks
    → IfOk result (λ w. IsCopyWindow from end ks g w.items) → IfOk result (λ w. IsCopyWindow from end qs g w.items)
ok_near (Ok w) from end r a p qs ks g own R G N k = near_window from end r a p qs ks g w.items G (each_of (WindowPiece R.sizes end) qs p R.starts own).nonneg own N k
ok_near (Err x) from end r a p qs ks g own R G N k = k

-- ---- the loop
-- after some pieces, q is put, or P holds of it and it is not
abbrev pub IsPutOr : (Piece → Type 0) → Piece → List Piece → List Piece → Type 0
IsPutOr P q old new = (P q × (new ≡ old)) ⊎ (new ≡ old ++ q ∷ [])

pub without_step : (P : Piece → Type 0) (q : Piece) (left rest all old new : List Piece) → left ≡ q ∷ rest → IsPutOr P q old new
    → ((ks : List Piece) → IsWithout P left ks → IsWithout P all (old ++ ks)) → (ks : List Piece) → IsWithout P rest ks → IsWithout P all (new ++ ks)
without_step P q left rest all old new d (inl k) h ks N =
    subst (λ z. IsWithout P all (z ++ ks)) (sym k.1) (h ks (subst (λ z. IsWithout P z ks) (sym d) (inl (k.0, N))))
without_step P q left rest all old new d (inr e) h ks N =
    subst (λ z. IsWithout P all z) (sym (ap (λ z. z ++ ks) e ∙ append_assoc old (q ∷ []) ks)) (h (q ∷ ks) (subst (λ z. IsWithout P z (q ∷ ks)) (sym d) (inr (ks, refl, N))))

pub without_end : (P : Piece → Type 0) (left all old : List Piece) → left ≡ [] → ((ks : List Piece) → IsWithout P left ks → IsWithout P all (old ++ ks)) → IsWithout P all old
without_end P left all old d h = subst (IsWithout P all) (append-nil old) (h [] (subst (λ z. IsWithout P z []) (sym d) refl))

pub without_none : (P : Piece → Type 0) (all kept : List Piece) → kept ≡ [] → (ks : List Piece) → IsWithout P all ks → IsWithout P all (kept ++ ks)
without_none P all kept e ks N = subst (λ z. IsWithout P all (z ++ ks)) (sym e) N

-- ---- one of the starts
pub start_among : (ps : List Piece) (i : ℕ) (p : Piece) → i < length ps → p ≡ get_or ps i p → IsPieceOf p ps
start_among [] i p l e = absurd (omega (arith, l))
start_among (q ∷ qs) zero p l e = inl e
start_among (q ∷ qs) (suc i) p l e = inr (start_among qs i p (omega (arith, l)) e)
