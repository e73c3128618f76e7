-- Pieces of which those are left out that go on with the one before them: how more are added, and what they read as.
use Rattle.std.specs.Prelude.{◌≡◌, Bool, true, false, not, ◌-◌, ◌≤◌, ◌⊎◌, List, [], ◌∷◌, ◌++◌, length, Some, None, slice_get}
use Rattle.std.proofs.Common.{arith, sym, ap, ap₂, ◌∙◌, refl, subst, inl, inr}
use Rattle.rational.specs.Rational.{ℚ, ◌≤ℚ◌, ◌<ℚ◌}
use Rattle.rational.specs.Extended.{Ext, ◌≤ₑ◌, min_ext}
use Rattle.rational.specs.declared.Extended.TheVariants.{Fin}
use Rattle.rational.proofs.Laws.{le_or_lt, le_of_lt}
use Rattle.rational.proofs.ExtendedOrder.{min_ext_of_le, min_ext_comm}
use Rattle.upp_curve.specs.declared.affine_segment.line.Piece.{Piece}
use Rattle.upp_curve.specs.Normal.{Continues}
use Rattle.upp_curve.specs.Steady.{last_of}
use Rattle.upp_curve.specs.affine_segment.Reading.{read}
use Rattle.upp_curve.specs.affine_segment.Values.{line_value}
use Rattle.upp_curve.specs.affine_segment.Pieces.{RisesFrom}
use Rattle.upp_curve.proofs.affine_segment.PieceIn.{read_stop, read_go}
use Rattle.upp_curve.proofs.affine_segment.PieceOrder.{rises_down}
use Rattle.upp_curve.proofs.PieceLoops.{last_is}
use Rattle.upp_normal.specs.Normalising.{IsPart}
use Rattle.upp_normal.proofs.NormaliseForm.{each_part}
use Rattle.upp_normal.proofs.NormaliseMerge.{skip}
use Rattle.curve_call.specs.declared.stretch.Both.{Both}
use Rattle.curve_call.specs.declared.made.Made.TheVariants.{Lower}
use Rattle.curve_call.specs.Made.{first_piece}
use Rattle.curve_call.specs.Lower.{IsLowerPiece, IsLowerOf}
use Rattle.curve_call.specs.Joining.{GoesOnLast, JoinsAfter, JoinsTo}

-- ---- one piece more
after_kept : (p : Piece) (ps kept : List Piece) (q : Piece) → JoinsAfter p ps kept → JoinsAfter p (ps ++ q ∷ []) (kept ++ q ∷ [])
after_kept p [] kept q e = inr ([], ap (λ z. z ++ q ∷ []) e, refl)
after_kept p (s ∷ ps) kept q (inl (C, J)) = inl (C, after_kept p ps kept q J)
after_kept p (s ∷ ps) kept q (inr (more, e, J)) = inr (more ++ q ∷ [], ap (λ z. z ++ q ∷ []) e, after_kept s ps more q J)

pub joined_kept : (all kept : List Piece) (q : Piece) → JoinsTo all kept → JoinsTo (all ++ q ∷ []) (kept ++ q ∷ [])
joined_kept [] kept q e = ([], ap (λ z. z ++ q ∷ []) e, refl)
joined_kept (p ∷ ps) kept q (more, e, J) = (more ++ q ∷ [], ap (λ z. z ++ q ∷ []) e, after_kept p ps more q J)

after_left : (p : Piece) (ps kept : List Piece) (q : Piece) → JoinsAfter p ps kept → Continues (last_of p kept) q → JoinsAfter p (ps ++ q ∷ []) kept
after_left p [] kept q e C = inl (subst (λ z. Continues (last_of p z) q) e C, e)
after_left p (s ∷ ps) kept q (inl (D, J)) C = inl (D, after_left p ps kept q J C)
after_left p (s ∷ ps) kept q (inr (more, e, J)) C = inr (more, e, after_left s ps more q J (subst (λ z. Continues (last_of p z) q) e C))

-- a piece that goes on with another goes on with each that has its line
same_line : (p last q : Piece) → p.line ≡ last.line → Continues last q → Continues p q
same_line p last q e C = (C.0 ∙ ap (λ l. line_value l q.x) (sym e), C.1 ∙ sym e)

left_of : (all kept : List Piece) (last q : Piece) → JoinsTo all kept → slice_get kept (length kept - 1) ≡ Some last → Continues last q → JoinsTo (all ++ q ∷ []) kept
left_of [] kept last q e h C = let none : None ≡ Some last = subst (λ z. slice_get z (length z - 1) ≡ Some last) e h in let no : ⊥ = cc in absurd no
left_of (p ∷ ps) kept last q (more, e, J) h C =
    let line : (last_of p more).line ≡ last.line = last_is (p ∷ more) last (subst (λ z. slice_get z (length z - 1) ≡ Some last) e h) in
    (more, e, after_left p ps more q J (same_line (last_of p more) last q line C))

pub joined_left : (all kept there : List Piece) (q : Piece) → there ≡ kept → GoesOnLast there q → JoinsTo all kept → JoinsTo (all ++ q ∷ []) kept
joined_left all kept there q same (last, e, C) J = left_of all kept last q J (subst (λ z. slice_get z (length z - 1) ≡ Some last) same e) C

-- ---- the beginning of a stretch
pub lesser_left : (v w : Ext) (x y : ℚ) → v ≡ Fin x → w ≡ Fin y → x ≤ℚ y → min_ext v w ≡ v
lesser_left v w x y e k h = min_ext_of_le v w (subst (λ z. z ≤ₑ w) (sym e) (subst (λ z. Fin x ≤ₑ z) (sym k) h))

pub lesser_right : (v w : Ext) (x y : ℚ) → v ≡ Fin x → w ≡ Fin y → y ≤ℚ x → min_ext v w ≡ w
lesser_right v w x y e k h = min_ext_comm v w ∙ lesser_left w v y x k e h

-- the piece of the lower line, and the lesser value
pub first_of : (below : Bool) (b : Both) (own other : Piece) → b.left.x ≡ b.right.x → (below ≡ true → own ≡ b.left) → (below ≡ false → own ≡ b.right) → (not below ≡ true → other ≡ b.left)
    → (not below ≡ false → other ≡ b.right) → record { x = own.x; at = min_ext own.at other.at; line = own.line } ≡ first_piece Lower below b
first_of true b own other same l r m s = ap₂ (λ (p q : Piece). record { x = p.x; at = min_ext p.at q.at; line = p.line }) (l refl) (s refl)
first_of false b own other same l r m s =
    ap₂ (λ (p q : Piece). record { x = p.x; at = min_ext p.at q.at; line = p.line }) (r refl) (m refl)
    ∙ ap₂ (λ x v. record { x = x; at = v; line = b.right.line }) (sym same) (min_ext_comm b.right.at b.left.at)

-- ---- what they read as
-- those that are kept after p
record IsKept (p : Piece) (ps kept : List Piece) : Type 0 where
  pub rises : RisesFrom p.x kept
  pub reads : (t : ℚ) → read (p ∷ kept) t ≡ read (p ∷ ps) t
  pub part : IsPart kept ps
  pub count : length kept ≤ length ps

is_kept : (p : Piece) (ps kept : List Piece) → RisesFrom p.x ps → JoinsAfter p ps kept → IsKept p ps kept
is_kept p [] kept r e = subst (IsKept p []) (sym e) record { rises = tt; reads = λ t. refl; part = refl; count = omega arith }
is_kept p (q ∷ ps) kept r (inl (C, J)) =
    let K = is_kept p ps kept (rises_down p.x q.x ps (le_of_lt r.0) r.1) J in
    record {
      rises = K.rises;
      reads = λ t. K.reads t ∙ sym (skip p q ps t C r.0 r.1);
      part = inl K.part;
      count = let n = K.count in omega (arith, n);
    }
is_kept p (q ∷ ps) kept r (inr (more, e, J)) = subst (IsKept p (q ∷ ps)) (sym e) (with_next (is_kept q ps more r.1 J))
  where
    with_next : IsKept q ps more → IsKept p (q ∷ ps) (q ∷ more)
    with_next K = record {
      rises = (r.0, K.rises);
      reads = λ t. by_time t (le_or_lt q.x t);
      part = inr (more, refl, K.part);
      count = let n = K.count in omega (arith, n);
    }
      where
        by_time : (t : ℚ) → (q.x ≤ℚ t) ⊎ (t <ℚ q.x) → read (p ∷ q ∷ more) t ≡ read (p ∷ q ∷ ps) t
        by_time t (inl l) = read_go p q more t l ∙ K.reads t ∙ sym (read_go p q ps t l)
        by_time t (inr l) = read_stop p q more t l ∙ sym (read_stop p q ps t l)

pub joined_lower : (f g : List Piece) (end : ℚ) (all kept : List Piece) → IsLowerOf f g end all → JoinsTo all kept → IsLowerOf f g end kept
joined_lower f g end [] kept L e = absurd L.starts
joined_lower f g end (p ∷ ps) kept L (more, e, J) =
    let K = is_kept p ps more L.starts.1 J in
    subst (IsLowerOf f g end) (sym e) record {
      starts = (L.starts.0, K.rises);
      reads = λ t low high. K.reads t ∙ L.reads t low high;
      early = (L.early.0, each_part (λ q. q.x <ℚ end) more ps K.part L.early.1);
      each = (L.each.0, each_part (IsLowerPiece f g end) more ps K.part L.each.1);
      count = let l = K.count in let c = L.count in omega (arith, l, c);
    }
