-- Functions with one rule agree where they agree in one period; and a second period's pieces read as the repeated function.
use Rattle.std.specs.Prelude.{◌≡◌, ℕ, pos, List, [], ◌∷◌, ◌++◌, ◌⊎◌}
use Rattle.std.proofs.Common.{arith, sym, ap, ◌∙◌, subst, inl, inr}
use Rattle.rational.specs.Rational.{ℚ, ◌+ℚ◌, ◌-ℚ◌, ◌*ℚ◌, ◌≤ℚ◌, ◌<ℚ◌, int}
use Rattle.rational.specs.Whole.{periods}
use Rattle.rational.proofs.Laws.{antisym, le_or_lt, le_of_lt, le_refl, le_trans, le_lt_trans}
use Rattle.rational.proofs.Linear.{with2, with3, with4}
use Rattle.rational.proofs.Whole.{periods_low, periods_high}
use Rattle.rational.specs.Extended.{Ext, ◌+ₑ◌}
use Rattle.rational.specs.declared.Extended.TheVariants.{Fin}
use Rattle.upp_curve.specs.declared.affine_segment.line.Piece.{Piece}
use Rattle.upp_curve.specs.affine_segment.Reading.{read, piece_in, piece_value}
use Rattle.upp_curve.specs.Curve.{repeated}
use Rattle.upp_curve.specs.Unrolled.{each_later, later}
use Rattle.upp_curve.specs.affine_segment.Pieces.{RisesFrom, Each}
use Rattle.upp_curve.specs.Steady.{Repeats}
use Rattle.upp_normal.specs.Normalising.{cut_at, past, second_copy}
use Rattle.upp_curve.proofs.affine_segment.PieceIn.{piece_in_go, piece_in_stop, piece_in_end, value_past, value_at_start, read_stop, read_go, read_one}
use Rattle.upp_curve.proofs.Repeats.{repeats_times, repeated_first, repeated_next}
use Rattle.upp_normal.proofs.UnrolledValues.{read_later, read_before, read_past_list}
use Rattle.upp_normal.proofs.NormaliseLoops.{past_go, past_none, later_some}
use Rattle.upp_curve.proofs.affine_segment.PieceOrder.{each_map, each_append, rises_append}
use Rattle.upp_normal.proofs.NormaliseLists.{each_past, each_moved, rises_past, rises_moved, past_all}

-- ---- one rule
pub agree_from : (f g : ℚ → Ext) (r d c : ℚ) → int (pos 0) <ℚ d → Repeats f r d c → Repeats g r d c → ((t : ℚ) → r ≤ℚ t → t <ℚ r +ℚ d → f t ≡ g t)
    → (t : ℚ) → r ≤ℚ t → f t ≡ g t
agree_from f g r d c some F G first t h =
    let n = periods r d t in
    by_n n (periods_low r d t some h) (periods_high r d t some)
  where
    by_n : (n : ℕ) → r +ℚ int (pos n) *ℚ d ≤ℚ t → t <ℚ r +ℚ int (pos n) *ℚ d +ℚ d → f t ≡ g t
    by_n n low high =
        let s = int (pos n) *ℚ d in
        let u = t -ℚ s in
        let a : r ≤ℚ u = with3 r t s (λ c. omega (arith, c.le, c.lt, c.same)) in
        let b : u <ℚ r +ℚ d = with4 r t s d (λ c. omega (arith, c.le, c.lt, c.same)) in
        let back : u +ℚ s ≡ t = with2 t s (λ c. omega (arith, c.le, c.lt, c.same)) in
        let FN = repeats_times f r d c n (le_of_lt some) F in
        let GN = repeats_times g r d c n (le_of_lt some) G in
        sym (ap f back) ∙ FN.rule u a ∙ ap (λ v. v +ₑ Fin (int (pos n) *ℚ c)) (first u a b) ∙ sym (GN.rule u a) ∙ ap g back

pub agree : (f g : ℚ → Ext) (r d c : ℚ) → int (pos 0) <ℚ d → Repeats f r d c → Repeats g r d c → ((t : ℚ) → int (pos 0) ≤ℚ t → t <ℚ r +ℚ d → f t ≡ g t)
    → int (pos 0) ≤ℚ r → (t : ℚ) → int (pos 0) ≤ℚ t → f t ≡ g t
agree f g r d c some F G first zero t h = elim (le_or_lt r t) [
  | inl l ↦ agree_from f g r d c some F G (λ u a b. first u (le_trans zero a) b) t l
  | inr l ↦ first t h (with3 t r d (λ c. omega (arith, c.le, c.lt, c.same)))
]

-- ---- a rule from one time holds from a later one
pub repeats_after : (f : ℚ → Ext) (r s d c : ℚ) → r ≤ℚ s → Repeats f r d c → Repeats f s d c
repeats_after f r s d c h R = record { rule = λ t k. R.rule t (le_trans h k) }

-- ---- the second copy
-- from the cut on the pieces read as before
cut_value : (p : Piece) (r t : ℚ) → p.x ≤ℚ r → r ≤ℚ t → piece_value record { x = r; at = piece_value p r; line = p.line } t ≡ piece_value p t
cut_value p r t h k = elim (le_or_lt t r) [
  | inl l ↦
      let q : Piece = record { x = r; at = piece_value p r; line = p.line } in
      let e : r ≡ t = antisym (k, l) in
      subst (λ t. piece_value q t ≡ piece_value p t) e (value_at_start q)
  | inr l ↦
      let q : Piece = record { x = r; at = piece_value p r; line = p.line } in
      value_past q t l ∙ sym (value_past p t (le_lt_trans h l))
]

cut_is : (p q : Piece) (qs : List Piece) (r : ℚ) → piece_in p (q ∷ qs) r ≡ piece_in q qs r → cut_at p (q ∷ qs) r ≡ cut_at q qs r
cut_is p q qs r e = ap (λ z. let s : Piece = record { x = r; at = piece_value z r; line = z.line } in s) e

cut_first : (p : Piece) (qs : List Piece) (r : ℚ) → piece_in p qs r ≡ p → cut_at p qs r ≡ record { x = r; at = piece_value p r; line = p.line }
cut_first p qs r e = ap (λ z. let s : Piece = record { x = r; at = piece_value z r; line = z.line } in s) e

pub cut_reads : (p : Piece) (ps : List Piece) (r t : ℚ) → p.x ≤ℚ r → RisesFrom p.x ps → r ≤ℚ t → read (cut_at p ps r ∷ past r ps) t ≡ read (p ∷ ps) t
cut_reads p [] r t h rise k =
    ap (λ zs. read (cut_at p [] r ∷ zs) t) (past_none r) ∙ read_one (cut_at p [] r) t
    ∙ ap (λ z. piece_value z t) (cut_first p [] r (piece_in_end p r)) ∙ cut_value p r t h k ∙ sym (read_one p t)
cut_reads p (q ∷ qs) r t h rise k = elim (le_or_lt q.x r) [
  | inl l ↦
      ap (λ zs. read (cut_at p (q ∷ qs) r ∷ zs) t) (past_go r q qs l) ∙ ap (λ z. read (z ∷ past r qs) t) (cut_is p q qs r (piece_in_go p q qs r l))
      ∙ cut_reads q qs r t l rise.1 k ∙ sym (read_go p q qs t (le_trans l k))
  | inr l ↦
      ap (λ zs. read (cut_at p (q ∷ qs) r ∷ zs) t) (past_all r r (q ∷ qs) (le_refl r) (l, rise.1))
      ∙ ap (λ z. read (z ∷ q ∷ qs) t) (cut_first p (q ∷ qs) r (piece_in_stop p q qs r l)) ∙ from_cut l (le_or_lt q.x t)
]
  where
    from_cut : r <ℚ q.x → (q.x ≤ℚ t) ⊎ (t <ℚ q.x) → read (record { x = r; at = piece_value p r; line = p.line } ∷ q ∷ qs) t ≡ read (p ∷ q ∷ qs) t
    from_cut l (inl m) = read_go record { x = r; at = piece_value p r; line = p.line } q qs t m ∙ sym (read_go p q qs t m)
    from_cut l (inr m) = read_stop record { x = r; at = piece_value p r; line = p.line } q qs t m ∙ cut_value p r t h k ∙ sym (read_stop p q qs t m)

-- all that the two periods' pieces keep
pub record TwoPeriods (p : Piece) (ps : List Piece) (r d c : ℚ) : Type 0 where
  pub rises : RisesFrom p.x (ps ++ second_copy p ps r d c)
  pub inside : Each (λ z. z.x <ℚ r +ℚ d +ℚ d) (ps ++ second_copy p ps r d c)
  pub reads : (t : ℚ) → t <ℚ r +ℚ d +ℚ d → read (p ∷ (ps ++ second_copy p ps r d c)) t ≡ repeated (read (p ∷ ps)) r d c t

second_shape : (p : Piece) (ps : List Piece) (r d c : ℚ) → second_copy p ps r d c ≡ later d c (cut_at p ps r) ∷ each_later d c (past r ps)
second_shape p ps r d c = later_some d c (cut_at p ps r) (past r ps)

second_reads : (p : Piece) (ps : List Piece) (r d c t : ℚ) → int (pos 0) <ℚ d → p.x ≤ℚ r → RisesFrom p.x ps → Each (λ z. z.x <ℚ r +ℚ d) ps → t <ℚ r +ℚ d +ℚ d
    → read (p ∷ (ps ++ second_copy p ps r d c)) t ≡ repeated (read (p ∷ ps)) r d c t
second_reads p ps r d c t some h rise inside l = elim (le_or_lt (r +ℚ d) t) [
  | inr k ↦
      ap (λ zs. read (p ∷ (ps ++ zs)) t) (second_shape p ps r d c) ∙ read_before p ps (later d c (cut_at p ps r)) (each_later d c (past r ps)) t k
      ∙ sym (repeated_first (read (p ∷ ps)) r d c t some k)
  | inl k ↦
      let u = t -ℚ d in
      let a : r ≤ℚ u = with3 r d t (λ c. omega (arith, c.le, c.lt, c.same)) in
      let b : u <ℚ r +ℚ d = with3 r d t (λ c. omega (arith, c.le, c.lt, c.same)) in
      let back : u +ℚ d ≡ t = with2 t d (λ c. omega (arith, c.le, c.lt, c.same)) in
      let up : Each (λ z. z.x ≤ℚ t) ps = each_map (λ z. z.x <ℚ r +ℚ d) (λ z. z.x ≤ℚ t) (λ z m. le_trans (le_of_lt m) k) ps inside in
      ap (λ zs. read (p ∷ (ps ++ zs)) t) (second_shape p ps r d c) ∙ read_past_list p ps (later d c (cut_at p ps r)) (each_later d c (past r ps)) t up k
      ∙ ap (λ zs. read zs t) (sym (second_shape p ps r d c)) ∙ read_later (cut_at p ps r ∷ past r ps) d c t
      ∙ ap (λ v. v +ₑ Fin c) (cut_reads p ps r u h rise a ∙ sym (repeated_first (read (p ∷ ps)) r d c u some b))
      ∙ sym (repeated_next (read (p ∷ ps)) r d c u some a) ∙ ap (repeated (read (p ∷ ps)) r d c) back
]

pub two_periods_are : (p : Piece) (ps : List Piece) (r d c : ℚ) → int (pos 0) <ℚ d → p.x ≤ℚ r → RisesFrom p.x ps → Each (λ z. z.x <ℚ r +ℚ d) ps → TwoPeriods p ps r d c
two_periods_are p ps r d c some h rise inside = record {
  rises =
      subst (λ zs. RisesFrom p.x (ps ++ zs)) (sym (second_shape p ps r d c))
      (rises_append p.x ps (later d c (cut_at p ps r)) (each_later d c (past r ps)) rise (let x = p.x in with3 x r d (λ c. omega (arith, c.le, c.lt, c.same))) inside
      (rises_moved d c r (past r ps) (rises_past r p.x ps rise)));
  inside =
      subst (λ zs. Each (λ z. z.x <ℚ r +ℚ d +ℚ d) (ps ++ zs)) (sym (second_shape p ps r d c))
      (each_append (λ z. z.x <ℚ r +ℚ d +ℚ d) ps (later d c (cut_at p ps r) ∷ each_later d c (past r ps))
      (each_map (λ z. z.x <ℚ r +ℚ d) (λ z. z.x <ℚ r +ℚ d +ℚ d) (λ z m. let x = z.x in with3 x r d (λ c. omega (arith, c.le, c.lt, c.same))) ps inside)
      (with2 r d (λ c. omega (arith, c.le, c.lt, c.same)), each_moved (r +ℚ d) d c (past r ps) (each_past (λ z. z.x <ℚ r +ℚ d) r ps inside)));
  reads = λ t l. second_reads p ps r d c t some h rise inside l;
}
