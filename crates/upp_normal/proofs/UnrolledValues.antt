-- Copies of a period's pieces read as the repeated function.
use Rattle.std.specs.Prelude.{◌≡◌, ℕ, zero, suc, pos, Bool, true, false, cond, List, [], ◌∷◌, ◌++◌, Option, Some, None}
use Rattle.std.proofs.Common.{arith, sym, ap, ap₂, ◌∙◌, refl, inl, inr, append-nil}
use Rattle.rational.specs.Rational.{ℚ, ◌+ℚ◌, ◌-ℚ◌, ◌*ℚ◌, ◌≤ℚ◌, ◌<ℚ◌, int, le_q}
use Rattle.rational.proofs.Linear.{with2, with3, with4, with6}
use Rattle.rational.proofs.Over.{le_q_out}
use Rattle.rational.proofs.Laws.{le_or_lt, le_of_lt, le_trans, mul_sub}
use Rattle.rational.specs.Extended.{Ext, ◌+ₑ◌}
use Rattle.rational.specs.declared.Extended.TheVariants.{Fin}
use Rattle.upp_curve.specs.declared.affine_segment.line.Line.{Line}
use Rattle.upp_curve.specs.declared.affine_segment.line.Piece.{Piece}
use Rattle.upp_curve.specs.affine_segment.Reading.{piece_in, piece_value, read}
use Rattle.upp_curve.specs.affine_segment.Values.{line_value}
use Rattle.upp_curve.specs.Unrolled.{line_later, later, each_later, copies}
use Rattle.upp_curve.specs.Curve.{repeated}
use Rattle.upp_curve.specs.affine_segment.Pieces.{Each}
use Rattle.rational.proofs.MinMax.{le_q_not}
use Rattle.upp_curve.proofs.affine_segment.PieceIn.{piece_in_go, piece_in_stop}
use Rattle.upp_curve.proofs.Repeats.{repeated_first, repeated_next}
use Rattle.rational.proofs.Whole.{one_more_times}
use Rattle.upp_normal.proofs.NormaliseLoops.{later_none, later_some}

-- tests that agree
le_q_same : (a b c d : ℚ) → (a ≤ℚ b → c ≤ℚ d) → (b <ℚ a → d <ℚ c) → le_q a b ≡ le_q c d
le_q_same a b c d f g = elim (le_or_lt a b) [
  | inl h ↦ le_q_out a b h ∙ sym (le_q_out c d (f h))
  | inr l ↦ le_q_not a b l ∙ sym (le_q_not c d (g l))
]

cond_map : (f : Piece → Piece) (b : Bool) (p q : Piece) → cond b (f p) (f q) ≡ f (cond b p q)
cond_map f true p q = refl
cond_map f false p q = refl

cond_value : (f : Ext → Ext) (b : Bool) (p q : Ext) → cond b (f p) (f q) ≡ f (cond b p q)
cond_value f true p q = refl
cond_value f false p q = refl

-- ---- pieces moved by d and c read as the value moved
piece_in_later : (p : Piece) (ps : List Piece) (d c t : ℚ) → piece_in (later d c p) (each_later d c ps) t ≡ later d c (piece_in p ps (t -ℚ d))
unfolding piece_in each_later
piece_in_later p [] d c t = refl
piece_in_later p (q ∷ qs) d c t =
    let x = q.x in
    let e : le_q (x +ℚ d) t ≡ le_q x (t -ℚ d) = le_q_same (x +ℚ d) t x (t -ℚ d) (λ h. with3 x d t (λ c. omega (arith, c.le, c.lt, c.same))) (λ h. with3 x d t (λ c. omega (arith, c.le, c.lt, c.same))) in
    ap₂ (λ (b : Bool) (z : Piece). cond b z (later d c p)) e (piece_in_later q qs d c t) ∙ cond_map (later d c) (le_q x (t -ℚ d)) (piece_in q qs (t -ℚ d)) p

pub line_value_later : (l : Option Line) (d c t : ℚ) → line_value (line_later d c l) t ≡ line_value l (t -ℚ d) +ₑ Fin c
line_value_later None d c t = refl
line_value_later (Some l) d c t =
    let e = mul_sub l.slope t d in
    let k = l.icept in
    let s = l.slope in
    ap Fin (with6 k c (s *ℚ d) (s *ℚ t) (s *ℚ (t -ℚ d)) d (λ c. omega (arith, c.le, c.lt, c.same)))

pub piece_value_later : (p : Piece) (d c t : ℚ) → piece_value (later d c p) t ≡ piece_value p (t -ℚ d) +ₑ Fin c
unfolding piece_value
piece_value_later p d c t =
    let x = p.x in
    let e : le_q t (x +ℚ d) ≡ le_q (t -ℚ d) x = le_q_same t (x +ℚ d) (t -ℚ d) x (λ h. with3 x d t (λ c. omega (arith, c.le, c.lt, c.same))) (λ h. with3 x d t (λ c. omega (arith, c.le, c.lt, c.same))) in
    ap₂ (λ (b : Bool) (z : Ext). cond b (p.at +ₑ Fin c) z) e (line_value_later p.line d c t) ∙ cond_value (λ v. v +ₑ Fin c) (le_q (t -ℚ d) x) p.at (line_value p.line (t -ℚ d))

pub read_later : (ps : List Piece) (d c t : ℚ) → read (each_later d c ps) t ≡ read ps (t -ℚ d) +ₑ Fin c
unfolding read each_later
read_later [] d c t = refl
read_later (p ∷ ps) d c t = ap (λ q. piece_value q t) (piece_in_later p ps d c t) ∙ piece_value_later (piece_in p ps (t -ℚ d)) d c t

-- ---- lists one after another
piece_in_before : (p : Piece) (ps : List Piece) (q : Piece) (qs : List Piece) (t : ℚ) → t <ℚ q.x → piece_in p (ps ++ q ∷ qs) t ≡ piece_in p ps t
unfolding piece_in
piece_in_before p [] q qs t h = piece_in_stop p q qs t h
piece_in_before p (s ∷ ss) q qs t h = ap (λ z. cond (le_q s.x t) z p) (piece_in_before s ss q qs t h)

piece_in_past : (p : Piece) (ps : List Piece) (q : Piece) (qs : List Piece) (t : ℚ) → Each (λ z. z.x ≤ℚ t) ps → q.x ≤ℚ t → piece_in p (ps ++ q ∷ qs) t ≡ piece_in q qs t
piece_in_past p [] q qs t h k = piece_in_go p q qs t k
piece_in_past p (s ∷ ss) q qs t h k = piece_in_go p s (ss ++ q ∷ qs) t h.0 ∙ piece_in_past s ss q qs t h.1 k

pub read_before : (p : Piece) (ps : List Piece) (q : Piece) (qs : List Piece) (t : ℚ) → t <ℚ q.x → read (p ∷ (ps ++ q ∷ qs)) t ≡ read (p ∷ ps) t
unfolding read
read_before p ps q qs t h = ap (λ z. piece_value z t) (piece_in_before p ps q qs t h)

pub read_past_list : (p : Piece) (ps : List Piece) (q : Piece) (qs : List Piece) (t : ℚ) → Each (λ z. z.x ≤ℚ t) ps → q.x ≤ℚ t → read (p ∷ (ps ++ q ∷ qs)) t ≡ read (q ∷ qs) t
unfolding read
read_past_list p ps q qs t h k = ap (λ z. piece_value z t) (piece_in_past p ps q qs t h k)

pub each_up : (ps : List Piece) (s t : ℚ) → s ≤ℚ t → Each (λ z. z.x <ℚ s) ps → Each (λ z. z.x ≤ℚ t) ps
each_up [] s t l h = tt
each_up (p ∷ ps) s t l h = (le_trans (le_of_lt h.0) l, each_up ps s t l h.1)

-- the first of some copies is p
pub copies_some : (k : ℕ) (d c : ℚ) (p : Piece) (ps : List Piece) → copies (suc k) d c (p ∷ ps) ≡ p ∷ (ps ++ each_later d c (copies k d c (p ∷ ps)))
unfolding copies
copies_some k d c p ps = refl

pub copies_none : (d c : ℚ) (ps : List Piece) → copies zero d c ps ≡ []
unfolding copies
copies_none d c ps = refl

-- k + 1 copies of a period's pieces, which start at the rank: they read as the repeated function below rank + (k + 1) period
pub copies_read : (k : ℕ) (p : Piece) (ps : List Piece) (d c t : ℚ) → int (pos 0) <ℚ d → Each (λ z. z.x <ℚ p.x +ℚ d) ps
    → p.x ≤ℚ t → t <ℚ p.x +ℚ int (pos (suc k)) *ℚ d
    → read (copies (suc k) d c (p ∷ ps)) t ≡ repeated (read (p ∷ ps)) p.x d c t
copies_read zero p ps d c t some starts low high =
    let r = p.x in
    let o = one_more_times 0 d in
    let inside : t <ℚ r +ℚ d = with4 r t d (int (pos 0) *ℚ d) (λ c. omega (arith, c.le, c.lt, c.same)) in
    ap (λ zs. read zs t) (copies_some zero d c p ps ∙ ap (λ zs. p ∷ (ps ++ zs)) (ap (each_later d c) (copies_none d c (p ∷ ps)) ∙ later_none d c) ∙ ap (λ zs. p ∷ zs) (append-nil ps))
    ∙ sym (repeated_first (read (p ∷ ps)) r d c t some inside)
copies_read (suc k) p ps d c t some starts low high =
    let r = p.x in
    let rest = ps ++ each_later d c (copies k d c (p ∷ ps)) in
    let shape : copies (suc (suc k)) d c (p ∷ ps) ≡ p ∷ (ps ++ later d c p ∷ each_later d c rest) =
    copies_some (suc k) d c p ps ∙ ap (λ zs. p ∷ (ps ++ zs)) (ap (each_later d c) (copies_some k d c p ps) ∙ later_some d c p rest) in
    ap (λ zs. read zs t) shape ∙ elim (le_or_lt (r +ℚ d) t) [
      | inr l ↦ read_before p ps (later d c p) (each_later d c rest) t l ∙ sym (repeated_first (read (p ∷ ps)) r d c t some l)
      | inl l ↦
          let u = t -ℚ d in
          let o = one_more_times (suc k) d in
          let low_u : r ≤ℚ u = with3 r d t (λ c. omega (arith, c.le, c.lt, c.same)) in
          let high_u : u <ℚ r +ℚ int (pos (suc k)) *ℚ d = with4 r d t (int (pos (suc k)) *ℚ d) (λ c. omega (arith, c.le, c.lt, c.same)) in
          let back : u +ℚ d ≡ t = with2 t d (λ c. omega (arith, c.le, c.lt, c.same)) in
          read_past_list p ps (later d c p) (each_later d c rest) t (each_up ps (r +ℚ d) t l starts) l
          ∙ ap (λ zs. read zs t) (sym (ap (each_later d c) (copies_some k d c p ps) ∙ later_some d c p rest))
          ∙ read_later (copies (suc k) d c (p ∷ ps)) d c t
          ∙ ap (λ v. v +ₑ Fin c) (copies_read k p ps d c u some starts low_u high_u)
          ∙ sym (repeated_next (read (p ∷ ps)) r d c u some low_u)
          ∙ ap (repeated (read (p ∷ ps)) r d c) back
    ]
