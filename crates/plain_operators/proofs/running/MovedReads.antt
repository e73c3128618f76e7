-- Pieces moved right by theta read as they did theta earlier, past theta; up to theta they are infinite.
use Rattle.std.specs.Prelude.{◌≡◌, cond, List, [], ◌∷◌, ◌++◌, map, Option, Some, None}
use Rattle.std.proofs.Common.{arith, sym, ap, ◌∙◌, refl, subst, inl, inr}
use Rattle.rational.specs.Rational.{ℚ, ◌+ℚ◌, ◌-ℚ◌, ◌*ℚ◌, ◌≤ℚ◌, ◌<ℚ◌}
use Rattle.rational.specs.declared.Extended.TheVariants.{Fin, Inf}
use Rattle.rational.proofs.Linear.{with2, with3, with4}
use Rattle.rational.proofs.Laws.{le_or_lt, le_refl, le_of_lt, le_trans, le_lt_trans, antisym, mul_sub}
use Rattle.rational.proofs.MinMax.{le_q_not, lt_q_not}
use Rattle.rational.proofs.Over.{le_q_out, lt_q_out}
use Rattle.upp_curve.specs.declared.affine_segment.line.Line.{Line}
use Rattle.upp_curve.specs.declared.affine_segment.line.Piece.{Piece}
use Rattle.upp_curve.specs.affine_segment.Values.{line_value}
use Rattle.min_plus.specs.Functions.{zero_q}
use Rattle.upp_curve.specs.affine_segment.Pieces.{RisesFrom, StartsAtZero}
use Rattle.upp_curve.specs.affine_segment.Reading.{read, piece_in, piece_value}
use Rattle.upp_curve.specs.Unrolled.{upto}
use Rattle.upp_curve.proofs.affine_segment.PieceIn.{value_past, piece_in_end, piece_in_go, piece_in_stop, read_is, value_by}
use Rattle.upp_normal.proofs.NormaliseLists.{rises_upto}
use Rattle.upp_curve.proofs.Unique.{upto_none, upto_some, upto_end}
use Rattle.plain_operators.specs.running.Moved.{moved_line, moved_piece, silence, moved_right}

-- ---- one piece
pub moved_line_value : (theta t : ℚ) (l : Option Line) → line_value (moved_line theta l) t ≡ line_value l (t -ℚ theta)
moved_line_value theta t None = refl
moved_line_value theta t (Some l) =
    let i = l.icept in
    let e = mul_sub l.slope t theta in
    let p = l.slope *ℚ t in
    let q = l.slope *ℚ theta in
    let r = l.slope *ℚ (t -ℚ theta) in
    ap Fin (with4 i p q r (λ c. omega (arith, c.le, c.lt, c.same)))

at_past_zero : (theta : ℚ) (p : Piece) → zero_q <ℚ p.x → (moved_piece theta p).at ≡ p.at
at_past_zero theta p h = ap (λ b. cond b p.at Inf) (lt_q_out zero_q p.x h)

at_zero : (theta : ℚ) (p : Piece) → p.x ≤ℚ zero_q → (moved_piece theta p).at ≡ Inf
at_zero theta p h = ap (λ b. cond b p.at Inf) (lt_q_not zero_q p.x h)

moved_value : (theta t : ℚ) (p : Piece) → theta <ℚ t → piece_value (moved_piece theta p) t ≡ piece_value p (t -ℚ theta)
moved_value theta t p past = elim (le_or_lt t (p.x +ℚ theta)) [
  | inl l ↦
      let x = p.x in
      let some : zero_q <ℚ x = with3 x theta t (λ c. omega (arith, c.le, c.lt, c.same)) in
      value_by (moved_piece theta p) t l ∙ at_past_zero theta p some ∙ sym (value_by p (t -ℚ theta) (with3 x theta t (λ c. omega (arith, c.le, c.lt, c.same))))
  | inr l ↦
      let x = p.x in
      value_past (moved_piece theta p) t l ∙ moved_line_value theta t p.line ∙ sym (value_past p (t -ℚ theta) (with3 x theta t (λ c. omega (arith, c.le, c.lt, c.same))))
]

-- ---- a list
-- q stands for p
moved_in : (theta end t : ℚ) (q p : Piece) (ps : List Piece) → theta <ℚ t → t <ℚ end → piece_value q t ≡ piece_value p (t -ℚ theta)
    → piece_value (piece_in q (upto end (map (moved_piece theta) ps)) t) t ≡ piece_value (piece_in p ps (t -ℚ theta)) (t -ℚ theta)
moved_in theta end t q p [] past early e =
    ap (λ zs. piece_value (piece_in q zs t) t) (upto_end end) ∙ ap (λ z. piece_value z t) (piece_in_end q t) ∙ e ∙ sym (ap (λ z. piece_value z (t -ℚ theta)) (piece_in_end p (t -ℚ theta)))
moved_in theta end t q p (r ∷ rs) past early e =
    let m = moved_piece theta r in
    let rest = map (moved_piece theta) rs in
    let x = r.x in
    elim (le_or_lt m.x t) [
      | inl l ↦
          ap (λ zs. piece_value (piece_in q zs t) t) (upto_some end m rest (le_lt_trans l early)) ∙ ap (λ z. piece_value z t) (piece_in_go q m (upto end rest) t l)
          ∙ moved_in theta end t m r rs past early (moved_value theta t r past)
          ∙ sym (ap (λ z. piece_value z (t -ℚ theta)) (piece_in_go p r rs (t -ℚ theta) (with3 x theta t (λ c. omega (arith, c.le, c.lt, c.same)))))
      | inr l ↦
          stopped m rest l ∙ e ∙ sym (ap (λ z. piece_value z (t -ℚ theta)) (piece_in_stop p r rs (t -ℚ theta) (with3 x theta t (λ c. omega (arith, c.le, c.lt, c.same)))))
    ]
  where
    stopped : (m : Piece) (rest : List Piece) → t <ℚ m.x → piece_value (piece_in q (upto end (m ∷ rest)) t) t ≡ piece_value q t
    stopped m rest l = elim (le_or_lt end m.x) [
      | inl k ↦ ap (λ zs. piece_value (piece_in q zs t) t) (upto_none end m rest k) ∙ ap (λ z. piece_value z t) (piece_in_end q t)
      | inr k ↦ ap (λ zs. piece_value (piece_in q zs t) t) (upto_some end m rest k) ∙ ap (λ z. piece_value z t) (piece_in_stop q m (upto end rest) t l)
    ]

-- ---- what stands before theta
nothing : Piece
nothing = record { x = zero_q; at = Inf; line = None }

silence_none : (theta : ℚ) → theta ≤ℚ zero_q → silence theta ≡ []
silence_none theta h = ap (λ b. cond b (record { x = zero_q; at = Inf; line = None } ∷ []) []) (lt_q_not zero_q theta h)

silence_some : (theta : ℚ) → zero_q <ℚ theta → silence theta ≡ record { x = zero_q; at = Inf; line = None } ∷ []
silence_some theta h = ap (λ b. cond b (record { x = zero_q; at = Inf; line = None } ∷ []) []) (lt_q_out zero_q theta h)

-- the moved pieces, the first of which starts at theta
body : ℚ → ℚ → Piece → List Piece → List Piece
body theta end p ps = moved_piece theta p ∷ upto end (map (moved_piece theta) ps)

-- the first starts at theta
first_at : (theta : ℚ) (p : Piece) → p.x ≡ zero_q → p.x +ℚ theta ≡ theta
first_at theta p e = let x = p.x in with2 x theta (λ c. omega (arith, c.le, c.lt, c.same))

with_body : (theta end : ℚ) (p : Piece) (ps : List Piece) → p.x ≡ zero_q → theta <ℚ end → moved_right theta end (p ∷ ps) ≡ silence theta ++ body theta end p ps
unfolding body
with_body theta end p ps e early =
    ap (λ zs. silence theta ++ zs) (upto_some end (moved_piece theta p) (map (moved_piece theta) ps) (subst (λ x. x <ℚ end) (sym (first_at theta p e)) early))

none_shape : (theta end : ℚ) (p : Piece) (ps : List Piece) → p.x ≡ zero_q → theta <ℚ end → theta ≤ℚ zero_q → moved_right theta end (p ∷ ps) ≡ body theta end p ps
none_shape theta end p ps e early h = with_body theta end p ps e early ∙ ap (λ zs. zs ++ body theta end p ps) (silence_none theta h)

some_shape : (theta end : ℚ) (p : Piece) (ps : List Piece) → p.x ≡ zero_q → theta <ℚ end → zero_q <ℚ theta → moved_right theta end (p ∷ ps) ≡ nothing ∷ body theta end p ps
unfolding nothing
some_shape theta end p ps e early h = with_body theta end p ps e early ∙ ap (λ zs. zs ++ body theta end p ps) (silence_some theta h)

-- past theta
body_past : (theta end t : ℚ) (p : Piece) (ps : List Piece) → theta <ℚ t → t <ℚ end → piece_value (piece_in (moved_piece theta p) (upto end (map (moved_piece theta) ps)) t) t ≡ read (p ∷ ps) (t -ℚ theta)
body_past theta end t p ps past early = moved_in theta end t (moved_piece theta p) p ps past early (moved_value theta t p past) ∙ sym (read_is p ps (t -ℚ theta))

reads_past : (theta end t : ℚ) (p : Piece) (ps : List Piece) → p.x ≡ zero_q → theta <ℚ t → t <ℚ end → read (moved_right theta end (p ∷ ps)) t ≡ read (p ∷ ps) (t -ℚ theta)
unfolding body nothing
reads_past theta end t p ps e past early =
    let m = moved_piece theta p in
    let rest = upto end (map (moved_piece theta) ps) in
    let far : theta <ℚ end = with3 theta t end (λ c. omega (arith, c.le, c.lt, c.same)) in
    let late : m.x ≤ℚ t = subst (λ x. x ≤ℚ t) (sym (first_at theta p e)) (le_of_lt past) in
    elim (le_or_lt theta zero_q) [
      | inl h ↦ ap (λ zs. read zs t) (none_shape theta end p ps e far h) ∙ read_is m rest t ∙ body_past theta end t p ps past early
      | inr h ↦
          ap (λ zs. read zs t) (some_shape theta end p ps e far h) ∙ read_is record { x = zero_q; at = Inf; line = None } (m ∷ rest) t
          ∙ ap (λ z. piece_value z t) (piece_in_go record { x = zero_q; at = Inf; line = None } m rest t late) ∙ body_past theta end t p ps past early
    ]

-- up to theta
nothing_value : (t : ℚ) → piece_value record { x = zero_q; at = Inf; line = None } t ≡ Inf
unfolding piece_value
nothing_value t = elim (le_or_lt t zero_q) [
  | inl l ↦ rw (le_q_out t zero_q l) refl
  | inr l ↦ rw (le_q_not t zero_q l) refl
]

alone_at : (theta end : ℚ) (p : Piece) (ps : List Piece) → p.x ≡ zero_q → RisesFrom p.x ps → piece_in (moved_piece theta p) (upto end (map (moved_piece theta) ps)) theta ≡ moved_piece theta p
alone_at theta end p [] e r = ap (λ zs. piece_in (moved_piece theta p) zs theta) (upto_end end) ∙ piece_in_end (moved_piece theta p) theta
alone_at theta end p (q ∷ qs) e r =
    let m = moved_piece theta q in
    let rest = map (moved_piece theta) qs in
    let x = p.x in
    let y = q.x in
    let l = r.0 in
    let past : theta <ℚ m.x = with3 x y theta (λ c. omega (arith, c.le, c.lt, c.same)) in
    elim (le_or_lt end m.x) [
      | inl k ↦ ap (λ zs. piece_in (moved_piece theta p) zs theta) (upto_none end m rest k) ∙ piece_in_end (moved_piece theta p) theta
      | inr k ↦ ap (λ zs. piece_in (moved_piece theta p) zs theta) (upto_some end m rest k) ∙ piece_in_stop (moved_piece theta p) m (upto end rest) theta past
    ]

body_at : (theta end : ℚ) (p : Piece) (ps : List Piece) → p.x ≡ zero_q → RisesFrom p.x ps
    → piece_value (piece_in (moved_piece theta p) (upto end (map (moved_piece theta) ps)) theta) theta ≡ Inf
body_at theta end p ps e r =
    ap (λ z. piece_value z theta) (alone_at theta end p ps e r)
    ∙ value_by (moved_piece theta p) theta (subst (λ x. theta ≤ℚ x) (sym (first_at theta p e)) (le_refl theta))
    ∙ at_zero theta p (subst (λ x. x ≤ℚ zero_q) (sym e) (le_refl zero_q))

reads_up_to : (theta end t : ℚ) (p : Piece) (ps : List Piece) → p.x ≡ zero_q → RisesFrom p.x ps → theta <ℚ end → zero_q ≤ℚ t → t ≤ℚ theta → read (moved_right theta end (p ∷ ps)) t ≡ Inf
unfolding body nothing
reads_up_to theta end t p ps e r far low early =
    let m = moved_piece theta p in
    let rest = upto end (map (moved_piece theta) ps) in
    elim (le_or_lt theta zero_q) [
      | inl h ↦
          let same : t ≡ theta = antisym (early, le_trans h low) in
          ap (λ zs. read zs t) (none_shape theta end p ps e far h) ∙ read_is m rest t ∙ subst (λ u. piece_value (piece_in m rest u) u ≡ Inf) (sym same) (body_at theta end p ps e r)
      | inr h ↦
          ap (λ zs. read zs t) (some_shape theta end p ps e far h) ∙ read_is record { x = zero_q; at = Inf; line = None } (m ∷ rest) t ∙ before m rest
    ]
  where
    before : (m : Piece) (rest : List Piece) → piece_value (piece_in record { x = zero_q; at = Inf; line = None } (moved_piece theta p ∷ upto end (map (moved_piece theta) ps)) t) t ≡ Inf
    before m rest = elim (le_or_lt theta t) [
      | inl l ↦
          let same : t ≡ theta = antisym (early, l) in
          ap (λ z. piece_value z t)
          (piece_in_go record { x = zero_q; at = Inf; line = None } (moved_piece theta p) (upto end (map (moved_piece theta) ps)) t (subst (λ x. x ≤ℚ t) (sym (first_at theta p e)) l))
          ∙ subst (λ u. piece_value (piece_in (moved_piece theta p) (upto end (map (moved_piece theta) ps)) u) u ≡ Inf) (sym same) (body_at theta end p ps e r)
      | inr l ↦
          ap (λ z. piece_value z t)
          (piece_in_stop record { x = zero_q; at = Inf; line = None } (moved_piece theta p) (upto end (map (moved_piece theta) ps)) t (subst (λ x. t <ℚ x) (sym (first_at theta p e)) l))
          ∙ nothing_value t
    ]

-- ---- of any pieces from 0 on
pub moved_past : (theta end t : ℚ) (ps : List Piece) → StartsAtZero ps → theta <ℚ t → t <ℚ end → read (moved_right theta end ps) t ≡ read ps (t -ℚ theta)
moved_past theta end t [] s past early = absurd s
moved_past theta end t (p ∷ ps) s past early = reads_past theta end t p ps s.0 past early

pub moved_up_to : (theta end t : ℚ) (ps : List Piece) → StartsAtZero ps → theta <ℚ end → zero_q ≤ℚ t → t ≤ℚ theta → read (moved_right theta end ps) t ≡ Inf
moved_up_to theta end t [] s far low early = absurd s
moved_up_to theta end t (p ∷ ps) s far low early = reads_up_to theta end t p ps s.0 s.1 far low early

-- ---- its starts
rises_mapped : (theta x : ℚ) (ps : List Piece) → RisesFrom x ps → RisesFrom (x +ℚ theta) (map (moved_piece theta) ps)
rises_mapped theta x [] r = tt
rises_mapped theta x (p ∷ ps) r = let y = p.x in let l = r.0 in (with3 x y theta (λ c. omega (arith, c.le, c.lt, c.same)), rises_mapped theta p.x ps r.1)

pub moved_starts : (theta end : ℚ) (ps : List Piece) → zero_q ≤ℚ theta → theta <ℚ end → StartsAtZero ps → StartsAtZero (moved_right theta end ps)
unfolding body nothing
moved_starts theta end [] low far s = absurd s
moved_starts theta end (p ∷ ps) low far s = by_theta s
  where
    rest : RisesFrom (p.x +ℚ theta) (upto end (map (moved_piece theta) ps))
    rest = rises_upto (p.x +ℚ theta) end (map (moved_piece theta) ps) (rises_mapped theta p.x ps s.1)

    by_theta : StartsAtZero (p ∷ ps) → StartsAtZero (moved_right theta end (p ∷ ps))
    by_theta k = elim (le_or_lt theta zero_q) [
      | inl h ↦ subst StartsAtZero (sym (none_shape theta end p ps s.0 far h)) (first_at theta p s.0 ∙ antisym (h, low), rest)
      | inr h ↦ subst StartsAtZero (sym (some_shape theta end p ps s.0 far h)) (refl, (subst (λ x. zero_q <ℚ x) (sym (first_at theta p s.0)) h, rest))
    ]
