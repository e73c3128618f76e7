-- The loop that moves pieces left, and what the moved pieces read as.
use Rattle.std.specs.Prelude.{◌≡◌, pos, List, [], ◌∷◌, ◌++◌, map, Option, Some, None}
use Rattle.std.specs.declared.cmp.Ordering.{Ordering}
use Rattle.std.proofs.Common.{arith, sym, ap, ap₂, ◌∙◌, refl, subst, inl, inr, append_assoc, append-nil, Greater}
use Rattle.rational.specs.Rational.{ℚ, ◌+ℚ◌, ◌-ℚ◌, ◌*ℚ◌, ◌≤ℚ◌, ◌<ℚ◌, int, neg_ℚ}
use Rattle.rational.specs.Ratio.{cmp_q}
use Rattle.rational.specs.Extended.{Ext, ◌+ₑ◌}
use Rattle.rational.specs.declared.Extended.TheVariants.{Fin, Inf}
use Rattle.rational.proofs.Comparison.{cmp_greater, cmp_not_greater}
use Rattle.rational.proofs.Linear.{with1, with2, with3}
use Rattle.rational.proofs.Laws.{le_or_lt, add_zero, mul_neg}
use Rattle.upp_curve.specs.declared.affine_segment.line.Line.{Line}
use Rattle.upp_curve.specs.declared.affine_segment.line.Piece.{Piece}
use Rattle.upp_curve.specs.affine_segment.Reading.{read}
use Rattle.upp_curve.specs.affine_segment.Pieces.{Each, RisesFrom, StartsAtZero}
use Rattle.upp_normal.specs.Normalising.{past, cut_at}
use Rattle.upp_curve.specs.Unrolled.{line_later, later, each_later}
use Rattle.upp_normal.proofs.UnrolledValues.{read_later}
use Rattle.upp_normal.proofs.NormaliseLoops.{past_go, past_stop, past_none, later_none, later_some}
use Rattle.upp_normal.proofs.NormaliseLists.{rises_past}
use Rattle.upp_normal.proofs.NormalisePeriods.{cut_reads}
use Rattle.plain_operators.specs.pointwise.Shifting.{left_line, left_piece, moved_left}
use Rattle.rational.proofs.ExtendedOrder.{add_zero_ext}

-- ---- the loop
pub left_more : (x : ℚ) (p q : Piece) (todo more done done2 all : List Piece) (o : Ordering) → todo ≡ p ∷ more → o ≡ cmp_q p.x x → o ≡ Greater → q ≡ left_piece x p → done2 ≡ done ++ q ∷ []
    → done ++ map (left_piece x) (past x todo) ≡ all → done2 ++ map (left_piece x) (past x more) ≡ all
left_more x p q todo more done done2 all o e k g m w h =
    let rest = map (left_piece x) (past x more) in
    ap (λ zs. zs ++ rest) w ∙ append_assoc done (q ∷ []) rest
    ∙ ap (λ zs. done ++ zs) (ap (λ z. z ∷ rest) m ∙ sym (ap (λ zs. map (left_piece x) (past x zs)) e ∙ ap (map (left_piece x)) (past_stop x p more (cmp_greater p.x x (sym k ∙ g))))) ∙ h

pub left_skips : (x : ℚ) (p : Piece) (todo more done done2 all : List Piece) (o : Ordering) → todo ≡ p ∷ more → o ≡ cmp_q p.x x → (o ≡ Greater → ⊥) → done2 ≡ done
    → done ++ map (left_piece x) (past x todo) ≡ all → done2 ++ map (left_piece x) (past x more) ≡ all
left_skips x p todo more done done2 all o e k n w h =
    ap (λ zs. zs ++ map (left_piece x) (past x more)) w
    ∙ ap (λ zs. done ++ map (left_piece x) zs) (sym (ap (past x) e ∙ past_go x p more (cmp_not_greater p.x x (λ l. n (k ∙ l))))) ∙ h

pub left_ends : (x : ℚ) (todo done all : List Piece) → todo ≡ [] → done ++ map (left_piece x) (past x todo) ≡ all → done ≡ all
left_ends x todo done all e h = sym (append-nil done) ∙ ap (λ zs. done ++ zs) (sym (ap (λ zs. map (left_piece x) (past x zs)) e ∙ ap (map (left_piece x)) (past_none x))) ∙ h

-- ---- moved left is moved right by less than nothing
same_at : (v : Ext) → v ≡ v +ₑ Fin (int (pos 0))
same_at Inf = refl
same_at (Fin v) = ap Fin (sym (add_zero v))

same_line : (x : ℚ) (l : Option Line) → left_line x l ≡ line_later (neg_ℚ x) (int (pos 0)) l
same_line x None = refl
same_line x (Some l) =
    let k = l.icept in
    let run = l.slope *ℚ x in
    let back = l.slope *ℚ neg_ℚ x in
    let n : back ≡ neg_ℚ run = mul_neg l.slope x in
    let e : k +ℚ run ≡ k +ℚ int (pos 0) -ℚ back = with3 k run back (λ c. omega (arith, c.le, c.lt, c.same)) in
    ap (λ i. Some (let m : Line = record { icept = i; slope = l.slope } in m)) e

same_start : (a x : ℚ) → a -ℚ x ≡ a +ℚ neg_ℚ x
same_start a x = with2 a x (λ c. omega (arith, c.le, c.lt, c.same))

unfoldable make : ℚ → Ext → Option Line → Piece
make x v l = record { x = x; at = v; line = l }

left_is : (x : ℚ) (p : Piece) → left_piece x p ≡ later (neg_ℚ x) (int (pos 0)) p
unfolding make
left_is x p =
    ap (λ a. make a p.at (left_line x p.line)) (same_start p.x x) ∙ ap (λ v. make (p.x +ℚ neg_ℚ x) v (left_line x p.line)) (same_at p.at)
    ∙ ap (λ l. make (p.x +ℚ neg_ℚ x) (p.at +ₑ Fin (int (pos 0))) l) (same_line x p.line)

each_left : (x : ℚ) (ps : List Piece) → map (left_piece x) ps ≡ each_later (neg_ℚ x) (int (pos 0)) ps
each_left x [] = sym (later_none (neg_ℚ x) (int (pos 0)))
each_left x (p ∷ ps) = ap₂ (λ (q : Piece) (qs : List Piece). q ∷ qs) (left_is x p) (each_left x ps) ∙ sym (later_some (neg_ℚ x) (int (pos 0)) p ps)

pub left_reads : (x t : ℚ) (p : Piece) (ps : List Piece) → StartsAtZero (p ∷ ps) → int (pos 0) ≤ℚ x → int (pos 0) ≤ℚ t → read (moved_left x p ps) t ≡ read (p ∷ ps) (t +ℚ x)
left_reads x t p ps starts some low =
    let d = neg_ℚ x in
    let z = int (pos 0) in
    let at : t -ℚ d ≡ t +ℚ x = with2 t x (λ c. omega (arith, c.le, c.lt, c.same)) in
    let e0 = starts.0 in
    let first : p.x ≤ℚ x = subst (λ a. a ≤ℚ x) (sym e0) some in
    let late : x ≤ℚ t +ℚ x = with2 t x (λ c. omega (arith, c.le, c.lt, c.same)) in
    ap (λ us. read us t) (each_left x (cut_at p ps x ∷ past x ps)) ∙ read_later (cut_at p ps x ∷ past x ps) d z t ∙ add_zero_ext (read (cut_at p ps x ∷ past x ps) (t -ℚ d))
    ∙ ap (read (cut_at p ps x ∷ past x ps)) at ∙ cut_reads p ps x (t +ℚ x) first starts.1 late

-- ---- the moved pieces start at 0 and rise

rises_left : (x y : ℚ) (ps : List Piece) → RisesFrom y ps → RisesFrom (y -ℚ x) (map (left_piece x) ps)
rises_left x y [] h = tt
rises_left x y (p ∷ ps) h = let a = p.x in let l = h.0 in (with3 x y a (λ c. omega (arith, c.le, c.lt, c.same)), rises_left x p.x ps h.1)

pub left_starts : (x : ℚ) (p : Piece) (ps : List Piece) → StartsAtZero (p ∷ ps) → StartsAtZero (moved_left x p ps)
left_starts x p ps h = (with1 x (λ c. omega (arith, c.le, c.lt, c.same)), rises_left x x (past x ps) (rises_past x p.x ps h.1))

-- what holds of each piece holds of those past x
pub each_past : (P : Piece → Type 0) (x : ℚ) (ps : List Piece) → Each P ps → Each (λ p. P p × (x <ℚ p.x)) (past x ps)
each_past P x [] h = subst (Each (λ p. P p × (x <ℚ p.x))) (sym (past_none x)) tt
each_past P x (p ∷ ps) h = elim (le_or_lt p.x x) [
  | inl l ↦ subst (Each (λ q. P q × (x <ℚ q.x))) (sym (past_go x p ps l)) (each_past P x ps h.1)
  | inr l ↦ subst (Each (λ q. P q × (x <ℚ q.x))) (sym (past_stop x p ps l)) ((h.0, l), each_past P x ps h.1)
]

pub each_moved : (P Q : Piece → Type 0) (x : ℚ) (ps : List Piece) → ((p : Piece) → P p → Q (left_piece x p)) → Each P ps → Each Q (map (left_piece x) ps)
each_moved P Q x [] f h = tt
each_moved P Q x (p ∷ ps) f h = (f p h.0, each_moved P Q x ps f h.1)
