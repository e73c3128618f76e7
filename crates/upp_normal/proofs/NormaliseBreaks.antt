-- A tail without a break in a period is one line; and where there is one, a period from it ends in a break.
use Rattle.std.specs.Prelude.{◌≡◌, pos, List, [], ◌∷◌, ◌⊎◌, Option, Some, None}
use Rattle.std.proofs.Common.{arith, sym, ap, ◌∙◌, refl, subst, inl, inr}
use Rattle.rational.specs.Rational.{ℚ, ◌+ℚ◌, ◌-ℚ◌, ◌*ℚ◌, ◌≤ℚ◌, ◌<ℚ◌, int}
use Rattle.rational.proofs.Laws.{antisym, between, le_or_lt, le_of_lt, le_refl, le_trans, le_lt_trans}
use Rattle.rational.proofs.Linear.{with2, with3, with4}
use Rattle.rational.specs.Extended.{Ext, ◌+ₑ◌}
use Rattle.rational.specs.declared.Extended.TheVariants.{Fin}
use Rattle.upp_curve.specs.declared.affine_segment.line.Line.{Line}
use Rattle.upp_curve.specs.declared.affine_segment.line.Piece.{Piece}
use Rattle.upp_curve.specs.affine_segment.Reading.{read}
use Rattle.upp_curve.specs.affine_segment.Values.{line_value}
use Rattle.upp_curve.specs.Unrolled.{line_later, later, upto}
use Rattle.upp_curve.specs.affine_segment.Pieces.{RisesFrom, Each}
use Rattle.upp_curve.specs.Normal.{Continues, NoneContinues}
use Rattle.upp_curve.specs.Steady.{Repeats, last_of, last_line}
use Rattle.upp_normal.specs.Normalising.{past}
use Rattle.upp_curve.proofs.Steady.{line_rule, read_past}
use Rattle.upp_curve.proofs.OneForm.{rise_is}
use Rattle.upp_normal.proofs.UnrolledValues.{line_value_later}
use Rattle.upp_curve.proofs.Unique.{lines_same, upto_some}
use Rattle.upp_curve.proofs.affine_segment.PieceIn.{value_past, read_stop, read_go}
use Rattle.upp_normal.proofs.Below.{read_upto}
use Rattle.upp_normal.proofs.NormaliseLoops.{past_go, past_none}
use Rattle.upp_normal.proofs.NormaliseLists.{past_all, last_is_last, last_in, rises_upto, continues_back}
use Rattle.upp_curve.proofs.affine_segment.PieceOrder.{heads_same, nil_not_cons}
use Rattle.upp_normal.proofs.NormalisePeriods.{agree_from}
use Rattle.rational.proofs.ExtendedOrder.{add_cancel_ext}
use Rattle.upp_limits.proofs.PieceCounts.{upto_early}

-- ---- one line
-- f is the line from r on, where it is so past r for more than a period
rule_of_line : (l : Option Line) (f : ℚ → Ext) (r d c X : ℚ) → int (pos 0) <ℚ d → Repeats f r d c → r +ℚ d <ℚ X → ((t : ℚ) → r <ℚ t → t <ℚ X → f t ≡ line_value l t)
    → (t : ℚ) → line_value l (t +ℚ d) ≡ line_value l t +ₑ Fin c
rule_of_line None f r d c X some F room is t = refl
rule_of_line (Some l) f r d c X some F room is t =
    let (s, a, b) = between r (X -ℚ d) (with3 r d X (λ c. omega (arith, c.le, c.lt, c.same))) in
    let low : r <ℚ s +ℚ d = with3 r s d (λ c. omega (arith, c.le, c.lt, c.same)) in
    let high : s +ℚ d <ℚ X = with3 s d X (λ c. omega (arith, c.le, c.lt, c.same)) in
    let here : s <ℚ X = with3 s d X (λ c. omega (arith, c.le, c.lt, c.same)) in
    let e : c ≡ l.slope *ℚ d = rise_is l f s d c (is s a here) (is (s +ℚ d) low high) (F.rule s (le_of_lt a)) in
    line_rule (Some l) t d ∙ ap (λ z. line_value (Some l) t +ₑ Fin z) (sym e)

pub one_line : (l : Option Line) (f : ℚ → Ext) (r d c X : ℚ) → int (pos 0) <ℚ d → Repeats f r d c → r +ℚ d <ℚ X → ((t : ℚ) → r <ℚ t → t <ℚ X → f t ≡ line_value l t)
    → (t : ℚ) → r ≤ℚ t → f t ≡ line_value l t
one_line l f r d c X some F room is =
    agree_from f (line_value l) r d c some F record { rule = λ t _. rule t } (λ t a b. by_time t a b (le_or_lt t r))
  where
    rule : (t : ℚ) → line_value l (t +ℚ d) ≡ line_value l t +ₑ Fin c
    rule = rule_of_line l f r d c X some F room is

    start : f r ≡ line_value l r
    start = add_cancel_ext (f r) (line_value l r) c
        (sym (F.rule r (le_refl r)) ∙ is (r +ℚ d) (with2 r d (λ c. omega (arith, c.le, c.lt, c.same))) room ∙ rule r)

    by_time : (t : ℚ) → r ≤ℚ t → t <ℚ r +ℚ d → (t ≤ℚ r) ⊎ (r <ℚ t) → f t ≡ line_value l t
    by_time t a b (inl k) = let e : r ≡ t = antisym (a, k) in subst (λ t. f t ≡ line_value l t) e start
    by_time t a b (inr k) = is t k (with4 t r d X (λ c. omega (arith, c.le, c.lt, c.same)))

-- pieces that start at r or before, and that read as f for more than a period past r, read as f
pub one_line_reads : (f : ℚ → Ext) (ps : List Piece) (r d c X : ℚ) → int (pos 0) <ℚ d → Repeats f r d c → r +ℚ d <ℚ X → Each (λ p. p.x ≤ℚ r) ps → int (pos 0) ≤ℚ r
    → ((t : ℚ) → int (pos 0) ≤ℚ t → t <ℚ X → read ps t ≡ f t) → (t : ℚ) → int (pos 0) ≤ℚ t → read ps t ≡ f t
one_line_reads f ps r d c X some F room early zero is t h = elim (le_or_lt X t) [
  | inr l ↦ is t h l
  | inl l ↦
      let late : r <ℚ t = with4 r d X t (λ c. omega (arith, c.le, c.lt, c.same)) in
      let line = one_line (last_line ps) f r d c X some F room (λ t a b. sym (is t (le_trans zero (le_of_lt a)) b) ∙ read_past ps r t early a) in
      read_past ps r t early late ∙ sym (line t (le_of_lt late))
]

-- ---- a break past r
pub record Break (p : Piece) (ps : List Piece) (r : ℚ) (q : Piece) : Type 0 where
  pub last : Piece
  pub from : p.x ≤ℚ last.x
  pub early : last.x ≤ℚ r
  pub late : r <ℚ q.x
  pub differs : ¬ (Continues last q)
  pub reads : (t : ℚ) → last.x <ℚ t → t <ℚ q.x → read (p ∷ ps) t ≡ line_value last.line t

pub break_at : (p : Piece) (ps : List Piece) (r : ℚ) (q : Piece) (qs : List Piece) → RisesFrom p.x ps → NoneContinues p ps → p.x ≤ℚ r → past r ps ≡ q ∷ qs → Break p ps r q
break_at p [] r q qs rise n h e = absurd (nil_not_cons q qs (sym (past_none r) ∙ e))
break_at p (s ∷ ss) r q qs rise n h e = elim (le_or_lt s.x r) [
  | inl l ↦
      let B = break_at s ss r q qs rise.1 n.1 l (sym (past_go r s ss l) ∙ e) in
      record {
        last = B.last;
        from = le_trans (le_of_lt rise.0) B.from;
        early = B.early;
        late = B.late;
        differs = B.differs;
        reads = λ t a b. read_go p s ss t (le_trans B.from (le_of_lt a)) ∙ B.reads t a b;
      }
  | inr l ↦
      let same : s ≡ q = heads_same s q ss qs (sym (past_all r r (s ∷ ss) (le_refl r) (l, rise.1)) ∙ e) in
      record {
        last = p;
        from = le_refl p.x;
        early = h;
        late = subst (λ z. r <ℚ z.x) same l;
        differs = subst (λ z. ¬ (Continues p z)) same n.0;
        reads = λ t a b. read_stop p s ss t (subst (λ z. t <ℚ z.x) (sym same) b) ∙ value_past p t a;
      }
]

-- ---- lines a period apart
later_of : (a b x : ℚ) → a <ℚ x → b <ℚ x → (m : ℚ) × (a ≤ℚ m) × (b ≤ℚ m) × (m <ℚ x)
later_of a b x h k = elim (le_or_lt a b) [
  | inl l ↦ (b, l, le_refl b, k)
  | inr l ↦ (a, le_refl a, le_of_lt l, h)
]

-- f is on line l before `high`, and d later on line m, and repeats by d and c: then m is l moved
pub lines_apart : (f : ℚ → Ext) (l m : Option Line) (a b r high d c : ℚ) → a <ℚ high → b <ℚ high → r <ℚ high → Repeats f r d c
    → ((t : ℚ) → r ≤ℚ t → a <ℚ t → t <ℚ high → f t ≡ line_value l t) → ((t : ℚ) → r ≤ℚ t → b <ℚ t → t <ℚ high → f (t +ℚ d) ≡ line_value m (t +ℚ d))
    → m ≡ line_later d c l
lines_apart f l m a b r high d c ha hb hr F here there =
    let (e, ae, be, he) = later_of a b high ha hb in
    let (low, el, rl, hl) = later_of e r high he hr in
    lines_same m (line_later d c l) (low +ℚ d) (high +ℚ d) (with3 low high d (λ c. omega (arith, c.le, c.lt, c.same))) (λ t p q.
    let u = t -ℚ d in
    let p2 : low <ℚ u = with3 low t d (λ c. omega (arith, c.le, c.lt, c.same)) in
    let q2 : u <ℚ high = with3 high t d (λ c. omega (arith, c.le, c.lt, c.same)) in
    let back : u +ℚ d ≡ t = with2 t d (λ c. omega (arith, c.le, c.lt, c.same)) in
    let past : r ≤ℚ u = le_trans rl (le_of_lt p2) in
    let e2 : e <ℚ u = le_lt_trans el p2 in
    sym (ap (line_value m) back) ∙ sym (there u past (le_lt_trans be e2) q2) ∙ F.rule u past ∙ ap (λ v. v +ₑ Fin c) (here u past (le_lt_trans ae e2) q2) ∙ sym (line_value_later l d c t))

-- whether a piece goes on with another depends on the other's line alone
pub continues_line : (d c : ℚ) (w b q : Piece) → w.line ≡ line_later d c b.line → Continues w (later d c q) → Continues b q
continues_line d c w b q e C =
    continues_back d c b q (subst (λ l. ((later d c q).at ≡ line_value l (later d c q).x) × ((later d c q).line ≡ l)) e C)

-- just before its end a list reads as its last piece's line
pub reads_last : (p : Piece) (ps : List Piece) (X t : ℚ) → RisesFrom p.x ps → p.x <ℚ X → (last_of p (upto X ps)).x <ℚ t → t <ℚ X
    → read (p ∷ ps) t ≡ line_value (last_of p (upto X ps)).line t
reads_last p ps X t rise h l k =
    sym (read_upto X p ps t k h) ∙ ap (λ zs. read zs t) (upto_some X p ps h)
    ∙ read_past (p ∷ upto X ps) (last_of p (upto X ps)).x t (last_is_last p (upto X ps) (rises_upto p.x X ps rise)) l

-- the piece at a break past r, a period later, does not go on with the piece before it
pub ends_in_break : (f : ℚ → Ext) (p : Piece) (ps : List Piece) (r d c : ℚ) (q : Piece) → Break p ps r q → int (pos 0) <ℚ d → int (pos 0) ≤ℚ r → p.x ≡ int (pos 0) → Repeats f r d c
    → RisesFrom p.x ps → ((t : ℚ) → int (pos 0) ≤ℚ t → t <ℚ q.x +ℚ d → read (p ∷ ps) t ≡ f t) → ¬ (Continues (last_of p (upto (q.x +ℚ d) ps)) (later d c q))
ends_in_break f p ps r d c q B some zero start F rise is C =
    let x = q.x in
    let X = x +ℚ d in
    let w = last_of p (upto X ps) in
    let late = B.late in
    let y = p.x in
    let begin : p.x <ℚ X = with4 y r x d (λ c. omega (arith, c.le, c.lt, c.same)) in
    let z = w.x in
    let before : w.x <ℚ X = last_in (λ z. z.x <ℚ X) p (upto X ps) begin (upto_early X ps) in
    let room : z -ℚ d <ℚ x = with3 z x d (λ c. omega (arith, c.le, c.lt, c.same)) in
    let here = λ (t : ℚ) (a : r ≤ℚ t) (b : B.last.x <ℚ t) (e : t <ℚ x).
    let e2 : t <ℚ X = with3 t x d (λ c. omega (arith, c.le, c.lt, c.same)) in
    sym (is t (le_trans zero a) e2) ∙ B.reads t b e in
    let there = λ (t : ℚ) (a : r ≤ℚ t) (b : z -ℚ d <ℚ t) (e : t <ℚ x).
    let t2 : z <ℚ t +ℚ d = with3 z t d (λ c. omega (arith, c.le, c.lt, c.same)) in
    let e2 : t +ℚ d <ℚ X = with3 t x d (λ c. omega (arith, c.le, c.lt, c.same)) in
    let from : int (pos 0) ≤ℚ t +ℚ d = with3 r t d (λ c. omega (arith, c.le, c.lt, c.same)) in
    sym (is (t +ℚ d) from e2) ∙ reads_last p ps X (t +ℚ d) rise begin t2 e2 in
    B.differs (continues_line d c w B.last q (lines_apart f B.last.line w.line B.last.x (z -ℚ d) r x d c (le_lt_trans B.early late) room late F here there) C)
