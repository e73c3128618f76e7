-- What is read of pieces with minus their values, and of pieces mirrored in time.
use Rattle.std.specs.Prelude.{◌≡◌, pos, List, [], ◌∷◌, ◌++◌, map, Option, Some, None}
use Rattle.std.proofs.Common.{arith, sym, ap, ◌∙◌, refl, subst, inl, inr}
use Rattle.rational.specs.Rational.{ℚ, ◌-ℚ◌, ◌*ℚ◌, ◌≤ℚ◌, ◌<ℚ◌, neg_ℚ, int}
use Rattle.rational.specs.Extended.{Ext}
use Rattle.rational.specs.declared.Extended.TheVariants.{Fin, Inf}
use Rattle.rational.proofs.Linear.{with1, with2, with3, with5}
use Rattle.rational.proofs.Laws.{le_or_lt, le_of_lt, le_refl, lt_le_trans, lt_trans, antisym, neg_mul, mul_sub}
use Rattle.upp_curve.specs.declared.affine_segment.line.Line.{Line}
use Rattle.upp_curve.specs.declared.affine_segment.line.Piece.{Piece}
use Rattle.upp_curve.specs.affine_segment.Values.{line_at, line_value}
use Rattle.upp_curve.specs.affine_segment.Reading.{read, piece_value}
use Rattle.upp_curve.specs.affine_segment.Pieces.{Each, RisesFrom, StartsAtZero}
use Rattle.upp_curve.proofs.affine_segment.PieceIn.{value_past, value_by, read_first, read_go, read_one, read_stop}
use Rattle.upp_curve.proofs.affine_segment.PieceOrder.{each_append, each_map, rises_append}
use Rattle.plain_operators.specs.running.Runs.{IsFrontBefore}
use Rattle.plain_operators.proofs.running.Fronts.{kept_reads}
use Rattle.curve_deconv.specs.Mirrored.{neg_ext, neg_line, neg_option, neg_piece, mirror_line, mirror_option, mirror_piece}
use Rattle.curve_deconv.specs.Mirrored.{back_pieces, mirror_pieces}

-- ---- pieces turned over
neg_value : (p : Piece) (t : ℚ) → piece_value (neg_piece p) t ≡ neg_ext (piece_value p t)
neg_value p t = elim (le_or_lt t p.x) [
  | inl k ↦ value_by (neg_piece p) t k ∙ sym (ap neg_ext (value_by p t k))
  | inr k ↦ value_past (neg_piece p) t k ∙ neg_line_value p.line t ∙ sym (ap neg_ext (value_past p t k))
]
  where
    neg_line_at : (l : Line) (t : ℚ) → line_at (neg_line l) t ≡ neg_ℚ (line_at l t)
    neg_line_at l t =
        let i = l.icept in
        let run = l.slope *ℚ t in
        let back = neg_ℚ l.slope *ℚ t in
        let e : back ≡ neg_ℚ run = neg_mul l.slope t in
        with3 i run back (λ c. omega (arith, c.le, c.lt, c.same))

    neg_line_value : (o : Option Line) (t : ℚ) → line_value (neg_option o) t ≡ neg_ext (line_value o t)
    neg_line_value None t = refl
    neg_line_value (Some l) t = ap Fin (neg_line_at l t)

neg_reads : (p : Piece) (ps : List Piece) (t : ℚ) → read (map neg_piece (p ∷ ps)) t ≡ neg_ext (read (p ∷ ps) t)
neg_reads p [] t = read_one (neg_piece p) t ∙ neg_value p t ∙ sym (ap neg_ext (read_one p t))
neg_reads p (q ∷ qs) t = elim (le_or_lt q.x t) [
  | inl k ↦ read_go (neg_piece p) (neg_piece q) (map neg_piece qs) t k ∙ neg_reads q qs t ∙ sym (ap neg_ext (read_go p q qs t k))
  | inr k ↦ read_stop (neg_piece p) (neg_piece q) (map neg_piece qs) t k ∙ neg_value p t ∙ sym (ap neg_ext (read_stop p q qs t k))
]

pub neg_all_read : (ps : List Piece) (t : ℚ) → read (map neg_piece ps) t ≡ neg_ext (read ps t)
unfolding read
neg_all_read [] t = refl
neg_all_read (p ∷ ps) t = neg_reads p ps t

neg_rises : (x : ℚ) (ps : List Piece) → RisesFrom x ps → RisesFrom x (map neg_piece ps)
neg_rises x [] h = tt
neg_rises x (p ∷ ps) h = (h.0, neg_rises p.x ps h.1)

pub neg_starts : (ps : List Piece) → StartsAtZero ps → StartsAtZero (map neg_piece ps)
neg_starts [] h = h
neg_starts (p ∷ ps) h = (h.0, neg_rises p.x ps h.1)

pub each_neg : (P Q : Piece → Type 0) (ps : List Piece) → ((p : Piece) → P p → Q (neg_piece p)) → Each P ps → Each Q (map neg_piece ps)
each_neg P Q [] f h = tt
each_neg P Q (p ∷ ps) f h = (f p h.0, each_neg P Q ps f h.1)

-- ---- pieces with one more after them
starts_more : (ps : List Piece) (q : Piece) → StartsAtZero ps → Each (λ p. p.x <ℚ q.x) ps → StartsAtZero (ps ++ q ∷ [])
starts_more [] q h b = absurd h
starts_more (p ∷ ps) q h b = (h.0, rises_append p.x ps q [] h.1 b.0 b.1 tt)

-- before it they are read, and it from its start on
read_before_more : (xs : List Piece) (y : Piece) (t : ℚ) → StartsAtZero xs → Each (λ x. x.x <ℚ y.x) xs → t <ℚ y.x → read (xs ++ (y ∷ [])) t ≡ read xs t
read_before_more xs y t starts before h =
    let F : IsFrontBefore (xs ++ (y ∷ [])) y.x xs = record { before = before; rest = y ∷ []; whole = refl; late = λ p more e. subst (λ z. y.x ≤ℚ z.x) (head_is p more e) (le_refl y.x) } in
    sym (kept_reads (xs ++ (y ∷ [])) y.x xs t F starts h)
  where
    head_of : List Piece → Piece
    head_of [] = y
    head_of (p ∷ ps) = p

    head_is : (p : Piece) (more : List Piece) → y ∷ [] ≡ p ∷ more → y ≡ p
    head_is p more e = ap head_of e

read_after_more : (xs : List Piece) (y : Piece) (t : ℚ) → Each (λ x. x.x <ℚ y.x) xs → y.x ≤ℚ t → read (xs ++ (y ∷ [])) t ≡ piece_value y t
read_after_more [] y t before h = read_one y t
read_after_more (x ∷ []) y t before h = read_go x y [] t h ∙ read_one y t
read_after_more (x ∷ w ∷ ws) y t before h = read_go x w (ws ++ (y ∷ [])) t (le_of_lt (lt_le_trans before.1.0 h)) ∙ read_after_more (w ∷ ws) y t before.1 h

-- ---- mirrored pieces
mirror_line_at : (reach : ℚ) (l : Line) (w : ℚ) → line_at (mirror_line reach l) w ≡ line_at l (reach -ℚ w)
mirror_line_at reach l w =
    let i = l.icept in
    let s = l.slope in
    let far = s *ℚ reach in
    let run = s *ℚ w in
    let back = neg_ℚ s *ℚ w in
    let there = s *ℚ (reach -ℚ w) in
    let e : back ≡ neg_ℚ run = neg_mul s w in
    let d : there ≡ far -ℚ run = mul_sub s reach w in
    with5 i far run back there (λ c. omega (arith, c.le, c.lt, c.same))

mirror_line_value : (reach : ℚ) (o : Option Line) (w : ℚ) → line_value (mirror_option reach o) w ≡ line_value o (reach -ℚ w)
mirror_line_value reach None w = refl
mirror_line_value reach (Some l) w = ap Fin (mirror_line_at reach l w)

earlier : (reach x y : ℚ) → x <ℚ y → reach -ℚ y <ℚ reach -ℚ x
earlier reach x y h = with3 reach x y (λ c. omega (arith, c.le, c.lt, c.same))

record BackStarts (reach x : ℚ) (ps : List Piece) : Type 0 where
  starts : StartsAtZero ps
  before : Each (λ q. q.x <ℚ reach -ℚ x) ps

back_starts : (reach : ℚ) (at : Ext) (p : Piece) (ps : List Piece) → p.x <ℚ reach → Each (λ q. q.x <ℚ reach) ps → RisesFrom p.x ps → BackStarts reach p.x (back_pieces reach at (p ∷ ps))
back_starts reach at p [] l b r = record { starts = (self reach, tt); before = (earlier reach p.x reach l, tt) }
  where
    self : (x : ℚ) → x -ℚ x ≡ int (pos 0)
    self x = with1 x (λ c. omega (arith, c.le, c.lt, c.same))
back_starts reach at p (q ∷ qs) l b r =
    let B = back_starts reach at q qs b.0 b.1 r.1 in
    let t = mirror_piece reach q.x q.at p.line in
    let front = back_pieces reach at (q ∷ qs) in
    record {
      starts = starts_more front t B.starts B.before;
      before = each_append (λ w. w.x <ℚ reach -ℚ p.x) front (t ∷ [])
          (each_map (λ w. w.x <ℚ reach -ℚ q.x) (λ w. w.x <ℚ reach -ℚ p.x) (λ w h. beyond w.x (reach -ℚ q.x) (reach -ℚ p.x) h (earlier reach p.x q.x r.0)) front B.before)
          (earlier reach p.x q.x r.0, tt);
    }
  where
    beyond : (x y z : ℚ) → x <ℚ y → y <ℚ z → x <ℚ z
    beyond x y z h k = with3 x y z (λ c. omega (arith, c.le, c.lt, c.same))

pub mirror_starts : (reach : ℚ) (at : Ext) (ps : List Piece) → StartsAtZero ps → Each (λ q. q.x <ℚ reach) ps → StartsAtZero (mirror_pieces reach at ps)
mirror_starts reach at [] h b = absurd h
mirror_starts reach at (p ∷ ps) h b =
    let B = back_starts reach at p ps b.0 b.1 h.1 in
    starts_more (back_pieces reach at (p ∷ ps)) (mirror_piece reach p.x p.at None) B.starts B.before

-- what comes to stand where something ends is read as the value there, and as the line before it
turned_value : (h : ℚ → Ext) (reach until : ℚ) (at : Ext) (p : Piece) (w : ℚ) → at ≡ h until → ((u : ℚ) → p.x <ℚ u → u <ℚ until → h u ≡ line_value p.line u) → reach -ℚ until ≤ℚ w → w <ℚ reach -ℚ p.x
    → piece_value (mirror_piece reach until at p.line) w ≡ h (reach -ℚ w)
turned_value h reach until at p w here past low high = elim (le_or_lt w (reach -ℚ until)) [
  | inl k ↦
      let same : until ≡ reach -ℚ w = ends until reach w (antisym (k, low)) in
      value_by (mirror_piece reach until at p.line) w k ∙ here ∙ ap h same
  | inr k ↦
      value_past (mirror_piece reach until at p.line) w k ∙ mirror_line_value reach p.line w
      ∙ sym (past (reach -ℚ w) (after p.x reach w high) (sooner until reach w k))
]
  where
    ends : (until reach w : ℚ) → w ≡ reach -ℚ until → until ≡ reach -ℚ w
    ends until reach w e = with3 until reach w (λ c. omega (arith, c.le, c.lt, c.same))

    after : (p reach w : ℚ) → w <ℚ reach -ℚ p → p <ℚ reach -ℚ w
    after p reach w h = with3 p reach w (λ c. omega (arith, c.le, c.lt, c.same))

    sooner : (until reach w : ℚ) → reach -ℚ until <ℚ w → reach -ℚ w <ℚ until
    sooner until reach w h = with3 until reach w (λ c. omega (arith, c.le, c.lt, c.same))

-- h reads as these pieces from their start on and before `reach`, and as `at` there
record IsRead (h : ℚ → Ext) (reach : ℚ) (at : Ext) (p : Piece) (ps : List Piece) : Type 0 where
  before : (u : ℚ) → p.x ≤ℚ u → u <ℚ reach → h u ≡ read (p ∷ ps) u
  there : at ≡ h reach

further : (h : ℚ → Ext) (reach : ℚ) (at : Ext) (p q : Piece) (qs : List Piece) → p.x <ℚ q.x → IsRead h reach at p (q ∷ qs) → IsRead h reach at q qs
further h reach at p q qs l R = record { before = λ u a b. R.before u (le_of_lt (lt_le_trans l a)) b ∙ read_go p q qs u a; there = R.there }

back_reads : (h : ℚ → Ext) (reach : ℚ) (at : Ext) (p : Piece) (ps : List Piece) (w : ℚ) → p.x <ℚ reach → Each (λ q. q.x <ℚ reach) ps → RisesFrom p.x ps → IsRead h reach at p ps → int (pos 0) ≤ℚ w
    → w <ℚ reach -ℚ p.x → read (back_pieces reach at (p ∷ ps)) w ≡ h (reach -ℚ w)
back_reads h reach at p [] w l b r R low high =
    read_one (mirror_piece reach reach at p.line) w
    ∙ turned_value h reach reach at p w R.there (λ u a c. R.before u (le_of_lt a) c ∙ read_one p u ∙ value_past p u a) (self reach w low) high
  where
    self : (reach w : ℚ) → int (pos 0) ≤ℚ w → reach -ℚ reach ≤ℚ w
    self reach w low = with2 reach w (λ c. omega (arith, c.le, c.lt, c.same))
back_reads h reach at p (q ∷ qs) w l b r R low high =
    let xs = back_pieces reach at (q ∷ qs) in
    let y = mirror_piece reach q.x q.at p.line in
    let B = back_starts reach at q qs b.0 b.1 r.1 in
    elim (le_or_lt (reach -ℚ q.x) w) [
      | inl k ↦
          read_after_more xs y w B.before k
          ∙ turned_value h reach q.x q.at p w (sym (R.before q.x (le_of_lt r.0) b.0 ∙ read_go p q qs q.x (le_refl q.x) ∙ read_first q qs q.x q.x r.1 (le_refl q.x) ∙ value_by q q.x (le_refl q.x)))
          (λ u a c. R.before u (le_of_lt a) (lt_trans c b.0) ∙ read_stop p q qs u c ∙ value_past p u a) k high
      | inr k ↦ read_before_more xs y w B.starts B.before k ∙ back_reads h reach at q qs w b.0 b.1 r.1 (further h reach at p q qs r.0 R) low k
    ]

-- from 0 up to `reach` the mirrored pieces read as h so long before `reach`, and after that as infinity
pub mirror_reads : (h : ℚ → Ext) (reach : ℚ) (at : Ext) (ps : List Piece) (w : ℚ) → StartsAtZero ps → Each (λ q. q.x <ℚ reach) ps → ((u : ℚ) → int (pos 0) ≤ℚ u → u <ℚ reach → h u ≡ read ps u) → at ≡ h reach
    → int (pos 0) ≤ℚ w → w ≤ℚ reach → read (mirror_pieces reach at ps) w ≡ h (reach -ℚ w)
mirror_reads h reach at [] w starts b H there low high = absurd starts
mirror_reads h reach at (p ∷ ps) w starts b H there low high =
    let xs = back_pieces reach at (p ∷ ps) in
    let y = mirror_piece reach p.x p.at None in
    let B = back_starts reach at p ps b.0 b.1 starts.1 in
    let zero = starts.0 in
    let R : IsRead h reach at p ps = record { before = λ u a c. H u (subst (λ z. z ≤ℚ u) zero a) c; there = there } in
    elim (le_or_lt (reach -ℚ p.x) w) [
      | inl k ↦
          let same : reach -ℚ w ≡ p.x = first p.x reach w zero k high in
          read_after_more xs y w B.before k ∙ value_by y w (least p.x reach w zero high) ∙ sym (ap h same ∙ H p.x (subst (λ z. int (pos 0) ≤ℚ z) (sym zero) (le_refl (int (pos 0)))) b.0
          ∙ read_first p ps p.x p.x starts.1 (le_refl p.x) ∙ value_by p p.x (le_refl p.x))
      | inr k ↦ read_before_more xs y w B.starts B.before k ∙ back_reads h reach at p ps w b.0 b.1 starts.1 R low k
    ]
  where
    first : (x reach w : ℚ) → x ≡ int (pos 0) → reach -ℚ x ≤ℚ w → w ≤ℚ reach → reach -ℚ w ≡ x
    first x reach w e k l = with3 x reach w (λ c. omega (arith, c.le, c.lt, c.same))

    least : (x reach w : ℚ) → x ≡ int (pos 0) → w ≤ℚ reach → w ≤ℚ reach -ℚ x
    least x reach w e l = with3 x reach w (λ c. omega (arith, c.le, c.lt, c.same))

pub mirror_past : (reach : ℚ) (at : Ext) (ps : List Piece) (w : ℚ) → StartsAtZero ps → Each (λ q. q.x <ℚ reach) ps → reach <ℚ w → read (mirror_pieces reach at ps) w ≡ Inf
mirror_past reach at [] w starts b late = absurd starts
mirror_past reach at (p ∷ ps) w starts b late =
    let xs = back_pieces reach at (p ∷ ps) in
    let y = mirror_piece reach p.x p.at None in
    let B = back_starts reach at p ps b.0 b.1 starts.1 in
    let over : reach -ℚ p.x <ℚ w = past p.x reach w starts.0 late in
    read_after_more xs y w B.before (le_of_lt over) ∙ value_past y w over
  where
    past : (x reach w : ℚ) → x ≡ int (pos 0) → reach <ℚ w → reach -ℚ x <ℚ w
    past x reach w e l = with3 x reach w (λ c. omega (arith, c.le, c.lt, c.same))
