-- Pieces with minus their values, and mirrored: they stand as a window's, the steps to them fit, and the loop that makes them.
use Rattle.std.specs.Prelude.{◌≡◌, ℕ, zero, suc, drop, pos, List, [], ◌∷◌, ◌++◌, Option, Some, None, map}
use Rattle.std.proofs.Common.{arith, sym, ap₂, ◌∙◌, refl, subst}
use Rattle.rational.specs.Rational.{ℚ, ◌≤ℚ◌, ◌<ℚ◌, neg_ℚ, int}
use Rattle.rational.specs.Ratio.{SumFits}
use Rattle.rational.specs.Grid.{Whole}
use Rattle.rational.specs.Extended.{Ext}
use Rattle.rational.specs.declared.Extended.TheVariants.{Fin, Inf}
use Rattle.rational.proofs.Grid.{whole_sub, whole_neg, within_neg}
use Rattle.rational.proofs.Linear.{with2, with3}
use Rattle.rational.proofs.Laws.{le_of_lt}
use Rattle.upp_curve.specs.declared.affine_segment.line.Line.{Line}
use Rattle.upp_curve.specs.declared.affine_segment.line.Piece.{Piece}
use Rattle.upp_curve.specs.affine_segment.Pieces.{Each, StartsAtZero}
use Rattle.upp_curve.specs.affine_segment.Values.{line_value}
use Rattle.upp_curve.proofs.affine_segment.PieceOrder.{each_append, each_map}
use Rattle.upp_limits.specs.Limits.{Sizes}
use Rattle.upp_limits.specs.Sized.{ValueStands}
use Rattle.upp_normal.specs.Ahead.{GridValue}
use Rattle.upp_normal.specs.Operand.{AreLimited, OperandLineAt, OperandPiece, OperandPieces}
use Rattle.upp_normal.proofs.AnswerRoom.{operand_line_fits, stands_operand_value}
use Rattle.element_envelope.specs.ConvolutionWindows.{WindowPiece, WindowPieces}
use Rattle.curve_deconv.specs.Mirrored.{neg_ext, neg_option, neg_piece, mirror_option, mirror_piece}
use Rattle.curve_deconv.specs.Mirrored.{first_start, first_at, back_pieces, mirror_pieces, IsMirrorable, AreMirrorable}
use Rattle.curve_deconv.proofs.Mirrored.{neg_starts, mirror_starts}
use Rattle.curve_deconv.proofs.MirroredRoom.{ReachTime, ReadyPiece, piece_time, neg_operand_line, mirror_operand_line, back_fits}

-- ---- minus the values
neg_value : (z : Sizes) (v : Ext) → ValueStands z v → ValueStands z (neg_ext v)
neg_value z Inf h = tt
neg_value z (Fin v) h = record { whole = whole_neg z.dv v h.whole; within = within_neg (int (pos z.largest)) v h.within }

neg_line_stands : (z : Sizes) (o : Option Line) → OperandLineAt z o → OperandLineAt z (neg_option o)
neg_line_stands z None h = tt
neg_line_stands z (Some l) h = neg_operand_line z l h

neg_each : (z : Sizes) (end : ℚ) (ps : List Piece) → Each (OperandPiece z end) ps → Each (OperandPiece z end) (map neg_piece ps)
neg_each z end [] h = tt
neg_each z end (p ∷ ps) h = (
  record { start = h.0.start; nonneg = h.0.nonneg; before = h.0.before; at = neg_value z p.at h.0.at; line = neg_line_stands z p.line h.0.line },
  neg_each z end ps h.1,
)

pub neg_pieces_stand : (z : Sizes) (end : ℚ) (ps : List Piece) → OperandPieces z end ps → OperandPieces z end (map neg_piece ps)
neg_pieces_stand z end ps h = record { starts = neg_starts ps h.starts; each = neg_each z end ps h.each }

-- ---- they stand
line_stands : (z : Sizes) (end reach x : ℚ) (o : Option Line) → AreLimited z end → Whole z.dt reach → int (pos 0) ≤ℚ reach → reach ≤ℚ end → ReachTime z reach x → OperandLineAt z o
    → ValueStands z (line_value o x) → OperandLineAt z (mirror_option reach o)
line_stands z end reach x None A w low high X L V = tt
line_stands z end reach x (Some l) A w low high X L V = mirror_operand_line z end reach x l A w low high X.low X.high L V

piece_stands : (z : Sizes) (end reach until : ℚ) (at : Ext) (o : Option Line) → Whole z.dt reach → reach <ℚ end → ReachTime z reach until → GridValue z at → OperandLineAt z (mirror_option reach o)
    → WindowPiece z end (mirror_piece reach until at o)
piece_stands z end reach until at o w early U V L =
    let a = U.low in
    let b = U.high in
    record {
      start = whole_sub z.dt reach until w U.whole;
      nonneg = with2 reach until (λ c. omega (arith, c.le, c.lt, c.same));
      before = with3 reach until end (λ c. omega (arith, c.le, c.lt, c.same));
      at = V;
      line = L;
    }

first_time : (z : Sizes) (end reach : ℚ) (ps : List Piece) → Each (ReadyPiece z end reach) ps → ReachTime z reach reach → ReachTime z reach (first_start reach ps)
first_time z end reach [] h R = R
first_time z end reach (p ∷ ps) h R = piece_time z end reach p h.0

first_value : (z : Sizes) (end reach : ℚ) (at : Ext) (ps : List Piece) → GridValue z at → Each (ReadyPiece z end reach) ps → GridValue z (first_at at ps)
first_value z end reach at [] V h = V
first_value z end reach at (p ∷ ps) V h = stands_operand_value z p.at h.0.piece.at

back_stand : (z : Sizes) (end reach : ℚ) (at : Ext) (ps : List Piece) → AreLimited z end → Whole z.dt reach → int (pos 0) ≤ℚ reach → reach <ℚ end → ReachTime z reach reach → GridValue z at → Each (ReadyPiece z end reach) ps
    → Each (WindowPiece z end) (back_pieces reach at ps)
back_stand z end reach at [] A w low early R V h = tt
back_stand z end reach at (p ∷ ps) A w low early R V h =
    each_append (WindowPiece z end) (back_pieces reach at ps) (mirror_piece reach (first_start reach ps) (first_at at ps) p.line ∷ []) (back_stand z end reach at ps A w low early R V h.1) (
      piece_stands z end reach (first_start reach ps) (first_at at ps) p.line w early (first_time z end reach ps h.1 R) (first_value z end reach at ps V h.1)
          (line_stands z end reach p.x p.line A w low (le_of_lt early) (piece_time z end reach p h.0) h.0.piece.line h.0.after),
      tt,
    )

pub mirror_pieces_stand : (z : Sizes) (end reach : ℚ) (at : Ext) (ps : List Piece) → AreLimited z end → Whole z.dt reach → int (pos 0) ≤ℚ reach → reach <ℚ end → ReachTime z reach reach → GridValue z at → StartsAtZero ps
    → Each (ReadyPiece z end reach) ps → WindowPieces z end (mirror_pieces reach at ps)
mirror_pieces_stand z end reach at ps A w low early R V starts h = record {
  starts = mirror_starts reach at ps starts (each_map (ReadyPiece z end reach) (λ q. q.x <ℚ reach) (λ q k. k.before) ps h);
  each = each_append (WindowPiece z end) (back_pieces reach at ps) (mirror_piece reach (first_start reach ps) (first_at at ps) None ∷ []) (back_stand z end reach at ps A w low early R V h)
      (piece_stands z end reach (first_start reach ps) (first_at at ps) None w early (first_time z end reach ps h R) (first_value z end reach at ps V h) tt, tt);
}

pub are_mirrorable : (z : Sizes) (end reach : ℚ) (ps : List Piece) → AreLimited z end → Whole z.dt reach → int (pos 0) ≤ℚ reach → reach <ℚ end → Each (ReadyPiece z end reach) ps → AreMirrorable reach ps
are_mirrorable z end reach ps A w low early h = record {
  last = back_fits z end reach reach A w w low (le_of_lt early) low (le_of_lt early);
  each = each_map (ReadyPiece z end reach) (IsMirrorable reach)
      (λ p R.
      let T = piece_time z end reach p R in
      record {
        start = back_fits z end reach p.x A w T.whole low (le_of_lt early) T.low (le_of_lt R.piece.before);
        line = operand_line_fits z end reach p.line A R.piece.line w low (le_of_lt early);
      })
      ps h;
}

-- ---- the loop: what is made of the pieces from some number on
first_fits : (reach : ℚ) (ps : List Piece) → AreMirrorable reach ps → SumFits reach (neg_ℚ (first_start reach ps))
first_fits reach [] M = M.last
first_fits reach (p ∷ ps) M = M.each.0.start

pub fits_from : (reach : ℚ) (ps : List Piece) (i : ℕ) → AreMirrorable reach ps → SumFits reach (neg_ℚ (first_start reach (drop i ps)))
fits_from reach ps zero M = first_fits reach ps M
fits_from reach [] (suc n) M = M.last
fits_from reach (p ∷ ps) (suc n) M = fits_from reach ps n record { last = M.last; each = M.each.1 }

pub record MirrorLoop (reach : ℚ) (last : Ext) (ps made : List Piece) (until : ℚ) (at : Ext) : Type 0 where
  pub list : made ≡ back_pieces reach last ps
  pub ends : until ≡ first_start reach ps
  pub value : at ≡ first_at last ps

pub mirror_next : (reach until : ℚ) (last at : Ext) (p q : Piece) (ps rest made more : List Piece) → rest ≡ p ∷ ps → MirrorLoop reach last ps made until at → q ≡ mirror_piece reach until at p.line → more ≡ made ++ (q ∷ [])
    → MirrorLoop reach last rest more p.x p.at
mirror_next reach until last at p q ps rest made more e L is pushed =
    let same : q ≡ mirror_piece reach (first_start reach ps) (first_at last ps) p.line = is ∙ ap₂ (λ (u : ℚ) (a : Ext). mirror_piece reach u a p.line) L.ends L.value in
    subst (λ ys. MirrorLoop reach last ys more p.x p.at) (sym e)
    record { list = pushed ∙ ap₂ (λ (xs : List Piece) (y : Piece). xs ++ (y ∷ [])) L.list same; ends = refl; value = refl }

pub mirror_last : (reach until : ℚ) (last at : Ext) (q : Piece) (ps made more : List Piece) → MirrorLoop reach last ps made until at → q ≡ mirror_piece reach until at None → more ≡ made ++ (q ∷ []) → more ≡ mirror_pieces reach last ps
mirror_last reach until last at q ps made more L is pushed =
    let same : q ≡ mirror_piece reach (first_start reach ps) (first_at last ps) None = is ∙ ap₂ (λ (u : ℚ) (a : Ext). mirror_piece reach u a None) L.ends L.value in
    pushed ∙ ap₂ (λ (xs : List Piece) (y : Piece). xs ++ (y ∷ [])) L.list same
