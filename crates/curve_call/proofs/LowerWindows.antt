-- The pieces of the lower of two windows, from the stretches of both.
use Rattle.std.specs.Prelude.{◌≡◌, ◌⊎◌, pos, Bool, true, false, not, List, [], ◌∷◌, Option, Some, None}
use Rattle.std.proofs.Common.{arith, sym, ap, ap₂, ◌∙◌, refl, subst, inl, inr}
use Rattle.rational.specs.Rational.{ℚ, ◌≤ℚ◌, ◌<ℚ◌, int}
use Rattle.rational.specs.Extended.{min_ext}
use Rattle.rational.proofs.Laws.{le_refl, le_of_lt, lt_le_trans}
use Rattle.upp_curve.specs.declared.affine_segment.line.Line.{Line}
use Rattle.upp_curve.specs.declared.affine_segment.line.Piece.{Piece}
use Rattle.upp_curve.specs.affine_segment.Reading.{read}
use Rattle.upp_curve.specs.affine_segment.Pieces.{Each}
use Rattle.upp_curve.specs.affine_segment.Fits.{LineFitsAt}
use Rattle.curve_call.specs.declared.stretch.Both.{Both}
use Rattle.curve_call.specs.declared.made.Made.{Made}
use Rattle.curve_call.specs.declared.made.Made.TheVariants.{Lower, Upper, Excess}
use Rattle.curve_call.specs.Stretches.{EachBoth, StartTogether, IsBothOf, IsOverlay}
use Rattle.curve_call.specs.Lies.{CrossesAt, LiesBy}
use Rattle.curve_call.specs.Made.{made_line, first_piece, turn_piece, parts_by, listed, next_start, AreMade, IsMadeWindow, StretchMadeFits, MadeWindowFits}
use Rattle.curve_call.specs.Lower.{LinesFitAt, LowerStepsFit, LowerFits, IsLowerPiece, IsLowerOf}
use Rattle.curve_call.proofs.Mapped.{each_map}
use Rattle.curve_call.proofs.MadeReads.{made_reads, made_starts, made_length}

-- a stretch of both that starts before the end
record EarlyBoth (f g : List Piece) (end : ℚ) (b : Both) : Type 0 where
  of : IsBothOf f g b
  early : b.left.x <ℚ end

early_boths : (f g : List Piece) (end : ℚ) (bs : List Both) → LowerFits end f g → IsOverlay f g bs → EachBoth (EarlyBoth f g end) bs
early_boths f g end bs h O = each_map (IsBothOf f g) (EarlyBoth f g end) bs (λ b B. record { of = B; early = (h b B).early }) O.each

-- what the steps of the lower ask for is what those of any of the three ask for
lines_fit : (x : ℚ) (l m : Option Line) (k : Made) (below : Bool) → LinesFitAt x l m → LineFitsAt x (made_line k below l m)
lines_fit x l m Lower true h = h.left
lines_fit x l m Lower false h = h.right
lines_fit x l m Upper true h = h.right
lines_fit x l m Upper false h = h.left
lines_fit x l m Excess true h = h.zero
lines_fit x l m Excess false h = h.apart

all_fit : (end : ℚ) (b : Both) → LowerStepsFit end b → StretchMadeFits end b
all_fit end b h = record {
  value = h.value;
  line = h.line;
  cross = h.cross;
  turn = λ k rises below x C past before. lines_fit x b.left.line b.right.line k below (h.turn rises x C past before);
}

pub lower_steps : (f g : List Piece) (end : ℚ) → LowerFits end f g → MadeWindowFits end f g
lower_steps f g end h b B = record { early = (h b B).early; steps = all_fit end b (h b B) }

-- ---- a property of each piece
record PartsHold (P : Piece → Type 0) (f g : List Piece) (end : ℚ) : Type 0 where
  first : (below : Bool) (b : Both) → EarlyBoth f g end b → P (first_piece Lower below b)
  turn : (rises below : Bool) (b : Both) (x : ℚ) → EarlyBoth f g end b → CrossesAt rises b.left.line b.right.line x → b.left.x <ℚ x → x <ℚ end → P (turn_piece Lower below b x)

next_early : (f g : List Piece) (end : ℚ) (bs : List Both) → EachBoth (EarlyBoth f g end) bs → next_start bs end ≤ℚ end
next_early f g end [] h = le_refl end
next_early f g end (b ∷ bs) h = le_of_lt h.0.early

each_listed : (P : Piece → Type 0) (f g : List Piece) (end to : ℚ) (b : Both) (below : Bool) (turn : Option ℚ) (rest : List Piece) → PartsHold P f g end → EarlyBoth f g end b → to ≤ℚ end
    → LiesBy below b.left.line b.right.line b.left.x to turn → Each P rest → Each P (listed (parts_by Lower b below turn) rest)
each_listed P f g end to b below None rest H O early L R = (H.first below b O, R)
each_listed P f g end to b below (Some x) rest H O early L R =
    (H.first below b O, (H.turn below (not below) b x O L.meets L.past (lt_le_trans L.before early), R))

each_lower : (P : Piece → Type 0) (f g : List Piece) (end : ℚ) (bs : List Both) (ps : List Piece) → PartsHold P f g end → EachBoth (EarlyBoth f g end) bs → AreMade Lower bs end ps → Each P ps
each_lower P f g end [] ps H O M = subst (Each P) (sym M) tt
each_lower P f g end (b ∷ bs) ps H O (parts, Q, (rest, e, M)) =
    subst (Each P) (sym (e ∙ ap (λ y. listed y rest) Q.is))
    (each_listed P f g end (next_start bs end) b Q.lie.below Q.lie.turn rest H O.0 (next_early f g end bs O.1) Q.lies (each_lower P f g end bs rest H O.1 M))

-- ---- the pieces of the lower
one_line : (below : Bool) (l m : Option Line) → (made_line Lower below l m ≡ l) ⊎ (made_line Lower below l m ≡ m)
one_line true l m = inl refl
one_line false l m = inr refl

first_lower : (f g : List Piece) (end : ℚ) (below : Bool) (b : Both) → EarlyBoth f g end b → IsLowerPiece f g end (first_piece Lower below b)
first_lower f g end below b B = record {
  both = b;
  of = B.of;
  place = inl record { start = refl; at = refl };
  line = one_line below b.left.line b.right.line;
}

turn_lower : (f g : List Piece) (end : ℚ) (rises below : Bool) (b : Both) (x : ℚ) → EarlyBoth f g end b → CrossesAt rises b.left.line b.right.line x → b.left.x <ℚ x → x <ℚ end
    → IsLowerPiece f g end (turn_piece Lower below b x)
turn_lower f g end rises below b x B C past before = record {
  both = b;
  of = B.of;
  place = inr record { rises = rises; crosses = C; past = past; before = before; at = refl };
  line = one_line below b.left.line b.right.line;
}

reads_lower : (end : ℚ) (f g : List Piece) (bs : List Both) (ps : List Piece) (t : ℚ) → IsOverlay f g bs → AreMade Lower bs end ps → int (pos 0) ≤ℚ t → t <ℚ end
    → read ps t ≡ min_ext (read f t) (read g t)
reads_lower end f g [] ps t O M low high = absurd O.starts
reads_lower end f g (b ∷ bs) ps t O M low high =
    made_reads Lower b bs end ps t M O.starts.1 (each_map (IsBothOf f g) StartTogether (b ∷ bs) (λ b B. B.together) O.each) (subst (λ x. x ≤ℚ t) (sym O.starts.0) low) high
    ∙ ap₂ min_ext (O.left t low) (O.right t low)

pub lower_is : (end : ℚ) (f g : List Piece) (ps : List Piece) → LowerFits end f g → IsMadeWindow Lower f g end ps → IsLowerOf f g end ps
lower_is end f g ps h W =
    let bs = W.stretches in
    let O = W.cut in
    let M = W.made in
    let B = early_boths f g end bs h O in
    record {
      starts = made_starts Lower bs end ps M O.starts;
      reads = λ t low high. reads_lower end f g bs ps t O M low high;
      early = each_lower (λ p. p.x <ℚ end) f g end bs ps record { first = λ below b E. E.early; turn = λ rises below b x E C past before. before } B M;
      each = each_lower (IsLowerPiece f g end) f g end bs ps record { first = first_lower f g end; turn = turn_lower f g end } B M;
      count = let n = made_length Lower bs end ps M in let m = O.count in omega (arith, n, m);
    }
