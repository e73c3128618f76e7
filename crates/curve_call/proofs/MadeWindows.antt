-- What is made of two operands' windows, from the stretches of both.
use Rattle.std.specs.Prelude.{◌≡◌, pos, List, [], ◌∷◌}
use Rattle.std.proofs.Common.{arith, sym, ap₂, ◌∙◌, subst}
use Rattle.rational.specs.Rational.{ℚ, ◌≤ℚ◌, ◌<ℚ◌, int}
use Rattle.upp_curve.specs.declared.affine_segment.line.Piece.{Piece}
use Rattle.upp_curve.specs.affine_segment.Reading.{read}
use Rattle.upp_limits.specs.Limits.{Sizes}
use Rattle.curve_call.specs.declared.stretch.Both.{Both}
use Rattle.curve_call.specs.declared.made.Made.{Made}
use Rattle.curve_call.specs.Stretches.{EachBoth, StartTogether, IsBothOf, IsOverlay, CutsFit}
use Rattle.curve_call.specs.Made.{made_value, made_rises, AreMade, IsMadeWindow, MadeWindowFits}
use Rattle.curve_call.specs.Operands.{AreOperands, HaveSizes, IsMadeOf}
use Rattle.curve_call.proofs.Mapped.{each_map}
use Rattle.curve_call.proofs.OperandWindows.{OperandBoth, operand_both, cuts_fit}
use Rattle.curve_call.proofs.MadeReads.{made_reads, made_starts, made_length}
use Rattle.curve_call.proofs.MadeStands.{stretch_fits, made_room, made_early, made_bends}

pub sized_cuts : (end : ℚ) (f g : List Piece) → HaveSizes end f g → CutsFit f g
sized_cuts end f g (z, A) = cuts_fit z end f g A.limited A.left A.right

operand_boths : (z : Sizes) (end : ℚ) (f g : List Piece) (bs : List Both) → AreOperands z end f g → IsOverlay f g bs → EachBoth (OperandBoth z end) bs
operand_boths z end f g bs A O = each_map (IsBothOf f g) (OperandBoth z end) bs (λ b B. operand_both z end f g b A.limited A.left A.right B) O.each

pub sized_steps : (end : ℚ) (f g : List Piece) → HaveSizes end f g → MadeWindowFits end f g
sized_steps end f g (z, A) b B =
    let O = operand_both z end f g b A.limited A.left A.right B in
    record { early = O.time.before; steps = stretch_fits z end b A.limited O }

reads_of : (k : Made) (end : ℚ) (f g : List Piece) (bs : List Both) (ps : List Piece) (t : ℚ) → IsOverlay f g bs → AreMade k bs end ps → int (pos 0) ≤ℚ t → t <ℚ end
    → read ps t ≡ made_value k (read f t) (read g t)
reads_of k end f g [] ps t O M low high = absurd O.starts
reads_of k end f g (b ∷ bs) ps t O M low high =
    made_reads k b bs end ps t M O.starts.1 (each_map (IsBothOf f g) StartTogether (b ∷ bs) (λ b B. B.together) O.each) (subst (λ x. x ≤ℚ t) (sym O.starts.0) low) high
    ∙ ap₂ (made_value k) (O.left t low) (O.right t low)

pub made_is : (k : Made) (end : ℚ) (f g : List Piece) (ps : List Piece) → HaveSizes end f g → IsMadeWindow k f g end ps
    → IsMadeOf (made_value k) (made_rises k) f g end ps
made_is k end f g ps (z, A) W =
    let bs = W.stretches in
    let O = W.cut in
    let M = W.made in
    record {
      starts = made_starts k bs end ps M O.starts;
      reads = λ t low high. reads_of k end f g bs ps t O M low high;
      early = made_early z end k bs ps (operand_boths z end f g bs A O) M;
      room = λ z A. made_room z end k bs ps A.limited (operand_boths z end f g bs A O) M;
      bends = λ z A. made_bends z end k bs ps (operand_boths z end f g bs A O) M;
      count = let n = made_length k bs end ps M in let m = O.count in omega (arith, n, m);
    }
