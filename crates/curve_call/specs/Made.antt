-- What is made of two windows at one time: the lower, the upper, or what the first has above the second; and pieces
-- of it, of each stretch on which both go on with one line. (Le Boudec and Thiran, chapter 3; the pieces are our own
-- choice.)
use Rattle.std.specs.Prelude.{◌≡◌, Bool, true, false, pos, not, List, [], ◌∷◌, ◌++◌, Option, Some, None}
use Rattle.rational.specs.Rational.{ℚ, ◌-ℚ◌, ◌<ℚ◌, neg_ℚ, int}
use Rattle.rational.specs.Ratio.{SumFits}
use Rattle.rational.specs.Extended.{Ext, min_ext, max_ext}
use Rattle.rational.specs.declared.Extended.TheVariants.{Fin, Inf}
use Rattle.upp_curve.specs.declared.affine_segment.line.Line.{Line}
use Rattle.upp_curve.specs.declared.affine_segment.line.Piece.{Piece}
use Rattle.upp_curve.specs.affine_segment.Values.{line_value}
use Rattle.min_plus.specs.Pointwise.{excess}
use Rattle.upp_curve.specs.affine_segment.Fits.{LineFitsAt}
use Rattle.curve_call.specs.declared.stretch.Both.{Both}
use Rattle.curve_call.specs.declared.lie.Lie.{Lie}
use Rattle.curve_call.specs.declared.made.Made.{Made}
use Rattle.curve_call.specs.declared.made.Made.TheVariants.{Lower, Upper, Excess}
use Rattle.curve_call.specs.Stretches.{IsBothOf, IsOverlay}
use Rattle.curve_call.specs.Lies.{CrossFits, CrossesAt, IsLie}

-- ---- of values and of lines
abbrev pub made_value : Made → Ext → Ext → Ext
made_value Lower v w = min_ext v w
made_value Upper v w = max_ext v w
made_value Excess v w = excess v w

-- whether its slope rises (true) or falls (false) where the two lines change places
abbrev pub made_rises : Made → Bool
made_rises Lower = false
made_rises Upper = true
made_rises Excess = true

abbrev pub zero_line : Line
zero_line = record { icept = int (pos 0); slope = int (pos 0) }

-- the first less the second; 0 where the second is infinite
abbrev pub line_apart : Option Line → Option Line → Option Line
line_apart l None = Some zero_line
line_apart None (Some m) = None
line_apart (Some l) (Some m) = Some record { icept = l.icept -ℚ m.icept; slope = l.slope -ℚ m.slope }

-- of two lines of which the first is nowhere above the second (true), or nowhere below it (false)
abbrev pub made_line : Made → Bool → Option Line → Option Line → Option Line
made_line Lower true l m = l
made_line Lower false l m = m
made_line Upper true l m = m
made_line Upper false l m = l
made_line Excess true l m = Some zero_line
made_line Excess false l m = line_apart l m

-- ---- of a stretch
-- its pieces: its beginning, and what follows where its lines change places
pub record Parts : Type 0 where
  pub first : Piece
  pub turn : Option Piece

-- its beginning
abbrev pub first_piece : Made → Bool → Both → Piece
first_piece k below b =
    record { x = b.left.x; at = made_value k b.left.at b.right.at; line = made_line k below b.left.line b.right.line }

-- from where its lines change places
abbrev pub turn_piece : Made → Bool → Both → ℚ → Piece
turn_piece k below b x =
    record {
      x = x;
      at = line_value (made_line k below b.left.line b.right.line) x;
      line = made_line k below b.left.line b.right.line;
    }

abbrev pub parts_by : Made → Both → Bool → Option ℚ → Parts
parts_by k b below None = record { first = first_piece k below b; turn = None }
parts_by k b below (Some x) = record { first = first_piece k below b; turn = Some (turn_piece k (not below) b x) }

abbrev pub parts_of : Made → Both → Lie → Parts
parts_of k b lie = parts_by k b lie.below lie.turn

-- the pieces of the stretch b, which ends at `to`
pub record IsParts (k : Made) (b : Both) (to : ℚ) (parts : Parts) : Type 0 where
  pub lie : Lie
  pub lies : IsLie b.left.line b.right.line b.left.x to lie
  pub is : parts ≡ parts_of k b lie

-- ---- of all stretches
-- where the first of some stretches starts, and `end` where there is none
abbrev pub next_start : List Both → ℚ → ℚ
next_start [] end = end
next_start (b ∷ bs) end = b.left.x

-- those pieces, before some others
abbrev pub turn_listed : Option Piece → List Piece → List Piece
turn_listed None rest = rest
turn_listed (Some p) rest = p ∷ rest

abbrev pub listed : Parts → List Piece → List Piece
listed parts rest = parts.first ∷ turn_listed parts.turn rest

-- the pieces of the stretch b, which ends at `to`, stand behind those that were there before
abbrev pub HasParts : Made → Both → ℚ → List Piece → List Piece → Type 0
HasParts k b to before after = (parts : Parts) × IsParts k b to parts × (after ≡ before ++ listed parts [])

-- the pieces of each stretch in turn, up to the next or to `end`
abbrev pub AreMade : Made → List Both → ℚ → List Piece → Type 0
AreMade k [] end ps = ps ≡ []
AreMade k (b ∷ bs) end ps =
    (parts : Parts) × IsParts k b (next_start bs end) parts
    × ((rest : List Piece) × (ps ≡ listed parts rest) × AreMade k bs end rest)

-- What is made of two windows up to `end`: the pieces of the stretches on which both go on with one line.
pub record IsMadeWindow (k : Made) (f g : List Piece) (end : ℚ) (ps : List Piece) : Type 0 where
  pub stretches : List Both
  pub cut : IsOverlay f g stretches
  pub made : AreMade k stretches end ps

-- ---- steps that fit
abbrev pub ValueApartFits : Ext → Ext → Type 0
ValueApartFits Inf w = Unit {0}
ValueApartFits (Fin v) Inf = Unit {0}
ValueApartFits (Fin v) (Fin w) = SumFits v (neg_ℚ w)

abbrev pub LineApartFits : Option Line → Option Line → Type 0
LineApartFits None m = Unit {0}
LineApartFits (Some l) None = Unit {0}
LineApartFits (Some l) (Some m) = SumFits l.icept (neg_ℚ m.icept) × SumFits l.slope (neg_ℚ m.slope)

-- each step of what is made of a stretch before `end` fits
pub record StretchMadeFits (end : ℚ) (b : Both) : Type 0 where
  pub value : ValueApartFits b.left.at b.right.at
  pub line : LineApartFits b.left.line b.right.line
  pub cross : CrossFits b.left.line b.right.line
  pub turn : (k : Made) (rises below : Bool) (x : ℚ) → CrossesAt rises b.left.line b.right.line x → b.left.x <ℚ x
      → x <ℚ end → LineFitsAt x (made_line k below b.left.line b.right.line)

-- The same of each stretch of two windows, which all start before `end`.
pub record MadeStepsFit (end : ℚ) (b : Both) : Type 0 where
  pub early : b.left.x <ℚ end
  pub steps : StretchMadeFits end b

abbrev pub MadeWindowFits : ℚ → List Piece → List Piece → Type 0
MadeWindowFits end f g = (b : Both) → IsBothOf f g b → MadeStepsFit end b
