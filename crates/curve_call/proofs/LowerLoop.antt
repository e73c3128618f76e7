-- The walk over two windows that makes the pieces of the lower, those left out that go on with the one before them.
use Rattle.std.specs.Prelude.{◌≡◌, ◌≤◌, List, [], ◌∷◌, ◌++◌, length}
use Rattle.std.proofs.Common.{refl}
use Rattle.rational.specs.Rational.{ℚ}
use Rattle.upp_curve.specs.declared.affine_segment.line.Piece.{Piece}
use Rattle.curve_call.specs.declared.made.Made.TheVariants.{Lower}
use Rattle.curve_call.specs.declared.stretch.Walk.{Walk}
use Rattle.curve_call.specs.Walk.{IsStep}
use Rattle.curve_call.specs.Made.{HasParts}
use Rattle.curve_call.specs.Lower.{LowerFits, IsLowerOf}
use Rattle.curve_call.specs.Joining.{JoinsTo}
use Rattle.curve_call.specs.Alone.{PassesLeft, PassesRight}
use Rattle.curve_call.proofs.Passing.{past_left, past_right}
use Rattle.curve_call.proofs.JoinedPieces.{joined_lower}
use Rattle.curve_call.proofs.LowerWindows.{lower_is}
use Rattle.curve_call.proofs.MadeLoop.{MadeLoop, made_start, made_step, made_end}
use Rattle.curve_call.proofs.OverlayLoop.{OverlayLoop}

pub record LowerLoop (f g : List Piece) (w : Walk) (kept : List Piece) : Type 0 where
  pub all : List Piece
  pub made : MadeLoop Lower f g w all
  pub joins : JoinsTo all kept

pub lower_start : (f g : List Piece) (w : Walk) (kept : List Piece) → OverlayLoop f g (w.here ∷ []) w → kept ≡ [] → LowerLoop f g w kept
lower_start f g w kept L none = record { all = []; made = made_start Lower f g w [] L refl; joins = none }

pub lower_step : (f g : List Piece) (to : ℚ) (w v : Walk) (kept more : List Piece) (L : LowerLoop f g w kept) → ((u : Walk) → IsStep f g w u → u.here.left.x ≡ to)
    → ((all : List Piece) → JoinsTo all kept → (after : List Piece) × HasParts Lower w.here to all after × JoinsTo after more) → IsStep f g w v → LowerLoop f g v more
lower_step f g to w v kept more L ends H S =
    let (after, P, J) = H L.all L.joins in
    record { all = after; made = made_step Lower f g to w v L.all after L.made ends P S; joins = J }

pub lower_left : (f g : List Piece) (w v : Walk) (kept more : List Piece) (L : LowerLoop f g w kept)
    → ((all : List Piece) → JoinsTo all kept → (passed : List Piece) × PassesLeft f g passed w v × JoinsTo (all ++ passed) more) → LowerLoop f g v more
lower_left f g w v kept more L H =
    let (passed, P, J) = H L.all L.joins in
    record { all = L.all ++ passed; made = past_left f g passed w v L.all P L.made; joins = J }

pub lower_right : (f g : List Piece) (w v : Walk) (kept more : List Piece) (L : LowerLoop f g w kept)
    → ((all : List Piece) → JoinsTo all kept → (passed : List Piece) × PassesRight f g passed w v × JoinsTo (all ++ passed) more) → LowerLoop f g v more
lower_right f g w v kept more L H =
    let (passed, P, J) = H L.all L.joins in
    record { all = L.all ++ passed; made = past_right f g passed w v L.all P L.made; joins = J }

pub lower_end : (f g : List Piece) (end : ℚ) (w : Walk) (kept found : List Piece) → LowerFits end f g → LowerLoop f g w kept → length f ≤ w.i → length g ≤ w.j
    → ((all : List Piece) → JoinsTo all kept → (after : List Piece) × HasParts Lower w.here end all after × JoinsTo after found) → IsLowerOf f g end found
lower_end f g end w kept found fits L hi hj H =
    let (after, P, J) = H L.all L.joins in
    joined_lower f g end after found (lower_is end f g after fits (made_end Lower f g end w L.all after L.made hi hj P)) J
