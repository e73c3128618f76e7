use Rattle.std.specs.Prelude.{◌≡◌, List, Option, Some, IfSome, Vec}
use Rattle.std.proofs.Common.{sym, subst, Global}
use Rattle.upp_curve.specs.declared.affine_segment.line.Piece.{Piece}
use Rattle.element_envelope.specs.CopyWindows.{IsCopyWindow}
use Rattle.element_envelope.specs.OneSide.{IsOneSided}
use Rattle.element_envelope.proofs.CopyWindows.{first_operand, second_operand, first_is, side_room, side_beside, side_convolves}
use Rattle.element_envelope.proofs.convolved.by_one_side.Goals as goal

pub starts_of_one_side-requires-clause-first : goal.starts_of_one_side-requires-clause-first
starts_of_one_side-requires-clause-first c = (c.args.end, first_operand c.args.from c.args.end c.args.f.now c.args.g.now c.requires.windows)

pub starts_of_one_side-requires-clause-second : goal.starts_of_one_side-requires-clause-second
starts_of_one_side-requires-clause-second c = (c.args.end, second_operand c.args.from c.args.end c.args.f.now c.args.g.now c.requires.windows)

-- the starts that were found
side_starts : (found : Option (Vec Piece Global)) (v : Vec Piece Global) (f g ks : List Piece) → found ≡ Some v → ks ≡ v.items → IfSome found (λ w. IsOneSided f g w.items) → IsOneSided f g ks
side_starts found v f g ks e d h = subst (IsOneSided f g) (sym d) (subst (λ z. IfSome z (λ w. IsOneSided f g w.items)) e h)

pub near_copies-requires-clause-room : goal.near_copies-requires-clause-room
near_copies-requires-clause-room c =
    side_room c.args.from c.args.end c.args.f.now c.args.g.now c.deref.result.now (side_starts _ c.in-Some.starts c.args.f.now c.args.g.now c.deref.result.now c.in-Some.is c.deref.ensures.value c.in_ok-starts.ensures) c.requires.windows

pub lower_with_copy-requires : goal.lower_with_copy-requires
lower_with_copy-requires c =
    let H = first_is c.args.g.now c.index-g-0.result c.requires.windows.right.starts c.index-g-0.is in
    side_beside c.args.from c.args.end c.args.f.now c.args.g.now c.deref.result.now c.deref-2.result.now H.0 c.index-g-0.result
    (side_starts _ c.in-Some.starts c.args.f.now c.args.g.now c.deref.result.now c.in-Some.is c.deref.ensures.value c.in_ok-starts.ensures) H.1
    (subst (IsCopyWindow c.args.from c.args.end c.deref.result.now c.args.g.now) (sym c.deref-2.ensures.value) c.in_ok-copies.ensures) c.requires.windows

pub returns : goal.returns
returns c =
    let H = first_is c.args.g.now c.index-g-0.result c.requires.windows.right.starts c.index-g-0.is in
    let L = c.in_ok-lower_with_copy.ensures in
    side_convolves c.args.from c.args.end c.args.f.now c.args.g.now c.deref.result.now c.deref-2.result.now L.copy _ c.requires.windows c.requires.left c.requires.right
    record {
      sided = side_starts _ c.in-Some.starts c.args.f.now c.args.g.now c.deref.result.now c.in-Some.is c.deref.ensures.value c.in_ok-starts.ensures;
      piece = c.index-g-0.result;
      more = H.0;
      first = H.1;
      copies = subst (IsCopyWindow c.args.from c.args.end c.deref.result.now c.args.g.now) (sym c.deref-2.ensures.value) c.in_ok-copies.ensures;
      own = L.is;
    }
    L.lower
