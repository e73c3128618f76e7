use Rattle.std.proofs.Common.{◌≡◌, [], ◌∷◌, ◌++◌, ◌∙◌, sym, ap, subst}
use Rattle.upp_curve.specs.declared.affine_segment.line.Piece.{Piece}
use Rattle.upp_normal.proofs.NormaliseForm.{ok_map}
use Rattle.plain_operators.specs.running.Scans.{IsWindow, ScanFits}
use Rattle.plain_operators.specs.running.Made.{IsInfimumScan}
use Rattle.plain_operators.specs.running.Runs.{IsFrontBefore}
use Rattle.plain_operators.specs.running.Lowest.{with_level, IsLowestBefore}
use Rattle.plain_operators.proofs.running.lowest.lowest_before.Goals as goal

pub infimum_scan-requires : goal.infimum_scan-requires
infimum_scan-requires c =
    let ps = c.args.pieces.items in
    let all : c.deref.result.now ≡ with_level ps c.args.end c.args.level = c.deref.ensures.value ∙ c.in_ok-push.ensures.items ∙ ap (λ (p : Piece). ps ++ p ∷ []) c.level_piece.ensures in
    record { window = subst (IsWindow c.args.far) (sym all) c.requires.window; fits = subst (ScanFits c.args.far) (sym all) c.requires.fits }

pub returns : goal.returns
returns c =
    let ps = c.args.pieces.items in
    let scanned = c.in_ok-scanned.scanned.items in
    let all : c.deref.result.now ≡ with_level ps c.args.end c.args.level = c.deref.ensures.value ∙ c.in_ok-push.ensures.items ∙ ap (λ (p : Piece). ps ++ p ∷ []) c.level_piece.ensures in
    ok_map c.front_before.result (λ v. IsFrontBefore c.deref-2.result.now c.args.end v.items) (λ v. IsLowestBefore (with_level ps c.args.end c.args.level) c.args.end c.args.far v.items)
    (λ v F. record {
      scanned = scanned;
      scan = subst (λ q. IsInfimumScan q c.args.far scanned) all c.in_ok-scanned.ensures;
      front = subst (λ q. IsFrontBefore q c.args.end v.items) c.deref-2.ensures.value F;
    })
    c.front_before.ensures
