-- The loop that makes a piece of each stretch.
use Rattle.std.specs.Prelude.{◌≡◌, ℕ, ◌+◌, ◌<◌, ◌≤◌, List, [], ◌∷◌, ◌++◌, length}
use Rattle.std.proofs.Common.{get_or, drop, drop_of_length-le, append-nil, sym, ap, ◌∙◌, subst}
use Rattle.std.proofs.lemmas.List.{drop_more}
use Rattle.upp_curve.specs.declared.affine_segment.line.Piece.{Piece}
use Rattle.curve_call.specs.declared.stretch.Both.{Both}
use Rattle.curve_call.specs.Stretches.{EachBoth}
use Rattle.curve_call.specs.Pointwise.{mapped}
use Rattle.curve_call.proofs.MapLoop.{MapLoop}
use Rattle.curve_call.proofs.Surgery.{one_more}

next_both : (bs : List Both) (i : ℕ) (b : Both) → i < length bs → b ≡ get_or bs i b → drop i bs ≡ b ∷ drop (i + 1) bs
next_both bs i b h is = drop_more bs i b h ∙ ap (λ x. x ∷ drop (i + 1) bs) (sym is)

pub part_here : (P : Both → Type 0) (m : Both → Piece) (bs : List Both) (i : ℕ) (b : Both) (out : List Piece) → MapLoop P m bs (drop i bs) out → i < length bs → b ≡ get_or bs i b → P b
part_here P m bs i b out L h is = (subst (EachBoth P) (next_both bs i b h is) L.holds).0

pub part_step : (P : Both → Type 0) (m : Both → Piece) (bs : List Both) (i : ℕ) (b : Both) (q : Piece) (out new : List Piece) → MapLoop P m bs (drop i bs) out → i < length bs → b ≡ get_or bs i b
    → q ≡ m b → new ≡ out ++ q ∷ [] → MapLoop P m bs (drop (i + 1) bs) new
part_step P m bs i b q out new L h is made more =
    let shape = next_both bs i b h is in
    let rest = drop (i + 1) bs in
    record {
      holds = (subst (EachBoth P) shape L.holds).1;
      same = ap (λ xs. xs ++ mapped m rest) more ∙ one_more out q (mapped m rest) ∙ ap (λ y. out ++ y ∷ mapped m rest) made ∙ ap (λ z. out ++ mapped m z) (sym shape) ∙ L.same;
    }

pub parts_end : (P : Both → Type 0) (m : Both → Piece) (bs : List Both) (i : ℕ) (out : List Piece) → MapLoop P m bs (drop i bs) out → length bs ≤ i → out ≡ mapped m bs
parts_end P m bs i out L h = sym (append-nil out) ∙ ap (λ z. out ++ mapped m z) (sym (drop_of_length-le bs h)) ∙ L.same
