-- Parts that were made, added up from the first on.
use Rattle.std.proofs.Common.{◌≡◌, ℕ, suc, ◌<◌, ◌≤◌, ◌+◌, List, [], ◌∷◌, length, map, drop, get_or, refl, sym, ap, ◌∙◌, subst, arith}
use Rattle.std.proofs.Math.Seq.{drop-cons, drop-length}
use Rattle.std.specs.Prelude.{All, Result, Ok, Err}
use Rattle.std.proofs.lemmas.List.Elements.{All-get_or}
use Rattle.upp_limits.specs.declared.op_kind.OpKind.TheVariants.{Sum}
use Rattle.upp_limits.specs.declared.op_kind.OpFault.{OpFault}
use Rattle.upp_limits.specs.declared.op_kind.OpFault.TheVariants.{NoMemory}
use Rattle.upp_curve.specs.Curve.{SpecCurve}
use Rattle.curve_call.specs.Again.{IsAgain}
use Rattle.curve_call.specs.Calls.{Applies}
use Rattle.outcomes.specs.Calls.{goes_on, stops}
use Rattle.net_cells.specs.declared.cell.Cell.{Cell}
use Rattle.net_cells.specs.Numbered.{zero_curve}
use Rattle.net_cells.specs.Meanings.{Meaning, curve, number, CellTable}
use Rattle.net_cells.specs.Formulas.{value_of}
use Rattle.net_cells.specs.Answers.{Answer, MakesCurve, SumsOnto, SumsOf}
use Rattle.net_cells.specs.Refusals.{SumsOntoRefused, SumsRefused}
use Rattle.residuals.specs.calls.InTurn.{on_the_way, past}
use Rattle.net_cells.specs.cell_table.Gives.{Gives}
use Rattle.net_cells.specs.cell_table.Values.{answer_of}
use Rattle.cell_eval.specs.Sharing.{IsShared}
use Rattle.cell_eval.specs.Parts.{curve_in, curve_of, IsHeld}
use Rattle.cell_eval.specs.declared.curve_sums.Partial.{Partial}

-- ---- what is shared once it is made
onto_out : (f : SpecCurve) (gs : List SpecCurve) (v : Meaning) → SumsOnto f gs (Ok v) → SumsOnto f gs (Err NoMemory)
onto_out f [] v a = refl
onto_out f (g ∷ gs) v (goes_on (curve h) a b) = goes_on (curve h) a (onto_out h gs v b)
onto_out f (g ∷ gs) v (goes_on (number x) a b) = absurd b
onto_out f (g ∷ gs) v (stops fault a b) = absurd (let e : Ok v ≡ Err fault = b in cc)

sums_out : (fs : List SpecCurve) (v : Meaning) → SumsOf fs (Ok v) → SumsOf fs (Err NoMemory)
sums_out [] v a = refl
sums_out (f ∷ fs) v a = onto_out f fs v a

pub shared_sum : (fs : List SpecCurve) (made : Result SpecCurve OpFault) (r : Answer) → SumsOf fs (answer_of curve made)
    → IsShared made r → SumsOf fs r
shared_sum fs (Ok f) (Ok v) a s = subst (λ w. SumsOf fs (Ok w)) (sym s) a
shared_sum fs (Ok f) (Err fault) a s = subst (λ e. SumsOf fs (Err e)) (sym s) (sums_out fs (curve f) a)
shared_sum fs (Err e) (Ok v) a s = absurd s
shared_sum fs (Err e) (Err fault) a s = subst (λ d. SumsOf fs (Err d)) (sym s) a

-- a cell's curve, shared once more
pub again_makes : (at : CellTable) (c : Cell) (r : Answer) → Gives at (value_of c) r → MakesCurve (IsAgain (curve_in (at c))) r
again_makes at c r (goes_on (curve f) is a) = subst (λ g. MakesCurve (IsAgain g) r) (sym (ap curve_in is)) a
again_makes at c r (goes_on (number x) is a) = absurd a
again_makes at c r (stops fault a b) = absurd a

-- ---- sums
pub no_parts : (at : CellTable) (ps : List Partial) (r : Answer) → length ps ≡ 0 → MakesCurve (IsAgain zero_curve) r
    → SumsOf (map (curve_of at) ps) r
no_parts at [] r e a = a
no_parts at (p ∷ ps) r e a = absurd (omega (arith, e))

pub one_part : (at : CellTable) (ps : List Partial) (p : Partial) (r : Answer) → length ps ≡ 1 → p ≡ get_or ps 0 p
    → MakesCurve (IsAgain (curve_of at p)) r → SumsOf (map (curve_of at) ps) r
one_part at [] p r e is a = absurd (omega (arith, e))
one_part at (x ∷ []) p r e is a = subst (λ y. MakesCurve (IsAgain (curve_of at y)) r) is a
one_part at (x ∷ y ∷ ps) p r e is a = absurd (omega (arith, e))

-- the first two, and then the others
pub first_sum : (at : CellTable) (ps : List Partial) (x y : Partial) (h : SpecCurve) (r : Answer) → 2 ≤ length ps
    → x ≡ get_or ps 0 x → y ≡ get_or ps 1 y → Applies Sum (curve_of at x) (curve_of at y) (Ok h)
    → SumsOnto h (map (curve_of at) (drop 2 ps)) r → SumsOf (map (curve_of at) ps) r
first_sum at [] x y h r many a b is rest = absurd (omega (arith, many))
first_sum at (p ∷ []) x y h r many a b is rest = absurd (omega (arith, many))
first_sum at (p ∷ o ∷ ps) x y h r many a b is rest =
    goes_on (curve h) (subst (λ z. Applies Sum (curve_of at z) (curve_of at o) (Ok h)) a (subst (λ z. Applies Sum (curve_of at x) (curve_of at z) (Ok h)) b is)) rest

pub first_refused : (at : CellTable) (ps : List Partial) (x y : Partial) (fault : OpFault) → 2 ≤ length ps
    → x ≡ get_or ps 0 x → y ≡ get_or ps 1 y → Applies Sum (curve_of at x) (curve_of at y) (Err fault)
    → SumsOf (map (curve_of at) ps) (Err fault)
first_refused at [] x y fault many a b is = absurd (omega (arith, many))
first_refused at (p ∷ []) x y fault many a b is = absurd (omega (arith, many))
first_refused at (p ∷ o ∷ ps) x y fault many a b is =
    stops fault (subst (λ z. Applies Sum (curve_of at z) (curve_of at o) (Err fault)) a (subst (λ z. Applies Sum (curve_of at x) (curve_of at z) (Err fault)) b is)) refl

-- one more
parts_from : (at : CellTable) (ps : List Partial) (k : ℕ) (p : Partial) → k < length ps → p ≡ get_or ps k p
    → map (curve_of at) (drop k ps) ≡ curve_of at p ∷ map (curve_of at) (drop (k + 1) ps)
parts_from at ps k p h is =
    let next : suc k ≡ k + 1 = omega arith in
    ap (map (curve_of at)) (drop-cons ps k p h) ∙ ap (λ q. curve_of at q ∷ map (curve_of at) (drop (suc k) ps)) (sym is)
    ∙ ap (λ n. curve_of at p ∷ map (curve_of at) (drop n ps)) next

pub next_sum : (at : CellTable) (ps : List Partial) (k : ℕ) (p : Partial) (f h : SpecCurve) (r : Answer) → k < length ps
    → p ≡ get_or ps k p → Applies Sum f (curve_of at p) (Ok h)
    → SumsOnto h (map (curve_of at) (drop (k + 1) ps)) r → SumsOnto f (map (curve_of at) (drop k ps)) r
next_sum at ps k p f h r l is a rest =
    subst (λ (gs : List SpecCurve). SumsOnto f gs r) (sym (parts_from at ps k p l is)) (goes_on (curve h) a rest)

pub next_refused : (at : CellTable) (ps : List Partial) (k : ℕ) (p : Partial) (f : SpecCurve) (fault : OpFault) → k < length ps
    → p ≡ get_or ps k p → Applies Sum f (curve_of at p) (Err fault) → SumsOnto f (map (curve_of at) (drop k ps)) (Err fault)
next_refused at ps k p f fault l is a =
    subst (λ (gs : List SpecCurve). SumsOnto f gs (Err fault)) (sym (parts_from at ps k p l is)) (stops fault a refl)

-- ---- refusals of these sums
pub no_parts_refused : (at : CellTable) (ps : List Partial) (fault : OpFault) (n : ℕ) → length ps ≡ 0 → n ≡ 0 → fault ≡ NoMemory
    → SumsRefused (map (curve_of at) ps) fault n
no_parts_refused at [] fault n e none is = (none, is)
no_parts_refused at (p ∷ ps) fault n e none is = absurd (omega (arith, e))

pub one_part_refused : (at : CellTable) (ps : List Partial) (fault : OpFault) (n : ℕ) → length ps ≡ 1 → n ≡ 0 → fault ≡ NoMemory
    → SumsRefused (map (curve_of at) ps) fault n
one_part_refused at [] fault n e none is = absurd (omega (arith, e))
one_part_refused at (x ∷ []) fault n e none is = (none, is)
one_part_refused at (x ∷ y ∷ ps) fault n e none is = absurd (omega (arith, e))

pub first_sum_refused : (at : CellTable) (ps : List Partial) (x y : Partial) (h : SpecCurve) (fault : OpFault) (n : ℕ) → 2 ≤ length ps
    → x ≡ get_or ps 0 x → y ≡ get_or ps 1 y → Applies Sum (curve_of at x) (curve_of at y) (Ok h)
    → SumsOntoRefused h (map (curve_of at) (drop 2 ps)) fault n → SumsRefused (map (curve_of at) ps) fault (1 + n)
first_sum_refused at [] x y h fault n many a b is rest = absurd (omega (arith, many))
first_sum_refused at (p ∷ []) x y h fault n many a b is rest = absurd (omega (arith, many))
first_sum_refused at (p ∷ o ∷ ps) x y h fault n many a b is rest =
    past (curve h) n
    (subst (λ z. Applies Sum (curve_of at z) (curve_of at o) (Ok h)) a (subst (λ z. Applies Sum (curve_of at x) (curve_of at z) (Ok h)) b is))
    refl rest

pub first_stops : (at : CellTable) (ps : List Partial) (x y : Partial) (fault : OpFault) → 2 ≤ length ps
    → x ≡ get_or ps 0 x → y ≡ get_or ps 1 y → Applies Sum (curve_of at x) (curve_of at y) (Err fault)
    → SumsRefused (map (curve_of at) ps) fault 1
first_stops at [] x y fault many a b is = absurd (omega (arith, many))
first_stops at (p ∷ []) x y fault many a b is = absurd (omega (arith, many))
first_stops at (p ∷ o ∷ ps) x y fault many a b is =
    on_the_way (
      refl,
      subst (λ z. Applies Sum (curve_of at z) (curve_of at o) (Err fault)) a
          (subst (λ z. Applies Sum (curve_of at x) (curve_of at z) (Err fault)) b is),
    )

pub next_sum_refused : (at : CellTable) (ps : List Partial) (k : ℕ) (p : Partial) (f h : SpecCurve) (fault : OpFault) (n : ℕ) → k < length ps
    → p ≡ get_or ps k p → Applies Sum f (curve_of at p) (Ok h)
    → SumsOntoRefused h (map (curve_of at) (drop (k + 1) ps)) fault n → SumsOntoRefused f (map (curve_of at) (drop k ps)) fault (1 + n)
next_sum_refused at ps k p f h fault n l is a rest =
    subst (λ (gs : List SpecCurve). SumsOntoRefused f gs fault (1 + n)) (sym (parts_from at ps k p l is)) (past (curve h) n a refl rest)

pub next_stops : (at : CellTable) (ps : List Partial) (k : ℕ) (p : Partial) (f : SpecCurve) (fault : OpFault) → k < length ps
    → p ≡ get_or ps k p → Applies Sum f (curve_of at p) (Err fault) → SumsOntoRefused f (map (curve_of at) (drop k ps)) fault 1
next_stops at ps k p f fault l is a =
    subst (λ (gs : List SpecCurve). SumsOntoRefused f gs fault 1) (sym (parts_from at ps k p l is)) (on_the_way (refl, a))

-- no more
pub last_sum : (at : CellTable) (ps : List Partial) (k : ℕ) (f : SpecCurve) → length ps ≤ k → k ≤ length ps
    → SumsOnto f (map (curve_of at) (drop k ps)) (Ok (curve f))
last_sum at ps k f lo hi =
    let e : length ps ≡ k = omega arith in
    subst (λ n. SumsOnto f (map (curve_of at) (drop n ps)) (Ok (curve f))) e
    (subst (λ (qs : List Partial). SumsOnto f (map (curve_of at) qs) (Ok (curve f))) (sym (drop-length ps)) refl)

-- ---- each part has a curve
pub held_at : (at : CellTable) (ps : List Partial) (k : ℕ) (p : Partial) → All (IsHeld at) ps → k < length ps → p ≡ get_or ps k p
    → IsHeld at p
held_at at ps k p all h is = subst (IsHeld at) (sym is) (All-get_or (IsHeld at) ps k p h all)
