-- What is seen of some first packets of a flow, of the flow.
use Rattle.std.specs.Prelude.{◌≡◌, ℕ, zero, suc, ◌+◌, ◌<◌, ◌≤◌, List, [], ◌∷◌, length, take}
use Rattle.std.proofs.Common.{arith, refl, sym, subst, ap}
use Rattle.rational.specs.Rational.{ℚ, ◌-ℚ◌}
use Rattle.rational.specs.Extended.{Ext, ◌<ₑ◌}
use Rattle.rational.specs.declared.Extended.TheVariants.{Fin}
use Rattle.upp_curve.specs.Curve.{SpecCurve}
use Rattle.run_laws.specs.Cards.{whole}
use Rattle.flow_watch.specs.declared.watch_laws.entering.Entering.{Entering}
use Rattle.flow_watch.specs.watch_laws.Entries.{entering, bits_to, bits_between}
use Rattle.flow_watch.specs.Flows.{WindowReads, FlowReads, NoneCrowded}

few_in : (most : ℕ) (es : List Entering) (k : ℕ) → k < length (take most es) → (k < most) × (k < length es)
few_in zero es k l = absurd (omega arith)
few_in (suc most) [] k l = absurd (omega arith)
few_in (suc most) (e ∷ es) zero l = (omega arith, omega arith)
few_in (suc most) (e ∷ es) (suc k) l = let r = few_in most es k (omega arith) in let a = r.0 in let b = r.1 in (omega (arith, a), omega (arith, b))

in_few : (most : ℕ) (es : List Entering) (k : ℕ) → k < most → k < length es → k < length (take most es)
in_few zero es k l m = absurd (omega arith)
in_few (suc most) [] k l m = absurd (omega arith)
in_few (suc most) (e ∷ es) zero l m = omega arith
in_few (suc most) (e ∷ es) (suc k) l m = let r = in_few most es k (omega arith) (omega arith) in omega (arith, r)

entering_in : (most : ℕ) (es : List Entering) (k : ℕ) → k < most → entering (take most es) k ≡ entering es k
entering_in zero es k l = absurd (omega arith)
entering_in (suc most) [] k l = refl
entering_in (suc most) (e ∷ es) zero l = refl
entering_in (suc most) (e ∷ es) (suc k) l = entering_in most es k (omega arith)

to_in : (most : ℕ) (es : List Entering) (last : ℕ) → last < most → bits_to last (take most es) ≡ bits_to last es
to_in zero es last l = absurd (omega arith)
to_in (suc most) [] last l = refl
to_in (suc most) (e ∷ es) zero l = refl
to_in (suc most) (e ∷ es) (suc last) l = ap (λ (n : ℕ). e.bits + n) (to_in most es last (omega arith))

between_in : (most : ℕ) (es : List Entering) (first last : ℕ) → last < most → bits_between first last (take most es) ≡ bits_between first last es
between_in zero es first last l = absurd (omega arith)
between_in (suc most) [] first last l = refl
between_in (suc most) (e ∷ es) zero last l = to_in (suc most) (e ∷ es) last l
between_in (suc most) (e ∷ es) (suc first) zero l = refl
between_in (suc most) (e ∷ es) (suc first) (suc last) l = between_in most es first last (omega arith)

pub reads_in : (c : SpecCurve) (es : List Entering) (most : ℕ) → FlowReads c es → FlowReads c (take most es)
reads_in c es most R i j h l =
    let near = few_in most es j l in
    let low : i < most = (let a = near.0 in omega (arith, a)) in
    subst (λ (e : Entering). WindowReads c e.time (entering (take most es) j).time) (sym (entering_in most es i low)) (subst (λ (e : Entering). WindowReads c (entering es i).time e.time) (sym (entering_in most es j near.0)) (R i j h near.1))

pub none_in : (α : ℚ → Ext) (es : List Entering) (most seen : ℕ) → seen ≤ most → NoneCrowded α (take most es) seen → NoneCrowded α es seen
none_in α es most seen few K i j l crowded =
    let high : j < most = omega arith in
    let order = crowded.in_order in
    let low : i < most = omega arith in
    let a = entering_in most es i low in
    let b = entering_in most es j high in
    let bits = between_in most es i j high in
    let s = (entering es i).time in
    let more = crowded.more in
    K i j l record {
      in_order = order;
      entered = in_few most es j high crowded.entered;
      more = subst (λ (n : ℕ). α ((entering (take most es) j).time -ℚ (entering (take most es) i).time) <ₑ Fin (whole n)) (sym bits)
          (subst (λ (e : Entering). α (e.time -ℚ (entering (take most es) i).time) <ₑ Fin (whole (bits_between i j es))) (sym b)
          (subst (λ (e : Entering). α ((entering es j).time -ℚ e.time) <ₑ Fin (whole (bits_between i j es))) (sym a) more));
    }
