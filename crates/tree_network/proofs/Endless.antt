-- A port is not done where no turn is left exactly where walks of any number of links end there.
use Rattle.std.proofs.Common.{◌≡◌, ℕ, zero, suc, ◌<◌, ◌≤◌, List, length, get_or, Bool, true, false, refl, sym, ◌∙◌, subst, arith}
use Rattle.std.proofs.lemmas.List.{get_or_default}
use Rattle.tree_network.specs.declared.spots.Spot.{Spot}
use Rattle.tree_network.specs.Spots.{spot_at}
use Rattle.tree_network.specs.Rings.{IsBehind, IsEndless}
use Rattle.tree_network.specs.Turns.{IsFree, AreStuck}
use Rattle.tree_network.proofs.Turned.{Turned}

-- from one that is not done back to one that is not done either, again and again
pub free_endless : (spots : List Spot) (done : List Bool) → AreStuck spots done → (s : ℕ) → IsFree done s → IsEndless spots s
free_endless spots done stuck s free links = back links s free
  where
    back : (links s : ℕ) → IsFree done s → (a : ℕ) × IsBehind spots links a s
    back zero s free = (s, refl)
    back (suc links) s free =
        let st = stuck s free in
        let more = back links st.before st.free in
        (more.0, (st.before, st.goes, more.1))

-- to the port of a turn lead walks of no more links than there were turns before it
few_behind : (spots : List Spot) (ports : ℕ) (done : List Bool) (waiting ready : List ℕ) (turn : ℕ) → Turned spots ports done waiting ready turn
    → (links j a : ℕ) → j < turn → IsBehind spots links a (get_or ready j 0) → links ≤ j
few_behind spots ports done waiting ready turn t zero j a h b = omega arith
few_behind spots ports done waiting ready turn t (suc links) j a h b =
    let P : ℕ → Type 0 = λ m. IsBehind spots links a m in
    let before = t.forward j b.0 h b.1 in
    let less = few_behind spots ports done waiting ready turn t links before.0 a (omega (arith, before.1, h)) (subst P (sym before.2) b.2) in
    omega (arith, less, before.1)

pub endless_free : (spots : List Spot) (ports : ℕ) (done : List Bool) (waiting ready : List ℕ) (turn : ℕ) → Turned spots ports done waiting ready turn
    → ((n : ℕ) → n < length spots → (spot_at spots n).port < ports) → (s : ℕ) → IsEndless spots s → IsFree done s
endless_free spots ports done waiting ready turn t small s endless = by_mark (get_or done s false) refl
  where
    below : s < ports
    below =
        let g = (endless (suc zero)).1.1 in
        let lt = small g.spot g.inside in
        omega (arith, lt, g.to)

    by_mark : (b : Bool) → get_or done s false ≡ b → IsFree done s
    by_mark false e = get_or_default done s true false (omega (arith, below, t.marks)) ∙ e
    by_mark true e =
        let m = t.marked s e in
        let w = endless turn in
        let P : ℕ → Type 0 = λ k. IsBehind spots turn w.0 k in
        let few = few_behind spots ports done waiting ready turn t turn m.0 w.0 m.1 (subst P (sym m.2) w.1) in
        absurd (omega (arith, few, m.1))
