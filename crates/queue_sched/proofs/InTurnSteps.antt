-- Deficit round robin: each step keeps what holds of a server in turn.
use Rattle.std.specs.Prelude.{Option, Some, None, ◌≡◌, ◌≤◌, ◌<◌, ◌+◌, ◌-◌, ◌^◌, ℕ, nat_le, List, [], ◌∷◌, ◌++◌, get_or, set, length}
use Rattle.std.proofs.Common.{arith, ◌∙◌, refl, inl, inr, subst}
use Rattle.std.proofs.lemmas.Bool.{cases_lt, le-leb, lt-leb}
use Rattle.std.proofs.lemmas.List.{get_or-set_same}
use Rattle.std.proofs.Math.ListN.{length-set}
use Rattle.run_laws.specs.Cards.{Card}
use Rattle.run_laws.specs.Servers.{Round, Under, head_of}
use Rattle.run_laws.specs.Next.{left_round, arrived_round, worked_round, visited_round}
use Rattle.run_laws.specs.Allows.{visited_head}
use Rattle.run_laws.proofs.Heads.{same_some, head_push}
use Rattle.run_laws.proofs.Rounds.{HasLeft, round_arrives, round_works, round_left, round_visits}
use Rattle.queue_sched.specs.InTurn.{longest, quantum_of, IsInTurn}

pub turn_arrives : (quanta : List ℕ) (cards : List Card) (under : Option Under) (r : Round) (c : Card) (x : Option Card)
    → head_of c.queue cards ≡ x → IsInTurn quanta cards under r → IsInTurn quanta (cards ++ c ∷ []) under (arrived_round x c.queue r)
turn_arrives quanta cards under r c None e h = record {
  round = round_arrives (quantum_of quanta) longest cards under r c None e h.round;
  ready = λ q v n. let k = h.ready q v n in (k.0, head_push q k.0 c cards k.1, k.2);
  long = h.long;
}
turn_arrives quanta cards under r c (Some d) e h = record {
  round = round_arrives (quantum_of quanta) longest cards under r c (Some d) e h.round;
  ready = λ q v n. let k = h.ready q v n in (k.0, head_push q k.0 c cards k.1, k.2);
  long = h.long;
}

-- the first work of a packet that fits
pub turn_starts : (quanta : List ℕ) (cards : List Card) (r : Round) (c : Card) (u : Under) → u.card ≡ c → visited_head r.visited r.deficits cards ≡ Some c
    → IsInTurn quanta cards None r → IsInTurn quanta cards (Some u) (worked_round None c r)
turn_starts quanta cards r c u f n h = record {
  round = round_works (quantum_of quanta) longest quanta cards None (Some u) r c u refl f n h.round;
  ready = λ q v none. absurd (cc);
  long = length-set r.deficits c.queue (get_or r.deficits c.queue 0 - c.bits) ∙ h.long;
}

-- a packet leaves
pub turn_left : (quanta : List ℕ) (cards : List Card) (r : Round) (q : ℕ) (x : Option Card) → head_of q cards ≡ x
    → ((c : Card) → head_of q cards ≡ Some c → c.bits ≤ 2 ^ 32) → length r.deficits ≡ length quanta → HasLeft (quantum_of quanta) longest cards r q
    → IsInTurn quanta cards None (left_round x q r)
turn_left quanta cards r q None e small long h = record {
  round = round_left (quantum_of quanta) longest cards r q None e small h;
  ready = λ p v n. absurd (cc);
  long = length-set r.deficits q 0 ∙ long;
}
turn_left quanta cards r q (Some c) e small long h = elim (cases_lt (get_or r.deficits q 0) c.bits) [
  | inl l ↦
      let f : nat_le c.bits (get_or r.deficits q 0) ≡ Rattle.std.proofs.Common.false = lt-leb c.bits (get_or r.deficits q 0) l in
      record {
        round = round_left (quantum_of quanta) longest cards r q (Some c) e small h;
        ready = rw f (λ p v n. absurd (cc));
        long = rw f long;
      }
  | inr l ↦
      let f : nat_le c.bits (get_or r.deficits q 0) ≡ Rattle.std.proofs.Common.true = le-leb c.bits (get_or r.deficits q 0) l in
      record {
        round = round_left (quantum_of quanta) longest cards r q (Some c) e small h;
        ready = rw f (λ p v n. let g : q ≡ p = same_some q p v in subst (λ i. (d : Card) × (head_of i cards ≡ Some d) × (d.bits ≤ get_or r.deficits i 0)) g (c, e, l));
        long = rw f long;
      }
]

-- a visit
pub turn_visits : (quanta : List ℕ) (cards : List Card) (r : Round) (q : ℕ) (x : Option Card) → head_of q cards ≡ x
    → ((c : Card) → head_of q cards ≡ Some c → c.bits ≤ 2 ^ 32) → q < length quanta → r.visited ≡ None → Rattle.run_laws.specs.Allows.IsFirst q r.active
    → IsInTurn quanta cards None r → IsInTurn quanta cards None (visited_round (quantum_of quanta q) x q r)
turn_visits quanta cards r q None e small known v f h =
    let k = round_visits (quantum_of quanta) longest cards r q None e small v f h.round in
    record {
      round = k;
      ready = λ p w n. absurd (cc);
      long = length-set r.deficits q (get_or r.deficits q 0 + quantum_of quanta q) ∙ h.long;
    }
turn_visits quanta cards r q (Some c) e small known v f h =
    let d = get_or r.deficits q 0 + quantum_of quanta q in
    let is : get_or (set r.deficits q d) q 0 ≡ d = get_or-set_same r.deficits q d 0 (omega (arith, known, h.long)) in
    let long : length (set r.deficits q d) ≡ length quanta = length-set r.deficits q d ∙ h.long in
    elim (cases_lt d c.bits) [
      | inl l ↦
          let t : nat_le c.bits d ≡ Rattle.std.proofs.Common.false = lt-leb c.bits d l in
          record {
            round = round_visits (quantum_of quanta) longest cards r q (Some c) e small v f h.round;
            ready = rw t (λ p w n. absurd (cc));
            long = rw t long;
          }
      | inr l ↦
          let t : nat_le c.bits d ≡ Rattle.std.proofs.Common.true = le-leb c.bits d l in
          record {
            round = round_visits (quantum_of quanta) longest cards r q (Some c) e small v f h.round;
            ready = rw t (λ p w n. let g : q ≡ p = same_some q p w in
                subst (λ i. (b : Card) × (head_of i cards ≡ Some b) × (b.bits ≤ get_or (set r.deficits q d) i 0)) g (c, e, omega (arith, is, l)));
            long = rw t long;
          }
    ]
