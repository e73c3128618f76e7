-- The first packet from which too many bits enter up to one: one packet more at a time, backwards.
use Rattle.std.specs.Prelude.{◌≡◌, ℕ, zero, suc, ◌+◌, ◌<◌, ◌≤◌, pos, List, [], ◌∷◌, length, get_or, Option, Some, None}
use Rattle.std.specs.List.{slice_index_or}
use Rattle.std.proofs.Common.{arith, inl, inr, refl, sym, subst, ap, ap₂, ◌∙◌}
use Rattle.std.proofs.lemmas.Bool.{cases_lt}
use Rattle.rational.specs.Rational.{ℚ, int, ◌-ℚ◌}
use Rattle.rational.specs.Extended.{Ext, ◌<ₑ◌}
use Rattle.rational.specs.declared.Extended.TheVariants.{Fin}
use Rattle.upp_curve.specs.Curve.{SpecCurve}
use Rattle.upp_normal.specs.Unrolling.{IsOperandTo}
use Rattle.run_laws.specs.Cards.{whole}
use Rattle.flow_watch.specs.declared.watch_laws.entering.Entering.{Entering}
use Rattle.flow_watch.specs.watch_laws.Entries.{entering, bits_between, IsCrowded}
use Rattle.flow_watch.specs.Flows.{WindowReads, FlowReads, NoneCrowdedFrom, FindsFirst}
use Rattle.flow_watch.proofs.EntryLists.{bits_one_more}

pub get_same : (es : List Entering) (k : ℕ) (d e : Entering) → k < length es → get_or es k d ≡ get_or es k e
get_same [] k d e h = absurd (omega arith)
get_same (x ∷ es) zero d e h = refl
get_same (x ∷ es) (suc k) d e h = get_same es k d e (omega arith)

pub read_is : (es : List Entering) (k : ℕ) (d : Entering) → k < length es → d ≡ slice_index_or es k d → d ≡ entering es k
read_is es k d h e = e ∙ get_same es k d record { time = int (pos 0); bits = 0 } h

pub reads_at : (c : SpecCurve) (es : List Entering) (i j : ℕ) (x d : Entering) → FlowReads c es → i ≤ j → j < length es → d ≡ slice_index_or es i d
    → WindowReads c d.time (get_or es j x).time
reads_at c es i j x d h l m e =
    let a = read_is es i d (omega arith) e in
    let b = get_same es j x record { time = int (pos 0); bits = 0 } m in
    subst (λ (p : Entering). WindowReads c d.time p.time) (sym b) (subst (λ (p : Entering). WindowReads c p.time (entering es j).time) (sym a) (h i j l m))

pub window_reads : (c : SpecCurve) (s t r : ℚ) → WindowReads c s t → r ≡ t -ℚ s → IsOperandTo r c
window_reads c s t r h e = subst (λ x. IsOperandTo x c) (sym e) h.operand

pub bits_grow : (first last up bits : ℕ) (es : List Entering) (d : Entering) → up ≡ suc first → first ≤ last → last < length es → d ≡ slice_index_or es first d
    → bits ≡ bits_between up last es → bits + d.bits ≡ bits_between first last es
bits_grow first last up bits es d e l m is h =
    let a = bits_one_more first last es l m in
    let b : d.bits ≡ (entering es first).bits = ap (λ (p : Entering). p.bits) (read_is es first d (omega arith) is) in
    let k : bits ≡ bits_between (suc first) last es = h ∙ ap (λ (n : ℕ). bits_between n last es) e in
    omega (arith, a, b, k)

pub crowded_here : (α : ℚ → Ext) (es : List Entering) (first last bits : ℕ) (x d : Entering) (r : ℚ) → first ≤ last → last < length es → d ≡ slice_index_or es first d
    → r ≡ (get_or es last x).time -ℚ d.time → bits ≡ bits_between first last es
    → (α r <ₑ Fin (whole bits) → IsCrowded α es first last) × (IsCrowded α es first last → α r <ₑ Fin (whole bits))
crowded_here α es first last bits x d r l m is e b =
    let at_first = read_is es first d (omega arith) is in
    let at_last = get_same es last x record { time = int (pos 0); bits = 0 } m in
    let time : r ≡ (entering es last).time -ℚ (entering es first).time = e ∙ ap₂ (λ (p q : Entering). p.time -ℚ q.time) at_last at_first in (
      λ h. record {
        in_order = l;
        entered = m;
        more = subst (λ y. α y <ₑ Fin (whole (bits_between first last es))) time (subst (λ (n : ℕ). α r <ₑ Fin (whole n)) b h);
      },
      λ h. subst (λ (n : ℕ). α r <ₑ Fin (whole n)) (sym b) (subst (λ y. α y <ₑ Fin (whole (bits_between first last es))) (sym time) h.more),
    )

pub none_past : (α : ℚ → Ext) (es : List Entering) (up last : ℕ) → last < up → NoneCrowdedFrom α es up last
none_past α es up last h i l is = let k = is.in_order in absurd (omega arith)

pub found_here : (α : ℚ → Ext) (es : List Entering) (first last : ℕ) → IsCrowded α es first last → FindsFirst α es first last (Some first)
found_here α es first last h = record { later = omega arith; crowded = h; least = λ i a b. absurd (omega arith) }

pub found_still : (α : ℚ → Ext) (es : List Entering) (first last : ℕ) (o : Option ℕ) → FindsFirst α es (suc first) last o → ¬ IsCrowded α es first last → FindsFirst α es first last o
found_still α es first last None h n = λ i l. elim (cases_lt first i) [
  | inl m ↦ h i (omega arith)
  | inr m ↦ let same : first ≡ i = omega arith in subst (λ (k : ℕ). ¬ IsCrowded α es k last) same n
]
found_still α es first last (Some k) h n = record {
  later = let l = h.later in omega arith;
  crowded = h.crowded;
  least = λ i l m. elim (cases_lt first i) [
    | inl g ↦ h.least i (omega arith) m
    | inr g ↦ let same : first ≡ i = omega arith in subst (λ (j : ℕ). ¬ IsCrowded α es j last) same n
  ];
}
