-- What is found in a run is determined.
use Rattle.std.proofs.Common.{◌≡◌, ℕ, zero, suc, ◌≤◌, ◌<◌, List, [], ◌∷◌, length, get_or, Option, Some}
use Rattle.std.proofs.Common.{None, inl, inr, refl, sym, ap, subst, ◌∙◌, arith}
use Rattle.std.specs.Prelude.{pos}
use Rattle.std.proofs.lemmas.List.{ext_get_or}
use Rattle.rational.specs.Rational.{ℚ, int, ◌≤ℚ◌}
use Rattle.rational.specs.declared.Extended.TheVariants.{Fin}
use Rattle.rational.proofs.Integers.{nat_le_out}
use Rattle.rational.proofs.Laws.{antisym}
use Rattle.run_laws.specs.Cards.{whole}
use Rattle.run_laws.specs.Delays.{AreAtMost}
use Rattle.run_laws.specs.Lawful.{IsLawful}
use Rattle.run_laws.specs.Routes.{Routes, server_at}
use Rattle.run_laws.specs.Runs.{SpecRun}
use Rattle.run_laws.specs.Servers.{queue_count}
use Rattle.run_laws.specs.FlowDelays.{delays_from}
use Rattle.run_laws.specs.RunPremises.{KeepsPremises}
use Rattle.net_model.specs.Accepted.{IsAccepted}
use Rattle.net_model.specs.declared.breach.Breach.{Breach}
use Rattle.net_model.specs.Networks.{Net}
use Rattle.net_model.specs.NetRoutes.{routes_of}
use Rattle.net_cells.specs.Numbered.{packet, arrival, service}
use Rattle.upp_curve.specs.Curve.{value_at}
use Rattle.simulator.specs.run_measures.Peaks.{IsPeak, ArePeaks, peak_in}
use Rattle.simulator.specs.run_measures.Worst.{IsLargest, AreWorst}
use Rattle.flow_watch.specs.watch_laws.Breaches.{IsBreach}
use Rattle.flow_watch.proofs.watch_laws.Premises.{breaches_tell, first_is_one}
use Rattle.run_watch.specs.first_breaches.Firsts.{TellsFirst}
use Rattle.run_watch.proofs.first_breaches.Parts.{have_curves}
use Rattle.run_watch.specs.simulated_sizes.Laws.{AreCurves}
use Rattle.command_replies.specs.run_findings.FindingLaws.{FindingsAreOne}

-- ---- worst delays
pub most_at : (w d : ℚ) (xs : List ℚ) (k : ℕ) → AreAtMost (Fin w) xs → k < length xs → get_or xs k d ≤ℚ w
most_at w d [] k h l = absurd (omega arith)
most_at w d (x ∷ xs) zero h l = h.0
most_at w d (x ∷ xs) (suc k) h l = most_at w d xs k h.1 (omega arith)

largest_within : (xs : List ℚ) (v w : ℚ) → IsLargest xs v → IsLargest xs w → v ≤ℚ w
largest_within xs v w h k = elim h.reached [
  | inl none ↦ subst (λ x. x ≤ℚ w) (sym none) k.from_zero
  | inr there ↦ subst (λ x. x ≤ℚ w) there.2 (most_at w v xs there.0 k.above there.1)
]

same_largest : (xs : List ℚ) (v w : ℚ) → IsLargest xs v → IsLargest xs w → v ≡ w
same_largest xs v w h k = antisym (largest_within xs v w h k, largest_within xs w v k h)

same_worst : (net : Net) (run : SpecRun) (vs ws : List ℚ)
    → AreWorst (routes_of net) run.end run.steps (length net.flows) vs
    → AreWorst (routes_of net) run.end run.steps (length net.flows) ws → vs ≡ ws
same_worst net run vs ws h k =
    ext_get_or (int (pos 0)) vs ws (h.as_many ∙ sym k.as_many)
    (λ i l.
    let within : i < length net.flows = subst (λ n. i < n) h.as_many l in
    same_largest (delays_from (routes_of net) i run.end run.steps) (get_or vs i (int (pos 0)))
    (get_or ws i (int (pos 0))) (h.each i within) (k.each i within))

-- ---- peaks
peak_within : (net : Routes) (run : SpecRun) (s q m n : ℕ) → IsPeak net run s q m → IsPeak net run s q n → m ≤ n
peak_within net run s q m n h k = elim h.reached [
  | inl none ↦ omega arith
  | inr there ↦ nat_le_out m n
      (subst (λ x. x ≤ℚ whole n) there.there (k.above there.time there.in_run))
]

same_peak : (net : Routes) (run : SpecRun) (s q m n : ℕ) → IsPeak net run s q m → IsPeak net run s q n → m ≡ n
same_peak net run s q m n h k =
    let up = peak_within net run s q m n h k in
    let down = peak_within net run s q n m k h in
    omega arith

same_row : (net : Routes) (run : SpecRun) (ms ns : List (List ℕ)) (s : ℕ) → ArePeaks net run ms → ArePeaks net run ns
    → s < length net.servers → get_or ms s [] ≡ get_or ns s []
same_row net run ms ns s h k l =
    let many = h.row s l in
    ext_get_or 0 (get_or ms s []) (get_or ns s []) (many ∙ sym (k.row s l))
    (λ q r.
    let within : q < queue_count (server_at net s).discipline = subst (λ n. q < n) many r in
    same_peak net run s q (peak_in ms s q) (peak_in ns s q) (h.each s q l within) (k.each s q l within))

same_peaks : (net : Routes) (run : SpecRun) (ms ns : List (List ℕ)) → ArePeaks net run ms → ArePeaks net run ns
    → ms ≡ ns
same_peaks net run ms ns h k =
    ext_get_or [] ms ns (h.as_many ∙ sym k.as_many)
    (λ s l. same_row net run ms ns s h k (subst (λ n. s < n) h.as_many l))

-- ---- breaches
-- a run with a breach does not keep its premises
pub broken : (net : Net) (run : SpecRun) (x : Breach) → IsLawful (routes_of net) run → IsAccepted net → AreCurves net
    → KeepsPremises (routes_of net) (packet net) (λ i. value_at (arrival net i)) (λ s. value_at (service net s)) run
    → ¬ IsBreach (routes_of net) (packet net) (λ i. value_at (arrival net i)) (service net) run x
broken net run x lawful a c keeps =
    (breaches_tell (routes_of net) (packet net) (λ i. value_at (arrival net i)) (service net) run lawful
    (have_curves net a c.services)).0
    keeps x

same_breach : (net : Net) (run : SpecRun) (a b : Option Breach) → IsLawful (routes_of net) run → IsAccepted net
    → AreCurves net → TellsFirst net run a → TellsFirst net run b → a ≡ b
same_breach net run None None lawful a c h k = refl
same_breach net run None (Some y) lawful a c h k = absurd (broken net run y lawful a c h k.is)
same_breach net run (Some x) None lawful a c h k = absurd (broken net run x lawful a c k h.is)
same_breach net run (Some x) (Some y) lawful a c h k =
    ap Some
    (first_is_one (routes_of net) (packet net) (λ i. value_at (arrival net i)) (service net) run x y h k)

-- ---- all that is found
pub same_findings : FindingsAreOne
same_findings net run entered f g lawful a c h k =
    let packets : f.packets ≡ g.packets = h.packets ∙ sym k.packets in
    let end : f.end ≡ g.end = h.ends ∙ sym k.ends in
    let worst : f.worst ≡ g.worst = same_worst net run f.worst g.worst h.worst k.worst in
    let peaks : f.peaks ≡ g.peaks = same_peaks (routes_of net) run f.peaks g.peaks h.peaks k.peaks in
    let breach : f.breach ≡ g.breach = same_breach net run f.breach g.breach lawful a c h.breach k.breach in
    ap (λ n. record { packets = n; end = f.end; worst = f.worst; peaks = f.peaks; breach = f.breach }) packets
    ∙ ap (λ t. record { packets = g.packets; end = t; worst = f.worst; peaks = f.peaks; breach = f.breach }) end
    ∙ ap (λ ws. record { packets = g.packets; end = g.end; worst = ws; peaks = f.peaks; breach = f.breach }) worst
    ∙ ap (λ ps. record { packets = g.packets; end = g.end; worst = g.worst; peaks = ps; breach = f.breach }) peaks
    ∙ ap (λ b. record { packets = g.packets; end = g.end; worst = g.worst; peaks = g.peaks; breach = b }) breach
