-- Two formulas of a kind are one exactly where what they read of their networks is.
use Rattle.std.proofs.Common.{◌≡◌, ◌≢◌, ℕ, zero, suc, ◌<◌, ◌-◌, List, length, get_or, map, refl, sym, ap, ap₂, ◌∙◌, subst, arith, Bool}
use Rattle.std.specs.Prelude.{pos}
use Rattle.std.specs.List.{range_with_len}
use Rattle.std.proofs.lemmas.List.{length-map, get_or-map, same_lists}
use Rattle.rational.specs.Rational.{ℚ}
use Rattle.rational.proofs.Integers.{int_same}
use Rattle.min_plus.specs.Functions.{zero_q}
use Rattle.run_laws.specs.Cards.{whole}
use Rattle.upp_limits.specs.declared.op_kind.OpKind.TheVariants.{Convolve, Deconvolve}
use Rattle.net_model.specs.Networks.{Net}
use Rattle.net_cells.specs.declared.cell.Cell.{Cell}
use Rattle.net_cells.specs.declared.cell.Kind.{Kind}
use Rattle.net_cells.specs.declared.cell.Kind.TheVariants.{In, Cross, Total, QueueService, Theta, Residual, QueueDelay, QueueBacklog, HopDelay, DeconvOut, PathService, Tfa, Sfa}
use Rattle.net_cells.specs.Numbered.{path, packet, hops, server_of_hop, link}
use Rattle.net_cells.specs.Visits.{longest}
use Rattle.net_cells.specs.Cells.{cell_of}
use Rattle.net_cells.specs.Formulas.{Formula, leaves, made, leftover, horizontal, vertical, smaller, along, delayed}
use Rattle.net_cells.specs.CellFormulas.{formula, formula_of, value, less, packets_to, served_to, link_delays, hop_delay_cells}
use Rattle.cell_rules.specs.Rules.{TellsSame, TellsFormula, hop_queue}
use Rattle.cell_rules.proofs.Tells.{tells_by}

-- ---- the kind of a cell
pub at_kind : (old new : Net) (c : Cell) (k : Kind) (b : Bool) → c.kind ≡ k → TellsFormula old new k c.a c.b b
    → TellsSame (formula old c) (formula new c) b
at_kind old new c k b e t = subst (λ (m : Kind). TellsFormula old new m c.a c.b b) (sym e) t

-- ---- places
any_cell : Cell
any_cell = cell_of In 0 0

-- the two numbers of a formula's cell
place_in : ℕ → Formula → ℕ × ℕ
place_in n F = ((get_or (leaves F) n any_cell).a, (get_or (leaves F) n any_cell).b)

pub theta_tells : (old new : Net) (i k : ℕ) (b : Bool) → TellsSame (hop_queue old i k) (hop_queue new i k) b
    → TellsFormula old new Theta i k b
unfolding place_in
theta_tells old new i k b t =
    tells_by (hop_queue old i k) (hop_queue new i k) (formula_of old Theta i k) (formula_of new Theta i k) b
    (ap (λ (p : ℕ × ℕ). horizontal (value Cross i k) (value QueueService p.0 p.1))) (ap (place_in 1)) t

pub residual_tells : (old new : Net) (i k : ℕ) (b : Bool) → TellsSame (hop_queue old i k) (hop_queue new i k) b
    → TellsFormula old new Residual i k b
unfolding place_in
residual_tells old new i k b t =
    tells_by (hop_queue old i k) (hop_queue new i k) (formula_of old Residual i k) (formula_of new Residual i k) b
    (ap (λ (p : ℕ × ℕ). leftover (value QueueService p.0 p.1) (value Cross i k) (value Theta i k))) (ap (place_in 0)) t

pub hop_delay_tells : (old new : Net) (i k : ℕ) (b : Bool) → TellsSame (hop_queue old i k) (hop_queue new i k) b
    → TellsFormula old new HopDelay i k b
unfolding place_in
hop_delay_tells old new i k b t =
    tells_by (hop_queue old i k) (hop_queue new i k) (formula_of old HopDelay i k) (formula_of new HopDelay i k) b
    (ap (λ (p : ℕ × ℕ). smaller (value QueueDelay p.0 p.1) (horizontal (value In i k) (value Residual i k))))
    (ap (place_in 0)) t

-- ---- packets
less_same : (F G : Formula) (m n : ℕ) → less F m ≡ less G n → m ≡ n
less_same F G m n e =
    let w : whole m ≡ whole n = cc in
    let z : pos m ≡ pos n = int_same (pos m) (pos n) w in
    cc

pub backlog_tells : (old new : Net) (s q : ℕ) (b : Bool) → TellsSame (longest old s q) (longest new s q) b
    → TellsFormula old new QueueBacklog s q b
backlog_tells old new s q b t =
    tells_by (longest old s q) (longest new s q) (formula_of old QueueBacklog s q) (formula_of new QueueBacklog s q) b
    (ap (λ (bits : ℕ). vertical (value Total s q) (less (value QueueService s q) bits)))
    (λ e. less_same (value QueueService s q) (value QueueService s q) (longest old s q) (longest new s q)
    (second (value Total s q) (value Total s q) _ _ e)) t
  where
    second : (F G H K : Formula) → vertical F H ≡ vertical G K → H ≡ K
    second F G H K e = cc

pub deconv_tells : (old new : Net) (i k : ℕ) (b : Bool) → TellsSame (packet old i) (packet new i) b
    → TellsFormula old new DeconvOut i k b
deconv_tells old new i k b t =
    tells_by (packet old i) (packet new i) (formula_of old DeconvOut i k) (formula_of new DeconvOut i k) b
    (ap (λ (bits : ℕ). made Deconvolve (value In i k) (less (value Residual i k) bits)))
    (λ e. less_same (value Residual i k) (value Residual i k) (packet old i) (packet new i)
    (second (value In i k) (value In i k) _ _ e)) t
  where
    second : (F G H K : Formula) → made Deconvolve F H ≡ made Deconvolve G K → H ≡ K
    second F G H K e = cc

-- ---- curves
pub later_same : (old new : Net) (i k : ℕ) → k ≢ 0 → formula_of old In i k ≡ formula_of new In i k
later_same old new i zero n = absurd (n refl)
later_same old new i (suc k) n = refl

-- ---- services along a path
packets_same : (old new : Net) (i k : ℕ) → packet old i ≡ packet new i → packets_to old i k ≡ packets_to new i k
packets_same old new i zero e = ap (less (value Residual i 0)) e
packets_same old new i (suc k) e =
    ap₂ (made Convolve) (packets_same old new i k e) (ap (less (value Residual i (suc k))) e)

packets_out : (old new : Net) (i k : ℕ) → packets_to old i k ≡ packets_to new i k → packet old i ≡ packet new i
packets_out old new i zero e =
    less_same (value Residual i 0) (value Residual i 0) (packet old i) (packet new i) e
packets_out old new i (suc k) e =
    packets_out old new i k (first (packets_to old i k) (packets_to new i k) _ _ e)
  where
    first : (F G H K : Formula) → made Convolve F H ≡ made Convolve G K → F ≡ G
    first F G H K d = cc

pub served_same : (old new : Net) (i k : ℕ) → packet old i ≡ packet new i → served_to old i k ≡ served_to new i k
served_same old new i zero e = refl
served_same old new i (suc k) e = ap (λ F. made Convolve F (value Residual i (suc k))) (packets_same old new i k e)

served_out : (old new : Net) (i k : ℕ) → k ≢ 0 → served_to old i k ≡ served_to new i k → packet old i ≡ packet new i
served_out old new i zero n e = absurd (n refl)
served_out old new i (suc k) n e = packets_out old new i k (first (packets_to old i k) (packets_to new i k) _ _ e)
  where
    first : (F G H K : Formula) → made Convolve F H ≡ made Convolve G K → F ≡ G
    first F G H K d = cc

pub one_hop : (old new : Net) (i : ℕ) → hops old i - 1 ≡ 0 → hops new i - 1 ≡ 0
    → formula_of old PathService i 0 ≡ formula_of new PathService i 0
one_hop old new i here there = ap (served_to old i) here ∙ sym (ap (served_to new i) there)

pub path_tells : (old new : Net) (i k : ℕ) (b : Bool) → hops old i - 1 ≡ k → hops new i - 1 ≡ k → k ≢ 0
    → TellsSame (packet old i) (packet new i) b → TellsFormula old new PathService i 0 b
path_tells old new i k b here there some t =
    tells_by (packet old i) (packet new i) (formula_of old PathService i 0) (formula_of new PathService i 0) b
    (λ e. ap (served_to old i) here ∙ served_same old new i k e ∙ sym (ap (served_to new i) there))
    (λ e. served_out old new i k some (sym (ap (served_to old i) here) ∙ e ∙ ap (served_to new i) there)) t

-- ---- links
links_count : (net : Net) (i : ℕ) → length (link_delays net i) ≡ hops net i
links_count net i = length-map (path net i) (link net)

link_at : (net : Net) (i k : ℕ) (d : ℚ) → k < hops net i → get_or (link_delays net i) k d ≡ link net (server_of_hop net i k)
link_at net i k d h = get_or-map (link net) (path net i) k 0 d h

pub same_links : (old new : Net) (i : ℕ) → hops old i ≡ hops new i
    → ((k : ℕ) → k < hops old i → link old (server_of_hop old i k) ≡ link new (server_of_hop new i k))
    → link_delays old i ≡ link_delays new i
same_links old new i many each =
    let here = links_count old i in
    let there = links_count new i in
    same_lists (link_delays old i) (link_delays new i) (omega (arith, here, there, many))
    (λ k d h.
    let low : k < hops old i = omega (arith, h, here) in
    let high : k < hops new i = omega (arith, h, here, many) in
    link_at old i k d low ∙ each k low ∙ sym (link_at new i k d high))

pub other_link : (old new : Net) (i k : ℕ) → k < hops old i → hops old i ≡ hops new i
    → link old (server_of_hop old i k) ≢ link new (server_of_hop new i k) → link_delays old i ≢ link_delays new i
other_link old new i k h many n e =
    let high : k < hops new i = omega (arith, h, many) in
    n (sym (link_at old i k zero_q h) ∙ ap (λ (ls : List ℚ). get_or ls k zero_q) e ∙ link_at new i k zero_q high)

same_hops : (old new : Net) (i : ℕ) → link_delays old i ≡ link_delays new i → hops old i ≡ hops new i
same_hops old new i e =
    let here = links_count old i in
    let there = links_count new i in
    omega (arith, here, there, ap length e)

pub tfa_tells : (old new : Net) (i : ℕ) (b : Bool) → TellsSame (link_delays old i) (link_delays new i) b
    → TellsFormula old new Tfa i 0 b
tfa_tells old new i b t =
    tells_by (link_delays old i) (link_delays new i) (formula_of old Tfa i 0) (formula_of new Tfa i 0) b
    (λ e. ap₂ along (ap (λ n. map (cell_of HopDelay i) (range_with_len 0 n)) (same_hops old new i e)) e)
    (λ e. second (hop_delay_cells old i) (hop_delay_cells new i) _ _ e) t
  where
    second : (cs ds : List Cell) (xs ys : List ℚ) → along cs xs ≡ along ds ys → xs ≡ ys
    second cs ds xs ys e = cc

pub sfa_tells : (old new : Net) (i : ℕ) (b : Bool) → TellsSame (link_delays old i) (link_delays new i) b
    → TellsFormula old new Sfa i 0 b
sfa_tells old new i b t =
    tells_by (link_delays old i) (link_delays new i) (formula_of old Sfa i 0) (formula_of new Sfa i 0) b
    (ap (delayed (horizontal (value In i 0) (value PathService i 0))))
    (λ e. second _ _ (link_delays old i) (link_delays new i) e) t
  where
    second : (F G : Formula) (xs ys : List ℚ) → delayed F xs ≡ delayed G ys → xs ≡ ys
    second F G xs ys e = cc
