-- Quanta that are looked at one after the other, and servers, as loops do.
use Rattle.std.specs.List.{list_any}
use Rattle.std.proofs.Common.{◌≡◌, ℕ, ◌+◌, ◌≤◌, ◌<◌, Bool, true, false, cond, List, ◌∷◌, length, map, get_or, drop, Ok, Err, refl, sym, ap, ◌∙◌}
use Rattle.std.proofs.lemmas.List.{drop_more}
use Rattle.std.proofs.Math.ListN.{drop_of_length-le}
use Rattle.net_model.specs.declared.fault.NetKind.TheVariants.{M12}
use Rattle.net_draft.specs.declared.fault.DraftFault.{DraftFault}
use Rattle.net_draft.specs.declared.fault.DraftFault.TheVariants as answers
use Rattle.net_draft.specs.declared.server_draft.ServerDraft.{ServerDraft}
use Rattle.net_draft.specs.Faults.{Fault, Read, Fails, IsFault, fault_of, nth}
use Rattle.net_draft.specs.Texts.{ServerText, FlowText}
use Rattle.net_draft.specs.Views.{server_text}
use Rattle.net_draft.specs.Drafts.{is_longer, quanta_from, quanta_of_server, quanta_fit}
use Rattle.net_draft.proofs.CurveMade.{fault_is, stopped}

-- ---- one server's quanta
quanta_step : (flows : List FlowText) (place : List ℕ) (s q b : ℕ) (bs : List ℕ) (t : Bool) → list_any (is_longer s q b) flows ≡ t
    → quanta_from flows place s q (b ∷ bs) ≡ cond t (Err (record { kind = M12; place = nth place q })) (quanta_from flows place s (q + 1) bs)
unfolding quanta_from
quanta_step flows place s q b bs t h = rw h refl

at_quantum : (flows : List FlowText) (place : List ℕ) (s q : ℕ) (qs : List ℕ) (t : Bool) → q < length qs → list_any (is_longer s q (get_or qs q 0)) flows ≡ t
    → quanta_from flows place s q (drop q qs) ≡ cond t (Err (record { kind = M12; place = nth place q })) (quanta_from flows place s (q + 1) (drop (q + 1) qs))
at_quantum flows place s q qs t within h =
    ap (quanta_from flows place s q) (drop_more qs q 0 within) ∙ quanta_step flows place s q (get_or qs q 0) (drop (q + 1) qs) t h

pub short_here : (flows : List FlowText) (place : List ℕ) (s q : ℕ) (qs : List ℕ) (e : DraftFault) (whole : Read (Unit {0})) → q < length qs → list_any (is_longer s q (get_or qs q 0)) flows ≡ true
    → IsFault M12 (nth place q) e → quanta_from flows place s q (drop q qs) ≡ whole → Fails e whole
short_here flows place s q qs answers.NoMemory whole within h i so_far = tt
short_here flows place s q qs (answers.Fault f) whole within h i so_far =
    sym so_far ∙ (at_quantum flows place s q qs true within h ∙ ap stopped (fault_is (record { kind = M12; place = nth place q }) (fault_of f) (sym i.0) (sym i.1)))

pub long_here : (flows : List FlowText) (place : List ℕ) (s q : ℕ) (qs : List ℕ) (whole : Read (Unit {0})) → q < length qs → list_any (is_longer s q (get_or qs q 0)) flows ≡ false
    → quanta_from flows place s q (drop q qs) ≡ whole → quanta_from flows place s (q + 1) (drop (q + 1) qs) ≡ whole
long_here flows place s q qs whole within h so_far = sym (at_quantum flows place s q qs false within h) ∙ so_far

pub all_long : (flows : List FlowText) (place : List ℕ) (s q : ℕ) (qs : List ℕ) (whole : Read (Unit {0})) → length qs ≤ q → quanta_from flows place s q (drop q qs) ≡ whole → whole ≡ Ok tt
unfolding quanta_from
all_long flows place s q qs whole past so_far = sym so_far ∙ ap (quanta_from flows place s q) (drop_of_length-le qs past)

-- ---- servers
server_step : (flows : List FlowText) (n : ℕ) (s : ServerText) (ss : List ServerText) → quanta_of_server flows n s ≡ Ok tt → quanta_fit flows n (s ∷ ss) ≡ quanta_fit flows (n + 1) ss
unfolding quanta_fit
server_step flows n s ss h = rw h refl

server_stop : (flows : List FlowText) (n : ℕ) (s : ServerText) (ss : List ServerText) (f : Fault) → quanta_of_server flows n s ≡ Err f → quanta_fit flows n (s ∷ ss) ≡ Err f
unfolding quanta_fit
server_stop flows n s ss f h = rw h refl

left_is : (ss : List ServerDraft) (n : ℕ) (s : ServerDraft) → n < length ss → s ≡ get_or ss n s → map server_text (drop n ss) ≡ server_text s ∷ map server_text (drop (n + 1) ss)
left_is ss n s within is = ap (map server_text) (drop_more ss n s within ∙ ap (λ t. t ∷ drop (n + 1) ss) (sym is))

pub fits_here : (flows : List FlowText) (ss : List ServerDraft) (n : ℕ) (s : ServerDraft) (whole : Read (Unit {0})) → n < length ss → s ≡ get_or ss n s → quanta_of_server flows n (server_text s) ≡ Ok tt
    → quanta_fit flows n (map server_text (drop n ss)) ≡ whole → quanta_fit flows (n + 1) (map server_text (drop (n + 1) ss)) ≡ whole
fits_here flows ss n s whole within is h so_far =
    sym (ap (quanta_fit flows n) (left_is ss n s within is) ∙ server_step flows n (server_text s) (map server_text (drop (n + 1) ss)) h) ∙ so_far

pub stops_here : (flows : List FlowText) (ss : List ServerDraft) (n : ℕ) (s : ServerDraft) (e : DraftFault) (whole : Read (Unit {0})) → n < length ss → s ≡ get_or ss n s
    → Fails e (quanta_of_server flows n (server_text s)) → quanta_fit flows n (map server_text (drop n ss)) ≡ whole → Fails e whole
stops_here flows ss n s answers.NoMemory whole within is h so_far = tt
stops_here flows ss n s (answers.Fault f) whole within is h so_far =
    sym so_far ∙ (ap (quanta_fit flows n) (left_is ss n s within is) ∙ server_stop flows n (server_text s) (map server_text (drop (n + 1) ss)) (fault_of f) h)

pub all_fit : (flows : List FlowText) (ss : List ServerDraft) (n : ℕ) (whole : Read (Unit {0})) → length ss ≤ n → quanta_fit flows n (map server_text (drop n ss)) ≡ whole → whole ≡ Ok tt
unfolding quanta_fit
all_fit flows ss n whole past so_far = sym so_far ∙ ap (λ l. quanta_fit flows n (map server_text l)) (drop_of_length-le ss past)
