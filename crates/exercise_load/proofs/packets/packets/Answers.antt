use Rattle.std.proofs.Common.{◌≡◌, ◌+◌, ◌*◌, arith, ℕ, List, ◌∷◌, ◌++◌, [], map, ap, sym, ◌∙◌, append-nil}
use Rattle.std.specs.List.{filter, flat_map, range_with_len}
use Rattle.std.proofs.lemmas.List.Concat.{flat_map-append}
use Rattle.net_model.specs.declared.trace.TracePacket.{TracePacket}
use Rattle.exercise_load.specs.Workloads.{packet_at, is_sending}
use Rattle.exercise_load.proofs.Joined.{range_grows}
use Rattle.exercise_load.proofs.packets.packets.Goals as goal

pub loop-count-preserved : goal.loop-count-preserved
loop-count-preserved c =
    let n = c.loop-count.count in
    let next : n ≡ 0 + n = omega arith in
    let f : ℕ → List TracePacket = λ k. map (packet_at (8000 * k)) (filter (is_sending (8000 * k)) c.args.flows.now) in
    c.in_ok-push_packets.ensures ∙ ap (λ ps. ps ++ f n) c.loop-count.invariant
    ∙ ap (λ ps. flat_map f (range_with_len 0 n) ++ ps) (sym (append-nil (f n)))
    ∙ sym (flat_map-append f (range_with_len 0 n) (n ∷ []))
    ∙ ap (λ m. flat_map f (range_with_len 0 n ++ m ∷ [])) next ∙ ap (flat_map f) (sym (range_grows 0 n))
