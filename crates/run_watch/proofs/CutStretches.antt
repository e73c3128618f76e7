-- No window that is short of work ends by the last turn of a stretch before the least end that the look at its turns finds.
use Rattle.std.specs.Prelude.{◌≡◌, pos, List, [], ◌∷◌, Option, Some, IfSome}
use Rattle.std.proofs.Common.{arith, refl, subst, inl, inr}
use Rattle.rational.specs.Rational.{ℚ, int, ◌-ℚ◌, ◌≤ℚ◌, ◌<ℚ◌}
use Rattle.rational.specs.Extended.{◌<ₑ◌, ◌+ₑ◌}
use Rattle.rational.specs.declared.Extended.TheVariants.{Fin}
use Rattle.rational.proofs.Laws.{le_trans, le_or_lt, antisym}
use Rattle.rational.proofs.Linear.{with2}
use Rattle.upp_curve.specs.declared.affine_segment.line.Piece.{Piece}
use Rattle.upp_curve.specs.Curve.{SpecCurve, value_at}
use Rattle.upp_curve.specs.Unrolled.{unroll}
use Rattle.run_laws.specs.Cards.{all, ServerStep}
use Rattle.run_laws.specs.Counts.{worked}
use Rattle.run_laws.specs.Servers.{Server}
use Rattle.flow_watch.specs.declared.watch_laws.point.Segment.{Segment}
use Rattle.flow_watch.specs.watch_laws.Laws.{MayServe}
use Rattle.flow_watch.specs.watch_laws.Reaches.{HasReach}
use Rattle.flow_watch.specs.watch_laws.Segments.{segments}
use Rattle.flow_watch.proofs.watch_laws.CurveSegments.{segments_tell}
use Rattle.run_watch.specs.declared.span.Ramp.{Ramp}
use Rattle.run_watch.specs.declared.watched.Watched.{Watched}
use Rattle.run_watch.specs.declared.watched.Stretch.{Stretch}
use Rattle.run_watch.specs.WatchTimes.{watched_from, point_at, IsShortTo}
use Rattle.run_watch.specs.IdleWindows.{IsShortWindow, NoneEndsBy}
use Rattle.run_watch.specs.NearWindows.{EndsShort}
use Rattle.run_watch.specs.Held.{IsHeld, IsSightOf}
use Rattle.run_watch.specs.Searches.{segments_near, IsLookedAt, IsCut}
use Rattle.run_watch.proofs.ClearStretches.{none_by_cut, no_longer}
use Rattle.run_watch.proofs.HeldTimes.{searched}
use Rattle.run_watch.proofs.IdleIn.{less_seen, not_at_once, placed}
use Rattle.run_watch.proofs.NearWindows.{stretch_stands, length_stands, end_some, near_segments}
use Rattle.run_watch.proofs.ShortEnds.{Looks, end_within, from_start, upto_end}
use Rattle.run_watch.proofs.SortedPoints.{ordered}

-- a window between two times of the stretch that is short by the pieces up to its length
cut_before : (server : Server) (V : List ServerStep) (w : Watched) (c : SpecCurve) (s : Stretch) (own all_turns : List ℚ) (reach : Option ℚ) (least cut a b : ℚ) → IsHeld w c → IsLookedAt w s own all_turns → IsSightOf server w.end V w → MayServe c
    → IfSome reach (HasReach c) → ((t : ℚ) → EndsShort (segments_near c s reach) w.works.items s own t → least ≤ℚ t) → IsCut own s.start least cut
    → s.start ≤ℚ a → b ≤ℚ s.end → IsShortWindow (segments (unroll c (s.end -ℚ s.start))) w.works.items (a ∷ b ∷ []) a b → cut <ℚ b
cut_before server V w c s own all_turns reach least cut a b h L S M reaches none is from upto k =
    let far = s.end -ℚ s.start in
    let works = w.works.items in
    let T = stretch_stands w c s own all_turns h L in
    let H = length_stands h.sizes w.end s h.limited T in
    let R = searched server V w c all_turns h S M (end_some h.sizes w.end s T) L.turns_are in
    let P = placed server V w s own all_turns S R.turns_are L in
    let starts = (near_segments w c s own all_turns (unroll c far) h L refl).starts in
    let order = ordered (segments (unroll c far)) (point_at works a) (point_at works b) starts k.short in
    let long = no_longer a b s.start s.end from upto in
    let seen = (segments_tell c far (point_at works a) (point_at works b) M H.some order long).0 k.short in
    let less = (less_seen server V w (value_at c (b -ℚ a)) a b S).0 seen in
    let forward : a <ℚ b = elim (le_or_lt b a) [
      | inr l ↦ l
      | inl l ↦
          let same : a ≡ b = antisym (order, l) in
          absurd (not_at_once c (worked all V b) (b -ℚ a) M (nothing a b same) (subst (λ t. Fin (worked all V b) <ₑ (Fin (worked all V t) +ₑ value_at c (b -ℚ a))) same less))
    ] in
    none_by_cut server V w c all_turns own s L.whole.end reach least cut a b R L.holds P reaches none is from forward less
  where
    nothing : (a b : ℚ) → a ≡ b → b -ℚ a ≡ int (pos 0)
    nothing a b e = with2 a b (λ w. omega (arith, w.le, w.lt, w.same))

-- as the code has it
pub none_ends : (server : Server) (V : List ServerStep) (w : Watched) (c : SpecCurve) (s : Stretch) (own all_turns : List ℚ) (works rs : List Ramp) (ns qs : List Piece) (gs es : List Segment) (reach o : Option ℚ) (least cut : ℚ) → IsHeld w c
    → IsLookedAt w s own all_turns → IsSightOf server w.end V w → MayServe c → works ≡ w.works.items → rs ≡ w.works.items → ns ≡ unroll c (s.end -ℚ s.start) → gs ≡ segments ns → es ≡ segments_near c s reach → IfSome reach (HasReach c)
    → o ≡ Some least → Looks es rs s own o → IsCut own s.start least cut
    → NoneEndsBy gs works (watched_from record { start = s.start; end = least } qs all_turns) cut
none_ends server V w c s own all_turns works rs ns qs gs es reach o least cut h L S M e e2 n g g2 reaches f looks is a b k =
    let far = s.end -ℚ s.start in
    let it = subst (λ (xs : List Ramp). Looks (segments_near c s reach) xs s own (Some least)) e2 (subst (λ (xs : List Segment). Looks xs rs s own (Some least)) g2 (subst (Looks es rs s own) f looks)) in
    let upto_least = end_within (segments_near c s reach) w.works.items s own all_turns least L.holds it.0 in
    let part : Stretch = record { start = s.start; end = least } in
    cut_before server V w c s own all_turns reach least cut a b h L S M reaches it.1 is (from_start part qs all_turns a k.from) (le_trans (upto_end part qs all_turns b k.to) upto_least) record {
      from = inl refl;
      to = inr (inl refl);
      short = subst (λ (xs : List Ramp). IsShortTo (segments (unroll c far)) (point_at xs a) (point_at xs b)) e
          (subst (λ (xs : List Piece). IsShortTo (segments xs) (point_at works a) (point_at works b)) n (subst (λ (xs : List Segment). IsShortTo xs (point_at works a) (point_at works b)) g k.short));
    }
