-- The window of the pairs with the marks of infinity.
use Rattle.std.specs.Prelude.{◌≡◌, pos, List, Result, Ok, Err, IfOk, Vec}
use Rattle.std.proofs.Common.{arith, sym, ap, ◌∙◌, subst, inl, inr, Global}
use Rattle.rational.specs.Rational.{ℚ, ◌+ℚ◌, ◌≤ℚ◌, ◌<ℚ◌, int}
use Rattle.rational.specs.Ratio.{SumFits}
use Rattle.rational.specs.Grid.{Whole}
use Rattle.rational.specs.Extended.{Ext, ◌+ₑ◌}
use Rattle.rational.specs.declared.Extended.TheVariants.{Fin}
use Rattle.rational.proofs.Grid.{whole_int, whole_add}
use Rattle.rational.proofs.Linear.{with2, with3}
use Rattle.rational.proofs.Laws.{le_or_lt, le_of_lt, antisym}
use Rattle.rational.proofs.ExtendedOrder.{add_zero_ext}
use Rattle.upp_curve.specs.declared.affine_segment.line.Piece.{Piece}
use Rattle.upp_curve.specs.affine_segment.Reading.{read}
use Rattle.upp_curve.specs.affine_segment.Pieces.{Each, StartsAtZero}
use Rattle.upp_normal.specs.Operand.{OperandPiece}
use Rattle.upp_limits.proofs.NarrowSizes.{narrow_gauge}
use Rattle.upp_curve.proofs.affine_segment.PieceOrder.{each_map}
use Rattle.curve_call.specs.Stretches.{CutsFit}
use Rattle.curve_call.specs.Pointwise.{SumsFit, IsWindowSum}
use Rattle.curve_call.proofs.CurveTimes.{sum_fits, time_within}
use Rattle.element_envelope.proofs.Arching.{same_arches}
use Rattle.element_envelope.proofs.SumSteps.{sum_cuts_fit}
use Rattle.curve_deconv.specs.declared.marks.Last.{Last}
use Rattle.curve_deconv.specs.Marks.{first_last, last_of, mark_pieces}
use Rattle.curve_deconv.specs.DeconvolutionWindows.{OperandWindows, IsPairsWindow, IsRaisedWindow, IsRaised, IsInfiniteFrom, IsFiniteFrom, IsLeastPair}
use Rattle.curve_deconv.proofs.MarkTimes.{IsMark, marks_are, until_whole, until_most}
use Rattle.curve_deconv.proofs.MarkWindows.{MarkStands, MarksRead, marks_read, marks_stand, mark_sums_fit, sum_stands, sum_arches, plus_inf}

starts_before : (end reach : ℚ) (f g : List Piece) (r : OperandWindows end reach f g) → Each (λ p. p.x <ℚ end) f
starts_before end reach f g r = each_map (OperandPiece r.sizes end) (λ p. p.x <ℚ end) (λ p P. P.before) f r.left.each

pub mark_of : (end reach : ℚ) (f g : List Piece) → OperandWindows end reach f g → IsMark (read f) end (last_of f end first_last)
mark_of end reach f g r = marks_are f end r.left.starts (starts_before end reach f g r)

end_some : (end reach : ℚ) (f g : List Piece) → OperandWindows end reach f g → int (pos 0) <ℚ end
end_some end reach f g r =
    let a = r.some in
    let b = r.early in
    with2 reach end (λ c. omega (arith, c.le, c.lt, c.same))

until_on : (end reach : ℚ) (f g : List Piece) (r : OperandWindows end reach f g) → Whole r.sizes.dt (last_of f end first_last).until
until_on end reach f g r =
    let z = r.sizes in
    until_whole z.dt f end first_last (each_map (OperandPiece z end) (λ p. Whole z.dt p.x) (λ p P. P.start) f r.left.each) r.limited.sizes.window (whole_int z.dt (pos 0))

pub mark_fits : (end reach : ℚ) (f g : List Piece) (last : Last) → OperandWindows end reach f g → last ≡ last_of f end first_last → SumFits last.until reach
mark_fits end reach f g last r e =
    let z = r.sizes in
    let A = r.limited in
    let g120 = A.gauge in
    let u = (last_of f end first_last).until in
    let M = mark_of end reach f g r in
    let most = until_most f end first_last (starts_before end reach f g r) (le_of_lt (end_some end reach f g r)) in
    subst (λ (l : Last). SumFits l.until reach) (sym e)
    (sum_fits z end u reach A.sizes (narrow_gauge z end A.sizes (omega (arith, g120))) (until_on end reach f g r) r.whole (time_within z end u A.sizes M.low most)
    (time_within z end reach A.sizes (le_of_lt r.some) (le_of_lt r.early)))

stands : (end reach : ℚ) (f g : List Piece) (r : OperandWindows end reach f g) → MarkStands r.sizes reach end (last_of f end first_last)
stands end reach f g r =
    let z = r.sizes in
    let M = mark_of end reach f g r in
    let u = (last_of f end first_last).until in
    let low = M.low in
    let some = r.some in
    record {
      whole = whole_add z.dt u reach (until_on end reach f g r) r.whole;
      low = with2 u reach (λ c. omega (arith, c.le, c.lt, c.same));
      past = with2 u reach (λ c. omega (arith, c.le, c.lt, c.same));
      some = end_some end reach f g r;
      at = elim M.at [ inl k ↦ inl k.0 | inr k ↦ inr k.0 ];
    }

-- what the sum asks for
pub record SumReady (ps ms : List Piece) : Type 0 where
  pub left : StartsAtZero ps
  pub right : StartsAtZero ms
  pub cuts : CutsFit ps ms
  pub sums : SumsFit ps ms

sum_ready_at : (end reach : ℚ) (f g ps : List Piece) → OperandWindows end reach f g → IsPairsWindow end reach f g ps → SumReady ps (mark_pieces (last_of f end first_last) reach end)
sum_ready_at end reach f g ps r P =
    let z = r.sizes in
    let last = last_of f end first_last in
    let W = P.form.stands r in
    let S = stands end reach f g r in
    let M = marks_stand z reach end last S in
    record { left = W.starts; right = M.starts; cuts = sum_cuts_fit z end ps (mark_pieces last reach end) r.limited W M; sums = mark_sums_fit z reach end last ps r.limited S W }

pub sum_ready : (end reach : ℚ) (f g ps ms : List Piece) (last : Last) → OperandWindows end reach f g → IsPairsWindow end reach f g ps → last ≡ last_of f end first_last
    → ms ≡ mark_pieces last reach end → SumReady ps ms
sum_ready end reach f g ps ms last r P e m = subst (SumReady ps) (sym (m ∙ ap (λ l. mark_pieces l reach end) e)) (sum_ready_at end reach f g ps r P)

-- ---- what the sum reads
raised_at : (end reach : ℚ) (f g ps : List Piece) (t : ℚ) (v : Ext) → OperandWindows end reach f g → IsPairsWindow end reach f g ps → int (pos 0) ≤ℚ t → t +ℚ reach <ℚ end
    → v ≡ read ps (t +ℚ reach) +ₑ read (mark_pieces (last_of f end first_last) reach end) (t +ℚ reach) → IsRaised (read f) (read g) reach end t v
raised_at end reach f g ps t v r P low early e =
    elim (le_or_lt u t) [
      | inr h ↦ inl (M.before t low h, e ∙ ap (λ w. x +ₑ w) (R.before (t +ℚ reach) (with3 t u reach (λ c. omega (arith, c.le, c.lt, c.same)))) ∙ plus_inf x)
      | inl h ↦ elim (le_or_lt t u) [
        | inr k ↦ inr (M.after t k, finite (R.after (t +ℚ reach) (with3 t u reach (λ c. omega (arith, c.le, c.lt, c.same))) early))
        | inl k ↦ here (antisym (k, h))
      ]
    ]
  where
    last : Last
    last = last_of f end first_last

    u : ℚ
    u = last.until

    M : IsMark (read f) end last
    M = mark_of end reach f g r

    R : MarksRead last reach end
    R = marks_read last reach end

    x : Ext
    x = read ps (t +ℚ reach)

    m : Ext
    m = read (mark_pieces last reach end) (t +ℚ reach)

    pairs : IsLeastPair (read f) (read g) reach t x
    pairs = P.reads t low early

    finite : m ≡ Fin (int (pos 0)) → IsLeastPair (read f) (read g) reach t v
    finite k = subst (IsLeastPair (read f) (read g) reach t) (sym (e ∙ ap (λ w. x +ₑ w) k ∙ add_zero_ext x)) pairs

    here : t ≡ u → IsRaised (read f) (read g) reach end t v
    here s =
        let value : m ≡ last.at = ap (λ w. read (mark_pieces last reach end) (w +ℚ reach)) s ∙ R.at (subst (λ w. w +ℚ reach <ℚ end) s early) in
        elim M.at [
          | inl k ↦ inl (subst (λ w. IsInfiniteFrom (read f) w end) (sym s) k.1, e ∙ ap (λ w. x +ₑ w) (value ∙ k.0) ∙ plus_inf x)
          | inr k ↦ inr (subst (λ w. IsFiniteFrom (read f) w end) (sym s) k.1, finite (value ∙ k.0))
        ]

pub raised_is : (end reach : ℚ) (f g ps rs : List Piece) → OperandWindows end reach f g → IsPairsWindow end reach f g ps → IsWindowSum ps (mark_pieces (last_of f end first_last) reach end) rs
    → IsRaisedWindow end reach f g rs
raised_is end reach f g ps rs o P S =
    let last = last_of f end first_last in
    record {
      form = record {
        stands = λ r. sum_stands r.sizes reach end last ps rs r.limited (stands end reach f g r) (P.form.stands r) S;
        arches = λ r.
            same_arches r.sizes.dt end (λ t. read ps t +ₑ read (mark_pieces last reach end) t) (read rs) (λ t a b. S.reads t a)
            (sum_arches r.sizes reach end last (read ps) (stands end reach f g r) (P.form.arches r));
      };
      reads = λ t low early.
          let some = o.some in
          raised_at end reach f g ps t (read rs (t +ℚ reach)) o P low early (S.reads (t +ℚ reach) (with2 t reach (λ c. omega (arith, c.le, c.lt, c.same))));
    }

pub ok_raised : {E : Type 0} (result : Result (Vec Piece Global) E) (end reach : ℚ) (f g ps ms : List Piece) (last : Last) → OperandWindows end reach f g → IsPairsWindow end reach f g ps
    → last ≡ last_of f end first_last → ms ≡ mark_pieces last reach end → IfOk result (λ v. IsWindowSum ps ms v.items) → IfOk result (λ v. IsRaisedWindow end reach f g v.items)
ok_raised (Ok v) end reach f g ps ms last o P e m h = raised_is end reach f g ps v.items o P (subst (λ us. IsWindowSum ps us v.items) (m ∙ ap (λ l. mark_pieces l reach end) e) h)
ok_raised (Err x) end reach f g ps ms last o P e m h = h
