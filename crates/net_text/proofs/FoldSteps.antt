-- Steps of the closures of some flows, as a loop counts them.
use Rattle.std.proofs.Common.{◌≡◌, ℕ, ◌+◌, ◌-◌, ◌≤◌, ◌<◌, Bool, true, false, List, [], ◌∷◌, ◌++◌, length, map, get_or, take, Ok, refl, sym, ap, ◌∙◌, subst, arith, inl, inr, true≢false}
use Rattle.upp_curve.specs.Curve.{SpecCurve}
use Rattle.net_draft.specs.declared.flow_draft.FlowDraft.{FlowDraft}
use Rattle.net_draft.specs.CurveTexts.{text_of}
use Rattle.net_draft.specs.Drafts.{draft_of}
use Rattle.net_draft.specs.Texts.{CurveText, FlowText, DraftText}
use Rattle.net_draft.specs.Views.{flow_text}
use Rattle.net_draft.proofs.OverNone.{made_or_over}
use Rattle.subadd_closure.specs.FoldWork.{fold_work}
use Rattle.net_text.specs.Becoming.{IsCurveOf, Becomes}
use Rattle.net_text.specs.Folds.{FoldOf, FoldsOf, IsSumOf, FoldsOfRead, FoldsOfFile}
use Rattle.net_text.proofs.OneThing.{one_made}
use Rattle.net_text.proofs.Zips.{texts_pushed}

-- ---- drafts
-- the curve that was made is the one whose fold counts
pub fold_is : (closes : Bool) (text : CurveText) (c : SpecCurve) (k : ℕ) → closes ≡ true → IsCurveOf text c → FoldOf closes text k → k ≡ fold_work c
fold_is false text c k e is h = absurd (true≢false (sym e))
fold_is true text c k e is (inl h) = h.count_is ∙ ap fold_work (one_made text h.curve c h.is is)
fold_is true text c k e is (inr h) = absurd (made_or_over text c h.limit is.made h.over)

-- a curve that is not closed has none
pub open_is : (closes : Bool) (text : CurveText) (k : ℕ) → closes ≡ false → FoldOf closes text k → k ≡ 0
open_is false text k e h = h
open_is true text k e h = absurd (true≢false e)

-- what is left of the whole number of steps
pub record StepsLeft (fs : List FlowText) (before now total : ℕ) : Type 0 where
  pub rest : ℕ
  pub folds : FoldsOf fs rest
  pub within : now + rest ≤ before + total

abbrev pub LeavesSteps : List FlowText → List FlowText → ℕ → ℕ → Type 0
LeavesSteps whole left before now = (total : ℕ) → FoldsOf whole total → StepsLeft left before now total

pub leaves_more : (whole left : List FlowText) (f : FlowText) (fs : List FlowText) (before now after : ℕ) → left ≡ f ∷ fs → ((k : ℕ) → FoldOf f.closes f.arrival k → after ≤ now + k) → LeavesSteps whole left before now
    → LeavesSteps whole fs before after
leaves_more whole left f fs before now after same most leaves = λ total folds.
    let l = leaves total folds in
    let s : IsSumOf (FoldOf f.closes f.arrival) (FoldsOf fs) l.rest = subst (λ gs. FoldsOf gs l.rest) same l.folds in
    let first = most s.first s.is_first in
    record { rest = s.rest; folds = s.is_rest; within = omega (arith, l.within, s.sum, first) }

pub at_most_all : (whole left : List FlowText) (before now : ℕ) → LeavesSteps whole left before now → (total : ℕ) → FoldsOf whole total → now ≤ before + total
at_most_all whole left before now leaves total folds = omega (arith, (leaves total folds).within)

-- ---- there is one number of steps
one_fold : (closes : Bool) (text : CurveText) (a b : ℕ) → FoldOf closes text a → FoldOf closes text b → a ≡ b
one_fold false text a b g h = g ∙ sym h
one_fold true text a b (inl g) (inl h) = g.count_is ∙ ap fold_work (one_made text g.curve h.curve g.is h.is) ∙ sym h.count_is
one_fold true text a b (inl g) (inr h) = absurd (made_or_over text g.curve h.limit g.is.made h.over)
one_fold true text a b (inr g) (inl h) = absurd (made_or_over text h.curve g.limit h.is.made g.over)
one_fold true text a b (inr g) (inr h) = g.count_is ∙ sym h.count_is

pub one_folds : (fs : List FlowText) (a b : ℕ) → FoldsOf fs a → FoldsOf fs b → a ≡ b
one_folds [] a b g h = g ∙ sym h
one_folds (f ∷ fs) a b g h =
    let first = one_fold f.closes f.arrival g.first h.first g.is_first h.is_first in
    let rest = one_folds fs g.rest h.rest g.is_rest h.is_rest in
    omega (arith, g.sum, h.sum, first, rest)

-- the fold of what an arrival became
has_fold : (closes : Bool) (text : CurveText) (c : SpecCurve) → Becomes closes text (Ok c) → (k : ℕ) × FoldOf closes text k
has_fold false text c h = (0, refl)
has_fold true text c h = (fold_work h.made, inl (record { curve = h.made; is = h.is; count_is = refl }))

-- ---- steps that were taken
folds_push : (fs : List FlowText) (f : FlowText) (t k : ℕ) → FoldsOf fs t → FoldOf f.closes f.arrival k → FoldsOf (fs ++ f ∷ []) (t + k)
folds_push [] f t k all one = record { first = k; rest = 0; is_first = one; is_rest = refl; sum = omega (arith, all) }
folds_push (g ∷ fs) f t k all one = record {
  first = all.first;
  rest = all.rest + k;
  is_first = all.is_first;
  is_rest = folds_push fs f all.rest k all.is_rest one;
  sum = omega (arith, all.sum);
}

-- the flows so far have taken these steps
pub record HaveTaken (fs : List FlowText) (before now : ℕ) : Type 0 where
  pub count : ℕ
  pub folds : FoldsOf fs count
  pub sum : now ≡ before + count

pub taken_more : (ds : List FlowDraft) (i : ℕ) (d : FlowDraft) (c : SpecCurve) (before now after : ℕ) → i < length ds → d ≡ get_or ds i d → HaveTaken (map flow_text (take i ds)) before now
    → Becomes d.closes (text_of d.arrival.text) (Ok c) → ((k : ℕ) → FoldOf d.closes (text_of d.arrival.text) k → after ≡ now + k) → HaveTaken (map flow_text (take (i + 1) ds)) before after
taken_more ds i d c before now after within is h became all =
    let (k, one) = has_fold d.closes (text_of d.arrival.text) c became in
    let sum = all k one in
    let folds = folds_push (map flow_text (take i ds)) (flow_text d) h.count k h.folds one in
    record {
      count = h.count + k;
      folds = subst (λ fs. FoldsOf fs (h.count + k)) (sym (texts_pushed flow_text ds i d within is)) folds;
      sum = omega (arith, h.sum, sum);
    }

-- by how many they are
pub folds_taken : (fs : List FlowText) (before now : ℕ) → HaveTaken fs before now → FoldsOf fs (now - before)
folds_taken fs before now h = let count : h.count ≡ now - before = omega (arith, h.sum) in subst (λ n. FoldsOf fs n) count h.folds

-- ---- files
pub folds_of_draft : (bytes : List ℕ) (d : DraftText) (n : ℕ) → draft_of bytes ≡ Ok d → FoldsOfFile bytes n → FoldsOf d.flows n
folds_of_draft bytes d n is folds = subst (λ r. FoldsOfRead r n) is folds
