use Rattle.std.proofs.Common.{subst}
use Rattle.curve_lang.specs.Finding.{MayCall}
use Rattle.curve_lang.proofs.operators.called.Goals as goal

pub pos_diff-requires : goal.pos_diff-requires
pos_diff-requires g c = subst (λ k. MayCall k c.args.f.now c.args.g.now) c.in-PosDiff.is c.requires

pub deconvolve-requires : goal.deconvolve-requires
deconvolve-requires g c = subst (λ k. MayCall k c.args.f.now c.args.g.now) c.in-Deconv.is c.requires

pub returns-in-Sum-clause-value : goal.returns-in-Sum-clause-value
returns-in-Sum-clause-value g c = rw c.in-Sum.is c.sum.ensures.value

pub returns-in-Sum-clause-limits : goal.returns-in-Sum-clause-limits
returns-in-Sum-clause-limits g c = rw c.in-Sum.is c.sum.ensures.limits

pub returns-in-Min-clause-value : goal.returns-in-Min-clause-value
returns-in-Min-clause-value g c = rw c.in-Min.is c.min.ensures.value

pub returns-in-Min-clause-limits : goal.returns-in-Min-clause-limits
returns-in-Min-clause-limits g c = rw c.in-Min.is c.min.ensures.limits

pub returns-in-Max-clause-value : goal.returns-in-Max-clause-value
returns-in-Max-clause-value g c = rw c.in-Max.is c.max.ensures.value

pub returns-in-Max-clause-limits : goal.returns-in-Max-clause-limits
returns-in-Max-clause-limits g c = rw c.in-Max.is c.max.ensures.limits

pub returns-in-Conv-clause-value : goal.returns-in-Conv-clause-value
returns-in-Conv-clause-value g c = rw c.in-Conv.is c.convolve.ensures.value

pub returns-in-Conv-clause-limits : goal.returns-in-Conv-clause-limits
returns-in-Conv-clause-limits g c = rw c.in-Conv.is c.convolve.ensures.limits

pub returns-in-PosDiff-clause-value : goal.returns-in-PosDiff-clause-value
returns-in-PosDiff-clause-value g c = rw c.in-PosDiff.is c.pos_diff.ensures.value

pub returns-in-PosDiff-clause-limits : goal.returns-in-PosDiff-clause-limits
returns-in-PosDiff-clause-limits g c = rw c.in-PosDiff.is c.pos_diff.ensures.limits

pub returns-in-Deconv-clause-value : goal.returns-in-Deconv-clause-value
returns-in-Deconv-clause-value g c = rw c.in-Deconv.is c.deconvolve.ensures.value

pub returns-in-Deconv-clause-limits : goal.returns-in-Deconv-clause-limits
returns-in-Deconv-clause-limits g c = rw c.in-Deconv.is c.deconvolve.ensures.limits
