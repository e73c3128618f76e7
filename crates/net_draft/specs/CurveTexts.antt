-- What contracts see of the text of a curve.
use Rattle.net_draft.specs.declared.curve_text.CurveText as code
use Rattle.net_draft.specs.declared.curve_text.CurveText.TheVariants as cases
use Rattle.net_draft.specs.Texts.{CurveText, Bucket, Stair, RateLatency, Gate, Listed}

abbrev pub text_of : code.CurveText → CurveText
text_of (cases.Bucket burst rate) = Bucket burst rate
text_of (cases.Stair packet period jitter) = Stair packet period jitter
text_of (cases.RateLatency rate latency) = RateLatency rate latency
text_of (cases.Gate rate cycle slot) = Gate rate cycle slot
text_of (cases.Listed pieces tail use_as) = Listed pieces.items tail use_as
