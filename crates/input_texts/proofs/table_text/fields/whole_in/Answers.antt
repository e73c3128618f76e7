use Rattle.input_texts.proofs.table_text.FieldTexts.{whole_read}
use Rattle.input_texts.proofs.table_text.fields.whole_in.Goals as goal

pub returns : goal.returns
returns c =
    whole_read c.args.text.now c.as_bytes.result.now _ _ c.in_ok-size.size c.in_64_bits.result c.as_bytes.ensures.value c.split_sign-minus.ensures.minus c.split_sign-minus.ensures.digits
    c.in_ok-size.ensures.0 c.in_ok-size.ensures.1 c.in_64_bits.ensures
