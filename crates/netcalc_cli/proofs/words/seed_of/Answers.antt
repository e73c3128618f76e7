use Rattle.netcalc_cli.proofs.Seeds.{seed_read}
use Rattle.netcalc_cli.proofs.words.seed_of.Goals as goal

pub returns : goal.returns
returns c =
    seed_read c.args.word.now c.as_bytes.result.now c.in_ok-number.number c.in_64_bits.result c.as_bytes.ensures.value
    c.in_ok-number.ensures.0 c.in_ok-number.ensures.1 c.in_64_bits.ensures
