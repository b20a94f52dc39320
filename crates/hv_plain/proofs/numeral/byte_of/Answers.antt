use Rattle.hv_plain.proofs.ByteNumerals.{none_read, some_read}
use Rattle.hv_plain.proofs.numeral.byte_of.Goals as goal

pub returns : goal.returns
returns c = record {
  some = some_read c.args.text.now c.read_digits.result c.read_digits.ensures;
  none = none_read c.args.text.now c.read_digits.result c.read_digits.ensures;
}
