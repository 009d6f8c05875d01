use Rattle.std.proofs.{Common.arith, lemmas.List.Sums.prefix_len-le-length}
use Rattle.std.specs.Char.{is_ascii_digit}
use Rattle.decimal_unsigned.proofs.decimal.parse.parts.split_digits.Goals as goal

pub split_at-requires : goal.split_at-requires
split_at-requires c = omega (arith, c.count_digits.ensures, prefix_len-le-length is_ascii_digit c.args.text.now)
