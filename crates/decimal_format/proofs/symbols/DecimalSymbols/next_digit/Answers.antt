use Rattle.decimal_format.proofs.lemmas.{symbols.AsciiDigits.digit_text-ascii, reader.Codes.match_weaker}
use Rattle.decimal_format.proofs.symbols.DecimalSymbols.next_digit.Goals as goal
use Rattle.std.proofs.Common.{arith}

pub returns-then-has_ascii_digits : goal.returns-then-has_ascii_digits
returns-then-has_ascii_digits g c = grind (arith, match_weaker, digit_text-ascii)
