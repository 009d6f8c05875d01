use Rattle.std.proofs.Common.{◌≡◌, min, take, drop}
use Rattle.std.specs.{Str.all_ascii_digits, Str.Parse.digits_value}
use Rattle.decimal_unsigned.proofs.decimal.parse.parts.numeral.Given as goal

abbrev pub invariant-loop-byte : goal.invariant-loop-byte
invariant-loop-byte l = record {
  value : l.value ≡ min l.most (digits_value 10 (take l.byte-index l.text));
  digits : all_ascii_digits l.text ≡ all_ascii_digits (drop l.byte-index l.text);
}
