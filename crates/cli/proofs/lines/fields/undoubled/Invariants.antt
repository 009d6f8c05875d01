use Rattle.std.proofs.Common.{◌≤◌, length, drop, vec_len, vec_capacity}
use Rattle.cli.proofs.lemmas.lines.Quotes.{Undoubled}
use Rattle.cli.proofs.lines.fields.undoubled.Given as goal

-- the bytes so far hold the text, and there is room for the others
abbrev pub invariant-loop-byte : goal.invariant-loop-byte
invariant-loop-byte l = record {
  undoubled : Undoubled l.bytes l.text.items l.is_open (drop l.byte-index l.bytes);
  count : vec_len l.text ≤ l.byte-index;
  room : length l.bytes ≤ vec_capacity l.text;
}
