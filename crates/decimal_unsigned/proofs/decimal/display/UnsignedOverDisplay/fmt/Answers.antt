use Rattle.std.proofs.{Common.{sym, subst, arith}, Output.{has_written_styled_append, has_written_styled_of_eq}, lemmas.{Grind.common_steps, List.length-take, Str.{IsUtf8-from_ascii, IsAscii-take, IsAscii-drop}}}
use Rattle.std.specs.{Str.IsAscii}
use Rattle.decimal_unsigned.proofs.lemmas.text.{Pieces.{block_of, zeros_first}, Writing.{text_ascii, piece_taken}}
use Rattle.decimal_unsigned.proofs.decimal.display.UnsignedOverDisplay.fmt.Goals as goal

pub from_utf8_unchecked-requires : goal.from_utf8_unchecked-requires
from_utf8_unchecked-requires g c =
    let n = c.writeable_length_hint-length.ensures.length in
    IsUtf8-from_ascii _
    (subst IsAscii (sym (rw n c.short_text-text.ensures)) (text_ascii c.args.self.now))

pub from_utf8_unchecked-requires-in-loop-written : goal.from_utf8_unchecked-requires-in-loop-written
from_utf8_unchecked-requires-in-loop-written g c =
    IsUtf8-from_ascii _
    (subst IsAscii (sym c.copy_text.ensures) (IsAscii-take _ _ (IsAscii-drop _ _ (text_ascii c.args.self.now))))

pub copy_text-requires-clause-zeros : goal.copy_text-requires-clause-zeros
copy_text-requires-clause-zeros g c = zeros_first 64 c.min.result (omega (arith, c.min.ensures))

pub loop-written-preserved : goal.loop-written-preserved
loop-written-preserved g c =
    grind (arith, length-take, block_of, has_written_styled_of_eq, piece_taken, has_written_styled_append, common_steps)

pub slice_bounds-piece-end : goal.slice_bounds-piece-end
slice_bounds-piece-end g c = grind (arith, common_steps)

pub overflow_add-written : goal.overflow_add-written
overflow_add-written g c = grind (arith, common_steps)

pub loop-written-smaller : goal.loop-written-smaller
loop-written-smaller g c = grind (arith, common_steps)

pub returns-in_err-write_str : goal.returns-in_err-write_str
returns-in_err-write_str g c = grind (arith, common_steps)

pub returns-then-is_short : goal.returns-then-is_short
returns-then-is_short g c = grind (arith, common_steps)

pub returns : goal.returns
returns g c = grind (arith, common_steps)
