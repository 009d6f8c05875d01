use Rattle.std.proofs.{Common.arith, lemmas.{Grind.common_steps, List.length-take}}
use Rattle.decimal_digits.proofs.lemmas.{rounding.Results.on_err, sink.Sinks.{fresh_more, fresh_some}}
use Rattle.decimal_unsigned.proofs.lemmas.text.{Lengths.text_some, ReadBack.read_text, Pieces.{block_of, zeros_first}, Writing.{wrote_more, wrote_part}}
use Rattle.decimal_unsigned.specs.Text.{text}
use Rattle.decimal_unsigned.proofs.decimal.text.UnsignedOverWriteable.write_to.Goals as goal

pub copy_text-requires-clause-zeros : goal.copy_text-requires-clause-zeros
copy_text-requires-clause-zeros g c = zeros_first 64 c.min.result (omega (arith, c.min.ensures))

pub loop-written-preserved : goal.loop-written-preserved
loop-written-preserved g c = grind (arith, length-take, block_of, wrote_more, fresh_more, common_steps)

pub returns-in_err-put_bytes-clause-err : goal.returns-in_err-put_bytes-clause-err
returns-in_err-put_bytes-clause-err g c =
    let few = length-take c.min.result (block_of 64) in
    on_err c.from_residual.result _
    (wrote_part _ _ _ (text c.args.self.now) c.copy_text.new.buffer c.loop-written.written _
    (omega (arith, few, c.min.ensures, c.writeable_length_hint-length.ensures.length)) c.copy_text.ensures
    c.loop-written.invariant.appended c.in_err-put_bytes.ensures.prefix)

pub returns-in_err-put_bytes-clause-reads_back : goal.returns-in_err-put_bytes-clause-reads_back
returns-in_err-put_bytes-clause-reads_back g c = read_text _ c.writeable_length_hint-length.ensures.valid

pub returns-then-is_short : goal.returns-then-is_short
returns-then-is_short g c = grind (arith, read_text, common_steps)

pub returns-then-length-eq1 : goal.returns-then-length-eq1
returns-then-length-eq1 g c = grind (arith, read_text, common_steps)

pub returns : goal.returns
returns g c = grind (arith, fresh_some, text_some, read_text, common_steps)
