use Rattle.std.proofs.{Common.{◌≡◌, Err, refl}, lemmas.Result.{on_ok_weaker, IfErr-weaker, IfErr-at_err}}
use Rattle.std.specs.Io.KnownBytes.{Appends}
use Rattle.decimal_digits.specs.AppendsPrefix.{AppendsPrefix}
use Rattle.conversions.specs.{declared.error.OperationError.{OperationError, TheVariants.Output}, Conversion.HasTextBy}
use Rattle.conversions.proofs.lemmas.conversion.Conversions.{last_fails, writing_fails, written_outcome}
use Rattle.conversions.proofs.conversion.Conversion.convert_by_forms.Goals as goal

pub returns-in-Err-clause-fails_with : goal.returns-in-Err-clause-fails_with
returns-in-Err-clause-fails_with g c =
    rw c.from.ensures
    (last_fails c.args.self.now c.args.text.now _ (rw c.as_slice.ensures.value at c.in-Err.ensures.fails_with))

pub returns-in-Ok-clause-written : goal.returns-in-Ok-clause-written
returns-in-Ok-clause-written g c =
    let contents = g.W.Sink.contents in
    on_ok_weaker c.write.result
    (written_outcome c.args.self.now c.args.text.now c.in-Ok.value
    (rw c.as_slice.ensures.value at c.in-Ok.ensures.last)
    (Appends (contents c.args.sink.now) (contents c.write.new.sink)))
    c.write.ensures.written

pub returns-in-Ok-clause-fails_with : goal.returns-in-Ok-clause-fails_with
returns-in-Ok-clause-fails_with g c =
    IfErr-weaker c.write.result _ _
    (writing_fails c.args.self.now c.args.text.now c.in-Ok.value
    (rw c.as_slice.ensures.value at c.in-Ok.ensures.last))
    c.write.ensures.fails_with

pub returns-in-Ok-clause-prefix : goal.returns-in-Ok-clause-prefix
returns-in-Ok-clause-prefix g c = λ failed.
    let contents = g.W.Sink.contents in
    let begun = AppendsPrefix (contents c.args.sink.now) (contents c.write.new.sink) in
    written_outcome c.args.self.now c.args.text.now c.in-Ok.value
    (rw c.as_slice.ensures.value at c.in-Ok.ensures.last) begun
    (IfErr-at_err (λ (error : OperationError). error ≡ Output →
    HasTextBy c.args.self.now.formatter c.in-Ok.value begun) failed c.write.ensures.prefix refl)
