use Rattle.std.proofs.{Common.{◌≢◌, [], ◌∷◌}, lemmas.Result.on_ok_weaker}
use Rattle.std.specs.Io.KnownBytes.{Appends}
use Rattle.decimal_digits.specs.AppendsPrefix.{AppendsPrefix}
use Rattle.cli.specs.{Edits.EditingFails, Error.line_error, FieldConversion.LineFails, Filter.{body_of, ConvertingFails}, declared.lines.filter.Target.TheVariants.{Line, Field, Fields}}
use Rattle.conversions.specs.declared.error.OperationError.TheVariants.{Output}
use Rattle.cli.proofs.lemmas.lines.FieldLines.{converted_line, converted_text, converting_fails, err_weaker}
use Rattle.cli.proofs.lines.filter.Filter.convert.Goals as goal

pub returns-in-Line-clause-printed : goal.returns-in-Line-clause-printed
returns-in-Line-clause-printed g c =
    on_ok_weaker c.convert_line.result
    (converted_text c.args.self.now c.args.number c.args.line.now c.in-Line.conversion
    (Appends (g.W.Sink.contents c.args.sink.now) (g.W.Sink.contents c.convert_line.new.sink)) c.in-Line.is)
    c.convert_line.ensures.printed

pub returns-in-Line-clause-fails_with : goal.returns-in-Line-clause-fails_with
returns-in-Line-clause-fails_with g c =
    let filter = c.args.self.now in
    let body = body_of filter c.args.number c.args.line.now in
    err_weaker c.convert_line.result
    (λ error. error ≢ Output → LineFails filter.trims c.in-Line.conversion.now body error)
    (λ error. error ≢ Output → ConvertingFails filter c.args.number c.args.line.now
    (line_error c.args.failed.now error))
    (λ error fails other. converting_fails filter c.args.number c.args.line.now
    (Line c.in-Line.conversion) (line_error c.args.failed.now error) c.in-Line.is
    (c.requires, fails other))
    c.convert_line.ensures.fails_with

pub returns-in-Line-clause-prefix : goal.returns-in-Line-clause-prefix
returns-in-Line-clause-prefix g c = λ is.
    converted_text c.args.self.now c.args.number c.args.line.now c.in-Line.conversion
    (AppendsPrefix (g.W.Sink.contents c.args.sink.now) (g.W.Sink.contents c.convert_line.new.sink)) c.in-Line.is
    (c.convert_line.ensures.prefix is)

pub returns-in-Field-clause-printed : goal.returns-in-Field-clause-printed
returns-in-Field-clause-printed g c =
    on_ok_weaker c.convert_fields.result
    (λ found. let (text, is, put) = found in
    converted_line c.args.self.now c.args.number c.args.line.now (Field c.in-Field.base c.in-Field.field)
    (Appends (g.W.Sink.contents c.args.sink.now) (g.W.Sink.contents c.convert_fields.new.sink)) c.in-Field.is
    text is put)
    (rw c.from_ref-fields.ensures.value at c.convert_fields.ensures.printed)

pub returns-in-Field-clause-fails_with : goal.returns-in-Field-clause-fails_with
returns-in-Field-clause-fails_with g c =
    let filter = c.args.self.now in
    let body = body_of filter c.args.number c.args.line.now in
    let field = c.in-Field.field in
    let failed = c.convert_fields.new.failed in
    err_weaker c.convert_fields.result
    (λ error. error ≢ Output → EditingFails filter.trims c.in-Field.base body (field ∷ []) (line_error failed error))
    (λ error. error ≢ Output → ConvertingFails filter c.args.number c.args.line.now (line_error failed error))
    (λ error fails other. converting_fails filter c.args.number c.args.line.now (Field c.in-Field.base field)
    (line_error failed error) c.in-Field.is (fails other))
    (rw c.from_ref-fields.ensures.value at c.convert_fields.ensures.fails_with)

pub returns-in-Field-clause-prefix : goal.returns-in-Field-clause-prefix
returns-in-Field-clause-prefix g c = λ output.
    let (text, is, put) = (rw c.from_ref-fields.ensures.value at c.convert_fields.ensures.prefix) output in
    converted_line c.args.self.now c.args.number c.args.line.now (Field c.in-Field.base c.in-Field.field)
    (AppendsPrefix (g.W.Sink.contents c.args.sink.now) (g.W.Sink.contents c.convert_fields.new.sink)) c.in-Field.is
    text is put

pub returns-in-Fields-clause-printed : goal.returns-in-Fields-clause-printed
returns-in-Fields-clause-printed g c =
    on_ok_weaker c.convert_fields-in-Fields.result
    (λ found. let (text, is, put) = found in
    converted_line c.args.self.now c.args.number c.args.line.now (Fields c.in-Fields.base c.in-Fields.fields)
    (Appends (g.W.Sink.contents c.args.sink.now) (g.W.Sink.contents c.convert_fields-in-Fields.new.sink)) c.in-Fields.is
    text is put)
    (rw c.as_slice.ensures.value at c.convert_fields-in-Fields.ensures.printed)

pub returns-in-Fields-clause-fails_with : goal.returns-in-Fields-clause-fails_with
returns-in-Fields-clause-fails_with g c =
    let filter = c.args.self.now in
    let body = body_of filter c.args.number c.args.line.now in
    let fields = c.in-Fields.fields in
    let failed = c.convert_fields-in-Fields.new.failed in
    err_weaker c.convert_fields-in-Fields.result
    (λ error. error ≢ Output → EditingFails filter.trims c.in-Fields.base body fields.items (line_error failed error))
    (λ error. error ≢ Output → ConvertingFails filter c.args.number c.args.line.now (line_error failed error))
    (λ error fails other. converting_fails filter c.args.number c.args.line.now (Fields c.in-Fields.base fields)
    (line_error failed error) c.in-Fields.is (fails other))
    (rw c.as_slice.ensures.value at c.convert_fields-in-Fields.ensures.fails_with)

pub returns-in-Fields-clause-prefix : goal.returns-in-Fields-clause-prefix
returns-in-Fields-clause-prefix g c = λ output.
    let (text, is, put) = (rw c.as_slice.ensures.value at c.convert_fields-in-Fields.ensures.prefix) output in
    converted_line c.args.self.now c.args.number c.args.line.now (Fields c.in-Fields.base c.in-Fields.fields)
    (AppendsPrefix (g.W.Sink.contents c.args.sink.now) (g.W.Sink.contents c.convert_fields-in-Fields.new.sink))
    c.in-Fields.is text is put
