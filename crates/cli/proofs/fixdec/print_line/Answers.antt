use Rattle.std.proofs.Common.{◌≡◌, Err, rules}
use Rattle.conversions.specs.declared.error.OperationError.TheVariants.{Output}
use Rattle.cli.specs.Fixdec.{of_text}
use Rattle.cli.proofs.lemmas.program.Programs.{text_begun}
use Rattle.cli.proofs.fixdec.print_line.Goals as goal

pub returns-in_err-convert-clause-prefix : goal.returns-in_err-convert-clause-prefix
returns-in_err-convert-clause-prefix g c = λ is.
    let failed : c.convert.result ≡ Err Output = search (rules, is) in
    text_begun (of_text c.args.conversion.now c.args.text.now) (g.W.Sink.contents c.args.sink.now)
    (g.W.Sink.contents c.convert.new.sink) (c.convert.ensures.prefix failed)
