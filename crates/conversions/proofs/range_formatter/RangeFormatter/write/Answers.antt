use Rattle.std.specs.Io.KnownBytes.{Appends}
use Rattle.decimal_digits.specs.AppendsPrefix.{AppendsPrefix}
use Rattle.conversions.proofs.lemmas.conversion.Ranges.{range_text_written, range_text_fails, range_text_begun}
use Rattle.conversions.proofs.range_formatter.RangeFormatter.write.Goals as goal

pub returns-in-Ok-clause-written : goal.returns-in-Ok-clause-written
returns-in-Ok-clause-written g c =
    range_text_written c.args.self.now c.args.start c.args.end _ c.in-Ok.ensures.text c.write_text.result
    (Appends (g.W.Sink.contents c.args.sink.now) (g.W.Sink.contents c.write_text.new.sink)) c.write_text.ensures.written

pub returns-in-Ok-clause-fails_with : goal.returns-in-Ok-clause-fails_with
returns-in-Ok-clause-fails_with g c =
    range_text_fails c.args.self.now c.args.start c.args.end _ c.in-Ok.ensures.text c.write_text.result
    c.write_text.ensures.fails_with

pub returns-in-Ok-clause-prefix : goal.returns-in-Ok-clause-prefix
returns-in-Ok-clause-prefix g c =
    range_text_begun c.args.self.now c.args.start c.args.end _ c.in-Ok.ensures.text c.write_text.result
    (AppendsPrefix (g.W.Sink.contents c.args.sink.now) (g.W.Sink.contents c.write_text.new.sink))
    c.write_text.ensures.prefix
