use Rattle.std.proofs.Common.{Err, ap}
use Rattle.conversions.proofs.locale_formatter.write_number.Goals as goal

pub returns-in-Err-Sink-clause-fails_with : goal.returns-in-Err-Sink-clause-fails_with
returns-in-Err-Sink-clause-fails_with g c =
    let begun = c.in-Err-Sink.ensures.prefix (ap Err c.in-Err-Sink.field-0-is) in (begun.0, begun.1)
