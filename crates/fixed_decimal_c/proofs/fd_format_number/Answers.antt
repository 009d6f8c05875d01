use Rattle.std.proofs.Common.{Err, refl}
use Rattle.fixed_decimal_c.proofs.lemmas.formatter.Made.{formats_by_options}
use Rattle.fixed_decimal_c.proofs.fd_format_number.Goals as goal

pub returns-in-Ok : goal.returns-in-Ok
returns-in-Ok c =
    let (answer, encodes, formats) = c.fd_format.ensures in
    let same = formats_by_options c.args.locale.now c.args.options.now c.in-Ok.formatter answer c.args.text.now in
    (answer, encodes, same c.args.buffer.now c.fd_format.new.buffer c.in-Ok.ensures formats)

pub returns-in-Err : goal.returns-in-Err
returns-in-Err c =
    (Err c.in-Err.error, c.encode.ensures, (Err c.in-Err.error, c.in-Err.ensures, (refl, refl)))
