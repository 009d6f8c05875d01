use Rattle.std.proofs.Common.{Err, refl}
use Rattle.fixed_decimal_c.proofs.lemmas.formatter.Made.{formats_by_skeleton}
use Rattle.fixed_decimal_c.proofs.fd_format_by_skeleton.Goals as goal

pub returns-in-Ok : goal.returns-in-Ok
returns-in-Ok c =
    let (answer, encodes, formats) = c.fd_format.ensures in
    let same = formats_by_skeleton c.args.locale.now c.args.skeleton.now c.in-Ok.formatter answer c.args.text.now in
    (answer, encodes, same c.args.buffer.now c.fd_format.new.buffer c.in-Ok.ensures formats)

pub returns-in-Err : goal.returns-in-Err
returns-in-Err c =
    (Err c.in-Err.error, c.encode.ensures, (Err c.in-Err.error, c.in-Err.ensures, (refl, refl)))
