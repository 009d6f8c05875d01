use Rattle.std.proofs.Common.{Err, refl}
use Rattle.std.specs.Prelude.{nat_lt}
use Rattle.fixed_decimal_c.proofs.lemmas.formatter.Made.{reads_by_skeleton}
use Rattle.fixed_decimal_c.proofs.fd_read_by_skeleton.Goals as goal

pub returns-in-Ok : goal.returns-in-Ok
returns-in-Ok c =
    let (answer, encodes, reads) = c.fd_read.ensures in
    let same = reads_by_skeleton c.args.locale.now c.args.skeleton.now c.in-Ok.formatter answer c.args.text.now in
    (answer, encodes, same (nat_lt 0 c.args.lenient) c.args.buffer.now c.fd_read.new.buffer c.in-Ok.ensures reads)

pub returns-in-Err : goal.returns-in-Err
returns-in-Err c =
    (Err c.in-Err.error, c.encode.ensures, (Err c.in-Err.error, c.in-Err.ensures, (refl, refl)))
