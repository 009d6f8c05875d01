use Rattle.std.specs.Str.{chars}
use Rattle.number_format.proofs.lemmas.read.TypedTexts.{all_out, first_kept}
use Rattle.number_format.proofs.read.compact.typed.split_kept.Goals as goal

pub returns-in_err-c : goal.returns-in_err-c
returns-in_err-c c =
    rw c.from_residual.ensures
    (all_out (chars c.args.text.now) (chars c.skip_left_out.result.now) c.skip_left_out.ensures c.in_err-c.ensures)

pub returns : goal.returns
returns c =
    first_kept (chars c.args.text.now) (chars c.skip_left_out.result.now) (chars c.in_ok-c.after.now) c.in_ok-c.c
    c.skip_left_out.ensures c.in_ok-c.ensures.0
