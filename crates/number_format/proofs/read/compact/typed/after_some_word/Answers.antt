use Rattle.std.specs.Str.{chars}
use Rattle.number_format.proofs.lemmas.read.TypedTexts.{after_own_word}
use Rattle.number_format.proofs.read.compact.typed.after_some_word.Goals as goal

pub returns-in_err-split_kept : goal.returns-in_err-split_kept
returns-in_err-split_kept c = rw c.from_residual.ensures (λ left is. is.some c.in_err-split_kept.ensures)

pub returns-in_err-left : goal.returns-in_err-left
returns-in_err-left c =
    rw c.from_residual-in_err-left.ensures (λ left is. c.in_err-left.ensures is.rest is.follows)

pub returns : goal.returns
returns c =
    after_own_word (chars c.args.word.now) (chars c.args.text.now) (chars c.in_ok-split_kept.field-0.1.now)
    c.in_ok-left.left.now c.in_ok-split_kept.field-0.0 c.in_ok-split_kept.ensures c.in_ok-left.ensures.1
    c.in_ok-left.ensures.0
