use Rattle.std.specs.Str.{chars}
use Rattle.number_format.proofs.lemmas.read.TypedTexts.{follows_less, follows_more}
use Rattle.number_format.proofs.read.compact.typed.+after_word.Goals as goal

pub returns-in_err-rest : goal.returns-in_err-rest
returns-in_err-rest t c =
    rw c.from_residual-in_err-rest.ensures
    (λ rest is.
    c.in_err-rest.ensures rest
    (follows_less (chars c.args.word.now) (chars c.args.text.now) c.in-Some.wanted (chars c.in-Some.others.now)
    c.in-Some.ensures c.in_ok-typed.typed (chars c.in_ok-typed.after.now) c.in_ok-typed.ensures
    (c.is_same_letter.ensures.0 c.if-is_same_letter.true) rest is))

pub returns-then-is_same_letter : goal.returns-then-is_same_letter
returns-then-is_same_letter t c = (
  follows_more (chars c.args.word.now) (chars c.args.text.now) c.in-Some.wanted (chars c.in-Some.others.now)
      c.in-Some.ensures c.in_ok-typed.typed (chars c.in_ok-typed.after.now) c.in_ok-typed.ensures
      (c.is_same_letter.ensures.0 c.if-is_same_letter.true) (chars c.in_ok-rest.rest.now) c.in_ok-rest.ensures.0,
  c.in_ok-rest.ensures.1,
)
