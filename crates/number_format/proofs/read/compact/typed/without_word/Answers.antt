use Rattle.std.proofs.{Common.{◌++◌, ◌≢◌, ◌∷◌, ℕ, List, refl, inl, inr}, lemmas.Bool.iff_false}
use Rattle.std.specs.Str.{chars}
use Rattle.number_format.proofs.lemmas.read.TypedTexts.{left_of_word}
use Rattle.number_format.proofs.read.compact.typed.without_word.Goals as goal

pub returns-in_err-rest : goal.returns-in_err-rest
returns-in_err-rest c =
    rw c.from_residual-in_err-rest.ensures (inl (λ left is. c.in_err-rest.ensures is.rest is.follows))

pub returns-in_err-left : goal.returns-in_err-left
returns-in_err-left c =
    let front = c.args.front.now in
    let rest = c.in_ok-rest.rest.now in
    let begins : (cs : List ℕ) → chars c.args.tail.now ≢ 46 ∷ cs =
    λ cs e. iff_false c.begins_with_period.ensures c.if-begins_with_period.false (cs, e) in
    rw c.from_residual-in_err-left.ensures
    (inr (
      front ++ rest,
      left_of_word (chars c.args.word.now) (chars c.in_ok-split_kept.field-0.1.now) c.in_ok-split_kept.field-0.0
          c.in_ok-split_kept.ensures front c.args.tail.now rest c.utf8.front c.in_ok-rest.ensures.1 begins
          c.in_ok-rest.ensures.0 (front ++ rest) refl,
      c.in_err-left.ensures,
    ))

pub returns : goal.returns
returns c =
    let begins : (cs : List ℕ) → chars c.args.tail.now ≢ 46 ∷ cs =
    λ cs e. iff_false c.begins_with_period.ensures c.if-begins_with_period.false (cs, e) in
    left_of_word (chars c.args.word.now) (chars c.in_ok-split_kept.field-0.1.now) c.in_ok-split_kept.field-0.0
    c.in_ok-split_kept.ensures c.args.front.now c.args.tail.now c.in_ok-rest.rest.now c.utf8.front
    c.in_ok-rest.ensures.1 begins c.in_ok-rest.ensures.0 c.in_ok-left.left.bytes c.in_ok-left.ensures
