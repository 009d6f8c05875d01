use Rattle.std.proofs.Common.{inl, inr, subst}
use Rattle.std.specs.Str.{chars}
use Rattle.number_format.specs.TypedWords.{typing, IsWithoutWord, IsNoneLeft, IsReadLeft}
use Rattle.number_format.proofs.read.compact.typed.TypedText.read_without_word.Goals as goal

pub returns-in_default : goal.returns-in_default
returns-in_default g c =
    let t = c.args.self.now in
    inr (
      subst (λ w. IsNoneLeft (chars w) (chars t.front.now) (chars t.tail.now)) c.word.ensures
          c.in_default.ensures,
      c.read_after_word.ensures,
    )

pub returns : goal.returns
returns g c =
    let t = c.args.self.now in
    let left = c.in-Some.left.bytes in
    inl (
      left,
      subst (λ w. IsWithoutWord (chars w) (chars t.front.now) (chars t.tail.now) left) c.word.ensures
          c.in-Some.ensures,
      subst (λ x. IsReadLeft (typing g.D.DigitStore.L t) c.args.index x c.read_left.result) c.as_str.ensures.value
          c.read_left.ensures,
    )
