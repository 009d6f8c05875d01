use Rattle.std.proofs.Common.{List, ℕ, inl, inr, subst, refl}
use Rattle.std.specs.Str.{chars}
use Rattle.number_format.specs.TypedWords.{IsAfterWord}
use Rattle.number_format.proofs.read.compact.typed.TypedText.read_after_word.Goals as goal

pub returns-in_default : goal.returns-in_default
returns-in_default g c =
    let text = chars c.args.self.now.text.now in
    inr (
      subst (λ w. (left : List ℕ) → ¬ IsAfterWord (chars w) text left) c.word_before.ensures c.in_default.ensures,
      refl,
    )

pub returns : goal.returns
returns g c =
    let text = chars c.args.self.now.text.now in
    let left = c.in-Some.left.now in
    inl (
      left,
      subst (λ w. IsAfterWord (chars w) text left) c.word_before.ensures c.in-Some.ensures,
      c.read_left.ensures,
    )
