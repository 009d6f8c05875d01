use Rattle.std.proofs.{lemmas.{List.take-append-drop, Str.IsCharBoundary-from_take}, Common.{◌++◌, ◌∙◌, ap, drop, length, sym, subst}}
use Rattle.std.specs.Str.{IsUtf8, chars}
use Rattle.number_format.specs.TypedWords.{IsCut}
use Rattle.number_format.proofs.lemmas.read.TypedTexts.{cut_again}
use Rattle.number_format.proofs.read.compact.typed.split_number.Goals as goal

pub split_at-requires : goal.split_at-requires
split_at-requires c =
    let front = c.before_tail.result.now in
    IsCharBoundary-from_take c.args.text.now (length front) c.utf8.text c.before_tail.ensures.bound
    (subst IsUtf8 c.before_tail.ensures.start c.before_tail.utf8)

pub returns : goal.returns
returns c =
    let text = c.args.text.now in
    let front = c.before_tail.result.now in
    let rest = c.split_at.result.1.now in
    let same = c.before_tail.ensures.start ∙ sym c.split_at.ensures.front in
    let parts = sym (take-append-drop (length front) text)
    ∙ ap (λ l. l ++ drop (length front) text) (sym c.before_tail.ensures.start)
    ∙ ap (λ l. front ++ l) (sym c.split_at.ensures.back) in
    subst (λ t. IsCut text (chars t) (chars rest)) same
    (cut_again text front rest c.before_tail.ensures.cut.0 c.utf8.text c.before_tail.utf8 parts
    c.before_tail.ensures.cut.1)
