use Rattle.std.proofs.{lemmas.{List.reverse-reverse, Str.{IsCharBoundary-from_take, encodes-chars}}, Common.{length, reverse, take, drop, ◌∙◌, ap, sym, subst}}
use Rattle.std.specs.Str.{IsUtf8, chars, encode_utf8_all}
use Rattle.number_format.specs.TrimmedTexts.{kept_length}
use Rattle.number_format.proofs.format.trimmed.split_end.Goals as goal

pub split_at-requires : goal.split_at-requires
split_at-requires c =
    let text = c.args.text.now in
    let rest = c.without_end.result.now in
    let start = c.without_end.ensures.start in
    IsCharBoundary-from_take text (length rest) c.utf8.text c.without_end.ensures.bound
    (subst IsUtf8 start c.without_end.utf8)

pub returns : goal.returns
unfolding kept_length
returns c =
    let rest = c.without_end.result.now in
    let count = ap length (sym (encodes-chars rest c.without_end.utf8)
    ∙ ap encode_utf8_all (sym (reverse-reverse (chars rest)) ∙ ap reverse c.without_end.ensures.kept)) in
    let text = c.args.text.now in
    (c.split_at.ensures.front ∙ ap (λ n. take n text) count, c.split_at.ensures.back ∙ ap (λ n. drop n text) count)
