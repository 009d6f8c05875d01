use Rattle.std.proofs.{lemmas.Str.{IsCharBoundary-from_drop, encodes-chars}, Common.{◌-◌, length, take, drop, ◌∙◌, ap, sym, subst, arith}}
use Rattle.std.specs.Str.{IsUtf8, encode_utf8_all}
use Rattle.number_format.specs.TrimmedTexts.{trimmed_length}
use Rattle.number_format.proofs.format.trimmed.split_start.Goals as goal

pub split_at-requires : goal.split_at-requires
split_at-requires c =
    let text = c.args.text.now in
    let rest = c.without_start.result.now in
    IsCharBoundary-from_drop text (length text - length rest) (omega arith)
    (subst IsUtf8 c.without_start.ensures.end c.without_start.utf8)

pub returns : goal.returns
unfolding trimmed_length
returns c =
    let rest = c.without_start.result.now in
    let bytes = ap length (sym (encodes-chars rest c.without_start.utf8)
    ∙ ap encode_utf8_all c.without_start.ensures.kept) in
    let text = c.args.text.now in
    let count = ap (λ n. length text - n) bytes in
    (c.split_at.ensures.front ∙ ap (λ n. take n text) count, c.split_at.ensures.back ∙ ap (λ n. drop n text) count)
