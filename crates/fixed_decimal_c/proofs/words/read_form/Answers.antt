use Rattle.std.proofs.Common.{◌≡◌, Some, sym, ap, ◌∙◌}
use Rattle.std.specs.Option.{option_copied}
use Rattle.conversions.specs.{Parameters.{option_of, locale_option}, ReadWord.read_option}
use Rattle.fixed_decimal_c.proofs.lemmas.words.WordParts.{skeleton_of_word}
use Rattle.fixed_decimal_c.proofs.words.read_form.Goals as goal

pub skeleton_form-requires : goal.skeleton_form-requires
skeleton_form-requires c =
    let word = c.args.word.now in
    let skeleton = c.in-Some.skeleton.now in
    let option = c.split_parameters.ensures.option ∙ ap option_of c.parameters.ensures in
    let is : (read_option (locale_option word)).1 ≡ Some skeleton =
    ap (λ o. (read_option o).1) (sym option) ∙ ap (λ o. o.1) (sym c.split_mode-mode.ensures)
    ∙ ap option_copied c.in-Some.is in
    skeleton_of_word word skeleton is
