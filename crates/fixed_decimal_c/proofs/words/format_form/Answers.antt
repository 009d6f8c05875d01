use Rattle.std.proofs.{Common.{◌≡◌, Some, sym, ap, ◌∙◌}, lemmas.Option.none-some}
use Rattle.std.specs.Option.{option_copied}
use Rattle.decimal_format.specs.declared.grouping.GroupingStrategy.TheVariants.{Auto}
use Rattle.conversions.specs.Parameters.{option_of, locale_option}
use Rattle.fixed_decimal_c.proofs.lemmas.words.WordParts.{option_of_word}
use Rattle.fixed_decimal_c.proofs.words.format_form.Goals as goal

pub skeleton_form-requires : goal.skeleton_form-requires
skeleton_form-requires c =
    let word = c.args.word.now in
    let skeleton = c.in-Some-option.skeleton.now in
    let option : locale_option word ≡ Some skeleton =
    sym (c.split_parameters.ensures.option ∙ ap option_of c.parameters.ensures)
    ∙ ap option_copied c.in-Some-option.is in
    option_of_word word skeleton option

pub returns-in-None-clause-err : goal.returns-in-None-clause-err
returns-in-None-clause-err c =
    absurd (none-some Auto (rw c.in-None.is at c.in_default.ensures))
