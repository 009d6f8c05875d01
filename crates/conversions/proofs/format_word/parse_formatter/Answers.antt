use Rattle.std.proofs.{Common.{◌≡◌, ◌∙◌, [], Some, inl, sym, ap, arith}, lemmas.{List.nil_from_length, Option.none-some}}
use Rattle.std.specs.Option.{option_copied}
use Rattle.decimal_format.specs.declared.grouping.GroupingStrategy.TheVariants.{Auto}
use Rattle.conversions.specs.Parameters.{option_of, locale_option}
use Rattle.conversions.proofs.format_word.parse_formatter.Goals.{in_default-option-via-in-Some-option+else-not-is_empty, in_default-option-via-in_default-option}
use Rattle.conversions.proofs.format_word.parse_formatter.Goals as goal

pub returns-in_default-option-clause-err : goal.returns-in_default-option-clause-err
returns-in_default-option-clause-err c =
    let option : locale_option c.in-Some.word.now ≡ option_copied c.split_parameters.result.1 =
    sym (c.split_parameters.ensures.option ∙ ap option_of c.parameters.ensures) in
    elim c.in_default-option.branch [
      | in_default-option-via-in-Some-option+else-not-is_empty w ↦
          let empty : w.in-Some-option.skeleton.now ≡ [] =
          nil_from_length w.in-Some-option.skeleton.now (grind arith) in
          let given : locale_option c.in-Some.word.now ≡ Some [] =
          option ∙ ap option_copied w.in-Some-option.is ∙ ap Some empty in
          rw c.in-Some.is (inl (given, c.of.ensures))
      | in_default-option-via-in_default-option w ↦
          absurd (none-some Auto (rw w.in_default-option.is at c.in_default-parse_strategy.ensures))
    ]
