use Rattle.std.proofs.Common.{ap, ◌∙◌}
use Rattle.std.specs.Prelude.{unwrap_or}
use Rattle.conversions.proofs.lemmas.calls.Lookups.{lookup-none}
use Rattle.cli.specs.{Columns.column_of, Options.{copied_options, plain_options, delimiter_of, with_parameter}}
use Rattle.cli.proofs.words.options.Options.with.Goals as goal

pub returns-in_default : goal.returns-in_default
returns-in_default c =
    let word = c.args.word.now in
    let is = c.in_default in
    c.with_parameter.ensures
    ∙ ap (λ change. unwrap_or change (with_parameter (column_of word) (delimiter_of word)) (copied_options c.args.self))
    (lookup-none plain_options word
    (is.not-skip, (is.not-keep, (is.not-csv, (is.not-header, (is.not-records, (is.not-trim, tt)))))))
