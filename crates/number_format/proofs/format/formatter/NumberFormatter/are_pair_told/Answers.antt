use Rattle.std.proofs.Common.{sym, ◌∙◌}
use Rattle.decimal_format.specs.Symbols.{affixes}
use Rattle.number_format.specs.CompactReading.{word_pattern}
use Rattle.number_format.proofs.lemmas.read.PatternLists.{told_by}
use Rattle.number_format.proofs.format.formatter.NumberFormatter.are_pair_told.Goals as goal

pub returns : goal.returns
returns c =
    let f = c.args.self.now in
    let style = c.args.style in
    let first = (λ i. affixes (c.texts.ensures.prefix i) (c.texts.ensures.suffix i)) ∙ c.word_texts-texts.ensures in
    let texts = c.texts-2.ensures in
    let second = (λ i. affixes (texts.prefix i) (texts.suffix i)) ∙ c.word_texts-others.ensures in
    let told = told_by f.style.symbols c.are_told_apart.result _ _ _ _ (word_pattern f style c.args.first)
    (word_pattern f style c.args.second) first second c.word_name.ensures c.word_name-2.ensures
    c.are_told_apart.ensures in (
      λ t has next. told.0 t,
      λ apart. told.1 (apart (sym c.has_number_in.ensures ∙ c.if-not-has_number_in.false)
          (sym c.has_number_in-2.ensures ∙ c.if-not-has_number_in-2.false)),
    )
