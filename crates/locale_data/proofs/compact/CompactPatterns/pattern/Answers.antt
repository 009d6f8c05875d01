use Rattle.std.proofs.Common.{◌≡◌, Bor, Option, Some, None, IfSome, sym, ap, ◌∙◌}
use Rattle.std.specs.Option.{option_copied}
use Rattle.locale_data.specs.{declared.tables.rows.compact.CompactPattern.CompactPattern, Compact.{pattern_for, AreTexts}}
use Rattle.locale_data.proofs.lemmas.tables.CompactRows.{pattern_has_texts}
use Rattle.locale_data.proofs.compact.CompactPatterns.pattern.Goals as goal

pub returns-clause-texts : goal.returns-clause-texts
returns-clause-texts c = have_texts c.pattern_for.result c.pattern_for.ensures
  where
    have_texts : (found : Option (Bor CompactPattern))
        → option_copied found ≡ pattern_for c.args.category c.args.is_one c.patterns.result.now
        → IfSome found (λ pattern. AreTexts pattern.now)
    have_texts None e = tt
    have_texts (Some pattern) e =
        pattern_has_texts c.args.self.0 c.args.category c.args.is_one pattern.now
        (sym (e ∙ ap (pattern_for c.args.category c.args.is_one) c.patterns.ensures))
