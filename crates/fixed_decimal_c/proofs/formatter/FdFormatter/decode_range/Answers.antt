use Rattle.std.proofs.Common.{◌≡◌, Some, inl, inr, rules, subst, sym}
use Rattle.std.specs.Str.{IsUtf8}
use Rattle.locale_data.specs.{Locales.IsUnknown, Rows.unpadded}
use Rattle.number_format.specs.FormattedRanges.{AreRangeTexts}
use Rattle.fixed_decimal_c.proofs.formatter.FdFormatter.decode_range.Goals as goal

pub returns-in_default-ranges_at-clause-none : goal.returns-in_default-ranges_at-clause-none
returns-in_default-ranges_at-clause-none c =
    inl (inr (inr (c.in-Some.ids, c.in-Some.ensures.some.0, c.in_default-ranges_at.ensures.none)))

pub returns-in_default-from_utf8-clause-none : goal.returns-in_default-from_utf8-clause-none
returns-in_default-from_utf8-clause-none c =
    inr (λ utf8. absurd (c.in_default-from_utf8.ensures.cases.0 (subst IsUtf8 (sym c.unpadded.ensures) utf8)))

pub returns-in-Some-in_system-clause-some : goal.returns-in-Some-in_system-clause-some
returns-in-Some-in_system-clause-some c =
    let is : c.in-Ok.tag.now ≡ unpadded c.args.self.now.tag = search rules in
    let system = c.in-Some-system_text.system.now in
    let texts = c.in-Some-in_system.texts in (
      c.in-Some.ids,
      c.in-Some.options,
      c.in-Some.ensures.some.0,
      c.in-Some.ensures.some.1,
      c.in-Some-ranges_at.ensures.some,
      system,
      c.in-Some-system_text.ensures.some,
      subst (λ tag. AreRangeTexts tag (Some system) texts) is c.in-Some-in_system.ensures.some,
    )

pub returns-in-None-clause-none : goal.returns-in-None-clause-none
returns-in-None-clause-none c =
    let is : c.in-Ok.tag.now ≡ unpadded c.args.self.now.tag = search rules in
    inr (λ utf8. subst IsUnknown is c.in-None.ensures.none)
