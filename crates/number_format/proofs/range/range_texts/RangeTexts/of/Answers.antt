use Rattle.std.proofs.Common.{subst, sym, refl}
use Rattle.std.specs.Prelude.{IsSomeAnd}
use Rattle.locale_data.specs.Locales.{IsLocale}
use Rattle.number_format.proofs.range.range_texts.RangeTexts.of.Goals as goal

pub unreachable-requires : goal.unreachable-requires
unreachable-requires c =
    subst (λ o. IsSomeAnd o (IsLocale c.args.tag.now)) c.in-None.ensures.none c.in_ok-id.ensures.found

pub returns-clause-some : goal.returns-clause-some
returns-clause-some c = record {
  tag_is = refl;
  id = c.in_ok-id.id;
  system = c.in-Some.system.now;
  rows = c.in_ok-id.ensures.rows;
  system_is = sym c.in-Some.ensures.value;
  format_is = c.range_format.ensures;
}
