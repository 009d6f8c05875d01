use Rattle.std.proofs.Common.{subst, refl}
use Rattle.locale_data.specs.Formats.{format_system, IsLatinFormats, AreOfSystem}
use Rattle.locale_data.proofs.lemmas.tables.FormatRows.{formats-below}
use Rattle.locale_data.proofs.formats.formats_of.Goals as goal

pub invariant_of-result : goal.invariant_of-result
invariant_of-result c =
    let b = formats-below c.as_bytes-system.result.now c.as_bytes-tag.result.now c.system_formats.result.0
    c.system_formats.result.1 c.latin_formats-latin.result c.latin_formats-latin.ensures c.system_formats.ensures in
    record {
      percent_listed = rw c.chosen.ensures b.percent;
      standard_listed = rw c.chosen-2.ensures b.standard;
      accounting_listed = rw c.chosen-3.ensures b.accounting;
      signs_listed = rw c.chosen-4.ensures b.signs;
      compact_listed = rw c.chosen-5.ensures b.compact;
      unit_listed = b.unit;
      money_listed = b.money;
    }

pub returns : goal.returns
returns c =
    let at_tag = c.as_bytes-tag.ensures.value in
    let at_system = c.as_bytes-system.ensures.value in
    let own = c.system_formats.result.0 in
    let root = c.system_formats.result.1 in
    record {
      latin = c.latin_formats-latin.result;
      own = c.system_formats.result.0;
      root = c.system_formats.result.1;
      of_latin = subst (λ t. IsLatinFormats t c.latin_formats-latin.result) at_tag c.latin_formats-latin.ensures;
      of_system = subst (λ n. AreOfSystem (format_system n) c.args.tag.now own root) at_system
          (subst (λ t. AreOfSystem (format_system c.as_bytes-system.result.now) t own root) at_tag
          c.system_formats.ensures);
      percent = c.chosen.ensures;
      standard = c.chosen-2.ensures;
      accounting = c.chosen-3.ensures;
      signs = c.chosen-4.ensures;
      compact = c.chosen-5.ensures;
      unit = refl;
      money = refl;
    }
