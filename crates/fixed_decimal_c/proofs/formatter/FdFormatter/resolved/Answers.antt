use Rattle.std.proofs.{Common.{rules, sym, subst, w16, FitsSigned}, lemmas.Int.to_z-of_z}
use Rattle.fixed_decimal_c.specs.FormatOptions.{AreFormatOptions}
use Rattle.fixed_decimal_c.proofs.lemmas.formatter.Kept.{lacks}
use Rattle.fixed_decimal_c.proofs.formatter.FdFormatter.resolved.Goals as goal

pub returns-in_default-at : goal.returns-in_default-at
returns-in_default-at c = lacks c.args.self.now c.in-Some.ids c.in-Some.ensures.some.0 c.in_default-at.ensures.none

pub returns : goal.returns
returns c =
    let found = c.encode-options.result in
    let fits : FitsSigned w16 found.scale = search rules in
    let scale = to_z-of_z w16 found.scale fits in (
      c.in-Some.ids,
      c.in-Some.options,
      c.in-Some-at.formatter,
      c.in-Some.ensures.some.0,
      c.in-Some.ensures.some.1,
      c.in-Some-at.ensures.some,
      (
        found,
        c.in-Some-system_name_at.system.now,
        subst (AreFormatOptions found) c.resolved_options.ensures c.encode-options.ensures,
        sym c.in-Some-system_name_at.ensures.value,
        λ i. record found {
          scale = scale i;
          numbering_system = c.padded_name-numbering_system.ensures i;
          has_numbering_system = 1;
        },
      ),
    )
