use Rattle.std.proofs.Common.{refl, ◌∙◌, ap, sym, subst}
use Rattle.number_format.specs.Formatters.{style_sizes, IsStyle}
use Rattle.number_format.proofs.lemmas.format.StyleSystems.{has_system}
use Rattle.number_format.proofs.format.formatter.NumberFormatter.with_outer.Goals as goal

pub returns-clause-some : goal.returns-clause-some
returns-clause-some c =
    let o = c.args.options.now in
    let formats = c.args.ids.now.formats in
    let written = c.style_of-shown.result.0 in
    let currency = c.in_ok-currency.currency in
    let own = c.in_ok-symbols.symbols in
    let named = has_system c.args.ids.now.symbols o.numbering_system own (sym c.in_ok-symbols.ensures.value) in
    let style =
    subst (λ z. IsStyle o.style o.notation c.in_style-outer.result named.0 z formats currency o.sign_display written
    c.style_of-shown.result.1)
    c.sizes-own.ensures (c.style_of-shown.ensures named.0 named.1) in
    let sizes =
    c.style_sizes-sizes.ensures ∙ ap (style_sizes written.pattern o.group_sizes o.grouping) c.sizes-own.ensures in
    record {
      own = own;
      system = named.0;
      currency = currency;
      symbols_are = sym c.in_ok-symbols.ensures.value;
      system_is = named.1;
      currency_is = c.in_ok-currency.ensures.found;
      formats = refl;
      rules = refl;
      made = record {
        signs = c.signs-signs.result;
        written = written;
        signs_are = c.signs-signs.ensures;
        outer = c.in_style-outer.ensures;
        style_is = style;
        symbols = c.with_sizes.ensures ∙ (λ i. record (c.with_separators.ensures i) { sizes = sizes i });
        pattern = refl;
        percent = c.new.ensures.text ∙ c.percent_text-percent.ensures.value;
        percent_kind_is = c.new.ensures.kind ∙ c.percent_kind.ensures;
        separator = c.new-2.ensures.text ∙ c.text.ensures;
        options = refl;
        notation_is = c.notation_of.ensures;
        digits = c.shown_digits.ensures;
      };
    }
