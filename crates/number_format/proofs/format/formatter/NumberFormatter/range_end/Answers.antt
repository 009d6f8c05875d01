use Rattle.std.proofs.{Common.{◌≡◌, ◌∙◌, refl, ap, rules, w32, to_z, of_z, FitsSigned}, lemmas.Int.to_z-of_z}
use Rattle.number_format.specs.{NumberText.{number_before_cut, compact_magnitude, compact_pattern, compact_style, is_one}, Scaled.scaled_value}
use Rattle.number_format.proofs.format.formatter.NumberFormatter.range_end.Goals as goal

pub returns-clause-end : goal.returns-clause-end
returns-clause-end c =
    let f = c.args.self.now in
    let v = c.args.value in
    let style = compact_style f.options.notation f.options.style in
    let significand = c.shown_number_or_unchanged.new.value in
    let shown = c.in-Ok-shown_number_or_unchanged.shown in
    let is = c.in-Ok-shown_number_or_unchanged.ensures.ok in
    let chosen = c.choice-choice.ensures in
    let fits : FitsSigned w32 shown.exponent = search rules in
    let exponent : to_z w32 (of_z w32 shown.exponent) ≡ shown.exponent = simp to_z-of_z in
    let sign = c.displayed_sign-value.ensures (number_before_cut f v) is.zero in
    let pattern = chosen.pattern
    ∙ ap (λ e. compact_pattern f.formats style (compact_magnitude f.notation significand e) chosen.category
    (is_one significand)) exponent in
    let number = scaled_value significand shown.exponent in
    let outer = c.outer_category-whole.ensures v number is.number_is refl c.in-Ok.ensures.ok in (
      record {
        number = number;
        category = chosen.category;
        whole = outer.category;
        number_is = is.number_is;
        of_significand = chosen.of_significand;
        of_whole = outer.of_whole;
        value = λ i. record {
          formatter = f;
          digits = significand.absolute;
          exponent = exponent i;
          sign = sign i;
          pattern = pattern i;
        };
      },
      outer.same,
    )
