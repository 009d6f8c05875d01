use Rattle.std.proofs.{Common.{◌≡◌, ◌∙◌, refl, rules, w32, to_z, of_z, FitsSigned}, lemmas.Int.to_z-of_z}
use Rattle.number_format.specs.{NumberText.{number_before_cut, number_part, shown_sign, compact_magnitude, compact_pattern, compact_style, is_one, outer_by, exponent_of, around_by}, PatternTexts.within, Scaled.scaled_value}
use Rattle.number_format.proofs.lemmas.format.OuterChoices.{chosen_texts}
use Rattle.number_format.proofs.format.formatted_number.FormattedNumber.choose.Goals as goal

pub returns : goal.returns
returns c v is chooses =
    let f = c.args.self.now.formatter.now in
    let value = c.args.self.now.value in
    let number = scaled_value value c.args.shown.exponent in
    let pattern = c.choice-self.ensures in
    let outer = c.outer_category-self.ensures v number is.number_is refl chooses in
    let texts = chosen_texts f _ outer.category outer.same in
    let fits : FitsSigned w32 c.args.shown.exponent = search rules in
    let exponent : to_z w32 (of_z w32 c.args.shown.exponent) ≡ c.args.shown.exponent = simp to_z-of_z in
    let sign = c.displayed_sign-self.ensures (number_before_cut f v) is.zero in
    record {
      number = number;
      category = pattern.category;
      whole = outer.category;
      number_is = is.number_is;
      of_significand = pattern.of_significand;
      of_whole = outer.of_whole;
      value = (λ i. within (texts i) (within (around_by f.style (sign i) (pattern.pattern i))
          (number_part f value.absolute (exponent_of f.options.notation (exponent i)))))
          ∙ (λ i. within (outer_by f outer.category) (within (around_by f.style (shown_sign f v value)
          (compact_pattern f.formats (compact_style f.options.notation f.options.style)
          (compact_magnitude f.notation value (exponent i)) pattern.category (is_one value)))
          (number_part f value.absolute (exponent_of f.options.notation c.args.shown.exponent))));
    }
