use Rattle.std.proofs.Common.{◌≡◌, ◌∙◌, option_map}
use Rattle.decimal_unsigned.proofs.lemmas.parse.Plans.{digits_found}
use Rattle.decimal_unsigned.specs.{Parts.{views, saturated_parts}, Reading.{after_whole, parts_of}}
use Rattle.decimal_unsigned.proofs.decimal.parse.parts.split.Goals as goal

found : (c : goal.After-after_whole)
    → views c.after_whole.result ≡ option_map saturated_parts (parts_of c.args.text.now)
unfolding parts_of
found c =
    c.after_whole.ensures
    ∙ (λ i. option_map saturated_parts
    (after_whole (c.split_digits.ensures.digits i) (c.split_digits.ensures.rest i)))

pub returns-clause-digits : goal.returns-clause-digits
returns-clause-digits c = digits_found c.args.text.now c.after_whole.result (found c)
