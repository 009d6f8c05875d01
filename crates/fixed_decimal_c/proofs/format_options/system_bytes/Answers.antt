use Rattle.std.proofs.{Common.{◌≡◌, ◌-◌, ◌≤◌, ◌++◌, length, replicate, Some, ap, ◌∙◌, arith}, lemmas.List.take_all}
use Rattle.locale_data.specs.{Codes.system_name, Rows.unpadded}
use Rattle.locale_data.proofs.lemmas.currency_code.Letters.{system_name_of_name, unpadded_spaces}
use Rattle.fixed_decimal_c.specs.FormatOptions.{padded_name}
use Rattle.fixed_decimal_c.proofs.format_options.system_bytes.Goals as goal

pub returns : goal.returns
returns c =
    let name = c.as_str.result.now in
    let is = c.as_str.ensures.name in
    let short = is.short in
    let few : length name ≤ 16 = omega arith in
    let whole : unpadded (padded_name name) ≡ name =
    ap (λ t. unpadded (t ++ replicate (16 - length name) 32)) (take_all 16 name few)
    ∙ unpadded_spaces name (16 - length name) is in
    ap (λ t. system_name (unpadded t)) c.padded_name.ensures ∙ ap system_name whole ∙ system_name_of_name name is
    ∙ ap Some c.as_str.ensures.value
