use Rattle.std.proofs.Common.{Some, ap, ◌∙◌}
use Rattle.std.specs.Option.{option_map}
use Rattle.locale_data.specs.Plurals.{text_of}
use Rattle.locale_data.proofs.plurals.rules_text_at.Goals as goal

pub returns-in-Some : goal.returns-in-Some
returns-in-Some c = ap Some c.part.ensures ∙ ap (option_map text_of) c.in-Some.ensures

pub returns-in-None : goal.returns-in-None
returns-in-None c = ap (option_map text_of) c.in-None.ensures
