use Rattle.std.proofs.Common.{Some, ap, ◌∙◌}
use Rattle.std.specs.Option.{option_map}
use Rattle.conversions.specs.Parameters.{tag_of}
use Rattle.cli.proofs.plural.named_tag.Goals as goal

pub returns-in-Some : goal.returns-in-Some
returns-in-Some c =
    ap Some c.in-Some.ensures.tag ∙ ap (option_map (λ _. tag_of c.args.word.now)) c.in-Some.ensures.rule_type

pub returns-in-None : goal.returns-in-None
returns-in-None c = ap (option_map (λ _. tag_of c.args.word.now)) c.in-None.ensures.rule_type
