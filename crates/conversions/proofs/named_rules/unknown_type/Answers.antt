use Rattle.std.proofs.Common.{◌≡◌, ◌≢◌, [], Some, true, sym, ap, ◌∙◌, arith}
use Rattle.std.specs.{Option.option_copied, List.list_all, Char.is_ascii_alphabetic}
use Rattle.conversions.specs.{NamedRules.{is_tag, type_of}, Parameters.tag_of}
use Rattle.conversions.proofs.named_rules.unknown_type.Goals as goal

pub returns-in-None-clause-some : goal.returns-in-None-clause-some
returns-in-None-clause-some c =
    let word = c.args.word.now in
    let letters = c.in-Some.letters.now in
    let copied : option_copied c.split_parameters.result.1 ≡ Some letters = ap option_copied c.in-Some.is in
    let tag : is_tag (tag_of word) ≡ true =
    ap is_tag (sym c.split_parameters.ensures.tag) ∙ sym c.is_tag.ensures ∙ c.if-not-is_tag.false in
    let some : letters ≢ [] = grind arith in
    let all : list_all is_ascii_alphabetic letters ≡ true = sym c.are_letters.ensures ∙ c.if-not-are_letters.false in (
      tag,
      sym c.split_parameters.ensures.option ∙ copied,
      some,
      all,
      sym (c.in-None.ensures ∙ ap type_of copied),
    )
