use Rattle.std.proofs.Common.{refl}
use Rattle.plural_rules.specs.declared.rules.PluralCategory.{PluralCategory}
use Rattle.number_format.proofs.lemmas.read.SaidNumbers.{says_none_of}
use Rattle.number_format.proofs.read.unit_texts.number_said.Goals as goal

pub returns-then-is_unit_text : goal.returns-then-is_unit_text
returns-then-is_unit_text c = record {
  category = PluralCategory.One;
  number = refl;
  is = c.is_unit_text.ensures.0 c.if-is_unit_text.true;
}

pub returns-then-is_unit_text-2 : goal.returns-then-is_unit_text-2
returns-then-is_unit_text-2 c = record {
  category = PluralCategory.Two;
  number = refl;
  is = c.is_unit_text-2.ensures.0 c.if-is_unit_text-2.true;
}

pub returns : goal.returns
returns c =
    says_none_of c.args.texts.now c.args.text.now
    (λ one. let t = c.is_unit_text.ensures.1 one in absurd (cc (t, c.if-is_unit_text.false)))
    (λ two. let t = c.is_unit_text-2.ensures.1 two in absurd (cc (t, c.if-is_unit_text-2.false)))
