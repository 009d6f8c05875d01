use Rattle.std.proofs.Common.{◌≡◌, ◌&&◌, ℕ, Bool, true, false, Option, Some, None, refl, sym, ◌∙◌, ap}
use Rattle.std.specs.Prelude.{is_none, is_some}
use Rattle.plural_rules.specs.Rules.{modulus_of}
use Rattle.locale_data.specs.Plurals.{is_just, operand_is}
use Rattle.locale_data.proofs.plural_rows.is_equation.Goals as goal

none_is : (o : Option ℕ) → is_some o ≡ false → is_none o ≡ true
none_is None e = refl
none_is (Some n) e = absurd (cc)

all : (a b e j : Bool) → a ≡ true → b ≡ true → e ≡ true → j ≡ (a && (b && (e && j)))
all true true true j x y z = refl
all true true false j x y z = absurd (cc)
all true false e j x y z = absurd (cc)
all false b e j x y z = absurd (cc)

pub returns : goal.returns
returns c =
    let row = c.args.relation.now in
    let operand = operand_is c.args.operand row.operand in
    let modulus = modulus_of row.modulus in
    c.is_just.ensures ∙ ap (is_just c.args.number) c.part.ensures
    ∙ all operand (is_none modulus) row.is_equal _
    (sym c.operand_is.ensures ∙ c.if-not-operand_is.false)
    (none_is modulus (ap is_some (sym c.new.ensures) ∙ sym c.is_some.ensures ∙ c.if-is_some.false))
    c.if-not-relation.false
