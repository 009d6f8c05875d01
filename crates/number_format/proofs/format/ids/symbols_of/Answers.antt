use Rattle.std.proofs.Common.{◌≡◌, true, false, ap, subst, sym, ◌∙◌, inl, inr}
use Rattle.std.specs.Prelude.{IsSomeAnd}
use Rattle.locale_data.specs.Locales.{symbols_at, system_named, IsLocaleIn, IsUnknown}
use Rattle.number_format.specs.{Formatters.{AreSymbolsOf, IsFormatterError}, declared.format.ids.NumberFormatError.TheVariants.UnknownNumberingSystem}
use Rattle.number_format.proofs.format.ids.symbols_of.Goals as goal

differ : true ≡ false → ⊥
differ e = cc

pub returns-in-None-clause-known : goal.returns-in-None-clause-known
returns-in-None-clause-known c = λ u. differ (c.in-Some.ensures.unknown.1 u)

pub returns-in-None-clause-ok : goal.returns-in-None-clause-ok
returns-in-None-clause-ok c =
    subst (λ n. AreSymbolsOf c.args.tag.now n c.in-Some.own) (sym c.in-None.is)
    (c.in-Some.ensures.found, c.in-Some.ensures.rows)

pub returns-in-Some-locale_id_in-clause-known : goal.returns-in-Some-locale_id_in-clause-known
returns-in-Some-locale_id_in-clause-known c = λ u. differ (c.in-Some.ensures.unknown.1 u)

pub returns-in-Some-locale_id_in-clause-ok : goal.returns-in-Some-locale_id_in-clause-ok
returns-in-Some-locale_id_in-clause-ok c =
    let id = c.in-Some-locale_id_in.id in
    let same = c.as_str.ensures.value in
    subst (λ n. AreSymbolsOf c.args.tag.now n id) (sym c.in-Some-name.is)
    (subst (λ t. IsSomeAnd (symbols_at id) (IsLocaleIn c.args.tag.now t)) same c.in-Some-locale_id_in.ensures.found)

pub returns-in-None-locale_id_in-clause-err : goal.returns-in-None-locale_id_in-clause-err
returns-in-None-locale_id_in-clause-err c =
    let tag = c.args.tag.now in
    let known : ¬ IsUnknown tag = λ u. differ (c.in-Some.ensures.unknown.1 u) in
    let same = c.as_str.ensures.value in
    subst (λ n. IsFormatterError tag n UnknownNumberingSystem) (sym c.in-Some-name.is) (
      known,
      elim c.in-None-locale_id_in.ensures.unknown [
        | inl none ↦ absurd (known (inl none))
        | inr none ↦ ap system_named (sym same) ∙ none
      ],
    )
