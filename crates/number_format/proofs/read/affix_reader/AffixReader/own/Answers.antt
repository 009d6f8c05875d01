use Rattle.std.proofs.Common.{◌≡◌, inl, inr, refl, subst}
use Rattle.number_format.proofs.lemmas.read.AffixedNumbers.{IsReader, shown_by, not_shown}
use Rattle.number_format.proofs.read.affix_reader.AffixReader.own.Goals as goal

pub returns-in-Some : goal.returns-in-Some
returns-in-Some g c =
    let r = c.args.self.now in
    let can : IsReader r = subst IsReader c.self.view_is c.self.invariant in
    let symbols : c.self.inside.symbols ≡ r.symbols = cc in
    let patterns : c.as_slice.result.now ≡ r.patterns = cc in
    inl (
      shown_by r c.args.text.now can.1 c.args.value c.requires.valid c.category-category.result
          c.category-category.ensures c.args.pattern.now _ _ c.requires.written
          (rw (symbols, patterns) at c.in-Some.ensures),
      refl,
    )

pub returns-in-None-split : goal.returns-in-None-split
returns-in-None-split g c =
    let r = c.args.self.now in
    let symbols : c.self.inside.symbols ≡ r.symbols = cc in
    let patterns : c.as_slice.result.now ≡ r.patterns = cc in
    let can : IsReader r = subst IsReader c.self.view_is c.self.invariant in
    inr (
      not_shown r c.args.text.now can.1 c.args.value c.requires.valid c.category-category.result
          c.category-category.ensures (rw (symbols, patterns) at c.in-None-split.ensures),
      refl,
    )
