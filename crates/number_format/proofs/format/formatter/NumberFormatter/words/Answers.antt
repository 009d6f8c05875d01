use Rattle.std.proofs.Common.{◌≡◌, List, inr, sym, ◌∙◌, ap, subst}
use Rattle.std.specs.{Prelude.{true, Some, option_map}, List.Contains}
use Rattle.locale_data.specs.declared.compact.CompactStyle.{CompactStyle}
use Rattle.number_format.specs.{declared.{format.formatter.NumberFormatter.NumberFormatter, read.{pattern.NumberPattern.NumberPattern, pattern_name.PatternName.PatternName}}, AffixedTexts.{AreNamed, HasClash}, CompactReading.{word_pattern, AreWordPatterns, AreWordsNamed, IsPatternOf}, NumberReading.{AreOwnWordsNamed, HasOwnWordClash, words_of}}
use Rattle.number_format.proofs.format.formatter.NumberFormatter.words.Goals as goal

-- ---- The patterns of words, and each two texts.

module _ (f : NumberFormatter) (style : CompactStyle) (patterns : List NumberPattern)
    (are : AreWordPatterns f style true patterns) where
  clash_of : (names : PatternName × PatternName) → HasClash f.style.symbols (Contains patterns) names
      → HasClash f.style.symbols (IsPatternOf f style true) names
  clash_of names (p, has, (q, has', named, apart)) = (p, are.only p has, (q, are.only q has', named, apart))

  each_of : AreNamed f.style.symbols patterns → AreWordsNamed f style
  each_of named k l has has' =
      named.pair (word_pattern f style k) (word_pattern f style l) (are.all k has) (are.all l has')

-- ---- The contract.

pub returns-in-Some-find_clash-clause-err : goal.returns-in-Some-find_clash-clause-err
returns-in-Some-find_clash-clause-err c =
    let f = c.args.self.now in
    let names : PatternName × PatternName = (c.in-Some-find_clash.first, c.in-Some-find_clash.second) in
    let words : words_of f ≡ Some c.in-Some.style = sym c.compact_style.ensures ∙ c.in-Some.is in
    let clash = clash_of f c.in-Some.style c.in-Ok.patterns.items c.in-Ok.ensures names
    (rw c.as_slice.ensures.value at c.in-Some-find_clash.ensures) in
    (c.requires.undo, (c.requires.readable, inr (subst (λ w. HasOwnWordClash f w names) (sym words) clash)))

pub returns-clause-ok : goal.returns-clause-ok
returns-clause-ok c =
    let f = c.args.self.now in
    let style = c.in-Some.style in
    let words : words_of f ≡ Some style = sym c.compact_style.ensures ∙ c.in-Some.is in
    let named = subst (AreNamed f.style.symbols) c.as_slice.ensures.value c.in_default-find_clash.ensures in (
      ap Some (c.new.ensures ∙ ap (λ (g : NumberFormatter). (g, style)) c.copied.ensures)
          ∙ ap (option_map (λ style. (f, style))) (sym words),
      subst (AreOwnWordsNamed f) (sym words) (each_of f style c.in-Ok.patterns.items c.in-Ok.ensures named),
    )
