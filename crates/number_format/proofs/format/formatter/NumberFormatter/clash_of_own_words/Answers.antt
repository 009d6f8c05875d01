use Rattle.std.proofs.Common.{◌≡◌, sym, ◌∙◌, subst}
use Rattle.std.specs.Prelude.{Some, MatchOption}
use Rattle.number_format.specs.NumberReading.{AreOwnWordsNamed, HasOwnWordClash, words_of}
use Rattle.number_format.proofs.lemmas.read.CompactTexts.{can_read}
use Rattle.number_format.proofs.format.formatter.NumberFormatter.clash_of_own_words.Goals as goal

pub clash_of_words-requires-clause-exponents : goal.clash_of_words-requires-clause-exponents
clash_of_words-requires-clause-exponents c =
    let words : words_of c.args.self.now ≡ Some c.in-Some.style = sym c.compact_style.ensures ∙ c.in-Some.is in
    (can_read c.args.self.now c.in-Some.style words c.requires.undo.0.0).1.0

pub returns-in-Some : goal.returns-in-Some
returns-in-Some c =
    let f = c.args.self.now in
    subst (λ w. MatchOption c.clash_of_words.result (AreOwnWordsNamed f w) (HasOwnWordClash f w))
    (sym (sym c.compact_style.ensures ∙ c.in-Some.is)) c.clash_of_words.ensures

pub returns-in-None : goal.returns-in-None
returns-in-None c =
    subst (AreOwnWordsNamed c.args.self.now) (sym (sym c.compact_style.ensures ∙ c.in-None.is)) tt
