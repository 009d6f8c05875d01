use Rattle.std.proofs.Common.{sym, ◌∙◌, subst}
use Rattle.std.specs.Prelude.{◌↔◌, IsTrue, false}
use Rattle.number_format.specs.NumberReading.{CanReadWords}
use Rattle.number_format.proofs.read.number_reader.can_read_words.Goals as goal

pub returns-in-Some : goal.returns-in-Some
returns-in-Some c =
    subst (λ w. IsTrue c.can_read_words_of.result ↔ CanReadWords c.args.formatter.now w)
    (sym (sym c.compact_style.ensures ∙ c.in-Some.is)) c.can_read_words_of.ensures

pub returns-in-None : goal.returns-in-None
returns-in-None c =
    subst (λ w. IsTrue false ↔ CanReadWords c.args.formatter.now w)
    (sym (sym c.compact_style.ensures ∙ c.in-None.is)) (λ t. absurd (cc), λ h. absurd h)
