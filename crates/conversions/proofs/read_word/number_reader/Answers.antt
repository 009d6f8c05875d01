use Rattle.std.proofs.Common.{◌≡◌, inl, inr, refl, rules, sym, subst}
use Rattle.std.specs.Prelude.{Option, Some, None}
use Rattle.locale_data.specs.declared.compact.CompactStyle.{CompactStyle}
use Rattle.number_format.specs.{declared.{format.formatter.NumberFormatter.NumberFormatter, read.{number_reader.NumberReaderError.NumberReaderError, pattern.NumberPattern.NumberPattern, pattern_name.PatternName.PatternName}}, AffixedTexts.AreToldApart, CompactReading.word_pattern, NumberReading.{AreOwnWordsNamed, CanRead, CannotRead, HasOwnWordClash, words_of}}
use Rattle.conversions.proofs.read_word.number_reader.Goals as goal

-- texts with words that are told apart do not clash
no_words : (f : NumberFormatter) (style : Option CompactStyle) (names : PatternName × PatternName)
    → AreOwnWordsNamed f style → HasOwnWordClash f style names → ⊥
no_words f (Some style) names named (p, first, (q, second, same, apart)) =
    apart (subst (λ (x : NumberPattern). AreToldApart f.style.symbols x q) (sym first.is)
    (subst (λ (x : NumberPattern). AreToldApart f.style.symbols (word_pattern f style first.key) x) (sym second.is)
    (named first.key second.key first.has second.has)))
no_words f None names named clash = clash

-- a formatter with another error than `Memory` has no reader
not_read : (e : NumberReaderError) (f : NumberFormatter) → (e ≡ NumberReaderError.Memory → ⊥) → CannotRead e f
    → CanRead f → ⊥
not_read NumberReaderError.Notation f other none can = none can.undo.0
not_read (NumberReaderError.NoNumber c) f other (plain, (none, unread)) can = unread (can.undo.1 c none)
not_read NumberReaderError.Scale f other (plain, read, is) can = can.undo.2 is
not_read NumberReaderError.Symbols f other (undo, unreadable) can = unreadable can.readable
not_read NumberReaderError.Memory f other read can = other refl
not_read (NumberReaderError.Affixes a b) f other (undo, (readable, inl (p, first, (q, second, same, apart)))) can =
    apart (can.named.pair p q first second)
not_read (NumberReaderError.Affixes a b) f other (undo, (readable, inr clash)) can =
    no_words f (words_of f) (a, b) can.words clash

pub returns-in-Err : goal.returns-in-Err
returns-in-Err c = record {
  ok = tt;
  err = not_read c.in-Err.field-0 c.args.formatter (search rules) c.in-Err.ensures.err;
}
