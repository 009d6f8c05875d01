-- The reading of an integer, by the grammar and of its text.
use Rattle.std.proofs.Common.{◌≡◌, ℕ, List, refl, arith, Ok, pos}
use Rattle.decimal_unsigned.proofs.lemmas.parse.ReadingGrammar.{read_grammar}
use Rattle.decimal_unsigned.specs.{Grammar.Literal, Reading.value_of, Unsigned.IsValue}
use Rattle.fixed_decimal.proofs.lemmas.signed_decimal.DecimalTexts.{decimal_syntax, grammar_splits, read_decimal_text}
use Rattle.fixed_decimal.specs.{Decimal.Decimal, DecimalText.{decimal_text, Grammar, after_sign, with_sign, read_decimal}, Integer.{read_integer, ReadsInteger}, declared.variations.Sign.Sign}

decimal_found : (bytes : List ℕ) (s : Sign) (w : Literal) → Grammar bytes s w
    → read_decimal bytes ≡ with_sign s (value_of w)
unfolding read_decimal
decimal_found bytes s w g =
    let k = grammar_splits bytes s w g in
    rw (k.0, read_grammar (after_sign bytes) w k.1) refl

-- reading is reading the parts that the grammar finds
pub integer_reads : (bytes : List ℕ) → ReadsInteger bytes (read_integer bytes)
integer_reads bytes = grind (arith, decimal_found, decimal_syntax)

-- the text of an integer reads as the integer
pub integer_reads_back : (v : Decimal) → IsValue v.absolute → v.absolute.lo ≡ pos 0
    → read_integer (decimal_text v) ≡ Ok v
integer_reads_back v h e = rw (read_decimal_text v h, e) refl
