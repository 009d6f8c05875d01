-- The kinds of words exclude each other.
use Rattle.std.proofs.{Common.{ℕ, List, sym, ap, ◌∙◌, arith, inl, inr}, lemmas.Option.none-some}
use Rattle.std.specs.{Prelude.slice_index, Str.IsUtf8}
use Rattle.fixed_decimal.specs.declared.runs.Call.{Call}
use Rattle.conversions.specs.Calls.{copied, Names}
use Rattle.fixed_decimal_c.specs.{declared.words.FdWord.FdWord, Words.{IsReadWord, IsFormatWord, IsReadAnswer, IsFormatAnswer, IsCallAnswer, IsWord}}

-- a word that names a call begins with neither `format:` nor `read:`
call_is_no_format : (word : List ℕ) (call : Call) → Names word call → IsFormatWord word → ⊥
call_is_no_format word call names (text, is) = none-some (copied call) (rw is at names)

call_is_no_read : (word : List ℕ) (call : Call) → Names word call → IsReadWord word → ⊥
call_is_no_read word call names (text, is) = none-some (copied call) (rw is at names)

format_is_no_read : (word : List ℕ) → IsFormatWord word → IsReadWord word → ⊥
format_is_no_read word (_, h) (_, k) = omega (arith, ap (λ w. slice_index w 0) h, ap (λ w. slice_index w 0) k)

-- a word of each kind is received as one of its kind
pub call_is_received :
    (word : List ℕ) (w : FdWord) (call : Call) → IsUtf8 word → Names word call → IsWord word w
    → IsCallAnswer word w
call_is_received word w call utf8 h (inl (_, inl (read, _))) = absurd (call_is_no_read word call h read)
call_is_received word w call utf8 h (inl (_, inr (inl (format, _)))) = absurd (call_is_no_format word call h format)
call_is_received word w call utf8 h (inl (_, inr (inr answer))) = answer
call_is_received word w call utf8 h (inr (inl none, _)) = absurd (none utf8)
call_is_received word w call utf8 h (inr (inr (_, _, none), _)) = absurd (none-some (copied call) (sym none ∙ h))

pub read_is_received : (word : List ℕ) (w : FdWord) → IsUtf8 word → IsReadWord word → IsWord word w
    → IsReadAnswer word w
read_is_received word w utf8 h (inl (_, inl answer)) = answer
read_is_received word w utf8 h (inl (_, inr (inl (format, _)))) = absurd (format_is_no_read word format h)
read_is_received word w utf8 h (inl (_, inr (inr (call, named, _, _)))) = absurd (call_is_no_read word call named h)
read_is_received word w utf8 h (inr (inl none, _)) = absurd (none utf8)
read_is_received word w utf8 h (inr (inr (none, _, _), _)) = absurd (none h)

pub format_is_received :
    (word : List ℕ) (w : FdWord) → IsUtf8 word → IsFormatWord word → IsWord word w → IsFormatAnswer word w
format_is_received word w utf8 h (inl (_, inl (read, _))) = absurd (format_is_no_read word h read)
format_is_received word w utf8 h (inl (_, inr (inl answer))) = answer
format_is_received word w utf8 h (inl (_, inr (inr (call, named, _, _)))) = absurd (call_is_no_format word call named h)
format_is_received word w utf8 h (inr (inl none, _)) = absurd (none utf8)
format_is_received word w utf8 h (inr (inr (_, none, _), _)) = absurd (none h)
