-- The struct of a call that a word names.
use Rattle.std.proofs.{Common.{◌≡◌, ℕ, ◌+◌, ◌<◌, Bool, true, false, List, [], ◌∷◌, length, take, drop, codes, Some, None, refl, sym, ap, ◌∙◌, arith}, Math.Seq.take-length, lemmas.{Bool.false≢true, List.{length-take, length-drop}, Option.{none-some, same_Some}}}
use Rattle.std.specs.{Prelude.if◌then◌else◌, List.{list_any, after_first, position_or_len}}
use Rattle.fixed_decimal.specs.declared.runs.Call.{Call, TheVariants.{MultiplyPow10, TrimStart, TrimEnd, TrimEndIfInteger, PadStart, PadEnd, SetMaxPosition, Round, SetSign, ApplySignDisplay, Concatenate}}
use Rattle.conversions.specs.{Calls.Names, Parameters.{is_colon, tag_of, option_of}}
use Rattle.conversions.proofs.lemmas.calls.Concatenations.{concatenation_is}
use Rattle.fixed_decimal_c.specs.Calls.{IsPart, IsCall, fd_call_of}

-- the first colon is inside
inside_by :
    (byte : ℕ) (word : List ℕ) (b : Bool) → is_colon byte ≡ b
    → (list_any is_colon word ≡ true → position_or_len is_colon word < length word)
    → list_any is_colon (byte ∷ word) ≡ true → position_or_len is_colon (byte ∷ word) < length (byte ∷ word)
inside_by byte word true is rest some = rw is (omega arith)
inside_by byte word false is rest some = let more = rest (rw is at some) in rw is (omega (arith, more))

inside : (word : List ℕ) → list_any is_colon word ≡ true → position_or_len is_colon word < length word
inside [] some = absurd (false≢true some)
inside (byte ∷ word) some = inside_by byte word (is_colon byte) refl (inside word) some

-- the operand begins after `concat:`
operand_part :
    (word bytes : List ℕ) → tag_of word ≡ codes "concat" → option_of word ≡ Some bytes
    → IsPart word 7 (length bytes) bytes
operand_part word bytes tag option = by (list_any is_colon word) refl option
  where
    by : (b : Bool) → list_any is_colon word ≡ b
        → (if b then Some (after_first is_colon word) else None) ≡ Some bytes → IsPart word 7 (length bytes) bytes
    by false none is = absurd (none-some bytes is)
    by true some is =
        let within = inside word some in
        let six : position_or_len is_colon word ≡ 6 =
        omega (arith, ap length tag, length-take (position_or_len is_colon word) word, within) in
        let rest : drop 7 word ≡ bytes = ap (λ (n : ℕ). drop (n + 1) word) (sym six) ∙ same_Some _ _ is in
        let long : length bytes + 7 ≡ length word = omega (arith, ap length rest, length-drop 7 word, within, six) in
        (omega (arith, long), sym (ap (take (length bytes)) rest ∙ take-length bytes))

-- over the word it decodes to the call
pub call_is : (word : List ℕ) (call : Call) → Names word call → IsCall (fd_call_of call) word call
call_is word (MultiplyPow10 delta) names = (refl, refl)
call_is word TrimStart names = refl
call_is word TrimEnd names = refl
call_is word TrimEndIfInteger names = refl
call_is word (PadStart position) names = (refl, refl)
call_is word (PadEnd position) names = (refl, refl)
call_is word (SetMaxPosition position) names = (refl, refl)
call_is word (Round position mode increment) names = (refl, refl, refl, refl)
call_is word (SetSign sign) names = (refl, refl)
call_is word (ApplySignDisplay display) names = (refl, refl)
call_is word (Concatenate text) names =
    let (tag, option) = concatenation_is word text.now names in (refl, operand_part word text.now tag option)
