-- The parts of a word: its tag, its option and its skeleton.
use Rattle.std.proofs.{Common.{◌≡◌, ℕ, ◌+◌, ◌-◌, ◌≤◌, Bool, true, false, codes, List, [], ◌++◌, length, take, drop, Option, Some, None, refl, sym, subst, ap, ◌∙◌, append_assoc, arith, length-append}, Math.Seq.{drop-append_seam, take-length}, lemmas.{List.{take-append-drop, append-nil, length-take, take_min}, Option.{none-some, same_Some}}}
use Rattle.std.specs.{Prelude.{if◌then◌else◌, unwrap_or}, List.{list_any, after_first, position_or_len}, Str.bytes_eq}
use Rattle.number_format.specs.declared.read.number_reader.ParseMode.{ParseMode, TheVariants.{Strict, Lenient}}
use Rattle.conversions.specs.{Parameters.{is_colon, tag_of, option_of, parameters_of, locale_tag, locale_option}, ReadWord.read_option}
use Rattle.fixed_decimal_c.specs.{Calls.IsPart, Words.IsSuffix}

-- what a word ends in is no longer than it
pub suffix_le : (end word : List ℕ) → IsSuffix end word → length end ≤ length word
suffix_le end word (start, is) = omega (arith, ap length is, length-append start end)

-- what a word ends in is a part of it
pub suffix_part : (end word : List ℕ) → IsSuffix end word → IsPart word (length word - length end) (length end) end
suffix_part end word (start, is) =
    let count = ap length is ∙ length-append start end in
    let at : length word - length end ≡ length start = omega (arith, count) in
    let dropped : drop (length word - length end) word ≡ end = rw (at, is) (drop-append_seam start end) in
    (omega (arith, count), sym (ap (take (length end)) dropped ∙ take-length end))

pub suffix_of_suffix : (a b c : List ℕ) → IsSuffix a b → IsSuffix b c → IsSuffix a c
suffix_of_suffix a b c (p, e) (q, f) = (q ++ p, f ∙ (ap (λ x. q ++ x) e ∙ sym (append_assoc q p a)))

-- what follows the first colon
after_suffix : (xs : List ℕ) → IsSuffix (after_first is_colon xs) xs
after_suffix xs =
    let at = position_or_len is_colon xs + 1 in (take at xs, sym (take-append-drop at xs))

pub option_suffix : (xs option : List ℕ) → option_of xs ≡ Some option → IsSuffix option xs
option_suffix xs option =
    elim (list_any is_colon xs) as
    (λ b. (if b then Some (after_first is_colon xs) else None) ≡ Some option → IsSuffix option xs) [
      | true ↦ λ e. subst (λ o. IsSuffix o xs) (cc) (after_suffix xs)
      | false ↦ λ e. absurd (cc)
    ]

pub parameters_suffix : (word : List ℕ) → IsSuffix (parameters_of word) word
parameters_suffix word =
    elim (list_any is_colon word) as
    (λ b. IsSuffix (unwrap_or (if b then Some (after_first is_colon word) else None) []) word) [
      | true ↦ after_suffix word
      | false ↦ (word, sym (append-nil word))
    ]

-- a prefix of what a word ends in is a part of it
prefix_part :
    (n : ℕ) (end word : List ℕ) → IsSuffix end word
    → IsPart word (length word - length end) (length (take n end)) (take n end)
prefix_part n end word suffix =
    let (start, is) = suffix in
    let count = ap length is ∙ length-append start end in
    let at : length word - length end ≡ length start = omega (arith, count) in
    let dropped : drop (length word - length end) word ≡ end = rw (at, is) (drop-append_seam start end) in
    let least = length-take n end in (
      omega (arith, count, least),
      sym (ap (take (length (take n end))) dropped ∙ (ap (λ k. take k end) least ∙ take_min n end)),
    )

-- the tag of a word is a part of it
pub tag_part :
    (word : List ℕ)
    → IsPart word (length word - length (parameters_of word)) (length (locale_tag word)) (locale_tag word)
tag_part word =
    prefix_part (position_or_len is_colon (parameters_of word)) (parameters_of word) word (parameters_suffix word)

-- the option of a word
pub option_of_word : (word option : List ℕ) → locale_option word ≡ Some option → IsSuffix option word
option_of_word word option e =
    suffix_of_suffix option (parameters_of word) word (option_suffix (parameters_of word) option e)
    (parameters_suffix word)

-- the skeleton of an option of `read:`
skeleton_of_option :
    (text skeleton : List ℕ) (option : Option (List ℕ)) → option_of text ≡ option
    → (read_option option).1 ≡ Some skeleton → IsSuffix skeleton text
skeleton_of_option text skeleton None e is = absurd (none-some skeleton is)
skeleton_of_option text skeleton (Some option) e is =
    suffix_of_suffix skeleton option text (by (bytes_eq (tag_of option) (codes "lenient")) is)
    (option_suffix text option e)
  where
    by : (b : Bool)
        → (if◌then◌else◌ {A = ParseMode × Option (List ℕ)} b (Lenient, option_of option) (Strict, Some option)).1
        ≡ Some skeleton → IsSuffix skeleton option
    by true is = option_suffix option skeleton is
    by false is = ([], same_Some _ _ is)

pub skeleton_of_word :
    (word skeleton : List ℕ) → (read_option (locale_option word)).1 ≡ Some skeleton → IsSuffix skeleton word
skeleton_of_word word skeleton is =
    suffix_of_suffix skeleton (parameters_of word) word
    (skeleton_of_option (parameters_of word) skeleton (locale_option word) refl is) (parameters_suffix word)
