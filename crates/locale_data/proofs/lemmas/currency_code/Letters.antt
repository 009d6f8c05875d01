-- Letters and digits of ASCII in one case, and spaces after them.
use Rattle.std.proofs.{Common.{◌≡◌, ℕ, zero, suc, ◌+◌, ◌-◌, ◌<◌, ◌≤◌, ◌==◌, Bool, true, false, List, [], ◌∷◌, ◌++◌, length, replicate, take, drop, map, get_or, Some, refl, sym, subst, ◌∙◌, ◌&&◌, nat_le, ap, arith}, lemmas.{Bool.{and_parts, Decides.nat_tests}, List.{length-map, map-append, drop-replicate, Folds.list_all-map, Sums.{AllPass-from_list_all, list_all-from_AllPass}}, Str.{IsUtf8-from_ascii, Ascii.IsAscii-from_all}}}
use Rattle.std.specs.{Char.{is_ascii_alphabetic, is_ascii_alphanumeric, is_ascii_uppercase, to_ascii_uppercase, to_ascii_lowercase}, List.{list_all, position_or_len}, Str.IsUtf8}
use Rattle.locale_data.specs.{Codes.{code_of, is_name_byte, padded, system_name, IsCode, IsSystemName, IsPaddedName}, Rows.unpadded}

-- what passes a test of each byte passes another one after a change of each byte
changed : (p q : ℕ → Bool) (f : ℕ → ℕ) (bytes : List ℕ) → ((b : ℕ) → p b ≡ true → q (f b) ≡ true)
    → list_all p bytes ≡ true → list_all q (map f bytes) ≡ true
changed p q f bytes each all =
    list_all-map q f bytes ∙ list_all-from_AllPass (λ b. q (f b)) bytes
    (λ k d inside. each (get_or bytes k d) (AllPass-from_list_all p bytes all k d inside))

-- bytes of ASCII are a text
utf8_of : (p : ℕ → Bool) (bytes : List ℕ) → ((b : ℕ) → p b ≡ true → b < 128) → list_all p bytes ≡ true → IsUtf8 bytes
utf8_of p bytes each all =
    IsUtf8-from_ascii bytes (IsAscii-from_all bytes
    (λ k d inside. each (get_or bytes k d) (AllPass-from_list_all p bytes all k d inside)))

-- each byte that passes one test passes another one
all_pass : (p q : ℕ → Bool) (bytes : List ℕ) → ((b : ℕ) → p b ≡ true → q b ≡ true) → list_all p bytes ≡ true
    → list_all q bytes ≡ true
all_pass p q bytes each all =
    list_all-from_AllPass q bytes (λ k d inside. each (get_or bytes k d) (AllPass-from_list_all p bytes all k d inside))

-- a change that keeps each byte keeps all of them
all_kept : (p : ℕ → Bool) (f : ℕ → ℕ) (bytes : List ℕ) → ((b : ℕ) → p b ≡ true → f b ≡ b)
    → list_all p bytes ≡ true → map f bytes ≡ bytes
all_kept p f [] each all = refl
all_kept p f (b ∷ bs) each all =
    let parts = and_parts (p b) (list_all p bs) all in
    ap (λ x. x ∷ map f bs) (each b parts.0) ∙ ap (λ t. b ∷ t) (all_kept p f bs each parts.1)

-- ---- Codes.

capital : (b : ℕ) → is_ascii_alphabetic b ≡ true → is_ascii_uppercase (to_ascii_uppercase b) ≡ true
capital b h = grind (arith, nat_tests, h)

capital_is_ascii : (b : ℕ) → is_ascii_uppercase b ≡ true → b < 128
capital_is_ascii b h = grind (arith, nat_tests, h)

capital_is_letter : (b : ℕ) → is_ascii_uppercase b ≡ true → is_ascii_alphabetic b ≡ true
capital_is_letter b h = grind (arith, nat_tests, h)

capital_is_kept : (b : ℕ) → is_ascii_uppercase b ≡ true → to_ascii_uppercase b ≡ b
capital_is_kept b h = grind (arith, nat_tests, h)

-- a code is the code that it reads as
pub code_of_code : (code : List ℕ) → IsCode code → code_of code ≡ Some code
code_of_code code is =
    let letters = all_pass is_ascii_uppercase is_ascii_alphabetic code capital_is_letter is.capitals in
    let kept = all_kept is_ascii_uppercase to_ascii_uppercase code capital_is_kept is.capitals in
    rw (is.three, letters) (ap Some kept)

pub capitals : (text : List ℕ) → list_all is_ascii_alphabetic text ≡ true
    → list_all is_ascii_uppercase (map to_ascii_uppercase text) ≡ true
capitals text all = changed is_ascii_alphabetic is_ascii_uppercase to_ascii_uppercase text capital all

pub capitals_are_utf8 : (code : List ℕ) → list_all is_ascii_uppercase code ≡ true → IsUtf8 code
capitals_are_utf8 code all = utf8_of is_ascii_uppercase code capital_is_ascii all

-- ---- Names.

name_byte : (b : ℕ) → is_ascii_alphanumeric b ≡ true → is_name_byte (to_ascii_lowercase b) ≡ true
name_byte b h = grind (arith, nat_tests, h)

name_byte_is_ascii : (b : ℕ) → is_name_byte b ≡ true → b < 128
name_byte_is_ascii b h = grind (arith, nat_tests, h)

not_space : (b : ℕ) → is_name_byte b ≡ true → (b == 32) ≡ false
not_space b h = grind (arith, nat_tests, h)

name_byte_is_alphanumeric : (b : ℕ) → is_name_byte b ≡ true → is_ascii_alphanumeric b ≡ true
name_byte_is_alphanumeric b h = grind (arith, nat_tests, h)

name_byte_is_kept : (b : ℕ) → is_name_byte b ≡ true → to_ascii_lowercase b ≡ b
name_byte_is_kept b h = grind (arith, nat_tests, h)

-- a name is the name that it reads as
pub system_name_of_name : (name : List ℕ) → IsSystemName name → system_name name ≡ Some name
system_name_of_name name is =
    let letters = all_pass is_name_byte is_ascii_alphanumeric name name_byte_is_alphanumeric is.bytes in
    let kept = all_kept is_name_byte to_ascii_lowercase name name_byte_is_kept is.bytes in
    let long : nat_le 3 (length name) ≡ true = grind (arith, nat_tests, is.long) in
    let short : nat_le (length name) 8 ≡ true = grind (arith, nat_tests, is.short) in
    rw (long, short, letters) (ap Some kept)

pub name_bytes : (text : List ℕ) → list_all is_ascii_alphanumeric text ≡ true
    → list_all is_name_byte (map to_ascii_lowercase text) ≡ true
name_bytes text all = changed is_ascii_alphanumeric is_name_byte to_ascii_lowercase text name_byte all

pub name_is_utf8 : (name : List ℕ) → list_all is_name_byte name ≡ true → IsUtf8 name
name_is_utf8 name all = utf8_of is_name_byte name name_byte_is_ascii all

one_more : (k b : ℕ) (rest : List ℕ) → take (1 + k) (b ∷ rest) ≡ b ∷ take k rest
one_more k b rest =
    let on : 1 + k ≡ suc k = omega arith in
    ap (λ n. take n (b ∷ rest)) on

after_byte : (b : ℕ) (rest : List ℕ) → (b == 32) ≡ false → unpadded (b ∷ rest) ≡ b ∷ unpadded rest
after_byte b rest other = rw other (one_more (position_or_len (λ c. c == 32) rest) b rest)

-- what is before the spaces after a name is the name
before_spaces : (name : List ℕ) (n : ℕ) → list_all is_name_byte name ≡ true
    → unpadded (name ++ replicate n 32) ≡ name
before_spaces [] zero all = refl
before_spaces [] (suc n) all = refl
before_spaces (b ∷ bs) n all =
    let parts = and_parts (is_name_byte b) (list_all is_name_byte bs) all in
    after_byte b (bs ++ replicate n 32) (not_space b parts.0) ∙ ap (λ t. b ∷ t) (before_spaces bs n parts.1)

pub unpadded_spaces : (name : List ℕ) (n : ℕ) → IsSystemName name → unpadded (name ++ replicate n 32) ≡ name
unpadded_spaces name n is = before_spaces name n is.bytes

pub unpadded_name : (name : List ℕ) → list_all is_name_byte name ≡ true → unpadded (padded name) ≡ name
unpadded_name name all = before_spaces name (8 - length name) all

small_spaces : (n : ℕ) → map to_ascii_lowercase (replicate n 32) ≡ replicate n 32
small_spaces zero = refl
small_spaces (suc n) = ap (λ t. 32 ∷ t) (small_spaces n)

-- a text in place of the first spaces, in lower case
pub padded_text : (text : List ℕ)
    → map to_ascii_lowercase (text ++ drop (length text) (replicate 8 32)) ≡ padded (map to_ascii_lowercase text)
padded_text text =
    let small = map to_ascii_lowercase text in
    let spaces = ap (map to_ascii_lowercase) (drop-replicate (length text) 8 32) ∙ small_spaces (8 - length text) in
    map-append to_ascii_lowercase text (drop (length text) (replicate 8 32)) ∙ ap (λ t. small ++ t) spaces
    ∙ ap (λ n. small ++ replicate (8 - n) 32) (sym (length-map text to_ascii_lowercase))

-- ---- A text that is a name.

module _ (text : List ℕ) (long : 3 ≤ length text) (short : length text ≤ 8)
    (all : list_all is_ascii_alphanumeric text ≡ true) where
  pub shown : unpadded (padded (map to_ascii_lowercase text)) ≡ map to_ascii_lowercase text
  shown = unpadded_name (map to_ascii_lowercase text) (name_bytes text all)

  is_name : IsSystemName (map to_ascii_lowercase text)
  is_name = record {
    long = subst (λ n. 3 ≤ n) (sym (length-map text to_ascii_lowercase)) long;
    short = subst (λ n. n ≤ 8) (sym (length-map text to_ascii_lowercase)) short;
    bytes = name_bytes text all;
  }

  pub is_padded : IsPaddedName (padded (map to_ascii_lowercase text))
  is_padded = record { padded_is = ap padded (sym shown); name = subst IsSystemName (sym shown) is_name }

  pub names : system_name text ≡ Some (map to_ascii_lowercase text)
  names =
      let within : (nat_le 3 (length text) && nat_le (length text) 8) ≡ true = grind (arith, nat_tests, long, short) in
      rw (within, all) refl
