-- The ASCII digits, and digits given in ASCII.
use Rattle.std.proofs.{Common.{◌≡◌, ℕ, suc, ◌+◌, ◌-◌, ◌<◌, ◌≤◌, List, [], ◌∷◌, ◌++◌, length, take, drop, refl, sym, ◌∙◌, ap, arith, append_assoc, append-nil, take-append-drop, rules}, lemmas.{Bool.Decides.nat_tests, Str.encode_ascii, List.{take_more, Concat.flat_map-cons}, Grind.flat_map-append}}
use Rattle.std.specs.Prelude.{encode_utf8, slice_index}
use Rattle.decimal_format.specs.{Ascii.ascii_digits, Parts.digits_text, Symbols.{Symbols, digit_text}}
use Rattle.decimal_format.proofs.lemmas.symbols.{Apart.passes_below, Rules.steps}

-- the bytes of the ASCII digits
pub ten_digits : (d : ℕ) → d < 10 → encode_utf8 (slice_index ascii_digits d) ≡ (48 + d) ∷ []
ten_digits d h = grind (arith, nat_tests, passes_below, encode_ascii)

-- a digit of symbols with ASCII digits
pub digit_text-ascii : (s : Symbols) (d : ℕ) → s.digits ≡ ascii_digits → d < 10 → digit_text s d ≡ (48 + d) ∷ []
digit_text-ascii s d e h = ap (λ l. encode_utf8 (slice_index l d)) e ∙ ten_digits d h

-- ASCII digits by symbols with ASCII digits are unchanged
pub digits_text-ascii : (s : Symbols) (bytes : List ℕ) → s.digits ≡ ascii_digits
    → ((k : ℕ) → k < length bytes → (48 ≤ slice_index bytes k) × (slice_index bytes k < 58))
    → digits_text s bytes ≡ bytes
digits_text-ascii s [] e h = refl
digits_text-ascii s (byte ∷ rest) e h =
    let range = h 0 (omega arith) in
    let here : digit_text s (byte - 48) ≡ byte ∷ [] = search (rules, arith, digit_text-ascii) in
    flat_map-cons (λ b. digit_text s (b - 48)) byte rest
    ∙ (λ i. here i ++ digits_text-ascii s rest e (λ k l. h (suc k) (omega (arith, l))) i)

-- one digit more
pub digits_text-more : (s : Symbols) (bytes : List ℕ) (i : ℕ) → i < length bytes
    → digits_text s (take (i + 1) bytes) ≡ digits_text s (take i bytes) ++ digit_text s (slice_index bytes i - 48)
digits_text-more s bytes i h = grind (steps, take_more, flat_map-append, flat_map-cons, append-nil)

-- the digits before one, that digit, and those after it
pub digits_text-parts : (s : Symbols) (bytes : List ℕ) (i : ℕ) → i < length bytes
    → digits_text s (take i bytes)
    ++ (digit_text s (slice_index bytes i - 48) ++ digits_text s (drop (i + 1) bytes))
    ≡ digits_text s bytes
digits_text-parts s bytes i h =
    let f : ℕ → List ℕ = λ b. digit_text s (b - 48) in
    sym (append_assoc (digits_text s (take i bytes)) (f (slice_index bytes i)) (digits_text s (drop (i + 1) bytes)))
    ∙ ap (λ l. l ++ digits_text s (drop (i + 1) bytes)) (sym (digits_text-more s bytes i h))
    ∙ sym (flat_map-append f (take (i + 1) bytes) (drop (i + 1) bytes))
    ∙ ap (digits_text s) (take-append-drop (i + 1) bytes)
