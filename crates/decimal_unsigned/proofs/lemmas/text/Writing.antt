-- The text of a value by its bytes, and what has been written of it.
use Rattle.std.proofs.{Common.{◌≡◌, ℕ, suc, ◌+◌, ◌≤◌, List, [], ◌∷◌, ◌++◌, length, take, drop, Option, refl, subst, arith, ℤ, pos, ◌-ℤ◌, zero, ◌<◌, get_or, sym, ◌∙◌, ap, negsuc, ◌≤ℤ◌, slice_index, EachIndex}, KnownBytes.Appends-trans, lemmas.{Grind.elements, Int.ints, List.{take-append-drop, get_or-take, get_or-drop, length-take-le, length-drop}, Str.Ascii.{IsAscii-nil, IsAscii-cons}}}
use Rattle.std.specs.{Int.int_gap, Io.KnownBytes.Appends, Str.IsAscii}
use Rattle.decimal_digits.proofs.lemmas.{digits.Rules.steps, sink.Sinks.{prefix_more, then_prefix}}
use Rattle.decimal_digits.specs.{AppendsPrefix.AppendsPrefix, Number.digit}
use Rattle.decimal_unsigned.specs.{Text.{text, dot_before, text_down}, Unsigned.Unsigned}

-- the text of n + 1 magnitudes is that of the first and that of the other n
pub text_down-suc : (number : ℕ) (m : ℤ) (n : ℕ)
    → text_down number m (suc n) ≡ (dot_before m ++ (48 + digit number m) ∷ []) ++ text_down number (m -ℤ pos 1) n
unfolding text_down
text_down-suc number m n = refl

-- the text of no magnitudes is empty
pub text_down-zero : (number : ℕ) (m : ℤ) → text_down number m 0 ≡ []
unfolding text_down
text_down-zero number m = refl

-- ---- the text, piece by piece
-- a prefix of the text followed by the next piece is a longer prefix
pub piece_taken : (all piece : List ℕ) (i k : ℕ) → i + k ≤ length all → piece ≡ take k (drop i all)
    → take i all ++ piece ≡ take (i + length piece) all
piece_taken all piece i k h e = grind (arith, elements)

-- one more piece was written
pub wrote_more : (a b c : Option (List ℕ)) (all piece : List ℕ) (i k : ℕ) → i + k ≤ length all
    → piece ≡ take k (drop i all) → Appends a b (take i all) → Appends b c piece
    → Appends a c (take (i + length piece) all)
wrote_more a b c all piece i k h e p q = grind (arith, piece_taken, Appends-trans)

-- if the sink failed within the next piece, it has accepted a prefix of the text
pub wrote_part : (a b c : Option (List ℕ)) (all piece : List ℕ) (i k : ℕ) → i + k ≤ length all
    → piece ≡ take k (drop i all) → Appends a b (take i all) → AppendsPrefix b c piece
    → AppendsPrefix a c all
wrote_part a b c all piece i k h e p q =
    subst (AppendsPrefix a c) (take-append-drop (i + length piece) all)
    (prefix_more a c (take (i + length piece) all) (drop (i + length piece) all)
    (subst (AppendsPrefix a c) (piece_taken all piece i k h e) (then_prefix a b c (take i all) piece p q)))

-- ---- The text of a value as the bytes of its integer digits, then a decimal point and those of its fraction digits.
-- the byte of a digit
abbrev pub byte : ℕ → ℤ → ℕ
byte number m = 48 + digit number m

-- the bytes of the digits of n magnitudes, from m down
abbrev pub bytes_down : ℕ → ℤ → ℕ → List ℕ
bytes_down number m zero = []
bytes_down number m (suc n) = byte number m ∷ bytes_down number (m -ℤ pos 1) n

-- their number is n
pub length-bytes_down : (number : ℕ) (m : ℤ) (n : ℕ) → length (bytes_down number m n) ≡ n
length-bytes_down number m zero = refl
length-bytes_down number m (suc n) = ap suc (length-bytes_down number (m -ℤ pos 1) n)

-- the byte at an index
pub bytes_down-at : (number : ℕ) (m : ℤ) (n i : ℕ) → i < n
    → get_or (bytes_down number m n) i 0 ≡ byte number (m -ℤ pos i)
bytes_down-at number m zero i h = absurd (omega arith)
bytes_down-at number m (suc n) zero h = ap (byte number) (let e : m ≡ m -ℤ pos 0 = omega (arith, ints) in e)
bytes_down-at number m (suc n) (suc i) h = grind (arith, ints, (bytes_down-at number (m -ℤ pos 1) n i (omega arith)))

-- a list with these bytes at each index is this list
pub bytes_are : (number : ℕ) (m top : ℤ) (n : ℕ) (xs : List ℕ)
    → EachIndex xs (λ k. slice_index xs k ≡ byte number (m -ℤ pos k)) → m ≡ top → length xs ≡ n
    → xs ≡ bytes_down number top n
bytes_are number m top n xs h e l = grind (arith, elements, bytes_down-at, length-bytes_down)

-- k bytes from an index on are the bytes of k magnitudes
pub bytes_down-part : (number : ℕ) (m : ℤ) (n i k : ℕ) → i + k ≤ n
    → take k (drop i (bytes_down number m n)) ≡ bytes_down number (m -ℤ pos i) k
bytes_down-part number m n i k h =
    let all = bytes_down number m n in
    let long : length (take k (drop i all)) ≡ k = grind (arith, length-take-le, length-drop, length-bytes_down) in
    bytes_are number (m -ℤ pos i) (m -ℤ pos i) k (take k (drop i all)) (λ j l.
    get_or-take k (drop i all) j 0 (omega (arith, long))
    ∙ get_or-drop i all j 0
    ∙ bytes_down-at number m n (i + j) (omega (arith, long))
    ∙ ap (byte number) (let e : m -ℤ pos (i + j) ≡ (m -ℤ pos i) -ℤ pos j = omega (arith, ints) in e)) refl long

-- ---- The text.
text_above : (number h n : ℕ)
    → text_down number (pos h) (suc h + n) ≡ bytes_down number (pos h) (suc h) ++ text_down number (negsuc 0) n
text_above number zero n =
    ap (text_down number (pos 0)) (let e : suc zero + n ≡ suc n = omega arith in e) ∙ text_down-suc number (pos 0) n
text_above number (suc h) n =
    let s : pos (suc h) -ℤ pos 1 ≡ pos h = omega (arith, ints) in
    ap (text_down number (pos (suc h))) (let e : suc (suc h) + n ≡ suc (suc h + n) = omega arith in e)
    ∙ text_down-suc number (pos (suc h)) (suc h + n)
    ∙ ap (λ l. byte number (pos (suc h)) ∷ l)
    (ap (λ m. text_down number m (suc h + n)) s
    ∙ text_above number h n
    ∙ ap (λ m. bytes_down number m (suc h) ++ text_down number (negsuc 0) n) (sym s))

text_below : (number k n : ℕ) → text_down number (negsuc (suc k)) n ≡ bytes_down number (negsuc (suc k)) n
text_below number k zero = text_down-zero number (negsuc (suc k))
text_below number k (suc n) = grind (arith, ints, text_down-suc, (text_below number (suc k) n))

text_dot : (number b : ℕ) → text_down number (negsuc 0) (suc b) ≡ 46 ∷ bytes_down number (negsuc 0) (suc b)
text_dot number b = grind (steps, text_down-suc, text_below)

-- the text after the integer digits of a value of this least magnitude: empty, or a point and the fraction digits
abbrev pub fraction_text : ℕ → ℤ → List ℕ
fraction_text number (pos k) = []
fraction_text number (negsuc b) = 46 ∷ bytes_down number (negsuc 0) (suc b)

-- the text is the integer digits and what follows them
pub text_is : (v : Unsigned) → pos 0 ≤ℤ v.hi → v.lo ≤ℤ pos 0
    → text v ≡ bytes_down v.number v.hi (int_gap (pos 0) v.hi + 1) ++ fraction_text v.number v.lo
text_is v h l = go v.hi v.lo h l
  where
    go : (hi lo : ℤ) → pos 0 ≤ℤ hi → lo ≤ℤ pos 0
        → text_down v.number hi (int_gap lo hi + 1)
        ≡ bytes_down v.number hi (int_gap (pos 0) hi + 1) ++ fraction_text v.number lo
    go (negsuc h) lo p q = absurd (omega (arith, ints))
    go (pos h) (pos k) p q =
        let n : int_gap (pos k) (pos h) + 1 ≡ suc h + 0 = omega (arith, ints) in
        let dot : int_gap (pos 0) (pos h) + 1 ≡ suc h = omega (arith, ints) in
        ap (text_down v.number (pos h)) n
        ∙ text_above v.number h 0
        ∙ (λ i. bytes_down v.number (pos h) (sym dot i) ++ text_down-zero v.number (negsuc 0) i)
    go (pos h) (negsuc b) p q =
        let n : int_gap (negsuc b) (pos h) + 1 ≡ suc h + suc b = omega (arith, ints) in
        let dot : int_gap (pos 0) (pos h) + 1 ≡ suc h = omega (arith, ints) in
        grind (arith, ints, text_above, text_dot)

-- ---- Each byte is ASCII.
dot_ascii : (m : ℤ) → IsAscii (dot_before m)
dot_ascii (pos k) = IsAscii-nil
dot_ascii (negsuc zero) = IsAscii-cons 46 [] (omega arith) IsAscii-nil
dot_ascii (negsuc (suc k)) = IsAscii-nil

down_ascii : (number : ℕ) (m : ℤ) (n : ℕ) → IsAscii (text_down number m n)
down_ascii number m zero = subst IsAscii (sym (text_down-zero number m)) IsAscii-nil
down_ascii number m (suc n) = grind (arith, dot_ascii, text_down-suc, (down_ascii number (m -ℤ pos 1) n))

-- the text of a value is ASCII
pub text_ascii : (v : Unsigned) → IsAscii (text v)
text_ascii v = down_ascii v.number v.hi (int_gap v.lo v.hi + 1)
