-- Words: sixteen nibbles as one number of 64 bits.
use Rattle.std.proofs.Common.{◌≡◌, ℕ, zero, suc, ◌+◌, ◌-◌, ◌*◌, ◌/◌, ◌%◌, ◌^◌, ◌<◌, ◌≤◌, List, [], ◌∷◌, ◌++◌, length, get_or, take, drop, replicate, map, refl, sym, ◌∙◌, ap, arith, inl, inr, All}
use Rattle.std.proofs.{Math.Nat.{pow-le-pow_right, mod-eq_of_lt}, Math.Seq.drop-append_seam}
use Rattle.std.proofs.lemmas.{Bool.cases_lt, Grind.same_number_lists, Int.Digits.{number_lt, number_after_append, number_more, number_push}, List.{length-map, length-take-le, append-nil, get_or_default, get_or_past, get_or-take, map_more}, Nat.{pow-add, mod-mul-add, be_bytes_8, from_be_bytes-to_be_bytes_8}}
use Rattle.std.specs.{Char.digit_value, Int.{w64, to_be_bytes, bytes_high_first, byte_at, from_be_bytes}, Int.Digits.{number_from_digits, AllBelowBase}, Str.Parse.AllDigits}
use Rattle.decimal_digits.proofs.lemmas.digits.{DigitLists.{below_drop, below_take, number_after, number_pad, number_split, number-div}, DigitTexts.ascii_at, LeadingBytes.{below_sixteen, hex_pow, leading_digits, bytes_number, nibbles_of_bytes, length-padded, get_or-padded, sixteen_nibbles}, Nibbles.{nibble_rules, value_of}, Packing.{digit_at, encodes, pads, rest_at}, Rules.steps}
use Rattle.decimal_digits.specs.{Nibbles.{digits_in, nibbles, word_nibbles, leading_bytes, padded, bcd_number, IsPacked}, Packing.{Encodes, EncodesPadded, IsPadded, length-nibbles, length_digits, padding}}

-- eight bytes as a big-endian number
pub eight_bytes : (bs : List ℕ) → length bs ≡ 8 → from_be_bytes w64 bs ≡ number_from_digits 256 bs
eight_bytes (a ∷ (b ∷ (c ∷ (d ∷ (e ∷ (f ∷ (g ∷ (h ∷ [])))))))) l = omega arith
eight_bytes bs l = absurd (omega arith)

byte_lt : (k n : ℕ) → byte_at k n < 256
byte_lt zero n = omega arith
byte_lt (suc k) n = omega arith

bytes_below : (k n : ℕ) → AllBelowBase 16 (nibbles (bytes_high_first k n))
unfolding nibbles
bytes_below zero n = tt
bytes_below (suc k) n = (omega (arith, byte_lt k n), (omega arith, bytes_below k n))

-- trailing zeros keep the item at each index
padded_at : (xs : List ℕ) (z k : ℕ) → get_or (xs ++ replicate z 0) k 0 ≡ get_or xs k 0
padded_at xs z k = rest_at xs 0 z k k (omega arith)

-- ---- the nibbles of a word
pub length-word_nibbles : (n : ℕ) → length (word_nibbles n) ≡ 16
unfolding word_nibbles
length-word_nibbles n = omega (arith, length-nibbles (to_be_bytes w64 n))

pub word_below : (n : ℕ) → AllBelowBase 16 (word_nibbles n)
unfolding word_nibbles
word_below n = bytes_below 8 n

-- a word is the number of its nibbles
pub word_number : (n : ℕ) → n < 2 ^ 64 → n ≡ number_from_digits 16 (word_nibbles n)
unfolding word_nibbles
word_number n h = grind (arith, from_be_bytes-to_be_bytes_8, eight_bytes, bytes_number)

-- a nibble of a word, by a right shift
pub word_nibble : (n k : ℕ) → n < 2 ^ 64 → k < 16 → n / 2 ^ (4 * (15 - k)) % 16 ≡ get_or (word_nibbles n) k 0
word_nibble n k fits l =
    let ns = word_nibbles n in
    let all = length-word_nibbles n in
    let back : length ns - (k + 1) ≡ 15 - k = omega arith in
    let front = rw back at (number-div 16 (k + 1) ns (word_below n) (omega arith)) in
    grind (steps, word_below, hex_pow, word_number, number_more)

-- the number of sixteen nibbles is the word of these
pub word_of_nibbles : (ns : List ℕ) (n : ℕ) → length ns ≡ 16 → AllBelowBase 16 ns → n ≡ number_from_digits 16 ns
    → word_nibbles n ≡ ns
unfolding word_nibbles
word_of_nibbles ns n l h e = rw e (nibbles_of_bytes 8 0 ns l h)

-- the big-endian number of eight bytes is the word of their nibbles
pub word_of_bytes : (bs : List ℕ) (n : ℕ) → length bs ≡ 8 → ((i : ℕ) → get_or bs i 0 < 256) → n ≡ from_be_bytes w64 bs
    → word_nibbles n ≡ nibbles bs
unfolding word_nibbles
word_of_bytes bs n l h e = ap nibbles (be_bytes_8 bs n l h e)

-- the nibbles of the first bytes
pub nibbles_take : (k : ℕ) (bs : List ℕ) → nibbles (take k bs) ≡ take (2 * k) (nibbles bs)
unfolding nibbles
nibbles_take zero bs = refl
nibbles_take (suc k) [] = let e : 2 * suc k ≡ suc (suc (2 * k)) = omega arith in rw e refl
nibbles_take (suc k) (b ∷ bs) =
    let e : 2 * suc k ≡ suc (suc (2 * k)) = omega arith in
    rw e (ap (λ l. b / 16 ∷ (b % 16 ∷ l)) (nibbles_take k bs))

-- the nibbles after the first bytes
pub nibbles_drop : (k : ℕ) (bs : List ℕ) → nibbles (drop k bs) ≡ drop (2 * k) (nibbles bs)
unfolding nibbles
nibbles_drop zero bs = refl
nibbles_drop (suc k) [] = let e : 2 * suc k ≡ suc (suc (2 * k)) = omega arith in rw e refl
nibbles_drop (suc k) (b ∷ bs) =
    let e : 2 * suc k ≡ suc (suc (2 * k)) = omega arith in
    rw e (nibbles_drop k bs)

pub zero_word : (n : ℕ) → n ≡ 0 → word_nibbles n ≡ replicate 16 0
zero_word n e = word_of_nibbles (replicate 16 0) n refl (omega arith) e

-- ---- equal nibbles
-- a list of one nibble is a list of nibbles
pub repeated_below : (d k : ℕ) → d < 16 → AllBelowBase 16 (replicate k d)
repeated_below d zero h = tt
repeated_below d (suc k) h = (h, repeated_below d k h)

zeros_below : (k : ℕ) → AllBelowBase 16 (replicate k 0)
zeros_below k = repeated_below 0 k (omega arith)

append_below : (xs ys : List ℕ) → AllBelowBase 16 xs → AllBelowBase 16 ys → AllBelowBase 16 (xs ++ ys)
append_below [] ys h g = g
append_below (x ∷ xs) ys h g = (h.0, append_below xs ys h.1 g)

-- the nibbles after up to sixteen digits are 0
pub zeros_of_digits : (ds : List ℕ) (len n : ℕ) → length ds ≡ len → len ≤ 16 → AllBelowBase 10 ds
    → n ≡ number_from_digits 16 ds * 16 ^ (16 - len)
    → drop len (word_nibbles n) ≡ replicate (16 - len) 0
zeros_of_digits ds len n l few h e =
    let zeros = replicate (16 - len) 0 in
    let size : length (ds ++ zeros) ≡ 16 = grind (arith, nibble_rules) in
    let all =
    word_of_nibbles (ds ++ zeros) n size (append_below ds zeros (below_sixteen ds h) (zeros_below (16 - len)))
    (e ∙ sym (number_pad 16 (16 - len) ds)) in
    rw all (ap (λ k. drop k (ds ++ zeros)) (sym l) ∙ drop-append_seam ds zeros)

-- ---- shifts
-- sixteen nibbles write a number of 64 bits
word_lt : (ns : List ℕ) → length ns ≡ 16 → AllBelowBase 16 ns → number_from_digits 16 ns < 2 ^ 64
word_lt ns l h = omega (arith, number_lt 16 ns h, ap (λ j. 16 ^ j) l)

-- a right shift and a left shift clear the last nibbles
pub kept : (n count u r : ℕ) → n < 2 ^ 64 → count ≤ 16 → u ≡ 4 * (16 - count) → r ≡ n / 2 ^ u * 2 ^ u % 2 ^ 64
    → word_nibbles r ≡ take count (word_nibbles n) ++ replicate (16 - count) 0
kept n count u r fits few by e =
    let ns = word_nibbles n in
    let k = 16 - count in
    let all = length-word_nibbles n in
    let back : length ns - count ≡ k = omega arith in
    let quotient = rw back at (number-div 16 count ns (word_below n) (omega arith)) in
    let out = take count ns ++ replicate k 0 in
    let size : length out ≡ 16 = grind (arith, nibble_rules) in
    let below = append_below (take count ns) (replicate k 0) (below_take 16 count ns (word_below n)) (zeros_below k) in
    let number : n / 16 ^ k * 16 ^ k ≡ number_from_digits 16 out =
    ap (λ m. m / 16 ^ k * 16 ^ k) (word_number n fits) ∙ ap (λ m. m * 16 ^ k) quotient
    ∙ sym (number_pad 16 k (take count ns)) in
    word_of_nibbles out r size below
    (e ∙ rw (by, hex_pow k) (ap (λ m. m % 2 ^ 64) number ∙ mod-eq_of_lt (word_lt out size below)))

spread : (a p q r t : ℕ) → p * q ≡ t → (a * p + r) * q ≡ a * t + r * q
spread a p q r t e = grind arith

-- a left shift drops the first nibbles
pub cut : (n count u r : ℕ) → n < 2 ^ 64 → count ≤ 16 → u ≡ 4 * count → r ≡ n * 2 ^ u % 2 ^ 64
    → word_nibbles r ≡ drop count (word_nibbles n) ++ replicate count 0
cut n count u r fits few by e =
    let ns = word_nibbles n in
    let k = 16 - count in
    let all = length-word_nibbles n in
    let back : length ns - count ≡ k = omega arith in
    let rest = drop count ns in
    let out = rest ++ replicate count 0 in
    let size : length out ≡ 16 = grind (arith, nibble_rules) in
    let below = append_below rest (replicate count 0) (below_drop 16 count ns (word_below n)) (zeros_below count) in
    let whole = word_number n fits ∙ rw back at (number_split 16 count ns (omega arith)) in
    let top : 16 ^ k * 16 ^ count ≡ 2 ^ 64 = rw (← pow-add, (let w : k + count ≡ 16 = omega arith in w)) refl in
    let number : n * 16 ^ count ≡ number_from_digits 16 (take count ns) * 2 ^ 64 + number_from_digits 16 out =
    ap (λ m. m * 16 ^ count) whole
    ∙ spread (number_from_digits 16 (take count ns)) (16 ^ k) (16 ^ count) (number_from_digits 16 rest) (2 ^ 64) top
    ∙ ap (λ m. number_from_digits 16 (take count ns) * 2 ^ 64 + m) (sym (number_pad 16 count rest)) in
    word_of_nibbles out r size below
    (e ∙ rw (by, hex_pow count) (ap (λ m. m % 2 ^ 64) number
    ∙ mod-mul-add (number_from_digits 16 (take count ns)) (2 ^ 64) _ (word_lt out size below)))

-- a sum with a number shifted right has the nibbles of both
pub joined : (n m start : ℕ) → n < 2 ^ 64 → m < 2 ^ 64 → start ≤ 16
    → drop start (word_nibbles n) ≡ replicate (16 - start) 0
    → (n + m / 2 ^ (4 * start) < 2 ^ 64)
    × (word_nibbles (n + m / 2 ^ (4 * start)) ≡ take start (word_nibbles n) ++ take (16 - start) (word_nibbles m))
joined n m start fits fits' few zeros =
    let ns = word_nibbles n in
    let ms = word_nibbles m in
    let k = 16 - start in
    let len = length-word_nibbles n in
    let len' = length-word_nibbles m in
    let back : length ns - start ≡ k = omega arith in
    let back' : length ms - k ≡ start = omega arith in
    let front = take start ns in
    let rest = take k ms in
    let size' : length rest ≡ k = length-take-le k ms (omega arith) in
    let out = front ++ rest in
    let size : length out ≡ 16 = grind (arith, nibble_rules) in
    let below =
    append_below front rest (below_take 16 start ns (word_below n)) (below_take 16 k ms (word_below m)) in
    let nothing : number_from_digits 16 (drop start ns) ≡ 0 =
    ap (number_from_digits 16) zeros ∙ number_pad 16 k [] ∙ (let z : 0 * 16 ^ k ≡ 0 = omega arith in z) in
    let left : n ≡ number_from_digits 16 front * 16 ^ k =
    word_number n fits ∙ rw back at (number_split 16 start ns (omega arith)) ∙ omega (arith, nothing) in
    let right : m / 2 ^ (4 * start) ≡ number_from_digits 16 rest =
    rw (hex_pow start) (ap (λ j. j / 16 ^ start) (word_number m fits')
    ∙ rw back' at (number-div 16 k ms (word_below m) (omega arith))) in
    grind (steps, number_after_append, number_after, word_lt, word_of_nibbles)

-- ---- packing
-- the low nibbles of digits
abbrev pub low_nibbles : List ℕ → List ℕ
low_nibbles ds = map (λ d. d % 16) ds

low_below : (ds : List ℕ) → AllBelowBase 16 (low_nibbles ds)
low_below [] = tt
low_below (d ∷ ds) = (omega arith, low_below ds)

-- one digit more
pub pack_more : (ds : List ℕ) (i n d : ℕ) → i < length ds → length ds ≤ 16
    → n ≡ number_from_digits 16 (low_nibbles (take i ds)) → d ≡ get_or ds i 0 % 16
    → (n < 16 ^ 15) × (n * 16 + d ≡ number_from_digits 16 (low_nibbles (take (i + 1) ds)))
pack_more ds i n d l few e f =
    grind (steps, length-map, length-take-le, pow-le-pow_right, number_lt, low_below, map_more, number_push)

-- a left shift appends zeros to the low nibbles
pub packed : (ds : List ℕ) (n u r : ℕ) → length ds ≤ 16 → n ≡ number_from_digits 16 (low_nibbles ds)
    → u ≡ 4 * (16 - length ds) → r ≡ n * 2 ^ u % 2 ^ 64
    → word_nibbles r ≡ low_nibbles ds ++ replicate (16 - length ds) 0
packed ds n u r few e by result =
    let k = 16 - length ds in
    let out = low_nibbles ds ++ replicate k 0 in
    let size : length out ≡ 16 = grind (arith, nibble_rules) in
    let below = append_below (low_nibbles ds) (replicate k 0) (low_below ds) (zeros_below k) in
    let number : n * 16 ^ k ≡ number_from_digits 16 out =
    ap (λ m. m * 16 ^ k) e ∙ sym (number_pad 16 k (low_nibbles ds)) in
    word_of_nibbles out r size below
    (result ∙ rw (by, hex_pow k) (ap (λ m. m % 2 ^ 64) number ∙ mod-eq_of_lt (word_lt out size below)))

-- ---- words of padded bytes
-- a word with the first sixteen digits, and zeros after fewer, is their packed BCD number
pub bcd_of_word : (n : ℕ) (ds : List ℕ) → n < 2 ^ 64
    → ((k : ℕ) → k < 16 → get_or (word_nibbles n) k 0 ≡ get_or ds k 0) → n ≡ bcd_number ds
unfolding bcd_number
bcd_of_word n ds fits same =
    let size = length-word_nibbles n in
    word_number n fits
    ∙ ap (number_from_digits 16)
    (same_number_lists (word_nibbles n) (padded 16 ds) (omega (arith, length-padded 16 ds)) (λ k h.
    let l : k < 16 = omega arith in same k l ∙ sym (get_or-padded 16 ds k l)))

-- the nibbles of the packed BCD number of digits are the first sixteen, and zeros after fewer
pub bcd_nibble : (ds : List ℕ) (k : ℕ) → All (λ d. d < 10) ds → k < 16
    → get_or (word_nibbles (bcd_number ds)) k 0 ≡ get_or ds k 0
unfolding bcd_number word_nibbles
bcd_nibble ds k h l = ap (λ xs. get_or xs k 0) (sixteen_nibbles ds h) ∙ get_or-padded 16 ds k l

-- the bytes of such a word are the digits, padded
pub word_pads : (n len : ℕ) (ds : List ℕ) → length ds ≡ len → len ≤ 16
    → ((k : ℕ) → k < len → get_or ds k 0 < 10)
    → ((k : ℕ) → k < 16 → get_or (word_nibbles n) k 0 ≡ get_or ds k 0) → EncodesPadded (to_be_bytes w64 n) len ds
unfolding word_nibbles
word_pads n len ds size few decimal same =
    let count = length-nibbles (to_be_bytes w64 n) in
    pads _ ds len (omega arith) size
    (λ k. elim (cases_lt k 16) [
      | inl l ↦ same k l
      | inr l ↦ get_or_past (nibbles (to_be_bytes w64 n)) k 0 (omega arith) ∙ sym (get_or_past ds k 0 (omega arith))
    ]) decimal

-- the word of the first eight padded bytes has the first sixteen digits
pub front_at : (bytes : List ℕ) (len n k : ℕ) → IsPadded bytes len → word_nibbles n ≡ take 16 (nibbles bytes) → k < 16
    → get_or (word_nibbles n) k 0 ≡ get_or (digits_in bytes len) k 0
front_at bytes len n k p e h =
    ap (λ l. get_or l k 0) e ∙ get_or-take 16 (nibbles bytes) k 0 h ∙ sym (digit_at bytes len p k)

-- and of up to sixteen, all of them
pub few_at : (bytes : List ℕ) (len n : ℕ) → IsPadded bytes len → len ≤ 16 → word_nibbles n ≡ take 16 (nibbles bytes)
    → (k : ℕ) → get_or (word_nibbles n) k 0 ≡ get_or (digits_in bytes len) k 0
few_at bytes len n p few e k = elim (cases_lt k 16) [
  | inl l ↦ front_at bytes len n k p e l
  | inr l ↦ grind (arith, length-word_nibbles n, length_digits bytes len p, get_or_past)
]

same_take : (xs ys ns : List ℕ) (count k : ℕ) → ns ≡ take count xs ++ replicate (16 - count) 0
    → (k < count → get_or xs k 0 ≡ get_or ys k 0) → get_or ns k 0 ≡ get_or (take count ys) k 0
same_take xs ys ns count k e same = grind (arith, ap (λ l. get_or l k 0) e, padded_at, cases_lt, nibble_rules)

joined_at : (xs ys ds es ns : List ℕ) (start k : ℕ) → length ds ≤ start → start ≤ length xs
    → ns ≡ take start xs ++ take (16 - start) ys → get_or xs k 0 ≡ get_or ds k 0
    → get_or ys (k - start) 0 ≡ get_or es (k - start) 0 → k < 16
    → get_or ns k 0 ≡ get_or ((ds ++ replicate (start - length ds) 0) ++ es) k 0
joined_at xs ys ds es ns start k l m g e f h =
    grind (arith, ap (λ l. get_or l k 0) g, padded_at, cases_lt, nibble_rules)

-- the bytes of a word with the first digits of padded bytes
pub keep_pads : (bytes : List ℕ) (len count w n : ℕ) → IsPadded bytes len → count ≤ len → count ≤ 16
    → word_nibbles w ≡ take 16 (nibbles bytes)
    → word_nibbles n ≡ take count (word_nibbles w) ++ replicate (16 - count) 0
    → EncodesPadded (to_be_bytes w64 n) count (take count (digits_in bytes len))
keep_pads bytes len count w n p l few e f =
    word_pads n count (take count (digits_in bytes len)) (grind (arith, padding, nibble_rules)) few
    (λ k h. grind (arith, p.decimal k 0, padding, nibble_rules))
    (λ k h. same_take (word_nibbles w) (digits_in bytes len) (word_nibbles n) count k f
    (λ m. front_at bytes len w k p e h))

-- the bytes of a word without the first of up to sixteen digits of padded bytes
pub cut_pads : (bytes : List ℕ) (len count w n : ℕ) → IsPadded bytes len → count ≤ len → len ≤ 16
    → word_nibbles w ≡ take 16 (nibbles bytes)
    → word_nibbles n ≡ drop count (word_nibbles w) ++ replicate count 0
    → EncodesPadded (to_be_bytes w64 n) (len - count) (drop count (digits_in bytes len))
cut_pads bytes len count w n p l few e f =
    word_pads n (len - count) (drop count (digits_in bytes len)) (grind (arith, padding, nibble_rules)) (omega arith)
    (λ k h. grind (arith, p.decimal (count + k) 0, padding, nibble_rules))
    (λ k h. grind (arith, ap (λ l. get_or l k 0) f, few_at bytes len w p few e (count + k), padding, nibble_rules))

-- the bytes of a word with the last digits of more than sixteen, which are in the last eight bytes
pub cut_end_pads : (bytes : List ℕ) (len count j w n : ℕ) → IsPadded bytes len → 16 < len → count ≤ len
    → len - count < 16 → j + 2 * ((len + 1) / 2 - 8) ≡ count
    → word_nibbles w ≡ drop (2 * (length bytes - 8)) (nibbles bytes) ++ replicate 0 0
    → word_nibbles n ≡ drop j (word_nibbles w) ++ replicate j 0
    → EncodesPadded (to_be_bytes w64 n) (len - count) (drop count (digits_in bytes len))
cut_end_pads bytes len count j w n p many l few at e f =
    word_pads n (len - count) (drop count (digits_in bytes len)) (grind (arith, padding, nibble_rules)) (omega arith)
    (λ k h. grind (arith, p.decimal (count + k) 0, padding, nibble_rules))
    (λ k h. grind (
      arith,
      ap (λ l. get_or l k 0) f,
      ap (λ l. get_or l (j + k) 0) e,
      digit_at bytes len p (count + k),
      p.count,
      padding,
      nibble_rules,
    ))

-- bytes from an index on, whose nibbles are the digits after the first ones of padded bytes
pub cut_encodes : (bs cs : List ℕ) (len count left : ℕ) → IsPadded bs len → count ≤ len → length cs ≡ length bs
    → left ≡ (len - count + 1) / 2
    → ((k : ℕ) → get_or (nibbles cs) (2 * (count / 2) + k) 0 ≡ get_or (nibbles bs) (count + k) 0)
    → Encodes (drop (count / 2) (take (count / 2 + left) cs)) (len - count) (drop count (digits_in bs len))
cut_encodes bs cs len count left p le same_length half same =
    let out = drop (count / 2) (take (count / 2 + left) cs) in
    let at : nibbles out ≡ drop (2 * (count / 2)) (take (2 * (count / 2 + left)) (nibbles cs)) =
    grind (steps, nibbles_drop, nibbles_take) in
    encodes out (drop count (digits_in bs len)) (len - count) (
      record {
        many = grind (arith, padding, nibble_rules);
        same = λ k h.
            grind (arith, ap (λ l. get_or l k 0) at, same k, digit_at bs len p (count + k), padding, nibble_rules);
        decimal = λ k h. grind (arith, p.decimal (count + k) 0, padding, nibble_rules);
        unused = grind steps;
      },
      grind (arith, p.count, nibble_rules),
    )

-- the bytes of a word with digits after those of padded bytes and zeros
pub join_pads : (bytes : List ℕ) (len start w v n : ℕ) (es : List ℕ) → IsPadded bytes len → len ≤ start
    → start + length es ≤ 16 → All (λ d. d < 10) es
    → word_nibbles w ≡ take 16 (nibbles bytes)
    → ((k : ℕ) → get_or (word_nibbles v) k 0 ≡ get_or es k 0)
    → word_nibbles n ≡ take start (word_nibbles w) ++ take (16 - start) (word_nibbles v)
    → EncodesPadded (to_be_bytes w64 n) (start + length es) ((digits_in bytes len ++ replicate (start - len) 0) ++ es)
join_pads bytes len start w v n es p l few digits e f g =
    let size = length_digits bytes len p in
    word_pads n (start + length es) ((digits_in bytes len ++ replicate (start - len) 0) ++ es)
    (grind (arith, padding, nibble_rules)) few
    (λ k h. grind (arith, p.decimal k 0, digits (k - start) 0, padding, nibble_rules))
    (λ k h. rw size at (joined_at (word_nibbles w) (word_nibbles v) (digits_in bytes len) es (word_nibbles n) start k
    (omega arith) (omega (arith, length-word_nibbles w)) g (front_at bytes len w k p e h) (f (k - start)) h))

-- the digits after those of padded bytes are 0
pub zeros_after : (bytes : List ℕ) (len start w : ℕ) → IsPadded bytes len → len ≤ start → start ≤ 16
    → word_nibbles w ≡ take 16 (nibbles bytes) → drop start (word_nibbles w) ≡ replicate (16 - start) 0
zeros_after bytes len start w p l few e =
    same_number_lists _ _ (grind (arith, length-word_nibbles w, nibble_rules)) (λ k h.
    grind (arith, front_at bytes len w (start + k) p e, padding, nibble_rules))

-- the word of the digits of a text
pub text_at : (text : List ℕ) (n : ℕ) → AllDigits 10 text
    → word_nibbles n ≡ low_nibbles text ++ replicate (16 - length text) 0
    → (k : ℕ) → get_or (word_nibbles n) k 0 ≡ get_or (map digit_value text) k 0
text_at text n all e k = grind (arith, nibble_rules, ascii_at)

-- the bytes of a word with the digits of a text after those of padded bytes
pub join_text : (bytes : List ℕ) (len w v n : ℕ) (text : List ℕ) → IsPadded bytes len → len + length text ≤ 16
    → AllDigits 10 text → word_nibbles w ≡ take 16 (nibbles bytes)
    → word_nibbles v ≡ low_nibbles text ++ replicate (16 - length text) 0
    → word_nibbles n ≡ take len (word_nibbles w) ++ take (16 - len) (word_nibbles v)
    → EncodesPadded (to_be_bytes w64 n) (len + length text) (digits_in bytes len ++ map digit_value text)
join_text bytes len w v n text p few all e f g =
    let none : len - len ≡ 0 = omega arith in
    let size : length (map digit_value text) ≡ length text = length-map text digit_value in
    let digits : All (λ d. d < 10) (map digit_value text) = λ k d h.
    let l : k < length text = omega arith in
    omega (arith, get_or_default (map digit_value text) k d 0 h, value_of text k l, ascii_at text all k l) in
    rw (none, append-nil, size) at
    (join_pads bytes len len w v n (map digit_value text) p (omega arith) (omega arith) digits e
    (text_at text v all f) g)

-- the bytes of a word whose nibbles after the digits are 0
pub leading_pads : (n len : ℕ) → IsPacked (leading_bytes n len) len → drop len (word_nibbles n) ≡ replicate (16 - len) 0
    → EncodesPadded (to_be_bytes w64 n) len (digits_in (leading_bytes n len) len)
unfolding word_nibbles
leading_pads n len p zeros =
    let (few, same) = leading_digits n len p in
    let size : length (digits_in (leading_bytes n len) len) ≡ len = grind (arith, ap length same, nibble_rules) in
    word_pads n len _ size few (λ k h. p.decimal k 0 (omega arith))
    (λ k h. grind (arith, ap (λ l. get_or l (k - len) 0) zeros, ap (λ l. get_or l k 0) same, nibble_rules))
