-- The pieces of a text from an offset, byte by byte.
use Rattle.std.proofs.{Common.{◌≡◌, ℕ, ◌+◌, ◌-◌, ◌<◌, ◌≤◌, ◌==◌, false, List, [], ◌∷◌, ◌++◌, length, take, drop, get_or, refl, ap, sym, ◌∙◌, add-one, arith, length-drop, drop-cons, Ok, Err}, lemmas.{Grind.common_steps, Bool.Decides.nat_tests, List.{take_more, get_or-drop}}}
use Rattle.number_skeleton.specs.{declared.{error.SkeletonError.SkeletonError, reading.Reading.Reading}, Reading.{Piece, pieces, separator_length, next, read_pieces, no_stems, choices_of, and_then}}

-- the bytes of a text between two offsets
abbrev pub between : List ℕ → ℕ → ℕ → List ℕ
between text start end = take (end - start) (drop start text)

-- the pieces from an offset, when the bytes up to another one have been read
abbrev pub from : List ℕ → ℕ → ℕ → List Piece
from text start i = pieces start (between text start i) (drop i text)

-- a piece that ends in a byte, with this number of bytes in the slash or the white space
abbrev pub ended : ℕ → List ℕ → ℕ → Piece
ended start longer c =
    record { start = start; bytes = take (length longer - separator_length longer) longer; ends_in_slash = c == 47 }

between_more :
    (text : List ℕ) (start i : ℕ) → start ≤ i → i < length text
    → between text start i ++ get_or text i 0 ∷ [] ≡ between text start (i + 1)
between_more text start i ordered inside =
    let at : start + (i - start) ≡ i = omega arith in
    let one : i - start + 1 ≡ i + 1 - start = omega arith in
    let size : i - start < length (drop start text) = omega (arith, length-drop start text) in
    let byte : get_or (drop start text) (i - start) 0 ≡ get_or text i 0 =
    get_or-drop start text (i - start) 0 ∙ ap (λ k. get_or text k 0) at in
    ap (λ c. between text start i ++ c ∷ []) (sym byte) ∙ sym (take_more (drop start text) (i - start) 0 size)
    ∙ ap (λ n. take n (drop start text)) one

length-between :
    (text : List ℕ) (start i : ℕ) → start ≤ i → i < length text → start + length (between text start (i + 1)) ≡ i + 1
length-between text start i ordered inside = grind (arith, common_steps)

drop_first :
    (text : List ℕ) (i : ℕ) → i < length text → drop i text ≡ get_or text i 0 ∷ drop (i + 1) text
drop_first text i inside = rw (add-one, drop-cons text i 0)

pub pieces_more :
    (start : ℕ) (bytes : List ℕ) (c : ℕ) (rest : List ℕ) → separator_length (bytes ++ c ∷ []) ≡ 0
    → pieces start bytes (c ∷ rest) ≡ pieces start (bytes ++ c ∷ []) rest
unfolding pieces
pieces_more start bytes c rest none = rw none

pub pieces_next :
    (start : ℕ) (bytes : List ℕ) (c : ℕ) (rest : List ℕ) → (separator_length (bytes ++ c ∷ []) == 0) ≡ false
    → pieces start bytes (c ∷ rest)
    ≡ ended start (bytes ++ c ∷ []) c ∷ pieces (start + length (bytes ++ c ∷ [])) [] rest
unfolding pieces
pieces_next start bytes c rest some = rw some

-- a byte that ends no piece
from_more :
    (text : List ℕ) (start i : ℕ) → start ≤ i → i < length text
    → separator_length (between text start (i + 1)) ≡ 0 → from text start i ≡ from text start (i + 1)
from_more text start i ordered inside none =
    let more = between_more text start i ordered inside in
    ap (pieces start (between text start i)) (drop_first text i inside)
    ∙ pieces_more start (between text start i) (get_or text i 0) (drop (i + 1) text) (ap separator_length more ∙ none)
    ∙ ap (λ b. pieces start b (drop (i + 1) text)) more

-- a byte that ends one
from_next :
    (text : List ℕ) (start i : ℕ) → start ≤ i → i < length text
    → (separator_length (between text start (i + 1)) == 0) ≡ false
    → from text start i ≡ ended start (between text start (i + 1)) (get_or text i 0) ∷ from text (i + 1) (i + 1)
from_next text start i ordered inside some =
    let more = between_more text start i ordered inside in
    let none : i + 1 - (i + 1) ≡ 0 = omega arith in
    ap (pieces start (between text start i)) (drop_first text i inside)
    ∙ pieces_next start (between text start i) (get_or text i 0) (drop (i + 1) text)
    (ap (λ b. separator_length b == 0) more ∙ some)
    ∙ ap (λ b. ended start b (get_or text i 0) ∷ pieces (start + length b) [] (drop (i + 1) text)) more
    ∙ ap (λ k. ended start (between text start (i + 1)) (get_or text i 0) ∷ pieces k [] (drop (i + 1) text))
    (length-between text start i ordered inside)
    ∙ ap (λ n. ended start (between text start (i + 1)) (get_or text i 0)
    ∷ pieces (i + 1) (take n (drop (i + 1) text)) (drop (i + 1) text)) (sym none)

pub pieces_last :
    (start : ℕ) (bytes : List ℕ)
    → pieces start bytes [] ≡ record { start = start; bytes = bytes; ends_in_slash = false } ∷ []
unfolding pieces
pieces_last start bytes = refl

-- the last piece
from_end :
    (text : List ℕ) (start i : ℕ) → i ≡ length text
    → from text start i
    ≡ record { start = start; bytes = between text start (length text); ends_in_slash = false } ∷ []
from_end text start i ended =
    let none : drop i text ≡ [] = grind (arith, common_steps) in
    ap (pieces start (between text start i)) none ∙ pieces_last start (between text start i)
    ∙ ap (λ k. record { start = start; bytes = between text start k; ends_in_slash = false } ∷ []) ended

pub read_next :
    (r after : Reading) (p : Piece) (ps : List Piece) → next r p.start p.bytes p.ends_in_slash ≡ Ok after
    → read_pieces r (p ∷ ps) ≡ read_pieces after ps
unfolding read_pieces
read_next r after p ps is = ap (and_then (λ n. read_pieces n ps)) is

read_error :
    (r : Reading) (e : SkeletonError) (p : Piece) (ps : List Piece) → next r p.start p.bytes p.ends_in_slash ≡ Err e
    → read_pieces r (p ∷ ps) ≡ Err e
unfolding read_pieces
read_error r e p ps is = ap (and_then (λ n. read_pieces n ps)) is

pub read_none : (r : Reading) → read_pieces r [] ≡ Ok r
unfolding read_pieces
read_none r = refl

-- a reading of the bytes before an index has the piece from `start` still to read
pub record IsRead (text : List ℕ) (r : Reading) (start i : ℕ) : Type 0 where
  pub ordered : start ≤ i
  pub same : read_pieces no_stems (from text 0 0) ≡ read_pieces r (from text start i)

-- the bytes before the separator of this length that a text ends in
abbrev pub before : ℕ → List ℕ → List ℕ
before n text = take (length text - n) text

ended_is :
    (start n c : ℕ) (longer : List ℕ) → n ≡ separator_length longer
    → ended start longer c ≡ record { start = start; bytes = before n longer; ends_in_slash = c == 47 }
ended_is start n c longer is =
    ap (λ k. record { start = start; bytes = take (length longer - k) longer; ends_in_slash = c == 47 }) (sym is)

next_piece :
    (text : List ℕ) (start i n : ℕ) → start ≤ i → i < length text → n ≡ separator_length (between text start (i + 1))
    → 0 < n
    → from text start i
    ≡ record { start = start; bytes = before n (between text start (i + 1)); ends_in_slash = get_or text i 0 == 47 }
    ∷ from text (i + 1) (i + 1)
next_piece text start i n ordered inside is some =
    let found : (separator_length (between text start (i + 1)) == 0) ≡ false = rw (← is) (grind (arith, nat_tests)) in
    from_next text start i ordered inside found
    ∙ ap (λ p. p ∷ from text (i + 1) (i + 1)) (ended_is start n (get_or text i 0) (between text start (i + 1)) is)

pub read_to_next :
    (text : List ℕ) (r after : Reading) (start i n : ℕ) → IsRead text r start i → i < length text
    → n ≡ separator_length (between text start (i + 1)) → 0 < n
    → next r start (before n (between text start (i + 1))) (get_or text i 0 == 47) ≡ Ok after
    → IsRead text after (i + 1) (i + 1)
read_to_next text r after start i n read inside is some reads = record {
  ordered = omega arith;
  same = read.same ∙ ap (read_pieces r) (next_piece text start i n read.ordered inside is some)
      ∙ read_next r after _ (from text (i + 1) (i + 1)) reads;
}

pub read_more :
    (text : List ℕ) (r : Reading) (start i n : ℕ) → IsRead text r start i → i < length text
    → n ≡ separator_length (between text start (i + 1)) → n ≤ 0 → IsRead text r start (i + 1)
read_more text r start i n read inside is none = record {
  ordered = omega (arith, read.ordered);
  same = read.same
      ∙ ap (read_pieces r) (from_more text start i read.ordered inside (sym is ∙ omega arith));
}

pub error_at_next :
    (text : List ℕ) (r : Reading) (e : SkeletonError) (start i n : ℕ) → IsRead text r start i → i < length text
    → n ≡ separator_length (between text start (i + 1)) → 0 < n
    → next r start (before n (between text start (i + 1))) (get_or text i 0 == 47) ≡ Err e → Err e ≡ choices_of text
error_at_next text r e start i n read inside is some fails =
    sym (ap (and_then (λ q. Ok q.choices)) (read.same
    ∙ ap (read_pieces r) (next_piece text start i n read.ordered inside is some)
    ∙ read_error r e _ (from text (i + 1) (i + 1)) fails))

pub error_at_end :
    (text : List ℕ) (r : Reading) (e : SkeletonError) (start i : ℕ) → IsRead text r start i → i ≡ length text
    → next r start (between text start (length text)) false ≡ Err e → Err e ≡ choices_of text
error_at_end text r e start i read ended fails =
    sym (ap (and_then (λ q. Ok q.choices)) (read.same ∙ ap (read_pieces r) (from_end text start i ended)
    ∙ read_error r e _ [] fails))

pub read_whole :
    (text : List ℕ) (r after : Reading) (start i : ℕ) → IsRead text r start i → i ≡ length text
    → next r start (between text start (length text)) false ≡ Ok after → Ok after.choices ≡ choices_of text
read_whole text r after start i read ended reads =
    sym (ap (and_then (λ q. Ok q.choices)) (read.same ∙ ap (read_pieces r) (from_end text start i ended)
    ∙ read_next r after _ [] reads ∙ read_none after))
