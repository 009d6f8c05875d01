-- The first line of bytes, and the others.
use Rattle.std.proofs.{Common.{◌≡◌, ◌≢◌, ℕ, zero, suc, ◌+◌, ◌<◌, ◌==◌, if◌then◌else◌, Bool, true, false, List, [], ◌∷◌, ◌++◌, length, take, drop, slice_index, Option, Some, None, IfSome, refl, sym, ap, ◌∙◌, arith, add-one, eq-eqb, ne_eqb, le_of_suc-le-suc, suc-le-suc, zero-lt-suc, eqb-true, take-append-drop, length-append}, Math.Seq.take-append_seam, lemmas.{Bool.cond-false, Grind.common_steps}}
use Rattle.std.specs.{Io.{StartsWith, KnownBytes.prepend_known, Buffered.{reader_buffer, reader_capacity, reader_remaining}, BufRead.{take_through, drop_through, strip_last, first_piece, DropsConsumable}}, declared.io.buffered.BufReader.BufReader}
use Rattle.memchr.specs.Find.{IsFirstByte, is_byte}
use Rattle.cli.specs.Input.{IsRead}
use Rattle.conversions.specs.Lines.{lines_of}

-- a byte before other bytes does not change how they end
strip_more : (x y : ℕ) (t : List ℕ) → strip_last 10 (x ∷ y ∷ t) ≡ x ∷ strip_last 10 (y ∷ t)
strip_more x y t = grind (arith, common_steps)

-- nor how a piece of them ends
piece_more : (x y : ℕ) (ys : List ℕ)
    → strip_last 10 (x ∷ take_through 10 (y ∷ ys)) ≡ x ∷ first_piece 10 (y ∷ ys)
piece_more x y ys = grind (arith, common_steps, strip_more)

-- the first line of bytes is their first piece, and the others are the lines of what is left
pub lines_first :
    (bytes : List ℕ) → bytes ≢ [] → lines_of bytes ≡ first_piece 10 bytes ∷ lines_of (drop_through 10 bytes)
lines_first [] some = absurd (some refl)
lines_first (x ∷ []) some = grind (arith, common_steps)
lines_first (x ∷ y ∷ ys) some =
    grind (arith, common_steps, piece_more x y ys, lines_first (y ∷ ys) (λ e. cc))

-- the first line of bytes is those before the first line feed
line_at :
    (xs rest : List ℕ) (i : ℕ) → i < length xs → ((k : ℕ) → k < i → slice_index xs k ≢ 10) → slice_index xs i ≡ 10
    → (first_piece 10 (xs ++ rest) ≡ take i xs) × (drop_through 10 (xs ++ rest) ≡ drop (suc i) (xs ++ rest))
line_at [] rest i inside before here = absurd (omega arith)
line_at (x ∷ xs) rest zero inside before here = grind (arith, common_steps, here)
line_at (x ∷ []) rest (suc i) inside before here = absurd (omega arith)
line_at (x ∷ y ∷ ys) rest (suc i) inside before here =
    let other = ne_eqb x 10 (before 0 (zero-lt-suc i)) in
    let (line, left) =
    line_at (y ∷ ys) rest i (le_of_suc-le-suc inside) (λ k l. before (suc k) (suc-le-suc l)) here in (
      ap (strip_last 10) (cond-false _ _ _ other) ∙ piece_more x y (ys ++ rest) ∙ ap (λ l. x ∷ l) line,
      cond-false _ _ _ other ∙ left,
    )

-- the next line of known bytes is in the block that they begin with, before the first line feed
in_block :
    (xs block : List ℕ) (c : Option (List ℕ)) (i : ℕ) → IsFirstByte (is_byte 10) block (Some i) → StartsWith xs block
    → DropsConsumable (Some xs) c (Some (length block)) (i + 1) → IsRead true xs (take i block) c
in_block xs block c i (first, here) front drops =
    let inside : i < length block = first.high in
    let rest = drop (length block) xs in
    let parts : xs ≡ block ++ rest =
    sym (take-append-drop (length block) xs) ∙ ap (λ t. t ++ rest) front in
    let (line, left) = line_at block rest i inside (λ k l e. first.before k (omega arith) l (eq-eqb _ _ e))
    (eqb-true _ _ here) in
    let some : xs ≢ [] =
    λ none. absurd (omega (arith, inside, ap length parts, ap length none, length-append block rest)) in (
      some,
      sym (ap (first_piece 10) parts ∙ line),
      drops (omega arith)
          ∙ ap (λ t. Some (drop (i + 1) t)) parts
          ∙ ap Some (ap (λ n. drop n (block ++ rest)) (add-one i) ∙ sym left ∙ ap (drop_through 10) (sym parts)),
    )

-- the bytes that are left in a reader begin with its block
starts_with_block : (is_empty : Bool) (block : List ℕ) (known : Option (List ℕ))
    → IfSome (if is_empty then None else prepend_known block known) (λ xs. StartsWith xs block)
starts_with_block true block known = tt
starts_with_block false block None = tt
starts_with_block false block (Some bytes) = take-append_seam block bytes

-- the next line of a reader is in its block
pub next_in_block :
    {T A : Type 0} (f : T → Option (List ℕ)) (r : BufReader T A) (c : Option (List ℕ)) (block : List ℕ) (i : ℕ)
    → block ≡ reader_buffer r → IsFirstByte (is_byte 10) block (Some i)
    → DropsConsumable (reader_remaining f r) c (Some (length (reader_buffer r))) (i + 1)
    → IfSome (reader_remaining f r) (λ bytes. IsRead true bytes (take i block) c)
next_in_block f r c block i is found drops =
    let front = starts_with_block (reader_capacity r == 0) (reader_buffer r) (f r.inner) in
    rw is (known (reader_remaining f r) front (rw is at found) drops)
  where
    known :
        (a : Option (List ℕ)) → IfSome a (λ xs. StartsWith xs (reader_buffer r))
        → IsFirstByte (is_byte 10) (reader_buffer r) (Some i)
        → DropsConsumable a c (Some (length (reader_buffer r))) (i + 1)
        → IfSome a (λ bytes. IsRead true bytes (take i (reader_buffer r)) c)
    known None front found drops = tt
    known (Some xs) front found drops = in_block xs (reader_buffer r) c i found front drops
