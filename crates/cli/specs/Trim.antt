-- What `trim` leaves out of a conversion.
use Rattle.std.specs.{Prelude.{ℕ, ◌+◌, ◌-◌, ◌==◌, ◌||◌, ◌&&◌, nat_eq, if◌then◌else◌, Bool, List, [], ◌∷◌, length, drop}, List.{prefix_len, suffix_len, starts_with}, Io.BufRead.strip_last}
use Rattle.cli.specs.Fields.{within, replaced}

-- ---- Blanks and tabs around a text.

abbrev pub is_blank : ℕ → Bool
is_blank byte = byte == 32 || byte == 9

-- the start and the end of what is left without the blanks and tabs around it
abbrev pub trimmed_bounds : List ℕ → ℕ × ℕ
trimmed_bounds bytes =
    let start = prefix_len is_blank bytes in
    let rest = drop start bytes in
    (start, start + (length rest - suffix_len is_blank rest))

-- the text of these bytes: with `trim` without the blanks and tabs around it
abbrev pub text_of : Bool → List ℕ → List ℕ
text_of trims bytes = if trims then within bytes (trimmed_bounds bytes) else bytes

-- the bytes with another text: with `trim` the blanks and tabs around it are copied
abbrev pub with_text_of : Bool → List ℕ → List ℕ → List ℕ
with_text_of trims bytes text = if trims then replaced bytes (trimmed_bounds bytes) text else text

-- ---- What is around the bytes of a line.

-- U+FEFF in UTF-8
abbrev pub byte_order_mark : List ℕ
byte_order_mark = 239 ∷ 187 ∷ 191 ∷ []

-- the start and the end of the bytes of the line with this number that are converted: with `trim` without a byte order
-- mark at the start of the first line and a carriage return at its end
abbrev pub body_bounds : Bool → ℕ → List ℕ → ℕ × ℕ
body_bounds trims number line =
    let bytes = strip_last 13 line in
    if trims
    then (if number == 1 && starts_with nat_eq bytes byte_order_mark then 3 else 0, length bytes)
    else (0, length line)
