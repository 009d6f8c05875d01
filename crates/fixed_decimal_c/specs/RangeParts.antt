-- The parts of the text of a range, as C receives them.
use Rattle.std.specs.Prelude.{◌≡◌, ◌⊎◌, ℕ, ◌+◌, nat_le, ◌&&◌, if◌then◌else◌, Bool, List, ◌++◌, length, map, Result, Ok}
use Rattle.fixed_decimal.specs.{Decimal.Decimal, DecimalText.read_decimal}
use Rattle.number_format.specs.{declared.{format.formatter.NumberFormatter.NumberFormatter, range.{formatted_range.FormattedRange.FormattedRange, range_texts.RangeTexts.RangeTexts}}, FormattedRanges.shown_range, RangeText.{IsRange, RangePieces, ShownRange, range_pieces}, TextParts.{Piece, pieces_text}}
use Rattle.fixed_decimal_c.specs.{declared.{error.FdError.{FdError, TheVariants.Formatter}, formatter.FdFormatter.FdFormatter, parts.{FdPart.FdPart, FdParted.FdParted, PartCounts.PartCounts, PartList.PartList}, range_parts.RangeBounds.RangeBounds}, Parts.{PartedText, counts_of, fd_parted, parts_of, HasTaken, WritesNoParts, WritesParts}, Ranges.{EndsFail, IsNoRangeFormatter, IsRangeFormatterIn, RangeFails}}

-- the pieces of all segments
abbrev pub all_pieces : RangePieces → List Piece
all_pieces p = p.prefix ++ (p.start ++ (p.middle ++ (p.end ++ p.suffix)))

abbrev pub pieces_of_range : FormattedRange → List Piece
pieces_of_range r = all_pieces (range_pieces (shown_range r))

-- where the segments of the start and of the end are in the text
abbrev pub bounds_of : RangePieces → RangeBounds
bounds_of p =
    let start = length (pieces_text p.prefix) in
    let middle = start + length (pieces_text p.start) in
    let end = middle + length (pieces_text p.middle) in
    record { start = start; middle = middle; end = end; after = end + length (pieces_text p.end) }

abbrev pub lies_in : ℕ → ℕ → FdPart → Bool
lies_in from to part = nat_le from part.start && nat_le part.end to

-- the source of a part: 1 if it lies in the segment of the start, 2 in that of the end, and else 0
abbrev pub source_in : RangeBounds → FdPart → ℕ
source_in b part = if lies_in b.start b.middle part then 1 else if lies_in b.end b.after part then 2 else 0

abbrev pub with_source : RangeBounds → FdPart → FdPart
with_source b part = record part { source = source_in b part }

-- the pieces that a list of parts may have taken
abbrev pub Taken : PartList → List Piece → Type 0
Taken s pieces = HasTaken s.parts.ghost_name s.parts.now s.count s.last pieces

-- the text of a range, and its parts with their sources
abbrev pub parted_range : RangePieces → PartedText
parted_range p =
    record { text = pieces_text (all_pieces p); parts = map (with_source (bounds_of p)) (parts_of (all_pieces p)) }

-- ---- Writing.

-- the range of two decimals is written with its parts; or it is not formatted
abbrev pub WritesRangePartsOf : NumberFormatter → RangeTexts → Decimal → Decimal → PartCounts → Result Unit FdError
    → List ℕ → List ℕ → List FdPart → List FdPart → Type 0
WritesRangePartsOf f t v w counts answer old new old_parts new_parts =
    ((r : ShownRange) × IsRange f t v w r × (counts ≡ counts_of (parted_range (range_pieces r)))
    × WritesParts answer (parted_range (range_pieces r)) old new old_parts new_parts)
    ⊎ WritesNoParts (RangeFails f v w) counts answer old new old_parts new_parts

-- the same of the decimals that two texts are; or one of them is none
abbrev pub WritesRangeParts : NumberFormatter → RangeTexts → PartCounts → Result Unit FdError → List ℕ → List ℕ
    → List ℕ → List ℕ → List FdPart → List FdPart → Type 0
WritesRangeParts f t counts answer start end old new old_parts new_parts =
    ((v w : Decimal) × (read_decimal start ≡ Ok v) × (read_decimal end ≡ Ok w)
    × WritesRangePartsOf f t v w counts answer old new old_parts new_parts)
    ⊎ WritesNoParts (λ error. EndsFail error start end) counts answer old new old_parts new_parts

-- the same by the formatter that C keeps; or there is none
abbrev pub FormatsRangeParts : FdParted → FdFormatter → List ℕ → List ℕ → List ℕ → List ℕ → List FdPart → List FdPart
    → Type 0
FormatsRangeParts r c start end old new old_parts new_parts =
    (counts : PartCounts) × (answer : Result Unit FdError) × (r ≡ fd_parted counts answer)
    × (((f : NumberFormatter) × (t : RangeTexts) × IsRangeFormatterIn c f t
    × WritesRangeParts f t counts answer start end old new old_parts new_parts)
    ⊎ WritesNoParts (λ error. (error ≡ Formatter) × IsNoRangeFormatter c) counts answer old new old_parts new_parts)
