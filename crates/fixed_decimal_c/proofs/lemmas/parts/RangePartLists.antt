-- The parts of a range, as they are taken segment by segment.
use Rattle.std.proofs.{Common.{◌≡◌, ℕ, ◌+◌, ◌<◌, ◌≤◌, ◌^◌, List, [], ◌∷◌, ◌++◌, length, map, take, drop, set, get_or, sym, ◌∙◌, ap, arith, append_assoc, length-append}, lemmas.{Grind.flat_map-append, List.{drop_more, length-map, length-take-le, map_more}}, Math.Seq.{get_or-append_seam, set-append_seam}}
use Rattle.number_format.specs.{RangeText.{RangePieces, text_of_pieces}, TextParts.{Piece, Puts, pieces_text}}
use Rattle.number_format.proofs.lemmas.format.PieceTexts.{puts_trans}
use Rattle.fixed_decimal_c.specs.{declared.{parts.{FdPart.FdPart, PartList.PartList}, range_parts.RangeBounds.RangeBounds}, Parts.{no_part, IsPartList}, RangeParts.{all_pieces, bounds_of, Taken}}
use Rattle.fixed_decimal_c.proofs.lemmas.parts.PartLists.{of_all}

text_of_both : (a b : List Piece) → pieces_text (a ++ b) ≡ pieces_text a ++ pieces_text b
text_of_both a b = flat_map-append (λ (p : Piece). p.text) a b

length_of_both : (a b : List Piece)
    → length (pieces_text (a ++ b)) ≡ length (pieces_text a) + length (pieces_text b)
length_of_both a b = ap length (text_of_both a b) ∙ length-append (pieces_text a) (pieces_text b)

-- the text of a range is that of all pieces
pub text_of_all : (p : RangePieces) → pieces_text (all_pieces p) ≡ text_of_pieces p
text_of_all p =
    text_of_both p.prefix _
    ∙ ap (λ t. pieces_text p.prefix ++ t) (text_of_both p.start _
    ∙ ap (λ t. pieces_text p.start ++ t) (text_of_both p.middle _
    ∙ ap (λ t. pieces_text p.middle ++ t) (text_of_both p.end p.suffix)))

module _ (s0 s1 s2 s3 s4 s5 : PartList) (p : RangePieces) (f1 : Puts (Taken s0) (Taken s1) p.prefix)
    (f2 : Puts (Taken s1) (Taken s2) p.start) (f3 : Puts (Taken s2) (Taken s3) p.middle)
    (f4 : Puts (Taken s3) (Taken s4) p.end) (f5 : Puts (Taken s4) (Taken s5) p.suffix) (none : s0.count ≡ 0)
    (first : s0.last ≡ no_part) (bound : length (pieces_text (all_pieces p)) < 2 ^ 64) where
  -- all pieces were taken, in the same array
  pub all_taken : (s5.parts.ghost_name ≡ s0.parts.ghost_name)
      × (length s5.parts.now ≡ length s0.parts.now)
      × IsPartList s5.parts.now s5.count s5.last (all_pieces p)
  all_taken =
      let from_middle = puts_trans _ _ _ p.middle _ f3 (puts_trans _ _ _ p.end p.suffix f4 f5) in
      let all = puts_trans _ _ _ p.prefix _ f1 (puts_trans _ _ _ p.start _ f2 from_middle) in
      of_all _ _ _ _ _ _ _ _ (all_pieces p) all none first bound

  -- the pieces before this state end where the text does so far
  end_at : (s : PartList) (pieces : List Piece) → Puts (Taken s0) (Taken s) pieces
      → length (pieces_text pieces) < 2 ^ 64 → s.last.end ≡ length (pieces_text pieces)
  end_at s pieces puts fits = (of_all _ _ _ _ _ _ _ _ pieces puts none first fits).2.end

  total : length (pieces_text (all_pieces p))
      ≡ length (pieces_text p.prefix) + (length (pieces_text p.start) + (length (pieces_text p.middle)
      + (length (pieces_text p.end) + length (pieces_text p.suffix))))
  total =
      omega (
        arith,
        length_of_both p.prefix (p.start ++ (p.middle ++ (p.end ++ p.suffix))),
        length_of_both p.start (p.middle ++ (p.end ++ p.suffix)),
        length_of_both p.middle (p.end ++ p.suffix),
        length_of_both p.end p.suffix,
      )

  pub bounds : (b : RangeBounds) → b.start ≡ s1.last.end → b.middle ≡ s2.last.end → b.end ≡ s3.last.end
      → b.after ≡ s4.last.end → b ≡ bounds_of p
  bounds b start middle end after =
      let to2 = puts_trans _ _ _ p.prefix p.start f1 f2 in
      let to3 = puts_trans _ _ _ _ p.middle to2 f3 in
      let to4 = puts_trans _ _ _ _ p.end to3 f4 in
      let l2 = length_of_both p.prefix p.start in
      let l3 = length_of_both (p.prefix ++ p.start) p.middle in
      let l4 = length_of_both ((p.prefix ++ p.start) ++ p.middle) p.end in
      let before = length (pieces_text p.prefix) in
      let e1 : b.start ≡ before = start ∙ end_at s1 _ f1 (omega (arith, bound, total)) in
      let e2 : b.middle ≡ before + length (pieces_text p.start) =
      middle ∙ end_at s2 _ to2 (omega (arith, bound, total, l2)) ∙ l2 in
      let e3 : b.end ≡ before + length (pieces_text p.start) + length (pieces_text p.middle) =
      end ∙ end_at s3 _ to3 (omega (arith, bound, total, l2, l3)) ∙ l3 ∙ omega (arith, l2) in
      let e4 : b.after ≡ before + length (pieces_text p.start) + length (pieces_text p.middle)
      + length (pieces_text p.end) =
      after ∙ end_at s4 _ to4 (omega (arith, bound, total, l2, l3, l4)) ∙ l4 ∙ omega (arith, l2, l3) in
      λ i. record { start = e1 i; middle = e2 i; end = e3 i; after = e4 i }

-- ---- Sources.

-- the part at an index is set, after those before it
pub set_at : (f : FdPart → FdPart) (array parts : List FdPart) (i : ℕ) (d new : FdPart) → i < length parts
    → array ≡ map f (take i parts) ++ drop i parts → new ≡ f (get_or array i d)
    → set array i new ≡ map f (take (i + 1) parts) ++ drop (i + 1) parts
set_at f array parts i d new inside is value =
    let before = map f (take i parts) in
    let rest = drop (i + 1) parts in
    let long : length before ≡ i = length-map (take i parts) f ∙ length-take-le i parts (omega (arith, inside)) in
    let from : array ≡ before ++ get_or parts i d ∷ rest = is ∙ ap (λ l. before ++ l) (drop_more parts i d inside) in
    let at : get_or array i d ≡ get_or parts i d =
    ap (λ l. get_or l i d) from ∙ ap (λ n. get_or (before ++ get_or parts i d ∷ rest) n d) (sym long)
    ∙ get_or-append_seam before (get_or parts i d) rest d in
    ap (λ l. set l i new) from ∙ ap (λ n. set (before ++ get_or parts i d ∷ rest) n new) (sym long)
    ∙ set-append_seam before (get_or parts i d) rest new
    ∙ ap (λ x. before ++ x ∷ rest) (value ∙ ap f at)
    ∙ sym (append_assoc before (f (get_or parts i d) ∷ []) rest)
    ∙ ap (λ l. l ++ rest) (sym (map_more f parts i d inside))
