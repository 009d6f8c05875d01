-- The text of the segments of a range.
use Rattle.std.proofs.{Common.{◌≡◌, ◌≢◌, ℕ, ◌+◌, ◌<◌, List, [], ◌∷◌, ◌++◌, length, get_or, take, drop, refl, sym, ◌∙◌, ap, append_assoc, append-nil}, lemmas.List.{get_or_default, Concat.flat_map-cons}}
use Rattle.std.specs.Prelude.{true, flat_map}
use Rattle.number_format.specs.{declared.range.{affixes.WideAffixes.WideAffixes, form.RangeForm.{RangeForm, TheVariants.{Approximate, Common, Apart}}, formatted_range.{FormattedRange.FormattedRange, RangeSegment.{RangeSegment, TheVariants.{Prefix, Start, Middle, End, Suffix}}}}, FormattedNumbers.{around_of, number_text, outer_of}, FormattedRanges.{formatted_range_text, inner_range_pieces, numbers_text, one_text, segment_text, shown_range, AreApproximate}, PatternTexts.{Around, around, within}, RangeText.{RangePieces, approximate_around, end_number, inner_pieces, pieces_if, separator_pieces, text_of_pieces, with_outer}, TextParts.{parts_text, pieces_text}}
use Rattle.number_format.proofs.lemmas.format.{FlatMaps.{flat_map-more, flat_map-split}, PieceTexts.{text-append, text-of_inner, text-of_number, text-of_parts, text-three}}

abbrev segments : List RangeSegment
segments = Prefix ∷ (Start ∷ (Middle ∷ (End ∷ (Suffix ∷ []))))

module _ (t : FormattedRange) where
  pub text-of_segments : flat_map (segment_text t) segments ≡ formatted_range_text t
  text-of_segments =
      let text = segment_text t in
      flat_map-cons text Prefix (Start ∷ (Middle ∷ (End ∷ (Suffix ∷ []))))
      ∙ ap (λ l. text Prefix ++ l) (flat_map-cons text Start (Middle ∷ (End ∷ (Suffix ∷ [])))
      ∙ ap (λ l. text Start ++ l) (flat_map-cons text Middle (End ∷ (Suffix ∷ []))
      ∙ ap (λ l. text Middle ++ l) (flat_map-cons text End (Suffix ∷ [])
      ∙ ap (λ l. text End ++ l) (flat_map-cons text Suffix [] ∙ append-nil (text Suffix)))))

  module _ (i : ℕ) (h : i < length segments) where
    abbrev segment : RangeSegment
    segment = get_or segments i Prefix

    -- one segment more
    pub text-more :
        flat_map (segment_text t) (take (i + 1) segments)
        ≡ flat_map (segment_text t) (take i segments) ++ segment_text t segment
    text-more = flat_map-more (segment_text t) segments i segment h (get_or_default segments i Prefix segment h)

    -- the segments before one, that one, and those after it
    pub text-split :
        flat_map (segment_text t) (take i segments)
        ++ (segment_text t segment ++ flat_map (segment_text t) (drop (i + 1) segments))
        ≡ formatted_range_text t
    text-split =
        flat_map-split (segment_text t) segments i segment h (get_or_default segments i Prefix segment h)
        ∙ text-of_segments

regroup : (a b s m e x c : List ℕ)
    → (a ++ b) ++ (s ++ (m ++ (e ++ (x ++ c)))) ≡ a ++ (b ++ ((s ++ (m ++ e)) ++ (x ++ c)))
regroup a b s m e x c = simp append_assoc

module _ (t : FormattedRange) where
  abbrev inner : RangeSegment → List ℕ
  inner segment = pieces_text (inner_range_pieces t segment)

  -- the text with a number within what is around the whole text
  pub text-of_outer_range : (u : Around) → outer_of t.start ≡ u → u.has_number ≡ true
      → inner Prefix ++ (pieces_text u.prefix ++ (numbers_text t ++ (inner Suffix ++ pieces_text u.suffix)))
      ≡ formatted_range_text t
  text-of_outer_range u is h =
      let p = inner_pieces t.form (shown_range t) in
      sym (ap (λ o. text_of_pieces (with_outer o p)) is
      ∙ (λ i. text-append p.prefix u.prefix i
      ++ (pieces_text (pieces_if (h i) p.start)
      ++ (pieces_text (pieces_if (h i) p.middle)
      ++ (pieces_text (pieces_if (h i) p.end) ++ pieces_text (pieces_if (h i) p.suffix ++ u.suffix)))))
      ∙ (λ i. (inner Prefix ++ pieces_text u.prefix)
      ++ (inner Start ++ (inner Middle ++ (inner End ++ text-append p.suffix u.suffix i))))
      ∙ regroup (inner Prefix) (pieces_text u.prefix) (inner Start) (inner Middle) (inner End) (inner Suffix)
      (pieces_text u.suffix))

  -- without anything around it
  pub text-of_bare_range : outer_of t.start ≡ around [] true []
      → inner Prefix ++ (numbers_text t ++ inner Suffix) ≡ formatted_range_text t
  text-of_bare_range is =
      (λ i. inner Prefix ++ (numbers_text t ++ sym (append-nil (inner Suffix)) i))
      ∙ text-of_outer_range (around [] true []) is refl

abbrev numbers_in : RangePieces → List ℕ
numbers_in p = pieces_text p.start ++ (pieces_text p.middle ++ pieces_text p.end)

module _ (t : FormattedRange) where
  abbrev separator : List ℕ
  separator = pieces_text (separator_pieces t.format.separator t.spaced)

  two_by : (form : RangeForm) → form ≢ Approximate → (around_of t.start).has_number ≡ true
      → one_text form t.start ++ (separator ++ one_text form t.end) ≡ numbers_in (inner_pieces form (shown_range t))
  two_by Approximate two h = absurd (two refl)
  two_by Common two h =
      let r = shown_range t in
      sym ((λ i. pieces_text (pieces_if (h i) (end_number r.start))
      ++ (pieces_text (pieces_if (h i) (separator_pieces t.format.separator t.spaced))
      ++ pieces_text (pieces_if (h i) (end_number r.end))))
      ∙ (λ i. text-of_number t.start i ++ (separator ++ text-of_number t.end i)))
  two_by Apart two h = sym (λ i. text-of_inner t.start i ++ (separator ++ text-of_inner t.end i))

  -- the text of two numbers
  pub text-of_two_numbers : t.form ≢ Approximate → (around_of t.start).has_number ≡ true
      → one_text t.form t.start ++ (separator ++ one_text t.form t.end) ≡ numbers_text t
  text-of_two_numbers = two_by t.form

  -- and of an approximate number
  pub text-of_approximate : (shown : WideAffixes) → AreApproximate t shown → t.form ≡ Approximate
      → shown.has_number ≡ true
      → parts_text shown.prefix ++ (number_text t.start ++ parts_text shown.suffix) ≡ numbers_text t
  text-of_approximate shown parts is h =
      let r = shown_range t in
      let a = approximate_around r.start.formatter.style t.format.approximately r.start.sign r.start.pattern in
      let n = end_number r.start in
      sym (ap (λ form. numbers_in (inner_pieces form r)) is ∙ append-nil (pieces_text (within a n))
      ∙ text-three a.prefix (pieces_if a.has_number n) a.suffix (parts_text shown.prefix) (number_text t.start)
      (parts_text shown.suffix) (ap pieces_text (sym parts.prefix) ∙ text-of_parts shown.prefix)
      (ap (λ b. pieces_text (pieces_if b n)) (sym parts.has_number ∙ h) ∙ text-of_number t.start)
      (ap pieces_text (sym parts.suffix) ∙ text-of_parts shown.suffix))
