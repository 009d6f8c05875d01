-- Texts of digits.
use Rattle.std.proofs.{Common.{◌≡◌, ◌≢◌, ℕ, suc, ◌+◌, ◌-◌, ◌<◌, Bool, true, false, inl, inr, List, [], ◌∷◌, ◌++◌, length, refl, sym, ◌∙◌, ap, arith, append_assoc, length-append}, lemmas.{Bool.cases_eq, List.append_cancel_left}}
use Rattle.std.specs.Int.Digits.{AllBelowBase}
use Rattle.decimal_format.specs.{Symbols.{Symbols, digit_text}, Readable.IsReadable, Reading.{digits_text, fraction_text}, Scanning.{separator_if, EndsInteger}}
use Rattle.decimal_format.proofs.lemmas.reader.Codes.{same_digit, digit_not_decimal, digit_not_grouping, decimal_not_grouping, none_not_grouping, none_not_digit}

pub digits_text-nil : (s : Symbols) (f : ℕ → Bool) → digits_text s f [] ≡ []
unfolding digits_text
digits_text-nil s f = refl

-- the text of digits and one that follows
pub digits_text-first : (s : Symbols) (f : ℕ → Bool) (d : ℕ) (ds tail : List ℕ) → digits_text s f (d ∷ ds) ++ tail
    ≡ digit_text s d ++ (separator_if s (f (length ds)) ++ (digits_text s f ds ++ tail))
unfolding digits_text
digits_text-first s f d ds tail = simp append_assoc

-- only the tests of the magnitudes below the number of digits matter
pub digits_text-cong : (s : Symbols) (f g : ℕ → Bool) (ds : List ℕ) → ((m : ℕ) → m < length ds → f m ≡ g m)
    → digits_text s f ds ≡ digits_text s g ds
unfolding digits_text
digits_text-cong s f g [] same = refl
digits_text-cong s f g (d ∷ ds) same = grind (arith, digits_text-cong s f g ds)

-- the digits of two lists follow each other, those of the first at higher magnitudes
pub digits_text-append : (s : Symbols) (f : ℕ → Bool) (ds es : List ℕ)
    → digits_text s f (ds ++ es) ≡ digits_text s (λ m. f (m + length es)) ds ++ digits_text s f es
unfolding digits_text
digits_text-append s f [] es = refl
digits_text-append s f (d ∷ ds) es =
    (λ i. digit_text s d ++ (separator_if s (f (length-append ds es i)) ++ digits_text-append s f ds es i))
    ∙ sym (digits_text-first s (λ m. f (m + length es)) d ds (digits_text s f es))

-- digits of which only the last one may have a separator after it
pub digits_text-run : (s : Symbols) (f : ℕ → Bool) (run tail : List ℕ) → 0 < length run
    → ((m : ℕ) → 0 < m → m < length run → f m ≡ false)
    → digits_text s f run ++ tail ≡ digits_text s (λ _. false) run ++ (separator_if s (f 0) ++ tail)
unfolding digits_text
digits_text-run s f [] tail some none = absurd (omega (arith, some))
digits_text-run s f (d ∷ []) tail some none =
    digits_text-first s f d [] tail ∙ sym (digits_text-first s (λ _. false) d [] (separator_if s (f 0) ++ tail))
digits_text-run s f (d ∷ (x ∷ run)) tail some none =
    digits_text-first s f d (x ∷ run) tail
    ∙ (λ i. digit_text s d ++ (separator_if s (none (length (x ∷ run)) (omega arith) (omega arith) i)
    ++ digits_text-run s f (x ∷ run) tail (omega arith) (λ m low high. none m low (omega arith)) i))
    ∙ sym (digits_text-first s (λ _. false) d (x ∷ run) (separator_if s (f 0) ++ tail))

-- what follows n digits with the separators f, in a text that is also one of `all` digits with the separators g: it
-- begins with a digit only if n is `all`, and with a separator of g only if f has it too
pub record EndsDigits (s : Symbols) (f g : ℕ → Bool) (n all : ℕ) (t : List ℕ) : Type 0 where
  pub digit : (d : ℕ) (rest : List ℕ) → d < 10 → t ≡ digit_text s d ++ rest → n ≡ all
  pub separator : (rest : List ℕ) → t ≡ s.grouping ++ rest → g (all - n) ≡ true → f 0 ≡ true

ends_less : {s : Symbols} {f g : ℕ → Bool} {n all : ℕ} {t : List ℕ} → EndsDigits s f g (suc n) (suc all) t
    → EndsDigits s f g n all t
ends_less {g = g} {n = n} {all = all} ends = grind arith

pub ends_integer : {s : Symbols} {f g : ℕ → Bool} {n all : ℕ} {t : List ℕ} → EndsInteger s t
    → EndsDigits s f g n all t
ends_integer ends = grind arith

module _ (s : Symbols) (readable : IsReadable s) where
  -- nothing but integer digits begins with a digit or with a grouping separator
  pub nil_ends : EndsInteger s []
  nil_ends = grind (arith, none_not_digit, none_not_grouping)

  pub fraction_ends : (ds : List ℕ) → EndsInteger s (fraction_text s ds)
  fraction_ends ds = grind (arith, digit_not_decimal, decimal_not_grouping, nil_ends)

  -- digits begin with no grouping separator, if what follows them does not
  pub digits_not_grouping : (f : ℕ → Bool) (ds tail rest : List ℕ) → AllBelowBase 10 ds
      → (length ds ≡ 0 → tail ≢ s.grouping ++ rest) → digits_text s f ds ++ tail ≢ s.grouping ++ rest
  unfolding digits_text
  digits_not_grouping f [] tail rest all ends e = ends refl e
  digits_not_grouping f (d ∷ ds) tail rest all ends e = grind (arith, digit_not_grouping, digits_text-first)

  separator_there : (f g : ℕ → Bool) (ds t rest : List ℕ) (all : ℕ) → AllBelowBase 10 ds
      → EndsDigits s f g (suc (length ds)) (suc all) t → g all ≡ true → digits_text s f ds ++ t ≡ s.grouping ++ rest
      → f (length ds) ≡ true
  unfolding digits_text
  separator_there f g ds t rest all p ends there e = grind (arith, digits_not_grouping, ends.separator)

  -- a separator is there exactly if it is read
  same_separator : (b c : Bool) (r t : List ℕ) → (c ≡ true → (rest : List ℕ) → r ≡ s.grouping ++ rest → b ≡ true)
      → (b ≡ true → (rest : List ℕ) → t ≡ s.grouping ++ rest → c ≡ true)
      → separator_if s b ++ r ≡ separator_if s c ++ t → (b ≡ c) × (r ≡ t)
  same_separator b c r t p q e = grind (arith, append_cancel_left, p, q)

  -- a text of digits is read in one way only, wherever its separators are
  pub digits-unique : (f g : ℕ → Bool) (ds es t u : List ℕ) → AllBelowBase 10 ds → AllBelowBase 10 es
      → EndsDigits s f g (length ds) (length es) t → EndsDigits s g f (length es) (length ds) u
      → digits_text s f ds ++ t ≡ digits_text s g es ++ u
      → (ds ≡ es) × (t ≡ u) × ((m : ℕ) → m < length ds → f m ≡ g m)
  unfolding digits_text
  digits-unique f g [] [] t u p q a b e = (refl, e, λ m inside. absurd (omega (arith, inside)))
  digits-unique f g [] (y ∷ es) t u p q a b e =
      absurd (omega (arith, a.digit y _ q.0 (e ∙ digits_text-first s g y es u)))
  digits-unique f g (x ∷ ds) [] t u p q a b e =
      absurd (omega (arith, b.digit x _ p.0 (sym e ∙ digits_text-first s f x ds t)))
  digits-unique f g (x ∷ ds) (y ∷ es) t u p q a b e =
      let first = same_digit s readable x y (separator_if s (f (length ds)) ++ (digits_text s f ds ++ t))
      (separator_if s (g (length es)) ++ (digits_text s g es ++ u)) p.0 q.0
      (sym (digits_text-first s f x ds t) ∙ e ∙ digits_text-first s g y es u) in
      let both = same_separator (f (length ds)) (g (length es)) (digits_text s f ds ++ t) (digits_text s g es ++ u)
      (λ there r. separator_there f g ds t r (length es) p.1 a there)
      (λ there r. separator_there g f es u r (length ds) q.1 b there) first.1 in
      let more = digits-unique f g ds es t u p.1 q.1 (ends_less a) (ends_less b) both.1 in (
        (λ i. first.0 i ∷ more.0 i),
        more.1,
        λ m inside. elim (cases_eq m (length ds)) [
          | inl q ↦ ap f q ∙ both.0 ∙ ap g (sym (q ∙ ap length more.0))
          | inr q ↦ more.2 m (omega (arith, inside, q))
        ],
      )
